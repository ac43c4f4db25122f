-- Output laid into a lent buffer as far as it reaches, with a count of all of it. Assumes nothing.
use Rattle.std.specs.Prelude.{◌≡◌, ℕ, suc, ◌+◌, ◌-◌, ◌^◌, ◌<◌, min, List, [], ◌∷◌, length, slice_set}
use Rattle.sink.specs.declared.Sink.{Sink}

-- the buffer after text is laid in from a place on; what does not fit is left out
unfoldable pub laid : List ℕ → ℕ → List ℕ → List ℕ
laid out at [] = out
laid out at (b ∷ bs) = laid (slice_set out at b) (suc at) bs

-- the largest count
abbrev pub most : ℕ
most = 2 ^ 64 - 1

-- after is before with text written: the count grows by the text's length as far as it can, and it is the same lent buffer
pub record Wrote (before after : Sink) (text : List ℕ) : Type 0 where
  pub count : after.len ≡ before.len + min (length text) (most - before.len)
  pub buffer : after.out.now ≡ laid before.out.now before.len text
  pub same : after.out.ghost_name ≡ before.out.ghost_name
  pub room : length before.out.now < 2 ^ 64
