-- The ids of a graph: which are live, which was vacated last. Assumes nothing.
use Rattle.std.specs.Prelude.{ℕ, zero, suc, ◌-◌, Bool, true, false, not, ◌&&◌, ◌||◌, List, [], ◌∷◌, length, ◌==◌, nat_lt, slice_index}

-- every id below the bound is live but for those on the stack of vacated ids, the last one first
pub record Ids : Type 0 where
  pub bound : ℕ
  pub stack : List ℕ

-- no id is live, and none is stacked
abbrev pub none : Ids
none = record { bound = 0; stack = [] }

abbrev pub has : ℕ → List ℕ → Bool
has k [] = false
has k (j ∷ js) = k == j || has k js

abbrev pub live : Ids → ℕ → Bool
live s k = nat_lt k s.bound && not (has k s.stack)

-- how many ids are live
abbrev pub count : Ids → ℕ
count s = s.bound - length s.stack

-- each stacked id is below the bound, and is stacked once
abbrev pub sound : ℕ → List ℕ → Bool
sound bound [] = true
sound bound (k ∷ ks) = nat_lt k bound && (not (has k ks) && sound bound ks)

-- the stack that the first n entries of an array hold, the last one on top
abbrev pub stacked : ℕ → List ℕ → List ℕ
stacked zero xs = []
stacked (suc n) xs = slice_index xs n ∷ stacked n xs

abbrev pub ids_of : ℕ → ℕ → List ℕ → Ids
ids_of bound n xs = record { bound = bound; stack = stacked n xs }
