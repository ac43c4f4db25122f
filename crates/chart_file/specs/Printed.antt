-- Text that is written, and how long it may be. Assumes nothing.
use Rattle.std.specs.Prelude.{ℕ, ◌≤◌, List, length}
use Rattle.sink.specs.declared.Sink.{Sink}
use Rattle.sink.specs.Output.{Wrote}

-- the text is written, and has at most n bytes
pub record WroteAtMost (n : ℕ) (before after : Sink) (text : List ℕ) : Type 0 where
  pub wrote : Wrote before after text
  pub bound : length text ≤ n
