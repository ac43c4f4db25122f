-- What a reader lends. Assumes nothing.
use Rattle.std.specs.Borrow.{Bor}
use Rattle.std.specs.Prelude.{ℕ, List, Some, None, Option, Result, Ok, Err}
use Rattle.lines.specs.declared.reader.TooLong.{TooLong}
use Rattle.lines.specs.Lines.{Ending, long, whole}

-- a line that has ended, where f has the bytes of a whole one
abbrev pub ending_by : {X : Type 0} → (X → List ℕ) → Result X TooLong → Ending
ending_by f (Ok l) = whole (f l)
ending_by f (Err e) = long

-- the line that is lent, if any
abbrev pub lent : Option (Result (Bor (List ℕ)) TooLong) → Option Ending
lent None = None
lent (Some e) = Some (ending_by (λ x. x.now) e)
