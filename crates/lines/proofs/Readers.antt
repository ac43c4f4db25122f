-- Readers in the same state are the same: that there is room is one fact, whoever says it.
use Rattle.std.proofs.Common.{◌≡◌, ap, subst}
use Rattle.std.specs.Coded.{le_prop}
use Rattle.lines.specs.Lines.{Held, Reading, Room}

abbrev held : (r : Reading) → Room r → Held
held r x = record { reading = r; room = x }

pub same_readers : (a b : Held) → a.reading ≡ b.reading → a ≡ b
same_readers a b e = subst (λ r. (y : Room r) → a ≡ held r y) e (λ y. ap (held a.reading) (le_prop a.room y)) b.room
