-- Why a line is refused: the field and the number that are printed. Assumes nothing.
use Rattle.std.specs.Prelude.{ℕ}
use Rattle.errors.specs.Refusals as graph
use Rattle.commands.specs.declared.refusal.Refusal.{Refusal}
use Rattle.commands.specs.declared.refusal.Refusal.TheVariants.{LineLong, BadLetter, FieldCount, BadNumber, BadKind, Graph}

-- fields count from 1; field 0 means that the graph refused
abbrev pub field : Refusal → ℕ
field LineLong = 1
field BadLetter = 1
field (FieldCount at) = at
field (BadNumber at) = at
field BadKind = 1
field (Graph e) = 0

abbrev pub number : Refusal → ℕ
number LineLong = 21
number BadLetter = 22
number (FieldCount at) = 23
number (BadNumber at) = 24
number BadKind = 25
number (Graph e) = graph.number e
