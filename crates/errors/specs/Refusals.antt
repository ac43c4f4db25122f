-- The refusals of graph calls. Assumes nothing.
use Rattle.std.specs.Prelude.{ℕ}
use Rattle.errors.specs.declared.MatrixError.{MatrixError}
use Rattle.errors.specs.declared.MatrixError.TheVariants.{ShortMemory, NodeIxLimit, NoSpace, NodeMissed}

-- the number that each refusal is known by; NoSpace tells the count needed, NodeMissed the id
abbrev pub number : MatrixError → ℕ
number ShortMemory = 1
number NodeIxLimit = 2
number (NoSpace wanted) = 3
number (NodeMissed id) = 4
