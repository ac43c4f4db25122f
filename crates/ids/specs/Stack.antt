-- What the stack of vacated ids holds. Assumes nothing.
use Rattle.std.specs.Prelude.{ℕ, List}
use Rattle.ids.specs.Ids.{stacked}
use Rattle.ids.specs.declared.stack.Stack.{Stack}

-- the last one first
abbrev pub stack : Stack → List ℕ
stack s = stacked s.len s.ids
