-- The number that a capacity is. Assumes nothing.
use Rattle.std.specs.Prelude.{ℕ}
use Rattle.layouts.specs.declared.capacity.Capacity.{Capacity}

abbrev pub size : Capacity → ℕ
size c = c.value
