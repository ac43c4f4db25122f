-- Row x and column y, where a row has w columns, are at x * w + y.
use Rattle.std.specs.Prelude.{ℕ, ◌+◌, ◌*◌, ◌<◌, ◌≤◌}
use Rattle.std.proofs.Common.{arith}
use Rattle.std.proofs.lemmas.Nat.{row_fits}

-- the order of two places stays where rows are wider
pub wider : (w v x y u z : ℕ) → w ≤ v → y < w → z < w → x * w + y < u * w + z → x * v + y < u * v + z
wider w v x y u z h hy hz l = grind (arith, row_fits x v u v, row_fits u w x w)
