use Rattle.std.proofs.Common.{arith}
use Rattle.layouts.proofs.Doubling.{least}
use Rattle.layouts.proofs.directed.least_power.Goals as goal

pub returns : goal.returns
returns c = grind (arith, least)
