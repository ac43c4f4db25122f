use Rattle.std.proofs.Common.{arith}
use Rattle.layouts.specs.Starts.{starts_at}
use Rattle.layouts.proofs.row_starts.row_start.Goals as goal

pub returns : goal.returns
returns c = grind (arith, starts_at 257 0 c.args.row 0)
