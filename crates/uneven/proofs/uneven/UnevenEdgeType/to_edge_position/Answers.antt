use Rattle.std.proofs.Common.{arith}
use Rattle.std.proofs.lemmas.Bool.Decides.{nat_tests}
use Rattle.uneven.specs.UnevenLemmas.{alone}
use Rattle.uneven.proofs.uneven.UnevenEdgeType.to_edge_position.Goals as goal

pub returns-clause-alone : goal.returns-clause-alone
returns-clause-alone c = λ a b k e f. alone c.args.capacity.value c.args.row c.args.column a b k (grind (arith, nat_tests)) f
