-- What the test of a row's start says, so that a wrong test is refused where it stands.
use Rattle.std.proofs.Common.{◌≡◌, leb}
use Rattle.layouts.proofs.undirected.fn.row_of.partition_point.Given as goal

abbrev pub ensures : goal.ensures
ensures l r = r ≡ leb l.start l.position
