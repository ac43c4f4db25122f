use Rattle.std.proofs.Common.{◌≡◌}
use Rattle.rows.specs.Rows.{grown, grown_below}
use Rattle.rows.specs.Runs.{Parted}
use Rattle.rows.proofs.growth.grow.Given as goal

abbrev pub invariant-loop-run : goal.invariant-loop-run
invariant-loop-run g l = record {
  parted : Parted g.L.EdgeType l.growth.from.value l.growth.to.value l.end l.top;
  cells : grown_below g.C.Nullable g.L.EdgeType l.growth.from.value l.growth.to.value l.top l.cells
      ≡ grown g.C.Nullable g.L.EdgeType l.growth.from.value l.growth.to.value l.initial.cells;
}

abbrev pub decreases-loop-run : goal.decreases-loop-run
decreases-loop-run g l = l.end
