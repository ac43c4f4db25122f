use Rattle.std.proofs.Common.{◌-◌, ◌<◌, ◌≤◌}
use Rattle.rows.specs.Rows.{moves_by}
use Rattle.rows.proofs.growth.Growth.run_start.Given as goal

abbrev pub invariant-loop-low : goal.invariant-loop-low
invariant-loop-low g l = record {
  in_order : l.low ≤ l.high;
  within : l.high ≤ l.position;
  here : l.distance ≤ moves_by g.L.EdgeType l.self.from.value l.self.to.value l.high;
  before : 0 < l.low → moves_by g.L.EdgeType l.self.from.value l.self.to.value (l.low - 1) < l.distance;
}

abbrev pub decreases-loop-low : goal.decreases-loop-low
decreases-loop-low g l = l.high - l.low
