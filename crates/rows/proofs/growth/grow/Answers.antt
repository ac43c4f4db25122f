use Rattle.std.proofs.Common.{◌∙◌, rules}
use Rattle.rows.specs.Runs.{Grows}
use Rattle.rows.proofs.Lifted.{filled}
use Rattle.rows.proofs.Moves.{moves}
use Rattle.rows.proofs.Runs.{forward, parted_run, run_moved, settled}
use Rattle.rows.proofs.growth.grow.Goals as goal

pub loop-run-preserved : goal.loop-run-preserved
loop-run-preserved g c =
    let laws = g.met.L.EdgeType in
    let grows : Grows g.L.EdgeType c.args.capacity.value c.grown_capacity.result.value = search rules in
    let m = moves laws.every_pair laws.placing laws.growing grows g.C.Nullable in
    let now = c.loop-run in
    let run = c.in-Some.run' in
    let is = c.in-Some.ensures.some in
    let moved = run_moved m now.invariant.parted is.1 now.cells (search rules) in
    record { parted = parted_run m now.invariant.parted is.1; cells = rw (c.lift.ensures, is.0) (moved ∙ now.invariant.cells) }

pub returns-clause-cells : goal.returns-clause-cells
returns-clause-cells g c =
    let laws = g.met.L.EdgeType in
    let grows : Grows g.L.EdgeType c.args.capacity.value c.grown_capacity.result.value = search rules in
    let m = moves laws.every_pair laws.placing laws.growing grows g.C.Nullable in
    let now = c.loop-run in
    let room = now.invariant.parted.room in
    let is_filled = filled g.C.Nullable now.end now.top now.cells (forward m now.invariant.parted) (search rules) c.fill.new.part c.fill.ensures in
    let is_settled = settled m now.cells (search rules) now.invariant.parted c.in_default.ensures.none in
    rw (← c.grown_capacity.ensures) (is_filled ∙ is_settled ∙ now.invariant.cells)
