use Rattle.std.proofs.Common.{[], arith, rules}
use Rattle.std.specs.List.{range_with_len}
use Rattle.std.proofs.lemmas.List.{flat_map_more}
use Rattle.sink.proofs.Writes.{wrote_none}
use Rattle.chart_file.specs.Chart.{node_text}
use Rattle.chart_file.proofs.Running.{counting_more, wrote_both}
use Rattle.chart_file.proofs.chart.Chart.list_nodes.Goals as goal

pub loop-id-init : goal.loop-id-init
loop-id-init c = record { wrote = search (rules, wrote_none); bound = omega arith }

pub loop-id-preserved : goal.loop-id-preserved
loop-id-preserved c =
    let i = c.loop-id.id in
    let step = flat_map_more (node_text c.args.self.now) [] (range_with_len 0 i) i in
    simp (counting_more i, ← step) (wrote_both (omega arith) c.loop-id.invariant c.list_node.ensures)
