use Rattle.std.proofs.Common.{◌*◌}
use Rattle.std.specs.List.{range_with_len, flat_map}
use Rattle.chart_file.specs.Chart.{node_text}
use Rattle.chart_file.specs.Printed.{WroteAtMost}
use Rattle.chart_file.proofs.chart.Chart.list_nodes.Given as goal

abbrev pub invariant-loop-id : goal.invariant-loop-id
invariant-loop-id l = WroteAtMost (64 * l.id) l.initial.sink l.sink (flat_map (node_text l.self) (range_with_len 0 l.id))
