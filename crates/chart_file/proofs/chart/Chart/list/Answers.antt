use Rattle.std.proofs.Common.{ap, ◌∙◌, arith}
use Rattle.ids.specs.Ids.{count}
use Rattle.chart_file.proofs.Running.{wrote_both}
use Rattle.chart_file.proofs.chart.Chart.list.Goals as goal

pub returns : goal.returns
returns c =
    let count_is = c.len.ensures.value ∙ ap (λ s. count s.ids) c.self.view_is in
    wrote_both (omega arith) c.list_nodes.ensures (rw count_is at c.print.ensures)
