use Rattle.std.proofs.Common.{◌≡◌, None, sym, rules}
use Rattle.ids.specs.Calls.{weight}
use Rattle.sink.proofs.Writes.{wrote_none}
use Rattle.chart_file.proofs.chart.Chart.list_node.Goals as goal

pub returns-in_default : goal.returns-in_default
returns-in_default c =
    let none : weight c.args.self.now.ids c.args.self.now.labels c.args.id ≡ None = sym c.in_default.ensures in
    simp none (search (rules, wrote_none))
