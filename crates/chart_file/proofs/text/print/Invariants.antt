use Rattle.std.proofs.Common.{take, decimal}
use Rattle.std.specs.List.{flat_map}
use Rattle.sink.specs.Output.{Wrote}
use Rattle.chart_file.specs.Text.{parted}
use Rattle.chart_file.proofs.text.print.Given as goal

abbrev pub invariant-loop-n : goal.invariant-loop-n
invariant-loop-n l = Wrote l.initial.sink l.sink (flat_map (λ n. parted (decimal n)) (take l.n-index l.numbers))
