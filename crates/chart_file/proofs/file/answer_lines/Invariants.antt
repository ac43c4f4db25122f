use Rattle.std.proofs.Common.{drop}
use Rattle.lines.specs.Lines.{lines}
use Rattle.chart_file.specs.Chart.{fresh}
use Rattle.chart_file.specs.Output.{replies}
use Rattle.chart_file.proofs.Running.{Answering}
use Rattle.chart_file.proofs.file.answer_lines.Given as goal

abbrev pub invariant-loop-b : goal.invariant-loop-b
invariant-loop-b l = Answering l.initial.sink l.sink (replies 2 (lines l.input) fresh) l.interpreter.line l.reader.reading (drop l.b-index l.input) l.interpreter.chart l.b-index
