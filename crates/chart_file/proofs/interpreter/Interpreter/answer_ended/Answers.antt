use Rattle.std.proofs.Common.{rules}
use Rattle.sink.proofs.Writes.{wrote_none}
use Rattle.chart_file.proofs.interpreter.Interpreter.answer_ended.Goals as goal

pub returns-in_default : goal.returns-in_default
returns-in_default c = simp c.in_default.is (search (rules, wrote_none))
