use Rattle.chart_file.proofs.Laws.{file_laws}
use Rattle.chart_file.proofs.file.run.Goals as goal

pub returns : goal.returns
returns c = record { answer = c.answer_file.ensures.answer; buffer = c.answer_file.ensures.buffer; laws = file_laws }
