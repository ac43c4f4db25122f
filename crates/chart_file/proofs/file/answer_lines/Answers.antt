use Rattle.std.proofs.Common.{◌+◌, ◌^◌, ◌<◌, length, get_or, drop, ap, ◌∙◌, subst, arith, rules}
use Rattle.std.proofs.lemmas.List.{drop_more, drop_all}
use Rattle.lines.specs.Lines.{completed}
use Rattle.chart_file.specs.Chart.{listing}
use Rattle.chart_file.specs.Printed.{WroteAtMost}
use Rattle.chart_file.specs.Turns.{next_state}
use Rattle.chart_file.proofs.Running.{answering_none, answering_more, answering_all}
use Rattle.chart_file.proofs.file.answer_lines.Goals as goal

pub loop-b-init : goal.loop-b-init
loop-b-init c =
    let room : length c.args.sink.now.out.now < 2 ^ 64 = search rules in
    let start = answering_none c.args.sink.now c.new-reader.result.reading c.args.input.now room (c.new-reader.ensures.gives.all c.args.input.now) in
    rw (c.new-interpreter.ensures.line, c.new-interpreter.ensures.chart) start

pub loop-b-preserved : goal.loop-b-preserved
loop-b-preserved c =
    let xs = c.args.input.now in
    let i = c.loop-b.b-index in
    let before = rw (drop_more xs i 0 c.loop-b-test.true) at c.loop-b.invariant in
    let done = c.completed.ensures.line ∙ ap completed c.step.ensures.after in
    let more = answering_more c.loop-b.interpreter.line c.loop-b.reader.reading (get_or xs i 0) (drop (i + 1) xs) c.loop-b.interpreter.chart i before (rw done at c.answer_ended.ensures.text) in
    simp (c.answer_ended.ensures.line, c.answer_ended.ensures.chart, c.step.ensures.after, done) more

pub returns : goal.returns
returns c =
    let before = rw (drop_all c.loop-b.b-index c.args.input.now c.loop-b-test.false) at c.loop-b.invariant in
    let done = c.finished.ensures.line in
    let after = c.answer_ended-2.ensures.chart ∙ ap (λ o. next_state o c.loop-b.interpreter.chart) done in
    let listed = subst (λ s. WroteAtMost 16384 c.answer_ended-2.new.sink c.list.new.sink (listing s)) after c.list.ensures in
    answering_all c.loop-b.interpreter.line c.loop-b.reader.reading c.loop-b.interpreter.chart c.loop-b.b-index before (omega (arith, c.requires)) (rw done at c.answer_ended-2.ensures.text) listed
