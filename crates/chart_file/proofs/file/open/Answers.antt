use Rattle.std.proofs.Common.{ap, ◌∙◌, arith}
use Rattle.std.specs.Slice.Iter.{iter_rest}
use Rattle.std.proofs.lemmas.Grind.{common_steps}
use Rattle.lines.specs.Lines.{completed}
use Rattle.chart_file.proofs.Running.{opened_at}
use Rattle.chart_file.proofs.file.open.Goals as goal

pub returns-in-Some-completed : goal.returns-in-Some-completed
returns-in-Some-completed c =
    let all = rw c.in-Some.ensures.steps at c.loop-b.invariant.0 in
    let done = c.in-Some-completed.ensures.line ∙ ap completed c.step.ensures.after in
    let opens = opened_at c.loop-b.reader.reading c.in-Some.b.now (iter_rest c.next.new.self) c.args.input.now _ all done in
    grind (arith, common_steps)
