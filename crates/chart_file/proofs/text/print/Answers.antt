use Rattle.std.proofs.Common.{[], decimal}
use Rattle.std.proofs.lemmas.List.{take_more, take_all, flat_map_more}
use Rattle.sink.proofs.Writes.{wrote_then_none, wrote-append}
use Rattle.chart_file.specs.Text.{parted}
use Rattle.chart_file.proofs.Printing.{joined-map, length-printed}
use Rattle.chart_file.proofs.text.print.Goals as goal

pub loop-n-init : goal.loop-n-init
loop-n-init c = wrote_then_none c.text.ensures

pub loop-n-preserved : goal.loop-n-preserved
loop-n-preserved c =
    let more = take_more c.args.numbers.now c.loop-n.n-index 0 c.loop-n-test.true in
    simp (more, ← flat_map_more (λ n. parted (decimal n)) []) (wrote-append c.loop-n.invariant (wrote-append c.byte.ensures c.number.ensures))

pub returns : goal.returns
returns c =
    let all = take_all c.loop-n.n-index c.args.numbers.now c.loop-n-test.false in
    let same = joined-map parted decimal c.args.numbers.now in
    record {
      wrote = simp same (wrote-append c.text.ensures (wrote-append (simp all at c.loop-n.invariant) c.byte-2.ensures));
      bound = length-printed c.args.word.now c.args.numbers.now (λ i. (c.type_inv.numbers i).fits);
    }
