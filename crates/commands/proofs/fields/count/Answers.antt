use Rattle.std.proofs.Common.{◌≤◌, length, arith}
use Rattle.std.proofs.lemmas.List.{take_all}
use Rattle.commands.proofs.Parting.{fields_count}
use Rattle.commands.proofs.fields.count.Goals as goal

pub returns : goal.returns
returns c =
    let bs = c.args.bytes.now in
    let all : length bs ≤ c.loop-b.b-index = omega (arith, c.loop-b-test.false) in
    rw (c.loop-b.invariant.1, take_all c.loop-b.b-index bs all, fields_count bs)
