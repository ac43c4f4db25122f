use Rattle.std.proofs.Common.{rules}
use Rattle.numbers.proofs.Meaning.{answered}
use Rattle.numbers.proofs.read_number.Goals as goal

pub returns : goal.returns
returns c =
    let (v, m) = answered c.ranges.low c.ranges.high c.args.field.now c.and_then.result (search rules) in
    record { value = v; means = m }
