use Rattle.std.proofs.Common.{arith, rules}
use Rattle.std.proofs.lemmas.List.{take_all, drop_all}
use Rattle.sink.proofs.Laid.{laid_past, laid_after}
use Rattle.sink.proofs.put.Goals as goal

pub returns-then-at-out : goal.returns-then-at-out
returns-then-at-out c = grind (arith, take_all, drop_all, laid_after)

pub returns-else-at-out : goal.returns-else-at-out
returns-else-at-out c = search (rules, laid_past)
