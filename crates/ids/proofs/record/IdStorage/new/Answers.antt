use Rattle.std.proofs.Common.{false, arith}
use Rattle.std.proofs.lemmas.Bool.Decides.{nat_tests}
use Rattle.std.proofs.lemmas.List.{get_or-replicate}
use Rattle.ids.proofs.record.IdStorage.new.Goals as goal

pub invariant_of-result-clause-table : goal.invariant_of-result-clause-table
invariant_of-result-clause-table c k h = rw (get_or-replicate 256 k false false h) (grind (arith, nat_tests))
