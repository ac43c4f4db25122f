use Rattle.std.proofs.Common.{◌≡◌, ◌≤◌, take, count_by}
use Rattle.commands.proofs.Parting.{is_comma}
use Rattle.commands.proofs.fields.count.Given as goal

abbrev pub invariant-loop-b : goal.invariant-loop-b
invariant-loop-b l = (l.commas ≤ l.b-index) × (l.commas ≡ count_by is_comma (take l.b-index l.bytes))
