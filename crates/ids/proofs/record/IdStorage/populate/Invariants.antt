use Rattle.std.proofs.Common.{◌≡◌}
use Rattle.ids.specs.Populating.{populated, vacancies}
use Rattle.ids.specs.Record.{ids}
use Rattle.ids.proofs.record.IdStorage.populate.Given as goal

-- what is still to add ends as it does from where the loop began
abbrev pub invariant-loop-weight : goal.invariant-loop-weight
invariant-loop-weight g l = populated (vacancies (ids l.self)) l.a l.b l.weight (ids l.self) l.places ≡ populated (vacancies (ids l.initial.self)) l.a l.b l.weight (ids l.initial.self) l.initial.places

abbrev pub decreases-loop-weight : goal.decreases-loop-weight
decreases-loop-weight g l = vacancies (ids l.self)
