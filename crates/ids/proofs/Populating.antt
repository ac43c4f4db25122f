-- Adding nodes until two ids are live, one step after another. Assumes nothing.
use Rattle.std.proofs.Common.{◌≡◌, ℕ, suc, cond, List, ⊎_elim, arith}
use Rattle.std.proofs.lemmas.Bool.Decides.{nat_tests}
use Rattle.errors.specs.declared.MatrixError.{MatrixError}
use Rattle.ids.specs.declared.record.IdStorage.{IdStorage}
use Rattle.ids.specs.Ids.{Ids}
use Rattle.ids.specs.Record.{ids}
use Rattle.ids.specs.Calls.{added, accepted, refused}
use Rattle.ids.specs.Populating.{populated, vacancies, both_live, and_then}
use Rattle.ids.proofs.Adding.{added_cases}

-- an accepted addition takes one vacancy
pub vacancies_added : {N : Type 0} (s : IdStorage) (s' : Ids) (ps ps' : List N) (w : N) (k : ℕ) → added (ids s) ps w ≡ accepted k s' ps' → vacancies (ids s) ≡ suc (vacancies s')
vacancies_added s s' ps ps' w k is = grind (arith, nat_tests)

populated_refused : {N : Type 0} (a b : ℕ) (w : N) (s : Ids) (ps : List N) (room : ℕ) (e : MatrixError) → added s ps w ≡ refused e s ps → populated room a b w s ps ≡ cond (both_live s a b) (accepted tt s ps) (refused e s ps)
unfolding populated
populated_refused a b w s ps room e is = grind arith

-- one addition, and what the vacancies left after it have room for
pub populated_next : {N : Type 0} (a b : ℕ) (w : N) (s : IdStorage) (ps : List N) → populated (vacancies (ids s)) a b w (ids s) ps ≡ cond (both_live (ids s) a b) (accepted tt (ids s) ps) (and_then (added (ids s) ps w) (added (ids s) ps w).answer (populated (vacancies (added (ids s) ps w).ids) a b w (added (ids s) ps w).ids (added (ids s) ps w).places))
unfolding populated
populated_next a b w s ps =
    ⊎_elim
    (λ r. let e = r.1 in rw e (populated_refused a b w (ids s) ps _ r.0 e))
    (λ r. let e = r.1 in let v = vacancies_added s _ ps _ w _ e in rw (e, v) (grind arith))
    (added_cases (ids s) ps w)

pub ruleset populates = (vacancies_added, populated_next)
