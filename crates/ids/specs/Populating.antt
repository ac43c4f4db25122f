-- Adding nodes until two ids are live. Assumes nothing.
use Rattle.std.specs.Prelude.{ℕ, zero, suc, ◌-◌, Bool, cond, ◌&&◌, List, Ok, Err, Result}
use Rattle.errors.specs.declared.MatrixError.{MatrixError}
use Rattle.ids.specs.Ids.{Ids, live, count}
use Rattle.ids.specs.Calls.{Outcome, accepted, refused, added}

-- how many more ids can be live
abbrev pub vacancies : Ids → ℕ
vacancies s = 255 - count s

abbrev pub both_live : Ids → ℕ → ℕ → Bool
both_live s a b = live s a && live s b

-- a refusal is the outcome; else what comes next is
abbrev pub and_then : {A B N : Type 0} → Outcome A N → Result A MatrixError → Outcome B N → Outcome B N
and_then o (Ok x) next = next
and_then o (Err e) next = refused e o.ids o.places

-- nodes of weight w are added while a or b isn't live; at no vacancy adding is refused
unfoldable pub populated : {N : Type 0} → ℕ → ℕ → ℕ → N → Ids → List N → Outcome (Unit {0}) N
populated zero a b w s ps =
    cond (both_live s a b) (accepted tt s ps)
    (and_then (added s ps w) (added s ps w).answer (accepted tt s ps))
populated (suc room) a b w s ps =
    cond (both_live s a b) (accepted tt s ps)
    (and_then (added s ps w) (added s ps w).answer (populated room a b w (added s ps w).ids (added s ps w).places))
