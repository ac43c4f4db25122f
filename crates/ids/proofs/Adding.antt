-- Whether a node can be added or removed, and what is left then. Assumes nothing.
use Rattle.std.proofs.Common.{◌≡◌, ℕ, ◌≤◌, Bool, true, false, ◌⊎◌, List, length, set, Some, None, Ok, Option, refl, inl, inr, arith}
use Rattle.std.proofs.lemmas.Bool.Decides.{nat_tests}
use Rattle.errors.specs.declared.MatrixError.{MatrixError}
use Rattle.errors.specs.declared.MatrixError.TheVariants.{ShortMemory, NodeMissed}
use Rattle.ids.specs.Ids.{Ids, count, live}
use Rattle.ids.specs.Calls.{next, taken, vacated, short, weight, room, added, removed, refused, accepted}

-- where there is room, an id is left, and a place for it. The first part tells `grind` where this applies
pub room_enough : {N : Type 0} (s : Ids) (ps : List N) → room s ps ≡ Ok tt → (room s ps ≡ Ok tt) × (count s ≡ 255 → ⊥) × ((taken s).bound ≤ length ps)
room_enough s ps ok = grind (arith, nat_tests)

-- a call is refused and leaves everything as it was, or it is accepted
pub added_cases : {N : Type 0} (s : Ids) (ps : List N) (w : N) → ((e : MatrixError) × (added s ps w ≡ refused e s ps)) ⊎ ((count s ≡ 255 → ⊥) × (added s ps w ≡ accepted (next s) (taken s) (set ps (next s) w)))
added_cases s ps w = grind (arith, nat_tests)

pub removed_cases : {N : Type 0} (s : Ids) (ps : List N) (k : ℕ) → ((e : MatrixError) × (removed s ps k ≡ refused e s ps)) ⊎ ((live s k ≡ true) × ((w : N) × (removed s ps k ≡ accepted w (vacated s k) ps)))
removed_cases s ps k = by (short s ps) (weight s ps k) refl refl where
  by : (t : Bool) (o : Option _) → short s ps ≡ t → weight s ps k ≡ o → ((e : MatrixError) × (removed s ps k ≡ refused e s ps)) ⊎ ((live s k ≡ true) × ((w : _) × (removed s ps k ≡ accepted w (vacated s k) ps)))
  by true o lacks is = inl (ShortMemory, rw lacks refl)
  by false None enough is = inl (NodeMissed k, rw (enough, is) refl)
  by false (Some w) enough is = inr (grind (arith, nat_tests), (w, rw (enough, is) refl))
