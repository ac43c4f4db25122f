-- What stays true of the record as an id is vacated. Assumes nothing.
use Rattle.std.proofs.Common.{◌≡◌, ℕ, ◌-◌, ◌<◌, cond, Bool, true, false, eqb, List, [], ◌∷◌, length, get_or, set, get_or-set_other, refl, arith}
use Rattle.std.proofs.lemmas.Bool.Decides.{nat_tests}
use Rattle.std.proofs.lemmas.Grind.{get_or-set_at}
use Rattle.ids.specs.Ids.{has, live, sound}
use Rattle.ids.proofs.Live.{counted_live}

-- where an id is live, the stack does not hold all below the bound. The first part tells `grind` where this applies
pub live_room : (b : ℕ) (ks : List ℕ) (k : ℕ) → live (record { bound = b; stack = ks }) k ≡ true → sound b ks ≡ true → (live (record { bound = b; stack = ks }) k ≡ true) × (length ks < b)
live_room b ks k l h = grind (arith, nat_tests, counted_live b b (k ∷ ks))

-- where the id just below the bound is not stacked, the bound may be lowered
pub sound_lower : (b : ℕ) (ks : List ℕ) → has (b - 1) ks ≡ false → sound b ks ≡ true → sound (b - 1) ks ≡ true
sound_lower b [] f h = refl
sound_lower b (j ∷ js) f h = grind (arith, nat_tests, sound_lower b js)

pub get_or-set : (t : List Bool) (i j : ℕ) (v : Bool) → i < length t → get_or (set t i v) j false ≡ cond (eqb j i) v (get_or t j false)
get_or-set t i j v l = grind (arith, nat_tests, get_or-set_at, get_or-set_other)

pub ruleset vacates = (live_room, sound_lower, get_or-set, nat_tests)
