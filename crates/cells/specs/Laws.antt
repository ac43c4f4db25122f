-- What every kind of cells owes. Assumes nothing.
use Rattle.std.specs.Prelude.{◌≡◌, Some, None, Option}

-- some cell means the weight
abbrev pub CanHold : {C W : Type 0} → (C → Option W) → W → Type 0
CanHold {C} means w = (x : C) × (means x ≡ Some w)

pub record Lawful {C W : Type 0} (means : C → Option W) (empty : C) (holding : W → Option C) : Type 0 where
  -- the default cell means nothing
  pub nothing : means empty ≡ None
  -- the cell that `new` makes of a weight means that weight
  pub held : (w : W) (x : C) → holding w ≡ Some x → means x ≡ Some w
  -- `new` refuses a weight only where no cell means it
  pub refused : (w : W) → holding w ≡ None → CanHold means w → ⊥
  -- cells that mean the same are equal
  pub same : (x y : C) → means x ≡ means y → x ≡ y
  -- at most one weight can't be held
  pub one : (v w : W) → (CanHold means v → ⊥) → (CanHold means w → ⊥) → v ≡ w
