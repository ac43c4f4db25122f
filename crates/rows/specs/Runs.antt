-- How far the cells have come as they move, the last ones first. Assumes nothing.
use Rattle.std.specs.Prelude.{◌≡◌, ℕ, ◌+◌, ◌-◌, ◌<◌, ◌≤◌}
use Rattle.rows.specs.Kinds.{Shape}
use Rattle.rows.specs.Rows.{moves_by}

-- capacity c grows to d, for some count of ids
pub record Grows {L : Type 0} (shape : Shape L) (c d : ℕ) : Type 0 where
  pub ids : ℕ
  pub more : c < ids
  pub few : ids ≤ 256
  pub wide : d ≡ shape.wide ids

-- of the cells of capacity c from start to end, the last goes `shift` up and the first no less far; the one before them goes less far
pub record IsRun {L : Type 0} (shape : Shape L) (c d start end shift : ℕ) : Type 0 where
  pub some : start < end
  pub last : shift ≡ moves_by shape c d (end - 1)
  pub here : shift ≤ moves_by shape c d start
  pub before : 0 < start → moves_by shape c d (start - 1) < shift

-- the cells of capacity c below `end` go below `top`, and the others to it or past it
pub record Parted {L : Type 0} (shape : Shape L) (c d end top : ℕ) : Type 0 where
  pub within : end ≤ shape.total c
  pub room : top ≤ shape.total d
  pub below : (i : ℕ) → i < end → i + moves_by shape c d i < top
  pub above : (i : ℕ) → end ≤ i → i < shape.total c → top ≤ i + moves_by shape c d i
