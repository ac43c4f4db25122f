-- Moving rows of cells as a matrix grows. Assumes nothing.
use Rattle.std.specs.Prelude.{ℕ, ◌+◌, ◌-◌, List, ◌++◌, map, take, drop, replicate, Some, None, Option, slice_index_or}
use Rattle.std.specs.List.{copy_within, range_with_len}
use Rattle.rows.specs.Kinds.{Kind, Shape}

-- the first n cells empty, the others as they are
abbrev pub blanked : {C W : Type 0} → Kind C W → ℕ → List C → List C
blanked kind n cells = replicate n kind.empty ++ drop n cells

-- what the cell holds that a pair has, the empty cell where it has none
abbrev pub held : {C W : Type 0} → Kind C W → List C → Option ℕ → C
held kind cells None = kind.empty
held kind cells (Some k) = slice_index_or cells k kind.empty

-- what the pair's cell held at capacity c
abbrev pub carried : {C W L : Type 0} → Kind C W → Shape L → List C → ℕ → Option (ℕ × ℕ) → C
carried kind shape cells c None = kind.empty
carried kind shape cells c (Some pair) = held kind cells (shape.place c pair.0 pair.1)

-- growing from capacity c to d as far as cell n: each cell below n gets what the pair that it names held, the empty cell
-- where that pair had none
unfoldable pub grown_below : {C W L : Type 0} → Kind C W → Shape L → ℕ → ℕ → ℕ → List C → List C
grown_below kind shape c d n cells = map (λ k. carried kind shape cells c (shape.named d k)) (range_with_len 0 n) ++ drop n cells

-- growing as far as the count
abbrev pub grown : {C W L : Type 0} → Kind C W → Shape L → ℕ → ℕ → List C → List C
grown kind shape c d cells = grown_below kind shape c d (shape.total d) cells

-- how far up the cell goes that a pair has at d, from its cell at c
abbrev pub ahead : ℕ → Option ℕ → ℕ
ahead from None = 0
ahead from (Some to) = to - from

-- how far up cell k of capacity c moves as it grows to d
abbrev pub moves_of : {L : Type 0} → Shape L → ℕ → ℕ → ℕ → Option (ℕ × ℕ) → ℕ
moves_of shape c d k None = 0
moves_of shape c d k (Some pair) = ahead k (shape.place d pair.0 pair.1)

abbrev pub moves_by : {L : Type 0} → Shape L → ℕ → ℕ → ℕ → ℕ
moves_by shape c d k = moves_of shape c d k (shape.named c k)

-- the cells from a to e made empty
abbrev pub emptied : {C W : Type 0} → Kind C W → ℕ → ℕ → List C → List C
emptied kind a e cells = take a cells ++ (replicate (e - a) kind.empty ++ drop e cells)

-- the cells from start to end copied `shift` up, and the cells from there to top empty
abbrev pub lifted : {C W : Type 0} → Kind C W → ℕ → ℕ → ℕ → ℕ → List C → List C
lifted kind start end shift top cells = copy_within (emptied kind (end + shift) top cells) start end (start + shift)
