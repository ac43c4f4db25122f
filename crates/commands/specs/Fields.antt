-- A line cut at its commas. Assumes nothing.
use Rattle.std.specs.Prelude.{ℕ, cond, List, [], ◌∷◌, Some, None, Option, ◌==◌}
use Rattle.std.specs.Borrow.{Bor}

abbrev pub longer : ℕ → List (List ℕ) → List (List ℕ)
longer b [] = (b ∷ []) ∷ []
longer b (f ∷ fs) = (b ∷ f) ∷ fs

-- the fields that commas part: one more than there are commas
abbrev pub fields : List ℕ → List (List ℕ)
fields [] = [] ∷ []
fields (b ∷ bs) = cond (b == 44) ([] ∷ fields bs) (longer b (fields bs))

-- the next field, and those after it
abbrev pub first : List (List ℕ) → List ℕ
first [] = []
first (f ∷ fs) = f

abbrev pub others : List (List ℕ) → List (List ℕ)
others [] = []
others (f ∷ fs) = fs

-- what is left of a line has at least one field, if it is empty too; where nothing is left, there is none
abbrev pub fields_of : Option (Bor (List ℕ)) → List (List ℕ)
fields_of None = []
fields_of (Some bytes) = fields bytes.now
