-- Row 0 and column 0 are one and have the first c cells; then each other pair has one, row after row. Assumes nothing.
use Rattle.std.specs.Prelude.{◌≡◌, ◌⊎◌, ℕ, ◌+◌, ◌-◌, ◌*◌, ◌/◌, ◌%◌, min, cond, ◌&&◌, Option, ◌==◌, nat_lt}
use Rattle.std.specs.Bool.{then_some}

-- 0 at capacity 0, where c - 1 is 0
abbrev pub total : ℕ → ℕ
total c = c + (c - 1) * (c - 1)

-- the cell of a pair below c
abbrev pub cell : ℕ → ℕ → ℕ → ℕ
cell c a b = cond (a == 0) b (cond (b == 0) a (c + (a - 1) * (c - 1) + (b - 1)))

abbrev pub place : ℕ → ℕ → ℕ → Option ℕ
place c a b = then_some (nat_lt a c && nat_lt b c) (cell c a b)

-- in row 0 or in column 0
abbrev pub Outer : ℕ → ℕ → Type 0
Outer a b = (a ≡ 0) ⊎ (b ≡ 0)

-- equal, or mirrored in row 0 and column 0
abbrev pub Alike : ℕ → ℕ → ℕ → ℕ → Type 0
Alike a b x y = ((a ≡ x) × (b ≡ y)) ⊎ (Outer a b × (a ≡ y) × (b ≡ x))

-- the pair that a cell below the count names
abbrev pub pair : ℕ → ℕ → ℕ × ℕ
pair c k = cond (nat_lt k c) (k, 0) (1 + (k - c) / (c - 1), 1 + (k - c) % (c - 1))

abbrev pub named : ℕ → ℕ → Option (ℕ × ℕ)
named c k = then_some (nat_lt k (total c)) (pair c k)

abbrev pub wide : ℕ → ℕ
wide n = min (n + 3) 256
