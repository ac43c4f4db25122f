-- The triangle: one cell for a pair and its mirror, row after row, row at least column. Assumes nothing.
use Rattle.std.specs.Prelude.{ℕ, zero, suc, ◌+◌, ◌-◌, ◌*◌, ◌/◌, min, max, cond, ◌&&◌, List, [], ◌∷◌, Option, nat_lt}
use Rattle.std.specs.Bool.{then_some}

-- where row r starts
abbrev pub start : ℕ → ℕ
start r = r * (r + 1) / 2

-- where n rows start, from row r on
abbrev pub starts : ℕ → ℕ → List ℕ
starts r zero = []
starts r (suc n) = start r ∷ starts (r + 1) n

abbrev pub total : ℕ → ℕ
total c = start c

abbrev pub place : ℕ → ℕ → ℕ → Option ℕ
place c a b = then_some (nat_lt a c && nat_lt b c) (start (max a b) + min a b)

-- the last row, of rows 0 to r, that starts at cell k or before
abbrev pub row : ℕ → ℕ → ℕ
row zero k = 0
row (suc r) k = cond (nat_lt k (start (suc r))) (row r k) (suc r)

abbrev pub named : ℕ → ℕ → Option (ℕ × ℕ)
named c k = then_some (nat_lt k (total c)) (row c k, k - start (row c k))

abbrev pub wide : ℕ → ℕ
wide n = n
