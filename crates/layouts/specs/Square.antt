-- The square: c × c cells, row after row. Assumes nothing.
use Rattle.std.specs.Prelude.{ℕ, zero, suc, ◌+◌, ◌*◌, ◌/◌, ◌%◌, max, cond, ◌&&◌, Option, nat_lt}
use Rattle.std.specs.Bool.{then_some}

abbrev pub total : ℕ → ℕ
total c = c * c

abbrev pub place : ℕ → ℕ → ℕ → Option ℕ
place c a b = then_some (nat_lt a c && nat_lt b c) (a * c + b)

abbrev pub named : ℕ → ℕ → Option (ℕ × ℕ)
named c k = then_some (nat_lt k (c * c)) (k / c, k % c)

-- p, doubled until it is at least n, at most `times` times
abbrev pub doubled : ℕ → ℕ → ℕ → ℕ
doubled zero p n = p
doubled (suc times) p n = cond (nat_lt p n) (doubled times (2 * p) n) p

-- the larger of 4 and the least power of two that is at least n, for n up to 256
abbrev pub wide : ℕ → ℕ
wide n = max 4 (doubled 8 1 n)
