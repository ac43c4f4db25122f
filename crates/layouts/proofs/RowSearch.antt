-- A cell's row, by a search of the table of row starts.
use Rattle.std.proofs.Common.{◌≡◌, ℕ, List, ◌+◌, ◌-◌, ◌<◌, ◌≤◌, true, false, leb, length, take, get_or, arith}
use Rattle.std.specs.List.Sorted.{IsNonDecreasing, IsPartitionPoint}
use Rattle.std.proofs.lemmas.Bool.Decides.{nat_tests}
use Rattle.std.proofs.lemmas.List.{get_or-take, length-take-le}
use Rattle.std.proofs.lemmas.List.Sorted.{IsNonDecreasingBy-take}
use Rattle.layouts.specs.Triangle.{start, starts}
use Rattle.layouts.specs.Starts.{Lies, start_mono, start_next, starts_at}

-- the starts of the first c rows, but for row 0
abbrev pub later_starts : ℕ → List ℕ
later_starts c = take (c - 1) (starts 1 256)

pub later_starts_rise : (c : ℕ) → IsNonDecreasing (later_starts c)
later_starts_rise c = IsNonDecreasingBy-take (λ x. x) (c - 1) (starts 1 256) (λ i j d h l. grind (arith, starts_at 256 1, start_mono))

get_or-later_starts : (c i : ℕ) → c ≤ 256 → i + 1 < c → get_or (later_starts c) i 0 ≡ start (1 + i)
get_or-later_starts c i h l = grind (arith, get_or-take (c - 1) (starts 1 256) i 0, starts_at 256 1 i 0)

-- where n of these start at cell k or before, it lies in row n
pub last_of_these : (c k n : ℕ) → c ≤ 256 → k < start c → n ≤ length (later_starts c) → IsPartitionPoint (λ y. leb y k ≡ true) (λ y. leb y k ≡ false) (later_starts c) n → (n < c) × Lies k n
last_of_these c k n small h few p =
    grind (arith, nat_tests, length-take-le (c - 1) (starts 1 256), get_or-later_starts c, p.0 (n - 1) 0, p.1 n 0, start_next n (n + 1))
