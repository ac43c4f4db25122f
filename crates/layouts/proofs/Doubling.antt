-- Doubling finds the least power of two that is at least a number.
use Rattle.std.proofs.Common.{◌≡◌, ℕ, zero, suc, ◌*◌, ◌/◌, ◌^◌, ◌<◌, ◌≤◌, max, arith, pow_pos, pow_mono}
use Rattle.std.proofs.Math.Nat.{pow-succ'}
use Rattle.std.proofs.lemmas.Nat.{mul-le}
use Rattle.std.proofs.lemmas.Bool.Decides.{nat_tests}
use Rattle.layouts.specs.Square.{doubled}

-- from p on, it finds the r that is p doubled j times, where r is at least n and its half is not
found : (times j p n r : ℕ) → r ≡ p * 2 ^ j → 0 < p → j ≤ times → n ≤ r → r / 2 < max 1 n → doubled times p n ≡ r
found zero zero p n r e pos le low high = grind arith
found zero (suc j) p n r e pos le low high = absurd (omega arith)
found (suc times) zero p n r e pos le low high = grind (arith, nat_tests)
found (suc times) (suc j) p n r e pos le low high =
    let f : r ≡ (2 * p) * 2 ^ j = rw (e, pow-succ' 2 j) (grind arith) in
    let above : p * 1 ≤ p * 2 ^ j = mul-le p 1 p (2 ^ j) (omega arith) (pow_pos j) in
    grind (arith, nat_tests, found times j (2 * p) n r f)

-- for n up to 256, the power r that is at least n, and whose half is below n or below 1
pub least : (n r : ℕ) → (k : ℕ) × (r ≡ 2 ^ k) → n ≤ 256 → n ≤ r → r / 2 < max 1 n → doubled 8 1 n ≡ r
least n r (k, e) h low high = found 8 k 1 n r (grind arith) (omega arith) (grind (arith, pow_mono {i = 9} {j = k})) low high
