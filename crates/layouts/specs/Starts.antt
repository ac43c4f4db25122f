-- The rows of a triangle, one after the other.
use Rattle.std.specs.Prelude.{◌≡◌, ℕ, zero, suc, ◌+◌, ◌*◌, ◌<◌, ◌≤◌, slice_index_or}
use Rattle.std.proofs.Common.{refl, ap, ◌∙◌, arith}
use Rattle.std.proofs.lemmas.Nat.{mul-le}
use Rattle.std.proofs.lemmas.Bool.Decides.{nat_tests}
use Rattle.layouts.specs.Triangle.{row, start, starts}

-- entry k of n starts from row r on
pub starts_at : (n r k d : ℕ) → k < n → slice_index_or (starts r n) k d ≡ start (r + k)
starts_at zero r k d h = absurd (omega arith)
starts_at (suc n) r zero d h = ap start (omega arith)
starts_at (suc n) r (suc k) d h = starts_at n (r + 1) k d (omega arith) ∙ ap start (omega arith)

-- row r has r + 1 cells
pub start_next : (r q : ℕ) → q ≡ r + 1 → start q ≡ start r + q
start_next r q e = let p : q * (q + 1) ≡ r * (r + 1) + q * 2 = rw e (grind arith) in omega arith

-- no row starts before an earlier one
pub start_mono : (r q : ℕ) → r ≤ q → start r ≤ start q
start_mono r q h = omega (arith, mul-le r (r + 1) q (q + 1) h (omega arith))

-- the cells of a row lie before every later row
pub row_before : (r q : ℕ) → r < q → start r + r < start q
row_before r q h = omega (arith, start_next r (r + 1) refl, start_mono (r + 1) q (omega arith))

-- cell k lies in row r
pub record Lies (k r : ℕ) : Type 0 where
  pub from : start r ≤ k
  pub to : k ≤ start r + r

-- a cell of rows 0 to c lies in the row that is found
pub lies : (c k : ℕ) → k < start (suc c) → Lies k (row c k)
lies zero k h = record { from = omega arith; to = omega arith }
lies (suc c) k h = record { from = grind (arith, nat_tests, lies c k); to = grind (arith, nat_tests, lies c k, start_next (suc c) (suc (suc c)) (omega arith)) }

-- a cell lies in no other row than the one that is found
pub row_is : (c r k : ℕ) → r ≤ c → start r ≤ k → k ≤ start r + r → row c k ≡ r
row_is c r k h low high = let l = lies c k (omega (arith, row_before r (suc c) (omega arith))) in grind (arith, row_before)
