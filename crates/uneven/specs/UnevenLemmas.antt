-- Uneven keeps the laws.
use Rattle.std.specs.Prelude.{◌≡◌, ℕ, ◌-◌, Some}
use Rattle.std.proofs.Common.{arith}
use Rattle.std.proofs.lemmas.Nat.{div-add-mod', div_below, mod_below, mul-add-lt, mul-le, same_from_place}
use Rattle.std.proofs.lemmas.Bool.Decides.{nat_tests}
use Rattle.layouts.specs.Laws.{EveryPair, Growing, Placing}
use Rattle.layouts.specs.Rows.{wider}
use Rattle.uneven.specs.Uneven.{Alike, cell, named, pair, place, total, wide}

pub every_pair : EveryPair place
every_pair c a b _ ac bc = (cell c a b, grind (arith, nat_tests))

-- no pairs share a cell but equal ones, and mirrored ones of id 0
pub alone : (c a b x y k : ℕ) → place c a b ≡ Some k → place c x y ≡ Some k → Alike a b x y
alone c a b x y k e f = grind (arith, nat_tests, same_from_place (a - 1) (b - 1) (x - 1) (y - 1) (c - 1))

pub placing : Placing total place named
placing = record {
  few = λ c h. omega (arith, mul-le (c - 1) (c - 1) 255 255 (omega arith) (omega arith));
  within = λ c a b k _ e. grind (arith, nat_tests, mul-add-lt (a - 1) (c - 1) (b - 1) (c - 1));
  each = λ c k _ h. (pair c k, grind (arith, nat_tests));
  own = λ c k p _ e. grind (arith, nat_tests, div_below (k - c) (c - 1) (c - 1), mod_below (k - c) (c - 1), div-add-mod' (k - c) (c - 1));
  shared = λ c a b x y k _ e f. grind (arith, nat_tests, same_from_place (a - 1) (b - 1) (x - 1) (y - 1) (c - 1));
  alike = λ c d a b x y k _ _ e f. grind (arith, nat_tests, same_from_place (a - 1) (b - 1) (x - 1) (y - 1) (c - 1));
}

pub growing : Growing total place wide
growing = record {
  rising = λ c d h _. omega (arith, mul-le (c - 1) (c - 1) (d - 1) (d - 1) (omega arith) (omega arith));
  enough = λ n h. omega arith;
  order = λ c n a b x y i j k l cn small e f g h lt. grind (arith, nat_tests, wider (c - 1) (wide n - 1) (a - 1) (b - 1) (x - 1) (y - 1));
  onward = λ c n a b i k cn small e g. grind (arith, nat_tests, mul-le (a - 1) (c - 1) (a - 1) (wide n - 1));
}
