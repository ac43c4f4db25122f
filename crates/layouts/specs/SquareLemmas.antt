-- The square keeps the laws.
use Rattle.std.specs.Prelude.{◌≡◌, ℕ, ◌+◌, ◌*◌, ◌/◌, ◌%◌, ◌≤◌, Some}
use Rattle.std.proofs.Common.{inl, arith}
use Rattle.std.proofs.lemmas.Nat.{div-add-mod', div_below, mod_below, mul-add-lt, mul-le, same_from_place}
use Rattle.std.proofs.lemmas.Bool.Decides.{nat_tests}
use Rattle.layouts.specs.Laws.{EveryPair, Growing, Placing}
use Rattle.layouts.specs.Square.{named, place, total, wide}
use Rattle.layouts.specs.Rows.{wider}

pub every_pair : EveryPair place
every_pair c a b _ ac bc = (a * c + b, grind (arith, nat_tests))

shared : (c a b x y k : ℕ) → place c a b ≡ Some k → place c x y ≡ Some k → (a ≡ x) × (b ≡ y)
shared c a b x y k e f = grind (arith, nat_tests, same_from_place a b x y c)

pub placing : Placing total place named
placing = record {
  few = λ c h. mul-le c c 256 256 h h;
  within = λ c a b k _ e. grind (arith, nat_tests, mul-add-lt a c b c);
  each = λ c k _ h. ((k / c, k % c), grind (arith, nat_tests));
  own = λ c k p _ e. grind (arith, nat_tests, div_below k c c, mod_below k c, div-add-mod' k c);
  shared = λ c a b x y k _ e f. inl (shared c a b x y k e f);
  alike = λ c d a b x y k _ _ e f. let h = shared c a b x y k e f in cc;
}

wide_enough : (n : ℕ) → n ≤ 256 → (n ≤ wide n) × (wide n ≤ 256)
wide_enough n h = grind (arith, nat_tests)

pub growing : Growing total place wide
growing = record {
  rising = λ c d h _. mul-le c c d d h h;
  enough = wide_enough;
  order = λ c n a b x y i j k l cn small e f g h lt. let w = wide_enough n small in grind (arith, nat_tests, wider c (wide n) a b x y);
  onward = λ c n a b i k cn small e g. let w = wide_enough n small in grind (arith, nat_tests, mul-le a c a (wide n));
}
