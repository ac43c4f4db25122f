-- The triangle keeps the laws.
use Rattle.std.specs.Prelude.{◌≡◌, ℕ, ◌+◌, ◌-◌, min, max, Some}
use Rattle.std.proofs.Common.{arith}
use Rattle.std.proofs.lemmas.Nat.{mul-le}
use Rattle.std.proofs.lemmas.Bool.Decides.{nat_tests}
use Rattle.layouts.specs.Laws.{EveryPair, Growing, Placing, SameOrMirrored}
use Rattle.layouts.specs.Triangle.{named, place, row, start, total, wide}
use Rattle.layouts.specs.Starts.{lies, row_before, start_mono}

pub every_pair : EveryPair place
every_pair c a b _ ac bc = (start (max a b) + min a b, grind (arith, nat_tests))

-- pairs that share a cell have one larger id and one smaller
shared : (c a b x y k : ℕ) → place c a b ≡ Some k → place c x y ≡ Some k → SameOrMirrored a b x y
shared c a b x y k e f = grind (arith, nat_tests, row_before (max a b) (max x y), row_before (max x y) (max a b))

pub placing : Placing total place named
placing = record {
  few = λ c h. omega (arith, mul-le c (c + 1) 256 257 h (omega arith));
  within = λ c a b k _ e. grind (arith, nat_tests, row_before (max a b) c);
  each = λ c k _ h. ((row c k, k - start (row c k)), grind (arith, nat_tests));
  own = λ c k p _ e. grind (arith, nat_tests, lies c k, start_mono);
  shared = λ c a b x y k _ e f. shared c a b x y k e f;
  alike = λ c d a b x y k _ _ e f. let h = shared c a b x y k e f in grind (arith, nat_tests);
}

pub growing : Growing total place wide
growing = record {
  rising = λ c d h _. start_mono c d h;
  enough = λ n h. omega arith;
  order = λ c n a b x y i j k l cn _ e f g h lt. grind (arith, nat_tests);
  onward = λ c n a b i k cn _ e g. grind (arith, nat_tests);
}
