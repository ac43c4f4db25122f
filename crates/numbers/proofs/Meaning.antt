-- A field writes the number whose decimal text it is.
use Rattle.std.proofs.Common.{◌≡◌, ℕ, zero, suc, ◌^◌, ◌<◌, true, List, [], ◌∷◌, get_or, ℤ, pos, negsuc, neg_ℤ, ◌≤ℤ◌, Some, decimal, Option, ◌∙◌, arith, w32, SFits}
use Rattle.std.specs.Str.Parse.{digits_value as value}
use Rattle.std.specs.Fmt.{signed_decimal}
use Rattle.std.specs.Str.{all_ascii_digits}
use Rattle.std.proofs.lemmas.Fmt.{decimal_digit, decimal_nonempty, first_decimal, digits_decimal, digits_value-decimal, decimal-digits_value}
use Rattle.std.proofs.lemmas.Str.Parse.{IsNumeralModel, numerals_by_value, tells_all_ascii_digits}
use Rattle.std.proofs.lemmas.Int.{ints}
use Rattle.std.proofs.lemmas.Bool.Decides.{nat_tests}
use Rattle.numbers.specs.Fields.{Means, canonical, nonzero, numeral, limited, number_field, bounded}

decimals : IsNumeralModel (λ ds. all_ascii_digits ds ≡ true) (value 10)
decimals = numerals_by_value _ tells_all_ascii_digits

-- from a number to its text
written : (n : ℕ) → 0 < n → n < 2 ^ 64 → (canonical (decimal n) ≡ true) × (48 < get_or (decimal n) 0 0) × (value 10 (decimal n) ≡ n)
written n some small = grind (arith, nat_tests, digits_decimal decimals, decimal_nonempty, digits_value-decimal decimals, first_decimal)

-- and back
canonical_is : (ds : List ℕ) (n : ℕ) → n < 2 ^ 64 → canonical ds ≡ true → value 10 ds ≡ n → ds ≡ decimal n
canonical_is ds n small test e = grind (arith, nat_tests, decimal-digits_value decimals)

negative_is : (ds : List ℕ) (n : ℕ) → n < 2 ^ 64 → nonzero ds ≡ true → value 10 ds ≡ n → 45 ∷ ds ≡ signed_decimal (neg_ℤ (pos n))
negative_is ds zero small test e = grind (arith, nat_tests, canonical_is, decimal_digit)
negative_is ds (suc n) small test e = grind (arith, nat_tests, canonical_is)

module _ {low high : ℤ} (low_fits : SFits w32 low) (high_fits : SFits w32 high) where
  numeral_signed : (z : ℤ) → low ≤ℤ z → z ≤ℤ high → numeral (signed_decimal z) ≡ Some z
  numeral_signed (pos zero) l h = rw (decimal_digit 0 (omega arith))
  numeral_signed (pos (suc n)) l h = grind (arith, ints, nat_tests, written)
  numeral_signed (negsuc n) l h = grind (arith, ints, nat_tests, written)

  numeral_is : (bs : List ℕ) (z : ℤ) → low ≤ℤ z → z ≤ℤ high → numeral bs ≡ Some z → bs ≡ signed_decimal z
  numeral_is [] z l h is = grind arith
  numeral_is (b ∷ bs) z l h is = grind (arith, ints, nat_tests, canonical_is (b ∷ bs) (value 10 (b ∷ bs)), negative_is bs (value 10 bs))

  limited_to : (o : Option ℤ) (z : ℤ) → limited low high o ≡ Some z → (o ≡ Some z) × (low ≤ℤ z) × (z ≤ℤ high)
  limited_to o z e = grind (arith, ints)

  means : (bs : List ℕ) → Means low high bs (number_field low high bs)
  means bs =
      record {
        sound = λ z e. let (is, l, h) = limited_to (numeral bs) z e in (numeral_is bs z l h is, l, h);
        complete = λ z text l h. rw (text, numeral_signed z l h) (grind (arith, ints));
      }

  narrowed : (o : Option ℤ) → limited low high (bounded o) ≡ limited low high o
  narrowed o = grind (arith, ints)

  pub answered :
      (bs : List ℕ) (r : Option ℤ) → r ≡ limited low high (bounded (numeral bs))
      → (r ≡ number_field low high bs) × Means low high bs r
  answered bs r e = let value = e ∙ narrowed (numeral bs) in (value, rw value (means bs))
