-- Number fields: decimal text with no leading zero and no plus, within two limits. Assumes nothing.
use Rattle.std.specs.Prelude.{◌≡◌, ℕ, ◌^◌, Bool, cond, not, ◌&&◌, ◌||◌, List, length, drop, ℤ, pos, neg_ℤ, ◌≤ℤ◌, Some, None, Option, ◌==◌, int_lt, nat_le, nat_lt, slice_index}
use Rattle.std.specs.Str.Parse.{digits_value, digits_value_after}
use Rattle.std.specs.Fmt.{signed_decimal}
use Rattle.std.specs.Str.{all_ascii_digits}

abbrev pub when : {A : Type 0} → Bool → A → Option A
when test x = cond test (Some x) None

-- digits, at least one, the first of them no zero (48) unless it stands alone
abbrev pub canonical : List ℕ → Bool
canonical ds = all_ascii_digits ds && (nat_lt 0 (length ds) && (length ds == 1 || not (slice_index ds 0 == 48)))

abbrev pub nonzero : List ℕ → Bool
nonzero ds = canonical ds && not (slice_index ds 0 == 48)

-- the number that digits write after a minus, which zero does not have
abbrev pub negative : List ℕ → Option ℤ
negative ds = when (nonzero ds) (neg_ℤ (pos (digits_value 10 ds)))

-- the number that a field writes, if it writes one: 45 is the minus
abbrev pub numeral : List ℕ → Option ℤ
numeral bs = cond (slice_index bs 0 == 45) (negative (drop 1 bs)) (when (canonical bs) (pos (digits_value 10 bs)))

-- a number from low to high, else nothing
abbrev pub limited : ℤ → ℤ → Option ℤ → Option ℤ
limited low high None = None
limited low high (Some z) = when (not (int_lt z low) && not (int_lt high z)) z

-- what a field with the limits low and high is read as
abbrev pub number_field : ℤ → ℤ → List ℕ → Option ℤ
number_field low high bs = limited low high (numeral bs)

-- r is the number whose decimal text is the field, where one from low to high has it, and nothing else
pub record Means (low high : ℤ) (bs : List ℕ) (r : Option ℤ) : Type 0 where
  -- what is read lies within the limits, and the field is its text
  pub sound : (z : ℤ) → r ≡ Some z → (bs ≡ signed_decimal z) × (low ≤ℤ z) × (z ≤ℤ high)
  -- the text of each number within the limits is read as that number
  pub complete : (z : ℤ) → bs ≡ signed_decimal z → low ≤ℤ z → z ≤ℤ high → r ≡ Some z

-- A size past 2 ^ 31 is refused before the limits are looked at, since no limit of 32 bits lies past it.

-- the number that the digits ds make after the number n
abbrev pub reading : ℕ → List ℕ → Option ℕ
reading n ds = when (all_ascii_digits ds && nat_le (digits_value_after 10 n ds) (2 ^ 31)) (digits_value_after 10 n ds)

abbrev pub size : List ℕ → Option ℕ
size ds = when (canonical ds && nat_le (digits_value 10 ds) (2 ^ 31)) (digits_value 10 ds)

abbrev pub bounded : Option ℤ → Option ℤ
bounded = limited (neg_ℤ (pos (2 ^ 31))) (pos (2 ^ 31))
