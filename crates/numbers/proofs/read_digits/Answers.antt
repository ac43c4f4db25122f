use Rattle.std.proofs.Common.{◌≡◌, ℕ, ◌+◌, ◌*◌, ◌<◌, ◌≤◌, List, [], ◌∷◌, length, get_or, drop, None, arith, rules}
use Rattle.std.specs.Char.{digit_value}
use Rattle.std.specs.Str.Parse.{digits_value_after}
use Rattle.std.proofs.lemmas.Bool.Decides.{nat_tests}
use Rattle.std.proofs.lemmas.List.{drop_more}
use Rattle.numbers.specs.Fields.{reading}
use Rattle.numbers.proofs.read_digits.Goals as goal

-- more digits never make a number smaller
not_smaller : (n : ℕ) (ds : List ℕ) → n ≤ digits_value_after 10 n ds
not_smaller n [] = omega arith
not_smaller n (c ∷ cs) = omega (arith, not_smaller (n * 10 + digit_value c) cs)

-- so none helps after one that is refused
reading_stop : (n i : ℕ) (ds : List ℕ) → i < length ds → reading n (get_or ds i 0 ∷ []) ≡ None → reading n (drop i ds) ≡ None
reading_stop n i ds more h = rw (drop_more ds i 0) (grind (arith, nat_tests, not_smaller))

pub returns-in_err-number : goal.returns-in_err-number
returns-in_err-number c = search (rules, reading_stop)
