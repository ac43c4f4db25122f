-- The fields of a line, by where its commas stand. Assumes nothing.
use Rattle.std.proofs.Common.{◌≡◌, ℕ, ◌+◌, ◌<◌, ◌≤◌, Bool, eqb, List, [], ◌∷◌, Some, None, length, take, drop, count_by, position, refl, arith}
use Rattle.std.specs.List.{slice_split, onto_first, position_or_len}
use Rattle.std.proofs.lemmas.Grind.{common_steps}
pub use Rattle.std.proofs.lemmas.List.{take_rest}
use Rattle.std.proofs.lemmas.List.Splits.{slice_split_none, slice_split_first, length-slice_split}
use Rattle.std.proofs.lemmas.List.Sums.{fails_before_first}
use Rattle.commands.specs.Fields.{fields, longer}

abbrev pub is_comma : ℕ → Bool
is_comma b = eqb b 44

-- the parts that the library's `split` gives at each comma
fields-split : (bs : List ℕ) → fields bs ≡ slice_split is_comma bs
fields-split [] = refl
fields-split (b ∷ bs) = rw (fields-split bs, longer-first) refl
  where
    longer-first : (c : ℕ) (fs : List (List ℕ)) → longer c fs ≡ onto_first c fs
    longer-first c [] = refl
    longer-first c (f ∷ fs) = refl

pub fields_count : (bs : List ℕ) → length (fields bs) ≡ count_by is_comma bs + 1
fields_count bs = rw fields-split (length-slice_split is_comma bs)

pub fields_plain : (bs : List ℕ) → position is_comma bs ≡ None → fields bs ≡ bs ∷ []
fields_plain bs e =
    let past : length bs ≤ position_or_len is_comma bs = grind (arith, common_steps) in
    rw fields-split (slice_split_none is_comma bs (λ k d l. fails_before_first is_comma bs k d (omega arith)))

pub fields_comma : (bs : List ℕ) (at : ℕ) → position is_comma bs ≡ Some at → fields bs ≡ take at bs ∷ fields (drop (at + 1) bs)
fields_comma bs at e =
    let is : position_or_len is_comma bs ≡ at = grind (arith, common_steps) in
    let inside : position_or_len is_comma bs < length bs = grind (arith, common_steps) in
    rw (fields-split bs, fields-split (drop (at + 1) bs), ← is) (slice_split_first is_comma bs 0 inside)

pub fields_fewer : (bs : List ℕ) (at : ℕ) → position is_comma bs ≡ Some at → length (fields (drop (at + 1) bs)) < length (fields bs)
fields_fewer bs at e = let cut = fields_comma bs at e in rw cut (omega arith)

pub ruleset cuts = (fields_plain, fields_comma, fields_fewer, take_rest)
