-- The machine gives the lines of any input.
use Rattle.std.proofs.Common.{◌≡◌, ℕ, true, false, cond, eqb, leb, List, [], ◌∷◌, ◌++◌, map, length, sym, refl, ap, ◌∙◌, inl, inr, append_assoc, append-nil, arith}
use Rattle.std.proofs.lemmas.List.{length_push}
use Rattle.std.proofs.ByRecursion.{All-push}
use Rattle.std.proofs.lemmas.Bool.{cases_Bool, eqb-true}
use Rattle.std.proofs.lemmas.Bool.Decides.{nat_tests}
use Rattle.lines.specs.Lines.{Ending, GivesLines, Plain, Reading, completed, ended, ending, filling, finished, given, lines, pieces, skipping, stepped, with_line}
use Rattle.lines.proofs.Pieces.{pieces_are, pieces_ended, pieces_only, pieces_rest}

-- the state within a line, after its bytes p
abbrev within : List ℕ → Reading
within p = cond (leb (length p) 40) (filling p) skipping

within_end : (p : List ℕ) (b : ℕ) → eqb b 10 ≡ true → stepped (within p) b ≡ ended (ending p)
within_end p b e = grind (arith, nat_tests)

within_more : (p : List ℕ) (b : ℕ) → eqb b 10 ≡ false → stepped (within p) b ≡ within (p ++ b ∷ [])
within_more p b e = grind (arith, nat_tests, length_push)

within_no_line : (p : List ℕ) (es : List Ending) → with_line (completed (within p)) es ≡ es
within_no_line p es = grind (arith, nat_tests)

within_last : (b : ℕ) (p : List ℕ) → with_line (finished (within (b ∷ p))) [] ≡ ending (b ∷ p) ∷ []
within_last b p = grind (arith, nat_tests)

-- after a line's end the machine is as at the start
anew : (e : Ending) (bs : List ℕ) → given (ended e) bs ≡ given (filling []) bs
anew e [] = refl
anew e (b ∷ bs) = refl

-- within a line, its bytes p count as if they stood before what follows
within_given : (bs p : List ℕ) → Plain p → given (within p) bs ≡ lines (p ++ bs)
within_given [] [] h = refl
within_given [] (b ∷ p) h = within_last b p ∙ sym (ap lines (append-nil (b ∷ p)) ∙ ap (map ending) (pieces_rest (b ∷ p) h))
within_given (b ∷ bs) p h =
    let on = within_given bs in
    elim (cases_Bool (eqb b 10)) [
      | inl e ↦ let cut : pieces (p ++ b ∷ bs) ≡ p ∷ pieces bs = rw (eqb-true b 10 e) (pieces_ended p bs h) in
          rw (within_end p b e, anew (ending p) bs, on [] tt, cut)
      | inr e ↦ let plain : Plain (p ++ b ∷ []) = All-push (λ a. eqb a 10 ≡ false) p b h e in
          rw (within_more p b e, within_no_line, on (p ++ b ∷ []) plain, append_assoc)
    ]

pub gives_lines : (r : Reading) → r ≡ filling [] → GivesLines r
gives_lines r e = record { all = λ bs. rw e (within_given bs [] tt); pieces_are = pieces_are; no_others = pieces_only }
