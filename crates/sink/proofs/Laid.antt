-- What a buffer holds once text is laid into it. Assumes nothing.
use Rattle.std.proofs.Common.{◌≡◌, ℕ, suc, ◌+◌, ◌≤◌, List, [], ◌∷◌, ◌++◌, length, take, drop, set, refl, ap, ◌∙◌, arith, rules, add-zero}
use Rattle.std.proofs.lemmas.List.{set_past}
use Rattle.std.proofs.lemmas.Grind.{common_steps}
use Rattle.sink.specs.Output.{laid}

pub length-laid : (out : List ℕ) (at : ℕ) (text : List ℕ) → length (laid out at text) ≡ length out
unfolding laid
length-laid out at [] = refl
length-laid out at (b ∷ bs) = search (rules, length-laid (set out at b) (suc at) bs)

-- past the end nothing is written
pub laid_past : (out : List ℕ) (at : ℕ) (text : List ℕ) → length out ≤ at → laid out at text ≡ out
unfolding laid
laid_past out at [] h = refl
laid_past out at (b ∷ bs) h = rw (set_past out at b h) (laid_past out (suc at) bs (omega arith))

-- one text after another
pub laid-append : (out : List ℕ) (at : ℕ) (x y : List ℕ) → laid out at (x ++ y) ≡ laid (laid out at x) (at + length x) y
unfolding laid
laid-append out at [] y = rw add-zero
laid-append out at (b ∷ x) y = search (rules, laid-append (set out at b) (suc at) x y)

laid_under : (x : ℕ) (out : List ℕ) (at : ℕ) (text : List ℕ) → laid (x ∷ out) (suc at) text ≡ x ∷ laid out at text
unfolding laid
laid_under x out at [] = refl
laid_under x out at (b ∷ bs) = laid_under x (set out at b) (suc at) bs

-- after what is there, as much as the room takes
pub laid_after : (before room text : List ℕ) → laid (before ++ room) (length before) text ≡ before ++ (take (length room) text ++ drop (length text) room)
unfolding laid
laid_after (x ∷ before) room text = laid_under x (before ++ room) (length before) text ∙ ap (λ xs. x ∷ xs) (laid_after before room text)
laid_after [] (x ∷ room) (b ∷ text) = laid_under b room 0 text ∙ ap (λ xs. b ∷ xs) (laid_after [] room text)
laid_after [] room [] = grind (arith, common_steps)
laid_after [] [] text = laid_past [] 0 text (omega arith)
