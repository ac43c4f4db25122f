use Rattle.std.proofs.Common.{◌≡◌, ◌++◌, ◌∷◌, [], List, length, replicate, refl, ◌∙◌, of_calls, length-append, rules}
use Rattle.std.proofs.lemmas.Fn.{chained_keeps}
use Rattle.std.proofs.lemmas.List.{replicate_more}
use Rattle.rows.proofs.row.fill.Goals as goal

-- one more of the same
more : {X : Type 0} (xs : List X) (x y : X) → xs ≡ replicate (length xs) y → x ≡ y → xs ++ x ∷ [] ≡ replicate (length (xs ++ x ∷ [])) y
more xs x y e f = simp length-append (cc (replicate_more (length xs) y))

pub returns : goal.returns
returns g c =
    let empty = g.C.Nullable.empty in
    let is_empty = g.met.C.Nullable.default_is_empty c.default-empty.result c.default-empty.ensures in
    let ran = c.fill_with.ensures.ran in
    let all = chained_keeps _ (λ xs f. (xs ≡ replicate (length xs) empty) × (f.0.now ≡ empty))
    (λ xs f x now so_far step.
    let is : x ≡ f.0.now = search (rules, of_calls) in
    let same : now.0.now ≡ f.0.now = search (rules, of_calls) in
    (more xs x empty so_far.0 (is ∙ so_far.1), same ∙ so_far.1))
    c.fill_with.new.self _ ran.0 (refl, is_empty) ran.1 in
    cc (all.0, c.fill_with.ensures.len)
