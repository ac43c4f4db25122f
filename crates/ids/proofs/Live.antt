-- How many ids are live. Assumes nothing.
use Rattle.std.proofs.Common.{◌≡◌, ℕ, zero, suc, ◌+◌, ◌≤◌, min, cond, Bool, true, false, ◌&&◌, ltb, List, [], ◌∷◌, length, arith}
use Rattle.std.proofs.lemmas.Bool.{cases_eq}
use Rattle.std.proofs.lemmas.Bool.Decides.{nat_tests}
use Rattle.ids.specs.Ids.{live, sound}
use Rattle.ids.specs.Series.{counted}

counted_below : (b n : ℕ) → counted (λ k. ltb k b && true) n ≡ min b n
unfolding counted
counted_below b zero = omega arith
counted_below b (suc n) = grind (arith, nat_tests, counted_below b n)

-- q passes j too, and else the same numbers as p
counted_more : (p q : ℕ → Bool) (j : ℕ) → p j ≡ false → q j ≡ true → ((k : ℕ) → (k ≡ j → ⊥) → q k ≡ p k) → (n : ℕ) → counted q n ≡ cond (ltb j n) 1 0 + counted p n
unfolding counted
counted_more p q j f t same zero = grind (arith, nat_tests)
counted_more p q j f t same (suc n) = grind (arith, nat_tests, counted_more p q j f t same n, same n, cases_eq n j)

-- the live ids and the stacked ones make up all below the bound
pub counted_live : (b n : ℕ) (ks : List ℕ) → b ≤ n → sound b ks ≡ true → counted (live (record { bound = b; stack = ks })) n + length ks ≡ b
counted_live b n [] h s = grind (arith, counted_below b n)
counted_live b n (k ∷ ks) h s =
    let more = counted_more (live (record { bound = b; stack = k ∷ ks })) (live (record { bound = b; stack = ks })) k (grind (arith, nat_tests)) (grind (arith, nat_tests)) (λ j ne. grind (arith, nat_tests)) n in
    grind (arith, nat_tests, counted_live b n ks)
