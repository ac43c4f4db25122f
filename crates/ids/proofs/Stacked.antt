-- What the first entries of an array stack. Assumes nothing.
use Rattle.std.proofs.Common.{◌≡◌, ℕ, zero, suc, ◌+◌, ◌<◌, ◌≤◌, List, ◌∷◌, length, set, refl, ap, arith, add-one}
use Rattle.std.proofs.lemmas.List.{get_or-set_other, get_or-set_same}
use Rattle.ids.specs.Ids.{stacked}

pub length-stacked : (n : ℕ) (xs : List ℕ) → length (stacked n xs) ≡ n
length-stacked zero xs = refl
length-stacked (suc n) xs = ap suc (length-stacked n xs)

-- a write at or above the height does not reach the stack
stacked-set : (n m : ℕ) (xs : List ℕ) (k : ℕ) → n ≤ m → stacked n (set xs m k) ≡ stacked n xs
stacked-set zero m xs k h = refl
stacked-set (suc n) m xs k h = grind (arith, get_or-set_other, stacked-set n m xs k)

pub stacked_push : (n : ℕ) (xs : List ℕ) (k : ℕ) → n < length xs → stacked (n + 1) (set xs n k) ≡ k ∷ stacked n xs
stacked_push n xs k h = rw (add-one, get_or-set_same xs n k 0 h, stacked-set n n xs k (omega arith)) refl

pub ruleset stacks = (length-stacked, stacked_push)
