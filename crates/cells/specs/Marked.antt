-- Cells that hold their weight, and mark nothing by one weight of it.
use Rattle.std.specs.Prelude.{◌≡◌, Bool, true, false, cond, Some, None, refl}
use Rattle.std.proofs.Common.{sym, ◌∙◌, arith}
use Rattle.std.proofs.lemmas.Bool.Decides.{nat_tests}
use Rattle.cells.specs.Laws.{Lawful, CanHold}
use Rattle.cells.specs.declared.not_zero.NotZero.{NotZero}

-- a weight that no cell means is the mark
only : {W : Type 0} (is : W → Bool) (w : W) → (CanHold {C = NotZero W} (λ x. cond (is x.0) None (Some x.0)) w → ⊥) → is w ≡ true
only is w none = let h = λ (e : is w ≡ false). none (record { 0 = w }, rw e refl) in grind (arith, nat_tests)

pub marked : {W : Type 0} (is : W → Bool) (z : W) → is z ≡ true → ((w : W) → is w ≡ true → w ≡ z) →
    Lawful {C = NotZero W} {W = W} (λ x. cond (is x.0) None (Some x.0)) (record { 0 = z })
    (λ w. cond (is w) None (Some (record { 0 = w })))
marked {W} is z at_z alone = record {
  nothing = rw at_z refl;
  held = λ w x e. grind (arith, nat_tests);
  refused = λ w e h. grind (arith, nat_tests);
  same = λ x y e. grind (arith, nat_tests);
  one = λ v w nv nw. alone v (only is v nv) ∙ sym (alone w (only is w nw));
}
