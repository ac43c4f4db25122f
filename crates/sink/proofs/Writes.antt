-- Writing nothing, one text after another, and in a loop. Assumes nothing.
use Rattle.std.proofs.Common.{ℕ, ◌^◌, ◌<◌, List, [], ◌++◌, length, refl, ◌∙◌, arith, length-append}
use Rattle.sink.specs.declared.Sink.{Sink}
use Rattle.sink.specs.Output.{laid, Wrote}
use Rattle.sink.proofs.Laid.{length-laid, laid_past, laid-append}

pub wrote_none : (s : Sink) → length s.out.now < 2 ^ 64 → Wrote s s []
unfolding laid
wrote_none s room = record { count = omega arith; buffer = refl; same = refl; room = room }

pub wrote-append : {s t u : Sink} {x y : List ℕ} → Wrote s t x → Wrote t u y → Wrote s u (x ++ y)
wrote-append {s} {t} {u} {x} {y} a b =
    record {
      count = omega (arith, length-append x y);
      buffer = grind (arith, length-laid, laid_past, laid-append);
      same = b.same ∙ a.same;
      room = a.room;
    }

-- nothing more is written after a text
pub wrote_then_none : {s t : Sink} {x : List ℕ} → Wrote s t x → Wrote t t []
wrote_then_none {s} {t} {x} a = wrote_none t (grind (arith, length-laid))
