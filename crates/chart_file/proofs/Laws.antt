-- The laws of chart files. Assumes nothing.
use Rattle.std.proofs.Common.{◌≡◌, suc, List, [], ◌∷◌, ◌++◌, length, Ok, Err, Result, sym, refl, ap, ◌∙◌, ⊎_elim, arith}
use Rattle.commands.specs.Commands.{command}
use Rattle.commands.specs.declared.command.Command.{Command}
use Rattle.commands.specs.declared.command.Command.TheVariants.{AddNode, RemoveNode, Clear}
use Rattle.commands.specs.declared.refusal.Refusal.{Refusal}
use Rattle.lines.specs.Lines.{Ending, whole, long}
use Rattle.ids.proofs.Adding.{added_cases, removed_cases}
use Rattle.chart_file.specs.declared.answer.Answer.{Answer}
use Rattle.chart_file.specs.Chart.{State, applied, obeyed, answered}
use Rattle.chart_file.specs.Output.{answers, after}
use Rattle.chart_file.specs.Laws.{AsWithout, FileLaws}

-- an accepted answer is no refusal
accepted_refused : {P : Type 0} (a : Answer) (r : Refusal) → ◌≡◌ {A = Result Answer Refusal} (Ok a) (Err r) → P
accepted_refused a r h = absurd (grind arith)

applied_refused : (c : Command) (s : State) (r : Refusal) → (applied c s).answer ≡ Err r → (applied c s).state ≡ s
applied_refused (AddNode label) s r h =
    ⊎_elim
    (λ same. let e = same.1 in rw e refl)
    (λ done. let e = done.1 in accepted_refused _ r (rw e at h))
    (added_cases s.ids s.labels label)
applied_refused (RemoveNode id) s r h =
    ⊎_elim
    (λ same. let e = same.1 in rw e refl)
    (λ done. let e = done.1.1 in accepted_refused _ r (rw e at h))
    (removed_cases s.ids s.labels id)
applied_refused Clear s r h = accepted_refused _ r h

obeyed_refused : (c : Result Command Refusal) (s : State) (r : Refusal) → (obeyed c s).answer ≡ Err r → (obeyed c s).state ≡ s
obeyed_refused (Ok c) s r h = applied_refused c s r h
obeyed_refused (Err e) s r h = refl

answered_refused : (e : Ending) (s : State) (r : Refusal) → (answered e s).answer ≡ Err r → (answered e s).state ≡ s
answered_refused (whole bytes) s r h = obeyed_refused (command bytes) s r h
answered_refused long s r h = refl

answers-append : (xs ys : List Ending) (s : State) → answers (xs ++ ys) s ≡ answers xs s ++ answers ys (after xs s)
answers-append [] ys s = refl
answers-append (x ∷ xs) ys s = ap (λ rest. (answered x s).answer ∷ rest) (answers-append xs ys (answered x s).state)

after-append : (xs ys : List Ending) (s : State) → after (xs ++ ys) s ≡ after ys (after xs s)
after-append [] ys s = refl
after-append (x ∷ xs) ys s = after-append xs ys (answered x s).state

one_each : (es : List Ending) (s : State) → length (answers es s) ≡ length es
one_each [] s = refl
one_each (e ∷ es) s = ap suc (one_each es (answered e s).state)

as_without : (s : State) (before later : List Ending) (e : Ending) (r : Refusal) → (answered e (after before s)).answer ≡ Err r → AsWithout s before later e r
as_without s before later e r h =
    let same = answered_refused e (after before s) r h in
    record {
      with_it = answers-append before (e ∷ later) s ∙ rw (h, same) refl;
      without = answers-append before later s;
      chart = after-append before (e ∷ later) s ∙ ap (after later) same ∙ sym (after-append before later s);
    }

pub file_laws : FileLaws
file_laws = record { one_each = one_each; refused = as_without }
