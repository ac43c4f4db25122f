-- Laws of chart files, whatever their lines are. Assumes nothing.
use Rattle.std.specs.Prelude.{◌≡◌, List, ◌∷◌, ◌++◌, length, Err}
use Rattle.commands.specs.declared.refusal.Refusal.{Refusal}
use Rattle.lines.specs.Lines.{Ending}
use Rattle.chart_file.specs.Chart.{State, answered}
use Rattle.chart_file.specs.Output.{answers, after}

-- the line e between two others changes nothing but that it is answered r: the other answers and the chart at the end are as without it
pub record AsWithout (s : State) (before later : List Ending) (e : Ending) (r : Refusal) : Type 0 where
  pub with_it : answers (before ++ e ∷ later) s ≡ answers before s ++ Err r ∷ answers later (after before s)
  pub without : answers (before ++ later) s ≡ answers before s ++ answers later (after before s)
  pub chart : after (before ++ e ∷ later) s ≡ after (before ++ later) s

pub record FileLaws : Type 0 where
  -- each line has one answer
  pub one_each : (es : List Ending) (s : State) → length (answers es s) ≡ length es
  -- a line that is refused could as well be left out
  pub refused : (s : State) (before later : List Ending) (e : Ending) (r : Refusal) → (answered e (after before s)).answer ≡ Err r → AsWithout s before later e r
