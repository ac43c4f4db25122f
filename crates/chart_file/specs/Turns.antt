-- Words for the steps of a run: a line that may have ended or not, and the input after the first line. Assumes nothing.
use Rattle.std.specs.Prelude.{◌≡◌, ℕ, ◌+◌, ◌≤◌, List, [], length, Some, None, Ok, Err, Option, Result}
use Rattle.std.specs.Borrow.{Bor}
use Rattle.commands.specs.declared.kind.Kind.{Kind}
use Rattle.commands.specs.declared.refusal.Refusal.{Refusal}
use Rattle.commands.specs.declared.refusal.Refusal.TheVariants.{BadKind}
use Rattle.lines.specs.declared.reader.TooLong.{TooLong}
use Rattle.lines.specs.Lines.{Ending, lines}
use Rattle.lines.specs.Readers.{ending_by}
use Rattle.chart_file.specs.Chart.{State, answered}
use Rattle.chart_file.specs.Text.{reply}

-- a line that is lent
abbrev pub ending : Result (Bor (List ℕ)) TooLong → Ending
ending e = ending_by (λ x. x.now) e

-- where a line has ended: what is printed, the number of the next line and the chart
abbrev pub next_text : ℕ → Option Ending → State → List ℕ
next_text n None s = []
next_text n (Some e) s = reply n (answered e s).answer

abbrev pub next_line : ℕ → Option Ending → ℕ
next_line n None = n
next_line n (Some e) = n + 1

abbrev pub next_state : Option Ending → State → State
next_state None s = s
next_state (Some e) s = (answered e s).state

-- what the first line opens: its kind, and the lines of at most n bytes that are left; a line that names no kind is refused so
abbrev pub Opens : Option (Kind × List Ending) → ℕ → Result (Kind × Bor (List ℕ)) Refusal → Type 0
Opens o n (Ok (k, rest)) = (o ≡ Some (k, lines rest.now)) × (length rest.now ≤ n)
Opens o n (Err r) = (o ≡ None) × (r ≡ BadKind)
