-- The output of a chart file. Assumes nothing.
use Rattle.std.specs.Prelude.{ℕ, ◌+◌, cond, List, [], ◌∷◌, ◌++◌, length, Some, None, Err, Option, Result, nat_le}
use Rattle.commands.specs.Commands.{kind}
use Rattle.commands.specs.declared.kind.Kind.{Kind}
use Rattle.commands.specs.declared.refusal.Refusal.{Refusal}
use Rattle.commands.specs.declared.refusal.Refusal.TheVariants.{BadKind}
use Rattle.lines.specs.Lines.{Ending, whole, long, lines}
use Rattle.sink.specs.Output.{laid}
use Rattle.chart_file.specs.declared.answer.Answer.{Answer}
use Rattle.chart_file.specs.Chart.{State, fresh, answered, listing}
use Rattle.chart_file.specs.Text.{reply}

-- the answers to lines, one for each, and the chart after them
abbrev pub answers : List Ending → State → List (Result Answer Refusal)
answers [] s = []
answers (e ∷ es) s = (answered e s).answer ∷ answers es (answered e s).state

abbrev pub after : List Ending → State → State
after [] s = s
after (e ∷ es) s = after es (answered e s).state

-- answers as they are printed, to lines numbered from n on
abbrev pub numbered : ℕ → List (Result Answer Refusal) → List ℕ
numbered n [] = []
numbered n (a ∷ rest) = reply n a ++ numbered (n + 1) rest

-- the answers to lines numbered from n on, and then the listing
abbrev pub replies : ℕ → List Ending → State → List ℕ
replies n es s = numbered n (answers es s) ++ listing (after es s)

-- the kind that the first line names, and the lines after it
abbrev pub kind_of : Ending → Option Kind
kind_of (whole bytes) = kind bytes
kind_of long = None

abbrev pub opened_by : Option Kind → List Ending → Option (Kind × List Ending)
opened_by None es = None
opened_by (Some k) es = Some (k, es)

abbrev pub opened : List Ending → Option (Kind × List Ending)
opened [] = None
opened (e ∷ es) = opened_by (kind_of e) es

-- a first line that names no kind is answered alone
abbrev pub output_of : Option (Kind × List Ending) → List ℕ
output_of None = reply 1 (Err BadKind)
output_of (Some (k, es)) = replies 2 es fresh

abbrev pub output : List ℕ → List ℕ
output input = output_of (opened (lines input))

-- the most bytes of input that are read
abbrev pub most : ℕ
most = 65536

-- the length that a run answers, and the buffer that it leaves: nothing is written for an input that is too long
abbrev pub answer : List ℕ → Option ℕ
answer input = cond (nat_le (length input) most) (Some (length (output input))) None

abbrev pub left_in : List ℕ → List ℕ → List ℕ
left_in out input = cond (nat_le (length input) most) (laid out 0 (output input)) out
