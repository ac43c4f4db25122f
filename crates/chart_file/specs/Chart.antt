-- A chart, and what the lines of a file do to it. Assumes nothing.
use Rattle.std.specs.Prelude.{ℕ, List, [], ◌++◌, replicate, Some, None, Ok, Err, Option, Result}
use Rattle.std.specs.List.{range_with_len, flat_map}
use Rattle.errors.specs.declared.MatrixError.{MatrixError}
use Rattle.ids.specs.Ids.{Ids, none, count}
use Rattle.ids.specs.Calls.{Outcome, added, removed, weight}
use Rattle.commands.specs.Commands.{command}
use Rattle.commands.specs.declared.command.Command.{Command}
use Rattle.commands.specs.declared.command.Command.TheVariants.{AddNode, RemoveNode, Clear}
use Rattle.commands.specs.declared.refusal.Refusal.{Refusal}
use Rattle.commands.specs.declared.refusal.Refusal.TheVariants.{LineLong, Graph}
use Rattle.lines.specs.Lines.{Ending, whole, long}
use Rattle.chart_file.specs.declared.answer.Answer.{Answer}
use Rattle.chart_file.specs.declared.answer.Answer.TheVariants.{Id, Was, Done}
use Rattle.chart_file.specs.Text.{node_line, end_line}

pub record State : Type 0 where
  pub ids : Ids
  pub labels : List ℕ

-- a new chart: no machines, and places for 255 labels
abbrev pub fresh : State
fresh = record { ids = none; labels = replicate 255 0 }

-- what is answered, and the chart afterwards
pub record Step : Type 0 where
  pub answer : Result Answer Refusal
  pub state : State

abbrev pub by_graph : {A : Type 0} → (A → Answer) → Result A MatrixError → Result Answer Refusal
by_graph f (Ok x) = Ok (f x)
by_graph f (Err e) = Err (Graph e)

abbrev pub stepped : {A : Type 0} → (A → Answer) → Outcome A ℕ → Step
stepped f o = record { answer = by_graph f o.answer; state = record { ids = o.ids; labels = o.places } }

abbrev pub applied : Command → State → Step
applied (AddNode label) s = stepped Id (added s.ids s.labels label)
applied (RemoveNode id) s = stepped Was (removed s.ids s.labels id)
applied Clear s = record { answer = Ok Done; state = record { ids = none; labels = s.labels } }

abbrev pub obeyed : Result Command Refusal → State → Step
obeyed (Ok c) s = applied c s
obeyed (Err r) s = record { answer = Err r; state = s }

-- what a line of the file does
abbrev pub answered : Ending → State → Step
answered (whole bytes) s = obeyed (command bytes) s
answered long s = record { answer = Err LineLong; state = s }

-- the listing: the live ids with their labels, rising, and a closing line; no edge was ever made
abbrev pub node_of : ℕ → Option ℕ → List ℕ
node_of id None = []
node_of id (Some label) = node_line id label

abbrev pub node_text : State → ℕ → List ℕ
node_text s id = node_of id (weight s.ids s.labels id)

abbrev pub node_lines : State → List ℕ
node_lines s = flat_map (node_text s) (range_with_len 0 s.ids.bound)

abbrev pub listing : State → List ℕ
listing s = node_lines s ++ end_line (count s.ids) 0
