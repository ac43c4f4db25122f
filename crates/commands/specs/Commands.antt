-- What a line of a chart file asks for. Assumes nothing.
use Rattle.std.specs.Prelude.{◌≡◌, ℕ, ◌+◌, ◌-◌, ◌^◌, neg_ℤ, MatchResult, min, cond, List, [], ◌∷◌, length, ℤ, pos, Some, None, Ok, Err, codes, Option, Result, ◌==◌}
use Rattle.std.specs.Int.Signed.{mag}
use Rattle.numbers.specs.Fields.{number_field}
use Rattle.std.specs.Str.{bytes_eq}
use Rattle.commands.specs.declared.refusal.Refusal.{Refusal}
use Rattle.commands.specs.declared.refusal.Refusal.TheVariants.{BadLetter, FieldCount, BadNumber}
use Rattle.commands.specs.declared.command.Command.{Command}
use Rattle.commands.specs.declared.command.Command.TheVariants.{AddNode, RemoveNode, Clear}
use Rattle.commands.specs.declared.kind.Kind.{Kind}
use Rattle.commands.specs.declared.kind.Kind.TheVariants.{Square, Triangle}
use Rattle.commands.specs.Fields.{fields, first}

-- the chart that the first line opens
abbrev pub kind : List ℕ → Option Kind
kind line =
    cond (bytes_eq line (codes "chart,square")) (Some Square)
    (cond (bytes_eq line (codes "chart,triangle")) (Some Triangle)
    None)

-- the number that a field holds, from low to high; at is the field's own number
abbrev pub judged : ℕ → Option ℤ → Result ℤ Refusal
judged at None = Err (BadNumber at)
judged at (Some z) = Ok z

abbrev pub number_at : ℕ → ℤ → ℤ → List ℕ → Result ℤ Refusal
number_at at low high f = judged at (number_field low high f)

abbrev pub mapped : {A B : Type 0} → (A → B) → Result A Refusal → Result B Refusal
mapped f (Ok x) = Ok (f x)
mapped f (Err e) = Err e

-- an id is a number from 0 to 255, a label one from 0 to 65,535
abbrev pub id_at : ℕ → List ℕ → Result ℕ Refusal
id_at at f = mapped mag (number_at at (pos 0) (pos 255) f)

abbrev pub label_at : ℕ → List ℕ → Result ℕ Refusal
label_at at f = mapped mag (number_at at (pos 0) (pos 65535) f)

-- r is what a conversion makes of the number of 32 bits in a field, where gives z q says that it may answer q at z; field at is told where there is no such number, and where the answer is an error
abbrev pub NumberBy : {T E : Type 0} → (ℤ → Result T E → Type 0) → ℕ → List ℕ → Result T Refusal → Type 0
NumberBy {T} {E} gives at f r =
    MatchResult r
    (λ x. (z : ℤ) × (number_field (neg_ℤ (pos (2 ^ 31))) (pos (2 ^ 31 - 1)) f ≡ Some z) × gives z (Ok x))
    (λ e. (e ≡ BadNumber at) × ((z : ℤ) → number_field (neg_ℤ (pos (2 ^ 31))) (pos (2 ^ 31 - 1)) f ≡ Some z → (d : E) × gives z (Err d)))

-- a letter is field 1, and n fields follow it; else the first missing or surplus field is told
abbrev pub expected : ℕ → List (List ℕ) → Result (Unit {0}) Refusal
expected n fs = cond (length fs == n) (Ok tt) (Err (FieldCount (min (length fs) n + 2)))

abbrev pub then : {A B : Type 0} → Result A Refusal → Result B Refusal → Result B Refusal
then (Ok x) r = r
then (Err e) r = Err e

-- N,label adds a node, R,id removes one, C empties: the letters are 78, 82 and 67
abbrev pub by_letter : ℕ → List (List ℕ) → Result Command Refusal
by_letter letter fs =
    cond (letter == 78) (then (expected 1 fs) (mapped AddNode (label_at 2 (first fs))))
    (cond (letter == 82) (then (expected 1 fs) (mapped RemoveNode (id_at 2 (first fs))))
    (cond (letter == 67) (then (expected 0 fs) (Ok Clear))
    (Err BadLetter)))

-- the first field is a letter, a single byte
abbrev pub command_of : List (List ℕ) → Result Command Refusal
command_of ((letter ∷ []) ∷ fs) = by_letter letter fs
command_of ((b ∷ c ∷ bs) ∷ fs) = Err BadLetter
command_of ([] ∷ fs) = Err BadLetter
command_of [] = Err BadLetter

abbrev pub command : List ℕ → Result Command Refusal
command line = command_of (fields line)
