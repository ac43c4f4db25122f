-- What the calls on ids answer, and the ids and places that they leave. Assumes nothing.
use Rattle.std.specs.Prelude.{ℕ, ◌+◌, Bool, cond, ◌&&◌, List, [], ◌∷◌, length, Some, None, Ok, Err, Option, Result, ◌==◌, nat_lt, slice_set}
use Rattle.std.specs.List.{slice_get}
use Rattle.errors.specs.declared.MatrixError.{MatrixError}
use Rattle.errors.specs.declared.MatrixError.TheVariants.{ShortMemory, NodeIxLimit, NoSpace, NodeMissed}
use Rattle.ids.specs.Ids.{Ids, live, count}

-- the id that is handed out next: the top of the stack, or the bound where the stack is empty
abbrev pub next_of : ℕ → List ℕ → ℕ
next_of bound [] = bound
next_of bound (k ∷ ks) = k

abbrev pub next : Ids → ℕ
next s = next_of s.bound s.stack

-- the ids once that one is handed out
abbrev pub taken_of : ℕ → List ℕ → Ids
taken_of bound [] = record { bound = bound + 1; stack = [] }
taken_of bound (k ∷ ks) = record { bound = bound; stack = ks }

abbrev pub taken : Ids → Ids
taken s = taken_of s.bound s.stack

-- the ids once k is vacated: the one just below the bound lowers it, any other goes on the stack
abbrev pub vacated : Ids → ℕ → Ids
vacated s k =
    cond (k + 1 == s.bound)
    (record { bound = k; stack = s.stack })
    (record { bound = s.bound; stack = k ∷ s.stack })

-- fewer places than are in use, which are as many as the bound
abbrev pub short : {N : Type 0} → Ids → List N → Bool
short s ps = nat_lt (length ps) s.bound

abbrev pub no_stack : List ℕ → Bool
no_stack ks = length ks == 0

-- no id to use again, and no place for a new one
abbrev pub crowded : {N : Type 0} → Ids → List N → Bool
crowded s ps = no_stack s.stack && s.bound == length ps

-- the weight of a live id
abbrev pub weight : {N : Type 0} → Ids → List N → ℕ → Option N
weight s ps k = cond (live s k) (slice_get ps k) None

-- what a call leaves: its answer, the ids and the places
pub record Outcome (A N : Type 0) : Type 0 where
  pub answer : Result A MatrixError
  pub ids : Ids
  pub places : List N

abbrev pub refused : {A N : Type 0} → MatrixError → Ids → List N → Outcome A N
refused e s ps = record { answer = Err e; ids = s; places = ps }

abbrev pub accepted : {A N : Type 0} → A → Ids → List N → Outcome A N
accepted x s ps = record { answer = Ok x; ids = s; places = ps }

-- whether a node can be added, or why not
abbrev pub room : {N : Type 0} → Ids → List N → Result (Unit {0}) MatrixError
room s ps =
    cond (short s ps) (Err ShortMemory)
    (cond (count s == 255) (Err NodeIxLimit)
    (cond (crowded s ps) (Err (NoSpace (s.bound + 1)))
    (Ok tt)))

abbrev pub added_by : {N : Type 0} → Result (Unit {0}) MatrixError → Ids → List N → N → Outcome ℕ N
added_by (Err e) s ps w = refused e s ps
added_by (Ok _) s ps w = accepted (next s) (taken s) (slice_set ps (next s) w)

-- adding a node of weight w
abbrev pub added : {N : Type 0} → Ids → List N → N → Outcome ℕ N
added s ps w = added_by (room s ps) s ps w

abbrev pub removed_of : {N : Type 0} → Option N → Ids → List N → ℕ → Outcome N N
removed_of None s ps k = refused (NodeMissed k) s ps
removed_of (Some w) s ps k = accepted w (vacated s k) ps

-- removing the node k; its place keeps what it holds
abbrev pub removed : {N : Type 0} → Ids → List N → ℕ → Outcome N N
removed s ps k = cond (short s ps) (refused ShortMemory s ps) (removed_of (weight s ps k) s ps k)

-- reading the weight of the node k
abbrev pub got : {N : Type 0} → Ids → List N → ℕ → Result (Option N) MatrixError
got s ps k = cond (short s ps) (Err ShortMemory) (Ok (weight s ps k))

abbrev pub replaced_of : {N : Type 0} → Option N → Ids → List N → ℕ → N → Outcome (Option N) N
replaced_of None s ps k w = accepted None s ps
replaced_of (Some old) s ps k w = accepted (Some old) s (slice_set ps k w)

-- another weight for the node k, if it is live
abbrev pub replaced : {N : Type 0} → Ids → List N → ℕ → N → Outcome (Option N) N
replaced s ps k w = cond (short s ps) (refused ShortMemory s ps) (replaced_of (weight s ps k) s ps k w)
