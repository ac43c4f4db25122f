-- The lines of an input, and the machine that finds them byte by byte. Assumes nothing.
use Rattle.std.specs.Prelude.{◌≡◌, ℕ, ◌≤◌, false, cond, List, [], ◌∷◌, ◌++◌, map, length, Some, None, Option, ◌==◌, nat_le, nat_lt}
use Rattle.std.specs.List.{flat_map, AllByRecursion}

-- a completed line: its bytes, or that it has more than 40
pub data Ending : Type 0 where
  whole : List ℕ → Ending
  long : Ending

-- the byte b put before the first piece
abbrev pub longer : ℕ → List (List ℕ) → List (List ℕ)
longer b [] = (b ∷ []) ∷ []
longer b (p ∷ ps) = (b ∷ p) ∷ ps

-- an input cut at each byte 10; what follows the last of them is a piece too, unless it is empty
abbrev pub pieces : List ℕ → List (List ℕ)
pieces [] = []
pieces (b ∷ bs) = cond (b == 10) ([] ∷ pieces bs) (longer b (pieces bs))

-- a piece as a line
abbrev pub ending : List ℕ → Ending
ending p = cond (nat_le (length p) 40) (whole p) long

-- the lines of an input
abbrev pub lines : List ℕ → List Ending
lines bs = map ending (pieces bs)

-- no byte 10 is among these
abbrev pub Plain : List ℕ → Type 0
Plain p = AllByRecursion (λ b. (b == 10) ≡ false) p

-- a piece with the byte 10 that ends it
abbrev pub ended_piece : List ℕ → List ℕ
ended_piece p = p ++ 10 ∷ []

abbrev pub unless_empty : List ℕ → List (List ℕ)
unless_empty [] = []
unless_empty (b ∷ bs) = (b ∷ bs) ∷ []

-- ps are the pieces of bs: those that a byte 10 ends, and what follows them, unless that is empty; none has a byte 10 in it
pub record Cut (bs : List ℕ) (ps : List (List ℕ)) : Type 0 where
  pub before : List (List ℕ)
  pub rest : List ℕ
  pub made : bs ≡ flat_map ended_piece before ++ rest
  pub are : ps ≡ before ++ unless_empty rest
  pub plain_before : AllByRecursion Plain before
  pub plain_rest : Plain rest

-- the machine: it fills a line, skips the rest of one that is too long, or has just ended one
pub data Reading : Type 0 where
  filling : List ℕ → Reading
  skipping : Reading
  ended : Ending → Reading

-- the byte b after the bytes bs of a line
abbrev pub filled : List ℕ → ℕ → Reading
filled bs b = cond (b == 10) (ended (whole bs)) (cond (nat_lt (length bs) 40) (filling (bs ++ b ∷ [])) skipping)

abbrev pub stepped : Reading → ℕ → Reading
stepped (filling bs) b = filled bs b
stepped skipping b = cond (b == 10) (ended long) skipping
stepped (ended e) b = filled [] b

-- how many bytes of a line a state holds
abbrev pub used : Reading → ℕ
used (filling bs) = length bs
used skipping = 0
used (ended (whole bs)) = length bs
used (ended long) = 0

-- a state holds at most 40 bytes
abbrev pub Room : Reading → Type 0
Room r = used r ≤ 40

-- what a reader is: a state, and that it has room for its bytes
pub record Held : Type 0 where
  pub reading : Reading
  pub room : Room reading

-- the line that a state has just ended
abbrev pub completed : Reading → Option Ending
completed (filling bs) = None
completed skipping = None
completed (ended e) = Some e

-- the line that the end of the input ends
abbrev pub finished : Reading → Option Ending
finished (filling []) = None
finished (filling (b ∷ bs)) = Some (whole (b ∷ bs))
finished skipping = Some long
finished (ended e) = None

-- a whole line has at most 40 bytes
abbrev pub Short : Option Ending → Type 0
Short None = Unit {0}
Short (Some (whole bs)) = length bs ≤ 40
Short (Some long) = Unit {0}

abbrev pub with_line : Option Ending → List Ending → List Ending
with_line None es = es
with_line (Some e) es = e ∷ es

-- the lines that the machine ends over an input, from a state on
abbrev pub given : Reading → List ℕ → List Ending
given r [] = with_line (finished r) []
given r (b ∷ bs) = with_line (completed (stepped r b)) (given (stepped r b) bs)

-- from this state on the machine gives the lines of any input, and those are its pieces and no others
pub record GivesLines (r : Reading) : Type 0 where
  pub all : (bs : List ℕ) → given r bs ≡ lines bs
  pub pieces_are : (bs : List ℕ) → Cut bs (pieces bs)
  pub no_others : (bs : List ℕ) (ps : List (List ℕ)) → Cut bs ps → ps ≡ pieces bs
