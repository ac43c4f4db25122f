-- Every series of calls on ids, and what it hands out. Assumes nothing.
use Rattle.std.specs.Prelude.{◌≡◌, ℕ, zero, suc, ◌+◌, ◌<◌, max, Bool, true, false, cond, List, [], ◌∷◌, Ok, Err, Decides, Result, ◌==◌}
use Rattle.errors.specs.declared.MatrixError.{MatrixError}
use Rattle.ids.specs.Ids.{Ids, none, live, count}
use Rattle.ids.specs.Calls.{added, removed}

-- what an accepted call did to the ids
pub data Deed : Type 0 where
  handed : ℕ → Deed
  vacated : ℕ → Deed
  emptied : Deed

-- a history has the newest deed first
abbrev pub History : Type 0
History = List Deed

abbrev pub with_added : Result ℕ MatrixError → History → History
with_added (Ok k) h = handed k ∷ h
with_added (Err e) h = h

abbrev pub with_removed : {N : Type 0} → ℕ → Result N MatrixError → History → History
with_removed k (Ok w) h = vacated k ∷ h
with_removed k (Err e) h = h

-- a series of calls from no ids on, each upon the ids that the last one left, with places of any length and content
pub data Series (N : Type 0) : Ids → History → Type 0 where
  start : Series N none []
  add : {s : Ids} {h : History} → Series N s h → (ps : List N) (w : N) → Series N (added s ps w).ids (with_added (added s ps w).answer h)
  remove : {s : Ids} {h : History} → Series N s h → (ps : List N) (k : ℕ) → Series N (removed s ps k).ids (with_removed k (removed s ps k).answer h)
  clear : {s : Ids} {h : History} → Series N s h → Series N none (emptied ∷ h)

-- an id is live from when it was handed out until it was vacated or all were
abbrev pub lives : History → ℕ → Bool
lives [] k = false
lives (handed j ∷ h) k = cond (k == j) true (lives h k)
lives (vacated j ∷ h) k = cond (k == j) false (lives h k)
lives (emptied ∷ h) k = false

-- how many numbers below n pass a test
unfoldable pub counted : (ℕ → Bool) → ℕ → ℕ
counted p zero = 0
counted p (suc n) = cond (p n) 1 0 + counted p n

-- the largest count of ids live at one time
abbrev pub peak : History → ℕ
peak [] = 0
peak (d ∷ h) = max (counted (lives (d ∷ h)) 256) (peak h)

-- whether an id was ever handed out
abbrev pub handed_out : History → ℕ → Bool
handed_out [] k = false
handed_out (handed j ∷ h) k = cond (k == j) true (handed_out h k)
handed_out (vacated j ∷ h) k = handed_out h k
handed_out (emptied ∷ h) k = handed_out h k

-- what every series keeps
pub record Keeps (s : Ids) (h : History) : Type 0 where
  -- live by the history is live by the record
  pub live_same : (k : ℕ) → lives h k ≡ live s k
  -- the count is the number of ids that are live
  pub counts : count s ≡ counted (lives h) 256
  -- the ids ever handed out are the numbers below the largest count live at one time, and no others
  pub hands_out : (k : ℕ) → Decides (handed_out h k) (k < peak h)

abbrev pub SeriesKeep : Type 0 → Type 0
SeriesKeep N = (s : Ids) (h : History) → Series N s h → Keeps s h
