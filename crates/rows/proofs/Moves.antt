-- Where the cells go as a layout grows: up, and in their order. Assumes nothing.
use Rattle.std.proofs.Common.{◌≡◌, ℕ, zero, suc, ◌+◌, ◌-◌, ◌<◌, ◌≤◌, ◌⊎◌, List, get_or, Some, None, Option, refl, inl, inr, arith}
use Rattle.layouts.specs.Laws.{EveryPair, Growing, Placing}
use Rattle.rows.specs.Kinds.{Kind, Shape}
use Rattle.rows.specs.Rows.{carried, moves_by}
use Rattle.rows.specs.Runs.{Grows}
use Rattle.rows.proofs.Grown.{carried_is}

-- the pair that cell i names at c, with its cell at d
record Moving {L : Type 0} (shape : Shape L) (c d i : ℕ) : Type 0 where
  pub row : ℕ
  pub column : ℕ
  pub from : shape.place c row column ≡ Some i
  pub to : shape.place d row column ≡ Some (i + moves_by shape c d i)

-- cell k of d is one that a cell of c goes to, or stays empty
abbrev pub Reached : {C W L : Type 0} → Kind C W → Shape L → ℕ → ℕ → ℕ → Type 0
Reached {C} kind shape c d k =
    ((i : ℕ) × (i < shape.total c) × (k ≡ i + moves_by shape c d i))
    ⊎ ((cells : List C) → carried kind shape cells c (shape.named d k) ≡ kind.empty)

-- what is used of a layout to move the cells in runs
pub record Moves {C W L : Type 0} (kind : Kind C W) (shape : Shape L) (c d : ℕ) : Type 0 where
  pub within : (i : ℕ) → i < shape.total c → i + moves_by shape c d i < shape.total d
  -- a later cell goes no less far
  pub no_less : (i j : ℕ) → i ≤ j → j < shape.total c → moves_by shape c d i ≤ moves_by shape c d j
  -- what a cell held stands where it goes
  pub there : (cells : List C) (i k : ℕ) → i < shape.total c → k ≡ i + moves_by shape c d i →
      carried kind shape cells c (shape.named d k) ≡ get_or cells i kind.empty
  pub reached : (k : ℕ) → k < shape.total d → Reached kind shape c d k

-- where the sums rise, the distances do not fall
never_less : (f : ℕ → ℕ) (m : ℕ) → ((i j : ℕ) → i < j → j < m → i + f i < j + f j) → (i n : ℕ) → i + n < m → f i ≤ f (i + n)
never_less f m up i zero h = grind arith
never_less f m up i (suc n) h =
    let r = never_less f m up i n in
    let u = up (i + n) (i + suc n) in
    grind arith

module _ {L : Type 0} {shape : Shape L} {c d : ℕ} (every : EveryPair shape.place)
    (placing : Placing shape.total shape.place shape.named)
    (growing : Growing shape.total shape.place shape.wide) (grows : Grows shape c d) where
  bounds : (c < d) × (d ≤ 256)
  bounds = grind (arith, growing.enough grows.ids)

  moving : (i : ℕ) → i < shape.total c → Moving shape c d i
  moving i h =
      let b = bounds in
      let p = placing.each c i (omega arith) h in
      let from = placing.own c i p.0 (omega arith) p.1 in
      let in_c = placing.within c p.0.0 p.0.1 i (omega arith) from in
      let t = every d p.0.0 p.0.1 b.1 (omega arith) (omega arith) in
      let to : shape.place (shape.wide grows.ids) p.0.0 p.0.1 ≡ Some t.0 = cc in
      let up = growing.onward c grows.ids p.0.0 p.0.1 i t.0 grows.more grows.few from to in
      record { row = p.0.0; column = p.0.1; from = from; to = grind arith }

  within : (i : ℕ) → i < shape.total c → i + moves_by shape c d i < shape.total d
  within i h = let p = moving i h in grind (arith, placing.within d p.row p.column (i + moves_by shape c d i))

  in_order : (i j : ℕ) → i < j → j < shape.total c → i + moves_by shape c d i < j + moves_by shape c d j
  in_order i j l h =
      let p = moving i (omega arith) in
      let q = moving j h in
      grind (arith, growing.order c grows.ids p.row p.column q.row q.column i j)

  no_less : (i j : ℕ) → i ≤ j → j < shape.total c → moves_by shape c d i ≤ moves_by shape c d j
  no_less i j l h = let s = never_less (moves_by shape c d) (shape.total c) in_order i (j - i) in grind arith

  carried_there : {C W : Type 0} (kind : Kind C W) (cells : List C) (i k : ℕ) → i < shape.total c →
      k ≡ i + moves_by shape c d i → carried kind shape cells c (shape.named d k) ≡ get_or cells i kind.empty
  carried_there kind cells i k h e =
      let p = moving i h in
      let is = carried_is kind shape placing c d cells p.row p.column k (omega arith) bounds.1 in
      grind arith

  reached_at : {C W : Type 0} (kind : Kind C W) (k : ℕ) (p : ℕ × ℕ) (o : Option ℕ) → shape.named d k ≡ Some p →
      shape.place c p.0 p.1 ≡ o → Reached kind shape c d k
  reached_at kind k p None e f = inr (λ cells. grind arith)
  reached_at kind k p (Some i) e f =
      let b = bounds in
      let h = (placing.within c p.0 p.1 i (omega arith) f).2 in
      let q = moving i h in
      let own = placing.own d k p b.1 e in
      let same = placing.alike c d p.0 p.1 q.row q.column i (omega arith) b.1 f q.from in
      inl (i, h, cc)

  reached : {C W : Type 0} (kind : Kind C W) (k : ℕ) → k < shape.total d → Reached kind shape c d k
  reached kind k h = let p = placing.each d k bounds.1 h in reached_at kind k p.0 _ p.1 refl

  pub moves : {C W : Type 0} (kind : Kind C W) → Moves kind shape c d
  moves kind = record { within = within; no_less = no_less; there = carried_there kind; reached = reached kind }
