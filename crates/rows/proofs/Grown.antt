-- What growing leaves: the length, what each pair held, and the cells past those in use. Assumes nothing.
use Rattle.std.proofs.Common.{◌≡◌, ℕ, ◌<◌, ◌≤◌, List, length, get_or, drop, Some, arith, rules}
use Rattle.std.proofs.lemmas.List.{drop_at, places}
use Rattle.std.proofs.lemmas.List.FromFn.{get_or-map-range_with_len, length-map-range_with_len}
use Rattle.layouts.specs.Laws.{Placing}
use Rattle.rows.specs.Kinds.{Kind, Shape}
use Rattle.rows.specs.Rows.{grown, grown_below, held, carried}

pub length-grown_below : {C W L : Type 0} (kind : Kind C W) (shape : Shape L) (c d n : ℕ) (cells : List C) →
    n ≤ length cells → length (grown_below kind shape c d n cells) ≡ length cells
unfolding grown_below
length-grown_below kind shape c d n cells h = search (rules, places, length-map-range_with_len)

pub get_or-grown_below : {C W L : Type 0} (kind : Kind C W) (shape : Shape L) (c d n : ℕ) (cells : List C) (k : ℕ) (x : C) →
    k < n → get_or (grown_below kind shape c d n cells) k x ≡ carried kind shape cells c (shape.named d k)
unfolding grown_below
get_or-grown_below kind shape c d n cells k x h = grind (arith, places, get_or-map-range_with_len, length-map-range_with_len)

pub get_or-grown_above : {C W L : Type 0} (kind : Kind C W) (shape : Shape L) (c d n : ℕ) (cells : List C) (k : ℕ) (x : C) →
    n ≤ k → get_or (grown_below kind shape c d n cells) k x ≡ get_or cells k x
unfolding grown_below
get_or-grown_above kind shape c d n cells k x h = search (rules, places, length-map-range_with_len)

pub length-grown : {C W L : Type 0} (kind : Kind C W) (shape : Shape L) (c d : ℕ) (cells : List C) →
    shape.total d ≤ length cells → length (grown kind shape c d cells) ≡ length cells
length-grown kind shape c d cells = length-grown_below kind shape c d (shape.total d) cells

pub drop-grown : {C W L : Type 0} (kind : Kind C W) (shape : Shape L) (c d : ℕ) (cells : List C) →
    drop (shape.total d) (grown kind shape c d cells) ≡ drop (shape.total d) cells
unfolding grown_below
drop-grown kind shape c d cells = drop_at _ _ _ (length-map-range_with_len _ 0 (shape.total d))

-- the pair that a cell names at d held at c what each pair with that cell held
pub carried_is : {C W L : Type 0} (kind : Kind C W) (shape : Shape L) → Placing shape.total shape.place shape.named →
    (c d : ℕ) (cells : List C) (a b k : ℕ) → c ≤ 256 → d ≤ 256 → shape.place d a b ≡ Some k →
    carried kind shape cells c (shape.named d k) ≡ held kind cells (shape.place c a b)
carried_is kind shape placing c d cells a b k hc hd e =
    let p = placing.each d k hd (placing.within d a b k hd e).2 in
    let own = placing.own d k p.0 hd p.1 in
    let alike = placing.alike d c p.0.0 p.0.1 a b k hd hc own e in
    grind arith

-- a pair that has a cell at d holds there what it held at c, the empty cell where it had none
pub held_grown : {C W L : Type 0} (kind : Kind C W) (shape : Shape L) → Placing shape.total shape.place shape.named →
    (c d : ℕ) (cells : List C) (a b k : ℕ) → c ≤ 256 → d ≤ 256 → shape.place d a b ≡ Some k →
    held kind (grown kind shape c d cells) (shape.place d a b) ≡ held kind cells (shape.place c a b)
held_grown kind shape placing c d cells a b k hc hd e =
    let is = carried_is kind shape placing c d cells a b k hc hd e in
    let now = get_or-grown_below kind shape c d (shape.total d) cells k kind.empty (placing.within d a b k hd e).2 in
    grind arith
