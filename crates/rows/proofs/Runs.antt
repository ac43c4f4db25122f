-- The cells move in runs, the last one first: each run leaves what growing gives. Assumes nothing.
use Rattle.std.proofs.Common.{◌≡◌, ℕ, ◌+◌, ◌-◌, ◌<◌, ◌≤◌, List, length, sym, ◌∙◌, arith}
use Rattle.std.proofs.lemmas.List.{ext_get_or}
use Rattle.rows.specs.Kinds.{Kind, Shape}
use Rattle.rows.specs.Rows.{carried, emptied, grown_below, lifted, moves_by}
use Rattle.rows.specs.Runs.{IsRun, Parted}
use Rattle.rows.proofs.Grown.{length-grown_below, get_or-grown_below, get_or-grown_above}
use Rattle.rows.proofs.Lifted.{emptied_are, lifted_are}
use Rattle.rows.proofs.Moves.{Moves}

module _ {C W L : Type 0} {kind : Kind C W} {shape : Shape L} {c d : ℕ} (moves : Moves kind shape c d) where
  pub forward : {end top : ℕ} → Parted shape c d end top → end ≤ top
  forward {end} parted = let below = parted.below (end - 1) in grind arith

  -- the cells between the last one that is yet to move and `top` become empty
  between : (cells : List C) {end top : ℕ} (k : ℕ) → Parted shape c d end top → k < top →
      (0 < end → end + moves_by shape c d (end - 1) ≤ k) → carried kind shape cells c (shape.named d k) ≡ kind.empty
  between cells k parted h past =
      let reached = moves.reached k (grind arith) in
      grind (arith, moves.no_less)

  -- where the cells below `end` stay, those from there to `top` are left to empty
  pub settled : (cells : List C) {end top : ℕ} → top ≤ length cells →
      Parted shape c d end top → (0 < end → moves_by shape c d (end - 1) ≡ 0) →
      emptied kind end top cells ≡ grown_below kind shape c d top cells
  settled cells {end} {top} fits parted stays =
      let are = emptied_are kind end top cells (forward parted) fits in
      ext_get_or kind.empty _ _ (are.long ∙ sym (length-grown_below kind shape c d top cells fits))
      (λ k _.
      let below = get_or-grown_below kind shape c d top cells k kind.empty in
      let above = get_or-grown_above kind shape c d top cells k kind.empty in
      let less = moves.no_less k (end - 1) in
      let there = moves.there cells k k in
      let none = between cells k parted in
      grind arith)

  module _ {start end shift top : ℕ} (parted : Parted shape c d end top) (run : IsRun shape c d start end shift) where
    pub parted_run : Parted shape c d start (start + shift)
    parted_run =
        let last = parted.below (end - 1) in
        record {
          within = grind arith;
          room = grind arith;
          below = λ i h. let less = moves.no_less i (start - 1) in grind arith;
          above = λ i h l. let less = moves.no_less start i h l in grind arith;
        }

    equally : (i : ℕ) → start ≤ i → i < end → moves_by shape c d i ≡ shift
    equally i h l =
        let less = moves.no_less start i h in
        let more = moves.no_less i (end - 1) in
        grind arith

    module _ (cells : List C) (fits : top ≤ length cells) where
      room : end + shift ≤ top
      room = let last = parted.below (end - 1) in grind arith

      -- the cells that are yet to move stand where they stood
      waiting : (k : ℕ) → k < start + shift →
          carried kind shape (lifted kind start end shift top cells) c (shape.named d k) ≡ carried kind shape cells c (shape.named d k)
      waiting k h =
          let now = lifted kind start end shift top cells in
          let are = lifted_are kind start end shift top cells (omega arith) room fits in
          let there = λ (i : ℕ). moves.there now i k in
          let above = parted_run.above in
          let reached = moves.reached k (grind arith) in
          grind (arith, moves.there cells)

      pub run_moved : grown_below kind shape c d (start + shift) (lifted kind start end shift top cells) ≡ grown_below kind shape c d top cells
      run_moved =
          let now = lifted kind start end shift top cells in
          let are = lifted_are kind start end shift top cells (omega arith) room fits in
          let f = room in
          ext_get_or kind.empty _ _
          (length-grown_below kind shape c d (start + shift) now (grind arith) ∙ are.long ∙ sym (length-grown_below kind shape c d top cells fits))
          (λ k _.
          let below = get_or-grown_below kind shape c d (start + shift) now k kind.empty in
          let above = get_or-grown_above kind shape c d (start + shift) now k kind.empty in
          let was_below = get_or-grown_below kind shape c d top cells k kind.empty in
          let was_above = get_or-grown_above kind shape c d top cells k kind.empty in
          let wait = waiting k in
          let far = equally (k - shift) in
          let there = moves.there cells (k - shift) k in
          let none = between cells k parted in
          grind arith)
