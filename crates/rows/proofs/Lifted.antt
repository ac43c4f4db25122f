-- What stands in each cell once a run has moved up. Assumes nothing.
use Rattle.std.proofs.Common.{◌≡◌, ℕ, ◌+◌, ◌-◌, ◌<◌, ◌≤◌, List, length, get_or, take, drop, replicate, rules}
use Rattle.std.proofs.lemmas.List.{places}
use Rattle.rows.specs.Kinds.{Kind}
use Rattle.rows.specs.Rows.{emptied, lifted}
use borrow.Rule.Slice.PartMut.{put_mid}

pub record Emptied {C W : Type 0} (kind : Kind C W) (a e : ℕ) (xs ys : List C) : Type 0 where
  pub long : length ys ≡ length xs
  pub below : (k : ℕ) → k < a → get_or ys k kind.empty ≡ get_or xs k kind.empty
  pub inside : (k : ℕ) → a ≤ k → k < e → get_or ys k kind.empty ≡ kind.empty
  pub above : (k : ℕ) → e ≤ k → get_or ys k kind.empty ≡ get_or xs k kind.empty

pub record Lifted {C W : Type 0} (kind : Kind C W) (start end shift top : ℕ) (xs ys : List C) : Type 0 where
  pub long : length ys ≡ length xs
  pub below : (k : ℕ) → k < start + shift → k < end + shift → get_or ys k kind.empty ≡ get_or xs k kind.empty
  pub inside : (k : ℕ) → start + shift ≤ k → k < end + shift → get_or ys k kind.empty ≡ get_or xs (k - shift) kind.empty
  pub nothing : (k : ℕ) → end + shift ≤ k → k < top → get_or ys k kind.empty ≡ kind.empty
  pub above : (k : ℕ) → top ≤ k → get_or ys k kind.empty ≡ get_or xs k kind.empty

module _ {C W : Type 0} (kind : Kind C W) (a e : ℕ) (xs : List C) (forward : a ≤ e) (fits : e ≤ length xs) where
  -- as a call of `fill` on the part leaves them
  pub filled : (part : List C) → part ≡ replicate (length (take (e - a) (drop a xs))) kind.empty → put_mid a (e - a) xs part ≡ emptied kind a e xs
  filled part is = search (rules, places)

  pub emptied_are : Emptied kind a e xs (emptied kind a e xs)
  emptied_are = record {
    long = search (rules, places);
    below = λ k h. search (rules, places);
    inside = λ k h l. search (rules, places);
    above = λ k h. search (rules, places);
  }

pub lifted_are : {C W : Type 0} (kind : Kind C W) (start end shift top : ℕ) (xs : List C) →
    start ≤ end → end + shift ≤ top → top ≤ length xs → Lifted kind start end shift top xs (lifted kind start end shift top xs)
lifted_are kind start end shift top xs forward below fits = record {
  long = search (rules, places);
  below = λ k h l. search (rules, places);
  inside = λ k h l. search (rules, places);
  nothing = λ k h l. search (rules, places);
  above = λ k h. search (rules, places);
}
