-- The ids that any series of calls hands out. Assumes nothing.
use Rattle.std.proofs.Common.{◌≡◌, ℕ, ◌+◌, ◌<◌, ◌≤◌, true, [], ◌∷◌, length, Decides, refl, ⊎_elim, arith}
use Rattle.std.proofs.Math.Path.{fun_ext}
use Rattle.std.proofs.lemmas.Bool.Decides.{nat_tests}
use Rattle.ids.specs.Ids.{Ids, none, live, count, sound}
use Rattle.ids.specs.Calls.{next, taken, vacated}
use Rattle.ids.specs.Series.{History, Series, start, add, remove, clear, handed, vacated as vacated_deed, emptied, lives, counted, peak, handed_out, SeriesKeep}
use Rattle.ids.proofs.Live.{counted_live}
use Rattle.ids.proofs.Vacating.{sound_lower}
use Rattle.ids.proofs.Adding.{added_cases, removed_cases}

-- what every series keeps
pub record Holds (s : Ids) (h : History) : Type 0 where
  pub once : sound s.bound s.stack ≡ true
  pub bounded : s.bound ≤ 255
  -- live by the history is live by the record
  pub same : (k : ℕ) → lives h k ≡ live s k
  pub reached : s.bound ≤ peak h
  pub below : (k : ℕ) → Decides (handed_out h k) (k < peak h)

-- the count of live ids, by the history and by the record
counted_lives : (s : Ids) (h : History) → sound s.bound s.stack ≡ true → s.bound ≤ 255 → ((k : ℕ) → lives h k ≡ live s k) → counted (lives h) 256 + length s.stack ≡ s.bound
counted_lives s h once low same = rw (fun_ext same) (counted_live s.bound 256 s.stack (omega arith) once)

holds_taken : (s : Ids) (h : History) → (count s ≡ 255 → ⊥) → Holds s h → Holds (taken s) (handed (next s) ∷ h)
holds_taken s h few holds =
    let once : sound (taken s).bound (taken s).stack ≡ true = grind (arith, nat_tests) in
    let low : (taken s).bound ≤ 255 = grind (arith, nat_tests) in
    let same : (k : ℕ) → lives (handed (next s) ∷ h) k ≡ live (taken s) k = λ k. grind (arith, nat_tests, holds.same k) in
    let all = counted_lives (taken s) (handed (next s) ∷ h) once low same in
    grind (arith, nat_tests)

holds_vacated : (s : Ids) (h : History) (k : ℕ) → live s k ≡ true → Holds s h → Holds (vacated s k) (vacated_deed k ∷ h)
holds_vacated s h k alive holds =
    let once : sound (vacated s k).bound (vacated s k).stack ≡ true = grind (arith, nat_tests, sound_lower s.bound s.stack) in
    let low : (vacated s k).bound ≤ 255 = grind (arith, nat_tests) in
    let same : (j : ℕ) → lives (vacated_deed k ∷ h) j ≡ live (vacated s k) j = λ j. grind (arith, nat_tests, holds.same j) in
    let all = counted_lives (vacated s k) (vacated_deed k ∷ h) once low same in
    grind (arith, nat_tests)

holds_emptied : (s : Ids) (h : History) → Holds s h → Holds none (emptied ∷ h)
holds_emptied s h holds =
    let all = counted_lives none (emptied ∷ h) refl (omega arith) (λ k. grind (arith, nat_tests)) in
    grind (arith, nat_tests)

holds_start : Holds none []
holds_start = grind (arith, nat_tests)

pub holds : {N : Type 0} {s : Ids} {h : History} → Series N s h → Holds s h
holds start = holds_start
holds (add {s} {h} before ps w) =
    ⊎_elim
    (λ r. let e = r.1 in rw e (holds before))
    (λ r. let e = r.1 in rw e (holds_taken s h r.0 (holds before)))
    (added_cases s ps w)
holds (remove {s} {h} before ps k) =
    ⊎_elim
    (λ r. let e = r.1 in rw e (holds before))
    (λ r. let e = r.1.1 in rw e (holds_vacated s h k r.0 (holds before)))
    (removed_cases s ps k)
holds (clear {s} {h} before) = holds_emptied s h (holds before)

pub series_keep : {N : Type 0} → SeriesKeep N
series_keep s h series =
    let kept = holds series in
    let all = counted_lives s h kept.once kept.bounded kept.same in
    record { live_same = kept.same; counts = omega arith; hands_out = kept.below }
