-- The first line, and the lines after it, as a run meets them. Assumes nothing.
use Rattle.std.proofs.Common.{◌≡◌, ℕ, ◌+◌, ◌*◌, ◌^◌, ◌<◌, ◌≤◌, List, [], ◌∷◌, ◌++◌, length, Some, None, Option, sym, refl, ap, ◌∙◌, append_assoc, arith, length-append}
use Rattle.std.specs.List.{range_with_len}
use Rattle.std.proofs.lemmas.List.FromFn.{map-range_with_len_more}
use Rattle.std.proofs.lemmas.List.{map-id}
use Rattle.lines.specs.Lines.{Ending, Reading, filling, skipping, ended, stepped, completed, finished, with_line, given, lines}
use Rattle.lines.proofs.Giving.{gives_lines}
use Rattle.sink.specs.declared.Sink.{Sink}
use Rattle.sink.proofs.Writes.{wrote_none, wrote-append}
use Rattle.chart_file.specs.Chart.{State, answered, fresh, listing}
use Rattle.chart_file.specs.Printed.{WroteAtMost}
use Rattle.chart_file.specs.Text.{reply}
use Rattle.chart_file.specs.Output.{answers, after, numbered, kind_of, opened, opened_by, replies}
use Rattle.chart_file.specs.Turns.{next_text, next_line, next_state}

-- once a line has ended, the machine gives the lines of what follows
pub given_ended : (r : Reading) (e : Ending) (bs : List ℕ) → completed r ≡ Some e → given r bs ≡ lines bs
given_ended (filling p) e bs h = absurd (grind arith)
given_ended skipping e bs h = absurd (grind arith)
given_ended (ended d) e [] h = refl
given_ended (ended d) e (b ∷ bs) h = (gives_lines (filling []) refl).all (b ∷ bs)

pub opened_at : (r : Reading) (b : ℕ) (rest input : List ℕ) (e : Ending) → given r (b ∷ rest) ≡ lines input → Some e ≡ completed (stepped r b) → opened_by (kind_of e) (lines rest) ≡ opened (lines input)
opened_at r b rest input e all done =
    let after = given_ended (stepped r b) e rest (sym done) in
    let first : with_line (completed (stepped r b)) (given (stepped r b) rest) ≡ e ∷ lines rest = rw (sym done, after) refl in
    rw (sym all, first) refl

-- one line more, if one has ended
pub replies_next : (n : ℕ) (o : Option Ending) (es : List Ending) (s : State) → replies n (with_line o es) s ≡ next_text n o s ++ replies (next_line n o) es (next_state o s)
replies_next n None es s = refl
replies_next n (Some e) es s = append_assoc (reply n (answered e s).answer) (numbered (n + 1) (answers es (answered e s).state)) (listing (after es (answered e s).state))

pub counting_more : (n : ℕ) → range_with_len 0 (n + 1) ≡ range_with_len 0 n ++ n ∷ []
counting_more n =
    let more = map-range_with_len_more (λ x. x) 0 n n (omega arith) in
    sym (map-id (range_with_len 0 (n + 1))) ∙ more ∙ ap (λ xs. xs ++ n ∷ []) (map-id (range_with_len 0 n))

-- one text after another
pub wrote_both :
    {k m n : ℕ} {s t u : Sink} {x y : List ℕ} → m + n ≤ k → WroteAtMost m s t x → WroteAtMost n t u y
    → WroteAtMost k s u (x ++ y)
wrote_both {x} {y} le a b = record { wrote = wrote-append a.wrote b.wrote; bound = omega (arith, length-append x y, a.bound, b.bound) }

-- a run over the bytes after the first line: i of them are taken, bs are left
pub record Answering (s t : Sink) (all : List ℕ) (n : ℕ) (r : Reading) (bs : List ℕ) (chart : State) (i : ℕ) : Type 0 where
  pub done : List ℕ
  pub wrote : WroteAtMost (64 * i) s t done
  pub parts : done ++ replies n (given r bs) chart ≡ all
  pub low : n ≤ i + 2

pub answering_none :
    (s : Sink) (r : Reading) (input : List ℕ) → length s.out.now < 2 ^ 64 → given r input ≡ lines input
    → Answering s s (replies 2 (lines input) fresh) 2 r input fresh 0
answering_none s r input room gives =
    record {
      done = [];
      wrote = record { wrote = wrote_none s room; bound = omega arith };
      parts = ap (λ es. replies 2 es fresh) gives;
      low = omega arith;
    }

low_next : (n : ℕ) (o : Option Ending) → next_line n o ≤ n + 1
low_next n None = omega arith
low_next n (Some e) = omega arith

pub answering_more :
    {s t u : Sink} {all : List ℕ} (n : ℕ) (r : Reading) (b : ℕ) (bs : List ℕ) (chart : State) (i : ℕ)
    → Answering s t all n r (b ∷ bs) chart i
    → WroteAtMost 64 t u (next_text n (completed (stepped r b)) chart)
    → Answering s u all (next_line n (completed (stepped r b))) (stepped r b) bs (next_state (completed (stepped r b)) chart) (i + 1)
answering_more n r b bs chart i before text =
    let o = completed (stepped r b) in
    let next = replies_next n o (given (stepped r b) bs) chart in
    record {
      done = before.done ++ next_text n o chart;
      wrote = wrote_both (omega arith) before.wrote text;
      parts = append_assoc before.done (next_text n o chart) _ ∙ ap (λ rest. before.done ++ rest) (sym next) ∙ before.parts;
      low = omega (arith, before.low, low_next n o);
    }

pub answering_all :
    {s t u v : Sink} {all : List ℕ} (n : ℕ) (r : Reading) (chart : State) (i : ℕ)
    → Answering s t all n r [] chart i → i ≤ 65536
    → WroteAtMost 64 t u (next_text n (finished r) chart)
    → WroteAtMost 16384 u v (listing (next_state (finished r) chart))
    → WroteAtMost (2 ^ 32) s v all
answering_all n r chart i before few text listed =
    let next = replies_next n (finished r) [] chart in
    let whole = ap (λ rest. before.done ++ rest) (sym next) ∙ before.parts in
    rw (sym whole) (wrote_both (omega arith) before.wrote (wrote_both {k = 16448} (omega arith) text listed))
