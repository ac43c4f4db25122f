-- The pieces of an input are how it is cut, and the only way.
use Rattle.std.proofs.Common.{◌≡◌, ℕ, Bool, true, false, eqb, List, [], ◌∷◌, ◌++◌, refl, subst, append_assoc}
use Rattle.std.specs.List.{flat_map, AllByRecursion}
use Rattle.std.proofs.lemmas.Bool.{eqb-true}
use Rattle.lines.specs.Lines.{Cut, Plain, ended_piece, pieces, unless_empty}

-- a piece that a byte 10 ends is the first
pub pieces_ended : (p rest : List ℕ) → Plain p → pieces (p ++ 10 ∷ rest) ≡ p ∷ pieces rest
pieces_ended [] rest h = refl
pieces_ended (b ∷ p) rest h = rw (h.0, pieces_ended p rest h.1)

pub pieces_rest : (p : List ℕ) → Plain p → pieces p ≡ unless_empty p
pieces_rest [] h = refl
pieces_rest (b ∷ []) h = rw h.0
pieces_rest (b ∷ c ∷ p) h = rw (h.0, pieces_rest (c ∷ p) h.1)

pieces_joined : (ps : List (List ℕ)) (rest : List ℕ) → AllByRecursion Plain ps → pieces (flat_map ended_piece ps ++ rest) ≡ ps ++ pieces rest
pieces_joined [] rest h = refl
pieces_joined (p ∷ ps) rest h = simp append_assoc (rw (pieces_ended p (flat_map ended_piece ps ++ rest) h.0, pieces_joined ps rest h.1))

-- no other pieces serve
pub pieces_only : (bs : List ℕ) (ps : List (List ℕ)) → Cut bs ps → ps ≡ pieces bs
pieces_only bs ps c = rw (c.are, c.made, pieces_joined c.before c.rest c.plain_before, pieces_rest c.rest c.plain_rest)

-- every input is cut in some way
some_cut : (bs : List ℕ) → (ps : List (List ℕ)) × Cut bs ps
some_cut [] = ([], record { before = []; rest = []; made = refl; are = refl; plain_before = tt; plain_rest = tt })
some_cut (b ∷ bs) = let c = (some_cut bs).1 in by (eqb b 10) refl c.before c.rest c.made c.plain_before c.plain_rest
  where
    by : (t : Bool) → eqb b 10 ≡ t → (qs : List (List ℕ)) (rest : List ℕ) → bs ≡ flat_map ended_piece qs ++ rest → AllByRecursion Plain qs → Plain rest → (ps : List (List ℕ)) × Cut (b ∷ bs) ps
    by true e qs rest m hs h =
        let is : b ≡ 10 = eqb-true b 10 e in
        (_, record { before = [] ∷ qs; rest = rest; made = cc; are = refl; plain_before = (tt, hs); plain_rest = h })
    by false e [] rest m hs h = (_, record { before = []; rest = b ∷ rest; made = cc; are = refl; plain_before = tt; plain_rest = (e, h) })
    by false e (q ∷ qs) rest m hs h = (_, record { before = (b ∷ q) ∷ qs; rest = rest; made = cc; are = refl; plain_before = ((e, hs.0), hs.1); plain_rest = h })

pub pieces_are : (bs : List ℕ) → Cut bs (pieces bs)
pieces_are bs = let s = some_cut bs in subst (Cut bs) (pieces_only bs s.0 s.1) s.1
