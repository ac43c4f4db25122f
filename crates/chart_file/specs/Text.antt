-- The lines that are printed. Assumes nothing.
use Rattle.std.specs.Prelude.{ℕ, List, [], ◌∷◌, ◌++◌, Ok, Err, codes, decimal, Result}
use Rattle.std.specs.List.{flat_map}
use Rattle.commands.specs.Refusals.{field, number}
use Rattle.commands.specs.declared.refusal.Refusal.{Refusal}
use Rattle.chart_file.specs.declared.answer.Answer.{Answer}
use Rattle.chart_file.specs.declared.answer.Answer.TheVariants.{Id, Was, Done}

-- a text after the comma that parts it from the one before
abbrev pub parted : List ℕ → List ℕ
parted text = 44 ∷ text

-- a word and texts, parted by commas, with the byte 10 that ends the line
abbrev pub printed : List ℕ → List (List ℕ) → List ℕ
printed word texts = word ++ (flat_map parted texts ++ 10 ∷ [])

-- the line that answers the line n: `no,line,field,number` where it is refused
abbrev pub reply : ℕ → Result Answer Refusal → List ℕ
reply n (Ok (Id k)) = printed (codes "id") (decimal k ∷ [])
reply n (Ok (Was label)) = printed (codes "was") (decimal label ∷ [])
reply n (Ok Done) = printed (codes "done") []
reply n (Err r) = printed (codes "no") (decimal n ∷ decimal (field r) ∷ decimal (number r) ∷ [])

abbrev pub node_line : ℕ → ℕ → List ℕ
node_line id label = printed (codes "node") (decimal id ∷ decimal label ∷ [])

abbrev pub end_line : ℕ → ℕ → List ℕ
end_line nodes edges = printed (codes "end") (decimal nodes ∷ decimal edges ∷ [])
