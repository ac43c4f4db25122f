-- Texts put together, and how long they are. Assumes nothing.
use Rattle.std.proofs.Common.{◌≡◌, ℕ, suc, ◌+◌, ◌*◌, ◌^◌, ◌<◌, ◌≤◌, List, [], ◌∷◌, ◌++◌, map, length, get_or, decimal, refl, ap, arith, length-append}
use Rattle.std.specs.List.{flat_map}
use Rattle.std.proofs.lemmas.Fmt.{length-decimal-le}
use Rattle.chart_file.specs.Text.{parted, printed}

pub joined-map : {X Y Z : Type 0} (f : Y → List Z) (g : X → Y) (xs : List X) → flat_map f (map g xs) ≡ flat_map (λ x. f (g x)) xs
joined-map f g [] = refl
joined-map f g (x ∷ xs) = ap (λ zs. f (g x) ++ zs) (joined-map f g xs)

-- numbers of 32 bits have ten digits at most
pub length-parted : (ns : List ℕ) → ((i : ℕ) → get_or ns i 0 < 2 ^ 32) → length (flat_map (λ n. parted (decimal n)) ns) ≤ 11 * length ns
length-parted [] small = omega arith
length-parted (n ∷ ns) small =
    let here = small 0 in
    let rest = length-parted ns (λ i. small (suc i)) in
    let first = length-decimal-le 10 n (omega arith) (omega arith) (omega arith) in
    let both = length-append (parted (decimal n)) (flat_map (λ n. parted (decimal n)) ns) in
    omega arith

pub length-printed : (word : List ℕ) (ns : List ℕ) → ((i : ℕ) → get_or ns i 0 < 2 ^ 32) → length (printed word (map decimal ns)) ≤ length word + 11 * length ns + 1
length-printed word ns small =
    let all = length-parted ns small in
    let same = joined-map parted decimal ns in
    let outer = length-append word (flat_map parted (map decimal ns) ++ 10 ∷ []) in
    let inner = length-append (flat_map parted (map decimal ns)) (10 ∷ []) in
    let long = ap length same in
    omega arith
