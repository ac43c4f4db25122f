-- What every layout owes, at each capacity up to 256. Assumes nothing.
use Rattle.std.specs.Prelude.{◌≡◌, ℕ, ◌<◌, ◌≤◌, ◌⊎◌, Some, Option}

-- the pair (x, y) is (a, b), or its mirror
abbrev pub SameOrMirrored : ℕ → ℕ → ℕ → ℕ → Type 0
SameOrMirrored a b x y = ((a ≡ x) × (b ≡ y)) ⊎ ((a ≡ y) × (b ≡ x))

-- each pair below the capacity has a cell
abbrev pub EveryPair : (ℕ → ℕ → ℕ → Option ℕ) → Type 0
EveryPair place = (c a b : ℕ) → c ≤ 256 → a < c → b < c → (k : ℕ) × (place c a b ≡ Some k)

pub record Placing (total : ℕ → ℕ) (place : ℕ → ℕ → ℕ → Option ℕ) (named : ℕ → ℕ → Option (ℕ × ℕ)) : Type 0 where
  -- there are at most 65,536 cells
  pub few : (c : ℕ) → c ≤ 256 → total c ≤ 65536
  -- a pair that has a cell is below the capacity, and its cell is below the count
  pub within : (c a b k : ℕ) → c ≤ 256 → place c a b ≡ Some k → (a < c) × (b < c) × (k < total c)
  -- each cell below the count names a pair
  pub each : (c k : ℕ) → c ≤ 256 → k < total c → (p : ℕ × ℕ) × (named c k ≡ Some p)
  -- the pair that a cell names has that cell
  pub own : (c k : ℕ) (p : ℕ × ℕ) → c ≤ 256 → named c k ≡ Some p → place c p.0 p.1 ≡ Some k
  -- pairs that share a cell are equal or mirrored
  pub shared : (c a b x y k : ℕ) → c ≤ 256 → place c a b ≡ Some k → place c x y ≡ Some k → SameOrMirrored a b x y
  -- pairs that share a cell share theirs at every capacity
  pub alike : (c d a b x y k : ℕ) → c ≤ 256 → d ≤ 256 → place c a b ≡ Some k → place c x y ≡ Some k → place d a b ≡ place d x y

pub record Growing (total : ℕ → ℕ) (place : ℕ → ℕ → ℕ → Option ℕ) (wide : ℕ → ℕ) : Type 0 where
  -- the count never falls as the capacity rises
  pub rising : (c d : ℕ) → c ≤ d → d ≤ 256 → total c ≤ total d
  -- the capacity grown to for n ids is from n to 256
  pub enough : (n : ℕ) → n ≤ 256 → (n ≤ wide n) × (wide n ≤ 256)
  -- growing for n ids keeps the order of cells
  pub order : (c n a b x y i j k l : ℕ) → c < n → n ≤ 256 → place c a b ≡ Some i → place c x y ≡ Some j →
      place (wide n) a b ≡ Some k → place (wide n) x y ≡ Some l → i < j → k < l
  -- and lowers no pair's cell
  pub onward : (c n a b i k : ℕ) → c < n → n ≤ 256 → place c a b ≡ Some i → place (wide n) a b ≡ Some k → i ≤ k
