-- Numbered partitions, with whatever each has: finding, replacing, dropping and joining them.
use Rattle.std.specs.Prelude.{◌≡◌, ℕ, List, [], ◌∷◌, Option, Some, None, Bool, ◌==◌, ◌&&◌, nat_le, nat_lt, if◌then◌else◌, flat_map}

abbrev pub Partitions : Type 0 → Type 0
Partitions A = List (ℕ × A)

abbrev pub is_at : {A : Type 0} → ℕ → ℕ × A → Bool
is_at n e = e.0 == n

-- what the partition of the number has, if it is there
abbrev pub at_number : {A : Type 0} → Partitions A → ℕ → Option A
at_number [] n = None
at_number (e ∷ es) n = if is_at n e then Some e.1 else at_number es n

-- the partition of the number has this, if it is there
abbrev pub placed : {A : Type 0} → Partitions A → ℕ → A → Partitions A
placed [] n a = []
placed (e ∷ es) n a = if is_at n e then (e.0, a) ∷ es else e ∷ placed es n a

-- all but the partition of the number
abbrev pub dropped : {A : Type 0} → Partitions A → ℕ → Partitions A
dropped [] n = []
dropped (e ∷ es) n = if is_at n e then es else e ∷ dropped es n

-- The second number's partition is dropped, and the first's has what f makes of both.
abbrev pub joined_with : {A : Type 0} → (A → A → A) → Option A → Option A → Partitions A →
    ℕ → ℕ → Partitions A
joined_with f (Some a) (Some b) es m n = dropped (placed es m (f a b)) n
joined_with f a b es m n = es

abbrev pub joined : {A : Type 0} → (A → A → A) → Partitions A → ℕ → ℕ → Partitions A
joined f es m n = joined_with f (at_number es m) (at_number es n) es m n

-- what the partitions from the first number to before the second have, in order
abbrev pub between : {A : Type 0} → ℕ → ℕ → Partitions A → List A
between from to [] = []
between from to (e ∷ es) =
    if nat_le from e.0 && nat_lt e.0 to then e.1 ∷ between from to es else between from to es

-- the lists of those partitions put together
abbrev pub all_between : {A : Type 0} → ℕ → ℕ → Partitions (List A) → List A
all_between from to es = flat_map (λ xs. xs) (between from to es)

-- Both have the same numbers, and R relates what the partitions of each number have.
abbrev pub Each : {A B : Type 0} → (A → B → Type 0) → Partitions A → Partitions B → Type 0
Each R [] [] = Unit {0}
Each R (e ∷ es) (d ∷ ds) = (e.0 ≡ d.0) × R e.1 d.1 × Each R es ds
Each R es ds = ⊥
