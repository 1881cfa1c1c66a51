-- Steps, and paths of them.
use Rattle.std.specs.Prelude.{◌≡◌, ◌⊎◌, ◌++◌, ◌&&◌, ℕ, length, List, [], ◌∷◌, Option, Some, None, Bool, not, nat_lt, filter}
use Rattle.std.specs.List.{list_any, starts_with, IsDistinct}
use Rattle.std.specs.Option.{option_eq}
use Rattle.std.specs.Str.{bytes_eq}
use Rattle.std.specs.Cmp.{IsEquivalence, on_equiv}
use Rattle.std.specs.Cmp.Lexicographic.{pointwise, options_equiv, lists_equiv, nat_list_eq_equiv}
use Rattle.vortex_model.specs.Path.{Step, name, element}

-- the name of the field that a step leads to
abbrev pub name_in : Step → Option (List ℕ)
name_in (name x) = Some x
name_in element = None

-- the steps are equal, and so are the paths
abbrev pub eq_step : Step → Step → Bool
eq_step s t = option_eq bytes_eq (name_in s) (name_in t)

abbrev pub eq_steps : List Step → List Step → Bool
eq_steps = pointwise eq_step

-- p is a prefix of q
abbrev pub Begins : List Step → List Step → Type 0
Begins p q = (rest : List Step) × (p ++ rest ≡ q)

-- one of the paths is a prefix of the other
abbrev pub Overlap : List Step → List Step → Type 0
Overlap p q = Begins p q ⊎ Begins q p

-- the path after its first step
abbrev pub without_first : List Step → Option (List Step)
without_first [] = None
without_first (s ∷ p) = Some p

-- both tests are equivalences
pub eq_step_equiv : IsEquivalence eq_step
eq_step_equiv = on_equiv name_in (options_equiv nat_list_eq_equiv)

pub eq_steps_equiv : IsEquivalence eq_steps
eq_steps_equiv = lists_equiv eq_step_equiv

-- the path is in the list
abbrev pub is_among : List (List Step) → List Step → Bool
is_among paths p = list_any (eq_steps p) paths

-- no two of them are equal
abbrev pub AreDistinct : List (List Step) → Type 0
AreDistinct = IsDistinct eq_steps

-- p is a proper prefix of q
abbrev pub begins_properly : List Step → List Step → Bool
begins_properly p q = nat_lt (length p) (length q) && starts_with eq_step q p

-- some path of the list is a proper prefix of q
abbrev pub lies_inside : List (List Step) → List Step → Bool
lies_inside paths q = list_any (λ p. begins_properly p q) paths

-- the paths without a proper prefix in the list
abbrev pub outermost_among : List (List Step) → List (List Step)
outermost_among paths = filter (λ p. not (lies_inside paths p)) paths
