-- Several expressions joined as a balanced tree.
use Rattle.std.specs.Prelude.{◌+◌, ◌*◌, ◌^◌, ◌<◌, ◌≤◌, ℕ, zero, suc, max, List, [], ◌∷◌, length, Option, Some, None}
use Rattle.vortex_model_table.specs.Expression.{Expression, literal, column, compare, both, either, negation, is_null, is_not_null, is_nan, between, like, row_count, statistic}
use Rattle.vortex_model_table.specs.Rewrite.{first_of_list}

-- an item or none as a list
abbrev pub as_list : Option Expression → List Expression
as_list None = []
as_list (Some e) = e ∷ []

-- neighbours joined, and an odd last one left alone
abbrev pub paired : (Expression → Expression → Expression) → List Expression → List Expression
paired join [] = []
paired join (x ∷ []) = x ∷ []
paired join (x ∷ y ∷ es) = join x y ∷ paired join es

-- n rounds of pairing
abbrev pub rounds : (Expression → Expression → Expression) → ℕ → List Expression → List Expression
rounds join zero es = es
rounds join (suc n) es = rounds join n (paired join es)

-- joined in rounds until one is left
abbrev pub collected : (Expression → Expression → Expression) → List Expression →
    Option Expression
collected join es = first_of_list (rounds join (length es) es)

-- how many nodes deep the tree is, less one
abbrev pub depth_of : Expression → ℕ
depth_of (literal k c) = 0
depth_of (column xs) = 0
depth_of (compare o x y) = suc (max (depth_of x) (depth_of y))
depth_of (both x y) = suc (max (depth_of x) (depth_of y))
depth_of (either x y) = suc (max (depth_of x) (depth_of y))
depth_of (negation x) = suc (depth_of x)
depth_of (is_null x) = suc (depth_of x)
depth_of (is_not_null x) = suc (depth_of x)
depth_of (is_nan x) = suc (depth_of x)
depth_of (between x lo hi s t) = suc (max (depth_of x) (max (depth_of lo) (depth_of hi)))
depth_of (like x form n c) = suc (max (depth_of x) (depth_of form))
depth_of row_count = 0
depth_of (statistic x a) = suc (depth_of x)

-- the depth of the deepest, and 0 of none
abbrev pub deepest : List Expression → ℕ
deepest [] = 0
deepest (e ∷ es) = max (depth_of e) (deepest es)

-- The tree of n expressions is at most ⌈log₂ n⌉ nodes deeper than the deepest of them.
pub record IsShallow (es : List Expression) (e : Expression) : Type 0 where
  pub levels : ℕ
  pub few : 2 ^ levels < 2 * length es
  pub within : depth_of e ≤ levels + deepest es
