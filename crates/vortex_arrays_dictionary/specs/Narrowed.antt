-- Integers in the narrowest type of their signedness.
use Rattle.std.specs.Prelude.{◌≡◌, ◌<◌, ◌≤ℤ◌, ℕ, ℤ, pos, List, Bool, true, cond, length, slice_index_or}
use Rattle.vortex_model.specs.LogicalType.{IntKind}
use Rattle.vortex_model.specs.Valid.{InRange, in_range}
use Rattle.vortex_dtype_ptype.specs.Numbers.{NumberKind, integral, is_natural, reach_of}
use Rattle.vortex_arrays_model.specs.Layout.{Layout, is_valid, rows_of}
use Rattle.vortex_arrays_model.specs.Parts.{valid_in}
use Rattle.vortex_arrays_leaf.specs.Shapes.{type_in, integers_in}

-- the type has each of the first n integers that counts
abbrev pub HoldsWhere : IntKind → (ℕ → Bool) → List ℤ → ℕ → Type 0
HoldsWhere k counts zs n =
    (i : ℕ) → i < n → counts i ≡ true → InRange k (slice_index_or zs i (pos 0))

-- the type has the integer of each row that is not null
abbrev pub HoldsRows : IntKind → Layout → Type 0
HoldsRows k a = HoldsWhere k (is_valid (valid_in a)) (integers_in a) (length (integers_in a))

-- r has the rows of a and the same signedness, and no narrower type of that signedness has them
pub record IsNarrowed (a r : Layout) : Type 0 where
  pub rows : rows_of r ≡ rows_of a
  pub nulls : valid_in r ≡ valid_in a
  pub sign : is_natural (type_in r) ≡ is_natural (type_in a)
  pub narrow : (k : IntKind) → is_natural k ≡ is_natural (type_in a) → HoldsRows k a →
      reach_of (type_in r) ≤ℤ reach_of k

-- Of 0 and the first n integers that count, the least and the greatest, as far as types go: an
-- integer type that has these two has all.
pub record AreExtremes (counts : ℕ → Bool) (zs : List ℤ) (n : ℕ) (least greatest : ℤ) : Type 0
  where
    pub low : least ≤ℤ pos 0
    pub high : pos 0 ≤ℤ greatest
    pub held : (k : IntKind) → HoldsWhere k counts zs n → InRange k least × InRange k greatest
    pub hold : (k : IntKind) → InRange k least → InRange k greatest → HoldsWhere k counts zs n

-- the type is of this sign and has both integers, and no narrower one does
pub record HoldsBothNarrowly (natural : Bool) (x y : ℤ) (i : IntKind) : Type 0 where
  pub sign : is_natural i ≡ natural
  pub first : InRange i x
  pub second : InRange i y
  pub narrow : (j : IntKind) → is_natural j ≡ natural → InRange j x → InRange j y →
      reach_of i ≤ℤ reach_of j

abbrev pub IsNarrowKind : Bool → ℤ → ℤ → NumberKind → Type 0
IsNarrowKind natural x y (integral i) = HoldsBothNarrowly natural x y i
IsNarrowKind natural x y k = ⊥

-- the narrowest type with the signedness of an integer type
abbrev pub IsNarrowestOf : NumberKind → ℤ → ℤ → NumberKind → Type 0
IsNarrowestOf (integral j) x y k = IsNarrowKind (is_natural j) x y k
IsNarrowestOf j x y k = ⊥

-- the integer where the type has it, and else 0
abbrev pub held_or_zero : IntKind → ℤ → ℤ
held_or_zero k z = cond (in_range k z) z (pos 0)
