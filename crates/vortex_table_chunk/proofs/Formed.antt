-- What is true of each chunk of a table.
use Rattle.std.proofs.Common.{◌≡◌, refl, sym, ap, subst, ◌∙◌, ℕ, ◌<◌, nat_lt, List, map, Bool, true, ◌&&◌, IsTrue, arith}
use Rattle.std.proofs.lemmas.Bool.Decides.{nat_tests}
use Rattle.std.specs.Cmp.{first_so, second_so}
use Rattle.vortex_model.specs.Content.{null, scalar, equal_content}
use Rattle.vortex_model.specs.LogicalType.{LogicalType, eq_type}
use Rattle.vortex_model.specs.Path.{Positions, eq_positions}
use Rattle.vortex_model_table.proofs.Equality.{content_passes}
use Rattle.vortex_model.proofs.Tests.{kind_so}
use Rattle.vortex_arrays_model.specs.Layout.{len_of, array_type_of}
use Rattle.vortex_table_schema.specs.Leaves.{leaf_positions}
use Rattle.vortex_table_chunk.specs.Bounds.{AreBoundsOf, are_typed_at}
use Rattle.vortex_table_chunk.specs.Chunk.{chunk_rows}
use Rattle.vortex_table_chunk.specs.declared.chunk.Chunk.{Chunk}
use Rattle.vortex_table_schema.proofs.Places.{positions_so, positions_itself, by_steps}
use Rattle.vortex_table_chunk.specs.Formed.{is_formed, eq_leaves, are_lengths_of}
use Rattle.vortex_table_chunk.proofs.EqualLeaves.{leaves_so, leaves_same}

-- bound lengths that are those of the type's leaves
pub lengths_so : (L : Positions → ℕ) (k : LogicalType) (lengths : List ℕ) → are_lengths_of L k lengths ≡ true → lengths ≡ map L (leaf_positions k)
lengths_so L k lengths h = positions_so lengths (map L (leaf_positions k)) (sym (by_steps lengths (map L (leaf_positions k))) ∙ h)

pub lengths_same : (L : Positions → ℕ) (k : LogicalType) (lengths : List ℕ) → lengths ≡ map L (leaf_positions k) → are_lengths_of L k lengths ≡ true
lengths_same L k lengths e = by_steps lengths (map L (leaf_positions k)) ∙ ap (eq_positions lengths) (sym e) ∙ positions_itself lengths

-- equal types
type_itself : (k : LogicalType) → eq_type k k ≡ true
type_itself k = first_so (eq_type k k) (equal_content null null) (content_passes (scalar k null) (scalar k null) refl)

pub type_same : (k l : LogicalType) → k ≡ l → eq_type k l ≡ true
type_same k l e = ap (eq_type k) (sym e) ∙ type_itself k

above_zero : (n : ℕ) → nat_lt 0 n ≡ true → 0 < n
above_zero n h = grind (arith, nat_tests, h)

not_none : (n : ℕ) → 0 < n → nat_lt 0 n ≡ true
not_none n h = grind (arith, nat_tests, h)

module _ (L : Positions → ℕ) (k : LogicalType) (c : Chunk) (formed : IsTrue (is_formed L k c)) where
  abbrev is_typed : Bool
  is_typed = eq_type (array_type_of c.array) k

  abbrev is_led : Bool
  is_led = eq_leaves c.leaves.value.items (leaf_positions k)

  abbrev is_as_long : Bool
  is_as_long = are_lengths_of L k c.lengths.value.items

  abbrev is_summed : Bool
  is_summed = are_typed_at k c.leaves.value.items c.bounds.items

  abbrev has_rows : Bool
  has_rows = nat_lt 0 (len_of c.array)

  behind_count : is_typed && (is_led && (is_as_long && is_summed)) ≡ true
  behind_count = second_so has_rows (is_typed && (is_led && (is_as_long && is_summed))) formed

  behind_type : is_led && (is_as_long && is_summed) ≡ true
  behind_type = second_so is_typed (is_led && (is_as_long && is_summed)) behind_count

  behind_leaves : is_as_long && is_summed ≡ true
  behind_leaves = second_so is_led (is_as_long && is_summed) behind_type

  pub some_rows : 0 < len_of c.array
  some_rows = above_zero (len_of c.array) (first_so has_rows (is_typed && (is_led && (is_as_long && is_summed))) formed)

  -- the array is of the type
  pub of_type : array_type_of c.array ≡ k
  of_type = kind_so (array_type_of c.array) k (first_so is_typed (is_led && (is_as_long && is_summed)) behind_count)

  pub led : c.leaves.value.items ≡ leaf_positions k
  led = leaves_so c.leaves.value.items (leaf_positions k) (first_so is_led (is_as_long && is_summed) behind_type)

  pub as_long : c.lengths.value.items ≡ map L (leaf_positions k)
  as_long = lengths_so L k c.lengths.value.items (first_so is_as_long is_summed behind_leaves)

  pub summed : is_summed ≡ true
  summed = second_so is_as_long is_summed behind_leaves

-- a formed chunk has the statistics of the type's leaves
pub formed_honest : (L : Positions → ℕ) (k : LogicalType) (c : Chunk) → IsTrue (is_formed L k c) → AreBoundsOf k (map L (leaf_positions k)) (leaf_positions k) c.bounds.items (chunk_rows c)
formed_honest L k c formed =
    let bounds = c.bounds.items in let rows = chunk_rows c in
    subst (λ ns. AreBoundsOf k ns (leaf_positions k) bounds rows) (as_long L k c formed)
    (subst (λ ls. AreBoundsOf k c.lengths.value.items ls bounds rows) (led L k c formed)
    (subst (λ t. AreBoundsOf t c.lengths.value.items c.leaves.value.items bounds rows) (of_type L k c formed) c.honest))

-- what all hold of is formed
pub formed_so : (L : Positions → ℕ) (k : LogicalType) (c : Chunk) → 0 < len_of c.array → array_type_of c.array ≡ k → c.leaves.value.items ≡ leaf_positions k →
    c.lengths.value.items ≡ map L (leaf_positions k) → are_typed_at k c.leaves.value.items c.bounds.items ≡ true → is_formed L k c ≡ true
formed_so L k c some typed leaves lengths sums = λ i.
    not_none (len_of c.array) some i && (type_same (array_type_of c.array) k typed i && (leaves_same c.leaves.value.items (leaf_positions k) leaves i && (lengths_same L k c.lengths.value.items lengths i && sums i)))
