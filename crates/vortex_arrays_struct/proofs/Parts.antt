-- The part of an array one step down, and deeper parts.
use Rattle.std.proofs.Common.{◌≡◌, ◌<◌, ◌≤◌, ℕ, pos, zero, suc, Bool, true, List, [], ◌∷◌, length, get_or, slice_get, Option, Some, None, option_map, option_and_then, refl, sym, ap, subst, ◌∙◌, arith}
use Rattle.std.proofs.lemmas.List.{get_or-map, length-map}
use Rattle.vortex_model.specs.LogicalType.{LogicalType, Fields, struct, nullability_of, either_nullable, with_nullability, nullable_inside}
use Rattle.vortex_model.specs.Content.{Content, null, integer, Raw, content_of}
use Rattle.vortex_model.specs.Path.{Positions, field_at, part_at, type_at, at}
use Rattle.vortex_model.specs.Valid.{valid}
use Rattle.vortex_model.proofs.Paths.{at_null}
use Rattle.vortex_model_table.specs.ZoneMap.{values_at}
use Rattle.vortex_dtype_core.specs.Parts.{fields_in_type}
use Rattle.vortex_scalar_value.specs.Parts.{raw_part}
use Rattle.vortex_scalar_value.proofs.Views.{content_of-part}
use Rattle.vortex_arrays_model.specs.Layout.{Layout, constant, dictionary, records, Valid, Columns, no_columns, column, len_of, array_type_of, fields_of, nullability_by, content_at, pick, rows_of, IsCode, IsSound, HasLength}
use Rattle.vortex_arrays_model.specs.Column.{IsPart, IsMasked, array_at}
use Rattle.vortex_arrays_model.specs.Parts.{columns_of}
use Rattle.vortex_arrays_model.proofs.SomeLemmas.{type_within}
use Rattle.vortex_arrays_model.proofs.ColumnLemmas.{array_len, array_sound, part_root, part_step, type_at_within}
use Rattle.vortex_arrays_model.proofs.RowsLemmas.{row_at_position, row_count, rows_by_position}
use Rattle.vortex_arrays_core.proofs.Constructors.{valid_so}
use Rattle.vortex_arrays_struct.proofs.Columns.{array_of_place}
use Rattle.vortex_arrays_struct.proofs.Constants.{field_valid, within_record}
use Rattle.vortex_arrays_struct.proofs.Places.{array_at-columns_of}

-- ---- struct arrays

no_field : (cs : Columns) (i : ℕ) → array_at cs i ≡ None → field_at (fields_of cs) i ≡ None
no_field no_columns i e = refl
no_field (column x a cs) zero e = absurd (cc (e))
no_field (column x a cs) (suc i) e = no_field cs i e

past_the_end : (fs : List Layout) (i : ℕ) → length fs ≤ i → slice_get fs i ≡ None
past_the_end [] i h = refl
past_the_end (a ∷ fs) zero h = absurd (omega (arith, h))
past_the_end (a ∷ fs) (suc i) h = past_the_end fs i (omega (arith, h))

module _ (xs : List (List ℕ)) (fs : List Layout) (n : ℕ) (v : Valid) (i : ℕ) (s : IsSound (records (columns_of xs fs) n v)) where
  module _ (b : Layout) (inside : i < length fs) (is : b ≡ get_or fs i b) where
    there : array_at (columns_of xs fs) i ≡ Some b
    there = array_of_place xs fs i b is inside

    pub field_fits : HasLength v (len_of b)
    field_fits = subst (HasLength v) (sym (array_len (columns_of xs fs) n i b s.0 there)) s.1

    pub part_of_records : (r : Layout) → IsMasked v b r → IsPart (records (columns_of xs fs) n v) (i ∷ []) r
    part_of_records r m = part_step (columns_of xs fs) n v i [] b b r s there (part_root b (array_sound (columns_of xs fs) n i b s.0 there)) m

  pub no_part_of_records : length fs ≤ i → type_at (array_type_of (records (columns_of xs fs) n v)) (i ∷ []) ≡ None
  no_part_of_records past =
      ap (λ o. option_map (nullable_inside (nullability_by v)) (option_and_then (λ part. type_at part []) o))
      (no_field (columns_of xs fs) i (array_at-columns_of xs fs i ∙ past_the_end fs i past))

-- ---- dictionaries: the part is a dictionary of the values' part, with the same codes

picked_at : (n : ℕ) (f g : ℕ → Content) (is : Positions) (c : Content) → IsCode n c → ((j : ℕ) → j < n → g j ≡ at (f j) is) → pick c g ≡ at (pick c f) is
picked_at n f g is null h e = sym (at_null is)
picked_at n f g is (integer (pos j)) h e = e j h
picked_at n f g is c h e = absurd h

dictionary_within : (c v : Layout) (f : Bool) → array_type_of (dictionary c v f) ≡ nullable_inside (nullability_of (array_type_of c)) (array_type_of v)
dictionary_within c v f = type_within (nullability_of (array_type_of c)) (array_type_of v)

pub dictionary_sound : (c v w : Layout) (f : Bool) (is : Positions) → IsSound (dictionary c v f) → IsPart v is w → IsSound (dictionary c w f)
dictionary_sound c v w f is s p = (
  s.0,
  p.sound,
  s.2,
  (λ i l. subst (λ n. IsCode n (content_at c i)) (sym p.len) (s.3 i l)),
  (λ t j l. s.4 t j (subst (λ n. j < n) p.len l)),
)

pub part_of_dictionary : (c v w : Layout) (f : Bool) (is : Positions) → IsSound (dictionary c v f) → IsPart v is w → IsPart (dictionary c v f) is (dictionary c w f)
part_of_dictionary c v w f is s p =
    let n = nullability_of (array_type_of c) in
    record {
      sound = dictionary_sound c v w f is s p;
      len = refl;
      kind =
          ap (λ k. type_at k is) (dictionary_within c v f)
          ∙ type_at_within n (array_type_of v) is
          ∙ ap (option_map (nullable_inside n)) p.kind
          ∙ ap (λ k. Some k) (sym (dictionary_within c w f));
      content = λ i l. picked_at (len_of v) (λ j. content_at v j) (λ j. content_at w j) is (content_at c i) (s.3 i l) p.content;
    }

-- ---- constants

field_there : (k : LogicalType) (fs : Fields) (i : ℕ) (t : LogicalType) → Some fs ≡ fields_in_type k → Some t ≡ field_at fs i → type_at k (i ∷ []) ≡ Some (nullable_inside (nullability_of k) t)
field_there (struct gs n) fs i t e f =
    let same : fs ≡ gs = cc (e) in
    ap (λ o. option_map (nullable_inside n) (option_and_then (λ part. type_at part []) o)) (ap (λ g. field_at g i) (sym same) ∙ sym f)
field_there k fs i t e f = absurd (cc (e))

pub part_of_constant : (k : LogicalType) (fs : Fields) (r q : Raw) (i : ℕ) (t u : LogicalType) (n : ℕ) → Some fs ≡ fields_in_type k → Some t ≡ field_at fs i → valid k r ≡ true →
    u ≡ with_nullability (either_nullable (nullability_of t) (nullability_of k)) t → q ≡ raw_part r i → IsPart (constant k r n) (i ∷ []) (constant u q n)
part_of_constant k fs r q i t u n e f h made taken =
    let kind : u ≡ nullable_inside (nullability_of k) t = made ∙ within_record (nullability_of k) t in
    record {
      sound = valid_so u q ((λ j. valid (made j) (taken j)) ∙ field_valid k fs r i t e f h);
      len = refl;
      kind = field_there k fs i t e f ∙ ap (λ l. Some l) (sym kind);
      content = λ j l. ap content_of taken ∙ content_of-part r i;
    }

-- ---- parts of parts

abbrev type_from : Option LogicalType → Positions → Option LogicalType
type_from o is = option_and_then (λ k. type_at k is) o

type_then : (k : LogicalType) (i : ℕ) (is : Positions) → type_at k (i ∷ is) ≡ type_from (type_at k (i ∷ [])) is
type_then k i is = by_part (part_at k i)
  where
    by_part : (o : Option LogicalType) → option_map (nullable_inside (nullability_of k)) (type_from o is)
        ≡ type_from (option_map (nullable_inside (nullability_of k)) (type_from o [])) is
    by_part None = refl
    by_part (Some part) = sym (type_at_within (nullability_of k) part is)

part_then : (a b r : Layout) (i : ℕ) (is : Positions) → IsPart a (i ∷ []) b → IsPart b is r → IsPart a (i ∷ is) r
part_then a b r i is h g = record {
  sound = g.sound;
  len = g.len ∙ h.len;
  kind = type_then (array_type_of a) i is ∙ ap (λ o. type_from o is) h.kind ∙ g.kind;
  content = λ j l. g.content j (subst (λ m. j < m) (sym h.len) l) ∙ ap (λ c. at c is) (h.content j l);
}

-- The rest of the positions leads to the same part in b as all positions do in a.
pub record IsOnTheWay (a : Layout) (all : Positions) (b : Layout) (rest : Positions) : Type 0 where
  pub sound : IsSound b
  pub parts : (r : Layout) → IsPart b rest r → IsPart a all r
  pub none : type_at (array_type_of b) rest ≡ None → type_at (array_type_of a) all ≡ None

pub way_goes_on : (a b c : Layout) (all : Positions) (i : ℕ) (rest : Positions) → IsOnTheWay a all b (i ∷ rest) → IsPart b (i ∷ []) c → IsOnTheWay a all c rest
way_goes_on a b c all i rest w h = record {
  sound = h.sound;
  parts = λ r g. w.parts r (part_then b c r i rest h g);
  none = λ e. w.none (type_then (array_type_of b) i rest ∙ ap (λ o. type_from o rest) h.kind ∙ e);
}

-- ---- the rows of a part

pub part_rows : (a r : Layout) (is : Positions) → IsPart a is r → rows_of r ≡ values_at is (rows_of a)
part_rows a r is p =
    rows_by_position r (values_at is (rows_of a)) (length-map (rows_of a) (λ row. at row is) ∙ row_count a ∙ sym p.len) (λ i l.
    let small : i < len_of a = subst (λ m. i < m) p.len l in
    let w : i < length (rows_of a) = subst (λ m. i < m) (sym (row_count a)) small in
    get_or-map (λ row. at row is) (rows_of a) i null null w
    ∙ ap (λ c. at c is) (row_at_position a i null small)
    ∙ sym (p.content i small))
