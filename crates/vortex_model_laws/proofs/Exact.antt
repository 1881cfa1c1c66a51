-- A chunk with all bounds of a predicate of the wide class is skipped exactly where its box is
-- hopeless.
use Rattle.std.proofs.Common.{◌≡◌, refl, sym, ◌∙◌, ap, subst, ℕ, pos, suc, ◌+◌, ◌<◌, ◌≤◌, arith, List, [], ◌∷◌, ◌++◌, length, map, Bool, true, false, not, ◌&&◌, ◌||◌, if◌then◌else◌, Option, Some, None, option_map, option_and_then, inl, inr, IfSome, Contains}
use Rattle.std.specs.Prelude.{◌↔◌}
use Rattle.std.specs.List.{AllByRecursion, list_all}
use Rattle.std.specs.Option.{option_map_or}
use Rattle.std.proofs.lemmas.List.{map-append, length-map}
use Rattle.std.proofs.lemmas.List.Folds.{list_all-append}
use Rattle.std.proofs.lemmas.List.Sums.{count_by-le-length}
use Rattle.std.specs.Cmp.{first_so, second_so}
use Rattle.std.proofs.lemmas.Bool.{not-true}
use Rattle.vortex_model.specs.LogicalType.{LogicalType, boolean_type, integer_type, utf8, binary, non_nullable, with_nullability, bare}
use Rattle.vortex_model.specs.Content.{Content, null, boolean, integer, text, byte_string, is_null}
use Rattle.vortex_model.specs.Valid.{IsContent}
use Rattle.vortex_model.specs.Path.{Names, Positions, positions, type_at, type_of_column, at}
use Rattle.vortex_model.specs.Kept.{is_leaf}
use Rattle.vortex_model.specs.Order.{at_most as at_most_content}
use Rattle.vortex_model.specs.Refusal.{Refusal, not_a_leaf, or_else, unequal_types, not_boolean, unsupported_predicate, unsupported_like}
use Rattle.vortex_model_table.specs.Typing.{expression_type, has_bounds, is_float}
use Rattle.vortex_model_table.specs.Expression.{Expression, literal, column, compare, both, either, is_null as is_null_test, is_not_null as is_not_null_test, between, like, Comparison, at_most, HasFormedLiterals}
use Rattle.vortex_model_table.specs.Truth.{is_true}
use Rattle.vortex_model_table.specs.Statistics.{shown, IsNotAbove}
use Rattle.vortex_model_table.specs.ZoneMap.{ZoneMap, value_in, values_at}
use Rattle.vortex_model_table.specs.Rewrite.{is_comparable, is_float_placeholder, guarded, no_nan_by_count, no_nan_by_flag, comparison_falsifier, joined_proofs, either_there, falsifier, satisfier}
use Rattle.vortex_model_table.specs.Table.{Table, IsTable, bound_length}
use Rattle.vortex_model_table.specs.Scan.{chunk_zone, chunk_zone_at, if_leaf, leaf_at, proves, Outcome, skipped, whole, tested, is_skipped, chunk_outcome, numbers, skipped_chunks}
use Rattle.vortex_model_table.specs.Command.{expression_fault, column_fault, unless, is_boolean, eq_optional_type, is_utf8_type, is_supported_like}
use Rattle.vortex_model_table.specs.Pruning.{IsAsked}
use Rattle.vortex_model_table.specs.Class.{Box, box_of, unknown_zone, IsValueOf, Hopeless, columns_of, columns_outside_tests, is_there, has_both, is_bounded, are_sides, is_column, are_ends, is_text_form, is_wide_tree, is_wide}
use Rattle.vortex_model_laws.proofs.Columns.{all_at_type}
use Rattle.vortex_model_table.proofs.ContentOrder.{le}
use Rattle.vortex_model_laws.proofs.Honesty.{Among}
use Rattle.vortex_model_laws.proofs.Leasts.{among_contains, contains_among}
use Rattle.vortex_model.proofs.Tests.{kind_so}
use Rattle.vortex_model.proofs.Booleans.{clashing}
use Rattle.vortex_model.proofs.Ranges.{zero_fits}
use Rattle.vortex_model.proofs.Refusals.{first_none, second_none}
use Rattle.vortex_model_laws.proofs.Texts.{IsTextual}
use Rattle.vortex_model_laws.specs.Exact.{SomeChoice}
use Rattle.vortex_model_laws.proofs.Alone.{zone_ordered, as_each_alone}
use Rattle.vortex_model_laws.proofs.Complete.{either_way, IsSide, IsTestable, IsLikeable, IsGood, tree_fails, wide_parts, reached}
use Rattle.vortex_model_laws.proofs.Members.{IsMember, member_itself, member_made, member_held, member_bare, member_of_bare, low_is_member, high_is_member}
use Rattle.vortex_model_laws.proofs.Ruled.{from_made, to_made, there_value, there, exactly}
use Rattle.vortex_model_laws.proofs.Accepted.{unless_none, leaf_no_float}

-- ---- the columns of a chunk

-- the ends of a BETWEEN are leaves in order
ends_ordered : (c d : Content) → at_most_content c d ≡ true → (is_null c ≡ false) × (is_null d ≡ false) × (le c d ≡ true)
ends_ordered (boolean a) (boolean b) h = (refl, refl, h)
ends_ordered (integer a) (integer b) h = (refl, refl, h)
ends_ordered (text a) (text b) h = (refl, refl, h)
ends_ordered (byte_string a) (byte_string b) h = (refl, refl, h)
ends_ordered c d h = absurd (cc (h))

leaf_bounds : (u : LogicalType) → is_leaf u ≡ true → has_bounds u ≡ true
leaf_bounds (boolean_type n) w = refl
leaf_bounds (integer_type i n) w = refl
leaf_bounds (utf8 n) w = refl
leaf_bounds (binary n) w = refl
leaf_bounds u w = absurd (cc (w))

leaf_of : (o : Option LogicalType) → column_fault o ≡ None → (u : LogicalType) × (o ≡ Some u) × (is_leaf u ≡ true)
leaf_of None e = absurd (cc (e))
leaf_of (Some u) e = (u, refl, unless_none (is_leaf u) not_a_leaf e)

record ColumnFacts (u : LogicalType) (zone : ZoneMap) (n : ℕ) : Type 0 where
  low : is_there zone.low ≡ true → IsMember u (shown zone.low)
  high : is_there zone.high ≡ true → IsMember u (shown zone.high)
  ordered : (v w : Content) → value_in zone.low ≡ Some v → value_in zone.high ≡ Some w → IsNotAbove v w
  fewer : zone.nulls ≤ zone.rows
  rows : zone.rows ≡ n

-- ---- values of a leaf's type

abbrev some_value : LogicalType → Content
some_value (boolean_type n) = boolean false
some_value (integer_type i n) = integer (pos 0)
some_value (utf8 n) = text []
some_value (binary n) = byte_string []
some_value u = null

value_not_null : (u : LogicalType) → is_leaf u ≡ true → is_null (some_value u) ≡ false
value_not_null (boolean_type n) w = refl
value_not_null (integer_type i n) w = refl
value_not_null (utf8 n) w = refl
value_not_null (binary n) w = refl
value_not_null u w = absurd (cc (w))

value_held : (u : LogicalType) → is_leaf u ≡ true → IsContent (with_nullability non_nullable u) (some_value u)
value_held (boolean_type n) w = tt
value_held (integer_type i n) w = zero_fits i
value_held (utf8 n) w = ([], (refl, refl))
value_held (binary n) w = tt
value_held u w = absurd (cc (w))

text_textual : (v : Content) → IsContent (utf8 non_nullable) v → IsTextual v
text_textual (text bs) h = h
text_textual v h = tt

-- ---- falsifiers of comparisons

single_falsifier : (k : LogicalType) (op : Comparison) (x y : Expression) → is_comparable k x ≡ true → is_comparable k y ≡ true → is_float_placeholder k x ≡ false → is_float_placeholder k y ≡ false →
    falsifier k (compare op x y) ≡ Some (comparison_falsifier op x y)
single_falsifier k op x y p q r s =
    λ i. joined_proofs (if not (p i && q i) then [] else (if r i || s i
    then guarded no_nan_by_count (is_float_placeholder k x) (is_float_placeholder k y) x y (comparison_falsifier op x y)
    ∷ guarded no_nan_by_flag (is_float_placeholder k x) (is_float_placeholder k y) x y (comparison_falsifier op x y) ∷ []
    else comparison_falsifier op x y ∷ []))

types_alike : (o p : Option LogicalType) (u v : LogicalType) → o ≡ Some u → p ≡ Some v → eq_optional_type o p ≡ true → bare u ≡ bare v
types_alike o p u v e f h = kind_so (bare u) (bare v) (sym (λ i. eq_optional_type (e i) (f i)) ∙ h)

module _ (t : Table) (chunk : List Content) (rows : AllByRecursion (IsContent t.kind) chunk) (some : 0 < length chunk) where
  abbrev chunk_box : Box
  chunk_box = box_of (chunk_zone t chunk)

  abbrev zone_of_leaf : Option (Positions × LogicalType) → ZoneMap
  zone_of_leaf o = elim (option_map (λ leaf. chunk_zone_at t chunk leaf.0 leaf.1) o) [ None ↦ unknown_zone | Some z ↦ z ]

  facts_by : (p : Option Positions) (u : LogicalType) → option_and_then (type_at t.kind) p ≡ Some u → is_leaf u ≡ true →
      ColumnFacts u (zone_of_leaf (option_and_then (λ is. if_leaf is (type_at t.kind is)) p)) (length chunk)
  facts_by None u e w = absurd (cc (e))
  facts_by (Some is) u e w =
      let cs = values_at is chunk in let typed = all_at_type t.kind is u chunk e rows in let L = bound_length t is in
      subst (λ o. ColumnFacts u (zone_of_leaf (if_leaf is o)) (length chunk)) (sym e) (subst (λ b. ColumnFacts u (zone_of_leaf (if b then Some (is, u) else None)) (length chunk)) (sym w) (record {
        low = low_is_member u L cs w typed;
        high = high_is_member u L cs w typed;
        ordered = zone_ordered u L cs w typed;
        fewer = count_by-le-length is_null cs;
        rows = length-map chunk (λ row. at row is);
      }))

  column_facts : (xs : Names) (u : LogicalType) → type_of_column t.kind xs ≡ Some u → is_leaf u ≡ true → ColumnFacts u (chunk_box xs) (length chunk)
  column_facts xs u e w = facts_by (positions t.kind xs) u e w

  value_of_type : (xs : Names) (u : LogicalType) (v : Content) → type_of_column t.kind xs ≡ Some u → IsContent (with_nullability non_nullable u) v → IsValueOf t.kind xs v
  value_of_type xs u v e h = subst (λ o. IfSome o (λ l. IsContent (with_nullability non_nullable l) v)) (sym e) h

  type_of_value : (xs : Names) (u : LogicalType) (v : Content) → type_of_column t.kind xs ≡ Some u → IsValueOf t.kind xs v → IsContent (with_nullability non_nullable u) v
  type_of_value xs u v e h = subst (λ o. IfSome o (λ l. IsContent (with_nullability non_nullable l) v)) e h

  column_side : (xs : Names) (u : LogicalType) → type_of_column t.kind xs ≡ Some u → is_leaf u ≡ true → has_both chunk_box xs ≡ true → IsSide t.kind chunk_box (bare u) (column xs)
  column_side xs u e w h =
      let f = column_facts xs u e w in
      let l = first_so (is_there (chunk_box xs).low) (is_there (chunk_box xs).high) h in let r = second_so (is_there (chunk_box xs).low) (is_there (chunk_box xs).high) h in record {
        single = refl;
        low = member_bare u (shown (chunk_box xs).low) w (f.low l);
        high = member_bare u (shown (chunk_box xs).high) w (f.high r);
        ordered = f.ordered (shown (chunk_box xs).low) (shown (chunk_box xs).high) (there_value (chunk_box xs).low l) (there_value (chunk_box xs).high r);
        fits = λ v m a b. record {
          value = value_of_type xs u v e (member_held u v (member_of_bare u v w m));
          from = from_made (chunk_box xs).low v a;
          to = to_made (chunk_box xs).high v b;
        };
      }

  literal_side : (l : LogicalType) (c : Content) → is_leaf l ≡ true → is_null c ≡ false → IsContent l c → IsSide t.kind chunk_box (bare l) (literal l c)
  literal_side l c w m h =
      let member = member_bare l c w (member_made l c w m h) in
      record { single = refl; low = member; high = member; ordered = member_itself (bare l) c member; fits = λ v n a b. tt }

  column_comparable : (xs : Names) (u : LogicalType) → type_of_column t.kind xs ≡ Some u → is_leaf u ≡ true → is_comparable t.kind (column xs) ≡ true
  column_comparable xs u e w = ap (λ o. option_map_or has_bounds o false) e ∙ leaf_bounds u w

  column_no_float : (xs : Names) (u : LogicalType) → type_of_column t.kind xs ≡ Some u → is_leaf u ≡ true → is_float_placeholder t.kind (column xs) ≡ false
  column_no_float xs u e w = ap (λ o. option_map_or is_float o false) e ∙ leaf_no_float u w

  abbrev HaveBounds : List Names → Type 0
  HaveBounds xss = list_all (has_both chunk_box) xss ≡ true

  both_bounded : (xss yss : List Names) → HaveBounds (xss ++ yss) → HaveBounds xss × HaveBounds yss
  both_bounded xss yss h =
      let each = sym (list_all-append (has_both chunk_box) xss yss) ∙ h in let l = list_all (has_both chunk_box) xss in let r = list_all (has_both chunk_box) yss in
      (first_so l r each, second_so l r each)

  one_bounded : (xs : Names) → HaveBounds (xs ∷ []) → has_both chunk_box xs ≡ true
  one_bounded xs h = first_so (has_both chunk_box xs) true h

  sides_good : (op : Comparison) (x y : Expression) → are_sides x y ≡ true → expression_fault t.kind x ≡ None → expression_fault t.kind y ≡ None →
      eq_optional_type (expression_type t.kind x) (expression_type t.kind y) ≡ true → HasFormedLiterals x → HasFormedLiterals y →
      HaveBounds (columns_of x) → HaveBounds (columns_of y) → IsGood t.kind chunk_box (compare op x y)
  sides_good op (column xs) (column ys) w f h same a b p q =
      let l = leaf_of (type_of_column t.kind xs) f in let r = leaf_of (type_of_column t.kind ys) h in
      let alike = types_alike (type_of_column t.kind xs) (type_of_column t.kind ys) l.0 r.0 l.1 r.1 same in (
        bare l.0,
        column_side xs l.0 l.1 l.2 (one_bounded xs p),
        subst (λ z. IsSide t.kind chunk_box z (column ys)) (sym alike) (column_side ys r.0 r.1 r.2 (one_bounded ys q)),
        single_falsifier t.kind op (column xs) (column ys) (column_comparable xs l.0 l.1 l.2) (column_comparable ys r.0 r.1 r.2) (column_no_float xs l.0 l.1 l.2) (column_no_float ys r.0 r.1 r.2),
      )
  sides_good op (column xs) (literal z c) w f h same a b p q =
      let l = leaf_of (type_of_column t.kind xs) f in let leaf = unless_none (is_leaf z) unsupported_predicate h in
      let alike = types_alike (type_of_column t.kind xs) (Some z) l.0 z l.1 refl same in (
        bare l.0,
        column_side xs l.0 l.1 l.2 (one_bounded xs p),
        subst (λ v. IsSide t.kind chunk_box v (literal z c)) (sym alike) (literal_side z c leaf (not-true (is_null c) w) b),
        single_falsifier t.kind op (column xs) (literal z c) (column_comparable xs l.0 l.1 l.2) refl (column_no_float xs l.0 l.1 l.2) refl,
      )
  sides_good op (literal z c) (column ys) w f h same a b p q =
      let r = leaf_of (type_of_column t.kind ys) h in let leaf = unless_none (is_leaf z) unsupported_predicate f in
      let alike = types_alike (Some z) (type_of_column t.kind ys) z r.0 refl r.1 same in (
        bare z,
        literal_side z c leaf (not-true (is_null c) w) a,
        subst (λ v. IsSide t.kind chunk_box v (column ys)) (sym alike) (column_side ys r.0 r.1 r.2 (one_bounded ys q)),
        single_falsifier t.kind op (literal z c) (column ys) refl (column_comparable ys r.0 r.1 r.2) refl (column_no_float ys r.0 r.1 r.2),
      )
  sides_good op x y w f h same a b p q = absurd (cc (w))

  two_none : (p q r : Option Refusal) → or_else p (or_else q r) ≡ None → (p ≡ None) × (q ≡ None) × (r ≡ None)
  two_none p q r e = (first_none p (or_else q r) e, first_none q r (second_none p (or_else q r) e), second_none q r (second_none p (or_else q r) e))

  range_good : (x lo hi : Expression) → is_column x ≡ true → are_ends lo hi ≡ true → expression_fault t.kind (between x lo hi false false) ≡ None →
      HasFormedLiterals (between x lo hi false false) → HaveBounds (columns_of x ++ columns_of lo ++ columns_of hi) → IsGood t.kind chunk_box (between x lo hi false false)
  range_good (column xs) (literal l c) (literal m d) v w f h b =
      let fx = column_fault (type_of_column t.kind xs) in let fl = unless (is_leaf l) unsupported_predicate in let fm = unless (is_leaf m) unsupported_predicate in
      let low_alike = eq_optional_type (type_of_column t.kind xs) (Some l) in let high_alike = eq_optional_type (type_of_column t.kind xs) (Some m) in
      let n = two_none fx fl (or_else fm (unless (low_alike && high_alike) unequal_types)) f in
      let same = unless_none (low_alike && high_alike) unequal_types (second_none fm (unless (low_alike && high_alike) unequal_types) n.2) in
      let leaf_m = unless_none (is_leaf m) unsupported_predicate (first_none fm (unless (low_alike && high_alike) unequal_types) n.2) in
      let leaf_l = unless_none (is_leaf l) unsupported_predicate n.1 in
      let u = leaf_of (type_of_column t.kind xs) n.0 in
      let ends = ends_ordered c d w in
      let to_l = types_alike (type_of_column t.kind xs) (Some l) u.0 l u.1 refl (first_so low_alike high_alike same) in
      let to_m = types_alike (type_of_column t.kind xs) (Some m) u.0 m u.1 refl (second_so low_alike high_alike same) in
      let p = column_comparable xs u.0 u.1 u.2 in let q = column_no_float xs u.0 u.1 u.2 in (
        bare u.0,
        column_side xs u.0 u.1 u.2 (one_bounded xs b),
        subst (λ v. IsMember v c) (sym to_l) (member_bare l c leaf_l (member_made l c leaf_l ends.0 h.1)),
        subst (λ v. IsMember v d) (sym to_m) (member_bare m d leaf_m (member_made m d leaf_m ends.1 h.2)),
        ends.2,
        (λ i. either_there (single_falsifier t.kind at_most (literal l c) (column xs) refl p refl q i) (single_falsifier t.kind at_most (column xs) (literal m d) p refl q refl i)),
      )
  range_good (column xs) (literal l c) hi v w f h b = absurd (cc (w))
  range_good (column xs) lo hi v w f h b = absurd (cc (w))
  range_good x lo hi v w f h b = absurd (cc (v))

  -- a column under a null test
  testable : (xs : Names) → column_fault (type_of_column t.kind xs) ≡ None → IsTestable t.kind chunk_box xs
  testable xs f =
      let l = leaf_of (type_of_column t.kind xs) f in let facts = column_facts xs l.0 l.1 l.2 in record {
        value = some_value l.0;
        not_null = value_not_null l.0 l.2;
        held = value_of_type xs l.0 (some_value l.0) l.1 (value_held l.0 l.2);
        fewer = facts.fewer;
        some = (let same = facts.rows in omega (arith, same, some));
      }

  -- a string column under a LIKE
  likeable_at : (xs : Names) (u l : LogicalType) (form : List ℕ) → type_of_column t.kind xs ≡ Some u → is_utf8_type (Some u) ≡ true → is_utf8_type (Some l) ≡ true → IsContent l (text form) →
      is_text_form form ≡ true → has_both chunk_box xs ≡ true → IsLikeable t.kind chunk_box (column xs) form
  likeable_at xs (utf8 n) (utf8 m) form e p q h w b = record {
    nullability = non_nullable;
    side = column_side xs (utf8 n) e refl b;
    texts = λ f i. text_textual (f xs) (type_of_value xs (utf8 n) (f xs) e i.value);
    valid = h;
    formed = w;
  }
  likeable_at xs (utf8 n) l form e p q h w b = absurd (cc (q))
  likeable_at xs u l form e p q h w b = absurd (cc (p))

  likeable : (x : Expression) (l : LogicalType) (form : List ℕ) → is_column x ≡ true → is_text_form form ≡ true → expression_fault t.kind (like x (literal l (text form)) false false) ≡ None →
      IsContent l (text form) → HaveBounds (columns_of x ++ []) → IsLikeable t.kind chunk_box x form
  likeable (column xs) l form v w f h b =
      let kind = type_of_column t.kind xs in let both_texts = is_utf8_type kind && is_utf8_type (Some l) in
      let last = unless (is_supported_like (literal l (text form)) false) unsupported_like in
      let n = two_none (column_fault kind) (unless (is_leaf l) unsupported_predicate) (or_else (unless both_texts unequal_types) last) f in
      let typed = unless_none both_texts unequal_types (first_none (unless both_texts unequal_types) last n.2) in
      let u = leaf_of kind n.0 in
      likeable_at xs u.0 l form u.1 (ap is_utf8_type (sym u.1) ∙ first_so (is_utf8_type kind) (is_utf8_type (Some l)) typed) (second_so (is_utf8_type kind) (is_utf8_type (Some l)) typed) h w (one_bounded xs b)
  likeable x l form v w f h b = absurd (cc (v))

  tested_good : (x : Expression) → is_column x ≡ true → expression_fault t.kind x ≡ None → IsGood t.kind chunk_box (is_null_test x) × IsGood t.kind chunk_box (is_not_null_test x)
  tested_good (column xs) w f = (testable xs f, testable xs f)
  tested_good x w f = absurd (cc (w))

  pub good : (e : Expression) → is_wide_tree e ≡ true → expression_fault t.kind e ≡ None → HasFormedLiterals e → is_bounded chunk_box e ≡ true → IsGood t.kind chunk_box e
  good (compare op x y) w f h b =
      let n = two_none (expression_fault t.kind x) (expression_fault t.kind y) (unless (eq_optional_type (expression_type t.kind x) (expression_type t.kind y)) unequal_types) f in
      let bounds = both_bounded (columns_of x) (columns_of y) b in
      sides_good op x y w n.0 n.1 (unless_none (eq_optional_type (expression_type t.kind x) (expression_type t.kind y)) unequal_types n.2) h.0 h.1
      bounds.0 bounds.1
  good (both x y) w f h b =
      let n = two_none (expression_fault t.kind x) (expression_fault t.kind y) (unless (is_boolean (expression_type t.kind x) && is_boolean (expression_type t.kind y)) not_boolean) f in
      let bounds = both_bounded (columns_outside_tests x) (columns_outside_tests y) b in (
        good x (first_so (is_wide_tree x) (is_wide_tree y) w) n.0 h.0 bounds.0,
        good y (second_so (is_wide_tree x) (is_wide_tree y) w) n.1 h.1 bounds.1,
      )
  good (either x y) w f h b =
      let n = two_none (expression_fault t.kind x) (expression_fault t.kind y) (unless (is_boolean (expression_type t.kind x) && is_boolean (expression_type t.kind y)) not_boolean) f in
      let bounds = both_bounded (columns_outside_tests x) (columns_outside_tests y) b in (
        good x (first_so (is_wide_tree x) (is_wide_tree y) w) n.0 h.0 bounds.0,
        good y (second_so (is_wide_tree x) (is_wide_tree y) w) n.1 h.1 bounds.1,
      )
  good (literal l (boolean v)) w f h b = tt
  good (between x lo hi false false) w f h b = range_good x lo hi (first_so (is_column x) (are_ends lo hi) w) (second_so (is_column x) (are_ends lo hi) w) f h b
  good (is_null_test x) w f h b = (tested_good x w f).0
  good (is_not_null_test x) w f h b = (tested_good x w f).1
  good (like x (literal l (text form)) false false) w f h b = likeable x l form (first_so (is_column x) (is_text_form form) w) (second_so (is_column x) (is_text_form form) w) f h.1 b
  good e w f h b = absurd (cc (w))

-- each zone map of a chunk has the chunk's row count
counts_rows : (t : Table) (chunk : List Content) (o : Option (Positions × LogicalType)) (z : ZoneMap) → option_map (λ leaf. chunk_zone_at t chunk leaf.0 leaf.1) o ≡ Some z → z.rows ≡ length chunk
counts_rows t chunk None z e = absurd (cc (e))
counts_rows t chunk (Some leaf) z e =
    let is : chunk_zone_at t chunk leaf.0 leaf.1 ≡ z = cc (e) in ap (λ y. y.rows) (sym is) ∙ length-map chunk (λ row. at row leaf.0)

even : (t : Table) (chunk : List Content) (xs : Names) (z : ZoneMap) → chunk_zone t chunk xs ≡ Some z → z.rows ≡ length chunk
even t chunk xs z e = counts_rows t chunk (leaf_at t.kind xs) z e

-- ---- row counts

number_from : (p : Outcome → Bool) (i j : ℕ) (os : List Outcome) → Among j (numbers p i os) → i ≤ j
number_from p i j [] h = absurd h
number_from p i j (o ∷ os) h = by_test (p o) h (number_from p (suc i) j os)
  where
    by_test : (b : Bool) → Among j (if b then i ∷ numbers p (suc i) os else numbers p (suc i) os) → (Among j (numbers p (suc i) os) → suc i ≤ j) → i ≤ j
    by_test true (inl e) more = omega (arith, e)
    by_test true (inr h) more = let le = more h in omega (arith, le)
    by_test false h more = let le = more h in omega (arith, le)

number_so : (p : Outcome → Bool) (i : ℕ) (os : List Outcome) (o : Outcome) (rest : List Outcome) → Among (i + length os) (numbers p i (os ++ o ∷ rest)) → p o ≡ true
number_so p i [] o rest h = by_test (p o) refl h
  where
    by_test : (b : Bool) → p o ≡ b → Among (i + 0) (if b then i ∷ numbers p (suc i) rest else numbers p (suc i) rest) → p o ≡ true
    by_test true e h = e
    by_test false e h = absurd (let le = number_from p (suc i) (i + 0) rest h in omega (arith, le))
number_so p i (q ∷ os) o rest h =
    let n : ℕ = length os in let step : i + suc n ≡ suc i + n = omega arith in
    by_test (p q) h (λ g. number_so p (suc i) os o rest (subst (λ j. Among j (numbers p (suc i) (os ++ o ∷ rest))) step g))
  where
    by_test : (b : Bool) → Among (i + suc (length os)) (if b then i ∷ numbers p (suc i) (os ++ o ∷ rest) else numbers p (suc i) (os ++ o ∷ rest)) →
        (Among (i + suc (length os)) (numbers p (suc i) (os ++ o ∷ rest)) → p o ≡ true) → p o ≡ true
    by_test true (inl e) more = absurd (omega (arith, e))
    by_test true (inr h) more = more h
    by_test false h more = more h

number_made : (p : Outcome → Bool) (i : ℕ) (os : List Outcome) (o : Outcome) (rest : List Outcome) → p o ≡ true → Among (i + length os) (numbers p i (os ++ o ∷ rest))
number_made p i [] o rest e =
    subst (λ b. Among (i + 0) (if b then i ∷ numbers p (suc i) rest else numbers p (suc i) rest)) (sym e) (inl (let same : i ≡ i + 0 = omega arith in same))
number_made p i (q ∷ os) o rest e =
    let n : ℕ = length os in let step : suc i + n ≡ i + suc n = omega arith in
    by_test (p q) (subst (λ j. Among j (numbers p (suc i) (os ++ o ∷ rest))) step (number_made p (suc i) os o rest e))
  where
    by_test : (b : Bool) → Among (i + suc (length os)) (numbers p (suc i) (os ++ o ∷ rest)) →
        Among (i + suc (length os)) (if b then i ∷ numbers p (suc i) (os ++ o ∷ rest) else numbers p (suc i) (os ++ o ∷ rest))
    by_test true h = inr h
    by_test false h = h

-- ---- a chunk of a table

skipped_so : (b c : Bool) → is_skipped (if b then skipped else (if c then whole else tested)) ≡ b
skipped_so true c = refl
skipped_so false true = refl
skipped_so false false = refl

chunk_skipped : (t : Table) (e : Expression) (chunk : List Content) → is_skipped (chunk_outcome t e chunk) ≡ proves (chunk_zone t chunk) (length chunk) (falsifier t.kind e)
chunk_skipped t e chunk = skipped_so (proves (chunk_zone t chunk) (length chunk) (falsifier t.kind e)) (proves (chunk_zone t chunk) (length chunk) (satisfier t.kind e))

one_of_all : {X : Type 0} (P : X → Type 0) (xs : List X) (y : X) (ys : List X) → AllByRecursion P (xs ++ y ∷ ys) → P y
one_of_all P [] y ys h = h.0
one_of_all P (x ∷ xs) y ys h = one_of_all P xs y ys h.1

pub exactly_hopeless : (t : Table) (e : Expression) (before : List (List Content)) (chunk : List Content) (after : List (List Content)) → IsTable t → IsAsked t e → is_wide e ≡ true →
    t.chunks ≡ before ++ chunk ∷ after → is_bounded (box_of (chunk_zone t chunk)) e ≡ true → Contains (skipped_chunks t e) (length before) ↔ Hopeless t.kind e (box_of (chunk_zone t chunk))
exactly_hopeless t e before chunk after is asked wide place bounded =
    let rows = one_of_all (λ c. AllByRecursion (IsContent t.kind) c) before chunk after (subst (AllByRecursion (λ c. AllByRecursion (IsContent t.kind) c)) place is.rows) in
    let fault = first_none (expression_fault t.kind e) (unless (is_boolean (expression_type t.kind e)) not_boolean) asked.faultless in
    let some = one_of_all (λ c. 0 < length c) before chunk after (subst (AllByRecursion (λ c. 0 < length c)) place is.not_empty) in
    let h = good t chunk rows some e (wide_parts e wide).0 fault asked.formed bounded in
    let ways = exactly t.kind (chunk_zone t chunk) (length chunk) (even t chunk) e h wide in
    let f = chunk_outcome t e in
    let listed : skipped_chunks t e ≡ numbers is_skipped 0 (map f before ++ f chunk ∷ map f after) =
    (as_each_alone t e is).skipped ∙ ap (λ cs. numbers is_skipped 0 (map f cs)) place ∙ ap (numbers is_skipped 0) (map-append f before (chunk ∷ after)) in
    let number : 0 + length (map f before) ≡ length before = (let m = length-map before f in omega (arith, m)) in (
      (λ c. ways.0 (sym (chunk_skipped t e chunk) ∙ number_so is_skipped 0 (map f before) (f chunk) (map f after)
          (subst (λ j. Among j (numbers is_skipped 0 (map f before ++ f chunk ∷ map f after))) (sym number) (subst (Among (length before)) listed (contains_among (length before) (skipped_chunks t e) c))))),
      (λ hopeless. among_contains (length before) (skipped_chunks t e) (subst (Among (length before)) (sym listed)
          (subst (λ j. Among j (numbers is_skipped 0 (map f before ++ f chunk ∷ map f after))) number
          (number_made is_skipped 0 (map f before) (f chunk) (map f after) (chunk_skipped t e chunk ∙ ways.1 hopeless))))),
    )

pub some_choice : (t : Table) (e : Expression) (chunk : List Content) → IsAsked t e → AllByRecursion (IsContent t.kind) chunk → 0 < length chunk → is_wide e ≡ true →
    is_bounded (box_of (chunk_zone t chunk)) e ≡ true → proves (chunk_zone t chunk) (length chunk) (falsifier t.kind e) ≡ false → SomeChoice t e chunk
some_choice t e chunk asked rows some wide bounded unproved =
    let fault = first_none (expression_fault t.kind e) (unless (is_boolean (expression_type t.kind e)) not_boolean) asked.faultless in
    let h = good t chunk rows some e (wide_parts e wide).0 fault asked.formed bounded in
    let box = box_of (chunk_zone t chunk) in
    either_way (tree_fails t.kind box e)
    (λ f. let p = there t.kind (chunk_zone t chunk) (length chunk) (even t chunk) e h in
    absurd (clashing (proves (chunk_zone t chunk) (length chunk) (falsifier t.kind e)) (ap (proves (chunk_zone t chunk) (length chunk)) p.1 ∙ ap is_true (p.2 f)) unproved))
    (λ f. let r = reached t.kind box e h wide f in record { choice = r.choice; inside = r.inside; holds = r.holds })
