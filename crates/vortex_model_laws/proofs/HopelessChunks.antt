-- No row of a chunk whose box is hopeless satisfies a predicate of the wide class.
use Rattle.std.proofs.Common.{◌≡◌, refl, sym, ap, ◌∙◌, subst, ℕ, pos, ◌<◌, ◌≤◌, List, [], ◌∷◌, ◌++◌, map, length, filter, Bool, true, false, not, ◌&&◌, if◌then◌else◌, Option, Some, None, option_and_then, option_map, ◌⊎◌, inl, inr, arith, IfSome}
use Rattle.std.specs.List.{AllByRecursion, list_any}
use Rattle.std.proofs.lemmas.Bool.{cases_lt, or_left, or_right}
use Rattle.std.proofs.lemmas.List.Sums.{count_by-le-length}
use Rattle.std.specs.Cmp.{first_so, second_so}
use Rattle.vortex_model.specs.LogicalType.{LogicalType, boolean_type, integer_type, utf8, binary, non_nullable, with_nullability}
use Rattle.vortex_model.specs.Content.{Content, null, boolean, integer, text, byte_string, is_null}
use Rattle.vortex_model.specs.Valid.{IsContent}
use Rattle.vortex_model.specs.Path.{Names, Positions, positions, type_at, type_of_column, at, column as column_value}
use Rattle.vortex_model.specs.Kept.{is_leaf}
use Rattle.vortex_model.specs.Refusal.{Refusal, not_a_leaf, or_else, unequal_types, not_boolean, unsupported_like}
use Rattle.vortex_model_table.specs.Expression.{Expression, literal, column, compare, both, either, is_null as is_null_test, is_not_null as is_not_null_test, between, like}
use Rattle.vortex_model_table.specs.Truth.{selects, value_at}
use Rattle.vortex_model_table.specs.Bounds.{low, high, is_longer}
use Rattle.vortex_model_table.specs.Statistics.{Precision, exact, inexact, absent, non_null, null_count_of, least_value, greatest_value, IsNotAbove, IsHonest, IsHonestLeast, IsHonestGreatest}
use Rattle.vortex_model_table.specs.ZoneMap.{ZoneMap, statistics_of, bound_of}
use Rattle.vortex_model_table.specs.Table.{Table, bound_length}
use Rattle.vortex_model_table.specs.Scan.{chunk_zone, chunk_zone_at, if_leaf}
use Rattle.vortex_model_table.specs.Class.{Box, box_of, unknown_zone, IsFrom, IsUpTo, IsValueOf, IsBetween, IsCounted, Hopeless, columns_of, eq_names, columns_under_tests, columns_outside_tests, is_wide, is_wide_tree, are_sides, is_column, are_ends, is_text_form}
use Rattle.vortex_model_table.specs.Command.{expression_fault, predicate_fault, column_fault, unless, is_boolean, eq_optional_type, is_utf8_type, is_supported_like}
use Rattle.vortex_model_table.specs.Typing.{expression_type}
use Rattle.vortex_model_laws.proofs.Columns.{all_at_type}
use Rattle.vortex_model_laws.proofs.Complete.{NotAmong, AreApart, names_same, apart, wide_parts}
use Rattle.vortex_model_laws.proofs.Honesty.{Among, among_map, each_among, all_among, value_among, no_null_among, all_null_among}
use Rattle.vortex_model_laws.proofs.Hopeless.{MayHold, Fills, none_held}
use Rattle.vortex_model_laws.proofs.Skipping.{kept_none, never_true}
use Rattle.vortex_model.proofs.Lists.{front_of_all, back_of_all}
use Rattle.vortex_model.proofs.Ranges.{zero_fits}
use Rattle.vortex_model.proofs.Refusals.{first_none, second_none}
use Rattle.vortex_model_laws.proofs.Zones.{honest_zone}
use Rattle.vortex_model_laws.proofs.Accepted.{unless_none}

-- ---- values of a leaf type

abbrev default_of : LogicalType → Content
default_of (boolean_type n) = boolean false
default_of (integer_type i n) = integer (pos 0)
default_of (utf8 n) = text []
default_of (binary n) = byte_string []
default_of k = null

default_held : (u : LogicalType) → is_leaf u ≡ true → IsContent (with_nullability non_nullable u) (default_of u)
default_held (boolean_type n) w = tt
default_held (integer_type i n) w = zero_fits i
default_held (utf8 n) w = ([], (refl, refl))
default_held (binary n) w = tt
default_held u w = absurd (cc (w))

value_held : (u : LogicalType) (v : Content) → is_leaf u ≡ true → IsContent u v → is_null v ≡ false → IsContent (with_nullability non_nullable u) v
value_held u null w h e = absurd (cc (e))
value_held (boolean_type n) v w h e = h
value_held (integer_type i n) v w h e = h
value_held (utf8 n) v w h e = h
value_held (binary n) v w h e = h
value_held u v w h e = absurd (cc (w))

-- the first value that isn't null, or else the default
abbrev first_value : LogicalType → List Content → Content
first_value u [] = default_of u
first_value u (c ∷ cs) = if is_null c then first_value u cs else c

abbrev FirstOf : LogicalType → List Content → List Content → Content → Type 0
FirstOf u kept cs v = (Among v cs × (is_null v ≡ false)) ⊎ ((kept ≡ []) × (v ≡ default_of u))

first_cases : (u : LogicalType) (cs : List Content) → FirstOf u (non_null cs) cs (first_value u cs)
first_cases u [] = inr (refl, refl)
first_cases u (c ∷ cs) = by_null (is_null c) refl (first_cases u cs)
  where
    by_null : (b : Bool) → is_null c ≡ b → FirstOf u (non_null cs) cs (first_value u cs) →
        FirstOf u (if not b then c ∷ non_null cs else non_null cs) (c ∷ cs) (if b then first_value u cs else c)
    by_null true e (inl h) = inl (inr h.0, h.1)
    by_null true e (inr h) = inr h
    by_null false e h = inl (inl refl, e)

-- ---- a zone map and the values of its column

record Told (u : LogicalType) (zone : ZoneMap) (cs : List Content) : Type 0 where
  leaf : is_leaf u ≡ true
  values : AllByRecursion (IsContent u) cs
  honest : IsHonest (statistics_of zone) cs
  nulls : zone.nulls ≡ null_count_of cs
  rows : zone.rows ≡ length cs
  none : non_null cs ≡ [] → (zone.low ≡ absent) × (zone.high ≡ absent)

from_low : (p : Precision Content) (v : Content) (cs : List Content) → IsHonestLeast p cs → Among v cs → is_null v ≡ false → IsFrom p v
from_low (exact b) v cs h g n = value_among (IsNotAbove b) v cs h.least g n
from_low (inexact b) v cs h g n = value_among (IsNotAbove b) v cs h g n
from_low absent v cs h g n = tt

to_high : (p : Precision Content) (v : Content) (cs : List Content) → IsHonestGreatest p cs → Among v cs → is_null v ≡ false → IsUpTo p v
to_high (exact b) v cs h g n = value_among (λ c. IsNotAbove c b) v cs h.greatest g n
to_high (inexact b) v cs h g n = value_among (λ c. IsNotAbove c b) v cs h g n
to_high absent v cs h g n = tt

fewer_nulls : (v : Content) (cs : List Content) → Among v cs → is_null v ≡ false → null_count_of cs < length cs
fewer_nulls v cs g e = by_count (cases_lt (null_count_of cs) (length cs))
  where
    by_count : (null_count_of cs < length cs) ⊎ (length cs ≤ null_count_of cs) → null_count_of cs < length cs
    by_count (inl h) = h
    by_count (inr h) =
        let n : ℕ = null_count_of cs in let l : ℕ = length cs in let most : n ≤ l = count_by-le-length is_null cs in
        let all : n ≡ l = omega (arith, h, most) in let f = all_null_among v cs all g in absurd (cc (e, f))

-- ---- the columns under null tests

among_any : (xs : Names) (yss : List Names) → Among xs yss → list_any (eq_names xs) yss ≡ true
among_any xs [] h = absurd h
among_any xs (ys ∷ yss) (inl e) = or_left (eq_names xs ys) (list_any (eq_names xs) yss) (ap (eq_names xs) e ∙ names_same xs)
among_any xs (ys ∷ yss) (inr h) = or_right (eq_names xs ys) (list_any (eq_names xs) yss) (among_any xs yss h)

-- each path is in the other list
abbrev AreAmong : List Names → List Names → Type 0
AreAmong xss yss = AllByRecursion (λ xs. list_any (eq_names xs) yss ≡ true) xss

-- ---- a row of a chunk

leaf_of : (o : Option LogicalType) → column_fault o ≡ None → (u : LogicalType) × (o ≡ Some u) × (is_leaf u ≡ true)
leaf_of None e = absurd (cc (e))
leaf_of (Some u) e = (u, refl, unless_none (is_leaf u) not_a_leaf e)

two_none : (p q r : Option Refusal) → or_else p (or_else q r) ≡ None → (p ≡ None) × (q ≡ None)
two_none p q r e = (first_none p (or_else q r) e, first_none q r (second_none p (or_else q r) e))

abbrev kind_of_column : Option LogicalType → LogicalType
kind_of_column None = boolean_type non_nullable
kind_of_column (Some u) = u

module _ (t : Table) (chunk : List Content) (rows : AllByRecursion (IsContent t.kind) chunk) where
  abbrev values_in : Names → List Content
  values_in xs = map (column_value t.kind xs) chunk

  abbrev box : Box
  box = box_of (chunk_zone t chunk)

  abbrev zone_of_leaf : Option (Positions × LogicalType) → ZoneMap
  zone_of_leaf o = elim (option_map (λ leaf. chunk_zone_at t chunk leaf.0 leaf.1) o) [ None ↦ unknown_zone | Some z ↦ z ]

  abbrev zone_by : Option Positions → ZoneMap
  zone_by p = zone_of_leaf (option_and_then (λ is. if_leaf is (type_at t.kind is)) p)

  abbrev value_by : Option Positions → Content → Content
  value_by p row = elim p [ None ↦ null | Some is ↦ at row is ]

  told_by : (p : Option Positions) (u : LogicalType) → option_and_then (type_at t.kind) p ≡ Some u → is_leaf u ≡ true → Told u (zone_by p) (map (value_by p) chunk)
  told_by None u e w = absurd (cc (e))
  told_by (Some is) u e w =
      let cs = map (λ row. at row is) chunk in let typed = all_at_type t.kind is u chunk e rows in let L = bound_length t is in
      subst (λ o. Told u (zone_of_leaf (if_leaf is o)) cs) (sym e) (subst (λ b. Told u (zone_of_leaf (if b then Some (is, u) else None)) cs) (sym w) (record {
        leaf = w;
        values = typed;
        honest = honest_zone u u L cs w typed;
        nulls = refl;
        rows = refl;
        none = λ e. (
          ap (λ ns. elim (least_value ns) [ None ↦ absent | Some v ↦ bound_of (is_longer L v) (low L v) ]) e,
          ap (λ ns. elim (greatest_value ns) [ None ↦ absent | Some v ↦ (elim (high L v) [ None ↦ absent | Some h ↦ bound_of (is_longer L v) h ]) ]) e,
        );
      }))

  told_column : (xs : Names) (u : LogicalType) → type_of_column t.kind xs ≡ Some u → is_leaf u ≡ true → Told u (box xs) (values_in xs)
  told_column xs u e w = told_by (positions t.kind xs) u e w

  value_of_type : (xs : Names) (u : LogicalType) (v : Content) → type_of_column t.kind xs ≡ Some u → IsContent (with_nullability non_nullable u) v → IsValueOf t.kind xs v
  value_of_type xs u v e h = subst (λ o. IfSome o (λ l. IsContent (with_nullability non_nullable l) v)) (sym e) h

  -- a non-null value of the column is in the box
  among_between : (xs : Names) (u : LogicalType) (v : Content) → type_of_column t.kind xs ≡ Some u → is_leaf u ≡ true → Among v (values_in xs) → is_null v ≡ false →
      IsBetween t.kind box xs v
  among_between xs u v e w g n =
      let told = told_column xs u e w in record {
        value = value_of_type xs u v e (value_held u v w (all_among (IsContent u) v (values_in xs) told.values g) n);
        from = from_low (box xs).low v (values_in xs) told.honest.least g n;
        to = to_high (box xs).high v (values_in xs) told.honest.greatest g n;
      }

  default_between : (xs : Names) (u : LogicalType) → type_of_column t.kind xs ≡ Some u → is_leaf u ≡ true → non_null (values_in xs) ≡ [] →
      IsBetween t.kind box xs (default_of u)
  default_between xs u e w n =
      let none = (told_column xs u e w).none n in record {
        value = value_of_type xs u (default_of u) e (default_held u w);
        from = subst (λ p. IsFrom p (default_of u)) (sym none.0) tt;
        to = subst (λ p. IsUpTo p (default_of u)) (sym none.1) tt;
      }

  abbrev stand_in : Names → Content
  stand_in xs = first_value (kind_of_column (type_of_column t.kind xs)) (values_in xs)

  stands_between : (xs : Names) → column_fault (type_of_column t.kind xs) ≡ None → IsBetween t.kind box xs (stand_in xs)
  stands_between xs f =
      let l = leaf_of (type_of_column t.kind xs) f in
      subst (λ o. IsBetween t.kind box xs (first_value (kind_of_column o) (values_in xs))) (sym l.1)
      (elim (first_cases l.0 (values_in xs)) [
        | inl h ↦ among_between xs l.0 (first_value l.0 (values_in xs)) l.1 l.2 h.0 h.1
        | inr h ↦ subst (λ v. IsBetween t.kind box xs v) (sym h.1) (default_between xs l.0 l.1 l.2 h.0)
      ])

  module _ (row : Content) (here : Among row chunk) (tested : List Names) where
    value_here : (xs : Names) → Among (column_value t.kind xs row) (values_in xs)
    value_here xs = among_map (column_value t.kind xs) row chunk here

    column_may : (xs : Names) → column_fault (type_of_column t.kind xs) ≡ None → is_null (column_value t.kind xs row) ≡ false →
        IsBetween t.kind box xs (column_value t.kind xs row)
    column_may xs f n = let l = leaf_of (type_of_column t.kind xs) f in among_between xs l.0 (column_value t.kind xs row) l.1 l.2 (value_here xs) n

    column_counted : (xs : Names) → column_fault (type_of_column t.kind xs) ≡ None → IsCounted t.kind box xs (column_value t.kind xs row)
    column_counted xs f =
        let l = leaf_of (type_of_column t.kind xs) f in let told = told_column xs l.0 l.1 l.2 in record {
          at_null = λ n z. let no = no_null_among (column_value t.kind xs row) (values_in xs) (sym told.nulls ∙ z) (value_here xs) in absurd (cc (n, no));
          at_value = λ n. (
            (column_may xs f n).value,
            (
                let few = fewer_nulls (column_value t.kind xs row) (values_in xs) (value_here xs) n in
                subst (λ m. m < (box xs).rows) (sym told.nulls) (subst (λ m. null_count_of (values_in xs) < m) (sym told.rows) few)),
          );
        }

    abbrev filler : Names → Content
    filler xs = if list_any (eq_names xs) tested then column_value t.kind xs row else stand_in xs

    untested : (xs : Names) → column_fault (type_of_column t.kind xs) ≡ None → list_any (eq_names xs) tested ≡ false → IsBetween t.kind box xs (filler xs)
    untested xs f e =
        subst (λ v. IsBetween t.kind box xs v) (sym (ap (λ b. if b then column_value t.kind xs row else stand_in xs) e)) (stands_between xs f)

    tested_keeps : (xs : Names) → list_any (eq_names xs) tested ≡ true → filler xs ≡ column_value t.kind xs row
    tested_keeps xs e = ap (λ b. if b then column_value t.kind xs row else stand_in xs) e

    -- the row is within the box, and so is the filler
    abbrev Lies : Expression → Type 0
    Lies e = MayHold t.kind box row e × Fills t.kind box filler row e

    column_lies : (x : Expression) → is_column x ≡ true → expression_fault t.kind x ≡ None → AreApart (columns_of x) tested → Lies x
    column_lies (column xs) w f h = (column_may xs f, untested xs f h.0)
    column_lies x w f h = absurd (cc (w))

    sides_lie : (x y : Expression) → are_sides x y ≡ true → expression_fault t.kind x ≡ None → expression_fault t.kind y ≡ None →
        AreApart (columns_of x ++ columns_of y) tested → Lies x × Lies y
    sides_lie (column xs) (column ys) w f g h = ((column_may xs f, untested xs f h.0), (column_may ys g, untested ys g h.1.0))
    sides_lie (column xs) (literal l c) w f g h = ((column_may xs f, untested xs f h.0), (tt, tt))
    sides_lie (literal l c) (column ys) w f g h = ((tt, tt), (column_may ys g, untested ys g h.0))
    sides_lie x y w f g h = absurd (cc (w))

    ends_lie : (x lo hi : Expression) → is_column x ≡ true → are_ends lo hi ≡ true → expression_fault t.kind x ≡ None →
        AreApart (columns_of x ++ columns_of lo ++ columns_of hi) tested → Lies (between x lo hi false false)
    ends_lie (column xs) (literal l c) (literal m d) w v f h = ((column_may xs f, tt, tt), (untested xs f h.0, tt, tt))
    ends_lie (column xs) (literal l c) hi w v f h = absurd (cc (v))
    ends_lie (column xs) lo hi w v f h = absurd (cc (v))
    ends_lie x lo hi w v f h = absurd (cc (w))

    like_lies : (x : Expression) (l : LogicalType) (form : List ℕ) → is_column x ≡ true → expression_fault t.kind x ≡ None →
        AreApart (columns_of x ++ []) tested → Lies (like x (literal l (text form)) false false)
    like_lies (column xs) l form w f h = ((column_may xs f, tt), (untested xs f h.0, tt))
    like_lies x l form w f h = absurd (cc (w))

    lies : (e : Expression) → is_wide_tree e ≡ true → expression_fault t.kind e ≡ None → AreApart (columns_outside_tests e) tested → AreAmong (columns_under_tests e) tested → Lies e
    lies (compare op x y) w f h u =
        let g = two_none (expression_fault t.kind x) (expression_fault t.kind y) (unless (eq_optional_type (expression_type t.kind x) (expression_type t.kind y)) unequal_types) f in
        let s = sides_lie x y w g.0 g.1 h in ((s.0.0, s.1.0), (s.0.1, s.1.1))
    lies (both x y) w f h u =
        let g = two_none (expression_fault t.kind x) (expression_fault t.kind y) (unless (is_boolean (expression_type t.kind x) && is_boolean (expression_type t.kind y)) not_boolean) f in
        let P = λ (xs : Names). NotAmong xs tested in let Q = λ (xs : Names). list_any (eq_names xs) tested ≡ true in
        let a = lies x (first_so (is_wide_tree x) (is_wide_tree y) w) g.0 (front_of_all P (columns_outside_tests x) (columns_outside_tests y) h) (front_of_all Q (columns_under_tests x) (columns_under_tests y) u) in
        let b = lies y (second_so (is_wide_tree x) (is_wide_tree y) w) g.1 (back_of_all P (columns_outside_tests x) (columns_outside_tests y) h) (back_of_all Q (columns_under_tests x) (columns_under_tests y) u) in
        ((a.0, b.0), (a.1, b.1))
    lies (either x y) w f h u =
        let g = two_none (expression_fault t.kind x) (expression_fault t.kind y) (unless (is_boolean (expression_type t.kind x) && is_boolean (expression_type t.kind y)) not_boolean) f in
        let P = λ (xs : Names). NotAmong xs tested in let Q = λ (xs : Names). list_any (eq_names xs) tested ≡ true in
        let a = lies x (first_so (is_wide_tree x) (is_wide_tree y) w) g.0 (front_of_all P (columns_outside_tests x) (columns_outside_tests y) h) (front_of_all Q (columns_under_tests x) (columns_under_tests y) u) in
        let b = lies y (second_so (is_wide_tree x) (is_wide_tree y) w) g.1 (back_of_all P (columns_outside_tests x) (columns_outside_tests y) h) (back_of_all Q (columns_under_tests x) (columns_under_tests y) u) in
        ((a.0, b.0), (a.1, b.1))
    lies (literal l c) w f h u = (tt, tt)
    lies (is_null_test (column xs)) w f h u = (column_counted xs f, tested_keeps xs u.0)
    lies (is_not_null_test (column xs)) w f h u = (column_counted xs f, tested_keeps xs u.0)
    lies (between x lo hi false false) w f h u =
        ends_lie x lo hi (first_so (is_column x) (are_ends lo hi) w) (second_so (is_column x) (are_ends lo hi) w)
        (first_none (expression_fault t.kind x) (or_else (expression_fault t.kind lo) (or_else (expression_fault t.kind hi)
        (unless (eq_optional_type (expression_type t.kind x) (expression_type t.kind lo) && eq_optional_type (expression_type t.kind x) (expression_type t.kind hi)) unequal_types))) f) h
    lies (like x (literal l (text form)) false false) w f h u =
        like_lies x l form (first_so (is_column x) (is_text_form form) w)
        (first_none (expression_fault t.kind x) (or_else (expression_fault t.kind (literal l (text form))) (or_else
        (unless (is_utf8_type (expression_type t.kind x) && is_utf8_type (Some l)) unequal_types)
        (unless (is_supported_like (literal l (text form)) false) unsupported_like))) f) h
    lies e w f h u = absurd (cc (w))

-- ---- a chunk

pub hopeless_holds_none : (t : Table) (e : Expression) (chunk : List Content) → predicate_fault t.kind e ≡ None → is_wide e ≡ true →
    AllByRecursion (IsContent t.kind) chunk → Hopeless t.kind e (box_of (chunk_zone t chunk)) → filter (selects t.kind e) chunk ≡ []
hopeless_holds_none t e chunk f w rows hopeless =
    let plain = columns_outside_tests e in let tested = columns_under_tests e in let parts = wide_parts e w in
    let fault = first_none (expression_fault t.kind e) (unless (is_boolean (expression_type t.kind e)) not_boolean) f in
    let own = each_among (λ xs. list_any (eq_names xs) tested ≡ true) tested (λ xs there. among_any xs tested there) in
    kept_none (selects t.kind e) chunk (λ row here.
    let l = lies t chunk rows row here tested e parts.0 fault (apart plain tested parts.2) own in
    never_true (value_at t.kind e row) (none_held t.kind e (box_of (chunk_zone t chunk)) (filler t chunk rows row here tested) row parts.0 hopeless l.0 l.1))
