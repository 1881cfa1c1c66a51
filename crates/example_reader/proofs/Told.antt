-- What is described of each column of a group makes an honest zone.
use Rattle.std.proofs.Common.{◌≡◌, ℕ, zero, suc, pos, true, List, [], ◌∷◌, ◌++◌, length, map, Some, refl, sym, ap, subst, ◌∙◌, append_assoc, append-nil, inl, inr}
use Rattle.std.specs.List.{AllByRecursion}
use Rattle.vortex_model.specs.LogicalType.{LogicalType, null_only, boolean_type, integer_type, float, decimal, utf8, binary, list, fixed_list, mapping, struct, union, variant, extension, Fields, no_fields, field, Nullability, non_nullable, nullable, nullable_inside}
use Rattle.vortex_model.specs.Content.{Content, null, integer, tuple, Contents, nothing, first, nth}
use Rattle.vortex_model.specs.Kept.{is_leaf}
use Rattle.vortex_model.specs.Path.{Positions, Step, name, field_at, type_at, at}
use Rattle.vortex_model.specs.Valid.{IsContent}
use Rattle.vortex_model_table.specs.Command.{positions_of}
use Rattle.vortex_model_table.specs.Reply.{Describes}
use Rattle.vortex_model_table.specs.Statistics.{Precision, exact, inexact, absent, shown, IsHonest, IsHonestLeast, IsHonestGreatest}
use Rattle.vortex_model_table.specs.Table.{Table, IsTable}
use Rattle.vortex_model_table.specs.ZoneMap.{ZoneMap, values_at, statistics_of}
use Rattle.vortex_model_laws.specs.Described.{DescriptionsAreHonest}
use Rattle.vortex_dtype_core.specs.Parts.{name_at}
use Rattle.vortex_table_core.specs.GroupRows.{rows_of_group}
use Rattle.vortex_table_zones.specs.Zone.{told, IsTold, IsOfEach, AreOfEach, IsZoneOf}
use Rattle.vortex_table_zones.specs.declared.statistic.Statistic.{Statistic}
use Rattle.vortex_table_zones.specs.declared.statistic.Statistic.TheVariants.{Lower, Upper, NullCount}
use Rattle.vortex_table_zones.proofs.Named.{kept_part}
use Rattle.example_reader.specs.Zones.{IsLower, IsUpper, IsNullCount, IsHonestOf}
use Rattle.example_reader.proofs.Paths.{names_at, opened, inner, way_back}

leaf_inside : (n : Nullability) (k : LogicalType) → is_leaf (nullable_inside n k) ≡ is_leaf k
leaf_inside non_nullable k = refl
leaf_inside nullable null_only = refl
leaf_inside nullable (boolean_type m) = refl
leaf_inside nullable (integer_type i m) = refl
leaf_inside nullable (float f m) = refl
leaf_inside nullable (decimal p s m) = refl
leaf_inside nullable (utf8 m) = refl
leaf_inside nullable (binary m) = refl
leaf_inside nullable (list k m) = refl
leaf_inside nullable (fixed_list k j m) = refl
leaf_inside nullable (mapping k v s m) = refl
leaf_inside nullable (struct fs m) = refl
leaf_inside nullable (union vs m) = refl
leaf_inside nullable (variant m) = refl
leaf_inside nullable (extension id meta k) = refl

-- ---- a column among those of records

module _ (P : List Step → Content → Type 0) where
  own : (path : List Step) (k : LogicalType) (c : Content) → IsOfEach P path k c → is_leaf k ≡ true → P path c
  own path (struct fs n) c h l = absurd (cc l)
  own path k c h l = h.0 l

  among : (path : List Step) (fs : Fields) (cs : Contents) (i : ℕ) (part : LogicalType) (x : List ℕ) → AreOfEach P path fs cs → field_at fs i ≡ Some part →
      name_at fs i ≡ Some x → IsOfEach P (path ++ name x ∷ []) part (nth cs i)
  among path no_fields cs i part x h e f = absurd (cc e)
  among path (field y k fs) nothing i part x h e f = absurd h
  among path (field y k fs) (first c cs) zero part x h e f =
      let same : k ≡ part = cc e in
      let named : y ≡ x = cc f in
      subst (λ (z : List ℕ). IsOfEach P (path ++ name z ∷ []) part c) named (subst (λ (j : LogicalType). IsOfEach P (path ++ name y ∷ []) j c) same h.0)
  among path (field y k fs) (first c cs) (suc i) part x h e f = among path fs cs i part x h.1 e f

  pub known_at : (is : Positions) (path : List Step) (k : LogicalType) (c : Content) (u : LogicalType) → IsOfEach P path k c → type_at k is ≡ Some u →
      is_leaf u ≡ true → P (path ++ map name (names_at k is)) (at c is)
  known_at [] path k c u h e l =
      let same : u ≡ k = cc e in
      subst (λ (p : List Step). P p c) (sym (append-nil path)) (own path k c h (sym (ap is_leaf same) ∙ l))
  known_at (i ∷ is) path (struct fs n) (tuple cs) u h e l =
      let at_i = inner n (field_at fs i) is u e in
      let names = opened fs i is at_i.part at_i.here in
      let leaf : is_leaf at_i.kind ≡ true = sym (leaf_inside n at_i.kind) ∙ sym (ap is_leaf at_i.whole) ∙ l in
      let below = known_at is (path ++ name names.first ∷ []) at_i.part (nth cs i) at_i.kind
      (among path fs cs i at_i.part names.first h at_i.here names.here) at_i.below leaf in
      subst (λ (p : List Step). P p (at (nth cs i) is))
      (append_assoc path (name names.first ∷ []) (map name (names_at at_i.part is)) ∙ sym (ap (λ xs. path ++ map name xs) names.names)) below
  known_at (i ∷ is) path (struct fs n) c u h e l = absurd h
  known_at (i ∷ is) path k c u h e l = absurd (cc e)

-- ---- what is shown of honest statistics

-- what an honest zone has of a column for each statistic
abbrev Holds : Statistic → Content → List Content → Type 0
Holds Lower c values = IsLower c values
Holds Upper c values = IsUpper c values
Holds NullCount c values = IsNullCount c values

lower_so : (p : Precision Content) (values : List Content) → IsHonestLeast p values → IsLower (shown p) values
lower_so (exact v) values h = inr h.least
lower_so (inexact v) values h = inr h
lower_so absent values h = inl refl

upper_so : (p : Precision Content) (values : List Content) → IsHonestGreatest p values → IsUpper (shown p) values
upper_so (exact v) values h = inr h.greatest
upper_so (inexact v) values h = inr h
upper_so absent values h = inl refl

told_so : (s : Statistic) (z : ZoneMap) (values : List Content) → IsHonest (statistics_of z) values → Holds s (told s z) values
told_so Lower z values h = lower_so z.low values h.least
told_so Upper z values h = upper_so z.high values h.greatest
told_so NullCount z values h = inr (ap (λ (m : ℕ). integer (pos m)) h.nulls)

null_so : (s : Statistic) (values : List Content) → Holds s null values
null_so Lower values = inl refl
null_so Upper values = inl refl
null_so NullCount values = inl refl

-- ---- a zone

module _ (t : Table) (i : ℕ) (table : IsTable t) (law : DescriptionsAreHonest) where
  abbrev rows : List Content
  rows = rows_of_group t i

  by_told : (s : Statistic) (c : Content) (is : Positions) (u : LogicalType) → type_at t.kind is ≡ Some u → is_leaf u ≡ true →
      IsTold t i s (map name (names_at t.kind is)) (at c is) → Holds s (at c is) (values_at is rows)
  by_told s c is u e l (inl h) =
      let back : positions_of t.kind (map name (names_at t.kind is)) ≡ is = way_back t.kind is u (kept_part t.kind table.holds) e in
      subst (λ d. Holds s d (values_at is rows)) (sym h.2)
      (told_so s h.0 (values_at is rows) (law t is u i h.0 table e l (subst (λ js. Describes t js i h.0) back h.1)))
  by_told s c is u e l (inr h) = subst (λ d. Holds s d (values_at is rows)) (sym h.1) (null_so s (values_at is rows))

  of_column : (s : Statistic) (c : Content) → IsOfEach (IsTold t i s) [] t.kind c → (is : Positions) (u : LogicalType) → type_at t.kind is ≡ Some u →
      is_leaf u ≡ true → Holds s (at c is) (values_at is rows)
  of_column s c h is u e l = by_told s c is u e l (known_at (IsTold t i s) is [] t.kind c u h e l)

  made_honest : (lower upper nulls : Content) → AllByRecursion (IsContent t.kind) rows → IsOfEach (IsTold t i Lower) [] t.kind lower →
      IsOfEach (IsTold t i Upper) [] t.kind upper → IsOfEach (IsTold t i NullCount) [] t.kind nulls →
      IsHonestOf t.kind (tuple (first (integer (pos (length rows))) (first lower (first upper (first nulls nothing))))) rows
  made_honest lower upper nulls typed low high counts = record {
    typed = typed;
    counted = refl;
    lower = λ is u e l. of_column Lower lower low is u e l;
    upper = λ is u e l. of_column Upper upper high is u e l;
    nulls = λ is u e l. of_column NullCount nulls counts is u e l;
  }

  pub zone_honest : (zone : Content) → AllByRecursion (IsContent t.kind) rows → IsZoneOf t i zone → IsHonestOf t.kind zone rows
  zone_honest zone typed is =
      subst (λ (c : Content). IsHonestOf t.kind c rows) (sym is.fields)
      (made_honest is.lower is.upper is.nulls typed is.lower_of is.upper_of is.nulls_of)
