-- The zones of a table's groups.
use Rattle.std.proofs.Common.{◌≡◌, ◌+◌, ◌<◌, ◌≤◌, nat_lt, ℕ, zero, suc, Bool, true, false, List, [], ◌∷◌, ◌++◌, length, map, take, drop, flat_map, Option, Some, None, if◌then◌else◌, IsTrue, refl, sym, ap, subst, ◌∙◌, arith, lt-ltb}
use Rattle.std.specs.Prelude.{slice_get}
use Rattle.std.specs.List.{AllByRecursion}
use Rattle.std.proofs.lemmas.List.{map-append, length-append, length-map}
use Rattle.vortex_model.specs.LogicalType.{LogicalType}
use Rattle.vortex_model.specs.Content.{Content, Raw, content_of}
use Rattle.vortex_model.specs.Kept.{type_fault}
use Rattle.vortex_model.specs.Refusal.{Refusal, invalid_value, no_such_group}
use Rattle.vortex_model.specs.Valid.{valid, IsContent}
use Rattle.vortex_model.proofs.Lists.{all_append}
use Rattle.vortex_model_table.specs.Command.{first_invalid, unless}
use Rattle.vortex_model_table.specs.Reply.{chunks_of_group}
use Rattle.vortex_model_table.specs.Scan.{grouped}
use Rattle.vortex_model_laws.specs.Described.{DescriptionsAreHonest}
use Rattle.vortex_scalar_value.specs.View.{raw_of, raw_in, content_in}
use Rattle.vortex_scalar_value.specs.declared.scalar_value.ScalarValue.{ScalarValue}
use Rattle.vortex_arrays_builder.specs.TooLarge.{AreTooLarge}
use Rattle.vortex_table_schema.specs.Error.{Explains}
use Rattle.vortex_table_schema.specs.declared.error.TableError.{TableError}
use Rattle.vortex_table_schema.specs.declared.error.TableError.TheVariants as error
use Rattle.vortex_table_schema.proofs.Explained.{none_both}
use Rattle.vortex_table_core.specs.GroupRows.{rows_of_group}
use Rattle.vortex_table_core.specs.TableView.{table_of}
use Rattle.vortex_table_core.specs.declared.table.Table.{Table}
use Rattle.vortex_table_core.proofs.Tables.{is_table}
use Rattle.vortex_table_zones.specs.Build.{rows_fault}
use Rattle.vortex_table_zones.specs.Types.{zone_type}
use Rattle.vortex_table_zones.specs.Zone.{IsZoneOf}
use Rattle.vortex_table_zones.proofs.KeptZones.{zone_kept}
use Rattle.example_reader.specs.Zones.{IsHonestOf}
use Rattle.example_reader.specs.Written.{EachFrom, AreZonesOf, HasTooLargeZones, AreHonestOf}
use Rattle.example_reader.proofs.Told.{zone_honest}

-- ---- the rows of a group are of the table's type

module _ (P : List Content → Type 0) where
  front : (n : ℕ) (chunks : List (List Content)) → AllByRecursion P chunks → AllByRecursion P (take n chunks)
  front zero chunks h = tt
  front (suc n) [] h = tt
  front (suc n) (chunk ∷ chunks) h = (h.0, front n chunks h.1)

  behind : (n : ℕ) (chunks : List (List Content)) → AllByRecursion P chunks → AllByRecursion P (drop n chunks)
  behind zero chunks h = h
  behind (suc n) [] h = tt
  behind (suc n) (chunk ∷ chunks) h = behind n chunks h.1

  of_group : (sizes : List ℕ) (chunks : List (List Content)) (i : ℕ) → AllByRecursion P chunks →
      AllByRecursion P (elim (slice_get (grouped sizes chunks) i) [ None ↦ [] | Some own ↦ own ])
  of_group [] chunks zero h = tt
  of_group [] chunks (suc i) h = tt
  of_group (n ∷ sizes) chunks zero h = front n chunks h
  of_group (n ∷ sizes) chunks (suc i) h = of_group sizes (drop n chunks) i (behind n chunks h)

flat : (k : LogicalType) (chunks : List (List Content)) → AllByRecursion (λ chunk. AllByRecursion (IsContent k) chunk) chunks →
    AllByRecursion (IsContent k) (flat_map (λ chunk. chunk) chunks)
flat k [] h = tt
flat k (chunk ∷ chunks) h = all_append (IsContent k) chunk (flat_map (λ c. c) chunks) h.0 (flat k chunks h.1)

typed : (t : Table) (i : ℕ) → AllByRecursion (IsContent (table_of t).kind) (rows_of_group (table_of t) i)
typed t i =
    let k = (table_of t).kind in
    flat k (chunks_of_group (table_of t) i)
    (of_group (λ chunk. AllByRecursion (IsContent k) chunk) (table_of t).groups (table_of t).chunks i (is_table t).rows)

-- ---- the zones so far

one_more : (P : ℕ → Content → Type 0) (i n : ℕ) (zones : List Content) (zone : Content) → n ≡ i + length zones → EachFrom P i zones → P n zone → EachFrom P i (zones ++ zone ∷ [])
one_more P i n [] zone e h one =
    let same : n ≡ i = omega (arith, e) in
    (subst (λ m. P m zone) same one, tt)
one_more P i n (z ∷ zones) zone e h one = (h.0, one_more P (i + 1) n zones zone (omega (arith, e)) h.1 one)

onward : (b : Bool) (o p : Option Refusal) (r : Refusal) → (o ≡ None → p ≡ None) → (if b then o else Some r) ≡ None → (if b then p else Some r) ≡ None
onward true o p r f h = f h
onward false o p r f h = absurd (cc h)

one_more_valid : (k : LogicalType) (i : ℕ) (rs : List Raw) (r : Raw) → first_invalid i k rs ≡ None → IsTrue (valid k r) → first_invalid i k (rs ++ r ∷ []) ≡ None
one_more_valid k i [] r h v = ap (λ (b : Bool). if b then None else Some (invalid_value i)) v
one_more_valid k i (q ∷ rs) r h v =
    onward (valid k q) (first_invalid (suc i) k rs) (first_invalid (suc i) k (rs ++ r ∷ [])) (invalid_value i) (λ g. one_more_valid k (suc i) rs r g v) h

-- there are this many zones, each that of its group, and valid
pub record AreSoFar (t : Table) (n : ℕ) (zones : List (Option ScalarValue)) : Type 0 where
  pub within : n ≤ length (table_of t).groups
  pub count : length zones ≡ n
  pub are_zones : EachFrom (IsZoneOf (table_of t)) 0 (map content_in zones)
  pub valid : first_invalid 0 (zone_type (table_of t).kind) (map raw_in zones) ≡ None

pub zones_start : (t : Table) → AreSoFar t 0 []
zones_start t = record { within = omega arith; count = refl; are_zones = tt; valid = refl }

pub zones_next : (t : Table) (n : ℕ) (old new : List (Option ScalarValue)) (zone : ScalarValue) → n < length (table_of t).groups → new ≡ old ++ Some zone ∷ [] →
    IsZoneOf (table_of t) n (content_of (raw_of zone)) → IsTrue (valid (zone_type (table_of t).kind) (raw_of zone)) → AreSoFar t n old → AreSoFar t (n + 1) new
zones_next t n old new zone inside made is ok so =
    let k = zone_type (table_of t).kind in
    let count : length (map content_in old) ≡ length old = length-map old content_in in
    record {
      within = omega (arith, inside);
      count = ap length made ∙ length-append old (Some zone ∷ []) ∙ ap (λ (m : ℕ). m + 1) so.count;
      are_zones = subst (EachFrom (IsZoneOf (table_of t)) 0) (sym (ap (map content_in) made ∙ map-append content_in old (Some zone ∷ [])))
          (one_more (IsZoneOf (table_of t)) 0 n (map content_in old) (content_of (raw_of zone)) (omega (arith, count, so.count)) so.are_zones is);
      valid = subst (λ (rs : List Raw). first_invalid 0 k rs ≡ None) (sym (ap (map raw_in) made ∙ map-append raw_in old (Some zone ∷ [])))
          (one_more_valid k 0 (map raw_in old) (raw_of zone) so.valid ok);
    }

-- ---- all zones

pub zones_all : (t : Table) (n : ℕ) (zones : List (Option ScalarValue)) (rows : List Content) → length (table_of t).groups ≤ n → rows ≡ map content_in zones → AreSoFar t n zones →
    AreZonesOf (table_of t) rows
zones_all t n zones rows past is so = record {
  each = ap length is ∙ length-map zones content_in ∙ so.count ∙ omega (arith, past, so.within);
  in_order = subst (EachFrom (IsZoneOf (table_of t)) 0) (sym is) so.are_zones;
}

honest_from : (t : Table) → DescriptionsAreHonest → (i : ℕ) (zones : List Content) → EachFrom (IsZoneOf (table_of t)) i zones →
    EachFrom (λ j zone. IsHonestOf (table_of t).kind zone (rows_of_group (table_of t) j)) i zones
honest_from t law i [] h = tt
honest_from t law i (zone ∷ zones) h = (zone_honest (table_of t) i (is_table t) law zone (typed t i) h.0, honest_from t law (i + 1) zones h.1)

pub zones_honest : (t : Table) (rows : List Content) → DescriptionsAreHonest → AreZonesOf (table_of t) rows → AreHonestOf (table_of t) rows
zones_honest t rows law are = record { each = are.each; honest = honest_from t law 0 rows are.in_order }

-- ---- refusals

-- there is such a group
within_none : (n m : ℕ) → n < m → unless (nat_lt n m) no_such_group ≡ None
within_none n m l = ap (λ (b : Bool). unless b no_such_group) (lt-ltb n m l)

weaker : (P Q : Type 0) (o : Option Refusal) (e : TableError) → (P → Q) → o ≡ None → Explains P o e → Explains Q None e
weaker P Q o error.Memory f none h = tt
weaker P Q o error.Total f none h = f h
weaker P Q o error.RuleFault f none h = h
weaker P Q o e f none h = sym none ∙ h

pub zone_refused : (t : Table) (n : ℕ) (e : TableError) → n < length (table_of t).groups → Explains ⊥ (unless (nat_lt n (length (table_of t).groups)) no_such_group) e →
    Explains (HasTooLargeZones (table_of t)) None e
zone_refused t n e l h = weaker ⊥ (HasTooLargeZones (table_of t)) _ e (λ no. absurd no) (within_none n (length (table_of t).groups) l) h

pub zones_refused : (t : Table) (n : ℕ) (l : LogicalType) (zones : List (Option ScalarValue)) (e : TableError) → length (table_of t).groups ≤ n → l ≡ zone_type (table_of t).kind → AreSoFar t n zones →
    Explains (AreTooLarge l (map content_in zones)) (rows_fault l (map raw_in zones)) e → Explains (HasTooLargeZones (table_of t)) None e
zones_refused t n l zones e past is so h =
    let k = zone_type (table_of t).kind in
    let faultless : rows_fault l (map raw_in zones) ≡ None =
    ap (λ (m : LogicalType). rows_fault m (map raw_in zones)) is ∙ none_both (type_fault k) (first_invalid 0 k (map raw_in zones)) (zone_kept (table_of t).kind (is_table t).holds) so.valid in
    weaker (AreTooLarge l (map content_in zones)) (HasTooLargeZones (table_of t)) (rows_fault l (map raw_in zones)) e
    (λ large. record {
      zones = map content_in zones;
      are_zones = zones_all t n zones (map content_in zones) past refl so;
      too_large = subst (λ (m : LogicalType). AreTooLarge m (map content_in zones)) is large;
    }) faultless h

pub ruleset all = (zones_start, zones_next, zones_all, zones_honest, zone_refused, zones_refused)
