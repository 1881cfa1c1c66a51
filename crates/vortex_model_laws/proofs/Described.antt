-- The values of a group are those of its chunks, one after another.
use Rattle.std.proofs.Common.{◌≡◌, refl, sym, ◌∙◌, ap, subst, ℕ, zero, suc, ℤ, ◌+ℤ◌, List, [], ◌∷◌, ◌++◌, take, drop, map, flat_map, Bool, true, false, if◌then◌else◌, Option, Some, None, ◌⊎◌, inl, inr}
use Rattle.std.specs.Prelude.{slice_get}
use Rattle.std.specs.List.{AllByRecursion}
use Rattle.std.proofs.Math.IntN.{+ℤ_assoc, +ℤ_idl}
use Rattle.std.proofs.lemmas.List.{map-append}
use Rattle.vortex_model.specs.LogicalType.{LogicalType, null_only, IntKind}
use Rattle.vortex_model.specs.Content.{Content}
use Rattle.vortex_model.specs.Valid.{IsContent, in_range}
use Rattle.vortex_model.specs.Path.{Positions, type_at, at}
use Rattle.vortex_model.specs.Kept.{is_leaf}
use Rattle.vortex_model.proofs.Lists.{map_twice}
use Rattle.vortex_model_table.specs.Typing.{sum_kind}
use Rattle.vortex_model_table.specs.Statistics.{Precision, exact, absent, number_in, sum_of, is_constant, IsHonest, IsHonestLeast, IsHonestGreatest, IsHonestValue}
use Rattle.vortex_model_table.specs.ZoneMap.{ZoneMap, zone_of, sum_in, total_of, values_at, group_bounds, statistics_of}
use Rattle.vortex_model_table.specs.Table.{Table, IsTable, bound_length}
use Rattle.vortex_model_table.specs.Scan.{grouped, kind_at}
use Rattle.vortex_model_table.specs.Reply.{chunks_of_group, chunk_zones, Describes}
use Rattle.vortex_model_laws.proofs.Columns.{all_at_type}
use Rattle.vortex_model_laws.proofs.Groups.{honest_bounds}

abbrev rows_in : List (List Content) → List Content
rows_in chunks = flat_map (λ chunk. chunk) chunks

-- ---- the chunks of a group are chunks of the table

all_taken : {X : Type 0} (P : X → Type 0) (n : ℕ) (xs : List X) → AllByRecursion P xs →
    AllByRecursion P (take n xs)
all_taken P zero xs h = tt
all_taken P (suc n) [] h = tt
all_taken P (suc n) (x ∷ xs) h = (h.0, all_taken P n xs h.1)

all_dropped : {X : Type 0} (P : X → Type 0) (n : ℕ) (xs : List X) → AllByRecursion P xs →
    AllByRecursion P (drop n xs)
all_dropped P zero xs h = h
all_dropped P (suc n) [] h = tt
all_dropped P (suc n) (x ∷ xs) h = all_dropped P n xs h.1

all_in_group : (P : List Content → Type 0) (sizes : List ℕ) (chunks : List (List Content)) (i : ℕ) →
    AllByRecursion P chunks →
    AllByRecursion P (elim (slice_get (grouped sizes chunks) i) [ None ↦ [] | Some cs ↦ cs ])
all_in_group P [] chunks i h = tt
all_in_group P (n ∷ sizes) chunks zero h = all_taken P n chunks h
all_in_group P (n ∷ sizes) chunks (suc i) h =
    all_in_group P sizes (drop n chunks) i (all_dropped P n chunks h)

-- ---- values at positions

values_of_all : (is : Positions) (chunks : List (List Content)) →
    rows_in (map (values_at is) chunks) ≡ values_at is (rows_in chunks)
values_of_all is [] = refl
values_of_all is (chunk ∷ chunks) =
    ap (λ cs. values_at is chunk ++ cs) (values_of_all is chunks)
    ∙ sym (map-append (λ row. at row is) chunk (rows_in chunks))

pub all_of_type : (k : LogicalType) (is : Positions) (u : LogicalType) (chunks : List (List Content)) →
    type_at k is ≡ Some u → AllByRecursion (λ chunk. AllByRecursion (IsContent k) chunk) chunks →
    AllByRecursion (λ cs. AllByRecursion (IsContent u) cs) (map (values_at is) chunks)
all_of_type k is u [] e h = tt
all_of_type k is u (chunk ∷ chunks) e h =
    (all_at_type k is u chunk e h.0, all_of_type k is u chunks e h.1)

pub sum_append : (cs ds : List Content) → sum_of (cs ++ ds) ≡ sum_of cs +ℤ sum_of ds
sum_append [] ds = sym (+ℤ_idl (sum_of ds))
sum_append (c ∷ cs) ds =
    ap (λ z. number_in c +ℤ z) (sum_append cs ds)
    ∙ sym (+ℤ_assoc (number_in c) (sum_of cs) (sum_of ds))

sums_of_all : (is : Positions) (chunks : List (List Content)) →
    total_of (map (λ chunk. sum_of (values_at is chunk)) chunks)
    ≡ sum_of (values_at is (rows_in chunks))
sums_of_all is [] = refl
sums_of_all is (chunk ∷ chunks) =
    ap (λ z. sum_of (values_at is chunk) +ℤ z) (sums_of_all is chunks)
    ∙ sym (sum_append (values_at is chunk) (values_at is (rows_in chunks)))
    ∙ ap sum_of (sym (map-append (λ row. at row is) chunk (rows_in chunks)))

-- ---- totals and constancies that may be absent

sum_honest : (o : Option IntKind) (s r : ℤ) → s ≡ r → IsHonestValue (sum_in o s) r
sum_honest None s r e = tt
sum_honest (Some i) s r e = by_test (in_range i s)
  where
    by_test : (b : Bool) → IsHonestValue (if b then exact s else absent) r
    by_test true = e
    by_test false = tt

total_honest : (o : Option IntKind) (p : Precision ℤ) (s r : ℤ) → s ≡ r →
    (p ≡ absent) ⊎ (p ≡ sum_in o s) → IsHonestValue p r
total_honest o p s r e (inl h) = subst (λ q. IsHonestValue q r) (sym h) tt
total_honest o p s r e (inr h) = subst (λ q. IsHonestValue q r) (sym h) (sum_honest o s r e)

constant_honest : (p : Precision Bool) (b : Bool) → (p ≡ absent) ⊎ (p ≡ exact b) → IsHonestValue p b
constant_honest p b (inl h) = subst (λ q. IsHonestValue q b) (sym h) tt
constant_honest p b (inr h) = subst (λ q. IsHonestValue q b) (sym h) refl

-- ---- a description

module _ (t : Table) (is : Positions) (i : ℕ) (table : IsTable t) where
  abbrev kind : LogicalType
  kind = kind_at t.kind is

  abbrev group : List (List Content)
  group = chunks_of_group t i

  abbrev values : List Content
  values = values_at is (rows_in group)

  bounds_honest : type_at t.kind is ≡ Some kind → is_leaf kind ≡ true →
      IsHonest (statistics_of (group_bounds (chunk_zones t is i))) values
  bounds_honest e w =
      subst (IsHonest (statistics_of (group_bounds (chunk_zones t is i)))) (values_of_all is group)
      (subst (λ zones. IsHonest (statistics_of (group_bounds zones))
      (rows_in (map (values_at is) group)))
      (map_twice (zone_of kind (bound_length t is)) (values_at is) group)
      (honest_bounds kind (bound_length t is) (map (values_at is) group) w
      (all_of_type t.kind is kind group e
      (all_in_group (λ chunk. AllByRecursion (IsContent t.kind) chunk) t.groups t.chunks i
      table.rows))))

  described : (z : ZoneMap) → Describes t is i z →
      IsHonest (statistics_of (group_bounds (chunk_zones t is i))) values →
      IsHonest (statistics_of z) values
  described z d h = record {
    least = subst (λ p. IsHonestLeast p values) (sym d.low) h.least;
    greatest = subst (λ p. IsHonestGreatest p values) (sym d.high) h.greatest;
    total = total_honest (sum_kind kind) z.total
        (total_of (map (λ chunk. sum_of (values_at is chunk)) group)) (sum_of values)
        (sums_of_all is group) d.total.honest;
    nulls = d.nulls ∙ h.nulls;
    nans = tt;
    constant = constant_honest z.constant (is_constant values) d.constant.honest;
    sorted = tt;
    strictly_sorted = tt;
  }

pub descriptions_honest : (t : Table) (is : Positions) (k : LogicalType) (i : ℕ) (z : ZoneMap) →
    IsTable t → type_at t.kind is ≡ Some k → is_leaf k ≡ true → Describes t is i z →
    IsHonest (statistics_of z) (values_at is (rows_in (chunks_of_group t i)))
descriptions_honest t is k i z table e w d =
    let same : kind_at t.kind is ≡ k = ap (λ o. elim o [ None ↦ null_only | Some u ↦ u ]) e in
    described t is i table z d
    (bounds_honest t is i table (e ∙ ap Some (sym same)) (ap is_leaf same ∙ w))
