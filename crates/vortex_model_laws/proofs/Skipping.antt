-- The placeholders that a table knows of its leaf columns are honest. So chunks that a scan skips
-- have no selected row, and those that it takes whole have no other.
use Rattle.std.proofs.Common.{◌≡◌, refl, sym, ◌∙◌, ap, subst, ℕ, zero, suc, ◌+◌, ◌<◌, take, get_or, arith, List, [], ◌∷◌, ◌++◌, length, map, flat_map, filter, Bool, true, false, if◌then◌else◌, Option, Some, None, option_map, option_and_then, ◌⊎◌, inl, inr, IfSome}
use Rattle.std.specs.List.{AllByRecursion}
use Rattle.vortex_model.specs.LogicalType.{LogicalType}
use Rattle.vortex_model.specs.Content.{Content, null, boolean}
use Rattle.vortex_model.specs.Valid.{IsContent}
use Rattle.vortex_model.specs.Path.{Names, Positions, positions, type_at, at}
use Rattle.vortex_model.specs.Kept.{is_leaf}
use Rattle.vortex_model_table.specs.Expression.{Expression, column, Aggregate, reads_columns}
use Rattle.vortex_model_table.specs.Truth.{evaluate, value_at, is_true, selects, Satisfies}
use Rattle.vortex_model_table.specs.Statistics.{IsHonest, placeholder_value}
use Rattle.vortex_model_table.specs.ZoneMap.{ZoneMap, values_at, statistics_of}
use Rattle.vortex_model_table.specs.Rewrite.{falsifier, satisfier}
use Rattle.vortex_model_table.specs.Sound.{Placeholders, AreHonest, IsSoundFalsifier, of_proof}
use Rattle.vortex_model_table.specs.Table.{Table, bound_length}
use Rattle.vortex_model_table.specs.Scan.{chunk_zone, chunk_zone_at, if_leaf, leaf_at, is_bound, told, known, proves, skipped, whole as taken_whole, tested, chunk_outcome}
use Rattle.vortex_model_table.specs.Pruning.{found_in, IsAsked}
use Rattle.std.proofs.lemmas.List.Elements.{filter-append}
use Rattle.vortex_model_laws.proofs.Outcomes.{selected_next}
use Rattle.vortex_model_laws.proofs.Columns.{all_at_type}
use Rattle.vortex_model_laws.proofs.Zones.{honest_zone}
use Rattle.vortex_model_laws.proofs.NoColumns.{falsifier_none, satisfier_none}
use Rattle.vortex_model_laws.proofs.Accepted.{accepted_truth}
use Rattle.vortex_model_laws.proofs.Honesty.{Among, all_among, sound_falsifier, sound_satisfier_of_any}

pub truly : (c : Content) → is_true c ≡ true → c ≡ boolean true
truly (boolean b) e = ap (λ x. boolean x) e
truly null e = absurd (cc (e))
truly c e = absurd (cc (e))

pub never_true : (c : Content) → ¬ (c ≡ boolean true) → is_true c ≡ false
never_true (boolean true) h = absurd (h refl)
never_true (boolean false) h = refl
never_true c h = refl

-- ---- the leaf of a path

record LeadsTo (k : LogicalType) (o : Option Positions) (leaf : Positions × LogicalType) : Type 0 where
  place : o ≡ Some leaf.0
  type : type_at k leaf.0 ≡ Some leaf.1
  kept : is_leaf leaf.1 ≡ true

leads_at : (k : LogicalType) (is : Positions) (o : Option LogicalType) (leaf : Positions × LogicalType) → type_at k is ≡ o → if_leaf is o ≡ Some leaf → LeadsTo k (Some is) leaf
leads_at k is None leaf e f = absurd (cc (f))
leads_at k is (Some u) leaf e f = by_test (is_leaf u) refl f
  where
    by_test : (b : Bool) → is_leaf u ≡ b → (if b then Some (is, u) else None) ≡ Some leaf → LeadsTo k (Some is) leaf
    by_test true w g = let same : (is, u) ≡ leaf = cc (g) in subst (LeadsTo k (Some is)) same (record { place = refl; type = e; kept = w })
    by_test false w g = absurd (cc (g))

leads_to : (k : LogicalType) (o : Option Positions) (leaf : Positions × LogicalType) → option_and_then (λ is. if_leaf is (type_at k is)) o ≡ Some leaf → LeadsTo k o leaf
leads_to k None leaf e = absurd (cc (e))
leads_to k (Some is) leaf e = leads_at k is (type_at k is) leaf refl e

-- ---- the placeholders of leaf columns are honest

-- zone maps of leaf columns over these rows
module _ (k : LogicalType) (zone : Positions → LogicalType → ZoneMap) (rows : List Content)
    (honest : (is : Positions) (u : LogicalType) → type_at k is ≡ Some u → is_leaf u ≡ true → IsHonest (statistics_of (zone is u)) (values_at is rows)) where
  abbrev zones : Names → Option ZoneMap
  zones xs = option_map (λ leaf. zone leaf.0 leaf.1) (leaf_at k xs)

  abbrev IsNullOrHonest : Names → Content → Aggregate → Type 0
  IsNullOrHonest xs c a = (c ≡ null) ⊎ ((s : _) × IsHonest s (map (value_at k (column xs)) rows) × (c ≡ placeholder_value a s (length rows)))

  zone_honest : (xs : Names) (leaf : Positions × LogicalType) → LeadsTo k (positions k xs) leaf → IsHonest (statistics_of (zone leaf.0 leaf.1)) (map (value_at k (column xs)) rows)
  zone_honest xs leaf h =
      subst (λ o. IsHonest (statistics_of (zone leaf.0 leaf.1)) (map (λ row. elim o [ None ↦ null | Some is ↦ at row is ]) rows)) (sym h.place) (honest leaf.0 leaf.1 h.type h.kept)

  told_honest : (xs : Names) (a : Aggregate) (o : Option (Positions × LogicalType)) → leaf_at k xs ≡ o → IsNullOrHonest xs (told (option_map (λ leaf. zone leaf.0 leaf.1) o) (length rows) a) a
  told_honest xs a None e = inl refl
  told_honest xs a (Some leaf) e = by_test (is_bound a)
    where
      by_test : (b : Bool) → IsNullOrHonest xs (if b then placeholder_value a (statistics_of (zone leaf.0 leaf.1)) (length rows) else null) a
      by_test true = inr (statistics_of (zone leaf.0 leaf.1), zone_honest xs leaf (leads_to k (positions k xs) leaf e), refl)
      by_test false = inl refl

  pub binder_honest : AreHonest k rows (known zones (length rows))
  binder_honest (column xs) a = told_honest xs a (leaf_at k xs) refl
  binder_honest x a = inl refl

pub chunk_honest : (t : Table) (chunk : List Content) → AllByRecursion (IsContent t.kind) chunk → AreHonest t.kind chunk (known (chunk_zone t chunk) (length chunk))
chunk_honest t chunk rows =
    binder_honest t.kind (λ is u. chunk_zone_at t chunk is u) chunk (λ is u e w. honest_zone u u (bound_length t is) (values_at is chunk) w (all_at_type t.kind is u chunk e rows))

-- ---- rows that all pass, or none

pub kept_none : {X : Type 0} (p : X → Bool) (xs : List X) → ((x : X) → Among x xs → p x ≡ false) → filter p xs ≡ []
kept_none p [] h = refl
kept_none p (x ∷ xs) h = ap (λ b. if b then x ∷ filter p xs else filter p xs) (h x (inl refl)) ∙ kept_none p xs (λ y g. h y (inr g))

pub kept_all : {X : Type 0} (p : X → Bool) (xs : List X) → ((x : X) → Among x xs → p x ≡ true) → filter p xs ≡ xs
kept_all p [] h = refl
kept_all p (x ∷ xs) h = ap (λ b. if b then x ∷ filter p xs else filter p xs) (h x (inl refl)) ∙ ap (λ ys. x ∷ ys) (kept_all p xs (λ y g. h y (inr g)))

pub all_at : {X : Type 0} (P : X → Type 0) (xs : List X) (i : ℕ) (d : X) → i < length xs → AllByRecursion P xs → P (get_or xs i d)
all_at P [] i d h g = absurd (omega (arith, h))
all_at P (x ∷ xs) zero d h g = g.0
all_at P (x ∷ xs) (suc i) d h g = all_at P xs i d (omega (arith, h)) g.1

-- ---- rows by an honest binder

-- the built-in falsifier of the predicate, where it has one, is sound
abbrev pub FalsifiesRightly : LogicalType → Expression → Type 0
FalsifiesRightly k e = (proof : Expression) → falsifier k e ≡ Some proof → IsSoundFalsifier k e proof

pub asked_sound : (t : Table) (e : Expression) → IsAsked t e → FalsifiesRightly t.kind e
asked_sound t e asked proof is = sound_falsifier t.kind e proof (accepted_truth t.kind e asked.faultless) asked.formed is

module _ (t : Table) (rows : List Content) (typed : AllByRecursion (IsContent t.kind) rows) (zones : Names → Option ZoneMap)
    (honest : AreHonest t.kind rows (known zones (length rows))) where
  abbrev given : Placeholders
  given = known zones (length rows)

  -- where the falsifier is true, no row is selected
  pub none_selected : (e : Expression) → FalsifiesRightly t.kind e → (o : Option Expression) → falsifier t.kind e ≡ o → IfSome o (λ proof. reads_columns proof ≡ false) →
      proves zones (length rows) o ≡ true → filter (selects t.kind e) rows ≡ []
  none_selected e sound None is r h = absurd (cc (h))
  none_selected e sound (Some proof) is r h =
      let none = sound proof is rows given typed honest (r, truly (evaluate (of_proof given rows) proof) h) in
      kept_none (selects t.kind e) rows (λ row here. never_true (value_at t.kind e row) (all_among (λ x. ¬ (Satisfies t.kind e x)) row rows none here))

  -- where the satisfier is true, all rows are selected
  pub all_selected : (e : Expression) (o : Option Expression) → satisfier t.kind e ≡ o → IfSome o (λ proof. reads_columns proof ≡ false) →
      proves zones (length rows) o ≡ true → filter (selects t.kind e) rows ≡ rows
  all_selected e None is r h = absurd (cc (h))
  all_selected e (Some proof) is r h =
      let all = sound_satisfier_of_any t.kind e proof is rows given typed honest (r, truly (evaluate (of_proof given rows) proof) h) in
      kept_all (selects t.kind e) rows (λ row here. ap is_true (all_among (λ x. Satisfies t.kind e x) row rows all here))

-- ---- a chunk

module _ (t : Table) (e : Expression) (sound : FalsifiesRightly t.kind e) where
  -- a chunk whose zone maps falsify the predicate has no selected row
  pub skipped_holds_none : (chunk : List Content) → AllByRecursion (IsContent t.kind) chunk →
      proves (chunk_zone t chunk) (length chunk) (falsifier t.kind e) ≡ true → filter (selects t.kind e) chunk ≡ []
  skipped_holds_none chunk rows h =
      none_selected t chunk rows (chunk_zone t chunk) (chunk_honest t chunk rows) e sound (falsifier t.kind e) refl (falsifier_none t.kind e) h

  -- a chunk whose zone maps satisfy the predicate has no other
  pub whole_holds_all : (chunk : List Content) → AllByRecursion (IsContent t.kind) chunk →
      proves (chunk_zone t chunk) (length chunk) (satisfier t.kind e) ≡ true → filter (selects t.kind e) chunk ≡ chunk
  whole_holds_all chunk rows h =
      all_selected t chunk rows (chunk_zone t chunk) (chunk_honest t chunk rows) e (satisfier t.kind e) refl (satisfier_none t.kind e) h

  found_by : (chunk : List Content) → AllByRecursion (IsContent t.kind) chunk → (b c : Bool) →
      proves (chunk_zone t chunk) (length chunk) (falsifier t.kind e) ≡ b → proves (chunk_zone t chunk) (length chunk) (satisfier t.kind e) ≡ c →
      filter (selects t.kind e) chunk ≡ found_in (selects t.kind e) (if b then skipped else (if c then taken_whole else tested)) chunk
  found_by chunk rows true c f g = skipped_holds_none chunk rows f
  found_by chunk rows false true f g = whole_holds_all chunk rows g
  found_by chunk rows false false f g = refl

  -- what a scan takes of a chunk are the selected rows
  pub found_rightly : (chunk : List Content) → AllByRecursion (IsContent t.kind) chunk →
      filter (selects t.kind e) chunk ≡ found_in (selects t.kind e) (chunk_outcome t e chunk) chunk
  found_rightly chunk rows =
      found_by chunk rows (proves (chunk_zone t chunk) (length chunk) (falsifier t.kind e)) (proves (chunk_zone t chunk) (length chunk) (satisfier t.kind e)) refl refl

  -- what a scan takes of all chunks are the selected rows
  pub all_found : (chunks : List (List Content)) → AllByRecursion (λ chunk. AllByRecursion (IsContent t.kind) chunk) chunks →
      filter (selects t.kind e) (flat_map (λ chunk. chunk) chunks) ≡ flat_map (λ chunk. found_in (selects t.kind e) (chunk_outcome t e chunk) chunk) chunks
  all_found [] h = refl
  all_found (c ∷ cs) h =
      filter-append (selects t.kind e) c (flat_map (λ chunk. chunk) cs)
      ∙ (λ i. found_rightly c h.0 i ++ all_found cs h.1 i)

  -- the selected rows of one more chunk are what a scan takes of it
  pub found_next : (chunks : List (List Content)) (i : ℕ) (d : List Content) → i < length chunks → AllByRecursion (λ chunk. AllByRecursion (IsContent t.kind) chunk) chunks →
      filter (selects t.kind e) (flat_map (λ c. c) (take (i + 1) chunks))
      ≡ filter (selects t.kind e) (flat_map (λ c. c) (take i chunks)) ++ found_in (selects t.kind e) (chunk_outcome t e (get_or chunks i d)) (get_or chunks i d)
  found_next chunks i d h rows =
      selected_next (selects t.kind e) chunks i d h
      ∙ ap (λ found. filter (selects t.kind e) (flat_map (λ c. c) (take i chunks)) ++ found)
      (found_rightly (get_or chunks i d) (all_at (λ chunk. AllByRecursion (IsContent t.kind) chunk) chunks i d h rows))
