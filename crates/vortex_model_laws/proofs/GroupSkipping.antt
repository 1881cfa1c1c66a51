-- The placeholders that a table knows of groups are honest, and skipping group by group loses no
-- selected row.
use Rattle.std.proofs.Common.{◌≡◌, refl, sym, ◌∙◌, ap, subst, ℕ, ◌+◌, arith, List, [], ◌∷◌, ◌++◌, length, take, drop, map, flat_map, filter, Bool, true, false, ◌&&◌, if◌then◌else◌, Some}
use Rattle.std.specs.Prelude.{sum, zip}
use Rattle.std.specs.List.{AllByRecursion}
use Rattle.std.proofs.lemmas.List.{length-append, length-map, length-take-le, take-append-drop, map-append}
use Rattle.std.proofs.lemmas.List.Elements.{filter-append}
use Rattle.std.proofs.lemmas.Grind.{flat_map-append}
use Rattle.std.specs.Cmp.{second_so}
use Rattle.vortex_model.specs.LogicalType.{LogicalType}
use Rattle.vortex_model.specs.Content.{Content}
use Rattle.vortex_model.specs.Valid.{IsContent}
use Rattle.vortex_model.specs.Path.{Positions, type_at, at}
use Rattle.vortex_model.specs.Kept.{is_leaf}
use Rattle.vortex_model.proofs.Lists.{map_twice, zip_append, front_of_all, back_of_all}
use Rattle.vortex_model_table.specs.Expression.{Expression}
use Rattle.vortex_model_table.specs.Truth.{selects}
use Rattle.vortex_model_table.specs.Statistics.{IsHonest}
use Rattle.vortex_model_table.specs.ZoneMap.{group_bounds, zone_of, values_at, statistics_of}
use Rattle.vortex_model_table.specs.Rewrite.{falsifier}
use Rattle.vortex_model_table.specs.Sound.{AreHonest}
use Rattle.vortex_model_table.specs.Table.{Table, IsTable, bound_length, rows_of}
use Rattle.vortex_model_table.specs.Scan.{chunk_zone_at, group_zone, known, proves, Outcome, skipped_in_group, chunk_outcome, is_many, group_outcomes, grouped, outcomes}
use Rattle.vortex_model_table.specs.Pruning.{found_in}
use Rattle.vortex_model_laws.proofs.Groups.{honest_bounds}
use Rattle.vortex_model_laws.proofs.Outcomes.{sum_first}
use Rattle.vortex_model_laws.proofs.NoColumns.{falsifier_none}
use Rattle.vortex_model_laws.proofs.Steps.{flat}
use Rattle.vortex_model_laws.proofs.Skipping.{FalsifiesRightly, binder_honest, none_selected, all_found}
use Rattle.vortex_model_laws.proofs.Described.{all_of_type}

-- ---- the rows of a group

abbrev rows_in : List (List Content) → List Content
rows_in chunks = flat_map (λ chunk. chunk) chunks

as_many_rows : (chunks : List (List Content)) → sum (map length chunks) ≡ length (rows_in chunks)
as_many_rows [] = refl
as_many_rows (chunk ∷ chunks) = sum_first (length chunk) (map length chunks) ∙ ap (λ n. length chunk + n) (as_many_rows chunks) ∙ sym (length-append chunk (rows_in chunks))

values_of_all : (is : Positions) (chunks : List (List Content)) → flat_map (λ cs. cs) (map (values_at is) chunks) ≡ values_at is (rows_in chunks)
values_of_all is [] = refl
values_of_all is (chunk ∷ chunks) = ap (λ cs. values_at is chunk ++ cs) (values_of_all is chunks) ∙ sym (map-append (λ row. at row is) chunk (rows_in chunks))

module _ (t : Table) (chunks : List (List Content)) (rows : AllByRecursion (λ chunk. AllByRecursion (IsContent t.kind) chunk) chunks) where
  leaf_honest : (is : Positions) (u : LogicalType) → type_at t.kind is ≡ Some u → is_leaf u ≡ true →
      IsHonest (statistics_of (group_bounds (map (λ chunk. chunk_zone_at t chunk is u) chunks))) (values_at is (rows_in chunks))
  leaf_honest is u e w =
      subst (IsHonest (statistics_of (group_bounds (map (λ chunk. chunk_zone_at t chunk is u) chunks)))) (values_of_all is chunks)
      (subst (λ zones. IsHonest (statistics_of (group_bounds zones)) (flat_map (λ cs. cs) (map (values_at is) chunks))) (map_twice (zone_of u (bound_length t is)) (values_at is) chunks)
      (honest_bounds u (bound_length t is) (map (values_at is) chunks) w (all_of_type t.kind is u chunks e rows)))

  honest_rows : AreHonest t.kind (rows_in chunks) (known (group_zone t chunks) (length (rows_in chunks)))
  honest_rows = binder_honest t.kind (λ is u. group_bounds (map (λ chunk. chunk_zone_at t chunk is u) chunks)) (rows_in chunks) leaf_honest

  -- the placeholders that a table knows of a group's leaf columns are honest
  pub group_honest : AreHonest t.kind (rows_in chunks) (known (group_zone t chunks) (sum (map length chunks)))
  group_honest = subst (λ n. AreHonest t.kind (rows_in chunks) (known (group_zone t chunks) n)) (sym (as_many_rows chunks)) honest_rows

-- ---- lists beside lists

-- ---- skipping

module _ (t : Table) (e : Expression) (sound : FalsifiesRightly t.kind e) where
  abbrev AreOfType : List (List Content) → Type 0
  AreOfType chunks = AllByRecursion (λ chunk. AllByRecursion (IsContent t.kind) chunk) chunks

  abbrev taken : List Outcome → List (List Content) → List Content
  taken os chunks = flat_map (λ pair. found_in (selects t.kind e) pair.0 pair.1) (zip os chunks)

  none_taken : (chunks : List (List Content)) → taken (map (λ chunk. skipped_in_group) chunks) chunks ≡ []
  none_taken [] = refl
  none_taken (chunk ∷ chunks) = none_taken chunks

  each_taken : (chunks : List (List Content)) → flat_map (λ chunk. found_in (selects t.kind e) (chunk_outcome t e chunk) chunk) chunks ≡ taken (map (chunk_outcome t e) chunks) chunks
  each_taken [] = refl
  each_taken (chunk ∷ chunks) = ap (λ rows. found_in (selects t.kind e) (chunk_outcome t e chunk) chunk ++ rows) (each_taken chunks)

  group_falsified : (chunks : List (List Content)) → AreOfType chunks → proves (group_zone t chunks) (sum (map length chunks)) (falsifier t.kind e) ≡ true →
      filter (selects t.kind e) (rows_in chunks) ≡ []
  group_falsified chunks rows h =
      none_selected t (rows_in chunks) (flat t.kind chunks rows) (group_zone t chunks) (honest_rows t chunks rows) e sound (falsifier t.kind e) refl (falsifier_none t.kind e)
      (subst (λ n. proves (group_zone t chunks) n (falsifier t.kind e) ≡ true) (as_many_rows chunks) h)

  -- what a scan takes of a group's chunks are the selected rows
  group_taken : (chunks : List (List Content)) → AreOfType chunks → filter (selects t.kind e) (rows_in chunks) ≡ taken (group_outcomes t e chunks) chunks
  group_taken chunks rows = by_test (is_many chunks && proves (group_zone t chunks) (sum (map length chunks)) (falsifier t.kind e)) refl
    where
      by_test : (b : Bool) → is_many chunks && proves (group_zone t chunks) (sum (map length chunks)) (falsifier t.kind e) ≡ b →
          filter (selects t.kind e) (rows_in chunks) ≡ taken (if b then map (λ chunk. skipped_in_group) chunks else map (chunk_outcome t e) chunks) chunks
      by_test true h = group_falsified chunks rows (second_so (is_many chunks) _ h) ∙ sym (none_taken chunks)
      by_test false h = all_found t e sound chunks rows ∙ each_taken chunks

  one_each : (chunks : List (List Content)) → length (group_outcomes t e chunks) ≡ length chunks
  one_each chunks = by_test (is_many chunks && proves (group_zone t chunks) (sum (map length chunks)) (falsifier t.kind e))
    where
      by_test : (b : Bool) → length (if b then map (λ chunk. skipped_in_group) chunks else map (chunk_outcome t e) chunks) ≡ length chunks
      by_test true = length-map chunks (λ chunk. skipped_in_group)
      by_test false = length-map chunks (chunk_outcome t e)

  abbrev outcomes_of : List ℕ → List (List Content) → List Outcome
  outcomes_of sizes chunks = flat_map (group_outcomes t e) (grouped sizes chunks)

  two_parts : (sizes : List ℕ) (front back : List (List Content)) →
      filter (selects t.kind e) (rows_in front) ≡ taken (group_outcomes t e front) front → filter (selects t.kind e) (rows_in back) ≡ taken (outcomes_of sizes back) back →
      filter (selects t.kind e) (rows_in (front ++ back)) ≡ taken (group_outcomes t e front ++ outcomes_of sizes back) (front ++ back)
  two_parts sizes front back f g =
      ap (filter (selects t.kind e)) (flat_map-append (λ chunk. chunk) front back)
      ∙ filter-append (selects t.kind e) (rows_in front) (rows_in back)
      ∙ (λ i. f i ++ g i)
      ∙ sym (flat_map-append (λ pair. found_in (selects t.kind e) pair.0 pair.1) (zip (group_outcomes t e front) front) (zip (outcomes_of sizes back) back))
      ∙ ap (flat_map (λ pair. found_in (selects t.kind e) pair.0 pair.1)) (sym (zip_append (group_outcomes t e front) (outcomes_of sizes back) front back (one_each front)))

  less_first : (n : ℕ) (sizes : List ℕ) (chunks : List (List Content)) → sum (n ∷ sizes) ≡ length chunks → sum sizes ≡ length (drop n chunks)
  less_first n sizes chunks h =
      let m : ℕ = sum sizes in let l : ℕ = length chunks in let f : ℕ = length (take n chunks) in let b : ℕ = length (drop n chunks) in
      let split : n + m ≡ l = sym (sum_first n sizes) ∙ h in
      let small : f ≡ n = length-take-le n chunks (omega (arith, split)) in
      let parts : f + b ≡ l = sym (length-append (take n chunks) (drop n chunks)) ∙ ap length (take-append-drop n chunks) in
      omega (arith, split, small, parts)

  all_taken : (sizes : List ℕ) (chunks : List (List Content)) → sum sizes ≡ length chunks → AreOfType chunks →
      filter (selects t.kind e) (rows_in chunks) ≡ taken (outcomes_of sizes chunks) chunks
  all_taken [] [] h rows = refl
  all_taken [] (chunk ∷ chunks) h rows = absurd (omega (arith, h))
  all_taken (n ∷ sizes) chunks h rows =
      let whole = take-append-drop n chunks in
      let split = subst AreOfType (sym whole) rows in
      let front = front_of_all (λ chunk. AllByRecursion (IsContent t.kind) chunk) (take n chunks) (drop n chunks) split in
      let back = back_of_all (λ chunk. AllByRecursion (IsContent t.kind) chunk) (take n chunks) (drop n chunks) split in
      ap (λ cs. filter (selects t.kind e) (rows_in cs)) (sym whole)
      ∙ two_parts sizes (take n chunks) (drop n chunks) (group_taken (take n chunks) front) (all_taken sizes (drop n chunks) (less_first n sizes chunks h) back)
      ∙ ap (λ cs. taken (group_outcomes t e (take n chunks) ++ outcomes_of sizes (drop n chunks)) cs) whole

  -- what a scan takes of all chunks are the selected rows
  pub none_lost : IsTable t → filter (selects t.kind e) (rows_of t) ≡ taken (outcomes t e) t.chunks
  none_lost is = all_taken t.groups t.chunks is.grouped is.rows
