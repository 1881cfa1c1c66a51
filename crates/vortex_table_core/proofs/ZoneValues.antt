-- What statistics of a zone prove of any proof, whatever rules made it: what its zone maps do.
use Rattle.std.proofs.Common.{◌≡◌, refl, sym, ◌∙◌, ap, subst, ℕ, suc, ◌<◌, List, [], ◌∷◌, length, map, get_or, Bool, true, false, ◌||◌, Option, Some, None, option_map, option_and_then, IsTrue, if◌then◌else◌, arith}
use Rattle.std.specs.Coded.{Coded-set}
use Rattle.std.specs.List.{AllByRecursion}
use Rattle.std.proofs.Math.Logic.{∥∥₁_elim}
use Rattle.std.proofs.lemmas.Bool.{or_parts}
use Rattle.vortex_model.specs.LogicalType.{LogicalType}
use Rattle.vortex_model.specs.Content.{Content, null}
use Rattle.vortex_model.specs.Valid.{IsContent}
use Rattle.vortex_model.specs.Kept.{is_leaf, is_leaf_at}
use Rattle.vortex_model.specs.Path.{Names, Positions, positions, type_at, eq_positions}
use Rattle.vortex_model.proofs.Lists.{map_twice}
use Rattle.vortex_model_table.specs.ZoneMap.{ZoneMap, zone_of, values_at, group_bounds}
use Rattle.vortex_model_table.specs.Expression.{Expression, column, Aggregate}
use Rattle.vortex_model_table.specs.Truth.{Given, evaluate, is_true}
use Rattle.vortex_model_table.specs.Table.{Table, bound_length}
use Rattle.vortex_model_table.specs.Scan.{known, told, proves, chunk_zone, chunk_zone_at, leaf_at as leaf_of, if_leaf, group_zone}
use Rattle.vortex_model_laws.proofs.LeafOrder.{bounds_of_column}
use Rattle.vortex_model_laws.proofs.Described.{all_of_type}
use Rattle.vortex_arrays_model.specs.Layout.{len_of}
use Rattle.vortex_stats_bind.specs.Bound.{Bound, Provided, evaluate_bound, bound_of, column_at, by_names}
use Rattle.vortex_stats_bind.specs.Bindings.{IsBoundProof}
use Rattle.vortex_stats_bind.proofs.BoundValues.{proof_says}
use Rattle.vortex_table_schema.specs.Leaves.{leaf_positions}
use Rattle.vortex_table_schema.proofs.Places.{is_among, leaf_there, positions_so}
use Rattle.vortex_table_chunk.specs.BoundCode.{coded_content}
use Rattle.vortex_table_chunk.specs.zones.Bounds.{IsBoundsOf}
use Rattle.vortex_table_chunk.specs.BoundStat.{stat_value_or_null, zone_stat, zone_provided, bounds_at}
use Rattle.vortex_table_chunk.specs.Chunk.{chunk_rows}
use Rattle.vortex_table_chunk.specs.Formed.{is_formed}
use Rattle.vortex_table_chunk.specs.Joined.{AreJoined, rows_in}
use Rattle.vortex_table_chunk.specs.Proved.{proved_in}
use Rattle.vortex_table_chunk.specs.declared.chunk.Chunk.{Chunk}
use Rattle.vortex_stats_array.specs.declared.array_stats.ArrayStats.{ArrayStats}
use Rattle.vortex_table_chunk.proofs.Formed.{formed_honest}
use Rattle.vortex_table_chunk.proofs.JoinedLemmas.{kind_there}
use Rattle.vortex_table_chunk.proofs.LeafBounds.{found_among}
use Rattle.vortex_table_chunk.proofs.LeafPlaces.{leaf_leads}
use Rattle.vortex_table_chunk.proofs.JoinedLeaves.{FoundJoined, found_joined}
use Rattle.vortex_table_chunk.proofs.TypedRows.{chunk_counted}
use Rattle.vortex_table_chunk.proofs.zones.StatValueLemmas.{stat_values_are_right, stat_values_alike}

-- the column at positions, where it is a leaf
record LeafAt (k : LogicalType) (o : Option Positions) : Type 0 where
  place : Positions
  only : o ≡ Some place
  type : LogicalType
  there : type_at k place ≡ Some type
  leaf : is_leaf type ≡ true

-- ---- what is no leaf has no place among leaves

none_there : (leaves : List Positions) (bounds : List ArrayStats) (is : Positions) → is_among leaves is ≡ false → bounds_at leaves bounds is ≡ None
none_there [] bounds is h = refl
none_there (js ∷ leaves) [] is h = refl
none_there (js ∷ leaves) (b ∷ bounds) is h =
    let both = or_parts (eq_positions js is) (is_among leaves is) h in
    ap (λ t. if t then Some b else bounds_at leaves bounds is) both.0 ∙ none_there leaves bounds is both.1

-- its index among them
record StandsAt (leaves : List Positions) (is : Positions) : Type 0 where
  index : ℕ
  inside : index < length leaves
  there : is ≡ get_or leaves index is

stands_at : (leaves : List Positions) (is : Positions) → is_among leaves is ≡ true → StandsAt leaves is
stands_at [] is h = absurd (cc (h))
stands_at (js ∷ leaves) is h = by_test (eq_positions js is) refl h (stands_at leaves is)
  where
    by_test : (t : Bool) → eq_positions js is ≡ t → (t || is_among leaves is) ≡ true → (is_among leaves is ≡ true → StandsAt leaves is) → StandsAt (js ∷ leaves) is
    by_test true e g f = record { index = 0; inside = omega (arith); there = sym (positions_so js is e) }
    by_test false e g f = let later = f g in let inside = later.inside in record { index = suc later.index; inside = omega (arith, inside); there = later.there }

not_among : (k : LogicalType) (is : Positions) → is_leaf_at k is ≡ false → is_among (leaf_positions k) is ≡ false
not_among k is h = by_test (is_among (leaf_positions k) is) refl
  where
    by_test : (t : Bool) → is_among (leaf_positions k) is ≡ t → t ≡ false
    by_test true e =
        let at = stands_at (leaf_positions k) is e in
        let leaf : true ≡ false = sym (leaf_leads k at.index is at.inside at.there) ∙ h in leaf
    by_test false e = refl

abbrev is_leaf_there : Option LogicalType → Bool
is_leaf_there o = elim o [ None ↦ false | Some leaf ↦ is_leaf leaf ]

no_leaf : (is : Positions) (o : Option LogicalType) → is_leaf_there o ≡ false → if_leaf is o ≡ None
no_leaf is None h = refl
no_leaf is (Some l) h = ap (λ b. if b then Some (is, l) else None) h

leaf_of_path : (k : LogicalType) (xs : Names) (own : LeafAt k (positions k xs)) → leaf_of k xs ≡ Some (own.place, own.type)
leaf_of_path k xs own =
    ap (option_and_then (λ is. if_leaf is (type_at k is))) own.only ∙ ap (if_leaf own.place) own.there
    ∙ ap (λ b. if b then Some (own.place, own.type) else None) own.leaf

-- ---- bounds of leaves whose zone maps are these, and no other column's

module _ (k : LogicalType) (bounds : List ArrayStats) (rows : ℕ) (zones : Names → Option ZoneMap) (others : (xs : Names) → leaf_of k xs ≡ None → zones xs ≡ None)
    (right : (xs : Names) (own : LeafAt k (positions k xs)) (a : Aggregate) → stat_value_or_null (bounds_at (leaf_positions k) bounds own.place) rows a ≡ known zones rows (column xs) a) where
  abbrev leaves : List Positions
  leaves = leaf_positions k

  abbrev given : Expression → Aggregate → Content
  given x a = zone_stat leaves bounds rows (bound_of k x) a

  unknown : (xs : Names) (a : Aggregate) → leaf_of k xs ≡ None → null ≡ known zones rows (column xs) a
  unknown xs a none = ap (λ z. told z rows a) (sym (others xs none))

  abbrev seen : Positions → Aggregate → Content
  seen is a = stat_value_or_null (bounds_at leaves bounds is) rows a

  elsewhere : (xs : Names) (a : Aggregate) (is : Positions) → positions k xs ≡ Some is → is_leaf_at k is ≡ false → seen is a ≡ known zones rows (column xs) a
  elsewhere xs a is e none =
      ap (λ o. stat_value_or_null o rows a) (none_there leaves bounds is (not_among k is none))
      ∙ unknown xs a (ap (option_and_then (λ js. if_leaf js (type_at k js))) e ∙ no_leaf is (type_at k is) none)

  of_leaf : (xs : Names) (a : Aggregate) (is : Positions) → positions k xs ≡ Some is → (l : LogicalType) → type_at k is ≡ Some l → (b : Bool) → is_leaf l ≡ b → seen is a ≡ known zones rows (column xs) a
  of_leaf xs a is e l there true leaf = right xs (record { place = is; only = e; type = l; there = there; leaf = leaf }) a
  of_leaf xs a is e l there false none = elsewhere xs a is e (ap is_leaf_there there ∙ none)

  of_type : (xs : Names) (a : Aggregate) (is : Positions) → positions k xs ≡ Some is → (o : Option LogicalType) → type_at k is ≡ o → seen is a ≡ known zones rows (column xs) a
  of_type xs a is e None none = elsewhere xs a is e (ap is_leaf_there none)
  of_type xs a is e (Some l) there = of_leaf xs a is e l there (is_leaf l) refl

  at_place : (xs : Names) (a : Aggregate) (o : Option Positions) → positions k xs ≡ o → zone_stat leaves bounds rows (column_at k xs o) a ≡ known zones rows (column xs) a
  at_place xs a None e = unknown xs a (ap (option_and_then (λ is. if_leaf is (type_at k is))) e)
  at_place xs a (Some is) e = of_type xs a is e (type_at k is) refl

  -- a placeholder asks for a column, or for what is not known
  given_right : (x : Expression) (a : Aggregate) → given x a ≡ known zones rows x a
  given_right (column xs) a = at_place xs a (positions k xs) refl
  given_right x a = refl

  abbrev provided : Provided
  provided = zone_provided leaves bounds rows

  -- a column is null
  no_column : (xs : Names) (o : Option Positions) → evaluate_bound provided (column_at k xs o) ≡ null
  no_column xs None = refl
  no_column xs (Some is) = refl

  abbrev shown : Given
  shown = record { columns = λ xs. null; placeholders = known zones rows; rows = rows }

  by_zones : by_names k provided ≡ shown
  by_zones = λ i. record { columns = λ xs. no_column xs (positions k xs) i; placeholders = λ x a. given_right x a i; rows = rows }

  proved_right : (o : Option Expression) (b : Option Bound) → IsBoundProof k o b → proved_in provided b ≡ proves zones rows o
  proved_right None None is = refl
  proved_right (Some proof) (Some bound) is = ap is_true (proof_says k proof bound provided is.tree ∙ ap (λ g. evaluate g proof) by_zones)
  proved_right o b is = absurd is

-- ---- of a chunk of a table

module _ (t : Table) (chunk : Chunk) (formed : IsTrue (is_formed (bound_length t) t.kind chunk)) where
  abbrev rows : List Content
  rows = chunk_rows chunk

  abbrev own_bounds : List ArrayStats
  own_bounds = chunk.bounds.items

  of_own : (xs : Names) (own : LeafAt t.kind (positions t.kind xs)) (a : Aggregate) → stat_value_or_null (bounds_at (leaf_positions t.kind) own_bounds own.place) (length rows) a ≡ known (chunk_zone t rows) (length rows) (column xs) a
  of_own xs own a =
      let found = found_among t.kind (bound_length t) (leaf_positions t.kind) own_bounds rows own.place (formed_honest (bound_length t) t.kind chunk formed) (leaf_there t.kind own.place own.type own.there own.leaf) in
      ap (λ o. stat_value_or_null o (length rows) a) found.there
      ∙ stat_values_are_right found.bounds_of own.type (bound_length t own.place) (length rows) (values_at own.place rows)
      (subst (λ u. IsBoundsOf u (bound_length t own.place) found.bounds_of (values_at own.place rows)) (kind_there t.kind own.place own.type own.there) found.honest) xs (chunk_zone t rows)
      (ap (option_map (λ (leaf : Positions × LogicalType). chunk_zone_at t rows leaf.0 leaf.1)) (leaf_of_path t.kind xs own)) a

  pub chunk_proves : (o : Option Expression) (b : Option Bound) → IsBoundProof t.kind o b →
      proved_in (zone_provided (leaf_positions t.kind) own_bounds (len_of chunk.array)) b ≡ proves (chunk_zone t rows) (length rows) o
  chunk_proves o b is =
      ap (λ n. proved_in (zone_provided (leaf_positions t.kind) own_bounds n) b) (sym (chunk_counted chunk))
      ∙ proved_right t.kind own_bounds (length rows) (chunk_zone t rows) (λ xs none. ap (option_map (λ (leaf : Positions × LogicalType). chunk_zone_at t rows leaf.0 leaf.1)) none) of_own o b is

-- ---- of a group, whose statistics are those of its chunks joined

module _ (t : Table) (bounds : List ArrayStats) (chunks : List (List Content)) (of_type : AllByRecursion (λ chunk. AllByRecursion (IsContent t.kind) chunk) chunks)
    (joined : ∥ AreJoined t.kind (bound_length t) (leaf_positions t.kind) bounds chunks ∥₁) where
  abbrev many : ℕ
  many = rows_in chunks

  abbrev group_at : Positions × LogicalType → ZoneMap
  group_at leaf = group_bounds (map (λ chunk. chunk_zone_at t chunk leaf.0 leaf.1) chunks)

  of_joined : (xs : Names) (own : LeafAt t.kind (positions t.kind xs)) → FoundJoined t.kind (bound_length t) (leaf_positions t.kind) bounds chunks own.place → (a : Aggregate) →
      stat_value_or_null (bounds_at (leaf_positions t.kind) bounds own.place) many a ≡ known (group_zone t chunks) many (column xs) a
  of_joined xs own found a =
      let u = own.type in let is = own.place in let b = found.bounds_of in
      let columns = map (values_at is) chunks in let L = bound_length t is in
      let typed = all_of_type t.kind is u chunks own.there of_type in
      let made = found.joined.made u (record { there = own.there; leaf = own.leaf }) in
      let has = bounds_of_column u L columns made.0 own.leaf typed made.1 in
      let zone_is = made.2 in
      ap (λ o. stat_value_or_null o many a) found.there
      ∙ stat_values_alike b many (group_bounds (map (zone_of u L) columns)) (sym (ap (λ z. z.low) zone_is) ∙ has.low) (sym (ap (λ z. z.high) zone_is) ∙ has.high) (sym (ap (λ z. z.nulls) zone_is) ∙ has.nulls)
      xs (group_zone t chunks)
      (ap (option_map group_at) (leaf_of_path t.kind xs own) ∙ ap (λ zs. Some (group_bounds zs)) (sym (map_twice (zone_of u L) (values_at is) chunks))) a

  of_any : (xs : Names) (own : LeafAt t.kind (positions t.kind xs)) (a : Aggregate) → stat_value_or_null (bounds_at (leaf_positions t.kind) bounds own.place) many a ≡ known (group_zone t chunks) many (column xs) a
  of_any xs own a =
      ∥∥₁_elim joined (Coded-set coded_content _ _)
      (λ h. of_joined xs own (found_joined t.kind (bound_length t) (leaf_positions t.kind) bounds chunks own.place h (leaf_there t.kind own.place own.type own.there own.leaf)) a)

  pub group_proves : (o : Option Expression) (b : Option Bound) → IsBoundProof t.kind o b →
      proved_in (zone_provided (leaf_positions t.kind) bounds many) b ≡ proves (group_zone t chunks) many o
  group_proves o b is = proved_right t.kind bounds many (group_zone t chunks) (λ xs none. ap (option_map group_at) none) of_any o b is
