-- What is held of zones, with one zone more, and parts of it.
use Rattle.std.proofs.Common.{◌≡◌, refl, sym, ap, subst, ◌∙◌, ℕ, ◌+◌, ◌<◌, ◌≤◌, List, [], ◌∷◌, ◌++◌, length, map, take, drop, get_or, set, inl, inr, arith}
use Rattle.std.specs.Prelude.{Option, Some, None, slice_get, option_map, IfSome, MatchOption}
use Rattle.std.specs.Borrow.{Bor}
use Rattle.std.proofs.lemmas.Bool.{cases_eq}
use Rattle.std.proofs.lemmas.Option.{slice_get_past, slice_get_read}
use Rattle.std.proofs.lemmas.List.Elements.{All-nil}
use Rattle.std.proofs.lemmas.List.{length-map, length-take, length-drop, map-append, take-map, drop-map, get_or_default, get_or-set_same, get_or-set_other, length-set}
use Rattle.vortex_model.specs.Content.{Content}
use Rattle.vortex_arrays_view.specs.Views.{HasValue}
use Rattle.vortex_model_table.specs.Expression.{Aggregate}
use Rattle.vortex_table_chunk.specs.BoundStat.{stat_value_or_null}
use Rattle.vortex_stats_array.specs.declared.array_stats.ArrayStats.{ArrayStats}
use Rattle.vortex_table_chunk.specs.declared.chunk.Chunk.{Chunk}
use Rattle.vortex_table_zonemaps.specs.Column.{IsColumnOf, Keeps, Puts}
use Rattle.vortex_table_zonemaps.specs.Stats.{Zone, zone_of, leaf_stat, zones_in}
use Rattle.vortex_table_zonemaps.specs.Zones.{IsLeaf, AreLeaves}
use Rattle.vortex_table_zonemaps.specs.declared.column.ZoneColumn.{ZoneColumn}
use Rattle.vortex_table_zonemaps.specs.declared.column.ZoneColumn.TheVariants as column
use Rattle.vortex_table_zonemaps.specs.declared.leaf.LeafZones.{LeafZones}

-- ---- columns of a statistic

module _ (f : Zone → Content) (n : ℕ) (old new : ZoneColumn) (zones : List Zone) (many : length zones ≡ n) where
  pub zones_kept : Keeps n old new → IsColumnOf old (map f zones) → IsColumnOf new (map f zones)
  zones_kept h is = h (map f zones) (length-map zones f ∙ many) is

  pub zone_put : (c : Content) (zone : Zone) → Puts n c old new → c ≡ f zone → IsColumnOf old (map f zones) → IsColumnOf new (map f (zones ++ zone ∷ []))
  zone_put c zone h says is =
      subst (IsColumnOf new) ((λ i. map f zones ++ says i ∷ []) ∙ sym (map-append f zones (zone ∷ []))) (h (map f zones) (length-map zones f ∙ many) is)

-- ---- leaves

-- the leaves before this index are put, and the others are as they were
pub record Putting (n : ℕ) (bounds : List ArrayStats) (rows : ℕ) (old : List LeafZones) (i : ℕ) (now : List LeafZones) : Type 0 where
  pub many : length now ≡ length old
  pub done : (j : ℕ) (leaf : LeafZones) → j < i → j < length old → (zones : List Zone) → length zones ≡ n → IsLeaf j (get_or old j leaf) zones → IsLeaf j (get_or now j leaf) (zones ++ (bounds, rows) ∷ [])
  pub kept : (j : ℕ) (leaf : LeafZones) → j < length old → (zones : List Zone) → length zones ≡ n → IsLeaf j (get_or old j leaf) zones → IsLeaf j (get_or now j leaf) zones
  pub same : (j : ℕ) (leaf : LeafZones) → i ≤ j → get_or now j leaf ≡ get_or old j leaf

module _ (n : ℕ) (bounds : List ArrayStats) (rows : ℕ) where
  pub put_start : (old : List LeafZones) → Putting n bounds rows old 0 old
  put_start old = record { many = refl; done = λ j leaf l. absurd (omega (arith, l)); kept = λ j leaf l zones m is. is; same = λ j leaf l. refl }

  module _ (old now : List LeafZones) (i : ℕ) (p : Putting n bounds rows old i now) where
    pub all_kept : (zones : List Zone) → length zones ≡ n → AreLeaves old zones → AreLeaves now zones
    all_kept zones m are = λ j leaf l. let same = p.many in let inside : j < length old = omega (arith, l, same) in p.kept j leaf inside zones m (are j leaf inside)

    pub all_put : length old ≤ i → (zones : List Zone) → length zones ≡ n → AreLeaves old zones → AreLeaves now (zones ++ (bounds, rows) ∷ [])
    all_put end zones m are = λ j leaf l. let same = p.many in let inside : j < length old = omega (arith, l, same) in p.done j leaf (omega (arith, inside, end)) inside zones m (are j leaf inside)

    -- a leaf that is next, which a call keeps
    module _ (leaf new : LeafZones) (next : List LeafZones) (inside : i < length now) (is : leaf ≡ get_or now i leaf) (set_at : next ≡ set now i new)
        (keeps : (zones : List Zone) → length zones ≡ n → IsLeaf i leaf zones → IsLeaf i new zones) where
      there : (d : LeafZones) → get_or next i d ≡ new
      there d = ap (λ ls. get_or ls i d) set_at ∙ get_or-set_same now i new d inside

      was : (d : LeafZones) → get_or old i d ≡ leaf
      was d = sym (p.same i d (omega arith)) ∙ get_or_default now i d leaf inside ∙ sym is

      elsewhere : (j : ℕ) (d : LeafZones) → (j ≡ i → ⊥) → get_or next j d ≡ get_or now j d
      elsewhere j d other = ap (λ ls. get_or ls j d) set_at ∙ get_or-set_other now i j new d other

      longer : length next ≡ length old
      longer = ap length set_at ∙ length-set now i new ∙ p.many

      pub still_kept : (zones : List Zone) → length zones ≡ n → AreLeaves old zones → AreLeaves next zones
      still_kept zones m are = λ j d l. elim (cases_eq j i) [
        | inl same ↦
            let long = longer in let within : j < length old = omega (arith, l, long) in
            subst (λ k. IsLeaf j (get_or next k d) zones) (sym same) (subst (λ x. IsLeaf j x zones) (sym (there d))
            (subst (λ k. IsLeaf k new zones) (sym same) (keeps zones m (subst (λ x. IsLeaf i x zones) (was d) (subst (λ k. IsLeaf k (get_or old k d) zones) same (are j d within))))))
        | inr other ↦
            let long = longer in let within : j < length old = omega (arith, l, long) in
            subst (λ x. IsLeaf j x zones) (sym (elsewhere j d other)) (p.kept j d within zones m (are j d within))
      ]

      pub one_put : ((zones : List Zone) → length zones ≡ n → IsLeaf i leaf zones → IsLeaf i new (zones ++ (bounds, rows) ∷ [])) → Putting n bounds rows old (i + 1) next
      one_put puts = record {
        many = longer;
        done = λ j d l within zones m are. elim (cases_eq j i) [
          | inl same ↦
              subst (λ k. IsLeaf j (get_or next k d) (zones ++ (bounds, rows) ∷ [])) (sym same) (subst (λ x. IsLeaf j x (zones ++ (bounds, rows) ∷ [])) (sym (there d))
              (subst (λ k. IsLeaf k new (zones ++ (bounds, rows) ∷ [])) (sym same) (puts zones m (subst (λ x. IsLeaf i x zones) (was d) (subst (λ k. IsLeaf k (get_or old k d) zones) same are)))))
          | inr other ↦
              subst (λ x. IsLeaf j x (zones ++ (bounds, rows) ∷ [])) (sym (elsewhere j d other)) (p.done j d (omega (arith, l, other)) within zones m are)
        ];
        kept = λ j d within zones m are. elim (cases_eq j i) [
          | inl same ↦
              subst (λ k. IsLeaf j (get_or next k d) zones) (sym same) (subst (λ x. IsLeaf j x zones) (sym (there d))
              (subst (λ k. IsLeaf k new zones) (sym same) (keeps zones m (subst (λ x. IsLeaf i x zones) (was d) (subst (λ k. IsLeaf k (get_or old k d) zones) same are)))))
          | inr other ↦ subst (λ x. IsLeaf j x zones) (sym (elsewhere j d other)) (p.kept j d within zones m are)
        ];
        same = λ j d l. elsewhere j d (λ e. absurd (omega (arith, l, e))) ∙ p.same j d (omega (arith, l));
      }

-- ---- neighbouring zones

module _ (f : Zone → Content) (chunks : List Chunk) (first count : ℕ) (within : first + count ≤ length chunks) where
  abbrev all : List Content
  all = map f (map zone_of chunks)

  pub long_enough : first + count ≤ length all
  long_enough =
      let many = length-map chunks zone_of in let zones = length-map (map zone_of chunks) f in
      omega (arith, many, zones, within)

  pub part : take count (drop first all) ≡ map f (zones_in chunks first count)
  part =
      ap (take count) (drop-map f first (map zone_of chunks)) ∙ take-map f count (drop first (map zone_of chunks))
      ∙ ap (map f) (ap (take count) (drop-map zone_of first chunks) ∙ take-map zone_of count (drop first chunks))

-- ---- of no zones anything is held

pub nothing : (held : ZoneColumn) → IsColumnOf held []
nothing (column.Bools known) = refl
nothing (column.Integers known) = refl
nothing (column.Strings s) = (∣ All-nil (λ v. HasValue v (s.bytes.items ∷ [])) ∣₁, refl)
nothing column.Other = tt

pub no_zones : (j : ℕ) (leaf : LeafZones) → IsLeaf j leaf []
no_zones j leaf = record { lows = nothing leaf.lows; highs = nothing leaf.highs; null_counts = nothing leaf.null_counts }

-- ---- values

pub as_told : (c : Content) (j : ℕ) (zone : Zone) (bounds : Option ArrayStats) (rows : ℕ) (a : Aggregate) → slice_get zone.0 j ≡ bounds → zone.1 ≡ rows → c ≡ stat_value_or_null bounds rows a → c ≡ leaf_stat j a zone
as_told c j zone bounds rows a at many says = says ∙ (λ i. stat_value_or_null (sym at i) (sym many i) a)

pub found_at : {X : Type 0} (Q : Bor X → Type 0) (xs : List X) (i : ℕ) (o : Option (Bor X)) → MatchOption o (length xs ≤ i) (λ x. (i < length xs) × Q x) → IfSome o (λ x. x.now ≡ get_or xs i x.now) →
    slice_get xs i ≡ option_map (λ x. x.now) o
found_at Q xs i None m f = slice_get_past xs i m
found_at Q xs i (Some x) m f = slice_get_read xs (length xs) i x.now refl m.0 f

pub counted : (chunks : List Chunk) (first count : ℕ) → first + count ≤ length chunks → length (zones_in chunks first count) ≡ count
counted chunks first count within =
    let mapped = length-map (take count (drop first chunks)) zone_of in let taken = length-take count (drop first chunks) in
    let left = length-drop first chunks in
    omega (arith, mapped, taken, left, within)
