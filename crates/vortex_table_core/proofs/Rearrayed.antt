-- Chunks whose rows are laid out in another way.
use Rattle.std.proofs.Common.{◌≡◌, ◌<◌, ◌≤◌, ◌+◌, ◌&&◌, ℕ, zero, suc, nat_lt, List, [], ◌∷◌, ◌++◌, length, map, take, drop, get_or, set, true, Option, Some, None, option_map, refl, sym, ap, subst, ◌∙◌, inl, inr, arith}
use Rattle.std.specs.List.{list_all, Any}
use Rattle.std.proofs.lemmas.Bool.{cases_eq}
use Rattle.std.proofs.lemmas.List.{length-map, map-append, take_more, take_all, get_or-map, get_or_default, get_or-set_same, get_or-set_other, length-set}
use Rattle.std.specs.Cmp.{first_so, second_so}
use Rattle.vortex_model.specs.LogicalType.{LogicalType, eq_type}
use Rattle.vortex_model.specs.Path.{Positions}
use Rattle.vortex_arrays_model.specs.Layout.{Layout, len_of, array_type_of, rows_of}
use Rattle.vortex_arrays_model.proofs.RowsLemmas.{row_count}
use Rattle.vortex_table_schema.specs.Leaves.{leaf_positions}
use Rattle.vortex_table_schema.specs.Error.{Explains}
use Rattle.vortex_table_schema.specs.declared.error.TableError.{TableError}
use Rattle.vortex_table_schema.specs.declared.error.TableError.TheVariants as error
use Rattle.vortex_table_chunk.specs.Bounds.{are_typed_at}
use Rattle.vortex_table_chunk.specs.Chunk.{chunk_rows}
use Rattle.vortex_table_chunk.specs.Formed.{is_formed, eq_leaves, are_lengths_of}
use Rattle.vortex_table_chunk.specs.Joined.{AreJoined, rows_in}
use Rattle.vortex_table_chunk.specs.declared.chunk.Chunk.{Chunk}
use Rattle.vortex_stats_array.specs.declared.array_stats.ArrayStats.{ArrayStats}
use Rattle.vortex_table_chunk.proofs.Formed.{of_type}
use Rattle.vortex_table_chunk.proofs.TypedRows.{chunk_counted}
use Rattle.vortex_table_zonemaps.specs.Stats.{zone_of}
use Rattle.vortex_table_layout.specs.Compacted.{HasTooManyItems, IsCompactedAs}
use Rattle.vortex_table_layout.specs.TooManyElements.{HasTooManyElements, AnyHasTooManyElements}
use Rattle.vortex_table_core.specs.Arrays.{AreAllCompacted}
use Rattle.vortex_table_core.specs.Group.{HasStatistics, IsGroup, AreGroups}
use Rattle.vortex_table_core.specs.WithArrays.{IsWithArray, AreWithArrays}
use Rattle.vortex_table_core.specs.declared.group.Group.{Group}
use Rattle.vortex_table_core.proofs.Groups.{take_said, drop_said}

-- the chunks from here on have their old arrays, and those before them new ones
pub record Placing (old : List Chunk) (arrays : List Layout) (i : ℕ) (now : List Chunk) (left : List Layout) : Type 0 where
  pub rest : left ≡ drop i arrays
  pub many : length now ≡ length old
  pub done : (k : ℕ) (c : Chunk) (a : Layout) → k < i → k < length old → IsWithArray (get_or old k c) (get_or arrays k a) (get_or now k c)
  pub same : (k : ℕ) (c : Chunk) → i ≤ k → get_or now k c ≡ get_or old k c

all_with : (old : List Chunk) (arrays : List Layout) (new : List Chunk) → length arrays ≡ length old → length new ≡ length old → ((k : ℕ) (c : Chunk) (a : Layout) → k < length old → IsWithArray (get_or old k c) (get_or arrays k a) (get_or new k c)) → AreWithArrays old arrays new
all_with [] [] [] e f h = tt
all_with [] (a ∷ arrays) new e f h = absurd (omega (arith, e))
all_with [] [] (d ∷ new) e f h = absurd (omega (arith, f))
all_with (c ∷ old) [] new e f h = absurd (omega (arith, e))
all_with (c ∷ old) (a ∷ arrays) [] e f h = absurd (omega (arith, f))
all_with (c ∷ old) (a ∷ arrays) (d ∷ new) e f h = (h 0 c a (omega arith), all_with old arrays new (omega (arith, e)) (omega (arith, f)) (λ k x y l. h (suc k) x y (omega (arith, l))))

pub placed_all : (old : List Chunk) (arrays : List Layout) (i : ℕ) (now : List Chunk) (left : List Layout) → Placing old arrays i now left → map rows_of arrays ≡ map chunk_rows old → length old ≤ i → AreWithArrays old arrays now
placed_all old arrays i now left p e l =
    all_with old arrays now (sym (length-map arrays rows_of) ∙ ap length e ∙ length-map old chunk_rows) p.many (λ k c a w. p.done k c a (omega (arith, w, l)) w)

pub start_placing : (old : List Chunk) (arrays : List Layout) → Placing old arrays 0 old arrays
start_placing old arrays = record { rest = refl; many = refl; done = λ k c a l. absurd (omega arith); same = λ k c l. refl }

-- the array that is next
next_there : (arrays : List Layout) (i : ℕ) (a : Layout) (left : List Layout) → a ∷ left ≡ drop i arrays → (d : Layout) → get_or arrays i d ≡ a
next_there [] zero a left e d = absurd (cc e)
next_there [] (suc i) a left e d = absurd (cc e)
next_there (x ∷ arrays) zero a left e d = let same : a ≡ x = cc e in sym same
next_there (x ∷ arrays) (suc i) a left e d = next_there arrays i a left e d

next_left : (arrays : List Layout) (i : ℕ) (a : Layout) (left : List Layout) → a ∷ left ≡ drop i arrays → left ≡ drop (i + 1) arrays
next_left [] zero a left e = absurd (cc e)
next_left [] (suc i) a left e = absurd (cc e)
next_left (x ∷ arrays) zero a left e = cc e
next_left (x ∷ arrays) (suc i) a left e = next_left arrays i a left e ∙ ap (λ n. drop n (x ∷ arrays)) (let h : suc (i + 1) ≡ suc i + 1 = omega arith in h)

next_within : (arrays : List Layout) (i : ℕ) (a : Layout) (left : List Layout) → a ∷ left ≡ drop i arrays → i < length arrays
next_within [] zero a left e = absurd (cc e)
next_within [] (suc i) a left e = absurd (cc e)
next_within (x ∷ arrays) zero a left e = omega arith
next_within (x ∷ arrays) (suc i) a left e = let h = next_within arrays i a left e in omega (arith, h)

module _ (old : List Chunk) (arrays : List Layout) (i : ℕ) (now : List Chunk) (a : Layout) (left : List Layout) (p : Placing old arrays i now (a ∷ left)) (rows : map rows_of arrays ≡ map chunk_rows old) where
  as_many : length arrays ≡ length old
  as_many = sym (length-map arrays rows_of) ∙ ap length rows ∙ length-map old chunk_rows

  pub place_within : i < length now
  place_within = let h = next_within arrays i a left p.rest in let e = as_many in let m = p.many in omega (arith, h, e, m)

  -- the array is like that of the chunk that it is put into
  pub place_as : {X : Type 0} (f : Layout → X) → map f arrays ≡ map (λ (x : Chunk). f x.array) old → (c : Chunk) → c ≡ get_or now i c → f a ≡ f c.array
  place_as f alike c e =
      let here = next_there arrays i a left p.rest a in
      let within : i < length arrays = next_within arrays i a left p.rest in
      let m = as_many in let d = f c.array in
      ap f (sym here) ∙ sym (get_or-map f arrays i a d within) ∙ ap (λ xs. get_or xs i d) alike
      ∙ get_or-map (λ (x : Chunk). f x.array) old i c d (omega (arith, within, m)) ∙ ap (λ (x : Chunk). f x.array) (sym (p.same i c (omega arith)) ∙ sym e)

  pub place_more : (c d : Chunk) (next : List Chunk) → c ≡ get_or now i c → IsWithArray c a d → next ≡ set now i d → Placing old arrays (i + 1) next left
  place_more c d next e w made = record {
    rest = next_left arrays i a left p.rest;
    many = ap length made ∙ length-set now i d ∙ p.many;
    done = λ k x y l b. elim (cases_eq k i) [
      | inl same ↦
          let there : get_or old k x ≡ c = old_there k x same b c e in
          let new : get_or next k x ≡ d = ap (λ xs. get_or xs k x) made ∙ ap (λ n. get_or (set now i d) n x) same ∙ get_or-set_same now i d x place_within in
          let of : get_or arrays k y ≡ a = ap (λ n. get_or arrays n y) same ∙ next_there arrays i a left p.rest y in
          subst (λ z. IsWithArray (get_or old k x) (get_or arrays k y) z) (sym new) (subst (λ z. IsWithArray (get_or old k x) z d) (sym of) (subst (λ z. IsWithArray z a d) (sym there) w))
      | inr other ↦
          let before : k < i = omega (arith, l, other) in
          subst (λ z. IsWithArray (get_or old k x) (get_or arrays k y) z) (sym (ap (λ xs. get_or xs k x) made ∙ get_or-set_other now i k d x other)) (p.done k x y before b)
    ];
    same = λ k x l. ap (λ xs. get_or xs k x) made ∙ get_or-set_other now i k d x (λ same. absurd (omega (arith, l, same))) ∙ p.same k x (omega (arith, l));
  }
    where
      old_there : (k : ℕ) (x : Chunk) → k ≡ i → k < length old → (c : Chunk) → c ≡ get_or now i c → get_or old k x ≡ c
      old_there k x same b c e = sym (p.same k x (omega (arith, same))) ∙ ap (λ n. get_or now n x) same ∙ get_or_default now i x c place_within ∙ sym e

pub ruleset placed = (start_placing, place_within, place_as, place_more, placed_all)

-- ---- what stays

abbrev head_of : {X : Type 0} → X → List X → X
head_of d [] = d
head_of d (x ∷ xs) = x

abbrev tail_of : {X : Type 0} → List X → List X
tail_of [] = []
tail_of (x ∷ xs) = xs

heads : {X : Type 0} (x y : X) (xs ys : List X) → x ∷ xs ≡ y ∷ ys → x ≡ y
heads x y xs ys e = ap (head_of x) e

tails : {X : Type 0} (x y : X) (xs ys : List X) → x ∷ xs ≡ y ∷ ys → xs ≡ ys
tails x y xs ys e = ap tail_of e

pub rows_again : (old : List Chunk) (arrays : List Layout) (new : List Chunk) → AreWithArrays old arrays new → map chunk_rows new ≡ map rows_of arrays
rows_again [] [] [] w = refl
rows_again (c ∷ old) (a ∷ arrays) (d ∷ new) w = λ i. rows_of (w.0.array i) ∷ rows_again old arrays new w.1 i
rows_again [] [] (d ∷ new) w = absurd w
rows_again [] (a ∷ arrays) new w = absurd w
rows_again (c ∷ old) [] new w = absurd w
rows_again (c ∷ old) (a ∷ arrays) [] w = absurd w

pub arrays_again : (old : List Chunk) (arrays : List Layout) (new : List Chunk) → AreWithArrays old arrays new → map (λ (c : Chunk). c.array) new ≡ arrays
arrays_again [] [] [] w = refl
arrays_again (c ∷ old) (a ∷ arrays) (d ∷ new) w = λ i. w.0.array i ∷ arrays_again old arrays new w.1 i
arrays_again [] [] (d ∷ new) w = absurd w
arrays_again [] (a ∷ arrays) new w = absurd w
arrays_again (c ∷ old) [] new w = absurd w
arrays_again (c ∷ old) (a ∷ arrays) [] w = absurd w

pub bounds_again : (old : List Chunk) (arrays : List Layout) (new : List Chunk) → AreWithArrays old arrays new → map (λ (c : Chunk). c.bounds.items) new ≡ map (λ (c : Chunk). c.bounds.items) old
bounds_again [] [] [] w = refl
bounds_again (c ∷ old) (a ∷ arrays) (d ∷ new) w = λ i. (w.0.bounds i).items ∷ bounds_again old arrays new w.1 i
bounds_again [] [] (d ∷ new) w = absurd w
bounds_again [] (a ∷ arrays) new w = absurd w
bounds_again (c ∷ old) [] new w = absurd w
bounds_again (c ∷ old) (a ∷ arrays) [] w = absurd w

pub zones_again : (old : List Chunk) (arrays : List Layout) (new : List Chunk) → AreWithArrays old arrays new → map chunk_rows new ≡ map chunk_rows old → map zone_of new ≡ map zone_of old
zones_again [] [] [] w e = refl
zones_again (c ∷ old) (a ∷ arrays) (d ∷ new) w e =
    let rows = heads (chunk_rows d) (chunk_rows c) (map chunk_rows new) (map chunk_rows old) e in
    let rest = tails (chunk_rows d) (chunk_rows c) (map chunk_rows new) (map chunk_rows old) e in
    λ i. ((w.0.bounds i).items, (sym (chunk_counted d) ∙ ap length rows ∙ chunk_counted c) i) ∷ zones_again old arrays new w.1 rest i
zones_again [] [] (d ∷ new) w e = absurd w
zones_again [] (a ∷ arrays) new w e = absurd w
zones_again (c ∷ old) [] new w e = absurd w
zones_again (c ∷ old) (a ∷ arrays) [] w e = absurd w

pub rows_fused : (chunks : List Chunk) → map rows_of (map (λ (c : Chunk). c.array) chunks) ≡ map chunk_rows chunks
rows_fused [] = refl
rows_fused (c ∷ chunks) = ap (λ rs. rows_of c.array ∷ rs) (rows_fused chunks)

pub kinds_fused : (chunks : List Chunk) → map array_type_of (map (λ (c : Chunk). c.array) chunks) ≡ map (λ (c : Chunk). array_type_of c.array) chunks
kinds_fused [] = refl
kinds_fused (c ∷ chunks) = ap (λ ks. array_type_of c.array ∷ ks) (kinds_fused chunks)

module _ (k : LogicalType) (L : Positions → ℕ) where
  one_formed : (c d : Chunk) (a : Layout) → IsWithArray c a d → rows_of a ≡ chunk_rows c → array_type_of a ≡ array_type_of c.array → is_formed L k d ≡ is_formed L k c
  one_formed c d a w rows kind =
      let as_long : len_of d.array ≡ len_of c.array = ap len_of w.array ∙ sym (row_count a) ∙ ap length rows ∙ row_count c.array in
      λ i. nat_lt 0 (as_long i) && (eq_type ((ap array_type_of w.array ∙ kind) i) k && (eq_leaves (w.leaves i).value.items (leaf_positions k) && (are_lengths_of L k (w.lengths i).value.items && are_typed_at k (w.leaves i).value.items (w.bounds i).items)))

  all_alike : (xs : List Chunk) (ys : List Layout) (zs : List Chunk) → AreWithArrays xs ys zs → map rows_of ys ≡ map chunk_rows xs → map array_type_of ys ≡ map (λ (c : Chunk). array_type_of c.array) xs → list_all (is_formed L k) zs ≡ list_all (is_formed L k) xs
  all_alike [] [] [] w r t = refl
  all_alike (c ∷ xs) (a ∷ ys) (d ∷ zs) w r t = λ i.
      one_formed c d a w.0 (heads (rows_of a) (chunk_rows c) (map rows_of ys) (map chunk_rows xs) r) (heads (array_type_of a) (array_type_of c.array) (map array_type_of ys) (map (λ (c : Chunk). array_type_of c.array) xs) t) i
      && all_alike xs ys zs w.1 (tails (rows_of a) (chunk_rows c) (map rows_of ys) (map chunk_rows xs) r) (tails (array_type_of a) (array_type_of c.array) (map array_type_of ys) (map (λ (c : Chunk). array_type_of c.array) xs) t) i
  all_alike [] [] (d ∷ zs) w r t = absurd w
  all_alike [] (a ∷ ys) zs w r t = absurd w
  all_alike (c ∷ xs) [] zs w r t = absurd w
  all_alike (c ∷ xs) (a ∷ ys) [] w r t = absurd w

  pub formed_again : (old : List Chunk) (arrays : List Layout) (new : List Chunk) → AreWithArrays old arrays new → map rows_of arrays ≡ map chunk_rows old → map array_type_of arrays ≡ map (λ (c : Chunk). array_type_of c.array) old → list_all (is_formed L k) old ≡ true → list_all (is_formed L k) new ≡ true
  formed_again old arrays new w rows kinds h = all_alike old arrays new w rows kinds ∙ h

  -- ---- groups, by the rows of their chunks alone

  has_again : (o : Option (List ArrayStats)) (xs ys : List Chunk) → map chunk_rows ys ≡ map chunk_rows xs → HasStatistics k L o xs → HasStatistics k L o ys
  has_again None xs ys same h = sym (length-map ys chunk_rows) ∙ ap length same ∙ length-map xs chunk_rows ∙ h
  has_again (Some bounds) xs ys same h = (
    subst (λ n. 1 < n) (sym (length-map xs chunk_rows) ∙ sym (ap length same) ∙ length-map ys chunk_rows) h.0,
    subst (λ rows. ∥ AreJoined k L (leaf_positions k) bounds rows ∥₁) (sym same) h.1,
  )

  group_again : (g : Group) (xs ys : List Chunk) → map chunk_rows ys ≡ map chunk_rows xs → IsGroup k L g xs → IsGroup k L g ys
  group_again g xs ys same is = record {
    count = sym (length-map ys chunk_rows) ∙ ap length same ∙ length-map xs chunk_rows ∙ is.count;
    some = is.some;
    rows = ap rows_in same ∙ is.rows;
    statistics = has_again (option_map (λ v. v.items) g.joined) xs ys same is.statistics;
  }

  pub groups_again : (i : ℕ) (groups : List Group) (xs ys : List Chunk) → map chunk_rows ys ≡ map chunk_rows xs → AreGroups k L i groups xs → AreGroups k L i groups ys
  groups_again i [] [] [] same h = tt
  groups_again i [] [] (d ∷ ys) same h = absurd (cc same)
  groups_again i [] (c ∷ xs) ys same h = absurd h
  groups_again i (g ∷ groups) xs ys same h = (
    h.0,
    group_again g (take g.chunks xs) (take g.chunks ys) (sym (take_said g.chunks ys) ∙ ap (take g.chunks) same ∙ take_said g.chunks xs) h.1,
    groups_again (i + g.chunks) groups (drop g.chunks xs) (drop g.chunks ys) (sym (drop_said g.chunks ys) ∙ ap (drop g.chunks) same ∙ drop_said g.chunks xs) h.2,
  )

-- ---- all arrays, one after another

-- the first n are compacted
pub record FirstCompacted (old : List Layout) (n : ℕ) (new : List Layout) : Type 0 where
  pub compacted : AreAllCompacted (take n old) new
  pub rows : map rows_of new ≡ map rows_of (take n old)
  pub kinds : map array_type_of new ≡ map array_type_of (take n old)

one_compacted : (old new : List Layout) (a b : Layout) → AreAllCompacted old new → IsCompactedAs a b → AreAllCompacted (old ++ a ∷ []) (new ++ b ∷ [])
one_compacted [] [] a b h c = (c, tt)
one_compacted (x ∷ old) (y ∷ new) a b h c = (h.0, one_compacted old new a b h.1 c)
one_compacted [] (y ∷ new) a b h c = absurd h
one_compacted (x ∷ old) [] a b h c = absurd h

pub first_none : (old new : List Layout) → length new ≡ 0 → FirstCompacted old 0 new
first_none old [] e = record { compacted = tt; rows = refl; kinds = refl }
first_none old (x ∷ new) e = absurd (omega (arith, e))

pub first_more : (chunks : List Chunk) (n : ℕ) (new next : List Layout) (c : Chunk) (b : Layout) → FirstCompacted (map (λ (c : Chunk). c.array) chunks) n new → n < length chunks → c ≡ get_or chunks n c → IsCompactedAs c.array b → rows_of b ≡ rows_of c.array → array_type_of b ≡ array_type_of c.array → next ≡ new ++ b ∷ [] → FirstCompacted (map (λ (c : Chunk). c.array) chunks) (n + 1) next
first_more chunks n new next c b h l e comp rows kind made =
    let all = map (λ (c : Chunk). c.array) chunks in
    let here : get_or all n c.array ≡ c.array = get_or-map (λ (c : Chunk). c.array) chunks n c c.array l ∙ ap (λ (x : Chunk). x.array) (sym e) in
    let more : take (n + 1) all ≡ take n all ++ c.array ∷ [] = take_more all n c.array (subst (λ m. n < m) (sym (length-map chunks (λ (c : Chunk). c.array))) l) ∙ ap (λ a. take n all ++ a ∷ []) here in
    record {
      compacted = subst (λ xs. AreAllCompacted xs next) (sym more) (subst (AreAllCompacted (take n all ++ c.array ∷ [])) (sym made) (one_compacted (take n all) new c.array b h.compacted comp));
      rows = ap (map rows_of) made ∙ map-append rows_of new (b ∷ []) ∙ (λ i. h.rows i ++ rows i ∷ []) ∙ sym (ap (map rows_of) more ∙ map-append rows_of (take n all) (c.array ∷ []));
      kinds = ap (map array_type_of) made ∙ map-append array_type_of new (b ∷ []) ∙ (λ i. h.kinds i ++ kind i ∷ []) ∙ sym (ap (map array_type_of) more ∙ map-append array_type_of (take n all) (c.array ∷ []));
    }

first_all : (chunks : List Chunk) (n : ℕ) → length chunks ≤ n → take n (map (λ (c : Chunk). c.array) chunks) ≡ map (λ (c : Chunk). c.array) chunks
first_all chunks n l = take_all n (map (λ (c : Chunk). c.array) chunks) (subst (λ m. m ≤ n) (sym (length-map chunks (λ (c : Chunk). c.array))) l)

pub all_compacted : (chunks : List Chunk) (n : ℕ) (new : List Layout) → FirstCompacted (map (λ (c : Chunk). c.array) chunks) n new → length chunks ≤ n → AreAllCompacted (map (λ (c : Chunk). c.array) chunks) new
all_compacted chunks n new h l = subst (λ xs. AreAllCompacted xs new) (first_all chunks n l) h.compacted

pub all_rows : (chunks : List Chunk) (n : ℕ) (new : List Layout) → FirstCompacted (map (λ (c : Chunk). c.array) chunks) n new → length chunks ≤ n → map rows_of new ≡ map rows_of (map (λ (c : Chunk). c.array) chunks)
all_rows chunks n new h l = h.rows ∙ ap (map rows_of) (first_all chunks n l)

pub all_kinds : (chunks : List Chunk) (n : ℕ) (new : List Layout) → FirstCompacted (map (λ (c : Chunk). c.array) chunks) n new → length chunks ≤ n → map array_type_of new ≡ map array_type_of (map (λ (c : Chunk). c.array) chunks)
all_kinds chunks n new h l = h.kinds ∙ ap (map array_type_of) (first_all chunks n l)

too_many_there : (L : Positions → ℕ) (k : LogicalType) (chunks : List Chunk) (n : ℕ) (c : Chunk) → list_all (is_formed L k) chunks ≡ true → n < length chunks → c ≡ get_or chunks n c → HasTooManyElements (array_type_of c.array) (rows_of c.array) → AnyHasTooManyElements k (map chunk_rows chunks)
too_many_there L k [] n c f l e h = absurd (omega arith)
too_many_there L k (x ∷ chunks) zero c f l e h =
    inl (subst (λ t. HasTooManyElements t (chunk_rows x)) (of_type L k x (first_so (is_formed L k x) (list_all (is_formed L k) chunks) f)) (subst (λ (y : Chunk). HasTooManyElements (array_type_of y.array) (rows_of y.array)) e h))
too_many_there L k (x ∷ chunks) (suc n) c f l e h =
    inr (too_many_there L k chunks n c (second_so (is_formed L k x) (list_all (is_formed L k) chunks) f) (omega (arith, l)) e h)

pub one_refused : (L : Positions → ℕ) (k : LogicalType) (chunks : List Chunk) (n : ℕ) (c : Chunk) (x : TableError) → list_all (is_formed L k) chunks ≡ true → n < length chunks → c ≡ get_or chunks n c → Explains (HasTooManyElements (array_type_of c.array) (rows_of c.array)) None x → Explains (AnyHasTooManyElements k (map chunk_rows chunks)) None x
one_refused L k chunks n c error.Memory f l e h = tt
one_refused L k chunks n c error.Total f l e h = too_many_there L k chunks n c f l e h
one_refused L k chunks n c x f l e h = h

-- the array of such a chunk is one of the arrays
pub among_arrays : (chunks : List Chunk) (n : ℕ) (c : Chunk) → n < length chunks → c ≡ get_or chunks n c → HasTooManyItems c.array → Any HasTooManyItems (map (λ (x : Chunk). x.array) chunks)
among_arrays chunks n c l e h = (n, c.array, subst (λ m. n < m) (sym (length-map chunks (λ (x : Chunk). x.array))) l, get_or-map (λ (x : Chunk). x.array) chunks n c c.array l ∙ ap (λ (x : Chunk). x.array) (sym e), h)

pub no_memory : (P : Type 0) (x : TableError) → x ≡ error.Memory → Explains P None x
no_memory P x h = subst (Explains P None) (sym h) tt

pub ruleset arrays = (first_none, first_more, all_compacted, all_rows, all_kinds, one_refused, no_memory)
