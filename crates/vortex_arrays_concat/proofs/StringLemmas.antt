-- Strings and bytes by views, end to end.
use Rattle.std.proofs.Common.{◌≡◌, ◌<◌, ◌≤◌, ◌+◌, ◌%◌, ◌^◌, ◌⊎◌, inl, inr, ℕ, Bool, true, false, cond, IsTrue, List, [], ◌∷◌, ◌++◌, length, take, drop, get_or, set, refl, sym, ap, subst, ◌∙◌, length-append, length-drop, arith}
use Rattle.std.specs.Prelude.{leb}
use Rattle.std.proofs.Math.Nat.{mod-eq_of_lt}
use Rattle.std.proofs.lemmas.Bool.{cases_lt, cases_eq}
use Rattle.std.proofs.lemmas.Bool.Decides.{leb_tells}
use Rattle.std.proofs.lemmas.List.{take_more, take_all, length-take-le, length-set, get_or-set_same, get_or-set_other, get_or_append_left, get_or-append-add, get_or_default}
use Rattle.std.proofs.lemmas.List.Elements.{All-nil, All-append, All-cons}
use Rattle.vortex_model.specs.LogicalType.{Nullability, nullability_of}
use Rattle.vortex_model.specs.Content.{Content, null}
use Rattle.vortex_arrays_view.specs.Views.{size_of, index_of, offset_of, value_of, HasValue}
use Rattle.vortex_arrays_view.specs.Made.{short_view, long_view, view_of, prefix_in}
use Rattle.vortex_arrays_view.specs.Laws.{LiesAt}
use Rattle.vortex_arrays_view.proofs.Made.{value_short, value_long, views_read_back}
use Rattle.vortex_arrays_model.specs.Layout.{Layout, Strings, texts, byte_strings, bools, numbers, strings, constant, dictionary, fixed_lists, list_views, records, Valid, len_of, array_type_of, type_of_strings, string_content, content_at, is_valid, nullability_by, IsString, IsSound, HasLength}
use Rattle.vortex_arrays_model.specs.Parts.{valid_in}
use Rattle.vortex_arrays_concat.specs.EndToEnd.{IsEndToEnd, rows_in_all}
use Rattle.vortex_arrays_concat.specs.Columns.{IsAt, validities, IsColumn, IsJoined}
use Rattle.vortex_arrays_concat.specs.Strings.{views_in, buffers_in, AreStrings, IsMoved, ReadsAs, AreViewsOf}
use Rattle.vortex_arrays_concat.proofs.ColumnLemmas.{place_of, at_one, at_within, at_below, at_snoc, rows_snoc, rows_joined, lengths_joined, valid_at_place, kind_by_first}

-- ---- one view

both_ways : (n : ℕ) → n ≤ 12 → 12 < n → ⊥
both_ways n h k = omega (arith, h, k)

-- a value inline in its view does not depend on the buffers
short_reads : (b : List ℕ) (own buffers : List (List ℕ)) → size_of b ≤ 12 → ReadsAs b own b buffers
short_reads b own buffers h = record {
  there = λ _. record {
    there = λ k. absurd (both_ways (size_of b) h k);
    inside = λ k. absurd (both_ways (size_of b) h k);
    prefix = λ k. absurd (both_ways (size_of b) h k);
  };
  same = λ _. value_short b buffers h ∙ sym (value_short b own h);
}

-- a long view whose buffer is the same there
long_reads : (b : List ℕ) (own buffers : List (List ℕ)) → 12 < size_of b → (index_of b < length own → index_of b < length buffers) → (index_of b < length own → get_or buffers (index_of b) [] ≡ get_or own (index_of b) []) → ReadsAs b own b buffers
long_reads b own buffers h more same =
    let value : HasValue b own → value_of b buffers ≡ value_of b own = λ v.
    value_long b buffers h ∙ ap (λ (x : List ℕ). take (size_of b) (drop (offset_of b) x)) (same (v.there h)) ∙ sym (value_long b own h) in
    record {
      there = λ v. record {
        there = λ k. more (v.there k);
        inside = λ k. subst (λ (x : List ℕ). offset_of b + size_of b ≤ length x) (sym (same (v.there k))) (v.inside k);
        prefix = λ k. v.prefix k ∙ ap (take 4) (sym (value v));
      };
      same = value;
    }

-- buffers after the others change nothing
behind : (b : List ℕ) (own more : List (List ℕ)) → (size_of b ≤ 12) ⊎ (12 < size_of b) → ReadsAs b own b (own ++ more)
behind b own more (inl h) = short_reads b own (own ++ more) h
behind b own more (inr h) = long_reads b own (own ++ more) h
    (λ l. let n = length-append own more in omega (arith, l, n))
    (λ l. get_or_append_left own more [] (index_of b) l)

short_or_long : (n : ℕ) → (n ≤ 12) ⊎ (12 < n)
short_or_long n = elim (cases_lt 12 n) [ inl h ↦ inr h | inr h ↦ inl h ]

reads_behind : (old : List ℕ) (own : List (List ℕ)) (new : List ℕ) (buffers more : List (List ℕ)) → ReadsAs old own new buffers → ReadsAs old own new (buffers ++ more)
reads_behind old own new buffers more h =
    let next = behind new buffers more (short_or_long (size_of new)) in
    record {
      there = λ v. next.there (h.there v);
      same = λ v. next.same (h.there v) ∙ h.same v;
    }

-- the view of a long value is made of the value
value_length : (b : List ℕ) (own : List (List ℕ)) → 12 < size_of b → HasValue b own → length (value_of b own) ≡ size_of b
value_length b own h v =
    let x : List ℕ = get_or own (index_of b) [] in
    let inside : offset_of b + size_of b ≤ length x = v.inside h in
    let room : size_of b ≤ length (drop (offset_of b) x) = let n = length-drop (offset_of b) x in omega (arith, inside, n) in
    ap (λ (y : List ℕ). length y) (value_long b own h) ∙ length-take-le (size_of b) (drop (offset_of b) x) room

leb_long : (n : ℕ) → 12 < n → leb n 12 ≡ false
leb_long n h = elim (leb_tells n 12) [ inl y ↦ absurd (both_ways n y.1 h) | inr y ↦ y.0 ]

long_made : (b : List ℕ) (own : List (List ℕ)) (i o : ℕ) → 12 < size_of b → HasValue b own → view_of (value_of b own) i o ≡ long_view (size_of b) (prefix_in b) i o
long_made b own i o h v =
    let v_size = value_length b own h v in
    let x = value_of b own in
    ap (λ (t : Bool). cond t (short_view x) (long_view (length x) (take 4 x) i o)) (leb_long (length x) (subst (λ (n : ℕ). 12 < n) (sym v_size) h))
    ∙ (λ t. long_view (v_size t) (sym (v.prefix h) t) i o)

-- the moved view has the value of the old one
moved_long : (n : ℕ) (b new : List ℕ) (before own : List (List ℕ)) → IsMoved n b new → length before ≡ n → n + length own < 2 ^ 32 → 12 < size_of b → HasValue b own → HasValue new (before ++ own) × (value_of new (before ++ own) ≡ value_of b own)
moved_long n b new before own m count room h v =
    let x = value_of b own in
    let size = value_length b own h v in
    let there : index_of b < length own = v.there h in
    let small : index_of b + n < 2 ^ 32 = omega (arith, there, room) in
    let index : (index_of b + n) % 2 ^ 32 ≡ n + index_of b = mod-eq_of_lt small ∙ omega arith in
    let made : new ≡ view_of x (n + index_of b) (offset_of b) =
    m.long h ∙ ap (λ i. long_view (size_of b) (prefix_in b) i (offset_of b)) index ∙ sym (long_made b own (n + index_of b) (offset_of b) h v) in
    let lies : LiesAt x (before ++ own) (n + index_of b) (offset_of b) = record {
      there = let all = length-append before own in omega (arith, there, all, count);
      here = ap (λ (k : ℕ). take (length x) (drop (offset_of b) (get_or (before ++ own) (k + index_of b) []))) (sym count)
          ∙ ap (λ (y : List ℕ). take (length x) (drop (offset_of b) y)) (get_or-append-add before own (index_of b) [])
          ∙ ap (λ (k : ℕ). take k (drop (offset_of b) (get_or own (index_of b) []))) size
          ∙ sym (value_long b own h);
    } in
    let fits : length x < 2 ^ 32 = subst (λ (k : ℕ). k < 2 ^ 32) (sym size) (m.size h) in
    let index_fits : n + index_of b < 2 ^ 32 = omega (arith, small) in
    subst (λ (w : List ℕ). HasValue w (before ++ own) × (value_of w (before ++ own) ≡ x)) (sym made)
    (views_read_back x (before ++ own) (n + index_of b) (offset_of b) fits index_fits (m.offset h) (λ _. lies))

moved_by : (n : ℕ) (b new : List ℕ) (before own : List (List ℕ)) → IsMoved n b new → length before ≡ n → n + length own < 2 ^ 32 → (size_of b ≤ 12) ⊎ (12 < size_of b) → ReadsAs b own new (before ++ own)
moved_by n b new before own m count room (inl h) = subst (λ (w : List ℕ). ReadsAs b own w (before ++ own)) (sym (m.short h)) (short_reads b own (before ++ own) h)
moved_by n b new before own m count room (inr h) = record {
  there = λ v. (moved_long n b new before own m count room h v).0;
  same = λ v. (moved_long n b new before own m count room h v).1;
}

moved_reads : (n : ℕ) (b new : List ℕ) (before own : List (List ℕ)) → IsMoved n b new → length before ≡ n → n + length own < 2 ^ 32 → ReadsAs b own new (before ++ own)
moved_reads n b new before own m count room = moved_by n b new before own m count room (short_or_long (size_of b))

-- ---- moved in place

-- the views from start to i are moved, and the others are unchanged
pub record Moving (n start i : ℕ) (old new : List (List ℕ)) : Type 0 where
  pub begun : start ≤ i
  pub count : length new ≡ length old
  pub front : (j : ℕ) → j < start → get_or new j [] ≡ get_or old j []
  pub done : (j : ℕ) → start ≤ j → j < i → IsMoved n (get_or old j []) (get_or new j [])
  pub rest : (j : ℕ) → i ≤ j → get_or new j [] ≡ get_or old j []

pub none_moved : (n start : ℕ) (old : List (List ℕ)) → Moving n start start old old
none_moved n start old = record {
  begun = omega arith;
  count = refl;
  front = λ j l. refl;
  done = λ j l m. absurd (omega (arith, l, m));
  rest = λ j l. refl;
}

pub more_moved : (n start i : ℕ) (old new next : List (List ℕ)) (b c : List ℕ) → Moving n start i old new → i < length new → b ≡ get_or new i b → IsMoved n b c → next ≡ set new i c → Moving n start (i + 1) old next
more_moved n start i old new next b c h l e m made =
    let here : b ≡ get_or new i [] = e ∙ get_or_default new i b [] l in
    let begun = h.begun in
    subst (Moving n start (i + 1) old) (sym made) (record {
      begun = omega (arith, begun);
      count = length-set new i c ∙ h.count;
      front = λ j k. get_or-set_other new i j c [] (λ same. absurd (omega (arith, begun, k, same))) ∙ h.front j k;
      done = λ j k g. elim (cases_eq j i) [
        | inl same ↦
            subst (λ x. IsMoved n (get_or old x []) (get_or (set new i c) x [])) (sym same)
            (subst (λ (w : List ℕ). IsMoved n (get_or old i []) w) (sym (get_or-set_same new i c [] l))
            (subst (λ (w : List ℕ). IsMoved n w c) (here ∙ h.rest i (omega arith)) m))
        | inr other ↦ subst (λ (w : List ℕ). IsMoved n (get_or old j []) w) (sym (get_or-set_other new i j c [] other)) (h.done j k (omega (arith, other, g)))
      ];
      rest = λ j k. get_or-set_other new i j c [] (λ same. absurd (omega (arith, k, same))) ∙ h.rest j (omega (arith, k));
    })

pub all_moved : (n start i : ℕ) (old new : List (List ℕ)) → Moving n start i old new → length old ≤ i → (j : ℕ) → start ≤ j → j < length old → IsMoved n (get_or old j []) (get_or new j [])
all_moved n start i old new h l j k m = h.done j k (omega (arith, l, m))

pub ruleset moved = (none_moved, more_moved, all_moved)

-- ---- views after others

pub front_pushed : (old own mid new : List (List ℕ)) (start : ℕ) → mid ≡ old ++ own → start ≡ length old → ((i : ℕ) → i < start → get_or new i [] ≡ get_or mid i []) → (i : ℕ) → i < length old → get_or new i [] ≡ get_or old i []
front_pushed old own mid new start e f h i l =
    h i (omega (arith, f, l)) ∙ ap (λ (xs : List (List ℕ)). get_or xs i []) e ∙ get_or_append_left old own [] i l

pub moved_pushed : (n : ℕ) (old own mid new : List (List ℕ)) (start : ℕ) → mid ≡ old ++ own → start ≡ length old → ((i : ℕ) → start ≤ i → i < length mid → IsMoved n (get_or mid i []) (get_or new i [])) → (i : ℕ) → i < length own → IsMoved n (get_or own i []) (get_or new (length old + i) [])
moved_pushed n old own mid new start e f h i l =
    let many : length mid ≡ length old + length own = ap (λ (xs : List (List ℕ)). length xs) e ∙ length-append old own in
    subst (λ (w : List ℕ). IsMoved n w (get_or new (length old + i) [])) (ap (λ (xs : List (List ℕ)). get_or xs (length old + i) []) e ∙ get_or-append-add old own i [])
    (h (length old + i) (omega (arith, f)) (omega (arith, many, l)))

pub count_pushed : (old own mid new : List (List ℕ)) → mid ≡ old ++ own → length new ≡ length mid → length new ≡ length old + length own
count_pushed old own mid new e f = f ∙ ap (λ (xs : List (List ℕ)). length xs) e ∙ length-append old own

pub ruleset pushed = (front_pushed, moved_pushed, count_pushed)

-- ---- the views of all

views_count : (s : Strings) (a : Layout) → AreStrings s a → length (views_in a) ≡ len_of a
views_count s (strings t vs bs v) h = refl
views_count s (bools bs v) h = absurd h
views_count s (numbers j zs v) h = absurd h
views_count s (constant t r n) h = absurd h
views_count s (dictionary c v f) h = absurd h
views_count s (fixed_lists e k n v) h = absurd h
views_count s (list_views e o k f v) h = absurd h
views_count s (records cs n v) h = absurd h

pub no_views : (s : Strings) (ls : List Layout) → AreViewsOf s (take 0 ls) [] []
no_views s ls = record { kinds = All-nil (AreStrings s); count = refl; reads = λ p a i at. absurd at }

module _ (s : Strings) (ls : List Layout) (a : Layout) (vs bs new : List (List ℕ)) (n : ℕ) (h : AreViewsOf s ls vs bs) (k : AreStrings s a) (e : length bs ≡ n) (room : n + length (buffers_in a) < 2 ^ 32) (many : length new ≡ length vs + length (views_in a)) (front : (j : ℕ) → j < length vs → get_or new j [] ≡ get_or vs j []) (moved_so : (j : ℕ) → j < length (views_in a) → IsMoved n (get_or (views_in a) j []) (get_or new (length vs + j) [])) where
  reads_by : (p : ℕ) (b : Layout) (i : ℕ) → IsAt ls p b i ⊎ ((b ≡ a) × (p ≡ rows_in_all ls + i) × (i < len_of a)) → ReadsAs (get_or (views_in b) i []) (buffers_in b) (get_or new p []) (bs ++ buffers_in a)
  reads_by p b i (inl at) =
      let below : p < length vs = subst (λ m. p < m) (sym h.count) (at_below ls p b i at) in
      subst (λ (w : List ℕ). ReadsAs (get_or (views_in b) i []) (buffers_in b) w (bs ++ buffers_in a)) (sym (front p below))
      (reads_behind (get_or (views_in b) i []) (buffers_in b) (get_or vs p []) bs (buffers_in a) (h.reads p b i at))
  reads_by p b i (inr at) =
      let small : i < length (views_in a) = subst (λ m. i < m) (sym (views_count s a k)) at.2 in
      let here : p ≡ length vs + i = at.1 ∙ ap (λ m. m + i) (sym h.count) in
      subst (λ c. ReadsAs (get_or (views_in c) i []) (buffers_in c) (get_or new p []) (bs ++ buffers_in a)) (sym at.0)
      (subst (λ q. ReadsAs (get_or (views_in a) i []) (buffers_in a) (get_or new q []) (bs ++ buffers_in a)) (sym here)
      (moved_reads n (get_or (views_in a) i []) (get_or new (length vs + i) []) bs (buffers_in a) (moved_so i small) e room))

  one_more : AreViewsOf s (ls ++ a ∷ []) new (bs ++ buffers_in a)
  one_more = record {
    kinds = All-append (AreStrings s) ls (a ∷ []) h.kinds (All-cons (AreStrings s) a [] k (All-nil (AreStrings s)));
    count = many ∙ (λ t. h.count t + views_count s a k t) ∙ sym (rows_snoc ls a);
    reads = λ p b i at. reads_by p b i (at_snoc ls a p b i at);
  }

pub more_views : (s : Strings) (ls : List Layout) (i : ℕ) (a : Layout) (vs bs own_vs own_bs new_vs new_bs : List (List ℕ)) (n m : ℕ) → AreViewsOf s (take i ls) vs bs → i < length ls → a ≡ get_or ls i a → AreStrings s a → own_vs ≡ views_in a → own_bs ≡ buffers_in a → m ≡ length bs → n ≡ m → m + length own_bs < 2 ^ 32
    → length new_vs ≡ length vs + length own_vs → ((j : ℕ) → j < length vs → get_or new_vs j [] ≡ get_or vs j []) → ((j : ℕ) → j < length own_vs → IsMoved n (get_or own_vs j []) (get_or new_vs (length vs + j) [])) → new_bs ≡ bs ++ own_bs → AreViewsOf s (take (i + 1) ls) new_vs new_bs
more_views s ls i a vs bs own_vs own_bs new_vs new_bs n m h l e k v b count index room many front moved_so made =
    let before : take (i + 1) ls ≡ take i ls ++ a ∷ [] = take_more ls i a l ∙ ap (λ y. take i ls ++ y ∷ []) (sym e) in
    let fits : n + length (buffers_in a) < 2 ^ 32 = subst (λ (xs : List (List ℕ)). n + length xs < 2 ^ 32) b (subst (λ x. x + length own_bs < 2 ^ 32) (sym index) room) in
    subst (λ xs. AreViewsOf s xs new_vs new_bs) (sym before)
    (subst (AreViewsOf s (take i ls ++ a ∷ []) new_vs) (sym (made ∙ ap (λ (xs : List (List ℕ)). bs ++ xs) b))
    (one_more s (take i ls) a vs bs new_vs n h k (sym (index ∙ count)) fits
    (many ∙ ap (λ (xs : List (List ℕ)). length vs + length xs) v) front
    (λ j g. subst (λ (xs : List (List ℕ)). IsMoved n (get_or xs j []) (get_or new_vs (length vs + j) [])) v (moved_so j (subst (λ (xs : List (List ℕ)). j < length xs) (sym v) g)))))

pub all_views : (s : Strings) (ls : List Layout) (i : ℕ) (vs bs : List (List ℕ)) → AreViewsOf s (take i ls) vs bs → length ls ≤ i → AreViewsOf s ls vs bs
all_views s ls i vs bs h l = subst (λ xs. AreViewsOf s xs vs bs) (take_all i ls l) h

pub ruleset gathered = (no_views, more_views, all_views)

-- ---- the array

string_row : (s : Strings) (a : Layout) (i : ℕ) → AreStrings s a → content_at a i ≡ cond (is_valid (valid_in a) i) (string_content s (value_of (get_or (views_in a) i []) (buffers_in a))) null
string_row s (strings t vs bs v) i h = ap (λ x. cond (is_valid v i) (string_content x (value_of (get_or vs i []) bs)) null) h.0
string_row s (bools bs v) i h = absurd h
string_row s (numbers j zs v) i h = absurd h
string_row s (constant t r n) i h = absurd h
string_row s (dictionary c v f) i h = absurd h
string_row s (fixed_lists e k n v) i h = absurd h
string_row s (list_views e o k f v) i h = absurd h
string_row s (records cs n v) i h = absurd h

string_kind : (s : Strings) (a : Layout) → AreStrings s a → array_type_of a ≡ type_of_strings s (nullability_by (valid_in a))
string_kind s (strings t vs bs v) h = ap (λ x. type_of_strings x (nullability_by v)) h.0
string_kind s (bools bs v) h = absurd h
string_kind s (numbers j zs v) h = absurd h
string_kind s (constant t r n) h = absurd h
string_kind s (dictionary c v f) h = absurd h
string_kind s (fixed_lists e k n v) h = absurd h
string_kind s (list_views e o k f v) h = absurd h
string_kind s (records cs n v) h = absurd h

string_held : (s : Strings) (a : Layout) (i : ℕ) → AreStrings s a → i < len_of a → IsTrue (is_valid (valid_in a) i) → HasValue (get_or (views_in a) i []) (buffers_in a) × IsString s (value_of (get_or (views_in a) i []) (buffers_in a))
string_held s (strings t vs bs v) i h l g = let x = h.1.0 i l g in (x.0, subst (λ y. IsString y (value_of (get_or vs i []) bs)) h.0 x.1)
string_held s (bools bs v) i h l g = absurd h
string_held s (numbers j zs v) i h l g = absurd h
string_held s (constant t r n) i h l g = absurd h
string_held s (dictionary c v f) i h l g = absurd h
string_held s (fixed_lists e k n v) i h l g = absurd h
string_held s (list_views e o k f v) i h l g = absurd h
string_held s (records cs n v) i h l g = absurd h

nullability_in : (s : Strings) (n : Nullability) → nullability_of (type_of_strings s n) ≡ n
nullability_in texts n = refl
nullability_in byte_strings n = refl

row_where : (b : Bool) (x y : Content) → (b ≡ true → x ≡ y) → cond b x null ≡ cond b y null
row_where true x y h = h refl
row_where false x y h = refl

pub strings_fit : (s : Strings) (ls : List Layout) (vs bs : List (List ℕ)) (v : Valid) → AreViewsOf s ls vs bs → IsEndToEnd (validities ls) v → IsSound (strings s vs bs v)
strings_fit s ls vs bs v h made = (
  λ p l t.
      let below : p < rows_in_all ls = subst (λ n. p < n) h.count l in
      let place = place_of ls p below in
      let a = place.array in
      let i = place.row in
      let valid : IsTrue (is_valid (valid_in a) i) = sym (valid_at_place ls v p a i below made place.at) ∙ t in
      let held = string_held s a i (at_one (AreStrings s) ls p a i h.kinds place.at) (at_within ls p a i place.at) valid in
      let r = h.reads p a i place.at in
      (r.there held.0, subst (IsString s) (sym (r.same held.0)) held.1),
  subst (HasLength v) (lengths_joined ls ∙ sym h.count) made.fits,
)

pub column_of_strings : (s : Strings) (ls : List Layout) (vs bs : List (List ℕ)) (v : Valid) (r : Layout) → 0 < length ls → AreViewsOf s ls vs bs → IsEndToEnd (validities ls) v → r ≡ strings s vs bs v → IsJoined ls r
column_of_strings s ls vs bs v r l h made is = record {
  count = ap len_of is ∙ h.count;
  column = λ t same. subst (IsColumn t ls) (sym is) (record {
    kind = kind_by_first (type_of_strings s) ls v t l (nullability_in s) (λ i d m. string_kind s (get_or ls i d) (h.kinds i d m)) made same;
    rows = rows_joined ls (strings s vs bs v) h.count (λ p a i at.
        let k = at_one (AreStrings s) ls p a i h.kinds at in
        ap (λ b. cond b (string_content s (value_of (get_or vs p []) bs)) null) (valid_at_place ls v p a i (at_below ls p a i at) made at)
        ∙ row_where (is_valid (valid_in a) i) (string_content s (value_of (get_or vs p []) bs)) (string_content s (value_of (get_or (views_in a) i []) (buffers_in a)))
        (λ g. ap (string_content s) ((h.reads p a i at).same (string_held s a i k (at_within ls p a i at) g).0))
        ∙ sym (string_row s a i k));
    plain = tt;
  });
}

pub ruleset joined = (strings_fit, column_of_strings)
