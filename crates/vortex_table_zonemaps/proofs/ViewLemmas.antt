-- Views beside more bytes, and those of zones.
use Rattle.std.proofs.Common.{◌≡◌, refl, sym, ap, subst, ◌∙◌, ℕ, ◌+◌, ◌≤◌, ◌<◌, ◌^◌, Bool, false, List, [], ◌∷◌, ◌++◌, length, map, take, drop, get_or, Some, inl, inr, arith}
use Rattle.std.specs.List.{All}
use Rattle.std.proofs.Math.Logic.{∥∥₁_map, ∥∥₁_elim}
use Rattle.std.specs.Coded.{Coded-set, coded_list}
use Rattle.std.proofs.lemmas.Bool.{cases_lt}
use Rattle.std.proofs.Math.Seq.{take-length}
use Rattle.std.proofs.lemmas.List.{length-take, length-append, drop_at}
use Rattle.std.proofs.lemmas.List.Elements.{All-head, All-tail, All-weaker, All-push, All-take, All-drop}
use Rattle.vortex_model.specs.Content.{Content, null}
use Rattle.vortex_arrays_view.specs.Views.{size_of, index_of, offset_of, value_of, HasValue}
use Rattle.vortex_arrays_view.proofs.Made.{value_short, value_long, views_read_back}
use Rattle.vortex_arrays_view.specs.Made.{short_view, view_of}
use Rattle.vortex_stats_mask.specs.Columns.{shown, shown_at}
use Rattle.vortex_stats_mask.specs.Headed.{AllValid, ViewsHaveHeads}
use Rattle.vortex_stats_match.specs.Heads.{HasHead}
use Rattle.vortex_stats_match.proofs.HeadLemmas.{has_head}
use Rattle.vortex_table_chunk.specs.BoundCode.{coded_content}
use Rattle.vortex_table_zonemaps.specs.Known.{AreKnown, IsKept, IsPut}
use Rattle.vortex_table_zonemaps.specs.Views.{IsViewIn, AreViewsKnown}
use Rattle.vortex_table_zonemaps.proofs.Columns.{front, part_of_front, known_long, known_put, known_kept}
use Rattle.vortex_table_zonemaps.specs.declared.views.Views.{Views}

module _ (bs cs : List ℕ) (grown : take (length bs) cs ≡ bs) where
  more : length bs ≤ length cs
  more = let taken = length-take (length bs) cs in let same = ap length grown in omega (arith, taken, same)

  only : (v : List ℕ) → HasValue v (bs ∷ []) → 12 < size_of v → index_of v ≡ 0
  only v h long = let here = h.there long in omega (arith, here)

  inside : (v : List ℕ) → HasValue v (bs ∷ []) → 12 < size_of v → offset_of v + size_of v ≤ length bs
  inside v h long = subst (λ k. offset_of v + size_of v ≤ length (get_or (bs ∷ []) k [])) (only v h long) (h.inside long)

  -- a view has the same value beside more bytes
  value_stays : (v : List ℕ) → HasValue v (bs ∷ []) → value_of v (cs ∷ []) ≡ value_of v (bs ∷ [])
  value_stays v h = elim (cases_lt 12 (size_of v)) [
    | inl long ↦
        let n = size_of v in let o = offset_of v in
        value_long v (cs ∷ []) long ∙ ap (λ k. take n (drop o (get_or (cs ∷ []) k []))) (only v h long)
        ∙ sym (part_of_front n o (length bs) cs (inside v h long)) ∙ ap (λ xs. take n (drop o xs)) grown
        ∙ sym (value_long v (bs ∷ []) long ∙ ap (λ k. take n (drop o (get_or (bs ∷ []) k []))) (only v h long))
    | inr short ↦ value_short v (cs ∷ []) short ∙ sym (value_short v (bs ∷ []) short)
  ]

  still_valued : (v : List ℕ) → HasValue v (bs ∷ []) → HasValue v (cs ∷ [])
  still_valued v h = record {
    there = h.there;
    inside = λ long. let here = inside v h long in let all = more in
        subst (λ k. offset_of v + size_of v ≤ length (get_or (cs ∷ []) k [])) (sym (only v h long)) (omega (arith, here, all));
    prefix = λ long. h.prefix long ∙ ap (take 4) (sym (value_stays v h));
  }

  all_valued : (vs : List (List ℕ)) → All (λ v. HasValue v (bs ∷ [])) vs → All (λ v. HasValue v (cs ∷ [])) vs
  all_valued vs h = All-weaker (λ v. HasValue v (bs ∷ [])) (λ v. HasValue v (cs ∷ [])) still_valued vs h

  pub values_stay : (f : List ℕ → Content) (vs : List (List ℕ)) → All (λ v. HasValue v (bs ∷ [])) vs → map (λ v. f (value_of v (cs ∷ []))) vs ≡ map (λ v. f (value_of v (bs ∷ []))) vs
  values_stay f [] h = refl
  values_stay f (v ∷ vs) h = λ i. f (value_stays v (All-head (λ x. HasValue x (bs ∷ [])) v vs h) i) ∷ values_stay f vs (All-tail (λ x. HasValue x (bs ∷ [])) v vs h) i

-- the view of a value that ends the bytes where it is long
pub view_made : (bs cs v : List ℕ) (o : ℕ) → length v < 2 ^ 32 → o < 2 ^ 32 → o ≡ length bs → (12 < length v → cs ≡ bs ++ v) → IsViewIn cs v (view_of v 0 o)
view_made bs cs v o n x e put = views_read_back v (cs ∷ []) 0 o n (omega arith) x (λ long. record {
  there = omega arith;
  here = ap (λ xs. take (length v) (drop o xs)) (put long) ∙ ap (take (length v)) (drop_at bs v o (sym e)) ∙ take-length v;
})

no_bytes : (bs : List (List ℕ)) → HasValue (short_view []) bs
no_bytes bs = (views_read_back [] bs 0 0 (omega arith) (omega arith) (omega arith) (λ h. absurd (omega (arith, h)))).0

module _ (f : List ℕ → Content) (old new : Views) (cs : List Content) (n : ℕ) (count : length cs ≡ n)
    (grown : take (length old.bytes.items) new.bytes.items ≡ old.bytes.items) (h : AreViewsKnown f old cs) where
  abbrev value_old : List ℕ → Content
  value_old v = f (value_of v (old.bytes.items ∷ []))

  abbrev value_new : List ℕ → Content
  value_new v = f (value_of v (new.bytes.items ∷ []))

  -- the views that stay have the same values beside more bytes
  pub still_known : AreKnown value_new old.views cs
  still_known =
      ∥∥₁_elim (∥∥₁_map h.0 (λ all. ap (λ l. shown (Some (take (length cs) old.views.flags.items)) l)
      (values_stay old.bytes.items new.bytes.items grown f (take (length cs) old.views.values.items) all) ∙ h.1)) (Coded-set (coded_list coded_content) _ _) (λ is. is)

  still_all : (vs : List (List ℕ)) → vs ≡ take (length cs) old.views.values.items → ∥ All (λ v. HasValue v (new.bytes.items ∷ [])) vs ∥₁
  still_all vs same = ∥∥₁_map h.0 (λ all. subst (λ ws. All (λ v. HasValue v (new.bytes.items ∷ [])) ws) (sym same) (all_valued old.bytes.items new.bytes.items grown (take (length cs) old.views.values.items) all))

  pub views_kept : IsKept n old.views new.views → AreViewsKnown f new cs
  views_kept kept =
      let long = known_long value_old old.views cs n count h.1 in
      let same : take (length cs) new.views.values.items ≡ take (length cs) old.views.values.items =
      ap (λ m. take m new.views.values.items) count ∙ kept.values long.0 ∙ ap (λ m. take m old.views.values.items) (sym count) in
      (still_all (take (length cs) new.views.values.items) same, known_kept value_new old.views new.views cs n count still_known kept)

  pub view_put : (view : List ℕ) (k : Bool) (c : Content) → HasValue view (new.bytes.items ∷ []) → IsPut n view k old.views new.views →
      shown_at k (value_new view) ≡ c → AreViewsKnown f new (cs ++ c ∷ [])
  view_put view k c has put says =
      let long = known_long value_old old.views cs n count h.1 in let many = length-append cs (c ∷ []) in
      let whole = front old.views.values.items new.views.values.items view n (length (cs ++ c ∷ [])) long.0 (omega (arith, many, count)) put.values in (
        ∥∥₁_map (still_all (take n old.views.values.items) (ap (λ m. take m old.views.values.items) (sym count))) (λ all.
            subst (λ vs. All (λ v. HasValue v (new.bytes.items ∷ [])) vs) (sym whole) (All-push (λ v. HasValue v (new.bytes.items ∷ [])) (take n old.views.values.items) view all has)),
        known_put value_new old.views new.views cs n count still_known view k c put says,
      )

-- the view of no bytes, which isn't known
pub no_view_put : (f : List ℕ → Content) (old new : Views) (cs : List Content) (n : ℕ) → length cs ≡ n → new.bytes.items ≡ old.bytes.items → AreViewsKnown f old cs →
    IsPut n (short_view []) false old.views new.views → AreViewsKnown f new (cs ++ null ∷ [])
no_view_put f old new cs n count same h put =
    view_put f old new cs n count (ap (take (length old.bytes.items)) same ∙ take-length old.bytes.items) h (short_view []) false null (no_bytes (new.bytes.items ∷ [])) put refl

-- ---- parts

valid_heads : (bs : List (List ℕ)) (ks : List Bool) (vs : List (List ℕ)) → All (λ v. HasValue v bs) vs → AllValid (λ v. HasHead v bs) ks vs
valid_heads bs [] vs h = tt
valid_heads bs (k ∷ ks) [] h = tt
valid_heads bs (k ∷ ks) (v ∷ vs) h = (λ e. has_head v bs (All-head (λ x. HasValue x bs) v vs h), valid_heads bs ks vs (All-tail (λ x. HasValue x bs) v vs h))

-- the views of a part have the first bytes of their values
pub part_headed : (f : List ℕ → Content) (s : Views) (cs : List Content) (first count : ℕ) → first + count ≤ length cs → AreViewsKnown f s cs →
    (vs : List (List ℕ)) (js : List Bool) (bs : List (List ℕ)) → vs ≡ take count (drop first s.views.values.items) → bs ≡ s.bytes.items ∷ [] → ∥ ViewsHaveHeads (Some js) vs bs ∥₁
part_headed f s cs first count within h vs js bs p q =
    let front = take (length cs) s.views.values.items in
    ∥∥₁_map h.0 (λ all. subst (λ ys. AllValid (λ v. HasHead v bs) js ys) (part_of_front count first (length cs) s.views.values.items within ∙ sym p)
    (subst (λ zs. AllValid (λ v. HasHead v zs) js (take count (drop first front))) (sym q)
    (valid_heads (s.bytes.items ∷ []) js (take count (drop first front)) (All-take (λ v. HasValue v (s.bytes.items ∷ [])) count (drop first front) (All-drop (λ v. HasValue v (s.bytes.items ∷ [])) first front all)))))
