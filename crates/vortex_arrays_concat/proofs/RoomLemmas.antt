-- Rows that views and buffers have room for.
use Rattle.std.proofs.Common.{◌≡◌, ◌<◌, ◌≤◌, ◌+◌, ◌*◌, ℕ, zero, suc, Bool, true, false, cond, leb, List, [], ◌∷◌, ◌++◌, length, map, take, drop, get_or, replicate, refl, sym, ap, subst, ◌∙◌, arith, inl, inr}
use Rattle.std.specs.List.{flat_map, concat, sum, range_with_len, All}
use Rattle.std.proofs.lemmas.Bool.Decides.{leb_tells}
use Rattle.std.proofs.lemmas.List.{length-append, length-take}
use Rattle.std.proofs.lemmas.List.Elements.{All-nil, All-cons}
use Rattle.std.proofs.lemmas.List.Sums.{sum_by-cons}
use Rattle.vortex_model.specs.LogicalType.{LogicalType, utf8, binary, list, fixed_list, struct, Fields, no_fields, field}
use Rattle.vortex_model.specs.Content.{Content, null, text, byte_string, tuple, Contents, nothing, first, nth}
use Rattle.vortex_model.specs.Path.{part_of}
use Rattle.vortex_arrays_view.specs.Views.{size_of, index_of, offset_of, inlined_of, value_of}
use Rattle.vortex_arrays_view.specs.Cuttings.{end_of, IsValueEnd, IsCutting}
use Rattle.vortex_arrays_builder.specs.TooLarge.{string_bytes, buffered_bytes, buffered_count, AreTooLong, contents_listed, list_items, fixed_list_items, parts_of, AreTooLarge, HaveTooLarge}
use Rattle.vortex_arrays_concat.specs.Room.{string_weight, weight, weight_of_all, total_weight}

-- ---- the weight of a value

weight_long : (n : ℕ) → 2147483647 < n → string_weight n ≡ 4294967297
weight_long n l = elim (leb_tells n 2147483647) [
  | inl y ↦ absurd (let m = y.1 in omega (arith, l, m))
  | inr y ↦ ap (λ (b : Bool). cond b 1 4294967297) y.0
]

weight_some : (n : ℕ) → 1 ≤ string_weight n
weight_some n = elim (leb_tells n 2147483647) [
  | inl y ↦ subst (λ (b : Bool). 1 ≤ cond b 1 4294967297) (sym y.0) (omega arith)
  | inr y ↦ subst (λ (b : Bool). 1 ≤ cond b 1 4294967297) (sym y.0) (omega arith)
]

within_value : (bs : List ℕ) → length (cond (leb (length bs) 12) [] bs) ≤ length bs
within_value bs = elim (leb_tells (length bs) 12) [
  | inl y ↦ subst (λ (t : Bool). length (cond t [] bs) ≤ length bs) (sym y.0) (omega arith)
  | inr y ↦ subst (λ (t : Bool). length (cond t [] bs) ≤ length bs) (sym y.0) (omega arith)
]

row_long : (c : Content) → 2147483647 < buffered_count c → 4294967297 ≤ weight c
row_long (text bs) l = let w = weight_long (length bs) (let m = within_value bs in omega (arith, l, m)) in omega (arith, w)
row_long (byte_string bs) l = let w = weight_long (length bs) (let m = within_value bs in omega (arith, l, m)) in omega (arith, w)
row_long c l = absurd (omega (arith, l))

row_weight : (rows : List Content) (i : ℕ) (d : Content) → i < length rows → weight (get_or rows i d) ≤ total_weight rows
row_weight [] i d l = absurd (omega arith)
row_weight (c ∷ rows) zero d l = omega arith
row_weight (c ∷ rows) (suc i) d l = let m = row_weight rows i d (omega (arith, l)) in omega (arith, m)

-- ---- one buffer for each value

abbrev cut : List Content → List (List ℕ)
cut [] = []
cut (text bs ∷ rows) = buffered_bytes (text bs) ∷ cut rows
cut (byte_string bs ∷ rows) = buffered_bytes (byte_string bs) ∷ cut rows
cut (c ∷ rows) = cut rows

cut_count : (rows : List Content) → length (cut rows) ≤ total_weight rows
cut_count [] = omega arith
cut_count (text bs ∷ rows) = let m = weight_some (length bs) in let r = cut_count rows in omega (arith, m, r)
cut_count (byte_string bs ∷ rows) = let m = weight_some (length bs) in let r = cut_count rows in omega (arith, m, r)
cut_count (c ∷ rows) = let r = cut_count rows in omega (arith, r)

cut_whole : (rows : List Content) → concat (cut rows) ≡ flat_map buffered_bytes rows
cut_whole [] = refl
cut_whole (text bs ∷ rows) = ap (λ xs. buffered_bytes (text bs) ++ xs) (cut_whole rows)
cut_whole (byte_string bs ∷ rows) = ap (λ xs. buffered_bytes (byte_string bs) ++ xs) (cut_whole rows)
cut_whole (c ∷ rows) = cut_whole rows

one_more : (b : List ℕ) (cs : List (List ℕ)) (ns : List ℕ) → IsValueEnd ns (length (concat cs)) → IsValueEnd (length b ∷ ns) (length (concat (b ∷ cs)))
one_more b cs ns h = record {
  count = suc h.count;
  ends = length-append b (concat cs) ∙ ap (λ n. length b + n) h.ends ∙ sym (sum_by-cons (λ x. x) (length b) (take h.count ns));
}

none_more : (ns : List ℕ) (place : ℕ) → IsValueEnd ns place → IsValueEnd (0 ∷ ns) place
none_more ns place h = record {
  count = suc h.count;
  ends = h.ends ∙ (let e : end_of ns h.count ≡ 0 + end_of ns h.count = omega arith in e) ∙ sym (sum_by-cons (λ x. x) 0 (take h.count ns));
}

cut_ends : (rows : List Content) (count : ℕ) → IsValueEnd (map buffered_count rows) (length (concat (take count (cut rows))))
cut_ends [] zero = record { count = 0; ends = refl }
cut_ends [] (suc n) = record { count = 0; ends = refl }
cut_ends (text bs ∷ rows) zero = record { count = 0; ends = refl }
cut_ends (text bs ∷ rows) (suc n) = one_more (buffered_bytes (text bs)) (take n (cut rows)) (map buffered_count rows) (cut_ends rows n)
cut_ends (byte_string bs ∷ rows) zero = record { count = 0; ends = refl }
cut_ends (byte_string bs ∷ rows) (suc n) = one_more (buffered_bytes (byte_string bs)) (take n (cut rows)) (map buffered_count rows) (cut_ends rows n)
cut_ends (c ∷ rows) n = none_more (map buffered_count rows) (length (concat (take n (cut rows)))) (cut_ends rows n)

short_value : (bs : List ℕ) (n : ℕ) → string_weight (length bs) + n ≤ 4294967296 → length (cond (leb (length bs) 12) [] bs) ≤ 2147483647
short_value bs n h = elim (leb_tells (length bs) 2147483647) [
  | inl y ↦ let l = y.1 in let m = within_value bs in omega (arith, l, m)
  | inr y ↦ absurd (let w = weight_long (length bs) y.1 in omega (arith, w, h))
]

cut_within : (rows : List Content) → total_weight rows ≤ 4294967296 → All (λ b. length b ≤ 2147483647) (cut rows)
cut_within [] h = All-nil (λ b. length b ≤ 2147483647)
cut_within (text bs ∷ rows) h = All-cons (λ b. length b ≤ 2147483647) (buffered_bytes (text bs)) (cut rows) (short_value bs (total_weight rows) h) (cut_within rows (omega (arith, h)))
cut_within (byte_string bs ∷ rows) h = All-cons (λ b. length b ≤ 2147483647) (buffered_bytes (byte_string bs)) (cut rows) (short_value bs (total_weight rows) h) (cut_within rows (omega (arith, h)))
cut_within (c ∷ rows) h = cut_within rows (omega (arith, h))

short_and_few : (rows : List Content) → total_weight rows ≤ 4294967296 → ¬ AreTooLong rows
short_and_few rows h bad = elim bad [
  | inl x ↦
      let long = row_long x.1 x.4 in
      let there = row_weight rows x.0 x.1 x.2 in
      let is = ap weight x.3 in
      omega (arith, long, there, is, h)
  | inr many ↦
      let past = many (cut rows) (record { whole = cut_whole rows; ends = cut_ends rows; within = cut_within rows h }) in
      let few = cut_count rows in omega (arith, past, few, h)
]

-- ---- columns at any depth

pub weight_on : (xs ys : List Content) → total_weight (xs ++ ys) ≡ total_weight xs + total_weight ys
weight_on [] ys = let e : total_weight ys ≡ 0 + total_weight ys = omega arith in e
weight_on (x ∷ xs) ys = let r = weight_on xs ys in omega (arith, r)

listed_weight : (cs : Contents) → total_weight (contents_listed cs) ≡ weight_of_all cs
listed_weight nothing = refl
listed_weight (first c cs) = ap (λ n. weight c + n) (listed_weight cs)

items_weight : (c : Content) → total_weight (list_items c) ≤ weight c
items_weight (tuple cs) = let e = listed_weight cs in omega (arith, e)
items_weight c = omega arith

nulls_weight : (m : ℕ) → total_weight (replicate m null) ≡ 0
nulls_weight zero = refl
nulls_weight (suc m) = let r = nulls_weight m in omega (arith, r)

fixed_weight : (m : ℕ) (c : Content) → total_weight (fixed_list_items m c) ≤ weight c
fixed_weight m null = let e = nulls_weight m in omega (arith, e)
fixed_weight m (tuple cs) = items_weight (tuple cs)
fixed_weight m c = omega arith

flat_weight : (f : Content → List Content) → ((c : Content) → total_weight (f c) ≤ weight c) → (rows : List Content) → total_weight (flat_map f rows) ≤ total_weight rows
flat_weight f each [] = omega arith
flat_weight f each (c ∷ rows) = let e = weight_on (f c) (flat_map f rows) in let m = each c in let r = flat_weight f each rows in omega (arith, e, m, r)

nth_weight : (cs : Contents) (i : ℕ) → weight (nth cs i) ≤ weight_of_all cs
nth_weight nothing i = omega arith
nth_weight (first c cs) zero = omega arith
nth_weight (first c cs) (suc i) = let r = nth_weight cs i in omega (arith, r)

part_weight : (c : Content) (i : ℕ) → weight (part_of c i) ≤ weight c
part_weight (tuple cs) i = nth_weight cs i
part_weight c i = omega arith

parts_weight : (i : ℕ) (rows : List Content) → total_weight (parts_of i rows) ≤ total_weight rows
parts_weight i [] = omega arith
parts_weight i (c ∷ rows) = let m = part_weight c i in let r = parts_weight i rows in omega (arith, m, r)

mutual
  pub have_room : (k : LogicalType) (rows : List Content) → total_weight rows ≤ 4294967296 → ¬ AreTooLarge k rows
  have_room (utf8 n) rows h bad = short_and_few rows h bad
  have_room (binary n) rows h bad = short_and_few rows h bad
  have_room (list k n) rows h bad = have_room k (flat_map list_items rows) (let m = flat_weight list_items items_weight rows in omega (arith, m, h)) bad
  have_room (fixed_list k m n) rows h bad = have_room k (flat_map (fixed_list_items m) rows) (let l = flat_weight (fixed_list_items m) (fixed_weight m) rows in omega (arith, l, h)) bad
  have_room (struct fs n) rows h bad = all_have_room fs 0 rows h bad
  have_room k rows h bad = absurd bad

  all_have_room : (fs : Fields) (i : ℕ) (rows : List Content) → total_weight rows ≤ 4294967296 → ¬ HaveTooLarge fs i rows
  all_have_room no_fields i rows h bad = absurd bad
  all_have_room (field x k fs) i rows h bad = elim bad [
    | inl y ↦ have_room k (parts_of i rows) (let m = parts_weight i rows in omega (arith, m, h)) y
    | inr y ↦ all_have_room fs (suc i) rows h y
  ]
