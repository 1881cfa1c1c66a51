-- Lists of one size that are end to end.
use Rattle.std.proofs.Common.{◌≡◌, ◌<◌, ◌≤◌, ◌+◌, ◌*◌, ℕ, zero, suc, Bool, true, cond, ◌==◌, List, [], ◌∷◌, length, take, get_or, replicate, refl, sym, ap, subst, ◌∙◌, arith}
use Rattle.std.specs.List.{flat_map, All}
use Rattle.std.proofs.lemmas.List.{length-append, length-replicate, take_all}
use Rattle.std.proofs.lemmas.List.Elements.{All-nil, All-cons, All-append}
use Rattle.std.specs.Cmp.{first_so, second_so}
use Rattle.std.proofs.lemmas.Bool.{eqb-true}
use Rattle.vortex_model.specs.LogicalType.{LogicalType, fixed_list, Nullability, non_nullable, nullable}
use Rattle.vortex_model.specs.Content.{null, tuple, Contents, content_of, contents_of, Raw, raw_null, raw_tuple, Raws, no_raws, raw_first, raw_count}
use Rattle.vortex_model.specs.Valid.{valid, all_have}
use Rattle.vortex_arrays_model.specs.Layout.{Layout, fixed_lists, Valid, len_of, content_at, is_valid, span}
use Rattle.vortex_arrays_builder.specs.Items.{raws_listed, fixed_items}
use Rattle.vortex_arrays_builder.specs.Plain.{is_held, is_there, MarksNulls, IsPlain}
use Rattle.vortex_arrays_builder.proofs.ListLemmas.{items_valid, valid_held, spanned, item_content}

length-listed : (qs : Raws) → length (raws_listed qs) ≡ raw_count qs
length-listed no_raws = refl
length-listed (raw_first q qs) = ap suc (length-listed qs)

-- each row has as many items as the size
pub row_size : (k : LogicalType) (m : ℕ) (n : Nullability) (r : Raw) → is_held (fixed_list k m n) r ≡ true → length (fixed_items m r) ≡ m
row_size k m n raw_null h = length-replicate m raw_null
row_size k m n (raw_tuple qs) h = length-listed qs ∙ eqb-true (raw_count qs) m (first_so (raw_count qs == m) (all_have k qs) h)
row_size k m n r h = absurd (cc h)

all_null_held : (k : LogicalType) (m : ℕ) → All (λ r. is_held k r ≡ true) (replicate m raw_null)
all_null_held k zero = All-nil (λ r. is_held k r ≡ true)
all_null_held k (suc m) = All-cons (λ r. is_held k r ≡ true) raw_null (replicate m raw_null) refl (all_null_held k m)

row_held : (k : LogicalType) (m : ℕ) (n : Nullability) (r : Raw) → is_held (fixed_list k m n) r ≡ true → All (λ r. is_held k r ≡ true) (fixed_items m r)
row_held k m n raw_null h = all_null_held k m
row_held k m n (raw_tuple qs) h = λ i d l. valid_held k (get_or (raws_listed qs) i d) (items_valid k qs (second_so (raw_count qs == m) (all_have k qs) h) i d l)
row_held k m n r h = absurd (cc h)

pub all_items_held : (k : LogicalType) (m : ℕ) (n : Nullability) (rs : List Raw) → All (λ r. is_held (fixed_list k m n) r ≡ true) rs → All (λ r. is_held k r ≡ true) (flat_map (fixed_items m) rs)
all_items_held k m n [] h = All-nil (λ r. is_held k r ≡ true)
all_items_held k m n (r ∷ rs) h = All-append (λ r. is_held k r ≡ true) (fixed_items m r) (flat_map (fixed_items m) rs) (row_held k m n r (h 0 raw_null (omega arith))) (all_items_held k m n rs (λ i d l. h (suc i) d (omega arith)))

by_rows : (i m : ℕ) → m + i * m ≡ suc i * m
by_rows i m = omega arith

-- the first item of a row, and the number of its items
pub fixed_begin : (k : LogicalType) (m : ℕ) (n : Nullability) (rs : List Raw) (i : ℕ) → All (λ r. is_held (fixed_list k m n) r ≡ true) rs → i ≤ length rs → length (flat_map (fixed_items m) (take i rs)) ≡ i * m
fixed_begin k m n rs zero h l = let e : 0 ≡ 0 * m = omega arith in e
fixed_begin k m n [] (suc i) h l = absurd (omega arith)
fixed_begin k m n (r ∷ rs) (suc i) h l =
    let rest = fixed_begin k m n rs i (λ j d b. h (suc j) d (omega arith)) (omega (arith, l)) in
    length-append (fixed_items m r) (flat_map (fixed_items m) (take i rs)) ∙ (λ j. row_size k m n r (h 0 raw_null (omega arith)) j + rest j) ∙ by_rows i m

fixed_row : (k : LogicalType) (m : ℕ) (n : Nullability) (r : Raw) (b : Bool) (s : Contents) → b ≡ is_there n r → ((qs : Raws) → r ≡ raw_tuple qs → all_have k qs ≡ true → s ≡ contents_of qs) → valid (fixed_list k m n) r ≡ true → cond b (tuple s) null ≡ content_of r
fixed_row k m nullable raw_null b s e f h = ap (λ t. cond t (tuple s) null) e
fixed_row k m non_nullable raw_null b s e f h = absurd (cc h)
fixed_row k m nullable (raw_tuple qs) b s e f h = λ t. cond (e t) (tuple (f qs refl (second_so (raw_count qs == m) (all_have k qs) h) t)) null
fixed_row k m non_nullable (raw_tuple qs) b s e f h = λ t. cond (e t) (tuple (f qs refl (second_so (raw_count qs == m) (all_have k qs) h) t)) null
fixed_row k m n r b s e f h = absurd (cc h)

module _ (k : LogicalType) (m : ℕ) (n : Nullability) (rs : List Raw) (e : Layout) (v : Valid) (p : IsPlain k (flat_map (fixed_items m) rs) e) (held : All (λ r. is_held (fixed_list k m n) r ≡ true) rs) (w : MarksNulls n rs v) where
  many : len_of e ≡ length rs * m
  many = p.len ∙ ap (λ xs. length (flat_map (fixed_items m) xs)) (sym (take_all (length rs) rs (omega arith))) ∙ fixed_begin k m n rs (length rs) held (omega arith)

  inside : (i : ℕ) (qs : Raws) → i < length rs → get_or rs i raw_null ≡ raw_tuple qs → all_have k qs ≡ true → span (content_at e) (i * m) m ≡ contents_of qs
  inside i qs l r t =
      let items : fixed_items m (get_or rs i raw_null) ≡ raws_listed qs = ap (fixed_items m) r in
      let size : length (raws_listed qs) ≡ m = ap length (sym items) ∙ row_size k m n (get_or rs i raw_null) (held i raw_null l) in
      (λ j. span (content_at e) (sym (fixed_begin k m n rs i held (omega arith)) j) (sym size j))
      ∙ spanned (content_at e) qs (length (flat_map (fixed_items m) (take i rs))) (λ j b.
      let c : j < length (fixed_items m (get_or rs i raw_null)) = subst (λ xs. j < length xs) (sym items) b in
      item_content k (fixed_items m) rs e i j p l c (ap (λ xs. valid k (get_or xs j raw_null)) items ∙ items_valid k qs t j raw_null b)
      ∙ ap (λ xs. content_of (get_or xs j raw_null)) items)

  pub plain_fixed : IsPlain (fixed_list k m n) rs (fixed_lists e m (length rs) v)
  plain_fixed = record {
    sound = (p.sound, many, w.fits);
    len = refl;
    kind = λ i. fixed_list (p.kind i) m (w.nullability i);
    layout = p.layout;
    content = λ i l c. fixed_row k m n (get_or rs i raw_null) (is_valid v i) (span (content_at e) (i * m) m) (w.bits i l) (λ qs r t. inside i qs l r t) c;
  }
