-- One more value.
use Rattle.std.proofs.Common.{◌≡◌, ◌<◌, ◌≤◌, ◌-◌, ◌+◌, ℕ, true, false, List, [], ◌∷◌, ◌++◌, length, map, get_or, Some, None, refl, sym, ap, subst, ◌∙◌, ⊎_elim, inl, inr, arith}
use Rattle.std.specs.List.{All, list_any}
use Rattle.std.specs.Option.{is_some}
use Rattle.std.proofs.lemmas.Bool.{false≢true, cases_lt}
use Rattle.std.proofs.lemmas.List.{map-append, length-append, get_or_append_left}
use Rattle.std.proofs.Math.Seq.{get_or-append_seam}
use Rattle.std.proofs.lemmas.List.Elements.{All-nil, All-cons, All-append}
use Rattle.vortex_model.specs.LogicalType.{LogicalType}
use Rattle.vortex_model.specs.Kept.{is_leaf}
use Rattle.vortex_model.specs.Content.{content_of, is_null, equal_content, Raw, raw_null}
use Rattle.vortex_model.specs.Valid.{valid}
use Rattle.vortex_model.proofs.Contents.{null_so}
use Rattle.vortex_model_table.proofs.Equality.{content_so}
use Rattle.vortex_arrays_dictionary.specs.Distinct.{distinct}
use Rattle.vortex_arrays_dictionary.specs.Numbering.{Key, has_key, index_where, IsNumberedOrNull, IsNumbering}
use Rattle.vortex_arrays_dictionary.proofs.DistinctLemmas.{distinct-null, distinct-new, distinct-old}
use Rattle.vortex_arrays_dictionary.proofs.KeyLemmas.{key_tells, index_found, index_tells}

pub none_numbered : (k : LogicalType) → IsNumbering k [] [] []
none_numbered k = record {
  held = All-nil (λ r. valid k r ≡ true);
  present = All-nil (λ r. is_null (content_of r) ≡ false);
  each_once = refl;
  many = refl;
  small = All-nil (λ n. n ≤ length {A = Raw} [] - 1);
  stands = λ i l n. absurd (omega arith);
}

-- a statement about the values so far and one more at the end
abbrev Stands : List Raw → List Raw → List ℕ → ℕ → Type 0
Stands rs ds ns i = is_null (content_of (get_or rs i raw_null)) ≡ false → (get_or ns i 0 < length ds) × (content_of (get_or ds (get_or ns i 0) raw_null) ≡ content_of (get_or rs i raw_null))

stands_more : (rs ds es : List Raw) (ns : List ℕ) (r : Raw) (n : ℕ) → length ns ≡ length rs → ((i : ℕ) → i < length rs → Stands rs ds ns i) → ((j : ℕ) → j < length ds → (j < length es) × (get_or es j raw_null ≡ get_or ds j raw_null)) → (is_null (content_of r) ≡ false → (n < length es) × (content_of (get_or es n raw_null) ≡ content_of r)) → (i : ℕ) → i < length (rs ++ r ∷ []) → Stands (rs ++ r ∷ []) es (ns ++ n ∷ []) i
stands_more rs ds es ns r n many before kept this i l = ⊎_elim
    (λ (lt : i < length rs). λ h.
    let rs_same : get_or (rs ++ r ∷ []) i raw_null ≡ get_or rs i raw_null = get_or_append_left rs (r ∷ []) raw_null i lt in
    let ns_same : get_or (ns ++ n ∷ []) i 0 ≡ get_or ns i 0 = get_or_append_left ns (n ∷ []) 0 i (omega arith) in
    let old = before i lt (ap (λ x. is_null (content_of x)) (sym rs_same) ∙ h) in
    let there = kept (get_or ns i 0) old.0 in (
      subst (λ m. m < length es) (sym ns_same) there.0,
      ap (λ m. content_of (get_or es m raw_null)) ns_same ∙ ap content_of there.1 ∙ old.1 ∙ ap content_of (sym rs_same),
    ))
    (λ (past : length rs ≤ i). λ h.
    let same : i ≡ length rs = omega (arith, length-append rs (r ∷ [])) in
    let rs_same : get_or (rs ++ r ∷ []) i raw_null ≡ r = subst (λ m. get_or (rs ++ r ∷ []) m raw_null ≡ r) (sym same) (get_or-append_seam rs r [] raw_null) in
    let ns_same : get_or (ns ++ n ∷ []) i 0 ≡ n = subst (λ m. get_or (ns ++ n ∷ []) m 0 ≡ n) (many ∙ sym same) (get_or-append_seam ns n [] 0) in
    let there = this (ap (λ x. is_null (content_of x)) (sym rs_same) ∙ h) in (
      subst (λ m. m < length es) (sym ns_same) there.0,
      ap (λ m. content_of (get_or es m raw_null)) ns_same ∙ there.1 ∙ ap content_of (sym rs_same),
    ))
    (cases_lt i (length rs))

-- the numbers so far and one more
small_more : (ns : List ℕ) (m k n : ℕ) → All (λ x. x ≤ m - 1) ns → m ≤ k → n ≤ k - 1 → All (λ x. x ≤ k - 1) (ns ++ n ∷ [])
small_more ns m k n h le this = All-append (λ x. x ≤ k - 1) ns (n ∷ []) (λ i d l. let old : get_or ns i d ≤ m - 1 = h i d l in omega arith) (All-cons (λ x. x ≤ k - 1) n [] this (All-nil (λ x. x ≤ k - 1)))

many_more : (rs : List Raw) (ns : List ℕ) (r : Raw) (n : ℕ) → length ns ≡ length rs → length (ns ++ n ∷ []) ≡ length (rs ++ r ∷ [])
many_more rs ns r n h = omega (arith, length-append ns (n ∷ []), length-append rs (r ∷ []))

contents_more : (rs : List Raw) (r : Raw) → map content_of (rs ++ r ∷ []) ≡ map content_of rs ++ content_of r ∷ []
contents_more rs r = map-append content_of rs (r ∷ [])

-- the values don't change where the key is known or the value is null
kept_all : (ds es : List Raw) → es ≡ ds → (j : ℕ) → j < length ds → (j < length es) × (get_or es j raw_null ≡ get_or ds j raw_null)
kept_all ds es e j l = (subst (λ xs. j < length xs) (sym e) l, ap (λ xs. get_or xs j raw_null) e)

null_numbered : (k : LogicalType) (rs ds : List Raw) (ns : List ℕ) (r : Raw) → IsNumbering k rs ds ns → is_null (content_of r) ≡ true → IsNumbering k (rs ++ r ∷ []) ds (ns ++ 0 ∷ [])
null_numbered k rs ds ns r p h = record {
  held = p.held;
  present = p.present;
  each_once = p.each_once ∙ sym (ap distinct (contents_more rs r ∙ ap (λ c. map content_of rs ++ c ∷ []) (null_so (content_of r) h)) ∙ distinct-null (map content_of rs));
  many = many_more rs ns r 0 p.many;
  small = small_more ns (length ds) (length ds) 0 p.small (omega arith) (omega arith);
  stands = stands_more rs ds ds ns r 0 p.many p.stands (kept_all ds ds refl) (λ f. absurd (false≢true (sym f ∙ h)));
}

known_numbered : (k : LogicalType) (rs ds : List Raw) (ns : List ℕ) (r : Raw) (q : Key) (n : ℕ) → is_leaf k ≡ true → IsNumbering k rs ds ns → valid k r ≡ true → is_null (content_of r) ≡ false → has_key q r ≡ true → index_where (has_key q) ds ≡ Some n → IsNumbering k (rs ++ r ∷ []) ds (ns ++ n ∷ [])
known_numbered k rs ds ns r q n leaf p v f h found =
    let there = index_found (has_key q) ds n found in
    let held : valid k (get_or ds n raw_null) ≡ true = p.held n raw_null there.0 in
    let present : is_null (content_of (get_or ds n raw_null)) ≡ false = p.present n raw_null there.0 in
    let same : content_of (get_or ds n raw_null) ≡ content_of r = sym (content_so (content_of r) (content_of (get_or ds n raw_null)) (sym (key_tells k leaf q r (get_or ds n raw_null) h v held f present) ∙ there.1)) in
    let stands_there : list_any (equal_content (content_of r)) (distinct (map content_of rs)) ≡ true =
    ap (list_any (equal_content (content_of r))) (sym p.each_once) ∙ index_tells k leaf q r ds h v f p.held p.present ∙ ap is_some found in
    record {
      held = p.held;
      present = p.present;
      each_once = p.each_once ∙ sym (ap distinct (contents_more rs r) ∙ distinct-old (map content_of rs) (content_of r) f stands_there);
      many = many_more rs ns r n p.many;
      small = small_more ns (length ds) (length ds) n p.small (omega arith) (omega (arith, there.0));
      stands = stands_more rs ds ds ns r n p.many p.stands (kept_all ds ds refl) (λ _. (there.0, same));
    }

new_numbered : (k : LogicalType) (rs ds : List Raw) (ns : List ℕ) (r : Raw) (q : Key) → is_leaf k ≡ true → IsNumbering k rs ds ns → valid k r ≡ true → is_null (content_of r) ≡ false → has_key q r ≡ true → index_where (has_key q) ds ≡ None → IsNumbering k (rs ++ r ∷ []) (ds ++ r ∷ []) (ns ++ length ds ∷ [])
new_numbered k rs ds ns r q leaf p v f h none =
    let apart : list_any (equal_content (content_of r)) (distinct (map content_of rs)) ≡ false =
    ap (list_any (equal_content (content_of r))) (sym p.each_once) ∙ index_tells k leaf q r ds h v f p.held p.present ∙ ap is_some none in
    let more : length (ds ++ r ∷ []) ≡ length ds + 1 = length-append ds (r ∷ []) in
    record {
      held = All-append (λ x. valid k x ≡ true) ds (r ∷ []) p.held (All-cons (λ x. valid k x ≡ true) r [] v (All-nil (λ x. valid k x ≡ true)));
      present = All-append (λ x. is_null (content_of x) ≡ false) ds (r ∷ []) p.present (All-cons (λ x. is_null (content_of x) ≡ false) r [] f (All-nil (λ x. is_null (content_of x) ≡ false)));
      each_once = contents_more ds r ∙ ap (λ cs. cs ++ content_of r ∷ []) p.each_once ∙ sym (ap distinct (contents_more rs r) ∙ distinct-new (map content_of rs) (content_of r) f apart);
      many = many_more rs ns r (length ds) p.many;
      small = small_more ns (length ds) (length (ds ++ r ∷ [])) (length ds) p.small (omega arith) (omega arith);
      stands = stands_more rs ds (ds ++ r ∷ []) ns r (length ds) p.many p.stands
          (λ j l. (omega arith, get_or_append_left ds (r ∷ []) raw_null j l))
          (λ _. (omega arith, ap content_of (get_or-append_seam ds r [] raw_null)));
    }

pub numbered_more : (k : LogicalType) (rs ds es : List Raw) (ns : List ℕ) (r : Raw) (n : ℕ) → is_leaf k ≡ true → IsNumbering k rs ds ns → valid k r ≡ true → IsNumberedOrNull ds r es n → IsNumbering k (rs ++ r ∷ []) es (ns ++ n ∷ [])
numbered_more k rs ds es ns r n leaf p v (inl h) = subst (λ xs. IsNumbering k (rs ++ r ∷ []) xs (ns ++ n ∷ [])) (sym h.1) (subst (λ m. IsNumbering k (rs ++ r ∷ []) ds (ns ++ m ∷ [])) (sym h.2) (null_numbered k rs ds ns r p h.0))
numbered_more k rs ds es ns r n leaf p v (inr h) = ⊎_elim
    (λ g. subst (λ xs. IsNumbering k (rs ++ r ∷ []) xs (ns ++ n ∷ [])) (sym g.1) (known_numbered k rs ds ns r h.1.0 n leaf p v h.0 h.1.1.0 g.0))
    (λ g. subst (λ xs. IsNumbering k (rs ++ r ∷ []) xs (ns ++ n ∷ [])) (sym g.2) (subst (λ m. IsNumbering k (rs ++ r ∷ []) (ds ++ r ∷ []) (ns ++ m ∷ [])) (sym g.1) (new_numbered k rs ds ns r h.1.0 leaf p v h.0 h.1.1.0 g.0)))
    h.1.1.1
