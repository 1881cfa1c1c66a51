-- The keys of values.
use Rattle.std.proofs.Common.{◌≡◌, ◌<◌, ℕ, zero, suc, ℤ, Bool, true, false, cond, ◌&&◌, ◌||◌, List, [], ◌∷◌, ◌++◌, length, map, get_or, Option, Some, None, refl, sym, ap, subst, ◌∙◌, ⊎_elim, arith}
use Rattle.std.specs.List.{list_any, All}
use Rattle.std.specs.Option.{option_map, is_some}
use Rattle.std.specs.declared.cmp.Ordering.{Ordering}
use Rattle.std.specs.declared.cmp.Ordering.TheVariants.{Less, Equal, Greater}
use Rattle.std.specs.Ordering.{int_eq, int_cmp, nat_cmp, ordering_then, is_eq, MatchOrdering}
use Rattle.std.specs.Cmp.Lexicographic.{slice_cmp, bytes_decides}
use Rattle.std.specs.Str.{bytes_eq}
use Rattle.std.proofs.lemmas.Bool.{false≢true, cases_Bool}
use Rattle.std.proofs.lemmas.Cmp.{int_ranked, int_cmp_total, tied_itself, nat_list_eq_equiv}
use Rattle.std.proofs.lemmas.Map.Text.{is_eq-slice_cmp}
use Rattle.std.specs.Cmp.{first_so, second_so}
use Rattle.std.proofs.Math.Bool.{and-true}
use Rattle.vortex_model.specs.LogicalType.{LogicalType, Nullability, boolean_type, integer_type, utf8, binary, IntKind, eq_flag}
use Rattle.vortex_model.specs.Kept.{is_leaf}
use Rattle.vortex_model.specs.Content.{content_of, is_null, equal_content, Raw, raw_null, raw_boolean, raw_number, raw_text, raw_byte_string}
use Rattle.vortex_model.specs.Valid.{valid}
use Rattle.vortex_model.proofs.Tests.{int_so}
use Rattle.vortex_arrays_dictionary.specs.Numbering.{Key, number_in, bytes_in, has_key, key_cmp, index_where, AreOf}

-- ---- keys that compare equal

then_left : (o p : Ordering) → is_eq (ordering_then o p) ≡ true → is_eq o ≡ true
then_left Less p h = h
then_left Equal p h = refl
then_left Greater p h = h

then_right : (o p : Ordering) → is_eq (ordering_then o p) ≡ true → is_eq p ≡ true
then_right Less p h = absurd (false≢true h)
then_right Equal p h = h
then_right Greater p h = absurd (false≢true h)

ranked_equal : (x y : ℤ) (A B : Type 0) (o : Ordering) → MatchOrdering o A (x ≡ y) B → is_eq o ≡ true → x ≡ y
ranked_equal x y A B Less m h = absurd (false≢true h)
ranked_equal x y A B Equal m h = m
ranked_equal x y A B Greater m h = absurd (false≢true h)

numbers_so : (x y : ℤ) → is_eq (int_cmp x y) ≡ true → x ≡ y
numbers_so x y h = ranked_equal x y _ _ (int_cmp x y) (int_ranked x y (int_cmp x y) refl) h

lists_so : (xs ys : List ℕ) → is_eq (slice_cmp nat_cmp xs ys) ≡ true → xs ≡ ys
lists_so xs ys h = (bytes_decides xs ys).0 (sym (is_eq-slice_cmp xs ys) ∙ h)

-- values have both keys or neither where the keys compare equal
pub equal_keys : (k q : Key) (r : Raw) → is_eq (key_cmp k q) ≡ true → has_key q r ≡ has_key k r
equal_keys k q r h =
    let first : k.0 ≡ q.0 = numbers_so k.0 q.0 (then_left (int_cmp k.0 q.0) (slice_cmp nat_cmp k.1.now q.1.now) h) in
    let second : k.1.now ≡ q.1.now = lists_so k.1.now q.1.now (then_right (int_cmp k.0 q.0) (slice_cmp nat_cmp k.1.now q.1.now) h) in
    λ t. int_eq (sym first t) (number_in r) && bytes_eq (sym second t) (bytes_in r)

pub number_so : (q : Key) (r : Raw) → has_key q r ≡ true → q.0 ≡ number_in r
number_so q r h = int_so q.0 (number_in r) (first_so (int_eq q.0 (number_in r)) (bytes_eq q.1.now (bytes_in r)) h)

pub bytes_so : (q : Key) (r : Raw) → has_key q r ≡ true → q.1.now ≡ bytes_in r
bytes_so q r h = (bytes_decides q.1.now (bytes_in r)).0 (second_so (int_eq q.0 (number_in r)) (bytes_eq q.1.now (bytes_in r)) h)

same_numbers : (x y : ℤ) → x ≡ y → is_eq (int_cmp x y) ≡ true
same_numbers x y e = ap is_eq (subst (λ z. int_cmp x z ≡ Equal) e (tied_itself int_cmp_total x))

same_lists : (xs ys : List ℕ) → xs ≡ ys → is_eq (slice_cmp nat_cmp xs ys) ≡ true
same_lists xs ys e = is_eq-slice_cmp xs ys ∙ subst (λ zs. bytes_eq xs zs ≡ true) e (nat_list_eq_equiv.refl xs)

then_equal : (o p : Ordering) → is_eq o ≡ true → is_eq p ≡ true → is_eq (ordering_then o p) ≡ true
then_equal Less p h g = h
then_equal Equal p h g = g
then_equal Greater p h g = h

-- a value has one key
pub one_key : (k q : Key) (r : Raw) → has_key k r ≡ true → has_key q r ≡ true → is_eq (key_cmp k q) ≡ true
one_key k q r h g = then_equal (int_cmp k.0 q.0) (slice_cmp nat_cmp k.1.now q.1.now)
    (same_numbers k.0 q.0 (number_so k r h ∙ sym (number_so q r g)))
    (same_lists k.1.now q.1.now (bytes_so k r h ∙ sym (bytes_so q r g)))

-- ---- values of one type have one key exactly where their contents are equal

abbrev alike : Raw → Raw → Bool
alike r s = int_eq (number_in r) (number_in s) && bytes_eq (bytes_in r) (bytes_in s)

booleans_alike : (a b : Bool) → alike (raw_boolean a) (raw_boolean b) ≡ eq_flag a b
booleans_alike true true = refl
booleans_alike true false = refl
booleans_alike false true = refl
booleans_alike false false = refl

of_booleans : (n : Nullability) (r s : Raw) → valid (boolean_type n) r ≡ true → valid (boolean_type n) s ≡ true → is_null (content_of r) ≡ false → is_null (content_of s) ≡ false → alike r s ≡ equal_content (content_of r) (content_of s)
of_booleans n (raw_boolean a) (raw_boolean b) hr hs nr ns = booleans_alike a b
of_booleans n (raw_boolean a) s hr hs nr ns = absurd cc
of_booleans n r s hr hs nr ns = absurd cc

of_integers : (k : IntKind) (n : Nullability) (r s : Raw) → valid (integer_type k n) r ≡ true → valid (integer_type k n) s ≡ true → is_null (content_of r) ≡ false → is_null (content_of s) ≡ false → alike r s ≡ equal_content (content_of r) (content_of s)
of_integers k n (raw_number i y) (raw_number j z) hr hs nr ns = and-true (int_eq y z)
of_integers k n (raw_number i y) s hr hs nr ns = absurd cc
of_integers k n r s hr hs nr ns = absurd cc

of_texts : (n : Nullability) (r s : Raw) → valid (utf8 n) r ≡ true → valid (utf8 n) s ≡ true → is_null (content_of r) ≡ false → is_null (content_of s) ≡ false → alike r s ≡ equal_content (content_of r) (content_of s)
of_texts n (raw_text xs) (raw_text ys) hr hs nr ns = refl
of_texts n (raw_text xs) s hr hs nr ns = absurd cc
of_texts n r s hr hs nr ns = absurd cc

of_bytes : (n : Nullability) (r s : Raw) → valid (binary n) r ≡ true → valid (binary n) s ≡ true → is_null (content_of r) ≡ false → is_null (content_of s) ≡ false → alike r s ≡ equal_content (content_of r) (content_of s)
of_bytes n (raw_byte_string xs) (raw_byte_string ys) hr hs nr ns = refl
of_bytes n (raw_byte_string xs) s hr hs nr ns = absurd cc
of_bytes n r s hr hs nr ns = absurd cc

of_leaves : (k : LogicalType) → is_leaf k ≡ true → (r s : Raw) → valid k r ≡ true → valid k s ≡ true → is_null (content_of r) ≡ false → is_null (content_of s) ≡ false → alike r s ≡ equal_content (content_of r) (content_of s)
of_leaves (boolean_type n) l r s hr hs nr ns = of_booleans n r s hr hs nr ns
of_leaves (integer_type k n) l r s hr hs nr ns = of_integers k n r s hr hs nr ns
of_leaves (utf8 n) l r s hr hs nr ns = of_texts n r s hr hs nr ns
of_leaves (binary n) l r s hr hs nr ns = of_bytes n r s hr hs nr ns
of_leaves k l r s hr hs nr ns = absurd (cc (l))

pub key_tells : (k : LogicalType) → is_leaf k ≡ true → (q : Key) (r s : Raw) → has_key q r ≡ true → valid k r ≡ true → valid k s ≡ true → is_null (content_of r) ≡ false → is_null (content_of s) ≡ false → has_key q s ≡ equal_content (content_of r) (content_of s)
key_tells k l q r s h hr hs nr ns = (λ t. int_eq (number_so q r h t) (number_in s) && bytes_eq (bytes_so q r h t) (bytes_in s)) ∙ of_leaves k l r s hr hs nr ns

-- ---- the index of the first

abbrev first_of : Option ℕ → Option ℕ → Option ℕ
first_of (Some i) o = Some i
first_of None o = o

one_further : (o : Option ℕ) (b : Bool) (n : ℕ) → option_map (λ i. suc i) (first_of o (cond b (Some n) None)) ≡ first_of (option_map (λ i. suc i) o) (cond b (Some (suc n)) None)
one_further (Some i) b n = refl
one_further None true n = refl
one_further None false n = refl

index-push : (p : Raw → Bool) (ds : List Raw) (r : Raw) → index_where p (ds ++ r ∷ []) ≡ first_of (index_where p ds) (cond (p r) (Some (length ds)) None)
index-push p [] r = refl
index-push p (d ∷ ds) r = ⊎_elim
    (λ e. ap (λ b. cond b (Some 0) (option_map (λ i. suc i) (index_where p (ds ++ r ∷ [])))) e ∙ ap (λ b. first_of (cond b (Some 0) (option_map (λ i. suc i) (index_where p ds))) (cond (p r) (Some (suc (length ds))) None)) (sym e))
    (λ e. ap (λ b. cond b (Some 0) (option_map (λ i. suc i) (index_where p (ds ++ r ∷ [])))) e
    ∙ ap (option_map (λ i. suc i)) (index-push p ds r) ∙ one_further (index_where p ds) (p r) (length ds)
    ∙ ap (λ b. first_of (cond b (Some 0) (option_map (λ i. suc i) (index_where p ds))) (cond (p r) (Some (suc (length ds))) None)) (sym e))
    (cases_Bool (p d))

index_alike : (p q : Raw → Bool) → ((r : Raw) → p r ≡ q r) → (ds : List Raw) → index_where p ds ≡ index_where q ds
index_alike p q h [] = refl
index_alike p q h (d ∷ ds) = λ t. cond (h d t) (Some 0) (option_map (λ i. suc i) (index_alike p q h ds t))

-- a value with a new key has an index once the map does
pub knows_more : (f g : Key → Option ℕ) (ds : List Raw) (k : Key) (r : Raw) → has_key k r ≡ true → ((q : Key) → f q ≡ index_where (has_key q) ds) → f k ≡ None → ((q : Key) → g q ≡ cond (is_eq (key_cmp k q)) (Some (length ds)) (f q)) → (q : Key) → g q ≡ index_where (has_key q) (ds ++ r ∷ [])
knows_more f g ds k r h knows new put q = ⊎_elim
    (λ e.
    let there : has_key q r ≡ true = equal_keys k q r e ∙ h in
    let none : index_where (has_key q) ds ≡ None = index_alike (has_key q) (has_key k) (λ s. equal_keys k q s e) ds ∙ sym (knows k) ∙ new in
    put q ∙ ap (λ b. cond b (Some (length ds)) (f q)) e ∙ sym (index-push (has_key q) ds r ∙ (λ t. first_of (none t) (cond (there t) (Some (length ds)) None))))
    (λ e.
    let apart : has_key q r ≡ false = ⊎_elim (λ t. absurd (false≢true (sym e ∙ one_key k q r h t))) (λ f. f) (cases_Bool (has_key q r)) in
    put q ∙ ap (λ b. cond b (Some (length ds)) (f q)) e ∙ knows q ∙ sym (index-push (has_key q) ds r ∙ ap (λ b. first_of (index_where (has_key q) ds) (cond b (Some (length ds)) None)) apart ∙ first_of_none (index_where (has_key q) ds)))
    (cases_Bool (is_eq (key_cmp k q)))
  where
    first_of_none : (o : Option ℕ) → first_of o None ≡ o
    first_of_none (Some i) = refl
    first_of_none None = refl

-- the first that passes is at this index and passes
found_more : (o : Option ℕ) (n : ℕ) → option_map (λ i. suc i) o ≡ Some n → (m : ℕ) × (o ≡ Some m) × (n ≡ suc m)
found_more (Some i) n h = (i, refl, cc)
found_more None n h = absurd (cc (h))

pub index_found : (p : Raw → Bool) (ds : List Raw) (n : ℕ) → index_where p ds ≡ Some n → (n < length ds) × (p (get_or ds n raw_null) ≡ true)
index_found p [] n h = absurd (cc (h))
index_found p (d ∷ ds) n h = ⊎_elim
    (λ e.
    let zero_so : zero ≡ n = cc (ap (λ b. cond b (Some 0) (option_map (λ i. suc i) (index_where p ds))) (sym e) ∙ h) in
    subst (λ m. (m < length (d ∷ ds)) × (p (get_or (d ∷ ds) m raw_null) ≡ true)) zero_so (omega arith, e))
    (λ e.
    let more = found_more (index_where p ds) n (ap (λ b. cond b (Some 0) (option_map (λ i. suc i) (index_where p ds))) (sym e) ∙ h) in
    let there = index_found p ds more.0 more.1 in
    subst (λ m. (m < length (d ∷ ds)) × (p (get_or (d ∷ ds) m raw_null) ≡ true)) (sym more.2) (omega (arith, there.0), there.1))
    (cases_Bool (p d))

some_more : (o : Option ℕ) → is_some (option_map (λ i. suc i) o) ≡ is_some o
some_more (Some i) = refl
some_more None = refl

-- a content is among those of its type exactly where its key is found
pub index_tells : (k : LogicalType) → is_leaf k ≡ true → (q : Key) (r : Raw) (ds : List Raw) → has_key q r ≡ true → valid k r ≡ true → is_null (content_of r) ≡ false → AreOf k ds → All (λ d. is_null (content_of d) ≡ false) ds → list_any (equal_content (content_of r)) (map content_of ds) ≡ is_some (index_where (has_key q) ds)
index_tells k l q r [] h hr nr held present = refl
index_tells k l q r (d ∷ ds) h hr nr held present =
    let this : has_key q d ≡ equal_content (content_of r) (content_of d) = key_tells k l q r d h hr (held 0 raw_null (omega arith)) nr (present 0 raw_null (omega arith)) in
    let rest = index_tells k l q r ds h hr nr (λ i e lt. held (suc i) e (omega (arith, lt))) (λ i e lt. present (suc i) e (omega (arith, lt))) in
    ⊎_elim
    (λ e. ap (λ b. b || list_any (equal_content (content_of r)) (map content_of ds)) (sym this ∙ e) ∙ ap (λ b. is_some (cond b (Some 0) (option_map (λ i. suc i) (index_where (has_key q) ds)))) (sym e))
    (λ e. ap (λ b. b || list_any (equal_content (content_of r)) (map content_of ds)) (sym this ∙ e) ∙ rest ∙ sym (some_more (index_where (has_key q) ds)) ∙ ap (λ b. is_some (cond b (Some 0) (option_map (λ i. suc i) (index_where (has_key q) ds)))) (sym e))
    (cases_Bool (has_key q d))
