-- Types that are read are well-formed.
use Rattle.std.proofs.Common.{◌≡◌, refl, sym, ap, ◌∙◌, subst, ℕ, suc, ℤ, pos, negsuc, List, [], ◌∷◌, length, Bool, true, false, ◌&&◌, ◌==◌, Option, Some, None, if◌then◌else◌, map}
use Rattle.std.specs.List.{zip}
use Rattle.std.proofs.lemmas.List.{length-map}
use Rattle.std.specs.Cmp.{unsigned_Decides}
use Rattle.std.specs.Cmp.Derive.{both_true}
use Rattle.vortex_model.specs.LogicalType.{LogicalType, decimal, union, extension, Nullability}
use Rattle.vortex_model.proofs.Booleans.{three_true}
use Rattle.vortex_dtype_ptype.specs.Numbers.{is_decimal_shape, NumberKind, integral, floating, type_of_numbers}
use Rattle.vortex_dtype_core.specs.View.{type_of, fields_from, variants_from}
use Rattle.vortex_dtype_core.specs.Parts.{is_union_shape, is_distinct}
use Rattle.vortex_dtype_core.specs.declared.dtype.DType.{DType}
use Rattle.vortex_dtype_proto.specs.Sessions.{Session, admit}
use Rattle.vortex_dtype_proto.specs.Shapes.{is_shaped, are_fields_shaped, are_variants_shaped, are_shaped}
use Rattle.vortex_dtype_proto.specs.Messages.{Form, nulls, booleans, texts, byte_strings, variants, numbers, decimals, lists, fixed_lists, maps, records, unions, extended, Tree, node, Trees, no_trees, tree, Reading, read, malformed, refused_by_plugin, read_if, are_tags, nullability_flagged, is_flag_of, admitted_as, row, with_children, then_rest, reading, readings, variant_tags}

abbrev IsShaped : LogicalType → Type 0
IsShaped k = is_shaped k ≡ true

abbrev AllShaped : List LogicalType → Type 0
AllShaped [] = Unit {0}
AllShaped (k ∷ ks) = IsShaped k × AllShaped ks

is_read : (j k : LogicalType) → read j ≡ read k → IsShaped j → IsShaped k
is_read j k h s = let e : j ≡ k = cc in subst (λ x. IsShaped x) e s

are_read : (js ks : List LogicalType) → read js ≡ read ks → AllShaped js → AllShaped ks
are_read js ks h s = let e : js ≡ ks = cc in subst (λ x. AllShaped x) e s

read_where : (b : Bool) (j k : LogicalType) → (b ≡ true → IsShaped j) → read_if b j ≡ read k → IsShaped k
read_where true j k s h = is_read j k h (s refl)
read_where false j k s h = absurd (cc (h))

numbers_shaped : (p : NumberKind) (n : Nullability) → IsShaped (type_of_numbers p n)
numbers_shaped (integral i) n = refl
numbers_shaped (floating f) n = refl

fields_shaped : (xs : List (List ℕ)) (ks : List LogicalType) → AllShaped ks → are_fields_shaped (fields_from (zip xs ks)) ≡ true
fields_shaped [] ks s = refl
fields_shaped (x ∷ xs) [] s = refl
fields_shaped (x ∷ xs) (k ∷ ks) s = both_true s.0 (fields_shaped xs ks s.1)

variants_shaped : (xs : List (List ℕ)) (ts : List ℤ) (ks : List LogicalType) → AllShaped ks → are_variants_shaped (variants_from (zip xs (zip ts ks))) ≡ true
variants_shaped [] ts ks s = refl
variants_shaped (x ∷ xs) [] ks s = refl
variants_shaped (x ∷ xs) (t ∷ ts) [] s = refl
variants_shaped (x ∷ xs) (t ∷ ts) (k ∷ ks) s = both_true s.0 (variants_shaped xs ts ks s.1)

pred_same : (m n : ℕ) → suc m ≡ suc n → m ≡ n
pred_same m n h = cc

tags_zipped : (xs : List (List ℕ)) (ts : List ℤ) (ks : List LogicalType) → length xs ≡ length ks → length ts ≡ length ks → variant_tags (variants_from (zip xs (zip ts ks))) ≡ ts
tags_zipped [] [] ks h g = refl
tags_zipped [] (t ∷ ts) [] h g = absurd (cc (g))
tags_zipped [] (t ∷ ts) (k ∷ ks) h g = absurd (cc (h))
tags_zipped (x ∷ xs) [] ks h g = refl
tags_zipped (x ∷ xs) (t ∷ ts) [] h g = absurd (cc (g))
tags_zipped (x ∷ xs) (t ∷ ts) (k ∷ ks) h g = ap (λ us. t ∷ us) (tags_zipped xs ts ks (pred_same _ _ h) (pred_same _ _ g))

all_four : (a b c d : Bool) → (a && (b && c && d)) ≡ true → (a ≡ true) × (b ≡ true) × (c ≡ true) × (d ≡ true)
all_four true true true true h = (refl, refl, refl, refl)
all_four false b c d h = absurd (cc (h))
all_four true false c d h = absurd (cc (h))
all_four true true false d h = absurd (cc (h))
all_four true true true false h = absurd (cc (h))

union_shaped : (xs : List (List ℕ)) (ts : List ℤ) (ks : List LogicalType) (n : Nullability) → AllShaped ks → (are_tags ts && is_union_shape (length xs) (length ks) ts) ≡ true → IsShaped (union (variants_from (zip xs (zip ts ks))) n)
union_shaped xs ts ks n s h =
    let parts = all_four (are_tags ts) (length xs == length ks) (length ts == length ks) (is_distinct ts) h in
    let tags : variant_tags (variants_from (zip xs (zip ts ks))) ≡ ts = tags_zipped xs ts ks ((unsigned_Decides _ _).0 parts.1) ((unsigned_Decides _ _).0 parts.2) in
    both_true (both_true (ap (λ us. are_tags us) tags ∙ parts.0) (ap (λ us. is_distinct us) tags ∙ parts.3)) (variants_shaped xs ts ks s)

admitted_shaped : (id : List ℕ) (j k : LogicalType) (m : Option (List ℕ)) → IsShaped j → admitted_as id j m ≡ read k → IsShaped k
admitted_shaped id j k None s h = absurd (cc (h))
admitted_shaped id j k (Some m) s h = is_read (extension id m j) k h s

extension_shaped : (b : Bool) (id : List ℕ) (j k : LogicalType) (m : Option (List ℕ)) → IsShaped j → (if b then admitted_as id j m else malformed) ≡ read k → IsShaped k
extension_shaped true id j k m s h = admitted_shaped id j k m s h
extension_shaped false id j k m s h = absurd (cc (h))

row_shaped : (s : Session) (form : Form) (flag : Bool) (ks : List LogicalType) (k : LogicalType) → AllShaped ks → row s form flag ks ≡ read k → IsShaped k
row_shaped s nulls true [] k a h = is_read _ k h refl
row_shaped s nulls false [] k a h = absurd (cc (h))
row_shaped s nulls flag (j ∷ ks) k a h = absurd (cc (h))
row_shaped s booleans flag [] k a h = is_read _ k h refl
row_shaped s booleans flag (j ∷ ks) k a h = absurd (cc (h))
row_shaped s texts flag [] k a h = is_read _ k h refl
row_shaped s texts flag (j ∷ ks) k a h = absurd (cc (h))
row_shaped s byte_strings flag [] k a h = is_read _ k h refl
row_shaped s byte_strings flag (j ∷ ks) k a h = absurd (cc (h))
row_shaped s variants flag [] k a h = is_read _ k h refl
row_shaped s variants flag (j ∷ ks) k a h = absurd (cc (h))
row_shaped s (numbers p) flag [] k a h = is_read _ k h (numbers_shaped p _)
row_shaped s (numbers p) flag (j ∷ ks) k a h = absurd (cc (h))
row_shaped s (decimals (pos p) q) flag [] k a h = read_where (is_decimal_shape p q) (decimal p q (nullability_flagged flag)) k (λ e. e) h
row_shaped s (decimals (negsuc p) q) flag [] k a h = absurd (cc (h))
row_shaped s (decimals p q) flag (j ∷ ks) k a h = absurd (cc (h))
row_shaped s lists flag [] k a h = absurd (cc (h))
row_shaped s lists flag (j ∷ []) k a h = is_read _ k h a.0
row_shaped s lists flag (j ∷ i ∷ ks) k a h = absurd (cc (h))
row_shaped s (fixed_lists m) flag [] k a h = absurd (cc (h))
row_shaped s (fixed_lists m) flag (j ∷ []) k a h = is_read _ k h a.0
row_shaped s (fixed_lists m) flag (j ∷ i ∷ ks) k a h = absurd (cc (h))
row_shaped s (maps sorted) flag [] k a h = absurd (cc (h))
row_shaped s (maps sorted) flag (j ∷ []) k a h = absurd (cc (h))
row_shaped s (maps sorted) flag (j ∷ i ∷ []) k a h = read_where _ _ k (λ e. both_true (both_true e a.0) a.1.0) h
row_shaped s (maps sorted) flag (j ∷ i ∷ l ∷ ks) k a h = absurd (cc (h))
row_shaped s (records xs) flag ks k a h = read_where _ _ k (λ e. fields_shaped xs ks a) h
row_shaped s (unions xs ts) flag ks k a h = read_where _ _ k (λ e. union_shaped xs ts ks (nullability_flagged flag) a e) h
row_shaped s (extended id m) flag [] k a h = absurd (cc (h))
row_shaped s (extended id m) flag (j ∷ []) k a h = extension_shaped (is_flag_of flag j) id j k (admit s id m j) a.0 h
row_shaped s (extended id m) flag (j ∷ i ∷ ks) k a h = absurd (cc (h))

over : (s : Session) (form : Form) (flag : Bool) (r : Reading (List LogicalType)) (k : LogicalType) → ((ks : List LogicalType) → r ≡ read ks → AllShaped ks) → with_children s form flag r ≡ read k → IsShaped k
over s form flag (read ks) k a h = row_shaped s form flag ks k (a ks refl) h
over s form flag malformed k a h = absurd (cc (h))
over s form flag refused_by_plugin k a h = absurd (cc (h))

beside : (q : Reading LogicalType) (r : Reading (List LogicalType)) (ks : List LogicalType) → ((k : LogicalType) → q ≡ read k → IsShaped k) → ((ls : List LogicalType) → r ≡ read ls → AllShaped ls) → then_rest q r ≡ read ks → AllShaped ks
beside (read k) (read ls) ks f g h = are_read (k ∷ ls) ks h (f k refl, g ls refl)
beside (read k) malformed ks f g h = absurd (cc (h))
beside (read k) refused_by_plugin ks f g h = absurd (cc (h))
beside malformed r ks f g h = absurd (cc (h))
beside refused_by_plugin r ks f g h = absurd (cc (h))

mutual
  pub read_is_shaped : (s : Session) (t : Tree) (k : LogicalType) → reading s t ≡ read k → IsShaped k
  read_is_shaped s (node form flag ts) k h = over s form flag (readings s ts) k (λ ks e. all_read_are_shaped s ts ks e) h

  all_read_are_shaped : (s : Session) (ts : Trees) (ks : List LogicalType) → readings s ts ≡ read ks → AllShaped ks
  all_read_are_shaped s no_trees ks h = are_read [] ks h tt
  all_read_are_shaped s (tree t ts) ks h = beside (reading s t) (readings s ts) ks (λ k e. read_is_shaped s t k e) (λ ls e. all_read_are_shaped s ts ls e) h

-- the types of a union's variants
variants_as_types : (xs : List (List ℕ)) (ts : List ℤ) (ks : List LogicalType) → length xs ≡ length ks → length ts ≡ length ks → are_variants_shaped (variants_from (zip xs (zip ts ks))) ≡ are_shaped ks
variants_as_types [] [] [] h g = refl
variants_as_types [] ts (k ∷ ks) h g = absurd (cc (h))
variants_as_types [] (t ∷ ts) [] h g = absurd (cc (g))
variants_as_types (x ∷ xs) ts [] h g = absurd (cc (h))
variants_as_types (x ∷ xs) [] (k ∷ ks) h g = absurd (cc (g))
variants_as_types (x ∷ xs) (t ∷ ts) (k ∷ ks) h g = ap (λ b. is_shaped k && b) (variants_as_types xs ts ks (pred_same _ _ h) (pred_same _ _ g))

two_hold : (a b c d : Bool) → a ≡ true → b ≡ true → c ≡ d → (a && b && c) ≡ d
two_hold true true c d h g s = s
two_hold false b c d h g s = absurd (cc (h))
two_hold true false c d h g s = absurd (cc (g))

-- a union with distinct i8 tags is well-formed where its types are
pub union_as_types : (xs : List (List ℕ)) (ts : List ℤ) (ds : List DType) (n : Nullability) → are_tags ts ≡ true → is_union_shape (length xs) (length ds) ts ≡ true →
    is_shaped (union (variants_from (zip xs (zip ts (map type_of ds)))) n) ≡ are_shaped (map type_of ds)
union_as_types xs ts ds n h g =
    let parts = three_true (length xs == length ds) (length ts == length ds) (is_distinct ts) g in
    let many : length (map type_of ds) ≡ length ds = length-map ds type_of in
    let names : length xs ≡ length (map type_of ds) = (unsigned_Decides _ _).0 parts.0 ∙ sym many in
    let numbers : length ts ≡ length (map type_of ds) = (unsigned_Decides _ _).0 parts.1 ∙ sym many in
    let tags : variant_tags (variants_from (zip xs (zip ts (map type_of ds)))) ≡ ts = tags_zipped xs ts (map type_of ds) names numbers in
    two_hold _ _ _ _ (ap (λ us. are_tags us) tags ∙ h) (ap (λ us. is_distinct us) tags ∙ parts.2) (variants_as_types xs ts (map type_of ds) names numbers)
