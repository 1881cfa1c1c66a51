-- The JSON text of types, values and predicates is the compact one of their JSON values.
use Rattle.std.proofs.Common.{◌&&◌, ◌≡◌, refl, sym, ap, ◌∙◌, subst, ℕ, zero, suc, ◌<◌, ◌^◌, ◌/◌, ◌%◌, nat_lt, ℤ, pos, negsuc, List, ◌∷◌, ◌++◌, length, Bool, true, false, codes, decimal, slice_index, append_assoc, arith, []}
use Rattle.std.proofs.lemmas.Bool.{and_parts}
use Rattle.std.specs.Fmt.{signed_decimal}
use Rattle.std.specs.List.{AllByRecursion}
use Rattle.hex.specs.Hex.{encode_with, encode_lower, lower_digits}
use Rattle.json.specs.Print.{escape, escape_byte, quoted}
use Rattle.serde_json.specs.Data.{boolean as flag, no_items, item}
use Rattle.serde_json.specs.Find.{of_integer}
use Rattle.serde_json.specs.Written.{number_text, compact_text, items_text}
use Rattle.vortex_model.specs.LogicalType.{Nullability, is_nullable, LogicalType, boolean_type, integer_type, utf8, binary, list, fixed_list, mapping, struct, union, variant, Fields, no_fields, field, IntKind, u8, u16, u32, u64, i8, i16, i32, i64}
use Rattle.vortex_model.specs.Content.{Content, null, boolean, integer, text, byte_string, tuple, tagged, scalar, Contents, nothing, first}
use Rattle.vortex_model.specs.Valid.{AreBytes, Holds, AllHold, FieldsHold}
use Rattle.vortex_model.specs.Path.{Names}
use Rattle.vortex_model_table.specs.Expression.{Comparison, equal, not_equal, greater, at_least, less, at_most, Aggregate, min, max, sum, null_count, nan_count, size, min_max, all_null, all_non_null, all_nan, all_non_nan, Expression, literal, column, compare, both, either, negation, is_null, is_not_null, is_nan, between, like, row_count, statistic, HasFormedLiterals}
use Rattle.vortex_table_response.specs.Text.{content_text, contents_text}
use Rattle.vortex_table_response.specs.type_texts.Text.{flag_text, comma, int_kind_text, plain_text, names_text, type_text, children_text}
use Rattle.vortex_table_text.specs.Data.{plain_data, names_data, type_data, children_data, content_data, contents_data, path_data, predicate_data}
use Rattle.vortex_table_text.specs.Predicates.{comparison_name, aggregate_name, path_text, open_text, flags_end, aggregate_end, unary_text, binary_text, predicate_text, is_writable}
use Rattle.vortex_table_text.specs.Types.{has_text, have_texts}
use Rattle.vortex_table_text.proofs.ContentsAgain.{stored_same}

-- ---- pieces

five : (a t b f c : List ℕ) → a ++ t ++ b ++ f ++ c ≡ a ++ (t ++ (b ++ (f ++ c)))
five a t b f c = simp append_assoc

seven : (a t b f c d e : List ℕ) → a ++ t ++ b ++ f ++ c ++ d ++ e ≡ a ++ (t ++ (b ++ (f ++ (c ++ (d ++ e)))))
seven a t b f c d e = simp append_assoc

closed : (a t c : List ℕ) → a ++ ((t ++ 93 ∷ []) ++ c) ≡ a ++ (t ++ 93 ∷ c)
closed a t c = simp append_assoc

twice_closed : (a x b y d : List ℕ) → a ++ ((x ++ 93 ∷ []) ++ (b ++ ((y ++ 93 ∷ []) ++ d))) ≡ a ++ (x ++ 93 ∷ (b ++ (y ++ 93 ∷ d)))
twice_closed a x b y d = simp append_assoc

in_struct : (a x b y e f c : List ℕ) → a ++ x ++ (b ++ y ++ e ++ f ++ c) ≡ a ++ (x ++ (b ++ (y ++ (e ++ (f ++ c)))))
in_struct a x b y e f c = simp append_assoc

regrouped : (a t c e : List ℕ) → a ++ (t ++ (c ++ e)) ≡ (a ++ t ++ c) ++ e
regrouped a t c e = simp append_assoc

three_pieces : (b z f : List ℕ) → b ++ (z ++ f) ≡ b ++ z ++ f
three_pieces b z f = simp append_assoc

-- the items after a comma, where one is
one_more : (later : Bool) (x y xs ys : List ℕ) → x ≡ y → xs ≡ ys ++ 93 ∷ [] → comma later ++ (x ++ xs) ≡ (comma later ++ y ++ ys) ++ 93 ∷ []
one_more later x y xs ys e f =
    ap (λ s. comma later ++ (s ++ xs)) e ∙ ap (λ s. comma later ++ (y ++ s)) f ∙ regrouped (comma later) y ys (93 ∷ [])

-- ---- types

flag_same : (b : Bool) → compact_text (flag b) ≡ flag_text b
flag_same true = refl
flag_same false = refl

-- the rest of an object after a first part, and its end: whether the type is nullable
abbrev after_flag : Nullability → List ℕ → List ℕ
after_flag n end = codes ",\"nullable\":" ++ (compact_text (flag (is_nullable n)) ++ end)

plain_same : (name : List ℕ) (n : Nullability) → escape name ≡ name → compact_text (plain_data name n) ≡ plain_text name n
unfolding escape_byte
plain_same name n e =
    let a = codes "{\"kind\":\"" in
    ap (λ s. a ++ ((s ++ 34 ∷ []) ++ after_flag n (codes "}"))) e
    ∙ ap (λ s. a ++ s) (append_assoc name (34 ∷ []) (after_flag n (codes "}")))
    ∙ ap (λ s. a ++ (name ++ (codes "\",\"nullable\":" ++ (s ++ codes "}")))) (flag_same (is_nullable n))
    ∙ sym (five a name (codes "\",\"nullable\":") (flag_text (is_nullable n)) (codes "}"))

kind_escaped : (i : IntKind) → escape (int_kind_text i) ≡ int_kind_text i
unfolding escape_byte
kind_escaped u8 = refl
kind_escaped u16 = refl
kind_escaped u32 = refl
kind_escaped u64 = refl
kind_escaped i8 = refl
kind_escaped i16 = refl
kind_escaped i32 = refl
kind_escaped i64 = refl

bool_escaped : escape (codes "bool") ≡ codes "bool"
unfolding escape_byte
bool_escaped = refl

utf8_escaped : escape (codes "utf8") ≡ codes "utf8"
unfolding escape_byte
utf8_escaped = refl

binary_escaped : escape (codes "binary") ≡ codes "binary"
unfolding escape_byte
binary_escaped = refl

names_same : (later : Bool) (fs : Fields) → items_text later (names_data fs) ≡ names_text later fs ++ 93 ∷ []
names_same later no_fields = refl
names_same later (field x k fs) = one_more later (quoted x) (quoted x) _ (names_text true fs) refl (names_same true fs)

list_same : (k : LogicalType) (n : Nullability) → compact_text (type_data k) ≡ type_text k → compact_text (type_data (list k n)) ≡ type_text (list k n)
unfolding escape_byte
list_same k n e =
    let a = codes "{\"children\":[" in
    let b = codes "],\"kind\":\"list\",\"nullable\":" in
    closed a (compact_text (type_data k)) (codes ",\"kind\":\"list\"" ++ after_flag n (codes "}"))
    ∙ ap (λ s. a ++ (s ++ (codes "],\"kind\":\"list\"" ++ after_flag n (codes "}")))) e
    ∙ ap (λ s. a ++ (type_text k ++ (b ++ (s ++ codes "}")))) (flag_same (is_nullable n))
    ∙ sym (five a (type_text k) b (flag_text (is_nullable n)) (codes "}"))

fixed_list_same : (k : LogicalType) (m : ℕ) (n : Nullability) → compact_text (type_data k) ≡ type_text k
    → compact_text (type_data (fixed_list k m n)) ≡ type_text (fixed_list k m n)
unfolding escape_byte
fixed_list_same k m n e =
    let a = codes "{\"children\":[" in
    let b = codes "],\"kind\":\"fixed_size_list\",\"nullable\":" in
    let end = codes ",\"size\":" ++ (decimal m ++ codes "}") in
    closed a (compact_text (type_data k)) (codes ",\"kind\":\"fixed_size_list\"" ++ after_flag n end)
    ∙ ap (λ s. a ++ (s ++ (codes "],\"kind\":\"fixed_size_list\"" ++ after_flag n end))) e
    ∙ ap (λ s. a ++ (type_text k ++ (b ++ (s ++ end)))) (flag_same (is_nullable n))
    ∙ sym (seven a (type_text k) b (flag_text (is_nullable n)) (codes ",\"size\":") (decimal m) (codes "}"))

struct_same : (fs : Fields) (n : Nullability) → items_text false (children_data fs) ≡ children_text false fs ++ 93 ∷ []
    → compact_text (type_data (struct fs n)) ≡ type_text (struct fs n)
unfolding escape_byte
struct_same fs n e =
    let a = codes "{\"children\":[" in
    let b = codes ",\"kind\":\"struct\",\"names\":[" in
    let d = codes "],\"kind\":\"struct\",\"names\":[" in
    let end = after_flag n (codes "}") in
    ap (λ s. a ++ (s ++ (b ++ (items_text false (names_data fs) ++ end)))) e
    ∙ ap (λ s. a ++ ((children_text false fs ++ 93 ∷ []) ++ (b ++ (s ++ end)))) (names_same false fs)
    ∙ twice_closed a (children_text false fs) b (names_text false fs) end
    ∙ ap (λ s. a ++ (children_text false fs ++ (d ++ (names_text false fs ++ (codes "],\"nullable\":" ++ (s ++ codes "}")))))) (flag_same (is_nullable n))
    ∙ sym (in_struct a (children_text false fs) d (names_text false fs) (codes "],\"nullable\":") (flag_text (is_nullable n)) (codes "}"))

mutual
  pub type_same : (k : LogicalType) → has_text k ≡ true → compact_text (type_data k) ≡ type_text k
  type_same (boolean_type n) t = plain_same _ n bool_escaped
  type_same (integer_type i n) t = plain_same _ n (kind_escaped i)
  type_same (utf8 n) t = plain_same _ n utf8_escaped
  type_same (binary n) t = plain_same _ n binary_escaped
  type_same (list k n) t = list_same k n (type_same k t)
  type_same (fixed_list k m n) t = fixed_list_same k m n (type_same k (and_parts (nat_lt m (2 ^ 32)) (has_text k) t).1)
  type_same (struct fs n) t = struct_same fs n (children_same false fs t)
  type_same k t = absurd (cc t)

  children_same : (later : Bool) (fs : Fields) → have_texts fs ≡ true → items_text later (children_data fs) ≡ children_text later fs ++ 93 ∷ []
  children_same later no_fields t = refl
  children_same later (field x k fs) t =
      let pass = and_parts (has_text k) (have_texts fs) t in
      one_more later (compact_text (type_data k)) (type_text k) _ (children_text true fs) (type_same k pass.0) (children_same true fs pass.1)

-- ---- contents

abbrev IsKept : ℕ → Type 0
IsKept x = escape_byte x ≡ x ∷ []

kept_at : (xs : List ℕ) → AllByRecursion IsKept xs → (i : ℕ) → i < length xs → IsKept (slice_index xs i)
kept_at [] h i l = absurd (omega arith)
kept_at (x ∷ xs) h zero l = h.0
kept_at (x ∷ xs) h (suc i) l = kept_at xs h.1 i (omega arith)

digits_kept : AllByRecursion IsKept lower_digits
unfolding escape_byte
digits_kept = (refl, (refl, (refl, (refl, (refl, (refl, (refl, (refl, (refl, (refl, (refl, (refl, (refl, (refl, (refl, (refl, tt))))))))))))))))

two_kept : (x y : ℕ) (s t : List ℕ) → IsKept x → IsKept y → s ≡ t → escape_byte x ++ (escape_byte y ++ s) ≡ x ∷ y ∷ t
two_kept x y s t e f g =
    ap (λ a. a ++ (escape_byte y ++ s)) e ∙ ap (λ a. x ∷ (a ++ s)) f ∙ ap (λ a. x ∷ y ∷ a) g

bytes_escaped : (bs : List ℕ) → AreBytes bs → escape (encode_lower bs) ≡ encode_lower bs
unfolding encode_with
bytes_escaped [] h = refl
bytes_escaped (b ∷ bs) h =
    let byte : b < 256 = h.0 in
    two_kept _ _ _ _ (kept_at lower_digits digits_kept (b / 16) (omega (arith, byte))) (kept_at lower_digits digits_kept (b % 16) (omega (arith, byte))) (bytes_escaped bs h.1)

integer_same : (z : ℤ) → number_text (of_integer z) ≡ signed_decimal z
integer_same (pos n) = refl
integer_same (negsuc n) = refl

in_brackets : (xs ys : List ℕ) → xs ≡ ys ++ 93 ∷ [] → 91 ∷ xs ≡ codes "[" ++ ys ++ codes "]"
in_brackets xs ys e = ap (λ s. 91 ∷ s) e

mutual
  pub content_same : (k : LogicalType) (c : Content) → has_text k ≡ true → Holds k c → compact_text (content_data c) ≡ content_text c
  content_same k null t h = refl
  content_same k (boolean b) t h = flag_same b
  content_same k (integer z) t h = integer_same z
  content_same k (text bs) t h = refl
  content_same (binary n) (byte_string bs) t h = ap (λ s. 34 ∷ (s ++ 34 ∷ [])) (bytes_escaped bs h)
  content_same k (byte_string bs) t h = absurd h
  content_same (list k n) (tuple cs) t h = in_brackets _ _ (all_same false k cs t h)
  content_same (fixed_list k m n) (tuple cs) t h = in_brackets _ _ (all_same false k cs (and_parts (nat_lt m (2 ^ 32)) (has_text k) t).1 h.1)
  content_same (struct fs n) (tuple cs) t h = in_brackets _ _ (fields_same false fs cs t h)
  content_same (mapping k v s n) (tuple cs) t h = absurd (cc t)
  content_same k (tuple cs) t h = absurd h
  content_same (union vs n) (tagged i c) t h = absurd (cc t)
  content_same k (tagged i c) t h = absurd h
  content_same (variant n) (scalar l c) t h = absurd (cc t)
  content_same k (scalar l c) t h = absurd h

  all_same : (later : Bool) (k : LogicalType) (cs : Contents) → has_text k ≡ true → AllHold k cs → items_text later (contents_data cs) ≡ contents_text later cs ++ 93 ∷ []
  all_same later k nothing t h = refl
  all_same later k (first c cs) t h =
      one_more later _ (content_text c) _ (contents_text true cs) (content_same k c t (subst (λ l. Holds l c) (stored_same k t) h.0)) (all_same true k cs t h.1)

  fields_same : (later : Bool) (fs : Fields) (cs : Contents) → have_texts fs ≡ true → FieldsHold fs cs → items_text later (contents_data cs) ≡ contents_text later cs ++ 93 ∷ []
  fields_same later no_fields nothing t h = refl
  fields_same later no_fields (first c cs) t h = absurd h
  fields_same later (field x k fs) nothing t h = absurd h
  fields_same later (field x k fs) (first c cs) t h =
      let pass = and_parts (has_text k) (have_texts fs) t in
      one_more later _ (content_text c) _ (contents_text true cs) (content_same k c pass.0 (subst (λ l. Holds l c) (stored_same k pass.0) h.0)) (fields_same true fs cs pass.1 h.1)

-- ---- predicates

open_pieces : (name rest : List ℕ) → 91 ∷ 34 ∷ ((name ++ 34 ∷ []) ++ 44 ∷ rest) ≡ (91 ∷ 34 ∷ [] ++ name ++ (34 ∷ 44 ∷ [])) ++ rest
open_pieces name rest = simp append_assoc

open_same : (name rest : List ℕ) → escape name ≡ name → 91 ∷ (quoted name ++ 44 ∷ rest) ≡ open_text name ++ rest
open_same name rest e = ap (λ s. 91 ∷ 34 ∷ ((s ++ 34 ∷ []) ++ 44 ∷ rest)) e ∙ open_pieces name rest

-- one operand, and what ends the array
unary_same : (name x y s end : List ℕ) → escape name ≡ name → x ≡ y → s ≡ end → 91 ∷ (quoted name ++ 44 ∷ (x ++ s)) ≡ unary_text name y end
unary_same name x y s end e f g =
    open_same name (x ++ s) e ∙ ap (λ t. open_text name ++ (t ++ s)) f ∙ ap (λ t. open_text name ++ (y ++ t)) g ∙ three_pieces (open_text name) y end

binary_pieces : (a y z end : List ℕ) → a ++ (y ++ 44 ∷ (z ++ end)) ≡ (a ++ y ++ (44 ∷ [])) ++ z ++ end
binary_pieces a y z end = simp append_assoc

-- two operands, and what ends the array
binary_same : (name x y v z s end : List ℕ) → escape name ≡ name → x ≡ y → v ≡ z → s ≡ end
    → 91 ∷ (quoted name ++ 44 ∷ (x ++ 44 ∷ (v ++ s))) ≡ binary_text name y z end
binary_same name x y v z s end e f g h =
    open_same name (x ++ 44 ∷ (v ++ s)) e ∙ ap (λ t. open_text name ++ (t ++ 44 ∷ (v ++ s))) f
    ∙ ap (λ t. open_text name ++ (y ++ 44 ∷ (t ++ s))) g ∙ ap (λ t. open_text name ++ (y ++ 44 ∷ (z ++ t))) h
    ∙ binary_pieces (open_text name) y z end

comparison_escaped : (o : Comparison) → escape (comparison_name o) ≡ comparison_name o
unfolding escape_byte
comparison_escaped equal = refl
comparison_escaped not_equal = refl
comparison_escaped greater = refl
comparison_escaped at_least = refl
comparison_escaped less = refl
comparison_escaped at_most = refl

aggregate_same : (a : Aggregate) → 44 ∷ (quoted (aggregate_name a) ++ 93 ∷ []) ≡ aggregate_end a
unfolding escape_byte
aggregate_same min = refl
aggregate_same max = refl
aggregate_same sum = refl
aggregate_same null_count = refl
aggregate_same nan_count = refl
aggregate_same size = refl
aggregate_same min_max = refl
aggregate_same all_null = refl
aggregate_same all_non_null = refl
aggregate_same all_nan = refl
aggregate_same all_non_nan = refl

flags_same : (a b : Bool) → items_text true (item (flag a) (item (flag b) no_items)) ≡ flags_end a b
flags_same true true = refl
flags_same true false = refl
flags_same false true = refl
flags_same false false = refl

path_same : (xs : Names) → items_text true (path_data xs) ≡ path_text xs ++ 93 ∷ []
path_same [] = refl
path_same (x ∷ xs) = one_more true (quoted x) (quoted x) _ (path_text xs) refl (path_same xs)

literal_pieces : (a k c : List ℕ) → a ++ (k ++ 44 ∷ (c ++ 93 ∷ [])) ≡ a ++ (k ++ (44 ∷ []) ++ c) ++ (93 ∷ [])
literal_pieces a k c = simp append_assoc

between_pieces : (a y z w f : List ℕ) → a ++ (y ++ 44 ∷ (z ++ 44 ∷ (w ++ f))) ≡ ((a ++ y ++ (44 ∷ [])) ++ z ++ (44 ∷ [])) ++ w ++ f
between_pieces a y z w f = simp append_assoc

between_same : (x lo hi x' lo' hi' s : List ℕ) (l u : Bool) → x ≡ x' → lo ≡ lo' → hi ≡ hi' → s ≡ flags_end l u
    → codes "[\"between\"," ++ (x ++ 44 ∷ (lo ++ 44 ∷ (hi ++ s))) ≡ binary_text (codes "between") x' lo' (codes ",") ++ hi' ++ flags_end l u
between_same x lo hi x' lo' hi' s l u e f g h =
    ap (λ t. codes "[\"between\"," ++ (t ++ 44 ∷ (lo ++ 44 ∷ (hi ++ s)))) e
    ∙ ap (λ t. codes "[\"between\"," ++ (x' ++ 44 ∷ (t ++ 44 ∷ (hi ++ s)))) f
    ∙ ap (λ t. codes "[\"between\"," ++ (x' ++ 44 ∷ (lo' ++ 44 ∷ (t ++ s)))) g
    ∙ ap (λ t. codes "[\"between\"," ++ (x' ++ 44 ∷ (lo' ++ 44 ∷ (hi' ++ t)))) h
    ∙ between_pieces (codes "[\"between\",") x' lo' hi' (flags_end l u)

pub predicate_same : (e : Expression) → is_writable e ≡ true → HasFormedLiterals e → compact_text (predicate_data e) ≡ predicate_text e
unfolding escape_byte
predicate_same (literal k c) w h =
    ap (λ s. codes "[\"lit\"," ++ (s ++ 44 ∷ (compact_text (content_data c) ++ 93 ∷ []))) (type_same k w)
    ∙ ap (λ s. codes "[\"lit\"," ++ (type_text k ++ 44 ∷ (s ++ 93 ∷ []))) (content_same k c w (subst (λ l. Holds l c) (stored_same k w) h))
    ∙ literal_pieces (codes "[\"lit\",") (type_text k) (content_text c)
predicate_same (column xs) w h = ap (λ s. codes "[\"col\"" ++ s) (path_same xs) ∙ three_pieces (codes "[\"col\"") (path_text xs) (93 ∷ [])
predicate_same (compare o x y) w h =
    let pass = and_parts (is_writable x) (is_writable y) w in
    binary_same (comparison_name o) _ _ _ _ _ (93 ∷ []) (comparison_escaped o) (predicate_same x pass.0 h.0) (predicate_same y pass.1 h.1) refl
predicate_same (both x y) w h =
    let pass = and_parts (is_writable x) (is_writable y) w in
    binary_same (codes "and") _ _ _ _ _ (93 ∷ []) refl (predicate_same x pass.0 h.0) (predicate_same y pass.1 h.1) refl
predicate_same (either x y) w h =
    let pass = and_parts (is_writable x) (is_writable y) w in
    binary_same (codes "or") _ _ _ _ _ (93 ∷ []) refl (predicate_same x pass.0 h.0) (predicate_same y pass.1 h.1) refl
predicate_same (negation x) w h = unary_same (codes "not") _ _ _ (93 ∷ []) refl (predicate_same x w h) refl
predicate_same (is_null x) w h = unary_same (codes "is_null") _ _ _ (93 ∷ []) refl (predicate_same x w h) refl
predicate_same (is_not_null x) w h = unary_same (codes "is_not_null") _ _ _ (93 ∷ []) refl (predicate_same x w h) refl
predicate_same (is_nan x) w h = unary_same (codes "is_nan") _ _ _ (93 ∷ []) refl (predicate_same x w h) refl
predicate_same (between x lo hi lower_strict upper_strict) w h =
    let pass = and_parts (is_writable x) (is_writable lo && is_writable hi) w in
    let ends = and_parts (is_writable lo) (is_writable hi) pass.1 in
    between_same _ _ _ _ _ _ _ lower_strict upper_strict (predicate_same x pass.0 h.0) (predicate_same lo ends.0 h.1) (predicate_same hi ends.1 h.2) (flags_same lower_strict upper_strict)
predicate_same (like x form negated ignores_case) w h =
    let pass = and_parts (is_writable x) (is_writable form) w in
    binary_same (codes "like") _ _ _ _ _ (flags_end negated ignores_case) refl (predicate_same x pass.0 h.0) (predicate_same form pass.1 h.1) (flags_same negated ignores_case)
predicate_same row_count w h = refl
predicate_same (statistic x a) w h = unary_same (codes "stat") _ _ _ (aggregate_end a) refl (predicate_same x w h) (aggregate_same a)
