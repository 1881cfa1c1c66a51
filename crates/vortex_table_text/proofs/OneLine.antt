-- The compact text of a type or of a content is UTF-8 and one line, and doesn't nest too deep.
use Rattle.std.proofs.Common.{◌≡◌, ◌≢◌, ◌<◌, ◌≤◌, ◌+◌, ◌^◌, ◌==◌, ◌&&◌, not, max, nat_lt, ℕ, zero, suc, ℤ, pos, negsuc, Bool, true, false, List, [], ◌∷◌, ◌++◌, codes, decimal, IsUtf8, inl, inr, refl, sym, subst, arith, ltb-true}
use Rattle.std.specs.List.{AllByRecursion}
use Rattle.std.specs.Str.{IsAscii}
use Rattle.std.specs.Str.Parse.{AllDigits}
use Rattle.std.proofs.lemmas.Bool.{and_parts, cases_lt, cases_eq}
use Rattle.std.proofs.lemmas.Fmt.{decimal_is_IsNumeral, IsAscii-decimal}
use Rattle.std.proofs.lemmas.Str.{IsUtf8-append, IsUtf8-nil, IsUtf8-from_ascii}
use Rattle.std.proofs.lemmas.Str.Ascii.{IsAscii-nil, IsAscii-cons}
use Rattle.hex.specs.Hex.{encode_lower, lower_digits}
use Rattle.hex.proofs.HexLemmas.{IsAscii-encode_with}
use Rattle.json.specs.Print.{escape, escape_byte, quoted}
use Rattle.json.proofs.Printed.Strings.{escape_byte_plain}
use Rattle.json.proofs.Printed.Utf8.{IsUtf8-quoted, are_ascii, IsUtf8-are_ascii}
use Rattle.serde_json.specs.Data.{Num, unsigned, negative, float, Data, null as nothing_there, boolean as flag, number, string, array, object, Items, no_items, item, Members, no_members, member, depth, items_depth}
use Rattle.serde_json.specs.Find.{of_integer}
use Rattle.serde_json.specs.Written.{number_text, comma_if, compact_text, items_text, members_text}
use Rattle.vortex_model.specs.LogicalType.{Nullability, LogicalType, boolean_type, integer_type, utf8, binary, list, fixed_list, mapping, struct, Fields, no_fields, field, IntKind, u8, u16, u32, u64, i8, i16, i32, i64}
use Rattle.vortex_model.specs.Content.{Content, null, boolean, integer, text, byte_string, tuple, tagged, scalar, Contents, nothing, first}
use Rattle.vortex_model.specs.Valid.{InRange, Holds, AllHold, FieldsHold}
use Rattle.vortex_model.proofs.Lists.{all_append}
use Rattle.vortex_table_response.specs.type_texts.Text.{int_kind_text}
use Rattle.vortex_table_text.specs.Data.{nullable_member, plain_data, type_data, children_data, names_data, content_data, contents_data}
use Rattle.vortex_table_text.specs.Types.{has_text, have_texts, nests_within, fields_nest_within, HasUtf8Names, HaveUtf8Names}
use Rattle.vortex_table_text.proofs.ContentsAgain.{stored_same}
use Rattle.vortex_table_text.proofs.JsonAgain.{natural_held, negative_held}

-- ---- pieces

-- no byte is an LF
abbrev pub HasNoLf : List ℕ → Type 0
HasNoLf bs = AllByRecursion (λ b. b ≢ 10) bs

-- UTF-8, and one line
abbrev pub IsUtf8Line : List ℕ → Type 0
IsUtf8Line bs = IsUtf8 bs × HasNoLf bs

none_line : IsUtf8Line []
none_line = (IsUtf8-nil, tt)

joined_line : (xs ys : List ℕ) → IsUtf8Line xs → IsUtf8Line ys → IsUtf8Line (xs ++ ys)
joined_line xs ys h g = (IsUtf8-append xs ys h.0 g.0, all_append (λ b. b ≢ 10) xs ys h.1 g.1)

-- one byte of a line, which is ASCII
abbrev is_plain : ℕ → Bool
is_plain b = nat_lt b 128 && not (b == 10)

abbrev are_plain : List ℕ → Bool
are_plain [] = true
are_plain (b ∷ bs) = is_plain b && are_plain bs

no_lf_byte : (b : ℕ) → not (b == 10) ≡ true → b ≢ 10
no_lf_byte b h e = let t : not (10 == 10) ≡ true = subst (λ c. not (c == 10) ≡ true) e h in absurd (cc t)

no_lf : (bs : List ℕ) → are_plain bs ≡ true → HasNoLf bs
no_lf [] h = tt
no_lf (b ∷ bs) h =
    let all = and_parts (is_plain b) (are_plain bs) h in
    (no_lf_byte b (and_parts (nat_lt b 128) (not (b == 10)) all.0).1, no_lf bs all.1)

-- ---- strings

abbrev escapes_below : ℕ → Bool
escapes_below zero = true
escapes_below (suc n) = are_plain (escape_byte n) && escapes_below n

escape_below : (n : ℕ) → escapes_below n ≡ true → (b : ℕ) → b < n → are_plain (escape_byte b) ≡ true
escape_below zero e b h = absurd (omega (arith, h))
escape_below (suc n) e b h =
    let p = and_parts (are_plain (escape_byte n)) (escapes_below n) e in
    elim (cases_eq b n) [ inl same ↦ subst (λ m. are_plain (escape_byte m) ≡ true) (sym same) p.0 | inr other ↦ escape_below n p.1 b (omega (arith, h, other)) ]

all_escaped : escapes_below 128 ≡ true
unfolding escape_byte
all_escaped = refl

escape_no_lf : (b : ℕ) → HasNoLf (escape_byte b)
escape_no_lf b = elim (cases_lt b 128) [
  | inl small ↦ no_lf (escape_byte b) (escape_below 128 all_escaped b small)
  | inr big ↦ subst HasNoLf (sym (escape_byte_plain b (λ e. omega (arith, e, big)) (λ e. omega (arith, e, big)) (omega (arith, big)))) ((λ e. omega (arith, e, big)), tt)
]

escaped_no_lf : (bs : List ℕ) → HasNoLf (escape bs)
escaped_no_lf [] = tt
escaped_no_lf (b ∷ bs) = all_append (λ c. c ≢ 10) (escape_byte b) (escape bs) (escape_no_lf b) (escaped_no_lf bs)

quoted_line : (bs : List ℕ) → IsUtf8 bs → IsUtf8Line (quoted bs)
quoted_line bs u =
    let quote : HasNoLf (34 ∷ []) = no_lf (34 ∷ []) refl in
    (IsUtf8-quoted bs u, (quote.0, all_append (λ c. c ≢ 10) (escape bs) (34 ∷ []) (escaped_no_lf bs) quote))

-- ---- numbers

digit_no_lf : (b c : ℕ) → AllDigits 10 (b ∷ []) → b ≢ 10
digit_no_lf b c h e =
    let wrong = subst (λ d. AllDigits 10 (d ∷ [])) e h in
    absurd (omega (arith, wrong.0))

digits_no_lf : (bs : List ℕ) → AllDigits 10 bs → HasNoLf bs
digits_no_lf [] h = tt
digits_no_lf (b ∷ bs) h = (digit_no_lf b b (h.0, tt), digits_no_lf bs h.1)

decimal_line : (n : ℕ) → n < 2 ^ 64 → IsUtf8Line (decimal n)
decimal_line n h = (IsUtf8-from_ascii (decimal n) (IsAscii-decimal n h), digits_no_lf (decimal n) (decimal_is_IsNumeral n h).0.1)

minus_line : IsUtf8Line (45 ∷ [])
minus_line = (IsUtf8-are_ascii (45 ∷ []) refl, no_lf (45 ∷ []) refl)

-- ---- values

abbrev IsShort : Num → Type 0
IsShort (unsigned n) = n < 2 ^ 64
IsShort (negative (pos n)) = n < 2 ^ 64
IsShort (negative (negsuc n)) = n < 2 ^ 63
IsShort (float x) = Unit {0}

number_line : (n : Num) → IsShort n → IsUtf8Line (number_text n)
number_line (unsigned n) h = decimal_line n h
number_line (negative (pos n)) h = decimal_line n h
number_line (negative (negsuc n)) h = joined_line (45 ∷ []) (decimal (suc n)) minus_line (decimal_line (suc n) (omega (arith, h)))
number_line (float x) h = none_line

-- its strings are UTF-8, and its integers have 64 bits
abbrev mutual
  pub HasUtf8 : Data → Type 0
  HasUtf8 (number n) = IsShort n
  HasUtf8 (string s) = IsUtf8 s
  HasUtf8 (array ds) = ItemsHaveUtf8 ds
  HasUtf8 (object ms) = MembersHaveUtf8 ms
  HasUtf8 d = Unit {0}

  pub ItemsHaveUtf8 : Items → Type 0
  ItemsHaveUtf8 no_items = Unit {0}
  ItemsHaveUtf8 (item d ds) = HasUtf8 d × ItemsHaveUtf8 ds

  pub MembersHaveUtf8 : Members → Type 0
  MembersHaveUtf8 no_members = Unit {0}
  MembersHaveUtf8 (member k d ms) = IsUtf8 k × HasUtf8 d × MembersHaveUtf8 ms

ascii_line : (bs : List ℕ) → are_plain bs ≡ true → are_ascii bs ≡ true → IsUtf8Line bs
ascii_line bs h g = (IsUtf8-are_ascii bs g, no_lf bs h)

comma_line : (later : Bool) → IsUtf8Line (comma_if later)
comma_line true = ascii_line (44 ∷ []) refl refl
comma_line false = none_line

mutual
  pub text_line : (d : Data) → HasUtf8 d → IsUtf8Line (compact_text d)
  text_line nothing_there h = ascii_line _ refl refl
  text_line (flag true) h = ascii_line _ refl refl
  text_line (flag false) h = ascii_line _ refl refl
  text_line (number n) h = number_line n h
  text_line (string s) h = quoted_line s h
  text_line (array ds) h = joined_line (91 ∷ []) (items_text false ds) (ascii_line (91 ∷ []) refl refl) (items_line false ds h)
  text_line (object ms) h = joined_line (123 ∷ []) (members_text false ms) (ascii_line (123 ∷ []) refl refl) (members_line false ms h)

  items_line : (later : Bool) (ds : Items) → ItemsHaveUtf8 ds → IsUtf8Line (items_text later ds)
  items_line later no_items h = ascii_line (93 ∷ []) refl refl
  items_line later (item d ds) h =
      joined_line (comma_if later) (compact_text d ++ items_text true ds) (comma_line later)
      (joined_line (compact_text d) (items_text true ds) (text_line d h.0) (items_line true ds h.1))

  members_line : (later : Bool) (ms : Members) → MembersHaveUtf8 ms → IsUtf8Line (members_text later ms)
  members_line later no_members h = ascii_line (125 ∷ []) refl refl
  members_line later (member k d ms) h =
      joined_line (comma_if later) (quoted k ++ 58 ∷ (compact_text d ++ members_text true ms)) (comma_line later)
      (joined_line (quoted k) (58 ∷ (compact_text d ++ members_text true ms)) (quoted_line k h.0)
      (joined_line (58 ∷ []) (compact_text d ++ members_text true ms) (ascii_line (58 ∷ []) refl refl)
      (joined_line (compact_text d) (members_text true ms) (text_line d h.1) (members_line true ms h.2))))

-- ---- types

literal_utf8 : (bs : List ℕ) → are_ascii bs ≡ true → IsUtf8 bs
literal_utf8 bs h = IsUtf8-are_ascii bs h

kind_utf8 : (i : IntKind) → IsUtf8 (int_kind_text i)
kind_utf8 u8 = literal_utf8 _ refl
kind_utf8 u16 = literal_utf8 _ refl
kind_utf8 u32 = literal_utf8 _ refl
kind_utf8 u64 = literal_utf8 _ refl
kind_utf8 i8 = literal_utf8 _ refl
kind_utf8 i16 = literal_utf8 _ refl
kind_utf8 i32 = literal_utf8 _ refl
kind_utf8 i64 = literal_utf8 _ refl

flag_utf8 : (n : Nullability) (ms : Members) → MembersHaveUtf8 ms → MembersHaveUtf8 (nullable_member n ms)
flag_utf8 n ms h = (literal_utf8 (codes "nullable") refl, tt, h)

plain_utf8 : (name : List ℕ) (n : Nullability) → IsUtf8 name → HasUtf8 (plain_data name n)
plain_utf8 name n u = (literal_utf8 (codes "kind") refl, u, flag_utf8 n no_members tt)

names_utf8 : (fs : Fields) → HaveUtf8Names fs → ItemsHaveUtf8 (names_data fs)
names_utf8 no_fields h = tt
names_utf8 (field x k fs) h = (h.0, names_utf8 fs h.2)

below_words : (m : ℕ) → nat_lt m (2 ^ 32) ≡ true → m < 2 ^ 64
below_words m e = omega (arith, ltb-true m (2 ^ 32) e)

mutual
  pub type_utf8 : (k : LogicalType) → has_text k ≡ true → HasUtf8Names k → HasUtf8 (type_data k)
  type_utf8 (boolean_type n) t h = plain_utf8 _ n (literal_utf8 (codes "bool") refl)
  type_utf8 (integer_type i n) t h = plain_utf8 _ n (kind_utf8 i)
  type_utf8 (utf8 n) t h = plain_utf8 _ n (literal_utf8 (codes "utf8") refl)
  type_utf8 (binary n) t h = plain_utf8 _ n (literal_utf8 (codes "binary") refl)
  type_utf8 (list k n) t h = (
    literal_utf8 (codes "children") refl,
    (type_utf8 k t h, tt),
    (literal_utf8 (codes "kind") refl, literal_utf8 (codes "list") refl, flag_utf8 n no_members tt),
  )
  type_utf8 (fixed_list k m n) t h =
      let both = and_parts (nat_lt m (2 ^ 32)) (has_text k) t in
      let size = flag_utf8 n (member (codes "size") (number (unsigned m)) no_members) (literal_utf8 (codes "size") refl, below_words m both.0, tt) in (
        literal_utf8 (codes "children") refl,
        (type_utf8 k both.1 h, tt),
        (literal_utf8 (codes "kind") refl, literal_utf8 (codes "fixed_size_list") refl, size),
      )
  type_utf8 (struct fs n) t h = (
    literal_utf8 (codes "children") refl,
    children_utf8 fs t h,
    (literal_utf8 (codes "kind") refl, literal_utf8 (codes "struct") refl, (literal_utf8 (codes "names") refl, names_utf8 fs h, flag_utf8 n no_members tt)),
  )
  type_utf8 k t h = absurd (cc t)

  children_utf8 : (fs : Fields) → have_texts fs ≡ true → HaveUtf8Names fs → ItemsHaveUtf8 (children_data fs)
  children_utf8 no_fields t h = tt
  children_utf8 (field x k fs) t h =
      let both = and_parts (has_text k) (have_texts fs) t in
      (type_utf8 k both.0 h.1, children_utf8 fs both.1 h.2)

-- ---- contents

integer_short : (i : IntKind) (z : ℤ) → InRange i z → IsShort (of_integer z)
integer_short i (pos n) h = natural_held i n h
integer_short i (negsuc n) h = negative_held i n h

ascii_all : (bs : List ℕ) → are_ascii bs ≡ true → IsAscii bs
ascii_all [] h = IsAscii-nil
ascii_all (b ∷ bs) h =
    let both = and_parts (nat_lt b 128) (are_ascii bs) h in
    IsAscii-cons b bs (ltb-true b 128 both.0) (ascii_all bs both.1)

digits_utf8 : (bs : List ℕ) → IsUtf8 (encode_lower bs)
digits_utf8 bs = IsUtf8-from_ascii (encode_lower bs) (IsAscii-encode_with lower_digits bs (ascii_all lower_digits refl))

mutual
  pub content_utf8 : (k : LogicalType) (c : Content) → has_text k ≡ true → Holds k c → HasUtf8 (content_data c)
  content_utf8 k null t h = tt
  content_utf8 k (boolean b) t h = tt
  content_utf8 (integer_type i n) (integer z) t h = integer_short i z h
  content_utf8 k (integer z) t h = absurd h
  content_utf8 (utf8 n) (text bs) t h = h
  content_utf8 k (text bs) t h = absurd h
  content_utf8 k (byte_string bs) t h = digits_utf8 bs
  content_utf8 (list k n) (tuple cs) t h = all_utf8 k cs t h
  content_utf8 (fixed_list k m n) (tuple cs) t h = all_utf8 k cs (and_parts (nat_lt m (2 ^ 32)) (has_text k) t).1 h.1
  content_utf8 (struct fs n) (tuple cs) t h = each_utf8 fs cs t h
  content_utf8 (mapping k v s n) (tuple cs) t h = absurd (cc t)
  content_utf8 k (tuple cs) t h = absurd h
  content_utf8 k (tagged i c) t h = tt
  content_utf8 k (scalar l c) t h = tt

  all_utf8 : (k : LogicalType) (cs : Contents) → has_text k ≡ true → AllHold k cs → ItemsHaveUtf8 (contents_data cs)
  all_utf8 k nothing t h = tt
  all_utf8 k (first c cs) t h = (content_utf8 k c t (subst (λ l. Holds l c) (stored_same k t) h.0), all_utf8 k cs t h.1)

  each_utf8 : (fs : Fields) (cs : Contents) → have_texts fs ≡ true → FieldsHold fs cs → ItemsHaveUtf8 (contents_data cs)
  each_utf8 no_fields nothing t h = tt
  each_utf8 no_fields (first c cs) t h = absurd h
  each_utf8 (field x k fs) nothing t h = absurd h
  each_utf8 (field x k fs) (first c cs) t h =
      let both = and_parts (has_text k) (have_texts fs) t in
      (content_utf8 k c both.0 (subst (λ l. Holds l c) (stored_same k both.0) h.0), each_utf8 fs cs both.1 h.1)

-- ---- how deep both nest

larger : (a b n : ℕ) → a ≤ n → b ≤ n → max a b ≤ n
larger a b n h g = omega (arith, h, g)

mutual
  pub content_depth : (k : LogicalType) (c : Content) (n : ℕ) → has_text k ≡ true → Holds k c → nests_within k n ≡ true → depth (content_data c) ≤ n
  content_depth (list k m) (tuple cs) zero t h s = absurd (cc s)
  content_depth (list k m) (tuple cs) (suc n) t h s = let all = all_depth k cs n t h s in omega (arith, all)
  content_depth (fixed_list k size m) (tuple cs) zero t h s = absurd (cc s)
  content_depth (fixed_list k size m) (tuple cs) (suc n) t h s =
      let all = all_depth k cs n (and_parts (nat_lt size (2 ^ 32)) (has_text k) t).1 h.1 s in omega (arith, all)
  content_depth (struct fs m) (tuple cs) zero t h s = absurd (cc s)
  content_depth (struct fs m) (tuple cs) (suc n) t h s = let all = each_depth fs cs n t h s in omega (arith, all)
  content_depth (mapping k v s m) (tuple cs) n t h w = absurd (cc t)
  content_depth k (tuple cs) n t h s = absurd h
  content_depth k null n t h s = omega arith
  content_depth k (boolean b) n t h s = omega arith
  content_depth k (integer z) n t h s = omega arith
  content_depth k (text bs) n t h s = omega arith
  content_depth k (byte_string bs) n t h s = omega arith
  content_depth k (tagged i c) n t h s = omega arith
  content_depth k (scalar l c) n t h s = omega arith

  all_depth : (k : LogicalType) (cs : Contents) (n : ℕ) → has_text k ≡ true → AllHold k cs → nests_within k n ≡ true → items_depth (contents_data cs) ≤ n
  all_depth k nothing n t h s = omega arith
  all_depth k (first c cs) n t h s =
      larger _ _ n (content_depth k c n t (subst (λ l. Holds l c) (stored_same k t) h.0) s) (all_depth k cs n t h.1 s)

  each_depth : (fs : Fields) (cs : Contents) (n : ℕ) → have_texts fs ≡ true → FieldsHold fs cs → fields_nest_within fs n ≡ true → items_depth (contents_data cs) ≤ n
  each_depth no_fields nothing n t h s = omega arith
  each_depth no_fields (first c cs) n t h s = absurd h
  each_depth (field x k fs) nothing n t h s = absurd h
  each_depth (field x k fs) (first c cs) n t h s =
      let both = and_parts (has_text k) (have_texts fs) t in
      let deep = and_parts (nests_within k n) (fields_nest_within fs n) s in
      larger _ _ n (content_depth k c n both.0 (subst (λ l. Holds l c) (stored_same k both.0) h.0) deep.0) (each_depth fs cs n both.1 h.1 deep.1)

names_depth : (fs : Fields) (n : ℕ) → items_depth (names_data fs) ≤ n
names_depth no_fields n = omega arith
names_depth (field x k fs) n = larger 0 _ n (omega arith) (names_depth fs n)

mutual
  pub type_depth : (k : LogicalType) (n : ℕ) → has_text k ≡ true → nests_within k n ≡ true → depth (type_data k) ≤ suc (n + n)
  type_depth (boolean_type m) n t s = omega arith
  type_depth (integer_type i m) n t s = omega arith
  type_depth (utf8 m) n t s = omega arith
  type_depth (binary m) n t s = omega arith
  type_depth (list k m) zero t s = absurd (cc s)
  type_depth (list k m) (suc n) t s = let d = type_depth k n t s in omega (arith, d)
  type_depth (fixed_list k size m) zero t s = absurd (cc s)
  type_depth (fixed_list k size m) (suc n) t s =
      let d = type_depth k n (and_parts (nat_lt size (2 ^ 32)) (has_text k) t).1 s in omega (arith, d)
  type_depth (struct fs m) zero t s = absurd (cc s)
  type_depth (struct fs m) (suc n) t s =
      let d = children_depth fs n t s in
      let e = names_depth fs 0 in
      omega (arith, d, e)
  type_depth k n t s = absurd (cc t)

  children_depth : (fs : Fields) (n : ℕ) → have_texts fs ≡ true → fields_nest_within fs n ≡ true → items_depth (children_data fs) ≤ suc (n + n)
  children_depth no_fields n t s = omega arith
  children_depth (field x k fs) n t s =
      let both = and_parts (has_text k) (have_texts fs) t in
      let deep = and_parts (nests_within k n) (fields_nest_within fs n) s in
      larger _ _ (suc (n + n)) (type_depth k n both.0 deep.0) (children_depth fs n both.1 deep.1)
