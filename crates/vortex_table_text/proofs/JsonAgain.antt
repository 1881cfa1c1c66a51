-- The compact text of a JSON value is read as that value.
use Rattle.std.proofs.Common.{◌&&◌, ◌≡◌, refl, sym, ap, ◌∙◌, subst, ℕ, suc, max, ◌<◌, ◌≤◌, ◌^◌, ◌++◌, nat_lt, ℤ, pos, negsuc, List, ◌∷◌, Bool, true, Some, option_map, option_and_then, codes, append-nil, arith, T, ltb→lt, []}
use Rattle.std.proofs.lemmas.Bool.{and_parts}
use Rattle.std.proofs.lemmas.Int.{ints}
use Rattle.json.specs.Lex.{tokens}
use Rattle.json.specs.Json as json
use Rattle.json.specs.Tree as tree
use Rattle.json.specs.Tree.{json_tokens, HasNumbers, ItemsHaveNumbers}
use Rattle.json.proofs.Printed.Decimals.{IsNumber-decimal, IsNumber-signed_decimal}
use Rattle.json.proofs.Printed.Tokens.{tokens-print}
use Rattle.json.proofs.Printed.Trees.{value-json_tokens, ArePrintable-json_tokens}
use Rattle.serde_json.specs.Data.{unsigned, negative, Data, null as nothing_there, boolean as flag, number, string, array, object, Items, no_items, item, Members, no_members, member, put, depth, items_depth, members_depth}
use Rattle.serde_json.specs.Find.{of_integer}
use Rattle.serde_json.specs.Read.{of_json, of_items, of_members, max_depth, read}
use Rattle.serde_json.specs.Written.{outline, items_outline, members_outline, compact_text}
use Rattle.serde_json.proofs.Numbers.{number_of-decimal, number_of-negative}
use Rattle.serde_json.proofs.Texts.{print-outline}
use Rattle.vortex_model.specs.LogicalType.{Nullability, LogicalType, boolean_type, integer_type, utf8, binary, list, fixed_list, mapping, struct, Fields, no_fields, field, IntKind, u8, u16, u32, u64, i8, i16, i32, i64}
use Rattle.vortex_model.specs.Content.{Content, null, boolean, integer, text, byte_string, tuple, tagged, scalar, Contents, nothing, first}
use Rattle.vortex_model.specs.Valid.{InRange, Holds, AllHold, FieldsHold}
use Rattle.vortex_model.specs.Path.{Names}
use Rattle.vortex_model_table.specs.Expression.{Expression, literal, column, compare, both, either, negation, is_null, is_not_null, is_nan, between, like, row_count, statistic, HasFormedLiterals}
use Rattle.vortex_table_text.specs.Data.{nullable_member, type_data, children_data, names_data, content_data, contents_data, path_data, form_data, predicate_data}
use Rattle.vortex_table_text.specs.Predicates.{is_writable}
use Rattle.vortex_table_text.specs.Types.{has_text, have_texts}
use Rattle.vortex_table_text.proofs.ContentsAgain.{stored_same}

mutual
  same_depth : (d : Data) → tree.depth (outline d) ≡ depth d
  same_depth nothing_there = refl
  same_depth (flag b) = refl
  same_depth (number n) = refl
  same_depth (string s) = refl
  same_depth (array ds) = ap suc (same_items_depth ds)
  same_depth (object ms) = ap suc (same_members_depth ms)

  same_items_depth : (ds : Items) → tree.items_depth (items_outline ds) ≡ items_depth ds
  same_items_depth no_items = refl
  same_items_depth (item d ds) =
      ap (λ n. max n (tree.items_depth (items_outline ds))) (same_depth d) ∙ ap (max (depth d)) (same_items_depth ds)

  same_members_depth : (ms : Members) → tree.members_depth (members_outline ms) ≡ members_depth ms
  same_members_depth no_members = refl
  same_members_depth (member k d ms) =
      ap (λ n. max n (tree.members_depth (members_outline ms))) (same_depth d) ∙ ap (max (depth d)) (same_members_depth ms)

-- the value's tokens are those of JSON that is read as it
pub record IsPlain (d : Data) : Type 0 where
  pub same : of_json (outline d) ≡ Some d
  pub numbers : HasNumbers (outline d)

pub record ArePlain (ds : Items) : Type 0 where
  pub same : of_items (items_outline ds) ≡ Some ds
  pub numbers : ItemsHaveNumbers (items_outline ds)

-- such a value's compact text is read as it
pub whole_again : (d : Data) → IsPlain d → depth d ≤ max_depth → read (compact_text d) ≡ Some d
whole_again d plain shallow =
    let lexed : tokens (compact_text d) ≡ json_tokens (outline d) ++ [] =
    ap tokens (sym (print-outline d)) ∙ tokens-print (json_tokens (outline d)) (ArePrintable-json_tokens (outline d) plain.numbers)
    ∙ sym (append-nil (json_tokens (outline d))) in
    let parsed = value-json_tokens (outline d) max_depth [] (subst (λ n. n ≤ max_depth) (sym (same_depth d)) shallow) in
    ap (λ ts. option_and_then of_json (option_and_then (λ p. json.if_last p.0 p.1) (json.value max_depth ts))) lexed
    ∙ ap (λ o. option_and_then of_json (option_and_then (λ p. json.if_last p.0 p.1) o)) parsed
    ∙ plain.same

-- ---- items

none_plain : ArePlain no_items
none_plain = record { same = refl; numbers = tt }

and_plain : (d : Data) (ds : Items) → IsPlain d → ArePlain ds → ArePlain (item d ds)
and_plain d ds one all =
    record {
      same = ap (λ o. option_and_then (λ d. option_map (item d) (of_items (items_outline ds))) o) one.same ∙ ap (λ o. option_map (item d) o) all.same;
      numbers = (one.numbers, all.numbers);
    }

array_plain : (ds : Items) → ArePlain ds → IsPlain (array ds)
array_plain ds all = record { same = ap (λ o. option_map array o) all.same; numbers = all.numbers }

string_plain : (s : List ℕ) → IsPlain (string s)
string_plain s = record { same = refl; numbers = tt }

flag_plain : (b : Bool) → IsPlain (flag b)
flag_plain b = record { same = refl; numbers = tt }

null_plain : IsPlain nothing_there
null_plain = record { same = refl; numbers = tt }

natural_plain : (n : ℕ) → n < 2 ^ 64 → IsPlain (number (unsigned n))
natural_plain n h = record { same = ap (λ o. option_map number o) (number_of-decimal n h); numbers = IsNumber-decimal n h }

negative_plain : (n : ℕ) → n < 2 ^ 63 → IsPlain (number (negative (negsuc n)))
negative_plain n h = record { same = ap (λ o. option_map number o) (number_of-negative n h); numbers = IsNumber-signed_decimal (negsuc n) h }

-- ---- types

abbrev kind_of : List ℕ → Nullability → Members
kind_of name n = member (codes "kind") (string name) (nullable_member n no_members)

kind_plain : (name : List ℕ) (n : Nullability) → IsPlain (object (kind_of name n))
kind_plain name n = record { same = refl; numbers = (tt, (tt, tt)) }

list_plain : (d : Data) (n : Nullability) → IsPlain d → IsPlain (object (member (codes "children") d (kind_of (codes "list") n)))
list_plain d n one =
    record {
      same = ap (λ o. option_map object (option_and_then (λ d. of_members (members_outline (kind_of (codes "list") n)) (put (codes "children") d no_members)) o)) one.same;
      numbers = (one.numbers, (tt, (tt, tt)));
    }

abbrev sized : ℕ → Nullability → Members
sized m n = member (codes "kind") (string (codes "fixed_size_list")) (nullable_member n (member (codes "size") (number (unsigned m)) no_members))

fixed_list_plain : (d : Data) (m : ℕ) (n : Nullability) → IsPlain d → m < 2 ^ 64 → IsPlain (object (member (codes "children") d (sized m n)))
fixed_list_plain d m n one h =
    let size = natural_plain m h in
    record {
      same = ap (λ o. option_map object (option_and_then (λ d. of_members (members_outline (sized m n)) (put (codes "children") d no_members)) o)) one.same
          ∙ ap (λ o. option_map object (option_and_then (λ e. Some (put (codes "size") e
          (member (codes "children") d (member (codes "kind") (string (codes "fixed_size_list")) (nullable_member n no_members))))) o)) size.same;
      numbers = (one.numbers, (tt, (tt, (size.numbers, tt))));
    }

abbrev named : Data → Nullability → Members
named e n = member (codes "kind") (string (codes "struct")) (member (codes "names") e (nullable_member n no_members))

struct_plain : (d e : Data) (n : Nullability) → IsPlain d → IsPlain e → IsPlain (object (member (codes "children") d (named e n)))
struct_plain d e n one names =
    record {
      same = ap (λ o. option_map object (option_and_then (λ d. of_members (members_outline (named e n)) (put (codes "children") d no_members)) o)) one.same
          ∙ ap (λ o. option_map object (option_and_then (λ e. of_members (members_outline (nullable_member n no_members))
          (put (codes "names") e (member (codes "children") d (member (codes "kind") (string (codes "struct")) no_members)))) o)) names.same;
      numbers = (one.numbers, (tt, (names.numbers, (tt, tt))));
    }

names_plain : (fs : Fields) → ArePlain (names_data fs)
names_plain no_fields = none_plain
names_plain (field x k fs) = and_plain (string x) (names_data fs) (string_plain x) (names_plain fs)

below_words : (m : ℕ) → nat_lt m (2 ^ 32) ≡ true → m < 2 ^ 64
below_words m e = let h : m < 2 ^ 32 = ltb→lt m (2 ^ 32) (subst T (sym e) tt) in omega (arith, h)

mutual
  pub type_plain : (k : LogicalType) → has_text k ≡ true → IsPlain (type_data k)
  type_plain (boolean_type n) t = kind_plain _ n
  type_plain (integer_type i n) t = kind_plain _ n
  type_plain (utf8 n) t = kind_plain _ n
  type_plain (binary n) t = kind_plain _ n
  type_plain (list k n) t = list_plain _ n (array_plain _ (and_plain _ _ (type_plain k t) none_plain))
  type_plain (fixed_list k m n) t =
      let pass = and_parts (nat_lt m (2 ^ 32)) (has_text k) t in
      fixed_list_plain _ m n (array_plain _ (and_plain _ _ (type_plain k pass.1) none_plain)) (below_words m pass.0)
  type_plain (struct fs n) t = struct_plain _ _ n (array_plain _ (children_plain fs t)) (array_plain _ (names_plain fs))
  type_plain k t = absurd (cc t)

  children_plain : (fs : Fields) → have_texts fs ≡ true → ArePlain (children_data fs)
  children_plain no_fields t = none_plain
  children_plain (field x k fs) t =
      let pass = and_parts (has_text k) (have_texts fs) t in
      and_plain _ _ (type_plain k pass.0) (children_plain fs pass.1)

-- ---- contents

pub natural_held : (i : IntKind) (n : ℕ) → InRange i (pos n) → n < 2 ^ 64
natural_held u8 n h = let t = h.to in omega (arith, ints, t)
natural_held u16 n h = let t = h.to in omega (arith, ints, t)
natural_held u32 n h = let t = h.to in omega (arith, ints, t)
natural_held u64 n h = let t = h.to in omega (arith, ints, t)
natural_held i8 n h = let t = h.to in omega (arith, ints, t)
natural_held i16 n h = let t = h.to in omega (arith, ints, t)
natural_held i32 n h = let t = h.to in omega (arith, ints, t)
natural_held i64 n h = let t = h.to in omega (arith, ints, t)

pub negative_held : (i : IntKind) (n : ℕ) → InRange i (negsuc n) → n < 2 ^ 63
negative_held u8 n h = let t = h.from in omega (arith, ints, t)
negative_held u16 n h = let t = h.from in omega (arith, ints, t)
negative_held u32 n h = let t = h.from in omega (arith, ints, t)
negative_held u64 n h = let t = h.from in omega (arith, ints, t)
negative_held i8 n h = let t = h.from in omega (arith, ints, t)
negative_held i16 n h = let t = h.from in omega (arith, ints, t)
negative_held i32 n h = let t = h.from in omega (arith, ints, t)
negative_held i64 n h = let t = h.from in omega (arith, ints, t)

integer_plain : (i : IntKind) (z : ℤ) → InRange i z → IsPlain (number (of_integer z))
integer_plain i (pos n) h = natural_plain n (natural_held i n h)
integer_plain i (negsuc n) h = negative_plain n (negative_held i n h)

mutual
  pub content_plain : (k : LogicalType) (c : Content) → has_text k ≡ true → Holds k c → IsPlain (content_data c)
  content_plain k null t h = null_plain
  content_plain k (boolean b) t h = flag_plain b
  content_plain (integer_type i n) (integer z) t h = integer_plain i z h
  content_plain k (integer z) t h = absurd h
  content_plain k (text bs) t h = string_plain bs
  content_plain k (byte_string bs) t h = string_plain _
  content_plain (list k n) (tuple cs) t h = array_plain _ (all_plain k cs t h)
  content_plain (fixed_list k m n) (tuple cs) t h = array_plain _ (all_plain k cs (and_parts (nat_lt m (2 ^ 32)) (has_text k) t).1 h.1)
  content_plain (struct fs n) (tuple cs) t h = array_plain _ (fields_plain fs cs t h)
  content_plain (mapping k v s n) (tuple cs) t h = absurd (cc t)
  content_plain k (tuple cs) t h = absurd h
  content_plain k (tagged i c) t h = null_plain
  content_plain k (scalar l c) t h = null_plain

  all_plain : (k : LogicalType) (cs : Contents) → has_text k ≡ true → AllHold k cs → ArePlain (contents_data cs)
  all_plain k nothing t h = none_plain
  all_plain k (first c cs) t h =
      and_plain _ _ (content_plain k c t (subst (λ l. Holds l c) (stored_same k t) h.0)) (all_plain k cs t h.1)

  fields_plain : (fs : Fields) (cs : Contents) → have_texts fs ≡ true → FieldsHold fs cs → ArePlain (contents_data cs)
  fields_plain no_fields nothing t h = none_plain
  fields_plain no_fields (first c cs) t h = absurd h
  fields_plain (field x k fs) nothing t h = absurd h
  fields_plain (field x k fs) (first c cs) t h =
      let pass = and_parts (has_text k) (have_texts fs) t in
      and_plain _ _ (content_plain k c pass.0 (subst (λ l. Holds l c) (stored_same k pass.0) h.0)) (fields_plain fs cs pass.1 h.1)

-- ---- predicates

path_plain : (xs : Names) → ArePlain (path_data xs)
path_plain [] = none_plain
path_plain (x ∷ xs) = and_plain (string x) (path_data xs) (string_plain x) (path_plain xs)

form_plain : (name : List ℕ) (ds : Items) → ArePlain ds → IsPlain (form_data name ds)
form_plain name ds all = array_plain _ (and_plain (string name) ds (string_plain name) all)

pub predicate_plain : (e : Expression) → is_writable e ≡ true → HasFormedLiterals e → IsPlain (predicate_data e)
predicate_plain (literal k c) w h =
    form_plain _ _ (and_plain _ _ (type_plain k w) (and_plain _ _ (content_plain k c w (subst (λ l. Holds l c) (stored_same k w) h)) none_plain))
predicate_plain (column xs) w h = form_plain _ _ (path_plain xs)
predicate_plain (compare o x y) w h =
    let pass = and_parts (is_writable x) (is_writable y) w in
    form_plain _ _ (and_plain _ _ (predicate_plain x pass.0 h.0) (and_plain _ _ (predicate_plain y pass.1 h.1) none_plain))
predicate_plain (both x y) w h =
    let pass = and_parts (is_writable x) (is_writable y) w in
    form_plain _ _ (and_plain _ _ (predicate_plain x pass.0 h.0) (and_plain _ _ (predicate_plain y pass.1 h.1) none_plain))
predicate_plain (either x y) w h =
    let pass = and_parts (is_writable x) (is_writable y) w in
    form_plain _ _ (and_plain _ _ (predicate_plain x pass.0 h.0) (and_plain _ _ (predicate_plain y pass.1 h.1) none_plain))
predicate_plain (negation x) w h = form_plain _ _ (and_plain _ _ (predicate_plain x w h) none_plain)
predicate_plain (is_null x) w h = form_plain _ _ (and_plain _ _ (predicate_plain x w h) none_plain)
predicate_plain (is_not_null x) w h = form_plain _ _ (and_plain _ _ (predicate_plain x w h) none_plain)
predicate_plain (is_nan x) w h = form_plain _ _ (and_plain _ _ (predicate_plain x w h) none_plain)
predicate_plain (between x lo hi lower_strict upper_strict) w h =
    let pass = and_parts (is_writable x) (is_writable lo && is_writable hi) w in
    let ends = and_parts (is_writable lo) (is_writable hi) pass.1 in
    form_plain _ _ (and_plain _ _ (predicate_plain x pass.0 h.0) (and_plain _ _ (predicate_plain lo ends.0 h.1) (and_plain _ _ (predicate_plain hi ends.1 h.2)
    (and_plain _ _ (flag_plain lower_strict) (and_plain _ _ (flag_plain upper_strict) none_plain)))))
predicate_plain (like x form negated ignores_case) w h =
    let pass = and_parts (is_writable x) (is_writable form) w in
    form_plain _ _ (and_plain _ _ (predicate_plain x pass.0 h.0) (and_plain _ _ (predicate_plain form pass.1 h.1)
    (and_plain _ _ (flag_plain negated) (and_plain _ _ (flag_plain ignores_case) none_plain))))
predicate_plain row_count w h = form_plain _ _ none_plain
predicate_plain (statistic x a) w h = form_plain _ _ (and_plain _ _ (predicate_plain x w h) (and_plain _ _ (string_plain _) none_plain))
