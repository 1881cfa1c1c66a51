-- The start of tokens, token by token.
use Rattle.std.proofs.Common.{◌≡◌, Bool, ℕ, ◌-◌, ◌<◌, List, [], ◌∷◌, ◌++◌, length, Option, Some, None, option_map, option_and_then, refl, sym, ap, ◌∙◌, arith}
use Rattle.json.specs.Token.{Token}
use Rattle.json.specs.Json as json
use Rattle.json.specs.Lex.{tokens}
use Rattle.json.specs.Json.{parse_map, after_end_array, read_key, items, members, value, if_last}
use Rattle.json.proofs.Grammar.{value_is, value-begin_array, value-begin_object, items_end, items_more, members_end, members_more, after_end_array-shorter, read_key-shorter}
use Rattle.serde_json.specs.Data.{Num, Data, null, boolean, number, string, array, object, Items, no_items, item, Members, no_members, put}
use Rattle.serde_json.specs.Read.{number_of, of_json, of_items, of_members, converted, max_depth, read}
use Rattle.serde_json.specs.View.{view, items_view}
use Rattle.serde_json.specs.declared.value.Value.{Value}
use Rattle.vortex_table_tokens.specs.Begins.{Begins, BeginsItems, BeginsMembers}

-- ---- what was read, converted to data

abbrev pick : {A : Type 0} → A → Option A → A
pick d None = d
pick d (Some a) = a

found : {A B : Type 0} (a : A) (r s : List Token) (x : Option B) (b : B) → option_map {U = B × List Token} (λ y. (y, r)) x ≡ Some (b, s) → (r ≡ s) × (x ≡ Some b)
found a r s None b e = absurd (cc)
found a r s (Some y) b e = let same = ap (pick (y, r)) e in (ap (λ p. p.1) same, ap (λ p. Some p.0) same)

converted_some : {A B : Type 0} (f : A → Option B) (o : Option (A × List Token)) (b : B) (r : List Token) → converted f o ≡ Some (b, r) → (a : A) × (o ≡ Some (a, r)) × (f a ≡ Some b)
converted_some f None b r e = absurd (cc)
converted_some f (Some p) b r e = let both = found p.0 p.1 r (f p.0) b e in (p.0, ap (λ s. Some (p.0, s)) both.0, both.1)

twice : {A B : Type 0} (g : A → B) (r : List Token) (x : Option A) → option_map (λ b. (b, r)) (option_map g x) ≡ parse_map g (option_map (λ a. (a, r)) x)
twice g r None = refl
twice g r (Some a) = refl

converted-array : (o : Option (json.Items × List Token)) → converted of_json (parse_map json.array o) ≡ parse_map array (converted of_items o)
converted-array None = refl
converted-array (Some p) = twice array p.1 (of_items p.0)

converted-object : (o : Option (json.Members × List Token)) → converted of_json (parse_map json.object o) ≡ parse_map object (converted (λ ms. of_members ms no_members) o)
converted-object None = refl
converted-object (Some p) = twice object p.1 (of_members p.0 no_members)

with_item : (j : json.Json) (d : Data) → of_json j ≡ Some d → (o : Option (json.Items × List Token)) → converted of_items (parse_map (json.item j) o) ≡ parse_map (item d) (converted of_items o)
with_item j d e None = refl
with_item j d e (Some p) = rw e (twice (item d) p.1 (of_items p.0))

with_member : (k : List ℕ) (j : json.Json) (d : Data) (old : Members) → of_json j ≡ Some d → (o : Option (json.Members × List Token))
    → converted (λ ms. of_members ms old) (parse_map (json.member k j) o) ≡ converted (λ ms. of_members ms (put k d old)) o
with_member k j d old e None = refl
with_member k j d old e (Some p) = rw e

-- ---- values

pub no_end : (depth : ℕ) (ts r : List Token) (d : Data) → converted of_json (value depth ts) ≡ Some (d, r) → after_end_array ts ≡ None
no_end depth [] r d e = refl
no_end depth (Token.begin_object ∷ ts) r d e = refl
no_end depth (Token.end_object ∷ ts) r d e = refl
no_end depth (Token.begin_array ∷ ts) r d e = refl
no_end depth (Token.end_array ∷ ts) r d e = let is = sym (ap (converted of_json) (value_is depth (Token.end_array ∷ ts))) ∙ e in absurd (cc)
no_end depth (Token.key s ∷ ts) r d e = refl
no_end depth (Token.string s ∷ ts) r d e = refl
no_end depth (Token.number s ∷ ts) r d e = refl
no_end depth (Token.boolean b ∷ ts) r d e = refl
no_end depth (Token.null ∷ ts) r d e = refl
no_end depth (Token.bad ∷ ts) r d e = refl

pub begins_null : (depth : ℕ) (ts : List Token) → Begins depth (Token.null ∷ ts) null ts
begins_null depth ts = (ap (converted of_json) (value_is depth (Token.null ∷ ts)), omega arith)

pub begins_boolean : (b : Bool) (depth : ℕ) (ts : List Token) → Begins depth (Token.boolean b ∷ ts) (boolean b) ts
begins_boolean b depth ts = (ap (converted of_json) (value_is depth (Token.boolean b ∷ ts)), omega arith)

pub begins_string : (s : List ℕ) (depth : ℕ) (ts : List Token) → Begins depth (Token.string s ∷ ts) (string s) ts
begins_string s depth ts = (ap (converted of_json) (value_is depth (Token.string s ∷ ts)), omega arith)

pub begins_number : (s : List ℕ) (n : Num) → number_of s ≡ Some n → (depth : ℕ) (ts : List Token) → Begins depth (Token.number s ∷ ts) (number n) ts
begins_number s n e depth ts = (
  ap (converted of_json) (value_is depth (Token.number s ∷ ts)) ∙ ap (λ (o : Option Num). option_map (λ d. (d, ts)) (option_map number o)) e,
  omega arith,
)

-- an array, where its items follow the bracket
pub begins_array : (depth : ℕ) (old ts new : List Token) (ds : Items) → 0 < depth → old ≡ Token.begin_array ∷ ts → BeginsItems (depth - 1) ts ds new → Begins depth old (array ds) new
begins_array depth old ts new ds some is more = (
  ap (λ s. converted of_json (value depth s)) is ∙ ap (converted of_json) (value-begin_array depth ts some) ∙ converted-array (items (value (depth - 1)) (length ts) ts)
      ∙ ap (parse_map array) (more.0 (length ts) (omega arith)),
  omega (arith, more.1, ap length is),
)

pub begins_object : (depth : ℕ) (old ts new : List Token) (ms : Members) → 0 < depth → old ≡ Token.begin_object ∷ ts → BeginsMembers (depth - 1) ts no_members ms new → Begins depth old (object ms) new
begins_object depth old ts new ms some is more = (
  ap (λ s. converted of_json (value depth s)) is ∙ ap (converted of_json) (value-begin_object depth ts some) ∙ converted-object (members (value (depth - 1)) (length ts) ts)
      ∙ ap (parse_map object) (more.0 (length ts) (omega arith)),
  omega (arith, more.1, ap length is),
)

-- ---- items

pub one_item : (depth : ℕ) (old mid new : List Token) (d : Data) (ds : Items) → Begins depth old d mid → BeginsItems depth mid ds new → BeginsItems depth old (item d ds) new
one_item depth old mid new d ds first more =
    let j = converted_some of_json (value depth old) d mid first.0 in (
      λ n enough.
          ap (converted of_items) (items_more (value depth) n old mid j.0 (omega (arith, enough, first.1)) (no_end depth old mid d first.0) j.1) ∙ with_item j.0 d j.2 _
          ∙ ap (parse_map (item d)) (more.0 (n - 1) (omega (arith, enough, first.1))),
      omega (arith, first.1, more.1),
    )

pub no_more_items : (depth : ℕ) (old new : List Token) → after_end_array old ≡ Some new → BeginsItems depth old no_items new
no_more_items depth old new e = (λ n enough. ap (converted of_items) (items_end (value depth) n old new enough e), after_end_array-shorter old new e)

-- ---- members

pub one_member : (depth : ℕ) (old mid rest new : List Token) (k : List ℕ) (d : Data) (found ms : Members) → read_key old ≡ Some (Some k, mid) → Begins depth mid d rest
    → BeginsMembers depth rest (put k d found) ms new → BeginsMembers depth old found ms new
one_member depth old mid rest new k d found ms key first more =
    let j = converted_some of_json (value depth mid) d rest first.0 in
    let less = read_key-shorter old (Some k) mid key in (
      λ n enough.
          ap (converted (λ js. of_members js found)) (members_more (value depth) n k old mid rest j.0 (omega (arith, enough, less)) key j.1) ∙ with_member k j.0 d found j.2 _
          ∙ more.0 (n - 1) (omega (arith, enough, less, first.1)),
      omega (arith, less, first.1, more.1),
    )

pub no_more_members : (depth : ℕ) (old new : List Token) (found : Members) → read_key old ≡ Some (None, new) → BeginsMembers depth old found found new
no_more_members depth old new found e =
    (λ n enough. ap (converted (λ js. of_members js found)) (members_end (value depth) n old new enough e), read_key-shorter old None new e)

-- ---- a list that grows at its end

abbrev pub items_before : List Value → Items → Items
items_before [] rest = rest
items_before (v ∷ vs) rest = item (view v) (items_before vs rest)

pub items_before-no_items : (vs : List Value) → items_before vs no_items ≡ items_view vs
items_before-no_items [] = refl
items_before-no_items (v ∷ vs) = ap (item (view v)) (items_before-no_items vs)

pub items_push : (vs : List Value) (v : Value) (rest : Items) → items_before vs (item (view v) rest) ≡ items_before (vs ++ v ∷ []) rest
items_push [] v rest = refl
items_push (w ∷ vs) v rest = ap (item (view w)) (items_push vs v rest)

-- ---- the whole string

pub whole_read : (text : List ℕ) (d : Data) → converted of_json (value max_depth (tokens text)) ≡ Some (d, []) → read text ≡ Some d
whole_read text d e = let j = converted_some of_json (value max_depth (tokens text)) d [] e in ap (λ o. option_and_then of_json (option_and_then (λ p. if_last p.0 p.1) o)) j.1 ∙ j.2
