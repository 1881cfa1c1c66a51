-- The tree of a value by its parts, and the depth of the parts.
use Rattle.std.proofs.Common.{◌≡◌, ℕ, zero, suc, max, ◌<◌, ◌≤◌, List, [], ◌∷◌, length, get_or, Ordering, Less, Equal, Greater, Option, Some, None, option_and_then, codes, refl, ap, arith, nat_cmp}
use Rattle.std.specs.Cmp.Lexicographic.{slice_cmp}
use Rattle.std.specs.Ordering.{match_ordering}
use Rattle.serde_json.specs.Data.{Data, null, boolean, number, string, array, object, Items, Members, no_members, member, depth, items_depth, members_depth}
use Rattle.serde_json.specs.Find.{get, get_member, as_array}
use Rattle.serde_json.specs.View.{view, items_view}
use Rattle.serde_json.specs.declared.value.Value.{Value}
use Rattle.vortex_dtype_proto.specs.Messages.{Tree}
use Rattle.vortex_table_request.specs.Parsed.{size_of}
use Rattle.vortex_table_request.specs.Kinds.{tree_in, trees_in, children_in, tree_with}

-- missing children are none
abbrev pub children_of : Option Data → Option (List Tree)
children_of None = Some []
children_of (Some d) = trees_in d

-- a tree by its parts, whatever the value
abbrev pub parts : Data → Option Tree
parts d = option_and_then (λ size. option_and_then (λ children. tree_with size d children) (children_of (get (codes "children") d))) (size_of d)

found : (o : Ordering) (d : Data) (a : Option (List Tree)) (b : Option Data) → a ≡ children_of b → match_ordering o a (trees_in d) a ≡ children_of (match_ordering o b (Some d) b)
found Less d a b e = e
found Equal d a b e = refl
found Greater d a b e = e

children_in-get : (ms : Members) → children_in ms ≡ children_of (get_member (codes "children") ms)
children_in-get no_members = refl
children_in-get (member k d ms) = found (slice_cmp nat_cmp (codes "children") k) d _ _ (children_in-get ms)

pub tree_parts : (d : Data) → tree_in d ≡ parts d
tree_parts null = refl
tree_parts (boolean b) = refl
tree_parts (number n) = refl
tree_parts (string s) = refl
tree_parts (array ds) = refl
tree_parts (object ms) = ap (λ (cs : Option (List Tree)). option_and_then (λ size. option_and_then (λ children. tree_with size (object ms) children) cs) (size_of (object ms))) (children_in-get ms)

abbrev depth_of_some : Option Data → ℕ
depth_of_some None = 0
depth_of_some (Some d) = depth d

-- the value of a member nests less deep than the members
within : (o : Ordering) (d e : Data) (b : Option Data) (n : ℕ) → match_ordering o b (Some d) b ≡ Some e → (b ≡ Some e → depth e ≤ n) → depth e ≤ max (depth d) n
within Less d e b n is h = let k = h is in omega arith
within Equal d e b n is h = let k : depth d ≡ depth e = ap depth_of_some is in omega arith
within Greater d e b n is h = let k = h is in omega arith

member_depth : (k : List ℕ) (ms : Members) (e : Data) → get_member k ms ≡ Some e → depth e ≤ members_depth ms
member_depth k no_members e is = absurd (cc)
member_depth k (member l d ms) e is = within (slice_cmp nat_cmp k l) d e (get_member k ms) (members_depth ms) is (member_depth k ms e)

pub get_depth : (k : List ℕ) (d e : Data) → get k d ≡ Some e → depth e < depth d
get_depth k null e is = absurd (cc)
get_depth k (boolean b) e is = absurd (cc)
get_depth k (number n) e is = absurd (cc)
get_depth k (string s) e is = absurd (cc)
get_depth k (array ds) e is = absurd (cc)
get_depth k (object ms) e is = let h = member_depth k ms e is in omega (arith, h)

pub item_depth : (vs : List Value) (i : ℕ) (v : Value) → i < length vs → v ≡ get_or vs i v → depth (view v) ≤ items_depth (items_view vs)
item_depth [] i v h e = absurd (omega arith)
item_depth (w ∷ vs) zero v h e = let k : depth (view v) ≡ depth (view w) = ap (λ x. depth (view x)) e in omega (arith, k)
item_depth (w ∷ vs) (suc i) v h e = let k = item_depth vs i v (omega arith) e in omega (arith, k)

pub as_array_depth : (d : Data) (ds : Items) → as_array d ≡ Some ds → items_depth ds < depth d
as_array_depth null ds e = absurd (cc)
as_array_depth (boolean b) ds e = absurd (cc)
as_array_depth (number n) ds e = absurd (cc)
as_array_depth (string s) ds e = absurd (cc)
as_array_depth (array es) ds e = let k : items_depth es ≡ items_depth ds = cc in omega (arith, k)
as_array_depth (object ms) ds e = absurd (cc)
