-- Values of one token.
use Rattle.std.proofs.Common.{◌≡◌, ℕ, ℤ, pos, negsuc, List, Bool, Some, refl}
use Rattle.json.specs.Token.{Token}
use Rattle.serde_json.specs.Data.{null, boolean, number, string}
use Rattle.serde_json.specs.Find.{as_integer, of_integer}
use Rattle.serde_json.specs.Read.{number_of}
use Rattle.vortex_model.specs.LogicalType.{LogicalType}
use Rattle.vortex_model.specs.Content.{Raw, raw_null}
use Rattle.vortex_table_request.specs.Rows.{reading}
use Rattle.vortex_table_tokens.specs.Values.{IsLeaf}
use Rattle.vortex_table_tokens.proofs.Wholes.{whole-of_integer}
use Rattle.vortex_table_tokens.proofs.Grammar.{begins_null, begins_boolean, begins_number, begins_string}

pub integer_kept : (z : ℤ) → as_integer (of_integer z) ≡ Some z
integer_kept (pos n) = refl
integer_kept (negsuc n) = refl

reading-null : (k : LogicalType) → reading k null ≡ Some raw_null
reading-null k = refl

pub null_leaf : (k : LogicalType) → IsLeaf k Token.null raw_null
null_leaf k = (null, begins_null, refl, reading-null k)

pub boolean_leaf : (k : LogicalType) (b : Bool) (r : Raw) → reading k (boolean b) ≡ Some r → IsLeaf k (Token.boolean b) r
boolean_leaf k b r e = (boolean b, begins_boolean b, refl, e)

pub string_leaf : (k : LogicalType) (s : List ℕ) (r : Raw) → reading k (string s) ≡ Some r → IsLeaf k (Token.string s) r
string_leaf k s r e = (string s, begins_string s, refl, e)

pub number_leaf : (k : LogicalType) (s : List ℕ) (z : ℤ) (r : Raw) → number_of s ≡ Some (of_integer z) → reading k (number (of_integer z)) ≡ Some r → IsLeaf k (Token.number s) r
number_leaf k s z r e f = (number (of_integer z), begins_number s (of_integer z) e, whole-of_integer z, f)
