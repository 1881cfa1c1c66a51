-- What is read of JSON text that was written.
use Rattle.std.specs.Prelude.{◌≡◌, ◌≤◌, ℕ, List, Some, option_and_then, IsUtf8}
use Rattle.serde_json.specs.Data.{depth}
use Rattle.serde_json.specs.Read.{max_depth}
use Rattle.vortex_model.specs.LogicalType.{LogicalType}
use Rattle.vortex_model.specs.Content.{Content}
use Rattle.vortex_model.specs.Valid.{IsContent}
use Rattle.vortex_model_table.specs.Expression.{Expression, literal, HasFormedLiterals}
use Rattle.vortex_table_request.specs.Parsed.{data_of}
use Rattle.vortex_table_request.specs.Where.{literal_at}
use Rattle.vortex_table_text.specs.Data.{type_data, content_data, predicate_data}
use Rattle.vortex_table_text.specs.Lines.{type_at}
use Rattle.vortex_table_text.specs.Predicates.{predicate_text_of}
use Rattle.vortex_table_text.specs.Read.{predicate_read}
use Rattle.vortex_table_text.specs.Types.{type_text_of}
use Rattle.vortex_table_text.specs.Values.{value_text_of}

-- The JSON text of a type is read as the type, unless it nests too deep.
abbrev pub TypesAreReadBack : Type 0
TypesAreReadBack = (k : LogicalType) (text : List ℕ) → type_text_of k ≡ Some text → IsUtf8 text →
    depth (type_data k) ≤ max_depth → type_at text ≡ Some k

-- The JSON text of a value is read for its type as the value, unless it nests too deep.
abbrev pub ValuesAreReadBack : Type 0
ValuesAreReadBack = (k : LogicalType) (c : Content) (text : List ℕ) →
    value_text_of k c ≡ Some text → IsContent k c → IsUtf8 text →
    depth (content_data c) ≤ max_depth →
    option_and_then (literal_at k) (data_of text) ≡ Some (literal k c)

-- The JSON text of a predicate is read as the predicate, unless it nests too deep.
abbrev pub PredicatesAreReadBack : Type 0
PredicatesAreReadBack = (e : Expression) (text : List ℕ) → predicate_text_of e ≡ Some text →
    HasFormedLiterals e → IsUtf8 text → depth (predicate_data e) ≤ max_depth →
    predicate_read text ≡ Some e
