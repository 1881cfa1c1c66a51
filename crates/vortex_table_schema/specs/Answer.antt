-- The model's answer of a scan's answer.
use Rattle.std.specs.Prelude.{◌≡◌, map, All}
use Rattle.vortex_model.specs.LogicalType.{LogicalType}
use Rattle.vortex_model.specs.Content.{Raw}
use Rattle.vortex_model_table.specs.Scan as model
use Rattle.vortex_dtype_core.specs.View.{type_of}
use Rattle.vortex_scalar_core.specs.Scalar.{scalar_type, scalar_raw, scalar_content}
use Rattle.vortex_scalar_core.specs.declared.scalar.Scalar.{Scalar}
use Rattle.vortex_table_schema.specs.declared.answer.ScanAnswer.{ScanAnswer}

abbrev pub answer_of : ScanAnswer → model.ScanAnswer
answer_of a = record {
  rows = map scalar_content a.rows.items;
  kind = type_of a.dtype;
  skipped = a.skipped.items;
  whole = a.whole.items;
  rows_tested = a.rows_tested;
  proofs = a.proofs;
}

-- each row is of the answer's type
abbrev pub IsTyped : ScanAnswer → Type 0
IsTyped a = All (λ row. scalar_type row ≡ type_of a.dtype) a.rows.items

-- a value with its type
abbrev pub typed_raw : Scalar → LogicalType × Raw
typed_raw s = (scalar_type s, scalar_raw s)

-- both have the same rows and the same counts
pub record IsSameAnswer (old new : ScanAnswer) : Type 0 where
  pub rows : map typed_raw new.rows.items ≡ map typed_raw old.rows.items
  pub dtype : type_of new.dtype ≡ type_of old.dtype
  pub skipped : new.skipped.items ≡ old.skipped.items
  pub whole : new.whole.items ≡ old.whole.items
  pub rows_tested : new.rows_tested ≡ old.rows_tested
  pub proofs : new.proofs ≡ old.proofs
