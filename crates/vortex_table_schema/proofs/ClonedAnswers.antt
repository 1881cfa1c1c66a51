-- The rows of an answer that is cloned.
use Rattle.std.proofs.Common.{◌≡◌, refl, List, [], ◌∷◌, map}
use Rattle.std.specs.List.{AllZip}
use Rattle.vortex_scalar_core.specs.Scalar.{scalar_type, scalar_raw}
use Rattle.vortex_scalar_core.specs.declared.scalar.Scalar.{Scalar}
use Rattle.vortex_table_schema.specs.Answer.{typed_raw}

pub same_rows : (old new : List Scalar) → AllZip (λ s t. (scalar_type t ≡ scalar_type s) × (scalar_raw t ≡ scalar_raw s)) old new → map typed_raw new ≡ map typed_raw old
same_rows [] [] h = refl
same_rows (s ∷ old) (t ∷ new) h = λ i. (h.0.0 i, h.0.1 i) ∷ same_rows old new h.1 i
same_rows [] (t ∷ new) h = absurd h
same_rows (s ∷ old) [] h = absurd h
