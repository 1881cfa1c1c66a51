-- Lists of native values.
use Rattle.std.proofs.Common.{◌≡◌, List, [], ◌∷◌, ◌++◌, map, Option, refl, ap, ◌∙◌}
use Rattle.vortex_model.specs.Content.{Raw}
use Rattle.vortex_scalar_value.specs.View.{raw_in}
use Rattle.vortex_scalar_value.specs.declared.scalar_value.ScalarValue.{ScalarValue}

-- one more of the values that are left
pub moved_over : {A : Type 0} → (raw : A → Raw) (vs : List (Option ScalarValue)) (item : Option ScalarValue) (v : A) (behind : List A) (all : List Raw) → raw_in item ≡ raw v →
    map raw_in vs ++ map raw (v ∷ behind) ≡ all → map raw_in (vs ++ item ∷ []) ++ map raw behind ≡ all
moved_over raw [] item v behind all e h = ap (λ r. r ∷ map raw behind) e ∙ h
moved_over raw (w ∷ vs) item v behind all e h = ap (λ rs. raw_in w ∷ rs) (moved_over raw vs item v behind (map raw_in vs ++ map raw (v ∷ behind)) e refl) ∙ h
