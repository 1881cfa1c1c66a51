-- Names of a union's variants.
use Rattle.std.specs.Prelude.{ℕ, zero, suc, List, Option, Some, None, option_and_then}
use Rattle.vortex_model.specs.LogicalType.{Variants, no_variants, choice}
use Rattle.vortex_dtype_core.specs.Parts.{variants_in_type}
use Rattle.vortex_scalar_views.specs.Forms.{Typed}
use Rattle.vortex_scalar_views.specs.Choices.{index_of_choice}

-- the name of the variant at an index
abbrev pub variant_name_at : Variants → ℕ → Option (List ℕ)
variant_name_at no_variants i = None
variant_name_at (choice x t k vs) zero = Some x
variant_name_at (choice x t k vs) (suc i) = variant_name_at vs i

-- the name of the variant with the tag of a union's value
abbrev pub name_of_choice : Typed → Option (List ℕ)
name_of_choice t = option_and_then
    (λ vs. option_and_then (λ i. variant_name_at vs i) (index_of_choice t)) (variants_in_type t.0)
