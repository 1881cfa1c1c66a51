-- Descriptions as JSON.
use Rattle.std.specs.Prelude.{◌≡◌, ℕ, List, Bool, true, ◌&&◌, Option}
use Rattle.vortex_model_table.specs.ZoneMap.{ZoneMap}
use Rattle.vortex_scalar_core.specs.Scalar.{scalar_type}
use Rattle.vortex_scalar_core.specs.declared.scalar.Scalar.{Scalar}
use Rattle.vortex_stats_bound.specs.declared.precision.Precision.{Precision}
use Rattle.vortex_stats_bound.specs.declared.precision.Precision.TheVariants.{Exact, Inexact, Absent}
use Rattle.vortex_table_schema.specs.Description.{known_content, IsDescription}
use Rattle.vortex_table_schema.specs.declared.description.Description.{Description}
use Rattle.vortex_table_response.specs.Text.{members_text, description_text}
use Rattle.vortex_table_text.specs.Types.{has_text}
use Rattle.vortex_table_text.specs.Writing.{text_if}

-- the type of the value, if there is one, has JSON text
abbrev pub known_has_text : Precision Scalar → Bool
known_has_text (Exact value) = has_text (scalar_type value)
known_has_text (Inexact value) = has_text (scalar_type value)
known_has_text Absent = true

-- the types of the values have JSON text
abbrev pub description_has_text : Description → Bool
description_has_text d =
    known_has_text d.min && known_has_text d.max && known_has_text d.null_count &&
    known_has_text d.sum && known_has_text d.constant

-- the statistics, as an answer has them
abbrev pub known_members : Description → List ℕ
known_members d =
    members_text (known_content d.constant) (known_content d.max) (known_content d.min)
    (known_content d.null_count) (known_content d.sum)

-- the JSON text of a description, if the types of its values have one
abbrev pub description_text_of : Description → Option (List ℕ)
description_text_of d = text_if (description_has_text d) (known_members d)

-- It is that of the zone map that is described.
abbrev pub DescriptionsHaveTheirText : Type 0
DescriptionsHaveTheirText =
    (d : Description) (z : ZoneMap) → IsDescription d z → known_members d ≡ description_text z
