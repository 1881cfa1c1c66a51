-- The JSON of a description.
use Rattle.std.proofs.Common.{◌≡◌, refl}
use Rattle.vortex_model_table.specs.ZoneMap.{ZoneMap}
use Rattle.vortex_table_schema.specs.Description.{known_content, IsDescription}
use Rattle.vortex_table_schema.specs.declared.description.Description.{Description}
use Rattle.vortex_table_response.specs.Text.{members_text, description_text}

-- the statistics of a description are written as those of its zone map
pub described : (d : Description) (z : ZoneMap) → IsDescription d z
    → members_text (known_content d.constant) (known_content d.max) (known_content d.min) (known_content d.null_count) (known_content d.sum) ≡ description_text z
described d z is = rw (is.constant, is.max, is.min, is.null_count, is.sum) refl
