-- Values as JSON.
use Rattle.std.specs.Prelude.{ℕ, List, Option}
use Rattle.vortex_model.specs.LogicalType.{LogicalType}
use Rattle.vortex_model.specs.Content.{Content}
use Rattle.vortex_table_response.specs.Text.{content_text}
use Rattle.vortex_table_text.specs.Types.{has_text}
use Rattle.vortex_table_text.specs.Writing.{text_if}

-- the JSON text of a content of a type, if the type has one
abbrev pub value_text_of : LogicalType → Content → Option (List ℕ)
value_text_of k c = text_if (has_text k) (content_text c)
