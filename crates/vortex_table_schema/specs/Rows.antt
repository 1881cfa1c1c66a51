-- The rows of tables.
use Rattle.vortex_model.specs.Content.{Content, content_of}
use Rattle.vortex_scalar_value.specs.View.{raw_of}
use Rattle.vortex_scalar_value.specs.declared.scalar_value.ScalarValue.{ScalarValue}

-- the content of a row
abbrev pub row_content : ScalarValue → Content
row_content row = content_of (raw_of row)
