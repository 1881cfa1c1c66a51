-- Types and rows in lines of JSON.
use Rattle.std.specs.Prelude.{◌≡◌, ◌<◌, ℕ, List, [], ◌∷◌, ◌++◌, map, length, ◌&&◌, Option, Some, None, option_and_then}
use Rattle.vortex_model.specs.LogicalType.{LogicalType}
use Rattle.vortex_model.specs.Content.{Content, Raw, raw_null, content_of}
use Rattle.vortex_model_table.specs.Command.{first_invalid}
use Rattle.vortex_model_table.specs.Reply.{lines}
use Rattle.vortex_table_io.specs.Lines.{with_lf}
use Rattle.vortex_table_response.specs.Text.{content_text}
use Rattle.vortex_table_response.specs.type_texts.Text.{type_text}
use Rattle.vortex_table_request.specs.Kinds.{type_in}
use Rattle.vortex_table_request.specs.Parsed.{data_of}
use Rattle.vortex_table_request.specs.Rows.{row_at}
use Rattle.vortex_table_text.specs.Types.{has_text, nests_within}
use Rattle.vortex_table_text.specs.Writing.{text_if}

-- ---- read

-- the line is the first, and these bytes follow it
pub record IsFirstLine (line after bytes : List ℕ) : Type 0 where
  pub lines_are : lines bytes ≡ line ∷ lines after
  pub shorter : length after < length bytes

-- the type of a line
abbrev pub type_at : List ℕ → Option LogicalType
type_at line = option_and_then type_in (data_of line)

-- the row of a line, and null where there is none
abbrev pub line_at : LogicalType → List ℕ → Raw
line_at k line = elim (data_of line) [ None ↦ raw_null | Some d ↦ row_at k d ]

-- ---- written

-- the message of a type in a line, if it is read back: JSON is read 127 deep, and a message nests
-- twice as deep as its type, and once more
abbrev pub type_line_of : LogicalType → Option (List ℕ)
type_line_of k = text_if (has_text k && nests_within k 63) (with_lf (type_text k))

-- it is one line, and the type is read of that
pub record IsTypeLine (k : LogicalType) (line : List ℕ) : Type 0 where
  pub lines_are : (after : List ℕ) → lines (line ++ after) ≡ type_text k ∷ lines after
  pub round_trip : type_at (type_text k) ≡ Some k

-- each row in a line
abbrev pub rows_lines : List Content → List ℕ
rows_lines [] = []
rows_lines (row ∷ rows) = with_lf (content_text row) ++ rows_lines rows

-- the lines of rows of a type after these bytes, if they are read back
abbrev pub with_rows : List ℕ → LogicalType → List Content → Option (List ℕ)
with_rows bytes k rows =
    text_if (has_text k && nests_within k 127) (bytes ++ rows_lines rows)

-- the lines are read as these rows, each valid for the type
pub record AreReadAs (k : LogicalType) (rows : List Content) (lines : List (List ℕ)) : Type 0 where
  pub rows_are : map content_of (map (line_at k) lines) ≡ rows
  pub valid : first_invalid 0 k (map (line_at k) lines) ≡ None
