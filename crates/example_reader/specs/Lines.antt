-- A footer in lines of JSON: the type of the rows, and each zone as a value of the zones' type.
use Rattle.std.specs.Prelude.{ℕ, List, [], ◌∷◌, ◌++◌, map, Option, Some, None, option_map, if◌then◌else◌}
use Rattle.vortex_model.specs.LogicalType.{LogicalType, eq_type}
use Rattle.vortex_model.specs.Content.{Content, Raw, content_of}
use Rattle.vortex_model.specs.Refusal.{Refusal, unkept_type}
use Rattle.vortex_arrays_model.specs.Layout.{Layout, array_type_of, rows_of}
use Rattle.vortex_arrays_builder.specs.TooLarge.{AreTooLarge}
use Rattle.vortex_table_text.specs.Lines.{type_at, line_at, type_line_of, rows_lines}
use Rattle.vortex_table_zones.specs.Build.{rows_fault}
use Rattle.vortex_table_zones.specs.Types.{zone_type}

-- ---- read

-- the type of the rows and the zones, each null where its line has none of the zones' type
abbrev pub raw_footer : List (List ℕ) → Option (LogicalType × List Raw)
raw_footer [] = None
raw_footer (line ∷ lines) = option_map (λ k. (k, map (line_at (zone_type k)) lines)) (type_at line)

-- the type of the rows and the zones' contents
abbrev pub footer_of : List (List ℕ) → Option (LogicalType × List Content)
footer_of lines = option_map (λ f. (f.0, map content_of f.1)) (raw_footer lines)

-- the first fault: of the first line, of the zones' type, or of a zone
abbrev pub fault_of : Option (LogicalType × List Raw) → Option Refusal
fault_of None = Some unkept_type
fault_of (Some f) = rows_fault (zone_type f.0) f.1

abbrev pub footer_fault : List (List ℕ) → Option Refusal
footer_fault lines = fault_of (raw_footer lines)

-- the bounds of a column are too large for an array
abbrev pub IsTooLarge : Option (LogicalType × List Content) → Type 0
IsTooLarge None = ⊥
IsTooLarge (Some f) = AreTooLarge (zone_type f.0) f.1

-- ---- written

-- the lines, if the zones are of the type of zones and that of the rows has a line
abbrev pub footer_text : LogicalType → Layout → Option (List ℕ)
footer_text k zones =
    if eq_type (array_type_of zones) (zone_type k)
    then option_map (λ line. line ++ rows_lines (rows_of zones)) (type_line_of k) else None
