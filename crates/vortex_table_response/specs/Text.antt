-- Answers as compact JSON, with the keys of an object in byte order.
use Rattle.std.specs.Prelude.{ℕ, List, [], ◌∷◌, ◌++◌, Bool, true, false, pos, codes, decimal, Option, Some, None}
use Rattle.std.specs.Fmt.{signed_decimal}
use Rattle.hex.specs.Hex.{encode_lower}
use Rattle.json.specs.Print.{quoted}
use Rattle.vortex_model.specs.LogicalType.{LogicalType}
use Rattle.vortex_model.specs.Content.{Content, null, boolean, integer, text, byte_string, tuple, Contents, nothing, first}
use Rattle.vortex_model.specs.Refusal.{Refusal, number_of, index_of}
use Rattle.vortex_model_table.specs.Scan.{ScanAnswer}
use Rattle.vortex_model_table.specs.Statistics.{Precision, exact, inexact, absent}
use Rattle.vortex_model_table.specs.ZoneMap.{ZoneMap}
use Rattle.vortex_stats_bound.specs.Precision.{precision_map}
use Rattle.vortex_table_schema.specs.Error.{name_of}
use Rattle.vortex_table_response.specs.type_texts.Text.{flag_text, comma, type_text}

-- ---- contents

-- bytes as a string of hexadecimal digits, in lower case, two for each byte
abbrev pub bytes_text : List ℕ → List ℕ
bytes_text bs = codes "\"" ++ encode_lower bs ++ codes "\""

-- A content that a table can have: null, a boolean, an integer, a string, bytes, or a list or a
-- struct as an array.
abbrev mutual
  pub content_text : Content → List ℕ
  content_text null = codes "null"
  content_text (boolean b) = flag_text b
  content_text (integer z) = signed_decimal z
  content_text (text bs) = quoted bs
  content_text (byte_string bs) = bytes_text bs
  content_text (tuple cs) = codes "[" ++ contents_text false cs ++ codes "]"
  content_text c = []

  pub contents_text : Bool → Contents → List ℕ
  contents_text later nothing = []
  contents_text later (first c cs) = comma later ++ content_text c ++ contents_text true cs

abbrev pub rows_text : Bool → List Content → List ℕ
rows_text later [] = []
rows_text later (c ∷ cs) = comma later ++ content_text c ++ rows_text true cs

abbrev pub numbers_text : Bool → List ℕ → List ℕ
numbers_text later [] = []
numbers_text later (n ∷ ns) = comma later ++ decimal n ++ numbers_text true ns

-- ---- answers

-- the index of the row or the path at fault, which comes first
abbrev pub place_text : Option ℕ → List ℕ
place_text None = []
place_text (Some i) = codes "\"at\":" ++ decimal i ++ codes ","

-- a refusal of this number and name
abbrev pub refusal_parts : Option ℕ → ℕ → List ℕ → List ℕ
refusal_parts place number name =
    codes "{" ++ place_text place ++ codes "\"error\":" ++ decimal number ++ codes ",\"name\":\"" ++
    name ++ codes "\"}"

-- the answer to a line that is no command
abbrev pub bad_line_text : List ℕ
bad_line_text = refusal_parts None 18 (codes "BadLine")

abbrev pub refusal_text : Refusal → List ℕ
refusal_text r = refusal_parts (index_of r) (number_of r) (name_of r)

-- what comes before the rows: their type, and the number of evaluated proofs
abbrev pub scan_front_text : LogicalType → ℕ → List ℕ
scan_front_text k proofs =
    codes "{\"dtype\":" ++ type_text k ++ codes ",\"ok\":true,\"proofs\":" ++
    decimal proofs ++ codes ",\"rows\":["

-- what comes after the rows: the number of tested rows, and the chunks skipped and taken whole
abbrev pub scan_end_text : ℕ → List ℕ → List ℕ → List ℕ
scan_end_text rows_tested skipped whole =
    codes "],\"rows_tested\":" ++ decimal rows_tested ++ codes ",\"skipped\":[" ++
    numbers_text false skipped
    ++ codes "],\"whole\":[" ++ numbers_text false whole ++ codes "]}"

abbrev pub scan_text : ScanAnswer → List ℕ
scan_text a =
    scan_front_text a.kind a.proofs ++ rows_text false a.rows ++
    scan_end_text a.rows_tested a.skipped a.whole

-- ---- descriptions

-- an array whose last item is a content, after what opens it and its first items
abbrev pub entry_text : List ℕ → Content → List ℕ
entry_text front c = front ++ content_text c ++ codes "]"

-- exact, inexact or absent, and the value
abbrev pub known_text : Precision Content → List ℕ
known_text (exact c) = entry_text (codes "[\"exact\",") c
known_text (inexact c) = entry_text (codes "[\"inexact\",") c
known_text absent = codes "[\"absent\"]"

-- a key of an object, and a value
abbrev pub member_text : List ℕ → Precision Content → List ℕ
member_text front p = front ++ known_text p

abbrev pub members_text : (constant greatest least nulls total : Precision Content) → List ℕ
members_text constant greatest least nulls total =
    member_text (codes "{\"constant\":") constant ++ member_text (codes ",\"max\":") greatest ++
    member_text (codes ",\"min\":") least ++ member_text (codes ",\"null_count\":") nulls ++
    member_text (codes ",\"ok\":true,\"sum\":") total ++ codes "}"

-- constancy as a boolean, the bounds, and the null count and the sum as integers
abbrev pub description_text : ZoneMap → List ℕ
description_text z =
    members_text (precision_map boolean z.constant) z.high z.low (exact (integer (pos z.nulls)))
    (precision_map integer z.total)
