-- Lines of JSON, one after another.
use Rattle.std.proofs.Common.{◌≡◌, ◌≢◌, ℕ, List, [], ◌∷◌, ◌++◌, Option, Some, None, refl, sym, ap, ◌∙◌, length, length-append, map, append_assoc, append-nil, arith}
use Rattle.std.proofs.lemmas.List.{map-append}
use Rattle.serde_json.specs.Data.{Data}
use Rattle.vortex_model.specs.LogicalType.{LogicalType}
use Rattle.vortex_model.specs.Content.{Raw, raw_null}
use Rattle.vortex_model_table.specs.Reply.{lines}
use Rattle.vortex_scalar_value.specs.View.{raw_in}
use Rattle.vortex_scalar_value.specs.declared.scalar_value.ScalarValue.{ScalarValue}
use Rattle.vortex_table_io.specs.Lines.{IsOneLine}
use Rattle.vortex_table_io.proofs.LineLemmas.{lines-line, lines-last}
use Rattle.vortex_table_text.specs.Lines.{IsFirstLine, line_at}
use Rattle.vortex_table_request.specs.Parsed.{data_of}
use Rattle.vortex_table_request.specs.Rows.{row_at}

-- ---- a first line

pub ended : (bytes line after : List ℕ) → IsOneLine line → bytes ≡ line ++ 10 ∷ after → IsFirstLine line after bytes
ended bytes line after one e = record {
  lines_are = ap lines e ∙ lines-line line after one;
  shorter = omega (arith, ap length e, length-append line (10 ∷ after));
}

pub unended : (bytes : List ℕ) → IsOneLine bytes → bytes ≢ [] → IsFirstLine bytes [] bytes
unended [] one some = absurd (some refl)
unended (b ∷ bs) one some = record {
  lines_are = lines-last (b ∷ bs) one some;
  shorter = omega arith;
}

pub ruleset first_lines = (ended, unended)

-- ---- the row of a line

pub row_read : (k : LogicalType) (line : List ℕ) (d : Data) (r : Raw) → data_of line ≡ Some d → r ≡ row_at k d → r ≡ line_at k line
row_read k line d r read is = is ∙ sym (ap (λ (o : Option Data). elim o [ None ↦ raw_null | Some x ↦ row_at k x ]) read)

pub row_unread : (k : LogicalType) (line : List ℕ) → data_of line ≡ None → raw_null ≡ line_at k line
row_unread k line none = sym (ap (λ (o : Option Data). elim o [ None ↦ raw_null | Some x ↦ row_at k x ]) none)

pub ruleset rows = (row_read, row_unread)

-- ---- lines in order

-- the rows so far and those of the rest are the rows of all
abbrev pub ArePartway : LogicalType → List ℕ → List ℕ → List (Option ScalarValue) → Type 0
ArePartway k bytes rest rows = map raw_in rows ++ map (line_at k) (lines rest) ≡ map (line_at k) (lines bytes)

pub partway_next : (k : LogicalType) (bytes rest line after : List ℕ) (old new : List (Option ScalarValue)) (row : Option ScalarValue) → IsFirstLine line after rest →
    new ≡ old ++ row ∷ [] → raw_in row ≡ line_at k line → ArePartway k bytes rest old → ArePartway k bytes after new
partway_next k bytes rest line after old new row first made is so =
    let ahead : List Raw = map (line_at k) (lines after) in
    ap (λ (rs : List (Option ScalarValue)). map raw_in rs ++ ahead) made
    ∙ ap (λ (rs : List Raw). rs ++ ahead) (map-append raw_in old (row ∷ []))
    ∙ append_assoc (map raw_in old) (raw_in row ∷ []) ahead
    ∙ ap (λ (r : Raw). map raw_in old ++ r ∷ ahead) is
    ∙ sym (ap (λ (ls : List (List ℕ)). map raw_in old ++ map (line_at k) ls) first.lines_are) ∙ so

pub partway_done : (k : LogicalType) (bytes rest : List ℕ) (rows : List (Option ScalarValue)) → rest ≡ [] → ArePartway k bytes rest rows →
    map raw_in rows ≡ map (line_at k) (lines bytes)
partway_done k bytes rest rows none so =
    sym (append-nil (map raw_in rows)) ∙ sym (ap (λ (bs : List ℕ). map raw_in rows ++ map (line_at k) (lines bs)) none) ∙ so

pub ruleset partway = (partway_next, partway_done)
