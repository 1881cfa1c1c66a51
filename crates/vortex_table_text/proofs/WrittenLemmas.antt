-- Lines that were written are read back.
use Rattle.std.proofs.Common.{◌≡◌, ◌<◌, ◌≤◌, ◌+◌, ◌-◌, ◌&&◌, ℕ, suc, Bool, true, false, List, [], ◌∷◌, ◌++◌, map, Option, Some, None, if◌then◌else◌, refl, sym, ap, subst, ◌∙◌, append_assoc, append-nil, arith}
use Rattle.std.specs.List.{AllByRecursion, range_with_len}
use Rattle.std.proofs.lemmas.Bool.{and_parts}
use Rattle.std.proofs.lemmas.List.Elements.{All-from_recursion}
use Rattle.serde_json.specs.Data.{Data}
use Rattle.vortex_model.specs.LogicalType.{LogicalType}
use Rattle.vortex_model.specs.Content.{Content, raw_null, content_of}
use Rattle.vortex_model.specs.Refusal.{invalid_value}
use Rattle.vortex_model.specs.Valid.{valid, Holds, IsContent}
use Rattle.vortex_model_table.specs.Command.{first_invalid}
use Rattle.vortex_model_table.specs.Reply.{lines}
use Rattle.vortex_arrays_model.specs.Layout.{Layout, len_of, array_type_of, content_at, rows_of, IsSound}
use Rattle.vortex_arrays_model.proofs.ValidRows.{rows_are_contents_in_order}
use Rattle.vortex_table_io.specs.Lines.{with_lf}
use Rattle.vortex_table_io.proofs.LineLemmas.{lines-line}
use Rattle.vortex_table_request.specs.Parsed.{data_of}
use Rattle.vortex_table_request.specs.Rows.{row_at}
use Rattle.vortex_table_response.specs.Text.{content_text}
use Rattle.vortex_table_response.specs.type_texts.Text.{type_text}
use Rattle.vortex_table_text.specs.Data.{type_data, content_data}
use Rattle.vortex_table_text.specs.Lines.{line_at, type_line_of, IsTypeLine, rows_lines, with_rows, AreReadAs}
use Rattle.vortex_table_text.specs.Types.{has_text, nests_within, HasUtf8Names}
use Rattle.vortex_table_text.specs.Writing.{text_if}
use Rattle.vortex_table_text.proofs.CompactText.{type_same, content_same}
use Rattle.vortex_table_text.proofs.ContentsAgain.{stored_same, IsRowOf, row_again}
use Rattle.vortex_table_text.proofs.JsonAgain.{content_plain}
use Rattle.vortex_table_text.proofs.OneLine.{HasNoLf, IsUtf8Line, text_line, type_utf8, content_utf8, type_depth, content_depth}
use Rattle.vortex_table_text.proofs.ReadBack.{data_again, types_back}

-- a line before others
first_line : (line text after : List ℕ) → line ≡ with_lf text → HasNoLf text → lines (line ++ after) ≡ text ∷ lines after
first_line line text after is one =
    ap (λ (l : List ℕ). lines (l ++ after)) is ∙ ap lines (append_assoc text (10 ∷ []) after)
    ∙ lines-line text after (All-from_recursion (λ b. b ≡ 10 → ⊥) text one)

-- ---- the message of a type

pub no_line : (k : LogicalType) (b : Bool) → b ≡ (has_text k && nests_within k 63) → b ≡ false → type_line_of k ≡ None
no_line k b is off = ap (λ (c : Bool). text_if c (with_lf (type_text k))) (sym is ∙ off)

pub a_line : (k : LogicalType) (b : Bool) (line : List ℕ) → b ≡ (has_text k && nests_within k 63) → b ≡ true → line ≡ with_lf (type_text k) → type_line_of k ≡ Some line
a_line k b line is on made = ap (λ (c : Bool). text_if c (with_lf (type_text k))) (sym is ∙ on) ∙ ap Some (sym made)

pub type_line_again : (k : LogicalType) (b : Bool) (line : List ℕ) → b ≡ (has_text k && nests_within k 63) → b ≡ true → (b ≡ true → HasUtf8Names k) → line ≡ with_lf (type_text k) → IsTypeLine k line
type_line_again k b line is on names made =
    let has = and_parts (has_text k) (nests_within k 63) (sym is ∙ on) in
    let text : IsUtf8Line (type_text k) = subst IsUtf8Line (type_same k has.0) (text_line (type_data k) (type_utf8 k has.0 (names on))) in
    record {
      lines_are = λ after. first_line line (type_text k) after made text.1;
      round_trip = types_back k (type_text k) (ap (λ (c : Bool). text_if c (type_text k)) has.0) text.0 (type_depth k 63 has.0 has.1);
    }

pub ruleset typed = (no_line, a_line, type_line_again)

-- ---- rows

module _ (k : LogicalType) (has : has_text k ≡ true) (within : nests_within k 127 ≡ true) where
  row_text : (c : Content) → IsContent k c → IsUtf8Line (content_text c)
  row_text c h =
      let held : Holds k c = subst (λ l. Holds l c) (stored_same k has) h in
      subst IsUtf8Line (content_same k c has held) (text_line (content_data c) (content_utf8 k c has held))

  row_line : (c : Content) → IsContent k c → IsRowOf k c (line_at k (content_text c))
  row_line c h =
      let held : Holds k c = subst (λ l. Holds l c) (stored_same k has) h in
      let read : data_of (content_text c) ≡ Some (content_data c) =
      data_again (content_data c) (content_text c) (content_text c) (content_plain k c has held) (content_same k c has held) refl (row_text c h).0
      (content_depth k c 127 has held within) in
      subst (λ (o : Option Data). IsRowOf k c (elim o [ None ↦ raw_null | Some d ↦ row_at k d ])) (sym read) (row_again k c has h)

  lines_of : (rows : List Content) → AllByRecursion (IsContent k) rows → lines (rows_lines rows) ≡ map content_text rows
  lines_of [] h = refl
  lines_of (row ∷ rows) h =
      first_line (with_lf (content_text row)) (content_text row) (rows_lines rows) refl (row_text row h.0).1
      ∙ ap (λ (ls : List (List ℕ)). content_text row ∷ ls) (lines_of rows h.1)

  contents_again : (rows : List Content) → AllByRecursion (IsContent k) rows → map content_of (map (line_at k) (map content_text rows)) ≡ rows
  contents_again [] h = refl
  contents_again (row ∷ rows) h = λ i. (row_line row h.0).says i ∷ contents_again rows h.1 i

  all_valid : (rows : List Content) (i : ℕ) → AllByRecursion (IsContent k) rows → first_invalid i k (map (line_at k) (map content_text rows)) ≡ None
  all_valid [] i h = refl
  all_valid (row ∷ rows) i h =
      ap (λ (b : Bool). if b then first_invalid (suc i) k (map (line_at k) (map content_text rows)) else Some (invalid_value i)) (row_line row h.0).is_valid
      ∙ all_valid rows (suc i) h.1

  rows_again : (rows : List Content) → AllByRecursion (IsContent k) rows → AreReadAs k rows (lines (rows_lines rows))
  rows_again rows h =
      subst (AreReadAs k rows) (sym (lines_of rows h)) (record { rows_are = contents_again rows h; valid = all_valid rows 0 h })

-- of an array
pub rows_read_back : (a : Layout) (b : Bool) → b ≡ (has_text (array_type_of a) && nests_within (array_type_of a) 127) → b ≡ true → IsSound a →
    AreReadAs (array_type_of a) (rows_of a) (lines (rows_lines (rows_of a)))
rows_read_back a b is on sound =
    let has = and_parts (has_text (array_type_of a)) (nests_within (array_type_of a) 127) (sym is ∙ on) in
    rows_again (array_type_of a) has.0 has.1 (rows_of a) (rows_are_contents_in_order a sound)

pub no_rows : (bytes : List ℕ) (k : LogicalType) (rows : List Content) (b : Bool) → b ≡ (has_text k && nests_within k 127) → b ≡ false → with_rows bytes k rows ≡ None
no_rows bytes k rows b is off = ap (λ (c : Bool). text_if c (bytes ++ rows_lines rows)) (sym is ∙ off)

pub the_rows : (bytes : List ℕ) (k : LogicalType) (rows : List Content) (b : Bool) (new : List ℕ) → b ≡ (has_text k && nests_within k 127) → b ≡ true → new ≡ bytes ++ rows_lines rows →
    with_rows bytes k rows ≡ Some new
the_rows bytes k rows b new is on made = ap (λ (c : Bool). text_if c (bytes ++ rows_lines rows)) (sym is ∙ on) ∙ ap Some (sym made)

-- ---- row by row

-- what is written, and the lines of the other rows
abbrev pub AreWritten : Layout → ℕ → List ℕ → List ℕ → Type 0
AreWritten a i old out = out ++ rows_lines (map (content_at a) (range_with_len i (len_of a - i))) ≡ old ++ rows_lines (rows_of a)

pub rows_start : (a : Layout) (old : List ℕ) → AreWritten a 0 old old
rows_start a old = ap (λ (n : ℕ). old ++ rows_lines (map (content_at a) (range_with_len 0 n))) {x = len_of a - 0} {y = len_of a} (omega arith)

next_piece : (a t rest : List ℕ) → ((a ++ t) ++ 10 ∷ []) ++ rest ≡ a ++ ((t ++ 10 ∷ []) ++ rest)
next_piece a t rest = simp append_assoc

pub rows_next : (a : Layout) (i : ℕ) (old out mid new : List ℕ) → i < len_of a → mid ≡ out ++ content_text (content_at a i) → new ≡ mid ++ 10 ∷ [] → AreWritten a i old out → AreWritten a (i + 1) old new
rows_next a i old out mid new l row made so =
    let later : List ℕ = rows_lines (map (content_at a) (range_with_len (i + 1) (len_of a - (i + 1)))) in
    let left : len_of a - i ≡ suc (len_of a - (i + 1)) = omega (arith, l) in
    ap (λ (s : List ℕ). s ++ later) (made ∙ ap (λ (s : List ℕ). s ++ 10 ∷ []) row)
    ∙ next_piece out (content_text (content_at a i)) later
    ∙ sym (ap (λ (n : ℕ). out ++ rows_lines (map (content_at a) (range_with_len i n))) left) ∙ so

pub rows_done : (a : Layout) (i : ℕ) (old out : List ℕ) → len_of a ≤ i → AreWritten a i old out → out ≡ old ++ rows_lines (rows_of a)
rows_done a i old out l so =
    sym (append-nil out) ∙ sym (ap (λ (n : ℕ). out ++ rows_lines (map (content_at a) (range_with_len i n))) {x = len_of a - i} {y = 0} (omega (arith, l))) ∙ so

pub ruleset rows = (rows_read_back, no_rows, the_rows, rows_start, rows_next, rows_done)
