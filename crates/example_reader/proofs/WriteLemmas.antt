-- A footer is read of the lines that were written of it.
use Rattle.std.proofs.Common.{◌≡◌, ◌≤◌, ◌&&◌, ℕ, zero, suc, Bool, true, false, List, ◌++◌, map, Option, Some, None, option_map, Err, Vec, Global, not, if◌then◌else◌, refl, sym, ap, subst, ◌∙◌, arith}
use Rattle.std.proofs.lemmas.Bool.{and_parts}
use Rattle.vortex_model.specs.LogicalType.{LogicalType, boolean_type, integer_type, utf8, binary, list, fixed_list, struct, Fields, no_fields, field, eq_type}
use Rattle.vortex_model.specs.Content.{Content, content_of}
use Rattle.vortex_model.specs.Kept.{type_fault}
use Rattle.vortex_model.specs.Refusal.{Refusal, or_else}
use Rattle.vortex_model.proofs.Tests.{kind_so}
use Rattle.vortex_model_table.specs.Reply.{lines}
use Rattle.vortex_arrays_model.specs.Layout.{Layout, array_type_of, rows_of}
use Rattle.vortex_table_io.specs.Lines.{with_lf}
use Rattle.vortex_table_response.specs.type_texts.Text.{type_text}
use Rattle.vortex_table_text.specs.Lines.{line_at, type_line_of, IsTypeLine, rows_lines, with_rows, AreReadAs}
use Rattle.vortex_table_text.specs.Types.{has_text, have_texts, nests_within, fields_nest_within}
use Rattle.vortex_table_text.specs.Writing.{Writes, text_if}
use Rattle.vortex_table_text.specs.declared.error.TextError.{TextError}
use Rattle.vortex_table_text.specs.declared.error.TextError.TheVariants as error
use Rattle.vortex_table_zones.specs.Types.{known_type, known_fields, zone_type}
use Rattle.example_reader.specs.Lines.{raw_footer, footer_of, fault_of, footer_fault, footer_text}

-- ---- zones have lines where the type of the rows has one

mutual
  known_text : (counts : Bool) (k : LogicalType) → has_text k ≡ true → has_text (known_type counts k) ≡ true
  known_text counts (struct fs n) h = each_known_text counts fs h
  known_text true k h = refl
  known_text false (boolean_type n) h = refl
  known_text false (integer_type i n) h = refl
  known_text false (utf8 n) h = refl
  known_text false (binary n) h = refl
  known_text false (list k n) h = h
  known_text false (fixed_list k m n) h = h
  known_text false k h = absurd (cc h)

  each_known_text : (counts : Bool) (fs : Fields) → have_texts fs ≡ true → have_texts (known_fields counts fs) ≡ true
  each_known_text counts no_fields h = refl
  each_known_text counts (field x k fs) h =
      let both = and_parts (has_text k) (have_texts fs) h in
      ap (λ (b : Bool). b && have_texts (known_fields counts fs)) (known_text counts k both.0) ∙ each_known_text counts fs both.1

mutual
  -- in rows that nest as deep, and deeper
  known_nests : (counts : Bool) (k : LogicalType) (m n : ℕ) → nests_within k m ≡ true → m ≤ n → nests_within (known_type counts k) n ≡ true
  known_nests counts (struct fs v) zero n h l = absurd (cc h)
  known_nests counts (struct fs v) (suc m) zero h l = absurd (omega (arith, l))
  known_nests counts (struct fs v) (suc m) (suc n) h l = each_known_nests counts fs m n h (omega (arith, l))
  known_nests true k m n h l = refl
  known_nests false (list k v) zero n h l = absurd (cc h)
  known_nests false (list k v) (suc m) zero h l = absurd (omega (arith, l))
  known_nests false (list k v) (suc m) (suc n) h l = nests_more k m n h (omega (arith, l))
  known_nests false (fixed_list k size v) zero n h l = absurd (cc h)
  known_nests false (fixed_list k size v) (suc m) zero h l = absurd (omega (arith, l))
  known_nests false (fixed_list k size v) (suc m) (suc n) h l = nests_more k m n h (omega (arith, l))
  known_nests false k m n h l = refl

  each_known_nests : (counts : Bool) (fs : Fields) (m n : ℕ) → fields_nest_within fs m ≡ true → m ≤ n → fields_nest_within (known_fields counts fs) n ≡ true
  each_known_nests counts no_fields m n h l = refl
  each_known_nests counts (field x k fs) m n h l =
      let both = and_parts (nests_within k m) (fields_nest_within fs m) h in
      ap (λ (b : Bool). b && fields_nest_within (known_fields counts fs) n) (known_nests counts k m n both.0 l) ∙ each_known_nests counts fs m n both.1 l

  nests_more : (k : LogicalType) (m n : ℕ) → nests_within k m ≡ true → m ≤ n → nests_within k n ≡ true
  nests_more (list k v) zero n h l = absurd (cc h)
  nests_more (list k v) (suc m) zero h l = absurd (omega (arith, l))
  nests_more (list k v) (suc m) (suc n) h l = nests_more k m n h (omega (arith, l))
  nests_more (fixed_list k size v) zero n h l = absurd (cc h)
  nests_more (fixed_list k size v) (suc m) zero h l = absurd (omega (arith, l))
  nests_more (fixed_list k size v) (suc m) (suc n) h l = nests_more k m n h (omega (arith, l))
  nests_more (struct fs v) zero n h l = absurd (cc h)
  nests_more (struct fs v) (suc m) zero h l = absurd (omega (arith, l))
  nests_more (struct fs v) (suc m) (suc n) h l = fields_nest_more fs m n h (omega (arith, l))
  nests_more k m n h l = refl

  fields_nest_more : (fs : Fields) (m n : ℕ) → fields_nest_within fs m ≡ true → m ≤ n → fields_nest_within fs n ≡ true
  fields_nest_more no_fields m n h l = refl
  fields_nest_more (field x k fs) m n h l =
      let both = and_parts (nests_within k m) (fields_nest_within fs m) h in
      ap (λ (b : Bool). b && fields_nest_within fs n) (nests_more k m n both.0 l) ∙ fields_nest_more fs m n both.1 l

three : (a b c : Bool) → a ≡ true → b ≡ true → c ≡ true → (a && (b && (c && true))) ≡ true
three a b c e f g = ap (λ (d : Bool). d && (b && (c && true))) e ∙ ap (λ (d : Bool). d && (c && true)) f ∙ ap (λ (d : Bool). d && true) g

zones_fit : (k : LogicalType) → (has_text k && nests_within k 63) ≡ true → (has_text (zone_type k) && nests_within (zone_type k) 127) ≡ true
zones_fit k h =
    let both = and_parts (has_text k) (nests_within k 63) h in
    let bound = known_text false k both.0 in
    let deep = known_nests false k 63 126 both.1 (omega arith) in
    ap (λ (b : Bool). b && nests_within (zone_type k) 127) (three _ _ _ bound bound (known_text true k both.0))
    ∙ three _ _ _ deep deep (known_nests true k 63 126 both.1 (omega arith))

has_line : (b : Bool) (text line : List ℕ) → text_if b text ≡ Some line → b ≡ true
has_line true text line e = refl
has_line false text line e = absurd (cc e)

with_these : (b : Bool) (text new : List ℕ) → b ≡ true → text_if b text ≡ Some new → text ≡ new
with_these b text new e h = cc (sym (ap (λ (c : Bool). text_if c text) e) ∙ h)

-- ---- refused

abbrev text_by : Bool → Layout → Option (List ℕ) → Option (List ℕ)
text_by b zones line = if b then option_map (λ l. l ++ rows_lines (rows_of zones)) line else None

nothing_by : (b : Bool) (zones : Layout) → text_by b zones None ≡ None
nothing_by true zones = refl
nothing_by false zones = refl

module _ (k : LogicalType) (zones : Layout) where
  abbrev same : Bool
  same = eq_type (array_type_of zones) (zone_type k)

  compared : (l m : LogicalType) → l ≡ array_type_of zones → m ≡ zone_type k → eq_type l m ≡ same
  compared l m e f = λ i. eq_type (e i) (f i)

  -- of another type
  pub other_type : (l m : LogicalType) → l ≡ array_type_of zones → m ≡ zone_type k → true ≡ not (eq_type l m) → footer_text k zones ≡ None
  other_type l m e f differ = ap (λ (c : Bool). text_by c zones (type_line_of k)) (sym (compared l m e f) ∙ is_off (eq_type l m) differ)
    where
      is_off : (b : Bool) → true ≡ not b → b ≡ false
      is_off false h = refl
      is_off true h = absurd (cc h)

  pub same_type : (l m : LogicalType) → l ≡ array_type_of zones → m ≡ zone_type k → false ≡ not (eq_type l m) → same ≡ true
  same_type l m e f differ = sym (compared l m e f) ∙ is_on (eq_type l m) differ
    where
      is_on : (b : Bool) → false ≡ not b → b ≡ true
      is_on true h = refl
      is_on false h = absurd (cc h)

  pub no_type_line : type_line_of k ≡ None → footer_text k zones ≡ None
  no_type_line none = ap (λ (line : Option (List ℕ)). text_by same zones line) none ∙ nothing_by same zones

  module _ (line : List ℕ) (on : same ≡ true) (first : type_line_of k ≡ Some line) where
    kind : array_type_of zones ≡ zone_type k
    kind = kind_so (array_type_of zones) (zone_type k) on

    fits : (has_text (array_type_of zones) && nests_within (array_type_of zones) 127) ≡ true
    fits =
        subst (λ (l : LogicalType). (has_text l && nests_within l 127) ≡ true) (sym kind)
        (zones_fit k (has_line (has_text k && nests_within k 63) (with_lf (type_text k)) line first))

    rows_written : (new : List ℕ) → with_rows line (array_type_of zones) (rows_of zones) ≡ Some new → line ++ rows_lines (rows_of zones) ≡ new
    rows_written new h = with_these (has_text (array_type_of zones) && nests_within (array_type_of zones) 127) (line ++ rows_lines (rows_of zones)) new fits h

    -- the zones are never refused
    no_zones : with_rows line (array_type_of zones) (rows_of zones) ≡ None → footer_text k zones ≡ None
    no_zones h = absurd (cc (sym (ap (λ (c : Bool). text_if c (line ++ rows_lines (rows_of zones))) fits) ∙ h))

    pub zones_refused : (out : List ℕ) (e : TextError) → Writes {X = Unit {0}} (λ _. out) (Err e) (with_rows line (array_type_of zones) (rows_of zones)) →
        Writes {X = Vec ℕ Global} (λ text. text.items) (Err e) (footer_text k zones)
    zones_refused out error.Memory h = tt
    zones_refused out error.NoText h = no_zones h

    pub written : (new : List ℕ) → with_rows line (array_type_of zones) (rows_of zones) ≡ Some new → footer_text k zones ≡ Some new
    written new h =
        ap (λ (c : Bool). text_by c zones (type_line_of k)) on ∙ ap (λ (o : Option (List ℕ)). text_by true zones o) first ∙ ap Some (rows_written new h)

    module _ (new : List ℕ) (h : with_rows line (array_type_of zones) (rows_of zones) ≡ Some new) (typed : IsTypeLine k line)
        (rows : AreReadAs (array_type_of zones) (rows_of zones) (lines (rows_lines (rows_of zones)))) where
      abbrev later : List (List ℕ)
      later = lines (rows_lines (rows_of zones))

      raw : raw_footer (lines new) ≡ Some (k, map (line_at (zone_type k)) later)
      raw =
          ap (λ (bytes : List ℕ). raw_footer (lines bytes)) (sym (rows_written new h))
          ∙ ap raw_footer (typed.lines_are (rows_lines (rows_of zones)))
          ∙ ap (option_map (λ l. (l, map (line_at (zone_type l)) later))) typed.round_trip

      zones_read : AreReadAs (zone_type k) (rows_of zones) later
      zones_read = subst (λ (l : LogicalType). AreReadAs l (rows_of zones) later) kind rows

      pub footer_again : footer_of (lines new) ≡ Some (k, rows_of zones)
      footer_again = ap (option_map (λ f. (f.0, map content_of f.1))) raw ∙ ap (λ (cs : List Content). Some (k, cs)) zones_read.rows_are

      pub fault_again : footer_fault (lines new) ≡ type_fault (zone_type k)
      fault_again = ap fault_of raw ∙ ap (or_else (type_fault (zone_type k))) zones_read.valid ∙ only_first (type_fault (zone_type k))
        where
          only_first : (o : Option Refusal) → or_else o None ≡ o
          only_first None = refl
          only_first (Some r) = refl

pub ruleset footers = (no_type_line)
