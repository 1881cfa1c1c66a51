-- A footer, by what was read of lines.
use Rattle.std.proofs.Common.{◌≡◌, ℕ, List, [], ◌∷◌, Option, Some, None, option_map, refl, sym, ap, subst, ◌∙◌, map}
use Rattle.vortex_model.specs.LogicalType.{LogicalType}
use Rattle.vortex_model.specs.Content.{Content, Raw, content_of}
use Rattle.vortex_model.specs.Refusal.{Refusal}
use Rattle.vortex_model_table.specs.Reply.{lines}
use Rattle.vortex_scalar_value.specs.View.{raw_in, content_in}
use Rattle.vortex_scalar_value.specs.declared.scalar_value.ScalarValue.{ScalarValue}
use Rattle.vortex_arrays_builder.specs.TooLarge.{AreTooLarge}
use Rattle.vortex_table_text.specs.Lines.{IsFirstLine, type_at, line_at}
use Rattle.vortex_table_schema.specs.Error.{Explains}
use Rattle.vortex_table_schema.specs.declared.error.TableError.{TableError}
use Rattle.vortex_table_schema.specs.declared.error.TableError.TheVariants as error
use Rattle.vortex_table_zones.specs.Build.{rows_fault}
use Rattle.vortex_table_zones.specs.Types.{zone_type}
use Rattle.example_reader.specs.Lines.{raw_footer, footer_of, fault_of, footer_fault, IsTooLarge}

abbrev Values : Type 0
Values = List (Option ScalarValue)

-- why bytes are refused
abbrev pub Why : List ℕ → TableError → Type 0
Why bytes e = Explains (IsTooLarge (footer_of (lines bytes))) (footer_fault (lines bytes)) e

contents : (vs : Values) → map content_of (map raw_in vs) ≡ map content_in vs
contents [] = refl
contents (v ∷ vs) = ap (λ (cs : List Content). content_in v ∷ cs) (contents vs)

-- ---- no type

pub no_line : (bytes : List ℕ) → bytes ≡ [] → Why bytes error.UnkeptType
no_line bytes none = ap (λ (bs : List ℕ). footer_fault (lines bs)) none

module _ (bytes line after : List ℕ) (first : IsFirstLine line after bytes) where
  abbrev made : Option LogicalType → Option (LogicalType × List Raw)
  made o = option_map (λ k. (k, map (line_at (zone_type k)) (lines after))) o

  by_type : raw_footer (lines bytes) ≡ made (type_at line)
  by_type = ap raw_footer first.lines_are

  pub no_type : type_at line ≡ None → Why bytes error.UnkeptType
  no_type none = ap fault_of (by_type ∙ ap made none)

  -- ---- a type and zones

  module _ (k l : LogicalType) (vs : Values) (typed : type_at line ≡ Some k) (zoned : l ≡ zone_type k) (read : map raw_in vs ≡ map (line_at l) (lines after)) where
    raw : raw_footer (lines bytes) ≡ Some (k, map raw_in vs)
    raw =
        by_type ∙ ap made typed
        ∙ ap (λ (rs : List Raw). Some (k, rs)) (sym (read ∙ ap (λ (m : LogicalType). map (line_at m) (lines after)) zoned))

    whole : footer_of (lines bytes) ≡ Some (k, map content_in vs)
    whole =
        ap (option_map (λ f. (f.0, map content_of f.1))) raw ∙ ap (λ (cs : List Content). Some (k, cs)) (contents vs)

    faults : rows_fault l (map raw_in vs) ≡ footer_fault (lines bytes)
    faults = ap (λ (m : LogicalType). rows_fault m (map raw_in vs)) zoned ∙ sym (ap fault_of raw)

    pub footer_read : (rows : List Content) → rows ≡ map content_in vs → footer_of (lines bytes) ≡ Some (k, rows)
    footer_read rows same = whole ∙ ap (λ (cs : List Content). Some (k, cs)) (sym same)

    pub footer_accepted : rows_fault l (map raw_in vs) ≡ None → footer_fault (lines bytes) ≡ None
    footer_accepted none = sym faults ∙ none

    too_large : AreTooLarge l (map content_in vs) → IsTooLarge (footer_of (lines bytes))
    too_large h = subst IsTooLarge (sym whole) (subst (λ (m : LogicalType). AreTooLarge m (map content_in vs)) zoned h)

    moved : (P Q : Type 0) (o p : Option Refusal) (e : TableError) → (P → Q) → o ≡ p → Explains P o e → Explains Q p e
    moved P Q o p error.Memory f g h = tt
    moved P Q o p error.Total f g h = f h
    moved P Q o p error.RuleFault f g h = h
    moved P Q o p e f g h = sym g ∙ h

    pub footer_refused : (e : TableError) → Explains (AreTooLarge l (map content_in vs)) (rows_fault l (map raw_in vs)) e → Why bytes e
    footer_refused e h =
        moved (AreTooLarge l (map content_in vs)) (IsTooLarge (footer_of (lines bytes))) (rows_fault l (map raw_in vs)) (footer_fault (lines bytes)) e too_large faults h

pub ruleset footers = (no_line, no_type, footer_read, footer_accepted, footer_refused)
