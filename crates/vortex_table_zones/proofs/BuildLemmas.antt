-- Rows of a type that a table can hold, as an array.
use Rattle.std.proofs.Common.{◌≡◌, sym, subst, ◌∙◌, List, map, Option, None}
use Rattle.vortex_model.specs.LogicalType.{LogicalType}
use Rattle.vortex_model.specs.Content.{Content, content_of}
use Rattle.vortex_model.specs.Kept.{type_fault}
use Rattle.vortex_model.specs.Refusal.{or_else}
use Rattle.vortex_model_table.specs.Command.{first_invalid, first_unconvertible}
use Rattle.vortex_scalar_value.specs.View.{raw_in, content_in}
use Rattle.vortex_scalar_value.specs.declared.scalar_value.ScalarValue.{ScalarValue}
use Rattle.vortex_arrays_builder.specs.TooLarge.{AreTooLarge}
use Rattle.vortex_table_schema.specs.Error.{Explains}
use Rattle.vortex_table_schema.specs.declared.error.TableError.{TableError}
use Rattle.vortex_table_schema.proofs.Explained.{none_both}
use Rattle.vortex_table_schema.proofs.OwnType.{rows_convert}
use Rattle.vortex_table_layout.proofs.ConvertedRows.{explained_more}
use Rattle.vortex_table_layout.proofs.HintLemmas.{contents_in}
use Rattle.vortex_table_zones.specs.Build.{rows_fault}

module _ (k : LogicalType) (vs : List (Option ScalarValue)) where
  abbrev why : TableError → Type 0
  why e = Explains (AreTooLarge k (map content_in vs)) (rows_fault k (map raw_in vs)) e

  pub batch_refused : (e : TableError) → Explains ⊥ (or_else (type_fault k) (first_invalid 0 k (map raw_in vs))) e → why e
  batch_refused e h = explained_more ⊥ (AreTooLarge k (map content_in vs)) (rows_fault k (map raw_in vs)) e (λ x. absurd x) h

  module _ (kept : type_fault k ≡ None) (valid : first_invalid 0 k (map raw_in vs) ≡ None) where
    pub faultless : rows_fault k (map raw_in vs) ≡ None
    faultless = none_both (type_fault k) (first_invalid 0 k (map raw_in vs)) kept valid

    pub cast_refused : (e : TableError) → Explains ⊥ (first_unconvertible 0 k k (map content_of (map raw_in vs))) e → why e
    cast_refused e h = batch_refused e (subst (λ o. Explains ⊥ o e) (rows_convert 0 0 k (map raw_in vs) kept valid ∙ sym faultless) h)

  pub rows_kept : (rows made : List Content) → made ≡ map content_of (map raw_in vs) → rows ≡ made → rows ≡ map content_in vs
  rows_kept rows made is same = same ∙ is ∙ contents_in vs

pub ruleset built = (batch_refused, faultless, cast_refused, rows_kept)
