use Rattle.std.proofs.Common.{◌≡◌, ap, sym, subst, ◌∙◌, length, true, rules, arith}
use Rattle.vortex_model_table.specs.Command.{first_unconvertible}
use Rattle.vortex_arrays_model.specs.Layout.{array_type_of, rows_of}
use Rattle.vortex_arrays_model.proofs.RowsLemmas.{row_count}
use Rattle.vortex_table_schema.specs.Error.{Explains}
use Rattle.vortex_table_chunk.specs.Bounds.{are_typed_at}
use Rattle.vortex_table_chunk.specs.Chunk.{chunk_rows}
use Rattle.vortex_table_chunk.proofs.Formed.{some_rows, of_type, formed_so}
use Rattle.vortex_table_layout.specs.Retyping.{source_of, target_of, lengths_of}
use Rattle.vortex_arrays_builder.specs.Types.{IsPlainLayout}
use Rattle.vortex_arrays_builder.specs.TooLarge.{AreTooLarge}
use Rattle.vortex_table_layout.proofs.retyping.Retyping.retype_chunk.Goals as goal

pub returns-in_err-array-clause-refused : goal.returns-in_err-array-clause-refused
returns-in_err-array-clause-refused c =
    let r = c.args.self.now in let s = source_of r in let t = target_of r in let chunk = c.args.chunk.now in let first = c.args.first in let e = c.in_err-array.field-0.0 in
    let rows = chunk_rows chunk in
    let why : Explains (AreTooLarge t rows) (first_unconvertible first s t rows) e
    = subst (λ k. Explains (AreTooLarge t rows) (first_unconvertible first k t rows) e) (of_type (lengths_of r) s chunk c.requires.formed) c.in_err-array.ensures.refused in
    let gives = c.from_residual.ensures.1 in
    search (rules, why, gives)

pub returns-clause-formed : goal.returns-clause-formed
returns-clause-formed c =
    let r = c.args.self.now in let t = target_of r in let L = lengths_of r in let chunk = c.args.chunk.now in let new = c.in_ok-new.new in
    let array = c.in_ok-new.ensures.array in
    let rows : rows_of new.array ≡ chunk_rows chunk = ap rows_of array ∙ c.in_ok-array.ensures.rows in
    let count = sym (row_count new.array) ∙ ap length rows ∙ row_count chunk.array in
    let some = some_rows L (source_of r) chunk c.requires.formed in
    let typed = c.in_ok-array.ensures.dtype in
    formed_so L t new (omega (arith, count, some)) (ap array_type_of array ∙ typed) (c.in_ok-new.ensures.leaves ∙ c.requires.retyping.leaves) (c.in_ok-new.ensures.lengths ∙ c.requires.retyping.lengths)
    (subst (λ k. are_typed_at k new.leaves.value.items new.bounds.items ≡ true) typed c.in_ok-new.ensures.types)

pub returns-clause-converts : goal.returns-clause-converts
returns-clause-converts c =
    let r = c.args.self.now in let chunk = c.args.chunk.now in
    ap (λ k. first_unconvertible c.args.first k (target_of r) (chunk_rows chunk)) (sym (of_type (lengths_of r) (source_of r) chunk c.requires.formed)) ∙ c.in_ok-array.ensures.converts

pub returns-clause-layout : goal.returns-clause-layout
returns-clause-layout c = subst IsPlainLayout (sym c.in_ok-new.ensures.array) c.in_ok-array.ensures.layout
