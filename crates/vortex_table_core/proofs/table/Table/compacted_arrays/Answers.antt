use Rattle.std.proofs.Common.{◌≡◌, ◌<◌, subst, length, get_or}
use Rattle.vortex_table_schema.specs.declared.error.TableError.TheVariants as error
use Rattle.vortex_table_core.proofs.Appended.{total_of}
use Rattle.vortex_table_core.proofs.Rearrayed.{first_more, among_arrays}
use Rattle.vortex_table_core.proofs.table.Table.compacted_arrays.Goals as goal

pub loop-chunk-preserved : goal.loop-chunk-preserved
loop-chunk-preserved c =
    let same = c.deref-chunk-items.ensures.value in let i = c.loop-chunk.chunk-index in let x = c.chunk-item.result in
    first_more c.args.self.now.chunks.items i c.loop-chunk.arrays.items c.push.new.self.items x c.in_ok-array.array c.loop-chunk.invariant
    (subst (λ xs. i < length xs) same c.loop-chunk-test.true) (subst (λ xs. x ≡ get_or xs i x) same c.chunk-item.is)
    c.in_ok-array.ensures.compacted c.in_ok-array.ensures.rows c.in_ok-array.ensures.dtype c.in_ok-push.ensures.items

pub returns-in_err-array-clause-kept : goal.returns-in_err-array-clause-kept
returns-in_err-array-clause-kept c = λ h.
    let same = c.deref-chunk-items.ensures.value in let i = c.loop-chunk.chunk-index in let x = c.chunk-item.result in
    let total : c.in_err-array.field-0.0 ≡ error.Total = total_of _ c.in_err-array.field-0.0 c.from_residual-in_err-array.ensures.1 h in
    among_arrays c.args.self.now.chunks.items i x (subst (λ xs. i < length xs) same c.loop-chunk-test.true) (subst (λ xs. x ≡ get_or xs i x) same c.chunk-item.is) (c.in_err-array.ensures.kept (cc (total)))
