use Rattle.std.proofs.Common.{◌≡◌, ap, sym, subst, ◌∙◌}
use Rattle.vortex_arrays_model.specs.Layout.{array_type_of}
use Rattle.vortex_table_chunk.specs.Bounds.{are_typed_at}
use Rattle.vortex_table_chunk.specs.Rows.{HasRowsOfType}
use Rattle.vortex_table_chunk.proofs.TypedRows.{chunk_said}
use Rattle.vortex_table_chunk.proofs.retyped.retyped_chunk.Goals as goal

pub returns-clause-types : goal.returns-clause-types
returns-clause-types c =
    let new = c.in_ok-new.new in let k = array_type_of c.args.array in
    let leaves : new.leaves.value.items ≡ c.deref-2.result.now = c.in_ok-new.ensures.leaves ∙ sym (c.deref-2.ensures.value ∙ ap (λ v. v.items) c.deref.ensures) in
    (λ i. are_typed_at k (leaves i) (c.in_ok-new.ensures.bounds i)) ∙ c.in_ok-bounds.ensures.types (subst HasRowsOfType c.in_ok-new.ensures.array (chunk_said new))
