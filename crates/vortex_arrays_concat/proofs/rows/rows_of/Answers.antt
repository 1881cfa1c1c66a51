use Rattle.std.proofs.Common.{◌≡◌, ◌++◌, map, subst}
use Rattle.vortex_scalar_value.specs.View.{content_in}
use Rattle.vortex_arrays_model.specs.Layout.{array_type_of, rows_of}
use Rattle.vortex_arrays_concat.proofs.RowLemmas.{AreOf, gathered_more}
use Rattle.vortex_arrays_concat.proofs.rows.rows_of.Goals as goal

pub loop-array-preserved : goal.loop-array-preserved
loop-array-preserved c =
    let same = c.as_array.ensures.array in
    let more = c.in_ok-more.more.items in
    let puts : c.append.new.self.items ≡ c.loop-array.rows.items ++ more = c.in_ok-append.ensures.items in
    rw puts (gathered_more c.args.arrays.now c.loop-array.array-index c.array-item.result c.loop-array.rows.items more c.loop-array.invariant c.loop-array-test.true c.array-item.is
    (subst (λ a. map content_in more ≡ rows_of a) same c.in_ok-more.ensures.rows)
    (subst (λ a. AreOf (array_type_of a) more) same c.in_ok-more.ensures.valid))
