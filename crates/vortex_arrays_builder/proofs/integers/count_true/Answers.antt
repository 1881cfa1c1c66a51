use Rattle.std.proofs.Common.{◌≡◌, ◌∙◌, sym, ap}
use Rattle.vortex_arrays_model.specs.Layout.{bools, required}
use Rattle.vortex_arrays_core.specs.LayoutOf.{layout_of, valid_of}
use Rattle.vortex_arrays_builder.proofs.IntegerLemmas.{bits_counted}
use Rattle.vortex_arrays_builder.proofs.integers.count_true.Goals as goal

pub returns-in-NonNullable : goal.returns-in-NonNullable
returns-in-NonNullable c =
    let bits = c.in-Bool.bits in
    let same : c.args.rows.now ≡ bools bits required =
    sym c.layout.ensures.layout ∙ ap layout_of c.in-Bool.is
    ∙ ap (λ v. bools bits (valid_of v)) c.in-NonNullable.is in
    bits_counted c.args.rows.now bits c.true_count.result (sym same) c.true_count.ensures
