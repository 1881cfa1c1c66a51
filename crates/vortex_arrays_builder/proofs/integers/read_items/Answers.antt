use Rattle.std.proofs.Common.{◌*◌, ◌∙◌, ap, sym}
use Rattle.vortex_arrays_core.specs.LayoutOf.{valid_of}
use Rattle.vortex_arrays_builder.specs.Integers.{valid_before}
use Rattle.vortex_arrays_builder.proofs.IntegerLemmas.{each_there, all_there}
use Rattle.vortex_arrays_builder.proofs.integers.read_items.Goals as goal

pub read_each-requires-clause-whole : goal.read_each-requires-clause-whole
read_each-requires-clause-whole g c =
    c.requires.whole ∙ ap (λ v. valid_before (valid_of v) c.args.rows * c.args.width) c.in-NonNullable.is
    ∙ ap (λ n. n * c.args.width) (each_there c.args.rows)

pub read_each-requires-in-AllValid-clause-whole : goal.read_each-requires-in-AllValid-clause-whole
read_each-requires-in-AllValid-clause-whole g c =
    c.requires.whole ∙ ap (λ v. valid_before (valid_of v) c.args.rows * c.args.width) c.in-AllValid.is
    ∙ ap (λ n. n * c.args.width) (sym (all_there c.args.rows))
