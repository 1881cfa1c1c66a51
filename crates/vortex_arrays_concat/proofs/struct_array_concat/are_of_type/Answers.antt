use Rattle.std.proofs.Common.{sym, ap, ◌∙◌}
use Rattle.std.proofs.lemmas.Bool.{false≢true}
use Rattle.vortex_dtype_core.specs.View.{type_of}
use Rattle.vortex_arrays_model.specs.Layout.{array_type_of}
use Rattle.vortex_arrays_concat.proofs.RowLemmas.{same_more, same_all, same_not}
use Rattle.vortex_arrays_concat.proofs.struct_array_concat.are_of_type.Goals as goal

pub returns-then-not-is_of_type : goal.returns-then-not-is_of_type
returns-then-not-is_of_type c =
    same_not c.args.arrays.now (type_of c.args.dtype.now) c.loop-array.array-index c.array-item.result c.loop-array-test.true c.array-item.is
    (λ e. false≢true (sym c.if-not-is_of_type.true ∙ c.is_of_type.ensures.1 (ap array_type_of c.as_array.ensures.array ∙ e)))

pub loop-array-preserved : goal.loop-array-preserved
loop-array-preserved c =
    same_more c.args.arrays.now (type_of c.args.dtype.now) c.loop-array.array-index c.array-item.result c.loop-array.invariant c.loop-array-test.true c.array-item.is
    (sym (ap array_type_of c.as_array.ensures.array) ∙ c.is_of_type.ensures.0 c.if-not-is_of_type.false)

pub returns : goal.returns
returns c = same_all c.args.arrays.now (type_of c.args.dtype.now) c.loop-array.array-index c.loop-array.invariant c.loop-array-test.false
