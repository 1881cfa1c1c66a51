use Rattle.std.proofs.Common.{◌∙◌, rules}
use Rattle.vortex_dtype_core.specs.View.{type_of, variants_in}
use Rattle.vortex_scalar_value.specs.View.{raw_at}
use Rattle.vortex_scalar_views.proofs.Choices.{chosen_some, chosen_none}
use Rattle.vortex_scalar_views.proofs.union_scalar.UnionScalar.variant_dtype.Goals as goal

pub returns-in_err-index : goal.returns-in_err-index
returns-in_err-index c =
    let none = chosen_none (type_of c.args.self.now.dtype.now) (variants_in c.variants-variants.result.now) (raw_at c.args.self.now.value) c.variants-variants.ensures c.args.self.now.is_valid c.in_err-index.ensures in
    search (rules, c.from_residual.ensures, none)

pub returns : goal.returns
returns c = c.variant_by_index.ensures ∙ chosen_some (type_of c.args.self.now.dtype.now) (variants_in c.variants-variants.result.now) (raw_at c.args.self.now.value) c.in_ok-index.index c.variants-variants.ensures c.args.self.now.is_valid c.in_ok-index.ensures
