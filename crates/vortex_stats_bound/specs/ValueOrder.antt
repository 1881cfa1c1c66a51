-- The order of values without their type, and that it is lawful.
use Rattle.std.specs.Prelude.{◌≡◌, Option, Some}
use Rattle.std.specs.declared.cmp.Ordering.TheVariants.{Equal}
use Rattle.std.proofs.Common.{ap}
use Rattle.vortex_model.specs.Content.{Content, content_of}
use Rattle.vortex_model.specs.Order.{content_cmp}
use Rattle.vortex_model_table.proofs.Chains.{tied}
use Rattle.vortex_model_table.proofs.ContentOrder.{reversed}
use Rattle.vortex_scalar_ops.proofs.Ordered.{chains}
use Rattle.vortex_scalar_value.specs.View.{raw_of}
use Rattle.vortex_scalar_value.specs.declared.scalar_value.ScalarValue.{ScalarValue}
use Rattle.vortex_stats_bound.specs.Order.{Comparison, IsLawful}
use Rattle.vortex_stats_bound.specs.ScalarOrder.{tie_is, tie_decides}

-- the content of the value
abbrev pub value_content : ScalarValue → Content
value_content v = content_of (raw_of v)

abbrev pub value_order : Comparison ScalarValue
value_order v w = content_cmp (value_content v) (value_content w)

pub value_order_lawful : IsLawful value_order
value_order_lawful = record {
  antisymm = λ v w. reversed (value_content w) (value_content v);
  trans = λ u v w h g. (chains (value_content u) (value_content v) (value_content w)).0 h g;
  matches_eq = λ v w. tie_decides (value_order v w);
  congr = λ u v w h. ap (λ c. content_cmp c (value_content w))
      (tied (value_content u) (value_content v) (tie_is (value_order u v) h));
}
