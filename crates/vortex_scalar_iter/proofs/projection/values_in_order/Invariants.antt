use Rattle.std.proofs.Common.{◌≡◌, take, map, Some}
use Rattle.vortex_dtype_core.specs.View.{fields_in}
use Rattle.vortex_scalar_value.specs.View.{raw_in, raws_in}
use Rattle.vortex_scalar_iter.specs.Records.{value_named}
use Rattle.vortex_scalar_iter.proofs.projection.values_in_order.Given as goal

abbrev pub invariant-loop-name : goal.invariant-loop-name
invariant-loop-name l = map (λ v. Some (raw_in v)) l.all.items ≡ map (λ x. value_named (fields_in l.fields) (raws_in l.values) x) (take l.name-index l.names)
