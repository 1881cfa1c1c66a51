use Rattle.std.proofs.Common.{refl, arith}
use Rattle.vortex_model.specs.LogicalType.{u64}
use Rattle.vortex_arrays_buffer.proofs.NumberLemmas.{naturals_held}
use Rattle.vortex_arrays_buffer.proofs.in_range.all_u64.Goals as goal

pub returns : goal.returns
returns c = naturals_held u64 18446744073709551615 refl refl c.args.items.now (λ k. omega (arith, c.type_inv.items k))
