use Rattle.std.proofs.Common.{rules, map, length, sym, ◌∙◌}
use Rattle.std.proofs.lemmas.List.{length-map}
use Rattle.vortex_model.specs.LogicalType.{nullable}
use Rattle.vortex_scalar_value.specs.View.{raw_at}
use Rattle.vortex_arrays_buffer.proofs.Built.{made_of}
use Rattle.vortex_arrays_buffer.proofs.Collected.{copied}
use Rattle.vortex_arrays_builder.specs.Plain.{is_there}
use Rattle.vortex_arrays_builder.proofs.leaves.present_bits.Goals as goal

pub returns : goal.returns
returns c =
    let many = length-map (map raw_at c.args.values.now) (is_there nullable) ∙ length-map c.args.values.now raw_at in
    made_of c.collect_bool.result _ _ _ c.collect_bool.ensures.count c.collect_bool.ensures.bits (λ b count bits. copied (map (is_there nullable) (map raw_at c.args.values.now)) b (length c.args.values.now) (sym many) count (λ i l. search (rules, bits i l)))
