use Rattle.std.proofs.Common.{rules, map, length, is_some, sym}
use Rattle.std.proofs.lemmas.List.{length-map}
use Rattle.vortex_arrays_buffer.proofs.Built.{made_of}
use Rattle.vortex_arrays_buffer.proofs.Collected.{copied}
use Rattle.vortex_arrays_leaf.proofs.options.are_some.Goals as goal

pub returns : goal.returns
returns g c =
    made_of c.collect_bool.result _ _ _ c.collect_bool.ensures.count c.collect_bool.ensures.bits (λ b count bits. copied (map is_some c.args.items.now) b (length c.args.items.now) (sym (length-map c.args.items.now is_some)) count (λ i l. search (rules, bits i l)))
