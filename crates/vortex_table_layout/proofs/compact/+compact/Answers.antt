use Rattle.std.proofs.Common.{◌≡◌, length, arith}
use Rattle.vortex_table_layout.proofs.CompactLemmas.{compacted_fit}
use Rattle.vortex_table_layout.proofs.compact.+compact.Goals as goal

pub compact_fields-returns-clause-fit : goal.compact_fields-returns-clause-fit
compact_fields-returns-clause-fit t c =
    let e = c.deref-field-items.ensures.value in
    let all : c.loop-field.field-index ≡ length c.args.fields.now.items = rw (← e) (omega arith) in
    compacted_fit c.args.names.now c.args.fields.now.items c.loop-field.field-index c.args.len c.loop-field.compacted.items c.loop-field.invariant all c.requires.fit
