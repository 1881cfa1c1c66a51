use Rattle.vortex_arrays_core.specs.LayoutOf.{valid_of}
use Rattle.vortex_arrays_struct.proofs.Parts.{field_fits, part_of_records, no_part_of_records}
use Rattle.vortex_arrays_struct.proofs.Columns.{field_flagged}
use Rattle.vortex_arrays_struct.proofs.part.field_of_records.Goals as goal

pub mask-requires : goal.mask-requires
mask-requires c =
    let found = c.in-Some.ensures.lookup in
    field_fits c.args.names.now c.args.fields.now c.args.len (valid_of c.args.validity.now) c.args.position c.requires.sound c.in-Some.field.now found.3.0 found.1

pub returns-in_ok-masked-in-Some-clause-made : goal.returns-in_ok-masked-in-Some-clause-made
returns-in_ok-masked-in-Some-clause-made c =
    let found = c.in-Some.ensures.lookup in
    part_of_records c.args.names.now c.args.fields.now c.args.len (valid_of c.args.validity.now) c.args.position c.requires.sound c.in-Some.field.now found.3.0 found.1 c.in_ok-masked-in-Some.masked c.in_ok-masked-in-Some.ensures.masked

pub returns-in-None-clause-made : goal.returns-in-None-clause-made
returns-in-None-clause-made c = no_part_of_records c.args.names.now c.args.fields.now c.args.len (valid_of c.args.validity.now) c.args.position c.requires.sound c.in-None.ensures.lookup.3

pub returns-in_ok-masked-in-Some-clause-flags : goal.returns-in_ok-masked-in-Some-clause-flags
returns-in_ok-masked-in-Some-clause-flags c =
    let found = c.in-Some.ensures.lookup in
    field_flagged c.args.names.now c.args.fields.now c.args.len (valid_of c.args.validity.now) c.args.position c.in-Some.field.now c.in_ok-masked-in-Some.masked found.1 found.3.0 c.in_ok-masked-in-Some.ensures.flags
