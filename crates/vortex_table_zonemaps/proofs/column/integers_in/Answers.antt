use Rattle.std.proofs.Common.{refl, length, arith}
use Rattle.vortex_model.specs.Content.{integer}
use Rattle.vortex_table_zonemaps.proofs.Columns.{known_long, known_part}
use Rattle.vortex_table_zonemaps.proofs.column.integers_in.Goals as goal

pub values_in-requires : goal.values_in-requires
values_in-requires c =
    let cs = c.requires.0 in let long = (known_long integer c.args.known.now cs (length cs) refl c.requires.1).0 in let within = c.requires.2 in
    omega (arith, long, within)

pub flags_in-requires : goal.flags_in-requires
flags_in-requires c =
    let cs = c.requires.0 in let long = (known_long integer c.args.known.now cs (length cs) refl c.requires.1).1 in let within = c.requires.2 in
    omega (arith, long, within)

pub returns : goal.returns
returns c = λ cs is within. known_part integer c.args.known.now cs c.args.first c.args.count within is _ _ c.values_in.ensures c.flags_in.ensures
