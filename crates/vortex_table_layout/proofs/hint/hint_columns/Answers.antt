use Rattle.std.proofs.Common.{◌≡◌, length, arith}
use Rattle.vortex_table_layout.proofs.HintLemmas.{first_fit}
use Rattle.vortex_table_layout.proofs.hint.hint_columns.Goals as goal

pub returns-clause-fit : goal.returns-clause-fit
returns-clause-fit c =
    let all : c.loop-i.i ≡ length c.args.fields.now.items = grind arith in
    first_fit c.args.hints.now c.args.names.now c.args.fields.now.items c.loop-i.i c.args.len c.loop-i.hinted.items c.loop-i.invariant all c.requires.fit
