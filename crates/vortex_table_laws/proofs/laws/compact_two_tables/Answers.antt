use Rattle.std.proofs.lemmas.Result.{on_ok_weaker}
use Rattle.vortex_table_core.specs.Arrays.{arrays_of}
use Rattle.vortex_table_laws.proofs.Compacted.{both_compacted, leave_alike}
use Rattle.vortex_table_laws.proofs.laws.compact_two_tables.Goals as goal

pub returns-clause-law : goal.returns-clause-law
returns-clause-law c =
    let a = arrays_of c.args.one.now in let b = arrays_of c.compact-of_one.new.self in
    let x = arrays_of c.args.other.now in let y = arrays_of c.compact-of_other.new.self in
    on_ok_weaker c.compact-of_one.result (λ h. on_ok_weaker c.compact-of_other.result (λ k. leave_alike _ _ (both_compacted a b x y h k)) c.compact-of_other.ensures.compacted) c.compact-of_one.ensures.compacted
