use Rattle.std.proofs.Common.{map}
use Rattle.vortex_dtype_path.specs.View.{steps_of}
use Rattle.vortex_table_laws.proofs.PartsScanned.{whole_answered}
use Rattle.vortex_table_laws.proofs.laws.scan_parts.Goals as goal

pub returns-clause-law : goal.returns-clause-law
returns-clause-law c =
    whole_answered (map steps_of c.args.paths.now) c.args.predicate.now c.args.parts.now
    c.args.whole.now c.in_ok-of_parts.of_parts.items c.scan-of_whole.result
    c.parts_answer_as_the_whole.ensures c.in_ok-of_parts.ensures c.scan-of_whole.ensures.found
