use Rattle.std.proofs.Common.{map}
use Rattle.vortex_model_table.specs.Command.{names_of}
use Rattle.vortex_model_table.specs.Scan.{scanned}
use Rattle.vortex_dtype_path.specs.View.{steps_of}
use Rattle.vortex_table_core.specs.TableView.{table_of}
use Rattle.vortex_table_laws.proofs.Answered.{on_both, scanned_alike, same_answers}
use Rattle.vortex_table_laws.proofs.laws.scan_by_two_lists.Goals as goal

pub returns-clause-law : goal.returns-clause-law
returns-clause-law c = λ covers.
    let t = table_of c.args.table.now in let paths = map names_of (map steps_of c.args.paths.now) in
    let others = map names_of (map steps_of c.args.others.now) in let e = c.args.predicate.now in
    let same = c.covers_tell_answers.ensures t paths others e covers in
    let equal = scanned_alike t paths others e same.0 same.1 in
    on_both c.scan-by_paths.result c.scan-by_others.result (λ a b h k. same_answers a b (scanned t paths e) (scanned t others e) equal h k) c.scan-by_paths.ensures.found c.scan-by_others.ensures.found
