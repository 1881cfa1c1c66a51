use Rattle.std.proofs.Common.{Option, sym, ap, ◌∙◌, subst}
use Rattle.serde_json.specs.View.{number_view}
use Rattle.vortex_model.specs.Content.{Raw}
use Rattle.vortex_dtype_core.specs.View.{type_of}
use Rattle.vortex_scalar_value.specs.View.{raw_in}
use Rattle.vortex_table_request.specs.Parsed.{Gives}
use Rattle.vortex_table_request.proofs.AtKinds.{number_in, reading-number}
use Rattle.vortex_table_request.proofs.leaves.read_number.Goals as goal

pub returns-in-Some : goal.returns-in-Some
returns-in-Some c =
    let is = reading-number (type_of c.args.dtype.now) (number_view c.args.digits.now) ∙ ap (λ o. number_in o (number_view c.args.digits.now)) (sym c.in-Some.ensures) in
    subst (λ (o : Option Raw). Gives raw_in c.read_number_of.result o) (sym is) c.read_number_of.ensures

pub returns-in-None : goal.returns-in-None
returns-in-None c =
    reading-number (type_of c.args.dtype.now) (number_view c.args.digits.now) ∙ ap (λ o. number_in o (number_view c.args.digits.now)) (sym c.in-None.ensures)
