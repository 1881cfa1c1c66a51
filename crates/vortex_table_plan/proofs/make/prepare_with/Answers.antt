use Rattle.std.proofs.lemmas.Result.{err_from_is_err_and}
use Rattle.vortex_dtype_core.specs.View.{type_of}
use Rattle.vortex_table_plan.proofs.Refusals.{fault_first, fault_second, refused_behind}
use Rattle.vortex_table_plan.proofs.make.prepare_with.Goals as goal

pub returns-in_err-falsifier-clause-refused : goal.returns-in_err-falsifier-clause-refused
returns-in_err-falsifier-clause-refused g c =
    let p = err_from_is_err_and c.from_residual-in_err-falsifier.result c.from_residual-in_err-falsifier.ensures.1 in
    let is = c.in_ok-bound.ensures.bound in
    rw (p.1, p.2) (refused_behind _ _ _ c.in_ok-bound.ensures.accepted (fault_first _ _ _ (c.in_err-falsifier.ensures.refused (type_of c.args.dtype.now) c.args.predicate.now is)))

pub returns-in_err-satisfier-clause-refused : goal.returns-in_err-satisfier-clause-refused
returns-in_err-satisfier-clause-refused g c =
    let p = err_from_is_err_and c.from_residual-in_err-satisfier.result c.from_residual-in_err-satisfier.ensures.1 in
    let is = c.in_ok-bound.ensures.bound in
    rw (p.1, p.2) (refused_behind _ _ _ c.in_ok-bound.ensures.accepted (fault_second _ _ _ (c.in_err-satisfier.ensures.refused (type_of c.args.dtype.now) c.args.predicate.now is)))

pub returns-clause-prepared : goal.returns-clause-prepared
returns-clause-prepared g c =
    let k = type_of c.args.dtype.now in let e = c.args.predicate.now in let is = c.in_ok-bound.ensures.bound in record {
      bound = is.bound;
      falsifier = c.in_ok-falsifier.ensures.bound k e is;
      satisfier = c.in_ok-satisfier.ensures.bound k e is;
      cut_kind = c.in_ok-cut.ensures.dtype;
      cut_values = c.in_ok-cut.ensures.projection;
    }

pub returns-clause-falsifier : goal.returns-clause-falsifier
returns-clause-falsifier g c = c.in_ok-falsifier.ensures.proof (type_of c.args.dtype.now) c.args.predicate.now c.in_ok-bound.ensures.bound

pub returns-clause-satisfier : goal.returns-clause-satisfier
returns-clause-satisfier g c = c.in_ok-satisfier.ensures.proof (type_of c.args.dtype.now) c.args.predicate.now c.in_ok-bound.ensures.bound

pub returns-clause-faultless : goal.returns-clause-faultless
returns-clause-faultless g c = c.in_ok-bound.ensures.bound.faultless
