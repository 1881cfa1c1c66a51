use Rattle.std.proofs.Common.{rules, sym, ap, ◌∙◌}
use Rattle.vortex_model_table.specs.Command.{is_supported_like}
use Rattle.vortex_dtype_core.specs.View.{type_of}
use Rattle.vortex_scalar_core.specs.Scalar.{scalar_content}
use Rattle.vortex_stats_expr.specs.Tree.{comparison_of, is_strict}
use Rattle.vortex_table_plan.specs.Faults.{like_of}
use Rattle.vortex_table_plan.proofs.Checks.{compare_checked, both_checked, either_checked, range_checked, like_checked, like_refused}
use Rattle.vortex_table_plan.proofs.bind.+check.Goals as goal

pub check-returns-in-Literal : goal.check-returns-in-Literal
check-returns-in-Literal t c =
    rw (← c.e.view_is, c.in-Literal.is) (c.check_literal.ensures (type_of c.args.dtype.now) (scalar_content c.in-Literal.value))

pub check-returns-in_ok-left-in-Compare : goal.check-returns-in_ok-left-in-Compare
check-returns-in_ok-left-in-Compare t c =
    rw (← c.e.view_is, c.in-Compare.is, ← c.deref.ensures, ← c.deref-in-Compare.ensures)
    (compare_checked (type_of c.args.dtype.now) (comparison_of c.in-Compare.field-0) c.deref.result.now c.deref-in-Compare.result.now
    (c.in_ok-left-in-Compare.left, c.in_ok-left-in-Compare.right) c.check_same.result c.in_ok-left-in-Compare.ensures c.check_same.ensures)

pub check-returns-in_ok-left-in-And : goal.check-returns-in_ok-left-in-And
check-returns-in_ok-left-in-And t c =
    rw (← c.e.view_is, c.in-And.is, ← c.deref-in-And.ensures, ← c.deref-in-And-2.ensures)
    (both_checked (type_of c.args.dtype.now) c.deref-in-And.result.now c.deref-in-And-2.result.now
    (c.in_ok-left-in-And.left, c.in_ok-left-in-And.right) c.check_booleans.result c.in_ok-left-in-And.ensures c.check_booleans.ensures)

pub check-returns-in_ok-left-in-Or : goal.check-returns-in_ok-left-in-Or
check-returns-in_ok-left-in-Or t c =
    rw (← c.e.view_is, c.in-Or.is, ← c.deref-in-Or.ensures, ← c.deref-in-Or-2.ensures)
    (either_checked (type_of c.args.dtype.now) c.deref-in-Or.result.now c.deref-in-Or-2.result.now
    (c.in_ok-left-in-Or.left, c.in_ok-left-in-Or.right) c.check_booleans-in-Or.result c.in_ok-left-in-Or.ensures c.check_booleans-in-Or.ensures)

pub check-returns-in_ok-lower-in-Between : goal.check-returns-in_ok-lower-in-Between
check-returns-in_ok-lower-in-Between t c =
    rw (← c.e.view_is, c.in-Between.is, ← c.deref-in-Between.ensures, ← c.deref-in-Between-2.ensures, ← c.deref-in-Between-3.ensures)
    (range_checked (type_of c.args.dtype.now) c.deref-in-Between.result.now c.deref-in-Between-2.result.now c.deref-in-Between-3.result.now
    (is_strict c.in-Between.field-3.lower_strict) (is_strict c.in-Between.field-3.upper_strict)
    c.in_ok-value-in-Between.value (c.in_ok-lower-in-Between.lower, c.in_ok-lower-in-Between.upper) c.check_range.result
    c.in_ok-value-in-Between.ensures c.in_ok-lower-in-Between.ensures c.check_range.ensures)

pub check-returns-in_ok-value-in-Like : goal.check-returns-in_ok-value-in-Like
check-returns-in_ok-value-in-Like t c =
    rw (← c.e.view_is, c.in-Like.is, ← c.deref-in-Like.ensures, ← c.deref-in-Like-2.ensures)
    (like_checked (type_of c.args.dtype.now) c.deref-in-Like.result.now c.deref-in-Like-2.result.now
    c.in-Like.options.negated c.in-Like.options.case_insensitive
    (c.in_ok-value-in-Like.value, c.in_ok-value-in-Like.form) c.check_like.result c.in_ok-value-in-Like.ensures
    (c.check_like.ensures ∙ ap (λ e. like_of c.in_ok-value-in-Like.value c.in_ok-value-in-Like.form (is_supported_like e c.in-Like.options.case_insensitive))
    (c.deref-in-Like-3.ensures ∙ sym c.deref-in-Like-2.ensures)))

pub check-returns-in_err-value-in-Like : goal.check-returns-in_err-value-in-Like
check-returns-in_err-value-in-Like t c =
    let why = like_refused (type_of c.args.dtype.now) c.deref-in-Like.result.now c.deref-in-Like-2.result.now
    c.in-Like.options.negated c.in-Like.options.case_insensitive c.in_err-value-in-Like.field-0.0 c.in_err-value-in-Like.ensures in
    let gives = c.from_residual-in_err-value-in-Like.ensures.1 in
    rw (← c.e.view_is, c.in-Like.is, ← c.deref-in-Like.ensures, ← c.deref-in-Like-2.ensures) (search (rules, why, gives))
