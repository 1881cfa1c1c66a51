use Rattle.std.proofs.Common.{sym, subst, ap, ◌∙◌}
use Rattle.std.specs.Str.Parse.{digits_value, IsNumeral}
use Rattle.vortex_table_tokens.proofs.Digits.{no_plus}
use Rattle.vortex_table_tokens.proofs.integers.read_digits.Goals as goal

pub returns-in-Ok-clause-digits : goal.returns-in-Ok-clause-digits
returns-in-Ok-clause-digits c =
    let same = no_plus c.args.bytes.now (sym c.has_plus.ensures ∙ c.if-has_plus.false) in
    subst (IsNumeral 10) same c.in-Ok.ensures.0.0

pub returns-in-Ok-clause-value : goal.returns-in-Ok-clause-value
returns-in-Ok-clause-value c =
    let same = no_plus c.args.bytes.now (sym c.has_plus.ensures ∙ c.if-has_plus.false) in
    ap (digits_value 10) (sym same) ∙ sym c.in-Ok.ensures.1
