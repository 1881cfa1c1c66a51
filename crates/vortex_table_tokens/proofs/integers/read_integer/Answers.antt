use Rattle.std.proofs.Common.{◌≡◌, ◌-◌, drop, get_or, length, true, false, Some, ◌==◌, sym, ap, ◌∙◌, subst, arith, take_all, length-drop}
use Rattle.std.specs.Prelude.{IfOk}
use Rattle.fast_float.specs.Text.{scan}
use Rattle.serde_json.specs.Find.{of_integer}
use Rattle.serde_json.specs.Read.{number_of, number_from}
use Rattle.vortex_table_tokens.proofs.integers.read_integer.Goals as goal

pub returns-then-has_minus : goal.returns-then-has_minus
unfolding number_of
returns-then-has_minus c =
    let s = c.as_bytes-bytes.result.now in
    let signed : (get_or s 0 0 == 45) ≡ true = sym c.if-has_minus.ensures.value in
    let rest = take_all (length s - 1) (drop 1 s) (omega (arith, length-drop 1 s)) in
    let read : number_from true (scan (drop 1 s)) ≡ number_of s = rw signed in
    let is = ap (λ bs. number_from true (scan bs)) rest ∙ read ∙ ap number_of c.as_bytes-bytes.ensures.value in
    subst (λ o. IfOk c.negative_of.result (λ z. o ≡ Some (of_integer z))) is c.negative_of.ensures

pub returns-else-has_minus : goal.returns-else-has_minus
unfolding number_of
returns-else-has_minus c =
    let s = c.as_bytes-bytes.result.now in
    let unsigned : (get_or s 0 0 == 45) ≡ false = sym c.if-has_minus.ensures.value in
    let read : number_from false (scan s) ≡ number_of s = rw unsigned in
    let is : number_from false (scan s) ≡ number_of c.args.text.now = read ∙ ap number_of c.as_bytes-bytes.ensures.value in
    subst (λ o. IfOk c.unsigned_of.result (λ z. o ≡ Some (of_integer z))) is c.unsigned_of.ensures
