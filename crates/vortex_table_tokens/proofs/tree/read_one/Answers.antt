use Rattle.std.proofs.Common.{◌≡◌, sym, ap, ◌∙◌, subst, rules}
use Rattle.std.proofs.lemmas.Result.{IfOk-weaker}
use Rattle.json.specs.Token.{Token}
use Rattle.serde_json.specs.Data.{null, boolean, string}
use Rattle.serde_json.specs.Find.{of_integer}
use Rattle.serde_json.specs.View.{view}
use Rattle.serde_json.specs.declared.value.Value.{String, Bool, Null, the_lemmas}
use Rattle.vortex_table_request.specs.Parsed.{keeps_whole}
use Rattle.vortex_table_tokens.specs.Begins.{IsOne}
use Rattle.vortex_table_tokens.proofs.Grammar.{begins_null, begins_boolean, begins_number, begins_string}
use Rattle.vortex_table_tokens.proofs.Wholes.{whole-of_integer}
use Rattle.vortex_table_tokens.proofs.tree.read_one.Goals as goal

pub returns-in-Null-clause-value : goal.returns-in-Null-clause-value
returns-in-Null-clause-value c =
    let seen : view Null ≡ null = search (rules, the_lemmas) in
    rw c.in-Null.is (subst (λ d. IsOne Token.null d) (sym seen) begins_null)

pub returns-in-Bool-clause-value : goal.returns-in-Bool-clause-value
returns-in-Bool-clause-value c =
    let b = c.in-Bool.truth in
    let seen : view (Bool b) ≡ boolean b = search (rules, the_lemmas) in
    rw c.in-Bool.is (subst (λ d. IsOne (Token.boolean b) d) (sym seen) (begins_boolean b))

pub returns-in-Number-clause-value : goal.returns-in-Number-clause-value
returns-in-Number-clause-value c =
    let s = c.in-Number.text.now in
    rw c.in-Number.is (IfOk-weaker c.read_number.result _ _ (λ v h. subst (λ d. IsOne (Token.number s) d) (sym h.2) (begins_number s (of_integer h.0) h.1)) c.read_number.ensures)

pub returns-in_ok-from_str-in-String-clause-value : goal.returns-in_ok-from_str-in-String-clause-value
returns-in_ok-from_str-in-String-clause-value c =
    let s = c.in-String.text.now in
    let seen : view (String c.in_ok-from_str-in-String.field-0) ≡ string s = search (rules, the_lemmas) in
    rw c.in-String.is (subst (λ d. IsOne (Token.string s) d) (sym seen) (begins_string s))

pub returns-in-Null-clause-whole : goal.returns-in-Null-clause-whole
returns-in-Null-clause-whole c = let seen : view Null ≡ null = search (rules, the_lemmas) in ap keeps_whole seen

pub returns-in-Bool-clause-whole : goal.returns-in-Bool-clause-whole
returns-in-Bool-clause-whole c =
    let b = c.in-Bool.truth in
    let seen : view (Bool b) ≡ boolean b = search (rules, the_lemmas) in
    ap keeps_whole seen

pub returns-in-Number-clause-whole : goal.returns-in-Number-clause-whole
returns-in-Number-clause-whole c =
    IfOk-weaker c.read_number.result _ _ (λ v h. ap keeps_whole h.2 ∙ whole-of_integer h.0) c.read_number.ensures

pub returns-in_ok-from_str-in-String-clause-whole : goal.returns-in_ok-from_str-in-String-clause-whole
returns-in_ok-from_str-in-String-clause-whole c =
    let s = c.in-String.text.now in
    let seen : view (String c.in_ok-from_str-in-String.field-0) ≡ string s = search (rules, the_lemmas) in
    ap keeps_whole seen
