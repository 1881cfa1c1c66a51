use Rattle.std.proofs.Common.{◌≡◌, ◌+◌, Some, true, codes, is_some, option_and_then, map, arith, subst}
use Rattle.std.proofs.lemmas.Grind.{common_steps}
use Rattle.serde_json.specs.Find.{as_str, get}
use Rattle.serde_json.specs.View.{view}
use Rattle.vortex_table_request.specs.Kinds.{one_if}
use Rattle.vortex_table_request.specs.Line.{layouts_in}
use Rattle.vortex_table_request.specs.Parsed.{size_of}
use Rattle.vortex_table_request.specs.View.{layout_of}
use Rattle.vortex_table_tokens.proofs.MemberLemmas.{append_of}
use Rattle.vortex_table_tokens.proofs.line.append_with.Goals as goal

pub overflow_add-present_members : goal.overflow_add-present_members
overflow_add-present_members c = grind (arith, common_steps)

pub returns : goal.returns
returns c = λ ms is h.
    let n = c.in_ok-size.size in
    let d = view c.args.value.now in
    let names = map layout_of c.in_ok-layouts.layouts.items in
    let size : size_of d ≡ Some n = grind (arith, common_steps) in
    let fits : n ≡ 3 + one_if (is_some (get (codes "layouts") d)) = grind (arith, common_steps) in
    let hints : layouts_in (get (codes "layouts") d) ≡ Some names = grind (arith, common_steps) in
    let there : is_some (get (codes "dtype") d) ≡ true = grind (arith, common_steps) in
    append_of ms n names c.args.array (subst (λ x. size_of x ≡ Some n) is size) (subst (λ x. n ≡ 3 + one_if (is_some (get (codes "layouts") x))) is fits)
    (subst (λ x. option_and_then as_str (get (codes "cmd") x) ≡ Some (codes "append")) is c.in_ok-check_verb.ensures) (subst (λ x. layouts_in (get (codes "layouts") x) ≡ Some names) is hints) (subst (λ x. is_some (get (codes "dtype") x) ≡ true) is there) h
