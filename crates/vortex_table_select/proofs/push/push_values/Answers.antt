use Rattle.std.proofs.Common.{◌≡◌, ◌<◌, ◌++◌, ◌∷◌, [], ◌+◌, ap, sym, refl, ◌∙◌, length, map, take, get_or, arith}
use Rattle.std.specs.Prelude.{slice_set}
use Rattle.std.proofs.lemmas.List.{take_more, length-map, length-take-le, length-set, map-append, get_or_default}
use Rattle.vortex_scalar_value.specs.View.{raw_in}
use Rattle.vortex_table_select.specs.Lists.{with_each, lists_of}
use Rattle.vortex_table_select.proofs.Lists.{with_none, one_grown, length-lists_of}
use Rattle.vortex_table_select.proofs.push.push_values.Goals as goal

pub loop-k-init : goal.loop-k-init
loop-k-init g c = record { many = c.requires.many; pushed = sym (with_none (lists_of c.args.lists.now)) }

pub loop-k-preserved : goal.loop-k-preserved
loop-k-preserved g c =
    let k = c.loop-k.k in let lists = c.loop-k.lists in let rows = c.args.rows.now in
    let raw_at = g.V.Values.raw_at c.args.values.now in
    let v = c.in_ok-value.value in let list = get_or lists k c.index-lists-k.result in let more = c.push.new.self in
    let old = lists_of c.args.lists.now in
    let inside : k < length lists = omega (arith, c.loop-k.invariant.many, c.loop-k-test.true) in
    let begun : k < length old = let n = length-lists_of c.args.lists.now in omega (arith, n, c.requires.many, c.loop-k-test.true) in
    let many : length (map raw_at (take k rows)) ≡ k = length-map (take k rows) raw_at ∙ length-take-le k rows (omega (arith, c.loop-k-test.true)) in
    let grown : more.items ≡ list.items ++ v ∷ [] = grind (arith, c.in_ok-push.ensures.items, c.index-lists-k.is) in
    let longer : map raw_at (take (k + 1) rows) ≡ map raw_at (take k rows) ++ raw_in v ∷ []
    = ap (map raw_at) (take_more rows k 0 c.loop-k-test.true) ∙ map-append raw_at (take k rows) (get_or rows k 0 ∷ []) ∙ ap (λ x. map raw_at (take k rows) ++ x ∷ []) (sym c.in_ok-value.ensures) in
    record {
      many = length-set lists k more ∙ c.loop-k.invariant.many;
      pushed = one_grown lists (slice_set lists k more) k list more v old (map raw_at (take k rows)) c.loop-k.invariant.pushed many begun inside
          (get_or_default lists k c.index-lists-k.result list inside) refl grown ∙ ap (with_each old) (sym longer);
    }
