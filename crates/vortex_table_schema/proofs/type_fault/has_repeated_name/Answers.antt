use Rattle.std.proofs.Common.{◌≡◌, ◌-◌, ap, sym, ◌∙◌, not, ◌∷◌, drop, true, false, arith}
use Rattle.std.specs.BTreeSet.{contains}
use Rattle.vortex_model.specs.Kept.{names_distinct}
use Rattle.vortex_dtype_core.specs.View.{fields_of}
use Rattle.vortex_table_schema.specs.Cut.{text_cmp}
use Rattle.vortex_table_schema.proofs.Distinct.{drop-before, names_distinct-repeated, names_distinct-fresh, names_distinct-dropped, seen_more, was_there, was_new}
use Rattle.vortex_table_schema.proofs.type_fault.has_repeated_name.Goals as goal

pub returns-then-not-branch : goal.returns-then-not-branch
returns-then-not-branch c =
    let field = c.index-fields-rest.result in
    let rest = drop c.loop-rest.rest c.args.fields.now in
    let split : drop (c.loop-rest.rest - 1) c.args.fields.now ≡ field ∷ rest
    = drop-before c.args.fields.now c.loop-rest.rest field c.loop-rest-test.true c.loop-rest.invariant.within c.index-fields-rest.is in
    let named : c.as_str-name.result.now ≡ field.name = c.as_str-name.ensures ∙ ap (λ f. f.name) (sym c.index-fields-rest.is) in
    let met : contains text_cmp c.loop-rest.seen c.as_str-name.result ≡ true
    = was_there _ c.in_ok-insert.field-0 c.in_ok-insert.ensures.added c.if-not-branch.true in
    let repeated : names_distinct (fields_of (field ∷ rest)) ≡ false
    = names_distinct-repeated c.loop-rest.seen c.as_str-name.result field rest met c.loop-rest.invariant.seen named in
    let whole : names_distinct (fields_of c.args.fields.now) ≡ false
    = names_distinct-dropped c.args.fields.now (c.loop-rest.rest - 1) (ap (λ fs. names_distinct (fields_of fs)) split ∙ repeated) in
    sym (ap not whole)

pub loop-rest-preserved : goal.loop-rest-preserved
loop-rest-preserved c =
    let field = c.index-fields-rest.result in
    let rest = drop c.loop-rest.rest c.args.fields.now in
    let split : drop (c.loop-rest.rest - 1) c.args.fields.now ≡ field ∷ rest
    = drop-before c.args.fields.now c.loop-rest.rest field c.loop-rest-test.true c.loop-rest.invariant.within c.index-fields-rest.is in
    let named : c.as_str-name.result.now ≡ field.name = c.as_str-name.ensures ∙ ap (λ f. f.name) (sym c.index-fields-rest.is) in
    let fresh : contains text_cmp c.loop-rest.seen c.as_str-name.result ≡ false
    = was_new _ c.in_ok-insert.field-0 c.in_ok-insert.ensures.added c.if-not-branch.false in
    record {
      within = omega arith;
      seen = rw split (seen_more c.loop-rest.seen c.insert.new.self c.as_str-name.result field rest named c.in_ok-insert.ensures.updates c.loop-rest.invariant.seen);
      distinct = rw split (names_distinct-fresh c.loop-rest.seen c.as_str-name.result field rest fresh c.loop-rest.invariant.seen named c.loop-rest.invariant.distinct);
    }
