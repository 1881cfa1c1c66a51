use Rattle.std.proofs.Common.{rules, ◌≡◌, ◌≢◌, ◌&&◌, ◌+◌, ap, sym, ◌∙◌, false, arith, drop}
use Rattle.vortex_model.specs.Content.{contents_of}
use Rattle.vortex_dtype_core.specs.View.{type_of}
use Rattle.vortex_scalar_value.specs.View.{raws_in}
use Rattle.vortex_scalar_value.specs.declared.error.ScalarError.TheVariants.{Memory, Invalid}
use Rattle.vortex_scalar_convert.specs.Reading.{all_read}
use Rattle.vortex_scalar_convert.proofs.Reading.{next_read, none_left, one_more, all_said}
use Rattle.vortex_scalar_convert.proofs.lists.read_items.Goals as goal

pub returns-in_err-read : goal.returns-in_err-read
returns-in_err-read g c =
    let i = c.loop-item.item-index in
    let items = c.args.items.now in
    let kind = type_of c.args.element.now in
    let reads = g.T.FromScalar.reads in
    let e = c.in_err-read.field-0.0 in
    let next = next_read reads kind items i c.item-item.result c.as_ref-item.result c.loop-item-test.true c.item-item.is c.as_ref-item.ensures.value in
    let why : e ≢ Memory → (e ≡ Invalid) × (all_read reads kind (contents_of (raws_in items)) ≡ false)
    = λ other.
    let said = c.in_err-read.ensures.1 other in
    (said.0, sym c.loop-item.invariant.left ∙ next ∙ ap (λ b. b && all_read reads kind (contents_of (raws_in (drop (i + 1) items)))) said.1) in
    let gives = c.from_residual-in_err-read.ensures.1 in
    search (rules, why, gives)

pub loop-item-preserved : goal.loop-item-preserved
loop-item-preserved g c =
    let i = c.loop-item.item-index in
    let items = c.args.items.now in
    let kind = type_of c.args.element.now in
    let reads = g.T.FromScalar.reads in
    let old = c.loop-item.invariant in
    let next = next_read reads kind items i c.item-item.result c.as_ref-item.result c.loop-item-test.true c.item-item.is c.as_ref-item.ensures.value in
    record {
      said = rw c.in_ok-push.ensures.items
          (one_more g.T.FromScalar.says c.loop-item.all.items items i c.in_ok-read.read c.item-item.result c.as_ref-item.result c.loop-item-test.true c.item-item.is c.as_ref-item.ensures.value c.in_ok-read.ensures.0.1 old.said);
      left = sym (next ∙ ap (λ b. b && all_read reads kind (contents_of (raws_in (drop (i + 1) items)))) c.in_ok-read.ensures.0.0) ∙ old.left;
    }

pub returns : goal.returns
returns g c =
    let i = c.loop-item.item-index in
    let items = c.args.items.now in
    let old = c.loop-item.invariant in
    ((sym old.left ∙ none_left g.T.FromScalar.reads (type_of c.args.element.now) items i (omega arith), all_said g.T.FromScalar.says c.loop-item.all.items items i (omega arith) old.said), tt)
