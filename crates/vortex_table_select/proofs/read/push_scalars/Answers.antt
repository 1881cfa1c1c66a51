use Rattle.std.proofs.Common.{◌≡◌, ◌++◌, ◌∷◌, ◌∙◌, ap, sym, subst, map, IsTrue, List, Option}
use Rattle.std.specs.Vec.Iter.{into_iter_items}
use Rattle.vortex_model.specs.Content.{content_of}
use Rattle.vortex_model.specs.Valid.{valid}
use Rattle.vortex_dtype_core.specs.View.{type_of}
use Rattle.vortex_scalar_value.specs.View.{raw_in, content_in}
use Rattle.vortex_scalar_value.specs.declared.scalar_value.ScalarValue.{ScalarValue}
use Rattle.vortex_scalar_core.specs.Scalar.{scalar_content}
use Rattle.vortex_table_select.proofs.Taken.{one_scalar, first_left, kinds_more}
use Rattle.vortex_table_select.proofs.read.push_scalars.Goals as goal

pub new_unchecked-requires : goal.new_unchecked-requires
new_unchecked-requires c =
    let k = type_of c.args.dtype.now in let v = c.in-Some.value in
    let left : List (Option ScalarValue) = into_iter_items c.loop-value.value-iterator in
    let behind : List (Option ScalarValue) = into_iter_items c.next.new.self in
    let here = (first_left (λ x. IsTrue (valid k (raw_in x))) left behind v c.in-Some.ensures.steps.0 c.loop-value.invariant.left).0 in
    subst (λ t. IsTrue (valid t (raw_in v))) (sym c.in_ok-own.ensures.cases) here

pub loop-value-preserved : goal.loop-value-preserved
loop-value-preserved c =
    let k = type_of c.args.dtype.now in let v = c.in-Some.value in let at = c.loop-value in
    let left : List (Option ScalarValue) = into_iter_items at.value-iterator in
    let behind : List (Option ScalarValue) = into_iter_items c.next.new.self in
    let next : left ≡ v ∷ behind = c.in-Some.ensures.steps.0 in
    let found = at.found.items in let more = c.push.new.self.items in let s = c.new_unchecked.result in
    let all = map scalar_content c.args.found.now.items ++ map content_in c.args.values.items in
    record {
      content = one_scalar found more left behind v s all next c.in_ok-push.ensures.items (ap content_of c.new_unchecked.ensures.value) at.invariant.content;
      left = (first_left (λ x. IsTrue (valid k (raw_in x))) left behind v next at.invariant.left).1;
      kind = kinds_more k found more s c.in_ok-push.ensures.items at.invariant.kind (c.new_unchecked.ensures.dtype ∙ c.in_ok-own.ensures.cases);
    }
