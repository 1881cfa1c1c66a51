use Rattle.std.proofs.Common.{rules, ◌≡◌, ◌<◌, ◌∙◌, length, sym, ap, subst, arith}
use Rattle.vortex_arrays_buffer.specs.PrimitiveBuffers.{kind_of_numbers, integers_of}
use Rattle.vortex_arrays_model.specs.Layout.{numbers, required, len_of}
use Rattle.vortex_arrays_model.specs.Parts.{AreWithin}
use Rattle.vortex_arrays_model.specs.Referenced.{MarksReferenced}
use Rattle.vortex_arrays_core.specs.LayoutOf.{layout_of, valid_of}
use Rattle.vortex_arrays_model.proofs.ReferencedLemmas.{marks}
use Rattle.vortex_arrays_validity.proofs.PlaceLemmas.{place_count}
use Rattle.vortex_arrays_nested.proofs.MarkLemmas.{place_marked, no_place_marked}
use borrow.Author.Differences.{ints}
use Rattle.vortex_arrays_nested.proofs.referenced.referenced_marks.Goals as goal
use Rattle.vortex_arrays_nested.proofs.referenced.referenced_marks.Goals.{then-value-count, else-value-count}

pub loop-i-init : goal.loop-i-init
loop-i-init c = grind (ints, arith, marks)

pub numbers_marks-requires : goal.numbers_marks-requires
numbers_marks-requires c =
    let k = kind_of_numbers c.in-Primitive.items in
    let zs = integers_of c.in-Primitive.items in
    let are : c.args.codes.now ≡ numbers k zs required =
    sym c.layout.ensures.layout ∙ ap layout_of c.in-Primitive.is
    ∙ ap (λ v. numbers k zs (valid_of v)) c.in-NonNullable.is in
    subst (λ a. AreWithin a c.args.count) are c.requires.named

pub loop-i-preserved : goal.loop-i-preserved
loop-i-preserved c =
    let codes = c.args.codes.now in let ps = c.in_ok-named.named.items in
    let within : c.loop-i.i < length ps = search rules in
    elim c.if-value-count.branch [
      | then-value-count w ↦ record {
        count = search rules;
        marks = rw w.marks-is (place_marked codes c.args.count ps c.loop-i.i c.index-value.result.now c.args.mark c.loop-i.marks.items
            c.in_ok-named.ensures c.requires.named within (search rules) c.loop-i.invariant.count c.loop-i.invariant.marks (search rules));
      }
      | else-value-count w ↦ record {
        count = search rules;
        marks = rw w.marks-is (no_place_marked codes c.args.count ps c.loop-i.i c.index-value.result.now c.args.mark c.loop-i.marks.items
            c.in_ok-named.ensures c.requires.named within (search rules) c.loop-i.invariant.count c.loop-i.invariant.marks (search rules));
      }
    ]

pub returns-clause-marks : goal.returns-clause-marks
returns-clause-marks c =
    let many : length c.in_ok-named.named.items ≡ len_of c.args.codes.now = ap length c.in_ok-named.ensures ∙ place_count c.args.count c.args.codes.now in
    let all : c.loop-i.i ≡ len_of c.args.codes.now = omega (arith, many, c.loop-i-test.false, c.loop-i.auto.i-end, c.len-i-end.ensures, c.in_ok-named.named.ok.0) in
    subst (λ n. MarksReferenced c.args.codes.now n c.args.mark c.loop-i.marks.items) all c.loop-i.invariant.marks
