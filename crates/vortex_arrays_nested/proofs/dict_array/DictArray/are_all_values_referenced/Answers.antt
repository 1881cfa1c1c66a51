use Rattle.std.proofs.Common.{◌≡◌, ◌↔◌, ◌∙◌, IsTrue, true, sym, ap, subst}
use Rattle.std.specs.List.{All}
use Rattle.vortex_arrays_model.specs.Layout.{len_of}
use Rattle.vortex_arrays_model.specs.Referenced.{MarksReferenced}
use Rattle.vortex_arrays_nested.specs.Shapes.{codes_in, values_in}
use Rattle.vortex_arrays_nested.proofs.CodeLemmas.{each_referenced}
use Rattle.vortex_arrays_nested.proofs.dict_array.DictArray.are_all_values_referenced.Goals as goal

pub returns : goal.returns
returns c = each_referenced (codes_in c.args.self.now) (values_in c.args.self.now) c.in_ok-marks.marks.items c.are_all_true-all.result
    (subst (λ codes. MarksReferenced codes (len_of codes) true c.in_ok-marks.marks.items) (sym (ap codes_in c.parts.ensures.parts)) c.in_ok-marks.ensures.marks)
    (c.in_ok-marks.ensures.count ∙ c.len.ensures.count ∙ ap len_of (sym (ap values_in c.parts.ensures.parts)))
    (subst (λ bits. IsTrue c.are_all_true-all.result ↔ All (λ bit. bit ≡ true) bits) c.deref.ensures.value c.are_all_true-all.ensures)
