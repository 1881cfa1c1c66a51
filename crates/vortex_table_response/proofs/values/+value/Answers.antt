use Rattle.std.proofs.Common.{◌≡◌, ap, ◌∙◌, sym, false, codes, ◌++◌, List, ℕ}
use Rattle.vortex_model.specs.Content.{Raw, raw_tuple, content_of, contents_of}
use Rattle.vortex_scalar_value.specs.View.{raw_of, raws_in}
use Rattle.vortex_scalar_value.proofs.Views.{raw_of-Tuple}
use Rattle.vortex_table_response.specs.Text.{content_text, contents_text}
use Rattle.vortex_table_response.proofs.type_texts.Pieces.{three_pieces}
use Rattle.vortex_table_response.proofs.values.+value.Goals as goal

pub push_value-returns-in_ok-push-in-Tuple-2 : goal.push_value-returns-in_ok-push-in-Tuple-2
push_value-returns-in_ok-push-in-Tuple-2 t c =
    let e : raw_of c.args.value.now ≡ raw_tuple (raws_in c.in-Tuple.values.items) = ap raw_of c.in-Tuple.is ∙ raw_of-Tuple c.in-Tuple.values in
    let f = ap (λ (vs : List _). contents_text false (contents_of (raws_in vs))) c.deref.ensures.value in
    three_pieces c.args.out.now.items (codes "[") _ (codes "]") _ _ _ c.in_ok-push-in-Tuple.ensures.items c.in_ok-push_values-in-Tuple.ensures c.in_ok-push-in-Tuple-2.ensures.items
    ∙ ap (λ (s : List ℕ). c.args.out.now.items ++ (codes "[" ++ (s ++ codes "]"))) f
    ∙ ap (λ (r : Raw). c.args.out.now.items ++ content_text (content_of r)) (sym e)
