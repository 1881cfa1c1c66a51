use Rattle.std.proofs.Common.{◌++◌, ◌∷◌, [], true, refl, ap, ◌∙◌}
use Rattle.vortex_dtype_core.specs.View.{type_of}
use Rattle.vortex_table_response.specs.type_texts.Text.{type_text}
use Rattle.vortex_table_text.proofs.WrittenLemmas.{type_line_again}
use Rattle.vortex_table_text.proofs.written.type_line.Goals as goal

pub returns-clause-round_trip : goal.returns-clause-round_trip
returns-clause-round_trip c =
    let k = type_of c.args.dtype.now in
    type_line_again k true c.push.new.self.items c.if-not-has_text_within.ensures.text refl c.if-not-has_text_within.ensures.names
    (c.in_ok-push.ensures.items ∙ ap (λ s. s ++ 10 ∷ []) (c.in_ok-push_dtype.ensures ∙ ap (λ s. s ++ type_text k) c.new-line.ensures.items))
