use Rattle.std.proofs.Common.{◌≡◌, ◌∙◌, ◌++◌, ◌+◌, ◌-◌, ◌<◌, ap, append_assoc, arith, pos, sym, w8, [], ◌∷◌}
use Rattle.std.proofs.lemmas.Int.{to_z_pos}
use Rattle.vortex_dtype_fields.specs.Records.{numbers_from}
use Rattle.vortex_dtype_fields.proofs.Choices.{numbers_next}
use Rattle.vortex_dtype_fields.proofs.union_variants_ext.numbers.Goals as goal

pub loop-n-preserved : goal.loop-n-preserved
loop-n-preserved c =
    let n = c.loop-n.n in
    let tags = c.loop-n.tags.items in
    let rest = numbers_from (n + 1) (c.args.many - (n + 1)) in
    let small : n < 128 = omega arith in
    let last : c.push.new.self.items ≡ tags ++ pos n ∷ [] = c.in_ok-push.ensures.items ∙ ap (λ z. tags ++ z ∷ []) (to_z_pos w8 n small) in
    ap (λ ts. ts ++ rest) last ∙ append_assoc tags (pos n ∷ []) rest ∙ ap (λ ts. tags ++ ts) (sym (numbers_next n c.args.many c.loop-n-test.true)) ∙ c.loop-n.invariant
