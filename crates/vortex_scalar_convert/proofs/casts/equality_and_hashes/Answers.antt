use Rattle.std.proofs.Common.{◌≡◌, ◌∙◌, sym}
use Rattle.std.specs.List.{fold}
use Rattle.vortex_scalar_core.specs.Equality.{eq_scalars_hash_alike}
use Rattle.vortex_scalar_convert.proofs.casts.equality_and_hashes.Goals as goal

pub returns-clause-alike : goal.returns-clause-alike
returns-clause-alike g c = λ e same.
    let fed = eq_scalars_hash_alike c.args.left.now c.args.right.now (sym c.eq_ignore_nullability.ensures ∙ e) in
    c.hash.ensures ∙ (λ i. fold g.H.Hasher.write (same i) (fed i)) ∙ sym c.hash-2.ensures
