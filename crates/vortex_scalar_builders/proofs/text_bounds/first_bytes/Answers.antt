use Rattle.std.proofs.Common.{◌∙◌, ap, take, sym, subst, IsUtf8}
use Rattle.std.proofs.lemmas.Str.{IsUtf8-take}
use Rattle.vortex_scalar_builders.proofs.text_bounds.first_bytes.Goals as goal

pub from_known_utf8-requires : goal.from_known_utf8-requires
from_known_utf8-requires c =
    let is = c.truncate.ensures ∙ ap (λ v. take c.args.end v) c.into_bytes-bytes.ensures.value in
    let whole = subst IsUtf8 c.into_bytes-bytes.ensures.value c.into_bytes-bytes.ensures.utf8 in
    subst IsUtf8 (sym is) (IsUtf8-take c.args.value c.args.end whole c.requires)
