use Rattle.std.proofs.Common.{◌++◌, ◌∷◌, [], chars, string_bytes, rules}
use Rattle.vortex_model_laws.proofs.Raised.{raise_made}
use Rattle.vortex_scalar_builders.proofs.raising.raise.Goals as goal

pub returns-in_ok-raised-in-Some : goal.returns-in_ok-raised-in-Some
returns-in_ok-raised-in-Some c =
    raise_made c.args.text.now (chars c.in-Some.front.now ++ c.in-Some.higher ∷ []) (string_bytes c.in_ok-raised-in-Some.raised) c.utf8.text c.in-Some.ensures.parts c.in_ok-raised-in-Some.ensures

pub returns-in_err-raised-in-Some : goal.returns-in_err-raised-in-Some
returns-in_err-raised-in-Some c = search rules

pub with_last-requires-text-front : goal.with_last-requires-text-front
with_last-requires-text-front c κs = search rules

pub returns-in-None : goal.returns-in-None
returns-in-None c = search rules
