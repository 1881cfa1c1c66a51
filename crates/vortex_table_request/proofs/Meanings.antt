-- Sessions with the same plugins read the same types.
use Rattle.std.proofs.Common.{◌≡◌, ℕ, List, ap}
use Rattle.vortex_dtype_proto.specs.Messages.{Tree, reading}
use Rattle.vortex_dtype_proto.specs.Sessions.{Session, no_plugins}

eq_session : (s : Session) → ((id : List ℕ) → s id ≡ no_plugins id) → s ≡ no_plugins
eq_session s h = λ i id. h id i

pub reading_without : (s : Session) → ((id : List ℕ) → s id ≡ no_plugins id) → (t : Tree) → reading s t ≡ reading no_plugins t
reading_without s h t = ap (λ r. reading r t) (eq_session s h)
