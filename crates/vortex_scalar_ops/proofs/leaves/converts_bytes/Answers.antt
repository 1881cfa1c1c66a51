use Rattle.std.proofs.Common.{◌<◌, arith}
use Rattle.std.proofs.lemmas.List.Elements.{All-from_get_or, recursion_from_All}
use Rattle.vortex_model.specs.Valid.{AreBytes}
use Rattle.vortex_dtype_core.specs.View.{type_of}
use Rattle.vortex_scalar_ops.proofs.LeafValues.{valid-byte_string}
use Rattle.vortex_scalar_ops.proofs.leaves.converts_bytes.Goals as goal

pub returns-then-is_binary-clause-valid : goal.returns-then-is_binary-clause-valid
returns-then-is_binary-clause-valid c =
    let bytes : AreBytes c.args.bytes.now = recursion_from_All (λ b. b < 256) c.args.bytes.now (All-from_get_or (λ b. b < 256) c.args.bytes.now 0 (λ k _. omega (arith, c.type_inv.bytes k))) in
    λ h. valid-byte_string (type_of c.args.target.now) c.args.bytes.now bytes (cc (h, c.is_binary-then-is_binary.ensures))
