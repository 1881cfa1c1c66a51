use Rattle.std.proofs.Common.{◌<◌, sym, arith}
use Rattle.std.proofs.lemmas.List.Elements.{All-from_get_or, recursion_from_All}
use Rattle.vortex_model.specs.LogicalType.{binary, non_nullable}
use Rattle.vortex_model.specs.Valid.{AreBytes}
use Rattle.vortex_scalar_ops.proofs.LeafValues.{has-byte_string}
use Rattle.vortex_scalar_core.proofs.from_native.tell_bytes.Goals as goal

pub returns : goal.returns
returns c =
    let bytes : AreBytes c.args.bytes.now = recursion_from_All (λ b. b < 256) c.args.bytes.now (All-from_get_or (λ b. b < 256) c.args.bytes.now 0 (λ k _. omega (arith, c.type_inv.bytes k))) in
    sym (has-byte_string (binary non_nullable) c.args.bytes.now bytes)
