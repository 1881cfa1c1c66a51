-- Statements of the laws of messages and of the types that they describe.
use Rattle.std.specs.Prelude.{◌≡◌, true}
use Rattle.vortex_model.specs.LogicalType.{LogicalType}
use Rattle.vortex_dtype_proto.specs.Sessions.{Session, no_plugins}
use Rattle.vortex_dtype_proto.specs.Messages.{Tree, read, read_if, reading, written}
use Rattle.vortex_dtype_proto.specs.Shapes.{is_shaped}

-- the message written for a type reads as that type where the type is well-formed, and else is
-- malformed
abbrev pub WrittenTreesReadAlike : Type 0
WrittenTreesReadAlike = (k : LogicalType) → reading no_plugins (written k) ≡ read_if (is_shaped k) k

-- a type that is read in any session is well-formed
abbrev pub ReadTypesAreShaped : Type 0
ReadTypesAreShaped =
    (s : Session) (t : Tree) (k : LogicalType) → reading s t ≡ read k → is_shaped k ≡ true
