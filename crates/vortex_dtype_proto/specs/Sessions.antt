-- Plugins, and sessions of plugins.
use Rattle.std.specs.Prelude.{ℕ, suc, List, [], ◌∷◌, Option, Some, None, option_map, if◌then◌else◌}
use Rattle.std.specs.Str.{bytes_eq}
use Rattle.vortex_model.specs.LogicalType.{LogicalType}

-- the bytes that a plugin writes back for metadata over a storage, and none where it refuses
abbrev pub Plugin : Type 0
Plugin = List ℕ → LogicalType → Option (List ℕ)

-- the plugin of each id, where there is one
abbrev pub Session : Type 0
Session = List ℕ → Option Plugin

-- the session without plugins
abbrev pub no_plugins : Session
no_plugins id = None

-- the meaning of the first plugin that has the id
abbrev pub session_of : {B : Type 0} → (B → List ℕ) → (B → Plugin) → List B → Session
session_of name meaning [] id = None
session_of name meaning (b ∷ bs) id =
    if bytes_eq (name b) id then Some (meaning b) else session_of name meaning bs id

-- the index of the first plugin that has the id
abbrev pub place_of : {B : Type 0} → (B → List ℕ) → List B → List ℕ → Option ℕ
place_of name [] id = None
place_of name (b ∷ bs) id =
    if bytes_eq (name b) id then Some 0 else option_map suc (place_of name bs id)

-- the session with this plugin for its id, in place of an earlier one
abbrev pub with_plugin : List ℕ → Plugin → Session → Session
with_plugin name plugin s id = if bytes_eq name id then Some plugin else s id

-- absent metadata reads as empty
abbrev pub bytes_or_empty : Option (List ℕ) → List ℕ
bytes_or_empty None = []
bytes_or_empty (Some bs) = bs

-- without a plugin the metadata stays the same
abbrev pub admitted_by : Option Plugin → List ℕ → LogicalType → Option (List ℕ)
admitted_by None metadata k = Some metadata
admitted_by (Some plugin) metadata k = plugin metadata k

-- the metadata that an extension of this id has over this storage, where the session accepts it
abbrev pub admit : Session → List ℕ → Option (List ℕ) → LogicalType → Option (List ℕ)
admit s id metadata k = admitted_by (s id) (bytes_or_empty metadata) k
