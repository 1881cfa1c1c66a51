-- Values at the start of tokens, and the command of a line. No number is a float.
use Rattle.std.specs.Prelude.{◌≡◌, ℕ, List, [], true, Some, IfSome}
use Rattle.json.specs.Token.{Token, string}
use Rattle.json.specs.Lex.{tokens}
use Rattle.serde_json.specs.Data.{Data, Items}
use Rattle.vortex_model.specs.LogicalType.{LogicalType}
use Rattle.vortex_model.specs.Content.{Raw}
use Rattle.vortex_table_request.specs.Line.{command_in, command_of}
use Rattle.vortex_table_request.specs.Parsed.{data_of, keeps_whole, items_keep_whole}
use Rattle.vortex_table_request.specs.Rows.{reading}
use Rattle.vortex_table_request.specs.View.{shown, HasHintsOf}
use Rattle.vortex_table_request.specs.declared.command.Command.{Command}
use Rattle.vortex_table_tokens.specs.Begins.{Begins, BeginsItems, IsOne}

-- a value for which P holds
abbrev pub HasValue : ℕ → List Token → (Data → Type 0) → List Token → Type 0
HasValue depth old P new =
    (d : Data) × Begins depth old d new × (keeps_whole d ≡ true) × P d

-- items for which P holds, and the end of their array
abbrev pub HasItems : ℕ → List Token → (Items → Type 0) → List Token → Type 0
HasItems depth old P new =
    (ds : Items) × BeginsItems depth old ds new × (items_keep_whole ds ≡ true) × P ds

-- the token alone is a value that reads as this for the type
abbrev pub IsLeaf : LogicalType → Token → Raw → Type 0
IsLeaf k t r =
    (d : Data) × IsOne t d × (keeps_whole d ≡ true) × (reading k d ≡ Some r)

-- the string is an object that is this command, with the object's hints, and nothing else
abbrev pub IsWholeText : List ℕ → Command → Type 0
IsWholeText text command =
    HasValue 127 (tokens text)
    (λ d. (command_in d ≡ Some (shown command)) × HasHintsOf d command) []

-- the line is this command, with the line's hints
abbrev pub IsCommandOf : List ℕ → Command → Type 0
IsCommandOf line command =
    (command_of line ≡ Some (shown command))
    × IfSome (data_of line) (λ object. HasHintsOf object command)
