-- The command of a line, by its value.
use Rattle.std.proofs.Common.{◌≡◌, ℕ, List, [], Bool, Some, None, if◌then◌else◌, option_and_then, IsUtf8, IfSome, sym, ap, ◌∙◌, subst}
use Rattle.json.specs.Json.{value}
use Rattle.json.specs.Lex.{tokens}
use Rattle.serde_json.specs.Data.{Data, object}
use Rattle.serde_json.specs.Read.{of_json, converted}
use Rattle.vortex_table_request.specs.Line.{command_in}
use Rattle.vortex_table_request.specs.Parsed.{data_of, keeps_whole}
use Rattle.vortex_table_request.proofs.Readings.{data_of-text}
use Rattle.vortex_table_tokens.specs.Values.{IsWholeText, IsCommandOf}
use Rattle.vortex_table_request.specs.View.{HasHintsOf}
use Rattle.vortex_table_request.specs.declared.command.Command.{Command}
use Rattle.vortex_table_tokens.proofs.Grammar.{whole_read}

data_read : (line : List ℕ) (d : Data) → IsUtf8 line → converted of_json (value 127 (tokens line)) ≡ Some (d, []) → data_of line ≡ Some d
data_read line d utf8 e = data_of-text line (Some d) utf8 (whole_read line d e)

pub line_read : (line text : List ℕ) (command : Command) → text ≡ line → IsUtf8 line → IsWholeText text command → IsCommandOf line command
line_read line text command same utf8 h =
    let d = h.0 in
    let begins : converted of_json (value 127 (tokens line)) ≡ Some (d, []) = ap (λ (s : List ℕ). converted of_json (value 127 (tokens s))) (sym same) ∙ h.1.0 in
    let found = data_read line d utf8 begins in (
      ap (option_and_then (λ x. if keeps_whole x then command_in x else None)) found ∙ ap (λ (b : Bool). if b then command_in d else None) h.2 ∙ h.3.0,
      subst (λ o. IfSome o (λ object. HasHintsOf object command)) (sym found) h.3.1,
    )
