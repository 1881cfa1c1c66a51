-- Lines, and the sizes of their parts.
use Rattle.std.proofs.Common.{◌≡◌, ℕ, List, Bool, true, false, cond, Option, None, refl, ap, ◌∙◌}
use Rattle.std.specs.Str.{is_utf8, IsUtf8}
use Rattle.std.proofs.lemmas.Str.{IsUtf8-from_is_utf8, is_utf8-from_IsUtf8}
use Rattle.serde_json.specs.Data.{Data}
use Rattle.serde_json.specs.Read.{read}
use Rattle.vortex_table_request.specs.Parsed.{data_of}

pub data_of-text : (line : List ℕ) (o : Option Data) → IsUtf8 line → read line ≡ o → data_of line ≡ o
data_of-text line o u e = ap (λ b. cond b (read line) None) (is_utf8-from_IsUtf8 line u) ∙ e

refused : (line : List ℕ) (b : Bool) → is_utf8 line ≡ b → (IsUtf8 line → read line ≡ None) → cond b (read line) None ≡ None
refused line true e h = h (IsUtf8-from_is_utf8 line e)
refused line false e h = refl

pub data_of-refused : (line : List ℕ) → (IsUtf8 line → read line ≡ None) → data_of line ≡ None
data_of-refused line h = refused line (is_utf8 line) refl h
