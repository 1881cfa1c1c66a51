-- JSON text that is written, refused or printed.
use Rattle.std.specs.Prelude.{◌≡◌, ℕ, List, Bool, Option, Some, None, Result, Ok, Err, if◌then◌else◌, codes}
use Rattle.vortex_table_text.specs.declared.error.TextError.{TextError}
use Rattle.vortex_table_text.specs.declared.error.TextError.TheVariants.{Memory, NoText}

-- What was written, in the given view, is the JSON text, and it was refused where there is none,
-- unless memory ran out.
abbrev pub Writes : {X : Type 0} → (X → List ℕ) → Result X TextError → Option (List ℕ) → Type 0
Writes view (Ok x) text = text ≡ Some (view x)
Writes view (Err Memory) text = Unit {0}
Writes view (Err NoText) text = text ≡ None

-- the JSON text, if there is one
abbrev pub text_if : Bool → List ℕ → Option (List ℕ)
text_if b text = if b then Some text else None

-- what is printed
abbrev pub shown_text : Option (List ℕ) → List ℕ
shown_text None = codes "no text"
shown_text (Some text) = text
