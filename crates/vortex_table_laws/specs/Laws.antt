-- What the answers of two calls have to do with one another.
use Rattle.std.specs.Prelude.{◌≡◌, List, [], ◌∷◌, ◌++◌, Result, IfOk}
use Rattle.vortex_model.specs.Content.{Content}
use Rattle.vortex_table_schema.specs.Answer.{answer_of}
use Rattle.vortex_table_schema.specs.declared.answer.ScanAnswer.{ScanAnswer}
use Rattle.vortex_table_schema.specs.declared.error.TableError.{TableError}

-- what holds of two scans where both were accepted
abbrev pub OnBoth : (ScanAnswer → ScanAnswer → Type 0) → Result ScanAnswer TableError →
    Result ScanAnswer TableError → Type 0
OnBoth Holds one other = IfOk one (λ a. IfOk other (λ b. Holds a b))

-- what holds of the answers of several scans where all were accepted
abbrev pub OnAll : (List ScanAnswer → Type 0) → List (Result ScanAnswer TableError) → Type 0
OnAll Holds [] = Holds []
OnAll Holds (r ∷ results) = IfOk r (λ a. OnAll (λ answers. Holds (a ∷ answers)) results)

-- the answers have the same rows
abbrev pub HaveSameRows : ScanAnswer → ScanAnswer → Type 0
HaveSameRows a b = (answer_of b).rows ≡ (answer_of a).rows

-- the same in all parts: rows, type, chunks that are skipped and taken whole, counts
abbrev pub AreSame : ScanAnswer → ScanAnswer → Type 0
AreSame a b = answer_of b ≡ answer_of a

-- the second answer has the rows of the first, and then these
abbrev pub HasMoreRows : List Content → ScanAnswer → ScanAnswer → Type 0
HasMoreRows more a b = (answer_of b).rows ≡ (answer_of a).rows ++ more
