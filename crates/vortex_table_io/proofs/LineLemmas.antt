-- The lines of an input that begins with a line.
use Rattle.std.proofs.Common.{◌≡◌, ◌≢◌, ℕ, List, [], ◌∷◌, ◌++◌, refl, ap, ◌∙◌, arith, All, flat_map, append_assoc}
use Rattle.std.proofs.lemmas.List.Elements.{recursion_from_All}
use Rattle.std.specs.List.{AllByRecursion}
use Rattle.std.proofs.lemmas.Bool.Decides.{nat_tests}
use Rattle.vortex_model_table.specs.Reply.{lines, onto_first_line}
use Rattle.vortex_table_io.specs.Lines.{IsOneLine, with_lf}

-- a line of bytes without LF
abbrev Plain : List ℕ → Type 0
Plain bytes = AllByRecursion (λ b. b ≢ 10) bytes

step : (b : ℕ) (bs : List ℕ) → b ≢ 10 → lines (b ∷ bs) ≡ onto_first_line b (lines bs)
step b bs n = grind (arith, nat_tests, n)

ends_plain : (line rest : List ℕ) → Plain line → lines (line ++ 10 ∷ rest) ≡ line ∷ lines rest
ends_plain [] rest p = refl
ends_plain (b ∷ bs) rest p = step b (bs ++ 10 ∷ rest) p.0 ∙ ap (onto_first_line b) (ends_plain bs rest p.1)

last_plain : (b : ℕ) (bs : List ℕ) → Plain (b ∷ bs) → lines (b ∷ bs) ≡ (b ∷ bs) ∷ []
last_plain b [] p = step b [] p.0
last_plain b (c ∷ bs) p = step b (c ∷ bs) p.0 ∙ ap (onto_first_line b) (last_plain c bs p.1)

-- a first line that has its LF
pub lines-line : (line rest : List ℕ) → IsOneLine line → lines (line ++ 10 ∷ rest) ≡ line ∷ lines rest
lines-line line rest h = ends_plain line rest (recursion_from_All (λ b. b ≢ 10) line h)

-- a last line that lacks its LF
pub lines-last : (line : List ℕ) → IsOneLine line → line ≢ [] → lines line ≡ line ∷ []
lines-last [] h ne = absurd (ne refl)
lines-last (b ∷ bs) h ne = last_plain b bs (recursion_from_All (λ b. b ≢ 10) (b ∷ bs) h)

-- lines with their LFs, and a last one without
lines-each : (done : List (List ℕ)) (left : List ℕ) → AllByRecursion IsOneLine done → lines (flat_map with_lf done ++ left) ≡ done ++ lines left
lines-each [] left h = refl
lines-each (l ∷ done) left h =
    ap lines (append_assoc (with_lf l) (flat_map with_lf done) left ∙ append_assoc l (10 ∷ []) (flat_map with_lf done ++ left))
    ∙ lines-line l (flat_map with_lf done ++ left) h.0 ∙ ap (λ (ls : List (List ℕ)). l ∷ ls) (lines-each done left h.1)

pub lines-done : (done : List (List ℕ)) (left : List ℕ) → All IsOneLine done → lines (flat_map with_lf done ++ left) ≡ done ++ lines left
lines-done done left h = lines-each done left (recursion_from_All IsOneLine done h)
