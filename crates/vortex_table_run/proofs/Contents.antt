-- The strings of rows, written piece by piece.
use Rattle.std.proofs.Common.{◌≡◌, ◌<◌, ◌+◌, ◌-◌, ℕ, suc, Bool, true, List, [], ◌∷◌, ◌++◌, codes, refl, sym, ap, ◌∙◌, append_assoc, arith}
use Rattle.vortex_model.specs.Content.{Content, first}
use Rattle.vortex_arrays_model.specs.Layout.{Layout, content_at, row_at, span}
use Rattle.vortex_arrays_model.specs.Parts.{columns_of}
use Rattle.vortex_arrays_model.proofs.PicksLemmas.{field_size}
use Rattle.vortex_arrays_model.proofs.CanonicalLemmas.{offsets_are_integers}
use Rattle.vortex_arrays_core.proofs.RawRowsLemmas.{fields_within, size_without_names}
use Rattle.vortex_table_response.specs.type_texts.Text.{comma}
use Rattle.vortex_table_response.specs.Text.{content_text, contents_text}

-- names take no part in a row
pub row_without_names : (ns : List (List ℕ)) (fs : List Layout) (i : ℕ) → row_at (columns_of [] fs) i ≡ row_at (columns_of ns fs) i
row_without_names ns [] i = refl
row_without_names [] (a ∷ fs) i = refl
row_without_names (n ∷ ns) (a ∷ fs) i = ap (first (content_at a i)) (row_without_names ns fs i)

pub ruleset layouts = (row_without_names, fields_within, size_without_names, field_size, offsets_are_integers)

pieces : (a b d s t u : List ℕ) → b ≡ a ++ s → d ≡ b ++ t → d ++ u ≡ a ++ (s ++ t ++ u)
pieces a b d s t u p q = rw (q, p) (simp append_assoc)

span_from : (f : ℕ → Content) (start k count : ℕ) → k < count → span f (start + k) (count - k) ≡ first (f (start + k)) (span f (start + (k + 1)) (count - (k + 1)))
span_from f start k count l =
    let left : count - k ≡ suc (count - (k + 1)) = omega (arith, l) in
    let next : start + k + 1 ≡ start + (k + 1) = omega arith in
    ap (span f (start + k)) left ∙ ap (λ n. first (f (start + k)) (span f n (count - (k + 1)))) next

-- one more of the rows that follow one another
pub one_more_row : (a b d x : List ℕ) (later : Bool) (f : ℕ → Content) (start k count : ℕ) → k < count → b ≡ a ++ comma later → d ≡ b ++ content_text (f (start + k))
    → a ++ contents_text later (span f (start + k) (count - k)) ≡ x → d ++ contents_text true (span f (start + (k + 1)) (count - (k + 1))) ≡ x
one_more_row a b d x later f start k count l p q r =
    pieces a b d (comma later) (content_text (f (start + k))) (contents_text true (span f (start + (k + 1)) (count - (k + 1)))) p q
    ∙ ap (λ cs. a ++ contents_text later cs) (sym (span_from f start k count l)) ∙ r

-- what is between brackets
pub in_brackets : (old t a b new : List ℕ) → a ≡ old ++ codes "[" → b ≡ a ++ t → new ≡ b ++ codes "]" → new ≡ old ++ (codes "[" ++ t ++ codes "]")
in_brackets old t a b new p q r = rw (r, q, p) (simp append_assoc)

pub ruleset brackets = (in_brackets)
