-- Rows that are written one after another.
use Rattle.std.proofs.Common.{◌≡◌, refl, sym, ap, ◌∙◌, ℕ, ◌+◌, ◌<◌, List, [], ◌∷◌, ◌++◌, length, map, drop, get_or, Bool, true, append_assoc}
use Rattle.std.proofs.lemmas.List.{map-append}
use Rattle.vortex_model.specs.Content.{Content}
use Rattle.vortex_arrays_model.specs.Layout.{content_at}
use Rattle.vortex_table_response.specs.Text.{content_text, rows_text}
use Rattle.vortex_table_response.specs.type_texts.Text.{comma}
use Rattle.vortex_table_select.specs.Selected.{rows_in}
use Rattle.vortex_table_select.specs.declared.selection.Selection.{Selection}
use Rattle.vortex_table_select.proofs.Taken.{rows_from}
use Rattle.vortex_table_run.specs.Order.{is_later}

-- ---- rows one after another

later_true : {X : Type 0} (xs : List X) → is_later true xs ≡ true
later_true [] = refl
later_true (x ∷ xs) = refl

later_map : {X Y : Type 0} (f : X → Y) (later : Bool) (xs : List X) → is_later later (map f xs) ≡ is_later later xs
later_map f later [] = refl
later_map f later (x ∷ xs) = refl

rows_more : (later : Bool) (xs ys : List Content) → rows_text later (xs ++ ys) ≡ rows_text later xs ++ rows_text (is_later later xs) ys
rows_more later [] ys = refl
rows_more later (x ∷ xs) ys =
    let front = comma later ++ content_text x in
    ap (λ t. front ++ t) (rows_more true xs ys ∙ ap (λ b. rows_text true xs ++ rows_text b ys) (later_true xs))
    ∙ sym (append_assoc front (rows_text true xs) (rows_text true ys))

-- what is written of one selection more, and the string of the others, is the string of all
pub selection_more : (keep : Content → Content) (ss : List Selection) (k : ℕ) (s : Selection) (rows : List ℕ) (later more : Bool) (old new all : List ℕ)
    → k < length ss → s ≡ get_or ss k s → rows ≡ s.rows.items → more ≡ is_later later rows
    → new ≡ old ++ rows_text later (map keep (map (content_at s.array) rows))
    → old ++ rows_text later (map keep (rows_in (drop k ss))) ≡ all
    → new ++ rows_text more (map keep (rows_in (drop (k + 1) ss))) ≡ all
selection_more keep ss k s rows later more old new all l e are m made h =
    let here : List Content = map (content_at s.array) rows in
    let rest = map keep (rows_in (drop (k + 1) ss)) in
    let next : more ≡ is_later later (map keep here) = m ∙ sym (later_map (content_at s.array) later rows) ∙ sym (later_map keep later here) in
    let split : rows_text later (map keep (rows_in (drop k ss))) ≡ rows_text later (map keep here) ++ rows_text (is_later later (map keep here)) rest
    = ap (λ rs. rows_text later (map keep rs)) (rows_from ss k s l e ∙ ap (λ rs. map (content_at s.array) rs ++ rows_in (drop (k + 1) ss)) (sym are))
    ∙ ap (rows_text later) (map-append keep here (rows_in (drop (k + 1) ss)))
    ∙ rows_more later (map keep here) rest in
    (λ j. made j ++ rows_text (next j) rest)
    ∙ append_assoc old (rows_text later (map keep here)) (rows_text (is_later later (map keep here)) rest)
    ∙ ap (λ t. old ++ t) (sym split) ∙ h

-- ---- pieces
