-- One more content.
use Rattle.std.proofs.Common.{◌≡◌, Bool, true, false, not, cond, ◌||◌, List, [], ◌∷◌, ◌++◌, refl, sym, ap, ◌∙◌, ⊎_elim}
use Rattle.std.specs.List.{filter, list_any}
use Rattle.std.proofs.lemmas.Bool.{false≢true, cases_Bool}
use Rattle.std.proofs.lemmas.List.{append-nil}
use Rattle.std.proofs.lemmas.List.Elements.{filter-append}
use Rattle.vortex_model.specs.Content.{Content, null, is_null, equal_content}
use Rattle.vortex_model.proofs.Booleans.{or_false_left, or_false_right}
use Rattle.vortex_model_table.proofs.Equality.{content_so, content_passes}
use Rattle.vortex_arrays_dictionary.specs.Distinct.{distinct}

abbrev differs : Content → Content → Bool
differs x d = not (equal_content x d)

abbrev stands_in : Content → List Content → Bool
stands_in c ds = list_any (equal_content c) ds

back : (c d : Content) → equal_content c d ≡ false → equal_content d c ≡ false
back c d h = ⊎_elim (λ t. absurd (false≢true (sym h ∙ content_passes c d (sym (content_so d c t))))) (λ f. f) (cases_Bool (equal_content d c))

-- a null adds nothing
pub distinct-null : (cs : List Content) → distinct (cs ++ null ∷ []) ≡ distinct cs
distinct-null [] = refl
distinct-null (x ∷ cs) = ap (λ ds. cond (is_null x) ds (x ∷ filter (differs x) ds)) (distinct-null cs)

-- a content other than x occurs after x is removed exactly where it did before
without_other : (x c : Content) (ds : List Content) → equal_content x c ≡ false → stands_in c (filter (differs x) ds) ≡ stands_in c ds
without_other x c [] h = refl
without_other x c (d ∷ ds) h = ⊎_elim
    (λ e.
    let other : equal_content c d ≡ false = ap (equal_content c) (sym (content_so x d e)) ∙ back x c h in
    ap (λ b. stands_in c (cond (not b) (d ∷ filter (differs x) ds) (filter (differs x) ds))) e ∙ without_other x c ds h ∙ ap (λ b. b || stands_in c ds) (sym other))
    (λ e. ap (λ b. stands_in c (cond (not b) (d ∷ filter (differs x) ds) (filter (differs x) ds))) e ∙ ap (λ b. equal_content c d || b) (without_other x c ds h))
    (cases_Bool (equal_content x d))

-- the distinct contents of a list that begins with null, and with anything else
first_null : (x : Content) (cs : List Content) → is_null x ≡ true → distinct (x ∷ cs) ≡ distinct cs
first_null x cs e = ap (λ b. cond b (distinct cs) (x ∷ filter (differs x) (distinct cs))) e

first_other : (x : Content) (cs : List Content) → is_null x ≡ false → distinct (x ∷ cs) ≡ x ∷ filter (differs x) (distinct cs)
first_other x cs e = ap (λ b. cond b (distinct cs) (x ∷ filter (differs x) (distinct cs))) e

-- a new content becomes the last
pub distinct-new : (cs : List Content) (c : Content) → is_null c ≡ false → stands_in c (distinct cs) ≡ false → distinct (cs ++ c ∷ []) ≡ distinct cs ++ c ∷ []
distinct-new [] c n h = ap (λ b. cond b [] (c ∷ [])) n
distinct-new (x ∷ cs) c n h = ⊎_elim
    (λ e. first_null x (cs ++ c ∷ []) e ∙ distinct-new cs c n (ap (stands_in c) (sym (first_null x cs e)) ∙ h) ∙ ap (λ ds. ds ++ c ∷ []) (sym (first_null x cs e)))
    (λ e.
    let there : (equal_content c x || stands_in c (filter (differs x) (distinct cs))) ≡ false = ap (stands_in c) (sym (first_other x cs e)) ∙ h in
    let apart : equal_content x c ≡ false = back c x (or_false_left (equal_content c x) _ there) in
    let rest : stands_in c (distinct cs) ≡ false = sym (without_other x c (distinct cs) apart) ∙ or_false_right (equal_content c x) _ there in
    first_other x (cs ++ c ∷ []) e
    ∙ ap (λ ds. x ∷ filter (differs x) ds) (distinct-new cs c n rest)
    ∙ ap (λ ds. x ∷ ds) (filter-append (differs x) (distinct cs) (c ∷ []) ∙ ap (λ b. filter (differs x) (distinct cs) ++ cond (not b) (c ∷ []) []) apart)
    ∙ ap (λ ds. ds ++ c ∷ []) (sym (first_other x cs e)))
    (cases_Bool (is_null x))

-- a content that already occurs adds nothing
pub distinct-old : (cs : List Content) (c : Content) → is_null c ≡ false → stands_in c (distinct cs) ≡ true → distinct (cs ++ c ∷ []) ≡ distinct cs
distinct-old [] c n h = absurd (false≢true h)
distinct-old (x ∷ cs) c n h = ⊎_elim
    (λ e. first_null x (cs ++ c ∷ []) e ∙ distinct-old cs c n (ap (stands_in c) (sym (first_null x cs e)) ∙ h) ∙ sym (first_null x cs e))
    (λ e.
    let there : (equal_content c x || stands_in c (filter (differs x) (distinct cs))) ≡ true = ap (stands_in c) (sym (first_other x cs e)) ∙ h in
    let same : filter (differs x) (distinct (cs ++ c ∷ [])) ≡ filter (differs x) (distinct cs) = ⊎_elim
    (λ s. ⊎_elim
    (λ r. ap (filter (differs x)) (distinct-old cs c n r))
    (λ r. ap (filter (differs x)) (distinct-new cs c n r) ∙ filter-append (differs x) (distinct cs) (c ∷ [])
    ∙ ap (λ b. filter (differs x) (distinct cs) ++ cond (not b) (c ∷ []) []) (content_passes x c (sym (content_so c x s))) ∙ append-nil (filter (differs x) (distinct cs)))
    (cases_Bool (stands_in c (distinct cs))))
    (λ s. ap (filter (differs x)) (distinct-old cs c n (sym (without_other x c (distinct cs) (back c x s)) ∙ ap (λ b. b || stands_in c (filter (differs x) (distinct cs))) (sym s) ∙ there)))
    (cases_Bool (equal_content c x)) in
    first_other x (cs ++ c ∷ []) e ∙ ap (λ ds. x ∷ ds) same ∙ sym (first_other x cs e))
    (cases_Bool (is_null x))
