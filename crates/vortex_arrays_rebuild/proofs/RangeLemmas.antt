-- The rows of runs, range after range.
use Rattle.std.proofs.Common.{◌≡◌, ℕ, ℤ, pos, Bool, false, List, [], length, get_or, refl, sym, ap, subst, ◌∙◌}
use Rattle.std.proofs.lemmas.List.{get_or-map, length-map}
use Rattle.vortex_model.specs.LogicalType.{LogicalType, IntKind}
use Rattle.vortex_model.specs.Content.{Raw}
use Rattle.vortex_model.specs.Valid.{IsValid}
use Rattle.vortex_arrays_model.specs.Layout.{Strings, Layout, bools, numbers, strings, constant, dictionary, fixed_lists, list_views, records, Valid, Columns, len_of, IsSound, HasLength}
use Rattle.vortex_arrays_model.specs.Picks.{Picks, PicksValid, PicksColumns}
use Rattle.vortex_arrays_model.proofs.PicksLemmas.{picks_strings, picks_fixed_lists, picks_records, picks_required, picks_all_valid, picks_all_null, picks_by_array}
use Rattle.vortex_arrays_core.proofs.Gathered.{gathers_bools, gathers_numbers, gathers_constant, gathers_dictionary, gathers_list_views}
use Rattle.vortex_arrays_rebuild.specs.declared.runs.Run.{Run}
use Rattle.vortex_arrays_rebuild.specs.Runs.{positions_in, items_in, elements_at, FitWithin}
use Rattle.vortex_arrays_rebuild.proofs.CopyLemmas.{positions_within}
use Rattle.vortex_arrays_rebuild.proofs.ItemLemmas.{items_are}
use Rattle.vortex_arrays_rebuild.proofs.ScaledLemmas.{length_elements, element_at}

-- r has the rows of a in the runs
abbrev pub Copies : Layout → Layout → List Run → Type 0
Copies a r runs = Picks a r (length (positions_in runs)) (λ i. get_or (positions_in runs) i 0)

abbrev pub CopiesValid : Valid → Valid → List Run → Type 0
CopiesValid v w runs = PicksValid v w (length (positions_in runs)) (λ i. get_or (positions_in runs) i 0)

-- ---- leaves

fit_length : (n m : ℕ) (runs : List Run) → n ≡ m → FitWithin n runs → FitWithin m runs
fit_length n m runs e h = subst (λ k. FitWithin k runs) e h

many_items : {A : Type 0} (xs : List A) (d : A) (runs : List Run) → FitWithin (length xs) runs → length (items_in xs runs) ≡ length (positions_in runs)
many_items xs d runs h = ap length (items_are xs d runs h) ∙ length-map (positions_in runs) (λ i. get_or xs i d)

pub copied_bools_fit : (bs cs : List Bool) (w : Valid) (n : ℕ) (runs : List Run) → n ≡ length bs → FitWithin n runs → cs ≡ items_in bs runs → HasLength w (length (positions_in runs)) → IsSound (bools cs w)
copied_bools_fit bs cs w n runs e h same fits = subst (HasLength w) (sym (ap length same ∙ many_items bs false runs (fit_length n (length bs) runs e h))) fits

pub copied_numbers_fit : (xs ys : List ℤ) (w : Valid) (n : ℕ) (runs : List Run) → n ≡ length xs → FitWithin n runs → ys ≡ items_in xs runs → HasLength w (length (positions_in runs)) → HasLength w (length ys)
copied_numbers_fit xs ys w n runs e h same fits = subst (HasLength w) (sym (ap length same ∙ many_items xs (pos 0) runs (fit_length n (length xs) runs e h))) fits

pub ruleset leaves = (copied_bools_fit, copied_numbers_fit)

pub copies_bools : (bs : List Bool) (v w : Valid) (n : ℕ) (runs : List Run) → n ≡ length bs → FitWithin n runs → CopiesValid v w runs → Copies (bools bs v) (bools (items_in bs runs) w) runs
copies_bools bs v w n runs e h p = gathers_bools bs (items_in bs runs) v w (positions_in runs) (items_are bs false runs (fit_length n (length bs) runs e h)) p

pub copies_numbers : (k : IntKind) (xs : List ℤ) (v w : Valid) (n : ℕ) (runs : List Run) → IsSound (numbers k xs v) → n ≡ length xs → FitWithin n runs → CopiesValid v w runs → Copies (numbers k xs v) (numbers k (items_in xs runs) w) runs
copies_numbers k xs v w n runs s e h p =
    let fit : FitWithin (length xs) runs = fit_length n (length xs) runs e h in
    gathers_numbers k k xs (items_in xs runs) v w (positions_in runs) s (positions_within (length xs) runs fit) refl (items_are xs (pos 0) runs fit) p

pub copies_strings : (s : Strings) (xs bs : List (List ℕ)) (v w : Valid) (n : ℕ) (runs : List Run) → IsSound (strings s xs bs v) → n ≡ length xs → FitWithin n runs → CopiesValid v w runs → Copies (strings s xs bs v) (strings s (items_in xs runs) bs w) runs
copies_strings s xs bs v w n runs sound e h p =
    let ps : List ℕ = positions_in runs in
    let fit : FitWithin (length xs) runs = fit_length n (length xs) runs e h in
    picks_strings s xs (items_in xs runs) bs v w (length ps) (λ i. get_or ps i 0) sound (many_items xs [] runs fit) (λ i l. positions_within (length xs) runs fit i 0 l)
    (λ i l. ap (λ ys. get_or ys i []) (items_are xs [] runs fit) ∙ get_or-map (λ j. get_or xs j []) ps i 0 [] l) p

pub copied_strings_sound : (s : Strings) (xs bs : List (List ℕ)) (v w : Valid) (n : ℕ) (runs : List Run) → IsSound (strings s xs bs v) → n ≡ length xs → FitWithin n runs → CopiesValid v w runs → IsSound (strings s (items_in xs runs) bs w)
copied_strings_sound s xs bs v w n runs sound e h p = let q = copies_strings s xs bs v w n runs sound e h p in q.sound

pub copies_constant : (k j : LogicalType) (r q : Raw) (m n : ℕ) (runs : List Run) → j ≡ k → q ≡ r → IsValid k r → n ≡ length (positions_in runs) → Copies (constant k r m) (constant j q n) runs
copies_constant k j r q m n runs e d h many = subst (λ x. Copies (constant k r m) (constant j q x) runs) (sym many) (gathers_constant k j r q m (positions_in runs) e d h)

-- ---- arrays of arrays

pub copies_dictionary : (c r v : Layout) (g : Bool) (n : ℕ) (runs : List Run) → IsSound (dictionary c v g) → n ≡ len_of c → FitWithin n runs → Copies c r runs → Copies (dictionary c v g) (dictionary r v false) runs
copies_dictionary c r v g n runs s e h p = gathers_dictionary c r v g (positions_in runs) s (positions_within (len_of c) runs (fit_length n (len_of c) runs e h)) p

pub copied_dictionary_sound : (c r v : Layout) (g : Bool) (n : ℕ) (runs : List Run) → IsSound (dictionary c v g) → n ≡ len_of c → FitWithin n runs → Copies c r runs → IsSound (dictionary r v false)
copied_dictionary_sound c r v g n runs s e h p = let q = copies_dictionary c r v g n runs s e h p in q.sound

pub copies_list_views : (e o s q t : Layout) (g : Bool) (v w : Valid) (n : ℕ) (runs : List Run) → IsSound (list_views e o s g v) → n ≡ len_of o → FitWithin n runs → Copies o q runs → Copies s t runs → CopiesValid v w runs → Copies (list_views e o s g v) (list_views e q t false w) runs
copies_list_views e o s q t g v w n runs sound same h p r m = gathers_list_views e o s q t g v w (positions_in runs) sound (positions_within (len_of o) runs (fit_length n (len_of o) runs same h)) p r m

pub copied_list_views_sound : (e o s q t : Layout) (g : Bool) (v w : Valid) (n : ℕ) (runs : List Run) → IsSound (list_views e o s g v) → n ≡ len_of o → FitWithin n runs → Copies o q runs → Copies s t runs → CopiesValid v w runs → IsSound (list_views e q t false w)
copied_list_views_sound e o s q t g v w n runs sound same h p r m = let x = copies_list_views e o s q t g v w n runs sound same h p r m in x.sound

pub copies_fixed_lists : (e r : Layout) (s m n : ℕ) (v w : Valid) (runs parts : List Run) → n ≡ length (positions_in runs) → positions_in parts ≡ elements_at s (positions_in runs) → Copies e r parts → CopiesValid v w runs → Copies (fixed_lists e s m v) (fixed_lists r s n w) runs
copies_fixed_lists e r s m n v w runs parts many same p q =
    let ps : List ℕ = positions_in runs in
    let elements : Picks e r (length (elements_at s ps)) (λ i. get_or (elements_at s ps) i 0) = subst (λ xs. Picks e r (length xs) (λ i. get_or xs i 0)) same p in
    subst (λ x. Copies (fixed_lists e s m v) (fixed_lists r s x w) runs) (sym many)
    (picks_fixed_lists e r s m v w (length ps) (λ i. get_or ps i 0) (λ i. get_or (elements_at s ps) i 0)
    (subst (λ k. Picks e r k (λ i. get_or (elements_at s ps) i 0)) (length_elements s ps) elements) (λ i k l b. element_at s ps i k l b) q)

pub copied_fixed_lists_sound : (e r : Layout) (s m n : ℕ) (v w : Valid) (runs parts : List Run) → n ≡ length (positions_in runs) → positions_in parts ≡ elements_at s (positions_in runs) → Copies e r parts → CopiesValid v w runs → IsSound (fixed_lists r s n w)
copied_fixed_lists_sound e r s m n v w runs parts many same p q = let x = copies_fixed_lists e r s m n v w runs parts many same p q in x.sound

pub copies_records : (cs ds : Columns) (m n : ℕ) (v w : Valid) (runs : List Run) → n ≡ length (positions_in runs) → PicksColumns cs ds (length (positions_in runs)) (λ i. get_or (positions_in runs) i 0) → CopiesValid v w runs → Copies (records cs m v) (records ds n w) runs
copies_records cs ds m n v w runs many p q = subst (λ x. Copies (records cs m v) (records ds x w) runs) (sym many) (picks_records cs ds m v w (length (positions_in runs)) (λ i. get_or (positions_in runs) i 0) p q)

pub copied_records_sound : (cs ds : Columns) (m n : ℕ) (v w : Valid) (runs : List Run) → n ≡ length (positions_in runs) → PicksColumns cs ds (length (positions_in runs)) (λ i. get_or (positions_in runs) i 0) → CopiesValid v w runs → IsSound (records ds n w)
copied_records_sound cs ds m n v w runs many p q = let x = copies_records cs ds m n v w runs many p q in x.sound

pub ruleset arms = (copies_bools, copies_numbers, copies_strings, copies_constant, copies_dictionary, copies_list_views, copies_fixed_lists, copies_records)

pub ruleset valid = (picks_required, picks_all_valid, picks_all_null, picks_by_array)
