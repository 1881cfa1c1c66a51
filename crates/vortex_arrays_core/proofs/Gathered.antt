-- The rows at indices.
use Rattle.std.proofs.Common.{◌≡◌, ◌<◌, ℕ, ℤ, pos, Bool, false, List, [], length, get_or, map, Some, refl, sym, ap, subst, ◌∙◌, arith}
use Rattle.std.specs.List.{All, slice_get}
use Rattle.std.proofs.lemmas.List.{get_or-map, length-map}
use Rattle.std.proofs.lemmas.List.Elements.{All-map}
use Rattle.vortex_model.specs.LogicalType.{LogicalType, IntKind, u64}
use Rattle.vortex_model.specs.Content.{integer, Raw}
use Rattle.vortex_model.specs.Valid.{InRange, IsValid}
use Rattle.vortex_arrays_model.specs.Layout.{Strings, Layout, bools, numbers, strings, constant, dictionary, list_views, Valid, required, by_array, len_of, array_type_of, natural, content_at, is_truth, IsCode, IsSound}
use Rattle.vortex_arrays_model.specs.Picks.{Picks, PicksValid}
use Rattle.vortex_arrays_model.proofs.PicksLemmas.{no_flag, picks_bools, picks_numbers, picks_strings, picks_constant, picks_dictionary, picks_list_views, picks_records, picks_required, picks_all_valid, picks_all_null}
use Rattle.vortex_arrays_model.proofs.SomeLemmas.{eq_type}
use Rattle.vortex_arrays_buffer.proofs.NumberLemmas.{items_read}
use Rattle.vortex_arrays_buffer.specs.Bits.{positions_of}
use Rattle.vortex_arrays_buffer.proofs.Positions.{positions_within}

-- an item of the indices
abbrev pub at_place : List ℕ → ℕ → ℕ
at_place ps i = get_or ps i 0

pub gathers_bools : (xs ys : List Bool) (v w : Valid) (ps : List ℕ) → ys ≡ map (λ i. get_or xs i false) ps → PicksValid v w (length ps) (λ i. get_or ps i 0) → Picks (bools xs v) (bools ys w) (length ps) (λ i. get_or ps i 0)
gathers_bools xs ys v w ps e p = picks_bools xs ys v w (length ps) (at_place ps) (ap length e ∙ length-map ps (λ i. get_or xs i false)) (λ i l. ap (λ zs. get_or zs i false) e ∙ get_or-map (λ j. get_or xs j false) ps i 0 false l) p

pub gathers_numbers : (k j : IntKind) (xs ys : List ℤ) (v w : Valid) (ps : List ℕ) → IsSound (numbers k xs v) → All (λ i. i < length xs) ps → j ≡ k → ys ≡ map (λ i. get_or xs i (pos 0)) ps → PicksValid v w (length ps) (λ i. get_or ps i 0) → Picks (numbers k xs v) (numbers j ys w) (length ps) (λ i. get_or ps i 0)
gathers_numbers k j xs ys v w ps s within same e p =
    let held : All (InRange k) ys = subst (All (InRange k)) (sym e) (All-map (InRange k) (λ i. get_or xs i (pos 0)) ps (λ i d l. s.0 (get_or ps i d) (pos 0) (within i d l))) in
    subst (λ h. Picks (numbers k xs v) (numbers h ys w) (length ps) (at_place ps)) (sym same)
    (picks_numbers k xs ys v w (length ps) (at_place ps) (ap length e ∙ length-map ps (λ i. get_or xs i (pos 0))) held (λ i l. ap (λ zs. get_or zs i (pos 0)) e ∙ get_or-map (λ j. get_or xs j (pos 0)) ps i 0 (pos 0) l) p)

pub gathers_strings : (s : Strings) (xs ys bs : List (List ℕ)) (v w : Valid) (ps : List ℕ) → IsSound (strings s xs bs v) → All (λ i. i < length xs) ps → map Some ys ≡ map (slice_get xs) ps → PicksValid v w (length ps) (λ i. get_or ps i 0) → Picks (strings s xs bs v) (strings s ys bs w) (length ps) (λ i. get_or ps i 0)
gathers_strings s xs ys bs v w ps h within read p =
    let e : ys ≡ map (λ i. get_or xs i []) ps = items_read xs ys ps [] read in
    picks_strings s xs ys bs v w (length ps) (at_place ps) h (ap length e ∙ length-map ps (λ i. get_or xs i [])) (λ i l. within i 0 l) (λ i l. ap (λ zs. get_or zs i []) e ∙ get_or-map (λ j. get_or xs j []) ps i 0 [] l) p

pub ruleset leaves = (gathers_bools, gathers_numbers)

pub gathers_constant : (k j : LogicalType) (r q : Raw) (m : ℕ) (ps : List ℕ) → j ≡ k → q ≡ r → IsValid k r → Picks (constant k r m) (constant j q (length ps)) (length ps) (λ i. get_or ps i 0)
gathers_constant k j r q m ps e d h = subst (λ x. Picks (constant k r m) (constant x q (length ps)) (length ps) (at_place ps)) (sym e) (subst (λ x. Picks (constant k r m) (constant k x (length ps)) (length ps) (at_place ps)) (sym d) (picks_constant k r m (length ps) (at_place ps) h))

pub gathers_dictionary : (c r v : Layout) (g : Bool) (ps : List ℕ) → IsSound (dictionary c v g) → All (λ i. i < len_of c) ps → Picks c r (length ps) (λ i. get_or ps i 0) → Picks (dictionary c v g) (dictionary r v false) (length ps) (λ i. get_or ps i 0)
gathers_dictionary c r v g ps s within p = picks_dictionary c r v g (length ps) (at_place ps) s (λ i l. within i 0 l) p

pub gathers_list_views : (e o s q t : Layout) (g : Bool) (v w : Valid) (ps : List ℕ) → IsSound (list_views e o s g v) → All (λ i. i < len_of o) ps → Picks o q (length ps) (λ i. get_or ps i 0) → Picks s t (length ps) (λ i. get_or ps i 0) → PicksValid v w (length ps) (λ i. get_or ps i 0) → Picks (list_views e o s g v) (list_views e q t false w) (length ps) (λ i. get_or ps i 0)
gathers_list_views e o s q t g v w ps h within p r m = picks_list_views e o s q t g v w (length ps) (at_place ps) h (λ i l. within i 0 l) p r m

pub ruleset arms = (gathers_dictionary, gathers_list_views, picks_records, gathers_constant)

pub ruleset valid = (picks_required, picks_all_valid, picks_all_null)

-- the booleans at the indices
pub truths_at : (a : Layout) (ys : List Bool) (ps : List ℕ) (n : ℕ) → n ≡ length ps → length ys ≡ n → ((i : ℕ) → i < n → get_or ys i false ≡ is_truth (content_at a (get_or ps i 0))) → PicksValid (by_array a) (by_array (bools ys required)) (length ps) (λ i. get_or ps i 0)
truths_at a ys ps n e many h = record {
  fits = (tt, many ∙ e, refl);
  nullability = refl;
  bits = λ i l. h i (omega arith);
}

-- a dictionary whose codes are the indices of rows
by_positions : (a : Layout) (ps : List ℕ) → IsSound (numbers u64 (map pos ps) required) → IsSound a → All (λ i. i < len_of a) ps → Picks a (dictionary (numbers u64 (map pos ps) required) a false) (length ps) (at_place ps)
by_positions a ps sc sa within = record {
  sound = (
    sc,
    sa,
    tt,
    (λ i l. let m : i < length ps = subst (λ n. i < n) (length-map ps pos) l in subst (λ z. IsCode (len_of a) (integer z)) (sym (get_or-map pos ps i 0 (pos 0) m)) (within i 0 m)),
    (λ t. no_flag t),
  );
  len = length-map ps pos;
  kind = eq_type (array_type_of a);
  content = λ i l. ap (λ z. content_at a (natural z)) (get_or-map pos ps i 0 (pos 0) l);
}

pub names_positions : (a c : Layout) (ps : List ℕ) → c ≡ numbers u64 (map pos ps) required → IsSound c → IsSound a → All (λ i. i < len_of a) ps → Picks a (dictionary c a false) (length ps) (λ i. get_or ps i 0)
names_positions a c ps e sc sa within = subst (λ d. Picks a (dictionary d a false) (length ps) (at_place ps)) (sym e) (by_positions a ps (subst IsSound e sc) sa within)

-- the indices that a mask keeps are below the length of an array of the mask's length
pub positions_below : (bits : List Bool) (n : ℕ) (ps : List ℕ) → ps ≡ positions_of bits → length bits ≡ n → All (λ i. i < n) ps
positions_below bits n ps e same = subst (λ xs. All (λ i. i < n) xs) (sym e) (subst (λ m. All (λ i. i < m) (positions_of bits)) same (positions_within bits))
