-- Rows that are true, as bits.
use Rattle.std.proofs.Common.{◌≡◌, ◌<◌, ◌&&◌, ℕ, zero, suc, Bool, true, false, cond, List, [], ◌∷◌, length, map, replicate, get_or, refl, sym, ap, subst, ◌∙◌, arith}
use Rattle.std.specs.List.{range_with_len, zip}
use Rattle.std.proofs.lemmas.List.{length-replicate, get_or-replicate}
use Rattle.std.proofs.lemmas.List.FromFn.{fill_by_all}
use Rattle.std.proofs.Math.Bool.{and_comm}
use Rattle.vortex_model.specs.Content.{null, boolean}
use Rattle.vortex_model.proofs.Lists.{map_twice}
use Rattle.vortex_arrays_model.specs.Layout.{Layout, bools, Valid, required, all_valid, all_null, len_of, content_at, is_valid, is_truth, rows_of, IsSound, HasLength}
use Rattle.vortex_arrays_model.specs.Parts.{valid_in}
use Rattle.vortex_arrays_validity.specs.Validities.{valid_rows}
use Rattle.vortex_arrays_validity.proofs.Rows.{bit_says, row_count}
use Rattle.vortex_arrays_leaf.specs.Shapes.{IsBools, bits_in}

-- a bit for each row, set where it is true
truths : (a : Layout) (bits : List Bool) → length bits ≡ len_of a → ((i : ℕ) → i < len_of a → get_or bits i false ≡ is_truth (content_at a i)) → bits ≡ map is_truth (rows_of a)
truths a bits many each = fill_by_all (λ i. is_truth (content_at a i)) bits (len_of a) false many each ∙ sym (map_twice is_truth (content_at a) (range_with_len 0 (len_of a)))

truth_at : (b c : Bool) → is_truth (cond b (boolean c) null) ≡ (b && c)
truth_at true c = refl
truth_at false c = refl

pub none_null : (a : Layout) (v : Valid) (bits : List Bool) → IsBools a → v ≡ valid_in a → v ≡ required → bits ≡ bits_in a → bits ≡ map is_truth (rows_of a)
none_null (bools bs w) v bits h e f g = g ∙ truths (bools bs w) bs refl (λ i l. subst (λ u. get_or bs i false ≡ is_truth (cond (is_valid u i) (boolean (get_or bs i false)) null)) (sym f ∙ e) refl)
none_null a v bits h e f g = absurd h

pub none_null_yet : (a : Layout) (v : Valid) (bits : List Bool) → IsBools a → v ≡ valid_in a → v ≡ all_valid → bits ≡ bits_in a → bits ≡ map is_truth (rows_of a)
none_null_yet (bools bs w) v bits h e f g = g ∙ truths (bools bs w) bs refl (λ i l. subst (λ u. get_or bs i false ≡ is_truth (cond (is_valid u i) (boolean (get_or bs i false)) null)) (sym f ∙ e) refl)
none_null_yet a v bits h e f g = absurd h

pub each_null : (a : Layout) (v : Valid) (n : ℕ) → IsBools a → v ≡ valid_in a → v ≡ all_null → n ≡ len_of a → replicate n false ≡ map is_truth (rows_of a)
each_null (bools bs w) v n h e f g = truths (bools bs w) (replicate n false) (length-replicate n false ∙ g) (λ i l. get_or-replicate n i false false (subst (λ k. i < k) (sym g) l) ∙ subst (λ u. false ≡ is_truth (cond (is_valid u i) (boolean (get_or bs i false)) null)) (sym f ∙ e) refl)
each_null a v n h e f g = absurd h

abbrev met : List Bool → List Bool → List Bool
met xs ys = map (λ (p : Bool × Bool). p.0 && p.1) (zip xs ys)

met_many : (xs ys : List Bool) → length ys ≡ length xs → length (met xs ys) ≡ length xs
met_many [] ys e = refl
met_many (x ∷ xs) [] e = absurd (omega (arith, e))
met_many (x ∷ xs) (y ∷ ys) e = ap suc (met_many xs ys (omega (arith, e)))

met_at : (xs ys : List Bool) (i : ℕ) → length ys ≡ length xs → i < length xs → get_or (met xs ys) i false ≡ (get_or xs i false && get_or ys i false)
met_at [] ys i e l = absurd (omega (arith, l))
met_at (x ∷ xs) [] i e l = absurd (omega (arith, e))
met_at (x ∷ xs) (y ∷ ys) zero e l = refl
met_at (x ∷ xs) (y ∷ ys) (suc i) e l = met_at xs ys i (omega (arith, e)) (omega (arith, l))

pub some_null : (a : Layout) (v : Valid) (bits rows : List Bool) (n : ℕ) → IsBools a → v ≡ valid_in a → n ≡ len_of a → bits ≡ bits_in a → rows ≡ valid_rows v n → met bits rows ≡ map is_truth (rows_of a)
some_null (bools bs w) v bits rows n h e m g r =
    let many : length rows ≡ length bs = ap length r ∙ row_count v n ∙ m in
    (λ t. met (g t) rows)
    ∙ truths (bools bs w) (met bs rows) (met_many bs rows many) (λ i l.
    met_at bs rows i many l
    ∙ and_comm (get_or bs i false) (get_or rows i false)
    ∙ ap (λ b. b && get_or bs i false) (bit_says v rows n i r (subst (λ k. i < k) (sym m) l) ∙ ap (λ u. is_valid u i) e)
    ∙ sym (truth_at (is_valid w i) (get_or bs i false)))
some_null a v bits rows n h e m g r = absurd h

-- the validity fits, and there is a bit for each row
pub parts_fit : (a : Layout) (v : Valid) (n : ℕ) → IsBools a → IsSound a → v ≡ valid_in a → n ≡ len_of a → HasLength v n
parts_fit (bools bs w) v n h s e m = rw (e, m) s
parts_fit a v n h s e m = absurd h

pub rows_many : (a : Layout) (v : Valid) (bits rows : List Bool) (n : ℕ) → IsBools a → n ≡ len_of a → bits ≡ bits_in a → rows ≡ valid_rows v n → length bits ≡ length rows
rows_many (bools bs w) v bits rows n h m g r = ap length g ∙ sym m ∙ sym (row_count v n) ∙ sym (ap length r)
rows_many a v bits rows n h m g r = absurd h

pub ruleset masks = (none_null, none_null_yet, each_null, some_null, parts_fit, rows_many)
