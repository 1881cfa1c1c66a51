-- What masks say of the rows that are asked about.
use Rattle.std.proofs.Common.{◌≡◌, refl, sym, ap, ◌∙◌, Bool, true, false, not, ◌&&◌, List, [], ◌∷◌, length, map, replicate, Option, Some, None}
use Rattle.std.specs.Prelude.{Result, IfOk, IfSome, Vec}
use Rattle.std.specs.List.{zip}
use Rattle.std.specs.declared.alloc.Global.{Global}
use Rattle.std.specs.declared.alloc.AllocError.{AllocError}
use Rattle.std.proofs.lemmas.Result.{IfOk-weaker}
use Rattle.vortex_stats_bind.specs.Bound.{Bound, each, some, Provided}
use Rattle.vortex_stats_mask.specs.Columns.{both_rows}
use Rattle.vortex_stats_mask.specs.Wanted.{joined_by, is_wanted}
use Rattle.vortex_stats_mask.proofs.Truths.{wanted_of_and, wanted_of_or}
use Rattle.vortex_stats_select.specs.declared.asked.Asked.{Asked}
use Rattle.vortex_stats_select.specs.Asked.{leaves_open, open_rows, seen}
use Rattle.vortex_stats_select.specs.Wants.{value_at, wanted_rows}
use Rattle.vortex_stats_select.proofs.PairLemmas.{paired}

-- masks that are equal at all rows are equal at the open ones
pub told_of_all : (asked : Option Asked) (result : Result (Option (Vec Bool Global)) AllocError) (rows : List Bool) →
    IfOk result (λ found. IfSome found (λ mask. mask.items ≡ rows)) → IfOk result (λ found. IfSome found (λ mask. seen asked mask.items ≡ seen asked rows))
told_of_all asked result rows h = IfOk-weaker result _ _ each_found h
  where
    each_found : (found : Option (Vec Bool Global)) → IfSome found (λ mask. mask.items ≡ rows) → IfSome found (λ mask. seen asked mask.items ≡ seen asked rows)
    each_found None h = tt
    each_found (Some mask) h = ap (seen asked) h

-- ---- tests of those rows alone

pub tested_all : {A : Type 0} (f : A → Bool) (xs : List A) → both_rows (replicate (length xs) true) (map f xs) ≡ map f xs
tested_all f [] = refl
tested_all f (x ∷ xs) = ap (λ ys. f x ∷ ys) (tested_all f xs)

pub tested_open : {A : Type 0} (at : Bool) (f : A → Bool) (mask : List Bool) (xs : List A) →
    both_rows (map (λ p. leaves_open at p.0) (zip mask xs)) (map f xs) ≡ open_rows at mask (map f xs)
tested_open at f [] xs = refl
tested_open at f (m ∷ ms) [] = refl
tested_open at f (m ∷ ms) (x ∷ xs) = ap (λ ys. (leaves_open at m && f x) ∷ ys) (tested_open at f ms xs)

module _ (w : Bool → Bool) where
  one_mapped : (o x : Bool) → (o && w (o && x)) ≡ (o && w x)
  one_mapped true x = refl
  one_mapped false x = refl

  one_valid : (o v x : Bool) → (o && (v && w (o && x))) ≡ (o && (v && w x))
  one_valid true v x = refl
  one_valid false v x = refl

  open_mapped : (at : Bool) (mask xs : List Bool) → open_rows at mask (map w (open_rows at mask xs)) ≡ open_rows at mask (map w xs)
  open_mapped at [] xs = refl
  open_mapped at (m ∷ ms) [] = refl
  open_mapped at (m ∷ ms) (x ∷ xs) = λ i. one_mapped (leaves_open at m) x i ∷ open_mapped at ms xs i

  open_valid : (at : Bool) (mask vs xs : List Bool) →
      open_rows at mask (map (λ p. p.0 && p.1) (zip vs (map w (open_rows at mask xs)))) ≡ open_rows at mask (map (λ p. p.0 && p.1) (zip vs (map w xs)))
  open_valid at [] vs xs = refl
  open_valid at (m ∷ ms) [] xs = refl
  open_valid at (m ∷ ms) (v ∷ vs) [] = refl
  open_valid at (m ∷ ms) (v ∷ vs) (x ∷ xs) = λ i. one_valid (leaves_open at m) v x i ∷ open_valid at ms vs xs i

  pub seen_mapped : (asked : Option Asked) (xs : List Bool) → seen asked (map w (seen asked xs)) ≡ seen asked (map w xs)
  seen_mapped None xs = refl
  seen_mapped (Some a) xs = open_mapped a.at a.mask.now xs

  pub seen_valid : (asked : Option Asked) (vs xs : List Bool) →
      seen asked (map (λ p. p.0 && p.1) (zip vs (map w (seen asked xs)))) ≡ seen asked (map (λ p. p.0 && p.1) (zip vs (map w xs)))
  seen_valid None vs xs = refl
  seen_valid (Some a) vs xs = open_valid a.at a.mask.now vs xs

-- ---- two parts

abbrev pub joined_rows : Bool → List Bool → List Bool → List Bool
joined_rows join xs ys = map (λ p. joined_by join p.0 p.1) (zip xs ys)

-- of the second part only what the first leaves open matters
open_matters : (join : Bool) (xs ys : List Bool) → joined_rows join xs ys ≡ joined_rows join xs (open_rows join xs ys)
open_matters join [] ys = refl
open_matters join (x ∷ xs) [] = refl
open_matters join (x ∷ xs) (y ∷ ys) = λ i. one join x y i ∷ open_matters join xs ys i
  where
    one : (join x y : Bool) → joined_by join x y ≡ joined_by join x (leaves_open join x && y)
    one true true y = refl
    one true false y = refl
    one false true y = refl
    one false false y = refl

-- of the first part only the rows that are asked about matter
asked_matters : (asked : Option Asked) (join : Bool) (xs ys : List Bool) → seen asked (joined_rows join xs ys) ≡ seen asked (joined_rows join (seen asked xs) ys)
asked_matters None join xs ys = refl
asked_matters (Some a) join xs ys = over a.at a.mask.now xs ys
  where
    one : (o x y : Bool) → (o && joined_by join x y) ≡ (o && joined_by join (o && x) y)
    one true x y = refl
    one false x y = refl

    over : (at : Bool) (mask xs ys : List Bool) → open_rows at mask (joined_rows join xs ys) ≡ open_rows at mask (joined_rows join (open_rows at mask xs) ys)
    over at [] xs ys = refl
    over at (m ∷ ms) [] ys = refl
    over at (m ∷ ms) (x ∷ xs) [] = refl
    over at (m ∷ ms) (x ∷ xs) (y ∷ ys) = λ i. one (leaves_open at m) x y i ∷ over at ms xs ys i

-- so the first part is needed at those rows alone
pub first_seen : (asked : Option Asked) (join : Bool) (mask xs ys : List Bool) → seen asked mask ≡ seen asked xs → seen asked (joined_rows join mask ys) ≡ seen asked (joined_rows join xs ys)
first_seen asked join mask xs ys l = asked_matters asked join mask ys ∙ ap (λ rows. seen asked (joined_rows join rows ys)) l ∙ sym (asked_matters asked join xs ys)

-- and the second at the rows that the first leaves open
pub last_seen : (join : Bool) (mask rows ys : List Bool) → open_rows join mask rows ≡ open_rows join mask ys → joined_rows join mask rows ≡ joined_rows join mask ys
last_seen join mask rows ys e = open_matters join mask rows ∙ ap (joined_rows join mask) e ∙ sym (open_matters join mask ys)

-- ---- connectives, whichever part comes first

either_first : (join x y : Bool) → joined_by join x y ≡ joined_by join y x
either_first true true true = refl
either_first true true false = refl
either_first true false true = refl
either_first true false false = refl
either_first false true true = refl
either_first false true false = refl
either_first false false true = refl
either_first false false false = refl

module _ (want : Bool) (x y : Bound) (rows : List Provided) where
  pub and_wanted : joined_rows want (wanted_rows want x rows) (wanted_rows want y rows) ≡ wanted_rows want (each x y) rows
  and_wanted = paired (joined_by want) (λ row. is_wanted want (value_at x row)) (λ row. is_wanted want (value_at y row)) rows ∙ (λ i. map (λ row. sym (wanted_of_and want (value_at x row) (value_at y row)) i) rows)

  pub or_wanted : joined_rows (not want) (wanted_rows want x rows) (wanted_rows want y rows) ≡ wanted_rows want (some x y) rows
  or_wanted = paired (joined_by (not want)) (λ row. is_wanted want (value_at x row)) (λ row. is_wanted want (value_at y row)) rows ∙ (λ i. map (λ row. sym (wanted_of_or want (value_at x row) (value_at y row)) i) rows)

  turned : (join : Bool) → joined_rows join (wanted_rows want y rows) (wanted_rows want x rows) ≡ joined_rows join (wanted_rows want x rows) (wanted_rows want y rows)
  turned join =
      paired (joined_by join) (λ row. is_wanted want (value_at y row)) (λ row. is_wanted want (value_at x row)) rows
      ∙ (λ i. map (λ row. either_first join (is_wanted want (value_at y row)) (is_wanted want (value_at x row)) i) rows)
      ∙ sym (paired (joined_by join) (λ row. is_wanted want (value_at x row)) (λ row. is_wanted want (value_at y row)) rows)

  pub and_turned : joined_rows want (wanted_rows want y rows) (wanted_rows want x rows) ≡ wanted_rows want (each x y) rows
  and_turned = turned want ∙ and_wanted

  pub or_turned : joined_rows (not want) (wanted_rows want y rows) (wanted_rows want x rows) ≡ wanted_rows want (some x y) rows
  or_turned = turned (not want) ∙ or_wanted
