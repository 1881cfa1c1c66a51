-- Lists put end to end, item by item, and the first refusal of the items.
use Rattle.std.proofs.Common.{◌≡◌, refl, sym, ◌∙◌, ap, ℕ, zero, suc, ◌+◌, ◌<◌, ◌≤◌, List, [], ◌∷◌, ◌++◌, length, map, drop, get_or, append-nil, add-one, arith, Option, None}
use Rattle.std.specs.Prelude.{flat_map}
use Rattle.std.proofs.lemmas.List.{append_assoc, map-append}
use Rattle.vortex_model.specs.Refusal.{Refusal, or_else}
use Rattle.vortex_model_table.specs.Command.{Command, refusal}
use Rattle.vortex_model_table.specs.Table.{Table}
use Rattle.example_planner.specs.Split.{first_refusal}

item_next : {A : Type 0} (xs : List A) (i : ℕ) (x : A) → i < length xs → x ≡ get_or xs i x → drop i xs ≡ x ∷ drop (suc i) xs
item_next [] i x l e = absurd (omega (arith, l))
item_next (y ∷ ys) zero x l e = ap (λ z. z ∷ ys) (sym e)
item_next (y ∷ ys) (suc i) x l e = item_next ys i x (omega (arith, l)) e

pub next_item : {A : Type 0} (xs : List A) (i : ℕ) (x : A) → i < length xs → x ≡ get_or xs i x → drop i xs ≡ x ∷ drop (i + 1) xs
next_item xs i x l e = item_next xs i x l e ∙ ap (λ n. x ∷ drop n xs) (sym (add-one i))

pub none_left : {A : Type 0} (xs : List A) (i : ℕ) → length xs ≤ i → drop i xs ≡ []
none_left [] zero l = refl
none_left [] (suc i) l = refl
none_left (x ∷ xs) zero l = absurd (omega (arith, l))
none_left (x ∷ xs) (suc i) l = none_left xs i (omega (arith, l))

-- what is found of the next item is put after what was found
pub found_behind : {A B C D : Type 0} (f : A → B) (g : C → List B) (v : D → C) (parts : List D) (i : ℕ) (part : D) (old found new : List A) (all : List B) → i < length parts →
    part ≡ get_or parts i part → map f found ≡ g (v part) → new ≡ old ++ found → map f old ++ flat_map g (map v (drop i parts)) ≡ all → map f new ++ flat_map g (map v (drop (i + 1) parts)) ≡ all
found_behind f g v parts i part old found new all l is told pushed so =
    let rest = flat_map g (map v (drop (i + 1) parts)) in
    ap (λ xs. map f xs ++ rest) pushed ∙ ap (λ xs. xs ++ rest) (map-append f old found) ∙ append_assoc (map f old) (map f found) rest
    ∙ ap (λ xs. map f old ++ (xs ++ rest)) told ∙ ap (λ ds. map f old ++ flat_map g (map v ds)) (sym (next_item parts i part l is)) ∙ so

pub all_found : {A B C D : Type 0} (f : A → B) (g : C → List B) (v : D → C) (parts : List D) (i : ℕ) (rows : List A) (all : List B) → length parts ≤ i →
    map f rows ++ flat_map g (map v (drop i parts)) ≡ all → map f rows ≡ all
all_found f g v parts i rows all l so =
    sym (append-nil (map f rows)) ∙ ap (λ ds. map f rows ++ flat_map g (map v ds)) (sym (none_left parts i l)) ∙ so

-- ---- refusals

-- a part that is not refused leaves the refusal to those after it
pub next_refusal : {D : Type 0} (v : D → Table) (c : Command) (parts : List D) (i : ℕ) (part : D) (all : Option Refusal) → i < length parts → part ≡ get_or parts i part →
    first_refusal c (map v (drop i parts)) ≡ all → or_else (refusal (v part) c) (first_refusal c (map v (drop (i + 1) parts))) ≡ all
next_refusal v c parts i part all l is so = ap (λ ds. first_refusal c (map v ds)) (sym (next_item parts i part l is)) ∙ so

pub passed_on : {D : Type 0} (v : D → Table) (c : Command) (parts : List D) (i : ℕ) (part : D) (all : Option Refusal) → i < length parts → part ≡ get_or parts i part →
    refusal (v part) c ≡ None → first_refusal c (map v (drop i parts)) ≡ all → first_refusal c (map v (drop (i + 1) parts)) ≡ all
passed_on v c parts i part all l is none so =
    ap (λ o. or_else o (first_refusal c (map v (drop (i + 1) parts)))) (sym none) ∙ next_refusal v c parts i part all l is so

pub none_refused : {D : Type 0} (v : D → Table) (c : Command) (parts : List D) (i : ℕ) (all : Option Refusal) → length parts ≤ i → first_refusal c (map v (drop i parts)) ≡ all → all ≡ None
none_refused v c parts i all l so = sym so ∙ ap (λ ds. first_refusal c (map v ds)) (none_left parts i l)
