-- A pattern's shape, by its signs.
use Rattle.std.proofs.Common.{◌≡◌, refl, ◌∙◌, ap, ℕ, List, [], ◌∷◌, ◌++◌, map, Option, Some, None}
use Rattle.vortex_model_table.specs.Rewrite.{Sign, letter, wildcard, Shape, exact_text, beginning, no_shape, onto_shape, shape_of_signs}

abbrev text_in : Shape → List ℕ
text_in (exact_text t) = t
text_in (beginning t) = t
text_in no_shape = []

abbrev ExactSo : List Sign → Type 0
ExactSo signs = (t : List ℕ) → shape_of_signs signs ≡ exact_text t → signs ≡ map letter t

exact_behind : (c : ℕ) (signs : List Sign) → ExactSo signs → (t : List ℕ) (s : Shape) → shape_of_signs signs ≡ s → onto_shape c s ≡ exact_text t → letter c ∷ signs ≡ map letter t
exact_behind c signs h t (exact_text u) is e = ap (λ more. letter c ∷ more) (h u is) ∙ ap (λ v. map letter v) (ap text_in e)
exact_behind c signs h t (beginning u) is e = absurd (cc (e))
exact_behind c signs h t no_shape is e = absurd (cc (e))

exact_signs : (signs : List Sign) → ExactSo signs
exact_signs [] t e = ap (λ v. map letter v) (ap text_in e)
exact_signs (letter c ∷ signs) t e = exact_behind c signs (exact_signs signs) t (shape_of_signs signs) refl e
exact_signs (wildcard ∷ signs) t e = absurd (cc (e))

abbrev IsBegun : List Sign → List ℕ → Type 0
IsBegun signs t = (rest : List Sign) × (signs ≡ map letter t ++ wildcard ∷ rest)

abbrev BegunSo : List Sign → Type 0
BegunSo signs = (t : List ℕ) → shape_of_signs signs ≡ beginning t → IsBegun signs t

begun_behind : (c : ℕ) (signs : List Sign) → BegunSo signs → (t : List ℕ) (s : Shape) → shape_of_signs signs ≡ s → onto_shape c s ≡ beginning t → IsBegun (letter c ∷ signs) t
begun_behind c signs h t (beginning u) is e =
    let b = h u is in (b.0, ap (λ more. letter c ∷ more) b.1 ∙ ap (λ v. map letter v ++ wildcard ∷ b.0) (ap text_in e))
begun_behind c signs h t (exact_text u) is e = absurd (cc (e))
begun_behind c signs h t no_shape is e = absurd (cc (e))

begun_signs : (signs : List Sign) → BegunSo signs
begun_signs [] t e = absurd (cc (e))
begun_signs (letter c ∷ signs) t e = begun_behind c signs (begun_signs signs) t (shape_of_signs signs) refl e
begun_signs (wildcard ∷ signs) t e = (signs, ap (λ v. map letter v ++ wildcard ∷ signs) (ap text_in e))

exact_shape : (t : List ℕ) → shape_of_signs (map letter t) ≡ exact_text t
exact_shape [] = refl
exact_shape (c ∷ t) = ap (onto_shape c) (exact_shape t)

begun_shape : (t : List ℕ) (rest : List Sign) → shape_of_signs (map letter t ++ wildcard ∷ rest) ≡ beginning t
begun_shape [] rest = refl
begun_shape (c ∷ t) rest = ap (onto_shape c) (begun_shape t rest)

abbrev pub shape_by : Option (List Sign) → Shape
shape_by o = elim o [ None ↦ no_shape | Some signs ↦ shape_of_signs signs ]

pub exact_told : (o : Option (List Sign)) (t : List ℕ) → shape_by o ≡ exact_text t → o ≡ Some (map letter t)
exact_told None t e = absurd (cc (e))
exact_told (Some signs) t e = ap (λ more. Some more) (exact_signs signs t e)

pub exact_spelled : (o : Option (List Sign)) (t : List ℕ) → o ≡ Some (map letter t) → shape_by o ≡ exact_text t
exact_spelled o t e = ap shape_by e ∙ exact_shape t

pub begun_told : (o : Option (List Sign)) (t : List ℕ) → shape_by o ≡ beginning t → (rest : List Sign) × (o ≡ Some (map letter t ++ wildcard ∷ rest))
begun_told None t e = absurd (cc (e))
begun_told (Some signs) t e = let b = begun_signs signs t e in (b.0, ap (λ more. Some more) b.1)

pub begun_spelled : (o : Option (List Sign)) (t : List ℕ) → ((rest : List Sign) × (o ≡ Some (map letter t ++ wildcard ∷ rest))) → shape_by o ≡ beginning t
begun_spelled o t b = ap shape_by b.1 ∙ begun_shape t b.0
