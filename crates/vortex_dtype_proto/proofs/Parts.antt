-- A message by its parts, with the names and tags of the parts.
use Rattle.std.proofs.Common.{◌≡◌, ◌<◌, ℕ, zero, suc, ◌+◌, ◌≤◌, add-one, ◌++◌, take, List, [], ◌∷◌, length, map, get_or, refl, sym, ap, ◌∙◌, rules, arith}
use Rattle.std.proofs.lemmas.List.{map-append}
use Rattle.vortex_dtype_core.specs.View.{type_of, fields_of, variants_of}
use Rattle.vortex_dtype_core.specs.declared.struct_fields.StructField.{StructField}
use Rattle.vortex_dtype_core.specs.declared.union_variants.UnionVariant.{UnionVariant}
use Rattle.vortex_dtype_core.proofs.Views.{one_level as one_level_of_types, field_of-parts, variant_of-parts}
use Rattle.vortex_dtype_proto.specs.Messages.{node, tree, field_names, variant_names, variant_tags, Tree, written, written_fields, written_variants}
use Rattle.vortex_dtype_proto.specs.View.{form_of, tree_of, trees_from, trees_of}
use Rattle.vortex_dtype_proto.specs.declared.message.Message as message
use Rattle.vortex_dtype_proto.specs.declared.message.Message.{Message}
use Rattle.vortex_dtype_proto.specs.declared.message.MessageKind.{MessageKind}

pub tree_of-parts : (m : Message) → tree_of m ≡ node (form_of (message.out-Message m).kind) (message.out-Message m).nullable (trees_of (message.out-Message m).children.items)
tree_of-parts m = search (rules, message.the_lemmas)

pub field_names-fields_of : (fs : List StructField) → field_names (fields_of fs) ≡ map (λ f. f.name) fs
field_names-fields_of [] = refl
field_names-fields_of (f ∷ fs) = ap (λ p. p.0 ∷ field_names (fields_of fs)) (field_of-parts f) ∙ ap (λ xs. f.name ∷ xs) (field_names-fields_of fs)

pub variant_names-variants_of : (vs : List UnionVariant) → variant_names (variants_of vs) ≡ map (λ v. v.name) vs
variant_names-variants_of [] = refl
variant_names-variants_of (v ∷ vs) = ap (λ p. p.0 ∷ variant_names (variants_of vs)) (variant_of-parts v) ∙ ap (λ xs. v.name ∷ xs) (variant_names-variants_of vs)

pub variant_tags-variants_of : (vs : List UnionVariant) → variant_tags (variants_of vs) ≡ map (λ v. v.tag) vs
variant_tags-variants_of [] = refl
variant_tags-variants_of (v ∷ vs) = ap (λ p. p.1.0 ∷ variant_tags (variants_of vs)) (variant_of-parts v) ∙ ap (λ xs. v.tag ∷ xs) (variant_tags-variants_of vs)

taken : {A B : Type 0} (f : A → B) (xs : List A) (i : ℕ) (x : A) → i < length xs → x ≡ get_or xs i x → map f (take (suc i) xs) ≡ map f (take i xs) ++ f x ∷ []
taken f [] i x h e = absurd (omega arith)
taken f (y ∷ ys) zero x h e = ap (λ z. f z ∷ []) (sym e)
taken f (y ∷ ys) (suc i) x h e = ap (λ l. f y ∷ l) (taken f ys i x (omega arith) e)

-- a list that is built from another, with one more item
pub one_more : {A B : Type 0} (f : A → B) (xs : List A) (i : ℕ) (x : A) (out more : List B) (y : B) → i < length xs → x ≡ get_or xs i x → more ≡ out ++ y ∷ [] → y ≡ f x →
    out ≡ map f (take i xs) → more ≡ map f (take (i + 1) xs)
one_more f xs i x out more y within at is same left =
    is ∙ ap (λ l. l ++ y ∷ []) left ∙ ap (λ z. map f (take i xs) ++ z ∷ []) same ∙ sym (taken f xs i x within at) ∙ ap (λ m. map f (take m xs)) (sym (add-one i))

pub one_more_seen : {A B C : Type 0} (view : C → B) (f : A → B) (xs : List A) (i : ℕ) (x : A) (out more : List C) (y : C) → i < length xs → x ≡ get_or xs i x → more ≡ out ++ y ∷ [] → view y ≡ f x →
    map view out ≡ map f (take i xs) → map view more ≡ map f (take (i + 1) xs)
one_more_seen view f xs i x out more y within at is same left =
    one_more f xs i x (map view out) (map view more) (view y) within at (ap (λ l. map view l) is ∙ map-append view out (y ∷ [])) same left

pub all_taken : {A B : Type 0} (f : A → B) (xs : List A) (i : ℕ) → length xs ≤ i → map f (take i xs) ≡ map f xs
all_taken f [] zero h = refl
all_taken f [] (suc i) h = refl
all_taken f (x ∷ xs) zero h = absurd (omega arith)
all_taken f (x ∷ xs) (suc i) h = ap (λ l. f x ∷ l) (all_taken f xs i (omega arith))

-- a node of an equal kind over equal children
pub copied : (m : Message) (kind : MessageKind) (children : List Message) → form_of kind ≡ form_of (message.out-Message m).kind → map tree_of children ≡ map tree_of (message.out-Message m).children.items →
    node (form_of kind) (message.out-Message m).nullable (trees_of children) ≡ tree_of m
copied m kind children kinds trees = (λ i. node (kinds i) (message.out-Message m).nullable (trees_from (trees i))) ∙ sym (tree_of-parts m)

-- the messages that parts are written as
abbrev pub written_field : StructField → Tree
written_field f = written (type_of f.dtype)

abbrev pub written_variant : UnionVariant → Tree
written_variant v = written (type_of v.dtype)

pub written_fields-fields_of : (fs : List StructField) → written_fields (fields_of fs) ≡ trees_from (map written_field fs)
written_fields-fields_of [] = refl
written_fields-fields_of (f ∷ fs) = ap (λ p. tree (written p.1) (written_fields (fields_of fs))) (field_of-parts f) ∙ ap (λ ts. tree (written_field f) ts) (written_fields-fields_of fs)

pub written_variants-variants_of : (vs : List UnionVariant) → written_variants (variants_of vs) ≡ trees_from (map written_variant vs)
written_variants-variants_of [] = refl
written_variants-variants_of (v ∷ vs) = ap (λ p. tree (written p.1.1) (written_variants (variants_of vs))) (variant_of-parts v) ∙ ap (λ ts. tree (written_variant v) ts) (written_variants-variants_of vs)

pub ruleset one_level = (one_level_of_types, field_of-parts, variant_of-parts, tree_of-parts, field_names-fields_of, variant_names-variants_of, variant_tags-variants_of, written_fields-fields_of, written_variants-variants_of)
