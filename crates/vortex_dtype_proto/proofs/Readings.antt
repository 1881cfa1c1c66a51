-- The children that were read, and those that are left.
use Rattle.std.proofs.Common.{◌≡◌, ◌<◌, ◌+◌, ℕ, suc, List, [], ◌∷◌, ◌++◌, append_assoc, length, map, get_or, drop, drop-cons, add-one, Result, Err, ◌≤◌, refl, sym, ap, ◌∙◌, subst}
use Rattle.std.proofs.Math.ListN.{drop_of_length-le}
use Rattle.std.proofs.lemmas.List.{map-append}
use Rattle.vortex_model.specs.LogicalType.{LogicalType}
use Rattle.vortex_dtype_ptype.specs.declared.error.DTypeError.{DTypeError}
use Rattle.vortex_dtype_ptype.specs.declared.error.DTypeError.TheVariants as error
use Rattle.vortex_dtype_core.specs.View.{type_of}
use Rattle.vortex_dtype_core.specs.declared.dtype.DType.{DType}
use Rattle.vortex_dtype_proto.specs.Sessions.{Session}
use Rattle.vortex_dtype_proto.specs.Messages.{Reading, read, malformed, refused_by_plugin, reading, readings, then_rest, with_children, row}
use Rattle.vortex_dtype_proto.specs.View.{form_of, tree_of, trees_of, Gives}
use Rattle.vortex_dtype_proto.specs.declared.message.Message.{Message, out-Message}
use Rattle.vortex_dtype_proto.proofs.Parts.{tree_of-parts}

-- the types `ks`, and those that are read after them
abbrev pub after : List LogicalType → Reading (List LogicalType) → Reading (List LogicalType)
after ks (read ls) = read (ks ++ ls)
after ks malformed = malformed
after ks refused_by_plugin = refused_by_plugin

after-none : (r : Reading (List LogicalType)) → after [] r ≡ r
after-none (read ks) = refl
after-none malformed = refl
after-none refused_by_plugin = refl

after-one : (ks : List LogicalType) (k : LogicalType) (r : Reading (List LogicalType)) → after ks (then_rest (read k) r) ≡ after (ks ++ k ∷ []) r
after-one ks k (read ls) = ap (λ ms. read ms) (sym (append_assoc ks (k ∷ []) ls))
after-one ks k malformed = refl
after-one ks k refused_by_plugin = refl

first_of : (ms : List Message) (i : ℕ) (m : Message) → i < length ms → m ≡ get_or ms i m → drop i ms ≡ m ∷ drop (i + 1) ms
first_of ms i m within at = drop-cons ms i m within ∙ ap (λ x. x ∷ drop (suc i) ms) (sym at) ∙ ap (λ j. m ∷ drop j ms) (sym (add-one i))

-- a fault of one result is one of the other
fails : {X Y V W : Type 0} (f : X → V) (g : Y → W) (e : DTypeError) (r : Reading V) (q : Reading W) → (r ≡ malformed → q ≡ malformed) → (r ≡ refused_by_plugin → q ≡ refused_by_plugin) →
    Gives f (Err e) r → Gives g (Err e) q
fails f g error.Memory r q a b h = tt
fails f g error.Malformed r q a b h = a h
fails f g error.Plugin r q a b h = b h
fails f g e r q a b h = absurd h

-- the next child is the first that is left
next_is : (s : Session) (ms : List Message) (i : ℕ) (m : Message) (ks : List LogicalType) (r : Reading LogicalType) → i < length ms → m ≡ get_or ms i m → reading s (tree_of m) ≡ r →
    after ks (readings s (trees_of (drop i ms))) ≡ after ks (then_rest r (readings s (trees_of (drop (i + 1) ms))))
next_is s ms i m ks r within at is =
    ap (λ xs. after ks (readings s (trees_of xs))) (first_of ms i m within at) ∙ ap (λ q. after ks (then_rest q (readings s (trees_of (drop (i + 1) ms))))) is

-- the types that were read and those of the rest are the types of all
abbrev pub IsLeft : Session → List Message → ℕ → List DType → Type 0
IsLeft s ms i ds = after (map type_of ds) (readings s (trees_of (drop i ms))) ≡ readings s (trees_of ms)

whole : (s : Session) (m : Message) (ms : List Message) → ms ≡ (out-Message m).children.items → reading s (tree_of m) ≡ with_children s (form_of (out-Message m).kind) (out-Message m).nullable (readings s (trees_of ms))
whole s m ms same = ap (λ t. reading s t) (tree_of-parts m) ∙ ap (λ xs. with_children s (form_of (out-Message m).kind) (out-Message m).nullable (readings s (trees_of xs))) (sym same)

pub none_left : (s : Session) (ms : List Message) → IsLeft s ms 0 []
none_left s ms = after-none (readings s (trees_of ms))

pub one_read : (s : Session) (ms : List Message) (i : ℕ) (m : Message) (ds es : List DType) (d : DType) → i < length ms → m ≡ get_or ms i m → reading s (tree_of m) ≡ read (type_of d) → es ≡ ds ++ d ∷ [] →
    IsLeft s ms i ds → IsLeft s ms (i + 1) es
one_read s ms i m ds es d within at is more left =
    ap (λ xs. after xs (readings s (trees_of (drop (i + 1) ms)))) (ap (λ xs. map type_of xs) more ∙ map-append type_of ds (d ∷ []))
    ∙ sym (after-one (map type_of ds) (type_of d) (readings s (trees_of (drop (i + 1) ms))))
    ∙ sym (next_is s ms i m (map type_of ds) (read (type_of d)) within at is)
    ∙ left

pub one_failed : (s : Session) (msg : Message) (ms : List Message) (i : ℕ) (m : Message) (ds : List DType) (e : DTypeError) → ms ≡ (out-Message msg).children.items → i < length ms → m ≡ get_or ms i m →
    IsLeft s ms i ds → Gives type_of (Err e) (reading s (tree_of m)) → Gives type_of (Err e) (reading s (tree_of msg))
one_failed s msg ms i m ds e same within at left fault =
    fails type_of type_of e (reading s (tree_of m)) (reading s (tree_of msg))
    (λ h. whole s msg ms same ∙ ap (λ r. with_children s (form_of (out-Message msg).kind) (out-Message msg).nullable r) (sym left ∙ next_is s ms i m (map type_of ds) malformed within at h))
    (λ h. whole s msg ms same ∙ ap (λ r. with_children s (form_of (out-Message msg).kind) (out-Message msg).nullable r) (sym left ∙ next_is s ms i m (map type_of ds) refused_by_plugin within at h))
    fault

append_none : (ks : List LogicalType) → ks ++ [] ≡ ks
append_none [] = refl
append_none (k ∷ ks) = ap (λ ls. k ∷ ls) (append_none ks)

-- once all children are read, the node is judged
pub all_read : (s : Session) (msg : Message) (ms : List Message) (i : ℕ) (ds : List DType) → ms ≡ (out-Message msg).children.items → length ms ≤ i → IsLeft s ms i ds →
    reading s (tree_of msg) ≡ row s (form_of (out-Message msg).kind) (out-Message msg).nullable (map type_of ds)
all_read s msg ms i ds same past left =
    whole s msg ms same
    ∙ ap (λ r. with_children s (form_of (out-Message msg).kind) (out-Message msg).nullable r) (sym left ∙ ap (λ xs. after (map type_of ds) (readings s (trees_of xs))) (drop_of_length-le ms past) ∙ ap (λ ks. read ks) (append_none (map type_of ds)))

pub moved : {X Y : Type 0} (f : X → Y) (x : Result X DTypeError) (r q : Reading Y) → q ≡ r → Gives f x r → Gives f x q
moved f x r q e h = subst (λ p. Gives f x p) (sym e) h
