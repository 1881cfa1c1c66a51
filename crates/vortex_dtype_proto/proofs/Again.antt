-- A type that is written is read as the same type.
use Rattle.std.proofs.Common.{◌≡◌, ◌≢◌, refl, sym, ap, ◌∙◌, ℕ, suc, List, [], ◌∷◌, length, Bool, true, false, not, ◌&&◌, Some, None, if◌then◌else◌, eq-eqb, subst, Ok, Err, Result}
use Rattle.std.specs.Result.{IsErrAnd, IfErr}
use Rattle.std.specs.List.{zip}
use Rattle.std.proofs.Math.Bool.{and-true}
use Rattle.vortex_model.specs.LogicalType.{LogicalType, null_only, boolean_type, integer_type, float, decimal, utf8, binary, list, fixed_list, mapping, struct, union, variant, extension, Fields, no_fields, field, Variants, no_variants, choice, Nullability, non_nullable, nullable, nullability_of, is_nullable, eq_flag}
use Rattle.vortex_dtype_ptype.specs.declared.error.DTypeError.{DTypeError}
use Rattle.vortex_dtype_ptype.specs.declared.error.DTypeError.TheVariants as error
use Rattle.vortex_dtype_core.specs.View.{type_of, fields_from, variants_from}
use Rattle.vortex_dtype_ptype.specs.Numbers.{is_decimal_shape}
use Rattle.vortex_dtype_core.specs.Parts.{is_distinct, is_union_shape}
use Rattle.vortex_dtype_core.specs.declared.dtype.DType.{DType}
use Rattle.vortex_dtype_proto.specs.Sessions.{Session, admitted_by, no_plugins}
use Rattle.vortex_dtype_proto.specs.Shapes.{is_shaped, are_fields_shaped, are_variants_shaped}
use Rattle.vortex_dtype_proto.specs.Messages.{Form, lists, fixed_lists, maps, records, unions, extended, Reading, read, malformed, read_if, are_tags, nullability_flagged, admitted_as, row, with_children, then_rest, reading, readings, written, written_fields, written_variants, field_names, variant_names, variant_tags}
use Rattle.vortex_dtype_proto.specs.View.{tree_of, Gives}
use Rattle.vortex_dtype_proto.specs.declared.message.Message.{Message}

flagged : (n : Nullability) → nullability_flagged (is_nullable n) ≡ n
flagged non_nullable = refl
flagged nullable = refl

eq_flag-itself : (b : Bool) → eq_flag b b ≡ true
eq_flag-itself true = refl
eq_flag-itself false = refl

abbrev field_types : Fields → List LogicalType
field_types no_fields = []
field_types (field x k fs) = k ∷ field_types fs

abbrev variant_types : Variants → List LogicalType
variant_types no_variants = []
variant_types (choice x t k vs) = k ∷ variant_types vs

fields_many : (fs : Fields) → length (field_names fs) ≡ length (field_types fs)
fields_many no_fields = refl
fields_many (field x k fs) = ap suc (fields_many fs)

variants_many : (vs : Variants) → length (variant_names vs) ≡ length (variant_types vs)
variants_many no_variants = refl
variants_many (choice x t k vs) = ap suc (variants_many vs)

tags_many : (vs : Variants) → length (variant_tags vs) ≡ length (variant_types vs)
tags_many no_variants = refl
tags_many (choice x t k vs) = ap suc (tags_many vs)

fields_zipped : (fs : Fields) → fields_from (zip (field_names fs) (field_types fs)) ≡ fs
fields_zipped no_fields = refl
fields_zipped (field x k fs) = ap (λ gs. field x k gs) (fields_zipped fs)

variants_zipped : (vs : Variants) → variants_from (zip (variant_names vs) (zip (variant_tags vs) (variant_types vs))) ≡ vs
variants_zipped no_variants = refl
variants_zipped (choice x t k vs) = ap (λ ws. choice x t k ws) (variants_zipped vs)

held : {A : Type 0} (b : Bool) (a : A) → b ≡ true → read_if b a ≡ read a
held true a h = refl
held false a h = absurd (cc (h))

-- the result at a node whose children are read where they are well-formed
with_those : (s : Session) (form : Form) (flag : Bool) (b : Bool) (ks : List LogicalType) (c : Bool) (k : LogicalType) → row s form flag ks ≡ read_if c k → with_children s form flag (read_if b ks) ≡ read_if (b && c) k
with_those s form flag true ks c k h = h
with_those s form flag false ks c k h = refl

one_if : (b : Bool) (k : LogicalType) → then_rest (read_if b k) (read []) ≡ read_if b (k ∷ [])
one_if true k = refl
one_if false k = refl

rest_if : (b c : Bool) (k : LogicalType) (ks : List LogicalType) → then_rest (read_if b k) (read_if c ks) ≡ read_if (b && c) (k ∷ ks)
rest_if true true k ks = refl
rest_if true false k ks = refl
rest_if false c k ks = refl

-- a key is judged after both parts are read
key_last : (a b c : Bool) → ((a && b) && c) ≡ (c && a && b)
key_last true true true = refl
key_last true true false = refl
key_last true false true = refl
key_last true false false = refl
key_last false b true = refl
key_last false b false = refl

-- a union's tags are judged after its types are read
tags_last : (a b c d e : Bool) → d ≡ true → e ≡ true → (a && (b && (d && e && c))) ≡ (b && c && a)
tags_last true true true true true p q = refl
tags_last true true false true true p q = refl
tags_last true false c true true p q = refl
tags_last false true true true true p q = refl
tags_last false true false true true p q = refl
tags_last false false c true true p q = refl
tags_last a b c false e p q = absurd (cc (p))
tags_last a b c true false p q = absurd (cc (q))

over_one : (s : Session) (form : Form) (flag : Bool) (k l : LogicalType) (b : Bool) (r : Reading LogicalType) → r ≡ read_if b k → row s form flag (k ∷ []) ≡ read l → with_children s form flag (then_rest r (read [])) ≡ read_if b l
over_one s form flag k l b r h e =
    ap (λ q. with_children s form flag (then_rest q (read []))) h ∙ ap (λ q. with_children s form flag q) (one_if b k)
    ∙ with_those s form flag b (k ∷ []) true l e ∙ ap (λ c. read_if c l) (and-true b)

map_read : (s : Session) (k v : LogicalType) (sorted : Bool) (n : Nullability) → row s (maps sorted) (is_nullable n) (k ∷ v ∷ []) ≡ read_if (not (is_nullable (nullability_of k))) (mapping k v sorted n)
map_read s k v sorted n = ap (λ m. read_if (not (is_nullable (nullability_of k))) (mapping k v sorted m)) (flagged n)

over_two : (s : Session) (k v : LogicalType) (sorted : Bool) (n : Nullability) (a b : Bool) (r q : Reading LogicalType) → r ≡ read_if a k → q ≡ read_if b v →
    with_children s (maps sorted) (is_nullable n) (then_rest r (then_rest q (read []))) ≡ read_if (not (is_nullable (nullability_of k)) && a && b) (mapping k v sorted n)
over_two s k v sorted n a b r q h g =
    ap (λ p. with_children s (maps sorted) (is_nullable n) (then_rest p (then_rest q (read [])))) h
    ∙ ap (λ p. with_children s (maps sorted) (is_nullable n) (then_rest (read_if a k) (then_rest p (read [])))) g
    ∙ ap (λ p. with_children s (maps sorted) (is_nullable n) (then_rest (read_if a k) p)) (one_if b v)
    ∙ ap (λ p. with_children s (maps sorted) (is_nullable n) p) (rest_if a b k (v ∷ []))
    ∙ with_those s (maps sorted) (is_nullable n) (a && b) (k ∷ v ∷ []) (not (is_nullable (nullability_of k))) (mapping k v sorted n) (map_read s k v sorted n)
    ∙ ap (λ c. read_if c (mapping k v sorted n)) (key_last a b (not (is_nullable (nullability_of k))))

extension_read : (s : Session) (id meta : List ℕ) (k : LogicalType) → s id ≡ None → row s (extended id (Some meta)) (is_nullable (nullability_of k)) (k ∷ []) ≡ read (extension id meta k)
extension_read s id meta k e =
    ap (λ b. if b then admitted_as id k (admitted_by (s id) meta k) else malformed) (eq_flag-itself (is_nullable (nullability_of k)))
    ∙ ap (λ p. admitted_as id k (admitted_by p meta k)) e

struct_read : (s : Session) (fs : Fields) (n : Nullability) → row s (records (field_names fs)) (is_nullable n) (field_types fs) ≡ read (struct fs n)
struct_read s fs n =
    held _ _ (eq-eqb _ _ (fields_many fs))
    ∙ ap (λ gs. read (struct gs (nullability_flagged (is_nullable n)))) (fields_zipped fs) ∙ ap (λ m. read (struct fs m)) (flagged n)

-- the test of a union besides its types
abbrev union_test : Variants → Bool
union_test vs = are_tags (variant_tags vs) && is_union_shape (length (variant_names vs)) (length (variant_types vs)) (variant_tags vs)

union_read : (s : Session) (vs : Variants) (n : Nullability) → row s (unions (variant_names vs) (variant_tags vs)) (is_nullable n) (variant_types vs) ≡ read_if (union_test vs) (union vs n)
union_read s vs n =
    ap (λ ws. read_if (union_test vs) (union ws (nullability_flagged (is_nullable n)))) (variants_zipped vs) ∙ ap (λ m. read_if (union_test vs) (union vs m)) (flagged n)

over_union : (s : Session) (vs : Variants) (n : Nullability) (a : Bool) → with_children s (unions (variant_names vs) (variant_tags vs)) (is_nullable n) (read_if a (variant_types vs)) ≡ read_if (are_tags (variant_tags vs) && is_distinct (variant_tags vs) && a) (union vs n)
over_union s vs n a =
    with_those s (unions (variant_names vs) (variant_tags vs)) (is_nullable n) a (variant_types vs) (union_test vs) (union vs n) (union_read s vs n)
    ∙ ap (λ c. read_if c (union vs n)) (tags_last a (are_tags (variant_tags vs)) (is_distinct (variant_tags vs)) _ _ (eq-eqb _ _ (variants_many vs)) (eq-eqb _ _ (tags_many vs)))

mutual
  pub read_again : (s : Session) → ((id : List ℕ) → s id ≡ None) → (k : LogicalType) → reading s (written k) ≡ read_if (is_shaped k) k
  read_again s e null_only = refl
  read_again s e (boolean_type n) = ap (λ m. read (boolean_type m)) (flagged n)
  read_again s e (integer_type i n) = ap (λ m. read (integer_type i m)) (flagged n)
  read_again s e (float f n) = ap (λ m. read (float f m)) (flagged n)
  read_again s e (decimal p q n) = ap (λ m. read_if (is_decimal_shape p q) (decimal p q m)) (flagged n)
  read_again s e (utf8 n) = ap (λ m. read (utf8 m)) (flagged n)
  read_again s e (binary n) = ap (λ m. read (binary m)) (flagged n)
  read_again s e (variant n) = ap (λ m. read (variant m)) (flagged n)
  read_again s e (list k n) = over_one s lists (is_nullable n) k _ (is_shaped k) _ (read_again s e k) (ap (λ m. read (list k m)) (flagged n))
  read_again s e (fixed_list k i n) = over_one s (fixed_lists i) (is_nullable n) k _ (is_shaped k) _ (read_again s e k) (ap (λ m. read (fixed_list k i m)) (flagged n))
  read_again s e (mapping k v sorted n) = over_two s k v sorted n (is_shaped k) (is_shaped v) _ _ (read_again s e k) (read_again s e v)
  read_again s e (struct fs n) =
      ap (λ r. with_children s (records (field_names fs)) (is_nullable n) r) (fields_again s e fs)
      ∙ with_those s (records (field_names fs)) (is_nullable n) (are_fields_shaped fs) (field_types fs) true (struct fs n) (struct_read s fs n)
      ∙ ap (λ c. read_if c (struct fs n)) (and-true (are_fields_shaped fs))
  read_again s e (union vs n) =
      ap (λ r. with_children s (unions (variant_names vs) (variant_tags vs)) (is_nullable n) r) (variants_again s e vs) ∙ over_union s vs n (are_variants_shaped vs)
  read_again s e (extension id meta k) =
      over_one s (extended id (Some meta)) (is_nullable (nullability_of k)) k _ (is_shaped k) _ (read_again s e k) (extension_read s id meta k (e id))

  fields_again : (s : Session) → ((id : List ℕ) → s id ≡ None) → (fs : Fields) → readings s (written_fields fs) ≡ read_if (are_fields_shaped fs) (field_types fs)
  fields_again s e no_fields = refl
  fields_again s e (field x k fs) =
      ap (λ r. then_rest r (readings s (written_fields fs))) (read_again s e k) ∙ ap (λ r. then_rest (read_if (is_shaped k) k) r) (fields_again s e fs)
      ∙ rest_if (is_shaped k) (are_fields_shaped fs) k (field_types fs)

  variants_again : (s : Session) → ((id : List ℕ) → s id ≡ None) → (vs : Variants) → readings s (written_variants vs) ≡ read_if (are_variants_shaped vs) (variant_types vs)
  variants_again s e no_variants = refl
  variants_again s e (choice x t k vs) =
      ap (λ r. then_rest r (readings s (written_variants vs))) (read_again s e k) ∙ ap (λ r. then_rest (read_if (is_shaped k) k) r) (variants_again s e vs)
      ∙ rest_if (is_shaped k) (are_variants_shaped vs) k (variant_types vs)

-- a result that was read passed its test
of_test : (b : Bool) (j k : LogicalType) → read_if b j ≡ read k → (b ≡ true) × (k ≡ j)
of_test true j k h = (refl, let e : j ≡ k = cc (h) in sym e)
of_test false j k h = absurd (cc (h))

is_again : (m : Message) (d : DType) → tree_of m ≡ written (type_of d) → reading no_plugins (tree_of m) ≡ read_if (is_shaped (type_of d)) (type_of d)
is_again m d is = ap (λ t. reading no_plugins t) is ∙ read_again no_plugins (λ id. refl) (type_of d)

-- the type that is read from a written message
pub read_alike : (m : Message) (d e : DType) → tree_of m ≡ written (type_of d) → reading no_plugins (tree_of m) ≡ read (type_of e) → (is_shaped (type_of d) ≡ true) × (type_of e ≡ type_of d)
read_alike m d e is h = of_test (is_shaped (type_of d)) (type_of d) (type_of e) (sym (is_again m d is) ∙ h)

of_fault : (e : DTypeError) (b : Bool) (k : LogicalType) → Gives type_of (Err e) (read_if b k) → e ≢ error.Memory → (e ≡ error.Malformed) × (b ≡ false)
of_fault error.Memory b k h m = absurd (m refl)
of_fault error.Malformed false k h m = (refl, refl)
of_fault error.Malformed true k h m = absurd (cc (h))
of_fault error.Plugin false k h m = absurd (cc (h))
of_fault error.Plugin true k h m = absurd (cc (h))
of_fault e b k h m = absurd h

-- the refusal of a written message
pub refused_alike : (m : Message) (d : DType) (e : DTypeError) → tree_of m ≡ written (type_of d) → Gives type_of (Err e) (reading no_plugins (tree_of m)) → e ≢ error.Memory → (e ≡ error.Malformed) × (is_shaped (type_of d) ≡ false)
refused_alike m d e is h = of_fault e (is_shaped (type_of d)) (type_of d) (subst (λ r. Gives type_of (Err e) r) (is_again m d is) h)

-- where the type is well-formed, only memory can run out
pub only_memory : (e : DTypeError) (b : Bool) → (e ≢ error.Memory → (e ≡ error.Malformed) × (b ≡ false)) → b ≡ true → e ≡ error.Memory
only_memory error.Memory b h s = refl
only_memory e b h s = let f : b ≡ false = (h (λ p. cc (p))).1 in absurd (cc (f, s))

pub memory_gives : {X Y : Type 0} (f : X → Y) (e : DTypeError) (r : Reading Y) → e ≡ error.Memory → Gives f (Err e) r
memory_gives f e r h = subst (λ x. Gives f (Err x) r) (sym h) tt

-- an error that is passed on
pub passed_on : {X : Type 0} (r : Result X DTypeError) (e : DTypeError) (P : DTypeError → Type 0) → IsErrAnd r (λ d. d ≡ e) → P e → IfErr r P
passed_on (Ok x) e P is h = tt
passed_on (Err d) e P is h = subst P (sym is) h
