-- The literals of predicates of lines are values of their types.
use Rattle.std.proofs.Common.{◌≡◌, refl, ap, subst, ℕ, zero, suc, List, [], ◌∷◌, Bool, true, false, Option, Some, None, if◌then◌else◌, option_map, option_and_then}
use Rattle.std.specs.List.{AllByRecursion}
use Rattle.serde_json.specs.Data.{Data, Items, no_items, item, null, boolean as flag, number, string, array, object}
use Rattle.serde_json.specs.Find.{at}
use Rattle.vortex_model.specs.LogicalType.{stored}
use Rattle.vortex_model.specs.Content.{content_of}
use Rattle.vortex_model.specs.Valid.{valid}
use Rattle.vortex_model_table.specs.Expression.{Expression, literal, column, like, between, statistic, HasFormedLiterals}
use Rattle.vortex_model.proofs.Contents.{said}
use Rattle.vortex_model.proofs.Tests.{has_so}
use Rattle.vortex_stats_expr.specs.Tree.{combined}
use Rattle.vortex_stats_expr.specs.declared.operator.Operator.{Operator}
use Rattle.vortex_stats_expr.specs.declared.operator.Operator.TheVariants as operator
use Rattle.vortex_table_request.specs.Kinds.{type_in}
use Rattle.vortex_table_request.specs.Rows.{reading}
use Rattle.vortex_table_request.specs.FormNames.{form_in}
use Rattle.vortex_table_request.specs.Where.{literal_at, literal_in, leaf_in, unary_in, flag_at, binary_in, between_in, operand, predicate_of, predicate_in, predicates_in}
use Rattle.vortex_table_request.specs.declared.forms.Form.{Form}
use Rattle.vortex_table_request.specs.declared.forms.Form.TheVariants as form
use Rattle.vortex_table_request.specs.declared.forms.Leaf.{Leaf}
use Rattle.vortex_table_request.specs.declared.forms.Leaf.TheVariants as leaf
use Rattle.vortex_table_request.specs.declared.forms.Unary.{Unary}
use Rattle.vortex_table_request.specs.declared.forms.Unary.TheVariants as unary
use Rattle.vortex_table_request.specs.declared.forms.Binary.{Binary}
use Rattle.vortex_table_request.specs.declared.forms.Binary.TheVariants as binary

-- P holds of the item, if there is one
abbrev pub If : {A : Type 0} → (A → Type 0) → Option A → Type 0
If P None = Unit {0}
If P (Some a) = P a

pub if_bound : {A B : Type 0} (P : B → Type 0) (f : A → Option B) (o : Option A) → ((a : A) → If P (f a)) → If P (option_and_then f o)
if_bound P f None h = tt
if_bound P f (Some a) h = h a

pub if_mapped : {A B : Type 0} (P : B → Type 0) (f : A → B) (o : Option A) → ((a : A) → P (f a)) → If P (option_map f o)
if_mapped P f None h = tt
if_mapped P f (Some a) h = h a

-- P and Q hold of an item and of what is made of it
if_both : {A B : Type 0} (P : A → Type 0) (Q : B → Type 0) (f : A → Option B) (o : Option A) → If P o → ((a : A) → P a → If Q (f a)) → If Q (option_and_then f o)
if_both P Q f None p h = tt
if_both P Q f (Some a) p h = h a p

pub if_over : {A B : Type 0} (P : A → Type 0) (Q : B → Type 0) (f : A → B) (o : Option A) → If P o → ((a : A) → P a → Q (f a)) → If Q (option_map f o)
if_over P Q f None p h = tt
if_over P Q f (Some a) p h = h a p

pub if_so : {A : Type 0} (P : A → Type 0) (o : Option A) (a : A) → If P o → o ≡ Some a → P a
if_so P None a h e = absurd (cc e)
if_so P (Some b) a h e = subst P (ap (λ o. elim o [ None ↦ b | Some c ↦ c ]) e) h

abbrev Formed : Option Expression → Type 0
Formed = If HasFormedLiterals

pub if_passes : {A : Type 0} (P : A → Type 0) (b : Bool) (o : Option A) → (b ≡ true → If P o) → If P (if b then o else None)
if_passes P true o h = h refl
if_passes P false o h = tt

literal_formed : (d : Data) → Formed (literal_in d)
literal_formed d =
    if_bound HasFormedLiterals _ (option_and_then type_in (at 1 d)) (λ k.
    if_bound HasFormedLiterals (literal_at k) (at 2 d) (λ d.
    if_bound HasFormedLiterals _ (reading k d) (λ r.
    if_passes HasFormedLiterals (valid k r) (Some (literal k (content_of r))) (λ e. said (stored k) r (has_so (stored k) r e)))))

leaf_formed : (l : Leaf) (d : Data) → Formed (leaf_in l d)
leaf_formed leaf.Literal d = literal_formed d
leaf_formed leaf.Column d = if_mapped HasFormedLiterals column _ (λ xs. tt)
leaf_formed leaf.RowCount d = tt

unary_formed : (u : Unary) (x : Expression) (d : Data) → HasFormedLiterals x → Formed (unary_in u x d)
unary_formed unary.Not x d h = h
unary_formed unary.IsNull x d h = h
unary_formed unary.IsNotNull x d h = h
unary_formed unary.IsNan x d h = h
unary_formed unary.Stat x d h = if_mapped HasFormedLiterals (statistic x) _ (λ a. h)

combined_formed : (o : Operator) (x y : Expression) → HasFormedLiterals x → HasFormedLiterals y → HasFormedLiterals (combined o x y)
combined_formed operator.Eq x y g h = (g, h)
combined_formed operator.NotEq x y g h = (g, h)
combined_formed operator.Gt x y g h = (g, h)
combined_formed operator.Gte x y g h = (g, h)
combined_formed operator.Lt x y g h = (g, h)
combined_formed operator.Lte x y g h = (g, h)
combined_formed operator.And x y g h = (g, h)
combined_formed operator.Or x y g h = (g, h)

binary_formed : (b : Binary) (x y : Expression) (d : Data) → HasFormedLiterals x → HasFormedLiterals y → Formed (binary_in b x y d)
binary_formed (binary.Operator o) x y d g h = combined_formed o x y g h
binary_formed binary.Like x y d g h =
    if_bound HasFormedLiterals _ (flag_at 3 d) (λ negated.
    if_mapped HasFormedLiterals (λ ignores_case. like x y negated ignores_case) (flag_at 4 d) (λ ignores_case. (g, h)))

between_formed : (x lo hi : Expression) (d : Data) → HasFormedLiterals x → HasFormedLiterals lo → HasFormedLiterals hi → Formed (between_in x lo hi d)
between_formed x lo hi d f g h =
    if_bound HasFormedLiterals _ (flag_at 4 d) (λ lower.
    if_mapped HasFormedLiterals (λ upper. between x lo hi lower upper) (flag_at 5 d) (λ upper. (f, g, h)))

operand_formed : (i : ℕ) (xs : List (Option Expression)) → AllByRecursion Formed xs → Formed (operand i xs)
operand_formed i [] h = tt
operand_formed zero (x ∷ xs) h = h.0
operand_formed (suc i) (x ∷ xs) h = operand_formed i xs h.1

form_formed : (f : Form) (d : Data) (xs : List (Option Expression)) → AllByRecursion Formed xs → Formed (predicate_of f d xs)
form_formed (form.Leaf l) d xs h = leaf_formed l d
form_formed (form.Unary u) d xs h =
    if_both HasFormedLiterals HasFormedLiterals (λ x. unary_in u x d) (operand 1 xs) (operand_formed 1 xs h) (λ x g. unary_formed u x d g)
form_formed (form.Binary b) d xs h =
    if_both HasFormedLiterals HasFormedLiterals _ (operand 1 xs) (operand_formed 1 xs h) (λ x f.
    if_both HasFormedLiterals HasFormedLiterals (λ y. binary_in b x y d) (operand 2 xs) (operand_formed 2 xs h) (λ y g. binary_formed b x y d f g))
form_formed form.Between d xs h =
    if_both HasFormedLiterals HasFormedLiterals _ (operand 1 xs) (operand_formed 1 xs h) (λ x e.
    if_both HasFormedLiterals HasFormedLiterals _ (operand 2 xs) (operand_formed 2 xs h) (λ lo f.
    if_both HasFormedLiterals HasFormedLiterals (λ hi. between_in x lo hi d) (operand 3 xs) (operand_formed 3 xs h) (λ hi g. between_formed x lo hi d e f g)))

mutual
  pub predicate_formed : (d : Data) → Formed (predicate_in d)
  predicate_formed (array ds) = if_bound HasFormedLiterals (λ f. predicate_of f (array ds) (predicates_in ds)) (form_in (array ds)) (λ f. form_formed f (array ds) (predicates_in ds) (predicates_formed ds))
  predicate_formed null = tt
  predicate_formed (flag b) = tt
  predicate_formed (number n) = tt
  predicate_formed (string s) = tt
  predicate_formed (object ms) = tt

  predicates_formed : (ds : Items) → AllByRecursion Formed (predicates_in ds)
  predicates_formed no_items = tt
  predicates_formed (item d ds) = (predicate_formed d, predicates_formed ds)
