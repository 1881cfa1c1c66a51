-- Columns of any type that grow cell by cell.
use Rattle.std.proofs.Common.{◌≡◌, ◌<◌, ◌≤◌, ◌+◌, ℕ, suc, Bool, List, [], ◌∷◌, ◌++◌, length, get_or, set, take, drop, map, Option, Some, None, is_some, option_map, Vec, Global, refl, sym, ap, subst, ◌∙◌, arith, rules, add-one, drop-cons, append_assoc, append-nil}
use Rattle.std.specs.List.{flat_map}
use Rattle.std.specs.declared.boxed.Box.{Box}
use Rattle.std.specs.Box.{with_value}
use Rattle.std.proofs.lemmas.Grind.{flat_map-append}
use Rattle.std.proofs.lemmas.List.{map-append, drop_all, drop-drop, drop-set-lt, take_all, take_more, take_more_set, length-set}
use Rattle.std.proofs.lemmas.List.Elements.{All-nil, All-cons, All-append}
use Rattle.vortex_model.specs.LogicalType.{LogicalType, Nullability, list, fixed_list, struct, Fields, no_fields, field}
use Rattle.vortex_model.specs.Content.{Raw, raw_null}
use Rattle.vortex_dtype_core.specs.View.{type_of, fields_of}
use Rattle.vortex_dtype_core.specs.declared.struct_fields.StructField.{StructField}
use Rattle.vortex_dtype_core.proofs.Views.{field_of-parts}
use Rattle.vortex_table_columns.specs.Cells.{cell_raw}
use Rattle.vortex_table_columns.specs.Columns.{column_type, cells_of, Takes}
use Rattle.vortex_table_columns.specs.Nested.{Column, leaves, tuples, lists, sized_lists, no_columns, column_of, columns_of, tuple_of, tuple_or_null, first_of, rest_of, IsEmpty, HasFirst, items_in, Holds, HaveFields, Gains, GainsAll, EachGains}
use Rattle.vortex_table_columns.specs.declared.column.ColumnBuilder.{ColumnBuilder}
use Rattle.vortex_table_columns.specs.declared.nested.NestedBuilder as nested
use Rattle.vortex_table_columns.specs.declared.nested.NestedBuilder.{NestedBuilder}

-- ---- one level

pub column_of-Leaf : (c : ColumnBuilder) → column_of (nested.Leaf c) ≡ leaves (column_type c) (cells_of c)
column_of-Leaf c = search (rules, nested.the_lemmas)

pub column_of-Records : (p : Vec (Option (Unit {0})) Global) (cs : Vec NestedBuilder Global) → column_of (nested.Records p cs) ≡ tuples (map is_some p.items) (columns_of cs.items)
column_of-Records p cs = search (rules, nested.the_lemmas)

pub column_of-Lists : (s : Vec (Option ℕ) Global) (c : Box NestedBuilder Global) → column_of (nested.Lists s c) ≡ lists s.items (column_of c.value)
column_of-Lists s c = search (rules, nested.the_lemmas)

pub column_of-FixedLists : (m : ℕ) (p : Vec (Option (Unit {0})) Global) (c : Box NestedBuilder Global) → column_of (nested.FixedLists m p c) ≡ sized_lists m (map is_some p.items) (column_of c.value)
column_of-FixedLists m p c = search (rules, nested.the_lemmas)

pub ruleset one_level = (column_of-Leaf, column_of-Records, column_of-Lists, column_of-FixedLists)

-- ---- a column for each field

-- whatever columns the fields from i on get, each field has one
abbrev pub ColumnsLeft : List StructField → ℕ → List NestedBuilder → Type 0
ColumnsLeft fs i built = (more : List NestedBuilder) → HaveFields (columns_of more) (fields_of (drop i fs)) [] → HaveFields (columns_of (built ++ more)) (fields_of fs) []

pub next_field : (fs : List StructField) (i : ℕ) (f : StructField) → i < length fs → f ≡ get_or fs i f → fields_of (drop i fs) ≡ field f.name (type_of f.dtype) (fields_of (drop (i + 1) fs))
next_field fs i f h is =
    let opened : drop i fs ≡ f ∷ drop (i + 1) fs = drop-cons fs i f h ∙ ap (λ y. y ∷ drop (suc i) fs) (sym is) ∙ ap (λ (n : ℕ). f ∷ drop n fs) (sym (add-one i)) in
    ap fields_of opened ∙ ap (λ p. field p.0 p.1 (fields_of (drop (i + 1) fs))) (field_of-parts f)

pub columns_none : (fs : List StructField) → ColumnsLeft fs 0 []
columns_none fs more a = a

pub column_built : (fs : List StructField) (i : ℕ) (f : StructField) (built new : List NestedBuilder) (c : NestedBuilder) → i < length fs → f ≡ get_or fs i f → new ≡ built ++ c ∷ []
    → Holds (column_of c) (type_of f.dtype) [] → ColumnsLeft fs i built → ColumnsLeft fs (i + 1) new
column_built fs i f built new c l is grown held h more a =
    subst (λ xs. HaveFields (columns_of (xs ++ more)) (fields_of fs) []) (sym grown)
    (subst (λ xs. HaveFields (columns_of xs) (fields_of fs) []) (sym (append_assoc built (c ∷ []) more))
    (h (c ∷ more) (subst (λ gs. HaveFields (columns_of (c ∷ more)) gs []) (sym (next_field fs i f l is)) (All-nil HasFirst, held, a))))

pub columns_all : (fs : List StructField) (i : ℕ) (built : List NestedBuilder) → length fs ≤ i → ColumnsLeft fs i built → HaveFields (columns_of built) (fields_of fs) []
columns_all fs i built l h =
    subst (λ xs. HaveFields (columns_of xs) (fields_of fs) []) (append-nil built) (h [] (subst (λ gs. HaveFields no_columns (fields_of gs) []) (sym (drop_all i fs l)) (All-nil IsEmpty)))

-- ---- one more cell

pub leaf_gains : (c d : ColumnBuilder) (r : Raw) → Takes c r d → Gains (leaves (column_type c) (cells_of c)) r (leaves (column_type d) (cells_of d))
leaf_gains c d r t k rs h = (t.kind ∙ h.0, t.cells ∙ ap (λ xs. xs ++ r ∷ []) h.1)

fields_gain : (cs : List NestedBuilder) (row : List Raw) (ds : List NestedBuilder) → EachGains cs row ds → (fs : Fields) (rows : List (List Raw)) → HaveFields (columns_of cs) fs rows → HaveFields (columns_of ds) fs (rows ++ row ∷ [])
fields_gain [] [] [] g no_fields rows h = All-append IsEmpty rows ([] ∷ []) h (All-cons IsEmpty [] [] refl (All-nil IsEmpty))
fields_gain (c ∷ cs) (r ∷ row) (d ∷ ds) g (field x k fs) rows h = (
  All-append HasFirst rows ((r ∷ row) ∷ []) h.0 (All-cons HasFirst (r ∷ row) [] refl (All-nil HasFirst)),
  subst (Holds (column_of d) k) (sym (map-append first_of rows ((r ∷ row) ∷ []))) (g.0 k (map first_of rows) h.1),
  subst (HaveFields (columns_of ds) fs) (sym (map-append rest_of rows ((r ∷ row) ∷ []))) (fields_gain cs row ds g.1 fs (map rest_of rows) h.2),
)
fields_gain [] [] [] g (field x k fs) rows h = absurd h
fields_gain (c ∷ cs) (r ∷ row) (d ∷ ds) g no_fields rows h = absurd h
fields_gain [] [] (d ∷ ds) g fs rows h = absurd g
fields_gain [] (r ∷ row) ds g fs rows h = absurd g
fields_gain (c ∷ cs) [] ds g fs rows h = absurd g
fields_gain (c ∷ cs) (r ∷ row) [] g fs rows h = absurd g

marked : (p new : List (Option (Unit {0}))) (x : Option (Unit {0})) → new ≡ p ++ x ∷ [] → map is_some new ≡ map is_some p ++ is_some x ∷ []
marked p new x e = ap (map is_some) e ∙ map-append is_some p (x ∷ [])

pub record_gains : (p new : List (Option (Unit {0}))) (x : Option (Unit {0})) (cs : List NestedBuilder) (row : List Raw) (ds : List NestedBuilder) → EachGains cs row ds → new ≡ p ++ x ∷ []
    → Gains (tuples (map is_some p) (columns_of cs)) (tuple_or_null (is_some x, row)) (tuples (map is_some new) (columns_of ds))
record_gains p new x cs row ds g e (struct fs n) rs h =
    let now : Bool × List Raw = (is_some x, row) in (
      h.0 ++ now ∷ [],
      marked p new x e ∙ ap (λ xs. xs ++ is_some x ∷ []) h.1 ∙ sym (map-append (λ (r : Bool × List Raw). r.0) h.0 (now ∷ [])),
      ap (λ xs. xs ++ tuple_or_null now ∷ []) h.2 ∙ sym (map-append tuple_or_null h.0 (now ∷ [])),
      subst (HaveFields (columns_of ds) fs) (sym (map-append (λ (r : Bool × List Raw). r.1) h.0 (now ∷ []))) (fields_gain cs row ds g fs (map (λ (r : Bool × List Raw). r.1) h.0) h.3),
    )
record_gains p new x cs row ds g e k rs h = absurd h

flat_push : {X A : Type 0} (f : X → List A) (xs : List X) (x : X) → flat_map f (xs ++ x ∷ []) ≡ flat_map f xs ++ f x
flat_push f xs x = flat_map-append f xs (x ∷ []) ∙ ap (λ ys. flat_map f xs ++ ys) (append-nil (f x))

pub list_gains : (sizes new : List (Option ℕ)) (n : ℕ) (c d : Column) (cells : List Raw) → GainsAll c cells d → length cells ≡ n → new ≡ sizes ++ Some n ∷ [] → Gains (lists sizes c) (tuple_of cells) (lists new d)
list_gains sizes new n c d cells g many e (list k m) rs h = (
  h.0 ++ Some cells ∷ [],
  e ∙ (λ t. h.1 t ++ Some (sym many t) ∷ []) ∙ sym (map-append (option_map length) h.0 (Some cells ∷ [])),
  ap (λ xs. xs ++ tuple_of cells ∷ []) h.2 ∙ sym (map-append (cell_raw tuple_of) h.0 (Some cells ∷ [])),
  subst (Holds d k) (sym (flat_push items_in h.0 (Some cells))) (g k (flat_map items_in h.0) h.3),
)
list_gains sizes new n c d cells g many e k rs h = absurd h

pub null_list_gains : (sizes new : List (Option ℕ)) (c : Column) → new ≡ sizes ++ None ∷ [] → Gains (lists sizes c) raw_null (lists new c)
null_list_gains sizes new c e (list k m) rs h = (
  h.0 ++ None ∷ [],
  e ∙ ap (λ xs. xs ++ None ∷ []) h.1 ∙ sym (map-append (option_map length) h.0 (None ∷ [])),
  ap (λ xs. xs ++ raw_null ∷ []) h.2 ∙ sym (map-append (cell_raw tuple_of) h.0 (None ∷ [])),
  subst (Holds c k) (sym (flat_push items_in h.0 None ∙ append-nil (flat_map items_in h.0))) h.3,
)
null_list_gains sizes new c e k rs h = absurd h

pub sized_gains : (m : ℕ) (p new : List (Option (Unit {0}))) (x : Option (Unit {0})) (c d : Column) (cells : List Raw) → GainsAll c cells d → length cells ≡ m → new ≡ p ++ x ∷ []
    → Gains (sized_lists m (map is_some p) c) (tuple_or_null (is_some x, cells)) (sized_lists m (map is_some new) d)
sized_gains m p new x c d cells g many e (fixed_list k size n) rs h =
    let now : Bool × List Raw = (is_some x, cells) in (
      h.0 ++ now ∷ [],
      marked p new x e ∙ ap (λ xs. xs ++ is_some x ∷ []) h.1 ∙ sym (map-append (λ (r : Bool × List Raw). r.0) h.0 (now ∷ [])),
      ap (λ xs. xs ++ tuple_or_null now ∷ []) h.2 ∙ sym (map-append tuple_or_null h.0 (now ∷ [])),
      h.3,
      All-append (λ (r : Bool × List Raw). length r.1 ≡ m) h.0 (now ∷ []) h.4 (All-cons (λ (r : Bool × List Raw). length r.1 ≡ m) now [] many (All-nil (λ (r : Bool × List Raw). length r.1 ≡ m))),
      subst (Holds d k) (sym (flat_push (λ (r : Bool × List Raw). r.1) h.0 now)) (g k (flat_map (λ (r : Bool × List Raw). r.1) h.0) h.5),
    )
sized_gains m p new x c d cells g many e k rs h = absurd h

-- ---- more cells

pub gains_none : (c : Column) → GainsAll c [] c
gains_none c k rs h = subst (Holds c k) (sym (append-nil rs)) h

pub gains_more : (c d e : Column) (cells : List Raw) (r : Raw) → GainsAll c cells d → Gains d r e → GainsAll c (cells ++ r ∷ []) e
gains_more c d e cells r g h k rs held = subst (Holds e k) (append_assoc rs cells (r ∷ [])) (h k (rs ++ cells) (g k rs held))

-- the first i columns have one more cell
pub record ColumnsGained (old : List NestedBuilder) (i : ℕ) (now : List NestedBuilder) (cells : List Raw) : Type 0 where
  pub many : length now ≡ length old
  pub rest : drop i now ≡ drop i old
  pub gained : EachGains (take i old) cells (take i now)

pub gained_none : (old : List NestedBuilder) → ColumnsGained old 0 old []
gained_none old = record { many = refl; rest = refl; gained = tt }

same_head : (i : ℕ) (xs ys : List NestedBuilder) (c : NestedBuilder) → i < length xs → i < length ys → drop i xs ≡ drop i ys → get_or xs i c ≡ get_or ys i c
same_head i xs ys c l m e = cc (sym (drop-cons xs i c l) ∙ e ∙ drop-cons ys i c m)

each_push : (cs : List NestedBuilder) (rs : List Raw) (ds : List NestedBuilder) (c d : NestedBuilder) (r : Raw) → EachGains cs rs ds → Gains (column_of c) r (column_of d) → EachGains (cs ++ c ∷ []) (rs ++ r ∷ []) (ds ++ d ∷ [])
each_push [] [] [] c d r g t = (t, tt)
each_push (x ∷ cs) (y ∷ rs) (z ∷ ds) c d r g t = (g.0, each_push cs rs ds c d r g.1 t)
each_push [] [] (z ∷ ds) c d r g t = absurd g
each_push [] (y ∷ rs) ds c d r g t = absurd g
each_push (x ∷ cs) [] ds c d r g t = absurd g
each_push (x ∷ cs) (y ∷ rs) [] c d r g t = absurd g

-- the next column, as it was at first
pub next_column_is : (old : List NestedBuilder) (i : ℕ) (now : List NestedBuilder) (cells : List Raw) (c : NestedBuilder) → ColumnsGained old i now cells → i < length now → c ≡ get_or now i c → drop i old ≡ c ∷ drop (i + 1) old
next_column_is old i now cells c h l is =
    let m : i < length old = subst (λ n. i < n) h.many l in
    let there : c ≡ get_or old i c = is ∙ same_head i now old c l m h.rest in
    drop-cons old i c m ∙ ap (λ y. y ∷ drop (suc i) old) (sym there) ∙ ap (λ (n : ℕ). c ∷ drop n old) (sym (add-one i))

pub gained_more : (old : List NestedBuilder) (i : ℕ) (now next : List NestedBuilder) (cells : List Raw) (c d : NestedBuilder) (r : Raw) → ColumnsGained old i now cells → i < length now → c ≡ get_or now i c → next ≡ set now i d
    → Gains (column_of c) r (column_of d) → ColumnsGained old (i + 1) next (cells ++ r ∷ [])
gained_more old i now next cells c d r h l is made t =
    let m : i < length old = subst (λ n. i < n) h.many l in
    let there : c ≡ get_or old i c = is ∙ same_head i now old c l m h.rest in
    let before : take (i + 1) old ≡ take i old ++ c ∷ [] = take_more old i c m ∙ ap (λ y. take i old ++ y ∷ []) (sym there) in
    let after : take (i + 1) (set now i d) ≡ take i now ++ d ∷ [] = take_more_set now i d l in
    let grew = each_push (take i old) cells (take i now) c d r h.gained t in
    let same : drop (i + 1) (set now i d) ≡ drop (i + 1) old =
    drop-set-lt (i + 1) now i d (omega arith) ∙ sym (drop-drop 1 i now) ∙ ap (drop 1) h.rest ∙ drop-drop 1 i old in
    subst (λ cs. ColumnsGained old (i + 1) cs (cells ++ r ∷ [])) (sym made) (record {
      many = length-set now i d ∙ h.many;
      rest = same;
      gained = subst (λ cs. EachGains cs (cells ++ r ∷ []) (take (i + 1) (set now i d))) (sym before) (subst (λ ds. EachGains (take i old ++ c ∷ []) (cells ++ r ∷ []) ds) (sym after) grew);
    })

pub gained_all : (old : List NestedBuilder) (i : ℕ) (now : List NestedBuilder) (cells : List Raw) → ColumnsGained old i now cells → length now ≤ i → EachGains old cells now
gained_all old i now cells h l =
    let m : length old ≤ i = subst (λ n. n ≤ i) h.many l in
    subst (λ cs. EachGains cs cells now) (take_all i old m) (subst (λ ds. EachGains (take i old) cells ds) (take_all i now l) h.gained)

-- ---- builders

pub leaf_made : (c : ColumnBuilder) (k : LogicalType) → column_type c ≡ k → cells_of c ≡ [] → Holds (column_of (nested.Leaf c)) k []
leaf_made c k e f = subst (λ x. Holds x k []) (sym (column_of-Leaf c)) (e, f)

pub record_made : (p : Vec (Option (Unit {0})) Global) (cs : Vec NestedBuilder Global) (fs : Fields) (n : Nullability) → p.items ≡ [] → HaveFields (columns_of cs.items) fs [] → Holds (column_of (nested.Records p cs)) (struct fs n) []
record_made p cs fs n e h = subst (λ x. Holds x (struct fs n) []) (sym (column_of-Records p cs)) ([], ap (map is_some) e, refl, h)

pub list_made : (s : Vec (Option ℕ) Global) (c : Box NestedBuilder Global) (k : LogicalType) (n : Nullability) → s.items ≡ [] → Holds (column_of c.value) k [] → Holds (column_of (nested.Lists s c)) (list k n) []
list_made s c k n e h = subst (λ x. Holds x (list k n) []) (sym (column_of-Lists s c)) ([], e, refl, h)

pub sized_made : (m : ℕ) (p : Vec (Option (Unit {0})) Global) (c : Box NestedBuilder Global) (k : LogicalType) (n : Nullability) → p.items ≡ [] → Holds (column_of c.value) k [] → Holds (column_of (nested.FixedLists m p c)) (fixed_list k m n) []
sized_made m p c k n e h = subst (λ x. Holds x (fixed_list k m n) []) (sym (column_of-FixedLists m p c)) ([], ap (map is_some) e, refl, refl, All-nil (λ (r : Bool × List Raw). length r.1 ≡ m), h)

pub leaf_step : (c d : ColumnBuilder) (r : Raw) → Takes c r d → Gains (column_of (nested.Leaf c)) r (column_of (nested.Leaf d))
leaf_step c d r t =
    subst (λ x. Gains x r (column_of (nested.Leaf d))) (sym (column_of-Leaf c))
    (subst (λ x. Gains (leaves (column_type c) (cells_of c)) r x) (sym (column_of-Leaf d)) (leaf_gains c d r t))

pub record_step : (p new : Vec (Option (Unit {0})) Global) (x : Option (Unit {0})) (cs ds : Vec NestedBuilder Global) (row : List Raw) → EachGains cs.items row ds.items → new.items ≡ p.items ++ x ∷ []
    → Gains (column_of (nested.Records p cs)) (tuple_or_null (is_some x, row)) (column_of (nested.Records new ds))
record_step p new x cs ds row g e =
    let r = tuple_or_null (is_some x, row) in
    subst (λ y. Gains y r (column_of (nested.Records new ds))) (sym (column_of-Records p cs))
    (subst (λ y. Gains (tuples (map is_some p.items) (columns_of cs.items)) r y) (sym (column_of-Records new ds)) (record_gains p.items new.items x cs.items row ds.items g e))

pub list_step : (s new : Vec (Option ℕ) Global) (n : ℕ) (c d : Box NestedBuilder Global) (cells : List Raw) → GainsAll (column_of c.value) cells (column_of d.value) → length cells ≡ n → new.items ≡ s.items ++ Some n ∷ []
    → Gains (column_of (nested.Lists s c)) (tuple_of cells) (column_of (nested.Lists new d))
list_step s new n c d cells g many e =
    subst (λ y. Gains y (tuple_of cells) (column_of (nested.Lists new d))) (sym (column_of-Lists s c))
    (subst (λ y. Gains (lists s.items (column_of c.value)) (tuple_of cells) y) (sym (column_of-Lists new d)) (list_gains s.items new.items n (column_of c.value) (column_of d.value) cells g many e))

pub null_list_step : (s new : Vec (Option ℕ) Global) (c : Box NestedBuilder Global) → new.items ≡ s.items ++ None ∷ [] → Gains (column_of (nested.Lists s c)) raw_null (column_of (nested.Lists new c))
null_list_step s new c e =
    subst (λ y. Gains y raw_null (column_of (nested.Lists new c))) (sym (column_of-Lists s c))
    (subst (λ y. Gains (lists s.items (column_of c.value)) raw_null y) (sym (column_of-Lists new c)) (null_list_gains s.items new.items (column_of c.value) e))

pub sized_step : (m : ℕ) (p new : Vec (Option (Unit {0})) Global) (x : Option (Unit {0})) (c d : Box NestedBuilder Global) (cells : List Raw) → GainsAll (column_of c.value) cells (column_of d.value) → length cells ≡ m → new.items ≡ p.items ++ x ∷ []
    → Gains (column_of (nested.FixedLists m p c)) (tuple_or_null (is_some x, cells)) (column_of (nested.FixedLists m new d))
sized_step m p new x c d cells g many e =
    let r = tuple_or_null (is_some x, cells) in
    subst (λ y. Gains y r (column_of (nested.FixedLists m new d))) (sym (column_of-FixedLists m p c))
    (subst (λ y. Gains (sized_lists m (map is_some p.items) (column_of c.value)) r y) (sym (column_of-FixedLists m new d))
    (sized_gains m p.items new.items x (column_of c.value) (column_of d.value) cells g many e))

-- ---- builders whose parts are read by reference

pub gains_at : (a b : NestedBuilder) (r : Raw) (d : Column) → a ≡ b → Gains (column_of b) r d → Gains (column_of a) r d
gains_at a b r d e g = subst (λ x. Gains (column_of x) r d) (sym e) g

pub leaf_moved : (c b d : ColumnBuilder) (r : Raw) → b ≡ c → Takes b r d → Gains (column_of (nested.Leaf c)) r (column_of (nested.Leaf d))
leaf_moved c b d r e t = leaf_step c d r (subst (λ x. Takes x r d) e t)

pub record_moved : (p q new : Vec (Option (Unit {0})) Global) (x : Option (Unit {0})) (cs bs ds : Vec NestedBuilder Global) (row : List Raw) → q ≡ p → bs ≡ cs → EachGains bs.items row ds.items → new.items ≡ q.items ++ x ∷ []
    → Gains (column_of (nested.Records p cs)) (tuple_or_null (is_some x, row)) (column_of (nested.Records new ds))
record_moved p q new x cs bs ds row e f g n = record_step p new x cs ds row (subst (λ ys. EachGains ys.items row ds.items) f g) (subst (λ y. new.items ≡ y.items ++ x ∷ []) e n)

pub null_list_moved : (s q new : Vec (Option ℕ) Global) (c b : Box NestedBuilder Global) → q ≡ s → b ≡ c → new.items ≡ q.items ++ None ∷ [] → Gains (column_of (nested.Lists s c)) raw_null (column_of (nested.Lists new b))
null_list_moved s q new c b e f n =
    subst (λ y. Gains (column_of (nested.Lists s c)) raw_null (column_of (nested.Lists new y))) (sym f) (null_list_step s new c (subst (λ y. new.items ≡ y.items ++ None ∷ []) e n))

-- an empty list as the cell inside of a null
pub empty_list_moved : (s q new : Vec (Option ℕ) Global) (c b : Box NestedBuilder Global) → q ≡ s → b ≡ c → new.items ≡ q.items ++ Some 0 ∷ [] → Gains (column_of (nested.Lists s c)) (tuple_of []) (column_of (nested.Lists new b))
empty_list_moved s q new c b e f n =
    subst (λ y. Gains (column_of (nested.Lists s c)) (tuple_of []) (column_of (nested.Lists new y))) (sym f)
    (list_step s new 0 c c [] (gains_none (column_of c.value)) refl (subst (λ y. new.items ≡ y.items ++ Some 0 ∷ []) e n))

pub sized_moved : (m size : ℕ) (p q new : Vec (Option (Unit {0})) Global) (x : Option (Unit {0})) (c d : Box NestedBuilder Global) (b v : NestedBuilder) (cells : List Raw) → size ≡ m → q ≡ p → d ≡ c → b ≡ d.value
    → GainsAll (column_of b) cells (column_of v) → length cells ≡ size → new.items ≡ q.items ++ x ∷ [] → Gains (column_of (nested.FixedLists m p c)) (tuple_or_null (is_some x, cells)) (column_of (nested.FixedLists size new (with_value d v)))
sized_moved m size p q new x c d b v cells same e f at g many grown =
    subst (λ z. Gains (column_of (nested.FixedLists m p c)) (tuple_or_null (is_some x, cells)) (column_of (nested.FixedLists z new (with_value d v)))) (sym same)
    (sized_step m p new x c (with_value d v) cells (subst (λ y. GainsAll (column_of y) cells (column_of v)) (at ∙ ap (λ y. y.value) f) g) (many ∙ same) (subst (λ y. new.items ≡ y.items ++ x ∷ []) e grown))
