-- Columns to which the rows of an append are added, token by token.
use Rattle.std.proofs.Common.{◌≡◌, ℕ, suc, ℤ, ◌+◌, ◌-◌, ◌<◌, ◌≤◌, ◌==◌, List, [], ◌∷◌, ◌++◌, map, length, get_or, set, drop, Bool, true, Option, Some, None, is_some, Result, Ok, Err, if◌then◌else◌, option_map, option_and_then, Vec, Global, refl, sym, ap, ◌∙◌, subst, arith, append-nil}
use Rattle.std.specs.List.{flat_map, range_with_len}
use Rattle.std.specs.declared.boxed.Box.{Box}
use Rattle.std.specs.Box.{with_value}
use Rattle.std.proofs.lemmas.List.{drop_all, length-append}
use Rattle.std.proofs.lemmas.List.FromFn.{fill_by_all}
use Rattle.json.specs.Token.{Token}
use Rattle.json.specs.Json.{after_end_array}
use Rattle.serde_json.specs.Data.{boolean, number, string, array, no_items}
use Rattle.serde_json.specs.Events.{items_len}
use Rattle.serde_json.specs.Find.{of_integer}
use Rattle.serde_json.specs.Read.{number_of}
use Rattle.vortex_model.specs.LogicalType.{LogicalType, boolean_type, integer_type, utf8, binary, list, fixed_list, struct, Fields, no_fields, field}
use Rattle.vortex_model.specs.Content.{Raw, raw_null, raw_number, raw_byte_string}
use Rattle.vortex_model.specs.Valid.{in_range}
use Rattle.vortex_arrays_model.specs.Layout.{Layout}
use Rattle.vortex_arrays_core.specs.RawRows.{raw_row}
use Rattle.vortex_table_request.specs.Kinds.{decoded}
use Rattle.vortex_table_request.specs.Rows.{reading, readings, element_readings, if_sized}
use Rattle.vortex_table_request.specs.View.{raw_rows}
use Rattle.vortex_table_columns.specs.Cells.{IsColumn}
use Rattle.vortex_table_columns.specs.Columns.{column_type, boolean_cell, number_cell, text_cell, decoded_cell, Takes}
use Rattle.vortex_table_columns.specs.Nested.{Column, tuples, lists, sized_lists, Columns, next_column, column_of, columns_of, tuple_of, first_of, rest_of, items_in, Holds, IsOf, AreOf, Gains, GainsAll}
use Rattle.vortex_table_columns.specs.declared.column.ColumnBuilder.{ColumnBuilder}
use Rattle.vortex_table_columns.specs.declared.nested.NestedBuilder as nested
use Rattle.vortex_table_columns.specs.declared.nested.NestedBuilder.{NestedBuilder}
use Rattle.vortex_table_columns.proofs.NestedLemmas.{column_of-Leaf, column_of-Records, column_of-Lists, column_of-FixedLists, leaf_step, record_step, list_step, sized_step, gains_none, gains_more, ColumnsGained, gained_none, gained_more, gained_all, next_column_is}
use Rattle.vortex_table_tokens.specs.Columns.{TakesLeaf, TakesValue, TakesArray, EachTakes, TakesItems}
use Rattle.vortex_table_tokens.specs.Values.{HasValue, HasItems, IsLeaf}
use Rattle.vortex_table_tokens.proofs.Grammar.{no_more_items}
use Rattle.vortex_table_tokens.proofs.OneToken.{integer_kept, null_leaf, boolean_leaf, string_leaf, number_leaf}
use Rattle.vortex_table_tokens.proofs.Rows.{leaf_value, array_value, FieldsLeft, all_fields_left, field_read, ElementsLeft, all_elements_left, element_read, readings_len}

-- ---- cells are readings

boolean_reads : (k : LogicalType) (b : Bool) (r : Raw) → boolean_cell k b ≡ Some r → reading k (boolean b) ≡ Some r
boolean_reads (boolean_type n) b r e = e
boolean_reads k b r e = absurd (cc e)

number_reads : (k : LogicalType) (z : ℤ) (r : Raw) → number_cell k z ≡ Some r → reading k (number (of_integer z)) ≡ Some r
number_reads (integer_type i n) z r e = ap (λ (o : Option ℤ). option_and_then (λ x. if in_range i x then Some (raw_number i x) else None) o) (integer_kept z) ∙ e
number_reads k z r e = absurd (cc e)

decoded_reads : {E : Type 0} (x : Result (List ℕ) E) → option_map raw_byte_string (decoded x) ≡ decoded_cell x
decoded_reads (Ok bytes) = refl
decoded_reads (Err e) = refl

text_reads : (k : LogicalType) (s : List ℕ) (r : Raw) → text_cell k s ≡ Some r → reading k (string s) ≡ Some r
text_reads (utf8 n) s r e = e
text_reads (binary n) s r e = decoded_reads _ ∙ e
text_reads k s r e = absurd (cc e)

pub boolean_cell_leaf : (k : LogicalType) (b : Bool) (r : Raw) → boolean_cell k b ≡ Some r → IsLeaf k (Token.boolean b) r
boolean_cell_leaf k b r e = boolean_leaf k b r (boolean_reads k b r e)

pub number_cell_leaf : (k : LogicalType) (s : List ℕ) (z : ℤ) (r : Raw) → number_of s ≡ Some (of_integer z) → number_cell k z ≡ Some r → IsLeaf k (Token.number s) r
number_cell_leaf k s z r e f = number_leaf k s z r e (number_reads k z r f)

pub text_cell_leaf : (k : LogicalType) (s : List ℕ) (r : Raw) → text_cell k s ≡ Some r → IsLeaf k (Token.string s) r
text_cell_leaf k s r e = string_leaf k s r (text_reads k s r e)

-- ---- one value

pub leaf_read : (c d : ColumnBuilder) (old new : List Token) (t : Token) → old ≡ t ∷ new → (cell : Raw) × Takes c cell d × IsLeaf (column_type c) t cell → TakesLeaf old c d new
leaf_read c d old new t is x = (x.0, x.1, λ depth. leaf_value (column_type c) depth old new t x.0 is x.2)

of_leaf : (c : ColumnBuilder) (k : LogicalType) → IsOf (column_of (nested.Leaf c)) k → column_type c ≡ k
of_leaf c k of = (subst (λ x. Holds x k of.0) (column_of-Leaf c) of.1).0

pub leaf_taken : (depth : ℕ) (old new : List Token) (c d : ColumnBuilder) → TakesLeaf old c d new → TakesValue depth old (column_of (nested.Leaf c)) (column_of (nested.Leaf d)) new
leaf_taken depth old new c d x = (x.0, leaf_step c d x.0 x.1, λ k of. subst (λ j. HasValue depth old (λ v. reading j v ≡ Some x.0) new) (of_leaf c k of) (x.2 depth), (x.2 depth).1.1)

one_less : (old new : List Token) (t : Token) → old ≡ t ∷ new → length new < length old
one_less old new t is =
    let e : length old ≡ suc (length new) = ap length is in
    omega (arith, e)

pub null_taken : (depth : ℕ) (old new : List Token) (c d : Column) → old ≡ Token.null ∷ new → Gains c raw_null d → TakesValue depth old c d new
null_taken depth old new c d is g = (raw_null, g, λ k of. leaf_value k depth old new Token.null raw_null is (null_leaf k), one_less old new Token.null is)

pub array_taken : (depth : ℕ) (old ts new : List Token) (c d : Column) → 0 < depth → old ≡ Token.begin_array ∷ ts → TakesArray (depth - 1) ts c d new → TakesValue depth old c d new
array_taken depth old ts new c d some is x =
    let e = one_less old ts Token.begin_array is in
    let l : length new < length ts = x.3 in
    (x.0, x.1, λ k of. array_value k depth old ts new x.0 some is (x.2 k of), omega (arith, e, l))

-- ---- structs and lists

pub record_value : (depth : ℕ) (old new : List Token) (present : List Bool) (cs : Columns) (cells : List Raw) → ((fs : Fields) → AreOf cs fs → HasItems depth old (λ ds. readings fs ds ≡ Some cells) new)
    → (k : LogicalType) → IsOf (tuples present cs) k → HasItems depth old (λ ds. reading k (array ds) ≡ Some (tuple_of cells)) new
record_value depth old new present cs cells h (struct fs n) of =
    let x = h fs (map (λ (r : Bool × List Raw). r.1) of.1.0, of.1.3) in
    (x.0, x.1, x.2, ap (λ (o : Option (List Raw)). option_map tuple_of o) x.3)
record_value depth old new present cs cells h k of = absurd of.1

pub list_value : (depth : ℕ) (old new : List Token) (sizes : List (Option ℕ)) (c : Column) (cells : List Raw) → ((k : LogicalType) → IsOf c k → HasItems depth old (λ ds. element_readings k ds ≡ Some cells) new)
    → (k : LogicalType) → IsOf (lists sizes c) k → HasItems depth old (λ ds. reading k (array ds) ≡ Some (tuple_of cells)) new
list_value depth old new sizes c cells h (list k n) of =
    let x = h k (flat_map items_in of.1.0, of.1.3) in
    (x.0, x.1, x.2, ap (λ (o : Option (List Raw)). option_map tuple_of o) x.3)
list_value depth old new sizes c cells h k of = absurd of.1

same_size : (n m : ℕ) (o : Option Raw) → n ≡ m → if_sized n m o ≡ o
same_size n m o e =
    let yes : (n == m) ≡ true = grind (arith, e) in
    ap (λ (b : Bool). if b then o else None) yes

pub sized_value : (depth : ℕ) (old new : List Token) (m : ℕ) (present : List Bool) (c : Column) (cells : List Raw) → length cells ≡ m
    → ((k : LogicalType) → IsOf c k → HasItems depth old (λ ds. element_readings k ds ≡ Some cells) new)
    → (k : LogicalType) → IsOf (sized_lists m present c) k → HasItems depth old (λ ds. reading k (array ds) ≡ Some (tuple_of cells)) new
sized_value depth old new m present c cells many h (fixed_list k size n) of =
    let x = h k (flat_map (λ (r : Bool × List Raw). r.1) of.1.0, of.1.5) in (
      x.0,
      x.1,
      x.2,
      same_size (items_len x.0) size (option_map tuple_of (element_readings k x.0)) (readings_len k x.0 cells x.3 ∙ many ∙ of.1.3) ∙ ap (λ (o : Option (List Raw)). option_map tuple_of o) x.3,
    )
sized_value depth old new m present c cells many h k of = absurd of.1

pub record_taken : (depth : ℕ) (old new : List Token) (p q : Vec (Option (Unit {0})) Global) (cs ds : Vec NestedBuilder Global) → EachTakes depth old cs.items ds.items new → q.items ≡ p.items ++ Some tt ∷ []
    → TakesArray depth old (column_of (nested.Records p cs)) (column_of (nested.Records q ds)) new
record_taken depth old new p q cs ds h e = (
  tuple_of h.0,
  record_step p q (Some tt) cs ds h.0 h.1 e,
  λ k of. record_value depth old new (map is_some p.items) (columns_of cs.items) h.0 h.2 k (subst (λ x. IsOf x k) (column_of-Records p cs) of),
  h.3,
)

pub list_taken : (depth : ℕ) (old new : List Token) (s q : Vec (Option ℕ) Global) (n : ℕ) (c d : Box NestedBuilder Global) (cells : List Raw) → length cells ≡ n → TakesItems depth old (column_of c.value) cells (column_of d.value) new
    → q.items ≡ s.items ++ Some n ∷ [] → TakesArray depth old (column_of (nested.Lists s c)) (column_of (nested.Lists q d)) new
list_taken depth old new s q n c d cells many h e = (
  tuple_of cells,
  list_step s q n c d cells h.0 many e,
  λ k of. list_value depth old new s.items (column_of c.value) cells h.1 k (subst (λ x. IsOf x k) (column_of-Lists s c) of),
  h.2,
)

pub sized_taken : (depth : ℕ) (old new : List Token) (m : ℕ) (p q : Vec (Option (Unit {0})) Global) (c d : Box NestedBuilder Global) (cells : List Raw) → length cells ≡ m
    → TakesItems depth old (column_of c.value) cells (column_of d.value) new → q.items ≡ p.items ++ Some tt ∷ [] → TakesArray depth old (column_of (nested.FixedLists m p c)) (column_of (nested.FixedLists m q d)) new
sized_taken depth old new m p q c d cells many h e = (
  tuple_of cells,
  sized_step m p q (Some tt) c d cells h.0 many e,
  λ k of. sized_value depth old new m (map is_some p.items) (column_of c.value) cells many h.1 k (subst (λ x. IsOf x k) (column_of-FixedLists m p c) of),
  h.2,
)

-- ---- builders whose parts are read by reference

pub leaf_moved : (depth : ℕ) (old new : List Token) (c b d : ColumnBuilder) → b ≡ c → TakesLeaf old b d new → TakesValue depth old (column_of (nested.Leaf c)) (column_of (nested.Leaf d)) new
leaf_moved depth old new c b d e x = leaf_taken depth old new c d (subst (λ y. TakesLeaf old y d new) e x)

pub value_at : (depth : ℕ) (old new : List Token) (a b : NestedBuilder) (d : Column) → a ≡ b → TakesValue depth old (column_of b) d new → TakesValue depth old (column_of a) d new
value_at depth old new a b d e x = subst (λ y. TakesValue depth old (column_of y) d new) (sym e) x

pub takes_at : (depth : ℕ) (old new : List Token) (a b : NestedBuilder) (d : Column) → a ≡ b → TakesArray depth old (column_of b) d new → TakesArray depth old (column_of a) d new
takes_at depth old new a b d e x = subst (λ y. TakesArray depth old (column_of y) d new) (sym e) x

pub record_moved : (depth : ℕ) (old new : List Token) (p r q : Vec (Option (Unit {0})) Global) (cs bs ds : Vec NestedBuilder Global) → r ≡ p → bs ≡ cs → EachTakes depth old bs.items ds.items new → q.items ≡ r.items ++ Some tt ∷ []
    → TakesArray depth old (column_of (nested.Records p cs)) (column_of (nested.Records q ds)) new
record_moved depth old new p r q cs bs ds e f h grown =
    record_taken depth old new p q cs ds (subst (λ ys. EachTakes depth old ys.items ds.items new) f h) (subst (λ y. q.items ≡ y.items ++ Some tt ∷ []) e grown)

pub list_moved : (depth : ℕ) (old new : List Token) (s t q : Vec (Option ℕ) Global) (n : ℕ) (c d : Box NestedBuilder Global) (b v : NestedBuilder) (cells : List Raw) → t ≡ s → d ≡ c → b ≡ d.value → length cells ≡ n
    → TakesItems depth old (column_of b) cells (column_of v) new → q.items ≡ t.items ++ Some n ∷ [] → TakesArray depth old (column_of (nested.Lists s c)) (column_of (nested.Lists q (with_value d v))) new
list_moved depth old new s t q n c d b v cells e f at many h grown =
    list_taken depth old new s q n c (with_value d v) cells many (subst (λ y. TakesItems depth old (column_of y) cells (column_of v) new) (at ∙ ap (λ y. y.value) f) h) (subst (λ y. q.items ≡ y.items ++ Some n ∷ []) e grown)

pub sized_moved : (depth : ℕ) (old new : List Token) (m size : ℕ) (p r q : Vec (Option (Unit {0})) Global) (c d : Box NestedBuilder Global) (b v : NestedBuilder) (cells : List Raw) → size ≡ m → r ≡ p → d ≡ c → b ≡ d.value
    → length cells ≡ m → TakesItems depth old (column_of b) cells (column_of v) new → q.items ≡ r.items ++ Some tt ∷ [] → TakesArray depth old (column_of (nested.FixedLists m p c)) (column_of (nested.FixedLists size q (with_value d v))) new
sized_moved depth old new m size p r q c d b v cells same e f at many h grown =
    subst (λ z. TakesArray depth old (column_of (nested.FixedLists m p c)) (column_of (nested.FixedLists z q (with_value d v))) new) (sym same)
    (sized_taken depth old new m p q c (with_value d v) cells many (subst (λ y. TakesItems depth old (column_of y) cells (column_of v) new) (at ∙ ap (λ y. y.value) f) h) (subst (λ y. q.items ≡ y.items ++ Some tt ∷ []) e grown))

-- ---- the fields of a struct

-- the first i columns have one more cell, and the rest of the tokens is for the others
pub record RecordLeft (depth : ℕ) (start : List Token) (old : List NestedBuilder) (i : ℕ) (now : List NestedBuilder) (left : List Token) : Type 0 where
  pub cells : List Raw
  pub gained : ColumnsGained old i now cells
  pub within : length left ≤ length start
  pub reads : (fs : Fields) → AreOf (columns_of old) fs → (others : Fields) × AreOf (columns_of (drop i old)) others × FieldsLeft depth start fs cells left others

pub record_left : (depth : ℕ) (start : List Token) (old : List NestedBuilder) → RecordLeft depth start old 0 old start
record_left depth start old = record {
  cells = [];
  gained = gained_none old;
  within = omega arith;
  reads = λ fs of. (fs, of, all_fields_left depth start fs);
}

-- the field of the first column
abbrev FirstField : Column → Columns → Fields → Type 0
FirstField c cs fs = (x : List ℕ) × (k : LogicalType) × (rest : Fields) × (fs ≡ field x k rest) × IsOf c k × AreOf cs rest

first_field : (c : Column) (cs : Columns) (fs : Fields) → AreOf (next_column c cs) fs → FirstField c cs fs
first_field c cs no_fields of = absurd of.1
first_field c cs (field x k fs) of = (x, k, fs, refl, (map first_of of.0, of.1.1), (map rest_of of.0, of.1.2))

pub cell_taken : (depth : ℕ) (start : List Token) (old : List NestedBuilder) (i : ℕ) (now next : List NestedBuilder) (left mid : List Token) (c d : NestedBuilder) → RecordLeft depth start old i now left
    → i < length now → c ≡ get_or now i c → next ≡ set now i d → TakesValue depth left (column_of c) (column_of d) mid → RecordLeft depth start old (i + 1) next mid
cell_taken depth start old i now next left mid c d h l is made v = record {
  cells = h.cells ++ v.0 ∷ [];
  gained = gained_more old i now next h.cells c d v.0 h.gained l is made v.1;
  within = (let a = h.within in let b : length mid < length left = v.3 in omega (arith, a, b));
  reads = λ fs of.
      let before = h.reads fs of in
      let here = subst (λ cs. AreOf (columns_of cs) before.0) (next_column_is old i now h.cells c h.gained l is) before.1 in
      let f = first_field (column_of c) (columns_of (drop (i + 1) old)) before.0 here in (
        f.2,
        f.5,
        field_read depth start left mid fs f.2 h.cells f.0 f.1 v.0 (subst (λ (gs : Fields). FieldsLeft depth start fs h.cells left gs) f.3 before.2) (v.2 f.1 f.4),
      );
}

no_others : (fs : Fields) → AreOf (columns_of []) fs → fs ≡ no_fields
no_others no_fields of = refl
no_others (field x k fs) of = absurd of.1

pub record_end : (depth : ℕ) (start : List Token) (old : List NestedBuilder) (i : ℕ) (now : List NestedBuilder) (left new : List Token) → RecordLeft depth start old i now left → length now ≤ i → after_end_array left ≡ Some new
    → EachTakes depth start old now new
record_end depth start old i now left new h l e = (
  h.cells,
  gained_all old i now h.cells h.gained l,
  λ fs of.
      let before = h.reads fs of in
      let m : length old ≤ i = subst (λ n. n ≤ i) h.gained.many l in
      let none = no_others before.0 (subst (λ cs. AreOf (columns_of cs) before.0) (drop_all i old m) before.1) in
      let reads = subst (λ (gs : Fields). FieldsLeft depth start fs h.cells left gs) none before.2 in
      subst (λ (ys : List Raw). HasItems depth start (λ ds. readings fs ds ≡ Some ys) new) (append-nil h.cells) (reads no_items [] new (no_more_items depth left new e) refl refl),
  (let a = h.within in let b : length new < length left = (no_more_items depth left new e).1 in omega (arith, a, b)),
)

-- ---- the items of a list

-- the column has n more items, and the rest of the tokens is for the others
pub record ListLeft (depth : ℕ) (start : List Token) (old : Column) (n : ℕ) (now : Column) (left : List Token) : Type 0 where
  pub cells : List Raw
  pub many : length cells ≡ n
  pub gained : GainsAll old cells now
  pub within : length left ≤ length start
  pub reads : (k : LogicalType) → IsOf old k → ElementsLeft depth start k cells left

pub list_left : (depth : ℕ) (start : List Token) (old : Column) → ListLeft depth start old 0 old start
list_left depth start old = record {
  cells = [];
  many = refl;
  gained = gains_none old;
  within = omega arith;
  reads = λ k of. all_elements_left depth start k;
}

pub item_taken : (depth : ℕ) (start : List Token) (old : Column) (n m : ℕ) (now next : Column) (left mid : List Token) → ListLeft depth start old n now left → m ≡ n + 1 → TakesValue depth left now next mid → ListLeft depth start old m next mid
item_taken depth start old n m now next left mid h e v = record {
  cells = h.cells ++ v.0 ∷ [];
  many = length-append h.cells (v.0 ∷ []) ∙ ap (λ x. x + 1) h.many ∙ sym e;
  gained = gains_more old now next h.cells v.0 h.gained v.1;
  within = (let a = h.within in let b : length mid < length left = v.3 in omega (arith, a, b));
  reads = λ k of. element_read depth start left mid k h.cells v.0 (h.reads k of) (v.2 k (of.0 ++ h.cells, h.gained k of.0 of.1));
}

pub list_end : (depth : ℕ) (start : List Token) (old : Column) (n : ℕ) (now : Column) (left new : List Token) → ListLeft depth start old n now left → after_end_array left ≡ Some new
    → (cells : List Raw) × (length cells ≡ n) × TakesItems depth start old cells now new
list_end depth start old n now left new h e = (
  h.cells,
  h.many,
  (
    h.gained,
    λ k of.
        subst (λ (ys : List Raw). HasItems depth start (λ ds. element_readings k ds ≡ Some ys) new) (append-nil h.cells) (h.reads k of no_items [] new (no_more_items depth left new e) refl refl),
    (let a = h.within in let b : length new < length left = (no_more_items depth left new e).1 in omega (arith, a, b)),
  ),
)

-- ---- the rows

-- the rows of an array are the cells of its column
pub rows_are : (k : LogicalType) (cells : List Raw) (a : Layout) → IsColumn k cells a → raw_rows a ≡ cells
rows_are k cells a is =
    sym (subst (λ n. cells ≡ map (raw_row a) (range_with_len 0 n)) (sym is.len)
    (fill_by_all (raw_row a) cells (length cells) raw_null refl (λ i l. sym (is.rows i l))))
