use Rattle.std.proofs.Common.{◌≡◌, None, rules, sym, ap, subst, ◌∙◌, map}
use Rattle.std.proofs.lemmas.Result.{IfOk-weaker, IfErr-weaker}
use Rattle.vortex_model.specs.Content.{content_of}
use Rattle.vortex_model.specs.Kept.{type_fault}
use Rattle.vortex_model_table.specs.Command.{first_invalid, first_unconvertible}
use Rattle.vortex_dtype_core.specs.View.{type_of}
use Rattle.vortex_scalar_value.specs.View.{raw_in}
use Rattle.vortex_arrays_model.specs.Layout.{array_type_of, rows_of}
use Rattle.vortex_table_schema.specs.Rows.{row_content}
use Rattle.vortex_table_schema.specs.Error.{Explains}
use Rattle.vortex_table_schema.proofs.Explained.{none_so}
use Rattle.vortex_table_chunk.proofs.TypedRows.{rows_pass}
use Rattle.vortex_table_layout.specs.TooLarge.{AreTooLarge}
use Rattle.vortex_table_layout.proofs.HintLemmas.{contents_in}
use Rattle.vortex_table_layout.proofs.ConvertedRows.{explained_more}
use Rattle.vortex_table_core.proofs.Appended.{none_invalid, explains_more}
use Rattle.vortex_table_core.proofs.OwnType.{rows_convert}
use Rattle.vortex_table_core.proofs.table.Table.take_array.Goals as goal

pub returns-then-keeps_layout-clause-converts : goal.returns-then-keeps_layout-clause-converts
returns-then-keeps_layout-clause-converts c =
    let t = c.args.self.now in let k = type_of t.dtype in
    let same : array_type_of c.args.array ≡ k = (c.keeps_layout.ensures.0 c.if-keeps_layout.true).0 in
    subst (λ s. first_unconvertible 0 s k (rows_of c.args.array) ≡ None) (sym same)
    (rows_convert k c.args.array (none_so (type_fault k) t.kept) same 0 (rows_pass c.args.array c.tests_of_validity_are_right.ensures c.len-rows.ensures.sound))

pub hint_array-requires : goal.hint_array-requires
hint_array-requires c =
    let t = c.args.self.now in let k = type_of t.dtype in
    let same : array_type_of c.args.array ≡ k = (c.keeps_layout.ensures.0 c.if-keeps_layout.true).0 in
    record { kept = subst (λ s. type_fault s ≡ None) (sym same) (none_so (type_fault k) t.kept) }

pub convert_rows-requires-clause-valid : goal.convert_rows-requires-clause-valid
convert_rows-requires-clause-valid c =
    subst (λ s. first_invalid 0 s (map raw_in c.in_ok-values.values.items) ≡ None) (sym c.dtype.ensures) (none_invalid 0 (array_type_of c.args.array) c.in_ok-values.values.items c.in_ok-values.ensures.valid)

pub returns-in_err-rows-clause-refused : goal.returns-in_err-rows-clause-refused
returns-in_err-rows-clause-refused c =
    let k = type_of c.args.self.now.dtype in let s = array_type_of c.args.array in let rows = rows_of c.args.array in
    let e = c.in_err-rows.field-0.0 in
    let same : map content_of (map raw_in c.in_ok-values.values.items) ≡ rows = contents_in c.in_ok-values.values.items ∙ c.in_ok-values.ensures.rows in
    let because : Explains ⊥ (first_unconvertible 0 s k rows) e = subst (λ cs. Explains ⊥ (first_unconvertible 0 s k cs) e) same (subst (λ x. Explains ⊥ (first_unconvertible 0 x k (map content_of (map raw_in c.in_ok-values.values.items))) e) c.dtype.ensures c.in_err-rows.ensures.refused) in
    let refused : Explains (AreTooLarge k rows) (first_unconvertible 0 s k rows) e = explained_more ⊥ (AreTooLarge k rows) (first_unconvertible 0 s k rows) e (λ x. absurd x) because in
    let gives = c.from_residual-in_err-rows.ensures.1 in
    search (rules, refused, gives)

pub returns-clause-rows : goal.returns-clause-rows
returns-clause-rows c =
    let same : map row_content c.deref.result.now ≡ rows_of c.args.array = ap (map row_content) c.deref.ensures.value ∙ c.in_ok-rows.ensures.content ∙ contents_in c.in_ok-values.values.items ∙ c.in_ok-values.ensures.rows in
    IfOk-weaker c.lay_out.result (λ a. rows_of a ≡ map row_content c.deref.result.now) (λ a. rows_of a ≡ rows_of c.args.array) (λ a p. p ∙ same) c.lay_out.ensures.rows

pub returns-clause-converts : goal.returns-clause-converts
returns-clause-converts c =
    let k = type_of c.args.self.now.dtype in let s = array_type_of c.args.array in let rows = rows_of c.args.array in
    let same : map content_of (map raw_in c.in_ok-values.values.items) ≡ rows = contents_in c.in_ok-values.values.items ∙ c.in_ok-values.ensures.rows in
    let converts : first_unconvertible 0 s k rows ≡ None = subst (λ cs. first_unconvertible 0 s k cs ≡ None) same (subst (λ x. first_unconvertible 0 x k (map content_of (map raw_in c.in_ok-values.values.items)) ≡ None) c.dtype.ensures c.in_ok-rows.ensures.converts) in
    IfOk-weaker c.lay_out.result (λ a. array_type_of a ≡ k) (λ a. first_unconvertible 0 s k rows ≡ None) (λ a p. converts) c.lay_out.ensures.dtype

pub returns-clause-refused : goal.returns-clause-refused
returns-clause-refused c =
    let k = type_of c.args.self.now.dtype in let s = array_type_of c.args.array in let rows = rows_of c.args.array in
    let same : map content_of (map raw_in c.in_ok-values.values.items) ≡ rows = contents_in c.in_ok-values.values.items ∙ c.in_ok-values.ensures.rows in
    let converts : first_unconvertible 0 s k rows ≡ None = subst (λ cs. first_unconvertible 0 s k cs ≡ None) same (subst (λ x. first_unconvertible 0 x k (map content_of (map raw_in c.in_ok-values.values.items)) ≡ None) c.dtype.ensures c.in_ok-rows.ensures.converts) in
    let own : map row_content c.deref.result.now ≡ rows = ap (map row_content) c.deref.ensures.value ∙ c.in_ok-rows.ensures.content ∙ same in
    IfErr-weaker c.lay_out.result (λ e. Explains (AreTooLarge k (map row_content c.deref.result.now)) None e) (λ e. Explains (AreTooLarge k rows) (first_unconvertible 0 s k rows) e)
    (λ e p. explains_more (AreTooLarge k (map row_content c.deref.result.now)) (AreTooLarge k rows) (first_unconvertible 0 s k rows) e (λ x. subst (AreTooLarge k) own x) converts p) c.lay_out.ensures.refused

pub returns-clause-total : goal.returns-clause-total
returns-clause-total c =
    let k = type_of c.args.self.now.dtype in let s = array_type_of c.args.array in let rows = rows_of c.args.array in
    let same : map content_of (map raw_in c.in_ok-values.values.items) ≡ rows = contents_in c.in_ok-values.values.items ∙ c.in_ok-values.ensures.rows in
    let converts : first_unconvertible 0 s k rows ≡ None = subst (λ cs. first_unconvertible 0 s k cs ≡ None) same (subst (λ x. first_unconvertible 0 x k (map content_of (map raw_in c.in_ok-values.values.items)) ≡ None) c.dtype.ensures c.in_ok-rows.ensures.converts) in
    λ h. converts

pub returns-in_err-rows-clause-kept : goal.returns-in_err-rows-clause-kept
returns-in_err-rows-clause-kept c = λ h is. absurd (cc (c.keeps_layout.ensures.1 h, c.if-keeps_layout.false))

pub returns-clause-kept : goal.returns-clause-kept
returns-clause-kept c = λ h is. absurd (cc (c.keeps_layout.ensures.1 h, c.if-keeps_layout.false))
