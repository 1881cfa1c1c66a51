use Rattle.std.proofs.Common.{◌≡◌, None, rules, sym, subst, map}
use Rattle.vortex_model.specs.Kept.{type_fault}
use Rattle.vortex_dtype_core.specs.View.{type_of}
use Rattle.vortex_table_schema.specs.Error.{Explains}
use Rattle.vortex_table_schema.specs.Rows.{row_content}
use Rattle.vortex_table_schema.proofs.Explained.{none_so}
use Rattle.vortex_table_layout.specs.TooLarge.{AreTooLarge}
use Rattle.vortex_table_core.proofs.table.Table.lay_out.Goals as goal

pub plain_rows-requires-clause-kept : goal.plain_rows-requires-clause-kept
plain_rows-requires-clause-kept c = none_so (type_fault (type_of c.args.self.now.dtype)) c.args.self.now.kept

pub hint_array-requires : goal.hint_array-requires
hint_array-requires c = record {
  kept = subst (λ k. type_fault k ≡ None) (sym c.in_ok-plain.ensures.dtype) (none_so (type_fault (type_of c.args.self.now.dtype)) c.args.self.now.kept);
}

pub returns-in_err-plain-clause-refused : goal.returns-in_err-plain-clause-refused
returns-in_err-plain-clause-refused c =
    let why : Explains (AreTooLarge (type_of c.args.self.now.dtype) (map row_content c.args.rows.now)) None c.in_err-plain.field-0.0 = c.in_err-plain.ensures.refused None in
    let gives = c.from_residual.ensures.1 in
    search (rules, why, gives)

pub returns-clause-layout : goal.returns-clause-layout
returns-clause-layout c = c.in_ok-array.ensures.columns c.in_ok-plain.ensures.columns
