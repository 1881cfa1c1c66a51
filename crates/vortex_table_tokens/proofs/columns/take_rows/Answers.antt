use Rattle.std.proofs.Common.{◌≡◌, [], Some, option_map, ap, sym, ◌∙◌, subst, arith}
use Rattle.serde_json.specs.Data.{array}
use Rattle.serde_json.specs.Find.{as_array}
use Rattle.vortex_dtype_core.specs.View.{type_of}
use Rattle.vortex_table_request.specs.Rows.{rows_at}
use Rattle.vortex_table_request.specs.View.{raw_rows}
use Rattle.vortex_table_tokens.specs.Values.{HasValue}
use Rattle.vortex_table_tokens.proofs.Grammar.{begins_array}
use Rattle.vortex_table_tokens.proofs.Rows.{rows_read}
use Rattle.vortex_table_tokens.proofs.ColumnLemmas.{rows_are}
use Rattle.vortex_table_tokens.proofs.columns.take_rows.Goals as goal

pub finish-requires : goal.finish-requires
finish-requires c =
    let h = c.in_ok-_count.ensures in
    (h.0, h.2.0 (type_of c.args.dtype.now) [] c.in_ok-column.ensures)

pub returns-clause-kind : goal.returns-clause-kind
returns-clause-kind c =
    let h = c.in_ok-_count.ensures in
    (c.in_ok-array.ensures h.0 (h.2.0 (type_of c.args.dtype.now) [] c.in_ok-column.ensures)).kind

pub returns-clause-rows : goal.returns-clause-rows
returns-clause-rows c =
    let h = c.in_ok-_count.ensures in
    let k = type_of c.args.dtype.now in
    let a = c.in_ok-array.array in
    let x = h.2.1 k ([], c.in_ok-column.ensures) in
    let is = c.in_ok-array.ensures h.0 (h.2.0 k [] c.in_ok-column.ensures) in
    subst (λ l. HasValue 126 c.args.reader.now (λ d. option_map (rows_at l) (as_array d) ≡ Some (raw_rows a)) c.take_items.new.reader) (sym is.kind) (
      array x.0,
      begins_array 126 c.args.reader.now c.take_array.new.reader c.take_items.new.reader x.0 (omega arith) c.in_ok-take_array.ensures x.1,
      x.2,
      ap Some (rows_read k x.0 h.0 x.3 ∙ sym (rows_are k h.0 a is)),
    )
