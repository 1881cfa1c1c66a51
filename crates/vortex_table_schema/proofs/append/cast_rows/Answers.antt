use Rattle.std.proofs.Common.{◌≡◌, ◌∙◌, ap, rules, arith, ◌<◌, ◌+◌, drop, length}
use Rattle.std.specs.Cow.{cow_slice_items}
use Rattle.vortex_model.specs.Content.{content_of}
use Rattle.vortex_model.specs.Valid.{valid}
use Rattle.vortex_model_table.specs.Command.{first_unconvertible}
use Rattle.vortex_dtype_core.specs.View.{type_of}
use Rattle.vortex_scalar_value.specs.View.{raw_in, raw_at, content_in, content_at}
use Rattle.vortex_table_schema.proofs.Copied.{raw_copied}
use Rattle.vortex_table_schema.specs.Error.{Explains}
use Rattle.vortex_table_schema.proofs.Appends.{said, next_of, first_valid, rest_valid, refused_here, left_behind, row_moved}
use Rattle.vortex_table_schema.proofs.append.cast_rows.Goals as goal

pub bounds-as_slice-index : goal.bounds-as_slice-index
bounds-as_slice-index c = omega (arith, c.as_slice.ensures.len, c.loop-index.invariant.size)

pub push_converted-requires-clause-valid : goal.push_converted-requires-clause-valid
push_converted-requires-clause-valid c =
    let i = c.loop-index.index in
    let ws = cow_slice_items c.loop-index.values in
    let v = c.index-as_slice-index.result in
    let s = type_of c.args.source.now in
    let same : raw_at c.as_ref.result ≡ raw_in v = raw_copied c.as_ref.result ∙ ap raw_in c.as_ref.ensures.value in
    let within : i < length ws = omega (arith, c.loop-index.invariant.size) in
    let next = next_of ws c.as_slice.result.now i v c.as_slice.ensures.value within c.index-as_slice-index.is in
    let sources = rw next at c.loop-index.invariant.sources in
    ap (valid s) same ∙ first_valid s v (drop (i + 1) ws) sources

pub returns-in_err-push_converted-clause-refused :
    goal.returns-in_err-push_converted-clause-refused
returns-in_err-push_converted-clause-refused c =
    let vs = cow_slice_items c.args.values in
    let i = c.loop-index.index in
    let ws = cow_slice_items c.loop-index.values in
    let v = c.index-as_slice-index.result in
    let s = type_of c.args.source.now in
    let t = type_of c.args.target.now in
    let e = c.in_err-push_converted.field-0.0 in
    let same : content_at c.as_ref.result ≡ content_in v = ap content_of (raw_copied c.as_ref.result ∙ ap raw_in c.as_ref.ensures.value) in
    let within : i < length ws = omega (arith, c.loop-index.invariant.size) in
    let next = next_of ws c.as_slice.result.now i v c.as_slice.ensures.value within c.index-as_slice-index.is in
    let left = rw next at c.loop-index.invariant.left in
    let why : Explains ⊥ (first_unconvertible 0 s t (said vs)) e
    = refused_here s t c.loop-index.rows.items v (drop (i + 1) ws) (content_at c.as_ref.result) (first_unconvertible 0 s t (said vs)) e same left c.in_err-push_converted.ensures.refused in
    let gives = c.from_residual-in_err-push_converted.ensures.1 in
    search (rules, why, gives)

pub free_row-requires : goal.free_row-requires
free_row-requires c = omega (arith, c.loop-index.invariant.size)

pub loop-index-preserved : goal.loop-index-preserved
loop-index-preserved c =
    let vs = cow_slice_items c.args.values in
    let at = c.loop-index in
    let i = at.index in
    let ws = cow_slice_items at.values in
    let behind = drop (i + 1) ws in
    let v = c.index-as_slice-index.result in
    let rows = at.rows.items in
    let more = c.push_converted.new.rows.items in
    let made = c.in_ok-push_converted.ensures in
    let s = type_of c.args.source.now in
    let t = type_of c.args.target.now in
    let here = content_at c.as_ref.result in
    let same : here ≡ content_in v = ap content_of (raw_copied c.as_ref.result ∙ ap raw_in c.as_ref.ensures.value) in
    let within : i < length ws = omega (arith, at.invariant.size) in
    let next = next_of ws c.as_slice.result.now i v c.as_slice.ensures.value within c.index-as_slice-index.is in
    let content = rw next at at.invariant.content in
    let left = rw next at at.invariant.left in
    let sources = rw next at at.invariant.sources in
    rw c.free_row.ensures.behind (record {
      size = c.free_row.ensures.len ∙ at.invariant.size;
      content = row_moved s t rows v behind here same more made.content (said vs) content;
      sources = rest_valid s v behind sources;
      valid = made.valid at.invariant.valid;
      left = left_behind s t rows v behind here same more made.content (first_unconvertible 0 s t (said vs)) made.converts left;
    })
