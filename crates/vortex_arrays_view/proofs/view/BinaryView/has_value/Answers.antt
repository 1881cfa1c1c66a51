use Rattle.std.proofs.Common.{rules, arith, ◌≡◌, ◌∙◌, ◌<◌, ◌≤◌, ◌+◌, [], length, slice_index_or}
use Rattle.std.proofs.lemmas.Bool.{leb-true}
use Rattle.std.proofs.lemmas.List.{get_or_read}
use Rattle.vortex_arrays_view.specs.Views.{size_of}
use Rattle.vortex_arrays_view.proofs.Made.{tested, too_short, not_short}
use Rattle.vortex_arrays_view.proofs.view.BinaryView.has_value.Goals as goal

pub returns-then-end-buffer : goal.returns-then-end-buffer
returns-then-end-buffer c =
    let long : 12 < size_of c.args.self.now = not_short (size_of c.args.self.now) c.is_inlined.result c.if-is_inlined.false c.is_inlined.ensures.1 in
    let there : c.buffer_index-index.result < length c.args.buffers.now = search rules in
    let is : c.as_slice-buffer.result.now ≡ slice_index_or c.args.buffers.now c.buffer_index-index.result [] =
    c.as_slice-buffer.ensures ∙ get_or_read c.args.buffers.now c.buffer_index-index.result c.index-buffers-index.result there c.index-buffers-index.is [] in
    let inside : c.offset-start.result + c.len.result ≤ length c.as_slice-buffer.result.now = c.if-end-buffer.true in
    tested c.args.self.now c.args.buffers.now c.as_slice-buffer.result.now c.len.result c.offset-start.result c.buffer_index-index.result c.prefix-prefix.result c.eq.result
    c.len.ensures c.offset-start.ensures c.buffer_index-index.ensures long there is inside c.prefix-prefix.ensures c.eq.ensures

pub returns-else-end-buffer : goal.returns-else-end-buffer
returns-else-end-buffer c =
    let long : 12 < size_of c.args.self.now = not_short (size_of c.args.self.now) c.is_inlined.result c.if-is_inlined.false c.is_inlined.ensures.1 in
    let there : c.buffer_index-index.result < length c.args.buffers.now = search rules in
    let is : c.as_slice-buffer.result.now ≡ slice_index_or c.args.buffers.now c.buffer_index-index.result [] =
    c.as_slice-buffer.ensures ∙ get_or_read c.args.buffers.now c.buffer_index-index.result c.index-buffers-index.result there c.index-buffers-index.is [] in
    let short : length c.as_slice-buffer.result.now < c.offset-start.result + c.len.result = c.if-end-buffer.false in (
      λ e.
          let fits : c.offset-start.result + c.len.result ≤ length c.as_slice-buffer.result.now = leb-true (c.offset-start.result + c.len.result) (length c.as_slice-buffer.result.now) e in
          absurd (omega (arith, fits, short)),
      λ h. absurd (too_short c.args.self.now c.args.buffers.now c.as_slice-buffer.result.now c.len.result c.offset-start.result c.buffer_index-index.result
          c.len.ensures c.offset-start.ensures c.buffer_index-index.ensures long is short h),
    )
