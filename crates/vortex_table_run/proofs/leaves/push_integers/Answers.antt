use Rattle.std.proofs.Common.{pos, ◌++◌, map, ap, sym, ◌∙◌, false}
use Rattle.std.proofs.lemmas.Result.{on_ok_weaker}
use Rattle.vortex_model.specs.LogicalType.{u8, u16, u32, u64, i8, i16, i32, i64}
use Rattle.vortex_arrays_model.specs.Layout.{content_at, numbers, span}
use Rattle.vortex_arrays_core.specs.LayoutOf.{valid_of}
use Rattle.vortex_arrays_buffer.specs.PrimitiveBuffers.{kind_of_numbers, integers_of}
use Rattle.vortex_arrays_buffer.proofs.NumberLemmas.{eq_integers}
use Rattle.vortex_table_response.specs.Text.{contents_text}
use Rattle.vortex_table_run.proofs.leaves.push_integers.Goals as goal

pub returns-in-U8 : goal.returns-in-U8
returns-in-U8 c =
    let v = valid_of c.args.validity.now in
    let same = ap (λ xs. numbers u8 (map pos xs) v) c.as_slice.ensures ∙ ap (λ n. numbers (kind_of_numbers n) (integers_of n) v) (sym c.in-U8.is) in
    on_ok_weaker c.push_native.result (λ e. e ∙ ap (λ a. c.args.out.now.items ++ contents_text false (span (content_at a) c.args.start c.args.count)) same) c.push_native.ensures

pub returns-in-U16 : goal.returns-in-U16
returns-in-U16 c =
    let v = valid_of c.args.validity.now in
    let same = ap (λ xs. numbers u16 (map pos xs) v) c.as_slice-in-U16.ensures ∙ ap (λ n. numbers (kind_of_numbers n) (integers_of n) v) (sym c.in-U16.is) in
    on_ok_weaker c.push_native-in-U16.result (λ e. e ∙ ap (λ a. c.args.out.now.items ++ contents_text false (span (content_at a) c.args.start c.args.count)) same) c.push_native-in-U16.ensures

pub returns-in-U32 : goal.returns-in-U32
returns-in-U32 c =
    let v = valid_of c.args.validity.now in
    let same = ap (λ xs. numbers u32 (map pos xs) v) c.as_slice-in-U32.ensures ∙ ap (λ n. numbers (kind_of_numbers n) (integers_of n) v) (sym c.in-U32.is) in
    on_ok_weaker c.push_native-in-U32.result (λ e. e ∙ ap (λ a. c.args.out.now.items ++ contents_text false (span (content_at a) c.args.start c.args.count)) same) c.push_native-in-U32.ensures

pub returns-in-U64 : goal.returns-in-U64
returns-in-U64 c =
    let v = valid_of c.args.validity.now in
    let same = ap (λ xs. numbers u64 (map pos xs) v) c.as_slice-in-U64.ensures ∙ ap (λ n. numbers (kind_of_numbers n) (integers_of n) v) (sym c.in-U64.is) in
    on_ok_weaker c.push_native-in-U64.result (λ e. e ∙ ap (λ a. c.args.out.now.items ++ contents_text false (span (content_at a) c.args.start c.args.count)) same) c.push_native-in-U64.ensures

pub returns-in-I8 : goal.returns-in-I8
returns-in-I8 c =
    let v = valid_of c.args.validity.now in
    let same = ap (λ xs. numbers i8 xs v) (sym (eq_integers c.as_slice-in-I8.result.now) ∙ c.as_slice-in-I8.ensures) ∙ ap (λ n. numbers (kind_of_numbers n) (integers_of n) v) (sym c.in-I8.is) in
    on_ok_weaker c.push_native-in-I8.result (λ e. e ∙ ap (λ a. c.args.out.now.items ++ contents_text false (span (content_at a) c.args.start c.args.count)) same) c.push_native-in-I8.ensures

pub returns-in-I16 : goal.returns-in-I16
returns-in-I16 c =
    let v = valid_of c.args.validity.now in
    let same = ap (λ xs. numbers i16 xs v) (sym (eq_integers c.as_slice-in-I16.result.now) ∙ c.as_slice-in-I16.ensures) ∙ ap (λ n. numbers (kind_of_numbers n) (integers_of n) v) (sym c.in-I16.is) in
    on_ok_weaker c.push_native-in-I16.result (λ e. e ∙ ap (λ a. c.args.out.now.items ++ contents_text false (span (content_at a) c.args.start c.args.count)) same) c.push_native-in-I16.ensures

pub returns-in-I32 : goal.returns-in-I32
returns-in-I32 c =
    let v = valid_of c.args.validity.now in
    let same = ap (λ xs. numbers i32 xs v) (sym (eq_integers c.as_slice-in-I32.result.now) ∙ c.as_slice-in-I32.ensures) ∙ ap (λ n. numbers (kind_of_numbers n) (integers_of n) v) (sym c.in-I32.is) in
    on_ok_weaker c.push_native-in-I32.result (λ e. e ∙ ap (λ a. c.args.out.now.items ++ contents_text false (span (content_at a) c.args.start c.args.count)) same) c.push_native-in-I32.ensures

pub returns-in-I64 : goal.returns-in-I64
returns-in-I64 c =
    let v = valid_of c.args.validity.now in
    let same = ap (λ xs. numbers i64 xs v) (sym (eq_integers c.as_slice-in-I64.result.now) ∙ c.as_slice-in-I64.ensures) ∙ ap (λ n. numbers (kind_of_numbers n) (integers_of n) v) (sym c.in-I64.is) in
    on_ok_weaker c.push_native-in-I64.result (λ e. e ∙ ap (λ a. c.args.out.now.items ++ contents_text false (span (content_at a) c.args.start c.args.count)) same) c.push_native-in-I64.ensures
