use Rattle.std.proofs.Common.{◌≡◌, sym, subst, rules}
use Rattle.vortex_arrays_core.specs.LayoutOf.{valid_of, strings_of}
use Rattle.vortex_arrays_concat.specs.Strings.{AreViewsOf}
use Rattle.vortex_arrays_concat.proofs.StringLemmas.{strings_fit, column_of_strings}
use Rattle.vortex_arrays_concat.proofs.strings.concat_strings.Goals as goal

pub of_strings-requires : goal.of_strings-requires
of_strings-requires c =
    let s = strings_of c.args.kind in
    let ls = c.args.arrays.now in
    let all : AreViewsOf s ls c.in-Some.views.items c.in-Some.buffers.items = search rules in
    let vs : c.in_ok-views-2.views ≡ c.in-Some.views.items = search rules in
    let bs : c.in_ok-buffers.buffers.value.items ≡ c.in-Some.buffers.items = search rules in
    let made : AreViewsOf s ls c.in_ok-views-2.views c.in_ok-buffers.buffers.value.items =
    subst (λ xs. AreViewsOf s ls xs c.in_ok-buffers.buffers.value.items) (sym vs) (subst (AreViewsOf s ls c.in-Some.views.items) (sym bs) all) in
    strings_fit s ls c.in_ok-views-2.views c.in_ok-buffers.buffers.value.items (valid_of c.in_ok-validity.validity) made c.in_ok-validity.ensures

pub returns : goal.returns
returns c =
    let s = strings_of c.args.kind in
    let ls = c.args.arrays.now in
    let all : AreViewsOf s ls c.in-Some.views.items c.in-Some.buffers.items = search rules in
    let vs : c.in_ok-views-2.views ≡ c.in-Some.views.items = search rules in
    let bs : c.in_ok-buffers.buffers.value.items ≡ c.in-Some.buffers.items = search rules in
    let made : AreViewsOf s ls c.in_ok-views-2.views c.in_ok-buffers.buffers.value.items =
    subst (λ xs. AreViewsOf s ls xs c.in_ok-buffers.buffers.value.items) (sym vs) (subst (AreViewsOf s ls c.in-Some.views.items) (sym bs) all) in
    column_of_strings s ls c.in_ok-views-2.views c.in_ok-buffers.buffers.value.items (valid_of c.in_ok-validity.validity) c.in_ok-array.array c.requires.some made c.in_ok-validity.ensures c.in_ok-array.ensures
