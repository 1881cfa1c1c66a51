use Rattle.std.proofs.Common.{length, get_or, sym, subst}
use Rattle.std.proofs.lemmas.Result.{IfOk-weaker}
use Rattle.vortex_arrays_model.specs.Layout.{strings}
use Rattle.vortex_arrays_model.specs.Picks.{Picks}
use Rattle.vortex_arrays_core.specs.LayoutOf.{valid_of, strings_of}
use Rattle.vortex_arrays_core.proofs.Gathered.{gathers_strings}
use Rattle.vortex_arrays_core.proofs.gather.gather_strings.Goals as goal

pub of_strings-requires : goal.of_strings-requires
of_strings-requires c =
    let p = gathers_strings (strings_of c.args.kind) c.args.views.now c.in_ok-chosen.chosen c.args.buffers.now.value.items (valid_of c.args.validity.now) (valid_of c.in_ok-validity.validity) c.args.positions.now c.requires.sound c.requires.within c.in_ok-chosen.ensures c.in_ok-validity.ensures in
    let q : Picks (strings (strings_of c.args.kind) c.args.views.now c.args.buffers.now.value.items (valid_of c.args.validity.now)) (strings (strings_of c.args.kind) c.in_ok-chosen.chosen c.in_ok-buffers.buffers.value.items (valid_of c.in_ok-validity.validity)) (length c.args.positions.now) (λ i. get_or c.args.positions.now i 0) = subst (λ b. Picks (strings (strings_of c.args.kind) c.args.views.now c.args.buffers.now.value.items (valid_of c.args.validity.now)) (strings (strings_of c.args.kind) c.in_ok-chosen.chosen b.items (valid_of c.in_ok-validity.validity)) (length c.args.positions.now) (λ i. get_or c.args.positions.now i 0)) (sym c.in_ok-buffers.ensures.cases) p in
    q.sound

pub returns : goal.returns
returns c =
    let p = gathers_strings (strings_of c.args.kind) c.args.views.now c.in_ok-chosen.chosen c.args.buffers.now.value.items (valid_of c.args.validity.now) (valid_of c.in_ok-validity.validity) c.args.positions.now c.requires.sound c.requires.within c.in_ok-chosen.ensures c.in_ok-validity.ensures in
    let q : Picks (strings (strings_of c.args.kind) c.args.views.now c.args.buffers.now.value.items (valid_of c.args.validity.now)) (strings (strings_of c.args.kind) c.in_ok-chosen.chosen c.in_ok-buffers.buffers.value.items (valid_of c.in_ok-validity.validity)) (length c.args.positions.now) (λ i. get_or c.args.positions.now i 0) = subst (λ b. Picks (strings (strings_of c.args.kind) c.args.views.now c.args.buffers.now.value.items (valid_of c.args.validity.now)) (strings (strings_of c.args.kind) c.in_ok-chosen.chosen b.items (valid_of c.in_ok-validity.validity)) (length c.args.positions.now) (λ i. get_or c.args.positions.now i 0)) (sym c.in_ok-buffers.ensures.cases) p in
    IfOk-weaker c.of_strings.result _ _ (λ r is. subst (λ x. Picks (strings (strings_of c.args.kind) c.args.views.now c.args.buffers.now.value.items (valid_of c.args.validity.now)) x (length c.args.positions.now) (λ i. get_or c.args.positions.now i 0)) (sym is) q) c.of_strings.ensures
