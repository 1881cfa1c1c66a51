use Rattle.std.proofs.Common.{rules, ◌≡◌, count_by}
use Rattle.vortex_arrays_buffer.proofs.Positions.{none_of_them}
use Rattle.vortex_arrays_buffer.proofs.mask.Mask.all_false.Goals as goal

pub returns : goal.returns
returns c =
    let is : c.self.inside.true_count ≡ count_by (λ b. b) c.args.self.now = rw (← c.self.view_is) c.self.invariant in
    let none = none_of_them c.args.self.now c.self.inside.true_count is in
    (λ t. none.0 (search (rules, t)), λ a. let e : c.self.inside.true_count ≡ 0 = none.1 a in search (rules, e))
