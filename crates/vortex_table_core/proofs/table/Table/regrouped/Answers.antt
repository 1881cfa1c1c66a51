use Rattle.std.proofs.Common.{◌≡◌, ◌∙◌, refl, ◌+◌, ◌∷◌, sym, drop, arith}
use Rattle.vortex_dtype_core.specs.View.{type_of}
use Rattle.vortex_table_io.specs.Blocks.{left_in}
use Rattle.vortex_table_schema.specs.Lengths.{length_in}
use Rattle.vortex_table_layout.specs.Retyping.{target_of, lengths_of}
use Rattle.vortex_table_core.proofs.Counts.{all_rows}
use Rattle.vortex_table_core.proofs.JoinedGroups.{group_at}
use Rattle.vortex_table_core.proofs.Regrouped.{size_of, counted_again, next_regrouped}
use Rattle.vortex_table_core.proofs.Walked.{there, is_there, behind, one_more_fits}
use Rattle.vortex_table_core.proofs.table.Table.regrouped.Goals as goal

pub joined_again-requires-clause-size : goal.joined_again-requires-clause-size
joined_again-requires-clause-size c =
    let t = c.args.self.now in let k = type_of t.dtype in let L = length_in t.bound_lengths in
    let i = c.loop-group.invariant in let g = c.in-Some.group.now in let left = left_in c.next_item.new.self in
    let here : drop i.index t.groups ≡ g ∷ left = sym i.left ∙ c.in-Some.ensures in
    size_of k k L t.chunks.items c.args.chunks.now c.requires.rows g
    (group_at k L t.chunks.items 0 t.groups t.grouped i.index g (there t.groups i.index g left here) (is_there t.groups i.index g left here))

pub joined_again-requires-clause-fits : goal.joined_again-requires-clause-fits
joined_again-requires-clause-fits c =
    let t = c.args.self.now in let k = type_of t.dtype in
    let all = counted_again k k (length_in t.bound_lengths) t.chunks.items c.args.chunks.now c.requires.rows in
    let rows = all_rows t.chunks.items in let len = c.len-2.ensures in
    omega (arith, all, rows, len)

pub push-requires : goal.push-requires
push-requires c =
    let r = c.args.retyping.now in let t = c.args.self.now in
    let i = c.loop-group.invariant in let g = c.in-Some.group.now in let left = left_in c.next_item.new.self in
    let here : drop i.index t.groups ≡ g ∷ left = sym i.left ∙ c.in-Some.ensures in
    let more = one_more_fits (target_of r) (lengths_of r) c.args.chunks.now t.groups c.loop-group.groups i.index (there t.groups i.index g left here) i.regrouped in
    let n = c.len.ensures in
    omega (arith, more, n)

pub loop-group-preserved : goal.loop-group-preserved
loop-group-preserved c =
    let r = c.args.retyping.now in let t = c.args.self.now in
    let i = c.loop-group.invariant in let g = c.in-Some.group.now in let left = left_in c.next_item.new.self in
    let here : drop i.index t.groups ≡ g ∷ left = sym i.left ∙ c.in-Some.ensures in
    record {
      index = i.index + 1;
      left = behind t.groups i.index g left here;
      regrouped =
          next_regrouped (target_of r) (lengths_of r) c.args.chunks.now t.groups c.loop-group.groups c.push.new.self i.index g
          (record { first = g.first; chunks = g.chunks; rows = g.rows; joined = c.in_ok-joined.joined })
          (there t.groups i.index g left here) (is_there t.groups i.index g left here) c.in_ok-push.ensures.pushed i.regrouped
          (record { first = refl; count = refl; rows = refl; statistics = c.in_ok-joined.ensures });
    }
