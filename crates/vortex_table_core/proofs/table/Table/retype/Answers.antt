use Rattle.std.proofs.Common.{◌≡◌, ap, sym, subst, ◌∙◌, map, None, is_none}
use Rattle.std.specs.Prelude.{IfSome}
use Rattle.std.proofs.lemmas.List.Elements.{All-map}
use Rattle.vortex_model.specs.Kept.{type_fault}
use Rattle.vortex_model_table.specs.Table.{rows_of}
use Rattle.vortex_model_table.specs.Command.{first_unconvertible}
use Rattle.vortex_arrays_builder.specs.Types.{IsPlainLayout}
use Rattle.vortex_dtype_core.specs.View.{type_of}
use Rattle.vortex_table_schema.specs.Leaves.{leaf_positions}
use Rattle.vortex_table_chunk.proofs.EqualLeaves.{leaves_so, leaves_same}
use Rattle.vortex_table_chunk.proofs.Formed.{lengths_same}
use Rattle.vortex_table_chunk.specs.declared.chunk.Chunk.{Chunk}
use Rattle.vortex_table_schema.specs.Lengths.{length_in}
use Rattle.vortex_table_schema.proofs.Explained.{none_so, none_both}
use Rattle.vortex_table_zonemaps.specs.Stats.{zone_of}
use Rattle.vortex_table_zonemaps.specs.Zones.{AreZoneMaps}
use Rattle.vortex_table_core.specs.TableView.{table_of}
use Rattle.vortex_table_core.proofs.Merged.{groups_in_order}
use Rattle.vortex_table_core.proofs.OwnType.{chunks_convert}
use Rattle.vortex_table_core.proofs.Regrouped.{groups_again, sizes_again, counted_again}
use Rattle.vortex_table_core.proofs.Rezoned.{zones_stay, none_made}
use Rattle.vortex_table_core.proofs.table.Table.retype.Goals as goal

pub returns-then-eq-clause-accepted : goal.returns-then-eq-clause-accepted
returns-then-eq-clause-accepted c =
    let t = c.args.self.now in let s = type_of t.dtype in let k = type_of c.args.dtype in let rows = rows_of (table_of t) in
    let same : k ≡ s = c.eq.ensures.equal.0 c.if-eq.true in
    none_both (type_fault k) (first_unconvertible 0 s k rows) c.in_ok-check_type.ensures.ok
    (subst (λ x. first_unconvertible 0 s x rows ≡ None) (sym same) (chunks_convert 0 (length_in t.bound_lengths) s t.chunks.items (none_so (type_fault s) t.kept) t.formed))

pub invariant_of-self : goal.invariant_of-self
invariant_of-self c =
    let t = c.args.self.now in let s = type_of t.dtype in let k = type_of c.args.dtype in let L = length_in t.bound_lengths in
    let made = c.in_ok-chunks.ensures in let chunks = c.in_ok-chunks.chunks.items in let leaves = c.in_ok-leaves.leaves.value.items in record {
      kept = ap is_none c.in_ok-check_type.ensures.ok;
      led = leaves_same leaves (leaf_positions k) c.in_ok-leaves.ensures;
      measured = lengths_same L k c.in_ok-lengths.lengths.value.items
          (c.in_ok-lengths.ensures ∙ ap (map L) (c.deref-2.ensures.value ∙ ap (λ v. v.items) c.deref.ensures ∙ c.in_ok-leaves.ensures));
      formed = made.formed;
      counted = counted_again s k L t.chunks.items chunks made.rows ∙ t.counted;
      grouped = groups_again s k L t.chunks.items chunks made.rows 0 t.groups c.in_ok-chunks.groups t.grouped made.groups;
      zoned = subst (λ cs. AreZoneMaps c.in-Some.zones (map zone_of cs)) c.deref-7.ensures.value
          (subst (λ o. IfSome o (λ maps. AreZoneMaps maps (map zone_of c.deref-7.result.now))) c.in-Some.is c.in_ok-zones.ensures.made);
    }

pub invariant_of-self-in_default : goal.invariant_of-self-in_default
invariant_of-self-in_default c =
    let t = c.args.self.now in let s = type_of t.dtype in let k = type_of c.args.dtype in let L = length_in t.bound_lengths in
    let made = c.in_ok-chunks.ensures in let chunks = c.in_ok-chunks.chunks.items in let leaves = c.in_ok-leaves.leaves.value.items in
    let leaf_columns : leaf_positions s ≡ leaf_positions k =
    sym (leaves_so t.leaves.value.items (leaf_positions s) t.led) ∙ sym (c.deref-4.ensures.value ∙ ap (λ v. v.items) c.deref-3.ensures)
    ∙ leaves_so c.deref-4.result.now c.deref-6.result.now (sym c.in_ok-zones.ensures.when ∙ none_made c.in_ok-zones.zones c.in_default.not-Some)
    ∙ c.deref-6.ensures.value ∙ ap (λ v. v.items) c.deref-5.ensures ∙ c.in_ok-leaves.ensures in record {
      kept = ap is_none c.in_ok-check_type.ensures.ok;
      led = leaves_same leaves (leaf_positions k) c.in_ok-leaves.ensures;
      measured = lengths_same L k c.in_ok-lengths.lengths.value.items
          (c.in_ok-lengths.ensures ∙ ap (map L) (c.deref-2.ensures.value ∙ ap (λ v. v.items) c.deref.ensures ∙ c.in_ok-leaves.ensures));
      formed = made.formed;
      counted = counted_again s k L t.chunks.items chunks made.rows ∙ t.counted;
      grouped = groups_again s k L t.chunks.items chunks made.rows 0 t.groups c.in_ok-chunks.groups t.grouped made.groups;
      zoned = zones_stay s k L leaf_columns t.chunks.items chunks t.zones t.formed made.formed made.rows t.zoned;
    }

pub returns-in-Some-clause-retyped : goal.returns-in-Some-clause-retyped
returns-in-Some-clause-retyped c =
    let t = c.args.self.now in let s = type_of t.dtype in let k = type_of c.args.dtype in
    let made = c.in_ok-chunks.ensures in λ i. record {
      kind = k;
      default = t.bound_lengths.default;
      lengths = t.bound_lengths.entries.items;
      chunks = made.rows i;
      groups = sizes_again s k (length_in t.bound_lengths) t.chunks.items c.in_ok-chunks.chunks.items made.rows t.groups c.in_ok-chunks.groups made.groups i;
    }

pub returns-in_default-clause-retyped : goal.returns-in_default-clause-retyped
returns-in_default-clause-retyped c =
    let t = c.args.self.now in let s = type_of t.dtype in let k = type_of c.args.dtype in
    let made = c.in_ok-chunks.ensures in λ i. record {
      kind = k;
      default = t.bound_lengths.default;
      lengths = t.bound_lengths.entries.items;
      chunks = made.rows i;
      groups = sizes_again s k (length_in t.bound_lengths) t.chunks.items c.in_ok-chunks.chunks.items made.rows t.groups c.in_ok-chunks.groups made.groups i;
    }

pub returns-in-Some-clause-statistics : goal.returns-in-Some-clause-statistics
returns-in-Some-clause-statistics c =
    let t = c.args.self.now in let made = c.in_ok-chunks.ensures in
    λ differs. groups_in_order (type_of c.args.dtype) (length_in t.bound_lengths) c.in_ok-chunks.chunks.items made.formed t.groups c.in_ok-chunks.groups made.groups

pub returns-in_default-clause-statistics : goal.returns-in_default-clause-statistics
returns-in_default-clause-statistics c =
    let t = c.args.self.now in let made = c.in_ok-chunks.ensures in
    λ differs. groups_in_order (type_of c.args.dtype) (length_in t.bound_lengths) c.in_ok-chunks.chunks.items made.formed t.groups c.in_ok-chunks.groups made.groups

pub returns-then-eq-clause-statistics : goal.returns-then-eq-clause-statistics
returns-then-eq-clause-statistics c = λ differs. absurd (differs (c.eq.ensures.equal.0 c.if-eq.true))

pub returns-in-Some-clause-layout : goal.returns-in-Some-clause-layout
returns-in-Some-clause-layout c = λ differs. All-map IsPlainLayout (λ (x : Chunk). x.array) c.in_ok-chunks.chunks.items c.in_ok-chunks.ensures.layout

pub returns-in_default-clause-layout : goal.returns-in_default-clause-layout
returns-in_default-clause-layout c = λ differs. All-map IsPlainLayout (λ (x : Chunk). x.array) c.in_ok-chunks.chunks.items c.in_ok-chunks.ensures.layout

pub returns-then-eq-clause-layout : goal.returns-then-eq-clause-layout
returns-then-eq-clause-layout c = λ differs. absurd (differs (c.eq.ensures.equal.0 c.if-eq.true))
