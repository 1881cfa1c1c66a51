use Rattle.std.proofs.Common.{◌≡◌, ◌<◌, refl, sym, ap, subst, ◌∙◌, ◌+◌, ◌++◌, ◌∷◌, ◌&&◌, [], arith, length, map, ℕ, true, None, inl, inr}
use Rattle.std.specs.List.{list_all}
use Rattle.std.proofs.lemmas.List.{length-map, map-append}
use Rattle.std.proofs.lemmas.List.Folds.{list_all-append}
use Rattle.std.proofs.lemmas.List.Sums.{sum_by-append}
use Rattle.vortex_model_table.specs.Table.{rows_of as table_rows}
use Rattle.vortex_arrays_model.specs.Layout.{len_of, array_type_of, rows_of}
use Rattle.vortex_arrays_model.proofs.RowsLemmas.{row_count as rows_counted}
use Rattle.vortex_dtype_core.specs.View.{type_of}
use Rattle.vortex_table_chunk.specs.Bounds.{are_typed_at}
use Rattle.vortex_table_chunk.specs.Chunk.{chunk_rows, row_count}
use Rattle.vortex_table_chunk.specs.Formed.{is_formed}
use Rattle.vortex_table_chunk.specs.declared.chunk.Chunk.{Chunk}
use Rattle.vortex_table_chunk.proofs.EqualLeaves.{leaves_so}
use Rattle.vortex_table_chunk.proofs.Formed.{lengths_so, formed_so}
use Rattle.vortex_table_schema.specs.Lengths.{length_in}
use Rattle.vortex_table_zonemaps.specs.Stats.{zone_of}
use Rattle.vortex_table_zonemaps.specs.Zones.{AreZoneMaps}
use Rattle.vortex_table_core.specs.Group.{AreGroups}
use Rattle.vortex_table_core.specs.TableView.{table_of}
use Rattle.vortex_table_core.specs.declared.group.Group.{Group}
use Rattle.vortex_table_schema.specs.Leaves.{leaf_positions}
use Rattle.vortex_table_core.proofs.Appended.{appended_some}
use Rattle.vortex_table_core.proofs.Counts.{all_rows}
use Rattle.vortex_table_core.proofs.PushedGroups.{group_pushed}
use Rattle.vortex_table_core.proofs.Walked.{few_groups}
use Rattle.vortex_table_core.proofs.table.Table.push_array.Goals as goal

pub returns-in_default-clause-refused : goal.returns-in_default-clause-refused
returns-in_default-clause-refused c =
    let table = c.args.self.now in
    let held : length (table_rows (table_of table)) ≡ table.len = all_rows table.chunks.items ∙ table.counted in
    let n = c.len-rows.ensures.count in
    omega (arith, held, n, c.in_default.ensures)

pub new_chunk-requires-clause-lengths : goal.new_chunk-requires-clause-lengths
new_chunk-requires-clause-lengths c =
    let t = c.args.self.now in let k = type_of t.dtype in let L = length_in t.bound_lengths in
    ap length (lengths_so L k t.lengths.value.items t.measured) ∙ length-map (leaf_positions k) L ∙ ap length (sym (leaves_so t.leaves.value.items (leaf_positions k) t.led))

pub new_chunk-requires-clause-leaves : goal.new_chunk-requires-clause-leaves
new_chunk-requires-clause-leaves c =
    let t = c.args.self.now in
    leaves_so t.leaves.value.items (leaf_positions (type_of t.dtype)) t.led ∙ ap leaf_positions (sym c.requires)

pub push-requires : goal.push-requires
push-requires c =
    let t = c.args.self.now in
    let few = few_groups (type_of t.dtype) (length_in t.bound_lengths) 0 t.groups t.chunks.items t.grouped in
    let same = t.chunks.ok.0 in let held = t.chunks.ok.1 in let small = t.chunks.small in omega (arith, few, same, held, small)

pub invariant_of-self-2 : goal.invariant_of-self-2
invariant_of-self-2 c =
    let t = c.args.self.now in let k = type_of t.dtype in let L = length_in t.bound_lengths in
    let chunk = c.in_ok-chunk.chunk in let made = c.in_ok-chunk.ensures in
    let n = c.len-rows.ensures.count in
    let len : len_of chunk.array ≡ len_of c.args.array = ap len_of made.array in
    let some : 0 < len_of chunk.array = omega (arith, c.if-rows-eq0.false, n, len) in
    let types : are_typed_at k chunk.leaves.value.items chunk.bounds.items ≡ true = ap (λ x. are_typed_at x chunk.leaves.value.items chunk.bounds.items) (sym c.requires) ∙ made.types in
    let one : is_formed L k chunk ≡ true = formed_so L k chunk some (ap array_type_of made.array ∙ c.requires)
    (made.leaves ∙ leaves_so t.leaves.value.items (leaf_positions k) t.led) (made.lengths ∙ lengths_so L k t.lengths.value.items t.measured) types in
    let g : Group = record { first = c.len-index.result; chunks = 1; rows = c.len-rows.result; joined = None } in
    let count : g.rows ≡ len_of chunk.array = n ∙ sym len in
    let size = c.len-index.ensures in let same = t.chunks.ok.0 in
    let first : g.first ≡ 0 + length t.chunks.items = omega (arith, size, same) in
    let all : ℕ = row_count c.push-2.new.self.items in let before : ℕ = row_count t.chunks.items in let m : ℕ = len_of chunk.array in
    let pushed : c.push-2.new.self.items ≡ t.chunks.items ++ chunk ∷ [] = c.in_ok-push-2.ensures.items ∙ ap (λ cs. cs ++ chunk ∷ []) c.in_ok-reserve.ensures.items in
    let split : all ≡ before + (0 + m) = ap row_count pushed ∙ sum_by-append (λ (x : Chunk). len_of x.array) t.chunks.items (chunk ∷ []) in
    let added = c.in-Some.ensures in let held : before ≡ t.len = t.counted in
    record {
      kept = t.kept;
      led = t.led;
      measured = t.measured;
      formed = ap (list_all (is_formed L k)) pushed ∙ list_all-append (is_formed L k) t.chunks.items (chunk ∷ []) ∙ (λ i. t.formed i && (one i && true));
      counted = omega (arith, split, len, n, added, held);
      grouped = subst (λ gs. AreGroups k L 0 gs c.push-2.new.self.items) (sym c.in_ok-push.ensures.pushed)
          (subst (λ cs. AreGroups k L 0 (t.groups ++ g ∷ []) cs) (sym pushed)
          (group_pushed k L g chunk refl count refl 0 t.groups t.chunks.items t.grouped first));
      zoned =
          (let mapped = length-map t.chunks.items zone_of in
          let many : length (map zone_of t.chunks.items) ≡ c.len-index.result = omega (arith, mapped, size, same) in
          subst (AreZoneMaps c.put.new.self)
          ((λ i. map zone_of t.chunks.items ++ (c.deref.ensures.value i, count i) ∷ []) ∙ sym (ap (map zone_of) pushed ∙ map-append zone_of t.chunks.items (chunk ∷ [])))
          (c.in_ok-put.ensures.put (map zone_of t.chunks.items) many t.zoned));
    }

pub returns-clause-appended : goal.returns-clause-appended
returns-clause-appended c =
    let t = c.args.self.now in
    let chunk = c.in_ok-chunk.chunk in let made = c.in_ok-chunk.ensures in
    let rows = rows_of c.args.array in
    let n = c.len-rows.ensures.count in let counted = rows_counted c.args.array in
    let some : 0 < length rows = omega (arith, c.if-rows-eq0.false, n, counted) in
    let g : Group = record { first = c.len-index.result; chunks = 1; rows = c.len-rows.result; joined = None } in
    let pushed : c.push-2.new.self.items ≡ t.chunks.items ++ chunk ∷ [] = c.in_ok-push-2.ensures.items ∙ ap (λ cs. cs ++ chunk ∷ []) c.in_ok-reserve.ensures.items in
    let chunks : map chunk_rows c.push-2.new.self.items ≡ map chunk_rows t.chunks.items ++ rows ∷ [] =
    ap (map chunk_rows) pushed ∙ map-append chunk_rows t.chunks.items (chunk ∷ []) ∙ ap (λ x. map chunk_rows t.chunks.items ++ x ∷ []) (ap rows_of made.array) in
    let groups : map (λ (x : Group). x.chunks) c.push.new.self ≡ map (λ (x : Group). x.chunks) t.groups ++ 1 ∷ [] =
    ap (map (λ (x : Group). x.chunks)) c.in_ok-push.ensures.pushed ∙ map-append (λ (x : Group). x.chunks) t.groups (g ∷ []) in
    (λ i. record {
      kind = (table_of t).kind;
      default = (table_of t).default;
      lengths = (table_of t).lengths;
      chunks = chunks i;
      groups = groups i;
    }) ∙ sym (appended_some (table_of t) rows some)

pub returns-then-rows-eq0-clause-added : goal.returns-then-rows-eq0-clause-added
returns-then-rows-eq0-clause-added c = inl (record { chunks = record { dtype = refl; bound_lengths = refl; chunks = refl }; groups = refl })

pub returns-clause-added : goal.returns-clause-added
returns-clause-added c =
    let t = c.args.self.now in let chunk = c.in_ok-chunk.chunk in
    let g : Group = record { first = c.len-index.result; chunks = 1; rows = c.len-rows.result; joined = None } in
    let size = c.len-index.ensures in let same = t.chunks.ok.0 in
    let first : c.len-index.result ≡ length t.chunks.items = omega (arith, size, same) in
    inr (
      chunk,
      g,
      record {
        dtype = refl;
        bound_lengths = refl;
        chunks = c.in_ok-push-2.ensures.items ∙ ap (λ cs. cs ++ chunk ∷ []) c.in_ok-reserve.ensures.items;
        groups = c.in_ok-push.ensures.pushed;
        first = first;
        alone = refl;
        own = refl;
      },
    )
