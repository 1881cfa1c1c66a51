-- Neighbouring groups of one chunk each, whose chunks are looked at together.
use Rattle.std.proofs.Common.{◌≡◌, refl, sym, ◌∙◌, ap, subst, ℕ, zero, suc, ◌+◌, ◌*◌, ◌<◌, ◌≤◌, List, [], ◌∷◌, ◌++◌, length, map, take, drop, get_or, count_by, not, Bool, true, false, Option, Some, None, add-zero, add-one, arith}
use Rattle.std.specs.Prelude.{is_some, option_map}
use Rattle.std.specs.List.{list_all}
use Rattle.std.proofs.lemmas.List.{length-drop, length-take, length-map, get_or-map}
use Rattle.vortex_model.specs.Content.{Content}
use Rattle.vortex_model.specs.LogicalType.{LogicalType}
use Rattle.vortex_model.specs.Path.{Positions}
use Rattle.vortex_model_table.specs.Table.{Table, bound_length}
use Rattle.vortex_model_table.specs.Scan.{ScanAnswer, is_many, is_skipped, is_in_group, one_if, saturated}
use Rattle.vortex_table_chunk.specs.Chunk.{chunk_rows}
use Rattle.vortex_table_chunk.specs.Formed.{is_formed}
use Rattle.vortex_table_chunk.specs.declared.chunk.Chunk.{Chunk}
use Rattle.vortex_stats_array.specs.declared.array_stats.ArrayStats.{ArrayStats}
use Rattle.vortex_table_core.specs.Group.{HasStatistics, IsGroup, AreGroups, chunks_of}
use Rattle.vortex_table_core.specs.Plan.{IsPlan, table_in, question_in, chunks_in}
use Rattle.vortex_table_core.specs.Progress.{Question, answer_to, outcome_to, with_chunk, with_group, looked_at, is_group_skipped, outcome_in, group_proofs, no_answer, IsCounted}
use Rattle.vortex_table_core.specs.declared.group.Group.{Group}
use Rattle.vortex_table_core.specs.declared.plan.Scan.{Scan}
use Rattle.vortex_table_core.proofs.Groups.{ahead, drop_on, formed_in, group_entered, Reached, at_start, starts_with_none, first_here, group_here, within, one_on, starts_behind, at_end}
use Rattle.vortex_table_core.proofs.Progress.{proofs_after, saturated_once}
use Rattle.vortex_table_core.proofs.Proven.{one_is_none, many_if}
use Rattle.vortex_table_core.proofs.Walked.{there as is_inside, is_there, all_seen, few_groups}

pub none_taken : {X : Type 0} (n : ℕ) → take {A = X} n [] ≡ []
none_taken zero = refl
none_taken (suc n) = refl

take_on : {X : Type 0} (n m : ℕ) (xs : List X) → take (n + m) xs ≡ take n xs ++ take m (drop n xs)
take_on zero m xs = ap (λ k. take k xs) (let e : 0 + m ≡ m = omega arith in e)
take_on (suc n) m [] = none_taken (suc n + m) ∙ sym (none_taken m)
take_on (suc n) m (x ∷ xs) = ap (λ k. take k (x ∷ xs)) (let e : suc n + m ≡ suc (n + m) = omega arith in e) ∙ ap (λ ys. x ∷ ys) (take_on n m xs)

plus_none : (n f : ℕ) → n ≡ n + f * 0
plus_none n f = grind arith

-- chunks after chunks
ahead_both : (plan : Scan) (i : ℕ) (xs ys : List Chunk) (a : ScanAnswer) → ahead plan i (xs ++ ys) a ≡ ahead plan (i + length xs) ys (ahead plan i xs a)
ahead_both plan i [] ys a = ap (λ n. ahead plan n ys a) (sym (add-zero i))
ahead_both plan i (x ∷ xs) ys a =
    let q = question_in plan in let one = with_chunk q i (chunk_rows x) (outcome_to q (chunk_rows x)) a in
    ahead_both plan (suc i) xs ys one ∙ ap (λ n. ahead plan n ys (ahead plan (suc i) xs one)) (let e : suc i + length xs ≡ i + suc (length xs) = omega arith in e)

-- The groups up to here are looked at, but for the chunks of the last of them. This is the answer before that.
pub record Waiting (plan : Scan) (j first count : ℕ) (a : ScanAnswer) : Type 0 where
  pub reached : Reached plan j (ahead plan first (chunks_in plan first count) a)
  pub at : reached.start ≡ first + count
  pub inside : first + count ≤ length plan.table.now.chunks.items
  pub counted : IsCounted a

pub none_counted : (q : Question) (a : ScanAnswer) → a ≡ no_answer q → IsCounted a
none_counted q a none = record {
  tested = ap (λ (x : ScanAnswer). saturated x.rows_tested) none ∙ sym (ap (λ (x : ScanAnswer). x.rows_tested) none);
  proofs = ap (λ (x : ScanAnswer). saturated x.proofs) none ∙ sym (ap (λ (x : ScanAnswer). x.proofs) none);
}

pub waiting_start : (plan : Scan) (a : ScanAnswer) → a ≡ no_answer (question_in plan) → Waiting plan 0 0 0 a
waiting_start plan a none = record {
  reached = at_start plan a none;
  at = (let h = starts_with_none plan a none in omega (arith, h));
  inside = (let h : 0 ≤ length plan.table.now.chunks.items = omega arith in h);
  counted = none_counted (question_in plan) a none;
}

-- ---- one more chunk that is a group

module _ (plan : Scan) (is : IsPlan plan) (j first count : ℕ) (a : ScanAnswer) (w : Waiting plan j first count a) (g : Group) (there : j < length plan.table.now.groups) (here : g ≡ get_or plan.table.now.groups j g)
    (alone : option_map (λ v. v.items) g.joined ≡ None) where
  abbrev t : Table
  t = table_in plan

  abbrev q : Question
  q = question_in plan

  abbrev all : List Chunk
  all = plan.table.now.chunks.items

  abbrev own : List Chunk
  own = chunks_of all g

  abbrev before : ScanAnswer
  before = ahead plan first (chunks_in plan first count) a

  grouped : IsGroup t.kind (bound_length t) g own
  grouped = group_here plan j g before there here w.reached

  formed : list_all (is_formed (bound_length t) t.kind) own ≡ true
  formed = formed_in (is_formed (bound_length t) t.kind) g all plan.table.now.formed

  one : g.chunks ≡ 1
  one = sym grouped.count ∙ subst (λ o. HasStatistics t.kind (bound_length t) o own) alone grouped.statistics

  first_so : g.first ≡ first + count
  first_so = first_here plan j g before there here w.reached ∙ w.at

  not_many : is_many (map chunk_rows own) ≡ false
  not_many = sym (many_if plan is g own formed grouped _ grouped.statistics) ∙ ap is_some alone

  longer : chunks_in plan first (count + 1) ≡ chunks_in plan first count ++ own
  longer =
      take_on count 1 (drop first all) ∙ ap (λ xs. take count (drop first all) ++ take 1 xs) (drop_on first count all)
      ∙ (λ i. take count (drop first all) ++ take (sym one i) (drop (sym first_so i) all))

  counted : length (chunks_in plan first count) ≡ count
  counted =
      let taken = length-take count (drop first all) in let left = length-drop first all in let fits = w.inside in
      omega (arith, taken, left, fits)

  saved : saturated before.proofs ≡ before.proofs
  saved =
      let now = proofs_after q (outcome_to q) first (map chunk_rows (chunks_in plan first count)) a w.counted.proofs in
      ap saturated now
      ∙ saturated_once (a.proofs + (one_if (is_some q.falsifier) * count_by (λ o. not (is_in_group o)) (map (outcome_to q) (map chunk_rows (chunks_in plan first count)))
      + one_if (is_some q.satisfier) * count_by (λ o. not (is_skipped o)) (map (outcome_to q) (map chunk_rows (chunks_in plan first count)))))
      ∙ sym now

  as_before : before.proofs ≡ saturated (before.proofs + group_proofs q (is_many (map chunk_rows own)))
  as_before =
      sym saved ∙ ap saturated (plus_none before.proofs (one_if (is_some q.falsifier)))
      ∙ ap (λ b. saturated (before.proofs + group_proofs q b)) (sym not_many)

  entered : before ≡ looked_at q (is_many (map chunk_rows own)) before
  entered = λ i. record {
    rows = before.rows;
    kind = before.kind;
    skipped = before.skipped;
    whole = before.whole;
    rows_tested = before.rows_tested;
    proofs = as_before i;
  }

  one_by_one : ahead plan first (chunks_in plan first (count + 1)) a ≡ with_group q g.first (map chunk_rows own) before
  one_by_one =
      group_entered plan is g own formed grouped before (ahead plan first (chunks_in plan first (count + 1)) a) before
      (sym (one_is_none plan is g own formed grouped _ alone grouped.statistics)) entered
      (ap (λ cs. ahead plan first cs a) longer ∙ ahead_both plan first (chunks_in plan first count) own a
      ∙ ap (λ n. ahead plan n own before) (ap (λ m. first + m) counted ∙ sym first_so))

  pub one_waits : Waiting plan (j + 1) first (count + 1) a
  one_waits = record {
    reached = one_on plan j g before there here w.reached (ahead plan first (chunks_in plan first (count + 1)) a) one_by_one;
    at =
        (let h = starts_behind plan j g before there here w.reached (ahead plan first (chunks_in plan first (count + 1)) a) one_by_one in
        let s = w.at in let o = one in omega (arith, h, s, o));
    inside = (let fits = within plan j g before there here w.reached in let f = first_so in let o = one in omega (arith, fits, f, o));
    counted = w.counted;
  }

-- ---- once the chunks that wait are looked at

module _ (plan : Scan) (j first count : ℕ) (a b : ScanAnswer) (w : Waiting plan j first count a) (found : b ≡ ahead plan first (chunks_in plan first count) a) where
  pub none_waits : Reached plan j b
  none_waits = subst (Reached plan j) (sym found) w.reached

  pub all_looked_at : length plan.table.now.groups ≤ j → b ≡ answer_to (question_in plan)
  all_looked_at done = at_end plan j b done none_waits

  -- a group of more chunks
  pub group_next : (g : Group) (c : ScanAnswer) → j < length plan.table.now.groups → g ≡ get_or plan.table.now.groups j g →
      c ≡ with_group (question_in plan) g.first (map chunk_rows (chunks_of plan.table.now.chunks.items g)) b → Waiting plan (j + 1) (g.first + g.chunks) 0 c
  group_next g c there here made =
      let rows : List (List Content) = map chunk_rows (chunks_of plan.table.now.chunks.items g) in let q = question_in plan in
      let now = looked_at q (is_many rows) b in let f = outcome_in (is_group_skipped q rows) q in
      let same = ap (λ (x : ScanAnswer). x.proofs) made ∙ proofs_after q f g.first rows now (saturated_once (b.proofs + group_proofs q (is_many rows))) in record {
        reached = one_on plan j g b there here none_waits c made;
        at =
            (let s = starts_behind plan j g b there here none_waits c made in
            let h = first_here plan j g b there here none_waits in omega (arith, s, h));
        inside = (let h = within plan j g b there here none_waits in omega (arith, h));
        counted = record {
          tested = (one_on plan j g b there here none_waits c made).counted;
          proofs =
              (ap saturated same
              ∙ saturated_once (now.proofs + (one_if (is_some q.falsifier) * count_by (λ o. not (is_in_group o)) (map f rows) + one_if (is_some q.satisfier) * count_by (λ o. not (is_skipped o)) (map f rows)))
              ∙ sym same);
        };
      }

-- ---- the mask of neighbouring chunks

pub mask_at : (f : Chunk → Bool) (mask : List Bool) (chunks : List Chunk) (i : ℕ) (chunk : Chunk) (d : Bool) → mask ≡ map f chunks → i < length chunks → chunk ≡ get_or chunks i chunk → get_or mask i d ≡ f chunk
mask_at f mask chunks i chunk d made inside is = ap (λ m. get_or m i d) made ∙ get_or-map f chunks i chunk d inside ∙ ap f (sym is)

pub mask_within : (f : Chunk → Bool) (mask : List Bool) (chunks : List Chunk) (i : ℕ) → mask ≡ map f chunks → i < length chunks → i < length mask
mask_within f mask chunks i made inside = let same : length mask ≡ length chunks = ap length made ∙ length-map chunks f in omega (arith, same, inside)

-- ---- a group of one chunk has no statistics of its own

pub none_if : {X Y : Type 0} (f : X → Y) (o : Option X) → is_some o ≡ false → option_map f o ≡ None
none_if f None h = refl
none_if f (Some x) h = absurd (cc h)

-- ---- as many groups as chunks

lone_none : (k : LogicalType) (L : Positions → ℕ) (o : Option (List ArrayStats)) (chunks : List Chunk) → length chunks ≡ 1 → HasStatistics k L o chunks → o ≡ None
lone_none k L None chunks one h = refl
lone_none k L (Some bounds) chunks one h = let many = h.0 in absurd (omega (arith, one, many))

-- of as many groups as chunks the first has one chunk
lone_first : (k : LogicalType) (L : Positions → ℕ) (i : ℕ) (g : Group) (groups : List Group) (chunks : List Chunk) → AreGroups k L i (g ∷ groups) chunks → suc (length groups) ≡ length chunks → g.chunks ≡ 1
lone_first k L i g groups chunks h same =
    let few = few_groups k L (i + g.chunks) groups (drop g.chunks chunks) h.2 in
    let count = h.1.count in let some = h.1.some in let left = length-drop g.chunks chunks in let front = length-take g.chunks chunks in
    omega (arith, few, count, some, left, front, same)

module _ (plan : Scan) (is : IsPlan plan) (a : ScanAnswer) (none : a ≡ no_answer (question_in plan)) (same : length plan.table.now.groups ≡ length plan.table.now.chunks.items) where
  abbrev groups_in : List Group
  groups_in = plan.table.now.groups

  abbrev chunks_all : List Chunk
  chunks_all = plan.table.now.chunks.items

  abbrev kind_in : LogicalType
  kind_in = (table_in plan).kind

  abbrev lengths_in : Positions → ℕ
  lengths_in = bound_length (table_in plan)

  next_waits : (j : ℕ) (left : List Group) → drop j groups_in ≡ left → j < length groups_in → Waiting plan j 0 j a → Waiting plan (j + 1) 0 (j + 1) a
  next_waits j [] e inside w = let seen = all_seen groups_in j e in absurd (omega (arith, seen, inside))
  next_waits j (g ∷ left) e inside w =
      let grouped = group_here plan j g (ahead plan 0 (chunks_in plan 0 j) a) (is_inside groups_in j g left e) (is_there groups_in j g left e) w.reached in
      let own = chunks_of chunks_all g in
      let start = w.at in let behind_start = length-drop w.reached.start chunks_all in let behind_j = length-drop j groups_in in
      let many : length (drop j groups_in) ≡ suc (length left) = ap length e in let all = same in
      let one = lone_first kind_in lengths_in w.reached.start g left (drop w.reached.start chunks_all) (subst (λ gs. AreGroups kind_in lengths_in w.reached.start gs (drop w.reached.start chunks_all)) e w.reached.groups)
      (omega (arith, start, behind_start, behind_j, many, all, inside)) in
      one_waits plan is j 0 j a w g (is_inside groups_in j g left e) (is_there groups_in j g left e) (lone_none kind_in lengths_in _ own (grouped.count ∙ one) grouped.statistics)

  all_wait : (j : ℕ) → j ≤ length groups_in → Waiting plan j 0 j a
  all_wait zero h = waiting_start plan a none
  all_wait (suc j) h = subst (λ n. Waiting plan n 0 n a) (add-one j) (next_waits j (drop j groups_in) refl (omega (arith, h)) (all_wait j (omega (arith, h))))

  pub all_alone : (b : ScanAnswer) (count : ℕ) → count ≡ length chunks_all → b ≡ ahead plan 0 (chunks_in plan 0 count) a → b ≡ answer_to (question_in plan)
  all_alone b count counts found =
      let all = same in
      all_looked_at plan count 0 count a b (all_wait count (omega (arith, counts, all))) found (omega (arith, counts, all))
