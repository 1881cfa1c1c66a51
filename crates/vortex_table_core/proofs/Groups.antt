-- A scan goes from group to group, and in these from chunk to chunk.
use Rattle.std.proofs.Common.{◌≡◌, refl, sym, ◌∙◌, ap, subst, ℕ, zero, suc, ◌+◌, ◌*◌, ◌<◌, ◌≤◌, List, [], ◌∷◌, ◌++◌, length, map, take, drop, count_by, get_or, Bool, true, false, not, if◌then◌else◌, IsTrue, add-one, add-zero, append-nil, arith}
use Rattle.std.specs.Prelude.{sum, is_some}
use Rattle.std.specs.List.{list_all, range_with_len}
use Rattle.std.proofs.Math.Seq.{drop-cons}
use Rattle.std.proofs.lemmas.List.{length-map, length-drop, length-take}
use Rattle.std.specs.Cmp.{second_so}
use Rattle.vortex_model.specs.LogicalType.{LogicalType}
use Rattle.vortex_model.specs.Content.{Content}
use Rattle.vortex_model.specs.Path.{Positions}
use Rattle.vortex_model_table.specs.Table.{Table, bound_length}
use Rattle.vortex_model_table.specs.Cut.{cut_row}
use Rattle.vortex_model_laws.proofs.Outcomes.{sum_first}
use Rattle.vortex_model_table.specs.Scan.{Outcome, ScanAnswer, skipped_in_group, grouped, is_many, is_skipped, is_whole, is_in_group, one_if, numbers, tested_lengths, saturated}
use Rattle.vortex_table_chunk.specs.Chunk.{chunk_rows}
use Rattle.vortex_table_chunk.specs.declared.chunk.Chunk.{Chunk}
use Rattle.vortex_table_core.specs.Group.{IsGroup, AreGroups, chunks_of}
use Rattle.vortex_table_core.specs.Plan.{IsPlan, table_in, question_in}
use Rattle.vortex_table_core.specs.Progress.{Question, answer_to, outcome_to, with_chunk, with_chunks, with_group, with_groups, looked_at, is_group_skipped, outcome_in, group_proofs, numbers_from, no_answer}
use Rattle.vortex_table_chunk.specs.Formed.{is_formed}
use Rattle.vortex_table_core.specs.declared.group.Group.{Group}
use Rattle.vortex_table_core.specs.declared.plan.Scan.{Scan}
use Rattle.vortex_table_core.proofs.Progress.{taken_of, count_first, saturated_once, rows_after, kind_after, skipped_after, whole_after, tested_after, proofs_after, whole_answer}
use Rattle.vortex_table_chunk.proofs.TypedRows.{list_all_at}
use Rattle.vortex_table_layout.proofs.InOrder.{formed_front}

-- ---- lists

past : {X : Type 0} (xs : List X) (i : ℕ) → length xs ≤ i → drop i xs ≡ []
past [] zero h = refl
past [] (suc i) h = refl
past (x ∷ xs) zero h = absurd (omega (arith, h))
past (x ∷ xs) (suc i) h = past xs i (omega (arith, h))

pub take_said : (n : ℕ) (chunks : List Chunk) → take n (map chunk_rows chunks) ≡ map chunk_rows (take n chunks)
take_said zero chunks = refl
take_said (suc n) [] = refl
take_said (suc n) (c ∷ chunks) = ap (λ cs. chunk_rows c ∷ cs) (take_said n chunks)

pub drop_said : (n : ℕ) (chunks : List Chunk) → drop n (map chunk_rows chunks) ≡ map chunk_rows (drop n chunks)
drop_said zero chunks = refl
drop_said (suc n) [] = refl
drop_said (suc n) (c ∷ chunks) = drop_said n chunks

none_behind : {X : Type 0} (n : ℕ) → drop {A = X} n [] ≡ []
none_behind zero = refl
none_behind (suc n) = refl

pub drop_on : {X : Type 0} (m n : ℕ) (xs : List X) → drop n (drop m xs) ≡ drop (m + n) xs
drop_on zero n xs = ap (λ k. drop k xs) (let e : n ≡ 0 + n = omega arith in e)
drop_on (suc m) n [] = none_behind n ∙ sym (none_behind (suc m + n))
drop_on (suc m) n (x ∷ xs) = drop_on m n xs ∙ ap (λ k. drop k (x ∷ xs)) (let e : suc (m + n) ≡ suc m + n = omega arith in e)

pub all_behind : (p : Chunk → Bool) (n : ℕ) (xs : List Chunk) → list_all p xs ≡ true → list_all p (drop n xs) ≡ true
all_behind p zero xs h = h
all_behind p (suc n) [] h = refl
all_behind p (suc n) (x ∷ xs) h = all_behind p n xs (second_so (p x) (list_all p xs) h)

pub formed_among : (p : Chunk → Bool) (first count : ℕ) (xs : List Chunk) → list_all p xs ≡ true → list_all p (take count (drop first xs)) ≡ true
formed_among p first count xs h = formed_front p count (drop first xs) (all_behind p first xs h)

pub formed_in : (p : Chunk → Bool) (g : Group) (xs : List Chunk) → list_all p xs ≡ true → list_all p (chunks_of xs g) ≡ true
formed_in p g xs h = formed_front p g.chunks (drop g.first xs) (all_behind p g.first xs h)

-- ---- chunks one by one

module _ (plan : Scan) where
  abbrev t : Table
  t = table_in plan

  abbrev k : LogicalType
  k = t.kind

  abbrev q : Question
  q = question_in plan

  -- the answer once the chunks are looked at, the first of which has this number
  abbrev pub ahead : ℕ → List Chunk → ScanAnswer → ScanAnswer
  ahead i chunks a = with_chunks q (outcome_to q) i (map chunk_rows chunks) a

  pub one_ahead : (first : ℕ) (chunks : List Chunk) (i : ℕ) (chunk : Chunk) (a b : ScanAnswer) → i < length chunks → chunk ≡ get_or chunks i chunk →
      b ≡ with_chunk q (first + i) (chunk_rows chunk) (outcome_to q (chunk_rows chunk)) a →
      ahead (first + (i + 1)) (drop (i + 1) chunks) b ≡ ahead (first + i) (drop i chunks) a
  one_ahead first chunks i chunk a b inside is made =
      let on : first + (i + 1) ≡ suc (first + i) = omega arith in
      (λ j. ahead (on j) (drop (add-one i j) chunks) (made j))
      ∙ sym (ap (λ cs. ahead (first + i) cs a) (drop-cons chunks i chunk inside ∙ ap (λ c. c ∷ drop (suc i) chunks) (sym is)))

  pub formed_at : (chunks : List Chunk) (i : ℕ) (chunk : Chunk) → list_all (is_formed (bound_length t) k) chunks ≡ true → i < length chunks → chunk ≡ get_or chunks i chunk → IsTrue (is_formed (bound_length t) k chunk)
  formed_at chunks i chunk formed inside is = ap (is_formed (bound_length t) k) is ∙ list_all_at (is_formed (bound_length t) k) chunks i chunk formed inside

  pub none_ahead : (first : ℕ) (chunks : List Chunk) (i : ℕ) (a : ScanAnswer) → length chunks ≤ i → ahead (first + i) (drop i chunks) a ≡ a
  none_ahead first chunks i a h = ap (λ cs. ahead (first + i) cs a) (past chunks i h)

  pub from_first : (first : ℕ) (chunks : List Chunk) (a : ScanAnswer) → ahead (first + 0) (drop 0 chunks) a ≡ ahead first chunks a
  from_first first chunks a = ap (λ n. ahead n chunks a) (add-zero first)

-- ---- a group that is skipped

none_taken : (q : Question) (chunks : List (List Content)) → taken_of q (map (λ chunk. skipped_in_group) chunks) chunks ≡ []
none_taken q [] = refl
none_taken q (chunk ∷ chunks) = none_taken q chunks

no_tests : (chunks : List (List Content)) → tested_lengths (map (λ chunk. skipped_in_group) chunks) chunks ≡ 0
no_tests [] = refl
no_tests (chunk ∷ chunks) = no_tests chunks

no_whole : (i : ℕ) (chunks : List (List Content)) → numbers is_whole i (map (λ chunk. skipped_in_group) chunks) ≡ []
no_whole i [] = refl
no_whole i (chunk ∷ chunks) = no_whole (suc i) chunks

all_numbers : (i : ℕ) (chunks : List (List Content)) → numbers is_skipped i (map (λ chunk. skipped_in_group) chunks) ≡ numbers_from i (length chunks)
all_numbers i [] = refl
all_numbers i (chunk ∷ chunks) = ap (λ ns. i ∷ ns) (all_numbers (suc i) chunks)

-- n numbers from one on
pub numbers_ranged : (i n : ℕ) → range_with_len i n ≡ numbers_from i n
numbers_ranged i zero = refl
numbers_ranged i (suc n) = ap (λ ns. i ∷ ns) (ap (λ k. range_with_len k n) (add-one i) ∙ numbers_ranged (suc i) n)

none_counted : (p : Outcome → Bool) → p skipped_in_group ≡ false → (chunks : List (List Content)) → count_by p (map (λ chunk. skipped_in_group) chunks) ≡ 0
none_counted p none [] = refl
none_counted p none (chunk ∷ chunks) = count_first p skipped_in_group (map (λ c. skipped_in_group) chunks) ∙ (λ i. one_if (none i) + none_counted p none chunks i)

stays : (n f s : ℕ) → n ≡ n + (f * 0 + s * 0)
stays n f s = grind arith

module _ (plan : Scan) (is : IsPlan plan) (g : Group) (chunks : List Chunk) (formed : list_all (is_formed (bound_length (table_in plan)) (table_in plan).kind) chunks ≡ true)
    (grouped : IsGroup (table_in plan).kind (bound_length (table_in plan)) g chunks) (a b : ScanAnswer) where
  abbrev of_chunks : List (List Content)
  of_chunks = map chunk_rows chunks

  abbrev now : ScanAnswer
  now = looked_at (q plan) (is_many of_chunks) a

  abbrev none : List Content → Outcome
  none = λ chunk. skipped_in_group

  as_many : g.chunks ≡ length of_chunks
  as_many = sym grouped.count ∙ sym (length-map chunks chunk_rows)

  -- nothing is added but the numbers of its chunks
  pub group_skipped : is_group_skipped (q plan) of_chunks ≡ true → saturated a.rows_tested ≡ a.rows_tested →
      b.rows ≡ a.rows → b.kind ≡ a.kind → b.skipped ≡ a.skipped ++ numbers_from g.first g.chunks → b.whole ≡ a.whole → b.rows_tested ≡ a.rows_tested → b.proofs ≡ now.proofs →
      b ≡ with_group (q plan) g.first of_chunks a
  group_skipped skips few rows kind numbers whole tested proofs =
      (λ j. record {
        rows = (rows ∙ sym (append-nil a.rows) ∙ ap (λ xs. a.rows ++ map (cut_row (q plan).paths (k plan)) xs) (sym (none_taken (q plan) of_chunks))
            ∙ sym (rows_after (q plan) none g.first of_chunks now)) j;
        kind = (kind ∙ sym (kind_after (q plan) none g.first of_chunks now)) j;
        skipped = (numbers ∙ ap (λ ns. a.skipped ++ ns) (ap (numbers_from g.first) as_many ∙ sym (all_numbers g.first of_chunks))
            ∙ sym (skipped_after (q plan) none g.first of_chunks now)) j;
        whole = (whole ∙ sym (append-nil a.whole) ∙ ap (λ ns. a.whole ++ ns) (sym (no_whole g.first of_chunks))
            ∙ sym (whole_after (q plan) none g.first of_chunks now)) j;
        rows_tested = (tested ∙ sym few ∙ ap saturated (sym (add-zero a.rows_tested)) ∙ ap (λ n. saturated (a.rows_tested + n)) (sym (no_tests of_chunks))
            ∙ sym (tested_after (q plan) none g.first of_chunks now few)) j;
        proofs = (proofs ∙ sym (saturated_once (a.proofs + group_proofs (q plan) (is_many of_chunks)))
            ∙ ap saturated (stays now.proofs (one_if (is_some (q plan).falsifier)) (one_if (is_some (q plan).satisfier)))
            ∙ ap saturated (λ i. now.proofs + (one_if (is_some (q plan).falsifier) * sym (none_counted (λ o. not (is_in_group o)) refl of_chunks) i
            + one_if (is_some (q plan).satisfier) * sym (none_counted (λ o. not (is_skipped o)) refl of_chunks) i))
            ∙ sym (proofs_after (q plan) none g.first of_chunks now (saturated_once (a.proofs + group_proofs (q plan) (is_many of_chunks))))) j;
      })
      ∙ ap (λ s. with_chunks (q plan) (outcome_in s (q plan)) g.first of_chunks now) (sym skips)

  -- its chunks are looked at one by one
  pub group_entered : (mid : ScanAnswer) → is_group_skipped (q plan) of_chunks ≡ false → mid ≡ now → b ≡ ahead plan g.first chunks mid →
      b ≡ with_group (q plan) g.first of_chunks a
  group_entered mid stands first all =
      all ∙ ap (λ m. ahead plan g.first chunks m) first
      ∙ ap (λ s. with_chunks (q plan) (outcome_in s (q plan)) g.first of_chunks now) (sym stands)

-- ---- groups one by one

pub sizes_sum : (k : LogicalType) (L : Positions → ℕ) (i : ℕ) (groups : List Group) (chunks : List Chunk) → AreGroups k L i groups chunks → sum (map (λ g. g.chunks) groups) ≡ length chunks
sizes_sum k L i [] [] h = refl
sizes_sum k L i [] (c ∷ chunks) h = absurd h
sizes_sum k L i (g ∷ groups) chunks h =
    let rest = sizes_sum k L (i + g.chunks) groups (drop g.chunks chunks) h.2 in
    let first = sum_first g.chunks (map (λ x. x.chunks) groups) in
    let here = h.1.count in let left = length-drop g.chunks chunks in let front = length-take g.chunks chunks in
    omega (arith, rest, first, here, left, front)

-- the groups up to here are looked at, and this is the answer so far
pub record Reached (plan : Scan) (j : ℕ) (a : ScanAnswer) : Type 0 where
  pub start : ℕ
  pub left : with_groups (q plan) start (grouped (map (λ g. g.chunks) (drop j plan.table.now.groups)) (map chunk_rows (drop start plan.table.now.chunks.items))) a
      ≡ answer_to (q plan)
  pub counted : saturated a.rows_tested ≡ a.rows_tested
  pub groups : AreGroups (k plan) (bound_length (t plan)) start (drop j plan.table.now.groups) (drop start plan.table.now.chunks.items)

module _ (plan : Scan) where
  abbrev groups : List Group
  groups = plan.table.now.groups

  abbrev chunks : List Chunk
  chunks = plan.table.now.chunks.items

  pub at_start : (a : ScanAnswer) → a ≡ no_answer (q plan) → Reached plan 0 a
  at_start a none = record {
    start = 0;
    left = ap (λ x. with_groups (q plan) 0 (grouped (map (λ g. g.chunks) groups) (map chunk_rows chunks)) x) none
        ∙ whole_answer (q plan) (sizes_sum (k plan) (bound_length (t plan)) 0 groups chunks plan.table.now.grouped ∙ sym (length-map chunks chunk_rows));
    counted = ap (λ (x : ScanAnswer). saturated x.rows_tested) none ∙ sym (ap (λ (x : ScanAnswer). x.rows_tested) none);
    groups = plan.table.now.grouped;
  }

  pub starts_with_none : (a : ScanAnswer) (none : a ≡ no_answer (q plan)) → (at_start a none).start ≡ 0
  unfolding at_start
  starts_with_none a none = refl

  module _ (j : ℕ) (g : Group) (a : ScanAnswer) (inside : j < length groups) (is : g ≡ get_or groups j g) (reached : Reached plan j a) where
    next : drop j groups ≡ g ∷ drop (suc j) groups
    next = drop-cons groups j g inside ∙ ap (λ x. x ∷ drop (suc j) groups) (sym is)

    here : AreGroups (k plan) (bound_length (t plan)) reached.start (g ∷ drop (suc j) groups) (drop reached.start chunks)
    here = subst (λ gs. AreGroups (k plan) (bound_length (t plan)) reached.start gs (drop reached.start chunks)) next reached.groups

    pub first_here : g.first ≡ reached.start
    first_here = here.0

    same_chunks : take g.chunks (drop reached.start chunks) ≡ chunks_of chunks g
    same_chunks = ap (λ n. take g.chunks (drop n chunks)) (sym here.0)

    pub group_here : IsGroup (k plan) (bound_length (t plan)) g (chunks_of chunks g)
    group_here = subst (λ cs. IsGroup (k plan) (bound_length (t plan)) g cs) same_chunks here.1

    pub within : g.first + g.chunks ≤ length chunks
    within =
        let some = group_here.some in let count = group_here.count in
        let left = length-drop g.first chunks in let front = length-take g.chunks (drop g.first chunks) in
        omega (arith, some, count, left, front)

    abbrev behind : ℕ
    behind = reached.start + g.chunks

    abbrev left_rows : List (List Content)
    left_rows = map chunk_rows (drop reached.start chunks)

    abbrev own : List (List Content)
    own = map chunk_rows (chunks_of chunks g)

    front : take g.chunks left_rows ≡ own
    front = take_said g.chunks (drop reached.start chunks) ∙ ap (map chunk_rows) same_chunks

    rest : drop g.chunks left_rows ≡ map chunk_rows (drop behind chunks)
    rest = drop_said g.chunks (drop reached.start chunks) ∙ ap (map chunk_rows) (drop_on reached.start g.chunks chunks)

    counted : length (take g.chunks left_rows) ≡ g.chunks
    counted = ap length front ∙ length-map (chunks_of chunks g) chunk_rows ∙ group_here.count

    through : with_groups (q plan) reached.start (grouped (map (λ x. x.chunks) (drop j groups)) left_rows) a
        ≡ with_groups (q plan) behind (grouped (map (λ x. x.chunks) (drop (j + 1) groups)) (map chunk_rows (drop behind chunks))) (with_group (q plan) g.first own a)
    through =
        ap (λ gs. with_groups (q plan) reached.start (grouped (map (λ (x : Group). x.chunks) gs) left_rows) a) next
        ∙ (λ i. with_groups (q plan) (reached.start + counted i) (grouped (map (λ (x : Group). x.chunks) (drop (suc j) groups)) (rest i))
        (with_group (q plan) (sym here.0 i) (front i) a))
        ∙ ap (λ m. with_groups (q plan) behind (grouped (map (λ (x : Group). x.chunks) (drop m groups)) (map chunk_rows (drop behind chunks))) (with_group (q plan) g.first own a))
        (sym (add-one j))

    pub one_on : (b : ScanAnswer) → b ≡ with_group (q plan) g.first own a → Reached plan (j + 1) b
    one_on b made = record {
      start = behind;
      counted =
          (let f = outcome_in (is_group_skipped (q plan) own) (q plan) in let now = looked_at (q plan) (is_many own) a in
          let same = ap (λ (x : ScanAnswer). x.rows_tested) made ∙ tested_after (q plan) f g.first own now reached.counted in
          ap saturated same ∙ saturated_once (a.rows_tested + tested_lengths (map f own) own) ∙ sym same);
      left =
          ap (λ x. with_groups (q plan) behind (grouped (map (λ (x : Group). x.chunks) (drop (j + 1) groups)) (map chunk_rows (drop behind chunks))) x) made
          ∙ sym through ∙ reached.left;
      groups =
          subst (λ m. AreGroups (k plan) (bound_length (t plan)) behind (drop m groups) (drop behind chunks)) (sym (add-one j))
          (subst (λ cs. AreGroups (k plan) (bound_length (t plan)) behind (drop (suc j) groups) cs) (drop_on reached.start g.chunks chunks) here.2);
    }

    pub starts_behind : (b : ScanAnswer) (made : b ≡ with_group (q plan) g.first own a) → (one_on b made).start ≡ reached.start + g.chunks
    unfolding one_on
    starts_behind b made = refl

  pub at_end : (j : ℕ) (a : ScanAnswer) → length groups ≤ j → Reached plan j a → a ≡ answer_to (q plan)
  at_end j a done reached =
      sym (ap (λ gs. with_groups (q plan) reached.start (grouped (map (λ (x : Group). x.chunks) gs) (map chunk_rows (drop reached.start chunks))) a) (past groups j done))
      ∙ reached.left
