-- What holds while chunks are shared out.
use Rattle.std.proofs.Common.{◌≡◌, refl, sym, ◌∙◌, ap, subst, ℕ, zero, suc, ◌+◌, ◌*◌, ◌<◌, ◌≤◌, List, [], ◌∷◌, ◌++◌, length, drop, append-nil, arith, ◌^◌, length-append, lt_of_mul-lt-mul_right, mul_comm, add-mul, add-one, inl, inr, Bool, true, false, get_or}
use Rattle.std.specs.Prelude.{flat_map, if◌then◌else◌}
use Rattle.std.specs.Int.{div_ceil}
use Rattle.std.specs.List.{AllByRecursion}
use Rattle.std.proofs.lemmas.Grind.{flat_map-append, div_ceil_times}
use Rattle.std.proofs.lemmas.List.{append_assoc, get_or_read}
use Rattle.vortex_table.specs.Content.{Content}
use Rattle.vortex_table.specs.Table.{Table}
use Rattle.example_planner.specs.Split.{is_among, kept, row_count, IsWithin, IsSplit, IsEmptyOf, HasNextChunk, HasOneMore, ClosesFull, HasRoom, AreMarks}

-- ---- rows

pub row_count-append : (xs ys : List (List Content)) → row_count (xs ++ ys) ≡ row_count xs + row_count ys
row_count-append xs ys = ap length (flat_map-append (λ chunk. chunk) xs ys) ∙ length-append (flat_map (λ chunk. chunk) xs) (flat_map (λ chunk. chunk) ys)

pub row_count-cons : (x : List Content) (xs : List (List Content)) → row_count (x ∷ xs) ≡ length x + row_count xs
row_count-cons x xs = length-append x (flat_map (λ chunk. chunk) xs)

by_test : (b : Bool) (c : List Content) (rest : List (List Content)) (n : ℕ) → row_count rest ≤ n → row_count (if b then rest else c ∷ rest) ≤ length c + n
by_test true c rest n h = omega (arith, h)
by_test false c rest n h = let one = row_count-cons c rest in omega (arith, h, one)

-- no more rows are kept than there are
pub kept-fewer : (left : List ℕ) (i : ℕ) (chunks : List (List Content)) → row_count (kept left i chunks) ≤ row_count chunks
kept-fewer left i [] = omega arith
kept-fewer left i (c ∷ chunks) =
    subst (λ n. row_count (kept left i (c ∷ chunks)) ≤ n) (sym (row_count-cons c chunks))
    (by_test (is_among i left) c (kept left (suc i) chunks) (row_count chunks) (kept-fewer left (suc i) chunks))

-- ---- from chunk to chunk

-- a chunk that is left out is passed by
pub kept-left_out : (left : List ℕ) (chunks : List (List Content)) (n i : ℕ) → i < length chunks → is_among n left ≡ true → kept left n (drop i chunks) ≡ kept left (suc n) (drop (suc i) chunks)
kept-left_out left [] n i l h = absurd (omega (arith, l))
kept-left_out left (c ∷ chunks) n zero l h = ap (λ b. if b then kept left (suc n) chunks else c ∷ kept left (suc n) chunks) h
kept-left_out left (c ∷ chunks) n (suc i) l h = kept-left_out left chunks n i (omega (arith, l)) h

-- the same, as code counts
pub kept-passed : (left : List ℕ) (chunks : List (List Content)) (i : ℕ) → i < length chunks → is_among i left ≡ true → kept left i (drop i chunks) ≡ kept left (i + 1) (drop (i + 1) chunks)
kept-passed left chunks i l h = kept-left_out left chunks i i l h ∙ ap (λ n. kept left n (drop n chunks)) (sym (add-one i))

-- a chunk that is not is the next
pub kept-next : (left : List ℕ) (chunks : List (List Content)) (i : ℕ) (c : List Content) → drop i chunks ≡ c ∷ drop (i + 1) chunks → is_among i left ≡ false →
    kept left i (drop i chunks) ≡ c ∷ kept left (i + 1) (drop (i + 1) chunks)
kept-next left chunks i c next h =
    ap (kept left i) next
    ∙ ap (λ b. if b then kept left (suc i) (drop (i + 1) chunks) else c ∷ kept left (suc i) (drop (i + 1) chunks)) h
    ∙ ap (λ n. c ∷ kept left n (drop (i + 1) chunks)) (sym (add-one i))

pub drop-past : (chunks : List (List Content)) (i : ℕ) → length chunks ≤ i → drop i chunks ≡ []
drop-past [] zero l = refl
drop-past [] (suc i) l = refl
drop-past (c ∷ chunks) zero l = absurd (omega (arith, l))
drop-past (c ∷ chunks) (suc i) l = drop-past chunks i (omega (arith, l))

-- past the last chunk none is kept
pub all_counted : (left : List ℕ) (chunks : List (List Content)) (i n total : ℕ) → length chunks ≤ i → n + row_count (kept left i (drop i chunks)) ≡ total → n ≡ total
all_counted left chunks i n total l e =
    let none : row_count (kept left i (drop i chunks)) ≡ 0 = ap (λ cs. row_count (kept left i cs)) (drop-past chunks i l) in omega (arith, none, e)

-- ---- counted

-- The rows so far and those of the chunks from i on are no more than there are, and with those of the kept ones they are all that are kept.
pub record AreCounted (chunks : List (List Content)) (marks : List Bool) (i n : ℕ) : Type 0 where
  pub within : n + row_count (drop i chunks) ≤ row_count chunks
  pub counted : (left : List ℕ) → AreMarks left (length chunks) marks → n + row_count (kept left i (drop i chunks)) ≡ row_count (kept left 0 chunks)

pub none_counted : (chunks : List (List Content)) (marks : List Bool) → AreCounted chunks marks 0 0
none_counted chunks marks = record { within = omega arith; counted = λ left so. omega arith }

dropped-fewer : (chunks : List (List Content)) (i : ℕ) → row_count (drop (suc i) chunks) ≤ row_count (drop i chunks)
dropped-fewer [] zero = omega arith
dropped-fewer [] (suc i) = omega arith
dropped-fewer (c ∷ chunks) zero = let first = row_count-cons c chunks in omega (arith, first)
dropped-fewer (c ∷ chunks) (suc i) = dropped-fewer chunks i

-- whether a chunk is left out, by its mark
pub marked_so : (left : List ℕ) (count : ℕ) (marks : List Bool) (i : ℕ) (b : Bool) → AreMarks left count marks → i < count → b ≡ get_or marks i b → is_among i left ≡ b
marked_so left count marks i b are l is =
    let long = are.long in let inside : i < length marks = omega (arith, l, long) in sym (are.told i l) ∙ sym (get_or_read marks i b inside is false)

module _ (chunks : List (List Content)) (marks : List Bool) (i n : ℕ) (l : i < length chunks) (so : AreCounted chunks marks i n) where
  pub one_passed : get_or marks i false ≡ true → AreCounted chunks marks (i + 1) n
  one_passed h = record {
    within = let within = so.within in let less = dropped-fewer chunks i in let next : row_count (drop (i + 1) chunks) ≡ row_count (drop (suc i) chunks) = ap (λ m. row_count (drop m chunks)) (add-one i) in omega (arith, within, less, next);
    counted = λ left are. ap (λ cs. n + row_count cs) (sym (kept-passed left chunks i l (sym (are.told i l) ∙ h))) ∙ so.counted left are;
  }

  module _ (c : List Content) (next : drop i chunks ≡ c ∷ drop (i + 1) chunks) where
    -- the rows of the next chunk can be counted
    pub countable : n + length c ≤ row_count chunks
    countable = let within = so.within in let more = ap row_count next in let first = row_count-cons c (drop (i + 1) chunks) in omega (arith, within, more, first)

    pub one_counted : get_or marks i false ≡ false → AreCounted chunks marks (i + 1) (n + length c)
    one_counted h = record {
      within = let within = so.within in let more = ap row_count next in let first = row_count-cons c (drop (i + 1) chunks) in omega (arith, within, more, first);
      counted = λ left are.
          let rest = kept left (i + 1) (drop (i + 1) chunks) in
          let all = so.counted left are in let more = ap row_count (kept-next left chunks i c next (sym (are.told i l) ∙ h)) in let first = row_count-cons c rest in
          omega (arith, all, more, first);
    }

all_with : {A : Type 0} (P : A → Type 0) (xs : List A) (x : A) → AllByRecursion P xs → P x → AllByRecursion P (xs ++ x ∷ [])
all_with P [] x h p = (p, tt)
all_with P (y ∷ ys) x h p = (h.0, all_with P ys x h.1 p)

abbrev pub chunks_in : List Table → List (List Content)
chunks_in parts = flat_map (λ part. part.chunks) parts

chunks_in-push : (parts : List Table) (part : Table) → chunks_in (parts ++ part ∷ []) ≡ chunks_in parts ++ part.chunks
chunks_in-push parts part = flat_map-append (λ p. p.chunks) parts (part ∷ []) ∙ ap (λ cs. chunks_in parts ++ cs) (append-nil part.chunks)

-- one part more with its share
one_share_more : (k s p q : ℕ) → k * s ≤ p → s ≤ q → (k + 1) * s ≤ p + q
one_share_more k s p q h l = let e : (k + 1) * s ≡ k * s + 1 * s = add-mul k 1 s in omega (arith, e, h, l)

-- n shares are fewer than there are workers, while rows remain
shares_below : (n s w p q r total c rest : ℕ) → n * s ≤ p + q → (p + q) + r ≡ total → r ≡ c + rest → 0 < c → total ≤ s * w → n * s < w * s
shares_below n s w p q r total c rest h e f g l = let turned = mul_comm s w in omega (arith, h, e, f, g, l, turned)

positive : (s w n : ℕ) → 0 < n → n ≤ s * w → 0 < s
positive zero w n l h = absurd (omega (arith, l, h))
positive (suc s) w n l h = omega arith

module _ (whole : Table) (out : List ℕ) (workers : ℕ) where
  abbrev pub all : List (List Content)
  all = kept out 0 whole.chunks

  abbrev pub share : ℕ
  share = div_ceil (row_count all) workers

  -- the chunks before a number are in these parts, of which the last is open
  pub record AreShared (i : ℕ) (parts : List Table) (part : Table) : Type 0 where
    pub kinds : AllByRecursion (λ p. p.kind ≡ whole.kind) parts
    pub kind : part.kind ≡ whole.kind
    pub chunks : (chunks_in parts ++ part.chunks) ++ kept out i (drop i whole.chunks) ≡ all
    pub few : length parts < workers
    pub full : length parts * share ≤ row_count (chunks_in parts)
    pub fair : AllByRecursion (λ p. IsWithin share p.chunks) parts
    pub last : IsWithin share part.chunks

  pub none_shared : (part : Table) → 0 < workers → IsEmptyOf whole part → AreShared 0 [] part
  none_shared part some is = record {
    kinds = tt;
    kind = is.kind;
    chunks = ap (λ cs. cs ++ all) is.chunks;
    few = some;
    full = omega arith;
    fair = tt;
    last = inl is.chunks;
  }

  pub left_out : (i : ℕ) (parts : List Table) (part : Table) → i < length whole.chunks → is_among i out ≡ true → AreShared i parts part → AreShared (i + 1) parts part
  left_out i parts part l h so = record {
    kinds = so.kinds;
    kind = so.kind;
    chunks = ap (λ cs. (chunks_in parts ++ part.chunks) ++ cs) (sym (kept-passed out whole.chunks i l h)) ∙ so.chunks;
    few = so.few;
    full = so.full;
    fair = so.fair;
    last = so.last;
  }

  rows_shared : (parts : List Table) (part : Table) (rest : List (List Content)) → (chunks_in parts ++ part.chunks) ++ rest ≡ all →
      (row_count (chunks_in parts) + row_count part.chunks) + row_count rest ≡ row_count all
  rows_shared parts part rest e =
      ap (λ n. n + row_count rest) (sym (row_count-append (chunks_in parts) part.chunks)) ∙ sym (row_count-append (chunks_in parts ++ part.chunks) rest) ∙ ap row_count e

  -- a part that has its share comes after the others
  closed : (i : ℕ) (parts : List Table) (part next : Table) (c : List Content) (rest : List (List Content)) → 0 < workers → share ≤ row_count part.chunks → next.kind ≡ whole.kind → next.chunks ≡ [] →
      0 < length c → kept out i (drop i whole.chunks) ≡ c ∷ rest → AreShared i parts part → AreShared i (parts ++ part ∷ []) next × (row_count next.chunks < share)
  closed i parts part next c rest some is_full kind none has_rows more so =
      let rows = rows_shared parts part (c ∷ rest) (ap (λ cs. (chunks_in parts ++ part.chunks) ++ cs) (sym more) ∙ so.chunks) in
      let first = row_count-cons c rest in
      let enough = (div_ceil_times (row_count all) workers some).0 in
      let together : row_count (chunks_in (parts ++ part ∷ [])) ≡ row_count (chunks_in parts) + row_count part.chunks =
      ap row_count (chunks_in-push parts part) ∙ row_count-append (chunks_in parts) part.chunks in
      let count : length (parts ++ part ∷ []) ≡ length parts + 1 = length-append parts (part ∷ []) in
      let full : length (parts ++ part ∷ []) * share ≤ row_count (chunks_in parts) + row_count part.chunks =
      subst (λ n. n * share ≤ row_count (chunks_in parts) + row_count part.chunks) (sym count)
      (one_share_more (length parts) share (row_count (chunks_in parts)) (row_count part.chunks) so.full is_full) in
      let below = shares_below (length (parts ++ part ∷ [])) share workers (row_count (chunks_in parts)) (row_count part.chunks) (row_count (c ∷ rest)) (row_count all) (length c) (row_count rest)
      full rows first has_rows enough in (
        (record {
          kinds = all_with (λ p. p.kind ≡ whole.kind) parts part so.kinds so.kind;
          kind = kind;
          chunks =
              ap (λ cs. (chunks_in (parts ++ part ∷ []) ++ cs) ++ kept out i (drop i whole.chunks)) none
              ∙ ap (λ cs. cs ++ kept out i (drop i whole.chunks)) (append-nil (chunks_in (parts ++ part ∷ [])) ∙ chunks_in-push parts part)
              ∙ so.chunks;
          few = lt_of_mul-lt-mul_right share below;
          full = subst (λ n. length (parts ++ part ∷ []) * share ≤ n) (sym together) full;
          fair = all_with (λ p. IsWithin share p.chunks) parts part so.fair so.last;
          last = inl none;
        }),
        subst (λ cs. row_count cs < share) (sym none) (positive share workers (row_count all) (omega (arith, rows, first, has_rows)) enough),
      )

  -- the chunk after an open part that has less than its share
  one_more : (i : ℕ) (parts : List Table) (part next : Table) → row_count part.chunks < share → is_among i out ≡ false →
      HasNextChunk i whole.chunks (λ c. HasOneMore c part next) → AreShared i parts part → AreShared (i + 1) parts next
  one_more i parts part next below h has so =
      let rest = kept out (i + 1) (drop (i + 1) whole.chunks) in
      record {
        kinds = so.kinds;
        kind = has.holds.kind ∙ so.kind;
        chunks =
            ap (λ cs. (chunks_in parts ++ cs) ++ rest) has.holds.chunks
            ∙ ap (λ cs. cs ++ rest) (sym (append_assoc (chunks_in parts) part.chunks (has.chunk ∷ [])))
            ∙ append_assoc (chunks_in parts ++ part.chunks) (has.chunk ∷ []) rest
            ∙ ap (λ cs. (chunks_in parts ++ part.chunks) ++ cs) (sym (kept-next out whole.chunks i has.chunk has.next h))
            ∙ so.chunks;
        few = so.few;
        full = so.full;
        fair = so.fair;
        last = inr (part.chunks, has.chunk, has.holds.chunks, below);
      }

  -- a chunk that is not left out is added to a part that has less than its share
  pub added : (i : ℕ) (parts : List Table) (part : Table) (new : List Table) (next last : Table) → 0 < workers → is_among i out ≡ false → ClosesFull whole.kind share parts part new next →
      HasNextChunk i whole.chunks (λ c. HasOneMore c next last) → AreShared i parts part → AreShared (i + 1) new last
  added i parts part new next last some h (inl (below, same, stays)) has so =
      subst (λ ps. AreShared (i + 1) ps last) (sym same)
      (one_more i parts part last below h (subst (λ p. HasNextChunk i whole.chunks (λ c. HasOneMore c p last)) stays has) so)
  added i parts part new next last some h (inr (is_full, pushed, kind, none)) has so =
      let begun = closed i parts part next has.chunk (kept out (i + 1) (drop (i + 1) whole.chunks)) some is_full kind none has.some (kept-next out whole.chunks i has.chunk has.next h) so in
      subst (λ ps. AreShared (i + 1) ps last) (sym pushed) (one_more i (parts ++ part ∷ []) next last begun.1 h has begun.0)

  -- the open part is of the table's type, and there is room in it for the next chunk
  pub next_kind : (i : ℕ) (parts : List Table) (part : Table) (new : List Table) (next : Table) → ClosesFull whole.kind share parts part new next → AreShared i parts part → next.kind ≡ whole.kind
  next_kind i parts part new next (inl (below, same, stays)) so = ap (λ p. p.kind) stays ∙ so.kind
  next_kind i parts part new next (inr (is_full, pushed, kind, none)) so = kind

  fewer : (parts : List Table) (part : Table) (new : List Table) (next : Table) → ClosesFull whole.kind share parts part new next → row_count next.chunks ≤ row_count part.chunks
  fewer parts part new next (inl (below, same, stays)) = let equal = ap (λ (p : Table). row_count p.chunks) stays in omega (arith, equal)
  fewer parts part new next (inr (is_full, pushed, kind, none)) = let empty : row_count next.chunks ≡ 0 = ap row_count none in omega (arith, empty)

  pub room : (i : ℕ) (parts : List Table) (part : Table) (new : List Table) (next : Table) → row_count whole.chunks < 2 ^ 64 → is_among i out ≡ false →
      ClosesFull whole.kind share parts part new next → AreShared i parts part → HasRoom i whole.chunks next
  room i parts part new next small h closes so = λ chunk is.
      let rest = kept out (i + 1) (drop (i + 1) whole.chunks) in
      let rows = rows_shared parts part (chunk ∷ rest) (ap (λ cs. (chunks_in parts ++ part.chunks) ++ cs) (sym (kept-next out whole.chunks i chunk is h)) ∙ so.chunks) in
      let first = row_count-cons chunk rest in let few = kept-fewer out 0 whole.chunks in let less = fewer parts part new next closes in
      omega (arith, rows, first, few, less, small)

  -- at the end the open part comes after the others
  pub all_shared : (i : ℕ) (parts : List Table) (part : Table) → length whole.chunks ≤ i → AreShared i parts part → IsSplit whole out workers (parts ++ part ∷ [])
  all_shared i parts part l so =
      let count : length (parts ++ part ∷ []) ≡ length parts + 1 = length-append parts (part ∷ []) in
      let few = so.few in
      record {
        kinds = all_with (λ p. p.kind ≡ whole.kind) parts part so.kinds so.kind;
        chunks =
            chunks_in-push parts part ∙ sym (append-nil (chunks_in parts ++ part.chunks))
            ∙ ap (λ cs. (chunks_in parts ++ part.chunks) ++ kept out i cs) (sym (drop-past whole.chunks i l)) ∙ so.chunks;
        some = omega (arith, count);
        most = omega (arith, count, few);
        fair = all_with (λ p. IsWithin share p.chunks) parts part so.fair so.last;
      }
