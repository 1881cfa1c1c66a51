-- Values that are put into buffers one after another, with a new buffer where the next does not
-- fit.
use Rattle.std.proofs.Common.{◌≡◌, ◌∙◌, sym, ap, subst, ℕ, zero, suc, ◌+◌, ◌-◌, ◌<◌, ◌≤◌, ◌^◌, Bool, cond, List, [], ◌∷◌, ◌++◌, length, take, drop, set, get_or, refl, arith, length-append, length-take, length-drop, inl, inr}
use Rattle.std.specs.List.{All, concat, sum}
use Rattle.std.proofs.lemmas.Bool.{cases_lt, cases_eq, le-leb}
use Rattle.std.proofs.lemmas.List.{drop_at, nil_from_length, take_all, drop-drop, drop-append-le, take-append-le, length-take-le, length-set, get_or_append_left, get_or-append-add, get_or_push, get_or-set_same, get_or-set_other}
use Rattle.std.proofs.lemmas.List.Elements.{All-nil, All-get_or, All-push}
use Rattle.vortex_arrays_view.specs.Made.{short_view, long_view, view_of}
use Rattle.vortex_arrays_view.specs.Laws.{LiesAt}
use Rattle.vortex_arrays_view.specs.Views.{value_of, HasValue}
use Rattle.vortex_arrays_view.proofs.Made.{views_read_back}
use Rattle.vortex_arrays_view.specs.Cuttings.{end_of, value_in, IsValueEnd, IsCutting}
use Rattle.vortex_arrays_view.specs.Built.{IsViewOf, IsBuilt, IsTooMany}
use Rattle.vortex_arrays_view.proofs.Cut.{part, parts_joined, end_more, end_all, end_within, value_end_before, reach_of, reach_more, reach_all, ends_push, front_push}

-- The view of a value, which is in one of the buffers if it is long.
pub record Stands (value : List ℕ) (first : ℕ) (buffers : List (List ℕ)) (view : List ℕ) : Type 0 where
  pub index : ℕ
  pub offset : ℕ
  pub fits : length value < 2 ^ 32
  pub index_fits : first + index < 2 ^ 32
  pub offset_fits : offset < 2 ^ 32
  pub made : view ≡ view_of value (first + index) offset
  pub lies : 12 < length value → LiesAt value buffers index offset

lies_more : (v : List ℕ) (bs cs : List (List ℕ)) (i o : ℕ) → LiesAt v bs i o → LiesAt v (bs ++ cs) i o
lies_more v bs cs i o l = record {
  there = omega (arith, l.there, length-append bs cs);
  here = ap (λ (b : List ℕ). take (length v) (drop o b)) (get_or_append_left bs cs [] i l.there) ∙ l.here;
}

-- more buffers at the end change nothing
stands_more : (v : List ℕ) (first : ℕ) (bs cs : List (List ℕ)) (view : List ℕ) → Stands v first bs view → Stands v first (bs ++ cs) view
stands_more v first bs cs view s = record {
  index = s.index;
  offset = s.offset;
  fits = s.fits;
  index_fits = s.index_fits;
  offset_fits = s.offset_fits;
  made = s.made;
  lies = λ h. lies_more v bs cs s.index s.offset (s.lies h);
}

-- a long value in a list is still in it after the list grows
lies_in_more : (v p q : List ℕ) (o : ℕ) → 12 < length v → take (length v) (drop o p) ≡ v → take (length v) (drop o (p ++ q)) ≡ v
lies_in_more v p q o h e =
    let n : length (take (length v) (drop o p)) ≡ length v = ap (λ (r : List ℕ). length r) e in
    let room : length v ≤ length (drop o p) = omega (arith, n, length-take (length v) (drop o p)) in
    let l : o ≤ length p = omega (arith, room, length-drop o p, h) in
    ap (take (length v)) (drop-append-le o p q l) ∙ take-append-le (length v) (drop o p) q room ∙ e

lies_grown : (v : List ℕ) (bs : List (List ℕ)) (p q : List ℕ) (i o : ℕ) → 12 < length v → LiesAt v (bs ++ p ∷ []) i o → LiesAt v (bs ++ (p ++ q) ∷ []) i o
lies_grown v bs p q i o h l = record {
  there = omega (arith, l.there, length-append bs (p ∷ []), length-append bs ((p ++ q) ∷ []));
  here = elim (cases_lt i (length bs)) [
    | inl k ↦
        ap (λ (b : List ℕ). take (length v) (drop o b)) (get_or_append_left bs ((p ++ q) ∷ []) [] i k ∙ sym (get_or_append_left bs (p ∷ []) [] i k)) ∙ l.here
    | inr g ↦
        let e : length bs ≡ i = omega (arith, l.there, length-append bs (p ∷ []), g) in
        ap (λ (b : List ℕ). take (length v) (drop o b)) (get_or_push bs (p ++ q) [] i e)
        ∙ lies_in_more v p q o h (ap (λ (b : List ℕ). take (length v) (drop o b)) (sym (get_or_push bs p [] i e)) ∙ l.here)
  ];
}

-- nor does it change anything when the last buffer grows
stands_grown : (v : List ℕ) (first : ℕ) (bs : List (List ℕ)) (p q : List ℕ) (view : List ℕ) → Stands v first (bs ++ p ∷ []) view → Stands v first (bs ++ (p ++ q) ∷ []) view
stands_grown v first bs p q view s = record {
  index = s.index;
  offset = s.offset;
  fits = s.fits;
  index_fits = s.index_fits;
  offset_fits = s.offset_fits;
  made = s.made;
  lies = λ h. lies_grown v bs p q s.index s.offset h (s.lies h);
}

short_is : (v : List ℕ) (i o : ℕ) → length v ≤ 12 → view_of v i o ≡ short_view v
short_is v i o h = ap (λ (t : Bool). cond t (short_view v) (long_view (length v) (take 4 v) i o)) (le-leb (length v) 12 h)

lies_behind : (v : List ℕ) (others bs : List (List ℕ)) (first i o : ℕ) → length others ≡ first → LiesAt v bs i o → LiesAt v (others ++ bs) (first + i) o
lies_behind v others bs first i o e l = record {
  there = omega (arith, l.there, length-append others bs, e);
  here = ap (λ (n : ℕ). take (length v) (drop o (get_or (others ++ bs) (n + i) []))) (sym e) ∙ ap (λ (b : List ℕ). take (length v) (drop o b)) (get_or-append-add others bs i []) ∙ l.here;
}

view_stands : (v : List ℕ) (first : ℕ) (bs : List (List ℕ)) (view : List ℕ) → Stands v first bs view → IsViewOf v first bs view
view_stands v first bs view s = record {
  short = λ h. s.made ∙ short_is v (first + s.index) s.offset h;
  reads = λ others e. subst (λ (b : List ℕ). HasValue b (others ++ bs) × (value_of b (others ++ bs) ≡ v)) (sym s.made)
      (views_read_back v (others ++ bs) (first + s.index) s.offset s.fits s.index_fits s.offset_fits (λ h. lies_behind v others bs first s.index s.offset e (s.lies h)));
}

-- a short value needs no buffer
short_stands : (v : List ℕ) (first : ℕ) (bs cs : List (List ℕ)) (view : List ℕ) → length v ≤ 12 → Stands v first bs view → Stands v first cs view
short_stands v first bs cs view h s = record {
  index = s.index;
  offset = s.offset;
  fits = s.fits;
  index_fits = s.index_fits;
  offset_fits = s.offset_fits;
  made = s.made;
  lies = λ k. absurd (omega (arith, h, k));
}

-- The first n values are placed: those up to `start` in closed buffers, and the others in the open
-- buffer, up to `stop`. There is room for the views of all.
pub record Places (bytes lengths : List ℕ) (first limit n start stop : ℕ) (buffers views : List (List ℕ)) : Type 0 where
  pub stops : stop ≡ end_of lengths n
  pub starts : IsValueEnd lengths start
  pub order : start ≤ stop
  pub room : stop ≤ start + limit
  pub front : concat buffers ≡ take start bytes
  pub ends : (count : ℕ) → IsValueEnd lengths (reach_of buffers count)
  pub within : All (λ buffer. length buffer ≤ limit) buffers
  pub least : (others : List (List ℕ)) → IsCutting bytes lengths limit others → reach_of others (length buffers) ≤ start
  pub rest : 0 < length buffers → start < length bytes
  pub count : length views ≡ length lengths
  pub placed : (k : ℕ) → k < n → Stands (value_in bytes lengths k) first (buffers ++ part bytes start stop ∷ []) (get_or views k [])

no_reach : (lengths : List ℕ) (count : ℕ) → IsValueEnd lengths (length (concat (take count [])))
no_reach lengths zero = record { count = 0; ends = refl }
no_reach lengths (suc count) = record { count = 0; ends = refl }

pub places_none : (bytes lengths : List ℕ) (first limit : ℕ) (views : List (List ℕ)) → length views ≡ length lengths → Places bytes lengths first limit 0 0 0 [] views
places_none bytes lengths first limit views count = record {
  stops = refl;
  starts = record { count = 0; ends = refl };
  order = omega arith;
  room = omega arith;
  front = refl;
  ends = no_reach lengths;
  within = All-nil _;
  least = λ others c. omega arith;
  rest = λ h. absurd (omega arith);
  count = count;
  placed = λ k h. absurd (omega arith);
}

-- The next value fits into the open buffer, which has this index.
pub record IsOpen (bytes lengths : List ℕ) (first limit n start stop index : ℕ) (buffers views : List (List ℕ)) : Type 0 where
  pub places : Places bytes lengths first limit n start stop buffers views
  pub next : index ≡ first + length buffers
  pub fits : stop + get_or lengths n 0 ≤ start + limit

pub open_already : (bytes lengths : List ℕ) (first limit n start stop index next begin : ℕ) (buffers views same : List (List ℕ)) → Places bytes lengths first limit n start stop buffers views → index ≡ first + length buffers → stop + get_or lengths n 0 ≤ start + limit → next ≡ index → begin ≡ start → same ≡ buffers
    → IsOpen bytes lengths first limit n begin stop next same views
open_already bytes lengths first limit n start stop index next begin buffers views same p is fits e f g = record {
  places = subst (λ (k : ℕ). Places bytes lengths first limit n k stop same views) (sym f) (subst (λ (bs : List (List ℕ)). Places bytes lengths first limit n start stop bs views) (sym g) p);
  next = omega (arith, e, is, ap (λ (bs : List (List ℕ)). length bs) g);
  fits = omega (arith, f, fits);
}

module _ (bytes lengths : List ℕ) (first limit n start stop : ℕ) (buffers views : List (List ℕ)) (whole : sum lengths ≡ length bytes) (p : Places bytes lengths first limit n start stop buffers views) where
  -- what is placed is within the bytes
  pub placed_within : stop ≤ length bytes
  placed_within = omega (arith, end_within lengths n, p.stops, whole)

  pub next_within : n < length lengths → stop + get_or lengths n 0 ≤ length bytes
  next_within l = omega (arith, end_within lengths (n + 1), end_more lengths n l, p.stops, whole)

  open_length : length (part bytes start stop) ≡ stop - start
  open_length = length-take-le (stop - start) (drop start bytes) (omega (arith, placed_within, length-drop start bytes, p.order))

  closed_front : concat (buffers ++ part bytes start stop ∷ []) ≡ take stop bytes
  closed_front = front_push bytes buffers start stop p.front p.order

  closed_ends : (count : ℕ) → IsValueEnd lengths (reach_of (buffers ++ part bytes start stop ∷ []) count)
  closed_ends = ends_push lengths buffers (part bytes start stop) p.ends (record { count = n; ends = ap (λ (l : List ℕ). length l) closed_front ∙ length-take-le stop bytes placed_within ∙ p.stops })

  closed_within : All (λ buffer. length buffer ≤ limit) (buffers ++ part bytes start stop ∷ [])
  closed_within = All-push (λ buffer. length buffer ≤ limit) buffers (part bytes start stop) p.within (omega (arith, open_length, p.room))

  closed_length : length (buffers ++ part bytes start stop ∷ []) ≡ length buffers + 1
  closed_length = length-append buffers (part bytes start stop ∷ [])

  -- in any cutting the first `length buffers + 1` buffers end before the next value
  closed_least : n < length lengths → start + limit < stop + get_or lengths n 0 → (others : List (List ℕ)) → IsCutting bytes lengths limit others → reach_of others (length buffers + 1) ≤ stop
  closed_least l over others c =
      let far : reach_of others (length buffers + 1) ≤ reach_of others (length buffers) + limit = reach_more others (length buffers) limit c.within in
      subst (λ (m : ℕ). reach_of others (length buffers + 1) ≤ m) (sym p.stops)
      (value_end_before lengths (reach_of others (length buffers + 1)) n (c.ends (length buffers + 1)) (omega (arith, far, p.least others c, over, p.stops, end_more lengths n l)))

  -- the buffer is closed where the next value does not fit
  pub places_closed : n < length lengths → start + limit < stop + get_or lengths n 0 → Places bytes lengths first limit n stop stop (buffers ++ part bytes start stop ∷ []) views
  places_closed l over = record {
    stops = p.stops;
    starts = record { count = n; ends = p.stops };
    order = omega arith;
    room = omega arith;
    front = closed_front;
    ends = closed_ends;
    within = closed_within;
    least = λ others c. subst (λ (m : ℕ). reach_of others m ≤ stop) (sym closed_length) (closed_least l over others c);
    rest = λ _. omega (arith, next_within l, over, p.room);
    count = p.count;
    placed = λ k h. stands_more (value_in bytes lengths k) first (buffers ++ part bytes start stop ∷ []) (part bytes stop stop ∷ []) (get_or views k []) (p.placed k h);
  }

  -- a step of the loop that opens a buffer
  pub opened : (index next begin : ℕ) (closed : List (List ℕ)) → n < length lengths → start + limit < stop + get_or lengths n 0 → All (λ count. count ≤ limit) lengths → index ≡ first + length buffers → next ≡ index + 1 → begin ≡ stop → closed ≡ buffers ++ part bytes start stop ∷ []
      → IsOpen bytes lengths first limit n begin stop next closed views
  opened index next begin closed l over each is more begins puts = record {
    places = subst (λ (k : ℕ). Places bytes lengths first limit n k stop closed views) (sym begins) (subst (λ (bs : List (List ℕ)). Places bytes lengths first limit n stop stop bs views) (sym puts) (places_closed l over));
    next = omega (arith, is, more, ap (λ (bs : List (List ℕ)). length bs) puts, closed_length);
    fits = omega (arith, begins, All-get_or (λ count. count ≤ limit) lengths n 0 l each);
  }

  -- no index is left where one more buffer is needed
  pub places_too_many : n < length lengths → start + limit < stop + get_or lengths n 0 → 2 ^ 32 ≤ first + length buffers + 1 → IsTooMany bytes lengths first limit
  places_too_many l over full others c = elim (cases_lt (length buffers + 1) (length others)) [
    | inl more ↦ omega (arith, more, full)
    | inr few ↦
        let all : reach_of others (length buffers + 1) ≡ length bytes = reach_all others (length buffers + 1) few ∙ ap (λ (r : List ℕ). length r) c.whole in
        absurd (omega (arith, all, closed_least l over others c, next_within l, over, p.room))
  ]

  grown : n < length lengths → part bytes start stop ++ take (get_or lengths n 0) (drop stop bytes) ≡ part bytes start (stop + get_or lengths n 0)
  grown l =
      let m = get_or lengths n 0 in
      let at : start + (stop - start) ≡ stop = omega (arith, p.order) in
      let sums : (stop - start) + m ≡ (stop + m) - start = omega (arith, p.order) in
      ap (λ (k : ℕ). part bytes start stop ++ take m (drop k bytes)) (sym at)
      ∙ ap (λ (r : List ℕ). part bytes start stop ++ take m r) (sym (drop-drop (stop - start) start bytes))
      ∙ parts_joined (drop start bytes) (stop - start) m
      ∙ ap (λ (k : ℕ). take k (drop start bytes)) sums

  -- the next value is at the end of the open buffer
  next_lies : n < length lengths → LiesAt (value_in bytes lengths n) (buffers ++ part bytes start (stop + get_or lengths n 0) ∷ []) (length buffers) (stop - start)
  next_lies l =
      let m = get_or lengths n 0 in
      let v = value_in bytes lengths n in
      let value : v ≡ take m (drop stop bytes) = ap (λ (k : ℕ). take m (drop k bytes)) (sym p.stops) in
      let size : length v ≡ m = ap (λ (r : List ℕ). length r) value ∙ length-take-le m (drop stop bytes) (omega (arith, next_within l, length-drop stop bytes)) in
      record {
        there = omega (arith, length-append buffers (part bytes start (stop + m) ∷ []));
        here =
            ap (λ (b : List ℕ). take (length v) (drop (stop - start) b)) (get_or_push buffers (part bytes start (stop + m)) [] (length buffers) refl ∙ sym (grown l))
            ∙ ap (take (length v)) (drop_at (part bytes start stop) (take m (drop stop bytes)) (stop - start) open_length)
            ∙ ap (take (length v)) (sym value)
            ∙ take_all (length v) v (omega arith);
      }

  -- the next value is placed in the open buffer
  pub places_more : (view : List ℕ) → n < length lengths → stop + get_or lengths n 0 ≤ start + limit → limit < 2 ^ 32 → first + length buffers < 2 ^ 32 → view ≡ view_of (value_in bytes lengths n) (first + length buffers) (stop - start)
      → Places bytes lengths first limit (n + 1) start (stop + get_or lengths n 0) buffers (set views n view)
  places_more view l fits small index made =
      let m = get_or lengths n 0 in
      record {
        stops = ap (λ (k : ℕ). k + m) p.stops ∙ sym (end_more lengths n l);
        starts = p.starts;
        order = omega (arith, p.order);
        room = fits;
        front = p.front;
        ends = p.ends;
        within = p.within;
        least = p.least;
        rest = p.rest;
        count = length-set views n view ∙ p.count;
        placed = λ k h. elim (cases_eq k n) [
          | inl e ↦
              subst (λ (j : ℕ). Stands (value_in bytes lengths j) first (buffers ++ part bytes start (stop + m) ∷ []) (get_or (set views n view) j [])) (sym e)
              (subst (λ (w : List ℕ). Stands (value_in bytes lengths n) first (buffers ++ part bytes start (stop + m) ∷ []) w) (sym (get_or-set_same views n view [] (subst (λ i. n < i) (sym p.count) l)))
              (record {
                index = length buffers;
                offset = stop - start;
                fits = omega (arith, length-take (get_or lengths n 0) (drop (end_of lengths n) bytes), fits, small, p.order);
                index_fits = index;
                offset_fits = omega (arith, p.room, small);
                made = made;
                lies = λ _. next_lies l;
              }))
          | inr other ↦
              let before : k < n = omega (arith, h, other) in
              subst (λ (w : List ℕ). Stands (value_in bytes lengths k) first (buffers ++ part bytes start (stop + m) ∷ []) w) (sym (get_or-set_other views n k view [] other))
              (subst (λ (b : List ℕ). Stands (value_in bytes lengths k) first (buffers ++ b ∷ []) (get_or views k [])) (grown l)
              (stands_grown (value_in bytes lengths k) first buffers (part bytes start stop) (take m (drop stop bytes)) (get_or views k []) (p.placed k before)))
        ];
      }

  all_stops : length lengths ≤ n → stop ≡ length bytes
  all_stops e = p.stops ∙ end_all lengths n e ∙ whole

  -- all values are placed, and the last buffer is closed
  pub places_all : length lengths ≡ n → start < stop → first + length buffers < 2 ^ 32 → IsBuilt bytes lengths first limit (buffers ++ part bytes start stop ∷ []) views
  places_all e more index =
      let stops : stop ≡ length bytes = all_stops (omega (arith, e)) in
      record {
        fewest = record {
          cutting = record {
            whole = closed_front ∙ take_all stop bytes (omega (arith, stops));
            ends = closed_ends;
            within = closed_within;
          };
          least = λ others c. elim (cases_lt (length buffers) (length others)) [
            | inl l ↦ omega (arith, l, closed_length)
            | inr few ↦
                let all : reach_of others (length buffers) ≡ length bytes = reach_all others (length buffers) few ∙ ap (λ (r : List ℕ). length r) c.whole in
                absurd (omega (arith, all, p.least others c, more, stops))
          ];
        };
        indices = omega (arith, index, closed_length);
        viewed = record {
          count = p.count;
          each = λ i h. view_stands (value_in bytes lengths i) first (buffers ++ part bytes start stop ∷ []) (get_or views i []) (p.placed i (omega (arith, e, h)));
        };
      }

  -- there are no bytes
  pub places_nothing : length lengths ≡ n → stop ≤ start → first < 2 ^ 32 → IsBuilt bytes lengths first limit buffers views
  places_nothing e none index =
      let stops : stop ≡ length bytes = all_stops (omega (arith, e)) in
      let same : start ≡ length bytes = omega (arith, stops, none, p.order) in
      let count : length buffers ≡ 0 = elim (cases_lt 0 (length buffers)) [ inl l ↦ absurd (omega (arith, p.rest l, same)) | inr g ↦ omega (arith, g) ] in
      let nothing : buffers ≡ [] = nil_from_length buffers count in
      let whole_front : concat buffers ≡ bytes = p.front ∙ take_all start bytes (omega (arith, same)) in
      let empty : length bytes ≡ 0 = ap (λ (r : List ℕ). length r) (sym whole_front ∙ ap (λ (r : List (List ℕ)). concat r) nothing) in
      record {
        fewest = record {
          cutting = record {
            whole = whole_front;
            ends = p.ends;
            within = p.within;
          };
          least = λ others c. omega (arith, count);
        };
        indices = omega (arith, index, count);
        viewed = record {
          count = p.count;
          each = λ i h. view_stands (value_in bytes lengths i) first buffers (get_or views i [])
              (short_stands (value_in bytes lengths i) first (buffers ++ part bytes start stop ∷ []) buffers (get_or views i [])
              (omega (arith, length-take (get_or lengths i 0) (drop (end_of lengths i) bytes), length-drop (end_of lengths i) bytes, empty)) (p.placed i (omega (arith, e, h))));
        };
      }

-- the next value is placed in the open buffer
pub placed_next : (bytes lengths : List ℕ) (first limit n start stop index : ℕ) (buffers views : List (List ℕ)) → sum lengths ≡ length bytes → IsOpen bytes lengths first limit n start stop index buffers views → (view : List ℕ) → n < length lengths → limit < 2 ^ 32 → index < 2 ^ 32
    → view ≡ view_of (part bytes stop (stop + get_or lengths n 0)) index (stop - start) → Places bytes lengths first limit (n + 1) start (stop + get_or lengths n 0) buffers (set views n view)
placed_next bytes lengths first limit n start stop index buffers views whole o view l small fits made =
    let size : (stop + get_or lengths n 0) - stop ≡ get_or lengths n 0 = omega arith in
    places_more bytes lengths first limit n start stop buffers views whole o.places view l o.fits small (omega (arith, fits, o.next))
    (made ∙ ap (λ (k : ℕ). view_of (take k (drop stop bytes)) index (stop - start)) size ∙ ap (λ (k : ℕ). view_of (take (get_or lengths n 0) (drop k bytes)) index (stop - start)) o.places.stops ∙ ap (λ (k : ℕ). view_of (value_in bytes lengths n) k (stop - start)) o.next)
