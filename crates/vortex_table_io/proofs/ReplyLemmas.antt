-- How answers to lines add up.
use Rattle.std.proofs.Common.{◌≡◌, ◌≢◌, ℕ, List, [], ◌∷◌, ◌++◌, refl, ap, ◌∙◌, sym, subst, map, flat_map, append_assoc, append-nil, All}
use Rattle.std.proofs.lemmas.Grind.{flat_map-append}
use Rattle.std.proofs.lemmas.List.Elements.{All-nil, All-cons, All-append}
use Rattle.vortex_model_table.specs.Reply.{Answers, Replies, lines}
use Rattle.vortex_table_io.specs.Lines.{IsOneLine, with_lf}
use Rattle.vortex_table_io.specs.Replies.{AnswersAll, AnswersPart, AnswersWhole, FeedOk, FeedErr, FinishOk, FinishErr, memory_text}
use Rattle.vortex_table_io.proofs.LineLemmas.{lines-last, lines-done}

-- answers that are written after others
join : (a b c d : List ℕ) (ts us : List (List ℕ)) → b ≡ a ++ flat_map with_lf ts → c ++ d ≡ b ++ flat_map with_lf us → c ++ d ≡ a ++ flat_map with_lf (ts ++ us)
join a b c d ts us e f = f ∙ ap (λ (x : List ℕ). x ++ flat_map with_lf us) e ∙ append_assoc a (flat_map with_lf ts) (flat_map with_lf us) ∙ ap (λ (x : List ℕ). a ++ x) (sym (flat_map-append with_lf ts us))

join_all : (a b c : List ℕ) (ts us : List (List ℕ)) → b ≡ a ++ flat_map with_lf ts → c ≡ b ++ flat_map with_lf us → c ≡ a ++ flat_map with_lf (ts ++ us)
join_all a b c ts us e f = sym (append-nil c) ∙ join a b c [] ts us e (append-nil c ∙ f)

one : (text : List ℕ) → with_lf text ≡ flat_map with_lf (text ∷ [])
one text = sym (append-nil (with_lf text))

not_nil : (b : ℕ) (bs : List ℕ) → b ∷ bs ≢ []
not_nil b bs h = cc

module _ {S : Type 0} (answers : Answers S (List ℕ)) where
  -- some answers, and then more
  pub Replies-append : (old : S) (ls : List (List ℕ)) (ts : List (List ℕ)) (mid : S) (ks : List (List ℕ)) (us : List (List ℕ)) (new : S)
      → Replies answers old ls ts mid → Replies answers mid ks us new → Replies answers old (ls ++ ks) (ts ++ us) new
  Replies-append old [] [] mid ks us new p q = subst (λ (m : S). Replies answers m ks us new) p q
  Replies-append old [] (t ∷ ts) mid ks us new p q = absurd p
  Replies-append old (l ∷ ls) [] mid ks us new p q = absurd p
  Replies-append old (l ∷ ls) (t ∷ ts) mid ks us new p q = (p.0, p.1, Replies-append p.0 ls ts mid ks us new p.2 q)

  Replies-one : (old new : S) (line text : List ℕ) → answers old line text new → Replies answers old (line ∷ []) (text ∷ []) new
  Replies-one old new line text a = (new, a, refl)

  module _ (may : (now : S) (line : List ℕ) → answers now line memory_text now) where
    -- lines whose answers all are error 1
    Replies-lacking : (m : S) (ls : List (List ℕ)) → Replies answers m ls (map (λ _. memory_text) ls) m
    Replies-lacking m [] = refl
    Replies-lacking m (l ∷ ls) = (m, may m l, Replies-lacking m ls)

    part : (o n : S) (r s input v x rest : List ℕ) (done texts later : List (List ℕ)) → s ≡ r ++ input → lines input ≡ done ++ later → Replies answers o done texts n → x ++ rest ≡ v ++ flat_map with_lf texts → AnswersPart answers o r s v x
    part o n r s input v x rest done texts later e c p b = record {
      input = input;
      read = e;
      texts = texts ++ map (λ _. memory_text) later;
      final = n;
      replies = subst (λ (ls : List (List ℕ)). Replies answers o ls (texts ++ map (λ _. memory_text) later) n) (sym c)
          (Replies-append o done texts n later (map (λ _. memory_text) later) n p (Replies-lacking n later));
      rest = rest ++ flat_map with_lf (map (λ _. memory_text) later);
      begins = sym (append_assoc x rest (flat_map with_lf (map (λ _. memory_text) later)))
          ∙ ap (λ (y : List ℕ). y ++ flat_map with_lf (map (λ _. memory_text) later)) b
          ∙ append_assoc v (flat_map with_lf texts) (flat_map with_lf (map (λ _. memory_text) later))
          ∙ ap (λ (y : List ℕ). v ++ y) (sym (flat_map-append with_lf texts (map (λ _. memory_text) later)));
    }

-- lines with their LFs
abbrev ended : List (List ℕ) → List ℕ
ended ls = flat_map with_lf ls

-- one more line
lined : (done : List (List ℕ)) (l : List ℕ) → ended done ++ with_lf l ≡ ended (done ++ l ∷ [])
lined done l = ap (λ (x : List ℕ). ended done ++ x) (one l) ∙ sym (flat_map-append with_lf done (l ∷ []))

each_line : (done : List (List ℕ)) (l : List ℕ) → All IsOneLine done → IsOneLine l → All IsOneLine (done ++ l ∷ [])
each_line done l h i = All-append IsOneLine done (l ∷ []) h (All-cons IsOneLine l [] i (All-nil IsOneLine))

-- the held line was completed by an LF, and more follows
parts_line : (h p l after : List ℕ) (done : List (List ℕ)) → h ++ p ≡ ended done ++ l → h ++ (p ++ 10 ∷ after) ≡ ended (done ++ l ∷ []) ++ after
parts_line h p l after done e =
    sym (append_assoc h p (10 ∷ after)) ∙ ap (λ (x : List ℕ). x ++ 10 ∷ after) e ∙ append_assoc (ended done) l (10 ∷ after)
    ∙ ap (λ (x : List ℕ). ended done ++ x) (sym (append_assoc l (10 ∷ []) after)) ∙ sym (append_assoc (ended done) (with_lf l) after)
    ∙ ap (λ (x : List ℕ). x ++ after) (lined done l)

-- the held line and a piece are whole lines and a new held line
parts_more : (h p l q k : List ℕ) (done later : List (List ℕ)) → h ++ p ≡ ended done ++ l → l ++ q ≡ ended later ++ k → h ++ (p ++ q) ≡ ended (done ++ later) ++ k
parts_more h p l q k done later e f =
    sym (append_assoc h p q) ∙ ap (λ (x : List ℕ). x ++ q) e ∙ append_assoc (ended done) l q ∙ ap (λ (x : List ℕ). ended done ++ x) f
    ∙ sym (append_assoc (ended done) (ended later) k) ∙ ap (λ (x : List ℕ). x ++ k) (sym (flat_map-append with_lf done later))

module _ {S : Type 0} {answers : Answers S (List ℕ)} where
  -- nothing was read
  pub FeedOk-none : {m : S} {h k w : List ℕ} → k ≡ h → FeedOk answers m h [] k w w m
  FeedOk-none {h = h} {w = w} e = record { done = []; texts = []; each = All-nil IsOneLine; parts = append-nil h ∙ sym e; replies = refl; written = sym (append-nil w) }

  -- a piece without LF was read, and is held
  pub FeedOk-more : {o m : S} {h p l k v w : List ℕ} (q : List ℕ) → k ≡ l ++ q → FeedOk answers o h p l v w m → FeedOk answers o h (p ++ q) k v w m
  FeedOk-more {h = h} {p = p} {l = l} {k = k} q e g = record {
    done = g.done;
    texts = g.texts;
    each = g.each;
    parts = sym (append_assoc h p q) ∙ ap (λ (x : List ℕ). x ++ q) g.parts ∙ append_assoc (ended g.done) l q ∙ ap (λ (x : List ℕ). ended g.done ++ x) (sym e);
    replies = g.replies;
    written = g.written;
  }

  -- an LF was read, and the held line was answered
  pub FeedOk-line : {o m n : S} {h p l k v w x : List ℕ} (text : List ℕ) → IsOneLine l → k ≡ [] → answers m l text n → x ≡ w ++ with_lf text → FeedOk answers o h p l v w m → FeedOk answers o h (p ++ 10 ∷ []) k v x n
  FeedOk-line {o} {m} {n} {h} {p} {l} {k} {v} {w} {x} text i z a e g = record {
    done = g.done ++ l ∷ [];
    texts = g.texts ++ text ∷ [];
    each = each_line g.done l g.each i;
    parts = parts_line h p l [] g.done g.parts ∙ ap (λ (y : List ℕ). ended (g.done ++ l ∷ []) ++ y) (sym z);
    replies = Replies-append answers o g.done g.texts m (l ∷ []) (text ∷ []) n g.replies (Replies-one answers m n l text a);
    written = join_all v w x g.texts (text ∷ []) g.written (e ∙ ap (λ (y : List ℕ). w ++ y) (one text));
  }

  -- an LF was read, and part of the answer was written
  pub FeedErr-line : {o m : S} {h p l q v w x : List ℕ} (n : S) (text rest after : List ℕ) → p ++ 10 ∷ after ≡ q → IsOneLine l → answers m l text n → x ++ rest ≡ w ++ with_lf text → FeedOk answers o h p l v w m → FeedErr answers o h q v x
  FeedErr-line {o} {m} {h} {p} {l} {q} {v} {w} {x} n text rest after s i a e g = record {
    done = g.done ++ l ∷ [];
    texts = g.texts ++ text ∷ [];
    final = n;
    later = after;
    each = each_line g.done l g.each i;
    parts = ap (λ (z : List ℕ). h ++ z) (sym s) ∙ parts_line h p l after g.done g.parts;
    replies = Replies-append answers o g.done g.texts m (l ∷ []) (text ∷ []) n g.replies (Replies-one answers m n l text a);
    rest = rest;
    begins = join v w x rest g.texts (text ∷ []) g.written (e ∙ ap (λ (z : List ℕ). w ++ z) (one text));
  }

  -- all was answered, and part of the gathered answers was written
  pub FeedErr-gathered : {o m : S} {h p l v w x : List ℕ} (rest : List ℕ) → x ++ rest ≡ w → FeedOk answers o h p l v w m → FeedErr answers o h p v x
  FeedErr-gathered {m = m} {l = l} rest e g = record {
    done = g.done;
    texts = g.texts;
    final = m;
    later = l;
    each = g.each;
    parts = g.parts;
    replies = g.replies;
    rest = rest;
    begins = e ∙ g.written;
  }

  -- one piece after another
  pub FeedOk-append : {o m n : S} {h p l q k u v w : List ℕ} → FeedOk answers o h p l u v m → FeedOk answers m l q k v w n → FeedOk answers o h (p ++ q) k u w n
  FeedOk-append {o} {m} {n} {h} {p} {l} {q} {k} {u} {v} {w} f g = record {
    done = f.done ++ g.done;
    texts = f.texts ++ g.texts;
    each = All-append IsOneLine f.done g.done f.each g.each;
    parts = parts_more h p l q k f.done g.done f.parts g.parts;
    replies = Replies-append answers o f.done f.texts m g.done g.texts n f.replies g.replies;
    written = join_all u v w f.texts g.texts f.written g.written;
  }

  pub FeedErr-append : {o m : S} {h p l q u v w : List ℕ} → FeedOk answers o h p l u v m → FeedErr answers m l q v w → FeedErr answers o h (p ++ q) u w
  FeedErr-append {o} {m} {h} {p} {l} {q} {u} {v} {w} f g = record {
    done = f.done ++ g.done;
    texts = f.texts ++ g.texts;
    final = g.final;
    later = g.later;
    each = All-append IsOneLine f.done g.done f.each g.each;
    parts = parts_more h p l q g.later f.done g.done f.parts g.parts;
    replies = Replies-append answers o f.done f.texts m g.done g.texts g.final f.replies g.replies;
    rest = g.rest;
    begins = join u v w g.rest f.texts g.texts f.written g.begins;
  }

  -- ---- whole runs

  -- the lines of all that was read
  all_lines : {o m : S} {input l v w : List ℕ} (g : FeedOk answers o [] input l v w m) → lines input ≡ g.done ++ lines l
  all_lines {l = l} g = ap lines g.parts ∙ lines-done g.done l g.each

  -- the input ended, and no line is held
  all_whole : {o m : S} {r s input v w : List ℕ} → s ≡ r ++ input → FeedOk answers o [] input [] v w m → AnswersAll answers o r s v w m
  all_whole {o} {m} {input = input} e g = record {
    input = input;
    read = e;
    texts = g.texts;
    replies = subst (λ (ls : List (List ℕ)). Replies answers o ls g.texts m) (sym (all_lines g ∙ append-nil g.done)) g.replies;
    written = g.written;
  }

  -- the input ended in a line without LF
  all_last : {o m n : S} {r s input l v w x : List ℕ} (text : List ℕ) → s ≡ r ++ input → IsOneLine l → l ≢ [] → answers m l text n → x ≡ w ++ with_lf text → FeedOk answers o [] input l v w m → AnswersAll answers o r s v x n
  all_last {o} {m} {n} {input = input} {l = l} {v = v} {w = w} {x = x} text e i ne a f g = record {
    input = input;
    read = e;
    texts = g.texts ++ text ∷ [];
    replies = subst (λ (ls : List (List ℕ)). Replies answers o ls (g.texts ++ text ∷ []) n)
        (sym (all_lines g ∙ ap (λ (y : List (List ℕ)). g.done ++ y) (lines-last l i ne)))
        (Replies-append answers o g.done g.texts m (l ∷ []) (text ∷ []) n g.replies (Replies-one answers m n l text a));
    written = join_all v w x g.texts (text ∷ []) g.written (f ∙ ap (λ (y : List ℕ). w ++ y) (one text));
  }

  -- the input has ended, with a line held
  pub ends_all : {o m n : S} {r s input v w x : List ℕ} (l : List ℕ) → s ≡ r ++ input → IsOneLine l → FeedOk answers o [] input l v w m → FinishOk answers m l w x n → AnswersAll answers o r s v x n
  ends_all {o} {m} {r = r} {s = s} {v = v} {x = x} [] e i g h =
      subst (λ (k : S). AnswersAll answers o r s v x k) (sym h.1) (subst (λ (y : List ℕ). AnswersAll answers o r s v y m) (sym h.0) (all_whole e g))
  ends_all (b ∷ bs) e i g h = all_last h.0 e i (not_nil b bs) h.1 h.2 g

  -- reading stopped, and no write failed
  pub whole_read : {o m : S} {r s input l v w : List ℕ} → s ≡ r ++ input → IsOneLine l → FeedOk answers o [] input l v w m → AnswersWhole answers o r s v w
  whole_read {m = m} {r = r} {l = l} e i g = record {
    done = g.done;
    held = l;
    lines = (g.each, i);
    read = e ∙ ap (λ (x : List ℕ). r ++ x) g.parts;
    texts = g.texts;
    final = m;
    replies = g.replies;
    written = g.written;
  }

  module _ (may : (now : S) (line : List ℕ) → answers now line memory_text now) where
    -- reading stopped
    pub part_read : {o m : S} {r s input l v w : List ℕ} → s ≡ r ++ input → FeedOk answers o [] input l v w m → AnswersPart answers o r s v w
    part_read {o} {m} {r} {s} {input} {l} {v} {w} e g =
        part answers may o m r s input v w [] g.done g.texts (lines l) e (all_lines g) g.replies (append-nil w ∙ g.written)

    -- a write failed
    pub part_stopped : {o : S} {r s input v w : List ℕ} → s ≡ r ++ input → FeedErr answers o [] input v w → AnswersPart answers o r s v w
    part_stopped {o} {r} {s} {input} {v} {w} e g =
        part answers may o g.final r s input v w g.rest g.done g.texts (lines g.later) e (ap lines g.parts ∙ lines-done g.done g.later g.each) g.replies g.begins

    -- a write failed after the input had ended, with a line held
    pub ends_part : {o m : S} {r s input v w x : List ℕ} (l : List ℕ) → s ≡ r ++ input → IsOneLine l → FeedOk answers o [] input l v w m → FinishErr answers m l w x → AnswersPart answers o r s v x
    ends_part {o} {r = r} {s = s} {v = v} [] e i g h = subst (λ (y : List ℕ). AnswersPart answers o r s v y) (sym h) (part_read e g)
    ends_part {o} {m} {r} {s} {input} {v} {w} {x} (b ∷ bs) e i g h =
        part answers may o h.2 r s input v x h.1 (g.done ++ (b ∷ bs) ∷ []) (g.texts ++ h.0 ∷ []) [] e
        (all_lines g ∙ ap (λ (y : List (List ℕ)). g.done ++ y) (lines-last (b ∷ bs) i (not_nil b bs)) ∙ sym (append-nil (g.done ++ (b ∷ bs) ∷ [])))
        (Replies-append answers o g.done g.texts m ((b ∷ bs) ∷ []) (h.0 ∷ []) h.2 g.replies (Replies-one answers m h.2 (b ∷ bs) h.0 h.3))
        (join v w x h.1 g.texts (h.0 ∷ []) g.written (h.4 ∙ ap (λ (y : List ℕ). w ++ y) (one h.0)))

-- ---- along a view: what answers to one state say about another

module _ {S T : Type 0} (view : S → T) (answers : Answers S (List ℕ)) (answers' : Answers T (List ℕ)) (says : (old : S) (line text : List ℕ) (new : S) → answers old line text new → answers' (view old) line text (view new)) where
  pub Replies-view : (old : S) (ls ts : List (List ℕ)) (new : S) → Replies answers old ls ts new → Replies answers' (view old) ls ts (view new)
  Replies-view old [] [] new p = ap view p
  Replies-view old [] (t ∷ ts) new p = absurd p
  Replies-view old (l ∷ ls) [] new p = absurd p
  Replies-view old (l ∷ ls) (t ∷ ts) new p = (view p.0, says old l t p.0 p.1, Replies-view p.0 ls ts new p.2)

  pub AnswersAll-view : (old : S) (r s v w : List ℕ) (new : S) → AnswersAll answers old r s v w new → AnswersAll answers' (view old) r s v w (view new)
  AnswersAll-view old r s v w new a = record {
    input = a.input;
    read = a.read;
    texts = a.texts;
    replies = Replies-view old (lines a.input) a.texts new a.replies;
    written = a.written;
  }

  pub AnswersPart-view : (old : S) (r s v w : List ℕ) → AnswersPart answers old r s v w → AnswersPart answers' (view old) r s v w
  AnswersPart-view old r s v w a = record {
    input = a.input;
    read = a.read;
    texts = a.texts;
    final = view a.final;
    replies = Replies-view old (lines a.input) a.texts a.final a.replies;
    rest = a.rest;
    begins = a.begins;
  }
