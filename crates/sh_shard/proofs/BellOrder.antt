-- Pages that were read from the bell, in their order, and the queues to which they came back.
use Rattle.std.proofs.Common.{◌≡◌, ◌≢◌, ℕ, ◌+◌, ◌-◌, ◌==◌, ◌||◌, true, false, cond, Option, Some, None, List, []}
use Rattle.std.proofs.Common.{◌∷◌, ◌++◌, refl, ap, ◌∙◌, sym, subst, ⊎_elim}
use Rattle.std.proofs.Math.Bool.{or_assoc}
use Rattle.std.proofs.lemmas.Bool.{cases_eq}
use Rattle.sh_queue.specs.Numbers.{has_number}
use Rattle.sh_queue.specs.Queues.{PageQueues, at_back}
use Rattle.sh_pass.specs.Owners.{SeenPage}
use Rattle.sh_shard.specs.Pages.{Paged, page_at, seen_class, BellTakes, BellStops, BellReads}
use Rattle.sh_shard.specs.Turning.{come_back, come_back_each, any_of_class}
use Rattle.sh_shard.specs.Works.{BellAlone, ReadInTurn}
use Rattle.sh_shard.proofs.ClassWords.{word_of}
use Rattle.sh_shard.proofs.Works.{through_none, through_more, through_takes, through_stops}

-- ---- one page

pub stays_there : (p : ℕ) (v : Paged) (q : PageQueues) → has_number p q.full ≡ false → q ≡ come_back p v q
stays_there p v q absent = sym (ap (λ b. cond b (at_back (seen_class (page_at v p) - 1) p q) q) absent)

pub comes_there : (p word : ℕ) (v : Paged) (q r : PageQueues) → has_number p q.full ≡ true
    → (page_at v p).class ≡ Some word → r ≡ at_back (word - 1) p q → r ≡ come_back p v q
comes_there p word v q r here class is = is
    ∙ (ap (λ (k : ℕ). at_back (k - 1) p q) (sym (word_of (page_at v p) word class))
    ∙ sym (ap (λ b. cond b (at_back (seen_class (page_at v p) - 1) p q) q) here))

-- ---- many pages, which come back by their classes alone

module _ (v w : Paged) (same : (r : ℕ) → (page_at w r).class ≡ (page_at v r).class) where
  seen_same : (p : ℕ) → seen_class (page_at w p) ≡ seen_class (page_at v p)
  seen_same p = ap (λ (o : Option ℕ). elim o as (λ _. ℕ) [ Some m ↦ m | None ↦ 0 ]) (same p)

  pub each_same : (ps : List ℕ) (q : PageQueues) → come_back_each w ps q ≡ come_back_each v ps q
  each_same [] q = refl
  each_same (p ∷ ps) q =
      let here : come_back p w q ≡ come_back p v q = ap
      (λ (k : ℕ). cond (has_number p q.full) (at_back (k - 1) p q) q) (seen_same p) in
      ap (λ (z : PageQueues). come_back_each w ps z) here ∙ each_same ps (come_back p v q)

  pub any_same : (c : ℕ) (ps : List ℕ) → any_of_class c w ps ≡ any_of_class c v ps
  any_same c [] = refl
  any_same c (p ∷ ps) = ap (λ (k : ℕ). (k == c + 1) || any_of_class c w ps) (seen_same p)
      ∙ ap (λ b. (seen_class (page_at v p) == c + 1) || b) (any_same c ps)

pub each_append : (v : Paged) (ps rs : List ℕ) (q : PageQueues) → come_back_each v (ps ++ rs) q
    ≡ come_back_each v rs (come_back_each v ps q)
each_append v [] rs q = refl
each_append v (p ∷ ps) rs q = each_append v ps rs (come_back p v q)

pub any_append : (c : ℕ) (v : Paged) (ps rs : List ℕ) → any_of_class c v (ps ++ rs)
    ≡ (any_of_class c v ps || any_of_class c v rs)
any_append c v [] rs = refl
any_append c v (p ∷ ps) rs = ap (λ b. (seen_class (page_at v p) == c + 1) || b) (any_append c v ps rs)
    ∙ sym (or_assoc (seen_class (page_at v p) == c + 1) (any_of_class c v ps) (any_of_class c v rs))

-- ---- the bell alone

pub alone_none : (o : Paged) → BellAlone o o
alone_none o = record { through = through_none o; pages = λ q. refl }

alone_more : (o n m : Paged) → BellAlone o n → BellAlone n m → BellAlone o m
alone_more o n m a b = record {
  through = through_more o n m a.through b.through;
  pages = λ q. b.pages q ∙ a.pages q;
}

pub alone_takes : (o n : Paged) → BellTakes o n → BellAlone o n
alone_takes o n b = record { through = through_takes o n b; pages = b.pages }

pub alone_stops : (o n : Paged) → BellStops o n → BellAlone o n
alone_stops o n b = record { through = through_stops o n b; pages = b.pages }

-- ---- pages that were read in turn, with more work behind

pub reads_then : (ps : List ℕ) (o n m : Paged) → ReadInTurn ps o n → BellAlone n m → ReadInTurn ps o m
reads_then [] o n m t b = alone_more o n m t b
reads_then (p ∷ ps) o n m t b = (t.0, t.1, t.2, t.3, reads_then ps t.1 n m t.4 b)

pub reads_last : (ps : List ℕ) (p : ℕ) (o n m : Paged) → ReadInTurn ps o n → BellReads p n m
    → ReadInTurn (ps ++ p ∷ []) o m
reads_last [] p o n m t b = (n, m, t, b, alone_none m)
reads_last (x ∷ ps) p o n m t b = (t.0, t.1, t.2, t.3, reads_last ps p t.1 n m t.4 b)

reads_after : (ps : List ℕ) (o n m : Paged) → BellAlone o n → ReadInTurn ps n m → ReadInTurn ps o m
reads_after [] o n m b t = alone_more o n m b t
reads_after (p ∷ ps) o n m b t = (t.0, t.1, alone_more o n t.0 b t.2, t.3, t.4)

pub reads_both : (ps rs : List ℕ) (o n m : Paged) → ReadInTurn ps o n → ReadInTurn rs n m → ReadInTurn (ps ++ rs) o m
reads_both [] rs o n m a b = reads_after rs o n m a b
reads_both (p ∷ ps) rs o n m a b = (a.0, a.1, a.2, a.3, reads_both ps rs a.1 n m a.4 b)

-- ---- a page has the slots that it had, after pages were read from the bell

read_keeps : (p : ℕ) (o n : Paged) → BellReads p o n → (q s : ℕ) → (page_at n q).mine s ≡ (page_at o q).mine s
read_keeps p o n r q s = ⊎_elim
    (λ (e : q ≡ p). subst (λ (k : ℕ). (page_at n k).mine s ≡ (page_at o k).mine s) (sym e)
    (ap (λ (g : SeenPage). g.mine s) r.here))
    (λ (ne : q ≢ p). ap (λ (g : SeenPage). g.mine s) (r.others q ne))
    (cases_eq q p)

pub reads_keep : (ps : List ℕ) (o n : Paged) → ReadInTurn ps o n → (q s : ℕ)
    → (page_at n q).mine s ≡ (page_at o q).mine s
reads_keep [] o n h q s = ap (λ (g : SeenPage). g.mine s) (h.pages q)
reads_keep (p ∷ ps) o n h q s = reads_keep ps h.1 n h.4 q s
    ∙ (read_keeps p h.0 h.1 h.3 q s ∙ ap (λ (g : SeenPage). g.mine s) (h.2.pages q))
