-- The two loops: over the slots of a page, and along its stack.
use Rattle.std.proofs.Common.{◌≡◌, ℕ, ◌+◌, ◌-◌, ◌/◌, ◌<◌, ◌≤◌, ◌&&◌, List, [], ◌∷◌, ◌++◌, length, sym, refl}
use Rattle.std.proofs.Common.{ap, ◌∙◌, subst, append_assoc, arith, Option, slice_get}
use Rattle.std.specs.Prelude.{not}
use Rattle.std.proofs.lemmas.List.{append-nil}
use Rattle.sh_word.specs.Fields.{Fields, fields_of}
use Rattle.sh_key.specs.Layout.{Layout}
use Rattle.sh_shape.specs.Classes.{class_count}
use Rattle.sh_shape.specs.declared.places.Place.{Place}
use Rattle.sh_shape.specs.declared.places.Place.TheVariants.{Class, Head, State, Link}
use Rattle.sh_shape.specs.Places.{all_pages}
use Rattle.sh_shape.specs.Shape.{Numbers}
use Rattle.sh_slots.specs.declared.hand.SlotRef.{SlotRef}
use Rattle.sh_slots.specs.Slots.{slot_refs}
use Rattle.sh_step.specs.declared.action.Event.{Event}
use Rattle.sh_step.specs.Collections.{total, if1}
use Rattle.sh_step.specs.Plans.{Plan, plan_of}
use Rattle.sh_core.specs.declared.accounts.Accounts.{Accounts}
use Rattle.sh_core.specs.Lists.{PutLists, lists_of, among, state_of, class_named, slots_under}
use Rattle.sh_core.specs.Worlds.{World, run}
use Rattle.sh_accounts.specs.Accounts.{no_slots}
use Rattle.sh_accounts.proofs.Counts.{among_more}
use Rattle.sh_table.specs.declared.view.View.{View}
use Rattle.sh_table.specs.Whole.{IsWhole, Known, noting}
use Rattle.sh_gather.specs.Histories.{IsHistory, LeadsHere, Sure}
use Rattle.sh_gather.specs.Walks.{IsNoted, WalksDown, IsWholeStack}
use Rattle.sh_gather.specs.Gathering.{IsGathered, NotedMore, NotesKeepHistories, AreWholeAccounts, CountedTo}
use Rattle.sh_gather.specs.Gathering.{StatesAlone, with_state, WalkedTo}
use Rattle.sh_gather.proofs.Leading.{Core, leads_before, leads_front, leading, laws, refined, rests, are_whole}
use Rattle.sh_gather.proofs.PageNumbers.{walk_begins, walk_goes, walk_ends, walk_full}
use Rattle.sh_history.proofs.ByPlace.{get_front, get_last}

-- ---- a view that noted more

pub later_same : (v : View) → NotedMore v v
later_same v = ([], λ i. record v { noted = sym (append-nil v.noted) i })

pub later_shape : (v w : View) → NotedMore v w → w.shape ≡ v.shape
later_shape v w h = ap (λ (x : View). x.shape) h.1

pub later_gathered : (v w : View) → NotedMore v w → IsGathered v → IsGathered w
later_gathered v w h g = let at : IsGathered (record v { noted = v.noted ++ h.0 }) = record
    { whole = g.whole; idle = g.idle; left = g.left } in subst IsGathered (sym h.1) at

pub later_whole : (v w : View) → NotedMore v w → IsWhole v → IsWhole w
later_whole v w h g = let at : IsWhole (record v { noted = v.noted ++ h.0 }) = g in subst IsWhole (sym h.1) at

pub later_leads : (layout : Layout) (v w : View) → NotedMore v w → (es : List Event) → LeadsHere layout w es
    → LeadsHere layout v es
later_leads layout v w h es k = let m : LeadsHere layout (record v { noted = v.noted ++ h.0 }) es = subst
    (λ (x : View). LeadsHere layout x es) h.1 k in leads_front layout v h.0 es m

pub later_note : (u v : View) (place : Place) (n : ℕ) → NotedMore u v → NotedMore u (noting v place n)
later_note u v place n h = (
  h.0 ++ (place, n) ∷ [],
  ap (λ (x : View). noting x place n) h.1
      ∙ (λ i. record u { noted = append_assoc u.noted h.0 ((place, n) ∷ []) i }),
)

pub later_again : (u v w : View) → NotedMore u v → NotedMore v w → NotedMore u w
later_again u v w h k = (
  h.0 ++ k.0,
  k.1 ∙ (ap (λ (x : View). record x { noted = x.noted ++ k.0 }) h.1
      ∙ (λ i. record u { noted = append_assoc u.noted h.0 k.0 i })),
)

pub later_one : (u v : View) (place : Place) (n : ℕ) → v ≡ noting u place n → NotedMore u v
later_one u v place n e = subst (NotedMore u) (sym e) (later_note u u place n (later_same u))

pub note_gathered : (u v : View) (place : Place) (n : ℕ) → v ≡ noting u place n → IsGathered u → IsGathered v
note_gathered u v place n e g = later_gathered u v (later_one u v place n e) g

length_more : {A : Type 0} (xs : List A) (x : A) → length (xs ++ x ∷ []) ≡ length xs + 1
length_more [] x = refl
length_more (y ∷ xs) x = let r = length_more xs x in omega arith

-- one load more
pub note_length : (u v : View) (place : Place) (n : ℕ) → v ≡ noting u place n → length v.noted ≡ length u.noted + 1
note_length u v place n e = ap (λ (x : View). length x.noted) e ∙ length_more u.noted (place, n)

pub notes_keep : NotesKeepHistories
notes_keep layout v w history h k =
    let t = k.tale in
    let at : IsHistory layout (record v { noted = v.noted ++ h.0 }) history = record
    { tale = record { legal = t.legal; own = t.own; told = t.told; orders = t.orders }; ours = k.ours } in
    subst (λ (x : View). IsHistory layout x history) (sym h.1) at

-- ---- the states

counted_none : (q : ℕ) (f : SlotRef → ℕ) → 0 ≡ among q f 0
unfolding total slot_refs
counted_none q f = refl

pub count_first : (layout : Layout) (v : View) (q : ℕ) (c : Option ℕ)
    → Sure layout v (λ w l. CountedTo q 0 (no_slots c) w)
count_first layout v q c es h = record {
  live = counted_none q _;
  marked = counted_none q _;
  retired = counted_none q _;
}

count_next : (layout : Layout) (v : View) (q n : ℕ) (a : Accounts) (word : ℕ) → Sure layout v (λ w l. CountedTo q n a w)
    → Sure layout (noting v (State q n) word) (λ w l. CountedTo q (n + 1) (with_state a (fields_of word)) w)
count_next layout v q n a word old es h =
    let plan : Plan = plan_of layout v.shape in
    let w : World = run plan es in
    let b = leads_before layout v (State q n) word es h in
    let o = old es b.0 in
    let live = among_more q (λ x. if1 ((state_of w x).present && not (state_of w x).marked)) n in
    let marked = among_more q (λ x. if1 ((state_of w x).present && (state_of w x).marked)) n in
    let retired = among_more q (λ x. if1 (not (state_of w x).present && (state_of w x).marked)) n in
    let is : fields_of (w.words.state_at q n) ≡ fields_of word = ap fields_of b.1 in
    let l = ap (λ (st : Fields). if1 (st.present && not st.marked)) is in
    let m = ap (λ (st : Fields). if1 (st.present && st.marked)) is in
    let r = ap (λ (st : Fields). if1 (not st.present && st.marked)) is in
    let ol = o.live in
    let om = o.marked in
    let or = o.retired in
    record { live = omega arith; marked = omega arith; retired = omega arith }

pub next_count : (layout : Layout) (f v u : View) (q n : ℕ) (a b : Accounts) (word : ℕ) → u ≡ noting v (State q n) word
    → b ≡ with_state a (fields_of word) → NotedMore f v → Sure layout v (λ w l. CountedTo q n a w) → NotedMore f u
    × Sure layout u (λ w l. CountedTo q (n + 1) b w)
next_count layout f v u q n a b word e i later at =
    let P : View → Type 0 = λ x. NotedMore f x in
    let Q : View × Accounts → Type 0 = λ z. Sure layout z.0 (λ w l. CountedTo q (n + 1) z.1 w) in (
      subst P (sym e) (later_note f v (State q n) word later),
      subst Q (λ j. (sym e j, sym i j))
          (count_next layout v q n a word at),
    )

pub still_alone : (c : Option ℕ) (a b : Accounts) (st : Fields) → b ≡ with_state a st → StatesAlone c a
    → StatesAlone c b
still_alone c a b st e h = subst (StatesAlone c) (sym e) (record
    { class = h.class; mine = h.mine; hand = h.hand; queued = h.queued })

-- ---- what the walk notes

still_noted : (v w : View) (place : Place) (n : ℕ) → NotedMore v w → IsNoted v place n → IsNoted w place n
still_noted v w place n h k = (
  k.0,
  ap (λ (x : View). slice_get x.noted k.0) h.1
      ∙ get_front v.noted h.0 k.0 (place, n) k.1,
)

now_noted : (v u : View) (place : Place) (n : ℕ) → u ≡ noting v place n → IsNoted u place n
now_noted v u place n e = (
  length v.noted,
  ap (λ (x : View). slice_get x.noted (length v.noted)) e
      ∙ get_last v.noted (place, n),
)

still_walks : (v w : View) (q from : ℕ) (slots : List ℕ) (to : ℕ) → NotedMore v w → WalksDown v q from slots to
    → WalksDown w q from slots to
still_walks v w q from [] to h k = k
still_walks v w q from (s ∷ rest) to h k = (
  k.0,
  (
    k.1.0,
    still_noted v w (Link q s) (k.1.0 + 1) h k.1.1,
    still_walks v w
        q k.1.0 rest to h k.1.2,
  ),
)

-- once its link is noted, the slot at the end of the walk is added to the walk
walks_on : (v : View) (q from : ℕ) (slots : List ℕ) (s next : ℕ) → IsNoted v (Link q s) (next + 1)
    → WalksDown v q from slots (s + 1) → WalksDown v q from (slots ++ s ∷ []) next
walks_on v q from [] s next n k = (k, (next, n, refl))
walks_on v q from (r ∷ rest) s next n k = (k.0, (k.1.0, k.1.1, walks_on v q k.1.0 rest s next n k.1.2))

-- n slots were walked, from the head word to the slot that `top` names
abbrev pub HasWalked : View → (q n top : ℕ) → Type 0
HasWalked v q n t = (slots : List ℕ) × (head : ℕ) × IsNoted v (Head q) head × WalksDown v q (head / 2) slots t
    × (n ≡ length slots)

pub walked_none : (v u : View) (q word : ℕ) → u ≡ noting v (Head q) word → HasWalked u q 0 (word / 2)
walked_none v u q word e = ([], word, now_noted v u (Head q) word e, refl, refl)

pub walked_more : (v u : View) (q n t word : ℕ) → u ≡ noting v (Link q (t - 1)) word → 0 < t → 1 ≤ word
    → HasWalked v q n t → HasWalked u q (n + 1) (word - 1)
walked_more v u q n t word e some linked h =
    let later = later_one v u (Link q (t - 1)) word e in
    let is : word ≡ word - 1 + 1 = omega arith in
    let end : t ≡ t - 1 + 1 = omega arith in
    let noted : IsNoted u (Link q (t - 1)) (word - 1 + 1) = subst (λ (m : ℕ). IsNoted u (Link q (t - 1)) m) is
    (now_noted v u (Link q (t - 1)) word e) in
    let before : WalksDown u q (h.1 / 2) h.0 (t - 1 + 1) = subst (λ (m : ℕ). WalksDown u q (h.1 / 2) h.0 m) end
    (still_walks v u q (h.1 / 2) h.0 t later h.3) in
    let more = length_more h.0 (t - 1) in
    let count = h.4 in (
      h.0 ++ (t - 1) ∷ [],
      h.1,
      still_noted v u (Head q) h.1 later h.2,
      walks_on u q (h.1 / 2) h.0 (t - 1) (word - 1)
          noted before,
      omega arith,
    )

pub walked_all : (v : View) (q n t : ℕ) → t ≡ 0 → HasWalked v q n t → (slots : List ℕ) × IsWholeStack v q slots
    × (n ≡ length slots)
walked_all v q n t e h = (h.0, (h.1, h.2, subst (λ (m : ℕ). WalksDown v q (h.1 / 2) h.0 m) e h.3), h.4)

-- ---- the stack

walk_first : (layout : Layout) (v : View) (q word : ℕ) → Core → IsGathered (noting v (Head q) word)
    → Known layout (noting v (Head q) word) → Sure layout (noting v (Head q) word) (WalkedTo q 0 (word / 2))
walk_first layout v q word core gathered known es h =
    let plan : Plan = plan_of layout v.shape in
    let u : View = noting v (Head q) word in
    let b = leads_before layout v (Head q) word es h in
    subst (λ (n : ℕ). WalkedTo q 0 (n / 2) (run plan es) (lists_of plan es)) b.1
    (walk_begins plan (run plan es) (lists_of plan es) (laws layout u core gathered known)
    (refined layout u core gathered known es) (rests layout u core gathered known es h) q)

module _ (layout : Layout) (v : View) (q n t : ℕ) (core : Core) (gathered : IsGathered v) (known : Known layout v)
    (at : Sure layout v (WalkedTo q n t)) where
  goes : 0 < t → Sure layout v (λ w l. (t - 1 < 48) × (0 < w.words.link_at q (t - 1))
      × WalkedTo q (n + 1) (w.words.link_at q (t - 1) - 1) w l)
  goes some es h =
      let plan : Plan = plan_of layout v.shape in
      walk_goes plan (run plan es) (lists_of plan es) (laws layout v core gathered known)
      (refined layout v core gathered known es) (rests layout v core gathered known es h) q n t (at es h) some

  pub walk_place : 0 < t → t - 1 < 48
  walk_place some = let first = leading layout v core known in (goes some first.0 first.1).0

  walk_word : (word : ℕ) → Known layout (noting v (Link q (t - 1)) word) → 0 < t → 1 ≤ word
  walk_word word known' some =
      let first = leading layout (noting v (Link q (t - 1)) word) core known' in
      let b = leads_before layout v (Link q (t - 1)) word first.0 first.1 in
      let g = (goes some first.0 b.0).1 in let e = b.1 in omega arith

  walk_next : (word : ℕ) → 0 < t → Sure layout (noting v (Link q (t - 1)) word) (WalkedTo q (n + 1) (word - 1))
  walk_next word some es h =
      let plan : Plan = plan_of layout v.shape in
      let b = leads_before layout v (Link q (t - 1)) word es h in
      subst (λ (m : ℕ). WalkedTo q (n + 1) (m - 1) (run plan es) (lists_of plan es)) b.1 (goes some es b.0).2

  pub walk_done : t ≡ 0 → Sure layout v (λ w l. n ≡ length (l.stack q))
  walk_done none es h =
      let plan : Plan = plan_of layout v.shape in
      walk_ends plan (run plan es) (lists_of plan es) (laws layout v core gathered known)
      (refined layout v core gathered known es) (rests layout v core gathered known es h) q n t (at es h) none

-- there is no slot after the 48th
pub walk_whole : (layout : Layout) (v : View) (q t : ℕ) → Core → IsGathered v → Known layout v
    → Sure layout v (WalkedTo q 48 t) → (t ≡ 0) × Sure layout v (λ w l. 48 ≡ length (l.stack q))
walk_whole layout v q t core gathered known at = let first = leading layout v core known
    in ((full first.0 first.1).0, λ es h. (full es h).1) where
      full : (es : List Event) → LeadsHere layout v es → (t ≡ 0) ×
          (48 ≡ length ((lists_of (plan_of layout v.shape) es).stack q))
      full es h =
          let plan : Plan = plan_of layout v.shape in
          walk_full plan (run plan es) (lists_of plan es) (laws layout v core gathered known)
          (refined layout v core gathered known es) (rests layout v core gathered known es h) q t (at es h)

-- ---- as the loop has it

pub begin_walk : (layout : Layout) (v u : View) (q word : ℕ) → Core → u ≡ noting v (Head q) word → IsGathered u
    → Known layout u → Sure layout u (WalkedTo q 0 (word / 2))
begin_walk layout v u q word core e gathered known =
    let Q : View → Type 0 = λ x. Sure layout x (WalkedTo q 0 (word / 2)) in
    subst Q (sym e) (walk_first layout v q word core (subst IsGathered e gathered) (subst (Known layout) e known))

pub word_walk : (layout : Layout) (v u : View) (q n t word : ℕ) → Core → u ≡ noting v (Link q (t - 1)) word
    → Known layout u → IsGathered v → Known layout v → Sure layout v (WalkedTo q n t) → 0 < t → 1 ≤ word
word_walk layout v u q n t word core e known' gathered known at some = walk_word layout v q n t core gathered known at
    word (subst (Known layout) e known') some

pub next_walk : (layout : Layout) (f v u : View) (q n t word : ℕ) → Core → u ≡ noting v (Link q (t - 1)) word
    → IsGathered v → Known layout v → NotedMore f v → Sure layout v (WalkedTo q n t) → 0 < t → NotedMore f u
    × Sure layout u (WalkedTo q (n + 1) (word - 1))
next_walk layout f v u q n t word core e gathered known later at some =
    let P : View → Type 0 = λ x. NotedMore f x in
    let Q : View → Type 0 = λ x. Sure layout x (WalkedTo q (n + 1) (word - 1)) in (
      subst P (sym e) (later_note f v (Link q (t - 1)) word later),
      subst Q (sym e)
          (walk_next layout v q n t core gathered known at word some),
    )

-- ---- a page

later_sure : (layout : Layout) (v w : View) (P : World → PutLists → Type 0) → NotedMore v w → Sure layout v P
    → Sure layout w P
later_sure layout v w P later sure es h = subst (λ (s : Numbers). P (run (plan_of layout s) es)
    (lists_of (plan_of layout s) es)) (sym (later_shape v w later)) (sure es (later_leads layout v w later es h))

class_sure : (layout : Layout) (v u : View) (q word : ℕ) → u ≡ noting v (Class q) word
    → Sure layout u (λ w l. w.words.class_at q ≡ word)
class_sure layout v u q word e = let Q : View → Type 0 = λ x. Sure layout x (λ w l. w.words.class_at q ≡ word)
    in subst Q (sym e) (λ es h. (leads_before layout v (Class q) word es h).1)

pub page_is : (layout : Layout) (v u v1 v2 : View) (q word : ℕ) (c : Option ℕ) (count n : ℕ) (a : Accounts) → Core → u
    ≡ noting v (Class q) word → NotedMore u v1 → NotedMore v1 v2 → IsGathered v2 → Known layout v2
    → q < all_pages v2.shape
    → (word ≤ class_count → c ≡ class_named word) → (word ≤ class_count → count ≡ slots_under word)
    → Sure layout v1 (λ w l. CountedTo q count a w) → StatesAlone c a
    → Sure layout v2 (λ w l. n ≡ length (l.stack q))
    → (slots : List ℕ) × IsWholeStack v2 q slots × (n ≡ length slots)
    → AreWholeAccounts layout v2 q (record a { queued = n })
page_is layout v u v1 v2 q word c count n a core e l1 l2 gathered known there named slotted counted alone queued
    walked =
    are_whole layout v2 core gathered known q there (record a { queued = n }) (λ es h.
    let plan : Plan = plan_of layout v2.shape in
    let w : World = run plan es in
    let is : w.words.class_at q ≡ word = later_sure layout v1 v2 (λ w l. w.words.class_at q ≡ word) l2
    (later_sure layout u v1 (λ w l. w.words.class_at q ≡ word) l1 (class_sure layout v u q word e)) es h in
    let low = ((refined layout v2 core gathered known es).classes q).0 in
    let small : word ≤ class_count = omega arith in
    let cs : count ≡ slots_under (w.words.class_at q) = slotted small ∙ sym (ap slots_under is) in
    let k0 : CountedTo q count a w = later_sure layout v1 v2 (λ w l. CountedTo q count a w) l2 counted es h in
    let k : CountedTo q (slots_under (w.words.class_at q)) a w = subst (λ (m : ℕ). CountedTo q m a w) cs k0 in
    record {
      class = alone.class ∙ (named small ∙ sym (ap class_named is));
      live = k.live;
      marked = k.marked;
      retired =
          k.retired;
      mine = alone.mine;
      hand = alone.hand;
      queued = queued es h;
    }) walked
