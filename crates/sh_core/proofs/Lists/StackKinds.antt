-- What is kept of lists, bells, duties and owners, over Put, Tie, Take, Arm and Follow.
use Rattle.std.proofs.Common.{◌≡◌, ℕ, ◌+◌, ◌*◌, ◌/◌, ◌%◌, ◌<◌, ◌≤◌, ◌==◌, ◌&&◌, Bool, true, false, cond, List, [], ◌∷◌}
use Rattle.std.proofs.Common.{set, drop, sym, refl, ap, ◌∙◌, arith, Option, Some, None, slice_get, eqb-true, eq-eqb}
use Rattle.sh_slots.specs.declared.hand.SlotRef.{SlotRef}
use Rattle.sh_slots.specs.declared.hand.Hand.TheVariants.{Idle, Tying, Ringing}
use Rattle.sh_core.specs.Words.{Words, write, put, put2}
use Rattle.sh_shape.specs.declared.places.Place.TheVariants.{Head, Link}
use Rattle.sh_step.specs.Plans.{Plan, shard_of}
use Rattle.sh_slots.specs.Slots.{same_slot}
use Rattle.sh_step.specs.Collections.{total, if1, noted}
use Rattle.sh_step.specs.declared.body.Body.{Body}
use Rattle.sh_core.specs.Lists.{PutLists, times, pushed, taken}
use Rattle.sh_core.specs.Stacks.{slot_ref, link_to, first_is, tying, ties_of, cursor_at, ring_tying, ring_ties}
use Rattle.sh_core.specs.Stacks.{bell_cursor_at}
use Rattle.sh_core.specs.Bells.{rings, armed_at, owns, Duty}
use Rattle.sh_core.specs.Placed.{ListsAgreeOf}
use Rattle.sh_step.specs.Rows.{hand, own, owned_by, point, unpoint}
use Rattle.sh_core.specs.Tallies.{queued}
use Rattle.sh_core.proofs.Sums.Totals.{total_same, total_set, total_at}
use Rattle.sh_core.proofs.Slots.Slots.{same_slot-refl, if1_same_slot}
use Rattle.sh_core.proofs.Lists.StackSteps.{chains_same, chains_push, chains_tie, chains_take, chains_follow}
use Rattle.sh_core.proofs.Lists.StackSteps.{chain_link, tied_owes}
use Rattle.sh_core.proofs.Lists.ListsSteps.{homed_set, alone_cursor, alone_armed, no_ties, point_total, point_link}
use Rattle.sh_core.proofs.Sums.Tests.{eqb-comm, cond_if1-true, cond_if1-false, if1_bit}
use Rattle.sh_core.proofs.Sums.ListCounts.{is_note, total_unnoted, not_noted, no_first, a_first, times_noted_as}
use Rattle.sh_core.proofs.Sums.Writes.{put2_same, put2_other, put_same, put_other}

-- Put takes the flag over, and owes the link to the old top
module _ (plan : Plan) (w : Words) (ps : List Body) (l : PutLists) (a : ℕ) (p : Body) (x : SlotRef)
    (old : ListsAgreeOf plan w ps l) (at : slice_get ps a ≡ Some (hand p Idle)) (none : queued l x ≡ 0) where
  abbrev put_word : ℕ
  put_word = (x.slot + 1) * 2

  abbrev put_after : Body
  put_after = hand p (Tying x (w.head_at x.page / 2 + 1) (w.head_at x.page % 2 == 1))

  put_owed : total (tying x) (set ps a put_after) ≡ total (tying x) ps + (w.head_at x.page / 2 + 1)
  put_owed =
      let m = total_set (tying x) ps a (hand p Idle) put_after at in
      let e = same_slot-refl x in
      let here : cond (same_slot x x) (w.head_at x.page / 2 + 1) 0 ≡ w.head_at x.page / 2 + 1 = rw e refl in omega arith

  put_tied : total (ties_of x) (set ps a put_after) ≡ total (ties_of x) ps + 1
  put_tied =
      let m = total_set (ties_of x) ps a (hand p Idle) put_after at in
      let here = if1_same_slot x in omega arith

  put_duty : Duty plan (put w.head_at x.page put_word) (set ps a put_after) (pushed l x)
  put_duty q = go (q == x.page) refl where
    r : total (rings q) (set ps a put_after) ≡ total (rings q) ps +
        cond (w.head_at x.page % 2 == 1) (if1 (x.page == q)) 0
    r = let m = total_set (rings q) ps a (hand p Idle) put_after at in omega arith

    d : total (armed_at q) (set ps a put_after) ≡ total (armed_at q) ps
    d = total_same (armed_at q) ps a (hand p Idle) put_after at refl

    go : (b : Bool) → (q == x.page) ≡ b → (total (armed_at q) (set ps a put_after)
        ≡ put w.head_at x.page put_word q % 2 + total (rings q) (set ps a put_after) + times q
        (l.bells (shard_of plan q)) +
        times q (l.bell_chain (shard_of plan q))) × (total (armed_at q) (set ps a put_after) ≤ 1)
    go true e =
        let i = eqb-true q x.page e in
        let f = cond_if1-true (w.head_at x.page % 2 == 1) (x.page == q) (eqb-comm x.page q ∙ e) in
        let m = if1_bit (w.head_at x.page % 2) (omega arith) in
        let k : put w.head_at x.page put_word q ≡ put_word = rw i (put_same w.head_at x.page put_word) in
        let h : w.head_at q ≡ w.head_at x.page = ap w.head_at i in
        let o = old.duty q in
        let o0 = o.0 in
        let o1 = o.1 in
        let c = r in
        let t = d in (omega arith, omega arith)
    go false e =
        let f = cond_if1-false (w.head_at x.page % 2 == 1) (x.page == q) (eqb-comm x.page q ∙ e) in
        let k = put_other w.head_at x.page q put_word e in
        let o = old.duty q in
        let o0 = o.0 in
        let o1 = o.1 in
        let c = r in
        let t = d in (omega arith, omega arith)

  pub put_agrees : ListsAgreeOf plan (write w (Head x.page) put_word) (set ps a put_after) (pushed l x)
  put_agrees = record {
    stacks = chains_push (λ q. w.head_at q / 2) (λ q. put w.head_at x.page put_word q / 2) w.link_at
        (λ q s. total (tying (slot_ref q s)) ps) (λ q s. total (tying (slot_ref q s)) (set ps a put_after))
        (λ q s. total (ties_of (slot_ref q s)) ps) (λ q s. total (ties_of (slot_ref q s)) (set ps a put_after))
        (λ q s. total (cursor_at q s) ps) (λ q s. total (cursor_at q s) (set ps a put_after)) l.stack l.chain x.page
        x.slot old.stacks (no_ties x ps) none (let e = put_same w.head_at x.page put_word in omega arith)
        (λ g e. let f = put_other w.head_at x.page g put_word e in ap (λ (m : ℕ). m / 2) f) put_owed put_tied
        (λ g i e. (
          total_same (tying (slot_ref g i)) ps a (hand p Idle) put_after at (rw e refl),
          total_same
              (ties_of (slot_ref g i)) ps a (hand p Idle) put_after at (rw e refl),
        ))
        (λ g i. total_same (cursor_at g i) ps a (hand p Idle) put_after at refl);
    bells = chains_same _ _ _ _ _ _ _ _ _ _ _ _ _ _ old.bells (λ q. refl) (λ q s. refl)
        (λ q s. total_same (ring_tying plan q s) ps a (hand p Idle) put_after at refl)
        (λ q s. total_same (ring_ties plan q s) ps a (hand p Idle) put_after at refl)
        (λ q s. total_same (bell_cursor_at q s) ps a (hand p Idle) put_after at refl) (λ q. refl) (λ q. refl);
    duty = put_duty;
    owned = λ m. let z = total_same (owns m) ps a (hand p Idle) put_after at refl in let d = old.owned m
        in (d.0 ∙ sym z, d.1);
    own_notes = homed_set plan w.class_at ps a put_after old.own_notes (old.own_notes a (hand p Idle) at);
  }

-- Tie stores the link, and hands the duty on to the hand that rings
module _ (plan : Plan) (w : Words) (ps : List Body) (l : PutLists) (a : ℕ) (p : Body) (x : SlotRef) (n : ℕ) (r : Bool)
    (old : ListsAgreeOf plan w ps l) (at : slice_get ps a ≡ Some (hand p (Tying x n r))) (once : queued l x ≤ 1) where
  abbrev tie_before : Body
  tie_before = hand p (Tying x n r)

  abbrev tie_after : Body
  tie_after = hand p (cond r (Ringing x.page) Idle)

  ties_no_slot : (b : Bool) (y : SlotRef) → (tying y (hand p (cond b (Ringing x.page) Idle)) ≡ 0)
      × (ties_of y (hand p (cond b (Ringing x.page) Idle)) ≡ 0)
  ties_no_slot true y = (refl, refl)
  ties_no_slot false y = (refl, refl)

  ties_no_page : (b : Bool) (m q : ℕ) → (ring_tying plan m q (hand p (cond b (Ringing x.page) Idle)) ≡ 0)
      × (ring_ties plan m q (hand p (cond b (Ringing x.page) Idle)) ≡ 0)
  ties_no_page true m q = (refl, refl)
  ties_no_page false m q = (refl, refl)

  rings_on : (b : Bool) (q : ℕ) → rings q (hand p (cond b (Ringing x.page) Idle)) ≡ cond b (if1 (x.page == q)) 0
  rings_on true q = refl
  rings_on false q = refl

  tie_tied : total (ties_of x) (set ps a tie_after) + 1 ≡ total (ties_of x) ps
  tie_tied =
      let m = total_set (ties_of x) ps a tie_before tie_after at in
      let z = (ties_no_slot r x).1 in
      let one = if1_same_slot x in omega arith

  tie_owed : total (tying x) (set ps a tie_after) + n ≡ total (tying x) ps
  tie_owed =
      let m = total_set (tying x) ps a tie_before tie_after at in
      let z = (ties_no_slot r x).0 in
      let e = same_slot-refl x in
      let one : cond (same_slot x x) n 0 ≡ n = rw e refl in omega arith

  tie_some : 0 < n
  tie_some =
      let t = tie_tied in
      let o = tie_owed in
      let k = tied_owes (λ q. w.head_at q / 2) w.link_at (λ q s. total (tying (slot_ref q s)) ps)
      (λ q s. total (ties_of (slot_ref q s)) ps) (λ q s. total (cursor_at q s) ps) l.stack l.chain x.page x.slot
      old.stacks once (omega arith) in
      let tt' = old.stacks.ties x.page x.slot in
      let z = no_ties x (set ps a tie_after) (omega arith) in omega arith

  pub tie_agrees : ListsAgreeOf plan (write w (Link x.page x.slot) n) (set ps a tie_after) l
  tie_agrees = record {
    stacks = chains_tie (λ q. w.head_at q / 2) w.link_at (put2 w.link_at x.page x.slot n)
        (λ q s. total (tying (slot_ref q s)) ps) (λ q s. total (tying (slot_ref q s)) (set ps a tie_after))
        (λ q s. total (ties_of (slot_ref q s)) ps) (λ q s. total (ties_of (slot_ref q s)) (set ps a tie_after))
        (λ q s. total (cursor_at q s) ps) (λ q s. total (cursor_at q s) (set ps a tie_after)) l.stack l.chain x.page
        x.slot n old.stacks once tie_some (put2_same w.link_at x.page x.slot n) tie_owed tie_tied
        (λ g i e. (
          put2_other w.link_at x.page x.slot n g i e,
          total_same (tying (slot_ref g i)) ps a tie_before tie_after at
              ((ties_no_slot r (slot_ref g i)).0
              ∙ sym (let z : cond (same_slot (slot_ref g i) x) n 0 ≡ 0 = rw e refl in z)),
          total_same (ties_of (slot_ref g i)) ps a tie_before tie_after at
              ((ties_no_slot r (slot_ref g i)).1 ∙ sym (let z : if1 (same_slot (slot_ref g i) x) ≡ 0 = rw e refl in z)),
        ))
        (λ g i. total_same (cursor_at g i) ps a tie_before tie_after at refl);
    bells = chains_same _ _ _ _ _ _ _ _ _ _ _ _ _ _ old.bells (λ q. refl) (λ q s. refl)
        (λ q s. total_same (ring_tying plan q s) ps a tie_before tie_after at (ties_no_page r q s).0)
        (λ q s. total_same (ring_ties plan q s) ps a tie_before tie_after at (ties_no_page r q s).1)
        (λ q s. total_same (bell_cursor_at q s) ps a tie_before tie_after at refl) (λ q. refl) (λ q. refl);
    duty = λ q.
        let c = total_same (rings q) ps a tie_before tie_after at (rings_on r q) in
        let d = total_same (armed_at q) ps a tie_before tie_after at refl in
        let o = old.duty q in
        let o0 = o.0 in
        let o1 = o.1 in (omega arith, omega arith);
    owned = λ m. let z = total_same (owns m) ps a tie_before tie_after at refl in let d = old.owned m
        in (d.0 ∙ sym z, d.1);
    own_notes = homed_set plan w.class_at ps a tie_after old.own_notes (old.own_notes a tie_before at);
  }

pub apart_pages : (plan : Plan) (o : Option ℕ) (q k : ℕ) → owned_by plan o q ≡ true → owned_by plan o k ≡ false
    → (q == k) ≡ false
apart_pages plan o q k a b = go (q == k) refl where
  go : (c : Bool) → (q == k) ≡ c → c ≡ false
  go false e = refl
  go true e = let i = eqb-true q k e in let z : true ≡ false = sym a ∙ ap (owned_by plan o) i ∙ b in absurd (cc)

-- Take and Arm: the stack becomes the chain; the duty covers the page's flag and what is armed
module _ (plan : Plan) (w : Words) (ps : List Body) (l : PutLists) (a : ℕ) (p : Body) (q m : ℕ) (arms : List ℕ)
    (old : ListsAgreeOf plan w ps l) (at : slice_get ps a ≡ Some p) (mine : own plan p q ≡ true)
    (no : noted q p.cursors ≡ None)
    (small : m < 2)
    (homes : (k : ℕ) → own plan p k ≡ false → times k arms ≡ 0)
    (here : times q arms + w.head_at q % 2 ≡ times q p.armed + m)
    (there : (k : ℕ) → (k == q) ≡ false → times k arms ≡ times k p.armed) (one : times q arms ≤ 1) where
  abbrev taken_after : Body
  taken_after = record p { cursors = point 1 q (w.head_at q / 2) p.cursors; armed = arms }

  pub no_chain : l.chain q ≡ []
  no_chain = no_first (l.chain q) (λ s. sym (old.stacks.cursors q s)
      ∙ alone_cursor plan w ps l a p old at q s mine ∙ not_noted q s p.cursors no)

  added : (k s : ℕ) → cursor_at k s taken_after ≡ cursor_at k s p + cond (q == k) (first_is (l.stack q) s) 0
  added k s = rw (old.stacks.tops q) (point_total q k s (l.stack q) p.cursors)

  taken_duty : Duty plan (put w.head_at q m) (set ps a taken_after) (taken l q)
  taken_duty k = go (k == q) refl where
    c : total (rings k) (set ps a taken_after) ≡ total (rings k) ps
    c = total_same (rings k) ps a p taken_after at refl

    d : total (armed_at k) (set ps a taken_after) + times k p.armed ≡ total (armed_at k) ps + times k arms
    d = total_set (armed_at k) ps a p taken_after at

    go : (b : Bool) → (k == q) ≡ b → (total (armed_at k) (set ps a taken_after)
        ≡ put w.head_at q m k % 2 + total (rings k) (set ps a taken_after) + times k (l.bells (shard_of plan k)) + times
        k
        (l.bell_chain (shard_of plan k))) × (total (armed_at k) (set ps a taken_after) ≤ 1)
    go true e =
        let i = eqb-true k q e in
        let h : put w.head_at q m k ≡ m = rw i (put_same w.head_at q m) in
        let g : w.head_at k ≡ w.head_at q = ap w.head_at i in
        let x : times k arms ≡ times q arms = ap (λ j. times j arms) i in
        let y : times k p.armed ≡ times q p.armed = ap (λ j. times j p.armed) i in
        let al : total (armed_at k) ps ≡ times k p.armed = rw i (alone_armed plan w ps l a p old at q mine) in
        let o = old.duty k in
        let o0 = o.0 in
        let o1 = o.1 in
        let r = c in
        let s = d in (omega arith, omega arith)
    go false e =
        let h = put_other w.head_at q k m e in
        let t = there k e in
        let o = old.duty k in
        let o0 = o.0 in
        let o1 = o.1 in
        let r = c in
        let s = d in (omega arith, omega arith)

  pub taken_agrees : ListsAgreeOf plan (write w (Head q) m) (set ps a taken_after) (taken l q)
  taken_agrees = record {
    stacks = chains_take (λ k. w.head_at k / 2) (λ k. put w.head_at q m k / 2) w.link_at
        (λ q s. total (tying (slot_ref q s)) ps) (λ q s. total (tying (slot_ref q s)) (set ps a taken_after))
        (λ q s. total (ties_of (slot_ref q s)) ps) (λ q s. total (ties_of (slot_ref q s)) (set ps a taken_after))
        (λ q s. total (cursor_at q s) ps) (λ q s. total (cursor_at q s) (set ps a taken_after)) l.stack l.chain q
        old.stacks no_chain (let e = put_same w.head_at q m in omega arith)
        (λ g e. let f = put_other w.head_at q g m e
        in ap (λ (m : ℕ). m / 2) f)
        (λ g i. total_same (tying (slot_ref g i)) ps a p taken_after at refl)
        (λ g i. total_same (ties_of (slot_ref g i)) ps a p taken_after at refl)
        (λ i. let t = total_set (cursor_at q i) ps a p taken_after at in let u = added q i
        in let v : cond (q == q) (first_is (l.stack q) i) 0 ≡ first_is (l.stack q) i = rw (eq-eqb q q refl) refl
        in omega arith)
        (λ g i e. let f : (q == g) ≡ false = eqb-comm q g ∙ e in total_same (cursor_at g i) ps a p taken_after at
        (let u = added g i in let v : cond (q == g) (first_is (l.stack q) i) 0 ≡ 0 = rw f refl in omega arith));
    bells = chains_same _ _ _ _ _ _ _ _ _ _ _ _ _ _ old.bells (λ q. refl) (λ q s. refl)
        (λ q s. total_same (ring_tying plan q s) ps a p taken_after at refl)
        (λ q s. total_same (ring_ties plan q s) ps a p taken_after at refl)
        (λ q s. total_same (bell_cursor_at q s) ps a p taken_after at refl) (λ q. refl) (λ q. refl);
    duty = taken_duty;
    owned = λ m. let z = total_same (owns m) ps a p taken_after at refl in let d = old.owned m in (d.0 ∙ sym z, d.1);
    own_notes = let o = old.own_notes a p at in homed_set plan w.class_at ps a taken_after old.own_notes (record {
      mines = o.mines;
      points = λ k s e. let f = apart_pages plan p.owned q k mine e in let x = added k s in let y = o.points k s e
          in let v : cond (q == k) (first_is (l.stack q) s) 0 ≡ 0 = rw f refl in omega arith;
      arms = homes;
      bell = o.bell;
      notes = o.notes;
    });
  }

-- Follow that finds a link
module _ (plan : Plan) (w : Words) (ps : List Body) (l : PutLists) (a : ℕ) (p : Body) (q s : ℕ)
    (old : ListsAgreeOf plan w ps l) (at : slice_get ps a ≡ Some p) (mine : own plan p q ≡ true)
    (has_cursor : noted q p.cursors ≡ Some s) where
  cursor_one : 0 < total (cursor_at q s) ps
  cursor_one =
      let u = total_unnoted (is_note q s) q s p.cursors has_cursor in
      let e : if1 ((q == q) && (s == s)) ≡ 1 = rw (eq-eqb q q refl, eq-eqb s s refl) refl in
      let t = total_at (cursor_at q s) ps a p at in omega arith

  pub chain_is : l.chain q ≡ s ∷ drop 1 (l.chain q)
  chain_is = let c = cursor_one in let e = old.stacks.cursors q s in a_first (l.chain q) s (omega arith)

  abbrev follow_after : Body
  follow_after = record p { cursors = point 2 q (w.link_at q s) (unpoint q p.cursors); mine = slot_ref q s ∷ p.mine }

  pub follow_agrees : queued l (slot_ref q s) ≤ 1 → (w.link_at q s == 0) ≡ false
      → ListsAgreeOf plan (write w (Link q s) 0) (set ps a follow_after)
      (record l { chain = put l.chain q (drop 1 (l.chain q)) })
  unfolding total
  follow_agrees once found =
      record {
        stacks = chains_follow (λ k. w.head_at k / 2) w.link_at (put2 w.link_at q s 0)
            (λ q s. total (tying (slot_ref q s)) ps) (λ q s. total (tying (slot_ref q s)) (set ps a follow_after))
            (λ q s. total (ties_of (slot_ref q s)) ps) (λ q s. total (ties_of (slot_ref q s)) (set ps a follow_after))
            (λ q s. total (cursor_at q s) ps) (λ q s. total (cursor_at q s) (set ps a follow_after)) l.stack l.chain q s
            rest old.stacks chain_is (no_ties (slot_ref q s) ps) once found (put2_same w.link_at q s 0)
            (λ g i e. put2_other w.link_at q s 0 g i e) owed_same tied_same
            (λ i.
            let t = total_set (cursor_at q i) ps a p follow_after at in
            let u = changed q i in
            let v : cond (q == q) (first_is rest i) 0 ≡ first_is rest i = rw (eq-eqb q q refl) refl in
            let x : if1 ((q == q) && (s == i)) ≡ if1 (s == i) = rw (eq-eqb q q refl) refl in omega arith)
            (λ g i e.
            let f : (q == g) ≡ false = eqb-comm q g ∙ e in
            let u = changed g i in
            let v : cond (q == g) (first_is rest i) 0 ≡ 0 = rw f refl in
            let x : if1 ((q == g) && (s == i)) ≡ 0 = rw f refl in
            total_same (cursor_at g i) ps a p follow_after at (omega arith));
        bells = chains_same _ _ _ _ _ _ _ _ _ _ _ _ _ _ old.bells (λ q. refl) (λ q s. refl)
            (λ q s. total_same (ring_tying plan q s) ps a p follow_after at refl)
            (λ q s. total_same (ring_ties plan q s) ps a p follow_after at refl)
            (λ q s. total_same (bell_cursor_at q s) ps a p follow_after at refl) (λ q. refl) (λ q. refl);
        duty = λ k.
            let c = total_same (rings k) ps a p follow_after at refl in
            let d = total_same (armed_at k) ps a p follow_after at refl in
            let o = old.duty k in
            let o0 = o.0 in
            let o1 = o.1 in (omega arith, omega arith);
        owned = λ m. let z = total_same (owns m) ps a p follow_after at refl in let d = old.owned m
            in (d.0 ∙ sym z, d.1);
        own_notes = let o = old.own_notes a p at in homed_set plan w.class_at ps a follow_after old.own_notes (record {
          mines = λ y e. let f = apart_pages plan p.owned q y.page mine e in let x = o.mines y e
              in let g : if1 (same_slot y (slot_ref q s)) ≡ 0 = rw (eqb-comm y.page q, f) refl in omega arith;
          points = λ k t e. let f = apart_pages plan p.owned q k mine e in let x = changed k t in let y = o.points k t e
              in let v : cond (q == k) (first_is rest t) 0 ≡ 0 = rw f refl in omega arith;
          arms = o.arms;
          bell = o.bell;
          notes = o.notes;
        });
      } where
        rest : List ℕ
        rest = drop 1 (l.chain q)

        owed_same : (g i : ℕ) → total (tying (slot_ref g i)) (set ps a follow_after) ≡ total (tying (slot_ref g i)) ps
        owed_same g i = total_same (tying (slot_ref g i)) ps a p follow_after at refl

        tied_same : (g i : ℕ)
            → total (ties_of (slot_ref g i)) (set ps a follow_after) ≡ total (ties_of (slot_ref g i)) ps
        tied_same g i = total_same (ties_of (slot_ref g i)) ps a p follow_after at refl

        link_is : w.link_at q s ≡ link_to rest
        link_is = chain_link (λ k. w.head_at k / 2) w.link_at (put2 w.link_at q s 0)
            (λ q s. total (tying (slot_ref q s)) ps) (λ q s. total (tying (slot_ref q s)) (set ps a follow_after))
            (λ q s. total (ties_of (slot_ref q s)) ps) (λ q s. total (ties_of (slot_ref q s)) (set ps a follow_after))
            (λ q s. total (cursor_at q s) ps) (λ q s. total (cursor_at q s) (set ps a follow_after)) l.stack l.chain q s
            rest old.stacks chain_is (no_ties (slot_ref q s) ps) once found (put2_same w.link_at q s 0)
            (λ g i e. put2_other w.link_at q s 0 g i e) owed_same tied_same

        changed : (k t : ℕ) → cursor_at k t follow_after + if1 ((q == k) && (s == t))
            ≡ cursor_at k t p + cond (q == k) (first_is rest t) 0
        changed k t =
            let c : cursor_at k t follow_after ≡ times_noted_as k t (unpoint q p.cursors) + cond (q == k)
            (first_is rest t) 0 = rw link_is (point_link q k t rest (unpoint q p.cursors)) in
            let u = total_unnoted (is_note k t) q s p.cursors has_cursor in omega arith
