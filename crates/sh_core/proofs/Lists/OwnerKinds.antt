-- What is kept of lists, bells, duties and owners, over Adopt, Leave, ReadPage, and a change of a page's class.
use Rattle.std.proofs.Common.{◌≡◌, ◌≢◌, ℕ, zero, suc, ◌+◌, ◌<◌, ◌≤◌, ◌==◌, ⊎_elim, Bool, true, false, cond, List, []}
use Rattle.std.proofs.Common.{◌∷◌, ◌++◌, set, sym, refl, ap, ◌∙◌, subst, arith, Option, Some, None, slice_get, eqb-true}
use Rattle.std.proofs.Common.{eq-eqb}
use Rattle.std.proofs.lemmas.Bool.Decides.{nat_tests}
use Rattle.sh_slots.specs.declared.hand.SlotRef.{SlotRef}
use Rattle.sh_core.specs.Words.{Words, write, put}
use Rattle.sh_shape.specs.declared.places.Place.TheVariants.{Class, Owner}
use Rattle.sh_step.specs.Plans.{Plan, heap_pages}
use Rattle.sh_shape.specs.Classes.{slots}
use Rattle.sh_slots.specs.Slots.{same_slot, slot_refs}
use Rattle.sh_step.specs.Collections.{total, if1, noted, off}
use Rattle.sh_step.specs.declared.body.Body.{Body}
use Rattle.sh_core.specs.Lists.{PutLists}
use Rattle.sh_core.specs.Stacks.{slot_ref, tying, ties_of, cursor_at, ring_tying, ring_ties, is_at, bell_cursor_at}
use Rattle.sh_core.specs.Bells.{rings, armed_at, owns}
use Rattle.sh_core.specs.Placed.{OwnNotesOf, ListsAgreeOf}
use Rattle.sh_step.specs.Rows.{own, owned_by}
use Rattle.sh_core.proofs.Sums.Totals.{total_same, total_set, total_at, total_append, get_set}
use Rattle.sh_core.proofs.Lists.StackSteps.{chains_same}
use Rattle.sh_core.proofs.Lists.ListsSteps.{homed_set, lists_frame, other_owner}
use Rattle.sh_core.proofs.Sums.Tests.{eqb-comm}
use Rattle.sh_core.proofs.Sums.Writes.{put_same, put_other}
use Rattle.sh_core.proofs.Lists.StackKinds.{apart_pages}

-- the owner changes, and so does what it has
pub lists_owner : (plan : Plan) (w : Words) (ps : List Body) (l : PutLists) (a : ℕ) (p p' : Body) (n m : ℕ)
    → ListsAgreeOf plan w ps l → slice_get ps a ≡ Some p → p'.hand ≡ p.hand
    → ((q s : ℕ) → cursor_at q s p' ≡ cursor_at q s p) → ((k q : ℕ) → bell_cursor_at k q p' ≡ bell_cursor_at k q p)
    → ((q : ℕ) → armed_at q p' ≡ armed_at q p)
    → ((k : ℕ) → (put w.owner_at n m k + owns k p ≡ w.owner_at k + owns k p') × (put w.owner_at n m k ≤ 1))
    → OwnNotesOf plan w.class_at p' → ListsAgreeOf plan (write w (Owner n) m) (set ps a p') l
lists_owner plan w ps l a p p' n m r at same cs bs arms own mine = record {
  stacks = chains_same _ _ _ _ _ _ _ _ _ _ _ _ _ _ r.stacks (λ q. refl) (λ q s. refl)
      (λ q s. total_same (tying (slot_ref q s)) ps a p p' at (rw same refl))
      (λ q s. total_same (ties_of (slot_ref q s)) ps a p p' at (rw same refl))
      (λ q s. total_same (cursor_at q s) ps a p p' at (cs q s)) (λ q. refl) (λ q. refl);
  bells = chains_same _ _ _ _ _ _ _ _ _ _ _ _ _ _ r.bells (λ q. refl) (λ q s. refl)
      (λ q s. total_same (ring_tying plan q s) ps a p p' at (rw same refl))
      (λ q s. total_same (ring_ties plan q s) ps a p p' at (rw same refl))
      (λ q s. total_same (bell_cursor_at q s) ps a p p' at (bs q s)) (λ q. refl) (λ q. refl);
  duty = λ q.
      let x = total_same (armed_at q) ps a p p' at (arms q) in
      let y = total_same (rings q) ps a p p' at (rw same refl) in
      let d = r.duty q in
      let d0 = d.0 in
      let d1 = d.1 in (omega arith, omega arith);
  owned = λ k. let x = total_set (owns k) ps a p p' at in let d = r.owned k in let d0 = d.0 in let o = own k
      in let o0 = o.0 in let o1 = o.1 in (omega arith, o1);
  own_notes = homed_set plan w.class_at ps a p' r.own_notes mine;
}

abbrev pub adopted : Body → ℕ → Body
adopted p n = record p { owned = Some n; classes = []; mine = []; cursors = []; armed = []; bell_cursor = None }

-- an owner of nothing owns no page
pub none_owned : (plan : Plan) (o : Option ℕ) (q : ℕ) → o ≡ None → owned_by plan o q ≡ false
none_owned plan o q e = rw e refl

bell_none : (k q : ℕ) (o b : Option ℕ) → b ≡ None → (elim o as (λ _. ℕ)
    [ Some n ↦ cond (n == k) (is_at b q) 0 | None ↦ 0 ]) ≡ 0
bell_none k q (Some n) b e = rw e (go (n == k)) where
  go : (c : Bool) → cond {A = ℕ} c 0 0 ≡ 0
  go true = refl
  go false = refl
bell_none k q None b e = refl

pub owns_nobody : (k : ℕ) (o : Option ℕ) → o ≡ None → (elim o as (λ _. ℕ) [ Some n ↦ if1 (n == k) | None ↦ 0 ]) ≡ 0
owns_nobody k o e = rw e refl

pub adopt_agrees : (plan : Plan) (w : Words) (ps : List Body) (l : PutLists) (a : ℕ) (p : Body) (n : ℕ)
    → ListsAgreeOf plan w ps l → slice_get ps a ≡ Some p → p.owned ≡ None → w.owner_at n ≡ 0
    → ListsAgreeOf plan (write w (Owner n) 1) (set ps a (adopted p n)) l
unfolding total noted
adopt_agrees plan w ps l a p n r at none free =
    let o = r.own_notes a p at in
    lists_owner plan w ps l a p (adopted p n) n 1 r at refl (λ q s. sym (o.points q s (none_owned plan p.owned q none)))
    (λ k q. bell_none k q (Some n) None refl ∙ sym (bell_none k q p.owned p.bell_cursor (o.bell none)))
    (λ q. sym (o.arms q (none_owned plan p.owned q none)))
    (λ k. let z = owns_nobody k p.owned none in let d = r.owned k in let d1 = d.1 in go k z d1 (k == n) refl)
    (record {
      mines = λ x e. refl;
      points = λ q s e. refl;
      arms = λ q e. refl;
      bell = λ e. refl;
      notes = λ q c e h.
          absurd (let z : None ≡ Some c = h in cc);
    }) where
      go : (k : ℕ) → owns k p ≡ 0 → w.owner_at k ≤ 1 → (b : Bool) → (k == n) ≡ b
          → (put w.owner_at n 1 k + owns k p ≡ w.owner_at k + if1 (n == k)) × (put w.owner_at n 1 k ≤ 1)
      go k z d true e =
          let i = eqb-true k n e in
          let x : put w.owner_at n 1 k ≡ 1 = rw i (put_same w.owner_at n 1) in
          let y : w.owner_at k ≡ 0 = rw i free in
          let v : if1 (n == k) ≡ 1 = rw (i, eq-eqb n n refl) refl in (omega arith, omega arith)
      go k z d false e =
          let x = put_other w.owner_at n k 1 e in
          let v : if1 (n == k) ≡ 0 = rw (eqb-comm n k, e) refl in (omega arith, omega arith)

abbrev pub left : Body → Body
left p = record p { owned = None }

pub leave_agrees : (plan : Plan) (w : Words) (ps : List Body) (l : PutLists) (a : ℕ) (p : Body) (n : ℕ)
    → ListsAgreeOf plan w ps l → slice_get ps a ≡ Some p → p.owned ≡ Some n → p.mine ≡ [] → p.cursors ≡ []
    → p.armed ≡ [] → p.bell_cursor ≡ None
    → ListsAgreeOf plan (write w (Owner n) 0) (set ps a (left p)) l
unfolding total
leave_agrees plan w ps l a p n r at mine no_mine no_cursors no_armed no_bell =
    lists_owner plan w ps l a p (left p) n 0 r at refl (λ q s. refl)
    (λ k q. sym (bell_none k q p.owned p.bell_cursor no_bell)) (λ q. refl)
    (λ k. let d = r.owned k in let d0 = d.0 in let d1 = d.1 in let t = total_at (owns k) ps a p at
    in go k d1 (owns_is k p.owned mine) (omega arith) (k == n) refl)
    (record {
      mines = λ x e. rw no_mine refl;
      points = λ q s e. rw no_cursors refl;
      arms = λ q e. rw no_armed refl;
      bell = λ e. no_bell;
      notes = λ q c e h. absurd (let z : false ≡ true = e in cc);
    }) where
      owns_is : (k : ℕ) (o : Option ℕ) → o ≡ Some n → (elim o as (λ _. ℕ) [ Some m ↦ if1 (m == k) | None ↦ 0 ])
          ≡ if1 (n == k)
      owns_is k o e = rw e refl

      go : (k : ℕ) → w.owner_at k ≤ 1 → owns k p ≡ if1 (n == k) → owns k p ≤ w.owner_at k → (b : Bool) → (k == n) ≡ b
          → (put w.owner_at n 0 k + owns k p ≡ w.owner_at k + 0) × (put w.owner_at n 0 k ≤ 1)
      go k d z m true e =
          let i = eqb-true k n e in
          let x : put w.owner_at n 0 k ≡ 0 = rw i (put_same w.owner_at n 0) in
          let v : if1 (n == k) ≡ 1 = rw (i, eq-eqb n n refl) refl in (omega arith, omega arith)
      go k d z m false e =
          let x = put_other w.owner_at n k 0 e in
          let v : if1 (n == k) ≡ 0 = rw (eqb-comm n k, e) refl in (omega arith, omega arith)

-- Adopt that finds the shard taken
pub taken_rest_owner : (plan : Plan) (w : Words) (ps : List Body) (l : PutLists) (a : ℕ) (p : Body) (n : ℕ)
    → ListsAgreeOf plan w ps l → slice_get ps a ≡ Some p → (w.owner_at n == 0) ≡ false
    → ListsAgreeOf plan (write w (Owner n) 1) (set ps a p) l
taken_rest_owner plan w ps l a p n r at some = lists_owner plan w ps l a p p n 1 r at refl (λ q s. refl) (λ k q. refl)
    (λ q. refl) (λ k. let d = r.owned k in let d1 = d.1 in go k d1 (k == n) refl) (r.own_notes a p at) where
      go : (k : ℕ) → w.owner_at k ≤ 1 → (b : Bool) → (k == n) ≡ b →
          (put w.owner_at n 1 k + owns k p ≡ w.owner_at k + owns k p) × (put w.owner_at n 1 k ≤ 1)
      go k d true e =
          let i = eqb-true k n e in
          let x : put w.owner_at n 1 k ≡ 1 = rw i (put_same w.owner_at n 1) in
          let f : (w.owner_at k == 0) ≡ false = rw i some in
          let y : 0 < w.owner_at k = grind (arith, nat_tests) in (omega arith, omega arith)
      go k d false e = let x = put_other w.owner_at n k 1 e in (omega arith, omega arith)

-- ReadPage notes the page's class word
pub read_page_agrees : (plan : Plan) (w : Words) (ps : List Body) (l : PutLists) (a : ℕ) (p : Body) (q : ℕ)
    → ListsAgreeOf plan w ps l → slice_get ps a ≡ Some p → q < heap_pages plan
    → ListsAgreeOf plan w (set ps a (record p { classes = (q, w.class_at q) ∷ p.classes })) l
unfolding noted
read_page_agrees plan w ps l a p q r at small =
    let o = r.own_notes a p at in
    lists_frame plan w ps l a p (record p { classes = (q, w.class_at q) ∷ p.classes }) r at refl
    (record {
      mines = o.mines;
      points = o.points;
      arms = o.arms;
      bell = o.bell;
      notes = λ k c e h. go k c e (q == k)
          refl h;
    }) where
      go : (k c : ℕ) → own plan p k ≡ true → (b : Bool) → (q == k) ≡ b
          → cond b (Some (w.class_at q)) (noted k p.classes) ≡ Some c → (w.class_at k ≡ c) × (k < heap_pages plan)
      go k c e true f h = let i = eqb-true q k f in let z : w.class_at q ≡ c = cc
          in (ap w.class_at (sym i) ∙ z, omega arith)
      go k c e false f h = (r.own_notes a p at).notes k c e h

pub times_drop : (x : SlotRef) (q : ℕ) (xs : List SlotRef)
    → total (λ y. if1 (same_slot x y)) (off (λ y. y.page == q) xs)
    ≡ cond (x.page == q) 0 (total (λ y. if1 (same_slot x y)) xs)
unfolding total off
times_drop x q [] = go (x.page == q) where
  go : (b : Bool) → 0 ≡ cond {A = ℕ} b 0 0
  go true = refl
  go false = refl
times_drop x q (y ∷ ys) = go (y.page == q) (x.page == q) refl refl (times_drop x q ys) where
  apart : (x.page == q) ≡ false → (y.page == q) ≡ true → same_slot x y ≡ false
  apart a b = let i = eqb-true y.page q b in let z : (x.page == y.page) ≡ false = rw i a in rw z refl

  apart2 : (x.page == q) ≡ true → (y.page == q) ≡ false → same_slot x y ≡ false
  apart2 a b = let i = eqb-true x.page q a in let z : (x.page == y.page) ≡ false = rw (eqb-comm x.page y.page, i) b
      in rw z refl

  go : (b c : Bool) → (y.page == q) ≡ b → (x.page == q) ≡ c → total (λ y. if1 (same_slot x y))
      (off (λ y. y.page == q) ys) ≡ cond c 0 (total (λ y. if1 (same_slot x y)) ys)
      → total (λ y. if1 (same_slot x y)) (cond b (off (λ y. y.page == q) ys) (y ∷ off (λ y. y.page == q) ys))
      ≡ cond c 0 (if1 (same_slot x y) + total (λ y. if1 (same_slot x y)) ys)
  go true true e f h = h
  go true false e f h = let z : if1 (same_slot x y) ≡ 0 = rw (apart f e) refl in omega arith
  go false true e f h = let z : if1 (same_slot x y) ≡ 0 = rw (apart2 f e) refl in omega arith
  go false false e f h = omega arith

abbrev pub classed : Body → ℕ → ℕ → Body
classed p q c = record p {
  classes = (q, c + 1) ∷ p.classes;
  mine = slot_refs q 0 (slots c)
      ++ off (λ x. x.page == q) p.mine;
}

pub slots_else : (x : SlotRef) (q s n : ℕ) → (x.page == q) ≡ false
    → total (λ y. if1 (same_slot x y)) (slot_refs q s n) ≡ 0
unfolding total slot_refs
slots_else x q s zero h = refl
slots_else x q s (suc n) h = let r = slots_else x q (s + 1) n h in let z : if1
    (same_slot x (record { page = q; slot = s })) ≡ 0 = rw h refl in omega arith

pub set_class_agrees : (plan : Plan) (w : Words) (ps : List Body) (l : PutLists) (a : ℕ) (p : Body) (q c : ℕ)
    → ListsAgreeOf plan w ps l → slice_get ps a ≡ Some p → own plan p q ≡ true → q < heap_pages plan
    → ListsAgreeOf plan (write w (Class q) (c + 1)) (set ps a (classed p q c)) l
unfolding total noted
set_class_agrees plan w ps l a p q c r at mine small =
    record {
      stacks = chains_same _ _ _ _ _ _ _ _ _ _ _ _ _ _ r.stacks (λ q. refl) (λ q s. refl)
          (λ q s. total_same (tying (slot_ref q s)) ps a p p' at refl)
          (λ q s. total_same (ties_of (slot_ref q s)) ps a p p' at refl)
          (λ q s. total_same (cursor_at q s) ps a p p' at refl) (λ q. refl) (λ q. refl);
      bells = chains_same _ _ _ _ _ _ _ _ _ _ _ _ _ _ r.bells (λ q. refl) (λ q s. refl)
          (λ q s. total_same (ring_tying plan q s) ps a p p' at refl)
          (λ q s. total_same (ring_ties plan q s) ps a p p' at refl)
          (λ q s. total_same (bell_cursor_at q s) ps a p p' at refl) (λ q. refl) (λ q. refl);
      duty = λ q.
          let x = total_same (armed_at q) ps a p p' at refl in
          let y = total_same (rings q) ps a p p' at refl in
          let d = r.duty q in
          let d0 = d.0 in
          let d1 = d.1 in (omega arith, omega arith);
      owned = λ n. let x = total_same (owns n) ps a p p' at refl in let d = r.owned n in (d.0 ∙ sym x, d.1);
      own_notes = λ b u h. ⊎_elim (λ e. let P : Body → Type 0 = λ v. OwnNotesOf plan (put w.class_at q (c + 1)) v
          in subst P e.1 here) (λ e. others b u e.0 e.1) (get_set ps a b p' u h);
    } where
      p' : Body
      p' = classed p q c

      o : OwnNotesOf plan w.class_at p
      o = r.own_notes a p at

      here : OwnNotesOf plan (put w.class_at q (c + 1)) p'
      here = record {
        mines = λ x e.
            let k : (x.page == q) ≡ false = eqb-comm x.page q ∙ apart_pages plan p.owned q x.page mine e in
            let m : total (λ y. if1 (same_slot x y)) (off (λ y. y.page == q) p.mine)
            ≡ total (λ y. if1 (same_slot x y)) p.mine = times_drop x q p.mine
            ∙ ap (λ (b : Bool). cond b 0 (total (λ y. if1 (same_slot x y)) p.mine)) k in
            let z = o.mines x e in
            let s = slots_else x q 0 (slots c) k in
            let t = total_append (λ y. if1 (same_slot x y)) (slot_refs q 0 (slots c)) (off (λ y. y.page == q) p.mine)
            in omega arith;
        points = o.points;
        arms = o.arms;
        bell = o.bell;
        notes = λ k d e h. go k d e (q == k) refl h;
      } where
        go : (k d : ℕ) → own plan p k ≡ true → (b : Bool) → (q == k) ≡ b → cond b (Some (c + 1)) (noted k p.classes)
            ≡ Some d → (put w.class_at q (c + 1) k ≡ d) × (k < heap_pages plan)
        go k d e true f h = let i = eqb-true q k f in let z : c + 1 ≡ d = cc
            in (rw (← i) (put_same w.class_at q (c + 1)) ∙ z, omega arith)
        go k d e false f h = let n = o.notes k d e h in (put_other w.class_at q k (c + 1) (eqb-comm k q ∙ f) ∙ n.0, n.1)

      others : (b : ℕ) (u : Body) → b ≢ a → slice_get ps b ≡ Some u → OwnNotesOf plan (put w.class_at q (c + 1)) u
      others b u n h =
          let v = r.own_notes b u h in
          let lone = other_owner plan w ps l a p r at b q u n h mine in
          record {
            mines = v.mines;
            points = v.points;
            arms = v.arms;
            bell = v.bell;
            notes = λ k d e m. let t = v.notes
                k d e m in (put_other w.class_at q k (c + 1) (eqb-comm k q ∙ away k u e lone) ∙ t.0, t.1);
          } where
            away : (k : ℕ) (u : Body) → own plan u k ≡ true → own plan u q ≡ false → (q == k) ≡ false
            away k u e lone = eqb-comm q k ∙ apart_pages plan u.owned k q e lone
