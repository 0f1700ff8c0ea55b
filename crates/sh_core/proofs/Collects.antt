-- Collecting in a quiet heap finds all.
use Rattle.std.proofs.Common.{◌≡◌, ℕ, ◌+◌, ◌-◌, ◌<◌, ◌==◌, Bool, false}
use Rattle.std.proofs.Common.{cond, List, [], ◌∷◌, ◌++◌, refl, ap, sym, ◌∙◌, subst, arith, length, Option, Some, None}
use Rattle.std.proofs.Common.{slice_get, ⊎_elim, append_assoc, append-nil, drop}
use Rattle.std.specs.Prelude.{replicate, nat_lt, slice_set}
use Rattle.std.proofs.lemmas.Bool.Decides.{nat_tests}
use Rattle.sh_bell.specs.Bell.{top_of}
use Rattle.sh_key.specs.Layout.{Layout, IsLayout}
use Rattle.sh_shape.specs.Shape.{Numbers, IsShape, Fits}
use Rattle.sh_slots.specs.declared.hand.Hand.TheVariants.{Idle}
use Rattle.sh_slots.specs.declared.hand.SlotRef.{SlotRef}
use Rattle.sh_slots.specs.Slots.{slot_refs}
use Rattle.sh_step.specs.declared.action.Action.TheVariants.{Take, Follow}
use Rattle.sh_step.specs.declared.action.Event.{Event}
use Rattle.sh_step.specs.declared.body.Body.{Body}
use Rattle.sh_step.specs.declared.moves.Move.{Move}
use Rattle.sh_step.specs.declared.moves.Move.TheVariants as move
use Rattle.sh_step.specs.Collections.{total, noted}
use Rattle.sh_step.specs.Conditions.{May, Owns, page_name, action_of}
use Rattle.sh_step.specs.Moves.{row, row_of}
use Rattle.sh_step.specs.Plans.{Plan, plan_of, heap_pages}
use Rattle.sh_step.specs.Rows.{Row, point, unpoint, take_page}
use Rattle.sh_step.proofs.PageLaws.{page_of_name}
use Rattle.sh_step.proofs.RowLaws.{row_of_may}
use Rattle.sh_step.proofs.NoteLaws.{noted_now}
use Rattle.sh_core.specs.Follows.{LinksOn}
use Rattle.sh_core.specs.Lists.{PutLists, times, lists_of, lists_from, list_step, listed, taken, chain_followed}
use Rattle.sh_core.specs.Lists.{no_lists}
use Rattle.sh_core.specs.Lists.{accounts, slots_under}
use Rattle.sh_core.specs.Quiet.{Quiet, NothingQueued, CollectingFindsAll}
use Rattle.sh_core.specs.Refines.{Refines}
use Rattle.sh_core.specs.Stacks.{top, link_to, slot_ref, ties_of}
use Rattle.sh_core.specs.Words.{read}
use Rattle.sh_core.specs.Worlds.{World, apply, run, run_from, step, open_world}
use Rattle.sh_core.proofs.Clauses.LinkFacts.{links_of}
use Rattle.sh_core.proofs.Clauses.RunTheorem.{theorem}
use Rattle.sh_core.proofs.Quiet.{none_of, loses_nothing}
use Rattle.sh_core.proofs.Sums.Totals.{get_set, get_set_here}
use Rattle.sh_core.proofs.Sums.Writes.{put_same}
use Rattle.sh_core.proofs.Words.Steps.{step_moves, run_snoc}

-- ---- one more event

pub lists_snoc : (plan : Plan) (w : World) (l : PutLists) (es : List Event) (e : Event)
    → lists_from plan w l (es ++ e ∷ []) ≡ list_step plan (run_from plan w es) e (lists_from plan w l es)
unfolding lists_from run_from
lists_snoc plan w l [] e = refl
lists_snoc plan w l (d ∷ es) e = lists_snoc plan (step plan w d) (list_step plan w d l) es e

lists_move : (plan : Plan) (w : World) (l : PutLists) (e : Event) (p : Body) (m : Row)
    → slice_get w.parts e.pass ≡ Some p → row plan p e.action ≡ Some m
    → list_step plan w e l ≡ listed plan p e.action (read w.words m.place) l
unfolding list_step
lists_move plan w l e p m at is =
    ap (λ (o : Option Body). elim o as (λ _. PutLists) [
      | Some p ↦ elim (row plan p e.action)
          [ Some m ↦ listed plan p e.action (read w.words m.place) l | None ↦ l ]
      | None ↦ l
    ]) at
    ∙ ap (λ (o : Option Row). elim o as (λ _. PutLists)
    [ Some m ↦ listed plan p e.action (read w.words m.place) l | None ↦ l ]) is

-- ---- the cursor

first_of : List ℕ → Option ℕ
first_of [] = None
first_of (s ∷ xs) = Some s

at_top : (q t : ℕ) (xs : List (ℕ × ℕ)) (st : List ℕ) → t ≡ top st → noted q xs ≡ None
    → noted q (point 1 q t xs) ≡ first_of st
unfolding first_of
at_top q t xs [] is none = rw is none
at_top q t xs (s ∷ st) is none =
    let more : nat_lt (s + 1) 1 ≡ false = grind (arith, nat_tests) in
    let same : s + 1 - 1 ≡ s = omega arith in
    let here : noted q ((q, s + 1 - 1) ∷ xs) ≡ Some s = rw same (noted_now q s xs) in
    let P : ℕ → Type 0 = λ m. noted q (point 1 q m xs) ≡ Some s in
    let at : P (s + 1) = subst (λ b. noted q (cond b xs ((q, s + 1 - 1) ∷ xs)) ≡ Some s) (sym more) here in
    subst P (sym is) at

at_next : (q n : ℕ) (xs : List (ℕ × ℕ)) (rest : List ℕ) → n ≡ link_to rest → noted q xs ≡ None
    → noted q (point 2 q n xs) ≡ first_of rest
unfolding first_of
at_next q n xs [] is none = rw is none
at_next q n xs (s ∷ rest) is none =
    let more : nat_lt (s + 2) 2 ≡ false = grind (arith, nat_tests) in
    let same : s + 2 - 2 ≡ s = omega arith in
    let here : noted q ((q, s + 2 - 2) ∷ xs) ≡ Some s = rw same (noted_now q s xs) in
    let P : ℕ → Type 0 = λ m. noted q (point 2 q m xs) ≡ Some s in
    let at : P (s + 2) = subst (λ b. noted q (cond b xs ((q, s + 2 - 2) ∷ xs)) ≡ Some s) (sym more) here in
    subst P (sym is) at

written : (rest : List ℕ) → (link_to rest == 0) ≡ false
written [] = grind (arith, nat_tests)
written (s ∷ rest) = grind (arith, nat_tests)

-- ---- what holds while pass a collects page q, and these slots are still to be followed

record Collecting (plan : Plan) (w : World) (l : PutLists) (a q : ℕ) (left : List ℕ) : Type 0 where
  quiet : Quiet w
  body : Body
  at : slice_get w.parts a ≡ Some body
  owns : Owns plan body q
  stack : l.stack q ≡ []
  chain : l.chain q ≡ left
  cursor : noted q body.cursors ≡ first_of left

quiet_set : (w : World) (ps : List Body) (a : ℕ) (u : Body) → Quiet w → u.hand ≡ Idle → (b : ℕ) (v : Body)
    → slice_get (slice_set w.parts a u) b ≡ Some v → v.hand ≡ Idle
quiet_set w ps a u quiet idle b v at = ⊎_elim (λ h. let P : Body → Type 0 = λ z. z.hand ≡ Idle in subst P h.1 idle)
    (λ h. quiet b v h.1) (get_set w.parts a b u v at)

module _ (plan : Plan) (w : World) (l : PutLists) (all : Refines plan w l) (quiet : Quiet w) (a q : ℕ) (p : Body)
    (at : slice_get w.parts a ≡ Some p) where
  takes : (may : May plan p (move.Take q)) → Collecting plan (apply w a (row_of plan p (move.Take q))) (taken l q) a q
      (l.stack q)
  unfolding apply
  takes may = record {
    quiet = quiet_set w w.parts a ((take_page p q).part (w.words.head_at q)) quiet may.0;
    body = (take_page p q).part (w.words.head_at q);
    at = get_set_here w.parts a p ((take_page p q).part (w.words.head_at q)) at;
    owns = may.2;
    stack = put_same l.stack q [];
    chain = put_same l.chain q (l.stack q);
    cursor = at_top q (top_of (w.words.head_at q)) p.cursors (l.stack q) (all.linked.0.tops q) may.4;
  }

  follows : (s : ℕ) (rest : List ℕ) → l.stack q ≡ [] → l.chain q ≡ s ∷ rest → (may : May plan p (move.Follow q s))
      → Collecting plan (apply w a (row_of plan p (move.Follow q s)))
      (cond (w.words.link_at q s == 0) l (chain_followed l q)) a q rest
  unfolding apply
  follows s rest none some may =
      let free : total (ties_of (slot_ref q s)) w.parts ≡ 0 = none_of (ties_of (slot_ref q s)) w.parts
      (λ b u has. rw (quiet b u has) refl) in
      let on : LinksOn (w.words.link_at q) (λ t. total (ties_of (slot_ref q t)) w.parts) (s ∷ rest) = subst
      (LinksOn (w.words.link_at q) (λ t. total (ties_of (slot_ref q t)) w.parts)) some
      ((links_of plan w l all).chain q) in
      let is : w.words.link_at q s ≡ link_to rest = ⊎_elim
      (λ h. let one = h.1 in absurd (omega (arith, one, free))) (λ h. h.0) on.0 in
      let not_0 : (w.words.link_at q s == 0) ≡ false = ap (λ n. n == 0) is ∙ written rest in
      let u : Body = record p {
        cursors = point 2 q (w.words.link_at q s) (unpoint q p.cursors);
        mine = record { page = q; slot = s } ∷ p.mine;
      } in
      let P : Bool → Type 0 = λ b. Collecting plan (record {
        words = (apply w a (row_of plan p (move.Follow q s))).words;
        parts = slice_set w.parts a (cond b p u);
        log = (apply w a (row_of plan p (move.Follow q s))).log;
      }) (cond b l (chain_followed l q)) a q rest in
      subst P (sym not_0) (record {
        quiet = quiet_set w w.parts a u quiet may.0;
        body = u;
        at = get_set_here w.parts a p u at;
        owns = may.2;
        stack = none;
        chain = put_same l.chain q _ ∙ ap (λ (xs : List ℕ). drop 1 xs) some;
        cursor = at_next q (w.words.link_at q s) (unpoint q p.cursors) rest is ((all.parts a p at).one_cursor q);
      })

-- ---- on a run

-- the event of a move that may be done leads from one stage to the next
moves_on : (plan : Plan) (es : List Event) (a q : ℕ) (p : Body) (m : Move) (left : List ℕ) (after : PutLists)
    → slice_get (run plan es).parts a ≡ Some p → May plan p m
    → listed plan p (action_of plan m) (read (run plan es).words (row_of plan p m).place) (lists_of plan es) ≡ after
    → Collecting plan (apply (run plan es) a (row_of plan p m)) after a q left
    → Collecting plan (run plan (es ++ record { pass = a; action = action_of plan m } ∷ []))
    (lists_of plan (es ++ record { pass = a; action = action_of plan m } ∷ [])) a q left
moves_on plan es a q p m left after at may is next =
    let e : Event = record { pass = a; action = action_of plan m } in
    let world = run_snoc plan (open_world plan) es e
    ∙ step_moves plan (run plan es) e p (row_of plan p m) at (row_of_may plan p m may) in
    let lists = lists_snoc plan (open_world plan) no_lists es e
    ∙ (lists_move plan (run plan es) (lists_of plan es) e p (row_of plan p m) at (row_of_may plan p m may) ∙ is) in
    subst (λ (w : World). Collecting plan w (lists_of plan (es ++ e ∷ [])) a q left) (sym world)
    (subst (λ (l : PutLists). Collecting plan (apply (run plan es) a (row_of plan p m)) l a q left) (sym lists) next)

module _ (layout : Layout) (shape : Numbers) (is_layout : IsLayout layout) (is_shape : IsShape shape)
    (fits : Fits layout shape) (a q : ℕ) (inside : q < heap_pages (plan_of layout shape)) where
  follow_rest : (left : List ℕ) (es : List Event)
      → Collecting (plan_of layout shape) (run (plan_of layout shape) es) (lists_of (plan_of layout shape) es) a q left
      → Collecting (plan_of layout shape)
      (run (plan_of layout shape) (es ++ replicate (length left)
      (record { pass = a; action = Follow (page_name (plan_of layout shape) q) })))
      (lists_of (plan_of layout shape) (es ++ replicate (length left)
      (record { pass = a; action = Follow (page_name (plan_of layout shape) q) }))) a q []
  unfolding listed first_of
  follow_rest [] es now = subst (λ (ds : List Event). Collecting (plan_of layout shape) (run (plan_of layout shape) ds)
      (lists_of (plan_of layout shape) ds) a q []) (sym (append-nil es)) now
  follow_rest (s ∷ rest) es now =
      let plan : Plan = plan_of layout shape in
      let w : World = run plan es in
      let l : PutLists = lists_of plan es in
      let e : Event = record { pass = a; action = Follow (page_name plan q) } in
      let may : May plan now.body (move.Follow q s) = (now.quiet a now.body now.at, inside, now.owns, now.cursor) in
      let next = moves_on plan es a q now.body (move.Follow q s) rest
      (cond (w.words.link_at q s == 0) l (chain_followed l q)) now.at may
      (ap (λ r. cond (w.words.link_at q s == 0) l (chain_followed l r)) (page_of_name plan q))
      (follows plan w l (theorem layout shape is_layout is_shape fits es) now.quiet a q now.body now.at s rest
      now.stack now.chain may) in
      let done = follow_rest rest (es ++ e ∷ []) next in
      subst (λ (ds : List Event). Collecting plan (run plan ds) (lists_of plan ds) a q [])
      (append_assoc es (e ∷ []) (replicate (length rest) e)) done

none_among : (f : SlotRef → ℕ) → ((x : SlotRef) → f x ≡ 0) → (xs : List SlotRef) → total f xs ≡ 0
unfolding total
none_among f none [] = refl
none_among f none (x ∷ xs) = let here = none x in let rest = none_among f none xs in omega arith

nothing_queued : (plan : Plan) (w : World) (l : PutLists) (a q : ℕ) → Refines plan w l → Collecting plan w l a q []
    → NothingQueued w l q
unfolding accounts total
nothing_queued plan w l a q all now = record {
  quiet = now.quiet;
  stack = now.stack;
  chain = now.chain;
  queued = none_among (λ x. times x.slot (l.stack q) + times x.slot (l.chain q))
      (λ x. let s : times x.slot (l.stack q) ≡ 0 = ap (times x.slot) now.stack in
      let c : times x.slot (l.chain q) ≡ 0 = ap (times x.slot) now.chain in omega arith)
      (slot_refs q 0 (slots_under (w.words.class_at q)));
  mine = λ x on empty.
      let one = (loses_nothing plan w l all now.quiet).none_lost x empty in
      let s : times x.slot (l.stack x.page) ≡ 0 = ap (λ r. times x.slot (l.stack r)) on ∙ ap (times x.slot) now.stack in
      let c : times x.slot (l.chain x.page) ≡ 0 = ap (λ r. times x.slot (l.chain r)) on ∙ ap (times x.slot) now.chain in
      omega arith;
}

pub collecting_finds_all : CollectingFindsAll
unfolding listed
collecting_finds_all layout shape b c f es quiet a q p at may =
    let plan : Plan = plan_of layout shape in
    let w : World = run plan es in
    let l : PutLists = lists_of plan es in
    let first : Event = record { pass = a; action = Take (page_name plan q) } in
    let taking = moves_on plan es a q p (move.Take q) (l.stack q) (taken l q) at may
    (ap (taken l) (page_of_name plan q))
    (takes plan w l (theorem layout shape b c f es) quiet a q p at may) in
    let followed = follow_rest layout shape b c f a q may.1 (l.stack q) (es ++ first ∷ []) taking in
    let rest : List Event = replicate (length (l.stack q))
    (record { pass = a; action = Follow (page_name plan q) }) in
    let same : (es ++ first ∷ []) ++ rest ≡ es ++ (first ∷ rest) = append_assoc es (first ∷ []) rest in
    let done : Collecting plan (run plan (es ++ (first ∷ rest))) (lists_of plan (es ++ (first ∷ rest))) a q [] = subst
    (λ (ds : List Event). Collecting plan (run plan ds) (lists_of plan ds) a q []) same followed in
    nothing_queued plan (run plan (es ++ (first ∷ rest))) (lists_of plan (es ++ (first ∷ rest))) a q
    (theorem layout shape b c f (es ++ (first ∷ rest))) done
