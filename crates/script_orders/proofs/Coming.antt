-- An order that comes to a state, and one line more.
use Rattle.std.proofs.Common.{◌≡◌, ◌≢◌, ℕ, ◌+◌, ◌<◌, ◌≤◌, ◌==◌, ◌&&◌, Bool, true, false, cond, List, [], ◌∷◌, ◌++◌}
use Rattle.std.proofs.Common.{length, refl, sym, ap, ◌∙◌, subst, arith, Some, None, slice_get, inl, inr, append-nil}
use Rattle.std.proofs.Common.{ne_eqb, eq-eqb}
use Rattle.std.specs.Prelude.{slice_set}
use Rattle.std.specs.List.{filter}
use Rattle.std.proofs.lemmas.Bool.{cases_eq, eqb-true, cases_lt}
use Rattle.sh_key.specs.Layout.{Layout}
use Rattle.sh_step.specs.declared.action.Event.{Event}
use Rattle.sh_step.specs.Plans.{Plan}
use Rattle.sh_core.specs.declared.outcome.Outcome.{Outcome}
use Rattle.sh_core.specs.Outcomes.{row_of_event, outcome_of}
use Rattle.sh_core.specs.Worlds.{World, step, run_from}
use Rattle.sh_core.proofs.Words.Stepping.{outcome_skipped}
use Rattle.sh_core.proofs.WaitFree.{skipped}
use Rattle.script_orders.specs.declared.changes.Change.{Change}
use Rattle.script_orders.specs.declared.found.Program.{Program}
use Rattle.script_orders.specs.declared.state.State.{State}
use Rattle.script_orders.specs.Changes.{HasChanges}
use Rattle.script_orders.specs.Lanes.{Did, and_then}
use Rattle.script_orders.specs.Orders.{is_of, lines_within, reply_line, replies_from}
use Rattle.script_orders.specs.Reached.{plan_in, world_before, world_by, replies_by, is_due, IsWorldOf, lanes_of}
use Rattle.script_orders.specs.Reached.{IsReached}
use Rattle.script_orders.specs.States.{AreAlike}
use Rattle.script_orders.specs.Walks.{HasPassed, ComesTo}
use Rattle.script_orders.proofs.FirstLines.{IsFirst, next_left, lines_with_next, lines_with_other}
use Rattle.script_orders.proofs.GoneOn.{world_more, replies_more, reply_one}
use Rattle.script_orders.proofs.LineLists.{not_both, event_one}
use Rattle.script_orders.proofs.LineOptions.{may_do, is_of_at, due_at, other_not_due, due_by_part}
use Rattle.script_orders.proofs.ListSteps.{get_set_same, get_set_other}
use Rattle.script_orders.proofs.Parts.{step_other, parts_same}
use Rattle.script_orders.proofs.Skipped.{skipped_at}

-- ---- the order that leads to a state comes to it, and an order that comes to a state comes to one that is alike

pub leads_to_it : (layout : Layout) (p : Program) (s : State) → IsReached layout p s → ComesTo layout p s.order.items s
leads_to_it layout p s reached = record {
  world = record { changed = reached.changed; parts = refl };
  each = λ a d at.
      let done = reached.each a d at in record {
        upto = d.behind;
        lines = done.lines;
        within = done.within;
        behind = omega arith;
        skips = λ n low high. absurd (omega arith);
        replies = done.replies;
      };
}

pub comes_alike : (layout : Layout) (p : Program) (order : List ℕ) (s t : State) → IsReached layout p s
    → IsReached layout p t → AreAlike s t → ComesTo layout p order t → ComesTo layout p order s
comes_alike layout p order s t reached also alike comes = record {
  world = record {
    changed =
        subst (λ (cs : List Change). HasChanges p.shape cs (world_before layout p).words
        (world_by layout p order).words) (sym alike.changes) comes.world.changed;
    parts = comes.world.parts ∙ sym (parts_same layout p s t reached also alike.lanes);
  };
  each = λ a d at. comes.each a d (sym (ap (λ (ls : List Did). slice_get ls a) alike.lanes) ∙ at);
}

-- ---- one line more

module _ (layout : Layout) (p : Program) (order : List ℕ) (n : ℕ) (rest : List ℕ) (s : State) (e : Event) (a : ℕ)
    (at : slice_get p.lines.now n ≡ Some e) (own : is_of p.lines.now a n ≡ true)
    (all : (b : ℕ) → b < p.shape.passes → filter (is_of p.lines.now b) (order ++ n ∷ rest)
    ≡ lines_within p.lines.now b 0 (length p.lines.now)) (less : a < p.shape.passes) (comes : ComesTo layout p order s)
    (lane : Did) (there : slice_get (lanes_of s) a ≡ Some lane) where
  abbrev the_lines : List Event
  the_lines = p.lines.now

  abbrev the_plan : Plan
  the_plan = plan_in layout p

  abbrev so_far : World
  so_far = world_by layout p order

  abbrev with_line : List ℕ
  with_line = order ++ n ∷ []

  abbrev own_passed : HasPassed layout p order a lane
  own_passed = comes.each a lane there

  pub event_is_own : e.pass ≡ a
  event_is_own = eqb-true e.pass a (sym (is_of_at the_lines a n (Some e) at) ∙ own)

  pub first : IsFirst (is_of the_lines a) own_passed.upto (length the_lines) n
  first = next_left the_lines a own_passed.upto order own_passed.within own_passed.lines n rest own (all a less)

  -- no line of the pass before it is due
  pub none_before : (m : ℕ) → lane.behind ≤ m → m < n → is_due the_plan so_far.parts the_lines a m ≡ false
  none_before m low high = elim (cases_lt m own_passed.upto) [
    | inl before ↦ own_passed.skips m low before
    | inr not ↦ other_not_due the_plan so_far.parts the_lines a m (first.none m (omega arith) high)
  ]

  world_with : world_by layout p with_line ≡ step the_plan so_far e
  unfolding run_from
  world_with = world_more layout p order (n ∷ []) ∙ ap (run_from the_plan so_far) (event_one the_lines n e at)

  replies_with : (b : ℕ) → replies_by layout p with_line b
      ≡ replies_by layout p order b ++ cond (e.pass == b) (reply_line e (outcome_of the_plan so_far e)) []
  replies_with b =
      replies_more layout p order (n ∷ []) b
      ∙ ap (λ (t : List ℕ). replies_by layout p order b ++ t)
      (ap (λ (es : List Event). replies_from the_plan so_far es b) (event_one the_lines n e at)
      ∙ reply_one the_plan so_far e b)

  not_of : (b : ℕ) → b ≢ a → is_of the_lines b n ≡ false
  not_of b ne = not_both (slice_get the_lines n) b a ne own

  other_replies : (b : ℕ) → b ≢ a → replies_by layout p with_line b ≡ replies_by layout p order b
  other_replies b ne =
      replies_with b
      ∙ ap (λ (c : Bool). replies_by layout p order b ++ cond c (reply_line e (outcome_of the_plan so_far e)) [])
      (ne_eqb e.pass b (λ h. ne (sym h ∙ event_is_own)))
      ∙ append-nil (replies_by layout p order b)

  own_replies : replies_by layout p with_line a ≡ replies_by layout p order a ++ reply_line e
      (outcome_of the_plan so_far e)
  own_replies =
      replies_with a
      ∙ ap (λ (c : Bool). replies_by layout p order a ++ cond c (reply_line e (outcome_of the_plan so_far e)) [])
      (eq-eqb e.pass a event_is_own)

  -- ---- it is not due

  module _ (not : is_due the_plan so_far.parts the_lines a n ≡ false) where
    not_done : row_of_event the_plan so_far e ≡ None
    not_done =
        skipped_at the_plan so_far e a event_is_own
        (sym (ap (λ (b : Bool). b && may_do the_plan so_far.parts a e) (eq-eqb e.pass a event_is_own))
        ∙ sym (due_at the_plan so_far.parts the_lines a n (Some e) at) ∙ not)

    same_world : world_by layout p with_line ≡ so_far
    same_world = world_with ∙ skipped the_plan so_far e not_done

    still : (b m : ℕ) → is_due the_plan so_far.parts the_lines b m ≡ false
        → is_due the_plan (world_by layout p with_line).parts the_lines b m ≡ false
    still b m h = ap (λ (v : World). is_due the_plan v.parts the_lines b m) same_world ∙ h

    no_reply : replies_by layout p with_line a ≡ replies_by layout p order a
    no_reply =
        own_replies
        ∙ ap (λ (o : Outcome). replies_by layout p order a ++ reply_line e o)
        (outcome_skipped the_plan so_far e not_done) ∙ append-nil (replies_by layout p order a)

    skipped_own : (d : Did) → slice_get (lanes_of s) a ≡ Some d → HasPassed layout p with_line a d
    skipped_own d is =
        let same : lane ≡ d = let z : Some lane ≡ Some d = sym there ∙ is in cc in
        let low = first.low in
        let behind = own_passed.behind in
        let high = first.high in
        let P : Did → Type 0 = λ x. HasPassed layout p with_line a x in
        subst P same (record {
          upto = n + 1;
          lines = lines_with_next the_lines a own_passed.upto order own_passed.within own_passed.lines n first;
          within = omega arith;
          behind = omega arith;
          skips = λ m at below. elim (cases_eq m n) [
            | inl e1 ↦ still a m (ap (is_due the_plan so_far.parts the_lines a) e1 ∙ not)
            | inr ne ↦ still a m (none_before m at (omega arith))
          ];
          replies = own_passed.replies ∙ sym no_reply;
        })

    skipped_other : (b : ℕ) (d : Did) → b ≢ a → slice_get (lanes_of s) b ≡ Some d → HasPassed layout p with_line b d
    skipped_other b d ne is =
        let old = comes.each b d is in record {
          upto = old.upto;
          lines = lines_with_other the_lines b old.upto n order (not_of b ne) old.lines;
          within = old.within;
          behind = old.behind;
          skips = λ m at below. still b m (old.skips m at below);
          replies = old.replies ∙ sym (other_replies b ne);
        }

    pub comes_skipped : ComesTo layout p with_line s
    comes_skipped = record {
      world = subst (λ (v : World). IsWorldOf layout p s v) (sym same_world) comes.world;
      each = λ b d is. elim (cases_eq b a) [
        | inl same ↦
            let P : ℕ → Type 0 = λ c. HasPassed layout p with_line c d in
            subst P (sym same) (skipped_own d (sym (ap (slice_get (lanes_of s)) same) ∙ is))
        | inr ne ↦ skipped_other b d ne is
      ];
    }

  -- ---- it is due, and the state goes on to another one

  module _ (t : State) (seen : ℕ) (reply : Outcome) (replied : outcome_of the_plan so_far e ≡ reply)
      (after : IsWorldOf layout p t (step the_plan so_far e))
      (lanes : lanes_of t ≡ slice_set (lanes_of s) a (and_then lane n seen (reply_line e reply))) where
    abbrev then_did : Did
    then_did = and_then lane n seen (reply_line e reply)

    passed_own : HasPassed layout p with_line a then_did
    passed_own =
        let high = first.high in record {
          upto = n + 1;
          lines = lines_with_next the_lines a own_passed.upto order own_passed.within own_passed.lines n first;
          within = omega arith;
          behind = omega arith;
          skips = λ m at below. absurd (omega arith);
          replies =
              ap (λ (t : List ℕ). t ++ reply_line e reply) own_passed.replies
              ∙ ap (λ (o : Outcome). replies_by layout p order a ++ reply_line e o) (sym replied)
              ∙ sym own_replies;
        }

    passed_other : (b : ℕ) (d : Did) → b ≢ a → slice_get (lanes_of s) b ≡ Some d → HasPassed layout p with_line b d
    passed_other b d ne is =
        let old = comes.each b d is in
        let part : slice_get (world_by layout p with_line).parts b ≡ slice_get so_far.parts b =
        ap (λ (v : World). slice_get v.parts b) world_with
        ∙ step_other the_plan so_far e b (λ h. ne (h ∙ event_is_own)) in record {
          upto = old.upto;
          lines = lines_with_other the_lines b old.upto n order (not_of b ne) old.lines;
          within = old.within;
          behind = old.behind;
          skips = λ m at below.
              due_by_part the_plan (world_by layout p with_line).parts so_far.parts the_lines b m part
              ∙ old.skips m at below;
          replies = old.replies ∙ sym (other_replies b ne);
        }

    pub comes_on : ComesTo layout p with_line t
    comes_on = record {
      world = subst (λ (v : World). IsWorldOf layout p t v) (sym world_with) after;
      each = λ b d is.
          let here : slice_get (slice_set (lanes_of s) a then_did) b ≡ Some d =
          sym (ap (λ (ls : List Did). slice_get ls b) lanes) ∙ is in elim (cases_eq b a) [
            | inl same ↦
                let mine : slice_get (slice_set (lanes_of s) a then_did) a ≡ Some d =
                sym (ap (slice_get (slice_set (lanes_of s) a then_did)) same) ∙ here in
                let one : then_did ≡ d =
                let z : Some then_did ≡ Some d = sym (get_set_same (lanes_of s) a lane then_did there) ∙ mine in cc in
                let P : ℕ → Did → Type 0 = λ c x. HasPassed layout p with_line c x in
                subst (λ (c : ℕ). P c d) (sym same) (subst (P a) one passed_own)
            | inr ne ↦ passed_other b d ne (sym (get_set_other (lanes_of s) a b then_did ne) ∙ here)
          ];
    }
