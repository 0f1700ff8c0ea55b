-- What an owner's steps on no page and no bell leave of what it knows: those of a value in its hand, and those that
-- adopt a shard or give one up.
use Rattle.std.proofs.Common.{◌≡◌, ℕ, zero, suc, ◌+◌, ◌≤◌, append-nil, ◌==◌, Bool, false, cond, Some, None, List, []}
use Rattle.std.proofs.Common.{◌∷◌, length, refl, ap, ◌∙◌, arith, ne_eqb}
use Rattle.std.proofs.lemmas.List.{length-append}
use Rattle.std.proofs.lemmas.Bool.{and_from}
use Rattle.sh_history.specs.declared.entry.Entry.TheVariants as entry
use Rattle.sh_history.specs.declared.log.LogEntry.TheVariants.{Known}
use Rattle.sh_key.specs.Layout.{Layout}
use Rattle.sh_slots.specs.declared.hand.Hand.TheVariants.{Idle, Filling, Ringing}
use Rattle.sh_slots.specs.declared.hand.SlotRef.{SlotRef}
use Rattle.sh_step.specs.declared.action.Action.{Action}
use Rattle.sh_step.specs.declared.action.Action.TheVariants as action
use Rattle.sh_step.specs.declared.body.Body.{Body}
use Rattle.sh_step.specs.declared.moves.Move.{Move}
use Rattle.sh_step.specs.declared.moves.Move.TheVariants as move
use Rattle.sh_step.specs.Collections.{has, noted}
use Rattle.sh_step.specs.Footsteps.{takes_page, meets_page, meets_owner, puts_slot, arms_page, owner_met, footstep_of}
use Rattle.sh_table.specs.declared.view.View.{View}
use Rattle.sh_table.specs.Steps.{row_by}
use Rattle.sh_table.specs.Views.{key_read, logged_of}
use Rattle.sh_pass.specs.Passes.{Caller}
use Rattle.sh_pass.specs.Owners.{OwnerDid, OwnerActs, SamePages, SameBells, NonePut, NoneArmed, OwnerTries, OwnerAdopts}
use Rattle.sh_pass.specs.Owners.{Left, own_body, seen_page, published}
use Rattle.sh_pass.proofs.OwnSteps.{body_is, still, more, same_tale, log_is, acts, bells_same, page_after, pages_same}
use Rattle.sh_history.proofs.Standing.{eqb_self}

module _ (layout : Layout) (v w : Caller) where
  pub fill_does : (x : SlotRef) (value : List ℕ) (i class_word : ℕ) → OwnerDid layout action.Fill
      (move.Fill x value i class_word) 0 v w → OwnerActs (Filling x value (i + 1)) [] 1 v w × SameBells layout v w
      × SamePages v w × NonePut v w
  fill_does x value i class_word d =
      let p : Body = own_body v in
      let m : Move = move.Fill x value i class_word in
      let b : Body = record p { hand = Filling x value (i + 1) } in (
        acts layout action.Fill m 0 v w d b refl (Filling x value (i + 1)) [] refl refl refl refl refl,
        bells_same layout action.Fill m 0 v w d b refl refl (λ k. refl) (λ k. refl),
        pages_same layout action.Fill m 0 v w d b refl refl refl refl refl (λ r. refl) (λ r. refl),
        still layout action.Fill m 0 v w d b refl puts_slot refl,
      )

  pub publish_does : (x : SlotRef) (value : List ℕ) (n : ℕ)
      → OwnerDid layout action.Publish (move.Publish x value) n v w
      → OwnerActs Idle (Known (entry.Insert v.view.pass (published layout v x n) value) ∷ []) 1 v w
      × SameBells layout v w × SamePages v w × NonePut v w
  publish_does x value n d =
      let p : Body = own_body v in
      let m : Move = move.Publish x value in
      let b : Body = record p { hand = Idle } in (
        acts layout action.Publish m n v w d b refl Idle _ refl refl refl refl refl,
        bells_same layout action.Publish m n v w d b refl refl (λ k. refl) (λ k. refl),
        pages_same layout action.Publish m n v w d b refl refl refl refl refl (λ r. refl) (λ r. refl),
        still layout action.Publish m n v w d b refl puts_slot refl,
      )

  pub tie_does : (x : SlotRef) (l : ℕ) (ring : Bool) → OwnerDid layout action.Tie (move.Tie x l ring) 0 v w
      → OwnerActs (cond ring (Ringing x.page) Idle) [] 1 v w × SameBells layout v w × SamePages v w × NonePut v w
  tie_does x l ring d =
      let p : Body = own_body v in
      let m : Move = move.Tie x l ring in
      let b : Body = record p { hand = cond ring (Ringing x.page) Idle } in (
        acts layout action.Tie m 0 v w d b refl (cond ring (Ringing x.page) Idle) [] refl refl refl refl refl,
        bells_same layout action.Tie m 0 v w d b refl refl (λ k. refl) (λ k. refl),
        pages_same layout action.Tie m 0 v w d b refl refl refl refl refl (λ r. refl) (λ r. refl),
        still layout action.Tie m 0 v w d b refl puts_slot refl,
      )

  -- a step that adopts a shard, or gives one up
  tries : (a : Action) (m : Move) (n : ℕ) (d : OwnerDid layout a m n v w) (b : Body) → (row_by layout v.view m).part n
      ≡ b → b.holds ≡ (own_body v).holds → b.hand ≡ Idle → key_read a ≡ None
      → logged_of v.view.pass ((row_by layout v.view m).reply n) ≡ [] → OwnerTries v w
  tries a m n d b is holds idle none silent = record {
    heap = d.heap;
    same = same_tale layout a m n v w d b is;
    hand = ap (λ (p : Body). p.hand) (body_is layout a m n v w d b is) ∙ idle;
    holds = ap (λ (p : Body). p.holds) (body_is layout a m n v w d b is) ∙ holds;
    log = log_is layout a m n v w d b is [] none silent ∙ append-nil v.view.own.log;
    steps = ap (λ (u : View). length u.own.trail) d.view ∙ length-append v.view.own.trail _;
  }

  pub adopt_does : (k n : ℕ) → n ≤ 1 → (own_body v).hand ≡ Idle → (own_body v).owned ≡ None
      → OwnerDid layout (action.Adopt k) (move.Adopt k) n v w → OwnerTries v w × OwnerAdopts layout k n v w
      × NonePut v w × NoneArmed v w
  unfolding has noted
  adopt_does k zero few idle left d =
      let p : Body = own_body v in
      let a : Action = action.Adopt k in
      let m : Move = move.Adopt k in
      let b : Body = record p { owned = Some k; classes = []; mine = []; cursors = []; armed = []; bell_cursor = None }
      in
      let is = body_is layout a m 0 v w d b refl in (
        tries a m 0 d b refl refl idle refl refl,
        record {
          found = record {
            step = footstep_of a (row_by layout v.view m) 0;
            more = [];
            is = ap (λ (u : View). u.own.trail) d.view;
            free = and_from (k == k) (0 == 0) (eqb_self k) refl;
          };
          owned = ap (λ (c : Body). c.owned) is;
          bell = ap (λ (c : Body). c.bell_cursor) is;
          pages = λ r. page_after layout a m 0 v w d b refl r (record (seen_page v r)
              { mine = λ s. false; cursor = None; armed = false; class = None }) (λ s. refl) refl refl refl
              (still layout a m 0 v w d b refl (takes_page r) refl)
              (still layout a m 0 v w d b refl (meets_page r) refl);
        },
        still layout a m 0 v w d b refl puts_slot refl,
        still layout a m 0 v w d b refl arms_page refl,
      )
  adopt_does k (suc j) few idle left d =
      let p : Body = own_body v in
      let a : Action = action.Adopt k in
      let m : Move = move.Adopt k in
      let n : ℕ = suc j in
      let one : n ≡ 1 = omega arith in
      let is : (row_by layout v.view m).part n ≡ p = ap (λ c. cond c
      (record p { owned = Some k; classes = []; mine = []; cursors = []; armed = []; bell_cursor = None }) p)
      (ne_eqb n 0 (λ e. omega arith)) in
      let met = more layout a m n v w d p is (meets_owner k)
      (and_from (k == k) (n == 1) (eqb_self k) (ap (λ z. z == 1) one)) in (
        tries a m n d p is refl idle refl refl,
        (
          ap (λ (c : Body). c.owned) (body_is layout a m n v w d p is) ∙ left,
          pages_same layout a m n v w d p is refl refl refl refl (λ r. refl) (λ r. refl),
          (let e : owner_met k w.view.own.trail ≡ suc (owner_met k v.view.own.trail) = omega arith in e),
        ),
        still layout a m n v w d p is puts_slot refl,
        still layout a m n v w d p is arms_page refl,
      )

  pub leave_does : (k : ℕ) → (own_body v).hand ≡ Idle → OwnerDid layout action.Leave (move.Leave k) 0 v w → Left v w
  leave_does k idle d =
      let p : Body = own_body v in
      let m : Move = move.Leave k in
      let b : Body = record p { owned = None } in
      let t = tries action.Leave m 0 d b refl refl idle refl refl in record {
        owned = ap (λ (c : Body). c.owned) (body_is layout action.Leave m 0 v w d b refl);
        heap = t.heap;
        same = t.same;
        hand = t.hand;
        holds = t.holds;
        log = t.log;
        steps = t.steps;
      }
