-- Single steps of a pass: when a condition fails, and what a step leaves.
use Rattle.std.proofs.Common.{◌≡◌, ◌≢◌, ℕ, ◌<◌, ◌≤◌, ◌==◌, ◌&&◌, Bool, true, false, List, length, Option, Some, None}
use Rattle.std.proofs.Common.{refl, ap, ◌∙◌, sym, subst, arith}
use Rattle.std.proofs.lemmas.Bool.{false≢true}
use Rattle.std.proofs.lemmas.Bool.Decides.{nat_tests}
use Rattle.std.specs.Prelude.{cond, nat_lt, option_and_then}
use Rattle.std.specs.Bool.{then_some}
use Rattle.atomic_table.specs.declared.shared.Seat.{Seat}
use Rattle.sh_key.specs.Layout.{Layout}
use Rattle.sh_shape.specs.Shape.{Numbers}
use Rattle.sh_slots.specs.declared.hand.Hand.{Hand}
use Rattle.sh_slots.specs.declared.hand.Hand.TheVariants.{Idle, Removing, Leaving, Finishing, ToPut, Tying, Ringing}
use Rattle.sh_slots.specs.declared.hand.Hand.TheVariants.{RingTying}
use Rattle.sh_slots.specs.declared.hand.KeyRef.{KeyRef}
use Rattle.sh_slots.specs.declared.hand.Sight.{Sight}
use Rattle.sh_slots.specs.declared.hand.SlotRef.{SlotRef}
use Rattle.sh_slots.specs.Slots.{same_slot}
use Rattle.sh_step.specs.declared.action.Action.{Action}
use Rattle.sh_step.specs.declared.action.Action.TheVariants as action
use Rattle.sh_step.specs.declared.action.SlotName.{SlotName}
use Rattle.sh_step.specs.declared.body.Body.{Body}
use Rattle.sh_step.specs.declared.moves.Move.{Move}
use Rattle.sh_step.specs.declared.moves.Move.TheVariants as move
use Rattle.sh_step.specs.Collections.{has}
use Rattle.sh_step.specs.Kinds.{kind_of_action}
use Rattle.sh_step.specs.Moves.{place_named, slot_named, named, move_of, row}
use Rattle.sh_step.specs.Plans.{Plan, plan_of}
use Rattle.sh_step.specs.Rows.{hand, idle, own}
use Rattle.sh_step.proofs.MoveLaws.{row_of_made}
use Rattle.sh_step.proofs.PartTests.{idle_is, owns_is}
use Rattle.sh_step.proofs.Truths.{and2, and3, lt_of}
use Rattle.sh_table.specs.declared.view.View.{View}
use Rattle.sh_table.specs.Seats.{Heap, Did}
use Rattle.sh_table.specs.Steps.{MayDo, row_by}
use Rattle.sh_table.specs.Views.{names}
use Rattle.sh_pass.specs.Busy.{Acts, IsBusy, is_by_hand}
use Rattle.sh_pass.specs.Passes.{HoldsKept}

-- ---- a condition that fails

-- if the condition fails, the option is empty, and so is one that depends on a name
none_unless : {A : Type 0} (b : Bool) (a : A) → (b ≡ true → ⊥) → then_some b a ≡ None
none_unless true a fails = absurd (fails refl)
none_unless false a fails = refl

none_behind : {A B : Type 0} (f : A → Option B) (o : Option A) → ((a : A) → f a ≡ None) → option_and_then f o ≡ None
none_behind f (Some a) none = none a
none_behind f None none = refl

full_is : (n : ℕ) → (n == 16) ≡ true → n ≡ 16
full_is n e = grind (arith, nat_tests)

full_not : (n : ℕ) → (n == 16) ≡ false → n ≢ 16
full_not n e = grind (arith, nat_tests)

pub few_left : (held hs : List ℕ) (r : Bool) → length held ≡ length hs → length hs ≤ 16 → r ≡ (length held == 16) → r
    ≡ false → length hs < 16
few_left held hs r count most is room = let some : length held ≢ 16 = full_not (length held) (sym is ∙ room)
    in grind arith

module _ (layout : Layout) (v : View) where
  abbrev body : Body
  body = v.own.body

  pub refused_row : (x : Action) → row (plan_of layout v.shape) body x ≡ None → Acts layout x v false v
  refused_row x none = (λ _. none, refl)

  refused : (x : Action) → move_of (plan_of layout v.shape) body x ≡ None → Acts layout x v false v
  refused x none = refused_row x (row_of_made (plan_of layout v.shape) body x None (sym none))

  pub not_leaving : (h : Hand) → body.hand ≡ h → ((x : SlotRef) → h ≡ Leaving x → ⊥) → Acts layout action.Drop v false v
  unfolding move_of
  not_leaving (Leaving x) is never = absurd (never x refl)
  not_leaving h is never = refused action.Drop (rw is refl)

  pub not_finishing : (h : Hand) → body.hand ≡ h → ((x : SlotRef) (g : ℕ) (s : Sight) → h ≡ Finishing x g s → ⊥)
      → Acts layout action.Finish v false v
  unfolding move_of
  not_finishing (Finishing x g s) is never = absurd (never x g s refl)
  not_finishing h is never = refused action.Finish (rw is refl)

  pub not_to_put : (h : Hand) → body.hand ≡ h → ((x : SlotRef) → h ≡ ToPut x → ⊥) → Acts layout action.Put v false v
  unfolding move_of
  not_to_put (ToPut x) is never = absurd (never x refl)
  not_to_put h is never = refused action.Put (rw is refl)

  pub not_tying : (h : Hand) → body.hand ≡ h → ((x : SlotRef) (l : ℕ) (r : Bool) → h ≡ Tying x l r → ⊥)
      → Acts layout action.Tie v false v
  unfolding move_of
  not_tying (Tying x l r) is never = absurd (never x l r refl)
  not_tying h is never = refused action.Tie (rw is refl)

  pub not_ringing : (h : Hand) → body.hand ≡ h → ((q : ℕ) → h ≡ Ringing q → ⊥) → Acts layout action.Ring v false v
  unfolding move_of
  not_ringing (Ringing q) is never = absurd (never q refl)
  not_ringing h is never = refused action.Ring (rw is refl)

  pub not_ring_tying : (h : Hand) → body.hand ≡ h → ((q l : ℕ) → h ≡ RingTying q l → ⊥)
      → Acts layout action.RingTie v false v
  unfolding move_of
  not_ring_tying (RingTying q l) is never = absurd (never q l refl)
  not_ring_tying h is never = refused action.RingTie (rw is refl)

  pub not_removing : (h : Hand) → body.hand ≡ h → ((k : ℕ) → h ≡ Removing k → ⊥) → Acts layout action.Mark v false v
  unfolding move_of
  not_removing (Removing k) is never = absurd (never k refl)
  not_removing h is never = refused action.Mark (rw is refl)

  -- an action on a key whose condition is an idle hand and one thing more
  unless : (x : Action) (k : ℕ) (more : Bool) (made : KeyRef → Move)
      → move_of (plan_of layout v.shape) body x ≡ named (plan_of layout v.shape) k
      (λ y. then_some (idle body && more) (made y))
      → (body.hand ≡ Idle → more ≡ true → ⊥) → Acts layout x v false v
  unless x k more made is fails = refused x (is ∙ none_behind (λ (y : KeyRef). then_some (idle body && more) (made y))
      (place_named (plan_of layout v.shape) k) (λ y. none_unless (idle body && more) (made y)
      (λ e. let d = and2 (idle body) more e in fails (idle_is body d.0) d.1)))

  pub not_idle_to_get : (k : ℕ) (h : Hand) → body.hand ≡ h → (h ≡ Idle → ⊥) → Acts layout (action.EnterGet k) v false v
  unfolding move_of
  not_idle_to_get k h is never = unless (action.EnterGet k) k (nat_lt (length body.holds) 16) (move.EnterGet k) refl
      (λ rests _. never (sym is ∙ rests))

  pub not_idle_to_remove : (k : ℕ) (h : Hand) → body.hand ≡ h → (h ≡ Idle → ⊥)
      → Acts layout (action.EnterRemove k) v false v
  unfolding move_of
  not_idle_to_remove k h is never = refused (action.EnterRemove k)
      (none_behind (λ (y : KeyRef). then_some (idle body) (move.EnterRemove k y))
      (place_named (plan_of layout v.shape) k)
      (λ y. none_unless (idle body) (move.EnterRemove k y) (λ e. never (sym is ∙ idle_is body e))))

  pub not_idle_to_drop : (k : ℕ) (h : Hand) → body.hand ≡ h → (h ≡ Idle → ⊥) → Acts layout (action.DropHold k) v false v
  unfolding move_of
  not_idle_to_drop k h is never = unless (action.DropHold k) k (has (λ j. j == k) body.holds) (move.DropHold k) refl
      (λ rests _. never (sym is ∙ rests))

  pub holds_full : (k : ℕ) (held : List ℕ) (r : Bool) → length held ≡ length body.holds → r ≡ (length held == 16) → r
      ≡ true → Acts layout (action.EnterGet k) v false v
  unfolding move_of
  holds_full k held r count is full =
      let all : length held ≡ 16 = full_is (length held) (sym is ∙ full) in
      unless (action.EnterGet k) k (nat_lt (length body.holds) 16) (move.EnterGet k) refl
      (λ _ few. let less = lt_of (length body.holds) 16 few in omega arith)

  pub not_held : (k : ℕ) → has (λ j. j == k) body.holds ≡ false → Acts layout (action.DropHold k) v false v
  unfolding move_of
  not_held k never = unless (action.DropHold k) k (has (λ j. j == k) body.holds) (move.DropHold k) refl
      (λ _ held. false≢true (sym never ∙ held))

  not_own_slot : (y : SlotName) → body.owned ≡ None → Acts layout (action.PutSlot y) v false v
  unfolding move_of
  not_own_slot y left =
      let plan : Plan = plan_of layout v.shape in
      let may : SlotRef → Bool = λ x. idle body && own plan body x.page && has (same_slot x) body.mine in
      refused (action.PutSlot y) (none_behind (λ (x : SlotRef). then_some (may x) (move.PutSlot x)) (slot_named plan y)
      (λ x. none_unless (may x) (move.PutSlot x) (λ e.
      let owns = owns_is plan body x.page (and3 (idle body) (own plan body x.page) (has (same_slot x) body.mine) e).1 in
      let z : ⊥ = cc in z)))

  -- no other action is of these kinds and has a condition that a pass without a shard meets
  pub no_other : (x : Action) → body.owned ≡ None
      → ((k : ℕ) → x ≡ action.EnterGet k → ⊥) → ((k : ℕ) → x ≡ action.EnterRemove k → ⊥) → (x ≡ action.Mark → ⊥)
      → (x ≡ action.Drop → ⊥) → ((k : ℕ) → x ≡ action.DropHold k → ⊥)
      → (x ≡ action.Finish → ⊥) → (x ≡ action.Put → ⊥) → (x ≡ action.Tie → ⊥) → (x ≡ action.Ring → ⊥)
      → (x ≡ action.RingTie → ⊥) → Acts layout x v false v
  no_other (action.EnterGet k) left a b c d e f g h i j = absurd (a k refl)
  no_other (action.EnterRemove k) left a b c d e f g h i j = absurd (b k refl)
  no_other action.Mark left a b c d e f g h i j = absurd (c refl)
  no_other action.Drop left a b c d e f g h i j = absurd (d refl)
  no_other (action.DropHold k) left a b c d e f g h i j = absurd (e k refl)
  no_other action.Finish left a b c d e f g h i j = absurd (f refl)
  no_other action.Put left a b c d e f g h i j = absurd (g refl)
  no_other action.Tie left a b c d e f g h i j = absurd (h refl)
  no_other action.Ring left a b c d e f g h i j = absurd (i refl)
  no_other action.RingTie left a b c d e f g h i j = absurd (j refl)
  no_other (action.PutSlot y) left a b c d e f g h i j = not_own_slot y left
  no_other _ left a b c d e f g h i j = (λ k. absurd (false≢true k), refl)

-- ---- what a step leaves

pub done : {layout : Layout} {heap : Heap} {n : ℕ} {t u : Seat (Unit {0}) View} (x : Action) (m : Move)
    → is_by_hand (kind_of_action x) ≡ true → MayDo layout t.me.0 x m → Did layout heap x m n t u
    → Acts layout x t.me.0 true u.me.0
done {n = n} x m by may d = (by, (m, n, may, d.view, d.fits))

-- if a step leaves this body, what is kept matches the body after it
pub busy_with : {layout : Layout} {heap : Heap} {n bits a : ℕ} {t u : Seat (Unit {0}) View} {held : List ℕ} {h : Hand}
    (x : Action) (m : Move) (held' : List ℕ) (h' : Hand) (b : Body) → IsBusy layout heap t held bits h a
    → Did layout heap x m n t u → (row_by layout t.me.0 m).part n ≡ b
    → b.hand ≡ h' → b.owned ≡ None → HoldsKept held' b.holds → IsBusy layout heap u held' bits h' a
busy_with {t = t} {u = u} x m held' h' b p d is begun left kept =
    let body : u.me.0.own.body ≡ b = ap (λ (v : View). v.own.body) d.view ∙ is in record {
      seat = d.seat;
      hand = ap (λ (q : Body). q.hand) body ∙ begun;
      left = ap (λ (q : Body). q.owned) body ∙ left;
      kept = subst (λ (q : Body). HoldsKept held' q.holds) (sym body) kept;
      tally = λ k. p.tally k ∙ sym (ap (λ (v : View). cond (names v k) 1 0) d.view);
      own_number = p.own_number ∙ sym (ap (λ (v : View). v.pass) d.view);
    }

-- a step that changes only the hand
pub busy_still : {layout : Layout} {heap : Heap} {n bits a : ℕ} {t u : Seat (Unit {0}) View} {held : List ℕ} {h : Hand}
    (x : Action) (m : Move) (h' : Hand) → IsBusy layout heap t held bits h a → Did layout heap x m n t u
    → (row_by layout t.me.0 m).part n ≡ hand t.me.0.own.body h' → IsBusy layout heap u held bits h' a
busy_still {t = t} {held = held} x m h' p d is = busy_with x m held h' (hand t.me.0.own.body h') p d is refl p.left
    p.kept

-- ---- keys, as the code computes them

pub named_here : (layout : Layout) (s r : Numbers) (k : ℕ) (o a : Option KeyRef) → s ≡ r → o
    ≡ place_named (plan_of layout s) k → o ≡ a → place_named (plan_of layout r) k ≡ a
named_here layout s r k o a same is test = ap (λ z. place_named (plan_of layout z) k) (sym same) ∙ (sym is ∙ test)
