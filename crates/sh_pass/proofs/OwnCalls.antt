-- What a call leaves of what an owner knows.
use Rattle.std.proofs.Common.{◌≡◌, ℕ, ◌+◌, ◌*◌, ◌/◌, ◌%◌, ◌<◌, ◌==◌, ◌&&◌, Bool, true, false, Option, Some}
use Rattle.std.proofs.Common.{None, List, ◌∷◌, refl, ap, ◌∙◌, sym, subst, arith, mod-lt}
use Rattle.std.proofs.lemmas.Bool.{false≢true}
use Rattle.sh_history.specs.declared.log.LogEntry.{LogEntry}
use Rattle.sh_key.specs.Layout.{Layout}
use Rattle.sh_shape.specs.Places.{pages_of, page_number}
use Rattle.sh_shape.specs.Shape.{Numbers}
use Rattle.sh_slots.specs.declared.hand.Hand.TheVariants.{Idle}
use Rattle.sh_slots.specs.declared.hand.SlotRef.{SlotRef}
use Rattle.sh_slots.specs.Slots.{same_slot}
use Rattle.sh_step.specs.declared.action.Action.{Action}
use Rattle.sh_step.specs.declared.action.Action.TheVariants as action
use Rattle.sh_step.specs.declared.action.PageName.{PageName}
use Rattle.sh_step.specs.declared.body.Body.{Body}
use Rattle.sh_step.specs.declared.footstep.Footstep.{Footstep}
use Rattle.sh_step.specs.Collections.{has, noted, without}
use Rattle.sh_step.specs.Footsteps.{takes_page, takes_bell, meets_page, meets_bell, arms_page, at_head, at_bell}
use Rattle.sh_step.specs.Footsteps.{at_link, at_belled, did_find}
use Rattle.sh_step.specs.Kinds.{kind_of_action}
use Rattle.sh_step.specs.Plans.{Plan, plan_of, shard_of, local}
use Rattle.sh_step.proofs.PartTests.{owns_is}
use Rattle.sh_step.proofs.ListLaws.{has_front, without_front}
use Rattle.sh_step.proofs.PageLaws.{shards_have_pages}
use Rattle.sh_table.specs.Tales.{OwnerIsValid, ViewIsValid}
use Rattle.sh_pass.specs.Growing.{Grows, SameTale, SameOwn, CallsAlone, IsOfShard, is_of_call, with_slot}
use Rattle.sh_pass.specs.Passes.{Caller}
use Rattle.sh_pass.specs.Owners.{CallLeaves, SlotCame, SameBells, SamePages, SeenPage, own_body, seen_page}
use Rattle.sh_pass.specs.Owners.{page_with}
use Rattle.sh_pass.proofs.OwnNotes.{one_more, one_more_else}
use Rattle.sh_pass.proofs.SameTales.{later_same}
use Rattle.sh_history.proofs.Standing.{eqb_self}

-- ---- no step of a call takes from a page or from a bell, follows or arms

of_takes : (x : Action) (b : Bool) → is_of_call (kind_of_action x) ≡ true
    → (elim x as (λ _. Bool) [ action.Take y ↦ b | action.Arm y ↦ b | _ ↦ false ]) ≡ false
of_takes (action.Take y) b e = absurd (false≢true e)
of_takes (action.Arm y) b e = absurd (false≢true e)
of_takes _ b e = refl

of_follow : (x : Action) (b : Bool) → is_of_call (kind_of_action x) ≡ true
    → (elim x as (λ _. Bool) [ action.Follow y ↦ b | _ ↦ false ]) ≡ false
of_follow (action.Follow y) b e = absurd (false≢true e)
of_follow _ b e = refl

of_take_bell : (x : Action) (b : Bool) → is_of_call (kind_of_action x) ≡ true
    → (elim x as (λ _. Bool) [ action.TakeBell ↦ b | _ ↦ false ]) ≡ false
of_take_bell action.TakeBell b e = absurd (false≢true e)
of_take_bell _ b e = refl

of_follow_bell : (x : Action) (b : Bool) → is_of_call (kind_of_action x) ≡ true
    → (elim x as (λ _. Bool) [ action.FollowBell ↦ b | _ ↦ false ]) ≡ false
of_follow_bell action.FollowBell b e = absurd (false≢true e)
of_follow_bell _ b e = refl

of_arm : (x : Action) → is_of_call (kind_of_action x) ≡ true →
    (elim x as (λ _. Bool) [ action.Arm y ↦ true | _ ↦ false ]) ≡ false
of_arm (action.Arm y) e = absurd (false≢true e)
of_arm _ e = refl

no_take : (q : ℕ) (t : Footstep) → is_of_call (kind_of_action (t.action)) ≡ true → takes_page q t ≡ false
no_take q t e = of_takes t.action (at_head q t.place) e

no_follow : (q : ℕ) (t : Footstep) → is_of_call (kind_of_action (t.action)) ≡ true → meets_page q t ≡ false
no_follow q t e = of_follow t.action (at_link q t.place && did_find 0 t) e

no_take_bell : (n : ℕ) (t : Footstep) → is_of_call (kind_of_action (t.action)) ≡ true → takes_bell n t ≡ false
no_take_bell n t e = of_take_bell t.action (at_bell n t.place) e

no_follow_bell : (plan : Plan) (n : ℕ) (t : Footstep) → is_of_call (kind_of_action (t.action)) ≡ true
    → meets_bell plan n t ≡ false
no_follow_bell plan n t e = of_follow_bell t.action (at_belled plan n t.place && did_find 0 t) e

no_arm : (t : Footstep) → is_of_call (kind_of_action (t.action)) ≡ true → arms_page t ≡ false
no_arm t e = of_arm t.action e

-- ---- what a call leaves

page_split : (pages q : ℕ) → 0 < pages → q ≡ q / pages * pages + q % pages
page_split pages q some = omega arith

local_lt : (plan : Plan) (q : ℕ) → 0 < plan.pages → local plan q < plan.pages
unfolding local
local_lt plan q some = mod-lt q some

page_is : (plan : Plan) (q : ℕ) → 0 < plan.pages → q ≡ shard_of plan q * plan.pages + local plan q
unfolding shard_of local
page_is plan q some = page_split plan.pages q some

module _ (layout : Layout) (v w : Caller) (same : SameTale v.view w.view) (alone : CallsAlone v.view w.view) where
  abbrev plan : Plan
  plan = plan_of layout v.view.shape

  bells_left : (own_body w).bell_cursor ≡ (own_body v).bell_cursor → SameBells layout v w
  bells_left cursor n i = record {
    cursor = cursor i;
    takes = alone (takes_bell n) (no_take_bell n) i;
    met = (ap (λ (s : Numbers). Rattle.sh_step.specs.Footsteps.bell_met (plan_of layout s) n w.view.own.trail)
        same.shape ∙ alone (meets_bell plan n) (no_follow_bell plan n)) i;
  }

  page_left : (q : ℕ) (g : SeenPage) → ((s : ℕ) → has (same_slot (record { page = q; slot = s })) (own_body w).mine
      ≡ g.mine s) → noted q (own_body w).cursors ≡ g.cursor → has (λ y. y == q) (own_body w).armed ≡ g.armed
      → noted q (own_body w).classes ≡ g.class
      → (seen_page v q).takes ≡ g.takes → (seen_page v q).met ≡ g.met → seen_page w q ≡ g
  page_left q g mine cursor armed class takes met i = record {
    mine = λ s. mine s i;
    cursor = cursor i;
    armed = armed i;
    class = class i;
    takes = (alone (takes_page q) (no_take q) ∙ takes) i;
    met = (alone (meets_page q) (no_follow q) ∙ met) i;
  }

  slot : (r : Option SlotRef) → SameOwn (with_slot (own_body v) r) (own_body w) → (own_body v).hand ≡ Idle
      → IsOfShard plan (own_body v) r → OwnerIsValid plan (own_body w) → SlotCame r v w
  slot None own idle shard_of stands = λ q. page_left q (seen_page v q)
      (λ s. ap (has (same_slot (record { page = q; slot = s }))) own.mine) (ap (noted q) own.cursors)
      (ap (has (λ y. y == q)) own.armed) (ap (noted q) own.classes) refl refl
  slot (Some x) own idle at stands =
      let p : Body = own_body v in
      let mine : (own_body w).mine ≡ x ∷ p.mine = own.mine in
      let here : same_slot x x ≡ true = rw (eqb_self x.page, eqb_self x.slot) refl in
      let m = stands.mine x (ap (has (same_slot x)) mine ∙ has_front (same_slot x) x p.mine here) in
      let before : has (same_slot x) p.mine ≡ false =
      ap (has (same_slot x)) (sym (without_front (same_slot x) x p.mine here))
      ∙ (ap (λ ys. has (same_slot x) (without (same_slot x) ys)) (sym mine) ∙ stands.mine_once x) in
      let some : 0 < plan.pages = shards_have_pages plan.shards plan.pages x.page m.1 in
      let y : PageName = record { shard = shard_of plan x.page; page = local plan x.page } in (
        y,
        record { idle = idle; owned = owns_is plan p x.page at; page = local_lt plan x.page some },
        page_is plan x.page some,
        m.2,
        before,
        record {
          here = page_left x.page (page_with (seen_page v x.page) x.slot)
              (λ s. ap (has (same_slot (record { page = x.page; slot = s }))) mine ∙ one_more x.page x.slot s p.mine)
              (ap (noted x.page) own.cursors) (ap (has (λ z. z == x.page)) own.armed) (ap (noted x.page) own.classes)
              refl refl;
          others = λ q ne. page_left q (seen_page v q) (λ s. ap (has (same_slot (record { page = q; slot = s }))) mine
              ∙ one_more_else x.page q x.slot s p.mine ne) (ap (noted q) own.cursors) (ap (has (λ z. z == q)) own.armed)
              (ap (noted q) own.classes) refl refl;
        },
      )

  pub leaves : (r : Option SlotRef) → SameOwn (with_slot (own_body v) r) (own_body w) → (own_body v).hand ≡ Idle
      → (own_body w).hand ≡ Idle → IsOfShard plan (own_body v) r → ViewIsValid layout w.view → CallLeaves layout r v w
  leaves r own idle over at stands = record {
    idle = over;
    same = same;
    owned = own.owned;
    bells = bells_left own.bell;
    arm = alone arms_page no_arm;
    alone = alone;
    slot = slot r own idle at (subst (λ (s : Numbers). OwnerIsValid (plan_of layout s) (own_body w)) same.shape
        stands.owner);
  }

-- steps that left this body
pub leaves_grown : {b : Body} {es : List LogEntry} {most : ℕ} (layout : Layout) (v w : Caller) (r : Option SlotRef)
    → Grows b es most v.view w.view → SameOwn (with_slot (own_body v) r) b → b.hand ≡ Idle → (own_body v).hand ≡ Idle
    → IsOfShard (plan_of layout v.view.shape) (own_body v) r → ViewIsValid layout w.view → CallLeaves layout r v w
leaves_grown layout v w r g own over idle at stands = leaves layout v w g.same g.calls r
    (subst (SameOwn (with_slot (own_body v) r)) (sym g.body) own) idle (ap (λ (p : Body). p.hand) g.body ∙ over) at
    stands

-- ---- one call after another, the first of which frees no slot

slot_then : (u v w : Caller) (r : Option SlotRef) → (own_body u).hand ≡ Idle → SameTale u.view v.view
    → (own_body v).owned ≡ (own_body u).owned → SamePages u v → SlotCame r v w → SlotCame r u w
slot_then u v w None idle same owned pages came = λ q. came q ∙ pages q
slot_then u v w (Some x) idle same owned pages (y, may, page, inside, before, on) = (
  y,
  record {
    idle = idle;
    owned = sym owned ∙ may.owned;
    page = subst (λ (s : Numbers). y.page < pages_of s) same.shape may.page;
  },
  page ∙ ap (λ (s : Numbers). page_number s y.shard y.page) same.shape,
  inside,
  ap (λ (g : SeenPage). g.mine x.slot) (sym (pages x.page)) ∙ before,
  record {
    here = on.here ∙ ap (λ (g : SeenPage). page_with g x.slot) (pages x.page);
    others = λ q ne. on.others q ne ∙ pages q;
  },
)

pub leaves_then : (layout : Layout) (u v w : Caller) (r : Option SlotRef) → (own_body u).hand ≡ Idle
    → CallLeaves layout None u v → CallLeaves layout r v w → CallLeaves layout r u w
leaves_then layout u v w r idle a b = record {
  idle = b.idle;
  same = later_same a.same b.same;
  owned = b.owned ∙ a.owned;
  bells = λ n. b.bells n ∙ a.bells n;
  arm = b.arm ∙ a.arm;
  alone = λ is_such never. b.alone is_such never ∙ a.alone is_such never;
  slot = slot_then u v w r idle a.same a.owned a.slot b.slot;
}
