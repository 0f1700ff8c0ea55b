-- Steps of an owner one after the other, and the key under which it stores a value.
use Rattle.std.proofs.Common.{◌≡◌, ℕ, ◌+◌, ◌&&◌, true, cond, Option, Some, None, List, ◌++◌, append_assoc}
use Rattle.std.proofs.Common.{refl, ap, ◌∙◌, sym, subst, arith}
use Rattle.std.specs.Prelude.{nat_lt}
use Rattle.sh_history.specs.declared.log.LogEntry.{LogEntry}
use Rattle.sh_key.specs.Layout.{Layout}
use Rattle.sh_shape.specs.Shape.{Numbers}
use Rattle.sh_shape.specs.Places.{IsPlace}
use Rattle.sh_shape.specs.declared.places.Place.TheVariants.{State}
use Rattle.sh_slots.specs.declared.hand.Hand.{Hand}
use Rattle.sh_slots.specs.declared.hand.KeyRef.{KeyRef}
use Rattle.sh_slots.specs.declared.hand.SlotRef.{SlotRef}
use Rattle.sh_slots.specs.Slots.{published_name}
use Rattle.sh_step.specs.declared.action.Action.TheVariants as action
use Rattle.sh_step.specs.declared.action.PageName.{PageName}
use Rattle.sh_step.specs.declared.moves.Move.TheVariants as move
use Rattle.sh_step.specs.Moves.{place_named}
use Rattle.sh_step.specs.Plans.{Plan, plan_of, heap_pages, shard_of}
use Rattle.sh_step.proofs.Truths.{lt_true}
use Rattle.sh_pass.specs.Passes.{Caller}
use Rattle.sh_pass.specs.Owners.{MayTouch, OwnerDid, OwnerActs, Aside, OnPage, SamePages, SeenPage, IsKeyIn, IsKeyOn}
use Rattle.sh_pass.specs.Owners.{IsKeyOfSlot, heap_page, heap_slot}
use Rattle.sh_pass.proofs.OwnMay.{home_is}
use Rattle.sh_pass.proofs.SameTales.{later_same}

pub aside_then : {v w u : Caller} → Aside v w → Aside w u → Aside v u
aside_then a b = record {
  heap = b.heap ∙ a.heap;
  same = later_same a.same b.same;
  owned = b.owned
      ∙ a.owned;
  holds = b.holds ∙ a.holds;
}

pub acts_on : {h k : Hand} {es fs : List LogEntry} {n m : ℕ} {v w u : Caller} (l : ℕ) → OwnerActs h es n v w
    → OwnerActs k fs m w u → n + m ≡ l → OwnerActs k (es ++ fs) l v u
acts_on {es = es} {fs = fs} {v = v} l x y is = record {
  aside = aside_then x.aside y.aside;
  hand = y.hand;
  log = y.log ∙ (ap (λ (ls : List LogEntry). ls ++ fs) x.log ∙ append_assoc v.view.own.log es fs);
  steps = let a = x.steps in let b = y.steps in omega arith;
}

pub page_on : {q : ℕ} {g : SeenPage} {v w u : Caller} → OnPage q g v w → SamePages w u → OnPage q g v u
page_on {q = q} a s = record { here = s q ∙ a.here; others = λ r ne. s r ∙ a.others r ne }

-- what was published names its slot
pub issued : (layout : Layout) (shape : Numbers) (v w : Caller) (x : SlotRef) (value : List ℕ) (n : ℕ) (y : KeyRef)
    → OwnerDid layout action.Publish (move.Publish x value) n v w → shape ≡ v.view.shape → y ≡ published_name x n
    → (plan_of layout shape).keys.unpack ((plan_of layout shape).keys.pack y) ≡ Some y
issued layout shape v w x value n y d same is =
    let P : Numbers → KeyRef → Type 0 = λ s z.
    (plan_of layout s).keys.unpack ((plan_of layout s).keys.pack z) ≡ Some z in
    subst (λ s. P s y) (sym same) (subst (P v.view.shape) (sym is)
    ((d.fits refl).issues ((plan_of layout v.view.shape).keys.pack (published_name x n)) value x.page x.slot refl
    refl))

-- and its key names the slot
pub key_of_slot : (layout : Layout) (v u w : Caller) (x : PageName) (slot : ℕ) (value : List ℕ) (n : ℕ) (shape : Numbers)
    (k : ℕ) (y : KeyRef) → OwnerDid layout action.Publish (move.Publish (heap_slot v x slot) value) n u w
    → u.view.shape ≡ v.view.shape → shape ≡ u.view.shape
    → y ≡ published_name (heap_slot v x slot) n → k ≡ (plan_of layout shape).keys.pack y
    → IsKeyOfSlot (plan_of layout v.view.shape) (heap_slot v x slot) k
key_of_slot layout v u w x slot value n shape k y d before same is key =
    let plan : Plan = plan_of layout v.view.shape in
    let named : KeyRef = published_name (heap_slot v x slot) n in
    let told : plan.keys.unpack (plan.keys.pack named) ≡ Some named = issued layout v.view.shape u w
    (heap_slot v x slot) value n named d (sym before) refl in
    let one : k ≡ plan.keys.pack named = key ∙ (λ i. (plan_of layout ((same ∙ before) i)).keys.pack (is i)) in
    let place = subst (λ (s : Numbers). IsPlace s (State (heap_page v x) slot)) before (d.fits refl).place in
    let a : nat_lt (heap_page v x) (heap_pages plan) ≡ true = lt_true (heap_page v x) (heap_pages plan) place.0 in
    let b : nat_lt slot 48 ≡ true = lt_true slot 48 place.1 in (
      named,
      ap (place_named plan) one ∙ (ap (λ (o : Option KeyRef). elim o as (λ _. Option KeyRef)
          [ Some z ↦ cond (nat_lt z.page (heap_pages plan) && nat_lt z.slot 48) (Some z) None | None ↦ None ]) told
          ∙ rw (a, b) refl),
      refl,
    )

-- so it is a key of the page
pub key_on : (layout : Layout) (v : Caller) (x : PageName) (slot k : ℕ)
    → IsKeyOfSlot (plan_of layout v.view.shape) (heap_slot v x slot) k → IsKeyOn layout v (heap_page v x) k
key_on layout v x slot k h = (h.0, h.1, ap (λ (z : SlotRef). z.page) h.2)

-- and of the page's shard
pub key_in : (layout : Layout) (v : Caller) (x : PageName) (k : ℕ) → MayTouch v x
    → IsKeyOn layout v (heap_page v x) k → IsKeyIn layout v x.shard k
key_in layout v x k m on =
    let plan : Plan = plan_of layout v.view.shape in (
      on.0,
      on.1,
      ap (shard_of plan) on.2 ∙ home_is plan x.shard x.page m.page,
    )
