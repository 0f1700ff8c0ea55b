-- What is kept of each slot, over a step on one state word.
use Rattle.std.proofs.Common.{◌≡◌, ℕ, ◌+◌, ◌≤◌, Bool, true, false, cond, List, set, refl, ap, arith, Option, Some, None}
use Rattle.std.proofs.Common.{slice_get}
use Rattle.std.proofs.lemmas.Bool.Decides.{nat_tests}
use Rattle.sh_slots.specs.declared.hand.SlotRef.{SlotRef}
use Rattle.sh_core.specs.Words.{Words, write}
use Rattle.sh_shape.specs.declared.places.Place.TheVariants.{State}
use Rattle.sh_word.specs.Fields.{Fields, fields_of}
use Rattle.sh_step.specs.Plans.{Plan}
use Rattle.sh_slots.specs.Slots.{same_slot}
use Rattle.sh_step.specs.Collections.{total, if1}
use Rattle.sh_step.specs.declared.body.Body.{Body}
use Rattle.sh_core.specs.Lists.{PutLists, mine_at, in_hand}
use Rattle.sh_core.specs.Tallies.{AddsUp, Tally, tally, due, held, visits, lost, finishing, room, queued, SlotsAddUp}
use Rattle.sh_core.specs.Tallies.{at_slot, current, stale}
use Rattle.sh_slots.specs.declared.hand.Hand.{Hand}
use Rattle.sh_slots.specs.declared.hand.Hand.TheVariants.{Removing}
use Rattle.sh_slots.specs.declared.hand.KeyRef.{KeyRef}
use Rattle.sh_step.specs.Rows.{hand}
use Rattle.std.specs.Prelude.{not}
use Rattle.sh_core.proofs.Sums.Totals.{total_same, total_set, total_le, total_plus}
use Rattle.sh_core.proofs.Sums.Writes.{put2_same, put2_other}

pub tally_same : (plan : Plan) (x : SlotRef) (st : Fields) (ps : List Body) (a : ℕ) (p p' : Body)
    → slice_get ps a ≡ Some p
    → due plan x st p' ≡ due plan x st p → tally plan x st (set ps a p') ≡ tally plan x st ps
tally_same plan x st ps a p p' at e = λ i. record {
  mine = total_same (mine_at x) ps a p p' at (ap (λ d. d.mine) e) i;
  hand = total_same (in_hand x) ps a p p' at (ap (λ d. d.hand) e) i;
  held = total_same (held plan x) ps a p p' at (ap (λ d. d.held) e) i;
  visits = total_same (visits plan x) ps a p p' at (ap (λ d. d.visits) e) i;
  lost = total_same (lost plan x st) ps a p p' at (ap (λ d. d.lost) e) i;
  finishing = total_same (finishing x st.generation) ps a p p' at (ap (λ d. d.finishing) e) i;
}

pub tally_ext : (t u : Tally) → t.mine ≡ u.mine → t.hand ≡ u.hand → t.held ≡ u.held → t.visits ≡ u.visits → t.lost
    ≡ u.lost → t.finishing ≡ u.finishing → t ≡ u
tally_ext t u a b c d e f = λ i. record {
  mine = a i;
  hand = b i;
  held = c i;
  visits = d i;
  lost = e i;
  finishing = f i;
}

-- the sums before and after a change of one pass
pub record SumsChange (t t' d d' : Tally) : Type 0 where
  pub mine : t'.mine + d.mine ≡ t.mine + d'.mine
  pub hand : t'.hand + d.hand ≡ t.hand + d'.hand
  pub held : t'.held + d.held ≡ t.held + d'.held
  pub visits : t'.visits + d.visits ≡ t.visits + d'.visits
  pub lost : t'.lost + d.lost ≡ t.lost + d'.lost
  pub finishing : t'.finishing + d.finishing ≡ t.finishing + d'.finishing

pub tally_set : (plan : Plan) (x : SlotRef) (st : Fields) (ps : List Body) (a : ℕ) (p p' : Body)
    → slice_get ps a ≡ Some p
    → SumsChange (tally plan x st ps) (tally plan x st (set ps a p')) (due plan x st p) (due plan x st p')
tally_set plan x st ps a p p' at = record {
  mine = total_set (mine_at x) ps a p p' at;
  hand = total_set (in_hand x) ps a p p' at;
  held = total_set (held plan x) ps a p p' at;
  visits = total_set (visits plan x) ps a p p' at;
  lost = total_set (lost plan x st) ps a p p' at;
  finishing = total_set (finishing x st.generation) ps a p p' at;
}

pub same_slot-true : (x y : SlotRef) → same_slot y x ≡ true → y ≡ x
same_slot-true x y h =
    let p : y.page ≡ x.page = grind (arith, nat_tests) in
    let s : y.slot ≡ x.slot = grind (arith, nat_tests) in
    λ i. record { page = p i; slot = s i }

pub same_slot-refl : (x : SlotRef) → same_slot x x ≡ true
same_slot-refl x = grind (arith, nat_tests)

pub if1_same_slot : (x : SlotRef) → if1 (same_slot x x) ≡ 1
if1_same_slot x = rw (same_slot-refl x) refl

stale_le : (st : Fields) (x : SlotRef) (o : Option KeyRef) → stale st x o ≤ if1 (at_slot x o)
stale_le st x o = one (at_slot x o) (current st o) where
  one : (b c : Bool) → cond b (if1 (not c)) 0 ≤ if1 b
  one true true = omega arith
  one true false = omega arith
  one false c = omega arith

stale_most : (st st' : Fields) (x : SlotRef) → st.present ≡ false → (o : Option KeyRef) → stale st' x o ≤ stale st x o
stale_most st st' x e None = omega arith
stale_most st st' x e (Some n) = rw e (one (at_slot x (Some n)) (current st' (Some n))) where
  one : (b c : Bool) → cond b (if1 (not c)) 0 ≤ cond b 1 0
  one true true = omega arith
  one true false = omega arith
  one false c = omega arith

lost_le1 : (plan : Plan) (x : SlotRef) (st : Fields) (p : Body) (h : Hand)
    → lost plan x st (hand p h) ≤ held plan x (hand p h) + visits plan x (hand p h)
lost_le1 plan x st p (Removing k) = let t = total_le (λ k. stale st x (plan.keys.unpack k))
    (λ k. if1 (at_slot x (plan.keys.unpack k))) (λ k. stale_le st x (plan.keys.unpack k)) p.holds
    in omega (arith, stale_le st x (plan.keys.unpack k))
lost_le1 plan x st p _ = let t = total_le (λ k. stale st x (plan.keys.unpack k))
    (λ k. if1 (at_slot x (plan.keys.unpack k))) (λ k. stale_le st x (plan.keys.unpack k)) p.holds in omega arith

lost_most1 : (plan : Plan) (x : SlotRef) (st st' : Fields) → st.present ≡ false → (p : Body) (h : Hand)
    → lost plan x st' (hand p h) ≤ lost plan x st (hand p h)
lost_most1 plan x st st' e p (Removing k) = let t = total_le (λ k. stale st' x (plan.keys.unpack k))
    (λ k. stale st x (plan.keys.unpack k)) (λ k. stale_most st st' x e (plan.keys.unpack k)) p.holds
    in omega (arith, stale_most st st' x e (plan.keys.unpack k))
lost_most1 plan x st st' e p _ = let t = total_le (λ k. stale st' x (plan.keys.unpack k))
    (λ k. stale st x (plan.keys.unpack k)) (λ k. stale_most st st' x e (plan.keys.unpack k)) p.holds in omega arith

-- nothing is lost on a slot that no hold and no visit names
pub lost_le : (plan : Plan) (x : SlotRef) (st : Fields) (ps : List Body)
    → (tally plan x st ps).lost ≤ (tally plan x st ps).held + (tally plan x st ps).visits
lost_le plan x st ps =
    let t : total (lost plan x st) ps ≤ total (λ p. held plan x p + visits plan x p) ps = total_le (lost plan x st)
    (λ p. held plan x p + visits plan x p) (λ p. lost_le1 plan x st p (p.hand)) ps
    in omega (arith, total_plus (held plan x) (visits plan x) ps)

-- if the slot has no value, each hold on it is lost
pub lost_most : (plan : Plan) (x : SlotRef) (st st' : Fields) (ps : List Body) → st.present ≡ false
    → (tally plan x st' ps).lost ≤ (tally plan x st ps).lost
lost_most plan x st st' ps e = total_le (lost plan x st') (lost plan x st) (λ p. lost_most1 plan x st st' e p (p.hand))
    ps

-- A step on the state word of x, by the pass a. What is kept for x is owed. Each other slot is to p' what it was to p
pub slots_state : (plan : Plan) (w : Words) (ps : List Body) (l : PutLists) (a : ℕ) (p p' : Body) (x : SlotRef) (n : ℕ)
    → SlotsAddUp plan w ps l → slice_get ps a ≡ Some p
    → ((y : SlotRef) (st : Fields) → same_slot y x ≡ false → due plan y st p' ≡ due plan y st p)
    → AddsUp (room w x) (queued l x) (fields_of n) (tally plan x (fields_of n) (set ps a p'))
    → SlotsAddUp plan (write w (State x.page x.slot) n) (set ps a p') l
slots_state plan w ps l a p p' x n old at others this y = go (same_slot y x) refl where
  written : Words
  written = write w (State x.page x.slot) n

  go : (b : Bool) → same_slot y x ≡ b → AddsUp (room written y) (queued l y)
      (fields_of (written.state_at y.page y.slot))
      (tally plan y (fields_of (written.state_at y.page y.slot)) (set ps a p'))
  go true h = let e : y ≡ x = same_slot-true x y h in rw (e, put2_same w.state_at x.page x.slot n) this
  go false h = rw (
    put2_other w.state_at x.page x.slot n y.page y.slot h,
    tally_same plan y
        (fields_of (w.state_at y.page y.slot)) ps a p p' at (others y (fields_of (w.state_at y.page y.slot)) h),
  ) (old y)

-- a step that leaves the state words and the classes
pub slots_part : (plan : Plan) (w : Words) (ps : List Body) (l l' : PutLists) (a : ℕ) (p p' : Body) (x : SlotRef)
    → SlotsAddUp plan w ps l → slice_get ps a ≡ Some p
    → ((y : SlotRef) (st : Fields) → same_slot y x ≡ false → due plan y st p' ≡ due plan y st p)
    → ((y : SlotRef) → same_slot y x ≡ false → queued l' y ≡ queued l y)
    → AddsUp (room w x) (queued l' x) (fields_of (w.state_at x.page x.slot))
    (tally plan x (fields_of (w.state_at x.page x.slot)) (set ps a p'))
    → SlotsAddUp plan w (set ps a p') l'
slots_part plan w ps l l' a p p' x old at others lists this y = go (same_slot y x) refl where
  go : (b : Bool) → same_slot y x ≡ b → AddsUp (room w y) (queued l' y) (fields_of (w.state_at y.page y.slot))
      (tally plan y (fields_of (w.state_at y.page y.slot)) (set ps a p'))
  go true h = let e : y ≡ x = same_slot-true x y h in rw e this
  go false h = rw (
    lists y h,
    tally_same plan y (fields_of (w.state_at y.page y.slot)) ps a p p' at
        (others y (fields_of (w.state_at y.page y.slot)) h),
  ) (old y)
