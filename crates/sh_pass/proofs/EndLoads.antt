-- The loads before an end, the Finish that follows, and what is said of it.
use Rattle.std.proofs.Common.{◌≡◌, ◌≢◌, ℕ, ◌+◌, ◌*◌, ◌<◌, ◌≤◌, ◌==◌, ◌&&◌, true, false, cond, List, [], ◌∷◌, ◌++◌, Bool}
use Rattle.std.proofs.Common.{Option, Some, None, refl, ap, ◌∙◌, sym, subst, arith, append-nil, eqb-true, eq-eqb}
use Rattle.std.specs.Prelude.{not}
use Rattle.atomic_table.specs.declared.shared.Seat.{Seat}
use Rattle.sh_key.specs.Layout.{Layout, IsInRange}
use Rattle.sh_word.specs.Fields.{fields_of}
use Rattle.sh_shape.specs.Places.{all_pages, pages_of}
use Rattle.sh_shape.specs.Shape.{Numbers, segment_pages}
use Rattle.sh_slots.specs.declared.hand.Hand.TheVariants.{Finishing, Idle}
use Rattle.sh_slots.specs.declared.hand.Sight.{Sight}
use Rattle.sh_slots.specs.declared.hand.Sight.TheVariants.{Bare}
use Rattle.sh_slots.specs.declared.hand.SlotRef.{SlotRef}
use Rattle.sh_slots.specs.Slots.{name_at, marked_word, sight_with, after_drop, is_reusable_after}
use Rattle.sh_step.specs.declared.action.Action.TheVariants as action
use Rattle.sh_step.specs.declared.body.Body.{Body}
use Rattle.sh_step.specs.declared.moves.Move.TheVariants as move
use Rattle.sh_step.specs.Moves.{place_named}
use Rattle.sh_step.specs.Plans.{Plan, keys_of, parts_of, plan_of}
use Rattle.sh_step.specs.Rows.{hand, finish, is_read}
use Rattle.sh_step.proofs.KeyLaws.{parts_in_range}
use Rattle.sh_step.proofs.LookupLaws.{place_is}
use Rattle.sh_table.specs.declared.view.View.{View}
use Rattle.sh_table.specs.Ended.{EndsJust}
use Rattle.sh_table.specs.Seats.{Heap, Did, CanDo, IsSeat}
use Rattle.sh_table.specs.Tales.{ViewIsValid}
use Rattle.sh_pass.specs.Growing.{Grows, with_slot}
use Rattle.sh_pass.specs.Peeks.{IsKeyNamed}
use Rattle.sh_pass.specs.Telling.{FinishTells, IsEnding, StepsTell}
use Rattle.sh_pass.proofs.EndsTold.{ends_now, ends_step, finish_ends, has_ended, none_then}
use Rattle.sh_pass.proofs.GrowthLaws.{grew, grows_as, grows_on}
use Rattle.sh_pass.proofs.MayLaws.{may_finish, may_read_ending}
use Rattle.sh_pass.proofs.SameTales.{same_now}

-- the slot whose generation a pass is to end is one of the heap
pub ending_place : {layout : Layout} {heap : Heap} {t : Seat (Unit {0}) View} (x : SlotRef) (g : ℕ) (s : Sight)
    → IsSeat layout heap t → t.me.0.own.body.hand ≡ Finishing x g s → (x.page < all_pages t.me.0.shape) × (x.slot < 48)
ending_place {layout} {t = t} x g s seat is = seat.stands.part.places action.Finish
    (finish (plan_of layout t.me.0.shape) t.me.0.own.body x g) (may_finish _ t.me.0.own.body x g s is)

pub ending_begins : {v : View} (layout : Layout) (x : SlotRef) (g : ℕ) → v.own.body.hand ≡ Finishing x g Bare
    → IsEnding layout x g Bare 0 v v
ending_begins {v} layout x g is = record {
  grows = record {
    same = same_now v;
    body = λ i. hand v.own.body (is i);
    log = sym (append-nil v.own.log);
    steps = [];
    trail = sym (append-nil v.own.trail);
    few = omega arith;
    calls = λ _ _. refl;
  };
  none = ends_now layout v;
}

module _ {layout : Layout} {heap : Heap} {v : View} {t : Seat (Unit {0}) View} (x : SlotRef) (g : ℕ) (s : Sight) (i : ℕ)
    (seat : IsSeat layout heap t) (r : IsEnding layout x g s i v t.me.0) where
  in_hand : t.me.0.own.body.hand ≡ Finishing x g s
  in_hand = ap (λ (p : Body). p.hand) r.grows.body

  pub can_read_ending : is_read (name_at x g) s ≡ false → CanDo layout heap action.ReadEnding (move.ReadEnding x g s) t
  can_read_ending more = record { seat = seat; may = may_read_ending _ t.me.0.own.body x g s in_hand more }

  pub can_finish : CanDo layout heap action.Finish (move.Finish x g) t
  can_finish = record { seat = seat; may = may_finish _ t.me.0.own.body x g s in_hand }

  pub reads_on : {u : Seat (Unit {0}) View} (n : ℕ) → Did layout heap action.ReadEnding (move.ReadEnding x g s) n t u
      → IsEnding layout x g (sight_with s n) (i + 1) v u.me.0
  reads_on n d = record {
    grows = grows_on (i + 1) (hand v.own.body (Finishing x g (sight_with s n))) r.grows
        (grows_as (hand v.own.body (Finishing x g (sight_with s n))) []
        (ap (λ (p : Body). hand p (Finishing x g (sight_with s n))) r.grows.body) refl
        (grew action.ReadEnding (move.ReadEnding x g s) d refl refl)) (omega arith);
    none = none_then r.none (ends_step action.ReadEnding (move.ReadEnding x g s) seat d);
  }

  -- the Finish
  pub finish_grew : {u : Seat (Unit {0}) View} (n most : ℕ) → i + 1 ≤ most
      → Did layout heap action.Finish (move.Finish x g) n t u
      → Grows ((finish (plan_of layout v.shape) v.own.body x g).part n) [] most v u.me.0
  finish_grew n most few d =
      grows_on most ((finish (plan_of layout v.shape) v.own.body x g).part n) r.grows
      (grows_as ((finish (plan_of layout v.shape) v.own.body x g).part n) []
      (λ j. (finish (plan_of layout (r.grows.same.shape j)) (r.grows.body j) x g).part n) refl
      (grew action.Finish (move.Finish x g) d refl refl)) (omega arith)

  pub finish_just : {u : Seat (Unit {0}) View} (n : ℕ) → Did layout heap action.Finish (move.Finish x g) n t u
      → EndsJust layout (cond (n == marked_word g) (record { name = name_at x g; sight = s } ∷ []) []) v u.me.0
  finish_just n d = none_then r.none (finish_ends x g s seat in_hand d)

-- ---- the word that the Finish found

pub is_marked : (n m g : ℕ) → m ≡ marked_word g → n ≡ m → (n == marked_word g) ≡ true
is_marked n m g is found = eq-eqb n (marked_word g) (found ∙ is)

pub not_marked : (n m g : ℕ) → m ≡ marked_word g → n ≢ m → (n == marked_word g) ≡ false
not_marked n m g is other = go (n == marked_word g) refl where
  go : (b : Bool) → (n == marked_word g) ≡ b → (n == marked_word g) ≡ false
  go true e = absurd (other (eqb-true n (marked_word g) e ∙ sym is))
  go false e = e

-- whether the slot can be used again
pub reusable_of : (layout : Layout) (shape : Numbers) (g n m : ℕ) (a b : Bool)
    → ((shards pages : ℕ) → m ≡ (keys_of layout shards pages).gen_max) → (n == marked_word g) ≡ a → (g == m) ≡ b
    → is_reusable_after g (plan_of layout shape).keys.gen_max n ≡ (a && not b)
reusable_of layout shape g n m a b last found is =
    ap (λ z. (n == marked_word g) && not (g == z)) (sym (last shape.shards (segment_pages * shape.segments)))
    ∙ (λ i. found i && not (is i))

-- it cannot if the Finish failed
pub failed : (plan : Plan) (g n : ℕ) → (n == marked_word g) ≡ false → is_reusable_after g plan.keys.gen_max n ≡ false
failed plan g n e = ap (λ b. b && not (g == plan.keys.gen_max)) e

-- ---- which key it ended

pub told_none : {M : Type 0} (asks : Bool) (takes : M → List ℕ → M → Type 0) (layout : Layout) (v w : View)
    (x : SlotRef) (g : ℕ) (b : Bool) (before after : M) → b ≡ false
    → FinishTells asks takes layout x g b before after v w → StepsTell asks takes layout None before after v w
told_none asks takes layout v w x g b before after is =
    subst (λ c. FinishTells asks takes layout x g c before after v w) is

pub told_key : {M : Type 0} (asks : Bool) (takes : M → List ℕ → M → Type 0) (layout : Layout) (v w : View)
    (x : SlotRef) (g : ℕ) (b : Bool) (before after : M) (s : Numbers) (key : ℕ) → b ≡ true → s ≡ v.shape
    → IsKeyNamed layout s (name_at x g) (Some key) → FinishTells asks takes layout x g b before after v w
    → StepsTell asks takes layout (Some key) before after v w
told_key asks takes layout v w x g b before after s key is same named tells =
    let t = subst (λ c. FinishTells asks takes layout x g c before after v w) is tells in (
      record { name = name_at x g; sight = t.0 },
      t.1,
      ap (λ (z : Numbers). place_named (plan_of layout z) key) (sym same) ∙ named,
      t.2,
    )

-- what ended has a key
pub key_is_there : {M : Type 0} (asks : Bool) (takes : M → List ℕ → M → Type 0) (layout : Layout) (v w : View)
    (x : SlotRef) (g : ℕ) (b : Bool) (before after : M) (s : Numbers) → b ≡ true → s ≡ w.shape → ViewIsValid layout w
    → FinishTells asks takes layout x g b before after v w → IsKeyNamed layout s (name_at x g) None → ⊥
key_is_there asks takes layout v w x g b before after s is same stands tells none =
    let t = subst (λ c. FinishTells asks takes layout x g c before after v w) is tells in
    let h = has_ended (record { name = name_at x g; sight = t.0 }) stands t.1 in
    let n = place_is (plan_of layout w.shape) h.key (name_at x g) h.named in
    none (subst (λ (z : Numbers). IsInRange layout (parts_of (pages_of z) (name_at x g))) (sym same)
    (parts_in_range layout w.shape.shards (pages_of w.shape) h.key (name_at x g) n.unpacks))

-- ---- what a drop left in the hand

pub drop_finishes : (x y : SlotRef) (n g : ℕ) (s : Sight) → after_drop x n ≡ Finishing y g s
    → after_drop x n ≡ Finishing x g Bare
drop_finishes x y n g s is = go ((fields_of n).present && (fields_of n).marked && ((fields_of n).count == 1)) is where
  go : (b : Bool) → cond b (Finishing x (fields_of n).generation Bare) Idle ≡ Finishing y g s
      → cond b (Finishing x (fields_of n).generation Bare) Idle ≡ Finishing x g Bare
  go true e = let same : (fields_of n).generation ≡ g = cc in ap (λ h. Finishing x h Bare) same
  go false e = absurd (let z : ⊥ = cc in z)

pub drop_idle : (x : SlotRef) (n : ℕ) → ((y : SlotRef) (g : ℕ) (s : Sight) → after_drop x n ≡ Finishing y g s → ⊥)
    → after_drop x n ≡ Idle
drop_idle x n never = go ((fields_of n).present && (fields_of n).marked && ((fields_of n).count == 1)) refl where
  go : (b : Bool) → ((fields_of n).present && (fields_of n).marked && ((fields_of n).count == 1)) ≡ b
      → after_drop x n ≡ Idle
  go true e = absurd (never x (fields_of n).generation Bare
      (ap (λ c. cond c (Finishing x (fields_of n).generation Bare) Idle) e))
  go false e = ap (λ c. cond c (Finishing x (fields_of n).generation Bare) Idle) e

-- no step, with an idle hand
pub grows_none : (v : View) (most : ℕ) → v.own.body.hand ≡ Idle → Grows (with_slot (hand v.own.body Idle) None) [] most v v
grows_none v most is = record {
  same = same_now v;
  body = λ i. hand v.own.body (is i);
  log = sym (append-nil v.own.log);
  steps = [];
  trail = sym (append-nil v.own.trail);
  few = omega arith;
  calls = λ _ _. refl;
}
