-- Which keys the steps of a call ended, step by step, and what the call says of them.
use Rattle.std.proofs.Common.{◌≡◌, ℕ, ◌==◌, ◌&&◌, Bool, true, false, cond, List, [], ◌∷◌, ◌++◌, Option, Some, None}
use Rattle.std.proofs.Common.{refl, ap, ◌∙◌, sym, subst, append_assoc, append-nil}
use Rattle.atomic_table.specs.declared.shared.Seat.{Seat}
use Rattle.sh_key.specs.Layout.{Layout}
use Rattle.sh_shape.specs.Shape.{Numbers}
use Rattle.sh_slots.specs.declared.hand.Hand.{Hand}
use Rattle.sh_slots.specs.declared.hand.Hand.TheVariants.{Finishing}
use Rattle.sh_slots.specs.declared.hand.Sight.{Sight}
use Rattle.sh_slots.specs.declared.hand.SlotRef.{SlotRef}
use Rattle.sh_slots.specs.Slots.{name_at, marked_word, value_seen}
use Rattle.sh_step.specs.declared.action.Action.{Action}
use Rattle.sh_step.specs.declared.action.Action.TheVariants as action
use Rattle.sh_step.specs.declared.body.Body.{Body}
use Rattle.sh_step.specs.declared.footstep.Footstep.{Footstep}
use Rattle.sh_step.specs.declared.moves.Move.{Move}
use Rattle.sh_step.specs.declared.moves.Move.TheVariants as move
use Rattle.sh_step.specs.Footsteps.{footstep_of}
use Rattle.sh_step.specs.Moves.{place_named}
use Rattle.sh_step.specs.Plans.{Plan, plan_of}
use Rattle.sh_step.specs.Rows.{is_read}
use Rattle.sh_table.specs.declared.view.View.{View}
use Rattle.sh_table.specs.Ended.{EndsJust, HasEnded, HaveEnded, ended_at, ended_by, ended_in}
use Rattle.sh_core.specs.KeyEnds.{Ending}
use Rattle.sh_table.specs.Seats.{Heap, Did, IsSeat}
use Rattle.sh_table.specs.Steps.{did, row_by}
use Rattle.sh_table.specs.Tales.{ViewIsValid}
use Rattle.sh_table.specs.Views.{Each}
use Rattle.sh_table.proofs.WhatEnded.{ended_one_more}
use Rattle.sh_pass.specs.Telling.{EndsKey, FinishTells, StepsTell, TellsEnd, TookIfAsked, TookRead}
use Rattle.sh_pass.proofs.PeekLaws.{one_key}

-- ---- steps

-- what a step ends is what its action ends with the hand before it
pub ends_step : {layout : Layout} {heap : Heap} {n : ℕ} {t u : Seat (Unit {0}) View} (x : Action) (m : Move)
    → IsSeat layout heap t → Did layout heap x m n t u
    → EndsJust layout (ended_at t.me.0.own.body (footstep_of x (row_by layout t.me.0 m) n)) t.me.0 u.me.0
ends_step {layout} {n = n} {t = t} x m seat d =
    let v : View = t.me.0 in
    let plan : Plan = plan_of layout v.shape in
    let s : Footstep = footstep_of x (row_by layout v m) n in
    let P : View → Type 0 = λ w. EndsJust layout (ended_at v.own.body s) v w in
    let now : EndsJust layout (ended_at v.own.body s) v (did layout x m v n) = record {
      is = ended_one_more plan v.own.trail s
          ∙ ap (λ (p : Body). ended_in plan v.own.trail ++ ended_at p s) (sym seat.stands.part.made);
    } in
    subst P (sym d.view) now

pub ends_now : (layout : Layout) (v : View) → EndsJust layout [] v v
ends_now layout v = record { is = sym (append-nil (ended_in (plan_of layout v.shape) v.own.trail)) }

-- steps that ended nothing, before or after others
pub none_then : {layout : Layout} {v w u : View} {es : List Ending} → EndsJust layout [] v w → EndsJust layout es w u
    → EndsJust layout es v u
none_then {layout} {v} {es = es} a b = record {
  is = b.is ∙ ap (λ (l : List Ending). l ++ es)
      (a.is ∙ append-nil (ended_in (plan_of layout v.shape) v.own.trail));
}

pub then_none : {layout : Layout} {v w u : View} {es : List Ending} → EndsJust layout es v w → EndsJust layout [] w u
    → EndsJust layout es v u
then_none {layout} {w = w} a b = record {
  is = b.is ∙ (append-nil (ended_in (plan_of layout w.shape) w.own.trail) ∙ a.is);
}

-- a Finish
pub finish_ends : {layout : Layout} {heap : Heap} {n : ℕ} {t u : Seat (Unit {0}) View} (x : SlotRef) (g : ℕ) (s : Sight)
    → IsSeat layout heap t → t.me.0.own.body.hand ≡ Finishing x g s
    → Did layout heap action.Finish (move.Finish x g) n t u
    → EndsJust layout (cond (n == marked_word g) (record { name = name_at x g; sight = s } ∷ []) []) t.me.0 u.me.0
finish_ends {layout} {n = n} {t = t} {u = u} x g s seat is d =
    let step : Footstep = footstep_of action.Finish (row_by layout t.me.0 (move.Finish x g)) n in
    subst (λ (h : Hand). EndsJust layout (ended_by h step) t.me.0 u.me.0) is
    (ends_step action.Finish (move.Finish x g) seat d)

-- ---- what a call says

-- by the word that the Finish found
pub finish_tells : {M : Type 0} (asks : Bool) (takes : M → List ℕ → M → Type 0) (layout : Layout) (v w : View)
    (x : SlotRef) (g : ℕ) (s : Sight) (b : Bool) (before after : M)
    → EndsJust layout (cond b (record { name = name_at x g; sight = s } ∷ []) []) v w
    → (b ≡ true → TookRead asks takes (record { name = name_at x g; sight = s }) before after)
    → (b ≡ false → after ≡ before) → FinishTells asks takes layout x g b before after v w
finish_tells asks takes layout v w x g s true before after just took same = (s, just, took refl)
finish_tells asks takes layout v w x g s false before after just took same = (just, same refl)

-- steps that ended nothing came before
pub tells_after : {M : Type 0} (asks : Bool) (takes : M → List ℕ → M → Type 0) (layout : Layout) (v w u : View)
    (told : Option ℕ) (before after : M) → w.shape ≡ v.shape → EndsJust layout [] v w
    → StepsTell asks takes layout told before after w u → StepsTell asks takes layout told before after v u
tells_after asks takes layout v w u None before after same none (just, took) = (none_then none just, took)
tells_after asks takes layout v w u (Some key) before after same none (e, just, named, took) = (
  e,
  none_then none just,
  ap (λ (s : Numbers). place_named (plan_of layout s) key) (sym same) ∙ named,
  took,
)

-- or after
pub tells_before : {M : Type 0} (asks : Bool) (takes : M → List ℕ → M → Type 0) (layout : Layout) (v w u : View)
    (told : Option ℕ) (before after : M) → StepsTell asks takes layout told before after v w → EndsJust layout [] w u
    → StepsTell asks takes layout told before after v u
tells_before asks takes layout v w u None before after (just, took) none = (then_none just none, took)
tells_before asks takes layout v w u (Some key) before after (e, just, named, took) none =
    (e, then_none just none, named, took)

-- ---- what is true of the key

last_of : {A : Type 0} (P : A → Type 0) (xs : List A) (x : A) → Each P (xs ++ x ∷ []) → P x
last_of P [] x h = h.0
last_of P (y ∷ ys) x h = last_of P ys x h.1

-- what ended last
pub has_ended : {layout : Layout} {v w : View} (e : Ending) (stands : ViewIsValid layout w)
    → EndsJust layout (e ∷ []) v w → HasEnded (plan_of layout w.shape) stands.history e
has_ended {layout} {v} {w} e stands just =
    let plan : Plan = plan_of layout w.shape in
    last_of (HasEnded plan stands.history) (ended_in (plan_of layout v.shape) v.own.trail) e
    (subst (HaveEnded plan stands.history) just.is stands.ended)

-- what a room took that asks for the words is the value
took_value : {M : Type 0} (asks : Bool) (takes : M → List ℕ → M → Type 0) (e : Ending) (value : List ℕ) (before after : M)
    → (is_read e.name e.sight ≡ true → value_seen e.sight ≡ value) → TookRead asks takes e before after
    → TookIfAsked asks takes before value after
took_value true takes e value before after read (full, took) = subst (λ (v : List ℕ). takes before v after) (read full)
    took
took_value false takes e value before after read same = same

pub tells_end : {M : Type 0} (asks : Bool) (takes : M → List ℕ → M → Type 0) (layout : Layout) (v w : View)
    (told : Option ℕ) (before after : M) → w.shape ≡ v.shape → ViewIsValid layout w
    → StepsTell asks takes layout told before after v w → TellsEnd asks takes layout told before after v w
tells_end asks takes layout v w None before after same stands tells = tells
tells_end asks takes layout v w (Some key) before after same stands (e, just, named, took) =
    let h : HasEnded (plan_of layout w.shape) stands.history e = has_ended e stands just in
    let here : place_named (plan_of layout w.shape) key ≡ Some e.name =
    ap (λ (s : Numbers). place_named (plan_of layout s) key) same ∙ named in
    let its : h.key ≡ key = one_key layout w.shape h.key key e.name h.named here in (
      h.value,
      record {
        ending = e;
        named = named;
        just = just;
        history = stands.history;
        tale = stands.tale;
        inserted = subst (λ k. Rattle.sh_history.specs.History.value_of stands.history k ≡ Some h.value) its h.inserted;
        removed = subst (λ k. Rattle.sh_history.specs.History.is_removed stands.history k ≡ true) its h.removed;
      },
      took_value asks takes e h.value before after h.read took,
    )
