-- The keys that events reply are keys of the layout.
use Rattle.std.proofs.Common.{◌≡◌, ℕ, ◌+◌, ◌*◌, ◌<◌, Bool, true, false, cond, List, refl, sym, subst, ◌∙◌, Option, Some}
use Rattle.std.proofs.Common.{None, slice_get}
use Rattle.std.specs.Prelude.{IsSome}
use Rattle.sh_key.specs.declared.parts.Parts.{Parts}
use Rattle.sh_key.specs.Layout.{Layout, unpacked, first_key, key_count}
use Rattle.sh_key.specs.Laws.{KeysAreConsecutive}
use Rattle.sh_shape.specs.Shape.{Numbers}
use Rattle.sh_slots.specs.declared.hand.KeyRef.{KeyRef}
use Rattle.sh_slots.specs.declared.reply.Reply.{Reply}
use Rattle.sh_slots.specs.declared.reply.Reply.TheVariants as reply
use Rattle.sh_step.specs.declared.action.Event.{Event}
use Rattle.sh_step.specs.declared.body.Body.{Body}
use Rattle.sh_step.specs.declared.moves.Move.{Move}
use Rattle.sh_step.specs.declared.moves.Move.TheVariants as move
use Rattle.sh_step.specs.Plans.{Plan, plan_of, name_in, keys_of}
use Rattle.sh_step.specs.Moves.{row_of, row}
use Rattle.sh_step.specs.Rows.{Row}
use Rattle.sh_core.specs.declared.outcome.Outcome.{Outcome}
use Rattle.sh_core.specs.declared.outcome.Outcome.TheVariants.{Skipped}
use Rattle.sh_core.specs.Words.{read}
use Rattle.sh_core.specs.Worlds.{World, entry_of, value_at_place}
use Rattle.sh_core.specs.Outcomes.{outcome_of, done}
use Rattle.sh_core.specs.Refines.{FillsAreKeys}
use Rattle.sh_core.specs.Looks.{HandSees, LooksAreTrue}
use Rattle.sh_step.specs.Conditions.{May}
use Rattle.sh_step.proofs.ConditionLaws.{move_of_row}
use Rattle.sh_core.proofs.Words.Steps.{row_of_at}
use Rattle.sh_core.proofs.Words.Stepping.{row_of_past, outcome_done, outcome_skipped}
use Rattle.script_models.specs.StepsKeys.{KeysWithin}

-- a reply's key is below the bound
abbrev ReplyWithin : ℕ → Option Reply → Type 0
ReplyWithin bound (Some (reply.Insert k v)) = k < bound
ReplyWithin bound (Some (reply.Got k)) = k < bound
ReplyWithin bound (Some (reply.Gone k)) = k < bound
ReplyWithin bound (Some (reply.Crowded k)) = k < bound
ReplyWithin bound (Some (reply.Removed k)) = k < bound
ReplyWithin bound (Some (reply.Released k)) = k < bound
ReplyWithin bound (Some (reply.Seen k v)) = k < bound
ReplyWithin bound None = Unit {0}

joins : (bound a : ℕ) (v : List ℕ) (o : Option Reply) → ReplyWithin bound o → KeysWithin bound (done (entry_of a v o))
joins bound a v (Some (reply.Insert k u)) h = h
joins bound a v (Some (reply.Got k)) h = h
joins bound a v (Some (reply.Gone k)) h = h
joins bound a v (Some (reply.Crowded k)) h = h
joins bound a v (Some (reply.Removed k)) h = h
joins bound a v (Some (reply.Released k)) h = h
joins bound a v (Some (reply.Seen k u)) h = h
joins bound a v None h = tt

entered : (bound k : ℕ) (b c : Bool) → k < bound → ReplyWithin bound
    (Some (cond b (cond c (reply.Got k) (reply.Crowded k)) (reply.Gone k)))
entered bound k true true h = h
entered bound k true false h = h
entered bound k false c h = h

removing : (bound k : ℕ) (b : Bool) → k < bound → ReplyWithin bound (cond b None (Some (reply.Gone k)))
removing bound k true h = tt
removing bound k false h = h

marked : (bound k : ℕ) (b : Bool) → k < bound → ReplyWithin bound (Some (cond b (reply.Gone k) (reply.Removed k)))
marked bound k true h = h
marked bound k false h = h

past : (bound k : ℕ) (b : Bool) → k < bound → ReplyWithin bound (cond b (Some (reply.Gone k)) None)
past bound k true h = h
past bound k false h = tt

looked : (bound k : ℕ) (v : List ℕ) (b : Bool) → k < bound → ReplyWithin bound
    (Some (cond b (reply.Seen k v) (reply.Gone k)))
looked bound k v true h = h
looked bound k v false h = h

module _ (bound : ℕ) (plan : Plan) (w : World) (below : (k : ℕ) (n : KeyRef) → plan.keys.unpack k ≡ Some n → k < bound)
    (fills : FillsAreKeys plan w) (looks : LooksAreTrue plan w) where
  -- the row's reply to the word that it meets
  abbrev Within : Row → Type 0
  Within m = ReplyWithin bound (m.reply (read w.words m.place))

  row_within : (a : ℕ) (p : Body) (m : Move) → slice_get w.parts a ≡ Some p → May plan p m → Within (row_of plan p m)
  row_within a p (move.EnterGet k x) at may = entered bound k _ _ (below k x may.1.unpacks)
  row_within a p (move.EnterRemove k x) at may = removing bound k _ (below k x may.1.unpacks)
  row_within a p (move.Mark k x) at may = marked bound k _ (below k x may.1.unpacks)
  row_within a p (move.DropHold k x) at may = below k x may.1.unpacks
  row_within a p (move.Publish x v) at may = below _ _ (fills a p x v may.0 at may.1)
  row_within a p (move.Look k x) at may = past bound k _ (below k x may.1.unpacks)
  row_within a p (move.LookAgain k x s) at may =
      let named = (subst (HandSees plan w.words.class_at w.log) may.0 (looks a p at)).named in
      looked bound k _ _ (below k x named.unpacks)
  row_within a p _ at may = tt

  -- the outcome of an event
  outcome_within : (e : Event) → KeysWithin bound (outcome_of plan w e)
  outcome_within e = part (slice_get w.parts e.pass) refl where
    by : (o : Outcome) → outcome_of plan w e ≡ o → KeysWithin bound o → KeysWithin bound (outcome_of plan w e)
    by o is h = subst (λ (o : Outcome). KeysWithin bound o) (sym is) h

    done_within : (p : Body) (r : Option Row) → slice_get w.parts e.pass ≡ Some p → row plan p e.action ≡ r
        → KeysWithin bound (outcome_of plan w e)
    done_within p (Some m) at is =
        let d = move_of_row plan p e.action m is in
        by _ (outcome_done plan w e m (row_of_at plan w e p at ∙ is))
        (joins bound e.pass (value_at_place w.words m.place) (m.reply (read w.words m.place))
        (subst (λ (r : Row). Within r) (sym d.4) (row_within e.pass p d.0 at d.2)))
    done_within p None at is = by Skipped (outcome_skipped plan w e (row_of_at plan w e p at ∙ is)) tt

    part : (o : Option Body) → slice_get w.parts e.pass ≡ o → KeysWithin bound (outcome_of plan w e)
    part (Some p) at = done_within p (row plan p e.action) at refl
    part None at = by Skipped (outcome_skipped plan w e (row_of_past plan w e at)) tt

-- a key of the plan is one of the layout
unpacks : (layout : Layout) (shape : Numbers) (k : ℕ) (n : KeyRef) → (plan_of layout shape).keys.unpack k ≡ Some n
    → IsSome (unpacked layout k)
unfolding keys_of
unpacks layout shape k n h = go (unpacked layout k) refl h where
  go : (o : Option Parts) → unpacked layout k ≡ o → (elim o as (λ _. Option KeyRef)
      [ Some p ↦ name_in shape.shards (8 * shape.segments) p | None ↦ None ]) ≡ Some n → IsSome o
  go (Some p) e h = refl
  go None e h = absurd (let z : None ≡ Some n = h in cc)

pub keys_within : (layout : Layout) (shape : Numbers) (w : World) (e : Event) (o : Outcome) → KeysAreConsecutive layout
    → FillsAreKeys (plan_of layout shape) w → LooksAreTrue (plan_of layout shape) w
    → o ≡ outcome_of (plan_of layout shape) w e
    → KeysWithin (first_key layout + key_count layout) o
keys_within layout shape w e o laws fills looks is =
    let bound : ℕ = first_key layout + key_count layout in
    subst (λ (o : Outcome). KeysWithin bound o) (sym is) (outcome_within bound (plan_of layout shape) w
    (λ k n h. ((laws k).0 (unpacks layout shape k n h)).1) fills looks e)
