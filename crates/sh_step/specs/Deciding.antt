-- Which steps decide a call, and that only those reply.
use Rattle.std.specs.Prelude.{ℕ, ◌≡◌, Bool, true, false, not, Option, Some, None, is_some}
use Rattle.sh_slots.specs.Slots.{live_at, past_at}
use Rattle.sh_step.specs.declared.action.Action.{Action}
use Rattle.sh_step.specs.declared.action.Action.TheVariants.{EnterGet, EnterRemove, Mark, DropHold, Publish, Look}
use Rattle.sh_step.specs.declared.action.Action.TheVariants.{LookAgain}
use Rattle.sh_step.specs.declared.body.Body.{Body}
use Rattle.sh_step.specs.Plans.{Plan}
use Rattle.sh_step.specs.Moves.{row}
use Rattle.sh_step.specs.Rows.{Row}

-- the word of the slot that the key names says that the key's value is there
abbrev pub is_live : Plan → (k found : ℕ) → Bool
is_live plan k n = elim (plan.keys.unpack k) [ Some x ↦ live_at x.generation n | None ↦ false ]

-- it says that the key was removed
abbrev pub is_past : Plan → (k found : ℕ) → Bool
is_past plan k n = elim (plan.keys.unpack k) [ Some x ↦ past_at x.generation n | None ↦ false ]

-- Whether the step decides a call, by the word that it found. An entry to get, a mark, the drop of a hold and a publish
-- do, and so does the end of a look. An entry to remove does if the word is not live, and the begin of a look if it
-- says that the key was removed. No other step does
abbrev pub decides : Plan → Action → ℕ → Bool
decides plan (EnterGet k) n = true
decides plan (EnterRemove k) n = not (is_live plan k n)
decides plan Mark n = true
decides plan (DropHold k) n = true
decides plan Publish n = true
decides plan (Look k) n = is_past plan k n
decides plan LookAgain n = true
decides plan _ n = false

-- by these rows exactly the steps that decide reply, and they do so at once
abbrev pub DecidingReplies : (Plan → Body → Action → Option Row) → Type 0
DecidingReplies rows = (plan : Plan) (p : Body) (x : Action) (m : Row) (n : ℕ) → rows plan p x ≡ Some m
    → is_some (m.reply n) ≡ decides plan x n

-- this holds of the table
abbrev pub DecidingStepsReply : Type 0
DecidingStepsReply = DecidingReplies row
