-- What a walk over the places of a heap does: which key it meets next, and which keys it misses.
use Rattle.std.specs.Prelude.{◌≡◌, ℕ, ◌+◌, ◌-◌, ◌*◌, ◌<◌, ◌≤◌, List, [], ◌∷◌, ◌++◌, map, length}
use Rattle.std.specs.Prelude.{Option, Some, None, Result, Ok, Err}
use Rattle.sh_key.specs.Layout.{Layout}
use Rattle.sh_step.specs.declared.footstep.Footstep.{Footstep}
use Rattle.sh_pass.specs.Missing.{MissesKeysOf}
use Rattle.sh_pass.specs.Owners.{IsKeyOfSlot}
use Rattle.sh_pass.specs.Passes.{Caller, CallAdds, holds, plan_for}
use Rattle.sh_pass.specs.Peeks.{slot_at}
use Rattle.sh_step.specs.Plans.{Plan}
use Rattle.sh_table.specs.declared.view.View.{View}
use Rattle.sh_table.specs.Views.{Each}
use Rattle.sh_pass.specs.declared.next_key.NextKey.{NextKey}
use Rattle.sh_history.specs.declared.entry.Entry.TheVariants as entry
use Rattle.sh_history.specs.declared.log.LogEntry.{LogEntry}
use Rattle.sh_history.specs.declared.log.LogEntry.TheVariants.{Known, Unread}
use Rattle.sh_shard.specs.Pages.{Paged}
use Rattle.sh_shard.specs.Places.{first_place, place_count}
use Rattle.sh_value.specs.declared.hold.Hold.{Hold}
use Rattle.sh_value.specs.declared.refusal.Refusal.{Refusal}
use Rattle.sh_value.specs.declared.refusal.Refusal.TheVariants as refusal
use Rattle.sh_member.specs.declared.walking.NextHeld.{NextHeld}
use Rattle.sh_member.specs.declared.walking.NextLive.{NextLive}

-- each key of each place from this one on and before that one was missed
abbrev pub MissesBetween : Plan → View → (from before : ℕ) → List Footstep → Type 0
MissesBetween plan v from before new = (place : ℕ) → from ≤ place → place < before
    → MissesKeysOf plan v (slot_at place) new

-- a key of a place from this one on and before that one
abbrev pub IsKeyBetween : Plan → (from before : ℕ) → ℕ → Type 0
IsKeyBetween plan from before key = (place : ℕ) × (from ≤ place) × (place < before)
    × IsKeyOfSlot plan (slot_at place) key

-- each of these keys was found gone
abbrev pub gone_entries : (pass : ℕ) → List ℕ → List LogEntry
gone_entries pass = map (λ key. Known (entry.Gone pass key))

-- each key of these places was missed, in at most `each` steps a place
pub record Skips (layout : Layout) (each from before : ℕ) (v w : Caller) : Type 0 where
  pub gone : List ℕ
  pub there : Each (IsKeyBetween (plan_for layout v) from before) gone
  pub adds : CallAdds (gone_entries v.view.pass gone) (holds v) (each * (before - from))
      (MissesBetween (plan_for layout v) v.view from before) v w

-- each key of the places before that of this key was missed; then these entries were added, of this key, in at most
-- `last` steps. The number that is returned is that of the next place
pub record Meets (layout : Layout) (each from before key behind : ℕ) (es : List LogEntry) (kept : List ℕ) (last : ℕ)
    (v w : Caller) : Type 0 where
  pub place : ℕ
  pub behind_is : behind ≡ place + 1
  pub from_there : from ≤ place
  pub inside : place < before
  pub names : IsKeyOfSlot (plan_for layout v) (slot_at place) key
  pub gone : List ℕ
  pub there : Each (IsKeyBetween (plan_for layout v) from place) gone
  pub adds : CallAdds (gone_entries v.view.pass gone ++ es) kept (each * (place - from) + last)
      (MissesBetween (plan_for layout v) v.view from place) v w

-- ---- with the values

-- the next key was live, with this value, at the step of the last entry; or no key was met
abbrev pub NextLiveDoes : Layout → (from before : ℕ) → Caller → Option NextLive → Caller → Type 0
NextLiveDoes layout from before v (Some next) w = Meets layout 21 from before next.key next.behind
    (Known (entry.Seen v.view.pass next.key next.value) ∷ []) (holds v) (length next.value + 5) v w
NextLiveDoes layout from before v None w = Skips layout 21 from before v w

-- the key that was met, with this value
abbrev pub with_value : NextKey → List ℕ → NextLive
with_value next value = record { key = next.key; value = value; behind = next.behind }

-- a walk did this with the key that it met and the value that is in the caller's room then; if it met none, the room is
-- as it was
abbrev pub PutsLive : (does : Option NextLive → Type 0) → (before : List ℕ) → Option NextKey → (after : List ℕ) → Type 0
PutsLive does before (Some next) after = does (Some (with_value next after))
PutsLive does before None after = does None × (after ≡ before)

-- the same of a walk that may be refused: then the room is as it was
abbrev pub PutsIfLive : (does : Result (Option NextLive) Refusal → Type 0) → (before : List ℕ)
    → Result (Option NextKey) Refusal → (after : List ℕ) → Type 0
PutsIfLive does before (Ok met) after = PutsLive (λ found. does (Ok found)) before met after
PutsIfLive does before (Err why) after = does (Err why) × (after ≡ before)

-- ---- over the places of an owner's shard

-- The next key at a place of the shard, whose first place has number 0: the walk over the places of the heap that are
-- the shard's met it, with this value, or it met none.
abbrev pub NextOwnKeyDoes : Layout → (from : ℕ) → Paged → Option NextKey → Paged → Type 0
NextOwnKeyDoes layout from o (Some next) n = (value : List ℕ) × NextLiveDoes layout (first_place o + from)
    (first_place o + place_count o) o.owner (Some (record
    { key = next.key; value = value; behind = first_place o + next.behind })) n.owner
NextOwnKeyDoes layout from o None n = NextLiveDoes layout (first_place o + from) (first_place o + place_count o)
    o.owner None n.owner

-- ---- with holds

-- the key was got, or it had as many holds as a key may have: it was live at the step of this entry
abbrev pub live_entry : (pass key : ℕ) → Option Hold → LogEntry
live_entry pass key (Some hold) = Unread pass key
live_entry pass key None = Known (entry.Crowded pass key)

-- the holds then
abbrev pub holds_with : Option Hold → (key : ℕ) → List ℕ → List ℕ
holds_with (Some hold) key hs = key ∷ hs
holds_with None key hs = hs

-- the hold, if any, is on this key
abbrev pub IsHoldOn : Option Hold → (key : ℕ) → Type 0
IsHoldOn (Some hold) key = hold.key ≡ key
IsHoldOn None key = Unit {0}

-- without room for a hold there are peeks alone
abbrev pub PeeksIfFull : Layout → (from before : ℕ) → Caller → Caller → Type 0
PeeksIfFull layout from before v w = length (holds v) ≡ 16 → CallAdds [] (holds v) (before - from)
    (MissesBetween (plan_for layout v) v.view from before) v w

-- The next key is held, unless it has as many holds as a key may have; or no key was met. If a key was met and there is
-- no room for a hold, each key of the places before that of the key was missed
abbrev pub NextHeldDoes : Layout → (from before : ℕ) → Caller → Result (Option NextHeld) Refusal → Caller → Type 0
NextHeldDoes layout from before v (Ok (Some next)) w = IsHoldOn next.hold next.key × Meets layout 8 from before next.key
    next.behind (live_entry v.view.pass next.key next.hold ∷ []) (holds_with next.hold next.key (holds v)) 8 v w
NextHeldDoes layout from before v (Ok None) w = Skips layout 8 from before v w × PeeksIfFull layout from before v w
NextHeldDoes layout from before v (Err refusal.HoldsFull) w = (length (holds v) ≡ 16) × ((place : ℕ)
    × (from ≤ place) × (place < before) × CallAdds [] (holds v) (place + 1 - from)
    (MissesBetween (plan_for layout v) v.view from place) v w)
NextHeldDoes layout from before v (Err _) w = ⊥
