-- What a call of a pass does, given its answer: exactly when each refusal comes, what the log gains, who owns what. The
-- contract of a member, which is the pass or its shard, gives this answer.
use Rattle.std.specs.Prelude.{◌≡◌, ℕ, ◌+◌, ◌<◌, nat_lt, nat_le, not, true, List, map, length, Option, Some}
use Rattle.std.specs.Prelude.{None, Result, Ok, Err, ok_or, if◌then◌else◌}
use Rattle.sh_value.specs.declared.hold.Hold.{Hold}
use Rattle.sh_value.specs.declared.refusal.Refusal.{Refusal}
use Rattle.sh_value.specs.declared.refusal.Refusal.TheVariants as refusal
use Rattle.sh_key.specs.Layout.{first_key, key_count}
use Rattle.sh_history.specs.declared.entry.Entry.TheVariants.{Insert, Gone, Crowded, Removed, Released}
use Rattle.sh_history.specs.declared.log.LogEntry.{LogEntry}
use Rattle.sh_history.specs.declared.log.LogEntry.TheVariants.{Known}
use Rattle.sh_history.specs.Log.{IsGotBy, filled, AllHaveValue, logged_holds_by, logged_hold_count}
pub use Rattle.sh_script.specs.BoundNames.{name_referred, name_used, binds}
use Rattle.sh_script.specs.declared.calls.Reference.{Reference}
use Rattle.sh_script.specs.declared.calls.Reference.TheVariants as reference
use Rattle.sh_script.specs.declared.calls.Call.{Call}
use Rattle.sh_script.specs.declared.calls.Call.TheVariants as call
use Rattle.script_output.specs.declared.answer.Answer.{Answer}
use Rattle.script_output.specs.declared.answer.Answer.TheVariants as answer
use Rattle.script_output.specs.Keys.{key_shown}
use Rattle.script_output.specs.Results.{done_answer, value_answer, key_answer}
use Rattle.sh_pass.specs.Passes.{GetDoes, ReadDoes, RemoveDoes, ReleaseDoes}
use Rattle.sh_member.specs.SideBounds.{AdoptTakes}
use Rattle.sh_member.specs.Sides.{SideDoes, SideAdopts, SideLeaves, SideInserts}
use Rattle.script_calls.specs.Parts.{RunTerms, PassPart, Becomes, with_entry, is_placed_key, is_key_of_shard}

-- a refusal that precedes every other effect and changes nothing; if there is none, the rest holds
abbrev pub UnlessRefused : {A : Type 0} → Option Refusal → Result A Refusal → (Unchanged Rest : Type 0) → Type 0
UnlessRefused (Some e) r Unchanged Rest = (r ≡ Err e) × Unchanged
UnlessRefused None r Unchanged Rest = Rest

-- ---- adopt

-- a pass with a shard is refused before the shard's number is looked at
abbrev pub adopt_refusal : RunTerms → Option ℕ → ℕ → Option Refusal
adopt_refusal terms (Some own) shard = Some refusal.Taken
adopt_refusal terms None shard = if nat_le terms.shape.shards shard then Some refusal.NoShard else None

abbrev pub PartAdopted : PassPart → ℕ → Result (Unit {0}) Refusal → PassPart → Type 0
PartAdopted v shard (Ok _) w = Becomes (record v { shard = Some shard }) w
PartAdopted v shard (Err refusal.Taken) w = Becomes v w
PartAdopted v shard (Err refusal.Memory) w = Becomes v w
PartAdopted v shard (Err _) w = ⊥

abbrev pub AdoptAnswers : RunTerms → PassPart → ℕ → Result (Unit {0}) Refusal → PassPart → Type 0
AdoptAnswers terms v shard r w =
    UnlessRefused (adopt_refusal terms v.shard shard) r (Becomes v w) (PartAdopted v shard r w)
    × SideAdopts shard v.stands r w.stands × AdoptTakes v.stands w.stands

-- ---- leave

abbrev pub needs_shard : Option ℕ → Option Refusal
needs_shard (Some own) = None
needs_shard None = Some refusal.NoShard

abbrev pub PartLeft : PassPart → Result (Unit {0}) Refusal → PassPart → Type 0
PartLeft v (Ok _) w = Becomes (record v { shard = None }) w
PartLeft v (Err refusal.Waiting) w = Becomes v w
PartLeft v (Err _) w = ⊥

abbrev pub LeaveAnswers : PassPart → Result (Unit {0}) Refusal → PassPart → Type 0
LeaveAnswers v r w = UnlessRefused (needs_shard v.shard) r (Becomes v w) (PartLeft v r w)
    × SideLeaves v.stands r w.stands

-- ---- insert

-- the key is one that an insert may return when this shard is owned
pub record IsOwnKey (terms : RunTerms) (shard : Option ℕ) (key : ℕ) : Type 0 where
  pub own : is_key_of_shard terms.layout shard key ≡ true
  pub small : key < first_key terms.layout + key_count terms.layout

abbrev pub ValueInserted : RunTerms → ℕ → PassPart → List ℕ → Result ℕ Refusal → PassPart → Type 0
ValueInserted terms pass v words (Ok key) w = IsOwnKey terms v.shard key
    × Becomes (with_entry v (Known (Insert pass key words))) w
ValueInserted terms pass v words (Err refusal.Full) w = Becomes v w
ValueInserted terms pass v words (Err refusal.Memory) w = Becomes v w
ValueInserted terms pass v words (Err _) w = ⊥

abbrev pub InsertAnswers : RunTerms → ℕ → PassPart → List ℕ → Result ℕ Refusal → PassPart → Type 0
InsertAnswers terms pass v words r w =
    UnlessRefused (needs_shard v.shard) r (Becomes v w) (ValueInserted terms pass v words r w)
    × SideInserts terms.layout words v.stands r w.stands

-- the words of a script may be too many for a value, which is refused first
abbrev pub words_refusal : List ℕ → Option Refusal
words_refusal words = if nat_lt 16 (length words) then Some refusal.TooLong else None

abbrev pub WordsAnswers : RunTerms → ℕ → PassPart → List ℕ → Result ℕ Refusal → PassPart → Type 0
WordsAnswers terms pass v words r w =
    UnlessRefused (words_refusal words) r (w ≡ v) (InsertAnswers terms pass v words r w)

-- ---- get

abbrev pub get_refusal : RunTerms → ℕ → PassPart → ℕ → Option Refusal
get_refusal terms pass v key =
    if not (is_placed_key terms.layout terms.shape key) then Some refusal.BadKey
    else if nat_le 16 (logged_hold_count v.log pass) then Some refusal.HoldsFull
    else None

abbrev pub HoldGot : ℕ → PassPart → ℕ → Result Hold Refusal → PassPart → Type 0
HoldGot pass v key (Ok hold) w = (hold.key ≡ key)
    × ((got : LogEntry) × IsGotBy pass key got × Becomes (with_entry v got) w)
HoldGot pass v key (Err refusal.Gone) w = Becomes (with_entry v (Known (Gone pass key))) w
HoldGot pass v key (Err refusal.Crowded) w = Becomes (with_entry v (Known (Crowded pass key))) w
HoldGot pass v key (Err _) w = ⊥

abbrev pub GetAnswers : RunTerms → ℕ → PassPart → ℕ → Result Hold Refusal → PassPart → Type 0
GetAnswers terms pass v key r w =
    UnlessRefused (get_refusal terms pass v key) r (Becomes v w) (HoldGot pass v key r w)
    × SideDoes terms.layout (GetDoes terms.layout key) v.stands r w.stands

-- ---- read and release

abbrev pub hold_refusal : ℕ → PassPart → ℕ → Option Refusal
hold_refusal pass v key = if nat_lt 0 (logged_holds_by v.log pass key) then None else Some refusal.NotHeld

-- the value is that of each get of the key
abbrev pub ValueRead : PassPart → ℕ → Result (List ℕ) Refusal → PassPart → Type 0
ValueRead v key (Ok value) w = Becomes (record v { log = map (filled key value) v.log }) w
    × AllHaveValue key value w.log
ValueRead v key (Err _) w = ⊥

abbrev pub ReadAnswers : RunTerms → ℕ → PassPart → ℕ → Result (List ℕ) Refusal → PassPart → Type 0
ReadAnswers terms pass v key r w = UnlessRefused (hold_refusal pass v key) r (Becomes v w) (ValueRead v key r w)
    × SideDoes terms.layout (ReadDoes key) v.stands r w.stands

abbrev pub HoldReleased : ℕ → PassPart → ℕ → Result (Unit {0}) Refusal → PassPart → Type 0
HoldReleased pass v key (Ok _) w = Becomes (with_entry v (Known (Released pass key))) w
HoldReleased pass v key (Err _) w = ⊥

abbrev pub ReleaseAnswers : RunTerms → ℕ → PassPart → ℕ → Result (Unit {0}) Refusal → PassPart → Type 0
ReleaseAnswers terms pass v key r w =
    UnlessRefused (hold_refusal pass v key) r (Becomes v w) (HoldReleased pass v key r w)
    × SideDoes terms.layout (ReleaseDoes terms.layout key) v.stands r w.stands

-- ---- remove

abbrev pub remove_refusal : RunTerms → ℕ → Option Refusal
remove_refusal terms key = if is_placed_key terms.layout terms.shape key then None else Some refusal.BadKey

abbrev pub KeyRemoved : ℕ → PassPart → ℕ → Result (Unit {0}) Refusal → PassPart → Type 0
KeyRemoved pass v key (Ok _) w = Becomes (with_entry v (Known (Removed pass key))) w
KeyRemoved pass v key (Err refusal.Gone) w = Becomes (with_entry v (Known (Gone pass key))) w
KeyRemoved pass v key (Err _) w = ⊥

abbrev pub RemoveAnswers : RunTerms → ℕ → PassPart → ℕ → Result (Unit {0}) Refusal → PassPart → Type 0
RemoveAnswers terms pass v key r w =
    UnlessRefused (remove_refusal terms key) r (Becomes v w) (KeyRemoved pass v key r w)
    × SideDoes terms.layout (RemoveDoes terms.layout key) v.stands r w.stands

-- ---- how a result is reported

-- the answer reports a result that the call may have
pub record AnswerSays {A : Type 0} (tell : Result A Refusal → Answer)
    (CallAnswers : Result A Refusal → PassPart → Type 0) (a : Answer) (w : PassPart) : Type 0 where
  pub result : Result A Refusal
  pub is : a ≡ tell result
  pub does : CallAnswers result w

-- ---- names

-- the key that is written as this number
abbrev pub key_for_number : Option ℕ → ℕ → Result ℕ Answer
key_for_number tag number = ok_or (key_shown tag number) (answer.Refused refusal.BadKey)

-- a name is bound to the number that its insert returned, unless the insert was refused
abbrev pub key_for_name : Option ℕ → Option ℕ → Result ℕ Answer
key_for_name tag (Some number) = key_for_number tag number
key_for_name tag None = Err answer.Unbound

-- the key that a call is on if its name is bound to this number, or the answer if there is no key
abbrev pub key_meant : Option ℕ → Option ℕ → Reference → Result ℕ Answer
key_meant tag bound (reference.Key number) = key_for_number tag number
key_meant tag bound (reference.Name i) = key_for_name tag bound

-- a call on this key
abbrev pub OnKey : Result ℕ Answer → PassPart → (ℕ → Answer → PassPart → Type 0) → Answer → PassPart → Type 0
OnKey (Err b) v CallAnswers a w = (a ≡ b) × (w ≡ v)
OnKey (Ok key) v CallAnswers a w = CallAnswers key a w

-- ---- a call

-- A call of a pass with the part v has this answer, and leaves the part w. If it is on a name, the name is bound to
-- this number.
abbrev pub CallAnswers : RunTerms → Option ℕ → ℕ → PassPart → Call → Option ℕ → Answer → PassPart → Type 0
CallAnswers terms tag pass v (call.Adopt shard) bound a w = AnswerSays done_answer (AdoptAnswers terms v shard) a w
CallAnswers terms tag pass v call.Leave bound a w = AnswerSays done_answer (LeaveAnswers v) a w
CallAnswers terms tag pass v (call.Insert words) bound a w = AnswerSays (key_answer tag)
    (WordsAnswers terms pass v words) a w
CallAnswers terms tag pass v (call.Get r) bound a w = OnKey (key_meant tag bound r) v
    (λ key. AnswerSays done_answer (GetAnswers terms pass v key)) a w
CallAnswers terms tag pass v (call.Read r) bound a w = OnKey (key_meant tag bound r) v
    (λ key. AnswerSays value_answer (ReadAnswers terms pass v key)) a w
CallAnswers terms tag pass v (call.Remove r) bound a w = OnKey (key_meant tag bound r) v
    (λ key. AnswerSays done_answer (RemoveAnswers terms pass v key)) a w
CallAnswers terms tag pass v (call.Release r) bound a w = OnKey (key_meant tag bound r) v
    (λ key. AnswerSays done_answer (ReleaseAnswers terms pass v key)) a w
CallAnswers terms tag pass v call.Post bound a w = (a ≡ answer.Done) × (w ≡ v)
CallAnswers terms tag pass v (call.Wait name) bound a w = (a ≡ answer.Done) × (w ≡ v)

-- the number that an insert with this answer binds to its name
abbrev pub number_told : Answer → Option ℕ
number_told (answer.Key number) = Some number
number_told _ = None
