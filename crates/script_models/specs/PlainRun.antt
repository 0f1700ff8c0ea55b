-- A run of calls on the plain store, line by line.
use Rattle.std.specs.Prelude.{◌≡◌, ℕ, ok_or, nat_lt, nat_le, not, Bool, true, false, List, [], ◌∷◌, ◌++◌, length}
use Rattle.std.specs.Prelude.{replicate, slice_get, slice_index_or, slice_set, Option, Some, None, IsSome, Result, Ok}
use Rattle.std.specs.Prelude.{Err, if◌then◌else◌}
use Rattle.std.specs.Result.{result_ok}
use Rattle.sh_value.specs.declared.refusal.Refusal.{Refusal}
use Rattle.sh_value.specs.declared.refusal.Refusal.TheVariants as refusal
use Rattle.sh_key.specs.Layout.{Layout}
use Rattle.sh_plain.specs.Plain.{Plain, PlainReply, Replied, refused, with_added, insert_reply, get_reply, read_answer}
use Rattle.sh_plain.specs.Plain.{remove_reply, release_reply}
use Rattle.sh_script.specs.declared.calls.Reference.{Reference}
use Rattle.sh_script.specs.declared.calls.Reference.TheVariants as reference
use Rattle.sh_script.specs.declared.calls.Call.{Call}
use Rattle.sh_script.specs.declared.calls.Call.TheVariants as call
use Rattle.sh_script.specs.declared.calls.CallLine.{CallLine}
use Rattle.script_output.specs.declared.answer.Answer.{Answer}
use Rattle.script_output.specs.declared.answer.Answer.TheVariants as answer
use Rattle.script_output.specs.Keys.{key_shown}
pub use Rattle.script_output.specs.Results.{done_answer, value_answer, key_answer}

-- The tag of the keys in the script, if they have one; the store; for each pass whether it has a shard. For each name
-- that is bound, its key, or none if the insert was refused or a post bound it.
pub record Run : Type 0 where
  pub shards : ℕ
  pub tag : Option ℕ
  pub store : Plain
  pub owners : List Bool
  pub keys : List (Option ℕ)

abbrev pub run_of : ℕ → Option ℕ → Plain → List Bool → List (Option ℕ) → Run
run_of shards tag store owners keys = record { shards = shards; tag = tag; store = store; owners = owners; keys = keys }

-- no pass has a shard, and no name is bound
abbrev pub opening_run : (shards passes : ℕ) → Option ℕ → Run
opening_run shards passes tag =
    run_of shards tag (record { entries = []; pass = 0; passes = passes }) (replicate 64 false) []

-- the pass whose call is run
abbrev pub at_turn : Run → ℕ → Run
at_turn run pass = record run { store = record run.store { pass = pass } }

-- whether that pass has a shard
abbrev pub has_shard : Run → Bool
has_shard run = slice_index_or run.owners run.store.pass false

-- ---- adopt; whether another pass has the shard does not matter

abbrev pub adopt_answer : Run → ℕ → Answer
adopt_answer run shard =
    if has_shard run then answer.Refused refusal.Taken
    else if nat_le run.shards shard then answer.Refused refusal.NoShard
    else answer.Done

abbrev pub adopts : Run → ℕ → Run
adopts run shard =
    if has_shard run then run
    else if nat_le run.shards shard then run
    else record run { owners = slice_set run.owners run.store.pass true }

-- ---- leave

abbrev pub leave_answer : Run → Answer
leave_answer run = if has_shard run then answer.Done else answer.Refused refusal.NoShard

abbrev pub leaves : Run → Run
leaves run = if has_shard run then record run { owners = slice_set run.owners run.store.pass false } else run

-- ---- insert

-- what the store returns, once the words fit a value and the pass has a shard
abbrev pub insert_attempt : Layout → Run → List ℕ → PlainReply ℕ
insert_attempt layout run words =
    if nat_lt 16 (length words) then refused refusal.TooLong
    else if not (has_shard run) then refused refusal.NoShard
    else insert_reply layout run.store words

-- the attempt has this answer, or its memory was refused; the name is bound to the key, if there is one
pub record Inserts (layout : Layout) (run : Run) (words : List ℕ) (told : Answer) (next : Run) : Type 0 where
  pub result : Result ℕ Refusal
  pub replied : Replied (insert_attempt layout run words) run.store result next.store
  pub is : told ≡ key_answer run.tag result
  pub next_is : next ≡ record run { store = next.store; keys = run.keys ++ result_ok result ∷ [] }

-- ---- calls on a name or a key

-- the key of a name, if its insert was not refused
abbrev pub bound_key : Option (Option ℕ) → Result ℕ Answer
bound_key (Some (Some key)) = Ok key
bound_key _ = Err answer.Unbound

-- the key that a call refers to, or the answer if there is no key
abbrev pub key_of : Run → Reference → Result ℕ Answer
key_of run (reference.Key number) = ok_or (key_shown run.tag number) (answer.Refused refusal.BadKey)
key_of run (reference.Name i) = bound_key (slice_get run.keys i)

-- the call on a key has this reply, whose entry the store gains
abbrev pub HasReply : {A : Type 0} → (Plain → ℕ → PlainReply A) → Run → Result ℕ Answer → Answer → Run → Type 0
HasReply reply run (Err a) told next = (told ≡ a) × (next ≡ run)
HasReply reply run (Ok key) told next =
    (told ≡ done_answer (reply run.store key).answer)
    × (next ≡ record run { store = with_added run.store (reply run.store key).adds })

-- the call has an entry, for which memory may be refused
abbrev pub MayEnd : {A : Type 0} → (Plain → ℕ → PlainReply A) → Run → Result ℕ Answer → Type 0
MayEnd reply run (Err a) = ⊥
MayEnd reply run (Ok key) = IsSome (reply run.store key).adds

abbrev pub Reads : Run → Result ℕ Answer → Answer → Run → Type 0
Reads run (Err a) told next = (told ≡ a) × (next ≡ run)
Reads run (Ok key) told next = (told ≡ value_answer (read_answer run.store key)) × (next ≡ run)

-- ---- a line, and lines

abbrev pub CallDoes : Layout → Run → Call → Answer → Run → Type 0
CallDoes layout run (call.Adopt shard) told next = (told ≡ adopt_answer run shard) × (next ≡ adopts run shard)
CallDoes layout run (call.Insert words) told next = Inserts layout run words told next
CallDoes layout run call.Leave told next = (told ≡ leave_answer run) × (next ≡ leaves run)
CallDoes layout run (call.Get r) told next = HasReply (get_reply layout) run (key_of run r) told next
CallDoes layout run (call.Read r) told next = Reads run (key_of run r) told next
CallDoes layout run (call.Remove r) told next = HasReply (remove_reply layout) run (key_of run r) told next
CallDoes layout run (call.Release r) told next = HasReply release_reply run (key_of run r) told next
CallDoes layout run call.Post told next = (told ≡ answer.Done) × (next ≡ record run { keys = run.keys ++ None ∷ [] })
CallDoes layout run (call.Wait name) told next = (told ≡ answer.Done) × (next ≡ run)

abbrev pub TakesLine : Layout → Run → CallLine → Answer → Run → Type 0
TakesLine layout run line told next = CallDoes layout (at_turn run line.pass) line.call told next

-- the calls that end a run if memory for their entry is refused; an insert returns an answer then
abbrev pub CallEnds : Layout → Run → Call → Type 0
CallEnds layout run (call.Get r) = MayEnd (get_reply layout) run (key_of run r)
CallEnds layout run (call.Remove r) = MayEnd (remove_reply layout) run (key_of run r)
CallEnds layout run (call.Release r) = MayEnd release_reply run (key_of run r)
CallEnds layout run _ = ⊥

abbrev pub EndsAt : Layout → Run → CallLine → Type 0
EndsAt layout run line = CallEnds layout (at_turn run line.pass) line.call

-- these lines have these answers, one after the other
abbrev pub Ran : Layout → Run → List CallLine → List Answer → Run → Type 0
Ran layout run [] [] after = after ≡ run
Ran layout run [] (a ∷ answers) after = ⊥
Ran layout run (l ∷ lines) [] after = ⊥
Ran layout run (l ∷ lines) (a ∷ answers) after =
    (next : Run) × TakesLine layout run l a next × Ran layout next lines answers after
