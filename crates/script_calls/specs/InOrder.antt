-- A history whose entries are in the order of the lines that added them.
use Rattle.std.specs.Prelude.{◌≡◌, ℕ, ◌<◌, ◌≤◌, ◌==◌, Bool, true, false, cond, List, [], ◌∷◌, ◌++◌, map, length, filter}
use Rattle.std.specs.Prelude.{Option, Some, None}
use Rattle.std.specs.List.{Contains}
use Rattle.sh_value.specs.declared.refusal.Refusal.TheVariants as refusal
use Rattle.sh_history.specs.declared.entry.Entry.{Entry}
use Rattle.sh_history.specs.Log.{pass_of}
use Rattle.sh_table.specs.declared.view.Heard.{Heard}
use Rattle.sh_table.specs.Seats.{Heap}
use Rattle.sh_table.specs.Tales.{by, Before}
use Rattle.sh_table.specs.Views.{Each}
use Rattle.sh_script.specs.declared.calls.Call.{Call}
use Rattle.sh_script.specs.declared.calls.Call.TheVariants as call
use Rattle.sh_script.specs.declared.calls.CallLine.{CallLine}
use Rattle.script_output.specs.declared.answer.Answer.{Answer}
use Rattle.script_output.specs.declared.answer.Answer.TheVariants as answer
use Rattle.sh_pass.specs.Passes.{Caller}
use Rattle.script_calls.specs.Receipts.{seen_of_receipt}

-- ---- which lines add an entry

abbrev pub is_key : Answer → Bool
is_key (answer.Key k) = true
is_key _ = false

abbrev pub is_done : Answer → Bool
is_done answer.Done = true
is_done _ = false

abbrev pub is_done_or_gone : Answer → Bool
is_done_or_gone answer.Done = true
is_done_or_gone (answer.Refused refusal.Gone) = true
is_done_or_gone _ = false

abbrev pub is_done_gone_or_crowded : Answer → Bool
is_done_gone_or_crowded (answer.Refused refusal.Crowded) = true
is_done_gone_or_crowded a = is_done_or_gone a

-- a call with this answer adds an entry to the history
abbrev pub adds_entry : Call → Answer → Bool
adds_entry (call.Insert words) a = is_key a
adds_entry (call.Get r) a = is_done_gone_or_crowded a
adds_entry (call.Remove r) a = is_done_or_gone a
adds_entry (call.Release r) a = is_done a
adds_entry _ a = false

-- the pass of each line that adds an entry, in the order of the lines
abbrev pub adding_passes : List CallLine → List Answer → List ℕ
adding_passes [] answers = []
adding_passes (l ∷ lines) [] = []
adding_passes (l ∷ lines) (a ∷ answers) = cond (adds_entry l.call a) (l.pass ∷ []) [] ++ adding_passes lines answers

-- The entries are in the order of the lines that added them. Those of each pass are in its own order in any case. So
-- the first entry is that of the first line that adds one, the second that of the second, and so on.
abbrev pub IsInOrder : List CallLine → List Answer → List Entry → Type 0
IsInOrder lines answers history = map pass_of history ≡ adding_passes lines answers

-- once for each entry of pass a, if these are the passes of entries
abbrev pub times : ℕ → List ℕ → List ℕ
times a who = filter (λ p. p == a) who

-- how many entries of the pass these lines add
abbrev pub entries_added : ℕ → List CallLine → List Answer → ℕ
entries_added pass lines answers = length (times pass (adding_passes lines answers))

-- in this history the first `done` entries of pass p come before all entries of pass a except its `first` first ones
pub record Precedes (history : List Entry) (p done a first : ℕ) : Type 0 where
  pub early : List Entry
  pub late : List Entry
  pub is : history ≡ early ++ late
  pub heard : done ≤ length (by p early)
  pub own : length (by a early) ≤ first

-- ---- how it is found; `who` lists the passes of the entries that there are by now

-- the history has a prefix with all entries of pass p that there are by now, and with no later ones of pass a
abbrev pub Cut : List Entry → List ℕ → (p a : ℕ) → Type 0
Cut history who p a = Precedes history p (length (times p who)) a (length (times a who))

-- the pass that added an entry had heard of all entries before it
abbrev pub AllHeard : List Entry → List ℕ → Type 0
AllHeard history who = (before after : List ℕ) (a : ℕ) → who ≡ before ++ a ∷ after → (p : ℕ) → Cut history before p a

-- if there are such entries, the first `done` ones of pass p are among what was heard
abbrev pub Covers : List Heard → (p done : ℕ) → Type 0
Covers heard p done = 0 < done → (h : Heard) × Contains heard h × (h.pass ≡ p) × (done ≤ length h.log)

-- the receipt contains all entries that there are by now
pub record HeardAll (heap : Option Heap) (who : List ℕ) (r : Caller) : Type 0 where
  pub heap_is : (seen_of_receipt r).heap ≡ heap
  pub heard : (p : ℕ) → Covers (seen_of_receipt r).heard p (length (times p who))
  pub orders : (history : List Entry) → Each (Before history) (seen_of_receipt r).orders → AllHeard history who

abbrev pub LastHeard : Option Heap → List ℕ → Option Caller → Type 0
LastHeard heap who None = who ≡ []
LastHeard heap who (Some r) = HeardAll heap who r
