-- What a run on the running heap writes.
use Rattle.std.specs.Prelude.{◌≡◌, ℕ, ◌<◌, ◌≤◌, Bool, true, List, ◌∷◌, ◌++◌, map, take, length, slice_get, Option, Some}
use Rattle.std.specs.Prelude.{None}
use Rattle.std.specs.List.{All, Contains}
use Rattle.sh_value.specs.declared.refusal.Refusal.TheVariants as refusal
use Rattle.sh_history.specs.declared.entry.Entry.{Entry}
use Rattle.sh_history.specs.declared.entry.Entry.TheVariants.{Insert, Gone}
use Rattle.sh_history.specs.Laws.{HasRemoval}
use Rattle.sh_history.specs.Log.{pass_of}
use Rattle.sh_table.specs.Tales.{by}
use Rattle.sh_script.specs.declared.calls.Call.{Call}
use Rattle.sh_script.specs.declared.calls.Call.TheVariants as call
use Rattle.sh_script.specs.declared.calls.CallLine.{CallLine}
use Rattle.sh_script.specs.declared.calls.Reference.{Reference}
use Rattle.sh_script.specs.declared.calls.Reference.TheVariants as reference
use Rattle.script_output.specs.declared.answer.Answer.{Answer}
use Rattle.script_output.specs.declared.answer.Answer.TheVariants as answer
use Rattle.script_output.specs.Keys.{key_shown}
use Rattle.script_output.specs.Replies.{replies_text}
use Rattle.sh_table.specs.Seats.{Heap}
use Rattle.script_calls.specs.Parts.{RunTerms, PassPart, PassTold, HasWholeTale, passes_below}
use Rattle.script_calls.specs.InOrder.{IsInOrder, entries_added}
use Rattle.script_calls.specs.Named.{NamesComeFirst, BindsNeeded, numbers_told}
use Rattle.script_calls.specs.Runs.{CallsRun, LinesAnswered, opening_calls, number_meant}

-- each pass with the entries of its part
abbrev pub part_told : (ℕ → PassPart) → ℕ → PassTold
part_told parts pass = record { pass = pass; log = (parts pass).log }

-- The output is the reply lines of answers to these lines, in their order. Each answer is one that the line's call may
-- have. It depends on what its own pass of the heap did on the lines before, and on the numbers of the names.
pub record AreReplies (heap : Option Heap) (terms : RunTerms) (tag : Option ℕ) (lines : List CallLine)
    (output : List ℕ) : Type 0 where
  pub answers : List Answer
  pub after : CallsRun
  pub ran : LinesAnswered terms tag (opening_calls heap) lines answers after
  pub is : output ≡ replies_text lines answers

-- The same, when all passes met at the end: this is their tale. There is one legal history in which the entries of each
-- pass are exactly those that its answers say, in order, and there are no others. What a pass did before it bound a name
-- comes before what a pass does once it waited for the name, or was on it. If the lines ran one after the other, the
-- entries of all passes are in the order of the lines.
pub record IsTold (alone : Bool) (heap : Option Heap) (terms : RunTerms) (tag : Option ℕ) (lines : List CallLine)
    (output : List ℕ) (tale : List PassTold) : Type 0 where
  pub within : All (λ (l : CallLine). l.pass < terms.shape.passes) lines
  pub replies : AreReplies heap terms tag lines output
  pub tale_is : tale ≡ map (part_told replies.after.parts) (passes_below terms.shape.passes)
  pub whole : HasWholeTale terms tale
  pub named : NamesComeFirst lines replies.answers whole.history
  pub in_order : alone ≡ true → IsInOrder lines replies.answers whole.history

-- ---- which outputs that refuses

-- in this history, the entry of the pass that comes after its `first` first ones has the insert of the key before it
pub record FollowsInsert (history : List Entry) (pass first key : ℕ) : Type 0 where
  pub early : List Entry
  pub own : Entry
  pub late : List Entry
  pub is : history ≡ early ++ own ∷ late
  pub pass_is : pass_of own ≡ pass
  pub first_are : length (by pass early) ≡ first
  pub inserter : ℕ
  pub value : List ℕ
  pub inserted : Contains early (Insert inserter key value)

-- The number is that of a key. The entry of the pass that comes after its `first` first ones is Gone, and the insert
-- and a removal of the key come before it.
pub record WasRemoved (history : List Entry) (tag : Option ℕ) (pass first number : ℕ) : Type 0 where
  pub key : ℕ
  pub shown : key_shown tag number ≡ Some key
  pub follows : FollowsInsert history pass first key
  pub gone : follows.own ≡ Gone pass key
  pub removed : HasRemoval follows.early key

-- in such a run a line on a name gets Gone only if the key was removed before
abbrev pub NamedIsRemoved : Type 0
NamedIsRemoved = (alone : Bool) (heap : Option Heap) (terms : RunTerms) (tag : Option ℕ) (lines : List CallLine)
    (output : List ℕ) (tale : List PassTold) (t : IsTold alone heap terms tag lines output tale)
    → (i : ℕ) (l : CallLine) (number : ℕ) → slice_get lines i ≡ Some l
    → slice_get t.replies.answers i ≡ Some (answer.Refused refusal.Gone)
    → number_meant (numbers_told (take i lines) t.replies.answers) l.call ≡ Some number
    → WasRemoved t.whole.history tag l.pass (entries_added l.pass (take i lines) t.replies.answers) number

-- the number that a call is on: the one that is written, or the one that its name is bound to
abbrev pub number_of : Option ℕ → Reference → Option ℕ
number_of bound (reference.Key number) = Some number
number_of bound (reference.Name i) = bound

abbrev pub number_on : Option ℕ → Call → Option ℕ
number_on bound (call.Get r) = number_of bound r
number_on bound (call.Read r) = number_of bound r
number_on bound (call.Remove r) = number_of bound r
number_on bound (call.Release r) = number_of bound r
number_on bound _ = None

-- In such a run let line k insert a key, and let line j of its pass, which is not before line k, bind a name. Let line i
-- need the name, and let line m of the same pass, which is not before line i, be on the key. It gets Gone only if the
-- key was removed before.
abbrev pub PostedIsRemoved : Type 0
PostedIsRemoved = (alone : Bool) (heap : Option Heap) (terms : RunTerms) (tag : Option ℕ) (lines : List CallLine)
    (output : List ℕ) (tale : List PassTold) (t : IsTold alone heap terms tag lines output tale)
    → (k j i m : ℕ) (inserter binder l last : CallLine) (words : List ℕ) (number : ℕ) → k ≤ j → j < i → i ≤ m
    → slice_get lines k ≡ Some inserter → inserter.call ≡ call.Insert words
    → slice_get t.replies.answers k ≡ Some (answer.Key number)
    → binder.pass ≡ inserter.pass → BindsNeeded lines j binder l.call → slice_get lines i ≡ Some l
    → last.pass ≡ l.pass → slice_get lines m ≡ Some last
    → slice_get t.replies.answers m ≡ Some (answer.Refused refusal.Gone)
    → number_on (number_meant (numbers_told (take m lines) t.replies.answers) last.call) last.call ≡ Some number
    → WasRemoved t.whole.history tag last.pass (entries_added last.pass (take m lines) t.replies.answers) number
