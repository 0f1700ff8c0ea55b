-- What modes heap and threads write for a script of calls: the reply lines, and then the accounts of the pages, if they
-- are asked for.
use Rattle.std.specs.Prelude.{◌≡◌, ℕ, ◌<◌, Bool, true, false, List, [], ◌++◌, Option, Some}
use Rattle.std.specs.List.{All}
use Rattle.sh_key.specs.Layout.{Layout}
use Rattle.sh_shape.specs.Shape.{Numbers}
use Rattle.sh_history.specs.declared.entry.Entry.{Entry}
use Rattle.sh_step.specs.declared.action.Event.{Event}
use Rattle.sh_step.specs.Plans.{plan_of}
use Rattle.sh_core.specs.Worlds.{run}
use Rattle.sh_script.specs.HeaderMeaning.{layout_of}
use Rattle.sh_script.specs.Scripts.{IsCalls}
use Rattle.sh_script.specs.declared.calls.CallLine.{CallLine}
use Rattle.sh_script.specs.declared.header.Header.{Header}
use Rattle.sh_table.specs.declared.view.Order.{Order}
use Rattle.sh_table.specs.Seats.{Heap}
use Rattle.sh_table.specs.Tales.{Before}
use Rattle.sh_table.specs.Views.{Each}
use Rattle.sh_table.specs.declared.view.Own.{Own}
use Rattle.sh_table.specs.declared.view.Told.{Told}
use Rattle.sh_table.specs.Reached.{HasOwn, StepsBefore}
use Rattle.sh_step.specs.Plans.{Plan}
use Rattle.script_calls.specs.OwnParts.{EndsWith}
use Rattle.script_calls.specs.Parts.{PassPart, PassTold, HasWholeTale, heap_terms}
use Rattle.script_calls.specs.Receipts.{HeedsTwice}
use Rattle.script_calls.specs.Told.{IsTold}
use Rattle.script_calls.specs.Runs.{opening_calls}
use Rattle.script_heap.specs.ByLine.{RunsByLine}
use Rattle.script_heap.specs.WholeAccounts.{AreAccountLines}

-- account lines after events whose log is one history of this tale; it keeps these orders, and so do the steps of the
-- events, after which each pass has its own part of these
pub record TellsTale (layout : Layout) (shape : Numbers) (tale : List PassTold) (orders : List Order)
    (carried : List Told) (text : List ℕ) : Type 0 where
  pub whole : HasWholeTale (heap_terms layout shape) tale
  pub kept : Each (Before whole.history) orders
  pub events : List Event
  pub log : (run (plan_of layout shape) events).log ≡ whole.history
  pub lines : AreAccountLines layout shape events whole.history text
  pub parts : All (λ t. HasOwn (plan_of layout shape) events t.pass t.own) carried
  pub steps : Each (StepsBefore (plan_of layout shape) events) orders

-- After these events the pass has exactly the own part with which it ended. So its steps among these events are those
-- that it did, in order, and each found the word that the pass found. It may have heeded two receipts before it ended.
abbrev pub EndsInRun : Plan → List Event → (pass : ℕ) → PassPart → Type 0
EndsInRun plan events pass part = (begins : PassPart) × HeedsTwice part begins × (own : Own)
    × EndsWith begins.stands own × HasOwn plan events pass own

-- account lines after these events, if they are asked for; otherwise none
abbrev pub AccountsAsked : (asked : Bool) → Layout → Numbers → List Event → List Entry → List ℕ → Type 0
AccountsAsked true layout shape events history text = AreAccountLines layout shape events history text
AccountsAsked false layout shape events history text = text ≡ []

-- The replies are those of the tale of all passes of a heap of this shape. Its history is the log of a run of the core,
-- whose steps are those that the passes did. After the replies come the account lines after the events of this run, if
-- they are asked for. If the lines ran one after the other, the history has the entries in the order of the lines. The
-- events are then those of the lines, one line after the other, and after them those of the leaves at the end.
pub record IsHeapOutput (alone : Bool) (layout : Layout) (shape : Numbers) (tag : Option ℕ) (lines : List CallLine)
    (asked : Bool) (output : List ℕ) : Type 0 where
  pub heap : Heap
  pub of_shape : heap.shape ≡ shape
  pub replies : List ℕ
  pub tale : List PassTold
  pub told : IsTold alone (Some heap) (heap_terms layout shape) tag lines replies tale
  pub events : List Event
  pub log : (run (plan_of layout shape) events).log ≡ told.whole.history
  pub steps : (p : ℕ) → p < shape.passes → EndsInRun (plan_of layout shape) events p (told.replies.after.parts p)
  pub by_line : alone ≡ true → RunsByLine (plan_of layout shape) [] events (heap_terms layout shape) tag
      (opening_calls (Some heap)) lines told.replies.answers told.replies.after
  pub accounts : List ℕ
  pub is : output ≡ replies ++ accounts
  pub are : AccountsAsked asked layout shape events told.whole.history accounts

-- the text is a script of calls, and this is what its run on the running heap may write
pub record IsHeap (alone asked : Bool) (text output : List ℕ) : Type 0 where
  pub header : Header
  pub lines : List CallLine
  pub is_calls : IsCalls text header lines
  pub is_output : IsHeapOutput alone (layout_of header.layout) header.shape header.tag lines asked output
