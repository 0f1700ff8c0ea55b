-- How the lines of a script ended on the passes of a heap.
use Rattle.std.specs.Prelude.{◌≡◌, ℕ, ◌<◌, nat_lt, not, Bool, true, List, [], ◌∷◌, ◌⊎◌, Option, Some, None, IfSome}
use Rattle.std.specs.Prelude.{IfNone, length, slice_get}
use Rattle.sh_history.specs.declared.entry.Entry.{Entry}
use Rattle.sh_history.specs.Log.{entries_of}
use Rattle.sh_script.specs.declared.calls.CallLine.{CallLine}
use Rattle.script_output.specs.declared.answer.Answer.{Answer}
use Rattle.sh_table.specs.Seats.{Heap}
use Rattle.sh_table.specs.Tales.{Before}
use Rattle.sh_table.specs.Views.{Each}
use Rattle.script_calls.specs.Parts.{SeenPass, RunTerms, HasAllLogs, no_terms, new_passes, tale_told}
use Rattle.script_calls.specs.InOrder.{IsInOrder}
use Rattle.script_calls.specs.Named.{NamesComeFirst}
use Rattle.script_calls.specs.Stepping.{StepsInTurn}
use Rattle.script_calls.specs.Leaving.{AreStuck}
use Rattle.script_calls.specs.Told.{IsTold}
use Rattle.script_calls.specs.Meeting.{CarriesTale, OwnsNone, EndedAmong, parts_carried}

-- the heap of passes that are of one heap, and what stays the same in it
abbrev pub heap_seen : List SeenPass → Option Heap
heap_seen [] = None
heap_seen (s ∷ ss) = s.heap

abbrev pub terms_seen : List SeenPass → RunTerms
terms_seen [] = no_terms
terms_seen (s ∷ ss) = s.terms

-- they are all the passes of one heap, in order, and have done nothing yet
abbrev pub AreAllNew : List SeenPass → Type 0
AreAllNew ss = ss ≡ new_passes (heap_seen ss) (terms_seen ss) (terms_seen ss).shape.passes

-- in every history of the tale that keeps the orders, the entries are in the order of the lines that added them
abbrev pub IsOrderedBy : RunTerms → List CallLine → List Answer → SeenPass → Type 0
IsOrderedBy terms lines answers c = (history : List Entry) → HasAllLogs history (tale_told c)
    → entries_of (λ p. not (nat_lt p terms.shape.passes)) history ≡ [] → Each (Before history) c.orders
    → IsInOrder lines answers history

-- in every history of the tale that keeps the orders, names come first
abbrev pub IsNamedBy : RunTerms → List CallLine → List Answer → SeenPass → Type 0
IsNamedBy terms lines answers c = (history : List Entry) → HasAllLogs history (tale_told c)
    → entries_of (λ p. not (nat_lt p terms.shape.passes)) history ≡ [] → Each (Before history) c.orders
    → NamesComeFirst lines answers history

-- The replies were written, and this pass owns no shard and carries the tale of all. It has heard of what they heard of
-- names. If the lines ran one after the other, it has heard of their order, and of the order of their steps.
pub record CarrierRan (alone : Bool) (heap : Option Heap) (terms : RunTerms) (tag : Option ℕ) (lines : List CallLine)
    (output : List ℕ) (c : SeenPass) : Type 0 where
  pub told : IsTold alone heap terms tag lines output (tale_told c)
  pub carries : CarriesTale heap terms (Some c) (tale_told c)
  pub none : OwnsNone (Some c)
  pub named : IsNamedBy terms lines told.replies.answers c
  pub ended : (p : ℕ) → p < terms.shape.passes → EndedAmong (parts_carried c) p (told.replies.after.parts p)
  pub ordered : alone ≡ true → IsOrderedBy terms lines told.replies.answers c
  pub steps : alone ≡ true → StepsInTurn c.orders heap terms tag lines told.replies.answers told.replies.after

-- These are all passes of the heap, in order. One was refused when it left its shard, and then all ended in one bundle.
-- No run of the core leads to that: `no_pass_is_stuck` of script_heap.
pub record AllAreStuck (terms : RunTerms) : Type 0 where
  pub passes : List SeenPass
  pub all : length passes ≡ terms.shape.passes
  pub numbers : (p : ℕ) (s : SeenPass) → slice_get passes p ≡ Some s → s.pass ≡ p
  pub stuck : AreStuck terms passes

-- The replies were written. If there is a carrier, it carries the tale of all. There is none only if a pass was refused
-- when it left its shard, or if there is no pass.
pub record LinesRan (alone : Bool) (heap : Option Heap) (terms : RunTerms) (tag : Option ℕ) (lines : List CallLine)
    (output : List ℕ) (carrier : Option SeenPass) : Type 0 where
  pub met : IfSome carrier (CarrierRan alone heap terms tag lines output)
  pub stays : IfNone carrier (AllAreStuck terms ⊎ (terms.shape.passes ≡ 0))
