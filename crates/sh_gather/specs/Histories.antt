-- The histories of a tale, and the lists of events that lead to what a view has noted.
use Rattle.std.specs.Prelude.{◌≡◌, ◌<◌, List, All}
use Rattle.sh_history.specs.declared.entry.Entry.{Entry}
use Rattle.sh_history.specs.Log.{pass_of}
use Rattle.sh_key.specs.Layout.{Layout}
use Rattle.sh_step.specs.declared.action.Event.{Event}
use Rattle.sh_step.specs.Plans.{plan_of}
use Rattle.sh_core.specs.Lists.{PutLists, lists_of}
use Rattle.sh_core.specs.Words.{read}
use Rattle.sh_core.specs.Worlds.{World, run}
use Rattle.sh_table.specs.declared.view.View.{View}
use Rattle.sh_table.specs.Views.{Each}
use Rattle.sh_table.specs.Tales.{IsTale}
use Rattle.sh_table.specs.Reached.{HasOwn, StepsBefore}

-- A legal history with the log of each pass of the tale, in the order of the joins. Entries of passes outside the heap
-- are left out, since a tale says nothing of a pass that it does not name. Which numbers its passes have does not
-- decide whether a history is legal. So with such entries even a tale that names all passes of the heap would have
-- histories in which a pass that does not exist inserts and removes keys. The number of keys would then differ between
-- histories
pub record IsHistory (layout : Layout) (v : View) (history : List Entry) : Type 0 where
  pub tale : IsTale layout v history
  pub ours : All (λ e. pass_of e < v.shape.passes) history

-- the events lead to the words that were noted, and to the parts of the passes of the tale, and have the steps in the
-- orders that the view knows
pub record LeadsHere (layout : Layout) (v : View) (events : List Event) : Type 0 where
  pub noted : Each (λ n. read (run (plan_of layout v.shape) events).words n.0 ≡ n.1) v.noted
  pub own : HasOwn (plan_of layout v.shape) events v.pass v.own
  pub told : Each (λ t. HasOwn (plan_of layout v.shape) events t.pass t.own) v.told
  pub steps : Each (StepsBefore (plan_of layout v.shape) events) v.orders

-- this holds of world and lists after every list of events that leads here
abbrev pub Sure : Layout → View → (World → PutLists → Type 0) → Type 0
Sure layout v P = (es : List Event) → LeadsHere layout v es
    → P (run (plan_of layout v.shape) es) (lists_of (plan_of layout v.shape) es)

-- some list of events leads here, and its log is one of the histories
abbrev pub CanBe : Layout → View → Type 0
CanBe layout v = (es : List Event) × LeadsHere layout v es × IsHistory layout v (run (plan_of layout v.shape) es).log
