-- The accounts of a heap all of whose passes met.
use Rattle.std.specs.Prelude.{◌≡◌, ℕ, List}
use Rattle.sh_key.specs.Layout.{Layout}
use Rattle.sh_shape.specs.Shape.{Numbers}
use Rattle.sh_history.specs.declared.entry.Entry.{Entry}
use Rattle.sh_step.specs.declared.action.Event.{Event}
use Rattle.sh_step.specs.Plans.{Plan, plan_of}
use Rattle.sh_core.specs.declared.accounts.Accounts.{Accounts}
use Rattle.sh_core.specs.Worlds.{run}
use Rattle.sh_accounts.specs.Accounts.{FillPage}
use Rattle.sh_pass.specs.Passes.{Caller}
use Rattle.sh_gather.specs.Histories.{IsHistory, LeadsHere}
use Rattle.sh_gather.specs.Gathering.{CountsKeys}
use Rattle.script_output.specs.AccountLines.{ShardsSaid, accounts_after, accounts_text}

-- The numbers of a page by the history: no slot is an owner's or in a hand, and the page's keys are counted by what the
-- history says of them. The queued slots are the rest of the slots of the page's class.
pub record HasNumbers (plan : Plan) (q : ℕ) (a : Accounts) (history : List Entry) : Type 0 where
  pub mine : a.mine ≡ 0
  pub hand : a.hand ≡ 0
  pub fill : FillPage a
  pub counts : CountsKeys plan q a history

-- the events lead to all that the pass knows, and their log is a history of its tale
pub record LeadsToWhole (layout : Layout) (c : Caller) (events : List Event) : Type 0 where
  pub shape : c.view.shape ≡ c.heap.shape
  pub leads : LeadsHere layout c.view events
  pub history : IsHistory layout c.view (run (plan_of layout c.view.shape) events).log

-- what the pass knows of page q: in every history of its tale the page has these numbers
pub record PageSaid (layout : Layout) (c : Caller) (q : ℕ) (a : Accounts) : Type 0 where
  pub numbers : (history : List Entry) → IsHistory layout c.view history
      → HasNumbers (plan_of layout c.view.shape) q a history

-- The account lines of a heap after these events: for each page with a class a line with its accounts. They are the
-- numbers of the page by the history.
pub record AreAccountLines (layout : Layout) (shape : Numbers) (events : List Event) (history : List Entry)
    (text : List ℕ) : Type 0
  where
    pub is : text ≡ accounts_text shape (accounts_after (plan_of layout shape) events)
    pub numbers : ShardsSaid (λ q a. HasNumbers (plan_of layout shape) q a history) shape
        (accounts_after (plan_of layout shape) events) shape.shards
