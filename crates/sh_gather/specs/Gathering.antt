-- The heap as a whole: a pass whose tale names all passes, the accounts that it finds of a page, and how a join adds up
-- what two passes know.
use Rattle.std.specs.Prelude.{◌≡◌, ℕ, ◌+◌, ◌≤◌, List, [], ◌∷◌, ◌++◌, length, drop, count_by, Option, None}
use Rattle.sh_word.specs.Fields.{Fields}
use Rattle.sh_key.specs.Layout.{Layout}
use Rattle.sh_shape.specs.declared.places.Place.{Place}
use Rattle.sh_slots.specs.declared.hand.Hand.TheVariants.{Idle}
use Rattle.sh_step.specs.Plans.{Plan, plan_of}
use Rattle.sh_history.specs.declared.entry.Entry.{Entry}
use Rattle.sh_core.specs.declared.accounts.Accounts.{Accounts}
use Rattle.sh_core.specs.Lists.{PutLists, accounts, among, state_of}
use Rattle.sh_core.specs.Refines.{live, marked, retired}
use Rattle.sh_core.specs.Stacks.{top}
use Rattle.sh_core.specs.Worlds.{World}
use Rattle.sh_accounts.specs.Accounts.{FillPage}
use Rattle.sh_table.specs.declared.view.View.{View}
use Rattle.sh_table.specs.Views.{joined_view}
use Rattle.sh_table.specs.Whole.{IsWhole}
use Rattle.sh_pass.specs.Passes.{Caller}
use Rattle.sh_gather.specs.PageKeys.{page_keys, is_live_key, is_marked_key, is_retired_key}
use Rattle.sh_gather.specs.Histories.{IsHistory, Sure, CanBe}
use Rattle.sh_gather.specs.Walks.{IsWholeStack}

-- the tale names each pass, and the pass itself has an idle hand and no shard, as each pass that it took in
pub record IsGathered (v : View) : Type 0 where
  pub whole : IsWhole v
  pub idle : v.own.body.hand ≡ Idle
  pub left : v.own.body.owned ≡ None

-- the view after the tales of these passes were joined in it, in order
abbrev pub met_view : View → List Caller → View
met_view v [] = v
met_view v (p ∷ ps) = met_view (joined_view v p.view) ps

-- the view of the last pass, in which the tales of the others are joined
abbrev pub IsGatheredFrom : List Caller → View → Type 0
IsGatheredFrom ps v = (others : List Caller) × ((last : Caller) × (ps ≡ others ++ last ∷ [])
    × (v ≡ met_view last.view others))

-- some words more were noted, and the rest is unchanged: the tale is as it was
abbrev pub NotedMore : View → View → Type 0
NotedMore v w = (more : List (Place × ℕ)) × (w ≡ record v { noted = v.noted ++ more })

-- so its histories are what they were
abbrev pub NotesKeepHistories : Type 0
NotesKeepHistories = (layout : Layout) (v w : View) (history : List Entry) → NotedMore v w
    → IsHistory layout v history → IsHistory layout w history

-- the accounts say how many of the keys of page q are live, marked and retired by the history
pub record CountsKeys (plan : Plan) (q : ℕ) (a : Accounts) (history : List Entry) : Type 0 where
  pub live : a.live ≡ count_by (is_live_key history) (page_keys plan q)
  pub marked : a.marked ≡ count_by (is_marked_key history) (page_keys plan q)
  pub retired : a.retired ≡ count_by (is_retired_key plan history) (page_keys plan q)

-- the accounts of page q of a heap of which all passes met
pub record AreWholeAccounts (layout : Layout) (v : View) (q : ℕ) (a : Accounts) : Type 0 where
  -- they are those of the core, after every list of events that leads here; and there is one
  pub reached : Sure layout v (λ w l. a ≡ accounts w l q)
  pub can_be : CanBe layout v
  -- nothing is an owner's or in a hand
  pub mine : a.mine ≡ 0
  pub hand : a.hand ≡ 0
  -- the queued slots are those of the page's stack, which was walked to its end; they are what the other three leave of
  -- the slots of the page's class, and a page without a class has no slots at all
  pub walked : (slots : List ℕ) × IsWholeStack v q slots × (a.queued ≡ length slots)
  pub fill : FillPage a
  -- every history of the tale gives the same counts of the page's keys
  pub counts : (history : List Entry) → IsHistory layout v history → CountsKeys (plan_of layout v.shape) q a history

-- ---- how they are found

-- how many of the first n slots of page q are live, marked, retired
pub record CountedTo (q n : ℕ) (a : Accounts) (w : World) : Type 0 where
  pub live : a.live ≡ among q (λ x. live (state_of w x)) n
  pub marked : a.marked ≡ among q (λ x. marked (state_of w x)) n
  pub retired : a.retired ≡ among q (λ x. retired (state_of w x)) n

-- with one slot of this state more
abbrev pub with_state : Accounts → Fields → Accounts
with_state a st = record {
  class = a.class;
  live = a.live + live st;
  marked = a.marked + marked st;
  retired = a.retired + retired st;
  mine = a.mine;
  hand = a.hand;
  queued = a.queued;
}

-- how many slots were counted by their states
abbrev pub states_counted : Accounts → ℕ
states_counted a = a.live + a.marked + a.retired

-- no slot is counted in another way
pub record StatesAlone (c : Option ℕ) (a : Accounts) : Type 0 where
  pub class : a.class ≡ c
  pub mine : a.mine ≡ 0
  pub hand : a.hand ≡ 0
  pub queued : a.queued ≡ 0

-- n slots of the page's stack were walked, and this number names the next
abbrev pub WalkedTo : ℕ → ℕ → ℕ → World → PutLists → Type 0
WalkedTo q n t w l = (n ≤ length (l.stack q)) × (t ≡ top (drop n (l.stack q)))
