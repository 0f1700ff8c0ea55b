-- What heeding a receipt gives: all that was heard comes before all later results of its carrier.
use Rattle.std.specs.Prelude.{◌≡◌, ℕ, ◌≤◌, List, [], ◌∷◌, ◌++◌, length}
use Rattle.std.specs.List.{Contains}
use Rattle.sh_history.specs.declared.entry.Entry.{Entry}
use Rattle.sh_history.specs.declared.entry.Entry.TheVariants.{Insert, Got, Gone, Crowded, Removed, Seen}
use Rattle.sh_history.specs.declared.log.LogEntry.{LogEntry}
use Rattle.sh_history.specs.declared.log.LogEntry.TheVariants.{Known, Unread}
use Rattle.sh_history.specs.Laws.{HasRemoval}
use Rattle.sh_history.specs.Log.{Agrees}
use Rattle.sh_key.specs.Layout.{Layout}
use Rattle.sh_table.specs.declared.view.Heard.{Heard}
use Rattle.sh_table.specs.declared.view.Order.{Order}
use Rattle.sh_table.specs.declared.view.Told.{Told}
use Rattle.sh_table.specs.declared.view.View.{View}
use Rattle.sh_table.specs.Tales.{by, HasFirst, IsTale}
use Rattle.sh_table.specs.Views.{done_by}

-- the pass of the view got the result x after it had heard this of another pass
pub record AnsweredAfter (v : View) (h : Heard) (x : LogEntry) : Type 0 where
  pub order : Order
  pub stands : Contains v.orders order
  pub heard : order.heard ≡ h
  pub carrier : order.carrier ≡ v.pass
  pub before : List LogEntry
  pub after : List LogEntry
  pub log : v.own.log ≡ before ++ x ∷ after
  pub later : order.length ≤ length before

-- in this history the entry of x has these before it
pub record StandsAfter (history early : List Entry) (x : LogEntry) : Type 0 where
  pub entry : Entry
  pub late : List Entry
  pub is : history ≡ early ++ entry ∷ late
  pub agrees : Agrees x entry

-- In each history of the tale all that was heard comes before this very entry, and not only before an equal one: the
-- history has as many entries of the pass before it as the log has
abbrev pub HeardComesFirst : Type 0
HeardComesFirst = (layout : Layout) (v : View) (history : List Entry) → IsTale layout v history
    → (h : Heard) (x : LogEntry) (answered : AnsweredAfter v h x)
    → (early : List Entry) × StandsAfter history early x × HasFirst early h
    × (length (by v.pass early) ≡ length answered.before)

-- if a pass heard of a key's insert and then gets Gone for the key, a removal of the key came before
abbrev pub GoneIsRemoved : Type 0
GoneIsRemoved = (layout : Layout) (v : View) (history : List Entry) → IsTale layout v history
    → (h : Heard) (a p k : ℕ) (value : List ℕ) → Contains h.log (Known (Insert p k value))
    → (answered : AnsweredAfter v h (Known (Gone a k)))
    → (early : List Entry) × StandsAfter history early (Known (Gone a k)) × HasRemoval early k
    × (length (by v.pass early) ≡ length answered.before)

-- if a pass heard of a key's insert, each value that it got of the key is the inserted one
abbrev pub GotIsInserted : Type 0
GotIsInserted = (layout : Layout) (v : View) (history : List Entry) → IsTale layout v history
    → (o : Order) → Contains v.orders o → (a p k : ℕ) (value got : List ℕ)
    → Contains o.heard.log (Known (Insert p k value)) → Contains v.own.log (Known (Got a k got)) → got ≡ value

-- if a pass heard of a key's insert, each value that it saw of the key is the inserted one
abbrev pub SeenIsInserted : Type 0
SeenIsInserted = (layout : Layout) (v : View) (history : List Entry) → IsTale layout v history
    → (o : Order) → Contains v.orders o → (a p k : ℕ) (value seen : List ℕ)
    → Contains o.heard.log (Known (Insert p k value)) → Contains v.own.log (Known (Seen a k seen)) → seen ≡ value

-- the entry says that the key was still there
abbrev pub SaysThere : ℕ → LogEntry → Type 0
SaysThere k (Known (Got p j value)) = j ≡ k
SaysThere k (Known (Crowded p j)) = j ≡ k
SaysThere k (Known (Removed p j)) = j ≡ k
SaysThere k (Known (Seen p j value)) = j ≡ k
SaysThere k (Known _) = ⊥
SaysThere k (Unread p j) = j ≡ k

-- a pass that heard of a key's removal gets no later result that says the key is there
abbrev pub RemovedIsGone : Type 0
RemovedIsGone = (layout : Layout) (v : View) (history : List Entry) → IsTale layout v history
    → (h : Heard) (p k : ℕ) → Contains h.log (Known (Removed p k))
    → (x : LogEntry) → AnsweredAfter v h x → ¬ SaysThere k x

-- a pass that was taken in is heard whole: none of its entries comes after the carrier's first ones
abbrev pub NothingComesLater : Type 0
NothingComesLater = (layout : Layout) (v : View) (history : List Entry) → IsTale layout v history
    → (t : Told) → Contains v.told t → (o : Order) → Contains v.orders o
    → o.heard ≡ done_by t.pass t.own
    → (early : List Entry) × (late : List Entry) × (history ≡ early ++ late)
    × (length (by o.carrier early) ≡ o.length) × (by t.pass late ≡ [])
