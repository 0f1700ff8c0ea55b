-- Work on many pages and on the bell: what an insert, a prepare and a leave do before they put anything.
use Rattle.std.specs.Prelude.{◌≡◌, ◌≢◌, ℕ, ◌+◌, ◌<◌, ◌≤◌, List, [], ◌∷◌, Some, MatchOption}
use Rattle.sh_pass.specs.Owners.{Aside, NonePut}
use Rattle.sh_shard.specs.Pages.{Paged, page_at, PageDone, BellReads}

-- work on pages and on the bell that adds nothing to the log, puts nothing and changes no page's class
pub record WorksThroughout (o n : Paged) : Type 0 where
  pub aside : Aside o.owner n.owner
  pub put : NonePut o.owner n.owner
  pub log : n.owner.view.own.log ≡ o.owner.view.own.log
  pub shard : n.shard ≡ o.shard
  pub count : n.count ≡ o.count
  pub classes : (q : ℕ) → (page_at n q).class ≡ (page_at o q).class
  pub takes : (q : ℕ) → (page_at o q).takes ≤ (page_at n q).takes
  pub met : (q : ℕ) → (page_at o q).met ≤ (page_at n q).met
  pub bell_takes : o.bell.takes ≤ n.bell.takes
  pub bell_met : o.bell.met ≤ n.bell.met

-- the bell was taken and followed to its end, or one of its links was not written, in this work
abbrev pub BellDone : Paged → Paged → Type 0
BellDone o n = MatchOption n.bell.cursor (o.bell.takes < n.bell.takes) (λ _. o.bell.met < n.bell.met)

-- each page of another class than c has the slots that it had
abbrev pub KeepsOthers : ℕ → Paged → Paged → Type 0
KeepsOthers c o n = (q : ℕ) → (page_at o q).class ≢ Some (c + 1) → (s : ℕ)
    → (page_at n q).mine s ≡ (page_at o q).mine s

-- nothing of class c was left in any page of the class
pub record ClassDone (c : ℕ) (o n : Paged) : Type 0 where
  pub through : WorksThroughout o n
  pub done : (p : ℕ) → p < n.count → (page_at n p).class ≡ Some (c + 1) → PageDone o n p

-- page p was read from the bell, in this work
pub record ReadFromBell (p : ℕ) (o n : Paged) : Type 0 where
  pub before : Paged
  pub after : Paged
  pub first : WorksThroughout o before
  pub reads : BellReads p before after
  pub rest : WorksThroughout after n

-- work on the bell that left each page as it was
pub record BellAlone (o n : Paged) : Type 0 where
  pub through : WorksThroughout o n
  pub pages : (q : ℕ) → page_at n q ≡ page_at o q

-- these pages were read from the bell, in this order, and nothing else was done to any page
abbrev pub ReadInTurn : List ℕ → Paged → Paged → Type 0
ReadInTurn [] o n = BellAlone o n
ReadInTurn (p ∷ ps) o n = (before : Paged) × (after : Paged) × BellAlone o before × BellReads p before after
    × ReadInTurn ps after n
