-- A page is tried: its lists are asked for a slot, also once it is collected, and once it is armed.
use Rattle.std.proofs.Common.{◌≡◌, ℕ, ◌+◌, Bool, true, false, Option, Some, None, MatchOption, MatchBool, List}
use Rattle.std.proofs.Common.{IfSome, inr, ◌∙◌, sym, arith}
use Rattle.std.proofs.lemmas.Bool.{false≢true}
use Rattle.sh_key.specs.Layout.{Layout}
use Rattle.sh_lists.specs.Lists.{Lists}
use Rattle.sh_shard.specs.Pages.{Paged, page_at, NothingMine, WorksOn, CollectsPage, ArmsAndFollows, PageDone}
use Rattle.sh_shard.specs.Pages.{PageInserts}
use Rattle.sh_shard.specs.Pages.{TakesSteps, StepsForSlots, UsesFirst, SameLists, lists_at}
use Rattle.sh_shard.specs.Slots.{SameSlots, NoSlots, OwnFirst}
use Rattle.sh_shard.specs.Steps.{StepsAtMost}
use Rattle.sh_shard.proofs.Bounding.{slots_then, slots_most}
use Rattle.sh_shard.proofs.Slots.{none_same, own_then}
use Rattle.sh_shard.proofs.Working.{inserts_after, done_of, first_since}

-- a slot was found, or nothing is left in the page
pub slot_found : (p : ℕ) (b : Bool) (o m n : Paged) → CollectsPage p o m → ArmsAndFollows p m n
    → MatchBool b ((s : ℕ) × ((page_at n p).mine s ≡ true)) (NothingMine (page_at n p))
    → MatchBool b ((s : ℕ) × ((page_at n p).mine s ≡ true)) (PageDone o n p)
slot_found p true o m n g h e = e
slot_found p false o m n g h e = (done_of p o m n g h e).1

-- its slots are those that it had, unless it had none
pub slot_lists : (p : ℕ) (b : Bool) (o n : Paged) → NoSlots (lists_at o p)
    → MatchBool b (Unit {0}) (NoSlots (lists_at n p))
    → MatchBool b (OwnFirst (lists_at o p) (lists_at n p)) (SameSlots (lists_at o p) (lists_at n p))
slot_lists p true o n none e = inr none
slot_lists p false o n none e = none_same (lists_at o p) (lists_at n p) none e

-- a collected page has a slot: no more steps than if it was armed too
pub slot_collected : (p : ℕ) (o m : Paged) → CollectsPage p o m → StepsForSlots 4 p o m
slot_collected p o m g = let f = g.steps in omega arith

pub slot_guarded : (p : ℕ) (o m n : Paged) → CollectsPage p o m → ArmsAndFollows p m n → StepsForSlots 4 p o n
slot_guarded p o m n g h = slots_then 2 2 4 p o m n g.steps h.steps (omega arith)

-- ---- a try of a page that has a slot

has_none : {A : Type 0} (p : ℕ) (m : Paged) → (s : ℕ) × ((page_at m p).mine s ≡ true) → NothingMine (page_at m p) → A
has_none p m some none = absurd (false≢true (sym (none some.0) ∙ some.1))

pub tried : (p : ℕ) (value : List ℕ) (r : Option ℕ) (o m n : Paged) → WorksOn p o m
    → (s : ℕ) × ((page_at m p).mine s ≡ true)
    → MatchOption r ((n ≡ m) × NothingMine (page_at m p)) (λ key. PageInserts p value key m n)
    → MatchOption r (WorksOn p o n × PageDone o n p) (λ key. PageInserts p value key o n)
tried p value None o m n g some h = has_none p m some h.1
tried p value (Some key) o m n g some h = inserts_after p key value o m n g h

-- the first of the slots that were found is used
pub tried_first : (layout : Layout) (p : ℕ) (A : ℕ → Type 0) (r : Option ℕ) (o m n : Paged) → WorksOn p o m
    → OwnFirst (lists_at o p) (lists_at m p) → (s : ℕ) × ((page_at m p).mine s ≡ true)
    → MatchOption r ((n ≡ m) × NothingMine (page_at m p)) A
    → IfSome r (λ key. UsesFirst layout (SameSlots (lists_at m p)) p key m n)
    → MatchOption r (SameLists o n) (λ key. UsesFirst layout (OwnFirst (lists_at o p)) p key o n)
tried_first layout p A None o m n g own some used first = has_none p m some used.1
tried_first layout p A (Some key) o m n g own some used first = first_since layout (SameSlots (lists_at m p))
    (OwnFirst (lists_at o p)) p key o m n g.aside g.shard
    (λ (l : Lists) come. own_then (lists_at o p) (lists_at m p) l own come) g.beside first

-- the number of steps of a try
pub tried_steps : (p w : ℕ) (r : Option ℕ) (o m n : Paged) → StepsForSlots 4 p o m
    → (s : ℕ) × ((page_at m p).mine s ≡ true)
    → MatchOption r ((n ≡ m) × NothingMine (page_at m p)) (λ _. TakesSteps (w + 2) m n)
    → MatchOption r (StepsAtMost 4 o.owner n.owner) (λ _. StepsAtMost (w + 54) o.owner n.owner)
tried_steps p w None o m n t some e = has_none p m some e.1
tried_steps p w (Some key) o m n t some e = let f = slots_most 4 52 p o m t (omega arith) in omega arith

pub used_in : (A : ℕ → Type 0) (p w : ℕ) (m n : Paged) (r : Option ℕ)
    → MatchOption r ((n ≡ m) × NothingMine (page_at m p)) A → IfSome r (λ _. TakesSteps (w + 2) m n)
    → MatchOption r ((n ≡ m) × NothingMine (page_at m p)) (λ _. TakesSteps (w + 2) m n)
used_in A p w m n None used steps = used
used_in A p w m n (Some key) used steps = steps
