-- How pages of an owner move between its queues.
use Rattle.std.specs.Prelude.{ℕ, ◌+◌, ◌-◌, ◌==◌, ◌||◌, Bool, false, cond, List, [], ◌∷◌, Option, Some, None}
use Rattle.sh_queue.specs.Numbers.{has_number}
use Rattle.sh_queue.specs.Queues.{PageQueues, at_back, among_full}
use Rattle.sh_shard.specs.Pages.{Paged, page_at, seen_class}

-- page p comes back to its class, at the back, if it is in the full queue
abbrev pub come_back : ℕ → Paged → PageQueues → PageQueues
come_back p v q = cond (has_number p q.full) (at_back (seen_class (page_at v p) - 1) p q) q

-- these pages come back, in this order
abbrev pub come_back_each : Paged → List ℕ → PageQueues → PageQueues
come_back_each v [] q = q
come_back_each v (p ∷ ps) q = come_back_each v ps (come_back p v q)

-- whether one of these pages has class c
abbrev pub any_of_class : ℕ → Paged → List ℕ → Bool
any_of_class c v [] = false
any_of_class c v (p ∷ ps) = (seen_class (page_at v p) == c + 1) || any_of_class c v ps

-- the page that gained a slot comes back, if there is one
abbrev pub gained_back : Option ℕ → Paged → PageQueues → PageQueues
gained_back None v q = q
gained_back (Some p) v q = come_back p v q

-- where a page of class c goes that was tried in vain: to the back of the class if its cursor waits, and to the full
-- queue if it has none
abbrev pub aside_by : Option ℕ → (c p : ℕ) → PageQueues → PageQueues
aside_by None c p q = among_full p q
aside_by (Some _) c p q = at_back c p q

abbrev pub set_aside : (c p : ℕ) → Paged → PageQueues → PageQueues
set_aside c p v q = aside_by (page_at v p).cursor c p q

-- these pages of class c were tried in vain, in this order
abbrev pub turned_past : ℕ → Paged → List ℕ → PageQueues → PageQueues
turned_past c v [] q = q
turned_past c v (p ∷ ps) q = turned_past c v ps (set_aside c p v q)
