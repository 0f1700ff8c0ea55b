-- The queues of an owner after pages of a class were tried in vain.
use Rattle.std.proofs.Common.{◌≡◌, ◌≢◌, ℕ, ◌⊎◌, inl, inr, ⊎_elim, true, Option, Some, None, List, [], ◌∷◌, ◌++◌}
use Rattle.std.proofs.Common.{slice_get, refl, ap, ◌∙◌, sym, subst}
use Rattle.std.proofs.lemmas.Bool.{cases_eq, false≢true}
use Rattle.sh_lists.specs.Numbers.{Distinct}
use Rattle.sh_lists.proofs.Distincts.{Misses-right}
use Rattle.sh_queue.specs.Numbers.{has_number}
use Rattle.sh_queue.specs.Queues.{PageQueues, at_back, among_full}
use Rattle.sh_queue.proofs.Numbers.{has_number-here, has_number-there, has_number-rest}
use Rattle.sh_pass.specs.Owners.{SeenPage}
use Rattle.sh_shard.specs.Pages.{Paged, page_at, HasCursor}
use Rattle.sh_shard.specs.Turning.{aside_by, set_aside, turned_past}

-- ---- one page

pub aside_waits : (c p : ℕ) (v : Paged) (q r : PageQueues) → HasCursor (page_at v p).cursor → r ≡ at_back c p q
    → r ≡ set_aside c p v q
aside_waits c p v q r some is = go (page_at v p).cursor some where
  go : (k : Option ℕ) → HasCursor k → r ≡ aside_by k c p q
  go None w = absurd w
  go (Some s) w = is

pub aside_full : (c p : ℕ) (v : Paged) (q r : PageQueues) → (page_at v p).cursor ≡ None → r ≡ among_full p q
    → r ≡ set_aside c p v q
aside_full c p v q r none is = subst (λ (k : Option ℕ). r ≡ aside_by k c p q) (sym none) is

pub aside_either : (c p : ℕ) (v : Paged) (q r : PageQueues) → r ≡ set_aside c p v q
    → (r ≡ at_back c p q) ⊎ (r ≡ among_full p q)
aside_either c p v q r is = go (page_at v p).cursor is where
  go : (k : Option ℕ) → r ≡ aside_by k c p q → (r ≡ at_back c p q) ⊎ (r ≡ among_full p q)
  go None e = inr e
  go (Some s) e = inl e

-- ---- many pages

pub turned_last : (c p : ℕ) (v : Paged) (ps : List ℕ) (q : PageQueues) → turned_past c v (ps ++ p ∷ []) q
    ≡ set_aside c p v (turned_past c v ps q)
turned_last c p v [] q = refl
turned_last c p v (x ∷ ps) q = turned_last c p v ps (set_aside c x v q)

-- work that left these pages as they were
pub turned_same : (c : ℕ) (v w : Paged) (ps : List ℕ) (q : PageQueues)
    → ((r : ℕ) → has_number r ps ≡ true → page_at w r ≡ page_at v r) → turned_past c w ps q ≡ turned_past c v ps q
turned_same c v w [] q still = refl
turned_same c v w (p ∷ ps) q still =
    let here : set_aside c p w q ≡ set_aside c p v q = ap (λ (g : SeenPage). aside_by g.cursor c p q)
    (still p (has_number-here p ps)) in
    ap (λ (z : PageQueues). turned_past c w ps z) here
    ∙ turned_same c v w ps (set_aside c p v q) (λ r there. still r (has_number-there r p ps there))

-- a page differs from those ahead of it
pub apart_ahead : (p r : ℕ) (xs ys : List ℕ) → Distinct (xs ++ p ∷ ys) → has_number r xs ≡ true → r ≢ p
apart_ahead p r [] ys distinct here same = false≢true here
apart_ahead p r (x ∷ xs) ys distinct here same = ⊎_elim
    (λ (is : x ≡ r). (Misses-right x xs (p ∷ ys) distinct.0).0 (is ∙ same))
    (λ (other : x ≢ r). apart_ahead p r xs ys distinct.1 (has_number-rest r x xs other here) same)
    (cases_eq x r)

-- the front page, and those behind it
pub front_split : (p : ℕ) (xs : List ℕ) → slice_get xs 0 ≡ Some p → (ys : List ℕ) × (xs ≡ p ∷ ys)
front_split p [] is = absurd (let z : None ≡ Some p = is in cc)
front_split p (x ∷ xs) is = let same : x ≡ p = cc in (xs, ap (λ z. z ∷ xs) same)
