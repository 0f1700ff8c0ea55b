-- One call more after a list of calls.
use Rattle.std.proofs.Common.{ℕ, ◌+◌, ◌<◌, ◌≤◌, List, [], ◌∷◌, ◌++◌, length, take, get_or, set}
use Rattle.std.proofs.Common.{refl, sym, subst}
use Rattle.std.proofs.lemmas.List.{take_all, take_more, take_more_set}
use Rattle.sh_key.specs.Layout.{Layout}
use Rattle.sh_pass.specs.Passes.{Caller}
use Rattle.sh_pass.specs.Remaining.{Remains}
use Rattle.sh_member.specs.Batches.{DoesEach, RemainsAfter}
use Rattle.sh_member.proofs.Ending.{remains_along}

pub one_more : {K S A : Type 0} (does : K → S → A → S → Type 0) (keys : List K) (results : List A) (key : K)
    (result : A) (v m w : S) → DoesEach does keys v results m → does key m result w
    → DoesEach does (keys ++ key ∷ []) v (results ++ result ∷ []) w
one_more does [] [] key result v m w before last = (w, subst (λ u. does key u result w) before last, refl)
one_more does [] (r ∷ rs) key result v m w before last = absurd before
one_more does (k ∷ ks) [] key result v m w before last = absurd before
one_more does (k ∷ ks) (r ∷ rs) key result v m w before last =
    (before.0, before.1, one_more does ks rs key result before.0 m w before.2 last)

-- the same, by the place of the key in all keys and of its result in all results
pub done_more : {K S A : Type 0} (does : K → S → A → S → Type 0) (keys : List K) (results : List A) (i : ℕ) (d : K)
    (result : A) (v m w : S) → i < length keys → i < length results
    → DoesEach does (take i keys) v (take i results) m → does (get_or keys i d) m result w
    → DoesEach does (take (i + 1) keys) v (take (i + 1) (set results i result)) w
done_more does keys results i d result v m w in_keys in_results before last =
    subst (λ l. DoesEach does l v (take (i + 1) (set results i result)) w) (sym (take_more keys i d in_keys))
    (subst (λ l. DoesEach does (take i keys ++ get_or keys i d ∷ []) v l w)
    (sym (take_more_set results i result in_results))
    (one_more does (take i keys) (take i results) (get_or keys i d) result v m w before last))

-- after the last key
pub all_done : {K S A : Type 0} (does : K → S → A → S → Type 0) (keys : List K) (results : List A) (i : ℕ) (v w : S)
    → length keys ≤ i → length results ≤ i → DoesEach does (take i keys) v (take i results) w
    → DoesEach does keys v results w
all_done does keys results i v w past beyond done =
    subst (λ l. DoesEach does l v results w) (take_all i keys past)
    (subst (λ l. DoesEach does (take i keys) v l w) (take_all i results beyond) done)

remains_one : (layout : Layout) (keys : List ℕ) (key : ℕ) (v m w : Caller) → RemainsAfter layout keys v m
    → Remains layout m w → RemainsAfter layout (keys ++ key ∷ []) v w
remains_one layout [] key v m w before last = subst (λ u. Remains layout u w) before last
remains_one layout (k ∷ ks) key v m w before last = remains_along layout v m w before last

pub remains_more : (layout : Layout) (keys : List ℕ) (i key : ℕ) (v m w : Caller) → i < length keys
    → RemainsAfter layout (take i keys) v m → Remains layout m w → RemainsAfter layout (take (i + 1) keys) v w
remains_more layout keys i key v m w in_keys before last =
    subst (λ l. RemainsAfter layout l v w) (sym (take_more keys i key in_keys))
    (remains_one layout (take i keys) (get_or keys i key) v m w before last)

pub all_remain : (layout : Layout) (keys : List ℕ) (i : ℕ) (v w : Caller) → length keys ≤ i
    → RemainsAfter layout (take i keys) v w → RemainsAfter layout keys v w
all_remain layout keys i v w past remains = subst (λ l. RemainsAfter layout l v w) (take_all i keys past) remains
