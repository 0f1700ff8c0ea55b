-- The slots of pages stay in their lists, over one piece of work after another.
use Rattle.std.proofs.Common.{◌≡◌, ◌≢◌, ℕ, ◌<◌, ⊎_elim, inl, inr, List, refl, ap, ◌∙◌, sym, subst}
use Rattle.std.proofs.Common.{length, set}
use Rattle.std.proofs.lemmas.Bool.{cases_eq}
use Rattle.std.proofs.lemmas.List.{get_or-set_same, get_or-set_other}
use Rattle.sh_lists.specs.Lists.{Lists}
use Rattle.sh_states.specs.declared.states.PageState.{PageState}
use Rattle.sh_states.specs.States.{blank_state, state_at}
use Rattle.sh_shard.specs.Slots.{SameSlots, NoSlots, OwnFirst}
use Rattle.sh_shard.specs.Pages.{Paged, SameLists, lists_at}

pub same_none : (g : Lists) → SameSlots g g
same_none g = record { free = refl; local = refl }

pub same_then : (g h k : Lists) → SameSlots g h → SameSlots h k → SameSlots g k
same_then g h k a b = record { free = b.free ∙ a.free; local = b.local ∙ a.local }

pub same_is : (g h : Lists) → h ≡ g → SameSlots g h
same_is g h e = record { free = ap (λ (z : Lists). z.free) e; local = ap (λ (z : Lists). z.local) e }

none_then : (g h : Lists) → SameSlots g h → NoSlots h → NoSlots g
none_then g h s n = record { free = sym s.free ∙ n.free; local = sym s.local ∙ n.local }

-- two pages without a slot have the same slots
pub none_same : (g h : Lists) → NoSlots g → NoSlots h → SameSlots g h
none_same g h a b = record { free = b.free ∙ sym a.free; local = b.local ∙ sym a.local }

pub own_then : (g h k : Lists) → OwnFirst g h → SameSlots h k → OwnFirst g k
own_then g h k a b = ⊎_elim (λ (s : SameSlots g h). inl (same_then g h k s b)) (λ (n : NoSlots g). inr n) a

pub own_since : (g h k : Lists) → SameSlots g h → OwnFirst h k → OwnFirst g k
own_since g h k a b = ⊎_elim (λ (s : SameSlots h k). inl (same_then g h k a s))
    (λ (n : NoSlots h). inr (none_then g h a n)) b

-- ---- all pages

pub lists_none : (o : Paged) → SameLists o o
lists_none o q = same_none (lists_at o q)

pub lists_then : (o n m : Paged) → SameLists o n → SameLists n m → SameLists o m
lists_then o n m a b q = same_then (lists_at o q) (lists_at n q) (lists_at m q) (a q) (b q)

-- one page has the same slots, and so have all others
pub lists_of : (p : ℕ) (o n : Paged) → SameSlots (lists_at o p) (lists_at n p)
    → ((q : ℕ) → q ≢ p → SameSlots (lists_at o q) (lists_at n q)) → SameLists o n
lists_of p o n here others q = ⊎_elim
    (λ (is : q ≡ p). subst (λ z. SameSlots (lists_at o z) (lists_at n z)) (sym is) here)
    (λ (ne : q ≢ p). others q ne)
    (cases_eq q p)

-- ---- the states of pages, of which one was changed

pub lists_set : (p : ℕ) (k k' : List PageState) (st : PageState) → k' ≡ set k p st → p < length k
    → (state_at k' p).lists ≡ st.lists
lists_set p k k' st is l = ap (λ (z : List PageState). (state_at z p).lists) is
    ∙ ap (λ (z : PageState). z.lists) (get_or-set_same k p st blank_state l)

pub lists_beside : (p : ℕ) (k k' : List PageState) (st : PageState) → k' ≡ set k p st → (q : ℕ) → q ≢ p
    → SameSlots (state_at k q).lists (state_at k' q).lists
lists_beside p k k' st is q ne = same_is _ _ (ap (λ (z : List PageState). (state_at z q).lists) is
    ∙ ap (λ (z : PageState). z.lists) (get_or-set_other k p q st blank_state ne))
