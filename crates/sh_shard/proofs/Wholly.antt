-- The number of slots in the lists of a page, and whether these are all slots of its class.
use Rattle.std.proofs.Common.{◌≡◌, ℕ, suc, ◌+◌, ◌-◌, ◌<◌, ◌≤◌, Bool, true, false, Option, Some, None, IfSome}
use Rattle.std.proofs.Common.{MatchOption, MatchBool, List, [], ◌∷◌, ◌++◌, length, refl, ap, ◌∙◌, sym, subst, arith}
use Rattle.std.specs.Prelude.{nat_lt}
use Rattle.std.proofs.lemmas.Bool.Decides.{nat_tests}
use Rattle.std.proofs.lemmas.List.{length-append}
use Rattle.sh_lists.specs.Lists.{SlotsOnce}
use Rattle.sh_lists.specs.Numbers.{Distinct, AllBelow}
use Rattle.sh_lists.proofs.Distincts.{length-le_from_Distinct}
use Rattle.sh_queue.specs.Numbers.{has_number}
use Rattle.sh_queue.proofs.Numbers.{has_number-here, has_number-else, Misses-from_has}
use Rattle.sh_queue.proofs.PagePlaces.{AllBelow-from_has}
use Rattle.sh_shape.specs.Classes.{slots}
use Rattle.sh_key.specs.Layout.{Layout}
use Rattle.sh_pass.specs.Passes.{Caller}
use Rattle.sh_pass.specs.Owners.{SeenPage}
use Rattle.sh_states.specs.declared.states.PageState.{PageState}
use Rattle.sh_states.specs.States.{state_at, WholeState, NoneWholeBelow, FirstWhole}
use Rattle.sh_shard.specs.Slots.{NoSlots}
use Rattle.sh_shard.specs.Kept.{KeepsPage, KeepsPages}
use Rattle.sh_shard.specs.Pages.{count_below, NothingMine, WhollyMine}
use Rattle.sh_shard.proofs.Keeping.{page_of, below_class}
use Rattle.sh_shard.proofs.Counts.{count_none, count_all, count_one_more}

-- ---- numbers of a list

-- n distinct numbers below n are all of them
pub all_there : (n s : ℕ) (xs : List ℕ) → Distinct xs → AllBelow n xs → n ≤ length xs → s < n → has_number s xs ≡ true
all_there n s xs d b l k = go (has_number s xs) refl where
  go : (t : Bool) → has_number s xs ≡ t → t ≡ true
  go true e = refl
  go false e = let z = length-le_from_Distinct n (s ∷ xs) (Misses-from_has s xs e, d) (k, b) in absurd (omega arith)

count_length : (xs : List ℕ) (n : ℕ) → count_below (λ s. has_number s xs) n ≤ length xs
count_length [] n = let e = count_none (λ s. false) n (λ s. refl) in omega arith
count_length (x ∷ xs) n =
    let a = count_one_more (λ s. has_number s xs) (λ s. has_number s (x ∷ xs)) x n
    (λ s ne. has_number-else s x xs (λ e. ne (sym e))) in
    let b = count_length xs n in omega arith

pub enough : (n : ℕ) (xs : List ℕ) → ((s : ℕ) → s < n → has_number s xs ≡ true) → n ≤ length xs
enough n xs h = let a = count_all (λ s. has_number s xs) n h in let b = count_length xs n in omega arith

-- ---- a page

-- whether its lists have a slot
pub some_slot : (st : PageState) (g : SeenPage) (n : ℕ) → KeepsPage st g → n
    ≡ length st.lists.free + length st.lists.local → MatchBool (nat_lt 0 n) ((s : ℕ) × (g.mine s ≡ true))
    (NothingMine g)
some_slot st g n a e = go (st.lists.free ++ st.lists.local) a.mine (length-append st.lists.free st.lists.local)
    (nat_lt 0 n) refl where
      go : (xs : List ℕ) → ((s : ℕ) → has_number s xs ≡ g.mine s)
          → length xs ≡ length st.lists.free + length st.lists.local → (b : Bool) → nat_lt 0 n ≡ b
          → MatchBool b ((s : ℕ) × (g.mine s ≡ true)) (NothingMine g)
      go [] h l true t = absurd (let z : 0 < n = grind (arith, nat_tests) in omega arith)
      go [] h l false t = λ s. sym (h s)
      go (x ∷ xs) h l true t = (x, sym (h x) ∙ has_number-here x xs)
      go (x ∷ xs) h l false t = absurd (let z : n ≤ 0 = grind (arith, nat_tests) in omega arith)

-- whether they have none
pub none_kept : (st : PageState) (n : ℕ) → n ≡ length st.lists.free + length st.lists.local
    → MatchBool (nat_lt 0 n) (Unit {0}) (NoSlots st.lists)
none_kept st n e = go (nat_lt 0 n) refl where
  empty : (xs : List ℕ) → length xs ≡ 0 → xs ≡ []
  empty [] l = refl
  empty (x ∷ xs) l = absurd (omega arith)

  go : (b : Bool) → nat_lt 0 n ≡ b → MatchBool b (Unit {0}) (NoSlots st.lists)
  go true t = tt
  go false t = let z : n ≤ 0 = grind (arith, nat_tests) in record {
    free = empty st.lists.free (omega arith);
    local = empty st.lists.local (omega arith);
  }

-- a page whose lists have all slots of its class
pub wholly : (st : PageState) (g : SeenPage) → KeepsPage st g → SlotsOnce st.lists
    → ((st.class_word ≡ 0 → ⊥) → (s : ℕ) → g.mine s ≡ true → s < slots (st.class_word - 1)) → WholeState st
    → WhollyMine g
wholly st g a once few w = record {
  class = w.class;
  classed = a.class ∙ ap Some w.classed;
  mine = λ s l. sym (a.mine s) ∙ all_there (slots w.class) s (st.lists.free ++ st.lists.local) once.distinct below
      (let m = w.all in let n = length-append st.lists.free st.lists.local in omega arith) l;
} where
  is : w.class ≡ st.class_word - 1
  is = let h = w.classed in omega arith

  below : AllBelow (slots w.class) (st.lists.free ++ st.lists.local)
  below = AllBelow-from_has (slots w.class) (st.lists.free ++ st.lists.local)
      (λ s h. subst (λ c. s < slots c) (sym is)
      (few (λ z. let h = w.classed in absurd (omega arith)) s (sym (a.mine s) ∙ h)))

-- only such a page has all its slots with its owner
pub has_all : (st : PageState) (g : SeenPage) → KeepsPage st g → WhollyMine g → WholeState st
has_all st g a w = record {
  class = w.class;
  classed = let h : Some (suc w.class) ≡ Some st.class_word = sym w.classed ∙ a.class in
      let e : suc w.class ≡ st.class_word = cc in sym e;
  all = let l = enough (slots w.class) (st.lists.free ++ st.lists.local) (λ s h. a.mine s ∙ w.mine s h) in
      let n = length-append st.lists.free st.lists.local in omega arith;
}

-- a page is wholly its owner's exactly if its lists have all slots of its class
pub tells_whole : {layout : Layout} {v : Caller} {shard : ℕ} {rings : Option ℕ} {states : List PageState} (p : ℕ)
    (b : Bool) → KeepsPages layout v shard rings states → p < length states → SlotsOnce (state_at states p).lists
    → MatchBool b (WholeState (state_at states p)) (¬ WholeState (state_at states p))
    → MatchBool b (WhollyMine (page_of v shard p)) (¬ WhollyMine (page_of v shard p))
tells_whole {v = v} {shard = shard} {states = states} p true k l once w = wholly (state_at states p) (page_of v shard p)
    (k.pages p l) once (below_class p (state_at states p) k (k.pages p l)) w
tells_whole {v = v} {shard = shard} {states = states} p false k l once w = λ z. w
    (has_all (state_at states p) (page_of v shard p) (k.pages p l) z)

none_wholly : {layout : Layout} {v : Caller} {shard : ℕ} {rings : Option ℕ} {states : List PageState} (n : ℕ)
    → KeepsPages layout v shard rings states → n ≤ length states → NoneWholeBelow n states → (p : ℕ) → p < n
    → ¬ WhollyMine (page_of v shard p)
none_wholly {v = v} {shard = shard} {states = states} n k l none p below w = none p below
    (has_all (state_at states p) (page_of v shard p) (k.pages p (omega arith)) w)

-- the first page whose lists have all slots of its class
pub tells_first : {layout : Layout} {v : Caller} {shard : ℕ} {rings : Option ℕ} {states : List PageState} (n : ℕ)
    (r : Option ℕ) → KeepsPages layout v shard rings states → n ≤ length states
    → IfSome r (λ p. SlotsOnce (state_at states p).lists)
    → MatchOption r (NoneWholeBelow n states) (λ p. (p < n) × FirstWhole p states)
    → MatchOption r ((p : ℕ) → p < n → ¬ WhollyMine (page_of v shard p))
    (λ p. (p < n) × WhollyMine (page_of v shard p) × ((q : ℕ) → q < p → ¬ WhollyMine (page_of v shard q)))
tells_first n None k l once none = none_wholly n k l none
tells_first {v = v} {shard = shard} {states = states} n (Some p) k l once (below, first) =
    let inside : p < length states = omega arith in (
      below,
      wholly (state_at states p) (page_of v shard p) (k.pages p inside) once
          (below_class p (state_at states p) k (k.pages p inside)) first.whole,
      none_wholly p k (omega arith) first.none,
    )
