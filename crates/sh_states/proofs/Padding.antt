-- States, the first of which are written; the others are blank.
use Rattle.std.proofs.Common.{◌≡◌, ◌≢◌, ℕ, zero, suc, ◌+◌, ◌-◌, ◌<◌, ◌≤◌, ⊎_elim, Bool, true, false, MatchBool, List}
use Rattle.std.proofs.Common.{[], ◌∷◌, ◌++◌, length, get_or, set, replicate, refl, ap, ◌∙◌, sym, subst, arith}
use Rattle.std.specs.Prelude.{nat_le}
use Rattle.std.proofs.lemmas.Bool.{cases_eq}
use Rattle.std.proofs.lemmas.Bool.Decides.{nat_tests}
use Rattle.std.proofs.lemmas.List.{length-append, length-replicate, length-set, replicate-append-replicate}
use Rattle.std.proofs.lemmas.List.{append_assoc, set-append_left, get_or-set_same, get_or-set_other, get_or_read}
use Rattle.std.proofs.lemmas.List.{get_or_default}
use Rattle.std.proofs.Math.Seq.{set-append_seam}
use Rattle.sh_lists.specs.Lists.{Lists, refilled}
use Rattle.sh_lists.specs.Numbers.{Misses}
use Rattle.sh_shape.specs.Classes.{slots}
use Rattle.sh_states.specs.declared.states.PageState.{PageState}
use Rattle.sh_states.specs.States.{bare_lists, blank_state, state_at, padded, kept_slots, with_lists, WholeState}
use Rattle.sh_states.specs.States.{UsesNext, KeepsStates}

-- ---- a page

pub whole_test : (st : PageState) (k n : ℕ) → (st.class_word ≡ 0 → ⊥) → k ≡ slots (st.class_word - 1)
    → n ≡ kept_slots st → MatchBool (nat_le k n) (WholeState st) (¬ WholeState st)
whole_test st k n some e f = go (nat_le k n) refl where
  go : (b : Bool) → nat_le k n ≡ b → MatchBool b (WholeState st) (¬ WholeState st)
  go true t = record {
    class = st.class_word - 1;
    classed = omega (arith, some);
    all = let l : k ≤ n = grind (arith, nat_tests) in omega arith;
  }
  go false t = λ w.
      let l : n < k = grind (arith, nat_tests) in
      let is : w.class ≡ st.class_word - 1 = let h = w.classed in omega arith in
      let a = subst (λ c. slots c ≤ kept_slots st) is w.all in
      absurd (omega arith)

-- ---- the pages

pub get_blank : (xs : List PageState) (n p : ℕ) → get_or (xs ++ replicate n blank_state) p blank_state
    ≡ get_or xs p blank_state
get_blank [] zero p = refl
get_blank [] (suc n) zero = refl
get_blank [] (suc n) (suc p) = get_blank [] n p
get_blank (x ∷ xs) n zero = refl
get_blank (x ∷ xs) n (suc p) = get_blank xs n p

-- what is kept of a page, whether it is written or not
pub padded_at : (n : ℕ) (xs : List PageState) (p : ℕ) → state_at (padded n xs) p ≡ state_at xs p
padded_at n xs p = get_blank xs (n - length xs) p

pub padded_length : (n : ℕ) (xs : List PageState) → length xs ≤ n → length (padded n xs) ≡ n
padded_length n xs l = length-append xs (replicate (n - length xs) blank_state)
    ∙ (ap (λ k. length xs + k) (length-replicate (n - length xs) blank_state) ∙ omega arith)

-- the number of written states once that of this page is written
pub padded_up_to : (p : ℕ) (xs : List PageState) → p < length (padded (p + 1) xs)
padded_up_to p xs =
    let a = length-append xs (replicate (p + 1 - length xs) blank_state) in
    let b = length-replicate (p + 1 - length xs) blank_state in
    omega arith

-- more of them are written
pub padded_more : (n m : ℕ) (xs : List PageState) → m ≤ n → length xs ≤ n → padded n (padded m xs) ≡ padded n xs
padded_more n m xs l k =
    let a = length-append xs (replicate (m - length xs) blank_state) in
    let b = length-replicate (m - length xs) blank_state in
    let all : (m - length xs) + (n - length (padded m xs)) ≡ n - length xs = omega arith in
    append_assoc xs (replicate (m - length xs) blank_state) (replicate (n - length (padded m xs)) blank_state)
    ∙ ap (λ ys. xs ++ ys) (replicate-append-replicate (m - length xs) (n - length (padded m xs)) blank_state
    ∙ ap (λ k. replicate k blank_state) all)

-- ---- a state that is written, and the states up to its page before it

-- what was written of the page, and what is kept and shown once `new` is written
pub record Writes (xs ys v : List PageState) (count bound page : ℕ) (old new : PageState) : Type 0 where
  pub was : old ≡ state_at v page
  pub keeps : KeepsStates (set ys page new) count bound
  pub shows : padded count (set ys page new) ≡ set v page new

-- the state that is found there
pub record Found (xs ys v : List PageState) (count page : ℕ) (old : PageState) : Type 0 where
  pub inside : page < count
  pub reached : page < length ys
  pub was : old ≡ state_at v page
  pub kept : old ≡ state_at xs page

pub found : (xs ys v : List PageState) (count bound page : ℕ) (old : PageState) → padded count xs ≡ v
    → KeepsStates xs count bound → page < length v → ys ≡ padded (page + 1) xs → old ≡ get_or ys page old
    → Found xs ys v count page old
found xs ys v count bound page old view k l is e = record {
  inside = let a = padded_length count xs k.few in let b = ap length view in omega arith;
  reached = reached;
  was = at ∙ (sym (padded_at count xs page) ∙ ap (λ zs. state_at zs page) view);
  kept = at;
} where
  reached : page < length ys
  reached = subst (λ (zs : List PageState). page < length zs) (sym is) (padded_up_to page xs)

  at : old ≡ state_at xs page
  at = get_or_read ys page old reached e blank_state ∙ (ap (λ zs. state_at zs page) is ∙ padded_at (page + 1) xs page)

pub found_few : {xs ys v : List PageState} {count bound page : ℕ} {old : PageState} → KeepsStates xs count bound
    → Found xs ys v count page old → old.class_word ≤ 8
found_few {page = page} k f = subst (λ (z : PageState). z.class_word ≤ 8) (sym f.kept) (k.classes page)

pub writes : (xs ys v : List PageState) (count before bound page : ℕ) (old new : PageState) → padded count xs ≡ v
    → KeepsStates xs count before → Found xs ys v count page old → ys ≡ padded (page + 1) xs → bound ≤ before
    → (page < bound → ¬ WholeState new) → new.class_word ≤ 8 → Writes xs ys v count bound page old new
writes xs ys v count before bound page old new view k f is lower none few = record {
  was = f.was;
  keeps = record {
    few = short;
    classes = λ p. ⊎_elim
        (λ (e : p ≡ page). subst (λ (z : PageState). z.class_word ≤ 8) (sym (here p e)) few)
        (λ (e : p ≢ page). subst (λ (z : PageState). z.class_word ≤ 8) (sym (other p e)) (k.classes p))
        (cases_eq p page);
    none_whole = λ p l. ⊎_elim
        (λ (e : p ≡ page). subst (λ (z : PageState). ¬ WholeState z) (sym (here p e)) (none (omega arith)))
        (λ (e : p ≢ page). subst (λ (z : PageState). ¬ WholeState z) (sym (other p e)) (k.none_whole p (omega arith)))
        (cases_eq p page);
  };
  shows = ap (λ n. set ys page new ++ replicate (count - n) blank_state) (length-set ys page new)
      ∙ (sym (set-append_left ys (replicate (count - length ys) blank_state) page new f.reached)
      ∙ ap (λ zs. set zs page new)
      (ap (padded count) is ∙ (padded_more count (page + 1) xs (let i = f.inside in omega arith) k.few ∙ view)));
} where
  short : length (set ys page new) ≤ count
  short =
      let a = length-set ys page new in
      let b = ap length is in
      let c = length-append xs (replicate (page + 1 - length xs) blank_state) in
      let d = length-replicate (page + 1 - length xs) blank_state in
      let e = k.few in
      let i = f.inside in omega arith

  here : (p : ℕ) → p ≡ page → state_at (set ys page new) p ≡ new
  here p e = ap (state_at (set ys page new)) e ∙ get_or-set_same ys page new blank_state f.reached

  other : (p : ℕ) → p ≢ page → state_at (set ys page new) p ≡ state_at xs p
  other p e = get_or-set_other ys page p new blank_state e
      ∙ (ap (λ zs. state_at zs p) is ∙ padded_at (page + 1) xs p)

-- a page that gained no slot and no class is whole only if it was whole before
pub still_not_whole : {xs ys v : List PageState} {count bound page : ℕ} {old : PageState} (new : PageState)
    → KeepsStates xs count bound → Found xs ys v count page old → new.class_word ≡ old.class_word
    → kept_slots new ≤ kept_slots old → page < bound → ¬ WholeState new
still_not_whole {page = page} new k f e l below w = k.none_whole page below
    (subst WholeState f.kept (record {
      class = w.class;
      classed = sym e ∙ w.classed;
      all = let a = w.all in omega arith;
    }))

-- ---- a slot that is used

pub uses_next : (xs v : List PageState) (count page slot : ℕ) (old : PageState) (lists : Lists) → padded count xs ≡ v
    → page < length xs → old ≡ get_or xs page old → refilled old.lists ≡ record lists { free = slot ∷ lists.free }
    → Misses slot (lists.free ++ lists.local)
    → UsesNext page slot v (padded count (set xs page (with_lists old lists)))
uses_next xs v count page slot old lists view l e front apart = record {
  lists = lists;
  front = ap (λ (z : PageState). refilled z.lists) (sym was) ∙ front;
  apart = apart;
  left = ap (λ n. set xs page (with_lists old lists) ++ replicate (count - n) blank_state)
      (length-set xs page (with_lists old lists))
      ∙ (sym (set-append_left xs (replicate (count - length xs) blank_state) page (with_lists old lists) l)
      ∙ (ap (λ zs. set zs page (with_lists old lists)) view
      ∙ ap (λ (z : PageState). set v page (with_lists z lists)) was));
} where
  was : old ≡ state_at v page
  was = get_or_read xs page old l e blank_state ∙ (sym (padded_at count xs page) ∙ ap (λ zs. state_at zs page) view)

-- ---- a blank page that is given a class word

slots_some : (c : ℕ) → c < 8 → 0 < slots c
slots_some zero l = omega arith
slots_some (suc zero) l = omega arith
slots_some (suc (suc zero)) l = omega arith
slots_some (suc (suc (suc zero))) l = omega arith
slots_some (suc (suc (suc (suc zero)))) l = omega arith
slots_some (suc (suc (suc (suc (suc zero))))) l = omega arith
slots_some (suc (suc (suc (suc (suc (suc zero)))))) l = omega arith
slots_some (suc (suc (suc (suc (suc (suc (suc zero))))))) l = omega arith
slots_some (suc (suc (suc (suc (suc (suc (suc (suc c)))))))) l = absurd (omega arith)

-- none of its slots is its owner's, so it is not whole
abbrev pub worded : ℕ → PageState
worded n = record { lists = bare_lists; class_word = n; armed = false }

pub worded_not_whole : (n : ℕ) → n ≤ 8 → ¬ WholeState (worded n)
worded_not_whole n l w =
    let e : n ≡ suc w.class = w.classed in
    let all = w.all in
    let some = slots_some w.class (omega arith) in absurd (omega arith)

-- the state is written behind those that are written
pub word_behind : (xs v : List PageState) (count bound page n : ℕ) → padded count xs ≡ v → KeepsStates xs count bound
    → page < length v → page ≡ length xs → n ≤ 8
    → KeepsStates (xs ++ worded n ∷ []) count bound × (padded count (xs ++ worded n ∷ []) ≡ set v page (worded n))
word_behind xs v count bound page n view k inside is few = (
  subst (λ (zs : List PageState). KeepsStates zs count bound) same w.keeps,
  ap (padded count) (sym same) ∙ w.shows,
) where
  ys : List PageState
  ys = padded (page + 1) xs

  one : page + 1 - length xs ≡ 1
  one = omega arith

  ys_is : ys ≡ xs ++ blank_state ∷ []
  ys_is = ap (λ k. xs ++ replicate k blank_state) one

  f : Found xs ys v count page (get_or ys page blank_state)
  f = found xs ys v count bound page (get_or ys page blank_state) view k inside refl
      (get_or_default ys page blank_state (get_or ys page blank_state) (padded_up_to page xs))

  w : Writes xs ys v count bound page (get_or ys page blank_state) (worded n)
  w = writes xs ys v count bound bound page (get_or ys page blank_state) (worded n) view k f refl (omega arith)
      (λ l. worded_not_whole n few) few

  same : set ys page (worded n) ≡ xs ++ worded n ∷ []
  same = ap (λ zs. set zs page (worded n)) ys_is
      ∙ (ap (λ p. set (xs ++ blank_state ∷ []) p (worded n)) is ∙ set-append_seam xs blank_state [] (worded n))
