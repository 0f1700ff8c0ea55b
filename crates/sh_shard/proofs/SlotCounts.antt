-- The numbers of pages and slots that are counted.
use Rattle.std.proofs.Common.{◌≡◌, ℕ, zero, suc, ◌+◌, ◌-◌, ◌*◌, ◌<◌, ◌≤◌, true, false, List, [], ◌∷◌, ◌++◌, length}
use Rattle.std.proofs.Common.{refl, sym, ap, ap₂, ◌∙◌, arith}
use Rattle.std.proofs.lemmas.List.{length-append}
use Rattle.sh_lists.specs.Lists.{SlotsOnce}
use Rattle.sh_lists.specs.Numbers.{Distinct, AllBelow}
use Rattle.sh_lists.proofs.Distincts.{length-le_from_Distinct}
use Rattle.sh_queue.specs.Numbers.{has_number}
use Rattle.sh_queue.proofs.Numbers.{has_number-here, has_number-else, has_number-from_Misses}
use Rattle.sh_queue.proofs.PagePlaces.{AllBelow-from_has}
use Rattle.sh_shape.specs.Classes.{slots}
use Rattle.sh_pass.specs.Owners.{SeenPage}
use Rattle.sh_states.specs.declared.states.PageState.{PageState}
use Rattle.sh_shard.specs.Kept.{KeepsPage}
use Rattle.sh_shard.specs.Pages.{count_below, sum_below, own_slots, page_out, seen_class, word_slots}
use Rattle.sh_shard.proofs.ClassWords.{word_of}
use Rattle.sh_shard.proofs.Counts.{count_alike, count_none, count_less}

-- ---- sums

pub sum_few : (f : ℕ → ℕ) (k n : ℕ) → ((p : ℕ) → p < n → f p ≤ k) → sum_below f n ≤ k * n
sum_few f k zero few = omega arith
sum_few f k (suc n) few =
    let a = few n (omega arith) in
    let b = sum_few f k n (λ p l. few p (omega arith)) in omega arith

-- ---- the slots of a page

counted : (xs : List ℕ) (n : ℕ) → Distinct xs → AllBelow n xs → count_below (λ s. has_number s xs) n ≡ length xs
counted [] n d b = count_none (λ s. false) n (λ s. refl)
counted (x ∷ xs) n d b =
    let r = counted xs n d.1 b.1 in
    let m = count_less (λ s. has_number s (x ∷ xs)) (λ s. has_number s xs) x n b.0 (has_number-here x xs)
    (has_number-from_Misses x xs d.0) (λ s ne. sym (has_number-else s x xs (λ e. ne (sym e)))) in omega arith

-- the slots of a page's lists are exactly its owner's, and at most as many as its class has
pub record Owned (st : PageState) (g : SeenPage) : Type 0 where
  pub own : own_slots g ≡ length st.lists.free + length st.lists.local
  pub few : length st.lists.free + length st.lists.local ≤ slots (st.class_word - 1)

pub owned : (st : PageState) (g : SeenPage) → KeepsPage st g → SlotsOnce st.lists
    → ((s : ℕ) → g.mine s ≡ true → s < slots (st.class_word - 1)) → slots (st.class_word - 1) ≤ 48 → Owned st g
owned st g a once small most = record {
  own = count_alike (λ s. has_number s xs) g.mine 48 (λ s. sym (a.mine s))
      ∙ (counted xs 48 once.distinct below48 ∙ size);
  few = let m = length-le_from_Distinct (slots (st.class_word - 1)) xs once.distinct below in omega (arith, size);
}
  where
    xs : List ℕ
    xs = st.lists.free ++ st.lists.local

    size : length xs ≡ length st.lists.free + length st.lists.local
    size = length-append st.lists.free st.lists.local

    below : AllBelow (slots (st.class_word - 1)) xs
    below = AllBelow-from_has (slots (st.class_word - 1)) xs (λ s h. small s (sym (a.mine s) ∙ h))

    below48 : AllBelow 48 xs
    below48 = AllBelow-from_has 48 xs (λ s h. let l = small s (sym (a.mine s) ∙ h) in omega (arith, l, most))

slots_of_word : (c : ℕ) → (c ≡ 0 → ⊥) → word_slots c ≡ slots (c - 1)
slots_of_word zero some = absurd (some refl)
slots_of_word (suc c) some = let same : c ≡ suc c - 1 = omega arith in ap slots same

pub out_of : (st : PageState) (g : SeenPage) (k n : ℕ) → KeepsPage st g → Owned st g → (st.class_word ≡ 0 → ⊥)
    → k ≡ slots (st.class_word - 1) → n ≡ length st.lists.free + length st.lists.local → k - n ≡ page_out g
out_of st g k n a o some is both =
    let class : seen_class g ≡ st.class_word = word_of g st.class_word a.class in
    let word : word_slots (seen_class g) ≡ k = ap word_slots class ∙ (slots_of_word st.class_word some ∙ sym is) in
    let own : own_slots g ≡ n = o.own ∙ sym both in ap₂ (λ (x y : ℕ). x - y) (sym word) (sym own)
