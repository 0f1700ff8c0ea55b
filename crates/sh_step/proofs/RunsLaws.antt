-- The slots that several runs represent, in the order of the runs.
use Rattle.std.proofs.Common.{◌≡◌, ℕ, ◌==◌, ◌&&◌, ◌||◌, Bool, true, false, cond, not, List, [], ◌∷◌, ◌++◌, refl, sym}
use Rattle.std.proofs.Common.{ap, ◌∙◌}
use Rattle.std.specs.Prelude.{filter, length, replicate, get_or}
use Rattle.std.specs.List.{list_any, list_all}
use Rattle.std.proofs.lemmas.List.Recursion.{or_push}
use Rattle.std.proofs.Math.Dec.{eqb-suc-zero}
use Rattle.sh_slots.specs.declared.hand.SlotRef.{SlotRef}
use Rattle.sh_slots.specs.Slots.{same_slot}
use Rattle.sh_step.specs.declared.part.run.Run.{Run}
use Rattle.sh_step.specs.Collections.{has, off}
use Rattle.sh_step.specs.Runs.{slots_of, slots_in}
use Rattle.sh_step.proofs.ListLaws.{has_in_both, off_in_both, none_seen}
use Rattle.sh_step.proofs.RunLaws.{off_other, off_same}

pub any_run_is_has : (x : SlotRef) (rs : List Run) → list_any (λ r. has (same_slot x) (slots_of r)) rs
    ≡ has (same_slot x) (slots_in rs)
unfolding slots_in has
any_run_is_has x [] = refl
any_run_is_has x (r ∷ rs) = ap (λ b. has (same_slot x) (slots_of r) || b) (any_run_is_has x rs)
    ∙ sym (has_in_both (same_slot x) (slots_of r) (slots_in rs))

pub slots_in_more : (rs : List Run) (r : Run) (x : SlotRef) → has (same_slot x) (slots_in (rs ++ r ∷ []))
    ≡ (has (same_slot x) (slots_in rs) || has (same_slot x) (slots_of r))
unfolding slots_in has
slots_in_more rs r x = or_push (λ ss. has (same_slot x) (slots_in ss)) (λ s. has (same_slot x) (slots_of s)) refl
    (λ s ss. has_in_both (same_slot x) (slots_of s) (slots_in ss)) rs r

pub all_empty_is_none : (rs : List Run) → list_all (λ r. length (slots_of r) == 0) rs ≡ (length (slots_in rs) == 0)
unfolding slots_in
all_empty_is_none [] = refl
all_empty_is_none (r ∷ rs) = ap (λ b. (length (slots_of r) == 0) && b) (all_empty_is_none rs) ∙ go (slots_of r) where
  go : (xs : List SlotRef) → ((length xs == 0) && (length (slots_in rs) == 0)) ≡ (length (xs ++ slots_in rs) == 0)
  go [] = refl
  go (x ∷ xs) = ap (λ b. b && (length (slots_in rs) == 0)) (eqb-suc-zero (length xs))
      ∙ sym (eqb-suc-zero (length (xs ++ slots_in rs)))

-- before the first run nothing is seen
pub none_seen_yet : (x : SlotRef) (n i : ℕ) → get_or (replicate n false) i false ≡ has (same_slot x) (slots_in [])
unfolding slots_in
none_seen_yet x n i = none_seen (same_slot x) n i

pub none_in_runs : (rs : List Run) → rs ≡ [] → slots_in rs ≡ []
unfolding slots_in
none_in_runs rs none = ap slots_in none

pub slots_in_first : (rs old : List Run) (r : Run) (xs : List SlotRef) → rs ≡ r ∷ old → slots_of r ≡ xs
    → slots_in rs ≡ xs ++ slots_in old
unfolding slots_in
slots_in_first rs old r xs first is = ap slots_in first ∙ ap (λ ys. ys ++ slots_in old) is

-- ---- without the slots of a page

pub other_pages_kept : (p : ℕ) (rs : List Run) → slots_in (filter (λ r. not (r.page == p)) rs)
    ≡ off (λ x. x.page == p) (slots_in rs)
unfolding slots_in off
other_pages_kept p [] = refl
other_pages_kept p (r ∷ rs) = go (r.page == p) refl (other_pages_kept p rs)
    ∙ sym (off_in_both (λ x. x.page == p) (slots_of r) (slots_in rs)) where
      go : (b : Bool) → (r.page == p) ≡ b → slots_in (filter (λ r. not (r.page == p)) rs) ≡ off (λ x. x.page == p)
          (slots_in rs) → slots_in (cond (not b) (r ∷ filter (λ r. not (r.page == p)) rs)
          (filter (λ r. not (r.page == p)) rs))
          ≡ off (λ x. x.page == p) (slots_of r) ++ off (λ x. x.page == p) (slots_in rs)
      go true is rest = rest ∙ ap (λ xs. xs ++ off (λ x. x.page == p) (slots_in rs))
          (sym (off_same p r.page r.first 64 r.bits is))
      go false is rest = ap (λ xs. slots_of r ++ xs) rest
          ∙ ap (λ xs. xs ++ off (λ x. x.page == p) (slots_in rs)) (sym (off_other p r.page r.first 64 r.bits is))
