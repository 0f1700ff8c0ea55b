use Rattle.std.proofs.Common.{ℕ, ◌≡◌, ◌==◌, ◌+◌, ◌∙◌, Bool, true, false, ◌||◌, ◌&&◌, ap, sym, refl, arith, get_or}
use Rattle.std.specs.Prelude.{nat_lt}
use Rattle.std.proofs.lemmas.Bool.Decides.{nat_tests}
use Rattle.sh_slots.specs.Slots.{same_slot}
use Rattle.sh_step.specs.Collections.{has}
use Rattle.sh_step.specs.Runs.{slots_of}
use Rattle.sh_step.proofs.RunLaws.{none_of_other_pages}
use Rattle.sh_step.proofs.part.runs.see_run.Goals as goal

same_or_none : (b : Bool) → b ≡ (b || false)
same_or_none true = refl
same_or_none false = refl

pub returns-then-run-page : goal.returns-then-run-page
returns-then-run-page c = λ x low.
    let run = c.args.run in
    let seen = get_or c.args.seen.now x false in
    let other : (c.args.page == run.page) ≡ false = let test = c.if-run-page.true in grind (arith, nat_tests) in
    let none = none_of_other_pages (record { page = c.args.page; slot = x }) run.page run.first 64 run.bits other in
    same_or_none seen ∙ sym (ap (λ b. seen || b) none)

one_more : (seen h before here up : Bool) → up ≡ (before || here)
    → ((seen || (before && h)) || (here && h)) ≡ (seen || (up && h))
one_more true h before here up is = refl
one_more false h true here up is = cases h here ∙ sym (ap (λ b. b && h) is) where
  cases : (h here : Bool) → ((true && h) || (here && h)) ≡ (true && h)
  cases true here = refl
  cases false true = refl
  cases false false = refl
one_more false h false here up is = sym (ap (λ b. b && h) is)

pub loop-slot-preserved : goal.loop-slot-preserved
loop-slot-preserved c = λ x low.
    let h = has (same_slot (record { page = c.args.page; slot = x })) (slots_of c.args.run) in
    let here = x == c.loop-slot.slot in
    let up : nat_lt x (c.loop-slot.slot + 1) ≡ (nat_lt x c.loop-slot.slot || here) =
    next x c.loop-slot.slot (nat_lt x c.loop-slot.slot) here refl refl in
    c.see_slot.ensures x low ∙ (ap (λ b. b || (here && h)) (c.loop-slot.invariant x low)
    ∙ one_more (get_or c.args.seen.now x false) h (nat_lt x c.loop-slot.slot) here _ up) where
      next : (x s : ℕ) (b d : Bool) → nat_lt x s ≡ b → (x == s) ≡ d → nat_lt x (s + 1) ≡ (b || d)
      next x s true d is same = grind (arith, nat_tests)
      next x s false true is same = grind (arith, nat_tests)
      next x s false false is same = grind (arith, nat_tests)

pub returns : goal.returns
returns c = λ x low.
    let h = has (same_slot (record { page = c.args.page; slot = x })) (slots_of c.args.run) in
    let past = c.loop-slot-test.false in
    let all : nat_lt x c.loop-slot.slot ≡ true = grind (arith, nat_tests) in
    c.loop-slot.invariant x low ∙ ap (λ b. get_or c.args.seen.now x false || (b && h)) all
