use Rattle.std.proofs.Common.{◌≡◌, ◌∙◌, ◌+◌, ◌-◌, ◌==◌, ◌++◌, ◌∷◌, [], ℕ, List, length, Option, Some, None, position}
use Rattle.std.proofs.Common.{ap, sym, subst}
use Rattle.std.specs.Prelude.{slice_get, option_to_list}
use Rattle.sh_step.specs.Collections.{without}
use Rattle.sh_pass.specs.Passes.{HoldsKept}
use Rattle.sh_pass.proofs.HeldLaws.{kept_popped, kept_moved, not_has}
use Rattle.sh_pass.proofs.held_keys.remove_one.Goals as goal

pub returns-then-is_last : goal.returns-then-is_last
returns-then-is_last c =
    let held : List ℕ = c.args.held.now.items in
    let after : List ℕ = c.pop.new.self.items in
    let S : List ℕ → Type 0 = λ xs. slice_get xs (length xs - 1) ≡ Some c.args.key in
    let last = subst S c.as_slice.ensures.value (c.is_last.ensures.0 c.if-is_last.true) in
    let popped : c.pop.result ≡ Some c.args.key = c.pop.ensures.value ∙ last in
    let is : held ≡ after ++ c.args.key ∷ [] = c.pop.ensures.items
    ∙ ap (λ (x : Option ℕ). after ++ option_to_list x) popped in
    kept_popped c.args.key held after c.requires is

pub returns-in-Some : goal.returns-in-Some
returns-in-Some c =
    let held : List ℕ = c.args.held.now.items in
    let at : position (λ j. j == c.args.key) held ≡ Some c.in-Some.at = ap
    (λ (xs : List ℕ). position (λ j. j == c.args.key) xs) (sym c.as_slice-else-is_last.ensures.value)
    ∙ (sym c.find_behind.ensures ∙ c.in-Some.is) in
    let Q : List ℕ → Type 0 = λ xs. length xs + 1 ≡ length held in
    let len = subst Q c.swap_remove.ensures.items c.swap_remove.ensures.len in
    let P : List ℕ → Type 0 = λ xs. HoldsKept xs (without (λ j. j == c.args.key) held) in
    subst P (sym c.swap_remove.ensures.items) (kept_moved c.args.key held c.in-Some.at c.swap_remove.result at len)

pub returns-in_default : goal.returns-in_default
returns-in_default c =
    let held : List ℕ = c.args.held.now.items in
    let none : position (λ j. j == c.args.key) held ≡ None = ap
    (λ (xs : List ℕ). position (λ j. j == c.args.key) xs) (sym c.as_slice-else-is_last.ensures.value)
    ∙ (sym c.find_behind.ensures ∙ c.in_default.is) in
    let there = c.requires in
    let off = not_has c.args.key held none in
    absurd (let z : ⊥ = cc in z)
