use Rattle.std.proofs.Common.{ℕ, ◌==◌, ◌∷◌, ◌∙◌, List, ap}
use Rattle.sh_step.specs.Collections.{off}
use Rattle.sh_step.proofs.NoteLaws.{note_joins}
use Rattle.sh_step.proofs.part.notes.Notes.put.Goals as goal

pub invariant_of-self-2 : goal.invariant_of-self-2
invariant_of-self-2 c =
    let k = c.args.number in
    let n = c.args.found in
    note_joins k n c.self.inside.newest.items c.self.inside.notes.items _ _
    (c.put_newest.ensures ∙ ap (λ (xs : List (ℕ × ℕ)). (k, n) ∷ off (λ x. x.0 == k) xs)
    c.in_ok-make_room-2.ensures.items)
    (c.put_in_room.ensures ∙ ap (λ (xs : List (ℕ × ℕ)). (k, n) ∷ xs) c.in_ok-make_room.ensures.items)
    c.self.invariant
