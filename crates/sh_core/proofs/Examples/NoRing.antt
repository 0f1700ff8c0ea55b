-- A table that has no step for a pass that has to ring: such a pass can never continue.
use Rattle.std.proofs.Common.{◌≡◌, ℕ, refl, arith, Some, None}
use Rattle.sh_slots.specs.declared.hand.Hand.TheVariants.{Idle, Ringing}
use Rattle.sh_step.specs.declared.action.Action.{Action}
use Rattle.sh_step.specs.declared.action.Action.TheVariants.{Ring}
use Rattle.sh_step.specs.declared.body.Body.{Body}
use Rattle.sh_step.specs.declared.moves.Move.{Move}
use Rattle.sh_step.specs.declared.moves.Move.TheVariants as move
use Rattle.sh_step.specs.Conditions.{May, action_of}
use Rattle.sh_step.specs.Parts.{newcomer}
use Rattle.sh_step.specs.Plans.{Plan}
use Rattle.sh_step.specs.Rows.{Row}
use Rattle.sh_step.proofs.ConditionLaws.{move_of_row}
use Rattle.sh_core.specs.Refines.{GoesOn}
use Rattle.sh_core.specs.Variants.{step_by, run_from_by, list_step_by, lists_from_by, AlwaysBy}
use Rattle.sh_core.specs.WrongRows.{cannot_ring}
use Rattle.sh_core.proofs.Examples.Worked.{small, everything}
use Rattle.sh_core.proofs.Examples.WrongRows.{freeing, refuted}

-- a pass that has to ring may do no other action
module _ (plan : Plan) (p : Body) (q : ℕ) (is : p.hand ≡ Ringing q) where
  idle : {A : Type 0} → p.hand ≡ Idle → A
  idle rests = absurd (let z : ⊥ = cc in z)

  only_rings : (m : Move) → May plan p m → action_of plan m ≡ Ring
  only_rings (move.Ring r) may = refl
  only_rings (move.Mark k x) may = let hand = may.0 in absurd (let z : ⊥ = cc in z)
  only_rings (move.Drop x) may = absurd (let z : ⊥ = cc in z)
  only_rings (move.ReadEnding x g s) may = let hand = may.0 in absurd (let z : ⊥ = cc in z)
  only_rings (move.Finish x g) may = let hand = may.1 in absurd (let z : ⊥ = cc in z)
  only_rings (move.Fill x v i c) may = let hand = may.0 in absurd (let z : ⊥ = cc in z)
  only_rings (move.Publish x v) may = let hand = may.1 in absurd (let z : ⊥ = cc in z)
  only_rings (move.Put x) may = absurd (let z : ⊥ = cc in z)
  only_rings (move.Tie x l r) may = absurd (let z : ⊥ = cc in z)
  only_rings (move.RingTie r l) may = absurd (let z : ⊥ = cc in z)
  only_rings (move.LookOn k x s) may = let hand = may.0 in absurd (let z : ⊥ = cc in z)
  only_rings (move.LookAgain k x s) may = let hand = may.0 in absurd (let z : ⊥ = cc in z)
  -- each other asks for an idle hand
  only_rings m may = idle (assumption may)

  stuck : (x : Action) (r : Row) → cannot_ring plan p x ≡ Some r → ⊥
  unfolding cannot_ring
  stuck Ring r e = let z : None ≡ Some r = e in cc
  stuck x r e =
      let d = move_of_row plan p x r e in
      let its = d.3 in
      let only = only_rings d.0 d.2 in cc

-- the first put on an armed page
abbrev ringer : Body
ringer = record newcomer { hand = Ringing 0 }

pub unrung_never_ends : ¬ AlwaysBy cannot_ring (λ plan w l. GoesOn cannot_ring plan w)
unfolding everything step_by run_from_by list_step_by lists_from_by cannot_ring
unrung_never_ends = refuted cannot_ring (λ plan w l. GoesOn cannot_ring plan w) 2 (omega arith) (omega arith) freeing
    (λ h. let n = (h 1 ringer refl (λ e. cc)).0 in stuck (small 2) ringer 0 refl n.0 n.1 n.2)
