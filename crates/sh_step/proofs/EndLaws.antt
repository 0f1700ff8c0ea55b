-- A pass that has begun something comes nearer to its end with each step, and can always continue.
use Rattle.std.proofs.Common.{◌≡◌, ℕ, ◌<◌, ◌≤◌, ◌==◌, ◌&&◌, Bool, true, false, cond, ◌∷◌, length, refl, sym, subst}
use Rattle.std.proofs.Common.{arith, length-append}
use Rattle.std.specs.Prelude.{◌≢◌, nat_lt, not, ◌-◌, ◌+◌, List, [], ◌++◌}
use Rattle.std.proofs.lemmas.Bool.Decides.{nat_tests}
use Rattle.sh_word.specs.Fields.{Fields, fields_of}
use Rattle.sh_slots.specs.declared.hand.SlotRef.{SlotRef}
use Rattle.sh_slots.specs.declared.hand.Hand.{Hand}
use Rattle.sh_slots.specs.declared.hand.Hand.TheVariants.{Idle, Removing, Leaving, Finishing, ToPut, Tying, Ringing}
use Rattle.sh_slots.specs.declared.hand.Hand.TheVariants.{RingTying, Filling, Looking}
use Rattle.sh_slots.specs.declared.hand.KeyRef.{KeyRef}
use Rattle.sh_slots.specs.declared.hand.Sight.{Sight}
use Rattle.sh_slots.specs.declared.hand.Sight.TheVariants.{Bare, Classed, Measured}
use Rattle.sh_slots.specs.Slots.{sight_with, name_at}
use Rattle.sh_slots.specs.Slots.{is_reusable_after}
use Rattle.sh_bell.specs.Bell.{is_armed, top_of}
use Rattle.sh_stack.specs.Stack.{link_over}
use Rattle.sh_step.specs.declared.body.Body.{Body}
use Rattle.sh_step.specs.declared.moves.Move.{Move}
use Rattle.sh_step.specs.declared.moves.Move.TheVariants.{Mark, Drop, Finish, Fill, Publish, Put, Tie, Ring, RingTie}
use Rattle.sh_step.specs.declared.moves.Move.TheVariants.{LookOn, LookAgain, ReadEnding}
use Rattle.sh_step.specs.Conditions.{May, action_of}
use Rattle.sh_step.specs.Ends.{to_end, looks_left, HandNames, HasNext, StepsComeNearer, StepsGoOn}
use Rattle.sh_step.specs.Moves.{row_of, row}
use Rattle.sh_step.specs.Plans.{Plan}
use Rattle.sh_step.specs.Rows.{Row, hand, own, class_word_noted, is_read, payload_word}
use Rattle.sh_shape.specs.Places.{payload_words}
use Rattle.sh_step.proofs.ConditionLaws.{move_of_row}
use Rattle.sh_step.proofs.RowLaws.{row_of_may}
use Rattle.sh_step.proofs.Truths.{lt_true}

module _ (plan : Plan) (p : Body) (busy : p.hand ≢ Idle) where
  -- a pass that has begun something does nothing that asks for an idle hand
  no_idle : {A : Type 0} → p.hand ≡ Idle → A
  no_idle e = absurd (busy e)

  nearer_by : (m : Move) (n : ℕ) (h : Hand) → p.hand ≡ h → to_end ((row_of plan p m).part n).hand < to_end h
      → to_end ((row_of plan p m).part n).hand < to_end p.hand
  nearer_by m n h is less = subst (λ (u : Hand). to_end ((row_of plan p m).part n).hand < to_end u) (sym is) less

  dropped : (x : SlotRef) (g : ℕ) (b : Bool) → to_end (cond b (Finishing x g Bare) Idle) < 24
  dropped x g true = omega arith
  dropped x g false = omega arith

  finished : (x : SlotRef) (b c : Bool) → to_end (cond b (cond c (hand (record p { mine = x ∷ p.mine }) Idle)
      (hand p (ToPut x))) (hand p Idle)).hand < 5
  finished x true true = omega arith
  finished x true false = omega arith
  finished x false c = omega arith

  tying : (x : SlotRef) (l : ℕ) (r : Bool) → to_end (Tying x l r) < 4
  tying x l true = omega arith
  tying x l false = omega arith

  tied : (x : SlotRef) (l : ℕ) (r : Bool) → to_end (cond r (Ringing x.page) Idle) < to_end (Tying x l r)
  tied x l true = omega arith
  tied x l false = omega arith

  few_seen : (v : List ℕ) (a b d : Bool) → nat_lt (length v) 16 ≡ b → not (a && b && d) ≡ false → length v < 16
  few_seen v true true d e h = grind (arith, nat_tests)
  few_seen v true false d e h = absurd (let z : true ≡ false = h in cc)
  few_seen v false b d e h = absurd (let z : true ≡ false = h in cc)

  more_seen : (v : List ℕ) (n : ℕ) → length v < 16
      → 16 - length (cond (nat_lt (length v) 16) (v ++ n ∷ []) v) + 1 < 16 - length v + 1
  more_seen v n less =
      let long = length-append v (n ∷ []) in rw (lt_true (length v) 16 less) (omega arith)

  looks_on : (x : KeyRef) (s : Sight) (n : ℕ) → is_read x s ≡ false → looks_left (sight_with s n) < looks_left s
  looks_on x Bare n e = omega arith
  looks_on x (Classed c) n e = omega arith
  looks_on x (Measured c m v) n e = more_seen v n (few_seen v (nat_lt (length v) m) (nat_lt (length v) 16)
      (nat_lt (payload_word x.slot c (length v)) payload_words) refl e)

  look_ends : (s : Sight) → 0 < looks_left s
  look_ends Bare = omega arith
  look_ends (Classed c) = omega arith
  look_ends (Measured c m v) = omega arith

  near : (m : Move) → May plan p m → (n : ℕ) → to_end ((row_of plan p m).part n).hand < to_end p.hand
  near (Mark k x) may n = nearer_by (Mark k x) n (Removing k) may.0 (omega arith)
  near (Drop x) may n = nearer_by (Drop x) n (Leaving x) may
      (let st : Fields = fields_of n in dropped x st.generation (st.present && st.marked && (st.count == 1)))
  near (ReadEnding x g s) may n =
      let fewer = looks_on (name_at x g) s n may.1
      in nearer_by (ReadEnding x g s) n (Finishing x g s) may.0 (omega arith)
  near (Finish x g) may n =
      let less = finished x (is_reusable_after g plan.keys.gen_max n) (own plan p x.page) in
      let some = look_ends may.0
      in nearer_by (Finish x g) n (Finishing x g may.0) may.1 (omega arith)
  near (Fill x v i c) may n = let less = may.1 in nearer_by (Fill x v i c) n (Filling x v i) may.0 (omega arith)
  near (Publish x v) may n = nearer_by (Publish x v) n (Filling x v may.0) may.1 (omega arith)
  near (Put x) may n = nearer_by (Put x) n (ToPut x) may (tying x (link_over (top_of n)) (is_armed n))
  near (Tie x l r) may n = nearer_by (Tie x l r) n (Tying x l r) may (tied x l r)
  near (Ring q) may n = nearer_by (Ring q) n (Ringing q) may (omega arith)
  near (RingTie q l) may n = nearer_by (RingTie q l) n (RingTying q l) may (omega arith)
  near (LookOn k x s) may n = nearer_by (LookOn k x s) n (Looking k x s) may.0 (looks_on x s n may.1)
  near (LookAgain k x s) may n = nearer_by (LookAgain k x s) n (Looking k x s) may.0 (look_ends s)
  -- each other action asks for an idle hand
  near m may n = no_idle (assumption may)

  next_by : (m : Move) → May plan p m → HasNext (row plan p)
  next_by m may = (action_of plan m, row_of plan p m, row_of_may plan p m may)

  next : (h : Hand) → p.hand ≡ h → HandNames plan h → HasNext (row plan p)
  next Idle is name = no_idle is
  next (Removing k) is name = next_by (Mark k name.0) (is, name.1)
  next (Leaving x) is name = next_by (Drop x) is
  next (Finishing x g s) is name = next_by (Finish x g) (s, is)
  next (ToPut x) is name = next_by (Put x) is
  next (Tying x l r) is name = next_by (Tie x l r) is
  next (Ringing q) is name = next_by (Ring q) is
  next (RingTying q l) is name = next_by (RingTie q l) is
  next (Looking k x s) is name = go (is_read x s) refl where
    go : (b : Bool) → is_read x s ≡ b → HasNext (row plan p)
    go true e = next_by (LookAgain k x s) (is, e)
    go false e = next_by (LookOn k x s) (is, e)
  next (Filling x v i) is name = go (nat_lt i (length v)) refl where
    go : (b : Bool) → nat_lt i (length v) ≡ b → HasNext (row plan p)
    go true e = let less : i < length v = grind (arith, nat_tests)
        in next_by (Fill x v i (class_word_noted p x.page)) (is, less, refl)
    go false e = let done : length v ≤ i = grind (arith, nat_tests) in next_by (Publish x v) (i, is, done)

pub steps_come_nearer : StepsComeNearer
steps_come_nearer plan p busy x r e n =
    let d = move_of_row plan p x r e in
    subst (λ (u : Row). to_end (u.part n).hand < to_end p.hand) (sym d.4) (near plan p busy d.0 d.2 n)

pub steps_go_on : StepsGoOn
steps_go_on plan p busy names = next plan p busy p.hand refl names
