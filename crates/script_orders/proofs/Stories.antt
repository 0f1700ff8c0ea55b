-- The story of a pass determines its part.
use Rattle.std.proofs.Common.{◌≡◌, ℕ, Bool, true, false, cond, ◌&&◌, ◌==◌, List, [], ◌∷◌, ◌++◌, refl, sym, ap, ◌∙◌}
use Rattle.std.proofs.Common.{subst, arith, Some}
use Rattle.sh_slots.specs.declared.enter.GetAnswer.TheVariants.{Got, Crowded, Gone}
use Rattle.sh_slots.specs.declared.hand.Hand.TheVariants.{Finishing, Idle, Leaving, Looking, Removing, ToPut}
use Rattle.sh_slots.specs.declared.hand.Sight.TheVariants.{Bare}
use Rattle.sh_slots.specs.declared.hand.SlotRef.{SlotRef}
use Rattle.sh_slots.specs.Slots.{live_at, past_at, has_room, answer_to_get, after_drop, slot_ref_of}
use Rattle.sh_slots.specs.Slots.{is_reusable_after}
use Rattle.sh_word.specs.Fields.{fields_of}
use Rattle.sh_step.specs.declared.action.Event.{Event}
use Rattle.sh_step.specs.declared.body.Body.{Body}
use Rattle.sh_step.specs.declared.moves.Move.{Move}
use Rattle.sh_step.specs.declared.moves.Move.TheVariants as move
use Rattle.sh_step.specs.Moves.{move_of, row_of}
use Rattle.sh_step.specs.Rows.{hand, own, freed}
use Rattle.sh_step.specs.Plans.{Plan}
use Rattle.script_orders.specs.declared.lane.Step.{Step}
use Rattle.script_orders.specs.Seen.{is_got, ended_by, bit, seen_in, DoesStep, DoesSteps}

-- ---- two words that are seen as the same leave the same part

bit_decides : (a b : Bool) → bit a ≡ bit b → a ≡ b
bit_decides true true h = refl
bit_decides false false h = refl
bit_decides true false h = absurd (omega (arith, h))
bit_decides false true h = absurd (omega (arith, h))

-- a look goes on exactly if the value is there
abbrev look_seen : (live past : Bool) → ℕ
look_seen live past = cond live 1 (cond past 2 0)

look_decides : (a b past was : Bool) → look_seen a past ≡ look_seen b was → a ≡ b
look_decides true true past was h = refl
look_decides false false past was h = refl
look_decides true false past true h = absurd (omega (arith, h))
look_decides true false past false h = absurd (omega (arith, h))
look_decides false true true was h = absurd (omega (arith, h))
look_decides false true false was h = absurd (omega (arith, h))

-- a get takes a hold exactly if it got the value
got_is : (live room : Bool) → is_got (cond live (cond room Got Crowded) Gone) ≡ (live && room)
got_is true true = refl
got_is true false = refl
got_is false room = refl

ended_decides : (x : SlotRef) (b c : Bool) (g h : ℕ)
    → ended_by (cond b (Finishing (record { page = 0; slot = 0 }) g Bare) Idle)
    ≡ ended_by (cond c (Finishing (record { page = 0; slot = 0 }) h Bare) Idle)
    → cond b (Finishing x g Bare) Idle ≡ cond c (Finishing x h Bare) Idle
ended_decides x true true g h e = let same : g ≡ h = omega (arith, e) in ap (λ (n : ℕ). Finishing x n Bare) same
ended_decides x true false g h e = absurd (omega (arith, e))
ended_decides x false true g h e = absurd (omega (arith, e))
ended_decides x false false g h e = refl

-- a drop that finds the word leaves the generation to be ended
abbrev ends : ℕ → Bool
ends n = (fields_of n).present && (fields_of n).marked && ((fields_of n).count == 1)

drop_decides : (x : SlotRef) (m n : ℕ) → ended_by (after_drop (record { page = 0; slot = 0 }) m)
    ≡ ended_by (after_drop (record { page = 0; slot = 0 }) n) → after_drop x m ≡ after_drop x n
drop_decides x m n e =
    ended_decides x (ends m) (ends n) (fields_of m).generation (fields_of n).generation e

pub seen_decides : (plan : Plan) (p : Body) (the_move : Move) (m n : ℕ) → seen_in plan the_move m
    ≡ seen_in plan the_move n → (row_of plan p the_move).part m ≡ (row_of plan p the_move).part n
seen_decides plan p (move.EnterGet k x) m n e =
    let f : Bool → Body = λ b. cond b (record p { holds = k ∷ p.holds }) (hand p (Leaving (slot_ref_of x))) in
    let g = plan.keys.guard_max in
    ap f (sym (got_is (live_at x.generation m) (has_room g m))
    ∙ bit_decides (is_got (answer_to_get x.generation g m)) (is_got (answer_to_get x.generation g n)) e
    ∙ got_is (live_at x.generation n) (has_room g n))
seen_decides plan p (move.EnterRemove k x) m n e =
    ap (λ (b : Bool). hand p (cond b (Removing k) (Leaving (slot_ref_of x))))
    (bit_decides (live_at x.generation m) (live_at x.generation n) e)
seen_decides plan p (move.Look k x) m n e =
    ap (λ (b : Bool). hand p (cond b (Looking k x Bare) Idle))
    (look_decides (live_at x.generation m) (live_at x.generation n) (past_at x.generation m) (past_at x.generation n) e)
seen_decides plan p (move.LookOn k x s) m n e = ap (row_of plan p (move.LookOn k x s)).part e
seen_decides plan p (move.LookAgain k x s) m n e = refl
seen_decides plan p (move.ReadEnding x g s) m n e = ap (row_of plan p (move.ReadEnding x g s)).part e
seen_decides plan p (move.Peek x) m n e = refl
seen_decides plan p (move.Mark k x) m n e = refl
seen_decides plan p (move.Drop x) m n e = ap (hand p) (drop_decides x m n e)
seen_decides plan p (move.DropHold k x) m n e = ap (hand (freed p k)) (drop_decides (slot_ref_of x) m n e)
seen_decides plan p (move.Finish x g) m n e =
    ap (λ (b : Bool). cond b (cond (own plan p x.page) (hand (record p { mine = x ∷ p.mine }) Idle)
    (hand p (ToPut x))) (hand p Idle))
    (bit_decides (is_reusable_after g plan.keys.gen_max m) (is_reusable_after g plan.keys.gen_max n) e)
seen_decides plan p (move.Publish x v) m n e = refl
seen_decides plan p (move.FillSlot x v) m n e = refl
seen_decides plan p (move.Fill x v i c) m n e = refl
seen_decides plan p (move.SetClass q c) m n e = refl
seen_decides plan p (move.Tie x l r) m n e = refl
seen_decides plan p (move.Leave k) m n e = refl
seen_decides plan p (move.RingTie q l) m n e = refl
seen_decides plan p (move.ReadClass k x) m n e = ap (row_of plan p (move.ReadClass k x)).part e
seen_decides plan p (move.ReadLength k x) m n e = ap (row_of plan p (move.ReadLength k x)).part e
seen_decides plan p (move.ReadWord k x c i) m n e = ap (row_of plan p (move.ReadWord k x c i)).part e
seen_decides plan p (move.ReadPage q) m n e = ap (row_of plan p (move.ReadPage q)).part e
seen_decides plan p (move.Take q) m n e = ap (row_of plan p (move.Take q)).part e
seen_decides plan p (move.Follow q s) m n e = ap (row_of plan p (move.Follow q s)).part e
seen_decides plan p (move.Put x) m n e = ap (row_of plan p (move.Put x)).part e
seen_decides plan p (move.PutSlot x) m n e = ap (row_of plan p (move.PutSlot x)).part e
seen_decides plan p (move.Adopt k) m n e = ap (row_of plan p (move.Adopt k)).part e
seen_decides plan p (move.Arm q) m n e = ap (row_of plan p (move.Arm q)).part e
seen_decides plan p (move.Ring q) m n e = ap (row_of plan p (move.Ring q)).part e
seen_decides plan p (move.TakeBell k) m n e = ap (row_of plan p (move.TakeBell k)).part e
seen_decides plan p (move.FollowBell q) m n e = ap (row_of plan p (move.FollowBell q)).part e

-- ---- stories

step_decides : (plan : Plan) (lines : List Event) (x : Step) (p q r : Body) → DoesStep plan lines x p q
    → DoesStep plan lines x p r → q ≡ r
step_decides plan lines x p q r s t =
    let event : s.event ≡ t.event = let z : Some s.event ≡ Some t.event = sym s.there ∙ t.there in cc in
    let same : s.the_move ≡ t.the_move =
    let z : Some s.the_move ≡ Some t.the_move =
    sym s.is ∙ ap (λ (e : Event). move_of plan p e.action) event ∙ t.is in cc in
    let seen : seen_in plan t.the_move s.found ≡ seen_in plan t.the_move t.found =
    ap (λ (m : Move). seen_in plan m s.found) (sym same) ∙ sym s.seen_is ∙ t.seen_is in
    s.leaves ∙ ap (λ (m : Move). (row_of plan p m).part s.found) same
    ∙ seen_decides plan p t.the_move s.found t.found seen ∙ sym t.leaves

pub story_decides : (plan : Plan) (lines : List Event) (xs : List Step) (p q r : Body) → DoesSteps plan lines xs p q
    → DoesSteps plan lines xs p r → q ≡ r
unfolding DoesSteps
story_decides plan lines [] p q r h k = sym h ∙ k
story_decides plan lines (x ∷ xs) p q r (a, s, rest) (b, t, more) =
    let same : a ≡ b = step_decides plan lines x p a b s t in
    story_decides plan lines xs b q r (subst (λ (c : Body). DoesSteps plan lines xs c q) same rest) more

pub story_more : (plan : Plan) (lines : List Event) (xs : List Step) (x : Step) (p q r : Body)
    → DoesSteps plan lines xs p q → DoesStep plan lines x q r → DoesSteps plan lines (xs ++ x ∷ []) p r
unfolding DoesSteps
story_more plan lines [] x p q r h s = (r, subst (λ (c : Body). DoesStep plan lines x c r) (sym h) s, refl)
story_more plan lines (y ∷ ys) x p q r (a, t, rest) s = (a, t, story_more plan lines ys x a q r rest s)

pub story_none : (plan : Plan) (lines : List Event) (p : Body) → DoesSteps plan lines [] p p
unfolding DoesSteps
story_none plan lines p = refl
