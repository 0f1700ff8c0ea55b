-- Which word decides a call, step by step.
use Rattle.std.proofs.Common.{◌≡◌, ℕ, Bool, true, false, List, [], ◌∷◌, ◌++◌, refl, ap, subst, sym, ◌∙◌}
use Rattle.std.proofs.Common.{append_assoc, ◌+◌, suc, length, arith, Option, Some}
use Rattle.std.proofs.lemmas.List.{length-append}
use Rattle.atomic_table.specs.declared.shared.Seat.{Seat}
use Rattle.sh_history.specs.declared.log.LogEntry.{LogEntry}
use Rattle.sh_key.specs.Layout.{Layout}
use Rattle.sh_shape.specs.Shape.{Numbers}
use Rattle.sh_slots.specs.declared.enter.GetAnswer.{GetAnswer}
use Rattle.sh_slots.specs.declared.enter.GetAnswer.TheVariants as answer
use Rattle.sh_slots.specs.declared.hand.KeyRef.{KeyRef}
use Rattle.sh_slots.specs.Slots.{answer_to_get, live_at, is_first_mark}
use Rattle.sh_step.specs.declared.action.Action.{Action}
use Rattle.sh_step.specs.declared.action.Action.TheVariants as action
use Rattle.sh_step.specs.declared.body.Body.{Body}
use Rattle.sh_step.specs.declared.footstep.Footstep.{Footstep}
use Rattle.sh_step.specs.declared.moves.Move.{Move}
use Rattle.sh_step.specs.declared.moves.Move.TheVariants as move
use Rattle.sh_step.specs.Footsteps.{footstep_of}
use Rattle.sh_step.specs.Moves.{place_named}
use Rattle.sh_step.specs.Plans.{Plan, plan_of}
use Rattle.sh_table.specs.declared.view.View.{View}
use Rattle.sh_table.specs.Seats.{Heap, Did, IsSeat}
use Rattle.sh_table.specs.Steps.{row_by}
use Rattle.sh_pass.specs.Growing.{Grows}
use Rattle.sh_pass.specs.Deciding.{Stepped, Begins, EntryDecides, EntryTells, MarkDecides, AfterEntry}
use Rattle.sh_pass.specs.Deciding.{EntryOrMarkDecides, InOneStep}

-- ---- one step, and more of them

pub stepped : {layout : Layout} {heap : Heap} {n : ℕ} (t u : Seat (Unit {0}) View) (x : Action) (m : Move)
    (IsSo : List Footstep → Type 0) → Did layout heap x m n t u
    → IsSo (footstep_of x (row_by layout t.me.0 m) n ∷ []) → Stepped IsSo t.me.0 u.me.0
stepped {layout} {n = n} t u x m IsSo d is = (
  footstep_of x (row_by layout t.me.0 m) n ∷ [],
  ap (λ (v : View). v.own.trail) d.view,
  is,
)

pub stepped_then : (v w u : View) (Was Then IsSo : List Footstep → Type 0) → Stepped Was v w → Stepped Then w u
    → ((xs ys : List Footstep) → Was xs → Then ys → IsSo (xs ++ ys)) → Stepped IsSo v u
stepped_then v w u Was Then IsSo s r on = (
  s.0 ++ r.0,
  r.1 ∙ (ap (λ (l : List Footstep). l ++ r.0) s.1 ∙ append_assoc v.own.trail s.0 r.0),
  on s.0 r.0 s.2 r.2,
)

-- steps that the pass does afterwards keep it
pub stepped_on : {b : Body} {es : List LogEntry} {j : ℕ} (v w u : View) (IsSo : List Footstep → Type 0)
    → Stepped IsSo v w → Grows b es j w u → ((xs ys : List Footstep) → IsSo xs → IsSo (xs ++ ys)) → Stepped IsSo v u
stepped_on v w u IsSo s g on = stepped_then v w u IsSo (λ ys. Unit {0}) IsSo s (g.steps, g.trail, tt)
    (λ xs ys d e. on xs ys d)

pub begins_on : (x : Action) (name : KeyRef) (xs ys : List Footstep) (b : Begins x name xs)
    → (c : Begins x name (xs ++ ys))
    × (c.found ≡ b.found)
begins_on x name xs ys b = (
  record { found = b.found; rest = b.rest ++ ys; steps = ap (λ (l : List Footstep). l ++ ys) b.steps },
  refl,
)

-- ---- gets

pub entry_decides : (layout : Layout) (heap : Heap) (k : ℕ) (x : KeyRef) (n : ℕ) (t u : Seat (Unit {0}) View)
    (a : GetAnswer) → Did layout heap (action.EnterGet k) (move.EnterGet k x) n t u
    → answer_to_get x.generation (plan_of layout t.me.0.shape).keys.guard_max n ≡ a
    → Stepped (EntryDecides (plan_of layout t.me.0.shape) k x a) t.me.0 u.me.0
entry_decides layout heap k x n t u a d is = stepped t u (action.EnterGet k) (move.EnterGet k x)
    (EntryDecides (plan_of layout t.me.0.shape) k x a) d (record { found = n; rest = []; steps = refl }, is)

pub get_decided : {b : Body} {es : List LogEntry} {j : ℕ} (v w u : View) (plan : Plan) (k : ℕ) (x : KeyRef)
    (a : GetAnswer) → Stepped (EntryDecides plan k x a) v w → Grows b es j w u → Stepped (EntryDecides plan k x a) v u
get_decided v w u plan k x a s g = stepped_on v w u (EntryDecides plan k x a) s g
    (λ xs ys d. let b = begins_on (action.EnterGet k) x xs ys d.0 in (
      b.0,
      ap (answer_to_get x.generation plan.keys.guard_max) b.1 ∙ d.1,
    ))

-- ---- removals

pub entry_tells : (layout : Layout) (heap : Heap) (k : ℕ) (x : KeyRef) (n : ℕ) (t u : Seat (Unit {0}) View) (b : Bool)
    → Did layout heap (action.EnterRemove k) (move.EnterRemove k x) n t u → live_at x.generation n ≡ b
    → Stepped (EntryTells k x b) t.me.0 u.me.0
entry_tells layout heap k x n t u b d is = stepped t u (action.EnterRemove k) (move.EnterRemove k x)
    (EntryTells k x b) d (n, refl, is)

pub mark_decides : (layout : Layout) (heap : Heap) (k : ℕ) (x : KeyRef) (n : ℕ) (t u : Seat (Unit {0}) View) (b : Bool)
    → Did layout heap action.Mark (move.Mark k x) n t u → b ≡ is_first_mark n
    → Stepped (MarkDecides x b) t.me.0 u.me.0
mark_decides layout heap k x n t u b d is = stepped t u action.Mark (move.Mark k x) (MarkDecides x b) d
    (record { found = n; rest = []; steps = refl }, is)

entry_then : (k : ℕ) (x : KeyRef) (b live : Bool) (xs ys : List Footstep) → EntryTells k x live xs
    → AfterEntry x b live ys → EntryOrMarkDecides k x b (xs ++ ys)
entry_then k x b live xs ys d after = (
  record { found = d.0; rest = ys; steps = ap (λ (l : List Footstep). l ++ ys) d.1 },
  subst (λ l. AfterEntry x b l ys) (sym d.2) after,
)

-- if the word that was found is not live
pub removal_vain : {c : Body} {es : List LogEntry} {j : ℕ} (v w u : View) (k : ℕ) (x : KeyRef)
    → Stepped (EntryTells k x false) v w → Grows c es j w u → Stepped (EntryOrMarkDecides k x false) v u
removal_vain v w u k x s g = stepped_then v w u (EntryTells k x false) (λ ys. Unit {0}) (EntryOrMarkDecides k x false) s
    (g.steps, g.trail, tt) (λ xs ys d e. entry_then k x false false xs ys d refl)

-- and if it is live
pub removal_marked : {c : Body} {es : List LogEntry} {j : ℕ} (v w u z : View) (k : ℕ) (x : KeyRef) (b : Bool)
    → Stepped (EntryTells k x true) v w → Stepped (MarkDecides x b) w u → Grows c es j u z
    → Stepped (EntryOrMarkDecides k x b) v z
removal_marked v w u z k x b s m g = stepped_then v w z (EntryTells k x true) (MarkDecides x b)
    (EntryOrMarkDecides k x b) s (stepped_on w u z (MarkDecides x b) m g
    (λ xs ys d. let c = begins_on action.Mark x xs ys d.0 in (c.0, d.1 ∙ ap is_first_mark (sym c.1))))
    (λ xs ys d e. entry_then k x b true xs ys d e)

-- ---- releases

pub drop_begins : {c : Body} {es : List LogEntry} {j : ℕ} (layout : Layout) (heap : Heap) (k : ℕ) (x : KeyRef) (n : ℕ)
    (t u : Seat (Unit {0}) View) (z : View) → Did layout heap (action.DropHold k) (move.DropHold k x) n t u
    → Grows c es j u.me.0 z → Stepped (Begins (action.DropHold k) x) t.me.0 z
drop_begins layout heap k x n t u z d g = stepped_on t.me.0 u.me.0 z (Begins (action.DropHold k) x)
    (stepped t u (action.DropHold k) (move.DropHold k x) (Begins (action.DropHold k) x) d
    (record { found = n; rest = []; steps = refl })) g (λ xs ys b. (begins_on (action.DropHold k) x xs ys b).0)

-- ---- of the slot of a key

-- the key names this, as the code computes it
pub name_found : {layout : Layout} {heap : Heap} {t : Seat (Unit {0}) View} (k : ℕ) (s : Numbers) (o : Option KeyRef)
    (x : KeyRef) → IsSeat layout heap t → s ≡ heap.shape → o ≡ place_named (plan_of layout s) k → o ≡ Some x
    → place_named (plan_of layout t.me.0.shape) k ≡ Some x
name_found {layout} k s o x seat same is some = ap (λ z. place_named (plan_of layout z) k) (seat.shape ∙ sym same)
    ∙ (sym is ∙ some)

-- what holds of the slot of this name holds of the slot of the key
pub of_key : (v w : View) (plan : Plan) (k : ℕ) (IsSo : KeyRef → List Footstep → Type 0) (x : KeyRef)
    → place_named plan k ≡ Some x → Stepped (IsSo x) v w
    → Stepped (λ new. (y : KeyRef) × (place_named plan k ≡ Some y) × IsSo y new) v w
of_key v w plan k IsSo x named s = (s.0, s.1, (x, named, s.2))

-- a get that succeeds in at most one step takes exactly one step
pub in_one_step : {b : Body} {es : List LogEntry} (v w : View) (plan : Plan) (k : ℕ) (x : KeyRef) → place_named plan k
    ≡ Some x → Stepped (EntryDecides plan k x answer.Got) v w → Grows b es 1 v w → Stepped (InOneStep plan k) v w
in_one_step v w plan k x named s g = (
  s.0,
  s.1,
  (
    (x, named, s.2),
    (
        let a : length v.own.trail + length s.0 ≡ length v.own.trail + length g.steps = sym
        (length-append v.own.trail s.0) ∙ (ap length (sym s.1 ∙ g.trail) ∙ length-append v.own.trail g.steps) in
        let n : length s.0 ≡ suc (length s.2.0.rest) = ap length s.2.0.steps in
        let f = g.few in omega arith
        ),
  ),
)
