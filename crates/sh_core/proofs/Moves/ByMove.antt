-- A step by its move: what the move leaves of the lists, and the one way to lift what moves keep to events and runs.
use Rattle.std.proofs.Common.{◌≡◌, ℕ, ◌==◌, cond, List, [], ◌∷◌, drop, refl, sym, ap, subst, Option, Some, None}
use Rattle.std.proofs.Common.{slice_get}
use Rattle.sh_step.specs.declared.action.Action.{Action}
use Rattle.sh_step.specs.declared.action.Event.{Event}
use Rattle.sh_step.specs.declared.body.Body.{Body}
use Rattle.sh_step.specs.declared.moves.Move.{Move}
use Rattle.sh_step.specs.declared.moves.Move.TheVariants as move
use Rattle.sh_step.specs.Conditions.{May, action_of}
use Rattle.sh_step.specs.Moves.{move_of, row_of, row}
use Rattle.sh_step.specs.Plans.{Plan, shard_of}
use Rattle.sh_step.specs.Rows.{Row, own}
use Rattle.sh_step.proofs.ConditionLaws.{move_of_row}
use Rattle.sh_step.proofs.PageLaws.{page_of_name, slot_of_name}
use Rattle.sh_core.specs.Lists.{PutLists, pushed, taken, chain_followed, bells_taken, listed, list_step, lists_from}
use Rattle.sh_core.specs.InHeap.{CountFits}
use Rattle.sh_core.specs.Words.{put, read}
use Rattle.sh_core.specs.Worlds.{World, step, apply, run_from}
use Rattle.sh_core.proofs.Sums.Tests.{cond_either}

-- what a move that found n leaves of the lists of what was put
abbrev pub lists_after : Plan → Body → Move → ℕ → PutLists → PutLists
lists_after plan p (move.Put x) n l = pushed l x
lists_after plan p (move.PutSlot x) n l = pushed l x
lists_after plan p (move.Take q) n l = taken l q
lists_after plan p (move.Arm q) n l = taken l q
lists_after plan p (move.Follow q s) n l = cond (n == 0) l (chain_followed l q)
lists_after plan p (move.Ring q) n l = record
    l { bells = put l.bells (shard_of plan q) (q ∷ l.bells (shard_of plan q)) }
lists_after plan p (move.TakeBell k) n l = bells_taken l k
lists_after plan p (move.FollowBell q) n l = elim (p.owned) [
  | Some k ↦ cond (n == 0) l (record l { bell_chain = put l.bell_chain k (drop 1 (l.bell_chain k)) })
  | None ↦ l
]
lists_after plan p _ n l = l

-- the same for its action
pub after_move : (plan : Plan) (p : Body) (m : Move) → May plan p m → (n : ℕ) (l : PutLists)
    → listed plan p (action_of plan m) n l ≡ lists_after plan p m n l
unfolding listed
after_move plan p (move.Put x) may n l = rw may refl
after_move plan p (move.PutSlot x) may n l = ap (pushed l) (slot_of_name plan x)
after_move plan p (move.Take q) may n l = ap (taken l) (page_of_name plan q)
after_move plan p (move.Arm q) may n l = ap (taken l) (page_of_name plan q)
after_move plan p (move.Follow q s) may n l = ap (λ r. cond (n == 0) l (chain_followed l r)) (page_of_name plan q)
after_move plan p (move.Ring q) may n l = rw may refl
after_move plan p (move.TakeBell k) may n l = rw may.1 refl
after_move plan p _ may n l = refl

-- the move of an action that has this row
abbrev HasMove : Plan → Body → Action → Row → Type 0
HasMove plan p x r = (m : Move) × (move_of plan p x ≡ Some m) × May plan p m × (action_of plan m ≡ x)
    × (r ≡ row_of plan p m)

-- what holds of the row of each move that may be done holds of the row of each action that has one
pub by_move : (plan : Plan) (p : Body) (x : Action) (r : Row) (P : Row → Type 0) → row plan p x ≡ Some r
    → ((m : Move) → May plan p m → P (row_of plan p m)) → P r
by_move plan p x r P e each = go (move_of_row plan p x r e) where
  go : HasMove plan p x r → P r
  go (m, _, may, _, is) = subst P (sym is) (each m may)

-- what each move keeps, each event keeps
pub step_keeps : (plan : Plan) (P : World → PutLists → Type 0) (w : World) (l : PutLists) (e : Event) → P w l
    → ((p : Body) (m : Move) → slice_get w.parts e.pass ≡ Some p → May plan p m
    → P (apply w e.pass (row_of plan p m)) (lists_after plan p m (read w.words (row_of plan p m).place) l))
    → P (step plan w e) (list_step plan w e l)
unfolding step list_step
step_keeps plan P w l e old keeps = go (slice_get w.parts e.pass) refl where
  go : (o : Option Body) → slice_get w.parts e.pass ≡ o → P
      (elim o as (λ _. World) [
        | Some p ↦ elim (row plan p e.action) [ Some m ↦ apply w e.pass m | None ↦ w ]
        | None
            ↦ w
      ])
      (elim o as (λ _. PutLists) [
        | Some p ↦ elim (row plan p e.action)
            [ Some m ↦ listed plan p e.action (read w.words m.place) l | None ↦ l ]
        | None ↦ l
      ])
  go None at = old
  go (Some p) at = by (row plan p e.action) refl where
    by : (o : Option Row) → row plan p e.action ≡ o → P
        (elim o as (λ _. World) [ Some m ↦ apply w e.pass m | None ↦ w ])
        (elim o as (λ _. PutLists) [ Some m ↦ listed plan p e.action (read w.words m.place) l | None ↦ l ])
    by None h = old
    by (Some r) h = moved (move_of_row plan p e.action r h) where
      moved : HasMove plan p e.action r → P (apply w e.pass r) (listed plan p e.action (read w.words r.place) l)
      moved (m, _, may, same, is) =
          let r : Row = row_of plan p m in
          let n : ℕ = read w.words r.place in
          let Q : Row → Type 0 = λ u. P (apply w e.pass u) (listed plan p e.action (read w.words u.place) l) in
          let R : Action → Type 0 = λ x. P (apply w e.pass r) (listed plan p x n l) in
          subst Q (sym is) (subst R same (subst (P (apply w e.pass r)) (sym (after_move plan p m may n l))
          (keeps p m at may)))

-- the same for each run
pub run_keeps : (plan : Plan) (P : World → PutLists → Type 0) (w : World) (l : PutLists) (es : List Event) → P w l
    → ((w : World) (l : PutLists) (a : ℕ) (p : Body) (m : Move) → P w l → slice_get w.parts a ≡ Some p → May plan p m
    → P (apply w a (row_of plan p m)) (lists_after plan p m (read w.words (row_of plan p m).place) l))
    → P (run_from plan w es) (lists_from plan w l es)
unfolding run_from lists_from
run_keeps plan P w l [] old keeps = old
run_keeps plan P w l (e ∷ es) old keeps = run_keeps plan P (step plan w e) (list_step plan w e l) es
    (step_keeps plan P w l e old (λ p m at may. keeps w l e.pass p m old at may)) keeps

-- a move keeps a state word's count within its bounds
abbrev pub MovesCount : Plan → World → Body → Type 0
MovesCount plan w p = (m : Move) → May plan p m → CountFits (row_of plan p m).operation
    (read w.words (row_of plan p m).place)

-- ---- what most moves leave as it was

-- holds, and what was read of keys
abbrev pub SameKeys : Body → Body → Type 0
SameKeys p u = (u.holds ≡ p.holds) × (u.class_words ≡ p.class_words) × (u.lengths ≡ p.lengths)
    × (u.contents ≡ p.contents)

-- these five moves change them
abbrev pub ChangesKeys : Move → Type 0
ChangesKeys (move.EnterGet k x) = Unit {0}
ChangesKeys (move.DropHold k x) = Unit {0}
ChangesKeys (move.ReadClass k x) = Unit {0}
ChangesKeys (move.ReadLength k x) = Unit {0}
ChangesKeys (move.ReadWord k x c i) = Unit {0}
ChangesKeys _ = ⊥

pub keys_stay : (plan : Plan) (p : Body) (m : Move) (n : ℕ) → (ChangesKeys m → ⊥)
    → SameKeys p ((row_of plan p m).part n)
keys_stay plan p (move.EnterGet k x) n never = absurd (never tt)
keys_stay plan p (move.DropHold k x) n never = absurd (never tt)
keys_stay plan p (move.ReadClass k x) n never = absurd (never tt)
keys_stay plan p (move.ReadLength k x) n never = absurd (never tt)
keys_stay plan p (move.ReadWord k x c i) n never = absurd (never tt)
keys_stay plan p (move.Finish x g) n never = cond_either (SameKeys p) _ _ _
    (cond_either (SameKeys p) (own plan p x.page) _ _ (refl, refl, refl, refl) (refl, refl, refl, refl))
    (refl, refl, refl, refl)
keys_stay plan p (move.Follow q s) n never = cond_either (SameKeys p) (n == 0) p _ (refl, refl, refl, refl)
    (refl, refl, refl, refl)
keys_stay plan p (move.Adopt k) n never = cond_either (SameKeys p) (n == 0) _ p (refl, refl, refl, refl)
    (refl, refl, refl, refl)
keys_stay plan p (move.FollowBell q) n never = cond_either (SameKeys p) (n == 0) p _ (refl, refl, refl, refl)
    (refl, refl, refl, refl)
keys_stay plan p m n never = (refl, refl, refl, refl)
