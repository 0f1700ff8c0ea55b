use Rattle.std.proofs.Common.{◌≡◌, ℕ, ◌+◌, ◌<◌, Bool, true, false, get_or, Option, Some, slice_get}
use Rattle.std.proofs.Common.{refl, sym, ap, subst, ◌∙◌, below_more, arith, inl, inr}
use Rattle.std.specs.Prelude.{MatchOption}
use Rattle.std.specs.List.{All}
use Rattle.std.proofs.lemmas.Option.{slice_get-get_or}
use Rattle.script_orders.specs.declared.level.Level.{Level}
use Rattle.script_orders.specs.declared.state.State.{State}
use Rattle.script_orders.specs.Cuts.{AllAfter}
use Rattle.script_orders.specs.Lanes.{nothing}
use Rattle.script_orders.specs.Reached.{IsReached, Rests, lanes_of}
use Rattle.script_orders.specs.States.{HasAlike}
use Rattle.script_orders.specs.Walks.{GoesTo, IsFollowed, GoesFrom}
use Rattle.script_orders.proofs.Added.{added_reached, keeps_alike, has_added, followed_kept}
use Rattle.script_orders.proofs.Cutting.{goes_step, added_after}
use Rattle.script_orders.proofs.Followed.{placed, rests_more, goes_more, goes_none}
use Rattle.script_orders.proofs.walk.go_on.Goals as goal
use Rattle.script_orders.proofs.walk.go_on.Goals.{in-Some+in_ok-add, in_default}

pub loop-pass-init : goal.loop-pass-init
loop-pass-init g c = record {
  played = c.requires.heap;
  known = c.requires.known;
  all = c.requires.all;
  rests = λ h a less. absurd (omega arith);
  keeps = λ t h. h;
  followed = λ a less. absurd (omega arith);
  ends = λ h. refl;
  from = goes_none g.L.KeyLayout.layout c.args.program.now c.args.next.now.states.items c.args.state.now;
  steps = λ n h all. all;
}

pub loop-pass-preserved : goal.loop-pass-preserved
loop-pass-preserved g c =
    let layout = g.L.KeyLayout.layout in
    let p = c.args.program.now in
    let s = c.args.state.now in
    let pass = c.loop-pass.pass in
    let old = c.loop-pass.next.states.items in
    let held = c.loop-pass.invariant in
    let start = c.args.next.now.states.items in
    let count = c.passes-pass-end.ensures.passes in
    let test = c.loop-pass-test.true in
    let lanes = c.requires.reached.count in
    elim c.match-branch-2.branch [
      | in-Some+in_ok-add w ↦
          let after = w.in-Some.after in
          let new = w.add.new.self.states.items in
          let added = w.in_ok-add.ensures in
          let goes = subst (λ (o : Option State). MatchOption o (Rests layout p s pass) (GoesTo layout p pass s))
          w.in-Some.is c.in_ok-after.ensures.next in
          let keeps = keeps_alike old new after added in
          record {
            played = c.in_ok-after.ensures.heap;
            known = c.in_ok-after.ensures.known;
            all = subst (λ (l : Level). All (IsReached layout p) l.states.items) (sym w.next-is)
                (added_reached layout p old new after added held.all goes.reached);
            rests = λ h. absurd (let z : false ≡ true = sym h ∙ w.goes_on-is in cc);
            keeps = λ t h. subst (λ (l : Level). HasAlike l.states.items t) (sym w.next-is) (keeps t (held.keeps t h));
            followed = subst (λ (l : Level). (a : ℕ) → a < pass + 1 → IsFollowed layout p l.states.items s a)
                (sym w.next-is) (below_more (λ (a : ℕ). IsFollowed layout p new s a) pass
                (λ a less. followed_kept layout p old new s a keeps (held.followed a less))
                (inr (after, goes, has_added old new after added)));
            ends = λ h.
                let count = c.passes-pass-end.ensures.passes in
                let less = c.loop-pass-test.true in
                let rests = h pass (omega arith) goes.lane goes.at goes.number goes.next.after in
                absurd (let z : false ≡ true = sym rests ∙ goes.next.due in cc);
            from =
                let put = placed layout p old new after held.all goes.reached added in
                subst (λ (l : Level). GoesFrom layout p (pass + 1) start l.states.items s c.match-branch-2.goes_on)
                (sym w.next-is)
                (subst (λ (b : Bool). GoesFrom layout p (pass + 1) start new s b) (sym w.goes_on-is)
                (goes_more layout p start old new s pass c.loop-pass.goes_on goes.lane goes.at held.from after goes
                put));
            steps = λ n h all.
                subst (λ (l : Level). AllAfter (n + 1) l.states.items) (sym w.next-is)
                (added_after old new after (n + 1) added (held.steps n h all)
                (goes_step layout p pass s after goes ∙ ap (λ (m : ℕ). m + 1) h));
          }
      | in_default w ↦
          let rests = subst (λ (o : Option State). MatchOption o (Rests layout p s pass) (GoesTo layout p pass s))
          w.in_default.is c.in_ok-after.ensures.next in
          record {
            played = c.in_ok-after.ensures.heap;
            known = c.in_ok-after.ensures.known;
            all = subst (λ (l : Level). All (IsReached layout p) l.states.items) (sym w.next-is) held.all;
            rests = λ h. below_more _ _ (held.rests (sym w.goes_on-is ∙ h)) rests;
            keeps = λ t h. subst (λ (l : Level). HasAlike l.states.items t) (sym w.next-is) (held.keeps t h);
            followed = subst (λ (l : Level). (a : ℕ) → a < pass + 1 → IsFollowed layout p l.states.items s a)
                (sym w.next-is) (below_more (λ (a : ℕ). IsFollowed layout p old s a) pass held.followed (inl rests));
            ends = λ h. w.goes_on-is ∙ held.ends h;
            from =
                let lane = get_or (lanes_of s) pass nothing in
                let at : slice_get (lanes_of s) pass ≡ Some lane =
                slice_get-get_or (lanes_of s) pass nothing (omega arith) in
                subst (λ (l : Level). GoesFrom layout p (pass + 1) start l.states.items s c.match-branch-2.goes_on)
                (sym w.next-is)
                (subst (λ (b : Bool). GoesFrom layout p (pass + 1) start old s b) (sym w.goes_on-is)
                (rests_more layout p start old old s pass c.loop-pass.goes_on lane at held.from rests));
            steps = λ n h all.
                subst (λ (l : Level). AllAfter (n + 1) l.states.items) (sym w.next-is) (held.steps n h all);
          }
    ]

pub returns-clause-followed : goal.returns-clause-followed
returns-clause-followed g c = λ a less.
    let count = c.passes-pass-end.ensures.passes in c.loop-pass.invariant.followed a (omega arith)

pub returns-clause-from : goal.returns-clause-from
returns-clause-from g c =
    let count = c.passes-pass-end.ensures.passes in
    let test = c.loop-pass-test.false in
    let end = c.loop-pass.auto.pass-end in
    let p = c.args.program.now in
    let e : c.loop-pass.pass ≡ p.shape.passes = omega arith in
    subst (λ (n : ℕ). GoesFrom g.L.KeyLayout.layout p n c.args.next.now.states.items c.loop-pass.next.states.items
    c.args.state.now c.loop-pass.goes_on) e c.loop-pass.invariant.from
