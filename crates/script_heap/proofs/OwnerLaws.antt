-- Between two lines of a run in one thread no two passes own one shard. Adopts and leaves are answered by who owns
-- what.
use Rattle.std.proofs.Common.{◌≡◌, ◌≢◌, ℕ, ◌+◌, ◌<◌, ◌≤◌, Bool, true, false, List, [], ◌∷◌, ◌++◌, length, refl}
use Rattle.std.proofs.Common.{ap, sym, ◌∙◌, subst, arith, inl, inr, slice_get, Option, Some, None, Result, Ok, Err}
use Rattle.std.specs.Prelude.{IsSome}
use Rattle.std.specs.List.{All}
use Rattle.std.proofs.lemmas.List.{length-append}
use Rattle.std.proofs.lemmas.List.Elements.{All-head, All-tail}
use Rattle.std.proofs.lemmas.Option.{none-some, same_Some, slice_get_within}
use mathlib.Core.Logic.{dite}
use native.Mathlib.Decide.{ℕ_discrete}
use Rattle.sh_value.specs.declared.refusal.Refusal.{Refusal}
use Rattle.sh_value.specs.declared.refusal.Refusal.TheVariants as refusal
use Rattle.sh_key.specs.Layout.{Layout, IsLayout}
use Rattle.sh_shape.specs.Shape.{Numbers, IsShape, Fits}
use Rattle.sh_slots.specs.declared.hand.Hand.TheVariants.{Idle}
use Rattle.sh_step.specs.declared.action.Event.{Event}
use Rattle.sh_step.specs.declared.body.Body.{Body}
use Rattle.sh_step.specs.declared.footstep.Footstep.{Footstep}
use Rattle.sh_step.specs.Collections.{if1}
use Rattle.sh_step.specs.Footsteps.{meets_owner, owner_met}
use Rattle.sh_step.specs.Parts.{newcomer}
use Rattle.sh_step.specs.Plans.{Plan, plan_of}
use Rattle.sh_step.proofs.FootstepLaws.{counts_grow}
use Rattle.sh_core.specs.Lists.{lists_of}
use Rattle.sh_core.specs.Quiet.{Quiet}
use Rattle.sh_core.specs.Refines.{Refines}
use Rattle.sh_core.specs.Trails.{trail_of, body_by}
use Rattle.sh_core.specs.Worlds.{run}
use Rattle.sh_core.proofs.Clauses.RunTheorem.{theorem}
use Rattle.sh_core.proofs.Replays.{steps_make_parts}
use Rattle.sh_core.proofs.Sums.Tests.{if1_one}
use Rattle.sh_table.specs.declared.view.Own.{Own}
use Rattle.sh_pass.specs.Owners.{FoundFree, finds_free}
use Rattle.sh_pass.specs.Passes.{Caller}
use Rattle.sh_shard.specs.Leaving.{Waiting}
use Rattle.sh_shard.specs.Pages.{AdoptRefused}
use Rattle.sh_shard.specs.Shards.{Sharded}
use Rattle.sh_quiet.proofs.Exact.{Goes}
use Rattle.sh_quiet.proofs.Leaves.{never_waits}
use Rattle.sh_quiet.proofs.Working.{SeesBell}
use Rattle.sh_member.specs.declared.member.Side.TheVariants.{Pass, Shard}
use Rattle.sh_member.specs.Sides.{SeenSide, SideAdopts, SideLeaves}
use Rattle.sh_script.specs.declared.calls.Call.{Call}
use Rattle.sh_script.specs.declared.calls.Call.TheVariants as call
use Rattle.sh_script.specs.declared.calls.CallLine.{CallLine}
use Rattle.script_output.specs.declared.answer.Answer.{Answer}
use Rattle.script_output.specs.Results.{done_answer}
use Rattle.script_calls.specs.Calls.{CallAnswers}
use Rattle.script_calls.specs.OwnParts.{own_part, shape_in}
use Rattle.script_calls.specs.Parts.{RunTerms, PassPart, heap_terms, shard_owned}
use Rattle.script_calls.specs.Receipts.{MayHeed, SideHeeded}
use Rattle.script_calls.specs.Runs.{CallsRun, LineAnswered, number_meant, opening_calls}
use Rattle.script_calls.proofs.LineLemmas.{part_here, part_there}
use Rattle.script_calls.proofs.PartsGoOn.{SameOwnPart, heeds_same}
use Rattle.script_heap.specs.ByLine.{KnowsBell, HasPart, HaveParts, RunsByLine}
use Rattle.script_heap.specs.Owners.{owned_by, OwnApart, IsFree, IsOwned, AdoptIsExact, LeaveIsExact, CallIsExact}
use Rattle.script_heap.specs.Owners.{OwnersAreExact, LinesKeepOwnersApart}
use Rattle.script_heap.proofs.FoundWords.{FoundAfter, first_step, met_one, met_none}

-- a list with one element more has that element behind
one_behind : (more steps : List Footstep) (n : ℕ) → length (steps ++ more) ≡ n → n ≡ length steps + 1
    → (t : Footstep) × (more ≡ t ∷ [])
one_behind [] steps n long one = let both = length-append steps [] in absurd (omega (arith, long, one, both))
one_behind (t ∷ []) steps n long one = (t, refl)
one_behind (t ∷ (u ∷ more)) steps n long one =
    let both = length-append steps (t ∷ (u ∷ more)) in absurd (omega (arith, long, one, both))

-- a pass that heeds a receipt knows of its bell what it knew
still_heeded : (plan : Plan) (r : Caller) (s t : SeenSide) → SideHeeded r s t → KnowsBell plan s → KnowsBell plan t
still_heeded plan r (Pass v) t h k = subst (λ (s : SeenSide). KnowsBell plan s) (sym h) tt
still_heeded plan r (Shard o) t h k = subst (λ (s : SeenSide). KnowsBell plan s) (sym h) k

still_knows : (plan : Plan) (v w : PassPart) → MayHeed v w → KnowsBell plan v.stands → KnowsBell plan w.stands
still_knows plan v w (inl e) k = subst (λ (p : PassPart). KnowsBell plan p.stands) (sym e) k
still_knows plan v w (inr h) k = still_heeded plan h.0 v.stands w.stands h.1.stands k

module _ (layout : Layout) (shape : Numbers) (la : IsLayout layout) (ls : IsShape shape) (lf : Fits layout shape) where
  abbrev core_plan : Plan
  core_plan = plan_of layout shape

  abbrev core_terms : RunTerms
  core_terms = heap_terms layout shape

  refined : (es : List Event) → Refines core_plan (run core_plan es) (lists_of core_plan es)
  refined es = theorem layout shape la ls lf es

  all_parts : (es : List Event) → length (run core_plan es).parts ≡ core_plan.passes
  all_parts es = (refined es).passes

  apart : (es : List Event) (parts : ℕ → PassPart) → HaveParts core_plan es parts
      → OwnApart shape.passes (owned_by parts)
  apart es parts have p q k lp lq ep eq =
      let a = have p lp in
      let b = have q lq in
      (refined es).owners.alone p q (own_part (parts p).stands).body (own_part (parts q).stands).body k a.body b.body
      (a.shard ∙ ep) (b.shard ∙ eq)

  -- the body of a pass that did the same steps is the same
  same_body : (es ds : List Event) (parts : ℕ → PassPart) → HaveParts core_plan es parts → (q : ℕ) (b : Body)
      → q < core_plan.passes → trail_of core_plan ds q ≡ trail_of core_plan es q
      → slice_get (run core_plan ds).parts q ≡ Some b
      → (own_part (parts q).stands).body ≡ b
  same_body es ds parts have q b lt same at =
      let here : Some (own_part (parts q).stands).body ≡ Some (body_by core_plan newcomer (trail_of core_plan es q)) =
      sym (have q lt).body ∙ steps_make_parts core_plan es q lt in
      let there : Some b ≡ Some (body_by core_plan newcomer (trail_of core_plan ds q)) =
      sym at ∙ steps_make_parts core_plan ds q lt in
      same_Some (own_part (parts q).stands).body b (here
      ∙ (ap (λ (t : List Footstep). Some (body_by core_plan newcomer t)) (sym same) ∙ sym there))

  -- ---- one line

  module _ (tag : Option ℕ) (early own : List Event) (before next : CallsRun) (l : CallLine) (a : Answer)
      (line : LineAnswered core_terms tag before l a next) (inside : l.pass < core_plan.passes)
      (here : HaveParts core_plan early before.parts) (there : HaveParts core_plan (early ++ own) next.parts) where
    abbrev first_side : SeenSide
    first_side = line.begins.stands

    abbrev ends : SeenSide
    ends = line.part.stands

    heeded : SameOwnPart (before.parts l.pass).stands first_side
    heeded = heeds_same (before.parts l.pass) line.begins line.heeds

    pub next_here : next.parts l.pass ≡ line.part
    next_here = ap (λ (r : CallsRun). r.parts l.pass) line.next_is ∙ part_here before.parts l.pass l.pass line.part refl

    pub next_there : (q : ℕ) → q ≢ l.pass → next.parts q ≡ before.parts q
    next_there q ne = ap (λ (r : CallsRun). r.parts q) line.next_is
        ∙ part_there before.parts l.pass q line.part ne

    -- the shard that it owns when it begins
    pub owns : (s : SeenSide) → first_side ≡ s → owned_by before.parts l.pass ≡ shard_owned s
    owns s e = sym heeded.shard ∙ ap shard_owned e

    -- how many shards it knows
    knows : (s : SeenSide) → first_side ≡ s → (shape_in s).shards ≡ shape.shards
    knows s e = ap (λ (z : SeenSide). (shape_in z).shards) (sym e)
        ∙ (ap (λ (n : Numbers). n.shards) heeded.shape ∙ (here l.pass inside).shards)

    -- an adopt that is done: the shard was free
    was_free : (k : ℕ) → owned_by before.parts l.pass ≡ None → shard_owned ends ≡ Some k → (q : ℕ)
        → q < shape.passes → owned_by before.parts q ≢ Some k
    was_free k none now q lt has = dite (ℕ_discrete q l.pass)
        (λ (e : q ≡ l.pass). none-some k (sym none ∙ (ap (owned_by before.parts) (sym e) ∙ has)))
        (λ (ne : q ≢ l.pass).
        let mine : owned_by next.parts l.pass ≡ Some k = ap (λ (v : PassPart). shard_owned v.stands) next_here ∙ now in
        let its : owned_by next.parts q ≡ Some k = ap (λ (v : PassPart). shard_owned v.stands) (next_there q ne) ∙ has
        in ne (apart (early ++ own) next.parts there q l.pass k lt inside its mine))

    -- the world in which a pass that owns no shard did its first step of the line
    found_after : (v w : Caller) → first_side ≡ Pass v → ends ≡ Pass w → (t : Footstep) (later : List Footstep)
        → w.view.own.trail ≡ v.view.own.trail ++ t ∷ later → FoundAfter core_plan all_parts early t
    found_after v w was is t later goes =
        let before_trail : trail_of core_plan early l.pass ≡ v.view.own.trail = (here l.pass inside).trail
        ∙ ap (λ (o : Own). o.trail) (sym heeded.own ∙ ap own_part was) in
        let after_trail : trail_of core_plan (early ++ own) l.pass ≡ w.view.own.trail = (there l.pass inside).trail
        ∙ ap (λ (o : Own). o.trail) (ap (λ (p : PassPart). own_part p.stands) next_here ∙ ap own_part is) in
        first_step core_plan all_parts early own l.pass t later
        (after_trail ∙ (goes ∙ ap (λ (s : List Footstep). s ++ t ∷ later) (sym before_trail)))
        (λ q lt ne. (there q lt).trail
        ∙ (ap (λ (p : PassPart). (own_part p.stands).trail) (next_there q ne) ∙ sym (here q lt).trail))

    -- the shard was free, if the first step of the adopt found so
    found_none : (k : ℕ) (v w : Caller) → first_side ≡ Pass v → ends ≡ Pass w → FoundFree k v w → (q : ℕ)
        → q < shape.passes → owned_by before.parts q ≢ Some k
    found_none k v w was is f q lt has =
        let at = found_after v w was is f.step f.more f.is in
        let none : (run core_plan at.events).words.owner_at k ≡ 0 = met_none k at.x at.m
        (run core_plan at.events).words (subst (λ (t : Footstep). finds_free k t ≡ true) at.is f.free) in
        let b : Body = body_by core_plan newcomer (trail_of core_plan at.events q) in
        let made : slice_get (run core_plan at.events).parts q ≡ Some b = steps_make_parts core_plan at.events q lt in
        let body = same_body early at.events before.parts here q b lt (at.same q lt) made in
        let owned : b.owned ≡ Some k = ap (λ (z : Body). z.owned) (sym body) ∙ ((here q lt).shard ∙ has) in
        let one = (refined at.events).owners.owner q b k made owned in
        omega (arith, none, one)

    -- the shard was owned, if the adopt met an owner
    module _ (v w : Caller) (was : first_side ≡ Pass v) (is : ends ≡ Pass w) (k : ℕ) (more : List Footstep)
        (goes : w.view.own.trail ≡ v.view.own.trail ++ more)
        (one : length w.view.own.trail ≡ length v.view.own.trail + 1)
        (met : owner_met k w.view.own.trail ≡ owner_met k v.view.own.trail + 1) where
      the_step : (t : Footstep) × (more ≡ t ∷ [])
      the_step = one_behind more v.view.own.trail (length w.view.own.trail) (sym (ap length goes)) one

      abbrev step : Footstep
      step = the_step.0

      with_step : w.view.own.trail ≡ v.view.own.trail ++ step ∷ []
      with_step = goes ∙ ap (λ (t : List Footstep). v.view.own.trail ++ t) the_step.1

      met_owner : meets_owner k step ≡ true
      met_owner =
          let count = ap (owner_met k) with_step in
          let grows = counts_grow (meets_owner k) v.view.own.trail step in
          let one_more : if1 (meets_owner k step) ≡ 1 = omega (arith, met, count, grows) in
          if1_one (meets_owner k step) one_more

      found : FoundAfter core_plan all_parts early step
      found = found_after v w was is step [] with_step

      was_owned : (q : ℕ) × (q < shape.passes) × (q ≢ l.pass) × (owned_by before.parts q ≡ Some k)
      was_owned =
          let word : (run core_plan found.events).words.owner_at k ≡ 1 = met_one k found.x found.m
          (run core_plan found.events).words (subst (λ (t : Footstep). meets_owner k t ≡ true) found.is met_owner) in
          let o = (refined found.events).owners.owned k word in
          let low = slice_get_within (run core_plan found.events).parts o.0 o.1 o.2 in
          let all = all_parts found.events in
          let lt : o.0 < core_plan.passes = omega (arith, low, all) in
          let body = same_body early found.events before.parts here o.0 o.1 lt (found.same o.0 lt) o.2 in
          let owned : owned_by before.parts o.0 ≡ Some k = sym (here o.0 lt).shard
          ∙ (ap (λ (b : Body). b.owned) body ∙ o.3) in
          let none : owned_by before.parts l.pass ≡ None = owns (Pass v) was in
          (o.0, lt, (λ e. none-some k (sym none ∙ (ap (owned_by before.parts) (sym e) ∙ owned))), owned)

    refused : (k : ℕ) (v w : Caller) → first_side ≡ Pass v → ends ≡ Pass w → (why : Refusal)
        → AdoptRefused k v w why
        → AdoptIsExact shape (owned_by before.parts) l.pass k (done_answer {A = Unit {0}} (Err why))
    refused k v w was is refusal.NoShard h =
        (owns (Pass v) was, subst (λ (n : ℕ). n ≤ k) (knows (Pass v) was) h.0)
    refused k v w was is refusal.Taken h = inr (
      subst (λ (n : ℕ). k < n) (knows (Pass v) was) h.0,
      was_owned v w was is k h.1.same.trail.0 h.1.same.trail.1 h.2 h.3,
    )
    refused k v w was is refusal.Memory h = (
      owns (Pass v) was,
      (subst (λ (n : ℕ). k < n) (knows (Pass v) was) h.0, found_none k v w was is h.2),
    )
    refused k v w was is _ h = absurd h

    adopts : (k : ℕ) (s t : SeenSide) → first_side ≡ s → ends ≡ t → (r : Result (Unit {0}) Refusal) → SideAdopts k s r t
        → AdoptIsExact shape (owned_by before.parts) l.pass k (done_answer r)
    adopts k (Pass v) (Shard n) was is (Ok x) h =
        let none : owned_by before.parts l.pass ≡ None = owns (Pass v) was in
        let now : shard_owned ends ≡ Some k = ap shard_owned is ∙ ap (λ (j : ℕ). Some j) h.1.shard in
        (none, (subst (λ (n : ℕ). k < n) (knows (Pass v) was) h.0, was_free k none now))
    adopts k (Pass v) (Pass w) was is (Ok x) h = absurd h
    adopts k (Pass v) (Pass w) was is (Err why) h = refused k v w was is why h
    adopts k (Pass v) (Shard n) was is (Err why) h = absurd h
    adopts k (Shard o) t was is r h =
        subst (λ (z : Result (Unit {0}) Refusal). AdoptIsExact shape (owned_by before.parts) l.pass k (done_answer z))
        (sym h.0)
        (inl (subst (λ (z : Option ℕ). IsSome z) (sym (owns (Shard o) was)) refl))

    -- ---- a leave

    pub was_quiet : Quiet (run core_plan early)
    was_quiet b u at =
        let low = slice_get_within (run core_plan early).parts b u at in
        let all = all_parts early in
        let lt : b < core_plan.passes = omega (arith, low, all) in
        let same : (own_part (before.parts b).stands).body ≡ u = same_Some (own_part (before.parts b).stands).body u
        (sym (here b lt).body ∙ at) in subst (λ (z : Body). z.hand ≡ Idle) same (here b lt).idle

    -- an owner that is told to wait: it had the bell of its steps, and alone went on
    module _ (o n : Sharded) (was : first_side ≡ Shard o) (is : ends ≡ Shard n) where
      pub ends_is : (next.parts l.pass).stands ≡ Shard n
      ends_is = ap (λ (p : PassPart). p.stands) next_here ∙ is

      pub own_before : own_part (before.parts l.pass).stands ≡ o.pages.owner.view.own
      own_before = sym heeded.own ∙ ap own_part was

      own_after : own_part (next.parts l.pass).stands ≡ n.pages.owner.view.own
      own_after = ap own_part ends_is

      pub alone : Goes core_plan early own l.pass o.pages.owner.view.own n.pages.owner.view.own
      alone = record {
        quiet = was_quiet;
        rest = λ q ne lt. ap (λ (t : List Footstep). length t) ((there q lt).trail
            ∙ (ap (λ (p : PassPart). (own_part p.stands).trail) (next_there q ne) ∙ sym (here q lt).trail));
        first = sym ((here l.pass inside).trail ∙ ap (λ (z : Own). z.trail) own_before);
        last = sym ((there l.pass inside).trail ∙ ap (λ (z : Own). z.trail) own_after);
        body = (there l.pass inside).body ∙ ap (λ (z : Own). Some z.body) own_after;
      }

      pub bell_before : SeesBell core_plan o.pages
      bell_before =
          let k : KnowsBell core_plan (Shard o) = subst (λ (s : SeenSide). KnowsBell core_plan s) was
          (still_knows core_plan (before.parts l.pass) line.begins line.heeds (here l.pass inside).bell) in
          record { cursor = k.0; takes = k.1; met = k.2 }

      pub bell_after : SeesBell core_plan n.pages
      bell_after =
          let k : KnowsBell core_plan (Shard n) = subst (λ (s : SeenSide). KnowsBell core_plan s) ends_is
          (there l.pass inside).bell in
          record { cursor = k.0; takes = k.1; met = k.2 }

      not_waiting : Waiting o.pages n.pages → ⊥
      not_waiting waits = never_waits layout shape la ls lf early own l.pass o.pages n.pages alone bell_before
          bell_after
          (subst (λ (s : SeenSide). (own_part s).body.owned ≡ shard_owned s) ends_is (there l.pass inside).shard)
          (subst (λ (s : SeenSide). (own_part s).body.hand ≡ Idle) ends_is (there l.pass inside).idle) waits

    leaves : (s t : SeenSide) → first_side ≡ s → ends ≡ t → (r : Result (Unit {0}) Refusal) → SideLeaves s r t
        → LeaveIsExact (owned_by before.parts) l.pass (done_answer r)
    leaves (Shard o) (Pass w) was is (Ok x) h = subst (λ (z : Option ℕ). IsSome z) (sym (owns (Shard o) was)) refl
    leaves (Shard o) (Shard n) was is (Ok x) h = absurd h
    leaves (Shard o) (Shard n) was is (Err why) h = absurd (not_waiting o n was is h.1)
    leaves (Shard o) (Pass w) was is (Err why) h = absurd h
    leaves (Pass v) t was is r h =
        subst (λ (z : Result (Unit {0}) Refusal). LeaveIsExact (owned_by before.parts) l.pass (done_answer z)) (sym h.0)
        (owns (Pass v) was)

    -- ---- a call

    call_is : (c : Call) (bound : Option ℕ) → CallAnswers core_terms tag l.pass line.begins c bound a line.part
        → CallIsExact shape (owned_by before.parts) l.pass c a
    call_is (call.Adopt k) bound h = subst (AdoptIsExact shape (owned_by before.parts) l.pass k) (sym h.is)
        (adopts k first_side ends refl refl h.result h.does.1)
    call_is call.Leave bound h = subst (λ (z : Answer). LeaveIsExact (owned_by before.parts) l.pass z) (sym h.is)
        (leaves first_side ends refl refl h.result h.does.1)
    call_is _ bound h = tt

    line_is : CallIsExact shape (owned_by before.parts) l.pass l.call a
    line_is = call_is l.call (number_meant before.numbers l.call) line.does

  -- ---- all lines

  pub first_parts : (early late : List Event) (tag : Option ℕ) (before : CallsRun) (lines : List CallLine)
      (answers : List Answer) (after : CallsRun)
      → RunsByLine core_plan early late core_terms tag before lines answers after
      → HaveParts core_plan early before.parts
  first_parts early late tag before [] [] after h = h.0
  first_parts early late tag before [] (a ∷ answers) after h = absurd h
  first_parts early late tag before (l ∷ lines) [] after h = absurd h
  first_parts early late tag before (l ∷ lines) (a ∷ answers) after h = h.0

  lines_are : (early late : List Event) (tag : Option ℕ) (before : CallsRun) (lines : List CallLine)
      (answers : List Answer) (after : CallsRun) → All (λ (l : CallLine). l.pass < shape.passes) lines
      → (h : RunsByLine core_plan early late core_terms tag before lines answers after)
      → OwnersAreExact core_plan early late core_terms tag before lines answers after h
  lines_are early late tag before [] [] after fits h = apart early before.parts h.0
  lines_are early late tag before [] (a ∷ answers) after fits h = absurd h
  lines_are early late tag before (l ∷ lines) [] after fits h = absurd h
  lines_are early late tag before (l ∷ lines) (a ∷ answers) after fits h = (
    apart early before.parts h.0,
    line_is tag early h.3 before h.1 l a h.2 (All-head (λ (z : CallLine). z.pass < shape.passes) l lines fits) h.0
        (first_parts (early ++ h.3) h.4 tag h.1 lines answers after h.6),
    lines_are (early ++ h.3) h.4 tag h.1 lines answers after
        (All-tail (λ (z : CallLine). z.pass < shape.passes) l lines fits) h.6,
  )

pub lines_keep_owners_apart : LinesKeepOwnersApart
lines_keep_owners_apart asked layout shape tag lines output la ls lf fits h =
    lines_are layout shape la ls lf [] h.events
    tag (opening_calls (Some h.heap)) lines h.told.replies.answers h.told.replies.after fits (h.by_line refl)
