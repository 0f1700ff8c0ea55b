-- An owner that goes on alone in a quiet heap is never told to wait when it leaves its shard.
use Rattle.std.proofs.Common.{◌≡◌, ℕ, ◌<◌, ◌==◌, ◌⊎◌, inl, inr, true, List, [], ◌++◌, ap, sym, ◌∙◌, subst, Some, None}
use Rattle.sh_key.specs.Layout.{Layout, IsLayout}
use Rattle.sh_shape.specs.Shape.{Numbers, IsShape, Fits}
use Rattle.sh_slots.specs.declared.hand.Hand.TheVariants.{Idle}
use Rattle.sh_step.specs.declared.action.Event.{Event}
use Rattle.sh_step.specs.declared.body.Body.{Body}
use Rattle.sh_step.specs.Footsteps.{takes, met, bell_met}
use Rattle.sh_step.specs.Plans.{Plan, plan_of, shard_of}
use Rattle.sh_step.specs.Rows.{own}
use Rattle.sh_core.specs.Lists.{PutLists, lists_of}
use Rattle.sh_core.specs.Worlds.{World, run}
use Rattle.sh_core.proofs.Sums.ListCounts.{has_some}
use Rattle.sh_pass.specs.Owners.{SeenBell, heap_page, own_body}
use Rattle.sh_shard.specs.Leaving.{Waiting, RestsNot}
use Rattle.sh_shard.specs.Pages.{Paged, HasCursor, page_at, shard_page}
use Rattle.sh_quiet.specs.Quiescence.{LeavesNeverWait}
use Rattle.sh_quiet.proofs.Emptied.{none_is_due}
use Rattle.sh_quiet.proofs.Exact.{Goes, cut, goes, head_is_empty}
use Rattle.sh_quiet.proofs.Working.{SeesBell, all_true, all_quiet, same_page, home_is, bell_links, page_links}
use Rattle.sh_quiet.proofs.Working.{bells_empty, bell_chain_empty}
use Rattle.sh_shard.specs.Works.{WorksThroughout}

module _ (layout : Layout) (shape : Numbers) (is_layout : IsLayout layout) (is_shape : IsShape shape)
    (fits : Fits layout shape) (early more : List Event) (a : ℕ) (o n : Paged)
    (g : Goes (plan_of layout shape) early more a o.owner.view.own n.owner.view.own)
    (had : SeesBell (plan_of layout shape) o) (has_now : SeesBell (plan_of layout shape) n)
    (owned : (own_body n.owner).owned ≡ Some n.shard) (idle : (own_body n.owner).hand ≡ Idle)
    (waits : Waiting o n) where
  abbrev leave_plan : Plan
  leave_plan = plan_of layout shape

  abbrev leave_world : World
  leave_world = run leave_plan (early ++ more)

  abbrev leave_lists : PutLists
  leave_lists = lists_of leave_plan (early ++ more)

  abbrev works : WorksThroughout o n
  works = waits.collects.through

  no_bell_link : o.bell.met < n.bell.met → ⊥
  no_bell_link = bell_links layout shape is_layout is_shape fits early more a o n g had has_now owned idle works

  no_page_link : (p : ℕ) → (page_at o p).met < (page_at n p).met → ⊥
  no_page_link = page_links layout shape is_layout is_shape fits early more a o n g had has_now owned idle works

  -- a page that is armed still
  none_armed : (p : ℕ) → n.bell.cursor ≡ None → (page_at n p).armed ≡ true → (page_at o p).takes < (page_at n p).takes
      → o.bell.takes < n.bell.takes → ⊥
  none_armed p none armed taken rung =
      let q : ℕ = heap_page n.owner (shard_page n.shard p) in
      let body : Body = own_body n.owner in
      let all = all_true layout shape is_layout is_shape fits early more a o n g had has_now owned idle works in
      let quiet = all_quiet layout shape is_layout is_shape fits early more a o n g had has_now owned idle works in
      let bells : leave_lists.bells n.shard ≡ [] =
      bells_empty layout shape is_layout is_shape fits early more a o n g had has_now owned idle works rung in
      let chain : leave_lists.bell_chain n.shard ≡ [] =
      bell_chain_empty layout shape is_layout is_shape fits early more a o n g had has_now owned idle works none in
      let page = same_page layout shape is_layout is_shape fits early more a o n g had has_now owned idle works p in
      let head : leave_world.words.head_at q ≡ 0 =
      head_is_empty layout shape is_layout is_shape fits early more a o.owner.view.own n.owner.view.own g works.put q
      waits.collects.arm
      (subst (λ z. takes z o.owner.view.own.trail < takes q n.owner.view.own.trail) page taken) in
      let some = has_some (λ r. r == q) body.armed armed in
      let mine : own leave_plan body q ≡ true = ((all.parts a body g.body).armed q some).1 in
      let its : n.shard ≡ shard_of leave_plan q =
      home_is layout shape is_layout is_shape fits early more a o n g had has_now owned idle works q mine in
      none_is_due leave_plan leave_world leave_lists all quiet a body g.body q armed
      (subst (λ z. leave_lists.bells z ≡ []) its bells) (subst (λ z. leave_lists.bell_chain z ≡ []) its chain) head

  pub never_waits : ⊥
  never_waits = by_reason waits.why where
    by_page : (p : ℕ) → (HasCursor (page_at n p).cursor × ((page_at o p).met < (page_at n p).met))
        ⊎ ((n.bell.cursor ≡ None) × ((page_at n p).armed ≡ true) × ((page_at o p).takes < (page_at n p).takes)
        × (o.bell.takes < n.bell.takes)) → ⊥
    by_page p (inl h) = no_page_link p h.1
    by_page p (inr h) = none_armed p h.0 h.1 h.2 h.3

    by_reason : RestsNot o n → ⊥
    by_reason (inl h) = no_bell_link h.1
    by_reason (inr h) = by_page h.0 h.2

pub leaves_never_wait : LeavesNeverWait
leaves_never_wait layout o n last had held waits b =
    let v = o.pages.owner.view in
    let u = n.pages.owner.view in
    let same = waits.collects.through.aside.same in
    let there = cut layout v u last had.stands same b in
    let g = goes layout v u last had.stands same b in
    let sees : SeesBell (plan_of layout u.shape) o.pages = record {
      cursor = ap (λ (s : SeenBell). s.cursor) had.bell;
      takes = ap (λ (s : SeenBell). s.takes) had.bell;
      met = ap (λ (s : SeenBell). s.met) had.bell
          ∙ ap (λ (z : Numbers). bell_met (plan_of layout z) o.pages.shard v.own.trail) (sym same.shape);
    } in
    let sees_now : SeesBell (plan_of layout u.shape) n.pages = record {
      cursor = ap (λ (s : SeenBell). s.cursor) held.bell;
      takes = ap (λ (s : SeenBell). s.takes) held.bell;
      met = ap (λ (s : SeenBell). s.met) held.bell;
    } in
    never_waits layout u.shape b.is_layout b.is_shape b.fits there.early there.late v.pass o.pages n.pages g sees
    sees_now held.owned held.idle waits
