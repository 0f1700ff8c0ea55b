-- When an owner that goes on alone in a quiet heap is told Full.
use Rattle.std.proofs.Common.{◌≡◌, ℕ, ◌+◌, ◌<◌, ◌==◌, true, List, [], ◌++◌, refl, ap, sym, ◌∙◌, subst, Option, Some}
use Rattle.std.proofs.Common.{None, MatchOption}
use Rattle.sh_key.specs.Layout.{Layout, IsLayout}
use Rattle.sh_shape.specs.Shape.{Numbers, IsShape, Fits}
use Rattle.sh_slots.specs.declared.hand.Hand.TheVariants.{Idle}
use Rattle.sh_step.specs.declared.action.Event.{Event}
use Rattle.sh_step.specs.declared.body.Body.{Body}
use Rattle.sh_step.specs.Footsteps.{met, bell_met}
use Rattle.sh_step.specs.Plans.{Plan, plan_of, shard_of}
use Rattle.sh_step.specs.Rows.{own}
use Rattle.sh_core.specs.Lists.{PutLists, lists_of}
use Rattle.sh_core.specs.Worlds.{World, run}
use Rattle.sh_core.proofs.Sums.ListCounts.{has_some}
use Rattle.sh_pass.specs.Owners.{SeenBell, heap_page, own_body}
use Rattle.sh_shard.specs.Pages.{Paged, PageDone, page_at, shard_page}
use Rattle.sh_shard.specs.Shards.{NoneLeft}
use Rattle.sh_quiet.specs.Quiescence.{ClassIsUsed, FullIsExact}
use Rattle.sh_quiet.proofs.Emptied.{chain_ends, armed_is_empty, slot_is_used}
use Rattle.sh_quiet.proofs.Exact.{Goes, cut, goes, so_there}
use Rattle.sh_quiet.proofs.Working.{SeesBell, all_true, all_quiet, home_is, bell_links, page_links, bells_empty}
use Rattle.sh_quiet.proofs.Working.{bell_chain_empty}

module _ (layout : Layout) (shape : Numbers) (is_layout : IsLayout layout) (is_shape : IsShape shape)
    (fits : Fits layout shape) (early more : List Event) (a c : ℕ) (o n : Paged)
    (g : Goes (plan_of layout shape) early more a o.owner.view.own n.owner.view.own)
    (had : SeesBell (plan_of layout shape) o) (has_now : SeesBell (plan_of layout shape) n)
    (owned : (own_body n.owner).owned ≡ Some n.shard) (idle : (own_body n.owner).hand ≡ Idle)
    (left : NoneLeft c o n) where
  abbrev full_plan : Plan
  full_plan = plan_of layout shape

  abbrev full_world : World
  full_world = run full_plan (early ++ more)

  abbrev full_lists : PutLists
  full_lists = lists_of full_plan (early ++ more)

  -- the bell was taken, and followed to its end
  bell_done : (cur : Option ℕ) → n.bell.cursor ≡ cur
      → MatchOption cur (o.bell.takes < n.bell.takes) (λ _. o.bell.met < n.bell.met)
      → (n.bell.cursor ≡ None) × (o.bell.takes < n.bell.takes)
  bell_done None is rung = (is, rung)
  bell_done (Some r) is more_met = absurd (bell_links layout shape is_layout is_shape fits early more a o n g had
      has_now owned idle left.through more_met)

  -- each page of the class was followed to its end, and is armed
  page_done : (p : ℕ) (cur : Option ℕ) → (page_at n p).cursor ≡ cur
      → MatchOption cur ((page_at n p).armed ≡ true) (λ _. (page_at o p).met < (page_at n p).met)
      → ((page_at n p).cursor ≡ None) × ((page_at n p).armed ≡ true)
  page_done p None is armed = (is, armed)
  page_done p (Some s) is more_met = absurd (page_links layout shape is_layout is_shape fits early more a o n g had
      has_now owned idle left.through p more_met)

  pub class_is_used : ClassIsUsed c n full_world
  class_is_used p s below class slot =
      let through = left.through in
      let done : PageDone o n p = left.done p below class in
      let rung = bell_done n.bell.cursor refl left.bell in
      let ends = page_done p (page_at n p).cursor refl done.waits in
      let q : ℕ = heap_page n.owner (shard_page n.shard p) in
      let body : Body = own_body n.owner in
      let all = all_true layout shape is_layout is_shape fits early more a o n g had has_now owned idle through in
      let quiet = all_quiet layout shape is_layout is_shape fits early more a o n g had has_now owned idle through in
      let bells : full_lists.bells n.shard ≡ [] =
      bells_empty layout shape is_layout is_shape fits early more a o n g had has_now owned idle through rung.1 in
      let bell_chain : full_lists.bell_chain n.shard ≡ [] =
      bell_chain_empty layout shape is_layout is_shape fits early more a o n g had has_now owned idle through rung.0 in
      let some = has_some (λ r. r == q) body.armed ends.1 in
      let stands = all.parts a body g.body in
      let mine : own full_plan body q ≡ true = (stands.armed q some).1 in
      let its : n.shard ≡ shard_of full_plan q =
      home_is layout shape is_layout is_shape fits early more a o n g had has_now owned idle through q mine in
      let stack = armed_is_empty full_plan full_world full_lists all quiet a body g.body q mine ends.1
      (subst (λ z. full_lists.bells z ≡ []) its bells) (subst (λ z. full_lists.bell_chain z ≡ []) its bell_chain) in
      let chain = chain_ends full_plan full_world full_lists all quiet a body g.body q mine ends.0 in
      slot_is_used full_plan full_world full_lists all quiet a body g.body q s c mine
      (stands.notes q (c + 1) mine class) slot (done.mine s) stack chain

pub full_is_exact : FullIsExact
full_is_exact layout c o n last had held full b =
    let v = o.pages.owner.view in
    let u = n.pages.owner.view in
    let same = full.left.through.aside.same in
    let there = cut layout v u last had.stands same b in
    let g = goes layout v u last had.stands same b in
    let sees : SeesBell (plan_of layout u.shape) o.pages = record {
      cursor = ap (λ (s : SeenBell). s.cursor) had.bell;
      takes = ap (λ (s : SeenBell). s.takes) had.bell;
      met = ap (λ (s : SeenBell). s.met) had.bell
          ∙ ap (λ (z : Numbers). bell_met (plan_of layout z) o.pages.shard v.own.trail) (sym same.shape);
    } in
    let sees_now : SeesBell (plan_of layout u.shape) n.pages = record {
      cursor = ap (λ (s : SeenBell). s.cursor) held.bell;
      takes = ap (λ (s : SeenBell). s.takes) held.bell;
      met = ap (λ (s : SeenBell). s.met) held.bell;
    } in
    so_there layout v u last had.stands same b (λ w l. ClassIsUsed c n.pages w)
    (class_is_used layout u.shape b.is_layout b.is_shape b.fits there.early there.late v.pass c o.pages n.pages g sees
    sees_now held.owned held.idle full.left)
