-- What an owner finds that goes on alone in a quiet heap and puts nothing: each link is written.
use Rattle.std.proofs.Common.{◌≡◌, ℕ, ◌<◌, true, List, [], ◌++◌, ap, sym, ◌∙◌, subst, Some, None}
use Rattle.sh_key.specs.Layout.{Layout, IsLayout}
use Rattle.sh_shape.specs.Places.{page_number}
use Rattle.sh_shape.specs.Shape.{Numbers, IsShape, Fits}
use Rattle.sh_slots.specs.declared.hand.Hand.TheVariants.{Idle}
use Rattle.sh_step.specs.declared.action.Event.{Event}
use Rattle.sh_step.specs.Footsteps.{bell_takes, met, bell_met}
use Rattle.sh_step.specs.Plans.{Plan, plan_of, shard_of}
use Rattle.sh_step.specs.Rows.{own}
use Rattle.sh_step.proofs.PartTests.{owns_is}
use Rattle.sh_core.specs.Lists.{PutLists, lists_of}
use Rattle.sh_core.specs.Quiet.{Quiet}
use Rattle.sh_core.specs.Refines.{Refines}
use Rattle.sh_core.specs.Worlds.{World, run}
use Rattle.sh_core.proofs.Clauses.RunTheorem.{theorem}
use Rattle.sh_pass.specs.Owners.{heap_page, own_body}
use Rattle.sh_shard.specs.Pages.{Paged, page_at, shard_page}
use Rattle.sh_shard.specs.Works.{WorksThroughout}
use Rattle.sh_quiet.proofs.Emptied.{bell_chain_ends}
use Rattle.sh_quiet.proofs.Exact.{Goes, quiet_still, rung_is_empty, none_met, none_met_on_bell}

-- what the owner of a shard knows of its bell is what its steps say
pub record SeesBell (plan : Plan) (v : Paged) : Type 0 where
  pub cursor : v.bell.cursor ≡ (own_body v.owner).bell_cursor
  pub takes : v.bell.takes ≡ bell_takes v.shard v.owner.view.own.trail
  pub met : v.bell.met ≡ bell_met plan v.shard v.owner.view.own.trail

module _ (layout : Layout) (shape : Numbers) (is_layout : IsLayout layout) (is_shape : IsShape shape)
    (fits : Fits layout shape) (early more : List Event) (a : ℕ) (o n : Paged)
    (g : Goes (plan_of layout shape) early more a o.owner.view.own n.owner.view.own)
    (had : SeesBell (plan_of layout shape) o) (has_now : SeesBell (plan_of layout shape) n)
    (owned : (own_body n.owner).owned ≡ Some n.shard) (idle : (own_body n.owner).hand ≡ Idle)
    (through : WorksThroughout o n) where
  abbrev work_plan : Plan
  work_plan = plan_of layout shape

  abbrev work_world : World
  work_world = run work_plan (early ++ more)

  abbrev work_lists : PutLists
  work_lists = lists_of work_plan (early ++ more)

  pub all_true : Refines work_plan work_world work_lists
  all_true = theorem layout shape is_layout is_shape fits (early ++ more)

  pub all_quiet : Quiet work_world
  all_quiet = quiet_still layout shape is_layout is_shape fits early more a o.owner.view.own n.owner.view.own g
      through.put idle

  -- page p of the shard, as the owner counted it before and counts it now
  pub same_page : (p : ℕ) → heap_page o.owner (shard_page o.shard p) ≡ heap_page n.owner (shard_page n.shard p)
  same_page p = λ i. page_number (sym through.aside.same.shape i) (sym through.shard i) p

  -- a page that the owner has is of its shard
  pub home_is : (q : ℕ) → own work_plan (own_body n.owner) q ≡ true → n.shard ≡ shard_of work_plan q
  home_is q mine =
      let both : Some n.shard ≡ Some (shard_of work_plan q) = sym owned ∙ owns_is work_plan (own_body n.owner) q mine in
      cc

  -- ---- a link that was not written

  pub bell_links : o.bell.met < n.bell.met → ⊥
  bell_links more_met =
      let P : ℕ × ℕ → Type 0 = λ z. z.0 < z.1 in
      let before : o.bell.met ≡ bell_met work_plan n.shard o.owner.view.own.trail = had.met
      ∙ ap (λ (k : ℕ). bell_met work_plan k o.owner.view.own.trail) (sym through.shard) in
      none_met_on_bell layout shape is_layout is_shape fits early more a o.owner.view.own n.owner.view.own g
      through.put n.shard (subst P (λ i. (before i, has_now.met i)) more_met)

  pub page_links : (p : ℕ) → (page_at o p).met < (page_at n p).met → ⊥
  page_links p more_met =
      let q : ℕ = heap_page n.owner (shard_page n.shard p) in
      none_met layout shape is_layout is_shape fits early more a o.owner.view.own n.owner.view.own g through.put q
      (subst (λ z. met z o.owner.view.own.trail < met q n.owner.view.own.trail) (same_page p) more_met)

  -- ---- the bell, if it was taken and followed to its end

  pub bells_empty : o.bell.takes < n.bell.takes → work_lists.bells n.shard ≡ []
  bells_empty rung =
      let P : ℕ × ℕ → Type 0 = λ z. z.0 < z.1 in
      let before : o.bell.takes ≡ bell_takes n.shard o.owner.view.own.trail = had.takes
      ∙ ap (λ (k : ℕ). bell_takes k o.owner.view.own.trail) (sym through.shard) in
      rung_is_empty layout shape is_layout is_shape fits early more a o.owner.view.own n.owner.view.own g through.put
      n.shard (subst P (λ i. (before i, has_now.takes i)) rung)

  pub bell_chain_empty : n.bell.cursor ≡ None → work_lists.bell_chain n.shard ≡ []
  bell_chain_empty none = bell_chain_ends work_plan work_world work_lists all_true all_quiet a (own_body n.owner) g.body
      n.shard owned (sym has_now.cursor ∙ none)
