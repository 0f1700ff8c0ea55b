-- What any step of an owner leaves of what it knows, by the body that it leaves.
use Rattle.std.proofs.Common.{◌≡◌, ℕ, ◌+◌, ◌==◌, Bool, true, false, Option, None, List, [], ◌∷◌, ◌++◌, length, ap, ◌∙◌}
use Rattle.std.proofs.Common.{arith}
use Rattle.std.proofs.lemmas.List.{length-append}
use Rattle.std.specs.Prelude.{count_by}
use Rattle.sh_history.specs.declared.log.LogEntry.{LogEntry}
use Rattle.sh_key.specs.Layout.{Layout}
use Rattle.sh_slots.specs.declared.hand.Hand.{Hand}
use Rattle.sh_slots.specs.Slots.{same_slot}
use Rattle.sh_step.specs.declared.action.Action.{Action}
use Rattle.sh_step.specs.declared.body.Body.{Body}
use Rattle.sh_step.specs.declared.footstep.Footstep.{Footstep}
use Rattle.sh_step.specs.declared.moves.Move.{Move}
use Rattle.sh_step.specs.Collections.{if1, has, noted}
use Rattle.sh_step.specs.Footsteps.{footstep_of, takes_page, takes_bell, meets_page, meets_bell, takes, met}
use Rattle.sh_step.specs.Plans.{plan_of}
use Rattle.sh_step.proofs.FootstepLaws.{counts_grow}
use Rattle.sh_table.specs.declared.view.View.{View}
use Rattle.sh_table.specs.Steps.{row_by}
use Rattle.sh_table.specs.Views.{filled_by, key_read, logged_of}
use Rattle.sh_pass.specs.Growing.{SameTale}
use Rattle.sh_pass.specs.Passes.{Caller}
use Rattle.sh_pass.proofs.SameTales.{stepped_same}
use Rattle.sh_pass.specs.Owners.{OwnerDid, OwnerActs, SamePages, SameBells, SeenPage, own_body, seen_page, seen_bell}

module _ (layout : Layout) (x : Action) (m : Move) (n : ℕ) (v w : Caller) (d : OwnerDid layout x m n v w) (b : Body)
    (is : (row_by layout v.view m).part n ≡ b) where
  abbrev t : Footstep
  t = footstep_of x (row_by layout v.view m) n

  pub body_is : own_body w ≡ b
  body_is = ap (λ (u : View). u.own.body) d.view ∙ is

  counted : (f : Footstep → Bool) → count_by f w.view.own.trail ≡ count_by f v.view.own.trail + if1 (f t)
  counted f = ap (λ (u : View). count_by f u.own.trail) d.view ∙ counts_grow f v.view.own.trail t

  pub still : (f : Footstep → Bool) → f t ≡ false → count_by f w.view.own.trail ≡ count_by f v.view.own.trail
  still f e = let c = counted f in let k : if1 (f t) ≡ 0 = ap if1 e in omega arith

  pub more : (f : Footstep → Bool) → f t ≡ true → count_by f w.view.own.trail ≡ count_by f v.view.own.trail + 1
  more f e = let c = counted f in let k : if1 (f t) ≡ 1 = ap if1 e in omega arith

  pub same_tale : SameTale v.view w.view
  same_tale = stepped_same x (row_by layout v.view m) n d.view

  pub log_is : (es : List LogEntry) → key_read x ≡ None → logged_of v.view.pass ((row_by layout v.view m).reply n) ≡ es
      → w.view.own.log ≡ v.view.own.log ++ es
  unfolding filled_by
  log_is es none e = ap (λ (u : View). u.own.log) d.view ∙ (ap
      (λ o. filled_by ((row_by layout v.view m).part n) o (v.view.own.log
      ++ logged_of v.view.pass ((row_by layout v.view m).reply n))) none
      ∙ ap (λ (fs : List LogEntry). v.view.own.log ++ fs) e)

  pub acts : (h : Hand) (es : List LogEntry) → b.owned ≡ (own_body v).owned → b.holds ≡ (own_body v).holds → b.hand ≡ h
      → key_read x ≡ None → logged_of v.view.pass ((row_by layout v.view m).reply n) ≡ es → OwnerActs h es 1 v w
  acts h es owned holds begun none e = record {
    aside = record {
      heap = d.heap;
      same = same_tale;
      owned = ap (λ (p : Body). p.owned) body_is
          ∙ owned;
      holds = ap (λ (p : Body). p.holds) body_is ∙ holds;
    };
    hand = ap (λ (p : Body). p.hand) body_is ∙ begun;
    log = log_is es none e;
    steps = ap (λ (u : View). length u.own.trail) d.view ∙ length-append v.view.own.trail (t ∷ []);
  }

  bell_met_is : (k : ℕ) → count_by (meets_bell (plan_of layout w.view.shape) k) w.view.own.trail
      ≡ count_by (meets_bell (plan_of layout v.view.shape) k) w.view.own.trail
  bell_met_is k = ap (λ s. count_by (meets_bell (plan_of layout s) k) w.view.own.trail)
      (ap (λ (u : View). u.shape) d.view)

  pub bells_same : b.bell_cursor ≡ (own_body v).bell_cursor → ((k : ℕ) → takes_bell k t ≡ false)
      → ((k : ℕ) → meets_bell (plan_of layout v.view.shape) k t ≡ false) → SameBells layout v w
  bells_same cursor takes meets k i = record {
    cursor = (ap (λ (p : Body). p.bell_cursor) body_is ∙ cursor) i;
    takes = still (takes_bell k) (takes k) i;
    met = (bell_met_is k ∙ still (meets_bell (plan_of layout v.view.shape) k) (meets k)) i;
  }

  pub bell_after : (k : ℕ) (o : Option ℕ) (j l : ℕ) → b.bell_cursor ≡ o → count_by (takes_bell k) w.view.own.trail ≡ j
      → count_by (meets_bell (plan_of layout v.view.shape) k) w.view.own.trail ≡ l → seen_bell layout w k
      ≡ record { cursor = o; takes = j; met = l }
  bell_after k o j l cursor takes meets i = record {
    cursor = (ap (λ (p : Body). p.bell_cursor) body_is ∙ cursor) i;
    takes = takes i;
    met = (bell_met_is k ∙ meets) i;
  }

  pub page_after : (r : ℕ) (g : SeenPage)
      → ((s : ℕ) → has (same_slot (record { page = r; slot = s })) b.mine ≡ g.mine s) → noted r b.cursors ≡ g.cursor
      → has (λ y. y == r) b.armed ≡ g.armed → noted r b.classes ≡ g.class
      → takes r w.view.own.trail ≡ g.takes → met r w.view.own.trail ≡ g.met → seen_page w r ≡ g
  page_after r g mine cursor armed class takes met i = record {
    mine = λ s. (ap (λ (p : Body). has (same_slot (record { page = r; slot = s })) p.mine) body_is ∙ mine s) i;
    cursor = (ap (λ (p : Body). noted r p.cursors) body_is ∙ cursor) i;
    armed = (ap (λ (p : Body). has (λ y. y == r) p.armed) body_is ∙ armed) i;
    class = (ap (λ (p : Body). noted r p.classes) body_is ∙ class) i;
    takes = takes i;
    met = met i;
  }

  -- a step that leaves all lists as they were, and takes from no page
  pub pages_same : b.mine ≡ (own_body v).mine → b.cursors ≡ (own_body v).cursors → b.armed ≡ (own_body v).armed
      → b.classes ≡ (own_body v).classes → ((r : ℕ) → takes_page r t ≡ false) → ((r : ℕ) → meets_page r t ≡ false)
      → SamePages v w
  pages_same mine cursors armed classes none never r = page_after r (seen_page v r)
      (λ s. ap (has (same_slot (record { page = r; slot = s }))) mine) (ap (noted r) cursors)
      (ap (has (λ y. y == r)) armed) (ap (noted r) classes) (still (takes_page r) (none r))
      (still (meets_page r) (never r))
