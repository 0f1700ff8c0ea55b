-- What an owner's step leaves of the page that a test looks at.
use Rattle.std.proofs.Common.{◌≡◌, ◌<◌, ℕ, Bool, List, Option, Some, None, cond, ap, sym, subst, ◌∙◌}
use Rattle.sh_history.specs.declared.log.LogEntry.{LogEntry}
use Rattle.sh_shape.specs.Shape.{Numbers}
use Rattle.sh_shape.specs.Places.{pages_of, page_number}
use Rattle.sh_slots.specs.declared.hand.Hand.TheVariants.{Idle}
use Rattle.sh_step.specs.declared.action.PageName.{PageName}
use Rattle.sh_pass.specs.Passes.{Caller}
use Rattle.sh_pass.specs.Owners.{SeenPage, MayTouch, OwnerActs, heap_page, own_body, seen_page}
use Rattle.test_heap.specs.Pages.{IsAt, page_at}

module _ {es : List LogEntry} {n : ℕ} (v w : Caller) (x : PageName) (acts : OwnerActs Idle es n v w)
    (touch : MayTouch v x) where
  shape_is : w.view.shape ≡ v.view.shape
  shape_is = acts.aside.same.shape

  -- the page may be touched again
  pub touched : MayTouch w x
  touched = record {
    idle = acts.hand;
    owned = acts.aside.owned ∙ touch.owned;
    page = subst (λ (s : Numbers). x.page < pages_of s) (sym shape_is) touch.page;
  }

  -- and is as the step made it
  pub now_at : (g : SeenPage) → seen_page w (heap_page v x) ≡ g → page_at w x ≡ g
  now_at g here = subst (λ (s : Numbers). seen_page w (page_number s x.shard x.page) ≡ g) (sym shape_is) here

  pub at : (g : SeenPage) (slot : Option ℕ) (armed rung : Bool) → seen_page w (heap_page v x) ≡ g → g.class ≡ Some 8
      → g.cursor ≡ slot → g.armed ≡ armed → (own_body w).bell_cursor ≡ cond rung (Some (heap_page w x)) None
      → IsAt w x slot armed rung
  at g slot armed rung here class cursor is_armed bell = let h = now_at g here in record {
    touch = touched;
    class = ap (λ (q : SeenPage). q.class) h ∙ class;
    cursor = ap (λ (q : SeenPage). q.cursor) h ∙ cursor;
    flag = ap (λ (q : SeenPage). q.armed) h ∙ is_armed;
    bell = bell;
  }
