-- What the tests of words know of an owner and of one page of its shard.
use Rattle.std.specs.Prelude.{◌≡◌, ℕ, Bool, cond, Option, Some, None}
use Rattle.sh_step.specs.declared.action.PageName.{PageName}
use Rattle.sh_pass.specs.Passes.{Caller}
use Rattle.sh_pass.specs.Owners.{SeenPage, MayTouch, heap_page, own_body, seen_page}

-- the page as its owner sees it
abbrev pub page_at : Caller → PageName → SeenPage
page_at v x = seen_page v (heap_page v x)

-- The page has class 7, this slot to follow next or none, and is armed or not. The bell's cursor is at the page, or
-- there is none
pub record IsAt (v : Caller) (x : PageName) (slot : Option ℕ) (armed rung : Bool) : Type 0 where
  pub touch : MayTouch v x
  pub class : (page_at v x).class ≡ Some 8
  pub cursor : (page_at v x).cursor ≡ slot
  pub flag : (page_at v x).armed ≡ armed
  pub bell : (own_body v).bell_cursor ≡ cond rung (Some (heap_page v x)) None
