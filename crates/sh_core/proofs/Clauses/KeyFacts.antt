-- What the log says of keys and holds, in the counts of histories, from the sums that are kept.
use Rattle.std.proofs.Common.{◌≡◌, ℕ, Bool, true, false, arith}
use Rattle.sh_history.specs.History.{is_removed}
use Rattle.sh_slots.specs.Slots.{slot_ref_of}
use Rattle.sh_step.specs.Collections.{if1}
use Rattle.sh_step.specs.Plans.{Plan}
use Rattle.sh_core.specs.Lists.{PutLists, state_of}
use Rattle.sh_core.specs.Placed.{Agreement}
use Rattle.sh_core.specs.Refines.{KeysMatchLog, HoldsMatchLog, PastIsRemoved}
use Rattle.sh_core.specs.Stories.{removals}
use Rattle.sh_core.specs.Worlds.{World, value_at}
use Rattle.sh_core.proofs.Slots.Permits.{value_none, value_one, value_some, removed_by, gots_are, releases_are}
use Rattle.sh_core.proofs.Slots.Permits.{gots_by_are, releases_by_are}

module _ (plan : Plan) (w : World) (l : PutLists) (all : Agreement plan w l) where
  -- the number of removals of a key says whether it was removed
  removed_is : (k : ℕ) (b : Bool) → removals k w.log ≡ if1 b → is_removed w.log k ≡ b
  removed_is k true e = (removed_by k w.log).1 (omega arith)
  removed_is k false e = (removed_by k w.log).0 (omega arith)

  pub past : PastIsRemoved plan w
  past k n name less =
      let story = (all.sums.keys k n name).before less in
      let once = story.0 in
      let gone = story.1 in (value_some k w.log (omega arith), (removed_by k w.log).1 (omega arith))

  pub keys_told : KeysMatchLog plan w
  keys_told k n name = let story = all.sums.keys k n name in record {
    issued = λ now there. value_one k w.log (value_at w.words n.page n.slot) (story.value now there);
    empty = λ now none. value_none k w.log (story.fresh now none);
    removed = λ now. removed_is k (state_of w (slot_ref_of n)).marked (story.mark now);
    later = λ less. (value_none k w.log (story.later less).0, (removed_by k w.log).0 (story.later less).1);
  }

  pub holds_told : HoldsMatchLog w
  holds_told = record {
    of_pass = λ a p k at. let h = all.sums.holds a p at k in let g = gots_by_are a k w.log
        in let r = releases_by_are a k w.log in omega arith;
    together = λ k. let h = all.sums.all_holds k in let g = gots_are k w.log in let r = releases_are k w.log
        in omega arith;
  }
