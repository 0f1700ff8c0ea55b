use Rattle.std.proofs.Common.{◌≡◌, ◌-◌, ◌≤◌, List}
use Rattle.sh_member.specs.Removing.{Judged, JudgesEach, SaysOf, removed_count, walk_end}
use Rattle.sh_grown.specs.Callers.{Stays}
use Rattle.sh_grown.specs.Removing.{CallerMeets, CallerRemoves}
use Rattle.sh_grown.proofs.caller.Caller.remove_if.Given as goal

-- the keys of the places so far were judged; each was at a place of its own
abbrev pub invariant-loop-predicate : goal.invariant-loop-predicate
invariant-loop-predicate g l = record {
  callable : goal.F-IsAlwaysCallable g l.predicate;
  few : l.count ≤ l.place;
  inside : l.place ≤ walk_end;
  judged : List Judged;
  each : JudgesEach (SaysOf g.F.Fn l.predicate) CallerMeets CallerRemoves 0 judged l.place l.initial.self l.self;
  count_is : l.count ≡ removed_count judged;
  stays : Stays l.initial.self l.self;
}

abbrev pub decreases-loop-predicate : goal.decreases-loop-predicate
decreases-loop-predicate g l = walk_end - l.place
