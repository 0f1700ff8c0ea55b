use Rattle.std.proofs.Common.{◌≡◌, ◌-◌, ◌≤◌, ◌⊎◌, List}
use Rattle.sh_pass.specs.Passes.{RemoveDoes}
use Rattle.sh_pass.specs.Remaining.{Remains}
use Rattle.sh_member.specs.Removing.{Judged, JudgesEach, SaysOf, removed_count, walk_end}
use Rattle.sh_member.specs.Walks.{NextLiveDoes}
use Rattle.sh_member.proofs.removing.remove_if.Given as goal

-- the keys of the places so far were judged; each was at a place of its own
abbrev pub invariant-loop-next : goal.invariant-loop-next
invariant-loop-next g l =
    let layout = g.R.Reader.layout in
    let v = g.R.Reader.caller l.fn.reader in
    let a = g.R.Reader.caller l.reader in
    record {
      callable : goal.F-IsAlwaysCallable g l.predicate;
      few : l.count ≤ l.place;
      inside : l.place ≤ walk_end;
      judged : List Judged;
      each : JudgesEach (SaysOf g.F.Fn l.predicate) (λ from. NextLiveDoes layout from walk_end) (RemoveDoes layout) 0
          judged l.place v a;
      count_is : l.count ≡ removed_count judged;
      remains : Remains layout v a ⊎ (a ≡ v);
    }

abbrev pub decreases-loop-next : goal.decreases-loop-next
decreases-loop-next g l = walk_end - l.place
