use Rattle.std.proofs.Common.{◌≡◌, ℕ, ◌+◌, ◌<◌, get_or, length}
use Rattle.sh_lists.proofs.lists.PageLists.full.Given as goal

-- each place before the last one that was written has the next
abbrev pub invariant-loop-slot : goal.invariant-loop-slot
invariant-loop-slot l = record {
  size : length l.next ≡ 48;
  links : (k : ℕ) → k + 1 < l.slot → get_or l.next k 0 ≡ k + 1;
}
