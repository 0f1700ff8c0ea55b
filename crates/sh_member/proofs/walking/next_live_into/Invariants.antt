use Rattle.std.proofs.Common.{◌≡◌, ◌*◌, ◌≤◌, ◌⊎◌, None}
use Rattle.std.specs.Prelude.{min}
use Rattle.sh_shape.specs.Places.{all_pages}
use Rattle.sh_pass.specs.Remaining.{Remains}
use Rattle.sh_member.specs.Walks.{NextLiveDoes}
use Rattle.sh_member.proofs.walking.next_live_into.Given as goal

-- each key of the places so far was missed, and the room is as it was
abbrev pub invariant-loop-place : goal.invariant-loop-place
invariant-loop-place g l =
    let caller = g.R.Reader.caller in
    let layout = g.R.Reader.layout in
    record {
      low : l.fn.from ≤ l.place;
      end : l.place-end ≡ min l.fn.before (all_pages (caller l.fn.reader).heap.shape * 48);
      reached : (l.place ≤ l.place-end) ⊎ (l.place ≡ l.fn.from);
      room : l.value ≡ l.fn.value;
      does : NextLiveDoes layout l.fn.from l.place (caller l.fn.reader) None (caller l.reader);
      remains : Remains layout (caller l.fn.reader) (caller l.reader);
    }
