-- A walk of a member that is never refused.
use Rattle.std.proofs.Common.{Ok}
use Rattle.sh_key.specs.Layout.{Layout}
use Rattle.sh_pass.specs.Passes.{Caller}
use Rattle.sh_member.specs.Sides.{SeenSide, SideDoes}
use Rattle.sh_member.specs.declared.member.Side.TheVariants.{Pass, Shard}
use Rattle.c_handles.specs.HeldPasses.{Unrefused}

pub unrefused : {A : Type 0} (l : Layout) (does : Caller → A → Caller → Type 0) (m : SeenSide) (answer : A)
    (n : SeenSide) → SideDoes l does m answer n → SideDoes l (Unrefused does) m (Ok answer) n
unrefused l does (Pass v) answer (Pass w) did = did
unrefused l does (Pass v) answer (Shard n) did = absurd did
unrefused l does (Shard o) answer (Shard n) did = did
unrefused l does (Shard o) answer (Pass w) did = absurd did
