use Rattle.std.proofs.Common.{List, ℕ}
use Rattle.std.specs.Prelude.{Result}
use Rattle.sh_value.specs.declared.refusal.Refusal.{Refusal}
use Rattle.sh_pass.specs.Fetching.{FetchDoes}
use Rattle.sh_pass.specs.Rooms.{becomes}
use Rattle.sh_pass.proofs.Fetched.{fills_as, it_did}
use Rattle.sh_member.specs.Sides.{SideDoes, caller_by}
use Rattle.sh_member.proofs.CallersOf.{caller_did, caller_remains}
use Rattle.sh_member.proofs.member.reading.MemberReader.look_into.Goals as goal

pub returns-clause-does : goal.returns-clause-does
returns-clause-does g c =
    let layout = g.L.KeyLayout.layout in
    let m = c.args.self.now in
    let n = c.look_into.new.self in
    let did : Result (List ℕ) Refusal → Type 0 = λ r. SideDoes layout (FetchDoes layout c.args.key) m r n in
    let does : Result (List ℕ) Refusal → Type 0 = λ r. FetchDoes layout c.args.key (caller_by m) r (caller_by n) in
    fills_as becomes did does c.args.value.now c.look_into.new.room c.look_into.result
    (λ r. caller_did layout (FetchDoes layout c.args.key) r m n) c.look_into.ensures

pub returns-clause-remains : goal.returns-clause-remains
returns-clause-remains g c =
    let layout = g.L.KeyLayout.layout in
    let m = c.args.self.now in
    let n = c.look_into.new.self in
    let did : Result (List ℕ) Refusal → Type 0 = λ r. SideDoes layout (FetchDoes layout c.args.key) m r n in
    let (answer, so) = it_did becomes did c.args.value.now c.look_into.new.room c.look_into.result
    c.look_into.ensures in
    caller_remains layout (FetchDoes layout c.args.key) answer m n so
