use Rattle.std.proofs.Common.{refl, take, ◌∙◌}
use Rattle.std.proofs.lemmas.Option.{slice_get_read}
use Rattle.sh_history.specs.FirstFault.{IsWhy}
use Rattle.sh_history.proofs.Laws.{fault_excludes}
use Rattle.history_audit.proofs.WholeLemmas.{legal_so_far, why_here, taken_more}
use Rattle.history_audit.proofs.whole.check.Goals as goal
use Rattle.history_audit.proofs.whole.check.Goals.{In-Some}

why : (c : In-Some) → IsWhy c.args.passes c.args.guard_max (take c.loop-at.at c.args.entries.now)
    c.index-entries-at.result c.in-Some.clash.why
why c =
    let taken = c.loop-at.invariant in
    why_here c.loop-at.audit c.args.passes c.args.guard_max _ taken c.index-entries-at.result c.in-Some.clash
    (rw c.in-Some.is at (c.in_ok-clash.ensures.judged taken.2.0 taken.2.1))

pub returns-in-Some-clause-yes : goal.returns-in-Some-clause-yes
returns-in-Some-clause-yes c = (
  λ e. cc,
  λ legal. absurd (fault_excludes c.args.passes c.args.guard_max c.args.entries.now c.loop-at.at
      c.index-entries-at.result c.in-Some.clash.why c.loop-at-test.true c.index-entries-at.is
      (why (goal.at.returns-in-Some-clause-yes c).In-Some) legal),
)

pub returns-in-Some-clause-no : goal.returns-in-Some-clause-no
returns-in-Some-clause-no c = record {
  legal_before =
      legal_so_far c.loop-at.audit c.args.passes c.args.guard_max (take c.loop-at.at c.args.entries.now)
      c.loop-at.invariant;
  entry = c.index-entries-at.result;
  stands = slice_get_read _ _ _ _ refl c.loop-at-test.true c.index-entries-at.is;
  is_why = why (goal.at.returns-in-Some-clause-no c).In-Some;
}

pub loop-at-preserved : goal.loop-at-preserved
loop-at-preserved c =
    let taken = c.loop-at.invariant in
    taken_more c.push.new.self c.args.passes c.args.guard_max taken.2.0 c.args.entries.now c.loop-at.at
    c.index-entries-at.result (c.push.ensures.passes ∙ taken.0) (c.push.ensures.guard_max ∙ taken.1)
    (rw c.in_default.is at (c.in_ok-clash.ensures.taken taken.2.0 taken.2.1)) taken.2.2 c.loop-at-test.true
    c.index-entries-at.is
