use Rattle.std.proofs.Common.{◌≡◌, ◌∙◌, ◌+◌, ◌∷◌, [], ◌++◌, sym, ap, rules, take}
use Rattle.std.proofs.lemmas.List.{take_more}
use Rattle.history_timed.specs.declared.call.Call.{Call}
use Rattle.history_timed.proofs.FindingLemmas.{found_no_more, found_more}
use Rattle.history_timed.proofs.finding.findings.Goals.{in-Some+in_ok-push, in_default}
use Rattle.history_timed.proofs.finding.findings.Goals as goal

pub loop-call-preserved : goal.loop-call-preserved
loop-call-preserved c =
    let calls = c.args.calls.now in
    let n = c.loop-call.call-index in
    let call = c.call-item.result in
    let more : take (n + 1) calls ≡ take n calls ++ call ∷ [] =
    take_more calls n call (search rules) ∙ ap (λ (x : Call). take n calls ++ x ∷ []) (sym c.call-item.is) in
    elim c.match-any_clash.branch [
      | in-Some+in_ok-push w ↦ rw (w.found-is, w.in_ok-push.ensures.items, more)
          (found_more c.args.passes c.args.guard_max calls (take n calls) call c.loop-call.found.items
          w.in-Some.clash c.loop-call.invariant (rw c.in_ok-index.ensures at w.in-Some.ensures))
      | in_default w ↦ rw (w.found-is, more)
          (found_no_more c.args.passes c.args.guard_max calls (take n calls) call c.loop-call.found.items
          c.loop-call.invariant (rw c.in_ok-index.ensures at w.in_default.ensures))
    ]
