use Rattle.std.proofs.Common.{◌∙◌}
use Rattle.sh_replay.proofs.EndingLemmas.{replays}
use Rattle.sh_replay.proofs.replaying.replay_gated.Goals as goal

pub returns-clause-ends : goal.returns-clause-ends
returns-clause-ends g c = λ input known.
    replays c.args.mode c.args.accounts _ _ c.in_ok-output.output.items _ c.write_text.result _ _
    (c.as_slice.ensures.value ∙ c.in_ok-text.ensures.text input known) c.as_slice-2.ensures.value
    c.in_ok-output.ensures.output c.write_text.ensures.ok c.write_text.ensures.fault c.write_text.ensures.beginning
