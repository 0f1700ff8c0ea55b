use Rattle.sh_states.proofs.Padding.{whole_test}
use Rattle.sh_states.proofs.states.is_whole.Goals as goal

pub returns-clause-whole : goal.returns-clause-whole
returns-clause-whole c = whole_test c.args.state.now c.slots.result c.len-slots.result c.if-state-eq0.false
    c.slots.ensures.is
    c.len-slots.ensures.both
