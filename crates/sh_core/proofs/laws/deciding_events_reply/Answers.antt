use Rattle.sh_core.proofs.Words.DecidingEvents.{deciding_events}
use Rattle.sh_core.proofs.laws.deciding_events_reply.Goals as goal

pub returns : goal.returns
returns c = deciding_events
