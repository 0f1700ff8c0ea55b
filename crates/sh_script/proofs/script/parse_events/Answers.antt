use Rattle.sh_script.proofs.ScriptLemmas.{events_of_result, passes_of_events, tag_of_events, events_fault_of_result}
use Rattle.sh_script.proofs.ScriptLemmas.{events_only, events_fault_only}
use Rattle.sh_script.proofs.script.parse_events.Goals as goal

pub returns-clause-events : goal.returns-clause-events
returns-clause-events c = events_of_result c.args.text.now c.events.result c.events.ensures

pub returns-clause-passes : goal.returns-clause-passes
returns-clause-passes c = passes_of_events c.args.text.now c.events.result c.events.ensures

pub returns-clause-tag : goal.returns-clause-tag
returns-clause-tag c = tag_of_events c.args.text.now c.events.result c.events.ensures

pub returns-clause-fault : goal.returns-clause-fault
returns-clause-fault c = events_fault_of_result c.args.text.now c.events.result c.events.ensures

pub returns-clause-only_events : goal.returns-clause-only_events
returns-clause-only_events c = λ header lines h. rw (events_only c.args.text.now header lines h) at c.events.ensures

pub returns-clause-only_fault : goal.returns-clause-only_fault
returns-clause-only_fault c = λ f h. rw (events_fault_only c.args.text.now f h) at c.events.ensures
