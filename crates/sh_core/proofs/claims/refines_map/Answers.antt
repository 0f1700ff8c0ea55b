use Rattle.sh_core.proofs.Clauses.RunTheorem.{theorem}
use Rattle.sh_core.proofs.claims.refines_map.Goals as goal

pub returns-clause-legal : goal.returns-clause-legal
returns-clause-legal c = λ layout shape a b f es. (theorem layout shape a b f es).legal

pub returns-clause-entries : goal.returns-clause-entries
returns-clause-entries c = λ layout shape a b f es. (theorem layout shape a b f es).entries

pub returns-clause-one_kind : goal.returns-clause-one_kind
returns-clause-one_kind c = λ layout shape a b f es. (theorem layout shape a b f es).one_kind

pub returns-clause-classes : goal.returns-clause-classes
returns-clause-classes c = λ layout shape a b f es. (theorem layout shape a b f es).classes

pub returns-clause-held : goal.returns-clause-held
returns-clause-held c = λ layout shape a b f es. (theorem layout shape a b f es).held

pub returns-clause-notes : goal.returns-clause-notes
returns-clause-notes c = λ layout shape a b f es. (theorem layout shape a b f es).notes

pub returns-clause-looks : goal.returns-clause-looks
returns-clause-looks c = λ layout shape a b f es. (theorem layout shape a b f es).looks

pub returns-clause-holds : goal.returns-clause-holds
returns-clause-holds c = λ layout shape a b f es. (theorem layout shape a b f es).holds

pub returns-clause-counted : goal.returns-clause-counted
returns-clause-counted c = λ layout shape a b f es. (theorem layout shape a b f es).counted

pub returns-clause-few : goal.returns-clause-few
returns-clause-few c = λ layout shape a b f es. (theorem layout shape a b f es).few

pub returns-clause-counts : goal.returns-clause-counts
returns-clause-counts c = λ layout shape a b f es. (theorem layout shape a b f es).counts

pub returns-clause-past : goal.returns-clause-past
returns-clause-past c = λ layout shape a b f es. (theorem layout shape a b f es).past

pub returns-clause-keys : goal.returns-clause-keys
returns-clause-keys c = λ layout shape a b f es. (theorem layout shape a b f es).keys

pub returns-clause-generations : goal.returns-clause-generations
returns-clause-generations c = λ layout shape a b f es. (theorem layout shape a b f es).generations

pub returns-clause-retired : goal.returns-clause-retired
returns-clause-retired c = λ layout shape a b f es. (theorem layout shape a b f es).retired

pub returns-clause-finished : goal.returns-clause-finished
returns-clause-finished c = λ layout shape a b f es. (theorem layout shape a b f es).finished

pub returns-clause-owners : goal.returns-clause-owners
returns-clause-owners c = λ layout shape a b f es. (theorem layout shape a b f es).owners

pub returns-clause-armed : goal.returns-clause-armed
returns-clause-armed c = λ layout shape a b f es. (theorem layout shape a b f es).armed

pub returns-clause-shardless : goal.returns-clause-shardless
returns-clause-shardless c = λ layout shape a b f es. (theorem layout shape a b f es).shardless

pub returns-clause-linked : goal.returns-clause-linked
returns-clause-linked c = λ layout shape a b f es. (theorem layout shape a b f es).linked

pub returns-clause-parts : goal.returns-clause-parts
returns-clause-parts c = λ layout shape a b f es. (theorem layout shape a b f es).parts

pub returns-clause-fills : goal.returns-clause-fills
returns-clause-fills c = λ layout shape a b f es. (theorem layout shape a b f es).fills

pub returns-clause-places : goal.returns-clause-places
returns-clause-places c = λ layout shape a b f es. (theorem layout shape a b f es).places

pub returns-clause-bells : goal.returns-clause-bells
returns-clause-bells c = λ layout shape a b f es. (theorem layout shape a b f es).bells

pub returns-clause-values : goal.returns-clause-values
returns-clause-values c = λ layout shape a b f es. (theorem layout shape a b f es).values

pub returns-clause-stores : goal.returns-clause-stores
returns-clause-stores c = λ layout shape a b f es. (theorem layout shape a b f es).stores

pub returns-clause-issues : goal.returns-clause-issues
returns-clause-issues c = λ layout shape a b f es. (theorem layout shape a b f es).issues

pub returns-clause-passes : goal.returns-clause-passes
returns-clause-passes c = λ layout shape a b f es. (theorem layout shape a b f es).passes

pub returns-clause-few_holds : goal.returns-clause-few_holds
returns-clause-few_holds c = λ layout shape a b f es. (theorem layout shape a b f es).few_holds

pub returns-clause-flags : goal.returns-clause-flags
returns-clause-flags c = λ layout shape a b f es. (theorem layout shape a b f es).flags

pub returns-clause-hands : goal.returns-clause-hands
returns-clause-hands c = λ layout shape a b f es. (theorem layout shape a b f es).hands

pub returns-clause-goes_on : goal.returns-clause-goes_on
returns-clause-goes_on c = λ layout shape a b f es. (theorem layout shape a b f es).goes_on

pub returns-clause-ends : goal.returns-clause-ends
returns-clause-ends c = λ layout shape a b f es. (theorem layout shape a b f es).ends
