-- The words of an event are read as that event, and no others are.
use Rattle.std.proofs.Common.{◌≡◌, ℕ, List, [], ◌∷◌, ◌++◌, Ok, refl, sym, ap, subst, ◌∙◌, lt-ltb}
use Rattle.sh_step.specs.Kinds.{kind_name}
use Rattle.sh_step.specs.declared.action.Event.{Event}
use Rattle.sh_script.specs.Words.{Word}
use Rattle.sh_script.specs.EventLines.{event_of, event_added}
use Rattle.sh_script.specs.EventMeaning.{IsAction, IsEventLine, SaysEvent}
use Rattle.sh_script.proofs.NumberLemmas.{number_is, number_gives}
use Rattle.sh_script.proofs.Steps.{bind_ok, or_ok, ok_is, ok_of, next_ok, pass_at_ok, Agrees}
use Rattle.sh_script.proofs.KindLemmas.{kind_is, kind_gives}
use Rattle.sh_script.proofs.ActionLemmas.{action_is}
use Rattle.sh_script.proofs.ActionWordLemmas.{action_gives}

-- ---- the line

event_is : (passes : ℕ) (ws : List Word) (event : Event) → event_of passes ws ≡ Ok event → IsEventLine passes ws event
unfolding event_of
event_is passes ws event e =
    let a = bind_ok _ _ event e in
    let c = bind_ok _ _ event a.2 in
    let d = bind_ok _ _ event c.2 in
    let f = bind_ok _ _ event d.2 in
    let pass = pass_at_ok passes ws a.0 a.1 in
    let spoken : (a.0).1 ≡ kind_name d.0 ∷ (c.0).1 = next_ok _ (a.0).1 c.0 c.1
    ∙ ap (λ x. x ∷ (c.0).1) (kind_is (c.0).0 d.0 (or_ok _ _ _ d.1)) in
    subst (IsEventLine passes ws) (ok_is _ event f.2) (record {
      first = pass.first.word;
      others = (a.0).1;
      says = pass.first.is;
      pass_is = number_is _ _ pass.first.number;
      below = pass.below;
      acts = subst (λ xs. IsAction xs f.0) (sym spoken) (action_is d.0 (c.0).1 f.0 f.1);
    })

event_gives : (passes : ℕ) (ws : List Word) (event : Event) → IsEventLine passes ws event → event_of passes ws
    ≡ Ok event
unfolding event_of
event_gives passes ws event x =
    let r = action_gives x.others event.action x.acts in
    rw (x.says, r.says, number_gives x.first event.pass x.pass_is, lt-ltb _ _ x.below, kind_gives r.kind, r.reads) refl

-- ---- the events so far

event_added_is : (passes : ℕ) (before : List Event) (ws : List Word) (now : List Event) → event_added passes before ws
    ≡ Ok now → SaysEvent passes before ws now
event_added_is passes before ws now e =
    let a = bind_ok _ _ now e in
    record { event = a.0; is = event_is passes ws a.0 a.1; now_is = sym (ok_is (before ++ a.0 ∷ []) now a.2) }

event_added_gives : (passes : ℕ) (before : List Event) (ws : List Word) (now : List Event)
    → SaysEvent passes before ws now → event_added passes before ws ≡ Ok now
event_added_gives passes before ws now x = rw (event_gives passes ws x.event x.is) (ap ok_of (sym x.now_is))

pub events_agree : Agrees event_added SaysEvent
events_agree = record { is = event_added_is; gives = event_added_gives }
