-- Scripts of calls and scripts of events: what was returned for a text is what it means.
use Rattle.std.proofs.Common.{◌≡◌, ◌≢◌, ◌<◌, ℕ, List, [], Option, Some, None, Result, Ok, Err, IfOk, IfErr, refl, sym}
use Rattle.std.proofs.Common.{ap, subst}
use Rattle.std.specs.List.{All}
use Rattle.std.proofs.lemmas.List.Elements.{All-nil, All-push}
use Rattle.sh_step.specs.declared.action.Event.{Event}
use Rattle.sh_script.specs.Words.{Word}
use Rattle.sh_script.specs.Trouble.{◌>>=◌}
use Rattle.sh_script.specs.CallLines.{CallsSoFar, no_calls, call_added}
use Rattle.sh_script.specs.EventLines.{event_added}
use Rattle.sh_script.specs.CallMeaning.{SaysCall}
use Rattle.sh_script.specs.EventMeaning.{SaysEvent}
use Rattle.sh_script.specs.HeaderMeaning.{AreTag, HasTag}
use Rattle.sh_script.specs.BoundNames.{NamesAreBound}
use Rattle.sh_script.specs.Grammar.{Means}
use Rattle.sh_script.specs.Script.{script_of}
use Rattle.sh_script.specs.Scripts.{IsCalls, IsCallsFault, calls_of, GivesCalls, IsEvents, IsEventsFault, GivesEvents}
use Rattle.sh_script.specs.declared.fault.Fault.{Fault}
use Rattle.sh_script.specs.declared.fault.Fault.TheVariants as fault
use Rattle.sh_script.specs.declared.header.Header.{Header}
use Rattle.sh_script.specs.declared.header.Layout.{Layout as LayoutName}
use Rattle.sh_script.specs.declared.header.Layout.TheVariants as layout
use Rattle.sh_script.specs.declared.calls.Calls.{Calls}
use Rattle.sh_script.specs.declared.calls.CallLine.{CallLine}
use Rattle.sh_script.specs.declared.event.Events.{Events}
use Rattle.sh_script.proofs.Steps.{bind_ok, fine_is}
use Rattle.sh_script.proofs.CallLemmas.{calls_agree}
use Rattle.sh_script.proofs.EventLemmas.{events_agree}
use Rattle.sh_script.proofs.GrammarLemmas.{script_only, script_found, fault_only, fault_found}
use Rattle.sh_script.proofs.PassLemmas.{IsLasting, script_keeps}
use Rattle.sh_script.proofs.BoundLemmas.{AreBound, calls_stay_bound}

-- ---- calls

err_is : {A E : Type 0} (r : Result A E) (t e : E) → r ≡ Err t → r ≡ Err e → t ≡ e
err_is r t e p q = cc

bind_err : {A B E : Type 0} (r : Result A E) (f : A → B) (e : E) → (r >>= λ x. Ok (f x)) ≡ Err e → r ≡ Err e
bind_err (Ok x) f e h = cc
bind_err (Err t) f e h = ap (λ x. Err x) (err_is (Err t) t e refl h)

abbrev lines_in : Header × CallsSoFar → Header × List CallLine
lines_in x = (x.0, (x.1).lines)

pub calls_only : (text : List ℕ) (header : Header) (calls : List CallLine) → IsCalls text header calls → calls_of text
    ≡ Ok (header, calls)
calls_only text header calls x = rw (script_only call_added SaysCall calls_agree no_calls text header
    (record { names = x.0; lines = calls }) x.1) refl

pub calls_fault_only : (text : List ℕ) (f : Fault) → IsCallsFault text f → calls_of text ≡ Err f
calls_fault_only text f x = rw (fault_only call_added SaysCall calls_agree no_calls text f x) refl

calls_found : (text : List ℕ) (header : Header) (calls : List CallLine) → calls_of text ≡ Ok (header, calls)
    → IsCalls text header calls
calls_found text header calls e =
    let a = bind_ok (script_of call_added no_calls text) _ _ e in
    let x = script_found call_added SaysCall calls_agree no_calls text (a.0).0 (a.0).1 a.1 in
    let P : Header × List CallLine → Type 0 = λ p. IsCalls text p.0 p.1 in
    subst P (fine_is (lines_in a.0) (header, calls) a.2) (((a.0).1).names, x)

calls_fault_found : (text : List ℕ) (f : Fault) → calls_of text ≡ Err f → IsCallsFault text f
calls_fault_found text f e = fault_found call_added SaysCall calls_agree no_calls text f
    (bind_err (script_of call_added no_calls text) lines_in f e)

pub calls_of_result : (text : List ℕ) (r : Result Calls Fault) → GivesCalls r (calls_of text)
    → IfOk r (λ c. IsCalls text c.header c.lines.items)
calls_of_result text (Ok c) h = calls_found text c.header c.lines.items h
calls_of_result text (Err f) h = tt

pub calls_fault_of_result : (text : List ℕ) (r : Result Calls Fault) → GivesCalls r (calls_of text)
    → IfErr r (λ f. f ≢ fault.Memory → IsCallsFault text f)
calls_fault_of_result text (Ok c) h = tt
calls_fault_of_result text (Err fault.Memory) h = λ no. absurd (no refl)
calls_fault_of_result text (Err fault.Waiting) h = λ no. calls_fault_found text fault.Waiting h
calls_fault_of_result text (Err fault.BadShape) h = λ no. calls_fault_found text fault.BadShape h
calls_fault_of_result text (Err (fault.Script n c)) h = λ no. calls_fault_found text (fault.Script n c) h
calls_fault_of_result text (Err fault.Io) h = λ no. calls_fault_found text fault.Io h

-- the passes are below those of the header
abbrev CallsBelow : Header → CallsSoFar → Type 0
CallsBelow h calls = All (λ (l : CallLine). l.pass < h.shape.passes) calls.lines

calls_stay_below : IsLasting SaysCall no_calls CallsBelow
calls_stay_below = record {
  begins = λ v ws h x. All-nil (λ (l : CallLine). l.pass < h.shape.passes);
  lasts = λ h before now ws k x. subst (CallsBelow h) (sym x.now_is)
      (All-push (λ (l : CallLine). l.pass < h.shape.passes) before.lines x.line k x.is.below);
}

pub passes_of_calls : (text : List ℕ) (r : Result Calls Fault) → GivesCalls r (calls_of text)
    → IfOk r (λ c. All (λ l. l.pass < c.header.shape.passes) c.lines.items)
passes_of_calls text (Ok c) h = let x = calls_found text c.header c.lines.items h
    in script_keeps SaysCall no_calls CallsBelow calls_stay_below text c.header _ x.1
passes_of_calls text (Err f) h = tt

pub names_of_calls : (text : List ℕ) (r : Result Calls Fault) → GivesCalls r (calls_of text)
    → IfOk r (λ c. NamesAreBound c.lines.items)
names_of_calls text (Ok c) h =
    let x = calls_found text c.header c.lines.items h in
    let all = script_keeps SaysCall no_calls AreBound calls_stay_bound text c.header _ x.1 in
    all.bound
names_of_calls text (Err f) h = tt

-- the header has a tag exactly if its layout has one
abbrev KeepsTag : {S : Type 0} → Header → S → Type 0
KeepsTag h s = HasTag h.layout h.tag

tag_stands : (l : LayoutName) (ws : List Word) (t : Option ℕ) → AreTag l ws t → HasTag l t
tag_stands layout.Tiny ws t x = x.1
tag_stands layout.Wide ws t x = x.1
tag_stands layout.Tagged ws None x = x
tag_stands layout.Tagged ws (Some t) x = x.small

tag_lasts : {S : Type 0} (means : Means S) (start : S) → IsLasting means start KeepsTag
tag_lasts means start = record {
  begins = λ v ws h x. tag_stands h.layout x.behind h.tag x.is_tag;
  lasts = λ h before
      now ws k x. k;
}

pub tag_of_calls : (text : List ℕ) (r : Result Calls Fault) → GivesCalls r (calls_of text)
    → IfOk r (λ c. HasTag c.header.layout c.header.tag)
tag_of_calls text (Ok c) h = let x = calls_found text c.header c.lines.items h
    in script_keeps SaysCall no_calls KeepsTag (tag_lasts SaysCall no_calls) text c.header _ x.1
tag_of_calls text (Err f) h = tt

-- ---- events

pub events_only : (text : List ℕ) (header : Header) (events : List Event) → IsEvents text header events
    → script_of event_added [] text ≡ Ok (header, events)
events_only text header events x = script_only event_added SaysEvent events_agree [] text header events x

pub events_fault_only : (text : List ℕ) (f : Fault) → IsEventsFault text f → script_of event_added [] text ≡ Err f
events_fault_only text f x = fault_only event_added SaysEvent events_agree [] text f x

pub events_of_result : (text : List ℕ) (r : Result Events Fault) → GivesEvents r (script_of event_added [] text)
    → IfOk r (λ e. IsEvents text e.header e.lines.items)
events_of_result text (Ok e) h = script_found event_added SaysEvent events_agree [] text e.header e.lines.items h
events_of_result text (Err f) h = tt

events_fault_found : (text : List ℕ) (f : Fault) → script_of event_added [] text ≡ Err f → IsEventsFault text f
events_fault_found text f e = fault_found event_added SaysEvent events_agree [] text f e

pub events_fault_of_result : (text : List ℕ) (r : Result Events Fault) → GivesEvents r (script_of event_added [] text)
    → IfErr r (λ f. f ≢ fault.Memory → IsEventsFault text f)
events_fault_of_result text (Ok e) h = tt
events_fault_of_result text (Err fault.Memory) h = λ no. absurd (no refl)
events_fault_of_result text (Err fault.Waiting) h = λ no. events_fault_found text fault.Waiting h
events_fault_of_result text (Err fault.BadShape) h = λ no. events_fault_found text fault.BadShape h
events_fault_of_result text (Err (fault.Script n c)) h = λ no. events_fault_found text (fault.Script n c) h
events_fault_of_result text (Err fault.Io) h = λ no. events_fault_found text fault.Io h

abbrev EventsBelow : Header → List Event → Type 0
EventsBelow h events = All (λ (e : Event). e.pass < h.shape.passes) events

events_stay_below : IsLasting SaysEvent [] EventsBelow
events_stay_below = record {
  begins = λ v ws h x. All-nil (λ (e : Event). e.pass < h.shape.passes);
  lasts = λ h before now ws k x. subst (EventsBelow h) (sym x.now_is)
      (All-push (λ (e : Event). e.pass < h.shape.passes) before x.event k x.is.below);
}

pub passes_of_events : (text : List ℕ) (r : Result Events Fault) → GivesEvents r (script_of event_added [] text)
    → IfOk r (λ e. All (λ l. l.pass < e.header.shape.passes) e.lines.items)
passes_of_events text (Ok e) h = script_keeps SaysEvent [] EventsBelow events_stay_below text e.header e.lines.items
    (script_found event_added SaysEvent events_agree [] text e.header e.lines.items h)
passes_of_events text (Err f) h = tt

pub tag_of_events : (text : List ℕ) (r : Result Events Fault) → GivesEvents r (script_of event_added [] text)
    → IfOk r (λ e. HasTag e.header.layout e.header.tag)
tag_of_events text (Ok e) h = script_keeps SaysEvent [] KeepsTag (tag_lasts SaysEvent []) text e.header e.lines.items
    (script_found event_added SaysEvent events_agree [] text e.header e.lines.items h)
tag_of_events text (Err f) h = tt
