-- Over each call of a line the steps of a pass go on, and the shape that it knows stays.
use Rattle.std.proofs.Common.{◌≡◌, ◌≢◌, ℕ, List, [], ◌++◌, refl, ap, sym, ◌∙◌, subst, append-nil, append_assoc}
use Rattle.std.proofs.Common.{inl, inr}
use Rattle.std.proofs.Common.{Option, Some, None, Result, Ok, Err}
use mathlib.Core.Logic.{dite}
use native.Mathlib.Decide.{ℕ_discrete}
use Rattle.sh_value.specs.declared.hold.Hold.{Hold}
use Rattle.sh_value.specs.declared.refusal.Refusal.{Refusal}
use Rattle.sh_value.specs.declared.refusal.Refusal.TheVariants as refusal
use Rattle.sh_key.specs.Layout.{Layout}
use Rattle.sh_step.specs.declared.footstep.Footstep.{Footstep}
use Rattle.sh_table.specs.declared.view.Own.{Own}
use Rattle.sh_pass.specs.Growing.{GoesOn, SameTale}
use Rattle.sh_pass.specs.Passes.{Caller, GetDoes, ReadDoes, RemoveDoes, ReleaseDoes}
use Rattle.sh_shard.specs.Pages.{AdoptRefused}
use Rattle.sh_member.specs.declared.member.Side.TheVariants.{Pass, Shard}
use Rattle.sh_member.specs.Sides.{SeenSide, SideDoes, SideAdopts, SideLeaves, SideInserts}
use Rattle.sh_script.specs.declared.calls.Call.{Call}
use Rattle.sh_script.specs.declared.calls.Call.TheVariants as call
use Rattle.sh_script.specs.declared.calls.CallLine.{CallLine}
use Rattle.script_output.specs.declared.answer.Answer.{Answer}
use Rattle.script_calls.specs.OwnParts.{EndsWith, Follows, own_part, shape_in}
use Rattle.script_calls.specs.Parts.{RunTerms, PassPart, shard_owned}
use Rattle.script_calls.specs.Receipts.{HeedsTwice, MayHeed, SideHeeded}
use Rattle.script_calls.specs.Calls.{CallAnswers, OnKey, UnlessRefused, key_meant, words_refusal}
use Rattle.script_calls.specs.Runs.{CallsRun, LineAnswered, number_meant}
use Rattle.script_calls.proofs.LineLemmas.{part_here, part_there}

-- ---- calls of a pass

abbrev Goes : Caller → Caller → Type 0
Goes v w = (w.view.shape ≡ v.view.shape) × GoesOn v.view.own.trail w.view.own.trail

goes_same : (v w : Caller) → SameTale v.view w.view → Goes v w
goes_same v w same = (same.shape, same.trail)

unmoved : (v w : Caller) → w ≡ v → Goes v w
unmoved v w e = subst (λ (c : Caller). Goes v c) (sym e) (refl, ([], sym (append-nil v.view.own.trail)))

get_goes : (layout : Layout) (key : ℕ) (v w : Caller) (r : Result Hold Refusal) → GetDoes layout key v r w → Goes v w
get_goes layout key v w (Ok hold) h = goes_same v w h.3.same
get_goes layout key v w (Err refusal.BadKey) h = unmoved v w h.1
get_goes layout key v w (Err refusal.HoldsFull) h = unmoved v w h.2
get_goes layout key v w (Err refusal.Gone) h = goes_same v w h.2.same
get_goes layout key v w (Err refusal.Crowded) h = goes_same v w h.2.same
get_goes layout key v w (Err _) h = absurd h

remove_goes : (layout : Layout) (key : ℕ) (v w : Caller) (r : Result (Unit {0}) Refusal) → RemoveDoes layout key v r w
    → Goes v w
remove_goes layout key v w (Ok x) h = goes_same v w h.1.same
remove_goes layout key v w (Err refusal.BadKey) h = unmoved v w h.1
remove_goes layout key v w (Err refusal.Gone) h = goes_same v w h.1.same
remove_goes layout key v w (Err _) h = absurd h

read_goes : (key : ℕ) (v w : Caller) (r : Result (List ℕ) Refusal) → ReadDoes key v r w → Goes v w
read_goes key v w (Ok value) h = goes_same v w h.1.same
read_goes key v w (Err refusal.NotHeld) h = unmoved v w h.1
read_goes key v w (Err _) h = absurd h

release_goes : (layout : Layout) (key : ℕ) (v w : Caller) (r : Result (Unit {0}) Refusal)
    → ReleaseDoes layout key v r w → Goes v w
release_goes layout key v w (Ok x) h = goes_same v w h.1.same
release_goes layout key v w (Err refusal.NotHeld) h = unmoved v w h.1
release_goes layout key v w (Err _) h = absurd h

refused_goes : (shard : ℕ) (v w : Caller) (e : Refusal) → AdoptRefused shard v w e → Goes v w
refused_goes shard v w refusal.NoShard h = unmoved v w h.1
refused_goes shard v w refusal.Taken h = goes_same v w h.1.same
refused_goes shard v w refusal.Memory h = goes_same v w h.1.same
refused_goes shard v w _ h = absurd h

-- ---- calls of a member

still : (s t : SeenSide) → t ≡ s → Follows s t
still s t e = subst (Follows s) (sym e)
    (record { shape = refl; trail = ([], sym (append-nil (own_part s).trail)) })

serve_follows : {A : Type 0} (layout : Layout) (does : Caller → Result A Refusal → Caller → Type 0) (s : SeenSide)
    (r : Result A Refusal) (t : SeenSide) → ((v w : Caller) → does v r w → Goes v w) → SideDoes layout does s r t
    → Follows s t
serve_follows layout does (Pass v) r (Pass w) goes h = let g = goes v w h.0 in record { shape = g.0; trail = g.1 }
serve_follows layout does (Shard o) r (Shard n) goes h = record { shape = h.1.same.shape; trail = h.1.same.trail }
serve_follows layout does (Pass v) r (Shard n) goes h = absurd h
serve_follows layout does (Shard o) r (Pass w) goes h = absurd h

adopt_follows : (shard : ℕ) (s : SeenSide) (r : Result (Unit {0}) Refusal) (t : SeenSide) → SideAdopts shard s r t
    → Follows s t
adopt_follows shard (Pass v) (Ok x) (Shard n) h = record { shape = h.1.same.shape; trail = h.1.same.trail }
adopt_follows shard (Pass v) (Ok x) (Pass w) h = absurd h
adopt_follows shard (Pass v) (Err e) (Pass w) h =
    let g = refused_goes shard v w e h in record { shape = g.0; trail = g.1 }
adopt_follows shard (Pass v) (Err e) (Shard n) h = absurd h
adopt_follows shard (Shard o) r t h = still (Shard o) t h.1

pub leave_follows : (s : SeenSide) (r : Result (Unit {0}) Refusal) (t : SeenSide) → SideLeaves s r t → Follows s t
leave_follows (Shard o) (Ok x) (Pass w) h = record { shape = h.same.shape; trail = h.same.trail }
leave_follows (Shard o) (Ok x) (Shard n) h = absurd h
leave_follows (Shard o) (Err e) (Shard n) h =
    let same = h.1.collects.through.aside.same in record { shape = same.shape; trail = same.trail }
leave_follows (Shard o) (Err e) (Pass w) h = absurd h
leave_follows (Pass v) r t h = still (Pass v) t h.1

insert_follows : (layout : Layout) (words : List ℕ) (s : SeenSide) (r : Result ℕ Refusal) (t : SeenSide)
    → SideInserts layout words s r t → Follows s t
insert_follows layout words (Pass v) r t h = still (Pass v) t h.1
insert_follows layout words (Shard o) r (Shard n) h = record { shape = h.1.same.shape; trail = h.1.same.trail }
insert_follows layout words (Shard o) r (Pass w) h = absurd h

-- ---- a line

key_follows : (m : Result ℕ Answer) (v w : PassPart) (a : Answer) (C : ℕ → Answer → PassPart → Type 0)
    → ((key : ℕ) → C key a w → Follows v.stands w.stands) → OnKey m v C a w → Follows v.stands w.stands
key_follows (Err b) v w a C some h = still v.stands w.stands (ap (λ (p : PassPart). p.stands) h.1)
key_follows (Ok key) v w a C some h = some key h

unless_follows : {A : Type 0} (first : Option Refusal) (r : Result A Refusal) (v w : PassPart) (Rest : Type 0)
    → (Rest → Follows v.stands w.stands) → UnlessRefused first r (w ≡ v) Rest → Follows v.stands w.stands
unless_follows None r v w Rest rest h = rest h
unless_follows (Some e) r v w Rest rest h = still v.stands w.stands (ap (λ (p : PassPart). p.stands) h.1)

call_follows : (terms : RunTerms) (tag : Option ℕ) (pass : ℕ) (v : PassPart) (c : Call) (bound : Option ℕ)
    (a : Answer) (w : PassPart) → CallAnswers terms tag pass v c bound a w → Follows v.stands w.stands
call_follows terms tag pass v (call.Adopt shard) bound a w h = adopt_follows shard v.stands h.result w.stands h.does.1
call_follows terms tag pass v call.Leave bound a w h = leave_follows v.stands h.result w.stands h.does.1
call_follows terms tag pass v (call.Insert words) bound a w h = unless_follows (words_refusal words) h.result v w _
    (λ i. insert_follows terms.layout words v.stands h.result w.stands i.1) h.does
call_follows terms tag pass v (call.Get r) bound a w h = key_follows (key_meant tag bound r) v w a _
    (λ key g. serve_follows terms.layout (GetDoes terms.layout key) v.stands g.result w.stands
    (λ x y d. get_goes terms.layout key x y g.result d) g.does.1) h
call_follows terms tag pass v (call.Read r) bound a w h = key_follows (key_meant tag bound r) v w a _
    (λ key g. serve_follows terms.layout (ReadDoes key) v.stands g.result w.stands
    (λ x y d. read_goes key x y g.result d) g.does.1) h
call_follows terms tag pass v (call.Remove r) bound a w h = key_follows (key_meant tag bound r) v w a _
    (λ key g. serve_follows terms.layout (RemoveDoes terms.layout key) v.stands g.result w.stands
    (λ x y d. remove_goes terms.layout key x y g.result d) g.does.1) h
call_follows terms tag pass v (call.Release r) bound a w h = key_follows (key_meant tag bound r) v w a _
    (λ key g. serve_follows terms.layout (ReleaseDoes terms.layout key) v.stands g.result w.stands
    (λ x y d. release_goes terms.layout key x y g.result d) g.does.1) h
call_follows terms tag pass v call.Post bound a w h = still v.stands w.stands (ap (λ (p : PassPart). p.stands) h.1)
call_follows terms tag pass v (call.Wait name) bound a w h = still v.stands w.stands
    (ap (λ (p : PassPart). p.stands) h.1)

-- a pass that heeded a receipt has the own part and the shard that it had
pub record SameOwnPart (s t : SeenSide) : Type 0 where
  pub own : own_part t ≡ own_part s
  pub shape : shape_in t ≡ shape_in s
  pub shard : shard_owned t ≡ shard_owned s

same_part : (s t : SeenSide) → t ≡ s → SameOwnPart s t
same_part s t e = record { own = ap own_part e; shape = ap shape_in e; shard = ap shard_owned e }

heeded_part : (r : Caller) (s t : SeenSide) → SideHeeded r s t → SameOwnPart s t
heeded_part r (Pass v) t h = record { own = ap own_part h; shape = ap shape_in h; shard = ap shard_owned h }
heeded_part r (Shard o) t h = record { own = ap own_part h; shape = ap shape_in h; shard = ap shard_owned h }

pub heeds_same : (v w : PassPart) → MayHeed v w → SameOwnPart v.stands w.stands
heeds_same v w (inl e) = same_part v.stands w.stands (ap (λ (p : PassPart). p.stands) e)
heeds_same v w (inr h) = heeded_part h.0 v.stands w.stands h.1.stands

-- the same, and then a call
then_follows : (s t u : SeenSide) → SameOwnPart s t → Follows t u → Follows s u
then_follows s t u same f = record {
  shape = f.shape ∙ same.shape;
  trail = (f.trail.0, f.trail.1 ∙ ap (λ (o : Own). o.trail ++ f.trail.0) same.own);
}

pub line_follows : (terms : RunTerms) (tag : Option ℕ) (run next : CallsRun) (l : CallLine) (a : Answer)
    → LineAnswered terms tag run l a next → (q : ℕ) → Follows (run.parts q).stands (next.parts q).stands
line_follows terms tag run next l a s q = dite (ℕ_discrete q l.pass)
    (λ (e : q ≡ l.pass).
    let part : next.parts q ≡ s.part = ap (λ (r : CallsRun). r.parts q) s.next_is
    ∙ part_here run.parts l.pass q s.part e in
    let one : Follows (run.parts l.pass).stands s.part.stands =
    then_follows (run.parts l.pass).stands s.begins.stands s.part.stands
    (heeds_same (run.parts l.pass) s.begins s.heeds)
    (call_follows terms tag l.pass s.begins l.call (number_meant run.numbers l.call) a s.part s.does) in
    let F : ℕ × PassPart → Type 0 = λ z. Follows (run.parts z.0).stands z.1.stands in
    subst F (λ j. (sym e j, sym part j)) one)
    (λ (ne : q ≢ l.pass). still (run.parts q).stands (next.parts q).stands
    (ap (λ (p : PassPart). p.stands) (ap (λ (r : CallsRun). r.parts q) s.next_is
    ∙ part_there run.parts l.pass q s.part ne)))

-- ---- the end

-- the steps of a pass go on until it ends
ends_on : (s : SeenSide) (own : Own) → EndsWith s own → GoesOn (own_part s).trail own.trail
ends_on (Pass v) own h = ([], ap (λ (o : Own). o.trail) h ∙ sym (append-nil v.view.own.trail))
ends_on (Shard o) own h =
    let f = leave_follows (Shard o) (Ok tt) h.0 h.1 in
    (f.trail.0, ap (λ (o : Own). o.trail) h.2 ∙ f.trail.1)

pub goes_to_end : (part begins : PassPart) (own : Own) → HeedsTwice part begins → EndsWith begins.stands own
    → GoesOn (own_part part.stands).trail own.trail
goes_to_end part begins own heeds ends =
    let first = heeds_same part heeds.0 heeds.1 in
    let same = heeds_same heeds.0 begins heeds.2 in
    let on = ends_on begins.stands own ends in
    (on.0, on.1 ∙ ap (λ (o : Own). o.trail ++ on.0) (same.own ∙ first.own))

-- one after the other
pub goes_then : (before mid after : List Footstep) → GoesOn before mid → GoesOn mid after → GoesOn before after
goes_then before mid after f g = (
  f.0 ++ g.0,
  g.1 ∙ (ap (λ (t : List Footstep). t ++ g.0) f.1 ∙ append_assoc before f.0 g.0),
)
