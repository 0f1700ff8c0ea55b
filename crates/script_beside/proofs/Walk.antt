-- Lines of the running heap beside mode plain, one after the other.
use Rattle.std.proofs.Common.{◌≡◌, ◌≢◌, ℕ, suc, ◌<◌, ◌≤◌, ◌==◌, Bool, true, false, cond, List, [], ◌∷◌, ◌++◌}
use Rattle.std.proofs.Common.{length, map, refl, ap, sym, ◌∙◌, subst, arith, append-nil, append_assoc, eqb-true}
use Rattle.std.proofs.Common.{Option, None, slice_index_or, inl, inr}
use Rattle.std.specs.Prelude.{is_some}
use Rattle.std.proofs.lemmas.Bool.{eqb-false}
use Rattle.std.specs.List.{All}
use Rattle.sh_history.specs.declared.entry.Entry.{Entry}
use Rattle.sh_history.specs.declared.entry.Entry.TheVariants.{Crowded}
use Rattle.sh_history.specs.History.{Legal}
use Rattle.sh_history.specs.Log.{pass_of}
use Rattle.sh_history.proofs.Laws.{legal_after_parts}
use Rattle.sh_script.specs.declared.calls.Call.{Call}
use Rattle.sh_script.specs.declared.calls.Call.TheVariants as call
use Rattle.sh_script.specs.declared.calls.CallLine.{CallLine}
use Rattle.script_output.specs.declared.answer.Answer.{Answer}
use Rattle.script_output.specs.Keys.{HasTagRoom}
use Rattle.script_models.specs.PlainRun.{Run}
use Rattle.script_calls.specs.Parts.{RunTerms, PassPart}
use Rattle.script_calls.specs.Receipts.{MayHeed}
use Rattle.script_calls.specs.Calls.{CallAnswers}
use Rattle.script_heap.specs.Crowding.{CrowdedIsExact}
use Rattle.script_calls.specs.InOrder.{adds_entry, adding_passes}
use Rattle.script_heap.specs.Owners.{AnswersAreExact, owned_after, owned_then}
use Rattle.script_calls.specs.Runs.{CallsRun, LineAnswered, LinesAnswered, number_meant}
use Rattle.script_calls.proofs.LineLemmas.{part_here, part_there}
use Rattle.script_calls.proofs.NameLemmas.{may_log}
use Rattle.script_heap.proofs.OwnersTold.{shard_then}
use Rattle.script_beside.specs.Beside.{CallBeside, RanBeside}
use Rattle.script_beside.specs.Along.{RanAlong, NamesKey}
use Rattle.script_beside.proofs.Along.{own, KeysAre}
use Rattle.script_beside.proofs.AlongLines.{numbering, number_now, call_along}
use Rattle.script_beside.proofs.Logs.{Grown, LogIs, gains, own_before, other_before}
use Rattle.script_beside.proofs.Names.{AreNames}
use Rattle.script_beside.proofs.Issued.{AreIssued}
use Rattle.script_beside.proofs.Fewness.{FewAlong}
use Rattle.script_beside.proofs.Shapes.{KnowsShape, heeding, keeps_shape}
use Rattle.script_beside.proofs.Turns.{Turn, Ready, Stepped, state}
use Rattle.script_beside.proofs.Steps.{adopt_step, leave_step, post_step, wait_step}
use Rattle.script_beside.proofs.Inserting.{insert_step}
use Rattle.script_beside.proofs.Getting.{get_step}
use Rattle.script_beside.proofs.Removing.{remove_step}
use Rattle.script_beside.proofs.Releasing.{release_step}
use Rattle.script_beside.proofs.Reading.{read_step}

-- ---- the entry of a line, if it adds one, is the next of the history

nothing_more : (todo : List Entry) → map pass_of todo ≡ [] → todo ≡ []
nothing_more [] e = refl
nothing_more (x ∷ xs) e = absurd (let z : pass_of x ∷ map pass_of xs ≡ [] = e in cc)

-- the history that there is after the line, and the entries that are left
record Goes (b : Bool) (pass : ℕ) (before todo : List Entry) (rest : List ℕ) : Type 0 where
  after : List Entry
  later : List Entry
  grown : Grown b pass before after
  same : before ++ todo ≡ after ++ later
  passes : map pass_of later ≡ rest

goes : (b : Bool) (pass : ℕ) (before todo : List Entry) (rest : List ℕ)
    → map pass_of todo ≡ cond b (pass ∷ []) [] ++ rest → Goes b pass before todo rest
goes false pass before todo rest e = record { after = before; later = todo; grown = refl; same = refl; passes = e }
goes true pass before [] rest e = absurd (let z : [] ≡ pass ∷ rest = e in cc)
goes true pass before (x ∷ xs) rest e =
    let z : pass_of x ∷ map pass_of xs ≡ pass ∷ rest = e in
    let here : pass_of x ≡ pass = cc in
    let there : map pass_of xs ≡ rest = cc in
    record {
      after = before ++ x ∷ [];
      later = xs;
      grown = (x, refl, here);
      same = sym (append_assoc before (x ∷ []) xs);
      passes = there;
    }

-- ---- the logs of all passes

abbrev pub LogsAre : RunTerms → (ℕ → PassPart) → List Entry → Type 0
LogsAre terms parts es = (q : ℕ) → q < terms.shape.passes → LogIs q (parts q).log es

shard_heeded : (v w : PassPart) → MayHeed v w → w.shard ≡ v.shard
shard_heeded v w (inl e) = ap (λ (p : PassPart). p.shard) e
shard_heeded v w (inr h) = ap (λ (p : PassPart). p.shard) h.1.is

-- ---- a call

call_step : (t : Turn) → HasTagRoom t.terms.layout t.tag → (c : Call) (a : Answer) → Ready t c a
    → CallAnswers t.terms t.tag t.pass t.v c (number_meant t.numbers c) a t.w → Stepped t c a
call_step t room (call.Adopt shard) a ready h = adopt_step t shard a ready None h
call_step t room call.Leave a ready h = leave_step t a ready None h
call_step t room (call.Insert words) a ready h = insert_step t words a room ready None h
call_step t room (call.Get r) a ready h = get_step t r a ready h
call_step t room (call.Read r) a ready h = read_step t r a ready h
call_step t room (call.Remove r) a ready h = remove_step t r a ready h
call_step t room (call.Release r) a ready h = release_step t r a ready h
call_step t room call.Post a ready h = post_step t a None ready h
call_step t room (call.Wait name) a ready h = wait_step t name a None ready h

-- ---- a line, and lines

module _ (terms : RunTerms) (tag : Option ℕ) where
  module _ (r next : CallsRun) (l : CallLine) (a : Answer) (h : LineAnswered terms tag r l a next) where
    here : (q : ℕ) → q ≡ l.pass → next.parts q ≡ h.part
    here q e = ap (λ (n : CallsRun). n.parts q) h.next_is ∙ part_here r.parts l.pass q h.part e

    there : (q : ℕ) → q ≢ l.pass → next.parts q ≡ r.parts q
    there q ne = ap (λ (n : CallsRun). n.parts q) h.next_is ∙ part_there r.parts l.pass q h.part ne

    logs_before_line : (before after : List Entry) → Grown (adds_entry l.call a) l.pass before after
        → LogsAre terms next.parts after → LogsAre terms r.parts before
    logs_before_line before after grown logs q below = go (q == l.pass) refl
      where
        go : (b : Bool) → (q == l.pass) ≡ b → LogIs q (r.parts q).log before
        go true e =
            let is : q ≡ l.pass = eqb-true q l.pass e in
            let at : LogIs l.pass h.part.log after =
            subst (λ (p : ℕ). LogIs p h.part.log after) is
            (subst (λ (p : PassPart). LogIs q p.log after) (here q is) (logs q below)) in
            let begun : LogIs l.pass h.begins.log before =
            own_before (adds_entry l.call a) l.pass h.begins.log h.part.log before after
            (gains terms tag l.pass h.begins l.call (number_meant r.numbers l.call) a h.part h.does) grown at in
            subst (λ (p : ℕ). LogIs p (r.parts p).log before) (sym is)
            (subst (λ (x : List _). LogIs l.pass x before) (may_log (r.parts l.pass) h.begins h.heeds) begun)
        go false e =
            let ne : q ≢ l.pass = eqb-false q l.pass e in
            other_before (adds_entry l.call a) l.pass q (r.parts q).log before after ne grown
            (subst (λ (p : PassPart). LogIs q p.log after) (there q ne) (logs q below))

  -- the logs that there were before lines, by those after them
  logs_before : (lines : List CallLine) (answers : List Answer) (r end : CallsRun) (before todo : List Entry)
      → LinesAnswered terms tag r lines answers end → LogsAre terms end.parts (before ++ todo)
      → map pass_of todo ≡ adding_passes lines answers → LogsAre terms r.parts before
  logs_before [] [] r end before todo ran logs passes =
      let none = nothing_more todo passes in
      let same : before ++ todo ≡ before = ap (λ (x : List Entry). before ++ x) none ∙ append-nil before in
      subst (λ (n : CallsRun). LogsAre terms n.parts before) ran (subst (LogsAre terms end.parts) same logs)
  logs_before [] (a ∷ answers) r end before todo ran logs passes = absurd ran
  logs_before (l ∷ lines) [] r end before todo ran logs passes = absurd ran
  logs_before (l ∷ lines) (a ∷ answers) r end before todo ran logs passes =
      let g = goes (adds_entry l.call a) l.pass before todo (adding_passes lines answers) passes in
      logs_before_line r ran.0 l a ran.1 before g.after g.grown
      (logs_before lines answers ran.0 end g.after g.later ran.2 (subst (LogsAre terms end.parts) g.same logs) g.passes)

  -- ---- the shape that passes know

  pub record KnowsEach (parts : ℕ → PassPart) : Type 0 where
    pub each : (q : ℕ) → KnowsShape terms.shape (parts q).stands

  knows_next : (r next : CallsRun) (l : CallLine) (a : Answer) → LineAnswered terms tag r l a next → KnowsEach r.parts
      → KnowsEach next.parts
  knows_next r next l a h k = record { each = λ q. go q (q == l.pass) refl }
    where
      go : (q : ℕ) (b : Bool) → (q == l.pass) ≡ b → KnowsShape terms.shape (next.parts q).stands
      go q true e =
          subst (λ (p : PassPart). KnowsShape terms.shape p.stands) (sym (here r next l a h q (eqb-true q l.pass e)))
          (keeps_shape terms.shape terms tag l.pass h.begins l.call (number_meant r.numbers l.call) a h.part h.does
          (heeding terms.shape (r.parts l.pass) h.begins h.heeds (k.each l.pass)))
      go q false e =
          let ne : q ≢ l.pass = eqb-false q l.pass e in
          subst (λ (p : PassPart). KnowsShape terms.shape p.stands) (sym (there r next l a h q ne)) (k.each q)

  -- ---- lines

  -- mode plain knows of each pass whether it owns a shard
  pub record OwnersAre (owners : List Bool) (parts : ℕ → PassPart) : Type 0 where
    pub few : length owners ≡ 64
    pub each : (q : ℕ) → q < 64 → slice_index_or owners q false ≡ is_some (parts q).shard

  owners_next : (r next : CallsRun) (l : CallLine) (a : Answer) (h : LineAnswered terms tag r l a next)
      (owners now : List Bool) → OwnersAre owners r.parts → length now ≡ length owners
      → slice_index_or now l.pass false ≡ is_some h.part.shard
      → ((q : ℕ) → q ≢ l.pass → slice_index_or now q false ≡ slice_index_or owners q false) → OwnersAre now next.parts
  owners_next r next l a h owners now owns few own others = record { few = few ∙ owns.few; each = each }
    where
      each : (q : ℕ) → q < 64 → slice_index_or now q false ≡ is_some (next.parts q).shard
      each q below = go (q == l.pass) refl
        where
          go : (b : Bool) → (q == l.pass) ≡ b → slice_index_or now q false ≡ is_some (next.parts q).shard
          go true e =
              let is : q ≡ l.pass = eqb-true q l.pass e in
              ap (λ (p : ℕ). slice_index_or now p false) is
              ∙ (own ∙ sym (ap (λ (p : PassPart). is_some p.shard) (here r next l a h q is)))
          go false e =
              let ne : q ≢ l.pass = eqb-false q l.pass e in
              others q ne ∙ (owns.each q below ∙ sym (ap (λ (p : PassPart). is_some p.shard) (there r next l a h q ne)))

  -- the shards that passes own are those by the answers
  shards_next : (r next : CallsRun) (l : CallLine) (a : Answer) → LineAnswered terms tag r l a next
      → (owned : ℕ → Option ℕ) → ((q : ℕ) → owned q ≡ (r.parts q).shard)
      → (q : ℕ) → owned_after owned l a q ≡ (next.parts q).shard
  shards_next r next l a h owned shards q = go (q == l.pass) refl
    where
      go : (b : Bool) → (q == l.pass) ≡ b
          → cond b (owned_then (owned l.pass) l.call a) (owned q) ≡ (next.parts q).shard
      go true e =
          let begun : owned l.pass ≡ h.begins.shard =
          shards l.pass ∙ sym (shard_heeded (r.parts l.pass) h.begins h.heeds) in
          ap (λ (o : Option ℕ). owned_then o l.call a) begun
          ∙ (sym (shard_then terms tag l.pass h.begins h.part l.call (number_meant r.numbers l.call) a h.does)
          ∙ sym (ap (λ (p : PassPart). p.shard) (here r next l a h q (eqb-true q l.pass e))))
      go false e = shards q
          ∙ sym (ap (λ (p : PassPart). p.shard) (there r next l a h q (eqb-false q l.pass e)))

  -- mode plain's own run, in which the keys of this history have the numbers in which they were given
  abbrev pub own_of : List Entry → Run → Run
  own_of history run = own (numbering terms.layout terms.shape history) run

  abbrev pub KeysOf : List Entry → List (Option ℕ) → Type 0
  KeysOf history keys = KeysAre (numbering terms.layout terms.shape history) keys

  -- the lines beside mode plain, and along with its own run
  pub record Walked (history : List Entry) (owned : ℕ → Option ℕ) (run : Run) (lines : List CallLine)
      (answers : List Answer) : Type 0
    where
      pub after : Run
      pub beside : RanBeside terms.layout terms.shape owned run lines answers after
      pub along : All (λ (l : CallLine). NamesKey l.call) lines → KeysOf history run.keys
          → RanAlong terms.layout terms.shape owned (own_of history run) lines answers (own_of history after)

  -- a line, and the lines after it
  one_line : (history before after later : List Entry) (pass last : ℕ) (owners now : List Bool) (owned : ℕ → Option ℕ)
      (keys more : List (Option ℕ)) (l : CallLine) (a : Answer) (lines : List CallLine) (answers : List Answer)
      → l.pass ≡ pass → after ++ later ≡ history
      → CallBeside terms.layout terms.shape owned (state terms tag before pass owners keys) l.call a
      (state terms tag after pass now more)
      → Walked history (owned_after owned l a) (state terms tag after pass now more) lines answers
      → Walked history owned (state terms tag before last owners keys) (l ∷ lines) (a ∷ answers)
  one_line history before after later pass last owners now owned keys more l a lines answers same whole beside rest =
      let run = state terms tag before pass owners keys in
      let next = state terms tag after pass now more in
      let at : CallBeside terms.layout terms.shape owned (state terms tag before l.pass owners keys) l.call a next =
      subst (λ (p : ℕ). CallBeside terms.layout terms.shape owned (state terms tag before p owners keys) l.call a next)
      (sym same) beside in
      record {
        after = rest.after;
        beside = (next, at, rest.beside);
        along = λ named known.
            let found = call_along (numbering terms.layout terms.shape history) owned
            (state terms tag before l.pass owners keys) next a known l.call (named 0 l (omega arith)) at
            (λ words given. number_now terms.layout before after later history l.pass given.key words
            (ap (λ (m : Run). m.store.entries) given.next_is) whole given.new.not_issued) in (
              own_of history next,
              found.along,
              rest.along (λ k d inside. named (suc k) d (omega
                  (arith, inside))) found.keys,
            );
      }

  module _ (room : HasTagRoom terms.layout tag) (some : 1 ≤ terms.shape.passes) (few : terms.shape.passes ≤ 64)
      (history : List Entry) where
    pub walk : (lines : List CallLine) (answers : List Answer) (r end : CallsRun) (before todo : List Entry) (last : ℕ)
        (owners : List Bool) (owned : ℕ → Option ℕ) (keys : List (Option ℕ))
        → LinesAnswered terms tag r lines answers end
        → Legal terms.shape.passes terms.layout.guard_max (before ++ todo) → LogsAre terms end.parts (before ++ todo)
        → map pass_of todo ≡ adding_passes lines answers
        → All (λ (l : CallLine). l.pass < terms.shape.passes) lines → OwnersAre owners r.parts
        → AreNames tag keys r.numbers → AreIssued terms.layout before → KnowsEach r.parts
        → FewAlong terms.layout.guard_max (before ++ todo) → CrowdedIsExact terms.layout.guard_max (before ++ todo)
        → ((q : ℕ) → owned q ≡ (r.parts q).shard) → AnswersAreExact terms.shape owned lines answers
        → before ++ todo ≡ history
        → Walked history owned (state terms tag before last owners keys) lines answers
    walk [] [] r end before todo last owners owned keys ran legal logs passes below owns names issued knows holds crowds
        shards exact whole =
        record { after = state terms tag before last owners keys; beside = refl; along = λ named known. refl }
    walk [] (a ∷ answers) r end before todo last owners owned keys ran legal logs passes below owns names issued knows
        holds crowds shards exact whole = absurd ran
    walk (l ∷ lines) [] r end before todo last owners owned keys ran legal logs passes below owns names issued knows
        holds crowds shards exact whole = absurd ran
    walk (l ∷ lines) (a ∷ answers) r end before todo last owners owned keys ran legal logs passes below owns names
        issued knows holds crowds shards exact whole =
        let g = goes (adds_entry l.call a) l.pass before todo (adding_passes lines answers) passes in
        let h = ran.1 in
        let logs_end : LogsAre terms end.parts (g.after ++ g.later) = subst (LogsAre terms end.parts) g.same logs in
        let legal_end : Legal terms.shape.passes terms.layout.guard_max (g.after ++ g.later) =
        subst (Legal terms.shape.passes terms.layout.guard_max) g.same legal in
        let logs_next : LogsAre terms ran.0.parts g.after =
        logs_before lines answers ran.0 end g.after g.later ran.2 logs_end g.passes in
        let logs_now : LogsAre terms r.parts before = logs_before_line r ran.0 l a h before g.after g.grown logs_next in
        let inside : l.pass < terms.shape.passes = below 0 l (omega arith) in
        let small : l.pass < 64 = omega (arith, inside, few) in
        let t : Turn = record {
          terms = terms;
          tag = tag;
          pass = l.pass;
          v = h.begins;
          w = h.part;
          before = before;
          after = g.after;
          owners = owners;
          owned = owned;
          keys = keys;
          numbers = r.numbers;
        } in
        let ready : Ready t l.call a = record {
          grown = g.grown;
          log = subst (λ (x : List _). LogIs l.pass x before) (sym (may_log (r.parts l.pass) h.begins h.heeds))
              (logs_now l.pass inside);
          log_after = subst (λ (p : PassPart). LogIs l.pass p.log g.after) (here r ran.0 l a h l.pass refl)
              (logs_next l.pass inside);
          legal = (legal_after_parts terms.shape.passes terms.layout.guard_max [] g.after g.later legal_end).0;
          owner = owns.each l.pass small ∙ sym (ap is_some (shard_heeded (r.parts l.pass) h.begins h.heeds));
          owns = shards l.pass ∙ sym (shard_heeded (r.parts l.pass) h.begins h.heeds);
          exact = exact.0;
          inside = let f = owns.few in omega (arith, small, f);
          names = names;
          issued = issued;
          knows = heeding terms.shape (r.parts l.pass) h.begins h.heeds (knows.each l.pass);
          some_pass = some;
          few = holds before todo refl;
          few_after = holds g.after g.later g.same;
          crowds = λ front rest p key is. crowds front (rest ++ g.later) p key (g.same
              ∙ (ap (λ (es : List Entry). es ++ g.later) is ∙ append_assoc front (Crowded p key ∷ rest) g.later));
        } in
        let s = call_step t room l.call a ready h.does in
        let rest = walk lines answers ran.0 end g.after g.later l.pass s.owners_after (owned_after owned l a)
        s.keys_after ran.2 legal_end
        logs_end g.passes (λ k d inside. below (suc k) d (omega (arith, inside)))
        (owners_next r ran.0 l a h owners s.owners_after owns s.few s.own s.others)
        (subst (λ (n : CallsRun). AreNames tag s.keys_after n.numbers) (sym h.next_is) s.names) s.issued
        (knows_next r ran.0 l a h knows) (subst (FewAlong terms.layout.guard_max) g.same holds)
        (subst (CrowdedIsExact terms.layout.guard_max) g.same crowds) (shards_next r ran.0 l a h owned shards) exact.1
        (sym g.same ∙ whole) in
        one_line history before g.after g.later l.pass last owners s.owners_after owned keys s.keys_after l a lines
        answers refl
        (sym g.same ∙ whole) s.beside rest
