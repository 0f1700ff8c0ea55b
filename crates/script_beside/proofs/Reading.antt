-- A read beside mode plain.
use Rattle.std.proofs.Common.{◌≡◌, ℕ, ◌<◌, inl, Bool, true, false, cond, List, [], ◌∷◌}
use Rattle.std.proofs.Common.{map, refl, ap, sym, ◌∙◌, subst, arith, Some, None, Result, Ok, Err, ◌==◌}
use Rattle.std.specs.Prelude.{nat_lt, filter, count_by}
use Rattle.std.specs.List.{AllZip}
use Rattle.std.proofs.lemmas.Bool.Decides.{nat_tests}
use Rattle.sh_value.specs.declared.refusal.Refusal.{Refusal}
use Rattle.sh_value.specs.declared.refusal.Refusal.TheVariants as refusal
use Rattle.sh_history.specs.declared.entry.Entry.{Entry}
use Rattle.sh_history.specs.declared.entry.Entry.TheVariants.{Insert, Got, Gone, Crowded, Removed, Released, Seen}
use Rattle.sh_history.specs.declared.log.LogEntry.{LogEntry}
use Rattle.sh_history.specs.declared.log.LogEntry.TheVariants.{Known, Unread}
use Rattle.sh_history.specs.History.{Legal, value_of, holds_by, is_got_by, got_count_by}
use Rattle.sh_history.specs.Log.{Agrees, pass_of, entries_of, logged_holds_by, HasValue, AllHaveValue}
use Rattle.sh_history.proofs.LogLaws.{count_by-cons, gets_have_value, issued_when_got, both}
use Rattle.sh_script.specs.declared.calls.Reference.{Reference}
use Rattle.sh_script.specs.declared.calls.Call.TheVariants as call
use Rattle.script_output.specs.declared.answer.Answer.{Answer}
use Rattle.script_output.specs.declared.answer.Answer.TheVariants as answer
use Rattle.script_output.specs.Results.{value_answer}
use Rattle.script_models.specs.PlainRun.{Reads}
use Rattle.script_calls.specs.Parts.{PassPart, Becomes}
use Rattle.script_calls.specs.Calls.{CallAnswers, AnswerSays, ReadAnswers, UnlessRefused, ValueRead}
use Rattle.sh_history.proofs.LogHolds.{own_count, got_own}
use Rattle.script_beside.proofs.Logs.{LogIs}
use Rattle.script_beside.proofs.Turns.{Turn, Ready, Stepped, plain_before, plain_after, stays, shard_kept, run_kept}
use Rattle.script_beside.proofs.Turns.{issued_kept}
use Rattle.script_beside.proofs.OnKeys.{key_here, number_here, heap_key, by_key, held_so}

-- each get of the key in these entries has its value too
kept_by_filter : (key : ℕ) (value : List ℕ) (p : Entry → Bool) (es : List Entry) → AllHaveValue key value (map Known es)
    → AllHaveValue key value (map Known (filter p es))
kept_by_filter key value p [] h = tt
kept_by_filter key value p (e ∷ es) h = go (p e) (kept_by_filter key value p es h.1)
  where
    go : (b : Bool) → AllHaveValue key value (map Known (filter p es))
        → AllHaveValue key value (map Known (cond b (e ∷ filter p es) (filter p es)))
    go true rest = (h.0, rest)
    go false rest = rest

-- the key of a get
abbrev got_key : Entry → ℕ
got_key (Got p k u) = k
got_key _ = 0

-- what a log says that has a get of the key
read_here : (pass key : ℕ) (value given : List ℕ) (x : LogEntry) (e : Entry) → is_got_by pass key e ≡ true
    → Agrees x e → HasValue key value x → HasValue key given (Known e) → value ≡ given
read_here pass key value given (Known f) (Got p k u) is agrees has has_given =
    let same = both p pass k key is in
    let at : HasValue key value (Known (Got p k u)) = subst (λ (z : Entry). HasValue key value (Known z))
    (sym agrees) has
    in sym (at same.1) ∙ has_given same.1
read_here pass key value given (Unread q j) (Got p k u) is agrees has has_given =
    absurd (has (key_got agrees.0 (sym agrees.1) ∙ (both p pass k key is).1))
  where
    key_got : (z : List ℕ) → Got q j z ≡ Got p k u → j ≡ k
    key_got z e = ap got_key e
read_here pass key value given x (Insert p k u) is agrees has has_given = absurd (let z : false ≡ true = is in cc)
read_here pass key value given x (Gone p k) is agrees has has_given = absurd (let z : false ≡ true = is in cc)
read_here pass key value given x (Crowded p k) is agrees has has_given = absurd (let z : false ≡ true = is in cc)
read_here pass key value given x (Removed p k) is agrees has has_given = absurd (let z : false ≡ true = is in cc)
read_here pass key value given x (Released p k) is agrees has has_given = absurd (let z : false ≡ true = is in cc)
read_here pass key value given x (Seen p k u) is agrees has has_given = absurd (let z : false ≡ true = is in cc)

value_read : (pass key : ℕ) (value given : List ℕ) (log : List LogEntry) (es : List Entry) → AllZip Agrees log es
    → AllHaveValue key value log → AllHaveValue key given (map Known es) → 0 < count_by (is_got_by pass key) es
    → value ≡ given
value_read pass key value given [] [] agrees has has_given some = absurd (omega (arith, some))
value_read pass key value given [] (e ∷ es) agrees has has_given some = absurd agrees
value_read pass key value given (x ∷ log) [] agrees has has_given some = absurd agrees
value_read pass key value given (x ∷ log) (e ∷ es) agrees has has_given some =
    go (is_got_by pass key e) refl (value_read pass key value given log es agrees.1 has.1 has_given.1)
  where
    go : (b : Bool) → is_got_by pass key e ≡ b → (0 < count_by (is_got_by pass key) es → value ≡ given) → value ≡ given
    go true is later = read_here pass key value given x e is agrees.0 has.0 has_given.0
    go false is later =
        let c = count_by-cons (is_got_by pass key) e es in
        let one : Bool → ℕ = λ b. cond b 1 0 in
        let d : one (is_got_by pass key e) ≡ one false = ap one is in
        later (omega (arith, some, c, d))

-- what is read of a held key is its value
read_is : (passes guard_max pass key : ℕ) (value : List ℕ) (log : List LogEntry) (es : List Entry)
    → Legal passes guard_max es → LogIs pass log es → AllHaveValue key value log
    → nat_lt 0 (holds_by es pass key) ≡ true
    → value_of es key ≡ Some value
read_is passes guard_max pass key value log es legal is has some =
    let held : 0 < holds_by es pass key = grind (arith, nat_tests) in
    let got : 0 < got_count_by es pass key = omega (arith, held) in
    let given = issued_when_got passes guard_max pass key [] es legal got in
    let own : 0 < count_by (is_got_by pass key) (entries_of (λ p. p == pass) es) =
    rw (own_count (is_got_by pass key) (λ e. pass_of e == pass) (got_own pass key) es) got in
    let same = value_read pass key value given.0 log (entries_of (λ p. p == pass) es) is has
    (kept_by_filter key given.0 (λ e. pass_of e == pass) es
    (gets_have_value passes guard_max key given.0 [] es legal given.1)) own in
    given.1 ∙ ap (λ (x : List ℕ). Some x) (sym same)

module _ (t : Turn) (r : Reference) (a : Answer) (ready : Ready t (call.Read r) a) where
  -- no read adds an entry
  read_said : (k : Result ℕ Answer) → key_here t r ≡ k → t.w.shard ≡ t.v.shard
      → Reads (plain_before t) k a (plain_after t) → Stepped t (call.Read r) a
  read_said k e same h = stays t (call.Read r) a ready same ready.names (issued_kept t (call.Read r) a ready refl)
      (inl (subst (λ (x : Result ℕ Answer). Reads (plain_before t) x a (plain_after t)) (sym e) h))

  read_keyless : (b : Answer) → key_here t r ≡ Err b → heap_key t r ≡ Err b → a ≡ b → t.w ≡ t.v
      → Stepped t (call.Read r) a
  read_keyless b e f is same =
      read_said (Err b) e (ap (λ (p : PassPart). p.shard) same) (is, run_kept t (call.Read r) a ready refl)

  module _ (key : ℕ) (e : key_here t r ≡ Ok key) where
    nothing_read : nat_lt 0 (logged_holds_by t.v.log t.pass key) ≡ false → a ≡ answer.Refused refusal.NotHeld
        → Becomes t.v t.w → Stepped t (call.Read r) a
    nothing_read f is same =
        let none = held_so t (call.Read r) a ready key false f in
        read_said (Ok key) e (shard_kept t.v t.w same) (rw none (is, run_kept t (call.Read r) a ready refl))

    was_read : nat_lt 0 (logged_holds_by t.v.log t.pass key) ≡ true → (x : Result (List ℕ) Refusal)
        → a ≡ value_answer x → ValueRead t.v key x t.w → Stepped t (call.Read r) a
    was_read f (Ok value) is h =
        let some = held_so t (call.Read r) a ready key true f in
        let passes = t.terms.shape.passes in
        let most = t.terms.layout.guard_max in
        let here : value_of t.before key ≡ Some value = read_is passes most t.pass key value t.w.log t.before
        (subst (Legal passes most) ready.grown ready.legal) (subst (LogIs t.pass t.w.log) ready.grown ready.log_after)
        h.1 some in
        read_said (Ok key) e (ap (λ (p : PassPart). p.shard) h.0)
        (rw (some, here) (is, run_kept t (call.Read r) a ready refl))
    was_read f (Err _) is h = absurd h

    read_on_key : AnswerSays value_answer (ReadAnswers t.terms t.pass t.v key) a t.w → Stepped t (call.Read r) a
    read_on_key h = go (nat_lt 0 (logged_holds_by t.v.log t.pass key)) refl h.does.0
      where
        go : (b : Bool) → nat_lt 0 (logged_holds_by t.v.log t.pass key) ≡ b
            → UnlessRefused (cond b None (Some refusal.NotHeld)) h.result (Becomes t.v t.w)
            (ValueRead t.v key h.result t.w) → Stepped t (call.Read r) a
        go true f d = was_read f h.result h.is d
        go false f d = nothing_read f (h.is ∙ ap value_answer d.0) d.1

  pub read_step : CallAnswers t.terms t.tag t.pass t.v (call.Read r) (number_here t r) a t.w → Stepped t (call.Read r) a
  read_step h = by_key t r a (λ key. AnswerSays value_answer (ReadAnswers t.terms t.pass t.v key))
      (Stepped t (call.Read r) a) ready.names read_keyless read_on_key h
