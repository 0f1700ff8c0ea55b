-- An insert beside mode plain.
use Rattle.std.proofs.Common.{◌≡◌, ℕ, ◌+◌, inl, inr, Bool, true, false, cond, List, [], ◌∷◌, ◌++◌, length}
use Rattle.std.proofs.Common.{refl, ap, sym, ◌∙◌, subst, arith, Option, Some, None, Result, Ok, Err, slice_index_or}
use Rattle.std.specs.Prelude.{is_some, nat_lt, IsSome, ◌==◌}
use Rattle.std.proofs.lemmas.Bool.Decides.{nat_tests}
use Rattle.sh_value.specs.declared.refusal.Refusal.{Refusal}
use Rattle.sh_value.specs.declared.refusal.Refusal.TheVariants as refusal
use Rattle.sh_key.specs.Layout.{Layout, unpacked, first_key, key_count}
use Rattle.sh_key.specs.declared.parts.Parts.{Parts}
use Rattle.sh_history.specs.declared.entry.Entry.{Entry}
use Rattle.sh_history.specs.declared.entry.Entry.TheVariants.{Insert}
use Rattle.sh_history.specs.History.{value_of, insert_count}
use Rattle.sh_script.specs.declared.calls.Call.TheVariants as call
use Rattle.script_output.specs.declared.answer.Answer.{Answer}
use Rattle.script_output.specs.declared.answer.Answer.TheVariants as answer
use Rattle.script_output.specs.Keys.{shown, HasTagRoom}
use Rattle.script_output.specs.Results.{key_answer}
use Rattle.script_models.specs.PlainRun.{Run, insert_attempt}
use Rattle.script_calls.specs.Parts.{PassPart, Becomes, is_key_of_shard}
use Rattle.script_calls.specs.Calls.{CallAnswers, UnlessRefused, ValueInserted, needs_shard}
use Rattle.script_calls.specs.InOrder.{is_key}
use Rattle.sh_member.specs.Sides.{SideInserts}
use Rattle.script_calls.specs.Runs.{with_number}
use Rattle.script_beside.specs.Beside.{CallBeside, InsertsBeside, unnamed}
use Rattle.script_beside.proofs.Names.{AreNames, one_more_name, shown_is}
use Rattle.script_beside.proofs.Issued.{AreIssued, issued_more, one_left}
use Rattle.script_beside.proofs.Shapes.{placed_key}
use Rattle.script_beside.proofs.Turns.{Turn, Ready, Stepped, state, plain_before, shard_kept, history_kept, issued_kept}
use Rattle.script_beside.proofs.Turns.{gained, allowed_last}

-- a key of a shard is one of the layout
of_layout : (layout : Layout) (shard : Option ℕ) (key : ℕ) → is_key_of_shard layout shard key ≡ true
    → IsSome (unpacked layout key)
of_layout layout None key e = absurd (let z : false ≡ true = e in cc)
of_layout layout (Some n) key e = go (unpacked layout key) refl
  where
    go : (o : Option Parts) → unpacked layout key ≡ o → IsSome (unpacked layout key)
    go None f = absurd (let z : false ≡ true = subst (λ (x : Option Parts). elim x as (λ _. Bool) [
      | Some p ↦ p.shard
          == n
      | None ↦ false
    ] ≡ true) f e in cc)
    go (Some p) f = subst (λ (z : Option Parts). IsSome z) (sym f) refl

module _ (t : Turn) (words : List ℕ) (a : Answer) (room : HasTagRoom t.terms.layout t.tag)
    (ready : Ready t (call.Insert words) a) where
  -- mode plain's run after the call, if its name is bound to this key
  abbrev plain_named : Option ℕ → Run
  plain_named key = state t.terms t.tag t.after t.pass t.owners (t.keys ++ key ∷ [])

  -- what was refused
  insert_refused : (r : Refusal) → a ≡ answer.Refused r → t.w.shard ≡ t.v.shard → ((is : t.after ≡ t.before)
      → CallBeside t.terms.layout t.terms.shape t.owned (plain_before t) (call.Insert words) a (plain_named None))
      → Stepped t (call.Insert words) a
  insert_refused r is same beside =
      let none = ap is_key is in
      record {
        owners_after = t.owners;
        keys_after = t.keys ++ None ∷ [];
        beside = beside (history_kept t (call.Insert words) a ready none);
        few = refl;
        own = ready.owner ∙ sym (ap is_some same);
        others = λ q ne. refl;
        names = subst (λ (x : Answer). AreNames t.tag (t.keys ++ None ∷ [])
            (with_number t.numbers (call.Insert words) x)) (sym is)
            (one_more_name t.tag t.keys t.numbers None None ready.names tt);
        issued = issued_kept t (call.Insert words) a ready none;
      }

  unnamed_is : t.after ≡ t.before → plain_named None ≡ unnamed (plain_before t)
  unnamed_is e = ap (λ (es : List Entry). state t.terms t.tag es t.pass t.owners (t.keys ++ None ∷ [])) e

  -- what mode plain refuses too
  both_refuse : (r : Refusal) → (insert_attempt t.terms.layout (plain_before t) words).answer ≡ Err r
      → a ≡ answer.Refused r → t.w.shard ≡ t.v.shard → Stepped t (call.Insert words) a
  both_refuse r plain is same = insert_refused r is same (λ still. inl (subst (λ (x : Result ℕ Refusal).
      InsertsBeside t.terms.layout t.terms.shape (plain_before t) words x a (plain_named None)) (sym plain)
      (is, unnamed_is still)))

  attempt_long : nat_lt 16 (length words) ≡ true
      → (insert_attempt t.terms.layout (plain_before t) words).answer ≡ Err refusal.TooLong
  attempt_long e = rw e refl

  attempt_bare : nat_lt 16 (length words) ≡ false → slice_index_or t.owners t.pass false ≡ false
      → (insert_attempt t.terms.layout (plain_before t) words).answer ≡ Err refusal.NoShard
  attempt_bare e f = rw (e, f) refl

  attempt_done : nat_lt 16 (length words) ≡ false → slice_index_or t.owners t.pass false ≡ true
      → nat_lt (insert_count t.before) (key_count t.terms.layout) ≡ true
      → (insert_attempt t.terms.layout (plain_before t) words).answer
      ≡ Ok (first_key t.terms.layout + insert_count t.before)
  attempt_done e f g = rw (e, f, g) refl

  inserted : nat_lt 16 (length words) ≡ false → (own : ℕ) → t.v.shard ≡ Some own → (r : Result ℕ Refusal)
      → a ≡ key_answer t.tag r → ValueInserted t.terms t.pass t.v words r t.w
      → SideInserts t.terms.layout words t.v.stands r t.w.stands → Stepped t (call.Insert words) a
  inserted few own e (Ok key) is h served =
      let has_place = placed_key t.terms.shape t.terms.layout words t.v.stands key t.w.stands served ready.knows in
      let at = gained t (call.Insert words) a ready (ap is_key is) (Insert t.pass key words)
      (ap (λ (p : PassPart). p.log) h.1) in
      let new : value_of t.before key ≡ None =
      allowed_last t (call.Insert words) a ready (Insert t.pass key words) at in
      let of_it = of_layout t.terms.layout t.v.shard key h.0.own in
      let left = one_left t.terms.layout t.before ready.issued t.pass key words of_it new in
      let plain : (insert_attempt t.terms.layout (plain_before t) words).answer
      ≡ Ok (first_key t.terms.layout + insert_count t.before) =
      attempt_done few (ready.owner ∙ ap is_some e) left in
      record {
        owners_after = t.owners;
        keys_after = t.keys ++ Some key ∷ [];
        beside = inl (subst (λ (x : Result ℕ Refusal). InsertsBeside t.terms.layout t.terms.shape (plain_before t) words
            x a (plain_named (Some key))) (sym plain) (record {
              key = key;
              placed = has_place;
              new = record { is_key = of_it; not_issued = new };
              is = is;
              next_is =
                  ap (λ (es : List Entry). state t.terms t.tag es t.pass t.owners (t.keys ++ Some key ∷ [])) at;
            }));
        few = refl;
        own = ready.owner ∙ sym (ap (λ (p : PassPart). is_some p.shard) h.1);
        others = λ q ne. refl;
        names = subst (λ (x : Answer). AreNames t.tag (t.keys ++ Some key ∷ [])
            (with_number t.numbers (call.Insert words) x)) (sym is)
            (one_more_name t.tag t.keys t.numbers (Some key) (Some (shown t.tag key)) ready.names
            (shown_is t.terms.layout t.tag key room h.0.small));
        issued = subst (AreIssued t.terms.layout) (sym at)
            (issued_more t.terms.layout t.before ready.issued t.pass key words of_it new);
      }
  inserted few own e (Err refusal.Full) is h served = insert_refused refusal.Full is (shard_kept t.v t.w h)
      (λ still. inr (let f = few in grind (arith, nat_tests), ready.owner ∙ ap is_some e, inl is, unnamed_is still))
  inserted few own e (Err refusal.Memory) is h served = insert_refused refusal.Memory is (shard_kept t.v t.w h)
      (λ still. inr (let f = few in grind (arith, nat_tests), ready.owner ∙ ap is_some e, inr is, unnamed_is still))
  inserted few own e (Err _) is h served = absurd h

  -- what follows if the words fit a value
  abbrev Rest : Result ℕ Refusal → Option ℕ → Type 0
  Rest r z = UnlessRefused (needs_shard z) r (Becomes t.v t.w) (ValueInserted t.terms t.pass t.v words r t.w)

  pub insert_step : (bound : Option ℕ) → CallAnswers t.terms t.tag t.pass t.v (call.Insert words) bound a t.w
      → Stepped t (call.Insert words) a
  insert_step bound h = go (nat_lt 16 (length words)) refl h.does
    where
      owned : nat_lt 16 (length words) ≡ false → (o : Option ℕ) → t.v.shard ≡ o → Rest h.result o
          → SideInserts t.terms.layout words t.v.stands h.result t.w.stands → Stepped t (call.Insert words) a
      owned e (Some own) f d served = inserted e own f h.result h.is d served
      owned e None f d served = both_refuse refusal.NoShard (attempt_bare e (ready.owner ∙ ap is_some f))
          (h.is ∙ ap (key_answer t.tag) d.0) (shard_kept t.v t.w d.1)

      go : (b : Bool) → nat_lt 16 (length words) ≡ b → UnlessRefused (cond b (Some refusal.TooLong) None) h.result
          (t.w ≡ t.v) (Rest h.result t.v.shard
          × SideInserts t.terms.layout words t.v.stands h.result t.w.stands)
          → Stepped t (call.Insert words) a
      go true e d = both_refuse refusal.TooLong (attempt_long e)
          (h.is ∙ ap (key_answer t.tag) d.0) (ap (λ (p : PassPart). p.shard) d.1)
      go false e d = owned e t.v.shard refl d.0 d.1
