-- A call of the running heap that touches no key, beside mode plain.
use Rattle.std.proofs.Common.{◌≡◌, ℕ, inl, inr, ⊎_elim, Bool, true, false, cond, List, [], ◌∷◌, ◌++◌}
use Rattle.std.proofs.Common.{refl, ap, sym, ◌∙◌, subst, slice_index_or, slice_set}
use Rattle.std.proofs.Common.{Option, Some, None, Result, Ok, Err}
use Rattle.std.specs.Prelude.{is_some, nat_le, IsSome}
use Rattle.std.proofs.lemmas.List.{get_or-set_same, get_or-set_other, length-set}
use Rattle.sh_value.specs.declared.refusal.Refusal.{Refusal}
use Rattle.sh_value.specs.declared.refusal.Refusal.TheVariants as refusal
use Rattle.sh_history.specs.declared.entry.Entry.{Entry}
use Rattle.sh_script.specs.declared.calls.Call.TheVariants as call
use Rattle.script_output.specs.declared.answer.Answer.{Answer}
use Rattle.script_output.specs.declared.answer.Answer.TheVariants as answer
use Rattle.script_output.specs.Results.{done_answer}
use Rattle.script_models.specs.PlainRun.{adopt_answer, adopts, leave_answer, leaves}
use Rattle.script_calls.specs.Parts.{PassPart, Becomes}
use Rattle.script_calls.specs.Calls.{CallAnswers, UnlessRefused, PartAdopted, PartLeft, adopt_refusal, needs_shard}
use Rattle.script_heap.specs.Owners.{AdoptIsExact, LeaveIsExact, IsFree, IsOwned}
use Rattle.script_calls.specs.Runs.{with_number}
use Rattle.script_beside.proofs.Names.{AreNames, one_more_name}
use Rattle.script_beside.proofs.Issued.{AreIssued, issued_same}
use Rattle.script_beside.proofs.Turns.{Turn, Ready, Stepped, state, plain_before, stays, shard_kept}

module _ (t : Turn) where
  abbrev same_run : t.after ≡ t.before → (owners : List Bool)
      → state t.terms t.tag t.after t.pass owners t.keys ≡ state t.terms t.tag t.before t.pass owners t.keys
  same_run e owners = ap (λ (es : List Entry). state t.terms t.tag es t.pass owners t.keys) e

  -- ---- adopt

  adopt_said : (b c : Bool) (shard : ℕ) → slice_index_or t.owners t.pass false ≡ b
      → nat_le t.terms.shape.shards shard ≡ c → adopt_answer (plain_before t) shard
      ≡ cond b (answer.Refused refusal.Taken) (cond c (answer.Refused refusal.NoShard) answer.Done)
  adopt_said b c shard e f = rw (e, f) refl

  adopt_done : (b c : Bool) (shard : ℕ) → slice_index_or t.owners t.pass false ≡ b
      → nat_le t.terms.shape.shards shard ≡ c → adopts (plain_before t) shard ≡ cond b (plain_before t)
      (cond c (plain_before t) (record (plain_before t) { owners = slice_set t.owners t.pass true }))
  adopt_done b c shard e f = rw (e, f) refl

  module _ (shard : ℕ) (a : Answer) (ready : Ready t (call.Adopt shard) a) where
    adopt_issued : AreIssued t.terms.layout t.after
    adopt_issued = issued_same t.terms.layout t.before t.after ready.grown ready.issued

    -- the shard is free, if the adopt is ok
    free_then : a ≡ answer.Done → IsFree t.terms.shape t.owned shard
    free_then done = (subst (AdoptIsExact t.terms.shape t.owned t.pass shard) done ready.exact).1

    -- another pass owns it, if the adopt of a pass without a shard is Taken
    owned_then_taken : slice_index_or t.owners t.pass false ≡ false → a ≡ answer.Refused refusal.Taken
        → IsOwned t.terms.shape t.owned t.pass shard
    owned_then_taken none taken = ⊎_elim
        (λ (own : IsSome (t.owned t.pass)).
        let has : is_some (t.owned t.pass) ≡ true = own in
        absurd (let z : false ≡ true = sym none ∙ (ready.owner ∙ (ap is_some (sym ready.owns) ∙ has)) in cc))
        (λ other. other)
        (subst (AdoptIsExact t.terms.shape t.owned t.pass shard) taken ready.exact)

    adopt_refused : (r : Refusal) (b c : Bool) → slice_index_or t.owners t.pass false ≡ b
        → nat_le t.terms.shape.shards shard ≡ c
        → cond b (answer.Refused refusal.Taken) (cond c (answer.Refused refusal.NoShard) answer.Done) ≡ answer.Refused r
        → cond b (plain_before t)
        (cond c (plain_before t) (record (plain_before t) { owners = slice_set t.owners t.pass true })) ≡ plain_before t
        → a ≡ answer.Refused r → Becomes t.v t.w → Stepped t (call.Adopt shard) a
    adopt_refused r b c e f said done is same =
        stays t (call.Adopt shard) a ready (shard_kept t.v t.w same) ready.names adopt_issued
        (inl (
          (
            is ∙ sym (adopt_said b c shard e f ∙ said),
            same_run ready.grown t.owners ∙ sym (adopt_done b c shard e f ∙ done),
          ),
          free_then,
        ))

    adopt_tried : slice_index_or t.owners t.pass false ≡ false → nat_le t.terms.shape.shards shard ≡ false
        → (r : Result (Unit {0}) Refusal) → a ≡ done_answer r → PartAdopted t.v shard r t.w
        → Stepped t (call.Adopt shard) a
    adopt_tried e f (Ok x) is h = record {
      owners_after = slice_set t.owners t.pass true;
      keys_after = t.keys;
      beside = inl (
        (
          is ∙ sym (adopt_said false false shard e f),
          same_run ready.grown (slice_set t.owners t.pass true) ∙ sym (adopt_done false false shard e f),
        ),
        free_then,
      );
      few = length-set t.owners t.pass true;
      own = get_or-set_same t.owners t.pass true false ready.inside ∙ sym (ap (λ (p : PassPart). is_some p.shard) h);
      others = λ q ne. get_or-set_other t.owners t.pass q true false ne;
      names = ready.names;
      issued = adopt_issued;
    }
    adopt_tried e f (Err refusal.Taken) is h =
        stays t (call.Adopt shard) a ready (shard_kept t.v t.w h) ready.names adopt_issued
        (inr (adopt_said false false shard e f, inl (is, owned_then_taken e is), same_run ready.grown t.owners))
    adopt_tried e f (Err refusal.Memory) is h =
        stays t (call.Adopt shard) a ready (shard_kept t.v t.w h) ready.names adopt_issued
        (inr (adopt_said false false shard e f, inr is, same_run ready.grown t.owners))
    adopt_tried e f (Err _) is h = absurd h

    pub adopt_step : (bound : Option ℕ) → CallAnswers t.terms t.tag t.pass t.v (call.Adopt shard) bound a t.w
        → Stepped t (call.Adopt shard) a
    adopt_step bound h = go t.v.shard refl
      where
        room : (c : Bool) → t.v.shard ≡ None → nat_le t.terms.shape.shards shard ≡ c
            → UnlessRefused (cond c (Some refusal.NoShard) None) h.result (Becomes t.v t.w)
            (PartAdopted t.v shard h.result t.w) → Stepped t (call.Adopt shard) a
        room true e f d = adopt_refused refusal.NoShard false true (ready.owner ∙ ap is_some e) f refl refl
            (h.is ∙ ap done_answer d.0) d.1
        room false e f d = adopt_tried (ready.owner ∙ ap is_some e) f h.result h.is d

        go : (o : Option ℕ) → t.v.shard ≡ o → Stepped t (call.Adopt shard) a
        go (Some own) e =
            let d = subst (λ (z : Option ℕ). UnlessRefused (adopt_refusal t.terms z shard) h.result (Becomes t.v t.w)
            (PartAdopted t.v shard h.result t.w)) e h.does.0 in
            adopt_refused refusal.Taken true (nat_le t.terms.shape.shards shard) (ready.owner ∙ ap is_some e)
            refl refl refl (h.is ∙ ap done_answer d.0) d.1
        go None e =
            let d = subst (λ (z : Option ℕ). UnlessRefused (adopt_refusal t.terms z shard) h.result (Becomes t.v t.w)
            (PartAdopted t.v shard h.result t.w)) e h.does.0 in
            room (nat_le t.terms.shape.shards shard) e refl d

  -- ---- leave

  leave_said : (b : Bool) → slice_index_or t.owners t.pass false ≡ b
      → leave_answer (plain_before t) ≡ cond b answer.Done (answer.Refused refusal.NoShard)
  leave_said b e = rw e refl

  leave_done : (b : Bool) → slice_index_or t.owners t.pass false ≡ b
      → leaves (plain_before t)
      ≡ cond b (record (plain_before t) { owners = slice_set t.owners t.pass false }) (plain_before t)
  leave_done b e = rw e refl

  module _ (a : Answer) (ready : Ready t call.Leave a) where
    leave_issued : AreIssued t.terms.layout t.after
    leave_issued = issued_same t.terms.layout t.before t.after ready.grown ready.issued

    leave_tried : slice_index_or t.owners t.pass false ≡ true → (r : Result (Unit {0}) Refusal) → a ≡ done_answer r
        → PartLeft t.v r t.w → Stepped t call.Leave a
    leave_tried e (Ok x) is h = record {
      owners_after = slice_set t.owners t.pass false;
      keys_after = t.keys;
      beside = inl (
        is ∙ sym (leave_said true e),
        same_run ready.grown (slice_set t.owners t.pass false) ∙ sym (leave_done true e),
      );
      few = length-set t.owners t.pass false;
      own = get_or-set_same t.owners t.pass false false ready.inside ∙ sym (ap (λ (p : PassPart). is_some p.shard) h);
      others = λ q ne. get_or-set_other t.owners t.pass q false false ne;
      names = ready.names;
      issued = leave_issued;
    }
    leave_tried e (Err refusal.Waiting) is h = absurd (subst (LeaveIsExact t.owned t.pass) is ready.exact)
    leave_tried e (Err _) is h = absurd h

    pub leave_step : (bound : Option ℕ) → CallAnswers t.terms t.tag t.pass t.v call.Leave bound a t.w
        → Stepped t call.Leave a
    leave_step bound h = go t.v.shard refl
      where
        go : (o : Option ℕ) → t.v.shard ≡ o → Stepped t call.Leave a
        go (Some own) e =
            let d = subst (λ (z : Option ℕ). UnlessRefused (needs_shard z) h.result (Becomes t.v t.w)
            (PartLeft t.v h.result t.w)) e h.does.0 in
            leave_tried (ready.owner ∙ ap is_some e) h.result h.is d
        go None e =
            let d = subst (λ (z : Option ℕ). UnlessRefused (needs_shard z) h.result (Becomes t.v t.w)
            (PartLeft t.v h.result t.w)) e h.does.0 in
            stays t call.Leave a ready (shard_kept t.v t.w d.1) ready.names leave_issued
            (inl (
              h.is ∙ (ap done_answer d.0 ∙ sym (leave_said false (ready.owner ∙ ap is_some e))),
              same_run ready.grown t.owners ∙ sym (leave_done false (ready.owner ∙ ap is_some e)),
            ))

  -- ---- post and wait

  pub post_step : (a : Answer) (bound : Option ℕ) → Ready t call.Post a
      → CallAnswers t.terms t.tag t.pass t.v call.Post bound a t.w → Stepped t call.Post a
  post_step a bound ready h = record {
    owners_after = t.owners;
    keys_after = t.keys ++ None ∷ [];
    beside = inl (
      h.0,
      ap (λ (es : List Entry). state t.terms t.tag es t.pass t.owners (t.keys ++ None ∷ [])) ready.grown,
    );
    few = refl;
    own = ready.owner ∙ sym (ap (λ (p : PassPart). is_some p.shard) h.1);
    others = λ q ne. refl;
    names = subst (λ (x : Answer). AreNames t.tag (t.keys ++ None ∷ []) (with_number t.numbers call.Post x)) (sym h.0)
        (one_more_name t.tag t.keys t.numbers None None ready.names tt);
    issued = issued_same t.terms.layout t.before t.after ready.grown ready.issued;
  }

  pub wait_step : (name : ℕ) (a : Answer) (bound : Option ℕ) → Ready t (call.Wait name) a
      → CallAnswers t.terms t.tag t.pass t.v (call.Wait name) bound a t.w → Stepped t (call.Wait name) a
  wait_step name a bound ready h = stays t (call.Wait name) a ready (ap (λ (p : PassPart). p.shard) h.1) ready.names
      (issued_same t.terms.layout t.before t.after ready.grown ready.issued)
      (inl (h.0, same_run ready.grown t.owners))
