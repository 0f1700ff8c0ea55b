-- A call beside mode plain is one along with mode plain's own run, in which the keys have other numbers.
use Rattle.std.proofs.Common.{◌≡◌, ℕ, zero, suc, ◌+◌, ◌<◌, inl, Bool, true, false, cond, List, [], ◌∷◌, ◌++◌, map}
use Rattle.std.proofs.Common.{length, refl, ap, sym, ◌∙◌, subst, arith, Option, Some, None, Result, Ok, Err, slice_get}
use Rattle.std.proofs.Common.{slice_set}
use Rattle.std.specs.Prelude.{is_some, nat_le, nat_lt}
use Rattle.std.specs.Option.{option_map}
use Rattle.std.proofs.lemmas.Bool.Decides.{nat_tests}
use Rattle.std.proofs.lemmas.Option.{slice_get-map}
use Rattle.sh_value.specs.declared.refusal.Refusal.{Refusal}
use Rattle.sh_value.specs.declared.refusal.Refusal.TheVariants as refusal
use Rattle.sh_key.specs.Layout.{Layout, unpacked, first_key, key_count}
use Rattle.sh_key.proofs.Packing.{keys_are_consecutive}
use Rattle.sh_shape.specs.Shape.{Numbers}
use Rattle.sh_history.specs.declared.entry.Entry.{Entry}
use Rattle.sh_history.specs.declared.entry.Entry.TheVariants.{Insert}
use Rattle.sh_history.specs.History.{insert_count}
use Rattle.sh_plain.specs.Plain.{PlainReply, Replied, with_added}
use Rattle.sh_script.specs.declared.calls.Reference.TheVariants as reference
use Rattle.sh_script.specs.declared.calls.Call.{Call}
use Rattle.sh_script.specs.declared.calls.Call.TheVariants as call
use Rattle.script_output.specs.declared.answer.Answer.{Answer}
use Rattle.script_output.specs.declared.answer.Answer.TheVariants as answer
use Rattle.script_output.specs.Keys.{shown}
use Rattle.script_output.specs.Results.{done_answer}
use Rattle.script_models.specs.PlainRun.{Run, CallDoes, has_shard}
use Rattle.script_models.specs.PlainRun.{bound_key, insert_attempt, key_of}
use Rattle.script_calls.specs.Parts.{is_placed_key}
use Rattle.script_beside.specs.Beside.{InsertsBeside, GivesKey}
use Rattle.script_beside.specs.Beside.{RefusedAlone, unnamed}
use Rattle.script_beside.specs.Along.{CallAlong, SameButKey}
use Rattle.script_beside.proofs.Renaming.{renumbered, same_inserts}
use Rattle.script_beside.proofs.Renaming.{one_more}

-- a layout and a shape, and other numbers of keys, no two of them the same
pub record Numbering : Type 0 where
  pub layout : Layout
  pub shape : Numbers
  pub number : ℕ → ℕ
  pub one : (i j : ℕ) → number i ≡ number j → i ≡ j

-- the call has this reply, whose entry the store gains
abbrev pub Told : {A : Type 0} → PlainReply A → Answer → Run → Run → Type 0
Told reply a run next = (a ≡ done_answer reply.answer)
    × (next ≡ record run { store = with_added run.store reply.adds })

-- the key of a name
abbrev pub key_named : Run → ℕ → Result ℕ Answer
key_named run i = key_of run (reference.Name i)

same_but : (a : Answer) → SameButKey a a
same_but answer.Done = refl
same_but (answer.Key n) = tt
same_but (answer.Read words) = refl
same_but (answer.Refused r) = refl
same_but answer.Unbound = refl

module _ (n : Numbering) where
  -- mode plain's own run, in which the keys have these numbers
  abbrev pub own : Run → Run
  own run = record run {
    store = record run.store { entries = map (renumbered n.number) run.store.entries };
    keys = map (option_map n.number) run.keys;
  }

  -- the key has a place, and its number is one of a key
  abbrev pub KeyIs : Option ℕ → Type 0
  KeyIs None = Unit {0}
  KeyIs (Some key) = (is_placed_key n.layout n.shape key ≡ true) × (is_some (unpacked n.layout (n.number key)) ≡ true)

  abbrev pub KeysAre : List (Option ℕ) → Type 0
  KeysAre [] = Unit {0}
  KeysAre (k ∷ ks) = KeyIs k × KeysAre ks

  pub one_key_more : (ks : List (Option ℕ)) (k : Option ℕ) → KeysAre ks → KeyIs k → KeysAre (ks ++ k ∷ [])
  one_key_more [] k h is = (is, tt)
  one_key_more (j ∷ ks) k h is = (h.0, one_key_more ks k h.1 is)

  key_at : (ks : List (Option ℕ)) (i key : ℕ) → KeysAre ks → slice_get ks i ≡ Some (Some key) → KeyIs (Some key)
  key_at [] i key h e = absurd (let z : ⊥ = cc in z)
  key_at (j ∷ ks) zero key h e = subst KeyIs (let same : j ≡ Some key = cc in same) h.0
  key_at (j ∷ ks) (suc i) key h e = key_at ks i key h.1 e

  pub plainly : (owned : ℕ → Option ℕ) (run next : Run) (c : Call) (a : Answer) → CallDoes n.layout run c a next
      → CallAlong n.layout n.shape owned run c a next
  plainly owned run next c a h = inl (record { plain = a; does = h; same = same_but a })

  -- ---- calls on no key

  own_adopts : (run : Run) (shard : ℕ) (b c : Bool) → own (cond b run (cond c run
      (record run { owners = slice_set run.owners run.store.pass true })))
      ≡ cond b (own run) (cond c (own run) (record (own run) { owners = slice_set run.owners run.store.pass true }))
  own_adopts run shard true c = refl
  own_adopts run shard false true = refl
  own_adopts run shard false false = refl

  own_leaves : (run : Run) (b : Bool) → own (cond b (record run { owners = slice_set run.owners run.store.pass false })
      run) ≡ cond b (record (own run) { owners = slice_set run.owners run.store.pass false }) (own run)
  own_leaves run true = refl
  own_leaves run false = refl

  map_last : (ks : List (Option ℕ)) (k : Option ℕ) → map (option_map n.number) (ks ++ k ∷ [])
      ≡ map (option_map n.number) ks ++ option_map n.number k ∷ []
  map_last [] k = refl
  map_last (j ∷ ks) k = ap (λ (xs : List (Option ℕ)). option_map n.number j ∷ xs) (map_last ks k)

  pub own_unnamed : (run : Run) → own (unnamed run) ≡ unnamed (own run)
  own_unnamed run = ap (λ (ks : List (Option ℕ)). record (own run) { keys = ks }) (map_last run.keys None)

  -- what only the running heap refuses
  pub refused_alone : (owned : ℕ → Option ℕ) (run next : Run) (c : Call) (a : Answer)
      → RefusedAlone n.shape owned run c a next → RefusedAlone n.shape owned (own run) c a (own next)
  refused_alone owned run next (call.Adopt shard) a h = (h.0, h.1, ap own h.2)
  refused_alone owned run next (call.Insert words) a h = (h.0, h.1, h.2, ap own h.3 ∙ own_unnamed run)
  refused_alone owned run next call.Leave a h = absurd h
  refused_alone owned run next (call.Get r) a h = absurd h
  refused_alone owned run next (call.Read r) a h = absurd h
  refused_alone owned run next (call.Remove r) a h = absurd h
  refused_alone owned run next (call.Release r) a h = absurd h
  refused_alone owned run next call.Post a h = absurd h
  refused_alone owned run next (call.Wait i) a h = absurd h

  module _ (owned : ℕ → Option ℕ) where
    pub adopt_along : (run next : Run) (shard : ℕ) (a : Answer) → CallDoes n.layout run (call.Adopt shard) a next
        → CallAlong n.layout n.shape owned (own run) (call.Adopt shard) a (own next)
    adopt_along run next shard a h = plainly owned (own run) (own next) (call.Adopt shard) a
        (h.0, ap own h.1 ∙ own_adopts run shard (has_shard run) (nat_le run.shards shard))

    pub leave_along : (run next : Run) (a : Answer) → CallDoes n.layout run call.Leave a next
        → CallAlong n.layout n.shape owned (own run) call.Leave a (own next)
    leave_along run next a h = plainly owned (own run) (own next) call.Leave a
        (h.0, ap own h.1 ∙ own_leaves run (has_shard run))

    pub post_along : (run next : Run) (a : Answer) → CallDoes n.layout run call.Post a next
        → CallAlong n.layout n.shape owned (own run) call.Post a (own next)
    post_along run next a h = plainly owned (own run) (own next) call.Post a (h.0, ap own h.1 ∙ own_unnamed run)

    pub wait_along : (run next : Run) (i : ℕ) (a : Answer) → CallDoes n.layout run (call.Wait i) a next
        → CallAlong n.layout n.shape owned (own run) (call.Wait i) a (own next)
    wait_along run next i a h = plainly owned (own run) (own next) (call.Wait i) a (h.0, ap own h.1)

  -- the same if an entry was added
  pub own_added : (run : Run) (e : Entry) → own (record run { store = with_added run.store (Some e) })
      ≡ record (own run) { store = with_added (own run).store (Some (renumbered n.number e)) }
  own_added run e = ap (λ (es : List Entry). record (own run) { store = record (own run).store { entries = es } })
      (one_more n.number n.one run.store.entries e)

  -- what is found for a call
  pub record Found (owned : ℕ → Option ℕ) (run next : Run) (c : Call) (a : Answer) : Type 0 where
    pub along : CallAlong n.layout n.shape owned (own run) c a (own next)
    pub keys : KeysAre next.keys

  pub same_keys : (run next : Run) → next.keys ≡ run.keys → KeysAre run.keys → KeysAre next.keys
  same_keys run next e h = subst KeysAre (sym e) h

  -- ---- insert

  module _ (owned : ℕ → Option ℕ) (run next : Run) (words : List ℕ) (a : Answer) (keys : KeysAre run.keys) where
    refuses_too : (r : Refusal) → Replied (insert_attempt n.layout (own run) words) (own run).store (Err r)
        (own run).store
        → a ≡ answer.Refused r → next ≡ unnamed run → Found owned run next (call.Insert words) a
    refuses_too r replied is same =
        let p : own next ≡ unnamed (own run) = ap own same ∙ own_unnamed run in
        record {
          along = subst (λ (m : Run). CallAlong n.layout n.shape owned (own run) (call.Insert words) a m) (sym p)
              (inl (record {
                plain = a;
                does = record { result = Err r; replied = replied; is = is; next_is = refl };
                same = same_but a;
              }));
          keys = subst (λ (m : Run). KeysAre m.keys) (sym same) (one_key_more run.keys None keys tt);
        }

    count_is : insert_count (map (renumbered n.number) run.store.entries) ≡ insert_count run.store.entries
    count_is = same_inserts n.number n.one run.store.entries

    gives_too : nat_lt 16 (length words) ≡ false → has_shard run ≡ true
        → nat_lt (insert_count run.store.entries) (key_count n.layout) ≡ true
        → (g : GivesKey n.layout n.shape run words a next)
        → n.number g.key ≡ first_key n.layout + insert_count run.store.entries
        → Found owned run next (call.Insert words) a
    gives_too few has left g number_is =
        let count : ℕ = insert_count (map (renumbered n.number) run.store.entries) in
        let left_own : nat_lt count (key_count n.layout) ≡ true =
        ap (λ m. nat_lt m (key_count n.layout)) count_is ∙ left in
        let next_number : n.number g.key ≡ first_key n.layout + count =
        number_is ∙ ap (λ m. first_key n.layout + m) (sym count_is) in
        let Y : Run = record (own run) {
          store = with_added (own run).store (Some (Insert run.store.pass (n.number g.key) words));
          keys = map (option_map n.number) run.keys ++ Some (n.number g.key) ∷ [];
        } in
        let p : own next ≡ Y = ap own g.next_is
        ∙ (λ i. record (own run) {
          store = record (own run).store {
            entries = one_more n.number n.one run.store.entries
                (Insert run.store.pass g.key words) i;
          };
          keys = map_last run.keys (Some g.key) i;
        }) in
        let small : insert_count run.store.entries < key_count n.layout = grind (arith, nat_tests) in
        record {
          along = subst (λ (m : Run). CallAlong n.layout n.shape owned (own run) (call.Insert words) a m) (sym p)
              (inl (record {
                plain = answer.Key (shown run.tag (n.number g.key));
                does = record {
                  result = Ok (n.number g.key);
                  replied = rw (few, has, left_own) (
                    sym (ap (λ (k : ℕ). Ok k) next_number),
                    ap (λ (k : ℕ). with_added (own run).store (Some (Insert run.store.pass k words))) next_number,
                  );
                  is = refl;
                  next_is = refl;
                };
                same = subst (λ (x : Answer). SameButKey x (answer.Key (shown run.tag (n.number g.key)))) (sym g.is) tt;
              }));
          keys = subst (λ (m : Run). KeysAre m.keys) (sym g.next_is) (one_key_more run.keys (Some g.key) keys (
            g.placed,
            (keys_are_consecutive n.layout (n.number g.key)).1 (
              omega (arith, number_is),
              omega (arith, number_is, small),
            ),
          ));
        }

    pub insert_along : InsertsBeside n.layout n.shape run words (insert_attempt n.layout run words).answer a next
        → ((g : GivesKey n.layout n.shape run words a next)
        → n.number g.key ≡ first_key n.layout + insert_count run.store.entries)
        → Found owned run next (call.Insert words) a
    insert_along h number = go (nat_lt 16 (length words)) (has_shard run) (nat_lt (insert_count run.store.entries)
        (key_count n.layout)) refl refl refl
      where
        go : (b c d : Bool) → nat_lt 16 (length words) ≡ b → has_shard run ≡ c
            → nat_lt (insert_count run.store.entries) (key_count n.layout) ≡ d
            → Found owned run next (call.Insert words) a
        go true c d e g k =
            let at : InsertsBeside n.layout n.shape run words (Err refusal.TooLong) a next =
            subst (λ (x : Result ℕ Refusal). InsertsBeside n.layout n.shape run words x a next)
            (let z : (insert_attempt n.layout run words).answer ≡ Err refusal.TooLong = rw e refl in z) h in
            refuses_too refusal.TooLong (rw e (refl, refl)) at.0 at.1
        go false false d e g k =
            let at : InsertsBeside n.layout n.shape run words (Err refusal.NoShard) a next =
            subst (λ (x : Result ℕ Refusal). InsertsBeside n.layout n.shape run words x a next)
            (let z : (insert_attempt n.layout run words).answer ≡ Err refusal.NoShard = rw (e, g) refl in z) h in
            refuses_too refusal.NoShard (rw (e, g) (refl, refl)) at.0 at.1
        go false true false e g k =
            let at : InsertsBeside n.layout n.shape run words (Err refusal.Full) a next =
            subst (λ (x : Result ℕ Refusal). InsertsBeside n.layout n.shape run words x a next)
            (let z : (insert_attempt n.layout run words).answer ≡ Err refusal.Full = rw (e, g, k) refl in z) h in
            let none : nat_lt (insert_count (own run).store.entries) (key_count n.layout) ≡ false =
            ap (λ m. nat_lt m (key_count n.layout)) count_is ∙ k in
            refuses_too refusal.Full (rw (e, g, none) (refl, refl)) at.0 at.1
        go false true true e g k =
            let at : GivesKey n.layout n.shape run words a next =
            subst (λ (x : Result ℕ Refusal). InsertsBeside n.layout n.shape run words x a next)
            (let z : (insert_attempt n.layout run words).answer
            ≡ Ok (first_key n.layout + insert_count run.store.entries) = rw (e, g, k) refl in z) h in
            gives_too e g k at (number at)

  -- ---- calls on a key

  -- the key, under its other number
  abbrev pub own_key : Result ℕ Answer → Result ℕ Answer
  own_key (Ok key) = Ok (n.number key)
  own_key (Err a) = Err a

  own_bound : (o : Option (Option ℕ)) → bound_key (option_map (option_map n.number) o) ≡ own_key (bound_key o)
  own_bound None = refl
  own_bound (Some None) = refl
  own_bound (Some (Some key)) = refl

  bound_is : (o : Option (Option ℕ)) (key : ℕ) → bound_key o ≡ Ok key → o ≡ Some (Some key)
  bound_is None key e = absurd (let z : Err answer.Unbound ≡ Ok key = e in let w : ⊥ = cc in w)
  bound_is (Some None) key e = absurd (let z : Err answer.Unbound ≡ Ok key = e in let w : ⊥ = cc in w)
  bound_is (Some (Some k)) key e = let same : k ≡ key = (let z : Ok k ≡ Ok key =
      e in cc) in ap (λ (x : ℕ). Some (Some x)) same

  pub own_meant : (run : Run) (i : ℕ) (k : Result ℕ Answer) → key_named run i ≡ k
      → key_named (own run) i ≡ own_key k
  own_meant run i k e = ap bound_key (slice_get-map (option_map n.number) run.keys i)
      ∙ (own_bound (slice_get run.keys i) ∙ ap own_key e)

  pub known : (run : Run) (i key : ℕ) → KeysAre run.keys → key_named run i ≡ Ok key → KeyIs (Some key)
  known run i key keys e = key_at run.keys i key keys (bound_is (slice_get run.keys i) key e)
