-- A line beside mode plain is one along with mode plain's own run, if the keys of a history have the numbers in which
-- they were given.
use Rattle.std.proofs.Common.{◌≡◌, ℕ, ◌+◌, Bool, true, false, cond, List, [], ◌∷◌, ◌++◌, refl, ap, sym, ◌∙◌, subst}
use Rattle.std.proofs.Common.{arith}
use Rattle.std.proofs.Common.{append_assoc, inl, inr, Option, None, slice_set}
use Rattle.std.specs.Prelude.{nat_le}
use Rattle.sh_key.specs.Layout.{Layout, first_key}
use Rattle.sh_shape.specs.Shape.{Numbers}
use Rattle.sh_history.specs.declared.entry.Entry.{Entry}
use Rattle.sh_history.specs.declared.entry.Entry.TheVariants.{Insert}
use Rattle.sh_history.specs.History.{value_of, insert_count}
use Rattle.sh_script.specs.declared.calls.Reference.TheVariants as reference
use Rattle.sh_script.specs.declared.calls.Call.{Call}
use Rattle.sh_script.specs.declared.calls.Call.TheVariants as call
use Rattle.script_output.specs.declared.answer.Answer.{Answer}
use Rattle.script_models.specs.PlainRun.{Run, has_shard}
use Rattle.script_beside.specs.Beside.{CallBeside, GivesKey, RefusedAlone}
use Rattle.script_beside.specs.Along.{NamesKey}
use Rattle.script_beside.proofs.Along.{Numbering, KeysAre, Found, one_key_more, same_keys, refused_alone, adopt_along}
use Rattle.script_beside.proofs.Along.{leave_along, post_along, wait_along, insert_along}
use Rattle.script_beside.proofs.AlongGets.{get_along}
use Rattle.script_beside.proofs.AlongKeys.{remove_along, release_along, read_along}
use Rattle.script_beside.proofs.Renaming.{place_in, one_place, given, given_append, place_now}

-- ---- the numbers

-- the number that mode plain gives the key of this history
abbrev pub number_of : Layout → List Entry → ℕ → ℕ
number_of layout history key = first_key layout + place_in (given history) key

pub one_number : (layout : Layout) (history : List Entry) (i j : ℕ) → number_of layout history i
    ≡ number_of layout history j → i ≡ j
one_number layout history i j e = one_place (given history) i j (omega (arith, e))

-- that of a key that is given now is mode plain's next one
pub number_now : (layout : Layout) (before after later history : List Entry) (p key : ℕ) (words : List ℕ)
    → after ≡ before ++ Insert p key words ∷ [] → after ++ later ≡ history → value_of before key ≡ None
    → number_of layout history key ≡ first_key layout + insert_count before
number_now layout before after later history p key words at whole new =
    let here : given after ≡ given before ++ key ∷ [] = ap given at ∙ given_append before (Insert p key words ∷ []) in
    let all : given history ≡ given before ++ key ∷ given later =
    ap given (sym whole) ∙ (given_append after later ∙ (ap (λ (ks : List ℕ). ks ++ given later) here
    ∙ append_assoc (given before) (key ∷ []) (given later))) in
    ap (λ (ks : List ℕ). first_key layout + place_in ks key) all
    ∙ ap (λ (n : ℕ). first_key layout + n) (place_now before key (given later) new)

-- those of all keys of the history
abbrev pub numbering : Layout → Numbers → List Entry → Numbering
numbering layout shape history = record {
  layout = layout;
  shape = shape;
  number = number_of layout history;
  one = one_number layout history;
}

-- ---- a call

module _ (n : Numbering) (owned : ℕ → Option ℕ) (run next : Run) (a : Answer) (keys : KeysAre n run.keys) where
  kept : next.keys ≡ run.keys → KeysAre n next.keys
  kept e = same_keys n run next e keys

  one_none : next.keys ≡ run.keys ++ None ∷ [] → KeysAre n next.keys
  one_none e = subst (KeysAre n) (sym e) (one_key_more n run.keys None keys tt)

  keys_refused : (c : Call) → RefusedAlone n.shape owned run c a next → KeysAre n next.keys
  keys_refused (call.Adopt shard) h = kept (ap (λ (m : Run). m.keys) h.2)
  keys_refused call.Leave h = absurd h
  keys_refused (call.Insert words) h = one_none (ap (λ (m : Run). m.keys) h.3)
  keys_refused (call.Get r) h = absurd h
  keys_refused (call.Read r) h = absurd h
  keys_refused (call.Remove r) h = absurd h
  keys_refused (call.Release r) h = absurd h
  keys_refused call.Post h = absurd h
  keys_refused (call.Wait i) h = absurd h

  adopted : (b c : Bool) → (cond b run (cond c run (record run {
    owners =
        slice_set run.owners run.store.pass true;
  }))).keys
      ≡ run.keys
  adopted true c = refl
  adopted false true = refl
  adopted false false = refl

  left : (b : Bool) → (cond b (record run { owners = slice_set run.owners run.store.pass false }) run).keys ≡ run.keys
  left true = refl
  left false = refl

  pub call_along : (c : Call) → NamesKey c → CallBeside n.layout n.shape owned run c a next
      → ((words : List ℕ) (g : GivesKey n.layout n.shape run words a next)
      → n.number g.key ≡ first_key n.layout + insert_count run.store.entries) → Found n owned run next c a
  call_along c named (inr h) number =
      record { along = inr (refused_alone n owned run next c a h); keys = keys_refused c h }
  call_along (call.Adopt shard) named (inl h) number = record {
    along = adopt_along n owned run next shard a h.0;
    keys = kept (ap (λ (m : Run). m.keys) h.0.1 ∙ adopted (has_shard run) (nat_le run.shards shard));
  }
  call_along call.Leave named (inl h) number = record {
    along = leave_along n owned run next a h;
    keys = kept (ap (λ (m : Run). m.keys) h.1 ∙ left (has_shard run));
  }
  call_along (call.Insert words) named (inl h) number = insert_along n owned run next words a keys h
      (number words)
  call_along (call.Get (reference.Name i)) named (inl h) number = get_along n owned run next i a keys h
  call_along (call.Get (reference.Key k)) named (inl h) number = absurd named
  call_along (call.Read (reference.Name i)) named (inl h) number = read_along n owned run next i a keys h
  call_along (call.Read (reference.Key k)) named (inl h) number = absurd named
  call_along (call.Remove (reference.Name i)) named (inl h) number = remove_along n owned run next i a keys h
  call_along (call.Remove (reference.Key k)) named (inl h) number = absurd named
  call_along (call.Release (reference.Name i)) named (inl h) number =
      release_along n owned run next i a keys h
  call_along (call.Release (reference.Key k)) named (inl h) number = absurd named
  call_along call.Post named (inl h) number = record {
    along = post_along n owned run next a h;
    keys = one_none (ap (λ (m : Run). m.keys) h.1);
  }
  call_along (call.Wait i) named (inl h) number = record {
    along = wait_along n owned run next i a h;
    keys = kept (ap (λ (m : Run). m.keys) h.1);
  }
