-- What the calls of a plain store leave in its book.
use Rattle.std.proofs.Common.{◌≡◌, ℕ, Bool, true, false, cond, List, [], ◌∷◌, ◌++◌, Option, Some, None, refl, sym, ap}
use Rattle.std.proofs.Common.{subst, arith, map, Ok, Err, Result, inl, ltb-true, ltb-false}
use Rattle.std.specs.Prelude.{ok_or, nat_lt, nat_le, not, is_some}
use Rattle.std.proofs.lemmas.List.{map-append}
use Rattle.sh_value.specs.declared.hold.Hold.{Hold}
use Rattle.sh_value.specs.declared.refusal.Refusal.{Refusal}
use Rattle.sh_value.specs.declared.refusal.Refusal.TheVariants as refusal
use Rattle.sh_key.specs.Layout.{Layout, unpacked}
use Rattle.sh_history.specs.declared.entry.Entry.{Entry}
use Rattle.sh_history.specs.declared.entry.Entry.TheVariants.{Got, Gone, Crowded, Removed, Seen}
use Rattle.sh_history.specs.declared.log.LogEntry.TheVariants.{Known}
use Rattle.sh_history.specs.History.{Legal, value_of, present_value, holds_by, holds_on, hold_count}
use Rattle.sh_history.proofs.LogLaws.{known_holds, known_filled, gets_have_value}
use Rattle.sh_plain.specs.Plain.{Plain, PlainReply, Replied, refused, got_reply, get_reply, removed_reply, remove_reply}
use Rattle.sh_plain.specs.Plain.{looked_reply, look_reply}
use Rattle.sh_plain.specs.Plain.{read_answer, with_added, plain_book, plain_setting}
use Rattle.sh_plain.specs.Store.{GetLeaves, ReadLeaves, LookLeaves, RemoveLeaves}
use Rattle.sh_plain.proofs.Held.{held_has_value, got_is_held}

-- a call leaves the setting as it is
added_setting : (layout : Layout) (s : Plain) (adds : Option Entry) → plain_setting layout (with_added s adds)
    ≡ plain_setting layout s
added_setting layout s None = refl
added_setting layout s (Some e) = refl

pub setting_stays : {A : Type 0} (layout : Layout) (reply : PlainReply A) (s t : Plain) (result : Result A Refusal)
    → Replied reply s result t
    → plain_setting layout t ≡ plain_setting layout s
setting_stays layout reply s t (Ok x) h = rw h.1 (added_setting layout s reply.adds)
setting_stays layout reply s t (Err refusal.Memory) h = rw h.1 refl
setting_stays layout reply s t (Err r) h = rw h.1 (added_setting layout s reply.adds)

-- the book with an entry that is added
book_added : (s : Plain) (e : Entry) → map Known (s.entries ++ e ∷ []) ≡ map Known s.entries ++ Known e ∷ []
book_added s e = map-append Known s.entries (e ∷ [])

module _ (layout : Layout) (s : Plain) (key : ℕ) where
  -- what a remove with this reply leaves
  abbrev LeftRemoved : PlainReply (Unit {0}) → Type 0
  LeftRemoved reply = RemoveLeaves (plain_setting layout s) key (plain_book s) reply.answer
      (plain_book (with_added s reply.adds))

  removed_left : (present : Option (List ℕ)) → LeftRemoved (removed_reply s key present)
  removed_left None = book_added s (Gone s.pass key)
  removed_left (Some value) = book_added s (Removed s.pass key)

  remove_left : (b : Bool) (present : PlainReply (Unit {0})) → LeftRemoved present
      → LeftRemoved (cond b (refused refusal.BadKey) present)
  remove_left true present h = refl
  remove_left false present h = h

  by_removed : (reply : PlainReply (Unit {0})) (result : Result (Unit {0}) Refusal) (t : Plain) → LeftRemoved reply
      → Replied reply s result t
      → RemoveLeaves (plain_setting layout s) key (plain_book s) result (plain_book t)
  by_removed reply (Err refusal.Memory) t left h = ap plain_book h.1
  by_removed reply result t left h =
      let P : Result (Unit {0}) Refusal → Type 0 = λ r. RemoveLeaves (plain_setting layout s) key (plain_book s) r
      (plain_book t) in
      subst P h.0 (rw h.1 left)

  pub remove_leaves : (result : Result (Unit {0}) Refusal) (t : Plain) → Replied (remove_reply layout s key) s result t
      → RemoveLeaves (plain_setting layout s) key (plain_book s) result (plain_book t)
  remove_leaves result t h =
      let present = removed_reply s key (present_value s.entries key) in
      by_removed (remove_reply layout s key) result t
      (remove_left (not (is_some (unpacked layout key))) present (removed_left (present_value s.entries key))) h

module _ (layout : Layout) (s : Plain) (key : ℕ) where
  -- what a look with this reply leaves
  abbrev LeftLooked : PlainReply (List ℕ) → Type 0
  LeftLooked reply = LookLeaves (plain_setting layout s) key (plain_book s) reply.answer
      (plain_book (with_added s reply.adds))

  looked_left : (present : Option (List ℕ)) → LeftLooked (looked_reply s key present)
  looked_left None = book_added s (Gone s.pass key)
  looked_left (Some value) = inl (book_added s (Seen s.pass key value))

  look_left : (b : Bool) (present : PlainReply (List ℕ)) → LeftLooked present
      → LeftLooked (cond b (refused refusal.BadKey) present)
  look_left true present h = refl
  look_left false present h = h

  by_looked : (reply : PlainReply (List ℕ)) (result : Result (List ℕ) Refusal) (t : Plain) → LeftLooked reply
      → Replied reply s result t
      → LookLeaves (plain_setting layout s) key (plain_book s) result (plain_book t)
  by_looked reply (Err refusal.Memory) t left h = ap plain_book h.1
  by_looked reply result t left h =
      let P : Result (List ℕ) Refusal → Type 0 = λ r. LookLeaves (plain_setting layout s) key (plain_book s) r
      (plain_book t) in
      subst P h.0 (rw h.1 left)

  pub look_leaves : (result : Result (List ℕ) Refusal) (t : Plain) → Replied (look_reply layout s key) s result t
      → LookLeaves (plain_setting layout s) key (plain_book s) result (plain_book t)
  look_leaves result t h =
      let present = looked_reply s key (present_value s.entries key) in
      by_looked (look_reply layout s key) result t
      (look_left (not (is_some (unpacked layout key))) present (looked_left (present_value s.entries key))) h

module _ (layout : Layout) (s : Plain) (key : ℕ) (legal : Legal s.passes layout.guard_max s.entries) where
  -- what a get with this reply leaves
  abbrev Left : PlainReply Hold → Type 0
  Left reply = GetLeaves (plain_setting layout s) key (plain_book s) reply.answer (plain_book (with_added s reply.adds))

  left_either : (b : Bool) (x y : PlainReply Hold) → Left x → Left y → Left (cond b x y)
  left_either true x y h k = h
  left_either false x y h k = k

  got_left : (present : Option (List ℕ)) → Left (got_reply layout s key present)
  got_left None = book_added s (Gone s.pass key)
  got_left (Some value) =
      let crowded : PlainReply Hold = record { answer = Err refusal.Crowded; adds = Some (Crowded s.pass key) } in
      let got : PlainReply Hold = record { answer = Ok (record { key = key }); adds = Some (Got s.pass key value) } in
      left_either (nat_le layout.guard_max (holds_on s.entries key)) crowded got (book_added s (Crowded s.pass key)) (
        refl,
        (Known (Got s.pass key value), (refl, refl), book_added s (Got s.pass key value)),
        got_is_held s.passes
            layout.guard_max s.entries s.pass key legal value,
      )

  get_left : Left (get_reply layout s key)
  get_left =
      let present = got_reply layout s key (present_value s.entries key) in
      let full = nat_le 16 (hold_count s.entries s.pass) in
      left_either (not (is_some (unpacked layout key))) (refused refusal.BadKey)
      (cond full (refused refusal.HoldsFull) present) refl
      (left_either full (refused refusal.HoldsFull) present refl (got_left (present_value s.entries key)))

  by_answer : (reply : PlainReply Hold) (result : Result Hold Refusal) (t : Plain) → Left reply → reply.answer ≡ result
      → t ≡ with_added s reply.adds → GetLeaves (plain_setting layout s) key (plain_book s) result (plain_book t)
  by_answer reply result t left is now =
      let P : Result Hold Refusal → Type 0 = λ r. GetLeaves (plain_setting layout s) key (plain_book s) r (plain_book t)
      in
      subst P is (rw now left)

  by_reply : (reply : PlainReply Hold) (result : Result Hold Refusal) (t : Plain) → Left reply
      → Replied reply s result t
      → GetLeaves (plain_setting layout s) key (plain_book s) result (plain_book t)
  by_reply reply (Ok hold) t left h = by_answer reply (Ok hold) t left h.0 h.1
  by_reply reply (Err refusal.Memory) t left h = ap plain_book h.1
  by_reply reply (Err r) t left h = by_answer reply (Err r) t left h.0 h.1

  pub get_leaves : (result : Result Hold Refusal) (t : Plain) → Replied (get_reply layout s key) s result t
      → GetLeaves (plain_setting layout s) key (plain_book s) result (plain_book t)
  get_leaves result t h = by_reply (get_reply layout s key) result t get_left h

  no_holds : (n : ℕ) → nat_lt 0 n ≡ false → n ≡ 0
  no_holds n e = let h = ltb-false 0 n e in omega arith

  read_left : (b : Bool) → nat_lt 0 (holds_by s.entries s.pass key) ≡ b → (o : Option (List ℕ)) → value_of s.entries key
      ≡ o
      → ReadLeaves (plain_setting layout s) key (plain_book s) (ok_or (cond b o None) refusal.NotHeld) (plain_book s)
  read_left true held (Some value) is = (
    rw (known_holds s.entries s.pass key) (ltb-true _ _ held),
    sym (known_filled key value s.entries),
    gets_have_value s.passes layout.guard_max key value [] s.entries legal is,
  )
  read_left true held None is = absurd (held_has_value s.passes layout.guard_max s.entries s.pass key legal
      (ltb-true _ _ held) is)
  read_left false held o is = (rw (known_holds s.entries s.pass key) (no_holds _ held), refl)

  pub read_leaves : (result : Result (List ℕ) Refusal) (t : Plain) → result ≡ read_answer s key → t ≡ s
      → ReadLeaves (plain_setting layout s) key (plain_book s) result (plain_book t)
  read_leaves result t is same =
      let P : Result (List ℕ) Refusal → Type 0 = λ r. ReadLeaves (plain_setting layout s) key (plain_book s) r
      (plain_book t) in
      subst P (sym is) (rw same (read_left (nat_lt 0 (holds_by s.entries s.pass key)) refl (value_of s.entries key)
      refl))
