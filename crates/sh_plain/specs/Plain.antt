-- The plain store: it keeps the entries of all its passes, and computes the result of each call from them.
use Rattle.std.specs.Prelude.{◌≡◌, ℕ, ◌+◌, ◌<◌, ◌≤◌, nat_le, nat_lt, not, true, length, List, [], ◌∷◌, ◌++◌, map}
use Rattle.std.specs.Prelude.{Option, Some, None, IsSome, is_some, ok_or, Result, Ok, Err, if◌then◌else◌}
use Rattle.sh_value.specs.declared.hold.Hold.{Hold}
use Rattle.sh_value.specs.declared.refusal.Refusal.{Refusal}
use Rattle.sh_value.specs.declared.refusal.Refusal.TheVariants as refusal
use Rattle.sh_key.specs.Layout.{Layout, unpacked, first_key, key_count}
use Rattle.sh_history.specs.declared.entry.Entry.{Entry}
use Rattle.sh_history.specs.declared.entry.Entry.TheVariants.{Insert, Got, Gone, Crowded, Removed, Released, Seen}
use Rattle.sh_history.specs.declared.log.LogEntry.{LogEntry}
use Rattle.sh_history.specs.declared.log.LogEntry.TheVariants.{Known}
use Rattle.sh_history.specs.History.{Legal, value_of, present_value, insert_count, hold_count, holds_on, holds_by}
use Rattle.sh_plain.specs.Store.{Setting}
use Rattle.sh_plain.specs.declared.index.Issued.{Issued}
use Rattle.sh_plain.specs.declared.index.Held.{Held}
use Rattle.sh_plain.specs.Index.{IsIndex}

-- what a contract sees of a plain store: its entries, the pass whose calls follow, and the number of its passes
pub record Plain : Type 0 where
  pub entries : List Entry
  pub pass : ℕ
  pub passes : ℕ

-- the entries, each of which is known
abbrev pub plain_book : Plain → List LogEntry
plain_book s = map Known s.entries

-- the book of the store has the entries of all its passes
abbrev pub plain_setting : Layout → Plain → Setting
plain_setting layout s =
    record { pass = s.pass; passes = s.passes; guard_max = layout.guard_max; answers_for = λ _. true }

-- ---- what each call returns

-- what a call returns, and the entry that it adds, if it adds one
pub record PlainReply (A : Type 0) : Type 0 where
  pub answer : Result A Refusal
  pub adds : Option Entry

abbrev pub refused : {A : Type 0} → Refusal → PlainReply A
refused r = record { answer = Err r; adds = None }

-- the n-th insert, from 0, gives the n-th key, and no key comes after the last
abbrev pub insert_reply : Layout → Plain → List ℕ → PlainReply ℕ
insert_reply layout s value =
    let n = insert_count s.entries in
    if nat_lt n (key_count layout)
    then record { answer = Ok (first_key layout + n); adds = Some (Insert s.pass (first_key layout + n) value) }
    else refused refusal.Full

-- a get of a key by a pass that has room for a hold, if this is the key's present value
abbrev pub got_reply : Layout → Plain → ℕ → Option (List ℕ) → PlainReply Hold
got_reply layout s key None = record { answer = Err refusal.Gone; adds = Some (Gone s.pass key) }
got_reply layout s key (Some value) =
    if nat_le layout.guard_max (holds_on s.entries key)
    then record { answer = Err refusal.Crowded; adds = Some (Crowded s.pass key) }
    else record { answer = Ok (record { key = key }); adds = Some (Got s.pass key value) }

abbrev pub get_reply : Layout → Plain → ℕ → PlainReply Hold
get_reply layout s key =
    if not (is_some (unpacked layout key)) then refused refusal.BadKey
    else if nat_le 16 (hold_count s.entries s.pass) then refused refusal.HoldsFull
    else got_reply layout s key (present_value s.entries key)

-- the value of the key, if the pass has a hold on it
abbrev pub held_value : Plain → ℕ → Option (List ℕ)
held_value s key = if nat_lt 0 (holds_by s.entries s.pass key) then value_of s.entries key else None

abbrev pub read_answer : Plain → ℕ → Result (List ℕ) Refusal
read_answer s key = ok_or (held_value s key) refusal.NotHeld

-- a look at a key, if this is the key's present value
abbrev pub looked_reply : Plain → ℕ → Option (List ℕ) → PlainReply (List ℕ)
looked_reply s key None = record { answer = Err refusal.Gone; adds = Some (Gone s.pass key) }
looked_reply s key (Some value) = record { answer = Ok value; adds = Some (Seen s.pass key value) }

abbrev pub look_reply : Layout → Plain → ℕ → PlainReply (List ℕ)
look_reply layout s key =
    if not (is_some (unpacked layout key)) then refused refusal.BadKey
    else looked_reply s key (present_value s.entries key)

-- a remove of a key, if this is the key's present value
abbrev pub removed_reply : Plain → ℕ → Option (List ℕ) → PlainReply (Unit {0})
removed_reply s key None = record { answer = Err refusal.Gone; adds = Some (Gone s.pass key) }
removed_reply s key (Some value) = record { answer = Ok tt; adds = Some (Removed s.pass key) }

abbrev pub remove_reply : Layout → Plain → ℕ → PlainReply (Unit {0})
remove_reply layout s key =
    if not (is_some (unpacked layout key)) then refused refusal.BadKey
    else removed_reply s key (present_value s.entries key)

abbrev pub release_reply : Plain → ℕ → PlainReply (Unit {0})
release_reply s key =
    if nat_lt 0 (holds_by s.entries s.pass key) then record { answer = Ok tt; adds = Some (Released s.pass key) }
    else refused refusal.NotHeld

-- ---- when memory may be refused

-- the store with the entry that a call adds
abbrev pub with_added : Plain → Option Entry → Plain
with_added s None = s
with_added s (Some entry) = record s { entries = s.entries ++ entry ∷ [] }

-- the call had this result and added its entry; or its memory for an entry was refused, and nothing changed
abbrev pub Replied : {A : Type 0} → PlainReply A → Plain → Result A Refusal → Plain → Type 0
Replied reply old (Ok x) new = (reply.answer ≡ Ok x) × (new ≡ with_added old reply.adds)
Replied reply old (Err refusal.Memory) new = IsSome reply.adds × (new ≡ old)
Replied reply old (Err r) new = (reply.answer ≡ Err r) × (new ≡ with_added old reply.adds)

-- an entry is added, or its memory was refused and nothing changed
abbrev pub Noted : Entry → Plain → Result (Unit {0}) Refusal → Plain → Type 0
Noted entry old (Ok _) new = new ≡ with_added old (Some entry)
Noted entry old (Err refusal.Memory) new = new ≡ old
Noted entry old (Err _) new = ⊥

-- ---- what is true of each plain store

-- a key of the layout that was not issued
pub record IsNewKey (layout : Layout) (entries : List Entry) (key : ℕ) : Type 0 where
  pub is_key : IsSome (unpacked layout key)
  pub not_issued : value_of entries key ≡ None

-- the entries are a legal history with no more inserts than there are keys, and the index says what they say
pub record IsSound (layout : Layout) (entries : List Entry) (pass passes : ℕ) (issued : List Issued)
    (holds : List Held) : Type 0 where
  pub legal : Legal passes layout.guard_max entries
  pub some_pass : 1 ≤ passes
  pub own : pass < passes
  pub counted : length issued ≡ insert_count entries
  pub room : length issued ≤ key_count layout
  pub index : IsIndex (first_key layout) entries issued holds

-- an entry that leaves the index as it is
abbrev pub IsUnindexed : Entry → Type 0
IsUnindexed (Gone pass key) = Unit {0}
IsUnindexed (Crowded pass key) = Unit {0}
IsUnindexed (Seen pass key value) = Unit {0}
IsUnindexed _ = ⊥
