-- If lines clash, no order that keeps to the times is legal.
use Rattle.std.proofs.Common.{◌≡◌, ◌≢◌, ◌∙◌, ℕ, ◌<◌, ◌≤◌, true, List, Option, Some, None, refl, sym, subst, ap}
use Rattle.std.proofs.Common.{take, inl, inr, arith, rules}
use Rattle.std.specs.Prelude.{slice_get, is_some, ◌⊎◌, not}
use Rattle.std.specs.List.{Contains}
use Rattle.std.proofs.lemmas.Bool.{true≢false, and_parts}
use Rattle.std.proofs.lemmas.Bool.Decides.{leb_tells}
use Rattle.sh_history.specs.declared.checker.Why.{Why}
use Rattle.sh_history.specs.declared.checker.Why.TheVariants.{NotNew, NotIssued, OtherValue, AfterRemoval, StillThere}
use Rattle.sh_history.specs.declared.checker.Why.TheVariants.{NotCrowded, NotHeld}
use Rattle.sh_history.specs.declared.entry.Entry.{Entry}
use Rattle.sh_history.specs.declared.entry.Entry.TheVariants.{Insert, Gone, Crowded, Released}
use Rattle.sh_history.specs.History.{Allowed, is_removed, holds_by, is_got_by, is_got_of, is_release_by, is_release_of}
use Rattle.sh_history.proofs.Laws.{some_value}
use Rattle.history_timed.specs.declared.call.Call.{Call}
use Rattle.history_timed.specs.declared.call.Said.{Said}
use Rattle.history_timed.specs.declared.call.Said.TheVariants.{Known, Unread}
use Rattle.history_timed.specs.Calls.{MayBe, key_said, inserts, gets, releases, gets_by, releases_by}
use Rattle.history_timed.specs.Times.{is_ended, is_below, ends_before}
use Rattle.history_timed.specs.Orders.{IsLegalOrder, HasLegalOrder}
use Rattle.history_timed.specs.Clashes.{AtLine, IsInsertedTwice, IsNeverIssued, HasNoSuchInsert, IsUsedLate}
use Rattle.history_timed.specs.Clashes.{IsRemovedTwice, IsNotGone, IsHeldByNone, IsUncrowded, ClashesOn, IsClash}
use Rattle.history_timed.specs.Clashes.{inserts_value, StaysThere}
use Rattle.history_timed.proofs.ListLemmas.{any_at, all_holds, contained, not_first}
use Rattle.history_timed.proofs.HistoryLemmas.{inserts_new, uses_present, returns_inserted, removes_present}
use Rattle.history_timed.proofs.PlaceLemmas.{Here, here, place_of, is_call, earlier, inserted_by, removed_by, inserter}
use Rattle.history_timed.proofs.PlaceLemmas.{remover, needs_value, found_by}
use Rattle.history_timed.proofs.CountLemmas.{most_is_most, least_is_least, got_by_said, got_said, released_by_said}
use Rattle.history_timed.proofs.CountLemmas.{released_said}

-- a call that ended before another began has ended
ended_before : (x c : Call) → ends_before x.times c.times ≡ true → is_ended x.times ≡ true
ended_before x c = go x.times.end where
  go : (end : Option ℕ) → is_below end c.times.begin ≡ true → is_some end ≡ true
  go None e = e
  go (Some n) e = refl

-- the call at a line, if there is one
at_line : (calls : List Call) (by : Option ℕ) (Wanted : Call → Type 0) → AtLine calls by Wanted
    → (x : Call) × Contains calls x × Wanted x
at_line calls None Wanted at = absurd at
at_line calls (Some line) Wanted at = (at.0, at.1, at.3)

said_insert : (s : Said) (pass key : ℕ) (value : List ℕ) → MayBe s (Insert pass key value)
    → (inserts key s ≡ true) × (inserts_value key value s ≡ true)
said_insert (Known e) pass key value is = rw (← is) (search rules, search rules)
said_insert (Unread p k) pass key value is = absurd (let no : ⊥ = (let e = is.1 in cc) in no)

module _ (passes guard_max : ℕ) (calls ordered : List Call) (history : List Entry)
    (o : IsLegalOrder passes guard_max calls ordered history) (key : ℕ) (c : Call) (by : Option ℕ) (i : ℕ)
    (at : Here passes guard_max ordered history i c) where
  abbrev At : ℕ → Call → Type 0
  At = Here passes guard_max ordered history

  -- another call has another place
  apart : (x : Call) (j : ℕ) → At j x → x.line ≢ c.line → i ≢ j
  apart x j there other same = other (line x c (sym there.call_here ∙ ap (slice_get ordered) (sym same) ∙ at.call_here))
    where
      line : (a b : Call) → Some a ≡ Some b → a.line ≡ b.line
      line a b e = cc

  before_or_behind : (j : ℕ) → i ≢ j → (i < j) ⊎ (j < i)
  before_or_behind j ne = elim (leb_tells i j) [ inl h ↦ inl (first h.1) | inr h ↦ inr h.1 ] where
    first : i ≤ j → i < j
    first le = omega arith

  no_second_insert : IsInsertedTwice calls key c by → ⊥
  no_second_insert is =
      let x = at_line calls by _ is.other in
      let j = place_of passes guard_max calls ordered history o x.0 x.1 x.2.1.ended in
      elim (before_or_behind j.0 (apart x.0 j.0 j.1 x.2.1.line)) [
        | inl first ↦ inserted_by passes guard_max calls ordered history o j.0 i key c first at is.says
            (inserts_new passes guard_max (take j.0 history) j.1.entry key j.1.allowed x.0.said j.1.says x.2.0)
        | inr last ↦ inserted_by passes guard_max calls ordered history o i j.0 key x.0 last j.1 x.2.0
            (inserts_new passes guard_max (take i history) at.entry key at.allowed c.said at.says is.says)
      ]

  -- the call that inserted the key with its value, before a call that needs the value
  not_unissued : IsNeverIssued calls key c by → ⊥
  not_unissued is =
      let some = some_value _ (needs_value passes guard_max calls ordered history o i key c at is.says).0 in
      let x = inserter passes guard_max calls ordered history o i key some.0 some.1 in
      let call = is_call passes guard_max calls ordered history o x.0 x.2 x.4 in
      let behind = not_first _ _ (all_holds _ calls x.2 is.none call)
      (said_insert x.2.said x.1 key some.0 x.5).0 in
      let after = earlier passes guard_max calls ordered history o x.0 i x.2 c x.4 at.call_here behind in
      let first = x.3 in
      omega (arith, after, first)

  no_other_value : HasNoSuchInsert calls key c by → ⊥
  no_other_value is =
      let issued = returns_inserted passes guard_max (take i history) at.entry key at.allowed is.value c.said
      at.says is.says in
      let x = inserter passes guard_max calls ordered history o i key is.value issued in
      let call = is_call passes guard_max calls ordered history o x.0 x.2 x.4 in
      true≢false (sym (all_holds _ calls x.2 is.none call)
      ∙ ap not (said_insert x.2.said x.1 key is.value x.5).1)

  not_used_late : IsUsedLate calls key c by → ⊥
  not_used_late is =
      let x = at_line calls by _ is.1 in
      let j = place_of passes guard_max calls ordered history o x.0 x.1 (ended_before x.0 c x.2.1) in
      let first = earlier passes guard_max calls ordered history o i j.0 c x.0 at.call_here j.1.call_here x.2.1 in
      true≢false (sym (removed_by passes guard_max calls ordered history o i j.0 key x.0 first j.1 x.2.0)
      ∙ (uses_present passes guard_max (take i history) at.entry key at.allowed c.said at.says is.0).1)

  not_removed_twice : IsRemovedTwice calls key c by → ⊥
  not_removed_twice is =
      let x = at_line calls by _ is.1 in
      let j = place_of passes guard_max calls ordered history o x.0 x.1 x.2.1.ended in
      elim (before_or_behind j.0 (apart x.0 j.0 j.1 x.2.1.line)) [
        | inl first ↦ true≢false (
            sym (removed_by passes guard_max calls ordered history o j.0 i key c first at is.0)
            ∙ (removes_present passes guard_max (take j.0 history) j.1.entry key j.1.allowed x.0.said j.1.says x.2.0).1)
        | inr last ↦ true≢false (
            sym (removed_by passes guard_max calls ordered history o i j.0 key x.0 last j.1 x.2.0)
            ∙ (removes_present passes guard_max (take i history) at.entry key at.allowed c.said at.says is.0).1)
      ]

  -- no call that removed the key can come before this one
  stays_there : StaysThere calls key c → is_removed (take i history) key ≡ true → ⊥
  stays_there (inl later) removed =
      let x = remover passes guard_max calls ordered history o i key removed in
      let call = is_call passes guard_max calls ordered history o x.0 x.1 x.3 in
      let behind = not_first _ _ (all_holds _ calls x.1 later call) x.4 in
      let after = earlier passes guard_max calls ordered history o x.0 i x.1 c x.3 at.call_here behind in
      let first = x.2 in
      omega (arith, after, first)
  stays_there (inr used) removed =
      let x = remover passes guard_max calls ordered history o i key removed in
      let y = any_at _ calls used in
      let used_then = and_parts _ _ y.3 in
      let times = and_parts _ _ used_then.1 in
      let j = place_of passes guard_max calls ordered history o y.1 (contained calls y.0 y.1 y.2) times.1 in
      let after = earlier passes guard_max calls ordered history o j.0 i y.1 c j.1.call_here at.call_here times.0 in
      let first = x.2 in
      true≢false (
      sym (removed_by passes guard_max calls ordered history o j.0 x.0 key x.1 (omega (arith, after, first))
      (here passes guard_max calls ordered history o x.0 x.1 x.3) x.4)
      ∙ (uses_present passes guard_max (take j.0 history) j.1.entry key j.1.allowed y.1.said j.1.says used_then.0).1)

  not_gone : IsNotGone calls key c by → ⊥
  not_gone is =
      let e : at.entry ≡ Gone is.pass key = subst (λ (s : Said). MayBe s at.entry) is.says at.says in
      let may : Allowed passes guard_max (take i history) (Gone is.pass key) =
      subst (Allowed passes guard_max (take i history)) e at.allowed in
      let x = at_line calls by _ is.found in
      let j = place_of passes guard_max calls ordered history o x.0 x.1 (ended_before x.0 c x.2.1) in
      let first = earlier passes guard_max calls ordered history o i j.0 c x.0 at.call_here j.1.call_here x.2.1 in
      elim may [
        | inl none ↦ found_by passes guard_max calls ordered history o i j.0 key x.0 first j.1 x.2.0 none
        | inr removed ↦ stays_there is.stays removed
      ]

  not_held : IsHeldByNone calls key c by → ⊥
  not_held is =
      let e : at.entry ≡ Released is.pass key = subst (λ (s : Said). MayBe s at.entry) is.says at.says in
      let may : 0 < holds_by (take i history) is.pass key =
      subst (Allowed passes guard_max (take i history)) e at.allowed in
      let got = most_is_most passes guard_max calls ordered history o i c at.call_here (gets_by is.pass key)
      (is_got_by is.pass key) (got_by_said is.pass key) in
      let released = least_is_least passes guard_max calls ordered history o i c at.call_here
      (releases_by is.pass key) (is_release_by is.pass key) (released_by_said is.pass key) in
      let few = is.few in
      omega (arith, may, got, released, few)

  not_crowded : IsUncrowded passes guard_max calls key c by → ⊥
  not_crowded is =
      let e : at.entry ≡ Crowded is.pass key = subst (λ (s : Said). MayBe s at.entry) is.says at.says in
      let may : Allowed passes guard_max (take i history) (Crowded is.pass key) =
      subst (Allowed passes guard_max (take i history)) e at.allowed in
      let many = may.2 in
      let got = most_is_most passes guard_max calls ordered history o i c at.call_here (gets key)
      (is_got_of key) (got_said key) in
      let released = least_is_least passes guard_max calls ordered history o i c at.call_here (releases key)
      (is_release_of key) (released_said key) in
      let few = is.few in
      omega (arith, many, got, released, few)

  no_clash : (why : Why) → ClashesOn passes guard_max calls key c why by → ⊥
  no_clash NotNew is = no_second_insert is
  no_clash NotIssued is = not_unissued is
  no_clash OtherValue is = no_other_value is
  no_clash AfterRemoval (inl late) = not_used_late late
  no_clash AfterRemoval (inr twice) = not_removed_twice twice
  no_clash StillThere is = not_gone is
  no_clash NotCrowded is = not_crowded is
  no_clash NotHeld is = not_held is

pub none_legal : (passes guard_max : ℕ) (calls : List Call) (c : Call) (why : Why) (by : Option ℕ)
    → Contains calls c → IsClash passes guard_max calls c why by → HasLegalOrder passes guard_max calls → ⊥
none_legal passes guard_max calls c why by is clash order =
    let o = order.2 in
    let i = place_of passes guard_max calls order.0 order.1 o c is clash.ended in
    no_clash passes guard_max calls order.0 order.1 o (key_said c.said) c by i.0 i.1 why clash.clashes
