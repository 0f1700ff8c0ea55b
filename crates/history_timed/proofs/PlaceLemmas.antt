-- What a legal order that keeps to the times has at its places.
use Rattle.std.proofs.Common.{◌≡◌, ◌∙◌, ℕ, ◌<◌, true, false, List, ◌++◌, Some, sym, take, inl, inr, arith}
use Rattle.std.proofs.Common.{None, rules}
use Rattle.std.specs.Prelude.{slice_get, IsSome, ◌||◌, nat_eq}
use Rattle.std.specs.List.{Contains}
use Rattle.std.proofs.lemmas.Bool.{true≢false}
use Rattle.std.proofs.lemmas.Bool.Decides.{leb_tells}
use Rattle.std.proofs.lemmas.List.Elements.{All-contains, Contains-append_left, Contains-append_cases}
use Rattle.std.proofs.lemmas.List.Sorted.{IsPermutation-sym, Contains-permutation}
use Rattle.sh_history.specs.declared.entry.Entry.{Entry}
use Rattle.sh_history.specs.declared.entry.Entry.TheVariants.{Insert}
use Rattle.sh_history.specs.History.{Allowed, value_of, is_removed, is_removal_of}
use Rattle.sh_history.proofs.Laws.{some_value}
use Rattle.history_audit.specs.Lines.{is_insert_of}
use Rattle.history_timed.specs.declared.call.Call.{Call}
use Rattle.history_timed.specs.Calls.{MayBe, inserts, uses, removes, finds}
use Rattle.history_timed.specs.Times.{is_ended, ends_before}
use Rattle.history_timed.specs.Orders.{IsOrder, IsLegalOrder}
use Rattle.history_timed.proofs.ListLemmas.{at_place, contained, zip_at, zip_back, in_front, from_front, any_at}
use Rattle.history_timed.proofs.ListLemmas.{any_from}
use Rattle.history_timed.proofs.ListLemmas.{or_cases}
use Rattle.history_timed.proofs.HistoryLemmas.{value_at, none_inserted, allowed_at, uses_present}
use Rattle.history_timed.proofs.HistoryLemmas.{removes_present, insert_said, removal_said, said_removal}

-- a call of an order is one of the calls
pub ordered_is_call : (calls ordered : List Call) (c : Call) → IsOrder calls ordered → Contains ordered c
    → Contains calls c
ordered_is_call calls ordered c order is =
    Contains-permutation (ordered ++ order.left_out) calls c (IsPermutation-sym _ _ order.each_once)
    (Contains-append_left ordered order.left_out c is)

-- a call at a place, with its entry
pub record Here (passes guard_max : ℕ) (ordered : List Call) (history : List Entry) (i : ℕ) (c : Call) : Type 0 where
  pub call_here : slice_get ordered i ≡ Some c
  pub entry : Entry
  pub entry_here : slice_get history i ≡ Some entry
  pub says : MayBe c.said entry
  pub allowed : Allowed passes guard_max (take i history) entry

module _ (passes guard_max : ℕ) (calls ordered : List Call) (history : List Entry)
    (o : IsLegalOrder passes guard_max calls ordered history) where
  pub here : (i : ℕ) (c : Call) → slice_get ordered i ≡ Some c → Here passes guard_max ordered history i c
  here i c is =
      let z = zip_at (λ (x : Call). MayBe x.said) ordered history i c o.says is in
      record {
        call_here = is;
        entry = z.0;
        entry_here = z.1;
        says = z.2;
        allowed = allowed_at passes guard_max history i z.0 o.legal z.1;
      }

  -- a call that ended has a place
  pub place_of : (c : Call) → Contains calls c → is_ended c.times ≡ true
      → (i : ℕ) × Here passes guard_max ordered history i c
  place_of c is ended = elim (Contains-append_cases ordered o.order.left_out c
      (Contains-permutation calls (ordered ++ o.order.left_out) c o.order.each_once is)) [
        | inl stays ↦ (let at = at_place ordered c stays in (at.0, here at.0 c at.1))
        | inr out ↦ absurd (true≢false (sym ended
            ∙ All-contains (λ (d : Call). is_ended d.times ≡ false) o.order.left_out c o.order.unended out))
      ]

  pub is_call : (i : ℕ) (c : Call) → slice_get ordered i ≡ Some c → Contains calls c
  is_call i c is = ordered_is_call calls ordered c o.order (contained ordered i c is)

  -- a call that ended before another began has an earlier place
  pub earlier : (i j : ℕ) (c x : Call) → slice_get ordered i ≡ Some c → slice_get ordered j ≡ Some x
      → ends_before x.times c.times ≡ true → j < i
  earlier i j c x at_i at_j ends = elim (leb_tells i j) [
    | inl above ↦ absurd (true≢false (sym ends ∙ o.order.keeps_times i j c x above.1 at_i at_j))
    | inr less ↦ less.1
  ]

  -- by the entries before a place the key was inserted, or removed, exactly if a call at an earlier place did so
  pub inserted_by : (i j : ℕ) (key : ℕ) (x : Call) → j < i → Here passes guard_max ordered history j x
      → inserts key x.said ≡ true → value_of (take i history) key ≡ None → ⊥
  inserted_by i j key x below at does none = true≢false (
      sym (any_from (is_insert_of key) (take i history) j at.entry
      (in_front history i j at.entry below at.entry_here) (insert_said x.said at.entry key at.says does))
      ∙ none_inserted (take i history) key none)

  pub removed_by : (i j : ℕ) (key : ℕ) (x : Call) → j < i → Here passes guard_max ordered history j x
      → removes key x.said ≡ true → is_removed (take i history) key ≡ true
  removed_by i j key x below at does =
      any_from (is_removal_of key) (take i history) j at.entry
      (in_front history i j at.entry below at.entry_here) (removal_said x.said at.entry key at.says does)

  pub inserter : (i key : ℕ) (value : List ℕ) → value_of (take i history) key ≡ Some value
      → (j : ℕ) × (pass : ℕ) × (x : Call) × (j < i) × (slice_get ordered j ≡ Some x)
      × MayBe x.said (Insert pass key value)
  inserter i key value is =
      let at = value_at (take i history) key value is in
      let front = from_front history i at.0 (Insert at.1 key value) at.2 in
      let z = zip_back (λ (x : Call). MayBe x.said) ordered history at.0 (Insert at.1 key value) o.says front.1 in
      (at.0, at.1, z.0, front.0, z.1, z.2)

  pub remover : (i key : ℕ) → is_removed (take i history) key ≡ true
      → (j : ℕ) × (x : Call) × (j < i) × (slice_get ordered j ≡ Some x) × (removes key x.said ≡ true)
  remover i key is =
      let at = any_at (is_removal_of key) (take i history) is in
      let front = from_front history i at.0 at.1 at.2 in
      let z = zip_back (λ (x : Call). MayBe x.said) ordered history at.0 at.1 o.says front.1 in
      (at.0, z.0, front.0, z.1, said_removal z.0.said at.1 key z.2 at.3)

  -- a call that uses the value, or removes the key, comes behind an insert and before a removal
  pub needs_value : (i key : ℕ) (c : Call) → Here passes guard_max ordered history i c
      → (uses key c.said || removes key c.said) ≡ true
      → IsSome (value_of (take i history) key) × (is_removed (take i history) key ≡ false)
  needs_value i key c at needs = elim (or_cases (uses key c.said) (removes key c.said) needs) [
    | inl used ↦ uses_present passes guard_max (take i history) at.entry key at.allowed c.said at.says used
    | inr removed ↦ removes_present passes guard_max (take i history) at.entry key at.allowed c.said at.says removed
  ]

  -- behind a call that found the key, the key has a value
  pub found_by : (i j : ℕ) (key : ℕ) (x : Call) → j < i → Here passes guard_max ordered history j x
      → finds key x.said ≡ true → value_of (take i history) key ≡ None → ⊥
  found_by i j key x below at found none = elim (or_cases (inserts key x.said) _ found) [
    | inl does ↦ inserted_by i j key x below at does none
    | inr needs ↦ (
        let some = some_value _ (needs_value j key x at needs).0 in
        let by = value_at (take j history) key some.0 some.1 in
        let front = from_front history j by.0 (Insert by.1 key some.0) by.2 in
        let first = front.0 in
        true≢false (
        sym (any_from (is_insert_of key) (take i history) by.0 (Insert by.1 key some.0)
        (in_front history i by.0 (Insert by.1 key some.0) (omega (arith, first, below)) front.1) (same key))
        ∙ none_inserted (take i history) key none))
  ]
    where
      same : (k : ℕ) → nat_eq k k ≡ true
      same k = search rules
