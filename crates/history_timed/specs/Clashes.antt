-- Lines that no legal order which keeps to the times can have.
use Rattle.std.specs.Prelude.{◌≡◌, ◌≢◌, ℕ, ◌+◌, ◌-◌, ◌≤◌, ◌⊎◌, ◌==◌, ◌&&◌, ◌||◌, not, Bool, true, false, List, Option}
use Rattle.std.specs.Prelude.{Some}
use Rattle.std.specs.Prelude.{None, count_by, option_map}
use Rattle.std.specs.List.{Contains, list_all, list_any, find}
use Rattle.std.specs.Str.{bytes_eq}
use Rattle.sh_history.specs.declared.entry.Entry.TheVariants.{Insert, Gone, Crowded, Released}
use Rattle.sh_history.specs.declared.checker.Why.{Why}
use Rattle.sh_history.specs.declared.checker.Why.TheVariants as why
use Rattle.history_audit.specs.declared.clash.Clash.{Clash}
use Rattle.history_timed.specs.declared.call.Call.{Call}
use Rattle.history_timed.specs.declared.call.Said.{Said}
use Rattle.history_timed.specs.declared.call.Said.TheVariants.{Known}
use Rattle.history_timed.specs.Calls.{key_said, inserts, uses, returned, removes, finds, gets, releases, gets_by}
use Rattle.history_timed.specs.Calls.{releases_by}
use Rattle.history_timed.specs.Times.{is_ended, ends_before}

-- a call of this line is as wanted
abbrev pub AtLine : List Call → Option ℕ → (Call → Type 0) → Type 0
AtLine calls None Wanted = ⊥
AtLine calls (Some line) Wanted = (other : Call) × Contains calls other × (other.line ≡ line) × Wanted other

-- the line of the first call that passes the test
abbrev pub first_line : (Call → Bool) → List Call → Option ℕ
first_line test calls = option_map (λ (o : Call). o.line) (find test calls)

-- of another line, and ended, so that no order leaves it out
pub record IsAnother (call other : Call) : Type 0 where
  pub line : other.line ≢ call.line
  pub ended : is_ended other.times ≡ true

abbrev pub is_another : Call → Call → Bool
is_another call other = not (other.line == call.line) && is_ended other.times

-- two inserts of one key
pub record IsInsertedTwice (calls : List Call) (key : ℕ) (call : Call) (by : Option ℕ) : Type 0 where
  pub says : inserts key call.said ≡ true
  pub other : AtLine calls by (λ o. (inserts key o.said ≡ true) × IsAnother call o)

-- a call found the key before each call that inserted it began
pub record IsNeverIssued (calls : List Call) (key : ℕ) (call : Call) (by : Option ℕ) : Type 0 where
  pub says : (uses key call.said || removes key call.said) ≡ true
  pub none : list_all (λ (o : Call). not (inserts key o.said) || ends_before call.times o.times) calls ≡ true
  pub lacks_other : by ≡ None

-- what is said inserted the key with this value
abbrev pub inserts_value : ℕ → List ℕ → Said → Bool
inserts_value key value (Known (Insert pass k v)) = (k == key) && bytes_eq v value
inserts_value key value _ = false

-- a get or a look of a value with which no call inserted the key
pub record HasNoSuchInsert (calls : List Call) (key : ℕ) (call : Call) (by : Option ℕ) : Type 0 where
  pub value : List ℕ
  pub says : returned key call.said ≡ Some value
  pub none : list_all (λ (o : Call). not (inserts_value key value o.said)) calls ≡ true
  pub other : AtLine calls by (λ o. inserts key o.said ≡ true)

-- a call used the key's value, and began after one had ended that removed the key; or two calls removed it
abbrev pub IsUsedLate : List Call → (key : ℕ) → Call → Option ℕ → Type 0
IsUsedLate calls key call by =
    (uses key call.said ≡ true)
    × AtLine calls by (λ o. (removes key o.said ≡ true) × (ends_before o.times call.times ≡ true))

abbrev pub IsRemovedTwice : List Call → (key : ℕ) → Call → Option ℕ → Type 0
IsRemovedTwice calls key call by =
    (removes key call.said ≡ true) × AtLine calls by (λ o. (removes key o.said ≡ true) × IsAnother call o)

abbrev pub IsOfRemoved : List Call → (key : ℕ) → Call → Option ℕ → Type 0
IsOfRemoved calls key call by = IsUsedLate calls key call by ⊎ IsRemovedTwice calls key call by

-- no call that removed the key began before this one ended, or one that used its value began after that
abbrev pub StaysThere : List Call → (key : ℕ) → Call → Type 0
StaysThere calls key call =
    (list_all (λ (o : Call). not (removes key o.said) || ends_before call.times o.times) calls ≡ true)
    ⊎ (list_any (λ (o : Call). uses key o.said && (ends_before call.times o.times && is_ended o.times)) calls ≡ true)

-- a key is called gone, though a call that found it ended before, and it was not removed by then
pub record IsNotGone (calls : List Call) (key : ℕ) (call : Call) (by : Option ℕ) : Type 0 where
  pub pass : ℕ
  pub says : call.said ≡ Known (Gone pass key)
  pub found : AtLine calls by (λ o. (finds key o.said ≡ true) × (ends_before o.times call.times ≡ true))
  pub stays : StaysThere calls key call

-- how many of these calls may have come before the call, and how many must have
abbrev pub most_before : (Said → Bool) → List Call → Call → ℕ
most_before test calls call = count_by (λ (o : Call). test o.said && not (ends_before call.times o.times)) calls

abbrev pub least_before : (Said → Bool) → List Call → Call → ℕ
least_before test calls call = count_by (λ (o : Call). test o.said && ends_before o.times call.times) calls

-- a release of a key of which the pass had given back all holds that it may have got
pub record IsHeldByNone (calls : List Call) (key : ℕ) (call : Call) (by : Option ℕ) : Type 0 where
  pub pass : ℕ
  pub says : call.said ≡ Known (Released pass key)
  pub few : most_before (gets_by pass key) calls call ≤ least_before (releases_by pass key) calls call
  pub lacks_other : by ≡ None

-- a key is called crowded with so few holds, at most, that all passes on their way could not fill it
pub record IsUncrowded (passes guard_max : ℕ) (calls : List Call) (key : ℕ) (call : Call) (by : Option ℕ) : Type 0 where
  pub pass : ℕ
  pub says : call.said ≡ Known (Crowded pass key)
  pub few : most_before (gets key) calls call - least_before (releases key) calls call + passes ≤ guard_max
  pub lacks_other : by ≡ None

-- the call cannot be in a legal order, for this reason, and clashes with the call of this line, if with one
abbrev pub ClashesOn : (passes guard_max : ℕ) → List Call → (key : ℕ) → Call → Why → Option ℕ → Type 0
ClashesOn passes guard_max calls key call why.NotNew by = IsInsertedTwice calls key call by
ClashesOn passes guard_max calls key call why.NotIssued by = IsNeverIssued calls key call by
ClashesOn passes guard_max calls key call why.OtherValue by = HasNoSuchInsert calls key call by
ClashesOn passes guard_max calls key call why.AfterRemoval by = IsOfRemoved calls key call by
ClashesOn passes guard_max calls key call why.StillThere by = IsNotGone calls key call by
ClashesOn passes guard_max calls key call why.NotCrowded by = IsUncrowded passes guard_max calls key call by
ClashesOn passes guard_max calls key call why.NotHeld by = IsHeldByNone calls key call by

-- the same of the key that it is on. It ended, so that no order leaves it out
pub record IsClash (passes guard_max : ℕ) (calls : List Call) (call : Call) (why : Why) (by : Option ℕ) : Type 0 where
  pub ended : is_ended call.times ≡ true
  pub clashes : ClashesOn passes guard_max calls (key_said call.said) call why by

-- what is answered is a clash for this reason with a line for which the fact holds; or it holds for no line
abbrev pub IsAnswer : Why → (Option ℕ → Type 0) → Option Clash → Type 0
IsAnswer why Clashing None = (by : Option ℕ) → ¬ Clashing by
IsAnswer why Clashing (Some clash) = (clash.why ≡ why) × Clashing clash.by

-- the call clashes with no call of its key for this reason, or for none
abbrev pub ClashesForNone : (passes guard_max : ℕ) → List Call → Call → Why → Type 0
ClashesForNone passes guard_max calls call why = (by : Option ℕ) → ¬ IsClash passes guard_max calls call why by

abbrev pub ClashesWithNone : (passes guard_max : ℕ) → List Call → Call → Type 0
ClashesWithNone passes guard_max calls call = (why : Why) → ClashesForNone passes guard_max calls call why

abbrev pub IsAnyAnswer : (passes guard_max : ℕ) → List Call → Call → Option Clash → Type 0
IsAnyAnswer passes guard_max calls call None = ClashesWithNone passes guard_max calls call
IsAnyAnswer passes guard_max calls call (Some clash) = IsClash passes guard_max calls call clash.why clash.by
