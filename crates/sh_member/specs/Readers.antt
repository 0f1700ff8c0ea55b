-- What the calls do that end what they begin.
use Rattle.std.specs.Prelude.{ℕ, ◌+◌, ◌<◌, ◌≤◌, ◌⊎◌, List, [], ◌∷◌, length, Result, Ok, Err}
use Rattle.sh_history.specs.declared.entry.Entry.TheVariants as entry
use Rattle.sh_history.specs.declared.log.LogEntry.TheVariants.{Known}
use Rattle.sh_key.specs.Layout.{Layout}
use Rattle.sh_value.specs.declared.refusal.Refusal.{Refusal}
use Rattle.sh_value.specs.declared.refusal.Refusal.TheVariants as refusal
use Rattle.sh_pass.specs.Passes.{Caller, GetDoes}
use Rattle.sh_pass.specs.Fetching.{MayGet, ReadsAndAdds, GetsAndReads, FetchDoes}

-- a fetch whose value was passed to a call that returned this, or that is refused
abbrev pub WithDoes : {T : Type 0} → (gives : List ℕ → T → Type 0) → Layout → ℕ → Caller → Result T Refusal → Caller
    → Type 0
WithDoes gives layout key v (Ok given) w = (value : List ℕ) × FetchDoes layout key v (Ok value) w × gives value given
WithDoes gives layout key v (Err why) w = FetchDoes layout key v (Err why) w

-- the key was got, another had removed it, and it was released
abbrev pub ComesLate : Layout → ℕ → Caller → Caller → Type 0
ComesLate layout key v w = MayGet layout key v × ((value : List ℕ) × ReadsAndAdds key value
    (Known (entry.Got v.view.pass key value) ∷ Known (entry.Gone v.view.pass key)
    ∷ Known (entry.Released v.view.pass key) ∷ []) (length value + 17) v w)

-- a take got, removed, read and released the key, or is refused as the get is, or another removed the key first
abbrev pub TakeDoes : Layout → ℕ → Caller → Result (List ℕ) Refusal → Caller → Type 0
TakeDoes layout key v (Ok value) w =
    MayGet layout key v × ReadsAndAdds key value
    (Known (entry.Got v.view.pass key value) ∷ Known (entry.Removed v.view.pass key)
    ∷ Known (entry.Released v.view.pass key) ∷ []) (length value + 17) v w
TakeDoes layout key v (Err refusal.Gone) w = GetDoes layout key v (Err refusal.Gone) w ⊎ ComesLate layout key v w
TakeDoes layout key v (Err why) w = GetDoes layout key v (Err why) w

-- a take of a value that has at most `most` words; a longer one is read, and its key is not removed
abbrev pub TakeFitsDoes : Layout → (key most : ℕ) → Caller → Result (List ℕ) Refusal → Caller → Type 0
TakeFitsDoes layout key most v (Ok value) w = ((length value ≤ most) × TakeDoes layout key v (Ok value) w)
    ⊎ ((most < length value) × GetsAndReads layout key v (Ok value) w)
TakeFitsDoes layout key most v (Err why) w = TakeDoes layout key v (Err why) w

-- the same into a value of the caller's
abbrev pub TakeIntoDoes : Layout → (key most : ℕ) → Caller → Result (Unit {0}) Refusal → (after : List ℕ) → Caller
    → Type 0
TakeIntoDoes layout key most v (Ok _) after w = TakeFitsDoes layout key most v (Ok after) w
TakeIntoDoes layout key most v (Err why) after w = TakeFitsDoes layout key most v (Err why) w
