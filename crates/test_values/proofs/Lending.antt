-- The books of a store of one key that another pass inserted. This pass knows its own get of the key.
use Rattle.std.proofs.Common.{◌≡◌, ℕ, List, [], ◌∷◌, ◌++◌, ◌<◌, refl, sym, arith}
use Rattle.std.specs.Prelude.{◌==◌}
use Rattle.sh_history.specs.declared.entry.Entry.TheVariants.{Insert, Got, Released}
use Rattle.sh_history.specs.declared.log.LogEntry.{LogEntry}
use Rattle.sh_history.specs.declared.log.LogEntry.TheVariants.{Known, Unread}
use Rattle.sh_history.specs.Log.{IsLegalLog, IsGotBy, logged_holds_by}

-- nothing was asked yet
pub idle_stands : IsLegalLog 2 4 (λ pass. pass == 1) []
idle_stands = record { history = []; legal = tt; agrees = tt }

-- the key's value, which pass 0 inserted, was given and not read yet
pub lent_stands : (value : List ℕ) → IsLegalLog 2 4 (λ pass. pass == 1) (Unread 1 4096 ∷ [])
lent_stands value = record {
  history = Insert 0 4096 value ∷ Got 1 4096 value ∷ [];
  legal = (refl, ((refl, refl), tt));
  agrees = ((value, refl), tt);
}

-- it was read
pub read_stands : (value : List ℕ) → IsLegalLog 2 4 (λ pass. pass == 1) (Known (Got 1 4096 value) ∷ [])
read_stands value = record {
  history = Insert 0 4096 value ∷ Got 1 4096 value ∷ [];
  legal = (refl, ((refl, refl), tt));
  agrees = (refl, tt);
}

-- and the hold was given back
pub returned_stands : (value : List ℕ) → IsLegalLog 2 4 (λ pass. pass == 1)
    (Known (Got 1 4096 value) ∷ Known (Released 1 4096) ∷ [])
returned_stands value = record {
  history = Insert 0 4096 value ∷ Got 1 4096 value ∷ Released 1 4096 ∷ [];
  legal = (refl, ((refl, refl), (omega arith, tt)));
  agrees = (refl, (refl, tt));
}

-- what holds at each stage
pub ruleset stages_stand = (idle_stands, lent_stands, read_stands, returned_stands)

-- giving the key leaves its get, with a value that is open
pub gives_lent : (key : ℕ) (book : List LogEntry) → key ≡ 4096 → book ≡ []
    → (key ≡ key) × ((got : LogEntry) × IsGotBy 1 key got × (Unread 1 4096 ∷ [] ≡ book ++ got ∷ []))
    × (0 < logged_holds_by (Unread 1 4096 ∷ []) 1 key)
gives_lent key book is none = (refl, (Unread 1 4096, (refl, sym is), rw none refl), rw is (omega arith))
