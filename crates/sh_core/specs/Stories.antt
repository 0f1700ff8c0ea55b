-- What the log says of each key and each hold, against the words and the parts.
use Rattle.std.specs.Prelude.{ℕ, ◌+◌, ◌≡◌, ◌<◌, ◌==◌, true, false, cond, ◌&&◌, ◌||◌, List, [], ◌∷◌, Some, length}
use Rattle.std.specs.Prelude.{slice_get}
use Rattle.sh_history.specs.declared.entry.Entry.{Entry}
use Rattle.sh_history.specs.declared.entry.Entry.TheVariants.{Insert, Got, Removed, Released}
use Rattle.sh_core.specs.Words.{Words}
use Rattle.sh_word.specs.Fields.{Fields, fields_of}
use Rattle.sh_step.specs.Plans.{Plan}
use Rattle.sh_step.specs.Collections.{total, if1}
use Rattle.sh_step.specs.declared.body.Body.{Body}
use Rattle.sh_core.specs.Lists.{times}
use Rattle.sh_core.specs.Worlds.{value_at}

-- the values that were inserted under k, in order
unfoldable pub values : ℕ → List Entry → List (List ℕ)
values k [] = []
values k (Insert a j v ∷ es) = cond (j == k) (v ∷ values k es) (values k es)
values k (_ ∷ es) = values k es

abbrev pub removed_in : ℕ → Entry → ℕ
removed_in k (Removed a j) = if1 (j == k)
removed_in k _ = 0

abbrev pub got_in : ℕ → Entry → ℕ
got_in k (Got a j v) = if1 (j == k)
got_in k _ = 0

abbrev pub released_in : ℕ → Entry → ℕ
released_in k (Released a j) = if1 (j == k)
released_in k _ = 0

abbrev pub removals : ℕ → List Entry → ℕ
removals k es = total (removed_in k) es

abbrev pub gots : ℕ → List Entry → ℕ
gots k es = total (got_in k) es

abbrev pub releases : ℕ → List Entry → ℕ
releases k es = total (released_in k) es

abbrev pub got_by : ℕ → ℕ → Entry → ℕ
got_by a k (Got b j v) = if1 ((b == a) && (j == k))
got_by a k _ = 0

abbrev pub released_by : ℕ → ℕ → Entry → ℕ
released_by a k (Released b j) = if1 ((b == a) && (j == k))
released_by a k _ = 0

abbrev pub gots_by : ℕ → ℕ → List Entry → ℕ
gots_by a k es = total (got_by a k) es

abbrev pub releases_by : ℕ → ℕ → List Entry → ℕ
releases_by a k es = total (released_by a k) es

-- What the log says of a key of generation g, at a slot in the state st whose words hold `now`
pub record Story (st : Fields) (g : ℕ) (vs : List (List ℕ)) (gone : ℕ) (now : List ℕ) : Type 0 where
  pub before : g < st.generation → (length vs ≡ 1) × (gone ≡ 1)
  pub value : g ≡ st.generation → (st.present || st.marked) ≡ true → vs ≡ now ∷ []
  pub fresh : g ≡ st.generation → (st.present || st.marked) ≡ false → vs ≡ []
  pub mark : g ≡ st.generation → gone ≡ if1 st.marked
  pub later : st.generation < g → (vs ≡ []) × (gone ≡ 0)

abbrev pub KeysAgree : Plan → Words → List Entry → Type 0
KeysAgree plan w log = (k : ℕ) (n : Rattle.sh_slots.specs.declared.hand.KeyRef.KeyRef) → plan.keys.unpack k ≡ Some n
    → Story (fields_of (w.state_at n.page n.slot)) n.generation (values k log) (removals k log)
    (value_at w n.page n.slot)

abbrev pub HoldsAgree : List Body → List Entry → Type 0
HoldsAgree ps log = (a : ℕ) (p : Body) → slice_get ps a ≡ Some p → (k : ℕ) → gots_by a k log
    ≡ releases_by a k log + times k p.holds

abbrev pub AllHoldsAgree : List Body → List Entry → Type 0
AllHoldsAgree ps log = (k : ℕ) → gots k log ≡ releases k log + total (λ p. times k p.holds) ps
