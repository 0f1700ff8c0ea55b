-- The names of a script: the numbers that they are bound to as they are written, and the keys that these are.
use Rattle.std.proofs.Common.{◌≡◌, ℕ, zero, suc, ◌+◌, ◌*◌, ◌/◌, ◌%◌, ◌^◌, ◌<◌, Bool, cond, List, [], ◌∷◌, ◌++◌}
use Rattle.std.proofs.Common.{refl, ap, sym, ◌∙◌, arith, eq-eqb, slice_get, Option, Some, None, Result}
use Rattle.std.specs.Prelude.{ok_or}
use Rattle.sh_value.specs.declared.refusal.Refusal.TheVariants as refusal
use Rattle.sh_key.specs.Layout.{Layout, first_key, key_count}
use Rattle.sh_script.specs.declared.calls.Reference.{Reference}
use Rattle.sh_script.specs.declared.calls.Reference.TheVariants as reference
use Rattle.sh_script.specs.BoundNames.{name_referred}
use Rattle.script_output.specs.declared.answer.Answer.{Answer}
use Rattle.script_output.specs.declared.answer.Answer.TheVariants as answer
use Rattle.script_output.specs.Keys.{shown, key_shown, HasTagRoom}
use Rattle.script_models.specs.PlainRun.{bound_key}
use Rattle.script_calls.specs.Calls.{key_meant, key_for_name}
use Rattle.script_calls.specs.Runs.{number_bound}

-- a name is bound to this key, written as this number
abbrev pub NameIs : Option ℕ → Option ℕ → Option ℕ → Type 0
NameIs tag None None = Unit {0}
NameIs tag (Some key) (Some number) = key_shown tag number ≡ Some key
NameIs tag _ _ = ⊥

abbrev pub AreNames : Option ℕ → (keys numbers : List (Option ℕ)) → Type 0
AreNames tag [] [] = Unit {0}
AreNames tag [] (n ∷ ns) = ⊥
AreNames tag (k ∷ ks) [] = ⊥
AreNames tag (k ∷ ks) (n ∷ ns) = NameIs tag k n × AreNames tag ks ns

pub one_more_name : (tag : Option ℕ) (keys numbers : List (Option ℕ)) (k n : Option ℕ) → AreNames tag keys numbers
    → NameIs tag k n → AreNames tag (keys ++ k ∷ []) (numbers ++ n ∷ [])
one_more_name tag [] [] k n h is = (is, tt)
one_more_name tag [] (m ∷ ns) k n h is = absurd h
one_more_name tag (j ∷ ks) [] k n h is = absurd h
one_more_name tag (j ∷ ks) (m ∷ ns) k n h is = (h.0, one_more_name tag ks ns k n h.1 is)

same_key : (tag : Option ℕ) (k n : Option ℕ) → NameIs tag k n → bound_key (Some k) ≡ key_for_name tag n
same_key tag None None h = refl
same_key tag (Some key) (Some number) h = sym (ap (λ (o : Option ℕ). ok_or o (answer.Refused refusal.BadKey)) h)
same_key tag None (Some number) h = absurd h
same_key tag (Some key) None h = absurd h

same_name : (tag : Option ℕ) (keys numbers : List (Option ℕ)) (i : ℕ) → AreNames tag keys numbers
    → bound_key (slice_get keys i) ≡ key_for_name tag (number_bound numbers (Some i))
same_name tag [] [] i h = refl
same_name tag [] (m ∷ ns) i h = absurd h
same_name tag (j ∷ ks) [] i h = absurd h
same_name tag (j ∷ ks) (m ∷ ns) zero h = same_key tag j m h.0
same_name tag (j ∷ ks) (m ∷ ns) (suc i) h = same_name tag ks ns i h.1

-- the key that a call is on is the same in both runs
abbrev pub key_by : Option ℕ → List (Option ℕ) → Reference → Result ℕ Answer
key_by tag keys (reference.Key number) = ok_or (key_shown tag number) (answer.Refused refusal.BadKey)
key_by tag keys (reference.Name i) = bound_key (slice_get keys i)

pub same_meant : (tag : Option ℕ) (keys numbers : List (Option ℕ)) (r : Reference) → AreNames tag keys numbers
    → key_by tag keys r ≡ key_meant tag (number_bound numbers (name_referred r)) r
same_meant tag keys numbers (reference.Key number) h = refl
same_meant tag keys numbers (reference.Name i) h = same_name tag keys numbers i h

-- a key of the layout is what its number shows
high : (key tag : ℕ) → key < 2 ^ 52 → (tag * 2 ^ 56 + key) / 2 ^ 52 ≡ tag * 16
high key tag small = omega (arith, small)

low : (key tag : ℕ) → key < 2 ^ 52 → (tag * 2 ^ 56 + key) % 2 ^ 52 ≡ key
low key tag small = omega (arith, small)

pub shown_is : (layout : Layout) (tag : Option ℕ) (key : ℕ) → HasTagRoom layout tag
    → key < first_key layout + key_count layout → key_shown tag (shown tag key) ≡ Some key
shown_is layout None key room small = refl
shown_is layout (Some tag) key room small =
    let fits : key < 2 ^ 52 = omega (arith, room, small) in
    ap (λ (b : Bool). cond b (Some ((tag * 2 ^ 56 + key) % 2 ^ 52)) None)
    (eq-eqb ((tag * 2 ^ 56 + key) / 2 ^ 52) (tag * 16) (high key tag fits))
    ∙ ap (λ (n : ℕ). Some n) (low key tag fits)
