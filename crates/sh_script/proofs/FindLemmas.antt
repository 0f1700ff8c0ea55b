-- The place of a name among those that are bound.
use Rattle.std.proofs.Common.{◌≡◌, ◌≢◌, ℕ, ◌+◌, ◌<◌, zero, suc, Bool, true, false, List, [], ◌∷◌, ◌++◌, length, get_or}
use Rattle.std.proofs.Common.{map, take, slice_get, cond, Option, Some, None, ◌⊎◌, inl, inr, refl, sym, ap, ap₂, ◌∙◌}
use Rattle.std.proofs.Common.{arith}
use Rattle.std.specs.List.{Contains}
use Rattle.std.specs.Str.{bytes_eq}
use Rattle.std.proofs.lemmas.Slice.Eq.{bytes_eq-Decides}
use Rattle.sh_script.specs.Words.{Word}
use Rattle.sh_script.specs.Names.{Binding, binding_of, names_of, find_from}
use Rattle.sh_script.specs.declared.names.Bound.{Bound}
use Rattle.std.proofs.lemmas.List.{length-map, map-append}
use Rattle.std.proofs.lemmas.Option.{same_Some}
use Rattle.sh_script.specs.declared.names.Binder.{Binder}
use Rattle.sh_script.specs.declared.names.Found.{Found}
use Rattle.sh_script.proofs.Steps.{not_both, same_word}

-- ---- equal names

name_test : (x y : Word) → x ≡ y → bytes_eq x y ≡ true
name_test x y e = (bytes_eq-Decides x y).1 e

other_name : (x y : Word) → x ≢ y → bytes_eq x y ≡ false
other_name x y ne = by (bytes_eq x y) refl
  where
    by : (t : Bool) → bytes_eq x y ≡ t → bytes_eq x y ≡ false
    by true e = absurd (ne (same_word x y e))
    by false e = e

differ : (x y : Word) → bytes_eq x y ≡ false → x ≢ y
differ x y e same = not_both _ (name_test x y same) e

-- ---- elements

holds_none : (x : Word) → ¬ Contains [] x
holds_none x h = absurd (omega (arith, h.1))

holds_at : (x y : Word) (xs : List Word) (k : ℕ) → k < length (x ∷ xs) → get_or (x ∷ xs) k y ≡ y → (x ≡ y)
    ⊎ Contains xs y
holds_at x y xs zero lt e = inl e
holds_at x y xs (suc k) lt e = inr (k, omega (arith, lt), e)

holds_cases : (x y : Word) (xs : List Word) → Contains (x ∷ xs) y → (x ≡ y) ⊎ Contains xs y
holds_cases x y xs h = holds_at x y xs h.0 h.1 h.2

holds_first : (x y : Word) (xs : List Word) → x ≡ y → Contains (x ∷ xs) y
holds_first x y xs e = (zero, omega arith, e)

holds_later : (x y : Word) (xs : List Word) → Contains xs y → Contains (x ∷ xs) y
holds_later x y xs h = (suc h.0, omega (arith, h.1), h.2)

-- ---- the first place

abbrev pub found_at : ℕ → Binder → Found
found_at n by = record { place = n; by = by }

abbrev pub bound_as : Word → Binder → Binding
bound_as name by = record { name = name; by = by }

pub record IsFound (names : List Binding) (name : Word) (n : ℕ) (f : Found) : Type 0 where
  pub index : ℕ
  pub place : f.place ≡ n + index
  pub stands : slice_get names index ≡ Some (bound_as name f.by)
  pub first : ¬ Contains (names_of (take index names)) name

pub find_is : (names : List Binding) (n : ℕ) (name : Word) (f : Found) → find_from n names name ≡ Some f
    → IsFound names name n f
find_is [] n name f e = cc
find_is (b ∷ bs) n name f e = by (find_is bs (n + 1) name f) (bytes_eq b.name name) refl e
  where
    by : (find_from (n + 1) bs name ≡ Some f → IsFound bs name (n + 1) f) → (t : Bool) → bytes_eq b.name name ≡ t
        → cond t (Some (found_at n b.by)) (find_from (n + 1) bs name) ≡ Some f → IsFound (b ∷ bs) name n f
    by next true h e =
        let same : found_at n b.by ≡ f = same_Some (found_at n b.by) f e in
        let here : n ≡ n + 0 = omega arith in
        record {
          index = zero;
          place = sym (ap (λ (x : Found). x.place) same) ∙ here;
          stands = ap₂ (λ (x : Word) (y : Binder). Some (bound_as x y)) (same_word b.name name h)
              (ap (λ (x : Found). x.by) same);
          first = holds_none name;
        }
    by next false h e =
        let r = next e in
        let on : (n + 1) + r.index ≡ n + suc r.index = omega arith in
        record {
          index = suc r.index;
          place = r.place ∙ on;
          stands = r.stands;
          first = λ w. elim (holds_cases b.name name (names_of (take r.index bs)) w)
              [ inl same ↦ differ _ _ h same | inr later ↦ r.first later ];
        }

pub find_none : (names : List Binding) (n : ℕ) (name : Word) → find_from n names name ≡ None
    → ¬ Contains (names_of names) name
find_none [] n name e = holds_none name
find_none (b ∷ bs) n name e = by (find_none bs (n + 1) name) (bytes_eq b.name name) refl e
  where
    by : (find_from (n + 1) bs name ≡ None → ¬ Contains (names_of bs) name) → (t : Bool) → bytes_eq b.name name ≡ t
        → cond t (Some (found_at n b.by)) (find_from (n + 1) bs name) ≡ None → ¬ Contains (names_of (b ∷ bs)) name
    by next true h e = cc
    by next false h e = λ w. elim (holds_cases b.name name (names_of bs) w)
        [ inl same ↦ differ _ _ h same | inr later ↦ next e later ]

pub find_gives : (names : List Binding) (n i : ℕ) (name : Word) (by : Binder) → slice_get names i
    ≡ Some (bound_as name by) → ¬ Contains (names_of (take i names)) name
    → find_from n names name ≡ Some (found_at (n + i) by)
find_gives [] n i name by stands first = cc
find_gives (b ∷ bs) n zero name by stands first =
    let same : b ≡ bound_as name by = same_Some b (bound_as name by) stands in
    let here : n ≡ n + 0 = omega arith in
    rw (name_test b.name name (ap (λ (x : Binding). x.name) same))
    (ap₂ (λ (k : ℕ) (y : Binder). Some (found_at k y)) here (ap (λ (x : Binding). x.by) same))
find_gives (b ∷ bs) n (suc i) name by stands first =
    let on : (n + 1) + i ≡ n + suc i = omega arith in
    rw (other_name b.name name (λ same. first (holds_first b.name name (names_of (take i bs)) same)))
    (find_gives bs (n + 1) i name by stands (λ later. first (holds_later b.name name (names_of (take i bs)) later))
    ∙ ap (λ k. Some (found_at k by)) on)

pub find_gives_none : (names : List Binding) (n : ℕ) (name : Word) → ¬ Contains (names_of names) name
    → find_from n names name ≡ None
find_gives_none [] n name absent = refl
find_gives_none (b ∷ bs) n name absent =
    rw (other_name b.name name (λ same. absent (holds_first b.name name (names_of bs) same)))
    (find_gives_none bs (n + 1) name (λ later. absent (holds_later b.name name (names_of bs) later)))

-- ---- one name more

if_none : {A : Type 0} (t : Bool) (x : A) (o : Option A) → cond t (Some x) o ≡ None → (t ≡ false) × (o ≡ None)
if_none true x o e = cc
if_none false x o e = (refl, e)

abbrev pub or_new : Word → Found → Option Found → Word → Option Found
or_new name f old q = cond (bytes_eq name q) (Some f) old

push_cons : (x b : Binding) (xs : List Binding) (n : ℕ) (q : Word) → bytes_eq x.name b.name ≡ false
    → find_from (n + 1) (xs ++ b ∷ []) q ≡ or_new b.name (found_at ((n + 1) + length xs) b.by) (find_from (n + 1) xs q)
    q → (t : Bool) → bytes_eq x.name q ≡ t
    → find_from n (x ∷ (xs ++ b ∷ [])) q ≡ or_new b.name (found_at (n + length (x ∷ xs)) b.by) (find_from n (x ∷ xs) q)
    q
push_cons x b xs n q apart next true e =
    let other : bytes_eq b.name q ≡ false = other_name b.name q
    (λ same. differ _ _ apart (same_word x.name q e ∙ sym same)) in
    rw (e, other) refl
push_cons x b xs n q apart next false e =
    let on : (n + 1) + length xs ≡ n + length (x ∷ xs) = omega arith in
    rw (e, next) (ap (λ k. or_new b.name (found_at k b.by) (find_from (n + 1) xs q) q) on)

pub find_push : (names : List Binding) (n : ℕ) (b : Binding) (q : Word) → find_from n names b.name ≡ None
    → find_from n (names ++ b ∷ []) q ≡ or_new b.name (found_at (n + length names) b.by) (find_from n names q) q
find_push [] n b q h = let here : n ≡ n + 0 = omega arith in ap (λ k. or_new b.name (found_at k b.by) None q) here
find_push (x ∷ xs) n b q h =
    let apart = if_none _ _ _ h in
    push_cons x b xs n q apart.0 (find_push xs (n + 1) b q apart.1) (bytes_eq x.name q) refl

-- the same for a list that grew, and for what a map found in it before and finds in it now
pub grown_finds : (old new : List Bound) (b : Bound) (place : ℕ) (q : Word) (before now : Option Found) → new ≡ old
    ++ b ∷ [] → place ≡ length old → find_from 0 (map binding_of old) b.name.now ≡ None
    → before ≡ find_from 0 (map binding_of old) q → now ≡ or_new b.name.now (found_at place b.by) before q → now
    ≡ find_from 0 (map binding_of new) q
grown_finds old new b place q before now grown at fresh was is =
    let names : List Binding = map binding_of old in
    let same_length : length names ≡ length old = length-map old binding_of in
    let slot_ref : place ≡ 0 + length names = omega arith in
    let more : map binding_of new ≡ names ++ binding_of b ∷ [] = ap (map binding_of) grown
    ∙ map-append binding_of old (b ∷ []) in
    is ∙ ap (λ o. or_new b.name.now (found_at place b.by) o q) was
    ∙ ap (λ k. or_new b.name.now (found_at k b.by) (find_from 0 names q) q) slot_ref
    ∙ sym (ap (λ ns. find_from 0 ns q) more ∙ find_push names 0 (binding_of b) q fresh)
