-- What one word changes.
use Rattle.std.proofs.Common.{◌≡◌, ◌≢◌, ℕ, ◌+◌, ◌<◌, ◌==◌, Bool, true, false, cond, List, [], ◌∷◌, ◌++◌, get_or, refl}
use Rattle.std.proofs.Common.{sym, ap, ◌∙◌, ◌≤◌, inl, inr, eq-eqb, ne_eqb, arith}
use Rattle.std.specs.Prelude.{nat_lt}
use Rattle.std.specs.List.{All, filter}
use Rattle.std.proofs.lemmas.Bool.{cases_eq, cases_lt, lt-ltb, le-ltb, ltb-true, eqb-true, eqb-false}
use Rattle.std.proofs.lemmas.List.Elements.{All-nil, All-cons, All-append, All-filter}
use Rattle.sh_shape.specs.declared.places.Place.{Place}
use Rattle.sh_shape.specs.Places.{IsPlace, number}
use Rattle.sh_shape.specs.Shape.{Numbers}
use Rattle.sh_step.specs.declared.action.Event.{Event}
use Rattle.sh_step.specs.Plans.{Plan}
use Rattle.sh_core.specs.Kept.{HoldsWords}
use Rattle.sh_core.specs.Words.{Words, read}
use Rattle.sh_core.specs.Worlds.{World, step}
use Rattle.script_orders.specs.declared.changes.Change.{Change}
use Rattle.script_orders.specs.Changes.{word_in, changes_of, changes_with, IsChange, Ascend, HasChanges, Leaves}

-- ---- the word of a number in lists of changes

word_append : (xs ys : List Change) (n was : ℕ) → word_in (xs ++ ys) n was ≡ word_in xs n (word_in ys n was)
word_append [] ys n was = refl
word_append (x ∷ xs) ys n was = ap (λ (w : ℕ). cond (x.number == n) x.word w) (word_append xs ys n was)

-- the changes of words whose numbers pass a test
word_passes : (f : ℕ → Bool) (xs : List Change) (n was : ℕ) → f n ≡ true
    → word_in (filter (λ (c : Change). f c.number) xs) n was ≡ word_in xs n was
word_passes f [] n was h = refl
word_passes f (x ∷ xs) n was h = go (f x.number) refl (word_passes f xs n was h) where
  go : (b : Bool) → f x.number ≡ b → word_in (filter (λ (c : Change). f c.number) xs) n was ≡ word_in xs n was
      → word_in (cond b (x ∷ filter (λ (c : Change). f c.number) xs) (filter (λ (c : Change). f c.number) xs)) n was
      ≡ cond (x.number == n) x.word (word_in xs n was)
  go true is rest = ap (λ (w : ℕ). cond (x.number == n) x.word w) rest
  go false is rest = elim (cases_eq x.number n) [
    | inl same ↦ absurd (let z : true ≡ false = sym h ∙ ap f (sym same) ∙ is in cc)
    | inr ne ↦
        rest
        ∙ sym (ap (λ (b : Bool). cond b x.word (word_in xs n was)) (ne_eqb x.number n ne))
  ]

word_fails : (f : ℕ → Bool) (xs : List Change) (n was : ℕ) → f n ≡ false
    → word_in (filter (λ (c : Change). f c.number) xs) n was ≡ was
word_fails f [] n was h = refl
word_fails f (x ∷ xs) n was h = go (f x.number) refl (word_fails f xs n was h) where
  go : (b : Bool) → f x.number ≡ b → word_in (filter (λ (c : Change). f c.number) xs) n was ≡ was
      → word_in (cond b (x ∷ filter (λ (c : Change). f c.number) xs) (filter (λ (c : Change). f c.number) xs)) n was
      ≡ was
  go true is rest = elim (cases_eq x.number n) [
    | inl same ↦ absurd (let z : true ≡ false = sym is ∙ ap f same ∙ h in cc)
    | inr ne ↦
        ap (λ (b : Bool). cond b x.word (word_in (filter (λ (c : Change). f c.number) xs) n was))
        (ne_eqb x.number n ne)
        ∙ rest
  ]
  go false is rest = rest

one_at : (n word was : ℕ) → word_in (record { number = n; word = word } ∷ []) n was ≡ word
one_at n word was = ap (λ (b : Bool). cond b word was) (eq-eqb n n refl)

one_other : (m word n was : ℕ) → n ≢ m → word_in (record { number = m; word = word } ∷ []) n was ≡ was
one_other m word n was ne = ap (λ (b : Bool). cond b word was) (ne_eqb m n (λ h. ne (sym h)))

of_at : (m opening word was : ℕ) → was ≡ opening → word_in (changes_of m opening word) m was ≡ word
of_at m opening word was begun = go (word == opening) refl where
  go : (b : Bool) → (word == opening) ≡ b
      → word_in (cond b [] (record { number = m; word = word } ∷ [])) m was ≡ word
  go true same = begun ∙ sym (eqb-true word opening same)
  go false other = one_at m word was

of_other : (m opening word n was : ℕ) → n ≢ m → word_in (changes_of m opening word) n was ≡ was
of_other m opening word n was ne = go (word == opening) where
  go : (b : Bool) → word_in (cond b [] (record { number = m; word = word } ∷ [])) n was ≡ was
  go true = refl
  go false = one_other m word n was ne

module _ (changes : List Change) (touched opening word : ℕ) where
  abbrev below : List Change
  below = filter (λ (c : Change). nat_lt c.number touched) changes

  abbrev above : List Change
  above = filter (λ (c : Change). nat_lt touched c.number) changes

  abbrev mid : List Change
  mid = changes_of touched opening word

  parts : (n was : ℕ) → word_in (changes_with changes touched opening word) n was
      ≡ word_in below n (word_in mid n (word_in above n was))
  parts n was =
      word_append (below ++ mid) above n was
      ∙ word_append below mid n (word_in above n was)

  not_below : (n x : ℕ) → touched ≤ n → word_in below n x ≡ x
  not_below n x le = word_fails (λ (m : ℕ). nat_lt m touched) changes n x (le-ltb n touched le)

  not_above : (n x : ℕ) → n ≤ touched → word_in above n x ≡ x
  not_above n x le = word_fails (λ (m : ℕ). nat_lt touched m) changes n x (le-ltb touched n le)

  pub words_with : (n was : ℕ) → (n ≡ touched → was ≡ opening)
      → word_in (changes_with changes touched opening word) n was ≡ cond (n == touched) word (word_in changes n was)
  words_with n was begun = parts n was ∙ elim (cases_eq n touched) [
    | inl same ↦
        not_below n (word_in mid n (word_in above n was)) (omega (arith, same))
        ∙ ap (λ (x : ℕ). word_in mid n x) (not_above n was (omega (arith, same)))
        ∙ ap (λ (m : ℕ). word_in mid m was) same
        ∙ of_at touched opening word was (begun same)
        ∙ sym (ap (λ (b : Bool). cond b word (word_in changes n was)) (eq-eqb n touched same))
    | inr ne ↦
        ap (λ (x : ℕ). word_in below n x) (of_other touched opening word n (word_in above n was) ne)
        ∙ elim (cases_lt n touched) [
          | inl less ↦
              ap (λ (x : ℕ). word_in below n x) (not_above n was (omega arith))
              ∙ word_passes (λ (m : ℕ). nat_lt m touched) changes n was (lt-ltb n touched less)
          | inr le ↦
              not_below n (word_in above n was) le
              ∙ word_passes (λ (m : ℕ). nat_lt touched m) changes n was (lt-ltb touched n (omega arith))
        ]
        ∙ sym (ap (λ (b : Bool). cond b word (word_in changes n was)) (ne_eqb n touched ne))
  ]

-- ---- the order of changes

abbrev AllBelow : ℕ → List Change → Type 0
AllBelow n [] = Unit {0}
AllBelow n (x ∷ xs) = (x.number < n) × AllBelow n xs

lower : (from to : ℕ) (cs : List Change) → to ≤ from → Ascend from cs → Ascend to cs
lower from to [] le h = tt
lower from to (c ∷ cs) le h = (let low = h.0 in omega arith, h.1)

ascend_filter : (f : ℕ → Bool) (from : ℕ) (cs : List Change) → Ascend from cs
    → Ascend from (filter (λ (c : Change). f c.number) cs)
ascend_filter f from [] h = tt
ascend_filter f from (c ∷ cs) h = go (f c.number) (ascend_filter f (c.number + 1) cs h.1) where
  go : (b : Bool) → Ascend (c.number + 1) (filter (λ (d : Change). f d.number) cs) → Ascend from
      (cond b (c ∷ filter (λ (d : Change). f d.number) cs) (filter (λ (d : Change). f d.number) cs))
  go true rest = (h.0, rest)
  go false rest =
      let low = h.0 in lower (c.number + 1) from (filter (λ (d : Change). f d.number) cs) (omega arith) rest

ascend_join : (from n : ℕ) (xs ys : List Change) → from ≤ n → Ascend from xs → AllBelow n xs → Ascend n ys
    → Ascend from (xs ++ ys)
ascend_join from n [] ys le h less k = lower n from ys le k
ascend_join from n (x ∷ xs) ys le h less k =
    (h.0, ascend_join (x.number + 1) n xs ys (let here = less.0 in omega arith) h.1 less.1 k)

filter_below : (n : ℕ) (cs : List Change) → AllBelow n (filter (λ (c : Change). nat_lt c.number n) cs)
filter_below n [] = tt
filter_below n (c ∷ cs) = go (nat_lt c.number n) refl (filter_below n cs) where
  go : (b : Bool) → nat_lt c.number n ≡ b → AllBelow n (filter (λ (d : Change). nat_lt d.number n) cs) → AllBelow n
      (cond b (c ∷ filter (λ (d : Change). nat_lt d.number n) cs) (filter (λ (d : Change). nat_lt d.number n) cs))
  go true is rest = (ltb-true c.number n is, rest)
  go false is rest = rest

filter_above : (n from : ℕ) (cs : List Change) → Ascend from cs
    → Ascend (n + 1) (filter (λ (c : Change). nat_lt n c.number) cs)
filter_above n from [] h = tt
filter_above n from (c ∷ cs) h = go (nat_lt n c.number) refl (filter_above n (c.number + 1) cs h.1) where
  go : (b : Bool) → nat_lt n c.number ≡ b → Ascend (n + 1) (filter (λ (d : Change). nat_lt n d.number) cs)
      → Ascend (n + 1)
      (cond b (c ∷ filter (λ (d : Change). nat_lt n d.number) cs) (filter (λ (d : Change). nat_lt n d.number) cs))
  go true is rest = (
    let less = ltb-true n c.number is in omega arith,
    ascend_filter (λ (m : ℕ). nat_lt n m) (c.number + 1) cs h.1,
  )
  go false is rest = rest

below_join : (n : ℕ) (xs ys : List Change) → AllBelow n xs → AllBelow (n + 1) ys → AllBelow (n + 1) (xs ++ ys)
below_join n [] ys h k = k
below_join n (x ∷ xs) ys h k = (let less = h.0 in omega arith, below_join n xs ys h.1 k)

of_ascend : (n opening word : ℕ) → Ascend n (changes_of n opening word)
of_ascend n opening word = go (word == opening) where
  go : (b : Bool) → Ascend n (cond b [] (record { number = n; word = word } ∷ []))
  go true = tt
  go false = (omega arith, tt)

of_below : (n opening word : ℕ) → AllBelow (n + 1) (changes_of n opening word)
of_below n opening word = go (word == opening) where
  go : (b : Bool) → AllBelow (n + 1) (cond b [] (record { number = n; word = word } ∷ []))
  go true = tt
  go false = (omega arith, tt)

ascend_with : (cs : List Change) (n opening word : ℕ) → Ascend 0 cs → Ascend 0 (changes_with cs n opening word)
ascend_with cs n opening word h =
    let under = filter (λ (c : Change). nat_lt c.number n) cs in
    let over = filter (λ (c : Change). nat_lt n c.number) cs in
    ascend_join 0 (n + 1) (under ++ changes_of n opening word) over (omega arith)
    (ascend_join 0 n under (changes_of n opening word) (omega arith)
    (ascend_filter (λ (m : ℕ). nat_lt m n) 0 cs h) (filter_below n cs) (of_ascend n opening word))
    (below_join n under (changes_of n opening word) (filter_below n cs) (of_below n opening word))
    (filter_above n 0 cs h)

each_with : (P : Change → Type 0) (cs : List Change) (n opening word : ℕ) → All P cs
    → (word ≢ opening → P (record { number = n; word = word })) → All P (changes_with cs n opening word)
each_with P cs n opening word all here =
    let under = filter (λ (c : Change). nat_lt c.number n) cs in
    let over = filter (λ (c : Change). nat_lt n c.number) cs in
    All-append P (under ++ changes_of n opening word) over
    (All-append P under (changes_of n opening word) (All-filter (λ (c : Change). nat_lt c.number n) P cs all)
    (go (word == opening) refl)) (All-filter (λ (c : Change). nat_lt n c.number) P cs all) where
      go : (b : Bool) → (word == opening) ≡ b → All P (cond b [] (record { number = n; word = word } ∷ []))
      go true same = All-nil P
      go false other = All-cons P (record { number = n; word = word }) [] (here (eqb-false word opening other))
          (All-nil P)

-- ---- a step that touches one word

pub changed_on : (shape : Numbers) (opening : List ℕ) (before : Words) (plan : Plan) (w : World) (e : Event)
    (touched left : ℕ) (old : List Change) → HoldsWords shape opening before → Leaves shape plan w e touched left
    → ((place : Place) × IsPlace shape place × (number shape place ≡ touched)) → HasChanges shape old before w.words
    → HasChanges shape (changes_with old touched (get_or opening touched 0) left) before (step plan w e).words
changed_on shape opening before plan w e touched left old begins leaves there changed = record {
  at = λ place within.
      words_with old touched (get_or opening touched 0) left (number shape place) (read before place)
      (λ same. sym (begins.at place within) ∙ ap (λ (m : ℕ). get_or opening m 0) same)
      ∙ ap (λ (x : ℕ). cond (number shape place == touched) left x) (changed.at place within)
      ∙ sym (leaves place within);
  ascend = ascend_with old touched (get_or opening touched 0) left changed.ascend;
  each = each_with (IsChange shape before) old touched (get_or opening touched 0) left changed.each (λ ne. record {
    place = there.0;
    within = there.1;
    at = there.2;
    other = λ same. ne (same ∙ sym (begins.at there.0 there.1) ∙ ap (λ (m : ℕ). get_or opening m 0) there.2);
  });
}
