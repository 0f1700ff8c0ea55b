-- A history with other numbers for its keys says the same of them.
use Rattle.std.proofs.Common.{◌≡◌, ℕ, suc, ◌-◌, ◌==◌, ◌&&◌, ◌||◌, Bool, true, false, cond, List, []}
use Rattle.std.proofs.Common.{◌∷◌, ◌++◌, map, refl, ap, sym, ◌∙◌, arith, Some, None, eq-eqb}
use Rattle.std.proofs.Common.{ne_eqb, eqb-true}
use Rattle.std.specs.Prelude.{count_by}
use Rattle.std.proofs.lemmas.Bool.{eqb-false}
use Rattle.sh_history.specs.declared.entry.Entry.{Entry}
use Rattle.sh_history.specs.declared.entry.Entry.TheVariants.{Insert, Got, Gone, Crowded, Removed, Released, Seen}
use Rattle.sh_history.specs.History.{value_of, is_removed, present_value, is_got_of, is_release_of, is_got_by}
use Rattle.sh_history.specs.History.{is_release_by, is_got_from, is_release_from, is_insert, insert_count}
use Rattle.sh_history.specs.History.{hold_count}
use Rattle.sh_history.specs.History.{holds_on, holds_by}
use Rattle.sh_history.proofs.LogLaws.{count_by-cons}

-- ---- the place of a key in the order in which keys were given

-- a key that is not among them comes after all of them
abbrev pub place_in : List ℕ → ℕ → ℕ
place_in [] key = key
place_in (k ∷ ks) key = cond (k == key) 0 (suc (place_in ks key))

zero_suc : (n : ℕ) → 0 ≡ suc n → ⊥
zero_suc n e = omega (arith, e)

pub one_place : (ks : List ℕ) (i j : ℕ) → place_in ks i ≡ place_in ks j → i ≡ j
one_place [] i j e = e
one_place (k ∷ ks) i j e = go (k == i) (k == j) refl refl (one_place ks i j) e
  where
    go : (b c : Bool) → (k == i) ≡ b → (k == j) ≡ c → (place_in ks i ≡ place_in ks j → i ≡ j)
        → cond b 0 (suc (place_in ks i)) ≡ cond c 0 (suc (place_in ks j)) → i ≡ j
    go true true f g later e = sym (eqb-true k i f) ∙ eqb-true k j g
    go true false f g later e = absurd (zero_suc (place_in ks j) e)
    go false true f g later e = absurd (zero_suc (place_in ks i) (sym e))
    go false false f g later e = later (omega (arith, e))

-- the keys that were given, in order
abbrev pub given : List Entry → List ℕ
given [] = []
given (Insert p k v ∷ es) = k ∷ given es
given (_ ∷ es) = given es

pub given_append : (es fs : List Entry) → given (es ++ fs) ≡ given es ++ given fs
given_append [] fs = refl
given_append (Insert p k v ∷ es) fs = ap (λ (ks : List ℕ). k ∷ ks) (given_append es fs)
given_append (Got p k v ∷ es) fs = given_append es fs
given_append (Gone p k ∷ es) fs = given_append es fs
given_append (Crowded p k ∷ es) fs = given_append es fs
given_append (Removed p k ∷ es) fs = given_append es fs
given_append (Released p k ∷ es) fs = given_append es fs
given_append (Seen p k v ∷ es) fs = given_append es fs

none_some : (v : List ℕ) → Some v ≡ None → ⊥
none_some v e = let h : ⊥ = cc in h

skips : (x : Entry) (es : List Entry) → is_insert x ≡ false → insert_count (x ∷ es) ≡ insert_count es
skips x es h = let one : Bool → ℕ = λ b. cond b 1 0 in
    let c = count_by-cons is_insert x es in
    let z : one (is_insert x) ≡ one false = ap one h in
    omega (arith, c, z)

-- the place of a key that is given now
pub place_now : (es : List Entry) (key : ℕ) (later : List ℕ) → value_of es key ≡ None
    → place_in (given es ++ key ∷ later) key ≡ insert_count es
place_now [] key later e = ap (λ (b : Bool). cond b 0 (suc (place_in later key))) (eq-eqb key key refl)
place_now (Insert p k v ∷ es) key later e = go (k == key) refl e (place_now es key later)
  where
    go : (b : Bool) → (k == key) ≡ b → cond b (Some v) (value_of es key) ≡ None
        → (value_of es key ≡ None → place_in (given es ++ key ∷ later) key ≡ insert_count es)
        → cond b 0 (suc (place_in (given es ++ key ∷ later) key)) ≡ insert_count (Insert p k v ∷ es)
    go true f e rest = absurd (none_some v e)
    go false f e rest = let n = rest e in let c = count_by-cons is_insert (Insert p k v) es in omega (arith, n, c)
place_now (Got p k v ∷ es) key later e = place_now es key later e ∙ sym (skips (Got p k v) es refl)
place_now (Gone p k ∷ es) key later e = place_now es key later e ∙ sym (skips (Gone p k) es refl)
place_now (Crowded p k ∷ es) key later e = place_now es key later e ∙ sym (skips (Crowded p k) es refl)
place_now (Removed p k ∷ es) key later e = place_now es key later e ∙ sym (skips (Removed p k) es refl)
place_now (Released p k ∷ es) key later e = place_now es key later e ∙ sym (skips (Released p k) es refl)
place_now (Seen p k v ∷ es) key later e = place_now es key later e ∙ sym (skips (Seen p k v) es refl)

-- ---- entries under other numbers

abbrev pub renumbered : (ℕ → ℕ) → Entry → Entry
renumbered f (Insert p k v) = Insert p (f k) v
renumbered f (Got p k v) = Got p (f k) v
renumbered f (Gone p k) = Gone p (f k)
renumbered f (Crowded p k) = Crowded p (f k)
renumbered f (Removed p k) = Removed p (f k)
renumbered f (Released p k) = Released p (f k)
renumbered f (Seen p k v) = Seen p (f k) v

module _ (f : ℕ → ℕ) (one : (i j : ℕ) → f i ≡ f j → i ≡ j) where
  same_test : (k j : ℕ) → (f k == f j) ≡ (k == j)
  same_test k j = go (k == j) refl
    where
      go : (b : Bool) → (k == j) ≡ b → (f k == f j) ≡ b
      go true e = eq-eqb (f k) (f j) (ap f (eqb-true k j e))
      go false e = ne_eqb (f k) (f j) (λ same. eqb-false k j e (one k j same))

  abbrev all : List Entry → List Entry
  all es = map (renumbered f) es

  pub same_value : (es : List Entry) (key : ℕ) → value_of (all es) (f key) ≡ value_of es key
  same_value [] key = refl
  same_value (Insert p k v ∷ es) key = (λ i. cond (same_test k key i) (Some v) (same_value es key i))
  same_value (Got p k v ∷ es) key = same_value es key
  same_value (Gone p k ∷ es) key = same_value es key
  same_value (Crowded p k ∷ es) key = same_value es key
  same_value (Removed p k ∷ es) key = same_value es key
  same_value (Released p k ∷ es) key = same_value es key
  same_value (Seen p k v ∷ es) key = same_value es key

  same_removed : (es : List Entry) (key : ℕ) → is_removed (all es) (f key) ≡ is_removed es key
  same_removed [] key = refl
  same_removed (Removed p k ∷ es) key = (λ i. same_test k key i || same_removed es key i)
  same_removed (Insert p k v ∷ es) key = same_removed es key
  same_removed (Got p k v ∷ es) key = same_removed es key
  same_removed (Gone p k ∷ es) key = same_removed es key
  same_removed (Crowded p k ∷ es) key = same_removed es key
  same_removed (Released p k ∷ es) key = same_removed es key
  same_removed (Seen p k v ∷ es) key = same_removed es key

  pub same_present : (es : List Entry) (key : ℕ) → present_value (all es) (f key) ≡ present_value es key
  same_present es key = (λ i. cond (same_removed es key i) None (same_value es key i))

  same_count : (p q : Entry → Bool) → ((e : Entry) → q (renumbered f e) ≡ p e) → (es : List Entry)
      → count_by q (all es) ≡ count_by p es
  same_count p q same [] = refl
  same_count p q same (e ∷ es) =
      let one : Bool → ℕ = λ b. cond b 1 0 in
      let c = count_by-cons q (renumbered f e) (all es) in
      let d = count_by-cons p e es in
      let h = same_count p q same es in
      let s : one (q (renumbered f e)) ≡ one (p e) = ap one (same e) in
      omega (arith, c, d, h, s)

  got_of : (key : ℕ) (e : Entry) → is_got_of (f key) (renumbered f e) ≡ is_got_of key e
  got_of key (Got p k v) = same_test k key
  got_of key (Insert p k v) = refl
  got_of key (Gone p k) = refl
  got_of key (Crowded p k) = refl
  got_of key (Removed p k) = refl
  got_of key (Released p k) = refl
  got_of key (Seen p k v) = refl

  release_of : (key : ℕ) (e : Entry) → is_release_of (f key) (renumbered f e) ≡ is_release_of key e
  release_of key (Released p k) = same_test k key
  release_of key (Insert p k v) = refl
  release_of key (Got p k v) = refl
  release_of key (Gone p k) = refl
  release_of key (Crowded p k) = refl
  release_of key (Removed p k) = refl
  release_of key (Seen p k v) = refl

  got_by : (pass key : ℕ) (e : Entry) → is_got_by pass (f key) (renumbered f e) ≡ is_got_by pass key e
  got_by pass key (Got p k v) = ap (λ (b : Bool). (p == pass) && b) (same_test k key)
  got_by pass key (Insert p k v) = refl
  got_by pass key (Gone p k) = refl
  got_by pass key (Crowded p k) = refl
  got_by pass key (Removed p k) = refl
  got_by pass key (Released p k) = refl
  got_by pass key (Seen p k v) = refl

  release_by : (pass key : ℕ) (e : Entry) → is_release_by pass (f key) (renumbered f e) ≡ is_release_by pass key e
  release_by pass key (Released p k) = ap (λ (b : Bool). (p == pass) && b) (same_test k key)
  release_by pass key (Insert p k v) = refl
  release_by pass key (Got p k v) = refl
  release_by pass key (Gone p k) = refl
  release_by pass key (Crowded p k) = refl
  release_by pass key (Removed p k) = refl
  release_by pass key (Seen p k v) = refl

  got_from : (pass : ℕ) (e : Entry) → is_got_from pass (renumbered f e) ≡ is_got_from pass e
  got_from pass (Got p k v) = refl
  got_from pass (Insert p k v) = refl
  got_from pass (Gone p k) = refl
  got_from pass (Crowded p k) = refl
  got_from pass (Removed p k) = refl
  got_from pass (Released p k) = refl
  got_from pass (Seen p k v) = refl

  release_from : (pass : ℕ) (e : Entry) → is_release_from pass (renumbered f e) ≡ is_release_from pass e
  release_from pass (Released p k) = refl
  release_from pass (Insert p k v) = refl
  release_from pass (Got p k v) = refl
  release_from pass (Gone p k) = refl
  release_from pass (Crowded p k) = refl
  release_from pass (Removed p k) = refl
  release_from pass (Seen p k v) = refl

  inserts : (e : Entry) → is_insert (renumbered f e) ≡ is_insert e
  inserts (Insert p k v) = refl
  inserts (Got p k v) = refl
  inserts (Gone p k) = refl
  inserts (Crowded p k) = refl
  inserts (Removed p k) = refl
  inserts (Released p k) = refl
  inserts (Seen p k v) = refl

  pub same_inserts : (es : List Entry) → insert_count (all es) ≡ insert_count es
  same_inserts es = same_count is_insert is_insert inserts es

  pub same_holds_on : (es : List Entry) (key : ℕ) → holds_on (all es) (f key) ≡ holds_on es key
  same_holds_on es key =
      let got = same_count (is_got_of key) (is_got_of (f key)) (got_of key) es in
      let gone = same_count (is_release_of key) (is_release_of (f key)) (release_of key) es in
      (λ i. got i - gone i)

  pub same_holds_by : (es : List Entry) (pass key : ℕ) → holds_by (all es) pass (f key) ≡ holds_by es pass key
  same_holds_by es pass key =
      let got = same_count (is_got_by pass key) (is_got_by pass (f key)) (got_by pass key) es in
      let gone = same_count (is_release_by pass key) (is_release_by pass (f key)) (release_by pass key) es in
      (λ i. got i - gone i)

  pub same_hold_count : (es : List Entry) (pass : ℕ) → hold_count (all es) pass ≡ hold_count es pass
  same_hold_count es pass =
      let got = same_count (is_got_from pass) (is_got_from pass) (got_from pass) es in
      let gone = same_count (is_release_from pass) (is_release_from pass) (release_from pass) es in
      (λ i. got i - gone i)

  pub one_more : (es : List Entry) (e : Entry) → all (es ++ e ∷ []) ≡ all es ++ renumbered f e ∷ []
  one_more [] e = refl
  one_more (x ∷ es) e = ap (λ (xs : List Entry). renumbered f x ∷ xs) (one_more es e)
