-- The value at a place after a write: what was written there, and elsewhere what was there before.
use Rattle.std.proofs.Common.{◌≡◌, ℕ, ◌==◌, ◌&&◌, false, refl, ap, ◌∙◌, arith, ⊎_elim, ne_eqb, Bool, true, eqb-true}
use Rattle.std.proofs.Common.{eq-eqb}
use Rattle.std.proofs.lemmas.Bool.{cases_eq, and_left, and_right}
use Rattle.sh_shape.specs.declared.places.Place.{Place}
use Rattle.sh_shape.specs.declared.places.Place.TheVariants.{Class, Head, PageLink, State, Link, Length, Payload, Owner}
use Rattle.sh_shape.specs.declared.places.Place.TheVariants.{Bell}
use Rattle.sh_core.specs.Words.{Words, read, write, put, put2}
use Rattle.std.proofs.lemmas.Bool.Decides.{nat_tests}

-- ---- functions with another value at one number

pub put_same : {A : Type 0} (f : ℕ → A) (i : ℕ) (x : A) → put f i x i ≡ x
unfolding put
put_same f i x = rw (eq-eqb i i refl) refl

pub put_other : {A : Type 0} (f : ℕ → A) (i j : ℕ) (x : A) → (j == i) ≡ false → put f i x j ≡ f j
unfolding put
put_other f i j x e = rw e refl

pub put2_same : (f : ℕ → ℕ → ℕ) (q s n : ℕ) → put2 f q s n q s ≡ n
unfolding put put2
put2_same f q s n = grind (arith, nat_tests)

pub put2_other : (f : ℕ → ℕ → ℕ) (q s n q' s' : ℕ) → ((q' == q) && (s' == s)) ≡ false → put2 f q s n q' s' ≡ f q' s'
unfolding put put2
put2_other f q s n q' s' h = grind (arith, nat_tests)

put_id : {A : Type 0} (f : ℕ → A) (i : ℕ) → put f i (f i) ≡ f
put_id f i = λ j k. go k (k == i) refl j where
  go : (k : ℕ) (b : Bool) → (k == i) ≡ b → put f i (f i) k ≡ f k
  go k true e = let h = eqb-true k i e in rw h (put_same f i (f i))
  go k false e = put_other f i k (f i) e

put2_id : (f : ℕ → ℕ → ℕ) (q s : ℕ) → put2 f q s (f q s) ≡ f
unfolding put2
put2_id f q s = ap (λ (g : ℕ → ℕ). put f q g) (put_id (f q) s) ∙ put_id f q

-- ---- words

pub read_same : (w : Words) (p : Place) (v : ℕ) → read (write w p v) p ≡ v
read_same w (Class q) v = put_same w.class_at q v
read_same w (Head q) v = put_same w.head_at q v
read_same w (PageLink q) v = put_same w.page_link_at q v
read_same w (State q s) v = put2_same w.state_at q s v
read_same w (Link q s) v = put2_same w.link_at q s v
read_same w (Length q s) v = put2_same w.length_at q s v
read_same w (Payload q s) v = put2_same w.payload_at q s v
read_same w (Owner q) v = put_same w.owner_at q v
read_same w (Bell q) v = put_same w.bell_at q v

two_apart : (C : ℕ → ℕ → Place) (k t q s : ℕ) → (C k t ≡ C q s → ⊥) → ((k == q) && (t == s)) ≡ false
two_apart C k t q s h = ⊎_elim
    (λ e. ⊎_elim (λ f. absurd (h (λ i. C (e i) (f i)))) (λ f. and_right (k == q) (t == s) (ne_eqb t s f))
    (cases_eq t s))
    (λ e. and_left (k == q) (t == s) (ne_eqb k q e)) (cases_eq k q)

pub read_other : (w : Words) (p p' : Place) (v : ℕ) → (p' ≡ p → ⊥) → read (write w p v) p' ≡ read w p'
read_other w (Class q) (Class k) v h = put_other w.class_at q k v (ne_eqb k q (λ e. h (ap Class e)))
read_other w (Head q) (Head k) v h = put_other w.head_at q k v (ne_eqb k q (λ e. h (ap Head e)))
read_other w (PageLink q) (PageLink k) v h = put_other w.page_link_at q k v (ne_eqb k q (λ e. h (ap PageLink e)))
read_other w (State q s) (State k t) v h = put2_other w.state_at q s v k t (two_apart State k t q s h)
read_other w (Link q s) (Link k t) v h = put2_other w.link_at q s v k t (two_apart Link k t q s h)
read_other w (Length q s) (Length k t) v h = put2_other w.length_at q s v k t (two_apart Length k t q s h)
read_other w (Payload q s) (Payload k t) v h = put2_other w.payload_at q s v k t (two_apart Payload k t q s h)
read_other w (Owner q) (Owner k) v h = put_other w.owner_at q k v (ne_eqb k q (λ e. h (ap Owner e)))
read_other w (Bell q) (Bell k) v h = put_other w.bell_at q k v (ne_eqb k q (λ e. h (ap Bell e)))
read_other w _ _ v h = refl

-- a word written as it was found
pub write_same : (w : Words) (pl : Place) → write w pl (read w pl) ≡ w
write_same w (Class q) = ap (λ (f : ℕ → ℕ). record w { class_at = f }) (put_id w.class_at q)
write_same w (Head q) = ap (λ (f : ℕ → ℕ). record w { head_at = f }) (put_id w.head_at q)
write_same w (PageLink q) = ap (λ (f : ℕ → ℕ). record w { page_link_at = f }) (put_id w.page_link_at q)
write_same w (State q s) = ap (λ (f : ℕ → ℕ → ℕ). record w { state_at = f }) (put2_id w.state_at q s)
write_same w (Link q s) = ap (λ (f : ℕ → ℕ → ℕ). record w { link_at = f }) (put2_id w.link_at q s)
write_same w (Length q s) = ap (λ (f : ℕ → ℕ → ℕ). record w { length_at = f }) (put2_id w.length_at q s)
write_same w (Payload q s) = ap (λ (f : ℕ → ℕ → ℕ). record w { payload_at = f }) (put2_id w.payload_at q s)
write_same w (Owner n) = ap (λ (f : ℕ → ℕ). record w { owner_at = f }) (put_id w.owner_at n)
write_same w (Bell n) = ap (λ (f : ℕ → ℕ). record w { bell_at = f }) (put_id w.bell_at n)
