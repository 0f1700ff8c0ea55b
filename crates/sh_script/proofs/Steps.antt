-- Steps that may fail, taken apart.
use Rattle.std.proofs.Common.{◌≡◌, ℕ, ◌<◌, ◌==◌, ltb-true, Bool, true, false, not, List, [], ◌∷◌, length, cond, Option}
use Rattle.std.proofs.Common.{Some, None, Result, Ok, Err, ◌⊎◌, inl, inr, refl, ap, subst, ◌∙◌}
use Rattle.std.proofs.lemmas.Option.{cond_some}
use Rattle.std.specs.Option.{is_some}
use Rattle.std.specs.Str.{bytes_eq}
use Rattle.std.proofs.lemmas.Slice.Eq.{bytes_eq-Decides}
use Rattle.sh_script.specs.Words.{Word, number_of}
use Rattle.sh_script.specs.Trouble.{◌>>=◌, or_trouble}
use Rattle.sh_script.specs.Script.{Adds}
use Rattle.sh_script.specs.Grammar.{Means}
use Rattle.sh_script.specs.Arguments.{next_of, number_at, pass_at, only_of, after_first, two_of, none_of}
use Rattle.sh_script.specs.declared.fault.Cause.{Cause}
use Rattle.sh_script.specs.declared.trouble.Trouble.{Trouble}
use Rattle.sh_script.specs.declared.fault.Fault.{Fault}
use Rattle.sh_step.proofs.ListLaws.{none_left}

-- if two steps succeed, the second succeeds with the result of the first
pub bind_ok : {A B E : Type 0} (r : Result A E) (f : A → Result B E) (y : B) → (r >>= f) ≡ Ok y → (x : A) × (r ≡ Ok x)
    × (f x ≡ Ok y)
bind_ok (Ok x) f y e = (x, refl, e)
bind_ok (Err t) f y e = cc

pub or_ok : {A : Type 0} (t : Trouble) (o : Option A) (x : A) → or_trouble t o ≡ Ok x → o ≡ Some x
or_ok t None x e = cc
or_ok t (Some y) x e = cc

abbrev pub ok_of : {A : Type 0} → A → Result A Trouble
ok_of x = Ok x

pub ok_is : {A : Type 0} (x y : A) → ok_of x ≡ ok_of y → x ≡ y
ok_is x y e = cc

abbrev pub fine : {A : Type 0} → A → Result A Fault
fine x = Ok x

pub fine_is : {A : Type 0} (x y : A) → fine x ≡ fine y → x ≡ y
fine_is x y e = cc

-- either branch of an if
pub if_cases : {A : Type 0} (b : Bool) (x y z : A) → cond b x y ≡ z → ((b ≡ true) × (x ≡ z)) ⊎ ((b ≡ false) × (y ≡ z))
if_cases true x y z e = inl (refl, e)
if_cases false x y z e = inr (refl, e)

pub if_ok : {A : Type 0} (b : Bool) (x z : A) (t : Trouble) → cond b (Ok x) (Err t) ≡ Ok z → (b ≡ true) × (x ≡ z)
if_ok true x z t e = (refl, ok_is x z e)
if_ok false x z t e = cc

pub if_read : {A : Type 0} (b : Bool) (r : Result A Trouble) (t : Trouble) (z : A) → cond b r (Err t) ≡ Ok z
    → (b ≡ true) × (r ≡ Ok z)
if_read true r t z e = (refl, e)
if_read false r t z e = cc

pub else_ok : {A E : Type 0} (b : Bool) (t : E) (r : Result A E) (z : A) → cond b (Err t) r ≡ Ok z → (b ≡ false)
    × (r ≡ Ok z)
else_ok true t r z e = cc
else_ok false t r z e = (refl, e)

pub guarded : {A : Type 0} (b : Bool) (o : Option A) (x : A) → cond b o None ≡ Some x → (b ≡ true) × (o ≡ Some x)
guarded true o x e = (refl, e)
guarded false o x e = cc

pub unless : {A : Type 0} (b : Bool) (o : Option A) (x : A) → cond b None o ≡ Some x → (b ≡ false) × (o ≡ Some x)
unless true o x e = cc
unless false o x e = (refl, e)

pub not_both : (b : Bool) → b ≡ true → b ≡ false → ⊥
not_both b p q = cc

pub same_word : (w v : Word) → bytes_eq w v ≡ true → w ≡ v
same_word w v e = (bytes_eq-Decides w v).0 e

pub not_false : (b : Bool) → not b ≡ false → b ≡ true
not_false true e = refl
not_false false e = cc

pub none_of_some : {A : Type 0} (o : Option A) → is_some o ≡ false → o ≡ None
none_of_some None e = refl
none_of_some (Some x) e = cc

-- ---- words

pub next_ok : (c : Cause) (ws : List Word) (x : Word × List Word) → next_of c ws ≡ Ok x → ws ≡ x.0 ∷ x.1
next_ok c [] x e = cc
next_ok c (w ∷ ws) x e = let p : (w, ws) ≡ x = ok_is (w, ws) x e in ap (λ (y : Word × List Word). y.0 ∷ y.1) p

pub record IsNumberFirst (ws : List Word) (x : ℕ × List Word) : Type 0 where
  pub word : Word
  pub is : ws ≡ word ∷ x.1
  pub number : number_of word ≡ Some x.0

pub number_at_ok : (c : Cause) (ws : List Word) (x : ℕ × List Word) → number_at c ws ≡ Ok x → IsNumberFirst ws x
number_at_ok c ws x e =
    let a = bind_ok _ _ x e in
    let b = bind_ok _ _ x a.2 in
    let p : (b.0, (a.0).1) ≡ x = ok_is (b.0, (a.0).1) x b.2 in
    record {
      word = (a.0).0;
      is = next_ok c ws a.0 a.1 ∙ ap (λ (y : ℕ × List Word). (a.0).0 ∷ y.1) p;
      number = or_ok _ _
          _ b.1 ∙ ap (λ (y : ℕ × List Word). Some y.0) p;
    }

pub only_ok : (ws : List Word) (w : Word) → only_of ws ≡ Ok w → ws ≡ w ∷ []
only_ok ws w e =
    let a = bind_ok _ _ w e in
    let b = if_ok _ _ _ _ a.2 in
    next_ok _ ws a.0 a.1 ∙ ap (λ xs. (a.0).0 ∷ xs) (none_left _ b.0) ∙ ap (λ x. x ∷ []) b.1

-- the first word is the number of a pass
pub record IsPassFirst (passes : ℕ) (ws : List Word) (x : ℕ × List Word) : Type 0 where
  pub first : IsNumberFirst ws x
  pub below : x.0 < passes

pub pass_at_ok : (passes : ℕ) (ws : List Word) (x : ℕ × List Word) → pass_at passes ws ≡ Ok x → IsPassFirst passes ws x
pass_at_ok passes ws x e =
    let a = bind_ok _ _ x e in
    let b = if_ok _ a.0 x _ a.2 in
    let P : ℕ × List Word → Type 0 = λ y. IsPassFirst passes ws y in
    subst P b.1 (record { first = number_at_ok _ ws a.0 a.1; below = ltb-true _ _ b.0 })

after_first_is : (a : Word) (ws : List Word) (p : Word × Word) → after_first a ws ≡ Some p → a ∷ ws ≡ p.0 ∷ p.1 ∷ []
after_first_is a [] p e = cc
after_first_is a (b ∷ ws) p e =
    let h = cond_some _ _ _ e in
    ap (λ xs. a ∷ b ∷ xs) (none_left ws h.0) ∙ ap (λ (q : Word × Word). q.0 ∷ q.1 ∷ []) h.1

pub two_is : (ws : List Word) (p : Word × Word) → two_of ws ≡ Some p → ws ≡ p.0 ∷ p.1 ∷ []
two_is [] p e = cc
two_is (a ∷ ws) p e = after_first_is a ws p e

pub none_is : (ws : List Word) (u : Unit {0}) → none_of ws ≡ Ok u → ws ≡ []
none_is ws u e = none_left ws ((if_ok (length ws == 0) tt u _ e).0)

-- ---- what a line adds is what it means

pub record Agrees {S : Type 0} (adds : Adds S) (means : Means S) : Type 0 where
  pub is : (passes : ℕ) (before : S) (ws : List Word) (now : S) → adds passes before ws ≡ Ok now
      → means passes before ws now
  pub gives : (passes : ℕ) (before : S) (ws : List Word) (now : S) → means passes before ws now → adds passes before ws
      ≡ Ok now
