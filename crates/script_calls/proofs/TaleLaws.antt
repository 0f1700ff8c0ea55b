-- What the tale of a pass of the running heap contains: one history of all, and the passes that it names.
use Rattle.std.proofs.Common.{◌≡◌, ℕ, zero, suc, ◌<◌, ◌==◌, ◌||◌, Bool, true, false, cond, List, [], ◌∷◌, ◌++◌, map}
use Rattle.std.proofs.Common.{refl, sym, ap, subst, ◌∙◌, arith}
use Rattle.std.specs.Prelude.{nat_lt, not}
use Rattle.std.proofs.lemmas.Bool.Decides.{nat_tests}
use Rattle.std.specs.List.{All}
use Rattle.sh_key.specs.Layout.{Layout}
use Rattle.sh_shape.specs.Shape.{Numbers}
use Rattle.sh_history.specs.declared.entry.Entry.{Entry}
use Rattle.sh_history.specs.Log.{pass_of, entries_of}
use Rattle.sh_table.specs.declared.view.Told.{Told}
use Rattle.sh_table.specs.Tales.{ViewIsValid, IsLogOf, Before, IsTale}
use Rattle.sh_table.specs.Views.{Each, names_told}
use Rattle.sh_table.specs.Whole.{IsWhole}
use Rattle.sh_pass.specs.Passes.{Caller}
use Rattle.script_calls.specs.Parts.{HasAllLogs, HasWholeTale, tale_told, told_pass, passes_below, heap_terms}
use Rattle.sh_member.specs.Sides.{SeenSide}
use Rattle.script_calls.specs.Receipts.{HasOrderedTale}
use Rattle.script_calls.specs.Running.{seen_standing, seen_of_caller, log_told}

told_have : (history : List Entry) (ts : List Told) → Each (λ t. IsLogOf t.pass t.own history) ts
    → HasAllLogs history (map log_told ts)
told_have history [] h = tt
told_have history (t ∷ ts) h = (h.0, told_have history ts h.1)

none_other : (passes : ℕ) (es : List Entry) → All (λ e. pass_of e < passes) es
    → entries_of (λ p. not (nat_lt p passes)) es ≡ []
none_other passes [] h = refl
none_other passes (e ∷ es) h = go (nat_lt (pass_of e) passes) refl
    (none_other passes es (λ k d l. h (suc k) d (omega (arith, l))))
  where
    go : (b : Bool) → nat_lt (pass_of e) passes ≡ b → entries_of (λ p. not (nat_lt p passes)) es ≡ []
        → cond (not b) (e ∷ entries_of (λ p. not (nat_lt p passes)) es) (entries_of (λ p. not (nat_lt p passes)) es)
        ≡ []
    go true is rest = rest
    go false is rest = let l : pass_of e < passes = h 0 e (omega arith)
        in absurd (let z : nat_lt (pass_of e) passes ≡ true = grind (arith, nat_tests) in let y : true ≡ false = sym z
        ∙ is in cc)

-- one of the histories of the tale has all logs
pub whole_told : (layout : Layout) (v : Caller) (n : Numbers) (history : List Entry) → v.view.shape ≡ n
    → IsTale layout v.view history → All (λ e. pass_of e < v.view.shape.passes) history
    → (w : HasWholeTale (heap_terms layout n) (tale_told (seen_of_caller layout v))) × (w.history ≡ history)
whole_told layout v n history same tale ours =
    let P : Numbers → Type 0 = λ s. (w : HasWholeTale (heap_terms layout s) (tale_told (seen_of_caller layout v)))
    × (w.history ≡ history) in
    let at : P v.view.shape = (
      record {
        history = history;
        legal = tale.legal;
        has = (tale.own, told_have history v.view.told tale.told);
        only = none_other v.view.shape.passes history ours;
      },
      refl,
    ) in subst P same at

pub whole_tale : (layout : Layout) (v : Caller) (t : SeenSide) → ViewIsValid layout v.view
    → HasOrderedTale (seen_standing layout v t)
whole_tale layout v t stands =
    let w = whole_told layout v v.view.shape stands.history refl stands.tale stands.ours in
    record {
      whole = w.0;
      orders = subst (λ (l : List Entry). Each (Before l) v.view.orders) (sym w.1) stands.tale.orders;
    }

-- ---- a tale of all passes

abbrev named : ℕ → List ℕ → Bool
named a [] = false
named a (x ∷ xs) = (x == a) || named a xs

named_last : (a : ℕ) (xs : List ℕ) (x : ℕ) → named a (xs ++ x ∷ []) ≡ named a xs || (x == a)
named_last a [] x = go (x == a)
  where
    go : (b : Bool) → (b || false) ≡ (false || b)
    go true = refl
    go false = refl
named_last a (y ∷ ys) x = ap (λ b. (y == a) || b) (named_last a ys x) ∙ go (y == a) (named a ys) (x == a)
  where
    go : (b c d : Bool) → (b || (c || d)) ≡ ((b || c) || d)
    go true c d = refl
    go false c d = refl

all_named : (n a : ℕ) → a < n → named a (passes_below n) ≡ true
all_named zero a below = absurd (let e : a < 0 = below in omega (arith, e))
all_named (suc n) a below = named_last a (passes_below n) n
    ∙ go (n == a) refl (λ differ. all_named n a (let e : a < suc n = below in let d = differ in
    grind (arith, nat_tests)))
  where
    either : (b : Bool) → (b || true) ≡ true
    either true = refl
    either false = refl

    go : (b : Bool) → (n == a) ≡ b → ((n == a) ≡ false → named a (passes_below n) ≡ true)
        → (named a (passes_below n) || b) ≡ true
    go true is rest = either (named a (passes_below n))
    go false is rest = ap (λ c. c || false) (rest is)

names_named : (a : ℕ) (ts : List Told) → names_told a ts ≡ named a (map told_pass (map log_told ts))
names_named a [] = refl
names_named a (t ∷ ts) = ap (λ b. (t.pass == a) || b) (names_named a ts)

pub tale_is_whole : (layout : Layout) (v : Caller) → map told_pass (tale_told (seen_of_caller layout v))
    ≡ passes_below v.view.shape.passes → IsWhole v.view
tale_is_whole layout v all a below = ap (λ b. (v.view.pass == a) || b) (names_named a v.view.told)
    ∙ (ap (named a) all ∙ all_named v.view.shape.passes a below)
