-- Pages that are asked one after the other: what is known once the first n were asked.
use Rattle.std.proofs.Common.{◌≡◌, ℕ, ◌+◌, ◌<◌, ◌⊎◌, inl, inr, Bool, List, ◌++◌, refl, sym, ◌∙◌}
use Rattle.std.proofs.Common.{subst, arith, append-nil}
use Rattle.std.specs.List.{flat_map, range_with_len}
use Rattle.std.proofs.Math.Nat.{eq-or-lt_of_le}
use Rattle.sh_key.specs.Layout.{Layout}
use Rattle.sh_shape.specs.Shape.{Numbers}
use Rattle.sh_step.specs.declared.action.Event.{Event}
use Rattle.sh_step.specs.Plans.{plan_of}
use Rattle.sh_core.specs.declared.accounts.Accounts.{Accounts}
use Rattle.script_output.specs.AccountLines.{Later, accounts_after}
use Rattle.script_output.proofs.RangeLemmas.{texts_more}

pub later_same : {A : Type 0} (fixed : Bool) (numbers : A → Numbers) (leads : A → List Event → Type 0)
    (says : A → ℕ → Accounts → Type 0) (w : A) → Later fixed numbers leads says w w
later_same fixed numbers leads says w =
    record { is_fixed = λ _. refl; same = refl; narrows = λ es l. l; keeps = λ q a s. s }

pub later_next : {A : Type 0} (fixed : Bool) (numbers : A → Numbers) (leads : A → List Event → Type 0)
    (says : A → ℕ → Accounts → Type 0) (u v w : A) → Later fixed numbers leads says u v
    → Later fixed numbers leads says v w → Later fixed numbers leads says u w
later_next fixed numbers leads says u v w h k = record {
  is_fixed = λ f. k.is_fixed f ∙ h.is_fixed f;
  same = k.same ∙ h.same;
  narrows = λ es l. h.narrows es (k.narrows es l);
  keeps = λ q a s. k.keeps q a (h.keeps q a s);
}

-- from the first state to this one, the first n texts were added, each by the accounts after events that lead here, and
-- what is said of each part still holds
pub record ToldSoFar {A : Type 0} (fixed : Bool) (numbers : A → Numbers) (leads : A → List Event → Type 0)
    (says : A → ℕ → Accounts → Type 0) (layout : Layout) (text : (ℕ → Accounts) → ℕ → List ℕ)
    (Said : (ℕ → Accounts → Type 0) → (ℕ → Accounts) → ℕ → Type 0) (first now : A) (old out : List ℕ) (n : ℕ) :
    Type 0 where
  pub later : Later fixed numbers leads says first now
  pub reached : 0 < n → (events : List Event) × leads now events
  pub texts : (events : List Event) → leads now events → out
      ≡ old ++ flat_map (text (accounts_after (plan_of layout (numbers first)) events)) (range_with_len 0 n)
  pub said : (events : List Event) → leads now events → (i : ℕ) → i < n
      → Said (says now) (accounts_after (plan_of layout (numbers first)) events) i

module _ {A : Type 0} (fixed : Bool) (numbers : A → Numbers) (leads : A → List Event → Type 0)
    (says : A → ℕ → Accounts → Type 0) (layout : Layout) (text : (ℕ → Accounts) → ℕ → List ℕ)
    (Said : (ℕ → Accounts → Type 0) → (ℕ → Accounts) → ℕ → Type 0) (first : A) (old : List ℕ) where
  Told : A → List ℕ → ℕ → Type 0
  Told now out n = ToldSoFar fixed numbers leads says layout text Said first now old out n

  pub told_none : ToldSoFar fixed numbers leads says layout text Said first first old old 0
  told_none = record {
    later = later_same fixed numbers leads says first;
    reached = λ some. absurd (let e : 0 < 0 = some in omega (arith, e));
    texts = λ es l. sym (append-nil old);
    said = λ es l i below. absurd (let e : i < 0 = below in omega (arith, e));
  }

  pub told_more : (v w : A) (out more : List ℕ) (n : ℕ)
      → ((P Q : ℕ → Accounts → Type 0) → ((q : ℕ) (a : Accounts) → P q a → Q q a) → (of_page : ℕ → Accounts) (i : ℕ)
      → Said P of_page i → Said Q of_page i)
      → ToldSoFar fixed numbers leads says layout text Said first v old out n → Later fixed numbers leads says v w
      → (events : List Event) × leads w events
      → ((events : List Event) → leads w events
      → more ≡ out ++ text (accounts_after (plan_of layout (numbers first)) events) n)
      → ((events : List Event) → leads w events
      → Said (says w) (accounts_after (plan_of layout (numbers first)) events) n)
      → ToldSoFar fixed numbers leads says layout text Said first w old more (n + 1)
  told_more v w out more n widens h k reached one said = record {
    later = later_next fixed numbers leads says first v w h.later k;
    reached = λ some. reached;
    texts = λ es l. texts_more (text (accounts_after (plan_of layout (numbers first)) es)) n old out more
        (h.texts es (k.narrows es l)) (one es l);
    said = λ es l i below. go es l i (eq-or-lt_of_le (let e : i < n + 1 = below in omega (arith, e)));
  }
    where
      go : (es : List Event) → leads w es → (i : ℕ) → (i ≡ n) ⊎ (i < n)
          → Said (says w) (accounts_after (plan_of layout (numbers first)) es) i
      go es l i (inr before) = widens (says v) (says w) k.keeps (accounts_after (plan_of layout (numbers first)) es) i
          (h.said es (k.narrows es l) i before)
      go es l i (inl is) = subst (Said (says w) (accounts_after (plan_of layout (numbers first)) es)) (sym is)
          (said es l)
