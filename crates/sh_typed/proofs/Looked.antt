-- A look at a record.
use Rattle.std.proofs.Common.{◌≡◌, ℕ, List, Err, Option, Some, None, refl, subst}
use Rattle.std.specs.Prelude.{Result, IfNone, IfSome}
use Rattle.sh_value.specs.declared.refusal.Refusal.{Refusal}
use Rattle.sh_value.specs.declared.refusal.Refusal.TheVariants.{WrongKind}
use Rattle.sh_history.specs.declared.log.LogEntry.{LogEntry}
use Rattle.sh_plain.specs.Store.{Setting, LookLeaves}
use Rattle.sh_typed.specs.Typed.{AsRecord}

-- no store refuses it as a value of another kind: by the book, or by what holds without one
pub kind_of_look : (o : Option Setting) (L : Type 0) (key : ℕ) (book after : List LogEntry) (why : Refusal)
    → IfSome o (λ s. LookLeaves s key book (Err why) after) → IfNone o L → (L → why ≡ WrongKind → ⊥)
    → why ≡ WrongKind → ⊥
kind_of_look None L key book after why leaves law without is = without law is
kind_of_look (Some s) L key book after why leaves law without is =
    subst (λ (r : Refusal). LookLeaves s key book (Err r) after) is leaves

-- so the refusal is the store's
pub look_refused : {R : Type 0} (read : List ℕ → Option R) (does : Result (List ℕ) Refusal → Type 0) (why : Refusal)
    → (why ≡ WrongKind → ⊥) → does (Err why) → AsRecord read does (Err why)
look_refused read does WrongKind not did = absurd (not refl)
look_refused read does _ not did = did

-- the same in the book, if there is one
pub look_refused_there : {R : Type 0} (read : List ℕ → Option R) (o : Option Setting) (key : ℕ)
    (book after : List LogEntry) (why : Refusal) → (why ≡ WrongKind → ⊥)
    → IfSome o (λ s. LookLeaves s key book (Err why) after)
    → IfSome o (λ s. AsRecord read (λ answer. LookLeaves s key book answer after) (Err why))
look_refused_there read None key book after why kind leaves = tt
look_refused_there read (Some s) key book after why kind leaves =
    look_refused read (λ answer. LookLeaves s key book answer after) why kind leaves
