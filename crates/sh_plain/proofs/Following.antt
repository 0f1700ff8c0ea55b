-- The entry that a call of a plain store adds may follow those before it, so the store's book stays that of a legal
-- history.
use Rattle.std.proofs.Common.{◌≡◌, ℕ, Bool, true, false, cond, Option, Some, None, Ok, Err, Result, refl, sym, subst}
use Rattle.std.proofs.Common.{ltb-true}
use Rattle.std.specs.Prelude.{nat_lt}
use Rattle.sh_value.specs.declared.refusal.Refusal.{Refusal}
use Rattle.sh_value.specs.declared.refusal.Refusal.TheVariants as refusal
use Rattle.sh_key.specs.Layout.{Layout}
use Rattle.sh_history.specs.declared.entry.Entry.{Entry}
use Rattle.sh_history.specs.declared.entry.Entry.TheVariants.{Released}
use Rattle.sh_history.specs.History.{Allowed, Legal, holds_by}
use Rattle.sh_history.proofs.Laws.{legal_more}
use Rattle.sh_plain.specs.Plain.{Plain, PlainReply, Replied, refused, release_reply, with_added, plain_book}
use Rattle.sh_plain.specs.Plain.{plain_setting}
use Rattle.sh_plain.specs.Store.{IsBook}
use Rattle.sh_plain.proofs.Held.{legal_stands}

-- the entry, if there is one, may follow those of the store
abbrev pub MayFollow : ℕ → Plain → Option Entry → Type 0
MayFollow guard_max s None = Unit {0}
MayFollow guard_max s (Some e) = Allowed s.passes guard_max s.entries e

legal_added : (guard_max : ℕ) (s : Plain) (adds : Option Entry) → Legal s.passes guard_max s.entries
    → MayFollow guard_max s adds → Legal (with_added s adds).passes guard_max (with_added s adds).entries
legal_added guard_max s None legal may = legal
legal_added guard_max s (Some e) legal may = legal_more s.passes guard_max s.entries e legal may

module _ (layout : Layout) (s t : Plain) (legal : Legal s.passes layout.guard_max s.entries) where
  stands_added : (adds : Option Entry) → MayFollow layout.guard_max s adds → t ≡ with_added s adds
      → IsBook (plain_setting layout t) (plain_book t)
  stands_added adds may is = subst (λ (z : Plain). IsBook (plain_setting layout z) (plain_book z)) (sym is)
      (legal_stands layout (with_added s adds) (legal_added layout.guard_max s adds legal may))

  stands_same : t ≡ s → IsBook (plain_setting layout t) (plain_book t)
  stands_same is = subst (λ (z : Plain). IsBook (plain_setting layout z) (plain_book z)) (sym is)
      (legal_stands layout s legal)

-- after a call whose entry may follow
pub replied_stands : {A : Type 0} (layout : Layout) (reply : PlainReply A) (s t : Plain) (result : Result A Refusal)
    → Legal s.passes layout.guard_max s.entries → MayFollow layout.guard_max s reply.adds → Replied reply s result t
    → IsBook (plain_setting layout t) (plain_book t)
replied_stands layout reply s t (Ok x) legal may h = stands_added layout s t legal reply.adds may h.1
replied_stands layout reply s t (Err refusal.Memory) legal may h = stands_same layout s t legal h.1
replied_stands layout reply s t (Err r) legal may h = stands_added layout s t legal reply.adds may h.1

pub release_may : (guard_max : ℕ) (s : Plain) (key : ℕ) → MayFollow guard_max s (release_reply s key).adds
release_may guard_max s key = go (nat_lt 0 (holds_by s.entries s.pass key)) refl where
  released : PlainReply (Unit {0})
  released = record { answer = Ok tt; adds = Some (Released s.pass key) }

  go : (b : Bool) → nat_lt 0 (holds_by s.entries s.pass key) ≡ b
      → MayFollow guard_max s (cond b released (refused refusal.NotHeld)).adds
  go true held = ltb-true _ _ held
  go false held = tt
