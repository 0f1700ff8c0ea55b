-- What calls on a key share: what the history says of the key, and the answer if there is no key.
use Rattle.std.proofs.Common.{◌≡◌, ℕ, ◌⊎◌, inl, inr, Bool, true, false, List}
use Rattle.std.proofs.Common.{refl, ap, sym, ◌∙◌, subst, Option, Some, None, Result, Ok, Err}
use Rattle.std.specs.Prelude.{is_some, nat_lt}
use Rattle.sh_value.specs.declared.refusal.Refusal.TheVariants as refusal
use Rattle.sh_key.specs.Layout.{Layout, unpacked}
use Rattle.sh_key.specs.declared.parts.Parts.{Parts}
use Rattle.sh_shape.specs.Shape.{Numbers}
use Rattle.sh_step.specs.Moves.{has_place}
use Rattle.sh_history.specs.declared.entry.Entry.{Entry}
use Rattle.sh_history.specs.History.{value_of, is_removed, present_value, holds_by}
use Rattle.sh_history.specs.Log.{logged_holds_by}
use Rattle.sh_script.specs.BoundNames.{name_referred}
use Rattle.sh_script.specs.declared.calls.Reference.{Reference}
use Rattle.sh_script.specs.declared.calls.Call.{Call}
use Rattle.script_output.specs.declared.answer.Answer.{Answer}
use Rattle.script_output.specs.declared.answer.Answer.TheVariants as answer
use Rattle.script_calls.specs.Parts.{PassPart, is_placed_key}
use Rattle.script_calls.specs.Calls.{OnKey, key_meant}
use Rattle.script_calls.specs.InOrder.{adds_entry}
use Rattle.script_calls.specs.Runs.{number_bound}
use Rattle.script_beside.specs.Beside.{WherePlaced}
use Rattle.sh_history.proofs.LogHolds.{holds_by_log}
use Rattle.script_calls.proofs.GrowLemmas.{no_key}
use Rattle.script_beside.proofs.Names.{AreNames, key_by, same_meant}
use Rattle.script_beside.proofs.Turns.{Turn, Ready, plain_before, plain_after, run_kept}

-- ---- what the history says of a key

pub present_here : (es : List Entry) (key : ℕ) (value : List ℕ) → value_of es key ≡ Some value
    → is_removed es key ≡ false
    → present_value es key ≡ Some value
present_here es key value e f = rw (f, e) refl

pub present_gone : (es : List Entry) (key : ℕ) → (value_of es key ≡ None) ⊎ (is_removed es key ≡ true)
    → present_value es key ≡ None
present_gone es key (inr e) = rw e refl
present_gone es key (inl e) = go (is_removed es key) refl
  where
    go : (b : Bool) → is_removed es key ≡ b → present_value es key ≡ None
    go true f = rw f refl
    go false f = rw (f, e) refl

-- a key with a place is one of the layout
pub placed_is_key : (layout : Layout) (shape : Numbers) (key : ℕ) → is_placed_key layout shape key ≡ true
    → is_some (unpacked layout key) ≡ true
placed_is_key layout shape key e = go (unpacked layout key) refl
  where
    go : (o : Option Parts) → unpacked layout key ≡ o → is_some (unpacked layout key) ≡ true
    go (Some p) f = ap is_some f
    go None f = absurd (let z : false ≡ true = subst (λ (x : Option Parts). elim x as (λ _. Bool) [
      | Some p ↦ has_place
          shape p
      | None ↦ false
    ] ≡ true) f e in cc)

-- ---- a call on a key

-- the key that the call is on, in mode plain's run, and in the lines of the running heap
abbrev pub key_here : Turn → Reference → Result ℕ Answer
key_here t r = key_by t.tag t.keys r

abbrev pub number_here : Turn → Reference → Option ℕ
number_here t r = number_bound t.numbers (name_referred r)

abbrev pub heap_key : Turn → Reference → Result ℕ Answer
heap_key t r = key_meant t.tag (number_here t r) r

-- what is found both if there is no key and if there is one
pub by_key : (t : Turn) (r : Reference) (a : Answer) (Does : ℕ → Answer → PassPart → Type 0) (Goal : Type 0)
    → AreNames t.tag t.keys t.numbers
    → ((b : Answer) → key_here t r ≡ Err b → heap_key t r ≡ Err b → a ≡ b → t.w ≡ t.v → Goal)
    → ((key : ℕ) → key_here t r ≡ Ok key → Does key a t.w → Goal) → OnKey (heap_key t r) t.v Does a t.w → Goal
by_key t r a Does Goal names none some h = go (key_here t r) refl (sym (same_meant t.tag t.keys t.numbers r names))
  where
    go : (k : Result ℕ Answer) → key_here t r ≡ k → heap_key t r ≡ key_here t r → Goal
    go (Err b) e f =
        let d = subst (λ (z : Result ℕ Answer). OnKey z t.v Does a t.w) (f ∙ e) h in none b e (f ∙ e) d.0 d.1
    go (Ok key) e f = some key e (subst (λ (z : Result ℕ Answer). OnKey z t.v Does a t.w) (f ∙ e) h)

module _ (t : Turn) (c : Call) (a : Answer) (ready : Ready t c a) where
  -- without a key no entry is added
  pub keyless : (r : Reference) (b : Answer) → adds_entry c answer.Unbound ≡ false
      → adds_entry c (answer.Refused refusal.BadKey) ≡ false → heap_key t r ≡ Err b → a ≡ b → adds_entry c a ≡ false
  keyless r b unbound bad e is = ap (adds_entry c) is
      ∙ no_key (adds_entry c) unbound bad t.tag (number_here t r) r b e

  -- to the heap a number without a place is no key
  pub placeless : (key : ℕ) (Does : Type 0) → is_placed_key t.terms.layout t.terms.shape key ≡ false
      → a ≡ answer.Refused refusal.BadKey → adds_entry c a ≡ false
      → WherePlaced t.terms.layout t.terms.shape (Ok key) Does (plain_before t) a (plain_after t)
  placeless key Does f is none = rw f (is, run_kept t c a ready none)

  -- what the log of the pass says of its holds on the key, the history says too
  pub held_so : (key : ℕ) (b : Bool) → nat_lt 0 (logged_holds_by t.v.log t.pass key) ≡ b
      → nat_lt 0 (holds_by t.before t.pass key) ≡ b
  held_so key b f = ap (nat_lt 0) (sym (holds_by_log t.pass t.v.log t.before ready.log key)) ∙ f
