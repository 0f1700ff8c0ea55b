-- Passes that meet: the heap, the shape and the passes that the last one's tale names in the end.
use Rattle.std.proofs.Common.{◌≡◌, ℕ, ◌<◌, ◌||◌, ◌==◌, Bool, true, false, List, [], ◌∷◌, ◌++◌, refl, sym, ap, ◌∙◌}
use Rattle.std.proofs.Common.{subst}
use Rattle.std.proofs.Math.Bool.{or_assoc, or_comm}
use Rattle.sh_table.specs.Seats.{Heap}
use Rattle.sh_table.specs.declared.view.View.{View}
use Rattle.sh_table.specs.Views.{joined_view, names, names_told, told_of}
use Rattle.sh_table.specs.Whole.{IsWhole}
use Rattle.sh_pass.specs.Passes.{AreAll, AreOf, Caller, named_by}
use Rattle.sh_gather.specs.Gathering.{met_view}
use Rattle.sh_pass.proofs.Tales.{names_append}
use Rattle.sh_pass.proofs.Together.{named_behind}

names_joined : (a : ℕ) (v w : View) → names (joined_view v w) a ≡ names v a || names w a
names_joined a v w = ap (λ b. (v.pass == a) || b) (names_append a v.told (told_of w ∷ w.told))
    ∙ sym (or_assoc (v.pass == a) (names_told a v.told) (names w a))

or_false : (b : Bool) → b || false ≡ b
or_false true = refl
or_false false = refl

names_met : (a : ℕ) (v : View) (ps : List Caller) → names (met_view v ps) a ≡ names v a || named_by ps a
names_met a v [] = sym (or_false (names v a))
names_met a v (p ∷ ps) = names_met a (joined_view v p.view) ps ∙ (ap (λ b. b || named_by ps a) (names_joined a v p.view)
    ∙ or_assoc (names v a) (names p.view a) (named_by ps a))

shape_met : (v : View) (ps : List Caller) → (met_view v ps).shape ≡ v.shape
shape_met v [] = refl
shape_met v (p ∷ ps) = shape_met (joined_view v p.view) ps

-- if the tales of all passes together name each pass, so does that of the last pass after it took in the others
pub all_met : (heap : Heap) (others : List Caller) (last : Caller) → last.view.shape ≡ heap.shape
    → AreAll heap (others ++ last ∷ []) → IsWhole (met_view last.view others)
all_met heap others last shape all a l =
    names_met a last.view others ∙ (or_comm (names last.view a) (named_by others a)
    ∙ (sym (named_behind others last a)
    ∙ all a (subst (λ n. a < n) (ap (λ s. s.passes) (shape_met last.view others ∙ shape)) l)))

-- all but the last are of the heap too
pub front_is_of : (heap : Heap) (others : List Caller) (last : Caller) → AreOf heap (others ++ last ∷ [])
    → AreOf heap others × (last.heap ≡ heap)
front_is_of heap [] last all = (tt, all.0)
front_is_of heap (p ∷ others) last all =
    let rest = front_is_of heap others last all.1 in ((all.0, rest.0), rest.1)
