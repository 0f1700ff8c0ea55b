-- Several passes: which passes their tales name, and that the first passes of a heap belong to it.
use Rattle.std.proofs.Common.{◌≡◌, ℕ, ◌<◌, ◌||◌, ◌+◌, cond, zero, suc, List, [], ◌∷◌, ◌++◌, take, length, max, bit_or}
use Rattle.std.proofs.Common.{refl, sym, ap, ◌∙◌, get_or}
use Rattle.std.specs.Int.{bit_at}
use Rattle.std.proofs.lemmas.Nat.Bits.{bit_at_or}
use Rattle.std.proofs.lemmas.List.{take_more}
use Rattle.std.proofs.Math.Bool.{or-false, or_assoc}
use Rattle.sh_table.specs.Seats.{Heap}
use Rattle.sh_table.specs.Views.{Each, names}
use Rattle.sh_pass.specs.Passes.{AreOf, Caller, IsTally, named_by, newcomers}
use Rattle.sh_pass.proofs.Tales.{max_or}

pub named_behind : (ps : List Caller) (p : Caller) (a : ℕ) → named_by (ps ++ p ∷ []) a ≡ named_by ps a || names p.view a
named_behind [] p a = or-false (names p.view a)
named_behind (q ∷ ps) p a = ap (λ b. names q.view a || b) (named_behind ps p a)
    ∙ sym (or_assoc (names q.view a) (named_by ps a) (names p.view a))

-- the bits of one pass more
pub named_more : (ps : List Caller) (i m n a : ℕ) (p : Caller) → i < length ps → p ≡ get_or ps i p → IsTally n p.view
    → bit_at m a ≡ cond (named_by (take i ps) a) 1 0
    → bit_at (bit_or m n) a ≡ cond (named_by (take (i + 1) ps) a) 1 0
named_more ps i m n a p l is tally so_far =
    let behind : take (i + 1) ps ≡ take i ps ++ p ∷ [] = take_more ps i p l ∙ ap (λ q. take i ps ++ q ∷ []) (sym is) in
    bit_at_or m n a ∙ (ap (λ x. max x (bit_at n a)) so_far
    ∙ (ap (λ y. max (cond (named_by (take i ps) a) 1 0) y) (tally a)
    ∙ (max_or (named_by (take i ps) a) (names p.view a) ∙ ap (λ b. cond b 1 0) (sym (named_behind (take i ps) p a)
    ∙ ap (λ qs. named_by qs a) (sym behind)))))

each_behind : {A : Type 0} (P : A → Type 0) (xs : List A) (x : A) → Each P xs → P x → Each P (xs ++ x ∷ [])
each_behind P [] x all is = (is, tt)
each_behind P (y ∷ ys) x all is = (all.0, each_behind P ys x all.1 is)

pub newcomers_are_of : (heap : Heap) (n : ℕ) → AreOf heap (newcomers heap n)
newcomers_are_of heap zero = tt
newcomers_are_of heap (suc n) = each_behind (λ p. p.heap ≡ heap) (newcomers heap n) _ (newcomers_are_of heap n) refl
