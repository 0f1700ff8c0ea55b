-- The name of a kind of action is read as that kind, and no other word is.
use Rattle.std.proofs.Common.{◌≡◌, Bool, true, false, List, [], ◌∷◌, cond, Some, refl, sym, subst}
use Rattle.std.specs.List.{find}
use Rattle.std.specs.Str.{bytes_eq}
use Rattle.std.proofs.lemmas.Slice.Eq.{bytes_eq-Decides}
use Rattle.sh_step.specs.Kinds.{kind_name}
use Rattle.sh_step.specs.declared.kind.ActionKind.{ActionKind}
use Rattle.sh_step.specs.declared.kind.ActionKind.TheVariants as kind
use Rattle.sh_script.specs.Words.{Word}
use Rattle.sh_script.specs.EventLines.{kinds, kind_named}

found_passes : (p : ActionKind → Bool) (ks : List ActionKind) (k : ActionKind) → find p ks ≡ Some k → p k ≡ true
found_passes p [] k e = cc
found_passes p (x ∷ xs) k e = by (found_passes p xs k) (p x) refl e
  where
    by : (find p xs ≡ Some k → p k ≡ true) → (t : Bool) → p x ≡ t → cond t (Some x) (find p xs) ≡ Some k → p k ≡ true
    by next true h e = let P : ActionKind → Type 0 = λ y. p y ≡ true in subst P (same x k e) h
      where
        same : (x k : ActionKind) → Some x ≡ Some k → x ≡ k
        same x k e = cc
    by next false h e = next e

pub kind_is : (w : Word) (k : ActionKind) → kind_named w ≡ Some k → w ≡ kind_name k
kind_is w k e = sym ((bytes_eq-Decides (kind_name k) w).0 (found_passes (λ k. bytes_eq (kind_name k) w) kinds k e))

pub kind_gives : (k : ActionKind) → kind_named (kind_name k) ≡ Some k
kind_gives kind.Enter = refl
kind_gives kind.Mark = refl
kind_gives kind.Drop = refl
kind_gives kind.Finish = refl
kind_gives kind.Fill = refl
kind_gives kind.Publish = refl
kind_gives kind.Read = refl
kind_gives kind.SetClass = refl
kind_gives kind.Take = refl
kind_gives kind.Follow = refl
kind_gives kind.Put = refl
kind_gives kind.Tie = refl
kind_gives kind.Adopt = refl
kind_gives kind.Leave = refl
kind_gives kind.Arm = refl
kind_gives kind.Ring = refl
kind_gives kind.RingTie = refl
kind_gives kind.TakeBell = refl
kind_gives kind.FollowBell = refl
