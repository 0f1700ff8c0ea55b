-- From the seat of an owner to what a contract sees of it, and back.
use Rattle.std.proofs.Common.{◌≡◌, ℕ, sym, subst}
use Rattle.atomic_table.specs.declared.shared.Seat.{Seat}
use Rattle.sh_key.specs.Layout.{Layout}
use Rattle.sh_step.specs.declared.action.Action.{Action}
use Rattle.sh_step.specs.declared.moves.Move.{Move}
use Rattle.sh_table.specs.declared.view.View.{View}
use Rattle.sh_table.specs.Seats.{Heap, IsSeat, CanDo, Did}
use Rattle.sh_table.specs.Steps.{MayDo}
use Rattle.sh_table.specs.Tales.{ViewIsValid}
use Rattle.sh_pass.specs.Passes.{Caller, caller_of}
use Rattle.sh_pass.specs.Owners.{OwnerDid}
use Rattle.sh_pass.proofs.HeldLaws.{same_home}

pub can : {layout : Layout} {heap : Heap} {t : Seat (Unit {0}) View} (v : Caller) (x : Action) (m : Move) → caller_of t
    ≡ v → IsSeat layout heap t → MayDo layout v.view x m → CanDo layout heap x m t
can {layout} v x m is s e = record { seat = s; may = subst (λ (z : Caller). MayDo layout z.view x m) (sym is) e }

pub does : {layout : Layout} {heap : Heap} {x : Action} {m : Move} {n : ℕ} {t u : Seat (Unit {0}) View} (v : Caller)
    → caller_of t ≡ v → IsSeat layout heap t → Did layout heap x m n t u → OwnerDid layout x m n v (caller_of u)
does {layout} {heap} {x} {m} {n} {t} {u} v is s d =
    let P : Caller → Type 0 = λ z. OwnerDid layout x m n z (caller_of u) in
    subst P is (record {
      heap = same_home s d.seat;
      view = d.view;
      fits = d.fits;
      says = d.says;
      stands = d.seat.stands;
    })

pub stood : {layout : Layout} {heap : Heap} {t : Seat (Unit {0}) View} (v : Caller) → caller_of t ≡ v
    → IsSeat layout heap t → ViewIsValid layout v.view
stood {layout} v is s = subst (λ (z : Caller). ViewIsValid layout z.view) is s.stands

-- a seat of the heap, if the heap has that inside
pub seat_at : {layout : Layout} {inside heap : Heap} {t : Seat (Unit {0}) View} → inside ≡ heap → IsSeat layout heap t
    → IsSeat layout inside t
seat_at {layout} {t = t} is s = subst (λ h. IsSeat layout h t) (sym is) s
