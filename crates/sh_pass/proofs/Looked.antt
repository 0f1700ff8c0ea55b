-- What a look at a key does, by what it found.
use Rattle.std.proofs.Common.{◌≡◌, ℕ, List, None, Some, Ok, refl, ap}
use Rattle.std.specs.Prelude.{is_some}
use Rattle.atomic_table.specs.declared.shared.Seat.{Seat}
use Rattle.sh_key.specs.Layout.{Layout}
use Rattle.sh_slots.specs.declared.hand.Hand.TheVariants.{Idle}
use Rattle.sh_slots.specs.declared.hand.KeyRef.{KeyRef}
use Rattle.sh_step.specs.Moves.{place_named}
use Rattle.sh_step.specs.Plans.{plan_of}
use Rattle.sh_table.specs.declared.view.View.{View}
use Rattle.sh_table.specs.Seats.{Heap, IsSeat}
use Rattle.sh_table.specs.Views.{HeardOfInsert}
use Rattle.sh_pass.specs.declared.looking.Glance.{Glance}
use Rattle.sh_pass.specs.declared.looking.Glance.TheVariants.{Seen, Gone, Early}
use Rattle.sh_pass.specs.Deciding.{Stepped, LooksDecide, LookDecided}
use Rattle.sh_pass.specs.Looking.{LookGrows}
use Rattle.sh_pass.specs.Owners.{CallLeaves}
use Rattle.sh_pass.specs.Passes.{GlanceDoes, caller_of, heap_of}
use Rattle.sh_pass.specs.Rooms.{TakesSeen}
use Rattle.sh_pass.proofs.DecidedLaws.{of_key}
use Rattle.sh_pass.proofs.HeldLaws.{adds_of, same_home}
use Rattle.sh_pass.proofs.OwnCalls.{leaves_grown}

pub glance_does : {layout : Layout} {heap : Heap} {t u : Seat (Unit {0}) View} {M : Type 0}
    (takes : M → List ℕ → M → Type 0) (k : ℕ) (x : KeyRef) (found : Glance) (before after : M) (value : List ℕ)
    → IsSeat layout heap t → IsSeat layout heap u → place_named (plan_of layout t.me.0.shape) k ≡ Some x
    → LookGrows k found value t.me.0 u.me.0 → Stepped (LooksDecide k x found) t.me.0 u.me.0
    → (found ≡ Early → ¬ HeardOfInsert t.me.0 k) → TakesSeen takes found before value after
    → GlanceDoes takes layout k (caller_of t) before (Ok found) after (caller_of u)
glance_does {layout} {t = t} {u = u} takes k x Seen before after value seat seat' named grows decides unheard put = (
  value,
  (
    ap is_some named,
    adds_of (heap_of t) (heap_of u) _ (LookDecided (plan_of layout t.me.0.shape) k Seen) (same_home seat seat') refl
        grows (of_key t.me.0 u.me.0 (plan_of layout t.me.0.shape) k (λ y. LooksDecide k y Seen) x named decides),
  ),
  put,
)
glance_does {layout} {t = t} {u = u} takes k x Gone before after value seat seat' named grows decides unheard put = (
  (
    ap is_some named,
    adds_of (heap_of t) (heap_of u) _ (LookDecided (plan_of layout t.me.0.shape) k Gone) (same_home seat seat') refl
        grows (of_key t.me.0 u.me.0 (plan_of layout t.me.0.shape) k (λ y. LooksDecide k y Gone) x named decides),
  ),
  put,
)
glance_does {layout} {t = t} {u = u} takes k x Early before after value seat seat' named grows decides unheard put = (
  (
    ap is_some named,
    adds_of (heap_of t) (heap_of u) _ (LookDecided (plan_of layout t.me.0.shape) k Early) (same_home seat seat') refl
        grows (of_key t.me.0 u.me.0 (plan_of layout t.me.0.shape) k (λ y. LooksDecide k y Early) x named decides),
  ),
  unheard refl,
  put,
)

-- nothing of the pass's own shard changes
pub glance_leaves : {layout : Layout} {heap : Heap} (t u : Seat (Unit {0}) View) (k : ℕ) (found : Glance)
    (value : List ℕ) → t.me.0.own.body.hand ≡ Idle → IsSeat layout heap u → LookGrows k found value t.me.0 u.me.0
    → CallLeaves layout None (caller_of t) (caller_of u)
glance_leaves {layout} t u k Seen value idle seat grows =
    leaves_grown layout (caller_of t) (caller_of u) None grows
    (record { owned = refl; classes = refl; mine = refl; cursors = refl; armed = refl; bell = refl }) refl idle tt
    seat.stands
glance_leaves {layout} t u k Gone value idle seat grows =
    leaves_grown layout (caller_of t) (caller_of u) None grows
    (record { owned = refl; classes = refl; mine = refl; cursors = refl; armed = refl; bell = refl }) refl idle tt
    seat.stands
glance_leaves {layout} t u k Early value idle seat grows =
    leaves_grown layout (caller_of t) (caller_of u) None grows
    (record { owned = refl; classes = refl; mine = refl; cursors = refl; armed = refl; bell = refl }) refl idle tt
    seat.stands
