-- A page that gained a slot comes back from the full queue.
use Rattle.std.proofs.Common.{◌≡◌, ℕ, ◌-◌, ◌||◌, ◌⊎◌, ⊎_elim, true, false, cond, Option, Some, None, refl, ap, ◌∙◌}
use Rattle.std.proofs.Common.{sym, eq-eqb}
use Rattle.std.proofs.lemmas.Bool.{false≢true}
use Rattle.sh_queue.specs.Numbers.{has_number}
use Rattle.sh_queue.specs.Queues.{PageQueues, at_back}
use Rattle.sh_pass.specs.Owners.{SeenPage}
use Rattle.sh_shard.specs.Pages.{Paged, page_at, seen_class, GainsSlot}
use Rattle.sh_shard.specs.Turning.{come_back}
use Rattle.sh_shard.specs.Shards.{FullPage, ReturnsPage, ReturnsSlot}
use Rattle.sh_shard.specs.Returning.{ReturnsGained}

-- a page that gained a slot is not full
gained_not_full : (p : ℕ) (o n : Paged) → GainsSlot (Some p) o n → FullPage (page_at n p) → ⊥
gained_not_full p o n k f = false≢true (sym (f.mine k.here.0)
    ∙ (ap (λ (g : SeenPage). g.mine k.here.0) k.here.1
    ∙ ap (λ b. b || (page_at o p).mine k.here.0) (eq-eqb k.here.0 k.here.0 refl)))

came_back : (p : ℕ) (o n : Paged) (q r : PageQueues) → GainsSlot (Some p) o n → ReturnsPage p n q r
    → r ≡ come_back p n q
came_back p o n q r k why = ⊎_elim
    (λ (h : (r ≡ q) × ((has_number p q.full ≡ false) ⊎ FullPage (page_at n p))). ⊎_elim
    (λ (no : has_number p q.full ≡ false).
    h.0 ∙ sym (ap (λ b. cond b (at_back (seen_class (page_at n p) - 1) p q) q) no))
    (λ (f : FullPage (page_at n p)). absurd (gained_not_full p o n k f))
    h.1)
    (λ (h : (has_number p q.full ≡ true) × (r ≡ at_back (seen_class (page_at n p) - 1) p q)
    × (¬ FullPage (page_at n p))).
    h.1 ∙ sym (ap (λ b. cond b (at_back (seen_class (page_at n p) - 1) p q) q) h.0))
    why

pub returns_slot : (gained : Option ℕ) (o n : Paged) (q r : PageQueues) → GainsSlot gained o n
    → ReturnsGained gained n q r
    → ReturnsSlot (record { pages = o; queues = q }) (record { pages = n; queues = r })
returns_slot None o n q r k moved = record { gained = None; slot = k; queues = moved }
returns_slot (Some p) o n q r k moved = record { gained = Some p; slot = k; queues = came_back p o n q r k moved }
