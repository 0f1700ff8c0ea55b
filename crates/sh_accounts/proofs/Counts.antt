-- Slots are counted one by one, each by what it is.
use Rattle.std.proofs.Common.{◌≡◌, ℕ, zero, suc, ◌+◌, refl, arith, Some}
use Rattle.sh_slots.specs.declared.hand.SlotRef.{SlotRef}
use Rattle.sh_slots.specs.Slots.{slot_refs}
use Rattle.sh_step.specs.Collections.{total, if1}
use Rattle.sh_core.specs.Kept.{KeptWorld}
use Rattle.sh_core.specs.Lists.{among}
use Rattle.sh_accounts.specs.declared.kinds.SlotKind.TheVariants.{Live, Marked, Retired, Mine, Hand, Queued}
use Rattle.sh_accounts.specs.Kinds.{is, with_one}
use Rattle.sh_accounts.specs.Accounts.{no_slots, counted, kind_in}

-- the sum over one slot more, from slot s on
last : (q : ℕ) (f : SlotRef → ℕ) (s n : ℕ) → total f (slot_refs q s (suc n))
    ≡ total f (slot_refs q s n) + f (record { page = q; slot = s + n })
unfolding total slot_refs
last q f s zero = let e : s + 0 ≡ s = omega arith in rw e (omega arith)
last q f s (suc n) =
    let e : s + suc n ≡ s + 1 + n = omega arith in
    let r = last q f (s + 1) n in rw e (omega arith)

pub among_more : (q : ℕ) (f : SlotRef → ℕ) (n : ℕ) → among q f (n + 1) ≡ among q f n + f (record { page = q; slot = n })
among_more q f n = let e : n + 1 ≡ suc n = omega arith in let z : 0 + n ≡ n = omega arith
    in rw e (rw z at (last q f 0 n))

pub counted_none : (k : KeptWorld) (q class : ℕ) → counted k q class 0 ≡ no_slots (Some class)
unfolding counted total slot_refs
counted_none k q class = refl

pub counted_more : (k : KeptWorld) (q class n : ℕ) → counted k q class (n + 1)
    ≡ with_one (counted k q class n) (kind_in k (record { page = q; slot = n }))
unfolding counted
counted_more k q class n =
    let a = among_more q (λ x. if1 (is Live (kind_in k x))) n in
    let b = among_more q (λ x. if1 (is Marked (kind_in k x))) n in
    let c = among_more q (λ x. if1 (is Retired (kind_in k x))) n in
    let d = among_more q (λ x. if1 (is Mine (kind_in k x))) n in
    let e = among_more q (λ x. if1 (is Hand (kind_in k x))) n in
    let f = among_more q (λ x. if1 (is Queued (kind_in k x))) n in
    rw (a, b, c, d, e, f) refl
