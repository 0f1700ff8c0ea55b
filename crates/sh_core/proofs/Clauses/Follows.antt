-- What follows from clauses of the theorem, in any world in which they hold.
use Rattle.std.proofs.Common.{◌≡◌, ℕ, zero, suc, ◌+◌, ◌-◌, ◌*◌, ◌<◌, ◌≤◌, true, sym, ◌∙◌, subst, refl, arith}
use Rattle.std.proofs.Common.{Option, Some, None, slice_get, le-ltb, lt-ltb}
use Rattle.std.specs.Prelude.{nat_lt}
use Rattle.sh_history.specs.History.{value_of}
use Rattle.sh_shape.specs.Classes.{slots, width}
use Rattle.sh_shape.proofs.ClassLaws.{slot_words_fit_page}
use Rattle.sh_slots.specs.declared.hand.KeyRef.{KeyRef}
use Rattle.sh_slots.specs.declared.hand.SlotRef.{SlotRef}
use Rattle.sh_slots.specs.Slots.{slot_ref_of, slot_refs}
use Rattle.sh_step.specs.declared.body.Body.{Body}
use Rattle.sh_step.specs.Collections.{total, if1, noted}
use Rattle.sh_step.specs.Plans.{Plan, shard_of}
use Rattle.sh_step.specs.Rows.{own}
use Rattle.sh_step.proofs.PartTests.{owns_is}
use Rattle.sh_core.specs.Bells.{armed_at}
use Rattle.sh_core.specs.Follows.{Filled, ReadsWithin, LeftEmpty}
use Rattle.sh_core.specs.InHeap.{ValuesFit}
use Rattle.sh_core.specs.Lists.{PutLists, accounts, mine_at, slots_under, state_of, times}
use Rattle.sh_core.specs.Refines.{OneKind, HeldKeysAreValid, NotesAreTrue, OneOwner, OwnPartsAreValid, kind_count, live}
use Rattle.sh_core.specs.Refines.{marked, retired, mine, in_hands}
use Rattle.sh_core.specs.Stacks.{slot_ref, cursor_at}
use Rattle.sh_core.specs.Worlds.{World, value_at}
use Rattle.sh_core.proofs.Kept.WordNotes.{length-words}
use Rattle.sh_core.proofs.Sums.ClassSlots.{under_class}
use Rattle.sh_core.proofs.Sums.ListCounts.{not_noted}
use Rattle.sh_core.proofs.Sums.Totals.{total_plus, some_part}

-- ---- six kinds fill a page

-- the kinds of a slot of a page of class c
pub kinds_of : (w : World) (l : PutLists) → OneKind w l → (x : SlotRef) (c : ℕ) → w.words.class_at x.page ≡ c + 1
    → (x.slot < slots c → kind_count w l x ≡ 1) × (slots c ≤ x.slot → kind_count w l x ≡ 0)
kinds_of w l one x c is = (
  λ less. one x ∙ rw (is, lt-ltb x.slot (slots_under (c + 1)) (rw (under_class c) less)) refl,
  λ more. one x ∙ rw (is, le-ltb x.slot (slots_under (c + 1)) (rw (under_class c) more)) refl,
)

each_one : (f : SlotRef → ℕ) (q s n : ℕ) → ((t : ℕ) → s ≤ t → t < s + n → f (slot_ref q t) ≡ 1)
    → total f (slot_refs q s n) ≡ n
unfolding total slot_refs
each_one f q s zero h = refl
each_one f q s (suc n) h = let one = h s (omega arith) (omega arith)
    in let rest = each_one f q (s + 1) n (λ t a b. h t (omega arith) (omega arith)) in omega arith

pub filled : (w : World) (l : PutLists) → OneKind w l → Filled w l
unfolding accounts
filled w l one q =
    let n = slots_under (w.words.class_at q) in
    let xs = slot_refs q 0 n in
    let its : SlotRef → ℕ = λ x. live (state_of w x) in
    let ended : SlotRef → ℕ = λ x. marked (state_of w x) in
    let last : SlotRef → ℕ = λ x. retired (state_of w x) in
    let queue : SlotRef → ℕ = λ x. times x.slot (l.stack q) + times x.slot (l.chain q) in
    let p1 = total_plus its (λ x. ended x + (last x + (mine w x + (in_hands w x + queue x)))) xs in
    let p2 = total_plus ended (λ x. last x + (mine w x + (in_hands w x + queue x))) xs in
    let p3 = total_plus last (λ x. mine w x + (in_hands w x + queue x)) xs in
    let p4 = total_plus (mine w) (λ x. in_hands w x + queue x) xs in
    let p5 = total_plus (in_hands w) queue xs in
    let all : total (λ x. its x + (ended x + (last x + (mine w x + (in_hands w x + queue x))))) xs
    ≡ n = each_one (λ x. its x + (ended x + (last x + (mine w x + (in_hands w x + queue x))))) q 0 n
    (λ t a b. let k = one (slot_ref q t) in
    let has : if1 (nat_lt t n) ≡ 1 = rw (lt-ltb t n (omega arith)) refl in omega arith) in omega arith

-- ---- what may be read of a held key

pub reads : (plan : Plan) (w : World) → HeldKeysAreValid plan w → NotesAreTrue plan w → ValuesFit plan w
    → ReadsWithin plan w
unfolding value_at
reads plan w held notes values a p k n c m i at name class_is length_is less =
    let class = (notes a p at).class_words k c class_is in
    let long = (notes a p at).lengths k m length_is in
    let h = held a p k at class.0 in
    let same : h.name ≡ n = (let e : Some h.name ≡ Some n = sym h.unpacks ∙ name in cc) in
    let P : KeyRef → Type 0 = λ y. ((state_of w (slot_ref_of y)).present ≡ true)
    × (value_of w.log k ≡ Some (value_at w.words y.page y.slot)) in
    let there = subst P same (h.present, h.value) in
    let fits = values (slot_ref_of n) (rw there.0 refl) in
    let word = class.1 n name in
    let size : m ≡ w.words.length_at n.page n.slot = sym (long.1 (value_at w.words n.page n.slot) there.1)
    ∙ length-words (w.words.payload_at n.page) (n.slot * width (w.words.class_at n.page - 1))
    (w.words.length_at n.page n.slot) in
    let short = fits.4 in
    let Q : ℕ → Type 0 = λ z. n.slot * width (z - 1) + i < 48 in
    (sym word, size, subst Q word (slot_words_fit_page (w.words.class_at n.page - 1) n.slot i fits.3 (omega arith)))

-- ---- a left shard keeps nothing

module _ (plan : Plan) (w : World) (owners : OneOwner w) (parts : OwnPartsAreValid plan w) where
  -- what a pass has only of pages that it owns, no pass has of a left shard
  none_left : (f : Body → ℕ) (q : ℕ) → w.words.owner_at (shard_of plan q) ≡ 0
      → ((a : ℕ) (p : Body) → slice_get w.parts a ≡ Some p → 0 < f p → own plan p q ≡ true) → total f w.parts ≡ 0
  none_left f q free its = go (total f w.parts) (some_part f w.parts) where
    go : (n : ℕ) → (0 < n → (a : ℕ) × (p : Body) × (slice_get w.parts a ≡ Some p) × (0 < f p)) → n ≡ 0
    go zero some = refl
    go (suc n) some = absurd (
        let u = some (omega arith) in
        let owned = owns_is plan u.1 q (its u.0 u.1 u.2 u.3) in
        let word = owners.owner u.0 u.1 (shard_of plan q) u.2 owned in omega arith)

  pub left_empty : LeftEmpty plan w
  left_empty n free = (
    λ x h. none_left (mine_at x) x.page (left x.page h) (λ a p at some. ((parts a p at).mine x some).1),
    λ q s h. none_left (cursor_at q s) q (left q h) (λ a p at some. points q s a p at (noted q p.cursors) refl some),
    λ q h. none_left (armed_at q) q (left q h) (λ a p at some. ((parts a p at).armed q some).1),
  ) where
    left : (q : ℕ) → shard_of plan q ≡ n → w.words.owner_at (shard_of plan q) ≡ 0
    left q h = rw h free

    points : (q s a : ℕ) (p : Body) → slice_get w.parts a ≡ Some p → (o : Option ℕ) → noted q p.cursors ≡ o
        → 0 < cursor_at q s p → own plan p q ≡ true
    points q s a p at None is some = absurd (let none = not_noted q s p.cursors is in omega arith)
    points q s a p at (Some t) is some = ((parts a p at).cursors q t is).0
