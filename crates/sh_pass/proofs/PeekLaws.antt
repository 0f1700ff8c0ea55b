-- A peek at a slot: the keys of the slot, what its state word says of them, and the step.
use Rattle.std.proofs.Common.{◌≡◌, ℕ, ◌+◌, ◌*◌, ◌/◌, ◌%◌, ◌<◌, ◌≤◌, ◌==◌, ◌&&◌, Bool, true, false, refl, ap, subst, sym}
use Rattle.std.proofs.Common.{◌∙◌, arith, Option, Some, None, [], ◌∷◌, eqb-true, eq-eqb, ltb-true}
use Rattle.std.specs.Prelude.{cond, nat_lt, not}
use Rattle.std.proofs.lemmas.Nat.{div-mul-add, mod-mul-add, mod_below}
use Rattle.sh_word.specs.Fields.{fields_of}
use Rattle.sh_key.specs.declared.parts.Parts.{Parts}
use Rattle.sh_key.specs.Layout.{Layout, IsInRange, packed, unpacked}
use Rattle.sh_key.proofs.Packing.{unpacked_is}
use Rattle.sh_shape.specs.Shape.{Numbers}
use Rattle.sh_shape.specs.Places.{all_pages, page_number, pages_of}
use Rattle.sh_shape.proofs.PlaceLaws.{pages_have_shards}
use Rattle.sh_slots.specs.declared.hand.KeyRef.{KeyRef}
use Rattle.sh_slots.specs.declared.hand.SlotRef.{SlotRef}
use Rattle.sh_slots.specs.Slots.{live_at, name_at, slot_ref_of}
use Rattle.sh_step.specs.Conditions.{Named}
use Rattle.sh_step.specs.Moves.{place_named}
use Rattle.sh_step.specs.Plans.{Plan, keys_of, name_in, parts_of, plan_of}
use Rattle.sh_step.proofs.KeyLaws.{parts_in_range}
use Rattle.sh_step.proofs.LookupLaws.{is_place, place_is}
use Rattle.sh_step.proofs.Truths.{lt_true}
use Rattle.atomic_table.specs.declared.shared.Seat.{Seat}
use Rattle.sh_shape.specs.declared.places.Place.TheVariants.{State}
use Rattle.sh_slots.specs.declared.hand.Hand.TheVariants.{Idle}
use Rattle.sh_step.specs.declared.action.Action.TheVariants as action
use Rattle.sh_step.specs.declared.action.SlotName.{SlotName}
use Rattle.sh_step.specs.declared.moves.Move.TheVariants as move
use Rattle.sh_step.specs.Conditions.{slot_name}
use Rattle.sh_step.proofs.RowLaws.{row_of_may}
use Rattle.sh_table.specs.declared.view.View.{View}
use Rattle.sh_table.specs.Seats.{Heap, IsSeat, CanDo, Did}
use Rattle.sh_pass.specs.Deciding.{Stepped}
use Rattle.sh_pass.specs.Growing.{Grows}
use Rattle.sh_pass.specs.Owners.{CallLeaves}
use Rattle.sh_pass.specs.Passes.{caller_of, heap_of}
use Rattle.sh_pass.specs.Peeks.{IsKeyNamed, PeekDoes, Peeked, SaysLive, slot_at}
use Rattle.sh_pass.proofs.DecidedLaws.{stepped}
use Rattle.sh_pass.proofs.GrowthLaws.{grew}
use Rattle.sh_pass.proofs.HeldLaws.{adds_of, same_home}
use Rattle.sh_pass.proofs.OwnCalls.{leaves_grown}

-- ---- keys of a slot

-- the shard and the page there of a page of the heap
pub its_shard : (shape : Numbers) (q : ℕ) → q < all_pages shape → q / pages_of shape < shape.shards
its_shard shape q below =
    let at = pages_have_shards shape q below in
    let is : q / pages_of shape ≡ at.0 = ap (λ n. n / pages_of shape) (sym at.4) ∙ div-mul-add at.0 (pages_of shape) at.1
    at.3 in
    subst (λ n. n < shape.shards) (sym is) at.2

pub its_page : (shape : Numbers) (q : ℕ) → q < all_pages shape → q % pages_of shape < pages_of shape
its_page shape q below =
    let at = pages_have_shards shape q below in
    let is : q % pages_of shape ≡ at.1 = ap (λ n. n % pages_of shape) (sym at.4) ∙ mod-mul-add at.0 (pages_of shape) at.1
    at.3 in
    subst (λ n. n < pages_of shape) (sym is) at.3

its_number : (shape : Numbers) (q : ℕ) → q < all_pages shape
    → page_number shape (q / pages_of shape) (q % pages_of shape) ≡ q
its_number shape q below =
    let at = pages_have_shards shape q below in
    let shard : q / pages_of shape ≡ at.0 = ap (λ n. n / pages_of shape) (sym at.4)
    ∙ div-mul-add at.0 (pages_of shape) at.1 at.3 in
    let page : q % pages_of shape ≡ at.1 = ap (λ n. n % pages_of shape) (sym at.4)
    ∙ mod-mul-add at.0 (pages_of shape) at.1 at.3 in
    (λ i. page_number shape (shard i) (page i)) ∙ at.4

-- the key of these parts is that of the slot and of their generation
pub names_key : (layout : Layout) (shape : Numbers) (p : Parts) (x : SlotRef) (g k : ℕ) → unpacked layout k ≡ Some p
    → p.shard ≡ x.page / pages_of shape → p.page ≡ x.page % pages_of shape → p.slot ≡ x.slot → p.generation ≡ g
    → x.page < all_pages shape → x.slot < 48 → place_named (plan_of layout shape) k ≡ Some (name_at x g)
unfolding keys_of
names_key layout shape p x g k is shard page slot generation below inside =
    let low : p.shard < shape.shards = subst (λ n. n < shape.shards) (sym shard) (its_shard shape x.page below) in
    let there : p.page < pages_of shape = subst (λ n. n < pages_of shape) (sym page) (its_page shape x.page below) in
    let at : p.slot < 48 = subst (λ n. n < 48) (sym slot) inside in
    let number : page_number shape p.shard p.page ≡ x.page = (λ i. page_number shape (shard i) (page i))
    ∙ its_number shape x.page below in
    let n : KeyRef = record {
      page = page_number shape p.shard p.page;
      slot = p.slot;
      generation = p.generation;
    } in
    let same : n ≡ name_at x g = λ i. record { page = number i; slot = slot i; generation = generation i } in
    let unpacks : (plan_of layout shape).keys.unpack k ≡ Some n =
    ap (λ (o : Option Parts). elim o as (λ _. Option KeyRef)
    [ Some q ↦ name_in shape.shards (pages_of shape) q | None ↦ None ]) is
    ∙ (ap (λ b. cond (b && nat_lt p.page (pages_of shape)) (Some n) None) (lt_true p.shard shape.shards low)
    ∙ ap (λ b. cond b (Some n) None) (lt_true p.page (pages_of shape) there)) in
    let named : Named (plan_of layout shape) k n = record {
      unpacks = unpacks;
      page = subst (λ q. q < all_pages shape) (sym number) below;
      slot = at;
    } in
    is_place (plan_of layout shape) k n named ∙ ap (λ (m : KeyRef). Some m) same

-- a number that is packed from parts which name this is packed from the parts of this
packed_from : (layout : Layout) (shards pages k : ℕ) (p : Parts) (n : KeyRef) → name_in shards pages p ≡ Some n
    → packed layout p ≡ k → packed layout (parts_of pages n) ≡ k
packed_from layout shards pages k p n h is = go (nat_lt p.shard shards) (nat_lt p.page pages) refl h where
  name : KeyRef
  name = record { page = p.shard * pages + p.page; slot = p.slot; generation = p.generation }

  go : (a b : Bool) → nat_lt p.page pages ≡ b → cond (a && b) (Some name) None ≡ Some n
      → packed layout (parts_of pages n) ≡ k
  go true true below h =
      let named : name ≡ n = cc in
      let page = ltb-true p.page pages below in
      let shard = div-mul-add p.shard pages p.page page in
      let local = mod-mul-add p.shard pages p.page page in
      let same : p ≡ parts_of pages name = λ i. record {
        generation = p.generation;
        shard = sym shard i;
        page = sym local i;
        slot = p.slot;
      } in
      subst (λ (q : Parts). packed layout q ≡ k) (same ∙ ap (parts_of pages) named) is
  go true false below h = absurd (let no : ⊥ = cc in no)
  go false b below h = absurd (let no : ⊥ = cc in no)

-- the number is packed from the parts of what it names
packed_of : (layout : Layout) (shape : Numbers) (k : ℕ) (n : KeyRef) → place_named (plan_of layout shape) k ≡ Some n
    → packed layout (parts_of (pages_of shape) n) ≡ k
unfolding keys_of
packed_of layout shape k n named = go (unpacked layout k) refl (place_is (plan_of layout shape) k n named).unpacks where
  go : (o : Option Parts) → unpacked layout k ≡ o → (elim o as (λ _. Option KeyRef)
      [ Some p ↦ name_in shape.shards (pages_of shape) p | None ↦ None ]) ≡ Some n
      → packed layout (parts_of (pages_of shape) n) ≡ k
  go (Some p) e h = packed_from layout shape.shards (pages_of shape) k p n h (unpacked_is layout k p e).is
  go None e h = absurd (let no : ⊥ = cc in no)

-- so two keys do not name the same
pub one_key : (layout : Layout) (shape : Numbers) (k j : ℕ) (n : KeyRef) → place_named (plan_of layout shape) k ≡ Some n
    → place_named (plan_of layout shape) j ≡ Some n → k ≡ j
one_key layout shape k j n a b = sym (packed_of layout shape k n a) ∙ packed_of layout shape j n b

-- ---- what a word says

all_three : (p m e : Bool) → (p && not m) ≡ true → e ≡ true → (p && not m && e) ≡ true
all_three true false true a b = refl
all_three true false false a b = b
all_three true true e a b = absurd (let z : false ≡ true = a in cc)
all_three false m e a b = absurd (let z : false ≡ true = a in cc)

off_first : (p m e : Bool) → (p && not m) ≡ false → (p && not m && e) ≡ false
off_first true true e a = refl
off_first false m e a = refl
off_first true false e a = absurd (let z : true ≡ false = a in cc)

off_last : (p m e : Bool) → e ≡ false → (p && not m && e) ≡ false
off_last true true e a = refl
off_last true false e a = a
off_last false m e a = refl

pub says_none : (plan : Plan) (x : SlotRef) (word : ℕ)
    → ((fields_of word).present && not (fields_of word).marked) ≡ false → SaysLive plan x word None
says_none plan x word off k n named at =
    off_first (fields_of word).present (fields_of word).marked ((fields_of word).generation == n.generation) off

-- no key of the slot has the word's generation if the layout has none of that name
not_named : (layout : Layout) (shape : Numbers) (x : SlotRef) (word : ℕ)
    → ((fields_of word).present && not (fields_of word).marked) ≡ true
    → IsKeyNamed layout shape (name_at x (fields_of word).generation) None → (k : ℕ) (n : KeyRef)
    → place_named (plan_of layout shape) k ≡ Some n → slot_ref_of n ≡ x → live_at n.generation word ≡ false
not_named layout shape x word on none k n named at = go ((fields_of word).generation == n.generation) refl where
  go : (b : Bool) → ((fields_of word).generation == n.generation) ≡ b → live_at n.generation word ≡ false
  go false is = off_last (fields_of word).present (fields_of word).marked _ is
  go true is =
      let same : (fields_of word).generation ≡ n.generation = eqb-true (fields_of word).generation n.generation is in
      let its : n ≡ name_at x (fields_of word).generation = λ i. record {
        page = ap (λ (y : SlotRef). y.page) at i;
        slot = ap (λ (y : SlotRef). y.slot) at i;
        generation = sym same i;
      } in
      let unpacks : Named (plan_of layout shape) k n = place_is (plan_of layout shape) k n named in
      absurd (none (subst (λ (m : KeyRef). IsInRange layout (parts_of (pages_of shape) m)) its
      (parts_in_range layout shape.shards (pages_of shape) k n unpacks.unpacks)))

pub says_named : (layout : Layout) (shape : Numbers) (x : SlotRef) (word : ℕ) (o : Option ℕ)
    → ((fields_of word).present && not (fields_of word).marked) ≡ true
    → IsKeyNamed layout shape (name_at x (fields_of word).generation) o → SaysLive (plan_of layout shape) x word o
says_named layout shape x word (Some k) on named = (
  name_at x (fields_of word).generation,
  named,
  refl,
  all_three (fields_of word).present (fields_of word).marked _ on
      (eq-eqb (fields_of word).generation (fields_of word).generation refl),
)
says_named layout shape x word None on none = λ k n named at. not_named layout shape x word on none k n named at

-- ---- the slot at a place

pub page_in : (shape : Numbers) (place : ℕ) → place < all_pages shape * 48 → place / 48 < all_pages shape
page_in shape place below = omega arith

pub slot_below : (place : ℕ) → place % 48 < 48
slot_below place = mod_below place 48 (omega arith)

-- no key names a slot behind the last page
pub past_the_heap : (layout : Layout) (shape : Numbers) (place key : ℕ) (name : KeyRef) → all_pages shape * 48 ≤ place
    → place_named (plan_of layout shape) key ≡ Some name → slot_ref_of name ≡ slot_at place → ⊥
past_the_heap layout shape place key name past named at =
    let below : name.page < all_pages shape = (place_is (plan_of layout shape) key name named).page in
    let page : name.page ≡ place / 48 = ap (λ (x : SlotRef). x.page) at in
    let high : all_pages shape ≤ place / 48 = omega arith in
    omega arith

-- ---- the step

pub can_peek : {layout : Layout} {heap : Heap} {t : Seat (Unit {0}) View} (x : SlotRef) (y : SlotName) (s : Numbers)
    → IsSeat layout heap t → t.me.0.own.body.hand ≡ Idle → s ≡ heap.shape → y ≡ slot_name (plan_of layout s) x
    → x.page < all_pages heap.shape → x.slot < 48 → CanDo layout heap (action.Peek y) (move.Peek x) t
can_peek {layout} {heap} {t} x y s seat idle same named page slot =
    let plan : Plan = plan_of layout t.me.0.shape in
    let is : slot_name plan x ≡ y = ap (λ (n : Numbers). slot_name (plan_of layout n) x) (seat.shape ∙ sym same)
    ∙ sym named in
    subst (λ (z : SlotName). CanDo layout heap (action.Peek z) (move.Peek x) t) is (record {
      seat = seat;
      may = row_of_may plan t.me.0.own.body (move.Peek x)
          (idle, (subst (λ (n : Numbers). x.page < all_pages n) (sym seat.shape) page, slot));
    })

module _ {layout : Layout} {heap : Heap} {t u : Seat (Unit {0}) View} (x : SlotRef) (y : SlotName) (s : Numbers)
    (n : ℕ) (seat : IsSeat layout heap t) (same : s ≡ heap.shape) (named : y ≡ slot_name (plan_of layout s) x)
    (d : Did layout heap (action.Peek y) (move.Peek x) n t u) where
  pub peek_grew : Grows t.me.0.own.body [] 1 t.me.0 u.me.0
  peek_grew = grew (action.Peek y) (move.Peek x) d refl refl

  pub peek_does : (place : ℕ) (key : Option ℕ) → x ≡ slot_at place
      → SaysLive (plan_of layout s) x n key → PeekDoes layout place (caller_of t) key (caller_of u)
  peek_does place key at says =
      let plan : Plan = plan_of layout t.me.0.shape in
      let shapes : s ≡ t.me.0.shape = same ∙ sym seat.shape in
      let is : y ≡ slot_name plan x = named ∙ ap (λ (z : Numbers). slot_name (plan_of layout z) x) shapes in
      adds_of (heap_of t) (heap_of u) t.me.0.own.body.holds (Peeked plan t.me.0 (slot_at place) key)
      (same_home seat d.seat) refl peek_grew (subst (λ (z : SlotRef). Stepped (Peeked plan t.me.0 z key) t.me.0 u.me.0) at
      (stepped t u (action.Peek y) (move.Peek x) (Peeked plan t.me.0 x key) d (record {
        word = n;
        steps = ap (λ (z : SlotName). record {
          action = action.Peek z;
          place = State x.page x.slot;
          answer = Some n;
        } ∷ []) is;
        says = subst (λ (z : Numbers). SaysLive (plan_of layout z) x n key) shapes says;
        heard = d.heard refl;
      })))

  pub peek_leaves : t.me.0.own.body.hand ≡ Idle → CallLeaves layout None (caller_of t) (caller_of u)
  peek_leaves idle = leaves_grown layout (caller_of t) (caller_of u) None peek_grew
      (record { owned = refl; classes = refl; mine = refl; cursors = refl; armed = refl; bell = refl }) idle idle tt
      d.seat.stands
