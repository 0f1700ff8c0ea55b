use Rattle.std.proofs.Common.{◌≡◌, ◌+◌, ◌<◌, [], ◌∙◌, ap, sym, subst, arith}
use Rattle.sh_shape.specs.Places.{page_number, pages_of}
use Rattle.sh_shape.specs.Shape.{Numbers}
use Rattle.sh_slots.specs.declared.hand.KeyRef.{KeyRef}
use Rattle.sh_table.specs.Seats.{Heap}
use Rattle.sh_pass.specs.Passes.{Caller}
use Rattle.sh_pass.specs.Owners.{OwnerActs, OwnerDid}
use Rattle.sh_slots.specs.declared.hand.SlotRef.{SlotRef}
use Rattle.sh_slots.specs.declared.hand.Hand.TheVariants.{Filling}
use Rattle.sh_step.specs.declared.action.Action.TheVariants as action
use Rattle.sh_step.specs.declared.moves.Move.TheVariants as move
use Rattle.sh_slots.specs.Slots.{published_name}
use Rattle.sh_pass.proofs.OwnRuns.{acts_on, page_on, issued, key_of_slot, key_on}
use Rattle.sh_pass.proofs.OwnRuns.{key_in}
use Rattle.sh_pass.proofs.owner.OwnerOn.insert_at.Goals as goal

pub loop-i-preserved : goal.loop-i-preserved
loop-i-preserved g c =
    let f = c.fill.ensures in
    let h = c.loop-i.invariant in
    let P : SlotRef → Type 0 = λ z. OwnerActs (Filling z c.args.value.now (c.loop-i.i + 1)) [] 1 c.loop-i.self
    c.fill.new.self in (
      acts_on (1 + (c.loop-i.i + 1)) h.0 (subst P c.fill_slot-slot_ref.ensures.slot_ref f.acts) (omega arith),
      λ n. f.bells n ∙ h.1 n,
      page_on h.2 f.pages,
      f.put ∙ h.3,
    )

-- the heap's shape as it was before the value became present
pub key_on_page-requires-clause-names : goal.key_on_page-requires-clause-names
key_on_page-requires-clause-names g c =
    let p = c.publish-found.ensures in
    let now : c.shape.result.now ≡ c.publish-found.new.self.view.shape = c.shape.ensures
    ∙ (ap (λ (h : Heap). h.shape) (c.heap.view_is ∙ c.kept-heap.ensures) ∙ (sym c.self.invariant.seat.shape
    ∙ ap (λ (v : Caller). v.view.shape) c.self.view_is)) in
    issued g.L.KeyLayout.layout c.shape.result.now c.loop-i.self c.publish-found.new.self c.fill_slot-slot_ref.result
    c.args.value.now c.publish-found.result c.published_name-stored.result p.does (now ∙ p.acts.aside.same.shape)
    c.published_name-stored.ensures

-- and the parts of the page's name are within it
pub key_on_page-requires-clause-place : goal.key_on_page-requires-clause-place
key_on_page-requires-clause-place g c =
    let p = c.publish-found.ensures in
    let now : c.shape.result.now ≡ c.publish-found.new.self.view.shape = c.shape.ensures
    ∙ (ap (λ (h : Heap). h.shape) (c.heap.view_is ∙ c.kept-heap.ensures) ∙ (sym c.self.invariant.seat.shape
    ∙ ap (λ (v : Caller). v.view.shape) c.self.view_is)) in
    let at : c.shape.result.now ≡ c.args.self.now.view.shape = now ∙ (p.acts.aside.same.shape
    ∙ c.loop-i.invariant.0.aside.same.shape) in
    ap (λ (x : KeyRef). x.page) c.published_name-stored.ensures
    ∙ (ap (λ (x : SlotRef). x.page) c.fill_slot-slot_ref.ensures.slot_ref
    ∙ ap (λ (s : Numbers). page_number s c.args.name.shard c.args.name.page) (sym at))

pub key_on_page-requires-clause-shard : goal.key_on_page-requires-clause-shard
key_on_page-requires-clause-shard g c =
    let p = c.publish-found.ensures in
    let now : c.shape.result.now ≡ c.publish-found.new.self.view.shape = c.shape.ensures
    ∙ (ap (λ (h : Heap). h.shape) (c.heap.view_is ∙ c.kept-heap.ensures) ∙ (sym c.self.invariant.seat.shape
    ∙ ap (λ (v : Caller). v.view.shape) c.self.view_is)) in
    subst (λ (s : Numbers). c.args.name.shard < s.shards) (sym now) (p.does.stands.owner.owned c.args.name.shard
    (p.acts.aside.owned ∙ (c.loop-i.invariant.0.aside.owned ∙ c.requires.touch.owned)))

pub key_on_page-requires-clause-page : goal.key_on_page-requires-clause-page
key_on_page-requires-clause-page g c =
    let p = c.publish-found.ensures in
    let now : c.shape.result.now ≡ c.publish-found.new.self.view.shape = c.shape.ensures
    ∙ (ap (λ (h : Heap). h.shape) (c.heap.view_is ∙ c.kept-heap.ensures) ∙ (sym c.self.invariant.seat.shape
    ∙ ap (λ (v : Caller). v.view.shape) c.self.view_is)) in
    let at : c.shape.result.now ≡ c.args.self.now.view.shape = now ∙ (p.acts.aside.same.shape
    ∙ c.loop-i.invariant.0.aside.same.shape) in
    subst (λ (s : Numbers). c.args.name.page < pages_of s) (sym at) c.requires.touch.page

pub returns-clause-slot : goal.returns-clause-slot
returns-clause-slot g c =
    let layout = g.L.KeyLayout.layout in
    let v = c.args.self.now in
    let p = c.publish-found.ensures in
    let before : c.loop-i.self.view.shape ≡ v.view.shape = c.loop-i.invariant.0.aside.same.shape in
    let now : c.shape.result.now ≡ c.publish-found.new.self.view.shape = c.shape.ensures
    ∙ (ap (λ (h : Heap). h.shape) (c.heap.view_is ∙ c.kept-heap.ensures) ∙ (sym c.self.invariant.seat.shape
    ∙ ap (λ (v : Caller). v.view.shape) c.self.view_is)) in
    let at : c.shape.result.now ≡ c.loop-i.self.view.shape = now ∙ p.acts.aside.same.shape in
    let x = c.fill_slot-slot_ref.ensures.slot_ref in
    let P : SlotRef → Type 0 = λ z. OwnerDid layout action.Publish (move.Publish z c.args.value.now)
    c.publish-found.result c.loop-i.self c.publish-found.new.self in
    key_of_slot layout v c.loop-i.self c.publish-found.new.self c.args.name c.args.slot c.args.value.now
    c.publish-found.result c.shape.result.now c.key_on_page.result c.published_name-stored.result
    (subst P x p.does) before at (c.published_name-stored.ensures
    ∙ ap (λ (z : SlotRef). published_name z c.publish-found.result) x) c.key_on_page.ensures

pub returns-clause-on : goal.returns-clause-on
returns-clause-on g c = key_on g.L.KeyLayout.layout c.args.self.now c.args.name c.args.slot c.key_on_page.result
    (returns-clause-slot g c)

pub returns-clause-key : goal.returns-clause-key
returns-clause-key g c = key_in g.L.KeyLayout.layout c.args.self.now c.args.name c.key_on_page.result c.requires.touch
    (returns-clause-on g c)

pub returns-clause-bells : goal.returns-clause-bells
returns-clause-bells g c = λ n. c.publish-found.ensures.bells n ∙ c.loop-i.invariant.1 n
