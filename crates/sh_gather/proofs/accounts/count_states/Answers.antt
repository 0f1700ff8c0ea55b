use Rattle.std.proofs.Common.{ℕ, ◌+◌, ◌<◌, ◌≤◌, ◌≡◌, ◌∙◌, arith, subst, sym, refl}
use Rattle.sh_core.specs.declared.accounts.Accounts.{Accounts}
use Rattle.sh_word.specs.Fields.{fields_of}
use Rattle.sh_shape.specs.declared.places.Place.TheVariants.{State}
use Rattle.sh_shape.specs.Places.{all_pages}
use Rattle.sh_table.specs.Seats.{Heap}
use Rattle.sh_table.specs.Whole.{noting}
use Rattle.sh_gather.specs.Histories.{Sure}
use Rattle.sh_gather.specs.Gathering.{CountedTo, StatesAlone}
use Rattle.sh_gather.proofs.Walking.{later_same, note_gathered, note_length, count_first, next_count, still_alone}
use Rattle.sh_gather.proofs.accounts.count_states.Goals as goal

pub loop-slot-init : goal.loop-slot-init
loop-slot-init g c =
    let e = c.no_slots-accounts.ensures in
    let P : Accounts → Type 0 = λ a. Sure g.L.KeyLayout.layout c.args.pass.now.view (λ w l. CountedTo c.args.page 0 a w)
    × StatesAlone c.args.class a × (a.live + a.marked + a.retired ≤ 0) in
    let p : P c.no_slots-accounts.result = subst P (sym e) (
      count_first g.L.KeyLayout.layout c.args.pass.now.view
          c.args.page c.args.class,
      record { class = refl; mine = refl; hand = refl; queued = refl },
      omega arith,
    ) in
    (refl, c.requires.gathered, c.requires.known, later_same c.args.pass.now.view, p.0, p.1, p.2, omega arith)

pub load-word-requires-clause-whole : goal.load-word-requires-clause-whole
load-word-requires-clause-whole g c = c.loop-slot.invariant.1.whole

pub load-word-requires-clause-place : goal.load-word-requires-clause-place
load-word-requires-clause-place g c =
    let i = c.loop-slot.invariant in
    let count = c.requires.count in
    let low = c.loop-slot-test.true in
    let is = c.from.ensures in
    (subst (λ (h : Heap). c.args.page < all_pages h.shape) (sym i.0) c.requires.page, omega arith)

pub loop-slot-preserved : goal.loop-slot-preserved
loop-slot-preserved g c =
    let i = c.loop-slot.invariant in
    let e = c.load-word.ensures in
    let one = c.count_one.ensures.one in
    let few = i.6 in
    let looks = i.7 in
    let seen : c.load-word.new.self.view ≡ noting c.loop-slot.pass.view (State c.args.page c.loop-slot.slot)
    c.load-word.result = subst (λ (n : ℕ). c.load-word.new.self.view
    ≡ noting c.loop-slot.pass.view (State c.args.page n) c.load-word.result) c.from.ensures e.view in
    let look = note_length c.loop-slot.pass.view c.load-word.new.self.view (State c.args.page c.loop-slot.slot)
    c.load-word.result seen in
    let n = next_count g.L.KeyLayout.layout c.args.pass.now.view c.loop-slot.pass.view c.load-word.new.self.view
    c.args.page c.loop-slot.slot c.loop-slot.accounts c.count_one.new.accounts c.load-word.result seen
    c.count_one.ensures.is i.3 i.4 in (
      e.same ∙ i.0,
      note_gathered c.loop-slot.pass.view c.load-word.new.self.view (State c.args.page c.loop-slot.slot)
          c.load-word.result seen i.1,
      e.known,
      n.0,
      n.1,
      still_alone c.args.class c.loop-slot.accounts
          c.count_one.new.accounts (fields_of c.load-word.result) c.count_one.ensures.is i.5,
      omega arith,
      omega arith,
    )
