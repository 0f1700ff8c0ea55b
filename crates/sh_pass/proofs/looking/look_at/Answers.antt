use Rattle.std.proofs.Common.{◌∙◌, [], refl, sym, subst}
use Rattle.sh_slots.specs.declared.hand.Sight.TheVariants.{Bare, Classed}
use Rattle.sh_slots.specs.Slots.{past_at}
use Rattle.sh_step.specs.Plans.{plan_of}
use Rattle.sh_step.proofs.LookupLaws.{place_is}
use Rattle.sh_pass.specs.declared.looking.Glance.{Glance}
use Rattle.sh_pass.specs.Deciding.{Stepped, LooksDecide}
use Rattle.sh_pass.specs.Looking.{LookGrows}
use Rattle.sh_pass.specs.Rooms.{LookFills}
use Rattle.sh_pass.proofs.LookLaws.{may_look, can_look_on, look_begins, look_off, looks_on, measured}
use Rattle.sh_pass.proofs.LookLaws.{heard_is_not_early, off_stays, one_word}
use Rattle.sh_pass.proofs.looking.look_at.Goals as goal

pub look_first-before-requires : goal.look_first-before-requires
look_first-before-requires g c = record {
  seat = c.requires.seat;
  may = may_look _ c.args.seat.now.me.0.own.body c.args.key
      c.args.name c.requires.name c.requires.idle;
}

pub returns-then-not-is_live-clause-grows : goal.returns-then-not-is_live-clause-grows
returns-then-not-is_live-clause-grows g c =
    let off = look_off c.args.key c.args.name c.look_first-before.result c.look_first-before.ensures []
    (past_at c.args.name.generation c.look_first-before.result)
    (sym c.is_live.ensures ∙ c.if-not-is_live.true) refl in
    let P : Glance → Type 0 = λ a. LookFills g.M.Room.takes (λ value. LookGrows c.args.key a value
    c.args.seat.now.me.0 c.look_first-before.new.seat.me.0) a c.args.room.now c.args.room.now in
    subst P (sym c.off_live.ensures) (
      [],
      off.0,
      off_stays g.M.Room.takes
          (past_at c.args.name.generation c.look_first-before.result) c.args.room.now,
    )

pub returns-then-not-is_live-clause-decides : goal.returns-then-not-is_live-clause-decides
returns-then-not-is_live-clause-decides g c =
    let off = look_off c.args.key c.args.name c.look_first-before.result c.look_first-before.ensures []
    (past_at c.args.name.generation c.look_first-before.result)
    (sym c.is_live.ensures ∙ c.if-not-is_live.true) refl in
    let P : Glance → Type 0 = λ a. Stepped (LooksDecide c.args.key c.args.name a) c.args.seat.now.me.0
    c.look_first-before.new.seat.me.0 in
    subst P (sym c.off_live.ensures) off.1

pub returns-then-not-is_live-clause-unheard : goal.returns-then-not-is_live-clause-unheard
returns-then-not-is_live-clause-unheard g c = λ early.
    heard_is_not_early c.args.key c.args.name c.look_first-before.result c.look_first-before.ensures
    (past_at c.args.name.generation c.look_first-before.result) c.requires.name
    (sym c.is_live.ensures ∙ c.if-not-is_live.true) refl (sym c.off_live.ensures ∙ early)

pub look_class-class_word-requires : goal.look_class-class_word-requires
look_class-class_word-requires g c =
    let live = sym c.is_live.ensures ∙ c.if-not-is_live.false in
    can_look_on c.args.key c.args.name Bare 1 c.look_first-before.ensures.seat
    (look_begins c.args.key c.args.name c.look_first-before.result c.look_first-before.ensures live) refl

pub look_length-count-requires : goal.look_length-count-requires
look_length-count-requires g c =
    let live = sym c.is_live.ensures ∙ c.if-not-is_live.false in
    let a = look_begins c.args.key c.args.name c.look_first-before.result c.look_first-before.ensures live in
    let b = looks_on c.args.key c.args.name Bare c.look_class-class_word.result 1 a c.look_class-class_word.ensures in
    can_look_on c.args.key c.args.name (Classed c.look_class-class_word.result) 2 c.look_class-class_word.ensures.seat b
    refl

-- ---- what follows, by the class and the length that it found

pub look_at_word-requires-clause-slot : goal.look_at_word-requires-clause-slot
look_at_word-requires-clause-slot g c =
    (place_is (plan_of g.L.KeyLayout.layout c.args.seat.now.me.0.shape) c.args.key c.args.name c.requires.name).slot

pub look_at_word-requires-clause-looking : goal.look_at_word-requires-clause-looking
look_at_word-requires-clause-looking g c =
    let live = sym c.is_live.ensures ∙ c.if-not-is_live.false in (
      c.args.seat.now.me.0,
      one_word c.args.key c.args.name c.look_class-class_word.result c.look_length-count.result
          (measured c.args.key c.args.name c.look_first-before.result c.look_class-class_word.result
          c.look_length-count.result c.look_first-before.ensures live c.look_class-class_word.ensures
          c.look_length-count.ensures) c.if-class_word-eq-ONE_WORD.true c.if-count-eq1.true,
    )

pub look_at_words-requires-clause-looking : goal.look_at_words-requires-clause-looking
look_at_words-requires-clause-looking g c =
    let live = sym c.is_live.ensures ∙ c.if-not-is_live.false in (
      c.args.seat.now.me.0,
      measured c.args.key c.args.name c.look_first-before.result c.look_class-class_word.result
          c.look_length-count.result c.look_first-before.ensures live c.look_class-class_word.ensures
          c.look_length-count.ensures,
    )

pub look_at_words-requires-clause-slot : goal.look_at_words-requires-clause-slot
look_at_words-requires-clause-slot g c =
    (place_is (plan_of g.L.KeyLayout.layout c.args.seat.now.me.0.shape) c.args.key c.args.name c.requires.name).slot

pub returns-then-count-eq1-clause-grows : goal.returns-then-count-eq1-clause-grows
returns-then-count-eq1-clause-grows g c =
    let live = sym c.is_live.ensures ∙ c.if-not-is_live.false in (
      c.look_at_word.ensures.does.0,
      (c.look_at_word.ensures.does.1.ends c.args.seat.now.me.0 (one_word c.args.key c.args.name
          c.look_class-class_word.result
          c.look_length-count.result (measured c.args.key c.args.name c.look_first-before.result
          c.look_class-class_word.result c.look_length-count.result c.look_first-before.ensures live
          c.look_class-class_word.ensures c.look_length-count.ensures) c.if-class_word-eq-ONE_WORD.true
          c.if-count-eq1.true)).0,
      c.look_at_word.ensures.does.2,
    )

pub returns-then-count-eq1-clause-decides : goal.returns-then-count-eq1-clause-decides
returns-then-count-eq1-clause-decides g c =
    let live = sym c.is_live.ensures ∙ c.if-not-is_live.false in
    (c.look_at_word.ensures.does.1.ends c.args.seat.now.me.0 (one_word c.args.key c.args.name
    c.look_class-class_word.result
    c.look_length-count.result (measured c.args.key c.args.name c.look_first-before.result
    c.look_class-class_word.result c.look_length-count.result c.look_first-before.ensures live
    c.look_class-class_word.ensures c.look_length-count.ensures) c.if-class_word-eq-ONE_WORD.true
    c.if-count-eq1.true)).1

pub returns-else-class_word-eq-ONE_WORD-clause-grows : goal.returns-else-class_word-eq-ONE_WORD-clause-grows
returns-else-class_word-eq-ONE_WORD-clause-grows g c =
    let live = sym c.is_live.ensures ∙ c.if-not-is_live.false in (
      c.look_at_words.ensures.does.0,
      (c.look_at_words.ensures.does.1.ends c.args.seat.now.me.0 (measured c.args.key c.args.name c.look_first-before.result
          c.look_class-class_word.result c.look_length-count.result c.look_first-before.ensures live
          c.look_class-class_word.ensures c.look_length-count.ensures)).0,
      c.look_at_words.ensures.does.2,
    )

pub returns-else-class_word-eq-ONE_WORD-clause-decides : goal.returns-else-class_word-eq-ONE_WORD-clause-decides
returns-else-class_word-eq-ONE_WORD-clause-decides g c =
    let live = sym c.is_live.ensures ∙ c.if-not-is_live.false in
    (c.look_at_words.ensures.does.1.ends c.args.seat.now.me.0 (measured c.args.key c.args.name c.look_first-before.result
    c.look_class-class_word.result c.look_length-count.result c.look_first-before.ensures live
    c.look_class-class_word.ensures c.look_length-count.ensures)).1
