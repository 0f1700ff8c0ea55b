use Rattle.std.proofs.Common.{◌≡◌, ◌<◌, ◌≤◌, ◌+◌, ◌++◌, ◌∷◌, ◌∙◌, ◌==◌, [], List, ℕ, true, false, refl, ap, sym, subst}
use Rattle.std.proofs.Common.{arith, length, take}
use Rattle.std.proofs.lemmas.Bool.{false≢true}
use Rattle.std.proofs.lemmas.List.{length-set, take_more_set}
use Rattle.sh_slots.specs.declared.hand.Sight.{Sight}
use Rattle.sh_slots.specs.declared.hand.Sight.TheVariants.{Bare, Classed, Measured}
use Rattle.sh_slots.specs.Slots.{name_at, marked_word}
use Rattle.sh_step.specs.Rows.{is_read, payload_word}
use Rattle.sh_pass.specs.Telling.{IsEnding}
use Rattle.sh_pass.proofs.EndLoads.{can_finish, can_read_ending, ending_begins, ending_place, finish_grew, finish_just}
use Rattle.sh_pass.proofs.EndLoads.{is_marked, not_marked, reads_on}
use Rattle.sh_pass.proofs.EndsTold.{finish_tells}
use Rattle.sh_pass.proofs.LookLaws.{all_read, length_taken, more_to_read, sight_more}
use Rattle.sh_pass.proofs.told_ending.read_and_finish.Goals as goal

pub ending_class-class_word-requires : goal.ending_class-class_word-requires
ending_class-class_word-requires g c = can_read_ending c.args.slot_ref c.args.generation Bare 0 c.requires.seat
    (ending_begins g.L.KeyLayout.layout c.args.slot_ref c.args.generation c.requires.hand) refl

pub ending_length-count-requires : goal.ending_length-count-requires
ending_length-count-requires g c =
    let a = ending_begins g.L.KeyLayout.layout c.args.slot_ref c.args.generation c.requires.hand in
    let b = reads_on c.args.slot_ref c.args.generation Bare 0 c.requires.seat a c.ending_class-class_word.result
    c.ending_class-class_word.ensures in
    can_read_ending c.args.slot_ref c.args.generation (Classed c.ending_class-class_word.result) 1
    c.ending_class-class_word.ensures.seat b refl

pub first_word-first-requires : goal.first_word-first-requires
first_word-first-requires g c = (ending_place c.args.slot_ref c.args.generation Bare c.requires.seat c.requires.hand).1

pub loop-i-init : goal.loop-i-init
loop-i-init g c =
    let a = ending_begins g.L.KeyLayout.layout c.args.slot_ref c.args.generation c.requires.hand in
    let b = reads_on c.args.slot_ref c.args.generation Bare 0 c.requires.seat a c.ending_class-class_word.result
    c.ending_class-class_word.ensures in
    let d = reads_on c.args.slot_ref c.args.generation (Classed c.ending_class-class_word.result) 1
    c.ending_class-class_word.ensures.seat b c.ending_length-count.result c.ending_length-count.ensures in
    (c.ending_length-count.ensures.seat, d, refl)

pub ending_word-word-requires-clause-can : goal.ending_word-word-requires-clause-can
ending_word-word-requires-clause-can g c =
    let w = c.words_to_read-many.ensures in
    let room = c.loop-i.invariant.2 in
    let test = c.loop-i-test.true in
    let inside = w.inside c.loop-i.i test in
    let counted = w.counted in
    let few = w.few in
    let first = c.first_word-first.ensures in
    let class_word = c.ending_class-class_word.result in
    let count = c.ending_length-count.result in
    let seen = take c.loop-i.i c.loop-i.words in
    let is : length seen ≡ c.loop-i.i = length_taken c.loop-i.i c.loop-i.words (omega arith) in
    let fit : payload_word c.args.slot_ref.slot class_word (length seen) < 48 = omega arith in
    can_read_ending c.args.slot_ref c.args.generation (Measured class_word count seen) (2 + c.loop-i.i)
    c.loop-i.invariant.0 c.loop-i.invariant.1
    (more_to_read (name_at c.args.slot_ref c.args.generation) class_word count seen (omega arith) (omega arith) fit)

pub loop-i-preserved : goal.loop-i-preserved
loop-i-preserved g c =
    let few = c.words_to_read-many.ensures.few in
    let test = c.loop-i-test.true in
    let room = c.loop-i.invariant.2 in
    let i = c.loop-i.i in
    let x = c.args.slot_ref in
    let gen = c.args.generation in
    let class_word = c.ending_class-class_word.result in
    let count = c.ending_length-count.result in
    let word = c.ending_word-word.result in
    let v = c.args.seat.now.me.0 in
    let u = c.ending_word-word.new.seat.me.0 in
    let seen = take i c.loop-i.words in
    let is : length seen ≡ i = length_taken i c.loop-i.words (omega arith) in
    let s : Sight = Measured class_word count seen in
    let same : 2 + i + 1 ≡ 2 + (i + 1) = omega arith in
    let on = reads_on x gen s (2 + i) c.loop-i.invariant.0 c.loop-i.invariant.1 word c.ending_word-word.ensures in
    let P : Sight → Type 0 = λ z. IsEnding g.L.KeyLayout.layout x gen z (2 + i + 1) v u in
    let Q : List ℕ → Type 0 = λ ws. IsEnding g.L.KeyLayout.layout x gen (Measured class_word count ws) (2 + (i + 1)) v u
    in
    let N : ℕ → Type 0 = λ m. IsEnding g.L.KeyLayout.layout x gen (Measured class_word count (seen ++ word ∷ [])) m v u
    in (
      c.ending_word-word.ensures.seat,
      subst Q (sym (take_more_set c.loop-i.words i word (omega arith)))
          (subst N same (subst P (sight_more class_word count word seen (omega arith)) on)),
      length-set c.loop-i.words i word ∙ room,
    )

pub finish-found-requires : goal.finish-found-requires
finish-found-requires g c = can_finish c.args.slot_ref c.args.generation
    (Measured c.ending_class-class_word.result c.ending_length-count.result (take c.loop-i.i c.loop-i.words))
    (2 + c.loop-i.i) c.loop-i.invariant.0 c.loop-i.invariant.1

pub returns-then-found-marked-clause-grows : goal.returns-then-found-marked-clause-grows
returns-then-found-marked-clause-grows g c =
    let few = c.words_to_read-many.ensures.few in
    let past = c.loop-i-test.false in
    let at = c.loop-i.auto.i-end in
    finish_grew c.args.slot_ref c.args.generation
    (Measured c.ending_class-class_word.result c.ending_length-count.result (take c.loop-i.i c.loop-i.words))
    (2 + c.loop-i.i) c.loop-i.invariant.0 c.loop-i.invariant.1 c.finish-found.result 19 (omega arith)
    c.finish-found.ensures

pub returns-clause-grows : goal.returns-clause-grows
returns-clause-grows g c =
    let few = c.words_to_read-many.ensures.few in
    let past = c.loop-i-test.false in
    let at = c.loop-i.auto.i-end in
    finish_grew c.args.slot_ref c.args.generation
    (Measured c.ending_class-class_word.result c.ending_length-count.result (take c.loop-i.i c.loop-i.words))
    (2 + c.loop-i.i) c.loop-i.invariant.0 c.loop-i.invariant.1 c.finish-found.result 19 (omega arith)
    c.finish-found.ensures

pub returns-then-found-marked-clause-tells : goal.returns-then-found-marked-clause-tells
returns-then-found-marked-clause-tells g c =
    let x = c.args.slot_ref in
    let gen = c.args.generation in
    let s = Measured c.ending_class-class_word.result c.ending_length-count.result (take c.loop-i.i c.loop-i.words) in
    let other = not_marked c.finish-found.result c.marked_word-marked.result gen c.marked_word-marked.ensures
    c.if-found-marked.true in
    finish_tells true g.M.EndRoom.takes g.L.KeyLayout.layout c.args.seat.now.me.0 c.finish-found.new.seat.me.0 x gen s
    (c.finish-found.result == marked_word gen) c.args.room.now c.args.room.now
    (finish_just x gen s (2 + c.loop-i.i) c.loop-i.invariant.0 c.loop-i.invariant.1 c.finish-found.result
    c.finish-found.ensures) (λ e. absurd (false≢true (sym other ∙ e))) (λ _. refl)

-- the words that go into the room are all that were read
pub returns-clause-tells : goal.returns-clause-tells
returns-clause-tells g c =
    let w = c.words_to_read-many.ensures in
    let room = c.loop-i.invariant.2 in
    let past = c.loop-i-test.false in
    let at = c.loop-i.auto.i-end in
    let all = w.all in
    let few = w.few in
    let first = c.first_word-first.ensures in
    let many = c.words_to_read-many.result in
    let ends : c.loop-i.i ≡ many = omega arith in
    let x = c.args.slot_ref in
    let gen = c.args.generation in
    let class_word = c.ending_class-class_word.result in
    let count = c.ending_length-count.result in
    let seen = take c.loop-i.i c.loop-i.words in
    let is : length seen ≡ c.loop-i.i = length_taken c.loop-i.i c.loop-i.words (omega arith) in
    let s : Sight = Measured class_word count seen in
    let same = is_marked c.finish-found.result c.marked_word-marked.result gen c.marked_word-marked.ensures
    c.if-found-marked.false in
    let full : is_read (name_at x gen) s ≡ true = all_read (name_at x gen) class_word count seen
    (λ a b. let far = all (omega arith) (omega arith) in omega arith) in
    let took = subst (λ n. g.M.EndRoom.takes c.args.room.now (take n c.loop-i.words) c.put.new.self) (sym ends)
    c.put.ensures in
    finish_tells true g.M.EndRoom.takes g.L.KeyLayout.layout c.args.seat.now.me.0 c.finish-found.new.seat.me.0 x gen s
    (c.finish-found.result == marked_word gen) c.args.room.now c.put.new.self
    (finish_just x gen s (2 + c.loop-i.i) c.loop-i.invariant.0 c.loop-i.invariant.1 c.finish-found.result
    c.finish-found.ensures) (λ _. (full, took)) (λ e. absurd (false≢true (sym e ∙ same)))
