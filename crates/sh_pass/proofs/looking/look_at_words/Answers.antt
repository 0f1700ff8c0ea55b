use Rattle.std.proofs.Common.{◌≡◌, ◌<◌, ◌≤◌, ◌+◌, ◌++◌, ◌∷◌, ◌∙◌, [], List, ℕ, zero, suc, refl, ap, sym, subst, arith}
use Rattle.std.proofs.Common.{length, take}
use Rattle.std.proofs.lemmas.List.{length-set, take_more_set}
use Rattle.sh_slots.specs.declared.hand.KeyRef.{KeyRef}
use Rattle.sh_slots.specs.declared.hand.Sight.{Sight}
use Rattle.sh_slots.specs.declared.hand.Sight.TheVariants.{Measured}
use Rattle.sh_step.specs.Rows.{payload_word}
use Rattle.sh_table.specs.declared.view.View.{View}
use Rattle.sh_pass.specs.Looking.{IsLooking}
use Rattle.sh_pass.proofs.LookLaws.{can_look_on, can_look_again, looks_on, sight_more, look_sees, look_loses}
use Rattle.sh_pass.proofs.LookLaws.{length_taken, more_to_read, all_read}
use Rattle.sh_pass.proofs.looking.look_at_words.Goals as goal

pub loop-i-init : goal.loop-i-init
loop-i-init g c = (c.requires.seat, λ v r. r, refl)

pub look_word-word-requires-clause-can : goal.look_word-word-requires-clause-can
look_word-word-requires-clause-can g c =
    let w = c.words_to_read-many.ensures in
    let room = c.loop-i.invariant.2 in
    let test = c.loop-i-test.true in
    let inside = w.inside c.loop-i.i test in
    let counted = w.counted in
    let few = w.few in
    let first = c.first_word-first.ensures in
    let seen = take c.loop-i.i c.loop-i.words in
    let is : length seen ≡ c.loop-i.i = length_taken c.loop-i.i c.loop-i.words (omega arith) in
    let fit : payload_word c.args.name.slot c.args.class_word (length seen) < 48 = omega arith in
    can_look_on c.args.key c.args.name (Measured c.args.class_word c.args.count seen) (3 + c.loop-i.i)
    c.loop-i.invariant.0 (c.loop-i.invariant.1 c.requires.looking.0 c.requires.looking.1)
    (more_to_read c.args.name c.args.class_word c.args.count seen (omega arith) (omega arith) fit)

pub loop-i-preserved : goal.loop-i-preserved
loop-i-preserved g c =
    let few = c.words_to_read-many.ensures.few in
    let test = c.loop-i-test.true in
    let room = c.loop-i.invariant.2 in
    let i = c.loop-i.i in
    let seen = take i c.loop-i.words in
    let is : length seen ≡ i = length_taken i c.loop-i.words (omega arith) in
    let s : Sight = Measured c.args.class_word c.args.count seen in
    let same : 3 + i + 1 ≡ 3 + (i + 1) = omega arith in (
      c.look_word-word.ensures.seat,
      λ v r. (let on = looks_on c.args.key c.args.name s c.look_word-word.result (3 + i) (c.loop-i.invariant.1 v r)
          c.look_word-word.ensures in
          let P : Sight → Type 0 = λ z. IsLooking c.args.key c.args.name z (3 + i + 1) v
          c.look_word-word.new.seat.me.0 in
          let Q : List ℕ → Type 0 = λ ws. IsLooking c.args.key c.args.name
          (Measured c.args.class_word c.args.count ws) (3 + (i + 1)) v c.look_word-word.new.seat.me.0 in
          let N : ℕ → Type 0 = λ m. IsLooking c.args.key c.args.name
          (Measured c.args.class_word c.args.count (seen ++ c.look_word-word.result ∷ [])) m v
          c.look_word-word.new.seat.me.0 in
          subst Q (sym (take_more_set c.loop-i.words i c.look_word-word.result (omega arith)))
          (subst N same (subst P (sight_more c.args.class_word c.args.count c.look_word-word.result seen (omega arith))
          on))),
      length-set c.loop-i.words i c.look_word-word.result ∙ room,
    )

-- once the loop has ended, it has read as many words as it was to read
all_taken : (k : ℕ) (x : KeyRef) (class_word count i many : ℕ) (words : List ℕ) (v w : View) → i ≡ many
    → IsLooking k x (Measured class_word count (take i words)) (3 + i) v w
    → IsLooking k x (Measured class_word count (take many words)) (3 + many) v w
all_taken k x class_word count i many words v w is =
    subst (λ n. IsLooking k x (Measured class_word count (take n words)) (3 + n) v w) is

pub look_again-after-requires : goal.look_again-after-requires
look_again-after-requires g c =
    let w = c.words_to_read-many.ensures in
    let room = c.loop-i.invariant.2 in
    let past = c.loop-i-test.false in
    let at = c.loop-i.auto.i-end in
    let all = w.all in
    let few = w.few in
    let first = c.first_word-first.ensures in
    let many = c.words_to_read-many.result in
    let ends : c.loop-i.i ≡ many = omega arith in
    let seen = take many c.loop-i.words in
    let is : length seen ≡ many = length_taken many c.loop-i.words (omega arith) in
    can_look_again c.args.key c.args.name (Measured c.args.class_word c.args.count seen) (3 + many)
    c.loop-i.invariant.0 (all_taken c.args.key c.args.name c.args.class_word c.args.count c.loop-i.i many
    c.loop-i.words c.requires.looking.0 c.loop-i.seat.me.0 ends
    (c.loop-i.invariant.1 c.requires.looking.0 c.requires.looking.1))
    (all_read c.args.name c.args.class_word c.args.count seen
    (λ a b. let far = all (omega arith) (omega arith) in omega arith))

pub returns-then-not-is_live-clause-does : goal.returns-then-not-is_live-clause-does
returns-then-not-is_live-clause-does g c =
    let few = c.words_to_read-many.ensures.few in
    let past = c.loop-i-test.false in
    let at = c.loop-i.auto.i-end in
    let many = c.words_to_read-many.result in
    let ends : c.loop-i.i ≡ many = omega arith in (
      [],
      record {
        decided = λ same. cc;
        ends = λ v r. look_loses c.args.key c.args.name c.args.class_word c.args.count (take many c.loop-i.words)
            c.look_again-after.result (3 + many) (all_taken c.args.key c.args.name c.args.class_word c.args.count
            c.loop-i.i many c.loop-i.words v c.loop-i.seat.me.0 ends (c.loop-i.invariant.1 v r))
            c.look_again-after.ensures [] (omega arith) (sym c.is_live.ensures ∙ c.if-not-is_live.true);
      },
      refl,
    )

pub returns-clause-does : goal.returns-clause-does
returns-clause-does g c =
    let few = c.words_to_read-many.ensures.few in
    let room = c.loop-i.invariant.2 in
    let past = c.loop-i-test.false in
    let at = c.loop-i.auto.i-end in
    let many = c.words_to_read-many.result in
    let ends : c.loop-i.i ≡ many = omega arith in
    let seen = take many c.loop-i.words in
    let is : length seen ≡ many = length_taken many c.loop-i.words (omega arith) in (
      seen,
      record {
        decided = λ same. cc;
        ends = λ v r. look_sees c.args.key c.args.name c.args.class_word c.args.count seen c.look_again-after.result
            (3 + many) (all_taken c.args.key c.args.name c.args.class_word c.args.count c.loop-i.i many
            c.loop-i.words v c.loop-i.seat.me.0 ends (c.loop-i.invariant.1 v r)) c.look_again-after.ensures
            (omega arith) (sym c.is_live.ensures ∙ c.if-not-is_live.false);
      },
      c.put.ensures,
    )
