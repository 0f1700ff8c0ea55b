use Rattle.std.proofs.Common.{[], ◌∷◌, refl, sym, ◌∙◌, arith}
use Rattle.sh_slots.specs.declared.hand.Sight.TheVariants.{Measured}
use Rattle.sh_pass.proofs.LookLaws.{can_look_on, can_look_again, looks_on, look_sees, look_loses, more_to_read}
use Rattle.sh_pass.proofs.LookLaws.{one_fits}
use Rattle.sh_pass.proofs.looking.look_at_word.Goals as goal

pub look_only_word-word-requires-clause-can : goal.look_only_word-word-requires-clause-can
look_only_word-word-requires-clause-can g c =
    can_look_on c.args.key c.args.name (Measured 1 1 []) 3 c.requires.seat c.requires.looking.1
    (more_to_read c.args.name 1 1 [] (omega arith) (omega arith) (one_fits c.args.name.slot c.requires.slot))

pub look_again-state-requires : goal.look_again-state-requires
look_again-state-requires g c =
    can_look_again c.args.key c.args.name (Measured 1 1 (c.look_only_word-word.result ∷ [])) 4
    c.look_only_word-word.ensures.seat
    (looks_on c.args.key c.args.name (Measured 1 1 []) c.look_only_word-word.result 3 c.requires.looking.1
    c.look_only_word-word.ensures) refl

pub returns-then-not-is_live-clause-does : goal.returns-then-not-is_live-clause-does
returns-then-not-is_live-clause-does g c = (
  [],
  record {
    decided = λ same. cc;
    ends = λ v r. look_loses c.args.key c.args.name 1 1 (c.look_only_word-word.result ∷ []) c.look_again-state.result 4
        (looks_on c.args.key c.args.name (Measured 1 1 []) c.look_only_word-word.result 3 r
        c.look_only_word-word.ensures) c.look_again-state.ensures [] (omega arith)
        (sym c.is_live.ensures ∙ c.if-not-is_live.true);
  },
  refl,
)

pub returns-clause-does : goal.returns-clause-does
returns-clause-does g c = (
  c.look_only_word-word.result ∷ [],
  record {
    decided = λ same. cc;
    ends = λ v r. look_sees c.args.key c.args.name 1 1 (c.look_only_word-word.result ∷ []) c.look_again-state.result 4
        (looks_on c.args.key c.args.name (Measured 1 1 []) c.look_only_word-word.result 3 r
        c.look_only_word-word.ensures) c.look_again-state.ensures (omega arith)
        (sym c.is_live.ensures ∙ c.if-not-is_live.false);
  },
  c.put_word.ensures,
)
