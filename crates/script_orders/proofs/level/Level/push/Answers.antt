use Rattle.std.proofs.Common.{◌≡◌, List, [], ◌∷◌, ◌++◌, sym, ap, subst, ◌∙◌, arith}
use Rattle.std.specs.List.{sum_by}
use Rattle.script_orders.specs.declared.state.State.{State}
use Rattle.script_orders.specs.Bytes.{counted, state_bytes}
use Rattle.script_orders.specs.Filed.{AllFiled}
use Rattle.script_orders.specs.States.{AllDiffer}
use Rattle.script_orders.proofs.Marked.{bytes_push, filed_same, filed_more, filed_push, differ_push}
use Rattle.script_orders.proofs.level.Level.push.Goals as goal

pub invariant_of-self : goal.invariant_of-self
invariant_of-self c =
    let level = c.args.self.now in
    record {
      bytes_are = level.bytes_are;
      filed = filed_same level.places c.file.new.places level.states.items c.in_err-file.ensures.err level.filed;
      differ = level.differ;
    }

pub invariant_of-self-in-Break-branch-2 : goal.invariant_of-self-in-Break-branch-2
invariant_of-self-in-Break-branch-2 c =
    let level = c.args.self.now in
    let old = level.states.items in
    let items : c.push.new.self.items ≡ old = c.in_err-push.ensures.items in
    record {
      bytes_are = level.bytes_are ∙ ap (λ (xs : List State). counted (sum_by state_bytes xs)) (sym items);
      filed = subst (AllFiled c.file.new.places) (sym items) (filed_more level.places c.file.new.places c.args.mark
          c.len.result c.in_ok-file.ensures.ok old level.filed);
      differ = subst AllDiffer (sym items) level.differ;
    }

pub invariant_of-self-2 : goal.invariant_of-self-2
invariant_of-self-2 c =
    let level = c.args.self.now in
    let old = level.states.items in
    let state = c.args.state in
    let items : c.push.new.self.items ≡ old ++ state ∷ [] = c.in_ok-push.ensures.items in
    let count = c.len.ensures in
    record {
      bytes_are = c.saturating_add-self.ensures
          ∙ bytes_push old c.push.new.self.items state level.bytes c.bytes-bytes.result level.bytes_are
          c.bytes-bytes.ensures items;
      filed = subst (AllFiled c.file.new.places) (sym items) (filed_push level.places c.file.new.places c.args.mark
          c.len.result c.in_ok-file.ensures.ok old state (omega (arith, level.states.ok.0)) c.requires.mark
          level.filed);
      differ = subst AllDiffer (sym items) (differ_push old state c.requires.none level.differ);
    }
