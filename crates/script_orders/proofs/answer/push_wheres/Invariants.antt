use Rattle.std.proofs.Common.{◌≡◌, ◌++◌, drop, length}
use Rattle.std.specs.List.{range_with_len}
use Rattle.script_orders.specs.Comments.{replies_of}
use Rattle.script_orders.specs.Answers.{having_all, wheres_text}
use Rattle.script_orders.proofs.answer.push_wheres.Given as goal

abbrev pub invariant-loop-reply : goal.invariant-loop-reply
invariant-loop-reply l = record {
  text : l.out.items ++ wheres_text l.found (replies_of (drop l.reply-index l.replies)) l.places.items
      ≡ l.fn.out.items ++ wheres_text l.found (replies_of l.replies) (range_with_len 0 (length l.found));
  places : having_all l.found (replies_of (drop l.reply-index l.replies)) l.places.items
      ≡ having_all l.found (replies_of l.replies) (range_with_len 0 (length l.found));
}
