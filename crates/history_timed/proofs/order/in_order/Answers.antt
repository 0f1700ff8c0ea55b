use Rattle.std.proofs.Common.{◌≡◌, ◌∙◌, true, rules, refl, ap, subst}
use Rattle.history_timed.specs.contracts.moment.PointOrd.TheImpl.Laws.{total-law}
use Rattle.history_timed.specs.declared.course.Course.{Course}
use Rattle.history_timed.specs.Courses.{course_by}
use Rattle.history_timed.specs.Moments.{IsPoint, is_left_out}
use Rattle.history_timed.proofs.OrderLemmas.{none_placed, one_placed, one_left_out, order_of, tried_order}
use Rattle.history_timed.proofs.OrderLemmas.{rises_from_sort}
use Rattle.sh_history.proofs.Rising.{first_less}
use Rattle.history_timed.proofs.order.in_order.Goals.{in-Some+in_ok-push, in_default}
use Rattle.history_timed.proofs.order.in_order.Goals as goal

pub loop-call-init : goal.loop-call-init
loop-call-init c = rw c.new-all.ensures.items (none_placed c.args.calls.now)

pub loop-call-preserved : goal.loop-call-preserved
loop-call-preserved c =
    let course =
    c.of-course.ensures ∙ (c.in_ok-courses.ensures c.key.result ∙ ap (course_by c.args.calls.now) c.key.ensures) in
    elim c.match-point_of.branch [
      | in-Some+in_ok-push w ↦ rw (w.all-is, w.in_ok-push.ensures.items) (one_placed c.args.calls.now
          c.loop-call.call-index c.loop-call.all.items c.call-item.result (search rules) (search rules)
          c.loop-call.invariant _ refl w.in-Some.ensures.within
          (subst (λ (k : Course). IsPoint k c.call-item.result w.in-Some.point) course w.in-Some.ensures.is))
      | in_default w ↦ rw w.all-is (one_left_out c.args.calls.now c.loop-call.call-index c.loop-call.all.items
          c.call-item.result (search rules) (search rules) c.loop-call.invariant w.in_default.ensures.within
          (subst (λ (k : Course). is_left_out k c.call-item.result ≡ true) course w.in_default.ensures.is))
    ]

pub returns-clause-order : goal.returns-clause-order
returns-clause-order c =
    order_of c.args.calls.now c.loop-call.call-index c.loop-call.all.items c.sort_by_key.new.self.items
    (search rules) c.loop-call.invariant c.sort_by_key.ensures.permutation
    (rises_from_sort _ total-law (λ x y h. first_less y.moment x.moment _ h) _
    c.in_ok-sort_by_key.ensures.sorted (λ a r q k. search rules))

pub returns-clause-tried : goal.returns-clause-tried
returns-clause-tried c =
    tried_order c.args.calls.now c.loop-call.call-index c.loop-call.all.items c.sort_by_key.new.self.items
    (search rules) c.loop-call.invariant c.sort_by_key.ensures.permutation
    (rises_from_sort _ total-law (λ x y h. first_less y.moment x.moment _ h) _
    c.in_ok-sort_by_key.ensures.sorted (λ a r q k. search rules))
