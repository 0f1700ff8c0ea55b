use Rattle.std.proofs.Common.{rules}
use Rattle.history_timed.specs.Courses.{course_in}
use Rattle.history_timed.proofs.CourseLemmas.{taken_more, taken_all}
use Rattle.history_timed.proofs.course.Courses.new.Goals as goal

pub loop-call-preserved : goal.loop-call-preserved
loop-call-preserved c =
    taken_more c.args.calls.now c.loop-call.call-index c.call-item.result (course_in c.loop-call.courses)
    (course_in c.take_in.new.self) (search rules) (search rules) c.loop-call.invariant c.in_ok-take_in.ensures.ok

pub returns : goal.returns
returns c =
    taken_all c.args.calls.now c.loop-call.call-index (course_in c.loop-call.courses) (search rules)
    c.loop-call.invariant
