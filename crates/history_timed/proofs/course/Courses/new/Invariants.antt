use Rattle.std.proofs.Common.{◌≡◌, ℕ, drop}
use Rattle.history_timed.specs.Courses.{course_in, course_from, course_by}
use Rattle.history_timed.proofs.course.Courses.new.Given as goal

abbrev pub invariant-loop-call : goal.invariant-loop-call
invariant-loop-call l =
    (key : ℕ) → course_from key (course_in l.courses key) (drop l.call-index l.calls) ≡ course_by l.calls key
