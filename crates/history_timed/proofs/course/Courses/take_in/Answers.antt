use Rattle.std.specs.Prelude.{nat_eq}
use Rattle.std.specs.HashMap.{get}
use Rattle.history_timed.proofs.CourseLemmas.{after_taken}
use Rattle.history_timed.proofs.course.Courses.take_in.Goals as goal

pub returns-clause-ok : goal.returns-clause-ok
returns-clause-ok c =
    after_taken (get nat_eq c.args.self.now.by_key) (get nat_eq c.insert.new.self) c.key-key.result c.args.call.now
    c.of-course.result c.take_in.new.self c.key-key.ensures c.of-course.ensures c.take_in.ensures
    c.in_ok-insert.ensures.updates.0
