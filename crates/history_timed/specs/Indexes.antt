-- What is kept of calls, by key.
use Rattle.std.specs.Prelude.{◌≡◌, ℕ, nat_eq, true, false, List, [], option_map, unwrap_or, filter}
use Rattle.std.specs.HashMap.{get}
use Rattle.std.specs.List.Sorted.{IsPermutation}
use Rattle.history_timed.specs.declared.call.Call.{Call}
use Rattle.history_timed.specs.declared.changes.Changes.{Changes}
use Rattle.history_timed.specs.declared.course.Courses.{Courses}
use Rattle.history_timed.specs.declared.marks.Mark.{Mark}
use Rattle.history_timed.specs.Calls.{changes, gets, releases}
use Rattle.history_timed.specs.Courses.{course_in, course_by}
use Rattle.history_timed.specs.Marks.{marks_of, begin_mark, end_mark}

-- the calls that inserted the key or removed it
abbrev pub changes_of : ℕ → List Call → List Call
changes_of key calls = filter (λ (c : Call). changes key c.said) calls

-- those that are kept of a key
abbrev pub changes_in : Changes → ℕ → List Call
changes_in changes key = unwrap_or (option_map (λ kept. kept.items) (get nat_eq changes.by_key key)) []

-- what is kept of calls is of these
pub record IsIndex (calls : List Call) (courses : Courses) (changed : Changes)
    (begins begins_by ends ends_by : List Mark) : Type 0 where
  pub courses_are : (key : ℕ) → course_in courses key ≡ course_by calls key
  pub changes_are : (key : ℕ) → changes_in changed key ≡ changes_of key calls
  pub gets_are : IsPermutation (marks_of gets (begin_mark false) calls) begins
  pub gets_by_are : IsPermutation (marks_of gets (begin_mark true) calls) begins_by
  pub releases_are : IsPermutation (marks_of releases (end_mark false) calls) ends
  pub releases_by_are : IsPermutation (marks_of releases (end_mark true) calls) ends_by
