-- When a key was inserted and removed, by the times of the calls on it.
use Rattle.std.specs.Prelude.{ℕ, ◌-◌, ◌^◌, ◌==◌, ◌&&◌, ◌||◌, not, nat_eq, nat_le, min, max, Bool, false}
use Rattle.std.specs.Prelude.{List, [], ◌∷◌, Option, Some, None, unwrap_or, if◌then◌else◌}
use Rattle.std.specs.HashMap.{get}
use Rattle.history_timed.specs.declared.call.Call.{Call}
use Rattle.history_timed.specs.declared.course.Change.{Change}
use Rattle.history_timed.specs.declared.course.Course.{Course}
use Rattle.history_timed.specs.declared.course.Courses.{Courses}
use Rattle.history_timed.specs.Times.{is_ended}
use Rattle.history_timed.specs.Calls.{key_said, inserts, uses, removes, finds}

-- ---- of several calls that inserted a key, or removed it, one counts

abbrev pub change_of : Call → Change
change_of call = record { line = call.line; begin = call.times.begin; is_ended = is_ended call.times }

-- it ended; or neither did, and the other began no earlier
abbrev pub comes_first : Change → Change → Bool
comes_first one other = one.is_ended || (not other.is_ended && nat_le one.begin other.begin)

-- the one that counts, of a later call and of those before it
abbrev pub preferred : Change → Option Change → Change
preferred later None = later
preferred later (Some before) = if comes_first before later then before else later

-- ---- the course of a key

abbrev pub no_calls : Course
no_calls = record { insert = None; removal = None; first_end = 2 ^ 64 - 1; last_use = 0 }

abbrev pub insert_with : ℕ → Call → Option Change → Option Change
insert_with key call insert =
    if inserts key call.said then Some (preferred (change_of call) insert) else insert

abbrev pub removal_with : ℕ → Call → Option Change → Option Change
removal_with key call removal =
    if removes key call.said then Some (preferred (change_of call) removal) else removal

-- the first end of the calls that found the key, with one call more
abbrev pub end_with : Bool → Option ℕ → ℕ → ℕ
end_with is_found None first = first
end_with is_found (Some end) first = if is_found then min first end else first

-- the last begin of the calls that used its value and ended, with one call more
abbrev pub use_with : Bool → ℕ → ℕ → ℕ
use_with is_counted begin last = if is_counted then max last begin else last

-- the course with one call more on its key
abbrev pub taken_in : ℕ → Call → Course → Course
taken_in key call course = record {
  insert = insert_with key call course.insert;
  removal = removal_with key call course.removal;
  first_end = end_with (finds key call.said) call.times.end course.first_end;
  last_use = use_with (is_ended call.times && uses key call.said) call.times.begin course.last_use;
}

-- the line is that of the insert or of the removal, of a key that was inserted
abbrev pub is_change : ℕ → Option Change → Option Change → Bool
is_change line None removal = false
is_change line (Some insert) None = line == insert.line
is_change line (Some insert) (Some removal) = (line == insert.line) || (line == removal.line)

-- The moment of the insert: no earlier than its call began, and the first end of the calls that found the key if that
-- is later
abbrev pub insert_from : Option Change → ℕ → Option ℕ
insert_from None first_end = None
insert_from (Some insert) first_end = Some (max insert.begin first_end)

abbrev pub insert_moment : Course → Option ℕ
insert_moment course = insert_from course.insert course.first_end

-- The moment of the removal: no earlier than its call began, than a use of the value began, or than the insert
abbrev pub removal_from : Option Change → ℕ → Option ℕ → Option ℕ
removal_from None last_use inserted = None
removal_from (Some removal) last_use inserted = Some (max (max removal.begin last_use) (unwrap_or inserted 0))

abbrev pub removal_moment : Course → Option ℕ
removal_moment course = removal_from course.removal course.last_use (insert_moment course)

-- ---- the courses of all keys

-- a call changes the course of its own key alone
abbrev pub course_with : ℕ → Call → Course → Course
course_with key call course = if nat_eq (key_said call.said) key then taken_in key call course else course

abbrev pub course_from : ℕ → Course → List Call → Course
course_from key course [] = course
course_from key course (call ∷ calls) = course_from key (course_with key call course) calls

-- the course of a key by these calls
abbrev pub course_by : List Call → ℕ → Course
course_by calls key = course_from key no_calls calls

-- the course that is kept of a key
abbrev pub course_in : Courses → ℕ → Course
course_in courses key = unwrap_or (get nat_eq courses.by_key key) no_calls
