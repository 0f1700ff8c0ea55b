-- At which point a call is tried, by the course of its key.
use Rattle.std.specs.Prelude.{◌≡◌, ℕ, ◌-◌, ◌≤◌, ◌^◌, nat_lt, min, max, ◌&&◌, not, Bool, List, Option, Some}
use Rattle.std.specs.Prelude.{None, unwrap_or, if◌then◌else◌}
use Rattle.sh_history.specs.declared.entry.Entry.TheVariants as entry
use Rattle.history_timed.specs.declared.call.Call.{Call}
use Rattle.history_timed.specs.declared.call.Said.{Said}
use Rattle.history_timed.specs.declared.call.Said.TheVariants.{Known, Unread}
use Rattle.history_timed.specs.declared.course.Course.{Course}
use Rattle.history_timed.specs.declared.moment.Point.{Point}
use Rattle.history_timed.specs.declared.moment.Rank.{Rank}
use Rattle.history_timed.specs.declared.moment.Rank.TheVariants as rank
use Rattle.history_timed.specs.Times.{Times, is_ended}
use Rattle.history_timed.specs.Calls.{key_said}
use Rattle.history_timed.specs.Courses.{course_by, is_change, insert_moment, removal_moment}

-- the number, or the end if that is below it
abbrev pub up_to : Option ℕ → ℕ → ℕ
up_to None moment = moment
up_to (Some end) moment = min moment end

-- the moment, or that of the times which is nearest to it
abbrev pub nearest : Times → ℕ → ℕ
nearest times moment = up_to times.end (max moment times.begin)

-- a key that was inserted before the call began is gone behind its removal, and any other when the call began
abbrev pub gone_wish : Option ℕ → Option ℕ → ℕ → ℕ × Rank
gone_wish None removed begin = (begin, rank.Early)
gone_wish (Some inserted) removed begin =
    if nat_lt inserted begin then (unwrap_or removed (2 ^ 64 - 1), rank.Late) else (begin, rank.Early)

abbrev pub inserted_at : Course → ℕ
inserted_at course = unwrap_or (insert_moment course) 0

-- The moment and the rank of a call that began then, if its times did not count. A get comes just behind the insert, a
-- removal behind the last use, and a release at the end. A refusal as crowded comes at some moment behind the insert
abbrev pub IsWish : Course → ℕ → Said → ℕ × Rank → Type 0
IsWish course begin (Known (entry.Insert pass key value)) wish = wish ≡ (inserted_at course, rank.Insert)
IsWish course begin (Known (entry.Got pass key value)) wish = wish ≡ (inserted_at course, rank.Get)
IsWish course begin (Known (entry.Seen pass key value)) wish = wish ≡ (inserted_at course, rank.Get)
IsWish course begin (Unread pass key) wish = wish ≡ (inserted_at course, rank.Get)
IsWish course begin (Known (entry.Crowded pass key)) wish =
    (inserted_at course ≤ wish.0) × (wish.1 ≡ rank.Crowded)
IsWish course begin (Known (entry.Gone pass key)) wish =
    wish ≡ gone_wish (insert_moment course) (removal_moment course) begin
IsWish course begin (Known (entry.Removed pass key)) wish =
    wish ≡ (unwrap_or (removal_moment course) 0, rank.Remove)
IsWish course begin (Known (entry.Released pass key)) wish = wish ≡ (2 ^ 64 - 1, rank.Release)

-- the point is that of the times which is nearest to the wish
abbrev pub IsPoint : Course → Call → Point → Type 0
IsPoint course call point =
    (wish : ℕ × Rank) × IsWish course call.times.begin call.said wish
    × (point ≡ record { moment = nearest call.times wish.0; rank = wish.1 })

-- a call that never ended, and is neither the insert nor the removal of its key
abbrev pub is_left_out : Course → Call → Bool
is_left_out course call = not (is_ended call.times) && not (is_change call.line course.insert course.removal)

-- the course of the key of a call
abbrev pub course_of : List Call → Call → Course
course_of calls call = course_by calls (key_said call.said)
