-- The moments of calls, by key and by pass.
use Rattle.std.specs.Prelude.{ℕ, ◌-◌, ◌^◌, ◌==◌, ◌&&◌, nat_lt, nat_le, Bool, List, map, filter, unwrap_or}
use Rattle.std.specs.Prelude.{if◌then◌else◌}
use Rattle.std.specs.Ordering.{is_lt, is_le, nat_cmp, ordering_then}
use Rattle.std.specs.declared.cmp.Ordering.{Ordering}
use Rattle.history_timed.specs.declared.call.Call.{Call}
use Rattle.history_timed.specs.declared.call.Said.{Said}
use Rattle.history_timed.specs.declared.marks.Mark.{Mark}
use Rattle.history_timed.specs.Calls.{key_said, pass_said}

-- marks are in the order of their keys, then of their passes, then of their moments
abbrev pub mark_cmp : Mark → Mark → Ordering
mark_cmp one other = ordering_then (nat_cmp one.key other.key)
    (ordering_then (nat_cmp one.pass other.pass) (nat_cmp one.moment other.moment))

abbrev pub comes_before : Mark → Mark → Bool
comes_before one other = is_lt (mark_cmp one other)

abbrev pub comes_up_to : Mark → Mark → Bool
comes_up_to one other = is_le (mark_cmp one other)

-- a moment of the pass on the key, below a moment or up to it
abbrev pub moment_below : (key pass moment : ℕ) → Mark → Bool
moment_below key pass moment mark = ((mark.key == key) && (mark.pass == pass)) && nat_lt mark.moment moment

abbrev pub moment_up_to : (key pass moment : ℕ) → Mark → Bool
moment_up_to key pass moment mark = ((mark.key == key) && (mark.pass == pass)) && nat_le mark.moment moment

-- a moment of a call, of its pass or of all passes as one
abbrev pub mark_of : (by_pass : Bool) (moment : ℕ) → Call → Mark
mark_of by_pass moment call = record {
  key = key_said call.said;
  pass = if by_pass then pass_said call.said else 0;
  moment = moment;
}

-- its begin, or its end. A call that never ended has the last moment of all
abbrev pub begin_mark : (by_pass : Bool) → Call → Mark
begin_mark by_pass call = mark_of by_pass call.times.begin call

abbrev pub end_mark : (by_pass : Bool) → Call → Mark
end_mark by_pass call = mark_of by_pass (unwrap_or call.times.end (2 ^ 64 - 1)) call

-- the marks of the calls that say this of their key
abbrev pub marks_of : (ℕ → Said → Bool) → (Call → Mark) → List Call → List Mark
marks_of test mark calls = map mark (filter (λ (c : Call). test (key_said c.said) c.said) calls)
