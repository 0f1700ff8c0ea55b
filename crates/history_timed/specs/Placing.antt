-- Calls that are placed in time.
use Rattle.std.specs.Prelude.{◌≡◌, true, List, ◌++◌, All, map}
use Rattle.std.specs.List.Sorted.{IsPermutation, IsNonDecreasingBy}
use Rattle.history_timed.specs.declared.call.Call.{Call}
use Rattle.history_timed.specs.declared.order.Placed.{Placed}
use Rattle.history_timed.specs.Times.{IsWithin}
use Rattle.history_timed.specs.Moments.{IsPoint, is_left_out, course_of}

abbrev pub call_of : Placed → Call
call_of placed = placed.call.now

-- each placed call has a moment within its times
abbrev pub ArePlaced : List Placed → Type 0
ArePlaced placed = All (λ (p : Placed). IsWithin p.call.now.times p.point.moment) placed

-- each has the point that the course of its key gives
abbrev pub ArePointed : List Call → List Placed → Type 0
ArePointed calls placed = All (λ (p : Placed). IsPoint (course_of calls p.call.now) p.call.now p.point) placed

-- This is the order of the calls that is tried: by the moments of their points, without those that are best left out.
-- Which of several at one moment comes first is not said
pub record IsTried (calls ordered : List Call) : Type 0 where
  pub placed : List Placed
  pub ordered_are : ordered ≡ map call_of placed
  pub left_out : List Call
  pub each_once : IsPermutation calls (ordered ++ left_out)
  pub points : ArePointed calls placed
  pub outs : All (λ (c : Call). is_left_out (course_of calls c) c ≡ true) left_out
  pub rises : IsNonDecreasingBy (λ (p : Placed). p.point.moment) placed
