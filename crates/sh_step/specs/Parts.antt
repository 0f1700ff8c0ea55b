-- Parts: the part of a pass that has done nothing yet, and which of a part's lists grow.
use Rattle.std.specs.Prelude.{◌<◌, [], None, length}
use Rattle.sh_slots.specs.declared.hand.Hand.TheVariants.{Idle}
use Rattle.sh_step.specs.declared.body.Body.{Body}
use Rattle.sh_step.specs.declared.moves.Move.{Move}
use Rattle.sh_step.specs.declared.moves.Move.TheVariants as move

-- it has nothing and knows nothing
abbrev pub newcomer : Body
newcomer = record {
  holds = [];
  owned = None;
  classes = [];
  mine = [];
  cursors = [];
  armed = [];
  bell_cursor = None;
  hand = Idle;
  class_words = [];
  lengths = [];
  contents = [];
}

-- a list of the part is longer than it was
pub data ListGrows (old new : Body) : Type 0 where
  more_holds : length old.holds < length new.holds → ListGrows old new
  more_class_words : length old.class_words < length new.class_words → ListGrows old new
  more_lengths : length old.lengths < length new.lengths → ListGrows old new
  more_contents : length old.contents < length new.contents → ListGrows old new
  more_classes : length old.classes < length new.classes → ListGrows old new
  more_mine : length old.mine < length new.mine → ListGrows old new
  more_cursors : length old.cursors < length new.cursors → ListGrows old new
  more_armed : length old.armed < length new.armed → ListGrows old new

-- the moves that add to no list of the part, whatever word they find
abbrev pub AddsToNoList : Move → Type 0
AddsToNoList (move.EnterGet k x) = ⊥
AddsToNoList (move.Finish x g) = ⊥
AddsToNoList (move.ReadClass k x) = ⊥
AddsToNoList (move.ReadLength k x) = ⊥
AddsToNoList (move.ReadWord k x c i) = ⊥
AddsToNoList (move.ReadPage q) = ⊥
AddsToNoList (move.SetClass q c) = ⊥
AddsToNoList (move.Take q) = ⊥
AddsToNoList (move.Follow q s) = ⊥
AddsToNoList (move.Arm q) = ⊥
AddsToNoList (move.EnterRemove k x) = Unit {0}
AddsToNoList (move.Mark k x) = Unit {0}
AddsToNoList (move.ReadEnding x g s) = Unit {0}
AddsToNoList (move.Peek x) = Unit {0}
AddsToNoList (move.Look k x) = Unit {0}
AddsToNoList (move.LookOn k x s) = Unit {0}
AddsToNoList (move.LookAgain k x s) = Unit {0}
AddsToNoList (move.Drop x) = Unit {0}
AddsToNoList (move.DropHold k x) = Unit {0}
AddsToNoList (move.FillSlot x v) = Unit {0}
AddsToNoList (move.Fill x v i c) = Unit {0}
AddsToNoList (move.Publish x v) = Unit {0}
AddsToNoList (move.Put x) = Unit {0}
AddsToNoList (move.PutSlot x) = Unit {0}
AddsToNoList (move.Tie x l r) = Unit {0}
AddsToNoList (move.Adopt n) = Unit {0}
AddsToNoList (move.Leave n) = Unit {0}
AddsToNoList (move.Ring q) = Unit {0}
AddsToNoList (move.RingTie q l) = Unit {0}
AddsToNoList (move.TakeBell n) = Unit {0}
AddsToNoList (move.FollowBell q) = Unit {0}
