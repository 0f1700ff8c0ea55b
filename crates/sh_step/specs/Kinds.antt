-- The kinds of action: which form is of which kind, and the kinds' names.
use Rattle.std.specs.Prelude.{ℕ, List, codes}
use Rattle.sh_step.specs.declared.action.Action.{Action}
use Rattle.sh_step.specs.declared.action.Action.TheVariants as action
use Rattle.sh_step.specs.declared.kind.ActionKind.{ActionKind}
use Rattle.sh_step.specs.declared.kind.ActionKind.TheVariants as kind

abbrev pub kind_of_action : Action → ActionKind
kind_of_action (action.EnterGet k) = kind.Enter
kind_of_action (action.EnterRemove k) = kind.Enter
kind_of_action action.Mark = kind.Mark
kind_of_action action.Drop = kind.Drop
kind_of_action (action.DropHold k) = kind.Drop
kind_of_action action.ReadEnding = kind.Read
kind_of_action action.Finish = kind.Finish
kind_of_action (action.FillSlot x v) = kind.Fill
kind_of_action action.Fill = kind.Fill
kind_of_action action.Publish = kind.Publish
kind_of_action (action.ReadClass k) = kind.Read
kind_of_action (action.ReadLength k) = kind.Read
kind_of_action (action.ReadWord k i) = kind.Read
kind_of_action (action.Peek y) = kind.Read
kind_of_action (action.Look k) = kind.Read
kind_of_action action.LookOn = kind.Read
kind_of_action action.LookAgain = kind.Read
kind_of_action (action.ReadPage x) = kind.Read
kind_of_action (action.SetClass x c) = kind.SetClass
kind_of_action (action.Take x) = kind.Take
kind_of_action (action.Follow x) = kind.Follow
kind_of_action action.Put = kind.Put
kind_of_action (action.PutSlot x) = kind.Put
kind_of_action action.Tie = kind.Tie
kind_of_action (action.Adopt n) = kind.Adopt
kind_of_action action.Leave = kind.Leave
kind_of_action (action.Arm x) = kind.Arm
kind_of_action action.Ring = kind.Ring
kind_of_action action.RingTie = kind.RingTie
kind_of_action action.TakeBell = kind.TakeBell
kind_of_action action.FollowBell = kind.FollowBell

abbrev pub kind_name : ActionKind → List ℕ
kind_name kind.Enter = codes "Enter"
kind_name kind.Mark = codes "Mark"
kind_name kind.Drop = codes "Drop"
kind_name kind.Finish = codes "Finish"
kind_name kind.Fill = codes "Fill"
kind_name kind.Publish = codes "Publish"
kind_name kind.Read = codes "Read"
kind_name kind.SetClass = codes "SetClass"
kind_name kind.Take = codes "Take"
kind_name kind.Follow = codes "Follow"
kind_name kind.Put = codes "Put"
kind_name kind.Tie = codes "Tie"
kind_name kind.Adopt = codes "Adopt"
kind_name kind.Leave = codes "Leave"
kind_name kind.Arm = codes "Arm"
kind_name kind.Ring = codes "Ring"
kind_name kind.RingTie = codes "RingTie"
kind_name kind.TakeBell = codes "TakeBell"
kind_name kind.FollowBell = codes "FollowBell"
