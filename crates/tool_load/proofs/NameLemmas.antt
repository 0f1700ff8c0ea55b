-- A name is that of one workload, and of one layout.
use Rattle.std.proofs.Common.{◌≡◌, ◌∙◌, ℕ, ◌==◌, if◌then◌else◌, refl, sym, ap, slice_index, get_or}
use Rattle.clap.specs.Words.{Text}
use Rattle.tool_load.specs.declared.workload.Workload.{Workload}
use Rattle.tool_load.specs.declared.workload.Workload.TheVariants as workload
use Rattle.tool_load.specs.declared.layout.Layout.{Layout}
use Rattle.tool_load.specs.declared.layout.Layout.TheVariants as layout
use Rattle.tool_load.specs.Names.{layout_name, workload_name}

-- the workload that gets, by the fourth letter, and the one that reads, by the sixth
abbrev getting : (fourth : ℕ) → Workload
getting fourth = if fourth == 45 then workload.GetGuard else workload.Get

abbrev reading : (sixth : ℕ) → Workload
reading sixth =
    if sixth == 105 then workload.ReadInto
    else if sixth == 103 then workload.ReadGuard
    else workload.Read

-- the workload with this first and this third letter, and with this fourth and this sixth letter if it has these
abbrev lettered : (first third fourth sixth : ℕ) → Workload
lettered first third fourth sixth =
    if first == 103 then getting fourth
    else if first == 114 then (if third == 97 then reading sixth else workload.Remove)
    else if first == 105 then workload.Insert
    else if first == 102 then workload.Fill
    else if first == 99 then workload.Churn
    else if first == 104 then (if third == 101 then workload.Heed else workload.Hand)
    else if first == 97 then workload.Adopt
    else if third == 111 then workload.Look
    else workload.Leave

abbrev workload_at : Text → Workload
workload_at name = lettered (slice_index name 0) (slice_index name 2) (get_or name 3 0) (get_or name 5 0)

back : (w : Workload) → workload_at (workload_name w) ≡ w
back workload.Get = refl
back workload.Read = refl
back workload.ReadInto = refl
back workload.GetGuard = refl
back workload.ReadGuard = refl
back workload.Look = refl
back workload.Insert = refl
back workload.Fill = refl
back workload.Remove = refl
back workload.Churn = refl
back workload.Hand = refl
back workload.Adopt = refl
back workload.Leave = refl
back workload.Heed = refl

pub one_workload : (v w : Workload) → workload_name v ≡ workload_name w → v ≡ w
one_workload v w same = sym (back v) ∙ ap workload_at same ∙ back w

abbrev layout_at : Text → Layout
layout_at name = if slice_index name 0 == 119 then layout.Wide else if slice_index name 0 == 100 then layout.Deep else
    layout.Tagged

layout_back : (l : Layout) → layout_at (layout_name l) ≡ l
layout_back layout.Wide = refl
layout_back layout.Tagged = refl
layout_back layout.Deep = refl

pub one_layout : (v w : Layout) → layout_name v ≡ layout_name w → v ≡ w
one_layout v w same = sym (layout_back v) ∙ ap layout_at same ∙ layout_back w
