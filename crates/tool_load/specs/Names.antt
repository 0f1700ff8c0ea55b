-- How workloads and layouts are written.
use Rattle.std.specs.Prelude.{◌≢◌, ℕ, List, codes}
use Rattle.tool_load.specs.declared.workload.Workload.{Workload}
use Rattle.tool_load.specs.declared.workload.Workload.TheVariants as workload
use Rattle.tool_load.specs.declared.layout.Layout.{Layout}
use Rattle.tool_load.specs.declared.layout.Layout.TheVariants as layout

-- the name of a workload
abbrev pub workload_name : Workload → List ℕ
workload_name workload.Get = codes "get"
workload_name workload.Read = codes "read"
workload_name workload.ReadInto = codes "read-into"
workload_name workload.GetGuard = codes "get-guard"
workload_name workload.ReadGuard = codes "read-guard"
workload_name workload.Look = codes "look"
workload_name workload.Insert = codes "insert"
workload_name workload.Fill = codes "fill"
workload_name workload.Remove = codes "remove"
workload_name workload.Churn = codes "churn"
workload_name workload.Hand = codes "hand"
workload_name workload.Adopt = codes "adopt"
workload_name workload.Leave = codes "leave"
workload_name workload.Heed = codes "heed"

-- the word names no workload
abbrev pub IsNoWorkload : List ℕ → Type 0
IsNoWorkload word = (w : Workload) → word ≢ workload_name w

-- the name of a layout
abbrev pub layout_name : Layout → List ℕ
layout_name layout.Wide = codes "wide"
layout_name layout.Tagged = codes "tagged"
layout_name layout.Deep = codes "deep"

-- the word names no layout
abbrev pub IsNoLayout : List ℕ → Type 0
IsNoLayout word = (l : Layout) → word ≢ layout_name l
