-- What a pass did, step by step, and what is counted over a list of its steps.
use Rattle.std.specs.Prelude.{ℕ, ◌≡◌, ◌+◌, ◌==◌, Bool, true, false, ◌&&◌, List, [], ◌∷◌, ◌++◌, Some, None}
use Rattle.std.specs.Prelude.{count_by}
use Rattle.sh_shape.specs.declared.places.Place.{Place}
use Rattle.sh_shape.specs.declared.places.Place.TheVariants.{Head, Link, PageLink, Owner, Bell}
use Rattle.sh_step.specs.declared.action.Action.{Action}
use Rattle.sh_step.specs.declared.action.Action.TheVariants.{Take, Follow, Put, PutSlot, Adopt, Arm, TakeBell}
use Rattle.sh_step.specs.declared.action.Action.TheVariants.{FollowBell}
use Rattle.sh_step.specs.declared.footstep.Footstep.{Footstep}
use Rattle.sh_step.specs.Collections.{if1}
use Rattle.sh_step.specs.Operations.{answer}
use Rattle.sh_step.specs.Plans.{Plan, shard_of}
use Rattle.sh_step.specs.Rows.{Row}

-- the step of an action by this row, which found the word n
abbrev pub footstep_of : Action → Row → ℕ → Footstep
footstep_of x r n = record { action = x; place = r.place; answer = answer r.operation n }

-- the word n was found
abbrev pub did_find : ℕ → Footstep → Bool
did_find n t = elim (t.answer) [ Some m ↦ m == n | None ↦ false ]

-- the place is the head of page q, a link of page q, the owner word of shard n, its bell, the link of one of its pages
abbrev pub at_head : ℕ → Place → Bool
at_head q (Head x) = x == q
at_head q _ = false

abbrev pub at_link : ℕ → Place → Bool
at_link q (Link x s) = x == q
at_link q _ = false

abbrev pub at_owner : ℕ → Place → Bool
at_owner n (Owner x) = x == n
at_owner n _ = false

abbrev pub at_bell : ℕ → Place → Bool
at_bell n (Bell x) = x == n
at_bell n _ = false

abbrev pub at_belled : Plan → ℕ → Place → Bool
at_belled plan n (PageLink q) = shard_of plan q == n
at_belled plan n _ = false

-- what was put on page q was taken
abbrev pub takes_page : ℕ → Footstep → Bool
takes_page q t = elim (t.action) [ Take y ↦ at_head q t.place | Arm y ↦ at_head q t.place | _ ↦ false ]

-- what was put on the bell of shard n was taken
abbrev pub takes_bell : ℕ → Footstep → Bool
takes_bell n t = elim (t.action) [ TakeBell ↦ at_bell n t.place | _ ↦ false ]

-- a link of page q was not written yet
abbrev pub meets_page : ℕ → Footstep → Bool
meets_page q t = elim (t.action) [ Follow y ↦ at_link q t.place && did_find 0 t | _ ↦ false ]

-- a link of the bell of shard n was not written yet
abbrev pub meets_bell : Plan → ℕ → Footstep → Bool
meets_bell plan n t = elim (t.action) [ FollowBell ↦ at_belled plan n t.place && did_find 0 t | _ ↦ false ]

-- shard n had an owner
abbrev pub meets_owner : ℕ → Footstep → Bool
meets_owner n t = elim (t.action) [ Adopt k ↦ at_owner n t.place && did_find 1 t | _ ↦ false ]

abbrev pub puts_slot : Footstep → Bool
puts_slot t = elim (t.action) [ Put ↦ true | PutSlot y ↦ true | _ ↦ false ]

abbrev pub arms_page : Footstep → Bool
arms_page t = elim (t.action) [ Arm y ↦ true | _ ↦ false ]

-- how often each of these is in a list of steps
abbrev pub takes : ℕ → List Footstep → ℕ
takes q trail = count_by (takes_page q) trail

abbrev pub bell_takes : ℕ → List Footstep → ℕ
bell_takes n trail = count_by (takes_bell n) trail

abbrev pub met : ℕ → List Footstep → ℕ
met q trail = count_by (meets_page q) trail

abbrev pub bell_met : Plan → ℕ → List Footstep → ℕ
bell_met plan n trail = count_by (meets_bell plan n) trail

abbrev pub owner_met : ℕ → List Footstep → ℕ
owner_met n trail = count_by (meets_owner n) trail

abbrev pub puts : List Footstep → ℕ
puts trail = count_by puts_slot trail

abbrev pub arms : List Footstep → ℕ
arms trail = count_by arms_page trail

-- one more step adds 1 to the count if it passes the test, and nothing otherwise
abbrev pub CountsGrow : Type 0
CountsGrow = (is_such : Footstep → Bool) (trail : List Footstep) (t : Footstep) → count_by is_such (trail ++ t ∷ [])
    ≡ count_by is_such trail + if1 (is_such t)
