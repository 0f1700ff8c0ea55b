-- What an owner's work leaves as it was, over one piece of work after another.
use Rattle.std.proofs.Common.{ℕ, List, ◌∷◌, ◌++◌, refl, ap, ◌∙◌, append_assoc}
use Rattle.sh_step.specs.declared.footstep.Footstep.{Footstep}
use Rattle.sh_pass.specs.Growing.{SameTale}
use Rattle.sh_pass.specs.Passes.{Caller}
use Rattle.sh_pass.specs.Owners.{Aside, FoundFree, OwnerTries}
use Rattle.sh_pass.proofs.SameTales.{same_now, later_same}
use Rattle.sh_shape.specs.Places.{pages_of}
use Rattle.sh_shape.specs.Shape.{Numbers}
use Rattle.sh_shard.specs.Pages.{Paged, AdoptsShard, ShardLeft}

pub aside_none : (v : Caller) → Aside v v
aside_none v = record {
  heap = refl;
  same = same_now v.view;
  owned =
      refl;
  holds = refl;
}

-- more steps leave the first one
pub free_then : {n : ℕ} {v w u : Caller} → FoundFree n v w → SameTale w.view u.view → FoundFree n v u
free_then {n} {v} {w} {u} f same = record {
  step = f.step;
  more = f.more ++ same.trail.0;
  is = same.trail.1 ∙ (ap (λ (t : List Footstep). t ++ same.trail.0) f.is
      ∙ append_assoc v.view.own.trail (f.step ∷ f.more) same.trail.0);
  free = f.free;
}

-- the step that adopts a shard, and then the reading of its pages
pub adopts_then : {k : ℕ} {v w : Caller} {n : Paged} → OwnerTries v w → AdoptsShard w k n → AdoptsShard v k n
adopts_then {k} {v} {w} {n} t a = record {
  heap = a.heap ∙ t.heap;
  same = later_same t.same a.same;
  log = a.log ∙ t.log;
  holds = a.holds ∙ t.holds;
  owned = a.owned;
  shard = a.shard;
  count = a.count ∙ ap (λ (s : Numbers). pages_of s) t.same.shape;
  bell = a.bell;
  pages = a.pages;
}

-- the step that adopts a shard, and then leaving it
pub left_then : {v w u : Caller} → OwnerTries v w → ShardLeft w u → ShardLeft v u
left_then {v} {w} {u} t left = record {
  heap = left.heap ∙ t.heap;
  same = later_same t.same left.same;
  log = left.log ∙ t.log;
  holds = left.holds ∙ t.holds;
  hand = left.hand;
  owned = left.owned;
}
