-- The bell is followed to its end, and taken, before a shard is left.
use Rattle.std.proofs.Common.{◌≡◌, ℕ, ◌+◌, ◌<◌, ◌≤◌, Option, Some, None, MatchOption, refl, ◌∙◌, arith}
use Rattle.sh_shard.specs.Pages.{Paged, armed_pages, HasCursor, BellTakes, BellStops, BellReads, StepsForRings}
use Rattle.sh_shard.specs.Works.{BellDone}
use Rattle.sh_shard.specs.Leaving.{Collecting, BellFollowed}
use Rattle.sh_shard.proofs.Works.{through_none, through_more, through_takes, through_stops, through_reads}
use Rattle.sh_shard.proofs.Bounding.{rings_then, rings_read, rings_none}
use Rattle.sh_shard.proofs.Counts.{armed_few, armed_less}
use Rattle.sh_shard.proofs.Waits.{waits_since}

pub collecting_none : (o : Paged) → Collecting o o
collecting_none o = record { through = through_none o; arm = refl }

pub collecting_more : (o m n : Paged) → Collecting o m → Collecting m n → Collecting o n
collecting_more o m n g h = record { through = through_more o m n g.through h.through; arm = h.arm ∙ g.arm }

pub collecting_takes : (o n : Paged) → BellTakes o n → Collecting o n
collecting_takes o n b = record { through = through_takes o n b; arm = b.arm }

pub collecting_stops : (o n : Paged) → BellStops o n → Collecting o n
collecting_stops o n b = record { through = through_stops o n b; arm = b.arm }

pub collecting_reads : (p : ℕ) (o n : Paged) → BellReads p o n → Collecting o n
collecting_reads p o n b = record { through = through_reads p o n b; arm = b.arm }

-- ---- the bell is followed

-- after this number of pages was read from the bell
pub record Following (turn : ℕ) (o n : Paged) : Type 0 where
  pub collects : Collecting o n
  pub takes : n.bell.takes ≡ o.bell.takes
  pub few : turn + armed_pages n ≤ o.count
  pub steps : StepsForRings 0 o n

pub following_none : (o : Paged) → Following 0 o o
following_none o = record {
  collects = collecting_none o;
  takes = refl;
  few = let l = armed_few o in omega arith;
  steps = rings_none 0 o;
}

-- a page that is read is one step
pub read_steps : (p : ℕ) (n m : Paged) → BellReads p n m → StepsForRings 0 n m
read_steps p n m b = rings_read _ _ _ _ b.steps (armed_less p n m b)

pub following_more : (turn p : ℕ) (o n m : Paged) → Following turn o n → BellReads p n m → Following (turn + 1) o m
following_more turn p o n m f b = record {
  collects = collecting_more o n m f.collects (collecting_reads p n m b);
  takes = b.takes ∙ f.takes;
  few = let e = armed_less p n m b in let l = f.few in omega arith;
  steps = rings_then 0 0 0 o n m f.steps (read_steps p n m b) (omega arith);
}

pub followed_to : (turn : ℕ) (o n m : Paged) → Following turn o n → BellStops n m → BellFollowed o m
followed_to turn o n m f b = record {
  collects = collecting_more o n m f.collects (collecting_stops n m b);
  takes = b.takes ∙ f.takes;
  waits = waits_since m.bell.cursor _ o.bell.met n.bell.met m.bell.met f.collects.through.bell_met b.waits;
  steps = rings_then 0 1 1 o n m f.steps b.steps (omega arith);
}

pub never_past : {A : Type 0} (turn : ℕ) (o n : Paged) → Following turn o n → o.count + 1 ≤ turn → A
never_past turn o n f l = let k = f.few in absurd (omega arith)

-- ---- the bell is taken when it is at its end

emptied_first : (c : Option ℕ) (a b m n : ℕ) → HasCursor c → MatchOption c (Unit {0}) (λ _. m < n)
    → MatchOption c (a < b) (λ _. m < n)
emptied_first None a b m n s h = absurd s
emptied_first (Some x) a b m n s h = h

pub bell_waits : (o m : Paged) → BellFollowed o m → HasCursor m.bell.cursor → BellDone o m
bell_waits o m f s = emptied_first m.bell.cursor o.bell.takes m.bell.takes o.bell.met m.bell.met s f.waits

emptied_then : (c : Option ℕ) (a b m k n : ℕ) → a < b → m ≤ k → MatchOption c (Unit {0}) (λ _. k < n)
    → MatchOption c (a < b) (λ _. m < n)
emptied_then None a b m k n l e h = l
emptied_then (Some x) a b m k n l e h = omega arith

pub bell_emptied : (o m t n : Paged) → BellFollowed o m → BellTakes m t → BellFollowed t n → BellDone o n
bell_emptied o m t n f b h = emptied_then n.bell.cursor o.bell.takes n.bell.takes o.bell.met t.bell.met n.bell.met
    (let x = f.takes in let y = b.takes in let z = h.takes in omega arith)
    (let x = f.collects.through.bell_met in let y = b.met in omega arith) h.waits

pub bell_steps : (o m : Paged) → BellFollowed o m → StepsForRings 3 o m
bell_steps o m f = let g = f.steps in omega arith

pub bell_steps_taken : (o m t n : Paged) → BellFollowed o m → BellTakes m t → BellFollowed t n → StepsForRings 3 o n
bell_steps_taken o m t n f b h = rings_then 2 1 3 o t n (rings_then 1 1 2 o m t f.steps b.steps (omega arith)) h.steps
    (omega arith)
