-- The world, and what a list of events leaves of it.
use Rattle.std.specs.Prelude.{ℕ, zero, suc, ◌+◌, ◌-◌, ◌*◌, List, [], ◌∷◌, ◌++◌, Option, Some, None, slice_get}
use Rattle.std.specs.Prelude.{slice_set, replicate}
use Rattle.sh_history.specs.declared.entry.Entry.{Entry}
use Rattle.sh_step.specs.declared.action.Event.{Event}
use Rattle.sh_core.specs.Words.{Words, read, write, opening}
use Rattle.sh_shape.specs.declared.places.Place.{Place}
use Rattle.sh_shape.specs.declared.places.Place.TheVariants.{State}
use Rattle.sh_step.specs.Plans.{Plan}
use Rattle.sh_shape.specs.Classes.{width}
use Rattle.sh_step.specs.declared.body.Body.{Body}
use Rattle.sh_step.specs.Parts.{newcomer}
use Rattle.sh_step.specs.Moves.{row}
use Rattle.sh_step.specs.Rows.{Row}
use Rattle.sh_step.specs.Operations.{operate}
use Rattle.sh_slots.specs.declared.reply.Reply.{Reply}
use Rattle.sh_slots.specs.declared.reply.Reply.TheVariants as reply
use Rattle.sh_history.specs.declared.entry.Entry.TheVariants.{Insert, Got, Gone, Crowded, Removed, Released, Seen}

pub record World : Type 0 where
  pub words : Words
  pub parts : List Body
  pub log : List Entry

abbrev pub words_from : (ℕ → ℕ) → ℕ → ℕ → List ℕ
words_from f i zero = []
words_from f i (suc n) = f i ∷ words_from f (i + 1) n

-- the value in a slot's words
unfoldable pub value_at : Words → ℕ → ℕ → List ℕ
value_at w q s = words_from (w.payload_at q) (s * width (w.class_at q - 1)) (w.length_at q s)

abbrev pub value_at_place : Words → Place → List ℕ
value_at_place w (State q s) = value_at w q s
value_at_place w _ = []

-- what joins the log: the reply to this pass, with the value in the slot if it is got
abbrev pub entry : ℕ → List ℕ → Reply → Entry
entry a v (reply.Insert k u) = Insert a k u
entry a v (reply.Got k) = Got a k v
entry a v (reply.Gone k) = Gone a k
entry a v (reply.Crowded k) = Crowded a k
entry a v (reply.Removed k) = Removed a k
entry a v (reply.Released k) = Released a k
entry a v (reply.Seen k u) = Seen a k u

abbrev pub entry_of : ℕ → List ℕ → Option Reply → Option Entry
entry_of a v (Some r) = Some (entry a v r)
entry_of a v None = None

abbrev pub joined : List Entry → Option Entry → List Entry
joined xs (Some e) = xs ++ e ∷ []
joined xs None = xs

-- one step, of whatever kind: it changes one word and one part, and what it replies joins the log
unfoldable pub apply : World → ℕ → Row → World
apply w a m = let n = read w.words m.place in record {
  words = write w.words m.place (operate m.operation n);
  parts = slice_set w.parts a (m.part n);
  log = joined w.log (entry_of a (value_at_place w.words m.place) (m.reply n));
}

unfoldable pub step : Plan → World → Event → World
step plan w e = elim (slice_get w.parts e.pass) [
  | Some p ↦ elim (row plan p e.action) [ Some m ↦ apply w e.pass m | None ↦ w ]
  | None ↦ w
]

abbrev pub open_world : Plan → World
open_world plan = record { words = opening; parts = replicate plan.passes newcomer; log = [] }

unfoldable pub run_from : Plan → World → List Event → World
run_from plan w [] = w
run_from plan w (e ∷ es) = run_from plan (step plan w e) es

abbrev pub run : Plan → List Event → World
run plan es = run_from plan (open_world plan) es
