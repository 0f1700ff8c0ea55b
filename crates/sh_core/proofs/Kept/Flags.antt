-- A head word with a flag is the flag alone, step by step, so a page whose flag is set has an empty stack.
use Rattle.std.proofs.Common.{◌≡◌, ℕ, ◌+◌, ◌*◌, ◌/◌, ◌%◌, ◌==◌, Bool, true, false, List, [], ◌∷◌, refl, sym, ◌∙◌, arith}
use Rattle.std.proofs.Common.{eqb-true}
use Rattle.sh_shape.specs.declared.places.Place.{Place}
use Rattle.sh_shape.specs.declared.places.Place.TheVariants.{Class, Head, PageLink, State, Link, Length, Payload, Owner}
use Rattle.sh_shape.specs.declared.places.Place.TheVariants.{Bell}
use Rattle.sh_step.specs.declared.body.Body.{Body}
use Rattle.sh_step.specs.declared.moves.Move.{Move}
use Rattle.sh_step.specs.declared.moves.Move.TheVariants.{Take, Put, PutSlot, Arm, LookOn, ReadEnding}
use Rattle.sh_step.specs.Moves.{row_of}
use Rattle.sh_step.specs.Operations.{operate}
use Rattle.sh_step.specs.Plans.{Plan}
use Rattle.sh_step.specs.Rows.{Row, look_place}
use Rattle.sh_slots.specs.declared.hand.KeyRef.{KeyRef}
use Rattle.sh_slots.specs.declared.hand.Sight.{Sight}
use Rattle.sh_slots.specs.declared.hand.Sight.TheVariants.{Bare, Classed, Measured}
use Rattle.sh_core.specs.Words.{Words, read, write}
use Rattle.sh_core.specs.Worlds.{World, open_world, apply}
use Rattle.sh_core.specs.Lists.{PutLists}
use Rattle.sh_core.specs.Stacks.{top}
use Rattle.sh_core.specs.Placed.{Agreement}
use Rattle.sh_core.specs.Refines.{FlaggedAreEmpty}
use Rattle.sh_core.proofs.Sums.Writes.{put_same, put_other}
use Rattle.sh_slots.specs.Slots.{name_at}

abbrev FlagAlone : ℕ → Type 0
FlagAlone n = n % 2 ≡ 1 → n ≡ 1

abbrev pub FlagsAlone : World → Type 0
FlagsAlone w = (q : ℕ) → FlagAlone (w.words.head_at q)

-- what is written to a place keeps this
abbrev WritesAlone : Place → ℕ → Type 0
WritesAlone (Head q) n = FlagAlone n
WritesAlone _ n = Unit {0}

writes_alone : (w : Words) (p : Place) (n : ℕ) → ((q : ℕ) → FlagAlone (w.head_at q)) → WritesAlone p n → (q : ℕ)
    → FlagAlone ((write w p n).head_at q)
writes_alone w (Head q) n old new = λ k. go k (k == q) refl where
  go : (k : ℕ) (b : Bool) → (k == q) ≡ b → FlagAlone ((write w (Head q) n).head_at k)
  go k true e = let i = eqb-true k q e in rw (i, put_same w.head_at q n) new
  go k false e = rw (put_other w.head_at q k n e) (old k)
writes_alone w (Class q) n old new = old
writes_alone w (PageLink q) n old new = old
writes_alone w (State q s) n old new = old
writes_alone w (Link q s) n old new = old
writes_alone w (Length q s) n old new = old
writes_alone w (Payload q i) n old new = old
writes_alone w (Owner i) n old new = old
writes_alone w (Bell i) n old new = old

zero_alone : FlagAlone 0
zero_alone h = absurd (let z : 0 ≡ 1 = h in omega arith)

-- a put stores no flag
put_alone : (s : ℕ) → FlagAlone ((s + 1) * 2)
put_alone s h = absurd (let z : (s + 1) * 2 % 2 ≡ 1 = h in omega arith)

module _ (plan : Plan) (w : Words) (p : Body) where
  abbrev RowWritesAlone : Row → Type 0
  RowWritesAlone m = WritesAlone m.place (operate m.operation (read w m.place))

  look_writes_alone : (x : KeyRef) (s : Sight) → WritesAlone (look_place x s) (read w (look_place x s))
  look_writes_alone x Bare = tt
  look_writes_alone x (Classed c) = tt
  look_writes_alone x (Measured c m u) = tt

  row_writes_alone : (m : Move) → RowWritesAlone (row_of plan p m)
  row_writes_alone (Take q) = zero_alone
  row_writes_alone (Put x) = put_alone x.slot
  row_writes_alone (PutSlot x) = put_alone x.slot
  row_writes_alone (Arm q) = λ _. refl
  row_writes_alone (LookOn k x s) = look_writes_alone x s
  row_writes_alone (ReadEnding x g s) = look_writes_alone (name_at x g) s
  row_writes_alone m = tt

pub flags_move : (plan : Plan) (w : World) (a : ℕ) (p : Body) (m : Move) → FlagsAlone w
    → FlagsAlone (apply w a (row_of plan p m))
unfolding apply
flags_move plan w a p m old = let r : Row = row_of plan p m in
    writes_alone w.words r.place (operate r.operation (read w.words r.place)) old (row_writes_alone plan w.words p m)

pub flags_open : (plan : Plan) → FlagsAlone (open_world plan)
flags_open plan q = zero_alone

-- so nothing is on the stack
no_top : (xs : List ℕ) → top xs ≡ 0 → xs ≡ []
no_top [] e = refl
no_top (s ∷ xs) e = absurd (let z : s + 1 ≡ 0 = e in omega arith)

pub flagged_empty : (plan : Plan) (w : World) (l : PutLists) → Agreement plan w l → FlagsAlone w → FlaggedAreEmpty w l
flagged_empty plan w l all alone q flag =
    let one = alone q flag in
    let tops = all.lists.stacks.tops q in no_top (l.stack q) (let half : w.words.head_at q / 2 ≡ 0 = rw one refl
    in sym tops ∙ half)
