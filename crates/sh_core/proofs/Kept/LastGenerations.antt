-- What is kept besides: a retired slot is in the last generation, and each entry is of a pass of the heap.
use Rattle.std.proofs.Common.{◌≡◌, ℕ, ◌+◌, ◌-◌, ◌<◌, ◌≤◌, ◌==◌, ◌&&◌, Bool, true, false, cond, List, [], ◌∷◌, sym, refl}
use Rattle.std.proofs.Common.{ap, ◌∙◌, arith, Option, Some, None, slice_get, eqb-true}
use Rattle.std.specs.Prelude.{◌^◌, bit_or, All as Each}
use Rattle.std.proofs.lemmas.List.Elements.{All-append, All-cons, All-nil}
use Rattle.sh_history.specs.declared.entry.Entry.{Entry}
use Rattle.sh_history.specs.Log.{pass_of}
use Rattle.sh_word.specs.Fields.{Fields, fields_of}
use Rattle.sh_word.proofs.Words.{fields_of-word_of, fields_of-or_mark, fields_of-or_present, fields_of-add}
use Rattle.sh_word.proofs.Words.{fields_of-sub}
use Rattle.sh_shape.specs.declared.places.Place.{Place}
use Rattle.sh_shape.specs.declared.places.Place.TheVariants.{Class, Head, PageLink, State, Link, Length, Payload, Owner}
use Rattle.sh_shape.specs.declared.places.Place.TheVariants.{Bell}
use Rattle.sh_slots.specs.declared.hand.Hand.TheVariants.{Removing}
use Rattle.sh_slots.specs.declared.reply.Reply.{Reply}
use Rattle.sh_slots.specs.declared.reply.Reply.TheVariants as reply
use Rattle.sh_slots.specs.Slots.{slot_ref_of, marked_word, retired_word, reusable_word, name_at}
use Rattle.sh_step.specs.declared.body.Body.{Body}
use Rattle.sh_step.specs.Operations.{operate}
use Rattle.sh_step.specs.Plans.{Plan}
use Rattle.sh_core.specs.Words.{Words, read, write}
use Rattle.sh_core.specs.Worlds.{World, open_world, apply, joined, entry, entry_of, value_at_place}
use Rattle.sh_core.specs.Lists.{PutLists}
use Rattle.sh_core.specs.Placed.{Agreement}
use Rattle.sh_core.specs.Refines.{RetiredIsLast, EntriesAreOurs}
use Rattle.std.proofs.lemmas.Option.{slice_get_within}
use Rattle.sh_core.proofs.Slots.MarkStep.{is_current}
use Rattle.sh_step.specs.declared.moves.Move.{Move}
use Rattle.sh_step.specs.declared.moves.Move.TheVariants.{EnterGet, EnterRemove, Mark, Drop, DropHold, Finish}
use Rattle.sh_step.specs.declared.moves.Move.TheVariants.{Publish, Look}
use Rattle.sh_step.specs.declared.moves.Move.TheVariants.{LookOn, LookAgain, Peek, ReadEnding}
use Rattle.sh_step.specs.Moves.{row_of}
use Rattle.sh_step.specs.Rows.{Row, hand, look_place}
use Rattle.sh_slots.specs.declared.hand.KeyRef.{KeyRef}
use Rattle.sh_slots.specs.declared.hand.Sight.{Sight}
use Rattle.sh_slots.specs.declared.hand.Sight.TheVariants.{Bare, Classed, Measured}
use Rattle.sh_step.specs.Conditions.{May}
use Rattle.sh_core.proofs.Moves.ByMove.{MovesCount}
use Rattle.std.proofs.lemmas.Bool.{and_parts}
use Rattle.sh_core.proofs.Slots.SlotSteps.{reused_fields}
use Rattle.sh_core.proofs.Slots.SumsKinds.{retired_fields}
use Rattle.sh_core.proofs.Sums.Writes.{put2_same, put2_other}

-- a retired word is of the last generation
abbrev LastWord : Plan → ℕ → Type 0
LastWord plan n = (fields_of n).present ≡ false → (fields_of n).marked ≡ true → (fields_of n).generation
    ≡ plan.keys.gen_max

abbrev LastWords : Plan → Words → Type 0
LastWords plan w = (q s : ℕ) → LastWord plan (w.state_at q s)

-- what is written to a place keeps this
abbrev WritesLast : Plan → Place → ℕ → Type 0
WritesLast plan (State q s) n = LastWord plan n
WritesLast plan _ n = Unit {0}

writes_last : (plan : Plan) (w : Words) (p : Place) (n : ℕ) → LastWords plan w → WritesLast plan p n
    → LastWords plan (write w p n)
writes_last plan w (State q s) n old new = λ j t. go j t ((j == q) && (t == s)) refl where
  go : (j t : ℕ) (b : Bool) → ((j == q) && (t == s)) ≡ b → LastWord plan ((write w (State q s) n).state_at j t)
  go j t true e = let i = and_parts (j == q) (t == s) e
      in rw (eqb-true j q i.0, eqb-true t s i.1, put2_same w.state_at q s n) new
  go j t false e = rw (put2_other w.state_at q s n j t e) (old j t)
writes_last plan w (Class q) n old new = old
writes_last plan w (Head q) n old new = old
writes_last plan w (PageLink q) n old new = old
writes_last plan w (Link q s) n old new = old
writes_last plan w (Length q s) n old new = old
writes_last plan w (Payload q i) n old new = old
writes_last plan w (Owner i) n old new = old
writes_last plan w (Bell i) n old new = old

-- what each action writes
abbrev RowWritesLast : Plan → Words → Row → Type 0
RowWritesLast plan w m = WritesLast plan m.place (operate m.operation (read w m.place))

same_but : (plan : Plan) (n k c : ℕ) → fields_of k ≡ record (fields_of n) { count = c } → LastWord plan n
    → LastWord plan k
same_but plan n k c e old = rw e old

finish_writes : (plan : Plan) (g n : ℕ) → LastWord plan n → LastWord plan
    (cond (n == marked_word g) (cond (g == plan.keys.gen_max) (retired_word g) (reusable_word g)) n)
finish_writes plan g n old = go (n == marked_word g) (g == plan.keys.gen_max) refl where
  go : (b c : Bool) → (g == plan.keys.gen_max) ≡ c → LastWord plan
      (cond b (cond c (retired_word g) (reusable_word g)) n)
  go false c e = old
  go true true e = λ p m. ap (λ (f : Fields). f.generation) (fields_of-word_of (retired_fields g) (omega arith))
      ∙ eqb-true g plan.keys.gen_max e
  go true false e = λ p m. absurd (let f : (fields_of (reusable_word g)).marked
      ≡ false = ap (λ (f : Fields). f.marked) (fields_of-word_of (reused_fields g) (omega arith))
      in let z : true ≡ false = sym m
      ∙ f in cc)

module _ (plan : Plan) (w : World) (l : PutLists) (all : Agreement plan w l) (a : ℕ) (p : Body)
    (at : slice_get w.parts a ≡ Some p) (counts : MovesCount plan w p) (old : LastWords plan w.words) where
  enter_last : (n : ℕ) → (fields_of n).count + 1 < 2 ^ 30 → LastWord plan n → LastWord plan (n + 1)
  enter_last n few h = same_but plan n (n + 1) ((fields_of n).count + 1) (fields_of-add n (omega arith)) h

  drop_last : (n : ℕ) → 1 ≤ (fields_of n).count → LastWord plan n → LastWord plan (n - 1)
  drop_last n some h = same_but plan n (n - 1) ((fields_of n).count - 1) (fields_of-sub n (omega arith)) h

  look_writes : (x : KeyRef) (s : Sight) → WritesLast plan (look_place x s) (read w.words (look_place x s))
  look_writes x Bare = tt
  look_writes x (Classed c) = tt
  look_writes x (Measured c m u) = tt

  -- only Finish writes a retired word; Mark finds a slot that is present
  row_writes_last : (m : Move) → May plan p m → RowWritesLast plan w.words (row_of plan p m)
  row_writes_last (EnterGet k x) may = enter_last (w.words.state_at x.page x.slot) (counts (EnterGet k x) may)
      (old x.page x.slot)
  row_writes_last (EnterRemove k x) may = enter_last (w.words.state_at x.page x.slot) (counts (EnterRemove k x) may)
      (old x.page x.slot)
  row_writes_last (Mark k x) (is, named) =
      let n : ℕ = w.words.state_at x.page x.slot in
      let here : slice_get w.parts a ≡ Some (hand p (Removing k)) = at
      ∙ ap (λ (u : Body). Some u) (λ j. record p { hand = is j }) in
      let c = is_current _ _ (fields_of n) plan w.parts a p k x named.unpacks here (all.sums.slots (slot_ref_of x)) in
      λ none some. absurd (let f : (fields_of (bit_or n (2 ^ 31))).present
      ≡ (fields_of n).present = ap (λ (f : Fields). f.present) (fields_of-or_mark n) in let z : true
      ≡ false = sym c.0 ∙ (sym f ∙ none) in cc)
  row_writes_last (Drop x) may = drop_last (w.words.state_at x.page x.slot) (counts (Drop x) may) (old x.page x.slot)
  row_writes_last (DropHold k x) may = drop_last (w.words.state_at x.page x.slot) (counts (DropHold k x) may)
      (old x.page x.slot)
  row_writes_last (Finish x g) may = finish_writes plan g (w.words.state_at x.page x.slot) (old x.page x.slot)
  row_writes_last (Publish x v) may =
      let n : ℕ = w.words.state_at x.page x.slot in
      λ none some. absurd (let f : (fields_of (bit_or n (2 ^ 30))).present
      ≡ true = ap (λ (f : Fields). f.present) (fields_of-or_present n) in let z : true ≡ false = sym f ∙ none
      in cc)
  row_writes_last (Peek x) may = old x.page x.slot
  row_writes_last (Look k x) may = old x.page x.slot
  row_writes_last (LookOn k x s) may = look_writes x s
  row_writes_last (ReadEnding x g s) may = look_writes (name_at x g) s
  row_writes_last (LookAgain k x s) may = old x.page x.slot
  row_writes_last m may = tt

-- ---- entries

pub of_its_pass : (a : ℕ) (v : List ℕ) (r : Reply) → pass_of (entry a v r) ≡ a
of_its_pass a v (reply.Insert k u) = refl
of_its_pass a v (reply.Got k) = refl
of_its_pass a v (reply.Gone k) = refl
of_its_pass a v (reply.Crowded k) = refl
of_its_pass a v (reply.Removed k) = refl
of_its_pass a v (reply.Released k) = refl
of_its_pass a v (reply.Seen k u) = refl

pub joined_ours : (passes a : ℕ) (v : List ℕ) (o : Option Reply) (es : List Entry) → a < passes
    → Each (λ e. pass_of e < passes) es → Each (λ e. pass_of e < passes) (joined es (entry_of a v o))
joined_ours passes a v None es low h = h
joined_ours passes a v (Some r) es low h =
    let ours : Entry → Type 0 = λ e. pass_of e < passes in
    let is = of_its_pass a v r in All-append ours es (entry a v r ∷ []) h
    (All-cons ours (entry a v r) [] (omega arith) (All-nil ours))

-- ---- step by step

pub record LastAndOurs (plan : Plan) (w : World) : Type 0 where
  pub retired : RetiredIsLast plan w
  pub entries : EntriesAreOurs plan w

pub last_move : (plan : Plan) (w : World) (l : PutLists) (a : ℕ) (p : Body) (m : Move) → Agreement plan w l
    → MovesCount plan w p → slice_get w.parts a ≡ Some p → May plan p m → LastAndOurs plan w
    → LastAndOurs plan (apply w a (row_of plan p m))
unfolding apply
last_move plan w l a p m all counts at may old =
    let r : Row = row_of plan p m in
    let words : LastWords plan w.words = λ q s. old.retired (record { page = q; slot = s }) in
    let low = slice_get_within w.parts a p at in
    let same = all.sums.passes in record {
      retired = λ x. writes_last plan w.words r.place (operate r.operation (read w.words r.place)) words
          (row_writes_last plan w l all a p at counts words m may) x.page x.slot;
      entries = joined_ours plan.passes a (value_at_place w.words r.place) (r.reply (read w.words r.place))
          w.log (omega arith) old.entries;
    }

pub last_open : (plan : Plan) → LastAndOurs plan (open_world plan)
unfolding fields_of
last_open plan = record {
  retired = λ x none some. absurd (let z : false ≡ true = some in cc);
  entries = All-nil
      (λ e. pass_of e < plan.passes);
}
