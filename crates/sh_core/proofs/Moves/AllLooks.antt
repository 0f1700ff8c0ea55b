-- All that holds, over the loads of a look.
use Rattle.std.proofs.Common.{◌≡◌, ℕ, Bool, true, false, cond, List, [], ◌∷◌, ◌++◌, set, sym, refl, ap, ◌∙◌, subst}
use Rattle.std.proofs.Common.{arith, Some, None, slice_get}
use Rattle.sh_history.specs.declared.entry.Entry.{Entry}
use Rattle.sh_history.specs.declared.entry.Entry.TheVariants.{Gone, Seen}
use Rattle.sh_history.specs.History.{is_removed}
use Rattle.sh_shape.specs.declared.places.Place.{Place}
use Rattle.sh_shape.specs.declared.places.Place.TheVariants.{State}
use Rattle.sh_slots.specs.declared.hand.SlotRef.{SlotRef}
use Rattle.sh_slots.specs.declared.hand.KeyRef.{KeyRef}
use Rattle.sh_slots.specs.declared.hand.Hand.TheVariants.{Idle, Looking, Finishing}
use Rattle.sh_slots.specs.declared.hand.Sight.{Sight}
use Rattle.sh_slots.specs.declared.hand.Sight.TheVariants.{Bare}
use Rattle.sh_slots.specs.declared.reply.Reply.TheVariants as reply
use Rattle.sh_slots.specs.Slots.{live_at, past_at, sight_with, value_seen, name_at}
use Rattle.sh_step.specs.declared.body.Body.{Body}
use Rattle.sh_word.specs.Fields.{Fields, fields_of}
use Rattle.sh_step.specs.Plans.{Plan}
use Rattle.sh_step.specs.Rows.{hand, peek, look, look_on, look_again, look_place, is_read, read_ending}
use Rattle.sh_core.specs.Words.{Words, write, read}
use Rattle.sh_core.specs.Worlds.{World, apply, joined, entry_of, value_at}
use Rattle.sh_core.specs.Lists.{PutLists}
use Rattle.sh_core.specs.Looks.{LookIsTrue}
use Rattle.sh_core.specs.Placed.{ListsAgreeOf, Agreement}
use Rattle.sh_core.specs.Stories.{values, removals, removed_in}
use Rattle.sh_core.specs.Sums.{FillAgrees}
use Rattle.sh_core.specs.Tallies.{due}
use Rattle.sh_core.proofs.Kept.Looks.{all_seen}
use Rattle.sh_core.proofs.Lists.ListsSteps.{lists_frame}
use Rattle.sh_core.proofs.Moves.AllReads.{all_load}
use Rattle.sh_step.proofs.WordLaws.{live_not_past}
use Rattle.sh_core.proofs.Slots.Logs.{values_none, removals_snoc, got_permitted, gone_permitted}
use Rattle.sh_core.proofs.Slots.Permits.{Permits, value_first, removed_by}
use Rattle.sh_core.proofs.Slots.Slots.{tally_same}
use Rattle.sh_core.proofs.Slots.SlotSums.{none_gone}
use Rattle.sh_core.proofs.Slots.SumsStep.{Paid, sums_at}
use Rattle.sh_core.proofs.Sums.Writes.{write_same}

-- a step that writes nothing new, and whose entry neither inserts nor removes
all_told : (plan : Plan) (w : World) (l : PutLists) (a : ℕ) (p p' : Body) (pl : Place) (n : ℕ) (e : Entry)
    → Agreement plan w l
    → slice_get w.parts a ≡ Some p → read w.words pl ≡ n → ((y : SlotRef) (st : Fields) → due plan y st p'
    ≡ due plan y st p) → p'.holds ≡ p.holds → FillAgrees w.words p' p'.hand
    → ListsAgreeOf plan w.words (set w.parts a p') l → ((k : ℕ) → (values k (e ∷ []) ≡ []) × (removed_in k e ≡ 0))
    → Permits plan w.log e → Paid a p p' (Some e)
    → Agreement plan (record { words = write w.words pl n; parts = set w.parts a p'; log = w.log ++ e ∷ [] }) l
all_told plan w l a p p' pl n e old at is same holds fill rest quiet permitted paid =
    let P : Words → Type 0 = λ W. Agreement plan
    (record { words = W; parts = set w.parts a p'; log = w.log ++ e ∷ [] }) l in
    subst P (sym (ap (write w.words pl) (sym is) ∙ write_same w.words pl)) (record {
      sums = sums_at plan w l l a p p' w.words (Some e) old.sums at
          (λ y. rw (tally_same plan y (fields_of (w.words.state_at y.page y.slot)) w.parts a p p' at
          (same y (fields_of (w.words.state_at y.page y.slot)))) (old.sums.slots y))
          (λ k z name. rw (values_none k w.log e (quiet k).0, removed k) (old.sums.keys k z name)) permitted paid
          (rw holds (old.sums.parts a p at).0, fill) (λ b q _ _ x. x);
      lists = rest;
      bounds = old.bounds;
    })
  where
    removed : (k : ℕ) → removals k (w.log ++ e ∷ []) ≡ removals k w.log
    removed k = let q = (quiet k).1 in omega (arith, removals_snoc k w.log e)

none_seen : (a k : ℕ) (v : List ℕ) (j : ℕ) → (values j (Seen a k v ∷ []) ≡ []) × (removed_in j (Seen a k v) ≡ 0)
unfolding values
none_seen a k v j = (refl, refl)

module _ (plan : Plan) (w : World) (l : PutLists) (a : ℕ) (p : Body) (old : Agreement plan w l) where
  pub all_peek : slice_get w.parts a ≡ Some (hand p Idle) → (x : SlotRef)
      → Agreement plan (apply w a (peek (hand p Idle) x)) l
  unfolding apply
  all_peek at x = all_load plan w l a (hand p Idle) (hand p Idle) (State x.page x.slot)
      (w.words.state_at x.page x.slot) old at refl (λ z st. refl) refl tt
      (lists_frame plan w.words w.parts l a (hand p Idle) _ old.lists at refl (old.lists.own_notes a (hand p Idle) at))

  pub all_look : slice_get w.parts a ≡ Some (hand p Idle) → (k : ℕ) (y : KeyRef) → plan.keys.unpack k ≡ Some y
      → Agreement plan (apply w a (look (hand p Idle) k y)) l
  unfolding apply
  all_look at k y name = go (live_at y.generation n) (past_at y.generation n) refl refl where
    n : ℕ
    n = w.words.state_at y.page y.slot

    now : List ℕ
    now = value_at w.words y.page y.slot

    go : (b d : Bool) → live_at y.generation n ≡ b → past_at y.generation n ≡ d → Agreement plan (record {
      words = write w.words (State y.page y.slot) n;
      parts = set w.parts a (hand p (cond b (Looking k y Bare) Idle));
      log = joined w.log (entry_of a now (cond d (Some (reply.Gone k)) None));
    }) l
    go true true e f = let z : false ≡ true = sym (live_not_past y.generation n e) ∙ f in absurd (cc)
    go true false e f = all_load plan w l a (hand p Idle) (hand p (Looking k y Bare)) (State y.page y.slot) n old
        at refl
        (λ z st. refl) refl tt
        (lists_frame plan w.words w.parts l a (hand p Idle) _ old.lists at refl
        (old.lists.own_notes a (hand p Idle) at))
    go false true e f = all_told plan w l a (hand p Idle) (hand p Idle) (State y.page y.slot) n (Gone a k) old at refl
        (λ z st. refl) refl tt
        (lists_frame plan w.words w.parts l a (hand p Idle) _ old.lists at refl
        (old.lists.own_notes a (hand p Idle) at))
        (none_gone a k) (gone_permitted plan w.log a k y n now (old.sums.keys k y name) e) (refl, λ j. refl)
    -- (the key is not there yet)
    go false false e f = all_load plan w l a (hand p Idle) (hand p Idle) (State y.page y.slot) n old at refl
        (λ z st. refl) refl tt
        (lists_frame plan w.words w.parts l a (hand p Idle) _ old.lists at refl
        (old.lists.own_notes a (hand p Idle) at))

  pub all_look_on : (k : ℕ) (y : KeyRef) (s : Sight) → slice_get w.parts a ≡ Some (hand p (Looking k y s))
      → Agreement plan (apply w a (look_on (hand p (Looking k y s)) k y s)) l
  unfolding apply
  all_look_on k y s at = all_load plan w l a (hand p (Looking k y s))
      (hand p (Looking k y (sight_with s (read w.words (look_place y s))))) (look_place y s)
      (read w.words (look_place y s)) old at refl (λ z st. refl) refl tt
      (lists_frame plan w.words w.parts l a (hand p (Looking k y s)) _ old.lists at refl
      (old.lists.own_notes a (hand p (Looking k y s)) at))

  pub all_read_ending : (x : SlotRef) (g : ℕ) (s : Sight) → slice_get w.parts a ≡ Some (hand p (Finishing x g s))
      → Agreement plan (apply w a (read_ending (hand p (Finishing x g s)) x g s)) l
  unfolding apply
  all_read_ending x g s at =
      let q : Place = look_place (name_at x g) s in
      all_load plan w l a (hand p (Finishing x g s)) (hand p (Finishing x g (sight_with s (read w.words q)))) q
      (read w.words q) old at refl (λ z st. refl) refl tt
      (lists_frame plan w.words w.parts l a (hand p (Finishing x g s)) _ old.lists at refl
      (old.lists.own_notes a (hand p (Finishing x g s)) at))

  pub all_look_again : (k : ℕ) (y : KeyRef) (s : Sight) → slice_get w.parts a ≡ Some (hand p (Looking k y s))
      → LookIsTrue plan w.words.class_at w.log k y s → is_read y s ≡ true
      → Agreement plan (apply w a (look_again (hand p (Looking k y s)) k y s)) l
  unfolding apply
  all_look_again k y s at t ends = go (live_at y.generation n) refl where
    n : ℕ
    n = w.words.state_at y.page y.slot

    now : List ℕ
    now = value_at w.words y.page y.slot

    rest : ListsAgreeOf plan w.words (set w.parts a (hand p Idle)) l
    rest = lists_frame plan w.words w.parts l a (hand p (Looking k y s)) (hand p Idle) old.lists at refl
        (old.lists.own_notes a (hand p (Looking k y s)) at)

    permitted : live_at y.generation n ≡ true → Permits plan w.log (Seen a k (value_seen s))
    permitted e =
        let got = got_permitted plan w.log a k y n now (old.sums.keys k y t.named.unpacks) e in
        let not : is_removed w.log k ≡ false = (removed_by k w.log).0 got.1 in
        let is = all_seen plan w l a (hand p (Looking k y s)) old at k y s t ends not in
        let same : Some now ≡ Some (value_seen s) = ap (λ (us : List (List ℕ)). slice_get us 0) (sym got.0)
        ∙ (sym (value_first k w.log) ∙ is) in
        let z : now ≡ value_seen s = cc in (got.0 ∙ ap (λ (v : List ℕ). v ∷ []) z, got.1)

    go : (b : Bool) → live_at y.generation n ≡ b → Agreement plan (record {
      words = write w.words (State y.page y.slot) n;
      parts = set w.parts a (hand p Idle);
      log = joined w.log (entry_of a now (Some (cond b (reply.Seen k (value_seen s)) (reply.Gone k))));
    }) l
    go true e = all_told plan w l a (hand p (Looking k y s)) (hand p Idle) (State y.page y.slot) n
        (Seen a k (value_seen s)) old at refl (λ z st. refl) refl tt rest (none_seen a k (value_seen s)) (permitted e)
        (refl, λ j. refl)
    go false e = all_told plan w l a (hand p (Looking k y s)) (hand p Idle) (State y.page y.slot) n (Gone a k) old at
        refl (λ z st. refl) refl tt rest (none_gone a k)
        (gone_permitted plan w.log a k y n now (old.sums.keys k y t.named.unpacks) e) (refl, λ j. refl)
