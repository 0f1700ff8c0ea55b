-- Keys that the steps of a trail ended.
use Rattle.std.proofs.Common.{◌≡◌, ◌≢◌, ℕ, zero, suc, ◌+◌, ◌<◌, ◌==◌, ◌&&◌, ◌||◌, Bool, true, false, cond, List, [], ◌∷◌}
use Rattle.std.proofs.Common.{◌++◌, length, refl, ap, ◌∙◌, sym, subst, arith, Option, Some, None, slice_get, append_assoc}
use Rattle.std.proofs.Common.{append-nil, eqb-true, eq-eqb}
use Rattle.std.proofs.lemmas.Option.{same_Some}
use Rattle.std.specs.Prelude.{nat_lt, not}
use Rattle.std.proofs.lemmas.Bool.Decides.{nat_tests}
use Rattle.sh_history.specs.declared.entry.Entry.{Entry}
use Rattle.sh_history.specs.History.{value_of, is_removed, is_removal_of}
use Rattle.sh_history.proofs.LogLaws.{value_of-append_some}
use Rattle.sh_key.specs.Layout.{Layout, IsLayout}
use Rattle.sh_shape.specs.Shape.{Numbers, IsShape, Fits}
use Rattle.sh_word.specs.Fields.{Fields, fields_of, word_of}
use Rattle.sh_word.proofs.Words.{fields_of-word_of}
use Rattle.sh_slots.specs.declared.hand.Hand.{Hand}
use Rattle.sh_slots.specs.declared.hand.Hand.TheVariants.{Finishing}
use Rattle.sh_slots.specs.declared.hand.KeyRef.{KeyRef}
use Rattle.sh_slots.specs.declared.hand.Sight.{Sight}
use Rattle.sh_slots.specs.declared.hand.SlotRef.{SlotRef}
use Rattle.sh_slots.specs.Slots.{name_at, marked_word, value_seen}
use Rattle.sh_step.specs.declared.action.Action.{Action}
use Rattle.sh_step.specs.declared.action.Action.TheVariants.{Finish}
use Rattle.sh_step.specs.declared.action.Event.{Event}
use Rattle.sh_step.specs.declared.body.Body.{Body}
use Rattle.sh_step.specs.declared.footstep.Footstep.{Footstep}
use Rattle.sh_step.specs.declared.moves.Move.TheVariants as move
use Rattle.sh_step.specs.Footsteps.{footstep_of, did_find}
use Rattle.sh_step.specs.Moves.{place_named, row}
use Rattle.sh_step.specs.Parts.{newcomer}
use Rattle.sh_step.specs.Plans.{Plan, plan_of, heap_pages}
use Rattle.sh_step.specs.Rows.{Row, finish, is_read}
use Rattle.sh_step.proofs.RowLaws.{row_of_may}
use Rattle.sh_core.specs.KeyEnds.{Ending, EndIsTrue, HandEnds, EndsAreTrue, has_ended, is_after}
use Rattle.sh_core.specs.Outcomes.{row_of_event}
use Rattle.sh_core.specs.Trails.{trail_of, body_then, body_by}
use Rattle.sh_core.specs.Words.{read}
use Rattle.sh_core.specs.Worlds.{World, apply, step, run, open_world, joined, entry_of, value_at_place}
use Rattle.sh_core.proofs.Clauses.RunTheorem.{theorem}
use Rattle.sh_core.proofs.MapEntries.{removed_snoc}
use Rattle.sh_core.proofs.Replays.{steps_make_parts}
use Rattle.sh_core.proofs.WaitFree.{skipped, step_applies}
use Rattle.sh_core.proofs.Words.Steps.{run_snoc, row_of_at, trail_grows, others_trails_stay, skips_leave_trails}
use Rattle.sh_table.specs.Ended.{ended_by, ended_at, ended_from, ended_in, HasEnded, HaveEnded}
use Rattle.sh_table.specs.Views.{Each}
use Rattle.sh_table.proofs.Named.{named_is}
use Rattle.sh_table.proofs.Zips.{each_map, each_append}

-- ---- one step more

pub ended_from_append : (plan : Plan) (p : Body) (xs ys : List Footstep) → ended_from plan p (xs ++ ys)
    ≡ ended_from plan p xs ++ ended_from plan (body_by plan p xs) ys
unfolding ended_from body_by
ended_from_append plan p [] ys = refl
ended_from_append plan p (x ∷ xs) ys = ap (λ (l : List Ending). ended_at p x ++ l)
    (ended_from_append plan (body_then plan p x) xs ys)
    ∙ sym (append_assoc (ended_at p x) (ended_from plan (body_then plan p x) xs)
    (ended_from plan (body_by plan (body_then plan p x) xs) ys))

ended_one : (plan : Plan) (p : Body) (t : Footstep) → ended_from plan p (t ∷ []) ≡ ended_at p t
unfolding ended_from
ended_one plan p t = append-nil (ended_at p t)

pub ended_one_more : (plan : Plan) (steps : List Footstep) (t : Footstep) → ended_in plan (steps ++ t ∷ [])
    ≡ ended_in plan steps ++ ended_at (body_by plan newcomer steps) t
ended_one_more plan steps t = ended_from_append plan newcomer steps (t ∷ [])
    ∙ ap (λ (l : List Ending). ended_in plan steps ++ l) (ended_one plan (body_by plan newcomer steps) t)

-- ---- what has ended stays so

ended_stays : (plan : Plan) (log : List Entry) (o : Option Entry) (e : Ending) → HasEnded plan log e
    → HasEnded plan (joined log o) e
ended_stays plan log None e h = h
ended_stays plan log (Some t) e h = record {
  key = h.key;
  value = h.value;
  named = h.named;
  inserted = value_of-append_some log (t ∷ []) h.key h.value h.inserted;
  removed = removed_snoc log t h.key ∙ ap (λ b. b || is_removal_of h.key t) h.removed;
  read = h.read;
}

-- ---- what a Finish ends

-- a marked slot's generation has not ended
marked_is_before : (g n : ℕ) → n ≡ marked_word g → is_after g (fields_of n) ≡ false
marked_is_before g n is =
    let st : Fields = record { generation = g; marked = true; present = true; count = 0 } in
    let f : fields_of n ≡ st = ap fields_of is ∙ fields_of-word_of st (omega arith) in
    ap (is_after g) f ∙ below g where
      below : (g : ℕ) → (nat_lt g g || false) ≡ false
      below g = grind (arith, nat_tests)

module _ (plan : Plan) (w : World) (a : ℕ) (p : Body) (at : slice_get w.parts a ≡ Some p) (ends : EndsAreTrue plan w)
  where
    finished : (x : SlotRef) (g : ℕ) (s : Sight) → p.hand ≡ Finishing x g s → w.words.state_at x.page x.slot
        ≡ marked_word g → HasEnded plan w.log (record { name = name_at x g; sight = s })
    finished x g s is found =
        let n : KeyRef = name_at x g in
        let t : EndIsTrue plan w (plan.keys.pack n) n s = subst (HandEnds plan w) is (ends.begun a p at) in
        let before : has_ended w n ≡ false = marked_is_before g (w.words.state_at x.page x.slot) found in record {
          key = plan.keys.pack n;
          value = t.value;
          named = named_is plan (plan.keys.pack n) n t.named.unpacks t.named.page t.named.slot;
          inserted = t.issued;
          removed = t.removed;
          read = λ full. same_Some (value_seen s) t.value (sym (ends.words a p x g s at is full before) ∙ t.issued);
        }

    -- what a step with this hand ended
    by_hand : (h : Hand) (r : Row) → p.hand ≡ h → row plan p Finish ≡ Some r
        → Each (HasEnded plan w.log) (ended_by h (footstep_of Finish r (read w.words r.place)))
    by_hand (Finishing x g s) r is may =
        let its : r ≡ finish plan p x g = same_Some r (finish plan p x g)
        (sym may ∙ row_of_may plan p (move.Finish x g) (s, is)) in
        let P : Row → Type 0 = λ z.
        Each (HasEnded plan w.log) (ended_by (Finishing x g s) (footstep_of Finish z (read w.words z.place))) in
        subst P (sym its) (go (w.words.state_at x.page x.slot == marked_word g) refl) where
          go : (b : Bool) → (w.words.state_at x.page x.slot == marked_word g) ≡ b
              → Each (HasEnded plan w.log) (cond b (record { name = name_at x g; sight = s } ∷ []) [])
          go true e = (finished x g s is (eqb-true (w.words.state_at x.page x.slot) (marked_word g) e), tt)
          go false e = tt
    by_hand _ r is may = tt

    by_action : (x : Action) (r : Row) → row plan p x ≡ Some r
        → Each (HasEnded plan w.log) (ended_at p (footstep_of x r (read w.words r.place)))
    by_action Finish r may = by_hand p.hand r refl may
    by_action _ r may = tt

-- ---- what the steps of a pass ended, after each list of events

module _ (layout : Layout) (shape : Numbers) (la : IsLayout layout) (ls : IsShape shape) (lf : Fits layout shape) where
  abbrev home : Plan
  home = plan_of layout shape

  abbrev EndedBy : ℕ → List Event → Type 0
  EndedBy a es = HaveEnded home (run home es).log (ended_in home (trail_of home es a))

  one_event : (a : ℕ) → a < home.passes → (es : List Event) (e : Event) → EndedBy a es → EndedBy a (es ++ e ∷ [])
  unfolding apply
  one_event a few es e old = go (row_of_event home (run home es) e) refl where
    w : World
    w = run home es

    go : (o : Option Row) → row_of_event home w e ≡ o → EndedBy a (es ++ e ∷ [])
    go None none =
        let same : run home (es ++ e ∷ []) ≡ w = run_snoc home (open_world home) es e ∙ skipped home w e none in
        let P : World → List Footstep → Type 0 = λ v steps. HaveEnded home v.log (ended_in home steps) in
        subst (λ v. P v (trail_of home (es ++ e ∷ []) a)) (sym same)
        (subst (P w) (sym (skips_leave_trails home es e a none)) old)
    go (Some r) some = by (e.pass == a) refl where
      o : Option Entry
      o = entry_of e.pass (value_at_place w.words r.place) (r.reply (read w.words r.place))

      log : (run home (es ++ e ∷ [])).log ≡ joined w.log o
      log = ap (λ (v : World). v.log) (run_snoc home (open_world home) es e ∙ step_applies home w e r some)

      stay : (ds : List Ending) → HaveEnded home w.log ds → HaveEnded home (joined w.log o) ds
      stay ds h = each_map (HasEnded home w.log) (HasEnded home (joined w.log o)) (ended_stays home w.log o) ds h

      with_log : (steps : List Footstep) → trail_of home (es ++ e ∷ []) a ≡ steps
          → HaveEnded home (joined w.log o) (ended_in home steps) → EndedBy a (es ++ e ∷ [])
      with_log steps grown h = subst (λ (l : List Entry). HaveEnded home l (ended_in home
          (trail_of home (es ++ e ∷ []) a))) (sym log)
          (subst (λ (z : List Footstep). HaveEnded home (joined w.log o) (ended_in home z)) (sym grown) h)

      by : (b : Bool) → (e.pass == a) ≡ b → EndedBy a (es ++ e ∷ [])
      by false is =
          let other : e.pass ≢ a = λ same. let z : true ≡ false = sym (eq-eqb e.pass a same) ∙ is in cc in
          with_log (trail_of home es a) (others_trails_stay home es e a other)
          (stay (ended_in home (trail_of home es a)) old)
      by true is =
          let own : e.pass ≡ a = eqb-true e.pass a is in
          let p : Body = body_by home newcomer (trail_of home es a) in
          let at : slice_get w.parts a ≡ Some p = steps_make_parts home es a few in
          let here : slice_get w.parts e.pass ≡ Some p = ap (slice_get w.parts) own ∙ at in
          let its : row home p e.action ≡ Some r = sym (row_of_at home w e p here) ∙ some in
          let t : Footstep = footstep_of e.action r (read w.words r.place) in
          let grown : trail_of home (es ++ e ∷ []) e.pass ≡ trail_of home es e.pass ++ t ∷ [] =
          trail_grows home es e.pass e.action p r here its in
          let grown_a : trail_of home (es ++ e ∷ []) a ≡ trail_of home es a ++ t ∷ [] = subst
          (λ (c : ℕ). trail_of home (es ++ e ∷ []) c ≡ trail_of home es c ++ t ∷ []) own grown in
          let new : HaveEnded home w.log (ended_at p t) = by_action home w a p at
          (theorem layout shape la ls lf es).ends e.action r its in
          with_log (trail_of home es a ++ t ∷ []) grown_a
          (subst (HaveEnded home (joined w.log o)) (sym (ended_one_more home (trail_of home es a) t))
          (each_append (HasEnded home (joined w.log o)) (ended_in home (trail_of home es a)) (ended_at p t)
          (stay (ended_in home (trail_of home es a)) old) (stay (ended_at p t) new)))

  all_events : (a : ℕ) → a < home.passes → (es fs : List Event) → EndedBy a es → EndedBy a (es ++ fs)
  all_events a few es [] old = subst (EndedBy a) (sym (append-nil es)) old
  all_events a few es (e ∷ fs) old = subst (EndedBy a) (append_assoc es (e ∷ []) fs)
      (all_events a few (es ++ e ∷ []) fs (one_event a few es e old))

  opened : (a : ℕ) → EndedBy a []
  unfolding Rattle.sh_core.specs.Trails.trail_from ended_from
  opened a = tt

  pub have_ended : (a : ℕ) → a < home.passes → (es : List Event) → EndedBy a es
  have_ended a few es = all_events a few [] es (opened a)
