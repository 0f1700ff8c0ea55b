-- A page has a class only after one pass read its class word and then set it.
use Rattle.std.proofs.Common.{◌≡◌, ◌≢◌, ℕ, zero, suc, ◌+◌, ◌<◌, ◌==◌, ◌⊎◌, inl, inr, ⊎_elim, Bool, true, false, cond}
use Rattle.std.proofs.Common.{List, [], ◌∷◌, ◌++◌, length, refl, ap, sym, ◌∙◌, subst, arith, eqb-true, ne_eqb}
use Rattle.std.proofs.Common.{◌&&◌, eq-eqb, append-nil, append_assoc, Option, Some, None, slice_get}
use Rattle.std.specs.Prelude.{count_by, replicate}
use Rattle.std.proofs.lemmas.Bool.{cases_eq}
use Rattle.std.proofs.lemmas.Option.{none-some, same_Some, slice_get_within}
use Rattle.sh_shape.specs.declared.places.Place.TheVariants.{Class}
use Rattle.sh_step.specs.declared.action.Action.{Action}
use Rattle.sh_step.specs.declared.action.Event.{Event}
use Rattle.sh_step.specs.declared.body.Body.{Body}
use Rattle.sh_step.specs.declared.footstep.Footstep.{Footstep}
use Rattle.sh_step.specs.declared.moves.Move.{Move}
use Rattle.sh_step.specs.declared.moves.Move.TheVariants as move
use Rattle.sh_slots.specs.declared.hand.Hand.TheVariants.{Idle, Leaving, ToPut}
use Rattle.sh_step.specs.Collections.{if1, noted}
use Rattle.sh_step.specs.Conditions.{May, action_of}
use Rattle.sh_step.specs.Footsteps.{footstep_of}
use Rattle.sh_step.specs.Moves.{row, row_of}
use Rattle.sh_step.specs.Operations.{operate}
use Rattle.sh_step.specs.Parts.{newcomer}
use Rattle.sh_step.specs.Plans.{Plan}
use Rattle.sh_step.specs.Rows.{Row, hand, own, look_place}
use Rattle.sh_core.specs.Outcomes.{row_of_event}
use Rattle.sh_slots.specs.Slots.{live_at, has_room, is_reusable_after, slot_ref_of, name_at}
use Rattle.sh_core.specs.Trails.{trail_of}
use Rattle.sh_core.specs.Words.{Words, put, read, write}
use Rattle.sh_core.specs.Worlds.{World, apply, run, open_world}
use Rattle.sh_step.proofs.ConditionLaws.{move_of_row}
use Rattle.sh_step.proofs.FootstepLaws.{counts_grow}
use Rattle.sh_core.proofs.Sums.Tests.{cond_either}
use Rattle.sh_core.proofs.Sums.Totals.{get_set}
use Rattle.sh_core.proofs.Sums.Writes.{put_same, put_other, write_same}
use Rattle.sh_core.proofs.WaitFree.{skipped}
use Rattle.sh_core.proofs.Words.Stepping.{row_of_past}
use Rattle.sh_core.proofs.Words.Steps.{run_none, run_snoc, step_moves, row_of_at, trail_grows, skips_leave_trails}
use Rattle.sh_core.proofs.Words.Steps.{others_trails_stay}

-- the step was on the class word of page q
abbrev pub on_class : ℕ → Footstep → Bool
on_class q t = elim (t.place) [ Class x ↦ x == q | _ ↦ false ]

-- how many steps were
abbrev pub class_steps : ℕ → List Footstep → ℕ
class_steps q trail = count_by (on_class q) trail

-- nothing is noted of page q, or a step was on its class word
abbrev NotesSteps : ℕ → Body → List Footstep → Type 0
NotesSteps q p trail = (noted q p.classes ≡ None) ⊎ (0 < class_steps q trail)

more_steps : (q : ℕ) (t : List Footstep) (s : Footstep) {n : ℕ} → n < class_steps q t
    → n < class_steps q (t ++ s ∷ [])
more_steps q t s some = let c = counts_grow (on_class q) t s in omega (arith, c, some)

one_step_more : (q : ℕ) (t : List Footstep) (s : Footstep) → on_class q s ≡ true
    → class_steps q (t ++ s ∷ []) ≡ class_steps q t + 1
one_step_more q t s is =
    let c = counts_grow (on_class q) t s in
    let one : if1 (on_class q s) ≡ 1 = ap if1 is in
    omega (arith, c, one)

none_noted : (q : ℕ) → noted q [] ≡ None
unfolding noted
none_noted q = refl

-- a note of another page
other_note : (q r c : ℕ) (xs : List (ℕ × ℕ)) → (r == q) ≡ false → noted q ((r, c) ∷ xs) ≡ noted q xs
unfolding noted
other_note q r c xs other = ap (λ (b : Bool). cond b (Some c) (noted q xs)) other

-- a word that is written as it was read
same_word : (f : ℕ → ℕ) (r q : ℕ) → put f r (f r) q ≡ f q
same_word f r q = ⊎_elim
    (λ (is : q ≡ r). subst (λ (z : ℕ). put f r (f r) z ≡ f z) (sym is) (put_same f r (f r)))
    (λ (other : q ≢ r). put_other f r q (f r) (ne_eqb q r other))
    (cases_eq q r)

-- ---- one move

module _ (plan : Plan) (w : World) (q : ℕ) (t : List Footstep) (p : Body) (old : NotesSteps q p t) where
  abbrev move_found : Move → ℕ
  move_found m = read w.words (row_of plan p m).place

  abbrev trod : Move → Footstep
  trod m = footstep_of (action_of plan m) (row_of plan p m) (move_found m)

  abbrev Same : Body → Type 0
  Same u = noted q u.classes ≡ noted q p.classes

  kept : (s : Footstep) (u : Body) → Same u → NotesSteps q u (t ++ s ∷ [])
  kept s u same = ⊎_elim (λ none. inl (same ∙ none)) (λ some. inr (more_steps q t s some)) old

  -- a move that notes something of page r
  notes_page : (s : Footstep) (r c : ℕ) (u : Body) → u.classes ≡ (r, c) ∷ p.classes → on_class q s ≡ (r == q)
      → (b : Bool) → (r == q) ≡ b → NotesSteps q u (t ++ s ∷ [])
  notes_page s r c u is here true e =
      let one = one_step_more q t s (here ∙ e) in inr (omega (arith, one))
  notes_page s r c u is here false e = kept s u (ap (noted q) is ∙ other_note q r c p.classes e)

  pub notes_after : (m : Move) → NotesSteps q ((row_of plan p m).part (move_found m)) (t ++ trod m ∷ [])
  notes_after (move.ReadPage r) = notes_page (trod (move.ReadPage r)) r (move_found (move.ReadPage r))
      ((row_of plan p (move.ReadPage r)).part (move_found (move.ReadPage r))) refl refl (r == q) refl
  notes_after (move.SetClass r c) = notes_page (trod (move.SetClass r c)) r (c + 1)
      ((row_of plan p (move.SetClass r c)).part (move_found (move.SetClass r c))) refl refl (r == q) refl
  notes_after (move.Adopt k) = cond_either (λ (u : Body). NotesSteps q u (t ++ trod (move.Adopt k) ∷ []))
      (move_found (move.Adopt k) == 0) _ p (inl (none_noted q)) (kept (trod (move.Adopt k)) p refl)
  notes_after (move.EnterGet k x) = kept (trod (move.EnterGet k x))
      ((row_of plan p (move.EnterGet k x)).part (move_found (move.EnterGet k x)))
      (cond_either Same (live_at x.generation (move_found (move.EnterGet k x))
      && has_room plan.keys.guard_max (move_found (move.EnterGet k x))) (record p { holds = k ∷ p.holds })
      (hand p (Leaving (slot_ref_of x))) refl refl)
  notes_after (move.Finish x g) = kept (trod (move.Finish x g))
      ((row_of plan p (move.Finish x g)).part (move_found (move.Finish x g)))
      (cond_either Same (is_reusable_after g plan.keys.gen_max (move_found (move.Finish x g)))
      (cond (own plan p x.page) (hand (record p { mine = x ∷ p.mine }) Idle) (hand p (ToPut x))) (hand p Idle)
      (cond_either Same (own plan p x.page) (hand (record p { mine = x ∷ p.mine }) Idle) (hand p (ToPut x)) refl refl)
      refl)
  notes_after (move.Follow r s) = kept (trod (move.Follow r s))
      ((row_of plan p (move.Follow r s)).part (move_found (move.Follow r s)))
      (cond_either Same (move_found (move.Follow r s) == 0) p _ refl refl)
  notes_after (move.FollowBell r) = kept (trod (move.FollowBell r))
      ((row_of plan p (move.FollowBell r)).part (move_found (move.FollowBell r)))
      (cond_either Same (move_found (move.FollowBell r) == 0) p _ refl refl)
  notes_after m = kept (trod m) ((row_of plan p m).part (move_found m)) refl

  -- the class word of page q after the move
  abbrev word_after : Move → ℕ
  word_after m = (write w.words (row_of plan p m).place (operate (row_of plan p m).operation (move_found m))).class_at q

  abbrev SetAfter : Move → Type 0
  SetAfter m = (word_after m ≡ w.words.class_at q) ⊎ (1 < class_steps q (t ++ trod m ∷ []))

  -- a class is set only if the word is noted
  sets_page : (r c n : ℕ) → noted r p.classes ≡ Some n → (b : Bool) → (r == q) ≡ b → SetAfter (move.SetClass r c)
  sets_page r c n has true e =
      let known : noted q p.classes ≡ Some n = subst (λ (z : ℕ). noted z p.classes ≡ Some n) (eqb-true r q e) has in
      let one = one_step_more q t (trod (move.SetClass r c)) e in
      ⊎_elim (λ none. absurd (none-some n (sym none ∙ known))) (λ some. inr (omega (arith, one, some))) old
  sets_page r c n has false e = inl (put_other w.words.class_at r q (c + 1)
      (ne_eqb q r (λ same. (let z : true ≡ false = sym (eq-eqb r q (sym same)) ∙ e in cc))))

  pub set_after : (m : Move) → May plan p m → SetAfter m
  set_after (move.SetClass r c) may = sets_page r c may.0 may.4 (r == q) refl
  set_after (move.ReadPage r) may = inl (same_word w.words.class_at r q)
  set_after (move.ReadClass k x) may = inl (same_word w.words.class_at x.page q)
  set_after (move.LookOn k x s) may = inl (ap (λ (W : Words). W.class_at q) (write_same w.words (look_place x s)))
  set_after (move.ReadEnding x g s) may =
      inl (ap (λ (W : Words). W.class_at q) (write_same w.words (look_place (name_at x g) s)))
  set_after m may = inl refl

-- ---- all events

module _ (plan : Plan) (few : (es : List Event) → length (run plan es).parts ≡ plan.passes) where
  -- what each pass notes, it found by a step; and one pass did two steps on each class word that is not 0
  record Counted (w : World) (trails : ℕ → List Footstep) : Type 0 where
    pub notes : (b : ℕ) (p : Body) → slice_get w.parts b ≡ Some p → (q : ℕ) → NotesSteps q p (trails b)
    pub words : (q : ℕ) → (w.words.class_at q ≡ 0)
        ⊎ ((b : ℕ) × (b < plan.passes) × (1 < class_steps q (trails b)))

  of_many : (n b : ℕ) (x p : Body) → slice_get (replicate n x) b ≡ Some p → x ≡ p
  of_many zero b x p e = absurd (none-some p e)
  of_many (suc n) zero x p e = same_Some x p e
  of_many (suc n) (suc b) x p e = of_many n b x p e

  at_start : Counted (open_world plan) (trail_of plan [])
  at_start = record {
    notes = λ b p at q. inl (subst (λ (u : Body). noted q u.classes ≡ None) (of_many plan.passes b newcomer p at)
        (none_noted q));
    words = λ q. inl refl;
  }

  moved : (w : World) (trails then : ℕ → List Footstep) (a : ℕ) (p : Body) (m : Move) → slice_get w.parts a ≡ Some p
      → May plan p m → a < plan.passes → Counted w trails
      → then a ≡ trails a
      ++ footstep_of (action_of plan m) (row_of plan p m) (read w.words (row_of plan p m).place) ∷ []
      → ((b : ℕ) → a ≢ b → then b ≡ trails b) → Counted (apply w a (row_of plan p m)) then
  unfolding apply
  moved w trails then a p m at may lt old mine others = record {
    notes = λ b u has q. ⊎_elim (λ h.
        let new : NotesSteps q part (then a) = subst (λ (z : List Footstep). NotesSteps q part z) (sym mine)
        (notes_after plan w q (trails a) p (old.notes a p at q) m) in
        let now : NotesSteps q u (then a) = subst (λ (z : Body). NotesSteps q z (then a)) h.1 new in
        subst (λ (z : ℕ). NotesSteps q u (then z)) (sym h.0) now)
        (λ h. subst (λ (z : List Footstep). NotesSteps q u z) (sym (others b (λ e. h.0 (sym e)))) (old.notes b u h.1 q))
        (get_set w.parts a b part u has);
    words = λ q. ⊎_elim
        (λ same. ⊎_elim (λ none. inl (same ∙ none)) (λ two. inr (two.0, two.1, still q two.0 two.2)) (old.words q))
        (λ two. inr (a, lt, subst (λ (z : List Footstep). 1 < class_steps q z) (sym mine) two))
        (set_after plan w q (trails a) p (old.notes a p at q) m may);
  } where
    part : Body
    part = (row_of plan p m).part (read w.words (row_of plan p m).place)

    still : (q b : ℕ) → 1 < class_steps q (trails b) → 1 < class_steps q (then b)
    still q b two = ⊎_elim
        (λ (is : a ≡ b). subst (λ (z : ℕ). 1 < class_steps q (then z)) is
        (subst (λ (z : List Footstep). 1 < class_steps q z) (sym mine) (more_steps q (trails a)
        (footstep_of (action_of plan m) (row_of plan p m) (read w.words (row_of plan p m).place))
        (subst (λ (z : ℕ). 1 < class_steps q (trails z)) (sym is) two))))
        (λ (other : a ≢ b). subst (λ (z : List Footstep). 1 < class_steps q z) (sym (others b other)) two)
        (cases_eq a b)

  event : (es : List Event) (e : Event) → Counted (run plan es) (trail_of plan es)
      → Counted (run plan (es ++ e ∷ [])) (trail_of plan (es ++ e ∷ []))
  event es e old = by_part (slice_get (run plan es).parts e.pass) refl where
    skips : row_of_event plan (run plan es) e ≡ None
        → Counted (run plan (es ++ e ∷ [])) (trail_of plan (es ++ e ∷ []))
    skips none =
        let world : run plan (es ++ e ∷ []) ≡ run plan es = run_snoc plan (open_world plan) es e
        ∙ skipped plan (run plan es) e none in
        let P : World × (ℕ → List Footstep) → Type 0 = λ z. Counted z.0 z.1 in
        subst P (λ i. (sym world i, λ b. sym (skips_leave_trails plan es e b none) i)) old

    by_part : (o : Option Body) → slice_get (run plan es).parts e.pass ≡ o
        → Counted (run plan (es ++ e ∷ [])) (trail_of plan (es ++ e ∷ []))
    by_part None at = skips (row_of_past plan (run plan es) e at)
    by_part (Some p) at = by_row (row plan p e.action) refl where
      by_row : (o : Option Row) → row plan p e.action ≡ o
          → Counted (run plan (es ++ e ∷ [])) (trail_of plan (es ++ e ∷ []))
      by_row None is = skips (row_of_at plan (run plan es) e p at ∙ is)
      by_row (Some r) is = done (move_of_row plan p e.action r is) where
        done : (m : Move) × (Rattle.sh_step.specs.Moves.move_of plan p e.action ≡ Some m) × May plan p m
            × (action_of plan m ≡ e.action) × (r ≡ row_of plan p m)
            → Counted (run plan (es ++ e ∷ [])) (trail_of plan (es ++ e ∷ []))
        done (m, _, may, act, same) =
            let its : row plan p e.action ≡ Some (row_of plan p m) = is ∙ ap (λ (u : Row). Some u) same in
            let world : run plan (es ++ e ∷ []) ≡ apply (run plan es) e.pass (row_of plan p m) =
            run_snoc plan (open_world plan) es e
            ∙ step_moves plan (run plan es) e p (row_of plan p m) at its in
            let n : ℕ = read (run plan es).words (row_of plan p m).place in
            let grown : trail_of plan (es ++ e ∷ []) e.pass
            ≡ trail_of plan es e.pass ++ footstep_of (action_of plan m) (row_of plan p m) n ∷ [] =
            trail_grows plan es e.pass e.action p (row_of plan p m) at its
            ∙ ap (λ (x : Action). trail_of plan es e.pass ++ footstep_of x (row_of plan p m) n ∷ []) (sym act) in
            let within = slice_get_within (run plan es).parts e.pass p at in
            let all = few es in
            subst (λ (v : World). Counted v (trail_of plan (es ++ e ∷ []))) (sym world)
            (moved (run plan es) (trail_of plan es) (trail_of plan (es ++ e ∷ [])) e.pass p m at may
            (omega (arith, within, all)) old grown (λ b other. others_trails_stay plan es e b other))

  ran : (es more : List Event) → Counted (run plan es) (trail_of plan es)
      → Counted (run plan (es ++ more)) (trail_of plan (es ++ more))
  ran es [] old =
      subst (λ (ds : List Event). Counted (run plan ds) (trail_of plan ds)) (sym (append-nil es)) old
  ran es (e ∷ more) old = subst (λ (ds : List Event). Counted (run plan ds) (trail_of plan ds))
      (append_assoc es (e ∷ []) more) (ran (es ++ e ∷ []) more (event es e old))

  -- a page with a class had two steps of one pass on its class word
  pub classed_by : (es : List Event) (q : ℕ) → (run plan es).words.class_at q ≢ 0 → (b : ℕ) × (b < plan.passes)
      × (1 < class_steps q (trail_of plan es b))
  classed_by es q some =
      let first : Counted (run plan []) (trail_of plan []) = subst (λ (v : World). Counted v (trail_of plan []))
      (sym (run_none plan (open_world plan))) at_start in
      ⊎_elim (λ none. absurd (some none)) (λ two. two) ((ran [] es first).words q)
