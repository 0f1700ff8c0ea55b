-- What a gathered pass knows, of every list of events that leads to it.
use Rattle.std.proofs.Common.{◌≡◌, ◌≢◌, ℕ, ◌<◌, ◌||◌, true, false, List, [], ◌∷◌, ◌++◌, length, sym, ap, ◌∙◌, subst}
use Rattle.std.proofs.Common.{ne_eqb, arith, Some, None, slice_get}
use Rattle.std.proofs.lemmas.Option.{slice_get_within}
use mathlib.Core.Logic.{dite}
use native.Mathlib.Decide.{ℕ_discrete}
use Rattle.sh_key.specs.Layout.{Layout}
use Rattle.sh_shape.specs.Places.{all_pages}
use Rattle.sh_shape.specs.declared.places.Place.{Place}
use Rattle.sh_slots.specs.declared.hand.Hand.TheVariants.{Idle}
use Rattle.sh_step.specs.declared.action.Event.{Event}
use Rattle.sh_step.specs.declared.body.Body.{Body}
use Rattle.sh_step.specs.Plans.{Plan, plan_of, Lawful}
use Rattle.sh_core.specs.declared.accounts.Accounts.{Accounts}
use Rattle.sh_core.specs.Lists.{lists_of}
use Rattle.sh_core.specs.Refines.{Always, Refines}
use Rattle.sh_core.specs.Words.{read}
use Rattle.sh_core.specs.Worlds.{World, run}
use Rattle.sh_table.specs.declared.view.Told.{Told}
use Rattle.sh_table.specs.declared.view.View.{View}
use Rattle.sh_table.specs.Views.{Each, names, names_told}
use Rattle.sh_table.specs.Whole.{Known, noting}
use Rattle.sh_table.specs.Reached.{HasOwn, PlansAreLawful}
use Rattle.sh_table.proofs.Zips.{each_map}
use Rattle.sh_gather.specs.PageKeys.{page_keys}
use Rattle.sh_gather.specs.Histories.{LeadsHere, CanBe}
use Rattle.sh_gather.specs.Walks.{IsWholeStack}
use Rattle.sh_gather.specs.Gathering.{IsGathered, AreWholeAccounts}
use Rattle.sh_gather.proofs.Histories.{same_live, same_marked, same_retired}
use Rattle.sh_gather.proofs.PageKeys.{AllRest}
use Rattle.sh_gather.proofs.PageNumbers.{AreAccounts, accounts_are, fills, live_count, marked_count, retired_count}

-- what the core's theorem says of every run, and the laws of plans
abbrev pub Core : Type 0
Core = Always (λ plan w l. Refines plan w l) × PlansAreLawful

-- ---- noting one word more

front : {A : Type 0} (P : A → Type 0) (xs ys : List A) → Each P (xs ++ ys) → Each P xs × Each P ys
front P [] ys h = (tt, h)
front P (x ∷ xs) ys h = let r = front P xs ys h.1 in ((h.0, r.0), r.1)

pub leads_front : (layout : Layout) (v : View) (more : List (Place × ℕ)) (es : List Event)
    → LeadsHere layout (record v { noted = v.noted ++ more }) es → LeadsHere layout v es
leads_front layout v more es h = record {
  noted = (front (λ (m : Place × ℕ). read
      (run (plan_of layout v.shape) es).words m.0 ≡ m.1) v.noted more h.noted).0;
  own = h.own;
  told = h.told;
  steps = h.steps;
}

pub leads_before : (layout : Layout) (v : View) (place : Place) (n : ℕ) (es : List Event)
    → LeadsHere layout (noting v place n) es → LeadsHere layout v es
    × (read (run (plan_of layout v.shape) es).words place ≡ n)
leads_before layout v place n es h =
    let f = front (λ (m : Place × ℕ). read (run (plan_of layout v.shape) es).words m.0 ≡ m.1) v.noted ((place, n) ∷ [])
    h.noted in
    (record { noted = f.0; own = h.own; told = h.told; steps = h.steps }, f.1.0)

-- ---- what the tale says of the passes

pub leading : (layout : Layout) (v : View) → Core → Known layout v → CanBe layout v
leading layout v core k = (
  k.events,
  record {
    noted = k.noted;
    own = k.own;
    told = each_map _ _ (λ (t : Told) x. x.0) v.told k.told;
    steps = k.steps;
  },
  record { tale = k.tale; ours = (core.0 layout v.shape k.is_layout k.is_shape k.fits k.events).entries },
)

abbrev IsIdle : Body → Type 0
IsIdle p = (p.hand ≡ Idle) × (p.owned ≡ None)

same_part : (w : World) (a : ℕ) (p o : Body) → slice_get w.parts a ≡ Some p → slice_get w.parts a ≡ Some o → IsIdle o
    → IsIdle p
same_part w a p o e f h = let i : o ≡ p = let z : Some o ≡ Some p = sym f ∙ e in cc in subst IsIdle i h

idle_told : (plan : Plan) (es : List Event) (a : ℕ) (p : Body) (ts : List Told)
    → Each (λ t. HasOwn plan es t.pass t.own) ts → Each (λ t. IsIdle t.own.body) ts → slice_get (run plan es).parts a
    ≡ Some p → names_told a ts ≡ true → IsIdle p
idle_told plan es a p [] h k e is = absurd (let z : false ≡ true = is in cc)
idle_told plan es a p (t ∷ ts) h k e is = dite (ℕ_discrete t.pass a)
    (λ (i : t.pass ≡ a). same_part (run plan es) a p t.own.body e
    (subst (λ (b : ℕ). slice_get (run plan es).parts b ≡ Some t.own.body) i h.0.body) k.0)
    (λ (ne : t.pass ≢ a). idle_told plan es a p ts h.1 k.1 e
    (sym (ap (λ b. b || names_told a ts) (ne_eqb t.pass a ne)) ∙ is))

module _ (layout : Layout) (v : View) (core : Core) (gathered : IsGathered v) (known : Known layout v) where
  abbrev plan : Plan
  plan = plan_of layout v.shape

  pub laws : Lawful plan
  laws = core.1 layout v.shape known.is_layout known.is_shape known.fits

  pub refined : (es : List Event) → Refines plan (run plan es) (lists_of plan es)
  refined es = core.0 layout v.shape known.is_layout known.is_shape known.fits es

  idle_tale : Each (λ (t : Told). IsIdle t.own.body) v.told
  idle_tale = each_map _ _ (λ (t : Told) x. (x.1, x.2)) v.told known.told

  -- all passes rest
  pub rests : (es : List Event) → LeadsHere layout v es → AllRest (run plan es)
  rests es h a p at = dite (ℕ_discrete v.pass a)
      (λ (i : v.pass ≡ a). same_part (run plan es) a p v.own.body at
      (subst (λ (b : ℕ). slice_get (run plan es).parts b ≡ Some v.own.body) i h.own.body)
      (gathered.idle, gathered.left))
      (λ (ne : v.pass ≢ a).
      let low = slice_get_within (run plan es).parts a p at in
      let same = (refined es).passes in
      let named : names v a ≡ true = gathered.whole a (let z : a < plan.passes = omega arith in z) in
      idle_told plan es a p v.told h.told idle_tale at (sym (ap (λ b. b || names_told a v.told) (ne_eqb v.pass a ne))
      ∙ named))

  -- ---- so a page's accounts are these
  module _ (q : ℕ) (there : q < all_pages v.shape) (a : Accounts)
      (page : (es : List Event) (h : LeadsHere layout v es) → AreAccounts plan (run plan es) (lists_of plan es) laws
      (refined es) (rests es h) q a)
      (walked : (slots : List ℕ) × IsWholeStack v q slots × (a.queued ≡ length slots)) where
    pub are_whole : AreWholeAccounts layout v q a
    are_whole = let first = leading layout v core known in let es = first.0 in let w = run plan es
        in let l = lists_of plan es in let h = first.1 in let at = page es h in record {
          reached = λ es h. accounts_are plan (run plan es) (lists_of plan es) laws (refined es) (rests es h) q a
              (page es h);
          can_be = first;
          mine = at.mine;
          hand = at.hand;
          walked = walked;
          fill = fills plan w l (refined es) q a (accounts_are plan w l laws (refined es) (rests es h) q a at);
          counts = λ history k. record {
            live = at.live ∙ (live_count plan w l laws (refined es) (rests es h) q there
                ∙ same_live layout v gathered.whole w.log history first.2 k (page_keys plan q));
            marked = at.marked ∙ (marked_count plan w l laws (refined es) (rests es h) q there
                ∙ same_marked layout v gathered.whole w.log history first.2 k (page_keys plan q));
            retired = at.retired ∙ (retired_count plan w l laws (refined es) (rests es h) q there
                ∙ same_retired layout v gathered.whole w.log history first.2 k plan (page_keys plan q));
          };
        }
