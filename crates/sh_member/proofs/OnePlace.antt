-- A walk over one place: a peek, and a look or a get of the key that it found.
use Rattle.std.proofs.Common.{◌≡◌, ◌≢◌, ℕ, ◌+◌, ◌-◌, ◌*◌, ◌≤◌, List, [], ◌∷◌, ◌++◌, length}
use Rattle.std.proofs.Common.{refl, sym, ◌∙◌, ap, subst, arith, Some, None, Result, Ok, Err}
use Rattle.sh_key.specs.Layout.{Layout}
use Rattle.sh_step.specs.declared.footstep.Footstep.{Footstep}
use Rattle.sh_step.specs.Moves.{place_named}
use Rattle.sh_step.specs.Plans.{Plan}
use Rattle.sh_history.specs.declared.entry.Entry.TheVariants as entry
use Rattle.sh_history.specs.declared.log.LogEntry.{LogEntry}
use Rattle.sh_history.specs.declared.log.LogEntry.TheVariants.{Known, Unread}
use Rattle.sh_table.specs.Views.{Each}
use Rattle.sh_value.specs.declared.hold.Hold.{Hold}
use Rattle.sh_value.specs.declared.refusal.Refusal.{Refusal}
use Rattle.sh_value.specs.declared.refusal.Refusal.TheVariants as refusal
use Rattle.sh_pass.specs.declared.looking.Glance.{Glance}
use Rattle.sh_pass.specs.declared.looking.Glance.TheVariants as glance
use Rattle.sh_pass.specs.Owners.{IsKeyOfSlot}
use Rattle.sh_pass.specs.Passes.{Caller, CallAdds, GetDoes, GlanceDoes, holds, plan_for}
use Rattle.sh_pass.specs.Deciding.{InOneStep, LookDecided}
use Rattle.sh_pass.specs.Missing.{MissesKeysOf}
use Rattle.sh_pass.specs.Peeks.{PeekDoes, Peeked, slot_at}
use Rattle.sh_pass.specs.Rooms.{becomes}
use Rattle.sh_member.specs.Walks.{IsKeyBetween, Meets, MissesBetween, NextHeldDoes}
use Rattle.sh_member.specs.Walks.{Skips, gone_entries}
use Rattle.sh_member.proofs.PlaceWalks.{adds_to, adds_along, same_plan}
use Rattle.sh_pass.proofs.MissedLaws.{Misses, early_by_look, gone_by_get, gone_by_look, live_missed}
use Rattle.sh_pass.proofs.MissedLaws.{none_live, still_heard}

-- the place was missed
at_place : (layout : Layout) (place : ℕ) (v : Caller) (new : List Footstep)
    → MissesKeysOf (plan_for layout v) v.view (slot_at place) new
    → MissesBetween (plan_for layout v) v.view place (place + 1) new
at_place layout place v new m n low high = subst
    (λ (q : ℕ). MissesKeysOf (plan_for layout v) v.view (slot_at q) new)
    (let e : place ≡ n = omega arith in e) m

one_step : (each place : ℕ) → 1 ≤ each → 1 ≤ each * (place + 1 - place)
one_step each place some =
    let one : place + 1 - place ≡ 1 = omega arith in
    let same : each * (place + 1 - place) ≡ each * 1 = ap (λ n. each * n) one in
    omega arith

-- a peek found no key
pub peeked_none : (layout : Layout) (each place : ℕ) (v w : Caller) → 1 ≤ each → PeekDoes layout place v None w
    → Skips layout each place (place + 1) v w
peeked_none layout each place v w some p = record {
  gone = [];
  there = tt;
  adds = adds_to (Peeked (plan_for layout v) v.view (slot_at place) None)
      (MissesBetween (plan_for layout v) v.view place (place + 1)) (each * (place + 1 - place)) v w p
      (one_step each place some)
      (λ xs so. at_place layout place v xs (none_live layout v.heap.shape v.view (slot_at place) xs so));
}

-- a peek found this key
module _ (layout : Layout) (place key : ℕ) (v a : Caller) (p : PeekDoes layout place v (Some key) a) where
  abbrev plan : Plan
  plan = plan_for layout v

  its : IsKeyOfSlot plan (slot_at place) key
  its = let s = p.first.2.says in (s.0, s.1, s.2)

  same : plan_for layout a ≡ plan
  same = same_plan layout v a p.heap

  -- and the next steps, which added these entries in at most so many steps, missed it
  missed : (each most : ℕ) (gone : List ℕ) (w : Caller) (IsSo : List Footstep → Type 0)
      → ((ys : List Footstep) → IsSo ys → Misses (plan_for layout a) v.view key ys)
      → Each (IsKeyBetween plan place (place + 1)) gone
      → CallAdds (gone_entries a.view.pass gone) (holds a) most IsSo a w → most + 1 ≤ each
      → Skips layout each place (place + 1) v w
  missed each most gone w IsSo misses there adds fits = record {
    gone = gone;
    there = there;
    adds = subst (λ (z : ℕ × List ℕ). CallAdds (gone_entries z.0 gone) z.1 (each * (place + 1 - place))
        (MissesBetween plan v.view place (place + 1)) v w) (λ i. (p.same.pass i, p.holds i))
        (adds_along (Peeked plan v.view (slot_at place) (Some key)) IsSo (MissesBetween plan v.view place (place + 1))
        (each * (place + 1 - place)) v a w p adds bound
        (λ xs ys x y. at_place layout place v (xs ++ ys) (live_missed layout v.heap.shape v.view (slot_at place) key
        xs ys x (subst (λ (z : Plan). Misses z v.view key ys) same (misses ys y)))));
  } where
    bound : 1 + most ≤ each * (place + 1 - place)
    bound =
        let one : place + 1 - place ≡ 1 = omega arith in
        let times : each * (place + 1 - place) ≡ each * 1 = ap (λ n. each * n) one in
        omega arith

  one_gone : Each (IsKeyBetween plan place (place + 1)) (key ∷ [])
  one_gone = ((place, omega arith, omega arith, its), tt)

  -- and then it was found
  met : (each most : ℕ) (E : ℕ → LogEntry) (K : List ℕ → List ℕ) (IsSo : List Footstep → Type 0) (w : Caller)
      → CallAdds (E a.view.pass ∷ []) (K (holds a)) most IsSo a w
      → Meets layout each place (place + 1) key (place + 1) (E v.view.pass ∷ []) (K (holds v)) (most + 1) v w
  met each most E K IsSo w adds = record {
    place = place;
    behind_is = refl;
    from_there = omega arith;
    inside = omega arith;
    names = its;
    gone = [];
    there = tt;
    adds = subst (λ (z : ℕ × List ℕ). CallAdds (E z.0 ∷ []) (K z.1) (each * (place - place) + (most + 1))
        (MissesBetween plan v.view place place) v w) (λ i. (p.same.pass i, p.holds i))
        (adds_along (Peeked plan v.view (slot_at place) (Some key)) IsSo (MissesBetween plan v.view place place)
        (each * (place - place) + (most + 1)) v a w p adds (omega arith)
        (λ xs ys x y n low high. absurd (omega arith)));
  }

  -- ---- by a look

  pub look_saw : (before after : List ℕ) (w : Caller) → GlanceDoes becomes layout key a before (Ok glance.Seen) after w
      → Meets layout 21 place (place + 1) key (place + 1) (Known (entry.Seen v.view.pass key after) ∷ []) (holds v)
      (length after + 5) v w
  look_saw before after w (value, looked, is) = subst (λ (n : ℕ). Meets layout 21 place (place + 1) key (place + 1)
      (Known (entry.Seen v.view.pass key after) ∷ []) (holds v) n v w)
      (let e : length after + 4 + 1 ≡ length after + 5 = omega arith in e)
      (met 21 (length after + 4) (λ pass. Known (entry.Seen pass key after)) (λ hs. hs)
      (LookDecided (plan_for layout a) key glance.Seen) w
      (subst (λ (seen : List ℕ). CallAdds (Known (entry.Seen a.view.pass key seen) ∷ []) (holds a) (length seen + 4)
      (LookDecided (plan_for layout a) key glance.Seen) a w) (sym is) looked.1))

  not_bad : place_named (plan_for layout a) key ≡ None → ⊥
  not_bad is =
      let none : None ≡ Some p.first.2.says.0 = sym (subst (λ (z : Plan). place_named z key ≡ None) same is)
      ∙ p.first.2.says.1 in cc

  -- a look that did not see the value, and left the room as it was
  pub look_missed : (before after : List ℕ) (r : Result Glance Refusal) (w : Caller)
      → GlanceDoes becomes layout key a before r after w → r ≢ Ok glance.Seen
      → Skips layout 21 place (place + 1) v w × (after ≡ before)
  look_missed before after (Ok glance.Seen) w g other = absurd (other refl)
  look_missed before after (Ok glance.Gone) w g other = (
    missed 21 20 (key ∷ []) w (LookDecided (plan_for layout a) key glance.Gone)
        (gone_by_look (plan_for layout a) v.view key) one_gone g.0.1 (omega arith),
    g.1,
  )
  look_missed before after (Ok glance.Early) w g other = (
    missed 21 1 [] w (LookDecided (plan_for layout a) key glance.Early)
        (λ ys so. early_by_look (plan_for layout a) v.view key ys
        (λ heard. g.1 (still_heard v.view a.view [] key p.same p.log heard)) so) tt g.0.1 (omega arith),
    g.2,
  )
  look_missed before after (Err refusal.BadKey) w g other = absurd (not_bad g.0)
  look_missed before after (Err _) w g other = absurd g

  -- ---- by a get

  same_room : length (holds a) ≡ length (holds v)
  same_room = ap length p.holds

  pub get_held : (hold : Hold) (w : Caller) → GetDoes layout key a (Ok hold) w
      → NextHeldDoes layout place (place + 1) v
      (Ok (Some (record { key = key; hold = Some hold; behind = place + 1 }))) w
  get_held hold w g = (
    g.0,
    met 8 7 (λ pass. Unread pass key) (λ hs. key ∷ hs) (λ new. Unit {0}) w
        (adds_to (InOneStep (plan_for layout a) key) (λ new. Unit {0}) 7 a w g.3 (omega arith) (λ xs so. tt)),
  )

  pub get_crowded : (w : Caller) → GetDoes layout key a (Err refusal.Crowded) w
      → NextHeldDoes layout place (place + 1) v (Ok (Some (record { key = key; hold = None; behind = place + 1 }))) w
  get_crowded w g = (
    tt,
    met 8 7 (λ pass. Known (entry.Crowded pass key)) (λ hs. hs) _ w g.2,
  )

  pub get_gone : (w : Caller) → GetDoes layout key a (Err refusal.Gone) w
      → NextHeldDoes layout place (place + 1) v (Ok None) w
  get_gone w g = (
    missed 8 7 (key ∷ []) w _ (gone_by_get (plan_for layout a) v.view key) one_gone g.2 (omega arith),
    λ full. absurd (let room = g.1 in let same = same_room in omega arith),
  )

  pub get_refused : (why : Refusal) (w : Caller) → GetDoes layout key a (Err why) w → why ≢ refusal.Gone
      → why ≢ refusal.Crowded → NextHeldDoes layout place (place + 1) v (Err why) w
  get_refused refusal.Gone w g gone crowded = absurd (gone refl)
  get_refused refusal.Crowded w g gone crowded = absurd (crowded refl)
  get_refused refusal.BadKey w g gone crowded = absurd (not_bad g.0)
  get_refused refusal.HoldsFull w g gone crowded = (
    sym same_room ∙ g.1,
    (
      place,
      omega arith,
      omega arith,
      subst (λ (c : Caller). CallAdds [] (holds v) (place + 1 - place)
          (MissesBetween plan v.view place place) v c) (sym g.2)
          (adds_to (Peeked plan v.view (slot_at place) (Some key)) (MissesBetween plan v.view place place)
          (place + 1 - place) v a p (omega arith) (λ xs so n low high. absurd (omega arith))),
    ),
  )
  get_refused _ w g gone crowded = absurd g

pub held_none : (layout : Layout) (place : ℕ) (v w : Caller) → PeekDoes layout place v None w
    → NextHeldDoes layout place (place + 1) v (Ok None) w
held_none layout place v w p = (
  peeked_none layout 8 place v w (omega arith) p,
  λ full. adds_to (Peeked (plan_for layout v) v.view (slot_at place) None)
      (MissesBetween (plan_for layout v) v.view place (place + 1)) (place + 1 - place) v w p (omega arith)
      (λ xs so. at_place layout place v xs (none_live layout v.heap.shape v.view (slot_at place) xs so)),
)
