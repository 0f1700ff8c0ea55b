-- What the state word of a slot says of the keys that name it, once all passes met.
use Rattle.std.proofs.Common.{◌≡◌, ◌≢◌, ℕ, ◌*◌, ◌<◌, ◌≤◌, ◌/◌, ◌%◌, ◌&&◌, Bool, true, false, List, sym, ap, ◌∙◌}
use Rattle.std.proofs.Common.{subst, refl}
use Rattle.std.proofs.Common.{arith, Some, ◌++◌}
use Rattle.std.specs.Prelude.{not}
use mathlib.Core.Logic.{dite}
use native.Mathlib.Decide.{ℕ_discrete}
use Rattle.sh_history.specs.declared.entry.Entry.{Entry}
use Rattle.sh_key.specs.Layout.{Layout}
use Rattle.sh_shape.specs.declared.places.Place.TheVariants.{State}
use Rattle.sh_shape.specs.Places.{all_pages}
use Rattle.sh_slots.specs.declared.hand.KeyRef.{KeyRef}
use Rattle.sh_slots.specs.Slots.{name_at}
use Rattle.sh_step.specs.Collections.{if1}
use Rattle.sh_step.specs.Plans.{Plan, plan_of, Lawful}
use Rattle.sh_word.specs.Fields.{Fields, fields_of}
use Rattle.sh_core.specs.Lists.{PutLists, lists_of, state_of}
use Rattle.sh_core.specs.Stacks.{slot_ref}
use Rattle.sh_core.specs.Worlds.{World, run}
use Rattle.sh_core.proofs.Sums.Tests.{if1_none, if1_one}
use Rattle.sh_table.specs.declared.view.View.{View}
use Rattle.sh_table.specs.Whole.{IsWhole, Known, noting}
use Rattle.sh_pass.specs.Passes.{Caller, IsAtRest}
use Rattle.sh_shape.specs.Shape.{Numbers}
use Rattle.sh_gather.specs.Histories.{IsHistory, CanBe}
use Rattle.sh_gather.specs.Gathering.{IsGathered, NotedMore}
use Rattle.sh_gather.specs.LiveKeys.{NoneLiveAt, IsLiveAt}
use Rattle.sh_gather.specs.PageKeys.{is_live_key}
use Rattle.sh_gather.proofs.Histories.{same_live_key}
use Rattle.sh_gather.proofs.KeyLists.{last_generation}
use Rattle.sh_gather.proofs.Leading.{Core, leads_before, leading, laws, refined, rests}
use Rattle.sh_gather.proofs.PageKeys.{range, live_now, live_other}
use Rattle.sh_gather.proofs.Walking.{note_gathered}

same_if1 : (b c : Bool) → if1 b ≡ if1 c → b ≡ c
same_if1 true c e = sym (if1_one c (sym e))
same_if1 false c e = sym (if1_none c (sym e))

-- a view that noted the state word of a slot, whose fields these are
module _ (layout : Layout) (v : View) (q s word : ℕ) (core : Core) (gathered : IsGathered (noting v (State q s) word))
    (known : Known layout (noting v (State q s) word)) (page : q < all_pages v.shape) (slot : s < 48) where
  abbrev u : View
  u = noting v (State q s) word

  abbrev the_plan : Plan
  the_plan = plan_of layout v.shape

  abbrev seen : Fields
  seen = fields_of word

  abbrev first : CanBe layout u
  first = leading layout u core known

  abbrev w : World
  w = run the_plan first.0

  abbrev l : PutLists
  l = lists_of the_plan first.0

  law : Lawful the_plan
  law = laws layout u core gathered known

  here : state_of w (slot_ref q s) ≡ seen
  here = ap fields_of (leads_before layout v (State q s) word first.0 first.1).1

  generations : (0 < (state_of w (slot_ref q s)).generation)
      × ((state_of w (slot_ref q s)).generation ≤ the_plan.keys.gen_max)
  generations = range the_plan w l law (refined layout u core gathered known first.0)
      (rests layout u core gathered known first.0 first.1) (slot_ref q s) page slot

  pub fits : (0 < seen.generation) × (seen.generation ≤ the_plan.keys.gen_max)
  fits = subst (λ (f : Fields). (0 < f.generation) × (f.generation ≤ the_plan.keys.gen_max)) here generations

  -- a key of the slot, by its generation
  abbrev key_in : ℕ → ℕ
  key_in g = the_plan.keys.pack (name_at (slot_ref q s) g)

  keyed : (k : ℕ) (n : KeyRef) → the_plan.keys.unpack k ≡ Some n → n.page ≡ q → n.slot ≡ s → k ≡ key_in n.generation
  keyed k n e is_page is_slot =
      let same : n ≡ name_at (slot_ref q s) n.generation = λ i. record
      { page = is_page i; slot = is_slot i; generation = n.generation } in
      law.keys k n e ∙ ap the_plan.keys.pack same

  agree : (history : List Entry) → IsHistory layout u history → (k : ℕ) → is_live_key history k ≡ is_live_key w.log k
  agree history h k = same_live_key layout u gathered.whole history w.log h first.2 k

  -- the key of the present generation is live if the word says so, and no other is
  now : is_live_key w.log (key_in seen.generation) ≡ (seen.present && not seen.marked)
  now =
      let at = live_now the_plan w l law (refined layout u core gathered known first.0)
      (rests layout u core gathered known first.0 first.1) (slot_ref q s) page slot in
      same_if1 _ _ (subst
      (λ (f : Fields). if1 (is_live_key w.log (key_in f.generation)) ≡ if1 (f.present && not f.marked)) here at)

  other : (k : ℕ) (n : KeyRef) → the_plan.keys.unpack k ≡ Some n → n.page ≡ q → n.slot ≡ s
      → n.generation ≢ seen.generation → is_live_key w.log k ≡ false
  other k n e is_page is_slot ne =
      let top = last_generation layout v.shape.shards (8 * v.shape.segments) k n e in
      let apart : n.generation ≢ (state_of w (slot_ref q s)).generation = subst
      (λ (f : Fields). n.generation ≢ f.generation) (sym here) ne in
      let at = live_other the_plan w l law (refined layout u core gathered known first.0)
      (rests layout u core gathered known first.0 first.1) (slot_ref q s) page slot n.generation (law.begins k n e) top
      apart in if1_none (is_live_key w.log k)
      (ap (λ (j : ℕ). if1 (is_live_key w.log j)) (keyed k n e is_page is_slot) ∙ at)

  -- if the word says so, no key of the slot is live
  pub none_there : (seen.present && not seen.marked) ≡ false → (history : List Entry) (k : ℕ) (n : KeyRef)
      → IsHistory layout u history → the_plan.keys.unpack k ≡ Some n → n.page ≡ q → n.slot ≡ s
      → is_live_key history k ≡ false
  none_there off history k n h e is_page is_slot = agree history h k ∙ dite (ℕ_discrete n.generation seen.generation)
      (λ (same : n.generation ≡ seen.generation). ap (is_live_key w.log) (keyed k n e is_page is_slot ∙ ap key_in same)
      ∙ (now ∙ off))
      (λ (ne : n.generation ≢ seen.generation). other k n e is_page is_slot ne)

  -- otherwise one is live, and it is the only one
  pub one_there : (seen.present && not seen.marked) ≡ true → (history : List Entry) → IsHistory layout u history
      → is_live_key history (the_plan.keys.pack (name_at (slot_ref q s) seen.generation)) ≡ true
  one_there on history h = agree history h (key_in seen.generation) ∙ (now ∙ on)

  pub one_alone : (history : List Entry) (k : ℕ) (n : KeyRef) → IsHistory layout u history
      → the_plan.keys.unpack k ≡ Some n → n.page ≡ q → n.slot ≡ s → is_live_key history k ≡ true
      → k ≡ the_plan.keys.pack (name_at (slot_ref q s) seen.generation)
  one_alone history k n h e is_page is_slot live = dite (ℕ_discrete n.generation seen.generation)
      (λ (same : n.generation ≡ seen.generation). keyed k n e is_page is_slot ∙ ap key_in same)
      (λ (ne : n.generation ≢ seen.generation). absurd (let z : true ≡ false = sym live ∙ (agree history h k
      ∙ other k n e is_page is_slot ne) in cc))

  pub its_name : the_plan.keys.unpack (the_plan.keys.pack (name_at (slot_ref q s) seen.generation))
      ≡ Some (name_at (slot_ref q s) seen.generation)
  its_name = law.names (name_at (slot_ref q s) seen.generation) fits.0 fits.1 page slot

  pub can_be : CanBe layout u
  can_be = first

-- ---- what is live at a place

below : (n place : ℕ) → place < n * 48 → (place / 48 < n) × (place % 48 < 48)
below n place low = (omega arith, omega arith)

-- the state word of the slot at this place was noted
pub record Look (layout : Layout) (v u : View) (place word : ℕ) : Type 0 where
  pub gathered : IsGathered v
  pub known : Known layout u
  pub noted : u ≡ noting v (State (place / 48) (place % 48)) word
  pub inside : place < all_pages v.shape * 48

pub looked : (layout : Layout) (c : Caller) (u : View) (place word f g : ℕ) → IsAtRest c → IsWhole c.view
    → Known layout u → f ≡ 48 → g ≡ 48 → u ≡ noting c.view (State (place / f) (place % g)) word
    → place < all_pages c.heap.shape * 48 → Look layout c.view u place word
looked layout c u place word f g rest whole known is also noted inside = record {
  gathered = record { whole = whole; idle = rest.idle; left = rest.left };
  known = known;
  noted = subst (λ (z : ℕ × ℕ). u ≡ noting c.view (State (place / z.0) (place % z.1)) word) (λ i. (is i, also i)) noted;
  inside = subst (λ (n : Numbers). place < all_pages n * 48) (sym rest.shape) inside;
}

-- the fields as they were read from the word
pub off_marked : (f st : Fields) → f ≡ st → f.marked ≡ true → (st.present && not st.marked) ≡ false
off_marked f st e m = subst (λ (x : Fields). (x.present && not x.marked) ≡ false) e (go f.present f.marked m) where
  go : (p b : Bool) → b ≡ true → (p && not b) ≡ false
  go true true i = refl
  go false true i = refl
  go p false i = absurd (let z : false ≡ true = i in cc)

pub off_absent : (f st : Fields) → f ≡ st → not f.present ≡ true → (st.present && not st.marked) ≡ false
off_absent f st e m = subst (λ (x : Fields). (x.present && not x.marked) ≡ false) e (go f.present f.marked m) where
  go : (p b : Bool) → not p ≡ true → (p && not b) ≡ false
  go false b i = refl
  go true b i = absurd (let z : false ≡ true = i in cc)

pub on_live : (f st : Fields) → f ≡ st → f.marked ≡ false → not f.present ≡ false → (st.present && not st.marked) ≡ true
on_live f st e m n = subst (λ (x : Fields). (x.present && not x.marked) ≡ true) e (go f.present f.marked m n) where
  go : (p b : Bool) → b ≡ false → not p ≡ false → (p && not b) ≡ true
  go true false i j = refl
  go true true i j = absurd (let z : true ≡ false = i in cc)
  go false b i j = absurd (let z : true ≡ false = j in cc)

module _ (layout : Layout) (v u : View) (place word : ℕ) (core : Core) (look : Look layout v u place word) where
  abbrev Here : View → Type 0
  Here x = IsGathered x × Known layout x

  both : Here (noting v (State (place / 48) (place % 48)) word)
  both = subst Here look.noted
      (note_gathered v u (State (place / 48) (place % 48)) word look.noted look.gathered, look.known)

  page : place / 48 < all_pages v.shape
  page = (below (all_pages v.shape) place look.inside).0

  slot : place % 48 < 48
  slot = (below (all_pages v.shape) place look.inside).1

  pub none_at : ((fields_of word).present && not (fields_of word).marked) ≡ false → NoneLiveAt layout u place
  none_at off = subst (λ (x : View). NoneLiveAt layout x place) (sym look.noted)
      (λ history k h m. none_there layout v (place / 48) (place % 48) word core both.0 both.1 page slot off history k
      m.name h m.unpacks m.page m.slot)

  pub live_at : ((fields_of word).present && not (fields_of word).marked) ≡ true → (k : ℕ)
      → k ≡ (plan_of layout v.shape).keys.pack
      (name_at (slot_ref (place / 48) (place % 48)) (fields_of word).generation)
      → IsLiveAt layout u place k
  live_at on k is =
      let x : View = noting v (State (place / 48) (place % 48)) word in
      let own : ℕ = (plan_of layout v.shape).keys.pack
      (name_at (slot_ref (place / 48) (place % 48)) (fields_of word).generation) in
      let at : IsLiveAt layout x place own = record {
        names = record {
          name = name_at (slot_ref (place / 48) (place % 48)) (fields_of word).generation;
          unpacks = its_name layout v (place / 48) (place % 48) word core both.0 both.1 page slot;
          page = refl;
          slot = refl;
        };
        live = one_there layout v (place / 48) (place % 48) word core both.0 both.1 page slot on;
        alone = λ history j h m live. one_alone layout v (place / 48) (place % 48) word core both.0 both.1 page slot
            history j m.name h m.unpacks m.page m.slot live;
        can_be = can_be layout v (place / 48) (place % 48) word core both.0 both.1 page slot;
      } in
      subst (λ (z : View × ℕ). IsLiveAt layout z.0 place z.1) (λ i. (sym look.noted i, sym is i)) at

  pub packs : (plan_of layout v.shape).keys.unpack ((plan_of layout v.shape).keys.pack
      (name_at (slot_ref (place / 48) (place % 48)) (fields_of word).generation))
      ≡ Some (name_at (slot_ref (place / 48) (place % 48)) (fields_of word).generation)
  packs = its_name layout v (place / 48) (place % 48) word core both.0 both.1 page slot

-- the same for the shape and the numbers that the code computes
pub packs_so : (layout : Layout) (c : Caller) (u : View) (place word f g e : ℕ) (n : Numbers) → Core
    → Look layout c.view u place word → IsAtRest c → n ≡ c.heap.shape → f ≡ 48 → g ≡ 48
    → e ≡ (fields_of word).generation → (plan_of layout n).keys.unpack ((plan_of layout n).keys.pack
    (record { page = place / f; slot = place % g; generation = e }))
    ≡ Some (record { page = place / f; slot = place % g; generation = e })
packs_so layout c u place word f g e n core look rest is a b d =
    let P : Numbers × ℕ × ℕ × ℕ → Type 0 = λ z. (plan_of layout z.0).keys.unpack ((plan_of layout z.0).keys.pack
    (record { page = place / z.1; slot = place % z.2; generation = z.3 }))
    ≡ Some (record { page = place / z.1; slot = place % z.2; generation = z.3 }) in
    subst P (λ i. (sym (is ∙ sym rest.shape) i, sym a i, sym b i, sym d i))
    (packs layout c.view u place word core look)

pub live_so : (layout : Layout) (c : Caller) (u : View) (place word f g e k : ℕ) (n : Numbers) → Core
    → Look layout c.view u place word → IsAtRest c → n ≡ c.heap.shape → f ≡ 48 → g ≡ 48
    → e ≡ (fields_of word).generation → ((fields_of word).present && not (fields_of word).marked) ≡ true
    → k ≡ (plan_of layout n).keys.pack (record { page = place / f; slot = place % g; generation = e })
    → IsLiveAt layout u place k
live_so layout c u place word f g e k n core look rest is a b d on key_is =
    let P : Numbers × ℕ × ℕ × ℕ → Type 0 = λ z. k ≡ (plan_of layout z.0).keys.pack
    (record { page = place / z.1; slot = place % z.2; generation = z.3 }) in
    live_at layout c.view u place word core look on k (subst P (λ i. ((is ∙ sym rest.shape) i, a i, b i, d i)) key_is)

-- ---- a view that noted more

-- a place without a live key is still one
pub none_later : (layout : Layout) (v u : View) (place : ℕ) → NotedMore v u → NoneLiveAt layout v place
    → NoneLiveAt layout u place
none_later layout v u place h none =
    let at : NoneLiveAt layout (record v { noted = v.noted ++ h.0 }) place = λ history k i names.
    (let t = i.tale in none history k (record {
      tale = record
          { legal = t.legal; own = t.own; told = t.told; orders = t.orders };
      ours = i.ours;
    }) names) in
    subst (λ (x : View). NoneLiveAt layout x place) (sym h.1) at
