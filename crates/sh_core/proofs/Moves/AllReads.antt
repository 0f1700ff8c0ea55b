-- All that holds, over the moves that read, and SetClass.
use Rattle.std.proofs.Common.{◌≡◌, ℕ, ◌+◌, ◌-◌, ◌*◌, ◌<◌, ◌==◌, ◌||◌, true, ◌∷◌, set, sym, refl, ap, ◌∙◌, subst, Some}
use Rattle.std.proofs.Common.{slice_get}
use Rattle.sh_slots.specs.declared.hand.SlotRef.{SlotRef}
use Rattle.sh_slots.specs.declared.hand.KeyRef.{KeyRef}
use Rattle.sh_slots.specs.declared.hand.Hand.TheVariants.{Idle}
use Rattle.sh_core.specs.Words.{Words, write, read}
use Rattle.sh_shape.specs.declared.places.Place.TheVariants.{Class, Length, Payload}
use Rattle.sh_word.specs.Fields.{Fields}
use Rattle.sh_step.specs.Plans.{Plan, heap_pages}
use Rattle.sh_shape.specs.Classes.{width}
use Rattle.sh_step.specs.Collections.{noted}
use Rattle.sh_step.specs.declared.body.Body.{Body}
use Rattle.sh_core.specs.Lists.{PutLists}
use Rattle.sh_core.specs.Stacks.{slot_ref}
use Rattle.sh_core.specs.Placed.{ListsAgreeOf, Agreement}
use Rattle.sh_shape.specs.declared.places.Place.{Place}
use Rattle.sh_step.specs.Rows.{hand, own, all_mine, read_class, read_length, read_word, read_page, set_class}
use Rattle.sh_core.specs.Worlds.{World, apply}
use Rattle.sh_core.specs.Tallies.{due}
use Rattle.sh_core.specs.Sums.{FillAgrees}
use Rattle.sh_core.proofs.Slots.SumsKinds.{with, sums_quiet}
use Rattle.sh_core.proofs.Slots.ClassSums.{room_mine, empty_page, sums_set_class, bounds_class}
use Rattle.sh_core.proofs.Lists.ListsSteps.{lists_frame}
use Rattle.sh_core.proofs.Lists.OwnerKinds.{read_page_agrees, set_class_agrees}
use Rattle.sh_core.proofs.Sums.Writes.{write_same}

-- a step that writes nothing new
pub all_load : (plan : Plan) (w : World) (l : PutLists) (a : ℕ) (p p' : Body) (pl : Place) (n : ℕ) → Agreement plan w l
    → slice_get w.parts a ≡ Some p → read w.words pl ≡ n → ((y : SlotRef) (st : Fields) → due plan y st p'
    ≡ due plan y st p) → p'.holds ≡ p.holds → FillAgrees w.words p' p'.hand
    → ListsAgreeOf plan w.words (set w.parts a p') l
    → Agreement plan (with w (write w.words pl n) a p') l
all_load plan w l a p p' pl n old at is same holds fill rest =
    let P : Words → Type 0 = λ W. Agreement plan (with w W a p') l in
    subst P (sym (ap (write w.words pl) (sym is) ∙ write_same w.words pl)) (record {
      sums = sums_quiet plan w l l a p p' w.words.head_at w.words.page_link_at w.words.link_at w.words.owner_at
          w.words.bell_at old.sums at same (λ y. refl) holds fill;
      lists = rest;
      bounds = old.bounds;
    })

-- the part with nothing in hand
abbrev pub idled : Body → Body
idled p = hand p Idle

module _ (plan : Plan) (w : World) (l : PutLists) (a : ℕ) (p : Body) (old : Agreement plan w l)
    (at : slice_get w.parts a ≡ Some (idled p)) where
  pub all_read_class : (k : ℕ) (y : KeyRef) → Agreement plan (apply w a (read_class (idled p) k y)) l
  unfolding apply
  all_read_class k y = all_load plan w l a (idled p) (record (idled p) {
    class_words = (k, w.words.class_at y.page) ∷ p.class_words;
  }) (Class y.page) (w.words.class_at y.page) old at refl (λ y st. refl) refl tt
      (lists_frame plan w.words w.parts l a (idled p) _ old.lists at refl (old.lists.own_notes a (idled p) at))

  pub all_read_length : (k : ℕ) (y : KeyRef) → Agreement plan (apply w a (read_length (idled p) k y)) l
  unfolding apply
  all_read_length k y = all_load plan w l a (idled p) (record (idled p) {
    lengths = (k, w.words.length_at y.page y.slot) ∷ p.lengths;
  }) (Length y.page y.slot) (w.words.length_at y.page y.slot) old at refl (λ y st. refl) refl tt
      (lists_frame plan w.words w.parts l a (idled p) _ old.lists at refl (old.lists.own_notes a (idled p) at))

  pub all_read_word : (k : ℕ) (y : KeyRef) (c i : ℕ) → Agreement plan (apply w a (read_word (idled p) k y c i)) l
  unfolding apply
  all_read_word k y c i = all_load plan w l a (idled p) (record (idled p) {
    contents = (k, i, w.words.payload_at y.page (y.slot * width (c - 1) + i)) ∷ p.contents;
  }) (Payload y.page (y.slot * width (c - 1) + i)) (w.words.payload_at y.page (y.slot * width (c - 1) + i)) old at refl
      (λ y st. refl) refl tt
      (lists_frame plan w.words w.parts l a (idled p) _ old.lists at refl (old.lists.own_notes a (idled p) at))

  pub all_read_page : (q : ℕ) → q < heap_pages plan → Agreement plan (apply w a (read_page (idled p) q)) l
  unfolding apply
  all_read_page q small = all_load plan w l a (idled p) (record (idled p) {
    classes = (q, w.words.class_at q) ∷ p.classes;
  }) (Class q) (w.words.class_at q) old at refl (λ y st. refl) refl tt
      (read_page_agrees plan w.words w.parts l a (idled p) q old.lists at small)

  pub all_set_class : (q n c : ℕ) → own plan p q ≡ true → noted q p.classes ≡ Some n → ((n == 0) || all_mine p q n)
      ≡ true → c < 8 → Agreement plan (apply w a (set_class (idled p) q c)) l
  unfolding apply
  all_set_class q n c mine is full small =
      let t = (old.lists.own_notes a (idled p) at).notes q n mine is in
      let r = room_mine w.words (idled p) q n t.0 full in
      record {
        sums = sums_set_class plan w l a (idled p) q c old.sums at r tt;
        lists = set_class_agrees plan w.words w.parts l a (idled p) q c old.lists at mine t.1;
        bounds = bounds_class plan w.words q c old.bounds small t.1
            (λ s. (empty_page plan w l a (idled p) q c old.sums at r (slot_ref q s) refl).0);
      }
