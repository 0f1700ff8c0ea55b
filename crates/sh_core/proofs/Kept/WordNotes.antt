-- What a pass noted of its keys is true, words and all.
use Rattle.std.proofs.Common.{◌≡◌, ℕ, zero, suc, ◌+◌, ◌-◌, ◌*◌, ◌<◌, ◌==◌, ◌&&◌, ⊎_elim, Bool, true, false, cond, List}
use Rattle.std.proofs.Common.{[], ◌∷◌, length, get_or, refl, sym, ap, ◌∙◌, subst, arith, Option, Some, None, slice_get}
use Rattle.std.proofs.Common.{eqb-true, eq-eqb}
use Rattle.std.specs.Prelude.{nat_lt, slice_index}
use Rattle.sh_history.specs.declared.entry.Entry.{Entry}
use Rattle.sh_history.specs.History.{value_of}
use Rattle.sh_history.proofs.LogLaws.{value_of-append_some}
use Rattle.sh_shape.specs.Classes.{width}
use Rattle.sh_slots.specs.declared.hand.KeyRef.{KeyRef}
use Rattle.sh_slots.specs.declared.hand.Hand.TheVariants.{Leaving}
use Rattle.sh_slots.specs.Slots.{slot_ref_of, live_at}
use Rattle.sh_step.specs.declared.body.Body.{Body}
use Rattle.sh_step.specs.Collections.{if1, has, without, off, noted}
use Rattle.sh_word.specs.Fields.{fields_of}
use Rattle.sh_core.specs.Words.{read}
use Rattle.sh_core.specs.Worlds.{World, apply, open_world, value_at, words_from, joined, entry_of}
use Rattle.sh_core.specs.Worlds.{value_at_place as value_there}
use Rattle.sh_core.specs.Lists.{PutLists, times}
use Rattle.sh_core.specs.Placed.{Agreement}
use Rattle.sh_core.specs.Reads.{AllReadsAgree}
use Rattle.sh_core.specs.Refines.{NotesAreTrue}
use Rattle.sh_core.proofs.Sums.Totals.{get_set}
use Rattle.sh_core.proofs.Clauses.OpenSums.{part_new}
use Rattle.sh_core.proofs.Slots.Permits.{value_one}
use Rattle.sh_core.proofs.Clauses.RunRefines.{held_stands}
use Rattle.sh_step.specs.declared.moves.Move.{Move}
use Rattle.sh_step.specs.declared.moves.Move.TheVariants.{EnterGet, DropHold, ReadClass, ReadLength, ReadWord}
use Rattle.sh_step.specs.Moves.{row_of}
use Rattle.sh_step.specs.Plans.{Plan}
use Rattle.sh_step.specs.Rows.{Row, hand, freed}
use Rattle.sh_step.specs.Conditions.{May}
use Rattle.sh_core.proofs.Moves.ByMove.{keys_stay}
use Rattle.sh_core.proofs.Sums.ListCounts.{times_cons, times_without, has_some}

-- a key, and a word noted of its value
abbrev Note : Type 0
Note = ℕ × ℕ × ℕ

-- the note is for a held key, and is a word of the value that the key was issued with
pub record WordNote (log : List Entry) (holds : List ℕ) (x : Note) : Type 0 where
  pub held : 0 < times x.0 holds
  pub value : List ℕ
  pub issued : value_of log x.0 ≡ Some value
  pub inside : x.1 < length value
  pub says : slice_index value x.1 ≡ x.2

abbrev WordNotesOf : List Entry → Body → Type 0
WordNotesOf log p = (j : ℕ) (x : Note) → slice_get p.contents j ≡ Some x → WordNote log p.holds x

abbrev pub WordNotesStand : World → Type 0
WordNotesStand w = (a : ℕ) (p : Body) → slice_get w.parts a ≡ Some p → WordNotesOf w.log p

-- ---- the words from one on, and how many

pub length-words : (f : ℕ → ℕ) (i n : ℕ) → length (words_from f i n) ≡ n
length-words f i zero = refl
length-words f i (suc n) = ap suc (length-words f (i + 1) n)

pub get-words : (f : ℕ → ℕ) (i n j : ℕ) → j < n → get_or (words_from f i n) j 0 ≡ f (i + j)
get-words f i zero j h = absurd (omega arith)
get-words f i (suc n) zero h = ap f (omega arith)
get-words f i (suc n) (suc j) h = get-words f (i + 1) n j (omega arith) ∙ ap f (omega arith)

-- ---- lists

-- what is left of a list passed the test
in_off : {A : Type 0} (t : A → Bool) (xs : List A) (j : ℕ) (x : A) → slice_get (off t xs) j ≡ Some x → (i : ℕ)
    × (slice_get xs i ≡ Some x) × (t x ≡ false)
unfolding off
in_off t [] j x h = absurd (let z : None ≡ Some x = h in cc)
in_off {A = A} t (y ∷ ys) j x h = go (t y) refl j h (λ i e. in_off t ys i x e) where
  go : (b : Bool) → t y ≡ b → (j : ℕ) → slice_get (cond b (off t ys) (y ∷ off t ys)) j ≡ Some x
      → ((i : ℕ) → slice_get (off t ys) i ≡ Some x → (k : ℕ) × (slice_get ys k ≡ Some x) × (t x ≡ false)) → (i : ℕ)
      × (slice_get (y ∷ ys) i ≡ Some x) × (t x ≡ false)
  go true e j h rest = let r = rest j h in (suc r.0, r.1, r.2)
  go false e zero h rest = let s : y ≡ x = cc in (zero, h, ap t (sym s) ∙ e)
  go false e (suc j) h rest = let r = rest j h in (suc r.0, r.1, r.2)

-- ---- step by step

-- a true note stays true as the log grows
told_more : (log : List Entry) (o : Option Entry) (holds : List ℕ) (x : Note) → WordNote log holds x
    → WordNote (joined log o) holds x
told_more log None holds x t = t
told_more log (Some e) holds x t = record {
  held = t.held;
  value = t.value;
  issued = value_of-append_some log (e ∷ []) x.0 t.value t.issued;
  inside = t.inside;
  says = t.says;
}

-- the same for other holds, among which the key is
told_of : (log : List Entry) (holds held : List ℕ) (x : Note) → WordNote log holds x → 0 < times x.0 held
    → WordNote log held x
told_of log holds held x t some = record {
  held = some;
  value = t.value;
  issued = t.issued;
  inside = t.inside;
  says = t.says;
}

module _ (plan : Plan) (w : World) (l : PutLists) (a : ℕ) (p : Body) (all : Agreement plan w l)
    (know : AllReadsAgree plan w)
    (old : WordNotesOf w.log p) (at : slice_get w.parts a ≡ Some p) where
  abbrev Tells : Row → Type 0
  Tells m = WordNotesOf w.log (m.part (read w.words m.place))

  -- the same holds and notes
  abbrev Same : Body → Type 0
  Same u = (u.holds ≡ p.holds) × (u.contents ≡ p.contents)

  same_told : (u : Body) → Same u → WordNotesOf w.log u
  same_told u s j x h = rw s.0 (old j x (ap (λ (ys : List Note). slice_get ys j) (sym s.1) ∙ h))

  -- one more hold
  get_tells : (k : ℕ) (b : Bool) (u : Body) → Same u → WordNotesOf w.log (cond b (record p { holds = k ∷ p.holds }) u)
  get_tells k true u s j x h = let o = old j x h in let some = o.held in let t = times_cons x.0 k p.holds
      in told_of w.log p.holds (k ∷ p.holds) x o (omega arith)
  get_tells k false u s j x h = same_told u s j x h

  -- one hold less, and no note of a key without one
  drop_tells : (k : ℕ) → has (λ j. j == k) p.holds ≡ true → WordNotesOf w.log (freed p k)
  drop_tells k is = go (has (λ j. j == k) fewer) refl where
    fewer : List ℕ
    fewer = without (λ j. j == k) p.holds

    left_told : (x : Note) (b : Bool) → (k == x.0) ≡ b → (b ≡ true → has (λ j. j == k) fewer ≡ true)
        → WordNote w.log p.holds x → WordNote w.log fewer x
    left_told x true e more o =
        let i = eqb-true k x.0 e in
        let s = has_some (λ j. j == k) fewer (more refl) in
        let t : times k fewer ≡ times x.0 fewer = ap (λ (z : ℕ). times z fewer) i in
        told_of w.log p.holds fewer x o (omega arith)
    left_told x false e more o =
        let t = times_without k x.0 p.holds is in
        let z : if1 (k == x.0) ≡ 0 = rw e refl in
        let some = o.held in told_of w.log p.holds fewer x o (omega arith)

    go : (b : Bool) → has (λ j. j == k) fewer ≡ b → (j : ℕ) (x : Note)
        → slice_get (cond b p.contents (off (λ (x : Note). x.0 == k) p.contents)) j ≡ Some x → WordNote w.log fewer x
    go true e j x h = left_told x (k == x.0) refl (λ z. e) (old j x h)
    go false e j x h =
        let r = in_off (λ (x : Note). x.0 == k) p.contents j x h in
        left_told x (k == x.0) refl (λ z. let y : (x.0 == k) ≡ true = ap (λ (i : ℕ). i == k) (sym (eqb-true k x.0 z))
        ∙ eq-eqb k k refl in let n : true ≡ false = sym y ∙ r.2 in absurd (cc)) (old r.0 x r.1)

  -- a word read of a held key's value
  read_told : (k i : ℕ) (n : KeyRef) (c m : ℕ) → plan.keys.unpack k ≡ Some n → noted k p.class_words ≡ Some c
      → noted k p.lengths ≡ Some m → has (λ j. j == k) p.holds ≡ true → i < m
      → WordNote w.log p.holds (k, i, w.words.payload_at n.page (n.slot * width (c - 1) + i))
  unfolding value_at
  read_told k i n c m name width_is length_is is less =
      let some = has_some (λ j. j == k) p.holds is in
      let h = held_stands plan w l all a p k n at some name in
      let class = ((know a p at).classed k c width_is).1 n name in
      let size = ((know a p at).measured k m length_is).1 n name in
      let f : ℕ → ℕ = w.words.payload_at n.page in
      let s : ℕ = n.slot * width (w.words.class_at n.page - 1) in
      let count : ℕ = w.words.length_at n.page n.slot in
      let v : List ℕ = words_from f s count in
      let many = length-words f s count in
      let here : slice_index v i ≡ f (s + i) = get-words f s count i (omega arith) in
      let width_same : f (s + i) ≡ f (n.slot * width (c - 1) + i) =
      ap (λ (d : ℕ). f (n.slot * width (d - 1) + i)) class in
      record {
        held = some;
        value = v;
        issued = value_one k w.log v h.2;
        inside = omega arith;
        says = here ∙ width_same;
      }

  tells : (m : Move) → May plan p m → Tells (row_of plan p m)
  tells (EnterGet k x) may = get_tells k (live_at x.generation (w.words.state_at x.page x.slot) && nat_lt
      (fields_of (w.words.state_at x.page x.slot)).count plan.keys.guard_max) (hand p (Leaving (slot_ref_of x)))
      (refl, refl)
  tells (DropHold k x) (idle, named, is) = drop_tells k is
  tells (ReadClass k x) may = same_told (record p { class_words = (k, w.words.class_at x.page) ∷ p.class_words })
      (refl, refl)
  tells (ReadLength k x) may = same_told (record p { lengths = (k, w.words.length_at x.page x.slot) ∷ p.lengths })
      (refl, refl)
  tells (ReadWord k x c i) (n, idle, named, width_is, length_is, is, less) =
      added (k, i, w.words.payload_at x.page (x.slot * width (c - 1) + i))
      (read_told k i x c n named.unpacks width_is length_is is less) where
        added : (y : Note) → WordNote w.log p.holds y → (j : ℕ) (x : Note) → slice_get (y ∷ p.contents) j ≡ Some x
            → WordNote w.log p.holds x
        added y t zero x is = let s : y ≡ x = cc in subst (WordNote w.log p.holds) s t
        added y t (suc j) x is = old j x is
  tells m may =
      let n : ℕ = read w.words (row_of plan p m).place in
      let s = keys_stay plan p m n (λ z. z) in same_told ((row_of plan p m).part n) (s.0, s.3)

told_apply : (plan : Plan) (w : World) (a : ℕ) (m : Row) → WordNotesStand w
    → WordNotesOf w.log (m.part (read w.words m.place))
    → WordNotesStand (apply w a m)
unfolding apply
told_apply plan w a m old new b u h j x is =
    let o : Option Entry = entry_of a (value_there w.words m.place) (m.reply (read w.words m.place)) in
    told_more w.log o u.holds x (⊎_elim (λ e. (subst (WordNotesOf w.log) e.1 new) j x is) (λ e. old b u e.1 j x is)
    (get_set w.parts a b (m.part (read w.words m.place)) u h))

pub words_move : (plan : Plan) (w : World) (l : PutLists) (a : ℕ) (p : Body) (m : Move) → Agreement plan w l
    → AllReadsAgree plan w
    → slice_get w.parts a ≡ Some p → May plan p m → WordNotesStand w → WordNotesStand (apply w a (row_of plan p m))
words_move plan w l a p m all know at may old = told_apply plan w a (row_of plan p m) old
    (tells plan w l a p all know (old a p at) at m may)

pub words_open : (plan : Plan) → WordNotesStand (open_world plan)
words_open plan a p at = let e = part_new plan.passes a p at in subst (WordNotesOf []) e
    (λ j x h. absurd (let z : None ≡ Some x = h in cc))

-- ---- so what a pass noted is true

pub notes : (plan : Plan) (w : World) (l : PutLists) → Agreement plan w l → AllReadsAgree plan w → WordNotesStand w
    → NotesAreTrue plan w
unfolding value_at
notes plan w l all know told a p at = record {
  class_words = (know a p at).classed;
  lengths = λ k m h. let o = (know a p at).measured k m h in (o.0, λ v is. value_length k m v o.0 o.1 is);
  words = λ j k i n h. let o = told a p at j (k, i, n) h in (
    o.held,
    λ v is. let e = some_same o.value v (sym o.issued ∙ is) in (
      subst (λ (u : List ℕ). i < length u) e o.inside,
      subst (λ (u : List ℕ). slice_index u i ≡ n) e o.says,
    ),
  );
} where
  some_same : (u v : List ℕ) → Some u ≡ Some v → u ≡ v
  some_same u v h = cc

  value_length : (k m : ℕ) (v : List ℕ) → 0 < times k p.holds →
      ((n : KeyRef) → plan.keys.unpack k ≡ Some n → w.words.length_at n.page n.slot ≡ m) → value_of w.log k ≡ Some v
      → length v ≡ m
  value_length k m v some measured is =
      let n = (know a p at).named k some in
      let h = held_stands plan w l all a p k n.0 at some n.1 in
      let s : Some (value_at w.words n.0.page n.0.slot) ≡ Some v = sym
      (value_one k w.log (value_at w.words n.0.page n.0.slot) h.2) ∙ is in
      ap length (sym (some_same (value_at w.words n.0.page n.0.slot) v s))
      ∙ length-words (w.words.payload_at n.0.page) (n.0.slot * width (w.words.class_at n.0.page - 1))
      (w.words.length_at n.0.page n.0.slot) ∙ measured n.0 n.1
