-- What the rows of enabled actions store fits a word, and a key that they issue is one of the layout.
use Rattle.std.proofs.Common.{◌≡◌, ◌≢◌, ℕ, ◌+◌, ◌*◌, ◌^◌, ◌<◌, ◌≤◌, ◌==◌, Bool, true, false, cond, List, refl, sym, ap}
use Rattle.std.proofs.Common.{◌∙◌, arith, Option, Some, None, slice_get}
use Rattle.std.proofs.Math.Nat.{mod-le}
use Rattle.std.proofs.lemmas.Bool.Decides.{nat_tests}
use Rattle.std.specs.Prelude.{nat_lt}
use Rattle.sh_word.specs.Fields.{fields_of, word_of}
use Rattle.sh_shape.specs.declared.places.Place.TheVariants.{State}
use Rattle.sh_slots.specs.declared.hand.SlotRef.{SlotRef}
use Rattle.sh_slots.specs.declared.hand.KeyRef.{KeyRef}
use Rattle.sh_slots.specs.declared.hand.Hand.TheVariants.{Finishing, ToPut, Ringing, Filling}
use Rattle.sh_slots.specs.declared.reply.Reply.{Reply}
use Rattle.sh_slots.specs.declared.reply.Reply.TheVariants as reply
use Rattle.sh_slots.specs.Slots.{live_at, past_at, name_at, reusable_word, retired_word, value_seen}
use Rattle.sh_step.specs.declared.body.Body.{Body}
use Rattle.sh_step.specs.Operations.{StoresWord}
use Rattle.sh_step.specs.Rows.{Row, publish}
use Rattle.sh_core.specs.Words.{read}
use Rattle.sh_core.specs.Worlds.{World}
use Rattle.sh_core.specs.Refines.{FillsAreKeys}
use Rattle.sh_core.specs.InHeap.{AllInHeap, StoresWords, IssuesKeys}
use Rattle.sh_step.specs.declared.moves.Move.{Move}
use Rattle.sh_step.specs.declared.moves.Move.TheVariants.{EnterGet, EnterRemove, Mark, Finish, Publish, Take, Follow}
use Rattle.sh_step.specs.declared.moves.Move.TheVariants.{Put, PutSlot, Adopt, Arm, Ring, TakeBell, FollowBell, Look}
use Rattle.sh_step.specs.declared.moves.Move.TheVariants.{LookAgain}
use Rattle.sh_step.specs.Moves.{row_of}
use Rattle.sh_step.specs.Plans.{Plan, Lawful, heap_pages, local}
use Rattle.sh_step.specs.Conditions.{May}
use Rattle.sh_core.proofs.Moves.ByMove.{by_move}
use Rattle.sh_core.proofs.Kept.StaysInHeap.{hand_within}

-- a key is issued
abbrev issues : Option Reply → Bool
issues (Some (reply.Insert k v)) = true
issues _ = false

get_issues_none : (k : ℕ) (a b : Bool) → issues (Some (cond a (cond b (reply.Got k) (reply.Crowded k)) (reply.Gone k)))
    ≡ false
get_issues_none k true true = refl
get_issues_none k true false = refl
get_issues_none k false b = refl

remove_issues_none : (k : ℕ) (a : Bool) → issues (cond a None (Some (reply.Gone k))) ≡ false
remove_issues_none k true = refl
remove_issues_none k false = refl

past_issues_none : (k : ℕ) (a : Bool) → issues (cond a (Some (reply.Gone k)) None) ≡ false
past_issues_none k true = refl
past_issues_none k false = refl

mark_issues_none : (k : ℕ) (a : Bool) → issues (Some (cond a (reply.Gone k) (reply.Removed k))) ≡ false
mark_issues_none k true = refl
mark_issues_none k false = refl

look_issues_none : (k : ℕ) (v : List ℕ) (a : Bool) → issues (Some (cond a (reply.Seen k v) (reply.Gone k))) ≡ false
look_issues_none k v true = refl
look_issues_none k v false = refl

-- the generation is in the upper half of a state word
word_small : (g : ℕ) (a b : Bool) → g < 2 ^ 32 → word_of (record { generation = g; marked = a; present = b; count = 0 })
    < 2 ^ 64
unfolding word_of
word_small g true true h = omega arith
word_small g true false h = omega arith
word_small g false true h = omega arith
word_small g false false h = omega arith

local_small : (plan : Plan) (q : ℕ) → local plan q ≤ q
unfolding local
local_small plan q = mod-le q plan.pages

module _ (plan : Plan) (w : World) (laws : Lawful plan) (fills : FillsAreKeys plan w) (within : AllInHeap plan w) where
  bit_is_word : (n : ℕ) → n ≤ 1 → n < 2 ^ 64
  bit_is_word n h = omega arith

  names_slot : (x : SlotRef) → x.slot < 48 → (x.slot + 1) * 2 < 2 ^ 64
  names_slot x h = omega arith

  names_page : (q : ℕ) → q < heap_pages plan → local plan q + 1 < 2 ^ 64
  names_page q h = let a = local_small plan q in let b = laws.few_pages in omega arith

  -- the next generation is not past the last
  finishes : {g : ℕ} → g ≤ plan.keys.gen_max → cond (g == plan.keys.gen_max) (retired_word g) (reusable_word g) < 2 ^ 64
  finishes {g} h = go (g == plan.keys.gen_max) refl where
    go : (b : Bool) → (g == plan.keys.gen_max) ≡ b → cond b (retired_word g) (reusable_word g) < 2 ^ 64
    go true e = let l = laws.last_generation in word_small g true false (omega arith)
    go false e = let l = laws.last_generation in let n : g ≢ plan.keys.gen_max = grind (arith, nat_tests)
        in word_small (g + 1) false false (omega arith)

  stores : (a : ℕ) (p : Body) (m : Move) → slice_get w.parts a ≡ Some p → May plan p m
      → StoresWord (row_of plan p m).operation
  stores a p (Finish x g) at (s, is) = finishes (hand_within plan p (Finishing x g s) (within a p at) is).1
  stores a p (Take q) at may = bit_is_word 0 (omega arith)
  stores a p (Follow q s) at may = bit_is_word 0 (omega arith)
  stores a p (Put x) at is = names_slot x (hand_within plan p (ToPut x) (within a p at) is).1
  stores a p (PutSlot x) at may = names_slot x may.1.1
  stores a p (Adopt n) at may = bit_is_word 1 (omega arith)
  stores a p (Arm q) at may = bit_is_word 1 (omega arith)
  stores a p (Ring q) at is = names_page q (hand_within plan p (Ringing q) (within a p at) is)
  stores a p (TakeBell n) at may = bit_is_word 0 (omega arith)
  stores a p (FollowBell q) at may = bit_is_word 0 (omega arith)
  stores a p m at may = tt

  pub stores_words : StoresWords plan w
  stores_words a p x r at e = by_move plan p x r (λ u. StoresWord u.operation) e (λ m may. stores a p m at may)

  nothing : {A : Type 0} (o : Option Reply) (k : ℕ) (v : List ℕ) → issues o ≡ false → o ≡ Some (reply.Insert k v) → A
  nothing o k v none some = absurd (let z : true ≡ false = sym (ap issues some) ∙ none in cc)

  -- what the row of a move issues names its slot
  abbrev Issues : Row → Type 0
  Issues r = (k : ℕ) (v : List ℕ) (q s : ℕ) → r.reply (read w.words r.place) ≡ Some (reply.Insert k v) → r.place
      ≡ State q s → plan.keys.unpack k ≡ Some (record {
        page = q;
        slot = s;
        generation = (fields_of (read w.words r.place)).generation;
      })

  published : (a : ℕ) (p : Body) (x : SlotRef) (v : List ℕ) (i : ℕ) → slice_get w.parts a ≡ Some p
      → p.hand ≡ Filling x v i → Issues (publish plan p x v)
  published a p x v i at is k u q s = go where
    g : ℕ
    g = (fields_of (w.words.state_at x.page x.slot)).generation

    name_is : (y z : ℕ) → x.page ≡ y → x.slot ≡ z → ◌≡◌ {A = KeyRef} (name_at x g)
        (record { page = y; slot = z; generation = g })
    name_is y z a b = λ i. record { page = a i; slot = b i; generation = g }

    go : Some (reply.Insert (plan.keys.pack (name_at x g)) v) ≡ Some (reply.Insert k u) → State x.page x.slot
        ≡ State q s → plan.keys.unpack k ≡ Some (record { page = q; slot = s; generation = g })
    go reply place =
        let key : plan.keys.pack (name_at x g) ≡ k = cc in
        let page : x.page ≡ q = cc in
        let slot : x.slot ≡ s = cc in
        let f : plan.keys.unpack (plan.keys.pack (name_at x g)) ≡ Some (name_at x g) = fills a p x v i at is in
        ap plan.keys.unpack (sym key) ∙ (f ∙ ap (λ (n : KeyRef). Some n) (name_is q s page slot))

  issued : (a : ℕ) (p : Body) (m : Move) → slice_get w.parts a ≡ Some p → May plan p m → Issues (row_of plan p m)
  issued a p (EnterGet k x) at may = λ j u q s r d. nothing _ j u (get_issues_none k
      (live_at x.generation (w.words.state_at x.page x.slot))
      (nat_lt (fields_of (w.words.state_at x.page x.slot)).count plan.keys.guard_max)) r
  issued a p (EnterRemove k x) at may = λ j u q s r d. nothing _ j u (remove_issues_none k
      (live_at x.generation (w.words.state_at x.page x.slot))) r
  issued a p (Mark k x) at may = λ j u q s r d. nothing _ j u (mark_issues_none k
      (fields_of (w.words.state_at x.page x.slot)).marked) r
  issued a p (Publish x v) at (i, is, end) = published a p x v i at is
  issued a p (Look k x) at may = λ j u q s r d. nothing _ j u (past_issues_none k
      (past_at x.generation (w.words.state_at x.page x.slot))) r
  issued a p (LookAgain k x s) at may = λ j u q t r d. nothing _ j u (look_issues_none k (value_seen s)
      (live_at x.generation (w.words.state_at x.page x.slot))) r
  issued a p m at may = λ j u q s r d. nothing ((row_of plan p m).reply (read w.words (row_of plan p m).place)) j u
      refl r

  pub issues_keys : IssuesKeys plan w
  issues_keys a p x r k v q s at e = by_move plan p x r Issues e (λ m may. issued a p m at may) k v q s
