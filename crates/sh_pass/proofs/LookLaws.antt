-- The steps of a look.
use Rattle.std.proofs.Common.{◌≡◌, ℕ, zero, suc, ◌+◌, ◌<◌, ◌≤◌, Bool, true, false, cond, List, [], ◌∷◌, ◌++◌, length}
use Rattle.std.proofs.Common.{refl, take}
use Rattle.std.proofs.Common.{ap, sym}
use Rattle.std.proofs.Common.{◌∙◌, subst, arith, Some, None, inl, inr}
use Rattle.std.proofs.Common.{append_assoc, ◌&&◌}
use Rattle.std.proofs.lemmas.Bool.Decides.{nat_tests}
use Rattle.std.specs.Prelude.{nat_lt, not}
use Rattle.atomic_table.specs.declared.shared.Seat.{Seat}
use Rattle.sh_history.specs.declared.entry.Entry.TheVariants as entry
use Rattle.sh_history.specs.declared.log.LogEntry.TheVariants.{Known}
use Rattle.sh_key.specs.Layout.{Layout}
use Rattle.sh_slots.specs.declared.hand.Hand.TheVariants.{Idle, Looking}
use Rattle.sh_slots.specs.declared.hand.KeyRef.{KeyRef}
use Rattle.sh_slots.specs.declared.hand.Sight.{Sight}
use Rattle.sh_slots.specs.declared.hand.Sight.TheVariants.{Bare, Classed, Measured}
use Rattle.sh_slots.specs.declared.reply.Reply.TheVariants as reply
use Rattle.sh_slots.specs.Slots.{live_at, past_at, sight_with}
use Rattle.sh_step.specs.declared.action.Action.TheVariants as action
use Rattle.sh_step.specs.declared.body.Body.{Body}
use Rattle.sh_step.specs.declared.footstep.Footstep.{Footstep}
use Rattle.sh_step.specs.declared.moves.Move.TheVariants as move
use Rattle.sh_step.specs.Moves.{place_named, row}
use Rattle.sh_step.specs.Plans.{Plan, plan_of}
use Rattle.sh_step.specs.Rows.{hand, look, is_read, payload_word}
use Rattle.sh_step.proofs.LookupLaws.{place_is}
use Rattle.sh_step.proofs.RowLaws.{row_of_may}
use Rattle.sh_step.proofs.Truths.{lt_true}
use Rattle.sh_step.proofs.WordLaws.{live_not_past}
use Rattle.sh_table.specs.declared.view.View.{View}
use Rattle.sh_table.specs.Seats.{Heap, Did, CanDo, IsSeat}
use Rattle.sh_table.specs.Views.{HeardOfInsert, logged_of}
use Rattle.sh_pass.specs.declared.looking.Glance.TheVariants.{Seen, Gone, Early}
use Rattle.sh_pass.specs.Deciding.{Stepped, FirstFinds, LastFinds, LooksDecide, IsLive, IsPast, IsEarly}
use Rattle.sh_pass.specs.Growing.{Grows}
use Rattle.sh_pass.specs.Looking.{IsLooking, LookGrows}
use Rattle.sh_pass.specs.Rooms.{TakesSeen}
use Rattle.sh_pass.proofs.DecidedLaws.{stepped, stepped_then, stepped_on, begins_on}
use Rattle.sh_pass.proofs.GrowthLaws.{grew, grows_as, grows_on, grows_after, grows_to}

pub may_look : (plan : Plan) (p : Body) (k : ℕ) (x : KeyRef) → place_named plan k ≡ Some x → p.hand ≡ Idle
    → row plan p (action.Look k) ≡ Some (look p k x)
may_look plan p k x named is = row_of_may plan p (move.Look k x) (is, place_is plan k x named)

pub can_look_on : {layout : Layout} {heap : Heap} {v : View} {t : Seat (Unit {0}) View} (k : ℕ) (x : KeyRef) (s : Sight)
    (i : ℕ) → IsSeat layout heap t → IsLooking k x s i v t.me.0 → is_read x s ≡ false
    → CanDo layout heap action.LookOn (move.LookOn k x s) t
can_look_on k x s i seat r more = record {
  seat = seat;
  may = row_of_may _ _ (move.LookOn k x s) (ap (λ (p : Body). p.hand) r.grows.body, more);
}

pub can_look_again : {layout : Layout} {heap : Heap} {v : View} {t : Seat (Unit {0}) View} (k : ℕ) (x : KeyRef)
    (s : Sight) (i : ℕ) → IsSeat layout heap t → IsLooking k x s i v t.me.0 → is_read x s ≡ true
    → CanDo layout heap action.LookAgain (move.LookAgain k x s) t
can_look_again k x s i seat r ends = record {
  seat = seat;
  may = row_of_may _ _ (move.LookAgain k x s) (ap (λ (p : Body). p.hand) r.grows.body, ends);
}

-- the first load, by what it finds
module _ {layout : Layout} {heap : Heap} {t u : Seat (Unit {0}) View} (k : ℕ) (x : KeyRef) (n : ℕ)
    (d : Did layout heap (action.Look k) (move.Look k x) n t u) where
  first_found : (IsSo : ℕ → Type 0) → IsSo n → Stepped (FirstFinds k x IsSo) t.me.0 u.me.0
  first_found IsSo is = stepped t u (action.Look k) (move.Look k x) (FirstFinds k x IsSo) d
      (record { found = n; rest = []; steps = refl }, is)

  -- what it leaves in the hand, and the entry that it adds
  first_grew : (live past : Bool) → live_at x.generation n ≡ live → past_at x.generation n ≡ past
      → Grows (hand t.me.0.own.body (cond live (Looking k x Bare) Idle))
      (logged_of t.me.0.pass (cond past (Some (reply.Gone k)) None)) 1 t.me.0 u.me.0
  first_grew live past a b = grows_as _ _ (ap (λ c. hand t.me.0.own.body (cond c (Looking k x Bare) Idle)) a)
      (ap (λ c. logged_of t.me.0.pass (cond c (Some (reply.Gone k)) None)) b)
      (grew (action.Look k) (move.Look k x) d refl refl)

  pub look_begins : live_at x.generation n ≡ true → IsLooking k x Bare 1 t.me.0 u.me.0
  look_begins live = record {
    grows = first_grew true false live (live_not_past x.generation n live);
    first = first_found (IsLive x) live;
  }

  -- a first word that is not live
  pub look_off : (value : List ℕ) (past : Bool) → live_at x.generation n ≡ false → past_at x.generation n ≡ past
      → LookGrows k (cond past Gone Early) value t.me.0 u.me.0
      × Stepped (LooksDecide k x (cond past Gone Early)) t.me.0 u.me.0
  look_off value true live past = (
    grows_to 20 _ refl (first_grew false true live past) (omega arith),
    let s = first_found (IsPast x) past in (s.0, s.1, inl s.2),
  )
  look_off value false live past = (first_grew false false live past, first_found (IsEarly x) (live, past))

  -- which is not early if the pass did or heard of the key's insert
  pub heard_is_not_early : (past : Bool) → place_named (plan_of layout t.me.0.shape) k ≡ Some x
      → live_at x.generation n ≡ false → past_at x.generation n ≡ past → cond past Gone Early ≡ Early
      → HeardOfInsert t.me.0 k → ⊥
  heard_is_not_early true named live past is heard = let z : Gone ≡ Early = is in cc
  heard_is_not_early false named live past is heard =
      let z : false ≡ true = sym past
      ∙ d.heard refl k x (place_is (plan_of layout t.me.0.shape) k x named).unpacks refl heard live in cc

-- a look that ends there leaves the room as it was
pub off_stays : {M : Type 0} (takes : M → List ℕ → M → Type 0) (past : Bool) (room : M)
    → TakesSeen takes (cond past Gone Early) room [] room
off_stays takes true room = refl
off_stays takes false room = refl

-- a load in between
pub looks_on : {layout : Layout} {heap : Heap} {v : View} {t u : Seat (Unit {0}) View} (k : ℕ) (x : KeyRef) (s : Sight)
    (n i : ℕ) → IsLooking k x s i v t.me.0 → Did layout heap action.LookOn (move.LookOn k x s) n t u
    → IsLooking k x (sight_with s n) (i + 1) v u.me.0
looks_on {v = v} {t = t} {u = u} k x s n i r d =
    let h = grew action.LookOn (move.LookOn k x s) d refl refl in record {
      grows = grows_on (i + 1) (hand v.own.body (Looking k x (sight_with s n))) r.grows
          (grows_as (hand v.own.body (Looking k x (sight_with s n))) []
          (ap (λ (p : Body). hand p (Looking k x (sight_with s n))) r.grows.body) refl h) (omega arith);
      first = stepped_on v t.me.0 u.me.0 (FirstFinds k x (IsLive x)) r.first h
          (λ xs ys f. let b = begins_on (action.Look k) x xs ys f.0 in (b.0, ap (live_at x.generation) b.1 ∙ f.1));
    }

-- the first three loads
pub measured : {layout : Layout} {heap : Heap} {t u w z : Seat (Unit {0}) View} (k : ℕ) (x : KeyRef) (n c m : ℕ)
    → Did layout heap (action.Look k) (move.Look k x) n t u → live_at x.generation n ≡ true
    → Did layout heap action.LookOn (move.LookOn k x Bare) c u w
    → Did layout heap action.LookOn (move.LookOn k x (Classed c)) m w z
    → IsLooking k x (Measured c m []) 3 t.me.0 z.me.0
measured k x n c m first live class size =
    looks_on k x (Classed c) m 2 (looks_on k x Bare c 1 (look_begins k x n first live) class) size

-- they found a value of one word, in a page of one-word slots, and its word comes next
pub one_word : {v w : View} (k : ℕ) (x : KeyRef) (c m : ℕ) → IsLooking k x (Measured c m []) 3 v w → c ≡ 1 → m ≡ 1
    → IsLooking k x (Measured 1 1 []) 3 v w
one_word {v = v} {w = w} k x c m r one only = subst (λ n. IsLooking k x (Measured 1 n []) 3 v w) only
    (subst (λ d. IsLooking k x (Measured d m []) 3 v w) one r)

-- what was read with one more word of the value
pub sight_more : (c m n : ℕ) (u : List ℕ) → length u < 16 → sight_with (Measured c m u) n ≡ Measured c m (u ++ n ∷ [])
sight_more c m n u few = ap (λ b. Measured c m (cond b (u ++ n ∷ []) u)) (lt_true (length u) 16 few)

-- the last load
first_stays : (k : ℕ) (x : KeyRef) (xs ys : List Footstep) → FirstFinds k x (IsLive x) xs
    → FirstFinds k x (IsLive x) (xs ++ ys)
first_stays k x xs ys f =
    let b = begins_on (action.Look k) x xs ys f.0 in (b.0, ap (live_at x.generation) b.1 ∙ f.1)

last_stays : (x : KeyRef) (IsSo : ℕ → Type 0) (xs ys : List Footstep) → LastFinds x IsSo ys
    → LastFinds x IsSo (xs ++ ys)
last_stays x IsSo xs ys e =
    (xs ++ e.0, e.1, ap (λ (l : List Footstep). xs ++ l) e.2 ∙ sym (append_assoc xs e.0 _), e.3)

module _ {layout : Layout} {heap : Heap} {v : View} {t u : Seat (Unit {0}) View} (k : ℕ) (x : KeyRef) (c m : ℕ)
    (words : List ℕ) (n i : ℕ) (r : IsLooking k x (Measured c m words) i v t.me.0)
    (d : Did layout heap action.LookAgain (move.LookAgain k x (Measured c m words)) n t u) where
  again : Grows (hand t.me.0.own.body Idle)
      (logged_of t.me.0.pass (Some (cond (live_at x.generation n) (reply.Seen k words) (reply.Gone k)))) 1 t.me.0 u.me.0
  again = grew action.LookAgain (move.LookAgain k x (Measured c m words)) d refl refl

  idle_again : hand t.me.0.own.body Idle ≡ hand v.own.body Idle
  idle_again = ap (λ (p : Body). hand p Idle) r.grows.body

  last_found : (IsSo : ℕ → Type 0) → IsSo n → Stepped (LastFinds x IsSo) t.me.0 u.me.0
  last_found IsSo is = stepped t u action.LookAgain (move.LookAgain k x (Measured c m words)) (LastFinds x IsSo) d
      ([], n, refl, is)

  -- what is not live by then was removed
  removed_since : live_at x.generation n ≡ false → past_at x.generation n ≡ true
  removed_since off = d.says refl k x (Measured c m words) (ap (λ (p : Body). p.hand) r.grows.body) refl off

  pub look_sees : i + 1 ≤ length words + 4 → live_at x.generation n ≡ true
      → LookGrows k Seen words v u.me.0 × Stepped (LooksDecide k x Seen) v u.me.0
  look_sees few live = (
    grows_after (length words + 4) r.grows (grows_as (hand v.own.body Idle) (Known (entry.Seen v.pass k words) ∷ [])
        idle_again (ap (λ e. logged_of t.me.0.pass (Some (cond e (reply.Seen k words) (reply.Gone k)))) live
        ∙ ap (λ a. Known (entry.Seen a k words) ∷ []) r.grows.same.pass) again) (omega arith),
    stepped_then v t.me.0 u.me.0 (FirstFinds k x (IsLive x)) (LastFinds x (IsLive x)) (LooksDecide k x Seen) r.first
        (last_found (IsLive x) live) (λ xs ys f e. (first_stays k x xs ys f, last_stays x (IsLive x) xs ys e)),
  )

  pub look_loses : (value : List ℕ) → i + 1 ≤ 20 → live_at x.generation n ≡ false
      → LookGrows k Gone value v u.me.0 × Stepped (LooksDecide k x Gone) v u.me.0
  look_loses value few off = (
    grows_after 20 r.grows (grows_as (hand v.own.body Idle) (Known (entry.Gone v.pass k) ∷ [])
        idle_again (ap (λ e. logged_of t.me.0.pass (Some (cond e (reply.Seen k words) (reply.Gone k)))) off
        ∙ ap (λ a. Known (entry.Gone a k) ∷ []) r.grows.same.pass) again) (omega arith),
    stepped_then v t.me.0 u.me.0 (FirstFinds k x (IsLive x)) (LastFinds x (IsPast x)) (LooksDecide k x Gone) r.first
        (last_found (IsPast x) (removed_since off))
        (λ xs ys f e. inr (first_stays k x xs ys f, last_stays x (IsPast x) xs ys e)),
  )

-- whether all was read
pub more_to_read : (x : KeyRef) (c m : ℕ) (u : List ℕ) → length u < m → length u < 16
    → payload_word x.slot c (length u) < 48 → is_read x (Measured c m u) ≡ false
more_to_read x c m u a b d =
    rw (lt_true (length u) m a, lt_true (length u) 16 b, lt_true (payload_word x.slot c (length u)) 48 d) refl

pub all_read : (x : KeyRef) (c m : ℕ) (u : List ℕ)
    → (length u < m → length u < 16 → 48 ≤ payload_word x.slot c (length u)) → is_read x (Measured c m u) ≡ true
all_read x c m u none = go (nat_lt (length u) m) (nat_lt (length u) 16)
    (nat_lt (payload_word x.slot c (length u)) 48) refl refl refl where
      go : (a b d : Bool) → nat_lt (length u) m ≡ a → nat_lt (length u) 16 ≡ b
          → nat_lt (payload_word x.slot c (length u)) 48 ≡ d → not (a && b && d) ≡ true
      go false b d e f g = refl
      go true false d e f g = refl
      go true true false e f g = refl
      go true true true e f g =
          let one : length u < m = grind (arith, nat_tests) in
          let two : length u < 16 = grind (arith, nat_tests) in
          let three : payload_word x.slot c (length u) < 48 = grind (arith, nat_tests) in
          let past = none one two in absurd (omega arith)

-- the only word of a slot in a page of one-word slots
pub one_fits : (slot : ℕ) → slot < 48 → payload_word slot 1 0 < 48
one_fits slot few = omega arith

-- the first words of a list
pub length_taken : (i : ℕ) (xs : List ℕ) → i ≤ length xs → length (take i xs) ≡ i
length_taken zero [] few = refl
length_taken zero (x ∷ xs) few = refl
length_taken (suc i) [] few = absurd (omega arith)
length_taken (suc i) (x ∷ xs) few = ap suc (length_taken i xs (omega arith))
