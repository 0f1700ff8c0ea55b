-- What passes that all left their shards, and then met, are to the passes that they were.
use Rattle.std.proofs.Common.{◌≡◌, ℕ, suc, ◌<◌, List, [], ◌∷◌, ◌++◌, length, Option, Some, None, sym, refl, ap}
use Rattle.std.proofs.Common.{◌∙◌, subst, arith, inr, ⊎_elim}
use Rattle.std.specs.Prelude.{IfSome, IfNone}
use Rattle.std.specs.Option.{option_map}
use Rattle.std.specs.List.{All, Contains}
use Rattle.std.proofs.lemmas.List.Elements.{All-nil, All-cons, All-head, All-tail}
use Rattle.std.proofs.lemmas.List.Elements.{Contains-append_left, Contains-append_right, Contains-append_cases}
use Rattle.sh_history.specs.declared.log.LogEntry.{LogEntry}
use Rattle.sh_table.specs.declared.view.Order.{Order}
use Rattle.sh_table.specs.Seats.{Heap}
use Rattle.script_calls.specs.OwnParts.{own_part}
use Rattle.script_calls.specs.Parts.{RunTerms, SeenPass, HasAllLogs, tale_told}
use Rattle.script_calls.specs.Leaving.{AllLeaveInTurn, LeaveAndMeet, LeavesInTurn}
use Rattle.script_calls.specs.Meeting.{CarriesOwn, HasEnded, HasMet, IsShardless, KeepsOrders, orders_of, parts_carried}
use Rattle.script_calls.specs.Meeting.{tales_told}

module _ (s t : SeenPass) (ss ts : List SeenPass) (h : AllLeaveInTurn (s ∷ ss) (t ∷ ts)) where
  left_head : LeavesInTurn s t
  left_head = h.each 0 s t refl refl

  left_tail : AllLeaveInTurn ss ts
  left_tail = record {
    all = (let e = h.all in omega (arith, e));
    each = λ p x y e f. h.each (suc p) x y e f;
  }

pub left_none : (ss ts : List SeenPass) → AllLeaveInTurn ss ts → All IsShardless ts
left_none [] [] h = All-nil IsShardless
left_none [] (t ∷ ts) h = absurd (let e = h.all in omega (arith, e))
left_none (s ∷ ss) [] h = absurd (let e = h.all in omega (arith, e))
left_none (s ∷ ss) (t ∷ ts) h =
    All-cons IsShardless t ts (left_head s t ss ts h).none (left_none ss ts (left_tail s t ss ts h))

left_tale : (s t : SeenPass) → LeavesInTurn s t → tale_told t ≡ tale_told s
left_tale s t h = ap tale_told h.is ∙ ap (λ (l : List LogEntry). record { pass = s.pass; log = l } ∷ s.told) h.log

left_tales : (ss ts : List SeenPass) → AllLeaveInTurn ss ts → tales_told ts ≡ tales_told ss
left_tales [] [] h = refl
left_tales [] (t ∷ ts) h = absurd (let e = h.all in omega (arith, e))
left_tales (s ∷ ss) [] h = absurd (let e = h.all in omega (arith, e))
left_tales (s ∷ ss) (t ∷ ts) h =
    let one = left_tale s t (left_head s t ss ts h) in
    let rest = left_tales ss ts (left_tail s t ss ts h) in
    λ i. one i ++ rest i

left_orders : (ss ts : List SeenPass) → AllLeaveInTurn ss ts → KeepsOrders (orders_of ss) (orders_of ts)
left_orders [] ts h o c = absurd (let less : c.0 < 0 = c.1 in omega (arith, less))
left_orders (s ∷ ss) [] h o c = absurd (let e = h.all in omega (arith, e))
left_orders (s ∷ ss) (t ∷ ts) h o c = ⊎_elim
    (λ (k : Contains s.orders o). Contains-append_left t.orders (orders_of ts) o
    ((left_head s t ss ts h).keeps o k))
    (λ (k : Contains (orders_of ss) o). Contains-append_right t.orders (orders_of ts) o
    (left_orders ss ts (left_tail s t ss ts h) o k))
    (Contains-append_cases s.orders (orders_of ss) o c)

-- what met after it left carries the tale of all
met_of_left : (heap : Option Heap) (terms : RunTerms) (c : SeenPass) (ss ts : List SeenPass) → AllLeaveInTurn ss ts
    → HasMet heap terms c (tales_told ts) (orders_of ts) → HasMet heap terms c (tales_told ss) (orders_of ss)
met_of_left heap terms c ss ts h m =
    let same : tales_told ts ≡ tales_told ss = left_tales ss ts h in
    let w = m.whole in
    record {
      carries = (m.carries.0, m.carries.1, m.carries.2 ∙ same);
      heard = λ o k. m.heard o (left_orders ss ts h o k);
      none = m.none;
      whole = record {
        history = w.history;
        legal = w.legal;
        has = subst (HasAllLogs w.history) same w.has;
        only = w.only;
      };
      kept = m.kept;
    }

-- the carrier has the own part with which each pass ended
ended_so : (c s t : SeenPass) → LeavesInTurn s t → CarriesOwn c t → HasEnded c s
ended_so c s t h own =
    let pass : t.pass ≡ s.pass = ap (λ (z : SeenPass). z.pass) h.is in (
      h.begins,
      h.heeds,
      (
        own_part t.part.stands,
        h.ends,
        subst (λ (p : ℕ). Contains (parts_carried c) (record { pass = p; own = own_part t.part.stands })) pass own,
      ),
    )

all_ended : (c : SeenPass) (ss ts : List SeenPass) → AllLeaveInTurn ss ts → All (CarriesOwn c) ts
    → All (HasEnded c) ss
all_ended c [] ts h own = All-nil (HasEnded c)
all_ended c (s ∷ ss) [] h own = absurd (let e = h.all in omega (arith, e))
all_ended c (s ∷ ss) (t ∷ ts) h own = All-cons (HasEnded c) s ss
    (ended_so c s t (left_head s t ss ts h) (All-head (CarriesOwn c) t ts own))
    (all_ended c ss ts (left_tail s t ss ts h) (All-tail (CarriesOwn c) t ts own))

none_left : (ss ts : List SeenPass) → AllLeaveInTurn ss ts → ts ≡ [] → ss ≡ []
none_left [] ts h e = refl
none_left (s ∷ ss) ts h e =
    absurd (let all = h.all in let none : length ts ≡ 0 = ap length e in omega (arith, all, none))

pub left_met : {S : Type 0} (seen : S → SeenPass) (heap : Option Heap) (terms : RunTerms) (ss ts : List SeenPass)
    (o : Option S) → AllLeaveInTurn ss ts → IfSome o (λ s. HasMet heap terms (seen s) (tales_told ts) (orders_of ts))
    → IfSome o (λ s. All (CarriesOwn (seen s)) ts) → IfNone o (ts ≡ [])
    → LeaveAndMeet heap terms ss (option_map seen o)
left_met seen heap terms ss ts None h met own stays =
    record { met = tt; ended = tt; stays = inr (none_left ss ts h stays) }
left_met seen heap terms ss ts (Some s) h met own stays = record {
  met = met_of_left heap terms (seen s) ss ts h met;
  ended = all_ended (seen s) ss ts h own;
  stays = tt;
}
