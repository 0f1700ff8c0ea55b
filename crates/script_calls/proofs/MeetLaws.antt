-- Passes that meet: what their carrier carries.
use Rattle.std.proofs.Common.{◌≡◌, ℕ, suc, ◌+◌, List, [], ◌∷◌, ◌++◌, length, map, Option, Some, None, sym}
use Rattle.std.proofs.Common.{refl, ap, ◌∙◌, subst, arith, append_assoc, append-nil, length-append, ⊎_elim}
use Rattle.std.specs.Prelude.{nat_lt, not}
use Rattle.std.specs.List.{All, Contains}
use Rattle.std.proofs.lemmas.List.Elements.{All-head, All-tail}
use Rattle.std.proofs.lemmas.List.Elements.{Contains-append_left, Contains-append_right, Contains-append_cases}
use Rattle.sh_history.specs.History.{Legal}
use Rattle.sh_history.specs.Log.{entries_of}
use Rattle.sh_table.specs.declared.view.Order.{Order}
use Rattle.script_calls.specs.Parts.{RunTerms, SeenPass, PassTold, SamePass, HasAllLogs, tale_told}
use Rattle.script_calls.specs.Receipts.{HasOrderedTale}
use Rattle.script_calls.specs.Meeting.{CarriesTale, MeetsCarrier, HasMet, tales_told, AllOfHeap, KeepsOrders}
use Rattle.script_calls.specs.Meeting.{CarriesOrders, IsOfHeap, IsShardless, OwnsNone, orders_of}
use Rattle.script_calls.proofs.ListLemmas.{map_more}
use Rattle.sh_table.specs.Seats.{Heap}

tales_more : (ss : List SeenPass) (s : SeenPass) → tales_told (ss ++ s ∷ []) ≡ tales_told ss ++ tale_told s
tales_more [] s = append-nil (tale_told s)
tales_more (x ∷ xs) s = ap (λ z. tale_told x ++ z) (tales_more xs s)
    ∙ sym (append_assoc (tale_told x) (tales_told xs) (tale_told s))

-- leaving changes nothing of what it speaks for
record Retired (heap : Option Heap) (terms : RunTerms) (was s : SeenPass) : Type 0 where
  pub heap_is : s.heap ≡ heap
  pub terms_is : s.terms ≡ terms
  pub tale_is : tale_told s ≡ tale_told was
  pub orders_are : s.orders ≡ was.orders

retired : (heap : Option Heap) (terms : RunTerms) (was s : SeenPass) → was.heap ≡ heap → was.terms ≡ terms
    → SamePass was s → s.part.log ≡ was.part.log → Retired heap terms was s
retired heap terms was s h t same log = record {
  heap_is = ap (λ (z : SeenPass). z.heap) same ∙ h;
  terms_is = ap (λ (z : SeenPass). z.terms) same ∙ t;
  tale_is = (let P : ℕ → Type 0 = λ z. tale_told s ≡ record { pass = z; log = s.part.log } ∷ s.told
      in ap tale_told same) ∙ (λ i. record { pass = was.pass; log = log i } ∷ was.told);
  orders_are = ap (λ (z : SeenPass). z.orders) same;
}

pub carries_more : {S : Type 0} (seen : S → SeenPass) (heap : Option Heap) (terms : RunTerms) (ys : List S) (x : S)
    (rest its : List S) (side r : SeenPass) (o : Option SeenPass) → CarriesTale heap terms o (tales_told (map seen ys))
    → AllOfHeap heap terms (map seen its) → its ≡ x ∷ rest → SamePass (seen x) side → side.part.log ≡ (seen x).part.log
    → MeetsCarrier o side r → CarriesTale heap terms (Some r) (tales_told (map seen (ys ++ x ∷ [])))
carries_more seen heap terms ys x rest its side r o h all k same log meets = go o h meets
  where
    of : AllOfHeap heap terms (seen x ∷ map seen rest)
    of = subst (λ (z : List _). AllOfHeap heap terms (map seen z)) k all

    re : Retired heap terms (seen x) side
    re = retired heap terms (seen x) side of.0 of.1 same log

    more : tales_told (map seen (ys ++ x ∷ [])) ≡ tales_told (map seen ys) ++ tale_told (seen x)
    more = ap tales_told (map_more seen ys x) ∙ tales_more (map seen ys) (seen x)

    go : (o : Option SeenPass) → CarriesTale heap terms o (tales_told (map seen ys)) → MeetsCarrier o side r
        → CarriesTale heap terms (Some r) (tales_told (map seen (ys ++ x ∷ [])))
    go None h meets = (
      ap (λ (z : SeenPass). z.heap) meets ∙ re.heap_is,
      ap (λ (z : SeenPass). z.terms) meets
          ∙ re.terms_is,
      ap tale_told meets ∙ (re.tale_is ∙ (ap (λ (z : List PassTold). z ++ tale_told (seen x)) (sym h)
          ∙ sym more)),
    )
    go (Some c) h meets = (meets.0 ∙ h.0, meets.1 ∙ h.1, meets.2 ∙ ((λ i. h.2 i ++ re.tale_is i) ∙ sym more))

pub rest_of : {S : Type 0} (seen : S → SeenPass) (heap : Option Heap) (terms : RunTerms) (x : S) (rest its : List S)
    → AllOfHeap heap terms (map seen its) → its ≡ x ∷ rest → AllOfHeap heap terms (map seen rest)
rest_of seen heap terms x rest its all k = let of : AllOfHeap heap terms (seen x ∷ map seen rest) = subst
    (λ (z : List _). AllOfHeap heap terms (map seen z)) k all in of.2

-- the rest of passes that own no shard
pub rest_left : {S : Type 0} (seen : S → SeenPass) (x : S) (rest its : List S) → All IsShardless (map seen its)
    → its ≡ x ∷ rest → All IsShardless (map seen rest)
rest_left seen x rest its all k =
    All-tail IsShardless (seen x) (map seen rest) (subst (λ (z : List _). All IsShardless (map seen z)) k all)

pub first_left : {S : Type 0} (seen : S → SeenPass) (x : S) (rest its : List S) → All IsShardless (map seen its)
    → its ≡ x ∷ rest → (seen x).part.shard ≡ None
first_left seen x rest its all k =
    All-head IsShardless (seen x) (map seen rest) (subst (λ (z : List _). All IsShardless (map seen z)) k all)

-- the carrier is of the heap of the next pass
pub carrier_of : {S : Type 0} (seen : S → SeenPass) (heap : Option Heap) (terms : RunTerms) (ts : List PassTold) (x : S)
    (rest its : List S) (o : Option SeenPass) → CarriesTale heap terms o ts → AllOfHeap heap terms (map seen its)
    → its ≡ x ∷ rest → IsOfHeap (seen x).heap o
carrier_of seen heap terms ts x rest its None carries all k = tt
carrier_of seen heap terms ts x rest its (Some c) carries all k =
    let of : AllOfHeap heap terms (seen x ∷ map seen rest) = subst
    (λ (z : List _). AllOfHeap heap terms (map seen z)) k all in carries.0 ∙ sym of.0

orders_snoc : (ss : List SeenPass) (s : SeenPass) → orders_of (ss ++ s ∷ []) ≡ orders_of ss ++ s.orders
orders_snoc [] s = append-nil s.orders
orders_snoc (x ∷ xs) s = ap (λ (z : List Order). x.orders ++ z) (orders_snoc xs s)
    ∙ sym (append_assoc x.orders (orders_of xs) s.orders)

-- the carrier has heard of all that the passes that met it heard of
pub orders_more : {S : Type 0} (seen : S → SeenPass) (ys : List S) (x : S) (side r : SeenPass) (o : Option SeenPass)
    → CarriesOrders o (orders_of (map seen ys)) → SamePass (seen x) side → MeetsCarrier o side r
    → CarriesOrders (Some r) (orders_of (map seen (ys ++ x ∷ [])))
orders_more seen ys x side r o h same meets = go o h meets
  where
    its : side.orders ≡ (seen x).orders
    its = ap (λ (z : SeenPass). z.orders) same

    more : orders_of (map seen (ys ++ x ∷ [])) ≡ orders_of (map seen ys) ++ (seen x).orders
    more = ap orders_of (map_more seen ys x) ∙ orders_snoc (map seen ys) (seen x)

    go : (o : Option SeenPass) → CarriesOrders o (orders_of (map seen ys)) → MeetsCarrier o side r
        → CarriesOrders (Some r) (orders_of (map seen (ys ++ x ∷ [])))
    go None h meets =
        let is : orders_of (map seen (ys ++ x ∷ [])) ≡ r.orders = more
        ∙ (ap (λ (z : List Order). z ++ (seen x).orders) h ∙ (sym its ∙ ap (λ (z : SeenPass). z.orders) (sym meets))) in
        λ p c. subst (λ (z : List Order). Contains z p) is c
    go (Some c) h meets = λ p has. ⊎_elim
        (λ (k : Contains (orders_of (map seen ys)) p). meets.3 p (Contains-append_left c.orders side.orders p (h p k)))
        (λ (k : Contains (seen x).orders p). meets.3 p (Contains-append_right c.orders side.orders p
        (subst (λ (z : List Order). Contains z p) (sym its) k)))
        (Contains-append_cases (orders_of (map seen ys)) (seen x).orders p
        (subst (λ (z : List Order). Contains z p) more has))

pub all_yielded : {S : Type 0} (all ys its : List S) (n : ℕ) → all ≡ ys ++ its → length ys + n ≡ length all → n ≡ 0
    → ys ≡ all
all_yielded all ys [] n e l z = sym (e ∙ append-nil ys)
all_yielded all ys (x ∷ xs) n e l z = let k : length all ≡ length ys + suc (length xs) = ap length e
    ∙ length-append ys (x ∷ xs) in absurd (omega (arith, k, l, z))

pub has_met : {S : Type 0} (seen : S → SeenPass) (heap : Option Heap) (terms : RunTerms) (all ys its : List S) (n : ℕ)
    (c : SeenPass) (o : Option SeenPass) → all ≡ ys ++ its → length ys + n ≡ length all → n ≡ 0
    → CarriesTale heap terms o (tales_told (map seen ys)) → CarriesOrders o (orders_of (map seen ys)) → OwnsNone o
    → o ≡ Some c → HasOrderedTale c → HasMet heap terms c (tales_told (map seen all)) (orders_of (map seen all))
has_met {S} seen heap terms all ys its n c o e l z carries heard none is stands =
    let yielded : ys ≡ all = all_yielded all ys its n e l z in
    let h = subst (λ (q : Option SeenPass). CarriesTale heap terms q (tales_told (map seen ys))) is carries in
    let tale : tale_told c ≡ tales_told (map seen all) = h.2 ∙ ap (λ (q : List S). tales_told (map seen q)) yielded in
    let w = stands.whole in
    record {
      carries = (h.0, h.1, tale);
      heard = subst (λ (q : List S). KeepsOrders (orders_of (map seen q)) c.orders) yielded
          (subst (λ (q : Option SeenPass). CarriesOrders q (orders_of (map seen ys))) is heard);
      none = subst OwnsNone is none;
      whole = record {
        history = w.history;
        legal = subst (λ (t : RunTerms). Legal t.shape.passes t.layout.guard_max w.history) h.1 w.legal;
        has = subst (HasAllLogs w.history) tale w.has;
        only = subst (λ (t : RunTerms). entries_of (λ p. not (nat_lt p t.shape.passes)) w.history ≡ []) h.1 w.only;
      };
      kept = stands.orders;
    }

-- if no pass carries a tale once all have met, there is no pass
pub none_there : {S : Type 0} (seen : S → SeenPass) (all ys : List S) (left : ℕ) → length ys + left ≡ length all
    → left ≡ 0 → tales_told (map seen ys) ≡ [] → map seen all ≡ []
none_there seen [] ys left counted none t = refl
none_there seen (x ∷ xs) [] left counted none t =
    absurd (let e : 0 + left ≡ suc (length xs) = counted in omega (arith, e, none))
none_there seen (x ∷ xs) (y ∷ ys) left counted none t =
    absurd (let z : tales_told (map seen (y ∷ ys)) ≡ [] = t in cc)
