-- No two states of a level are alike, and states that are alike have the same mark.
use Rattle.std.proofs.Common.{◌≡◌, ℕ, ◌==◌, Bool, true, false, cond, List, [], ◌∷◌, ◌++◌, length, refl, sym, ap, ◌∙◌}
use Rattle.std.proofs.Common.{subst, suc, ◌||◌, Option, Some, inl, inr, slice_get, get_or, set, ◌+◌, ◌<◌, eq-eqb, arith}
use Rattle.std.specs.HashMap.{HashMap}
use Rattle.std.specs.Prelude.{Vec, nat_eq, slice_set}
use Rattle.std.specs.List.{fold, list_any, sum_by}
use Rattle.std.proofs.lemmas.Bool.{cases_eq, eqb-true}
use Rattle.std.proofs.lemmas.List.Sums.{sum_by-set, sum_by_push}
use Rattle.std.proofs.lemmas.Option.{slice_get_within}
use Rattle.script_orders.specs.declared.state.State.{State}
use Rattle.script_orders.specs.Bytes.{counted, state_bytes}
use Rattle.script_orders.specs.Lanes.{Did}
use Rattle.script_orders.specs.Marks.{with_lane, mark_of}
use Rattle.script_orders.specs.Filed.{AllFiled, Files, items_in, places_of}
use Rattle.script_orders.specs.States.{AreAlike, IsAlikeAt, HasAlike, AllDiffer}
use Rattle.script_orders.proofs.ListSteps.{get_set_same, get_set_other, get_pushed}

pub mark_alike : (s t : State) → AreAlike s t → mark_of s ≡ mark_of t
mark_alike s t alike = ap (λ (ds : List Did). fold with_lane 0xcbf2_9ce4_8422_2325 ds) alike.lanes

through : (s t u v : State) → AreAlike s t → AreAlike t u → AreAlike v u → AreAlike s v
through s t u v a b c = record {
  lanes = a.lanes ∙ b.lanes ∙ sym c.lanes;
  changes = a.changes ∙ b.changes ∙ sym c.changes;
}

-- ---- how many bytes they take

pub sum_kept : {A : Type 0} (f : A → ℕ) (xs : List A) (i : ℕ) (y d : A) → i < length xs → f y ≡ f (get_or xs i d)
    → sum_by f (set xs i y) ≡ sum_by f xs
sum_kept f xs i y d less same =
    let e : sum_by f (set xs i y) + f (get_or xs i d) ≡ sum_by f xs + f y = sum_by-set f xs i y d less in omega arith

pub counted_more : (a b : ℕ) → counted (counted a + counted b) ≡ counted (a + b)
counted_more a b = omega arith

pub bytes_push : (states all : List State) (state : State) (bytes more : ℕ)
    → bytes ≡ counted (sum_by state_bytes states) → more ≡ counted (state_bytes state) → all ≡ states ++ state ∷ []
    → counted (bytes + more) ≡ counted (sum_by state_bytes all)
bytes_push states all state bytes more are some is =
    (λ i. counted (are i + some i))
    ∙ counted_more (sum_by state_bytes states) (state_bytes state)
    ∙ ap counted (sym (sum_by_push state_bytes states state) ∙ ap (sum_by state_bytes) (sym is))

-- ---- a state with more orders takes the place of one

module _ (old : List State) (place : ℕ) (there both : State) (at : slice_get old place ≡ Some there)
    (alike : AreAlike there both) where
  was : (k : ℕ) (s : State) → slice_get (slice_set old place both) k ≡ Some s
      → (u : State) × (slice_get old k ≡ Some u) × AreAlike u s
  was k s got = elim (cases_eq k place) [
    | inl e ↦
        let at' : slice_get old k ≡ Some there = ap (slice_get old) e ∙ at in
        let here : slice_get (slice_set old place both) k ≡ Some both =
        ap (λ (n : ℕ). slice_get (slice_set old n both) k) (sym e) ∙ get_set_same old k there both at' in
        let one : both ≡ s = let z : Some both ≡ Some s = sym here ∙ got in cc in
        (there, at', subst (AreAlike there) one alike)
    | inr ne ↦ (s, sym (get_set_other old place k both ne) ∙ got, record { lanes = refl; changes = refl })
  ]

  pub differ_set : AllDiffer old → AllDiffer (slice_set old place both)
  differ_set differ i j s t is js same =
      let a = was i s is in
      let b = was j t js in
      differ i j a.0 b.0 a.1 b.1 (through a.0 s t b.0 a.2 same b.2)

  pub filed_set : {Z S : Type 0} (map : HashMap ℕ (Vec ℕ Z) S) → AllFiled map old
      → AllFiled map (slice_set old place both)
  filed_set map filed k s got =
      let a = was k s got in
      subst (λ (m : ℕ). list_any (nat_eq k) (places_of map m) ≡ true) (mark_alike a.0 s a.2) (filed k a.0 a.1)

-- ---- one state more, to which none is alike

pub differ_push : (old : List State) (s : State) → ¬ HasAlike old s → AllDiffer old → AllDiffer (old ++ s ∷ [])
differ_push old s none differ i j u v is js same = elim (get_pushed old i u s is) [
  | inl here ↦ elim (get_pushed old j v s js) [
    | inl there ↦ differ i j u v here there same
    | inr last ↦ absurd (none (i, u, here, subst (AreAlike u) (sym last.1) same))
  ]
  | inr last ↦ elim (get_pushed old j v s js) [
    | inl there ↦
        let back : AreAlike v u = record { lanes = sym same.lanes; changes = sym same.changes } in
        absurd (none (j, v, there, subst (AreAlike v) (sym last.1) back))
    | inr also ↦ last.0 ∙ sym also.0
  ]
]

-- ---- places by marks

any_push : (xs : List ℕ) (p y : ℕ) → list_any (nat_eq p) xs ≡ true → list_any (nat_eq p) (xs ++ y ∷ []) ≡ true
any_push [] p y h = absurd (let z : false ≡ true = h in cc)
any_push (x ∷ xs) p y h = go (nat_eq p x) (λ k. any_push xs p y k) h where
  go : (b : Bool) → (list_any (nat_eq p) xs ≡ true → list_any (nat_eq p) (xs ++ y ∷ []) ≡ true)
      → (b || list_any (nat_eq p) xs) ≡ true → (b || list_any (nat_eq p) (xs ++ y ∷ [])) ≡ true
  go true rest k = refl
  go false rest k = rest k

any_last : (xs : List ℕ) (p : ℕ) → list_any (nat_eq p) (xs ++ p ∷ []) ≡ true
any_last [] p = ap (λ (b : Bool). b || false) (eq-eqb p p refl)
any_last (x ∷ xs) p = go (nat_eq p x) (any_last xs p) where
  go : (b : Bool) → list_any (nat_eq p) (xs ++ p ∷ []) ≡ true → (b || list_any (nat_eq p) (xs ++ p ∷ [])) ≡ true
  go true rest = refl
  go false rest = rest

pub any_at : (xs : List ℕ) (p : ℕ) → list_any (nat_eq p) xs ≡ true → (k : ℕ) × (slice_get xs k ≡ Some p)
any_at [] p h = absurd (let z : false ≡ true = h in cc)
any_at (x ∷ xs) p h = go (nat_eq p x) refl (λ k. any_at xs p k) h where
  go : (b : Bool) → nat_eq p x ≡ b → (list_any (nat_eq p) xs ≡ true → (k : ℕ) × (slice_get xs k ≡ Some p))
      → (b || list_any (nat_eq p) xs) ≡ true → (k : ℕ) × (slice_get (x ∷ xs) k ≡ Some p)
  go true same rest k = (0, λ i. Some (sym (eqb-true p x same) i))
  go false other rest k = let found = rest k in (suc found.0, found.1)

-- none of the states with a mark is alike, so no state is
pub none_filed : {Z S : Type 0} (map : HashMap ℕ (Vec ℕ Z) S) (states : List State) (mark : ℕ) (t : State)
    (places : List ℕ) → AllFiled map states → mark ≡ mark_of t → places ≡ places_of map mark
    → ((k place : ℕ) → slice_get places k ≡ Some place → ¬ IsAlikeAt states place t) → ¬ HasAlike states t
none_filed map states mark t places filed is are none has =
    let same : mark ≡ mark_of has.1 = is ∙ sym (mark_alike has.1 t has.3) in
    let there : list_any (nat_eq has.0) places ≡ true =
    ap (list_any (nat_eq has.0)) (are ∙ ap (places_of map) same) ∙ filed has.0 has.1 has.2 in
    let at = any_at places has.0 there in
    none at.0 has.0 at.1 (has.1, has.2, has.3)

pub none_there : {P : Type 0} (k place : ℕ) → slice_get [] k ≡ Some place → P
none_there k place at = absurd (let less = slice_get_within [] k place at in omega arith)

module _ {Z S : Type 0} (map map' : HashMap ℕ (Vec ℕ Z) S) (mark place : ℕ) (files : Files map mark place map') where
  still_there : (m i : ℕ) → list_any (nat_eq i) (places_of map m) ≡ true
      → list_any (nat_eq i) (places_of map' m) ≡ true
  still_there m i there = ap (list_any (nat_eq i)) (files m) ∙ go (mark == m) where
    go : (b : Bool) → list_any (nat_eq i) (cond b (places_of map m ++ place ∷ []) (places_of map m)) ≡ true
    go true = any_push (places_of map m) i place there
    go false = there

  pub filed_more : (old : List State) → AllFiled map old → AllFiled map' old
  filed_more old filed k s got = still_there (mark_of s) k (filed k s got)

  pub filed_push : (old : List State) (s : State) → place ≡ length old → mark ≡ mark_of s → AllFiled map old
      → AllFiled map' (old ++ s ∷ [])
  filed_push old s is marked filed k u got = elim (get_pushed old k u s got) [
    | inl here ↦ filed_more old filed k u here
    | inr last ↦
        let before = places_of map mark in
        let here : list_any (nat_eq place) (places_of map' mark) ≡ true =
        ap (list_any (nat_eq place)) (files mark
        ∙ ap (λ (b : Bool). cond b (before ++ place ∷ []) before) (eq-eqb mark mark refl))
        ∙ any_last before place in
        let P : ℕ → ℕ → Type 0 = λ m i. list_any (nat_eq i) (places_of map' m) ≡ true in
        subst (λ (m : ℕ). P m k) (marked ∙ ap mark_of (last.1)) (subst (P mark) (is ∙ sym last.0) here)
  ]

pub filed_same : {Z S : Type 0} (map map' : HashMap ℕ (Vec ℕ Z) S) (old : List State)
    → ((m : ℕ) → places_of map' m ≡ places_of map m) → AllFiled map old → AllFiled map' old
filed_same map map' old same filed k s got = ap (list_any (nat_eq k)) (same (mark_of s)) ∙ filed k s got

-- what a longer list with a mark is
pub files_longer : {Z : Type 0} (b : Bool) (o o' : Option (Vec ℕ Z)) (v : Vec ℕ Z) (place : ℕ)
    → o' ≡ cond b (Some v) o → (b ≡ true → v.items ≡ items_in o ++ place ∷ [])
    → items_in o' ≡ cond b (items_in o ++ place ∷ []) (items_in o)
files_longer true o o' v place is more = ap items_in is ∙ more refl
files_longer false o o' v place is more = ap items_in is
