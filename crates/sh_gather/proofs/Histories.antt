-- All histories of a tale that names all passes agree on the counts, in whatever order they have the entries, and
-- whatever values are open.
use Rattle.std.proofs.Common.{◌≡◌, ◌≢◌, ℕ, zero, suc, ◌+◌, ◌-◌, ◌<◌, ◌==◌, ◌||◌, Bool, true, false, cond, List, [], ◌∷◌}
use Rattle.std.proofs.Common.{sym, refl, ap, ◌∙◌, subst, eq-eqb, ne_eqb, arith, Some}
use Rattle.std.specs.Prelude.{nat_lt, All, count_by, is_some}
use Rattle.std.specs.List.{AllZip, list_any}
use Rattle.std.proofs.lemmas.Bool.Decides.{nat_tests}
use Rattle.std.proofs.lemmas.List.Elements.{All-head, All-tail}
use mathlib.Core.Logic.{dite}
use native.Mathlib.Decide.{ℕ_discrete}
use Rattle.sh_history.specs.declared.entry.Entry.{Entry}
use Rattle.sh_history.specs.declared.entry.Entry.TheVariants.{Insert, Got, Gone, Crowded, Removed, Released, Seen}
use Rattle.sh_history.specs.declared.log.LogEntry.{LogEntry}
use Rattle.sh_history.specs.declared.log.LogEntry.TheVariants.{Known, Unread}
use Rattle.sh_history.specs.History.{value_of, is_removed, is_removal_of, is_got_of, is_release_of, got_count}
use Rattle.sh_history.specs.History.{released_count, holds_on}
use Rattle.sh_history.specs.Log.{Agrees, pass_of}
use Rattle.sh_history.proofs.LogLaws.{count_by-cons}
use Rattle.sh_key.specs.Layout.{Layout}
use Rattle.sh_step.specs.Collections.{total, if1}
use Rattle.sh_step.specs.Plans.{Plan}
use Rattle.sh_table.specs.declared.view.Own.{Own}
use Rattle.sh_table.specs.declared.view.Told.{Told}
use Rattle.sh_table.specs.declared.view.View.{View}
use Rattle.sh_table.specs.Views.{Each, names, names_told}
use Rattle.sh_table.specs.Tales.{by, IsLogOf, IsTale}
use Rattle.sh_table.specs.Whole.{IsWhole}
use Rattle.sh_gather.specs.PageKeys.{is_live_key, is_marked_key, is_retired_key}
use Rattle.sh_gather.specs.Histories.{IsHistory}

-- a count that reads no value of a get
abbrev pub Blind : (Entry → ℕ) → Type 0
Blind f = (a k : ℕ) (u v : List ℕ) → f (Got a k u) ≡ f (Got a k v)

-- two lists of entries of one log
one_log : (f : Entry → ℕ) → Blind f → (log : List LogEntry) (es ds : List Entry) → AllZip Agrees log es
    → AllZip Agrees log ds → total f es ≡ total f ds
unfolding total
one_log f blind [] [] [] h k = refl
one_log f blind [] (e ∷ es) ds h k = absurd h
one_log f blind [] [] (d ∷ ds) h k = absurd k
one_log f blind (x ∷ log) [] ds h k = absurd h
one_log f blind (x ∷ log) (e ∷ es) [] h k = absurd k
one_log f blind (Known x ∷ log) (e ∷ es) (d ∷ ds) h k =
    let a : f e ≡ f x = ap f h.0 in
    let b : f d ≡ f x = ap f k.0 in
    let rest = one_log f blind log es ds h.1 k.1 in omega arith
one_log f blind (Unread p j ∷ log) (e ∷ es) (d ∷ ds) h k =
    let u = h.0 in
    let v = k.0 in
    let a : f e ≡ f (Got p j u.0) = ap f u.1 in
    let b : f d ≡ f (Got p j v.0) = ap f v.1 in
    let c = blind p j u.0 v.0 in
    let rest = one_log f blind log es ds h.1 k.1 in omega arith

-- ---- a sum over a history is the sum over the logs of its passes

sum_below : (ℕ → ℕ) → ℕ → ℕ
sum_below f zero = 0
sum_below f (suc n) = sum_below f n + f n

sum_none : (n : ℕ) → sum_below (λ _. 0) n ≡ 0
unfolding sum_below
sum_none zero = refl
sum_none (suc n) = omega (arith, sum_none n)

sum_same : (f g : ℕ → ℕ) (n : ℕ) → ((a : ℕ) → a < n → f a ≡ g a) → sum_below f n ≡ sum_below g n
unfolding sum_below
sum_same f g zero h = refl
sum_same f g (suc n) h = let here = h n (omega arith) in let rest = sum_same f g n (λ a l. h a (omega arith))
    in omega arith

-- one of the summands is larger by c
sum_more : (f g : ℕ → ℕ) (p c n : ℕ) → f p ≡ c + g p → ((a : ℕ) → a ≢ p → f a ≡ g a) → p < n → sum_below f n
    ≡ c + sum_below g n
unfolding sum_below
sum_more f g p c zero here other l = absurd (omega arith)
sum_more f g p c (suc n) here other l = dite (ℕ_discrete n p)
    (λ (e : n ≡ p). let same = sum_same f g n (λ a less. other a (λ i. omega arith)) in let h : f n
    ≡ c + g n = subst (λ (m : ℕ). f m ≡ c + g m) (sym e) here in omega arith)
    (λ (ne : n ≢ p). let rest = sum_more f g p c n here other (omega arith) in let o = other n ne in omega arith)

by_own : (a : ℕ) (e : Entry) (es : List Entry) → pass_of e ≡ a → by a (e ∷ es) ≡ e ∷ by a es
by_own a e es is = ap (λ b. cond b (e ∷ by a es) (by a es)) (eq-eqb (pass_of e) a is)

by_other : (a : ℕ) (e : Entry) (es : List Entry) → a ≢ pass_of e → by a (e ∷ es) ≡ by a es
by_other a e es ne = ap (λ b. cond b (e ∷ by a es) (by a es)) (ne_eqb (pass_of e) a (λ i. ne (sym i)))

by_passes : (f : Entry → ℕ) (n : ℕ) (es : List Entry) → All (λ e. pass_of e < n) es → total f es
    ≡ sum_below (λ a. total f (by a es)) n
unfolding total
by_passes f n [] h = sym (sum_none n)
by_passes f n (e ∷ es) h =
    let rest = by_passes f n es (All-tail (λ e. pass_of e < n) e es h) in
    let more = sum_more (λ a. total f (by a (e ∷ es))) (λ a. total f (by a es)) (pass_of e) (f e) n
    (ap (total f) (by_own (pass_of e) e es refl)) (λ a ne. ap (total f) (by_other a e es ne))
    (All-head (λ e. pass_of e < n) e es h) in omega arith

-- ---- each pass that the tale names has its log there

named_told : (a : ℕ) (ts : List Told) → names_told a ts ≡ true → (o : Own)
    × ((history : List Entry) → Each (λ t. IsLogOf t.pass t.own history) ts → IsLogOf a o history)
named_told a [] e = absurd (let z : false ≡ true = e in cc)
named_told a (t ∷ ts) e = dite (ℕ_discrete t.pass a)
    (λ (is : t.pass ≡ a). (t.own, λ history h. subst (λ (p : ℕ). IsLogOf p t.own history) is h.0))
    (λ (ne : t.pass ≢ a). let r = named_told a ts (sym (ap (λ b. b || names_told a ts) (ne_eqb t.pass a ne)) ∙ e)
    in (r.0, λ history h. r.1 history h.1))

named_log : (layout : Layout) (v : View) (a : ℕ) → names v a ≡ true → (o : Own)
    × ((history : List Entry) → IsTale layout v history → IsLogOf a o history)
named_log layout v a e = dite (ℕ_discrete v.pass a)
    (λ (is : v.pass ≡ a). (v.own, λ history h. subst (λ (p : ℕ). IsLogOf p v.own history) is h.own))
    (λ (ne : v.pass ≢ a). let r = named_told a v.told (sym (ap (λ b. b || names_told a v.told) (ne_eqb v.pass a ne))
    ∙ e) in (r.0, λ history h. r.1 history h.told))

-- ---- counts as sums

pub count_is : {A : Type 0} (p : A → Bool) (xs : List A) → count_by p xs ≡ total (λ x. if1 (p x)) xs
unfolding total
count_is p [] = refl
count_is p (x ∷ xs) = let one = count_by-cons p x xs in let rest = count_is p xs in omega arith

zero_more : (b : Bool) (m : ℕ) → b ≡ nat_lt 0 m → b ≡ nat_lt 0 (0 + m)
zero_more b m e = let z : 0 + m ≡ m = omega arith in rw z e

one_more : (m : ℕ) → true ≡ nat_lt 0 (1 + m)
one_more m = grind (arith, nat_tests)

any_is : {A : Type 0} (p : A → Bool) (xs : List A) → list_any p xs ≡ nat_lt 0 (total (λ x. if1 (p x)) xs)
unfolding total
any_is p [] = refl
any_is p (x ∷ xs) = go (p x) (any_is p xs) where
  go : (b : Bool) → list_any p xs ≡ nat_lt 0 (total (λ x. if1 (p x)) xs) → (b || list_any p xs)
      ≡ nat_lt 0 (if1 b + total (λ x. if1 (p x)) xs)
  go true e = one_more (total (λ x. if1 (p x)) xs)
  go false e = zero_more (list_any p xs) (total (λ x. if1 (p x)) xs) e

-- 1 if the entry is an insert of the key, and 0 otherwise
abbrev inserted_in : ℕ → Entry → ℕ
inserted_in j (Insert a i u) = if1 (i == j)
inserted_in j _ = 0

issued_is : (j : ℕ) (xs : List Entry) → is_some (value_of xs j) ≡ nat_lt 0 (total (inserted_in j) xs)
unfolding total
issued_is j [] = refl
issued_is j (Insert a i u ∷ xs) = go (i == j) (issued_is j xs) where
  go : (b : Bool) → is_some (value_of xs j) ≡ nat_lt 0 (total (inserted_in j) xs)
      → is_some (cond b (Some u) (value_of xs j)) ≡ nat_lt 0 (if1 b + total (inserted_in j) xs)
  go true e = one_more (total (inserted_in j) xs)
  go false e = zero_more (is_some (value_of xs j)) (total (inserted_in j) xs) e
issued_is j (Got a i u ∷ xs) = zero_more (is_some (value_of xs j)) (total (inserted_in j) xs) (issued_is j xs)
issued_is j (Gone a i ∷ xs) = zero_more (is_some (value_of xs j)) (total (inserted_in j) xs) (issued_is j xs)
issued_is j (Crowded a i ∷ xs) = zero_more (is_some (value_of xs j)) (total (inserted_in j) xs) (issued_is j xs)
issued_is j (Removed a i ∷ xs) = zero_more (is_some (value_of xs j)) (total (inserted_in j) xs) (issued_is j xs)
issued_is j (Released a i ∷ xs) = zero_more (is_some (value_of xs j)) (total (inserted_in j) xs) (issued_is j xs)
issued_is j (Seen a i u ∷ xs) = zero_more (is_some (value_of xs j)) (total (inserted_in j) xs) (issued_is j xs)

-- ---- so they agree

module _ (layout : Layout) (v : View) (whole : IsWhole v) (es ds : List Entry) (h : IsHistory layout v es)
    (k : IsHistory layout v ds) where
  same_total : (f : Entry → ℕ) → Blind f → total f es ≡ total f ds
  same_total f blind =
      let a = by_passes f v.shape.passes es h.ours in
      let b = by_passes f v.shape.passes ds k.ours in
      let c = sum_same (λ a. total f (by a es)) (λ a. total f (by a ds)) v.shape.passes
      (λ p l. let o = named_log layout v p (whole p l) in one_log f blind o.0.log (by p es) (by p ds)
      (o.1 es h.tale) (o.1 ds k.tale)) in omega arith

  same_issued : (j : ℕ) → is_some (value_of es j) ≡ is_some (value_of ds j)
  same_issued j = issued_is j es ∙ (ap (λ n. nat_lt 0 n) (same_total (inserted_in j) (λ p i x y. refl))
      ∙ sym (issued_is j ds))

  same_removed : (j : ℕ) → is_removed es j ≡ is_removed ds j
  same_removed j = any_is (is_removal_of j) es ∙ (ap (λ n. nat_lt 0 n)
      (same_total (λ e. if1 (is_removal_of j e)) (λ p i x y. refl)) ∙ sym (any_is (is_removal_of j) ds))

  same_holds : (j : ℕ) → holds_on es j ≡ holds_on ds j
  same_holds j =
      let got : got_count es j ≡ got_count ds j = count_is (is_got_of j) es
      ∙ (same_total (λ e. if1 (is_got_of j e)) (λ p i x y. refl) ∙ sym (count_is (is_got_of j) ds)) in
      let released : released_count es j ≡ released_count ds j = count_is (is_release_of j) es
      ∙ (same_total (λ e. if1 (is_release_of j e)) (λ p i x y. refl) ∙ sym (count_is (is_release_of j) ds)) in
      λ i. got i - released i

  count_same : (p r : ℕ → Bool) → ((j : ℕ) → p j ≡ r j) → (keys : List ℕ) → count_by p keys ≡ count_by r keys
  count_same p r e keys = ap (λ (t : ℕ → Bool). count_by t keys) (λ i j. e j i)

  pub same_live_key : (j : ℕ) → is_live_key es j ≡ is_live_key ds j
  same_live_key j = rw (same_issued j, same_removed j) refl

  pub same_live : (keys : List ℕ) → count_by (is_live_key es) keys ≡ count_by (is_live_key ds) keys
  same_live = count_same (is_live_key es) (is_live_key ds) (λ j. rw (same_issued j, same_removed j) refl)

  pub same_marked : (keys : List ℕ) → count_by (is_marked_key es) keys ≡ count_by (is_marked_key ds) keys
  same_marked = count_same (is_marked_key es) (is_marked_key ds) (λ j. rw (same_removed j, same_holds j) refl)

  pub same_retired : (plan : Plan) (keys : List ℕ) → count_by (is_retired_key plan es) keys
      ≡ count_by (is_retired_key plan ds) keys
  same_retired plan = count_same (is_retired_key plan es) (is_retired_key plan ds)
      (λ j. rw (same_removed j, same_holds j) refl)
