-- The holds of a pass are those that its log leaves it.
use Rattle.std.proofs.Common.{◌≡◌, ℕ, suc, ◌+◌, ◌-◌, ◌<◌, ◌==◌, ◌&&◌, ◌||◌, Bool, true, false, cond, List, [], ◌∷◌}
use Rattle.std.proofs.Common.{◌++◌, length, refl, ap, ◌∙◌, sym, arith, length-append}
use Rattle.std.proofs.Math.Nat.{add-sub_cancel_left}
use Rattle.std.specs.Prelude.{count_by}
use Rattle.std.specs.List.{AllZip}
use Rattle.sh_history.specs.declared.entry.Entry.{Entry}
use Rattle.sh_history.specs.declared.entry.Entry.TheVariants.{Insert, Got, Gone, Crowded, Removed, Released, Seen}
use Rattle.sh_history.specs.declared.log.LogEntry.{LogEntry}
use Rattle.sh_history.specs.History.{is_got_by, is_release_by, is_got_from, is_release_from, got_count_by}
use Rattle.sh_history.specs.History.{released_count_by}
use Rattle.sh_history.specs.Log.{Agrees, logged_holds_by}
use Rattle.sh_history.specs.Log.{logged_hold_count}
use Rattle.sh_history.proofs.LogLaws.{count_by-cons}
use Rattle.sh_history.proofs.LogHolds.{holds_by_log, hold_count_by_log}
use Rattle.sh_step.specs.Collections.{if1, has, without}
use Rattle.sh_core.specs.Lists.{times}
use Rattle.sh_core.proofs.Sums.ListCounts.{some_has, times_off, times_cons, times_none}
use Rattle.sh_core.proofs.Sums.Totals.{total_append}
use Rattle.sh_core.proofs.Sums.Tests.{if1_self}
use Rattle.sh_table.specs.Tales.{by}

pub holds_told : (a k held : ℕ) (log : List LogEntry) (es : List Entry) → AllZip Agrees log (by a es)
    → got_count_by es a k ≡ released_count_by es a k + held → logged_holds_by log a k ≡ held
holds_told a k held log es agrees counts = holds_by_log a log es agrees k
    ∙ (ap (λ n. n - released_count_by es a k) counts ∙ add-sub_cancel_left (released_count_by es a k) held)

-- ---- and the number of all holds

pub one_shorter : (k : ℕ) (xs : List ℕ) → has (λ x. x == k) xs ≡ true
    → length (without (λ x. x == k) xs) + 1 ≡ length xs
unfolding has without
one_shorter k [] h = cc
one_shorter k (x ∷ xs) h = go (x == k) (λ e. one_shorter k xs e) h
  where
    go : (b : Bool) → (has (λ x. x == k) xs ≡ true → length (without (λ x. x == k) xs) + 1 ≡ length xs)
        → (b || has (λ x. x == k) xs) ≡ true
        → length (cond b xs (x ∷ without (λ x. x == k) xs)) + 1 ≡ suc (length xs)
    go true rest h = omega arith
    go false rest h = let e = rest h in omega (arith, e)

cancels : (b m n l : ℕ) → b + m ≡ n → l + b ≡ n → m ≡ l
cancels b m n l e f = omega (arith, e, f)

-- lists that have each number equally often are equally long
same_length : (xs ys : List ℕ) → ((k : ℕ) → times k xs ≡ times k ys) → length xs ≡ length ys
same_length [] [] h = refl
same_length [] (y ∷ ys) h = let n = h y in let z = times_none y in let c = times_cons y y ys in let o = if1_self y
    in absurd (omega (arith, n, z, c, o))
same_length (x ∷ xs) ys h =
    let here : 0 < times x ys = let n = h x in let c = times_cons x x xs in let o = if1_self x
    in omega (arith, n, c, o) in
    let rest : length xs ≡ length (without (λ y. y == x) ys) =
    same_length xs (without (λ y. y == x) ys) (λ k. cancels (if1 (x == k)) (times k xs) (times k ys)
    (times k (without (λ y. y == x) ys)) (sym (times_cons k x xs) ∙ h k) (times_off x k ys here)) in
    let more = one_shorter x ys (some_has x ys here) in
    omega (arith, rest, more)

-- the keys that a pass got, and those that it released
abbrev got_keys : ℕ → List Entry → List ℕ
got_keys a [] = []
got_keys a (Got p k v ∷ es) = cond (p == a) (k ∷ got_keys a es) (got_keys a es)
got_keys a (Insert p k v ∷ es) = got_keys a es
got_keys a (Gone p k ∷ es) = got_keys a es
got_keys a (Crowded p k ∷ es) = got_keys a es
got_keys a (Removed p k ∷ es) = got_keys a es
got_keys a (Released p k ∷ es) = got_keys a es
got_keys a (Seen p k v ∷ es) = got_keys a es

abbrev released_keys : ℕ → List Entry → List ℕ
released_keys a [] = []
released_keys a (Released p k ∷ es) = cond (p == a) (k ∷ released_keys a es) (released_keys a es)
released_keys a (Insert p k v ∷ es) = released_keys a es
released_keys a (Got p k v ∷ es) = released_keys a es
released_keys a (Gone p k ∷ es) = released_keys a es
released_keys a (Crowded p k ∷ es) = released_keys a es
released_keys a (Removed p k ∷ es) = released_keys a es
released_keys a (Seen p k v ∷ es) = released_keys a es

zero_more : (n : ℕ) → 0 + n ≡ n
zero_more n = omega arith

times_if : (k j : ℕ) (b : Bool) (xs : List ℕ) (n : ℕ) → times k xs ≡ n → times k (cond b (j ∷ xs) xs)
    ≡ cond (b && (j == k)) 1 0 + n
times_if k j true xs n e = times_cons k j xs ∙ ap (λ m. if1 (j == k) + m) e
times_if k j false xs n e = omega (arith, e)

length_if : (j : ℕ) (b : Bool) (xs : List ℕ) (n : ℕ) → length xs ≡ n → length (cond b (j ∷ xs) xs) ≡ cond b 1 0 + n
length_if j true xs n e = omega (arith, e)
length_if j false xs n e = omega (arith, e)

skips : (f : Entry → Bool) (e : Entry) (es : List Entry) → f e ≡ false → count_by f (e ∷ es) ≡ count_by f es
skips f e es h = count_by-cons f e es ∙ (ap (λ b. cond b 1 0 + count_by f es) h ∙ zero_more (count_by f es))

got_times : (a k : ℕ) (es : List Entry) → times k (got_keys a es) ≡ got_count_by es a k
got_times a k [] = times_none k
got_times a k (Got p j v ∷ es) = times_if k j (p == a) (got_keys a es) (got_count_by es a k) (got_times a k es)
    ∙ sym (count_by-cons (is_got_by a k) (Got p j v) es)
got_times a k (Insert p j v ∷ es) = got_times a k es ∙ sym (skips (is_got_by a k) (Insert p j v) es refl)
got_times a k (Gone p j ∷ es) = got_times a k es ∙ sym (skips (is_got_by a k) (Gone p j) es refl)
got_times a k (Crowded p j ∷ es) = got_times a k es ∙ sym (skips (is_got_by a k) (Crowded p j) es refl)
got_times a k (Removed p j ∷ es) = got_times a k es ∙ sym (skips (is_got_by a k) (Removed p j) es refl)
got_times a k (Released p j ∷ es) = got_times a k es ∙ sym (skips (is_got_by a k) (Released p j) es refl)
got_times a k (Seen p j v ∷ es) = got_times a k es ∙ sym (skips (is_got_by a k) (Seen p j v) es refl)

released_times : (a k : ℕ) (es : List Entry) → times k (released_keys a es) ≡ released_count_by es a k
released_times a k [] = times_none k
released_times a k (Released p j ∷ es) = times_if k j (p == a) (released_keys a es) (released_count_by es a k)
    (released_times a k es) ∙ sym (count_by-cons (is_release_by a k) (Released p j) es)
released_times a k (Insert p j v ∷ es) = released_times a k es ∙ sym (skips (is_release_by a k) (Insert p j v) es refl)
released_times a k (Got p j v ∷ es) = released_times a k es ∙ sym (skips (is_release_by a k) (Got p j v) es refl)
released_times a k (Gone p j ∷ es) = released_times a k es ∙ sym (skips (is_release_by a k) (Gone p j) es refl)
released_times a k (Crowded p j ∷ es) = released_times a k es ∙ sym (skips (is_release_by a k) (Crowded p j) es refl)
released_times a k (Removed p j ∷ es) = released_times a k es ∙ sym (skips (is_release_by a k) (Removed p j) es refl)
released_times a k (Seen p j v ∷ es) = released_times a k es ∙ sym (skips (is_release_by a k) (Seen p j v) es refl)

got_length : (a : ℕ) (es : List Entry) → length (got_keys a es) ≡ count_by (is_got_from a) es
got_length a [] = refl
got_length a (Got p j v ∷ es) = length_if j (p == a) (got_keys a es) (count_by (is_got_from a) es) (got_length a es)
    ∙ sym (count_by-cons (is_got_from a) (Got p j v) es)
got_length a (Insert p j v ∷ es) = got_length a es ∙ sym (skips (is_got_from a) (Insert p j v) es refl)
got_length a (Gone p j ∷ es) = got_length a es ∙ sym (skips (is_got_from a) (Gone p j) es refl)
got_length a (Crowded p j ∷ es) = got_length a es ∙ sym (skips (is_got_from a) (Crowded p j) es refl)
got_length a (Removed p j ∷ es) = got_length a es ∙ sym (skips (is_got_from a) (Removed p j) es refl)
got_length a (Released p j ∷ es) = got_length a es ∙ sym (skips (is_got_from a) (Released p j) es refl)
got_length a (Seen p j v ∷ es) = got_length a es ∙ sym (skips (is_got_from a) (Seen p j v) es refl)

released_length : (a : ℕ) (es : List Entry) → length (released_keys a es) ≡ count_by (is_release_from a) es
released_length a [] = refl
released_length a (Released p j ∷ es) = length_if j (p == a) (released_keys a es) (count_by (is_release_from a) es)
    (released_length a es) ∙ sym (count_by-cons (is_release_from a) (Released p j) es)
released_length a (Insert p j v ∷ es) = released_length a es ∙ sym (skips (is_release_from a) (Insert p j v) es refl)
released_length a (Got p j v ∷ es) = released_length a es ∙ sym (skips (is_release_from a) (Got p j v) es refl)
released_length a (Gone p j ∷ es) = released_length a es ∙ sym (skips (is_release_from a) (Gone p j) es refl)
released_length a (Crowded p j ∷ es) = released_length a es ∙ sym (skips (is_release_from a) (Crowded p j) es refl)
released_length a (Removed p j ∷ es) = released_length a es ∙ sym (skips (is_release_from a) (Removed p j) es refl)
released_length a (Seen p j v ∷ es) = released_length a es ∙ sym (skips (is_release_from a) (Seen p j v) es refl)

pub hold_count_told : (a : ℕ) (holds : List ℕ) (log : List LogEntry) (es : List Entry) → AllZip Agrees log (by a es)
    → ((k : ℕ) → got_count_by es a k ≡ released_count_by es a k + times k holds) → logged_hold_count log a
    ≡ length holds
hold_count_told a holds log es agrees counts =
    let lists : length (got_keys a es) ≡ length (released_keys a es ++ holds) =
    same_length (got_keys a es) (released_keys a es ++ holds)
    (λ k. got_times a k es ∙ (counts k ∙ (ap (λ n. n + times k holds) (sym (released_times a k es))
    ∙ sym (total_append (λ y. if1 (y == k)) (released_keys a es) holds)))) in
    let all : count_by (is_got_from a) es ≡ count_by (is_release_from a) es + length holds =
    sym (got_length a es) ∙ (lists ∙ (length-append (released_keys a es) holds
    ∙ ap (λ n. n + length holds) (released_length a es))) in
    hold_count_by_log a log es agrees ∙ (ap (λ n. n - count_by (is_release_from a) es) all
    ∙ add-sub_cancel_left (count_by (is_release_from a) es) (length holds))
