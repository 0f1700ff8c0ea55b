-- Courses of keys, call by call.
use Rattle.std.proofs.Common.{◌≡◌, ◌∙◌, ℕ, ◌+◌, ◌<◌, ◌≤◌, Bool, true, false, cond, List, ◌∷◌, Option, Some, refl}
use Rattle.std.proofs.Common.{sym, ap, subst, length, get_or, drop, rules}
use Rattle.std.specs.Prelude.{nat_eq, unwrap_or}
use Rattle.std.proofs.lemmas.List.{at_drop_more, at_drop_all}
use Rattle.history_timed.specs.declared.call.Call.{Call}
use Rattle.history_timed.specs.declared.course.Course.{Course}
use Rattle.history_timed.specs.Calls.{key_said}
use Rattle.history_timed.specs.Courses.{no_calls, taken_in, course_with, course_from, course_by}

same_key : (k q : ℕ) → nat_eq k q ≡ true → k ≡ q
same_key k q e = search rules

-- the course of one key was written
module _ (before after : ℕ → Option Course) (k : ℕ) (call : Call) (was new : Course) (key : k ≡ key_said call.said)
    (old : was ≡ unwrap_or (before k) no_calls) (takes : new ≡ taken_in k call was)
    (writes : (q : ℕ) → after q ≡ cond (nat_eq k q) (Some new) (before q)) where
  pub after_taken : (q : ℕ) → unwrap_or (after q) no_calls ≡ course_with q call (unwrap_or (before q) no_calls)
  after_taken q = subst (λ (n : ℕ). unwrap_or (after q) no_calls
      ≡ cond (nat_eq n q) (taken_in q call (unwrap_or (before q) no_calls)) (unwrap_or (before q) no_calls)) key
      (rw (writes q) (go (nat_eq k q) refl)) where
        go : (b : Bool) → nat_eq k q ≡ b
            → unwrap_or (cond b (Some new) (before q)) no_calls
            ≡ cond b (taken_in q call (unwrap_or (before q) no_calls)) (unwrap_or (before q) no_calls)
        go true is = rw (← same_key k q is) (takes ∙ ap (taken_in k call) old)
        go false is = refl

-- one call more is taken in
pub taken_more : (calls : List Call) (n : ℕ) (call : Call) (before after : ℕ → Course)
    → n < length calls → call ≡ get_or calls n call
    → ((key : ℕ) → course_from key (before key) (drop n calls) ≡ course_by calls key)
    → ((key : ℕ) → after key ≡ course_with key call (before key))
    → (key : ℕ) → course_from key (after key) (drop (n + 1) calls) ≡ course_by calls key
taken_more calls n call before after below is so_far takes key =
    let from : List Call → Course = course_from key (before key) in
    ap (λ (course : Course). course_from key course (drop (n + 1) calls)) (takes key)
    ∙ (sym (at_drop_more from calls n call below ∙ ap (λ (c : Call). from (c ∷ drop (n + 1) calls)) (sym is))
    ∙ so_far key)

-- no call is left
pub taken_all : (calls : List Call) (n : ℕ) (courses : ℕ → Course) → length calls ≤ n
    → ((key : ℕ) → course_from key (courses key) (drop n calls) ≡ course_by calls key)
    → (key : ℕ) → courses key ≡ course_by calls key
taken_all calls n courses over so_far key =
    sym (at_drop_all (course_from key (courses key)) calls n over) ∙ so_far key
