-- What is asked of the calls of a key alone.
use Rattle.std.proofs.Common.{◌≡◌, ◌∙◌, ℕ, ◌+◌, ◌-◌, ◌^◌, ◌<◌, Bool, true, false, cond, List, [], ◌∷◌, ◌++◌}
use Rattle.std.proofs.Common.{Option, Some, None, refl, sym, ap, take, length, get_or, map, arith}
use Rattle.std.specs.Prelude.{filter, count_by, nat_eq, nat_lt, nat_le, ◌==◌, ◌&&◌, ◌||◌, not, option_map, unwrap_or, is_some}
use Rattle.std.specs.List.{find, list_all, list_any}
use Rattle.std.specs.List.Sorted.{IsPermutation}
use Rattle.std.proofs.lemmas.Bool.{true≢false}
use Rattle.std.proofs.lemmas.Bool.Decides.{nat_tests}
use Rattle.std.proofs.lemmas.List.{take_more}
use Rattle.std.proofs.lemmas.List.Elements.{filter-append}
use Rattle.std.proofs.lemmas.List.Sorted.{sum_by-IsPermutation}
use Rattle.sh_history.proofs.LogLaws.{count_by-cons}
use Rattle.sh_history.specs.declared.entry.Entry.TheVariants.{Insert, Got, Gone, Crowded, Removed, Released, Seen}
use Rattle.history_timed.specs.declared.call.Call.{Call}
use Rattle.history_timed.specs.declared.call.Said.{Said}
use Rattle.history_timed.specs.declared.call.Said.TheVariants.{Known, Unread}
use Rattle.history_timed.specs.declared.course.Course.{Course}
use Rattle.history_timed.specs.declared.marks.Mark.{Mark}
use Rattle.history_timed.specs.Times.{is_ended, is_below}
use Rattle.history_timed.specs.Calls.{key_said, pass_said, inserts, removes, uses, finds, changes}
use Rattle.history_timed.specs.Calls.{gets, gets_by, releases, releases_by}
use Rattle.history_timed.specs.Clashes.{first_line, most_before, least_before, inserts_value}
use Rattle.history_timed.specs.Courses.{no_calls, taken_in, end_with, use_with, course_with, course_from, course_by}
use Rattle.history_timed.specs.Indexes.{changes_of}
use Rattle.history_timed.specs.Marks.{marks_of, begin_mark, end_mark, moment_below, moment_up_to}

-- ---- the calls that change a key

-- one call more
pub changes_more : (key : ℕ) (calls : List Call) (n : ℕ) (call : Call) (before after : List Call)
    → n < length calls → call ≡ get_or calls n call → before ≡ changes_of key (take n calls)
    → after ≡ before ++ changes_of key (call ∷ []) → after ≡ changes_of key (take (n + 1) calls)
changes_more key calls n call before after below is so_far more =
    more ∙ (ap (λ (xs : List Call). xs ++ changes_of key (call ∷ [])) so_far
    ∙ (sym (filter-append (λ (c : Call). changes key c.said) (take n calls) (call ∷ []))
    ∙ ap (changes_of key) (sym (take_more calls n call below ∙ ap (λ (x : Call). take n calls ++ x ∷ []) (sym is)))))

-- what a test may pass, or fail, stands in a part of the list
module _ {X : Type 0} (p test : X → Bool) where
  pub find_in_part : ((x : X) → p x ≡ false → test x ≡ false) → (xs : List X) → find test (filter p xs) ≡ find test xs
  find_in_part out [] = refl
  find_in_part out (x ∷ xs) = go (p x) (out x) (find_in_part out xs) where
    go : (b : Bool) → (b ≡ false → test x ≡ false) → find test (filter p xs) ≡ find test xs
        → find test (cond b (x ∷ filter p xs) (filter p xs)) ≡ cond (test x) (Some x) (find test xs)
    go true h later = ap (cond (test x) (Some x)) later
    go false h later = rw (h refl) later

  pub all_in_part : ((x : X) → p x ≡ false → test x ≡ true) → (xs : List X)
      → list_all test (filter p xs) ≡ list_all test xs
  all_in_part out [] = refl
  all_in_part out (x ∷ xs) = go (p x) (out x) (all_in_part out xs) where
    go : (b : Bool) → (b ≡ false → test x ≡ true) → list_all test (filter p xs) ≡ list_all test xs
        → list_all test (cond b (x ∷ filter p xs) (filter p xs)) ≡ (test x && list_all test xs)
    go true h later = ap (λ (b : Bool). test x && b) later
    go false h later = rw (h refl) later

unchanged : (key : ℕ) (s : Said) → changes key s ≡ false → (inserts key s ≡ false) × (removes key s ≡ false)
unchanged key s off = go (inserts key s) (removes key s) off where
  go : (a b : Bool) → (a || b) ≡ false → (a ≡ false) × (b ≡ false)
  go true b off = absurd (true≢false off)
  go false b off = (refl, off)

no_value : (key : ℕ) (value : List ℕ) (s : Said) → inserts key s ≡ false → inserts_value key value s ≡ false
no_value key value (Known (Insert p k v)) off = rw off refl
no_value key value (Known (Got p k v)) off = refl
no_value key value (Known (Gone p k)) off = refl
no_value key value (Known (Crowded p k)) off = refl
no_value key value (Known (Removed p k)) off = refl
no_value key value (Known (Released p k)) off = refl
no_value key value (Known (Seen p k v)) off = refl
no_value key value (Unread p k) off = refl

-- what inserts and removals show, those of the key show alone
module _ (key : ℕ) (calls : List Call) (also : Call → Bool) where
  pub first_insert : first_line (λ (o : Call). inserts key o.said && also o) (changes_of key calls)
      ≡ first_line (λ (o : Call). inserts key o.said && also o) calls
  first_insert = ap (option_map (λ (o : Call). o.line)) (find_in_part (λ (c : Call). changes key c.said) _
      (λ o off. rw (unchanged key o.said off).0 refl) calls)

  pub first_removal : first_line (λ (o : Call). removes key o.said && also o) (changes_of key calls)
      ≡ first_line (λ (o : Call). removes key o.said && also o) calls
  first_removal = ap (option_map (λ (o : Call). o.line)) (find_in_part (λ (c : Call). changes key c.said) _
      (λ o off. rw (unchanged key o.said off).1 refl) calls)

  pub all_inserts : list_all (λ (o : Call). not (inserts key o.said) || also o) (changes_of key calls)
      ≡ list_all (λ (o : Call). not (inserts key o.said) || also o) calls
  all_inserts = all_in_part (λ (c : Call). changes key c.said) _
      (λ o off. rw (unchanged key o.said off).0 refl) calls

  pub all_removals : list_all (λ (o : Call). not (removes key o.said) || also o) (changes_of key calls)
      ≡ list_all (λ (o : Call). not (removes key o.said) || also o) calls
  all_removals = all_in_part (λ (c : Call). changes key c.said) _
      (λ o off. rw (unchanged key o.said off).1 refl) calls

pub any_insert_line : (key : ℕ) (calls : List Call)
    → first_line (λ (o : Call). inserts key o.said) (changes_of key calls)
    ≡ first_line (λ (o : Call). inserts key o.said) calls
any_insert_line key calls = ap (option_map (λ (o : Call). o.line)) (find_in_part (λ (c : Call). changes key c.said) _
    (λ o off. (unchanged key o.said off).0) calls)

pub no_insert_with : (key : ℕ) (value : List ℕ) (calls : List Call)
    → list_all (λ (o : Call). not (inserts_value key value o.said)) (changes_of key calls)
    ≡ list_all (λ (o : Call). not (inserts_value key value o.said)) calls
no_insert_with key value calls = all_in_part (λ (c : Call). changes key c.said) _
    (λ o off. rw (no_value key value o.said (unchanged key o.said off).0) refl) calls

-- ---- counts

module _ (mark : Call → Mark) (p : Call → Bool) (q : Mark → Bool) (r : Call → Bool)
    (same : (c : Call) → (p c && q (mark c)) ≡ r c) where
  marks_count : (calls : List Call) → count_by q (map mark (filter p calls)) ≡ count_by r calls
  marks_count [] = refl
  marks_count (c ∷ calls) = go (p c) (same c) (marks_count calls) where
    go : (b : Bool) → (b && q (mark c)) ≡ r c → count_by q (map mark (filter p calls)) ≡ count_by r calls
        → count_by q (map mark (cond b (c ∷ filter p calls) (filter p calls))) ≡ count_by r (c ∷ calls)
    go true is later = rw (count_by-cons q (mark c) (map mark (filter p calls)), count_by-cons r c calls, ← is)
        (ap (λ (n : ℕ). cond (q (mark c)) 1 0 + n) later)
    go false is later = rw (count_by-cons r c calls, ← is) (omega (arith, later))

  sorted_count : (calls : List Call) (marks : List Mark) → IsPermutation (map mark (filter p calls)) marks
      → count_by q marks ≡ count_by r calls
  sorted_count calls marks moved =
      sum_by-IsPermutation (λ (m : Mark). cond (q m) 1 0) (map mark (filter p calls)) marks moved ∙ marks_count calls

got_by : (pass key : ℕ) (s : Said) (b : Bool)
    → (gets (key_said s) s && (((key_said s == key) && (pass_said s == pass)) && b)) ≡ (gets_by pass key s && b)
got_by pass key (Known (Insert p k v)) b = refl
got_by pass key (Known (Got p k v)) b = grind (arith, nat_tests)
got_by pass key (Known (Gone p k)) b = refl
got_by pass key (Known (Crowded p k)) b = refl
got_by pass key (Known (Removed p k)) b = refl
got_by pass key (Known (Released p k)) b = refl
got_by pass key (Known (Seen p k v)) b = refl
got_by pass key (Unread p k) b = grind (arith, nat_tests)

got : (key : ℕ) (s : Said) (b : Bool)
    → (gets (key_said s) s && (((key_said s == key) && (0 == 0)) && b)) ≡ (gets key s && b)
got key (Known (Insert p k v)) b = refl
got key (Known (Got p k v)) b = grind (arith, nat_tests)
got key (Known (Gone p k)) b = refl
got key (Known (Crowded p k)) b = refl
got key (Known (Removed p k)) b = refl
got key (Known (Released p k)) b = refl
got key (Known (Seen p k v)) b = refl
got key (Unread p k) b = grind (arith, nat_tests)

released_by : (pass key : ℕ) (s : Said) (b : Bool)
    → (releases (key_said s) s && (((key_said s == key) && (pass_said s == pass)) && b)) ≡ (releases_by pass key s && b)
released_by pass key (Known (Insert p k v)) b = refl
released_by pass key (Known (Got p k v)) b = refl
released_by pass key (Known (Gone p k)) b = refl
released_by pass key (Known (Crowded p k)) b = refl
released_by pass key (Known (Removed p k)) b = refl
released_by pass key (Known (Released p k)) b = grind (arith, nat_tests)
released_by pass key (Known (Seen p k v)) b = refl
released_by pass key (Unread p k) b = refl

released : (key : ℕ) (s : Said) (b : Bool)
    → (releases (key_said s) s && (((key_said s == key) && (0 == 0)) && b)) ≡ (releases key s && b)
released key (Known (Insert p k v)) b = refl
released key (Known (Got p k v)) b = refl
released key (Known (Gone p k)) b = refl
released key (Known (Crowded p k)) b = refl
released key (Known (Removed p k)) b = refl
released key (Known (Released p k)) b = grind (arith, nat_tests)
released key (Known (Seen p k v)) b = refl
released key (Unread p k) b = refl

-- a call that began by the end of another, and one that ended before a moment
begun : (end : Option ℕ) (begin : ℕ) → is_some end ≡ true
    → nat_le begin (unwrap_or end (2 ^ 64 - 1)) ≡ not (is_below end begin)
begun None begin ends = absurd (true≢false (sym ends))
begun (Some e) begin ends = grind (arith, nat_tests)

ended : (end : Option ℕ) (n : ℕ) → n < 2 ^ 64 → nat_lt (unwrap_or end (2 ^ 64 - 1)) n ≡ is_below end n
ended None n fits = grind (arith, nat_tests)
ended (Some e) n fits = refl

module _ (calls : List Call) (c : Call) (marks : List Mark) (key : ℕ) where
  abbrev last : ℕ
  last = unwrap_or c.times.end (2 ^ 64 - 1)

  pub gets_by_count : (pass : ℕ) → is_ended c.times ≡ true
      → IsPermutation (marks_of gets (begin_mark true) calls) marks
      → count_by (moment_up_to key pass last) marks
      ≡ most_before (gets_by pass key) calls c
  gets_by_count pass ends = sorted_count (begin_mark true) _ (moment_up_to key pass last) _
      (λ o. got_by pass key o.said _
      ∙ ap (λ (b : Bool). gets_by pass key o.said && b) (begun c.times.end o.times.begin ends)) calls marks

  pub gets_count : is_ended c.times ≡ true → IsPermutation (marks_of gets (begin_mark false) calls) marks
      → count_by (moment_up_to key 0 last) marks ≡ most_before (gets key) calls c
  gets_count ends = sorted_count (begin_mark false) _ (moment_up_to key 0 last) _
      (λ o. got key o.said _
      ∙ ap (λ (b : Bool). gets key o.said && b) (begun c.times.end o.times.begin ends)) calls marks

  pub releases_by_count : (pass : ℕ) → c.times.begin < 2 ^ 64
      → IsPermutation (marks_of releases (end_mark true) calls) marks
      → count_by (moment_below key pass c.times.begin) marks ≡ least_before (releases_by pass key) calls c
  releases_by_count pass fits = sorted_count (end_mark true) _ (moment_below key pass c.times.begin) _
      (λ o. released_by pass key o.said _
      ∙ ap (λ (b : Bool). releases_by pass key o.said && b) (ended o.times.end c.times.begin fits)) calls marks

  pub releases_count : c.times.begin < 2 ^ 64
      → IsPermutation (marks_of releases (end_mark false) calls) marks
      → count_by (moment_below key 0 c.times.begin) marks ≡ least_before (releases key) calls c
  releases_count fits = sorted_count (end_mark false) _ (moment_below key 0 c.times.begin) _
      (λ o. released key o.said _
      ∙ ap (λ (b : Bool). releases key o.said && b) (ended o.times.end c.times.begin fits)) calls marks

-- ---- what the course of a key tells

key_found : (key : ℕ) (s : Said) → nat_eq (key_said s) key ≡ false → finds key s ≡ false
key_found key (Known (Insert p k v)) off = rw off refl
key_found key (Known (Got p k v)) off = rw off refl
key_found key (Known (Gone p k)) off = refl
key_found key (Known (Crowded p k)) off = rw off refl
key_found key (Known (Removed p k)) off = rw off refl
key_found key (Known (Released p k)) off = refl
key_found key (Known (Seen p k v)) off = rw off refl
key_found key (Unread p k) off = rw off refl

key_used : (key : ℕ) (s : Said) → nat_eq (key_said s) key ≡ false → uses key s ≡ false
key_used key (Known (Insert p k v)) off = refl
key_used key (Known (Got p k v)) off = rw off refl
key_used key (Known (Gone p k)) off = refl
key_used key (Known (Crowded p k)) off = rw off refl
key_used key (Known (Removed p k)) off = refl
key_used key (Known (Released p k)) off = refl
key_used key (Known (Seen p k v)) off = rw off refl
key_used key (Unread p k) off = rw off refl

or_assoc : (a b d : Bool) → ((a || b) || d) ≡ (a || (b || d))
or_assoc true b d = refl
or_assoc false b d = refl

or_false : (a : Bool) → a ≡ (a || false)
or_false true = refl
or_false false = refl

module _ (key n : ℕ) where
  abbrev pub found_before : Call → Bool
  found_before o = finds key o.said && is_below o.times.end n

  end_step : (is_found : Bool) (end : Option ℕ) (first : ℕ)
      → nat_lt (end_with is_found end first) n ≡ (nat_lt first n || (is_found && is_below end n))
  end_step true None first = or_false (nat_lt first n)
  end_step false None first = or_false (nat_lt first n)
  end_step true (Some e) first = grind (arith, nat_tests)
  end_step false (Some e) first = or_false (nat_lt first n)

  found_step : (c : Call) (course : Course)
      → nat_lt (course_with key c course).first_end n ≡ (nat_lt course.first_end n || found_before c)
  found_step c course = go (nat_eq (key_said c.said) key) (key_found key c.said) where
    go : (b : Bool) → (b ≡ false → finds key c.said ≡ false)
        → nat_lt (cond b (taken_in key c course) course).first_end n ≡ (nat_lt course.first_end n || found_before c)
    go true h = end_step (finds key c.said) c.times.end course.first_end
    go false h = rw (h refl) (or_false (nat_lt course.first_end n))

  found_from : (calls : List Call) (course : Course)
      → nat_lt (course_from key course calls).first_end n ≡ (nat_lt course.first_end n || list_any found_before calls)
  found_from [] course = or_false (nat_lt course.first_end n)
  found_from (c ∷ calls) course =
      found_from calls (course_with key c course)
      ∙ (ap (λ (b : Bool). b || list_any found_before calls) (found_step c course)
      ∙ or_assoc (nat_lt course.first_end n) (found_before c) (list_any found_before calls))

  pub is_found : n < 2 ^ 64 → (calls : List Call)
      → nat_lt (course_by calls key).first_end n ≡ list_any found_before calls
  is_found fits calls = found_from calls no_calls ∙ none (list_any found_before calls) where
    none : (b : Bool) → (nat_lt (2 ^ 64 - 1) n || b) ≡ b
    none b = grind (arith, nat_tests)

  abbrev used_after : Call → Bool
  used_after o = uses key o.said && (nat_lt n o.times.begin && is_ended o.times)

  use_step : (is_ended_call is_use : Bool) (begin last : ℕ)
      → nat_lt n (use_with (is_ended_call && is_use) begin last)
      ≡ (nat_lt n last || (is_use && (nat_lt n begin && is_ended_call)))
  use_step true true begin last = grind (arith, nat_tests)
  use_step true false begin last = or_false (nat_lt n last)
  use_step false true begin last = grind (arith, nat_tests)
  use_step false false begin last = or_false (nat_lt n last)

  used_step : (c : Call) (course : Course)
      → nat_lt n (course_with key c course).last_use ≡ (nat_lt n course.last_use || used_after c)
  used_step c course = go (nat_eq (key_said c.said) key) (key_used key c.said) where
    go : (b : Bool) → (b ≡ false → uses key c.said ≡ false)
        → nat_lt n (cond b (taken_in key c course) course).last_use ≡ (nat_lt n course.last_use || used_after c)
    go true h = use_step (is_ended c.times) (uses key c.said) c.times.begin course.last_use
    go false h = rw (h refl) (or_false (nat_lt n course.last_use))

  used_from : (calls : List Call) (course : Course)
      → nat_lt n (course_from key course calls).last_use ≡ (nat_lt n course.last_use || list_any used_after calls)
  used_from [] course = or_false (nat_lt n course.last_use)
  used_from (c ∷ calls) course =
      used_from calls (course_with key c course)
      ∙ (ap (λ (b : Bool). b || list_any used_after calls) (used_step c course)
      ∙ or_assoc (nat_lt n course.last_use) (used_after c) (list_any used_after calls))

  pub is_used : (calls : List Call) → nat_lt n (course_by calls key).last_use ≡ list_any used_after calls
  is_used calls = used_from calls no_calls ∙ none (list_any used_after calls) where
    none : (b : Bool) → (nat_lt n 0 || b) ≡ b
    none b = grind (arith, nat_tests)

-- what no call passes has no first line
pub none_first : (test : Call → Bool) (calls : List Call) → list_any test calls ≡ false → first_line test calls ≡ None
none_first test [] none = refl
none_first test (c ∷ calls) none = go (test c) none (none_first test calls) where
  go : (b : Bool) → (b || list_any test calls) ≡ false → (list_any test calls ≡ false → first_line test calls ≡ None)
      → option_map (λ (o : Call). o.line) (cond b (Some c) (find test calls)) ≡ None
  go true none later = absurd (true≢false none)
  go false none later = later none

-- the same at the end of a call
module _ (key : ℕ) (c : Call) (calls : List Call) where
  abbrev AnyLater : Option ℕ → Bool
  AnyLater end =
      list_any (λ (o : Call). uses key o.said && (is_below end o.times.begin && is_ended o.times)) calls

  pub used_later : (last : ℕ) → c.times.end ≡ Some last → nat_lt last (course_by calls key).last_use ≡ AnyLater c.times.end
  used_later last is = is_used key last calls ∙ ap AnyLater (sym is)

none_later : (key : ℕ) (calls : List Call)
    → list_any (λ (o : Call). uses key o.said && (false && is_ended o.times)) calls ≡ false
none_later key [] = refl
none_later key (c ∷ calls) = go (uses key c.said) (none_later key calls) where
  go : (b : Bool) → list_any (λ (o : Call). uses key o.said && (false && is_ended o.times)) calls ≡ false
      → ((b && false) || list_any (λ (o : Call). uses key o.said && (false && is_ended o.times)) calls) ≡ false
  go true later = later
  go false later = later

pub never_later : (key : ℕ) (c : Call) (calls : List Call) → c.times.end ≡ None → false ≡ AnyLater key c calls c.times.end
never_later key c calls is = sym (none_later key calls) ∙ ap (AnyLater key c calls) (sym is)
