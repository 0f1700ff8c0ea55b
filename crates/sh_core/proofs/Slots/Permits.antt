-- What allows an entry, counted in sums, and that the history then stays legal.
use Rattle.std.proofs.Common.{◌≡◌, ℕ, ◌+◌, ◌<◌, ◌==◌, ◌||◌, ◌⊎◌, inl, inr, Bool, true, false, cond, List, [], ◌∷◌}
use Rattle.std.proofs.Common.{length, refl, ap, ◌∙◌, arith, Some, None, slice_get}
use Rattle.std.specs.Prelude.{IsSome, count_by}
use Rattle.sh_history.specs.declared.entry.Entry.{Entry}
use Rattle.sh_history.specs.declared.entry.Entry.TheVariants.{Insert, Got, Gone, Crowded, Removed, Released, Seen}
use Rattle.sh_history.specs.History.{value_of, is_removed, is_removal_of, is_got_of, is_release_of, is_got_by}
use Rattle.sh_history.specs.History.{is_release_by, got_count, released_count, got_count_by, released_count_by}
use Rattle.sh_history.specs.History.{Allowed as IsAllowed}
use Rattle.sh_history.proofs.LogLaws.{count_by-cons}
use Rattle.sh_step.specs.Collections.{total, if1}
use Rattle.sh_step.specs.Plans.{Plan}
use Rattle.sh_core.specs.Stories.{values, removed_in, got_in, released_in, removals, gots, releases, got_by}
use Rattle.sh_core.specs.Stories.{released_by, gots_by, releases_by}

-- what allows an entry
abbrev pub Permits : Plan → List Entry → Entry → Type 0
Permits plan F (Insert a k v) = values k F ≡ []
Permits plan F (Got a k v) = (values k F ≡ v ∷ []) × (removals k F ≡ 0)
Permits plan F (Gone a k) = (values k F ≡ []) ⊎ (0 < removals k F)
Permits plan F (Crowded a k) = (0 < length (values k F)) × (removals k F ≡ 0)
    × (plan.keys.guard_max + releases k F < gots k F + plan.passes)
Permits plan F (Removed a k) = (0 < length (values k F)) × (removals k F ≡ 0)
Permits plan F (Released a k) = releases_by a k F < gots_by a k F
Permits plan F (Seen a k v) = (values k F ≡ v ∷ []) × (removals k F ≡ 0)

-- ---- the sums are what the history says

pub value_first : (k : ℕ) (es : List Entry) → value_of es k ≡ slice_get (values k es) 0
unfolding values
value_first k [] = refl
value_first k (Insert a j v ∷ es) = go (j == k) (value_first k es) where
  go : (b : Bool) → value_of es k ≡ slice_get (values k es) 0 → cond b (Some v) (value_of es k)
      ≡ slice_get (cond b (v ∷ values k es) (values k es)) 0
  go true rest = refl
  go false rest = rest
value_first k (Got a j v ∷ es) = value_first k es
value_first k (Gone a j ∷ es) = value_first k es
value_first k (Crowded a j ∷ es) = value_first k es
value_first k (Removed a j ∷ es) = value_first k es
value_first k (Released a j ∷ es) = value_first k es
value_first k (Seen a j v ∷ es) = value_first k es

pub value_none : (k : ℕ) (es : List Entry) → values k es ≡ [] → value_of es k ≡ None
value_none k es h = value_first k es ∙ ap (λ vs. slice_get vs 0) h

pub value_one : (k : ℕ) (es : List Entry) (v : List ℕ) → values k es ≡ v ∷ [] → value_of es k ≡ Some v
value_one k es v h = value_first k es ∙ ap (λ vs. slice_get vs 0) h

pub value_some : (k : ℕ) (es : List Entry) → 0 < length (values k es) → IsSome (value_of es k)
value_some k es h = go (values k es) h (value_first k es) where
  go : (vs : List (List ℕ)) → 0 < length vs → value_of es k ≡ slice_get vs 0 → IsSome (value_of es k)
  go (v ∷ vs) h e = rw e refl
  go [] h e = absurd (omega arith)

removal_is : (k : ℕ) (e : Entry) → removed_in k e ≡ if1 (is_removal_of k e)
removal_is k (Insert a j v) = refl
removal_is k (Got a j v) = refl
removal_is k (Gone a j) = refl
removal_is k (Crowded a j) = refl
removal_is k (Removed a j) = refl
removal_is k (Released a j) = refl
removal_is k (Seen a j v) = refl

pub removed_by : (k : ℕ) (es : List Entry) → (removals k es ≡ 0 → is_removed es k ≡ false)
    × (0 < removals k es → is_removed es k ≡ true)
unfolding total
removed_by k [] = (λ h. refl, λ h. absurd (omega arith))
removed_by k (e ∷ es) = go (is_removal_of k e) (removal_is k e) (removed_by k es) where
  go : (b : Bool) → removed_in k e ≡ if1 b → (removals k es ≡ 0 → is_removed es k ≡ false)
      × (0 < removals k es → is_removed es k ≡ true) → (removed_in k e + removals k es ≡ 0 → (b || is_removed es k)
      ≡ false) × (0 < removed_in k e + removals k es → (b || is_removed es k) ≡ true)
  go true i rest = (λ h. absurd (omega arith), λ h. refl)
  go false i rest = (λ h. rest.0 (omega arith), λ h. rest.1 (omega arith))

count_total : {A : Type 0} (p : A → Bool) (f : A → ℕ) → ((x : A) → f x ≡ if1 (p x)) → (xs : List A) → count_by p xs
    ≡ total f xs
unfolding total
count_total p f same [] = refl
count_total p f same (x ∷ xs) = let c = count_by-cons p x xs in let e = same x in let rest = count_total p f same xs
    in omega arith

got_is : (k : ℕ) (e : Entry) → got_in k e ≡ if1 (is_got_of k e)
got_is k (Insert a j v) = refl
got_is k (Got a j v) = refl
got_is k (Gone a j) = refl
got_is k (Crowded a j) = refl
got_is k (Removed a j) = refl
got_is k (Released a j) = refl
got_is k (Seen a j v) = refl

release_is : (k : ℕ) (e : Entry) → released_in k e ≡ if1 (is_release_of k e)
release_is k (Insert a j v) = refl
release_is k (Got a j v) = refl
release_is k (Gone a j) = refl
release_is k (Crowded a j) = refl
release_is k (Removed a j) = refl
release_is k (Released a j) = refl
release_is k (Seen a j v) = refl

got_by_is : (a k : ℕ) (e : Entry) → got_by a k e ≡ if1 (is_got_by a k e)
got_by_is a k (Insert b j v) = refl
got_by_is a k (Got b j v) = refl
got_by_is a k (Gone b j) = refl
got_by_is a k (Crowded b j) = refl
got_by_is a k (Removed b j) = refl
got_by_is a k (Released b j) = refl
got_by_is a k (Seen b j v) = refl

release_by_is : (a k : ℕ) (e : Entry) → released_by a k e ≡ if1 (is_release_by a k e)
release_by_is a k (Insert b j v) = refl
release_by_is a k (Got b j v) = refl
release_by_is a k (Gone b j) = refl
release_by_is a k (Crowded b j) = refl
release_by_is a k (Removed b j) = refl
release_by_is a k (Released b j) = refl
release_by_is a k (Seen b j v) = refl

pub gots_are : (k : ℕ) (es : List Entry) → got_count es k ≡ gots k es
gots_are k es = count_total (is_got_of k) (got_in k) (got_is k) es

pub releases_are : (k : ℕ) (es : List Entry) → released_count es k ≡ releases k es
releases_are k es = count_total (is_release_of k) (released_in k) (release_is k) es

pub gots_by_are : (a k : ℕ) (es : List Entry) → got_count_by es a k ≡ gots_by a k es
gots_by_are a k es = count_total (is_got_by a k) (got_by a k) (got_by_is a k) es

pub releases_by_are : (a k : ℕ) (es : List Entry) → released_count_by es a k ≡ releases_by a k es
releases_by_are a k es = count_total (is_release_by a k) (released_by a k) (release_by_is a k) es

-- ---- so what is permitted is allowed

pub permits_allowed : (plan : Plan) (F : List Entry) (e : Entry) → Permits plan F e
    → IsAllowed plan.passes plan.keys.guard_max F e
permits_allowed plan F (Insert a k v) h = value_none k F h
permits_allowed plan F (Got a k v) h = (value_one k F v h.0, (removed_by k F).0 h.1)
permits_allowed plan F (Gone a k) (inl h) = inl (value_none k F h)
permits_allowed plan F (Gone a k) (inr h) = inr ((removed_by k F).1 h)
permits_allowed plan F (Crowded a k) h = let g = gots_are k F in let r = releases_are k F in let m = h.2
    in (value_some k F h.0, (removed_by k F).0 h.1, omega arith)
permits_allowed plan F (Removed a k) h = (value_some k F h.0, (removed_by k F).0 h.1)
permits_allowed plan F (Seen a k v) h = (value_one k F v h.0, (removed_by k F).0 h.1)
permits_allowed plan F (Released a k) h = let g = gots_by_are a k F in let r = releases_by_are a k F in omega arith
