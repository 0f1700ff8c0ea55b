-- Lists that are threaded through an array, and what a write of one link does to them.
use Rattle.std.proofs.Common.{◌≡◌, ◌≢◌, ℕ, zero, suc, ◌+◌, ◌-◌, ◌<◌, ◌≤◌, List, [], ◌∷◌, ◌++◌, Option, None, length}
use Rattle.std.proofs.Common.{get_or, set, sym, refl, ap, ◌∙◌, subst, arith, append_assoc, append-nil, length-append}
use Rattle.std.proofs.Common.{add-one}
use Rattle.std.proofs.lemmas.List.{get_or-set_same, get_or-set_other}
use Rattle.sh_lists.specs.Numbers.{Misses, Distinct, AllBelow, upward}
use Rattle.sh_lists.specs.Lists.{Lists, walk, LastFrom, EndsIn, Threaded}
use Rattle.sh_lists.proofs.Distincts.{Misses-left, Misses-right, Distinct-left, Distinct-insert, AllBelow-insert}
use Rattle.sh_lists.proofs.Distincts.{length-le_from_Distinct, Distinct-upward, AllBelow-upward}

pub length-walk : (next : List ℕ) (i n : ℕ) → length (walk next i n) ≡ n
length-walk next i zero = refl
length-walk next i (suc n) = ap suc (length-walk next (get_or next i 0) n)

-- a link that is written elsewhere changes no list
pub walk-set_other : (next : List ℕ) (i n k v : ℕ) → Misses k (walk next i n) → walk (set next k v) i n ≡ walk next i n
walk-set_other next i zero k v misses = refl
walk-set_other next i (suc n) k v misses =
    let here : get_or (set next k v) i 0 ≡ get_or next i 0 = get_or-set_other next k i v 0 (λ same. misses.0 (sym same))
    in
    ap (λ j. i ∷ walk (set next k v) j n) here ∙ ap (λ xs. i ∷ xs)
    (walk-set_other next (get_or next i 0) n k v misses.1)

-- one more number in front
walk-front
    : (next : List ℕ) (i n k : ℕ)
    → k < length next → Misses k (walk next i n) → walk (set next k i) k (suc n) ≡ k ∷ walk next i n
walk-front next i n k inside misses =
    ap (λ j. k ∷ walk (set next k i) j n) (get_or-set_same next k i 0 inside)
    ∙ ap (λ xs. k ∷ xs) (walk-set_other next i n k i misses)

differs_from_last : (y : ℕ) (ys : List ℕ) (e x : ℕ) → LastFrom y ys e → Misses x (y ∷ ys) → x ≢ e
differs_from_last y [] e x last misses same = misses.0 (same ∙ sym last)
differs_from_last y (z ∷ ys) e x last misses same = differs_from_last z ys e x last misses.1 same

-- one more number behind
walk-behind
    : (next : List ℕ) (i n e x : ℕ)
    → e < length next → EndsIn (walk next i (suc n)) e → Distinct (walk next i (suc n))
    → walk (set next e x) i (suc (suc n)) ≡ walk next i (suc n) ++ x ∷ []
walk-behind next i zero e x inside last distinct =
    ap (λ j. i ∷ j ∷ []) (ap (λ j. get_or (set next e x) j 0) last ∙ get_or-set_same next e x 0 inside)
walk-behind next i (suc n) e x inside last distinct =
    let j = get_or next i 0 in
    let other : i ≢ e = differs_from_last j (walk next (get_or next j 0) n) e i last distinct.0 in
    ap (λ k. i ∷ walk (set next e x) k (suc (suc n))) (get_or-set_other next e i x 0 other)
    ∙ ap (λ xs. i ∷ xs) (walk-behind next j n e x inside last distinct.1)

-- ---- the end of a list

last_is_small : (n y : ℕ) (a b : List ℕ) (e : ℕ) → LastFrom y a e → AllBelow n (y ∷ (a ++ b)) → e < n
last_is_small n y [] b e last small = subst (λ k. k < n) last small.0
last_is_small n y (z ∷ a) b e last small = last_is_small n z a b e last small.1

-- the last of a list is not in the one behind it
Misses-last : (y : ℕ) (a b : List ℕ) (e : ℕ) → LastFrom y a e → Distinct (y ∷ (a ++ b)) → Misses e b
Misses-last y [] b e last distinct = subst (λ k. Misses k b) last distinct.0
Misses-last y (z ∷ a) b e last distinct = Misses-last z a b e last distinct.1

LastFrom-push : (y : ℕ) (xs : List ℕ) (x : ℕ) → LastFrom y (xs ++ x ∷ []) x
LastFrom-push y [] x = refl
LastFrom-push y (z ∷ xs) x = LastFrom-push z xs x

EndsIn-push : (xs : List ℕ) (x : ℕ) → EndsIn (xs ++ x ∷ []) x
EndsIn-push [] x = refl
EndsIn-push (y ∷ xs) x = LastFrom-push y xs x

EndsIn-rest : (y : ℕ) (ys : List ℕ) (e : ℕ) → EndsIn (y ∷ ys) e → EndsIn ys e
EndsIn-rest y [] e last = tt
EndsIn-rest y (z ∷ ys) e last = last

EndsIn-front : (x : ℕ) (ys : List ℕ) (e : ℕ) → 0 < length ys → EndsIn ys e → EndsIn (x ∷ ys) e
EndsIn-front x [] e some last = absurd (omega arith)
EndsIn-front x (y ∷ ys) e some last = last

-- ---- what the calls leave

-- the lists that the links hold
abbrev pub shown : (next : List ℕ) (free_front free_count local_front local_count : ℕ) (cursor : Option ℕ) → Lists
shown next free_front free_count local_front local_count cursor =
    record { free = walk next free_front free_count; local = walk next local_front local_count; cursor = cursor }

-- the new links hold these lists, and keep what is true of them
pub record Leaves (next : List ℕ) (free_front free_count free_end local_front local_count local_end : ℕ)
    (cursor : Option ℕ) (lists : Lists) : Type 0 where
  pub threaded : Threaded (walk next free_front free_count) free_end (walk next local_front local_count) local_end
  pub shows : shown next free_front free_count local_front local_count cursor ≡ lists

leaves
    : (next : List ℕ) (ff fc fe lf lc le : ℕ) (cursor : Option ℕ) (free local : List ℕ)
    → walk next ff fc ≡ free → walk next lf lc ≡ local → Threaded free fe local le
    → Leaves next ff fc fe lf lc le cursor (record { free = free; local = local; cursor = cursor })
leaves next ff fc fe lf lc le cursor free local free_is local_is h =
    let P : List ℕ × List ℕ → Type 0 = λ z. Threaded z.0 fe z.1 le in
    record {
      threaded = subst P (λ i. (sym free_is i, sym local_is i)) h;
      shows = λ i. record { free = free_is i; local = local_is i; cursor = cursor };
    }

-- there are at most 48 slots
pub room
    : (next : List ℕ) (ff fc fe lf lc le : ℕ) → Threaded (walk next ff fc) fe (walk next lf lc) le → fc + lc ≤ 48
room next ff fc fe lf lc le h =
    let free = walk next ff fc in
    let local = walk next lf lc in
    omega (
      arith,
      length-le_from_Distinct 48 (free ++ local) h.distinct h.small,
      length-append free local,
      length-walk next ff fc,
      length-walk next lf lc,
    )

-- the front of `free` is taken
pub record Popped (next : List ℕ) (free_front free_count free_end : ℕ) (local : List ℕ) (local_end : ℕ) : Type 0 where
  pub threaded : Threaded (walk next (get_or next free_front 0) (free_count - 1)) free_end local local_end
  pub front : walk next free_front free_count ≡ free_front ∷ walk next (get_or next free_front 0) (free_count - 1)
  pub apart : Misses free_front (walk next (get_or next free_front 0) (free_count - 1) ++ local)
  pub small : free_front < 48

popped_suc
    : (next : List ℕ) (ff n fe : ℕ) (local : List ℕ) (le m : ℕ)
    → m ≡ n → Threaded (walk next ff (suc n)) fe local le
    → Threaded (walk next (get_or next ff 0) m) fe local le
    × (walk next ff (suc n) ≡ ff ∷ walk next (get_or next ff 0) m)
    × Misses ff (walk next (get_or next ff 0) m ++ local) × (ff < 48)
popped_suc next ff n fe local le m is h =
    let P : ℕ → Type 0 = λ m. Threaded (walk next (get_or next ff 0) m) fe local le
    × (walk next ff (suc n) ≡ ff ∷ walk next (get_or next ff 0) m)
    × Misses ff (walk next (get_or next ff 0) m ++ local) × (ff < 48) in
    let rest = walk next (get_or next ff 0) n in
    let at : P n = (
      record {
        distinct = h.distinct.1;
        small = h.small.1;
        free_ends = EndsIn-rest ff rest fe h.free_ends;
        local_ends =
            h.local_ends;
      },
      refl,
      h.distinct.0,
      h.small.0,
    ) in
    subst P (sym is) at

pub popped
    : (next : List ℕ) (ff fc fe : ℕ) (local : List ℕ) (le : ℕ)
    → 0 < fc → Threaded (walk next ff fc) fe local le → Popped next ff fc fe local le
popped next ff zero fe local le some h = absurd (omega arith)
popped next ff (suc n) fe local le some h =
    let parts = popped_suc next ff n fe local le (suc n - 1) (omega arith) h in
    record { threaded = parts.0; front = parts.1; apart = parts.2; small = parts.3 }

-- one more slot is in front of `local`
put_local
    : (next : List ℕ) (ff fc fe lf lc le x : ℕ) (cursor : Option ℕ)
    → length next ≡ 48 → 0 < lc → Threaded (walk next ff fc) fe (walk next lf lc) le
    → x < 48 → Misses x (walk next ff fc ++ walk next lf lc)
    → Leaves (set next x lf) ff fc fe x (lc + 1) le cursor
    (record { free = walk next ff fc; local = x ∷ walk next lf lc; cursor = cursor })
put_local next ff fc fe lf lc le x cursor size some h small apart =
    let free = walk next ff fc in
    let local = walk next lf lc in
    let more : 0 < length local = subst (λ n. 0 < n) (sym (length-walk next lf lc)) some in
    let inside : x < length next = subst (λ n. x < n) (sym size) small in
    leaves (set next x lf) ff fc fe x (lc + 1) le cursor free (x ∷ local)
    (walk-set_other next ff fc x lf (Misses-left x free local apart))
    (ap (walk (set next x lf) x) (add-one lc) ∙ walk-front next lf lc x inside (Misses-right x free local apart))
    (record {
      distinct = Distinct-insert x free local h.distinct apart;
      small = AllBelow-insert 48 x free local h.small small;
      free_ends = h.free_ends;
      local_ends = EndsIn-front x local le more h.local_ends;
    })

-- one more slot is behind `free`
behind
    : (free local : List ℕ) (fe le x : ℕ)
    → Threaded free fe local le → x < 48 → Misses x (free ++ local) → Threaded (free ++ x ∷ []) x local le
behind free local fe le x h small apart =
    let is : free ++ x ∷ [] ++ local ≡ free ++ (x ∷ local) = append_assoc free (x ∷ []) local in
    record {
      distinct = subst Distinct (sym is) (Distinct-insert x free local h.distinct apart);
      small = subst (AllBelow 48) (sym is) (AllBelow-insert 48 x free local h.small small);
      free_ends = EndsIn-push free x;
      local_ends = h.local_ends;
    }

pub end_is_small
    : (next : List ℕ) (ff fc fe : ℕ) (local : List ℕ) (le : ℕ)
    → 0 < fc → Threaded (walk next ff fc) fe local le → fe < 48
end_is_small next ff zero fe local le some h = absurd (omega arith)
end_is_small next ff (suc n) fe local le some h =
    last_is_small 48 ff (walk next (get_or next ff 0) n) local fe h.free_ends h.small

put_behind
    : (next : List ℕ) (ff fc fe lf lc le x : ℕ) (cursor : Option ℕ)
    → length next ≡ 48 → 0 < fc → Threaded (walk next ff fc) fe (walk next lf lc) le
    → x < 48 → Misses x (walk next ff fc ++ walk next lf lc)
    → Leaves (set next fe x) ff (fc + 1) x lf lc le cursor
    (record { free = walk next ff fc ++ x ∷ []; local = walk next lf lc; cursor = cursor })
put_behind next ff zero fe lf lc le x cursor size some h small apart = absurd (omega arith)
put_behind next ff (suc n) fe lf lc le x cursor size some h small apart =
    let free = walk next ff (suc n) in
    let local = walk next lf lc in
    let inside : fe < length next = subst (λ k. fe < k) (sym size) (end_is_small next ff (suc n) fe local le some h) in
    leaves (set next fe x) ff (suc n + 1) x lf lc le cursor (free ++ x ∷ []) local
    (ap (walk (set next fe x) ff) (add-one (suc n)) ∙ walk-behind next ff n fe x inside h.free_ends
    (Distinct-left free local h.distinct))
    (walk-set_other next lf lc fe x (Misses-last ff (walk next (get_or next ff 0) n) local fe h.free_ends h.distinct))
    (behind free local fe le x h small apart)

-- ---- the same for the lists that a contract sees

-- `local` gets its first slot
pub pushes_first
    : (next : List ℕ) (ff fc fe lf lc le x : ℕ) (cursor : Option ℕ) (lists : Lists)
    → shown next ff fc lf lc cursor ≡ lists → lc ≡ 0 → Threaded (walk next ff fc) fe (walk next lf lc) le
    → x < 48 → Misses x (lists.free ++ lists.local)
    → Leaves next ff fc fe x 1 x cursor (record lists { local = x ∷ lists.local })
pushes_first next ff fc fe lf lc le x cursor lists is none h small apart =
    let free = walk next ff fc in
    let P : Lists → Type 0 = λ v. Misses x (v.free ++ v.local) → Leaves next ff fc fe x 1 x cursor
    (record v { local = x ∷ v.local }) in
    let Q : ℕ → Type 0 = λ n. Threaded free fe (walk next lf n) le → P (shown next ff fc lf n cursor) in
    let at : Q 0 = λ h apart. leaves next ff fc fe x 1 x cursor free (x ∷ []) refl refl (record {
      distinct = Distinct-insert x free [] h.distinct apart;
      small = AllBelow-insert 48 x free [] h.small small;
      free_ends = h.free_ends;
      local_ends = refl;
    }) in
    subst P is (subst Q (sym none) at h) apart

-- `local` gets one more slot in front
pub pushes
    : (next : List ℕ) (ff fc fe lf lc le x : ℕ) (cursor : Option ℕ) (lists : Lists)
    → shown next ff fc lf lc cursor ≡ lists → length next ≡ 48 → 0 < lc
    → Threaded (walk next ff fc) fe (walk next lf lc) le → x < 48 → Misses x (lists.free ++ lists.local)
    → Leaves (set next x lf) ff fc fe x (lc + 1) le cursor (record lists { local = x ∷ lists.local })
pushes next ff fc fe lf lc le x cursor lists is size some h small apart =
    let P : Lists → Type 0 = λ v. Misses x (v.free ++ v.local)
    → Leaves (set next x lf) ff fc fe x (lc + 1) le cursor (record v { local = x ∷ v.local }) in
    subst P is (put_local next ff fc fe lf lc le x cursor size some h small) apart

-- `free` gets its first slot
pub adds_first
    : (next : List ℕ) (ff fc fe lf lc le x : ℕ) (cursor : Option ℕ) (lists : Lists)
    → shown next ff fc lf lc cursor ≡ lists → fc ≡ 0 → Threaded (walk next ff fc) fe (walk next lf lc) le
    → x < 48 → Misses x (lists.free ++ lists.local)
    → Leaves next x 1 x lf lc le cursor (record lists { free = lists.free ++ x ∷ [] })
adds_first next ff fc fe lf lc le x cursor lists is none h small apart =
    let local = walk next lf lc in
    let P : Lists → Type 0 = λ v. Misses x (v.free ++ v.local) → Leaves next x 1 x lf lc le cursor
    (record v { free = v.free ++ x ∷ [] }) in
    let Q : ℕ → Type 0 = λ n. Threaded (walk next ff n) fe local le → P (shown next ff n lf lc cursor) in
    let at : Q 0 = λ h apart. leaves next x 1 x lf lc le cursor (x ∷ []) local refl refl
    (behind [] local fe le x h small apart) in
    subst P is (subst Q (sym none) at h) apart

-- `free` gets one more slot behind
pub adds
    : (next : List ℕ) (ff fc fe lf lc le x : ℕ) (cursor : Option ℕ) (lists : Lists)
    → shown next ff fc lf lc cursor ≡ lists → length next ≡ 48 → 0 < fc
    → Threaded (walk next ff fc) fe (walk next lf lc) le → x < 48 → Misses x (lists.free ++ lists.local)
    → Leaves (set next fe x) ff (fc + 1) x lf lc le cursor (record lists { free = lists.free ++ x ∷ [] })
adds next ff fc fe lf lc le x cursor lists is size some h small apart =
    let P : Lists → Type 0 = λ v. Misses x (v.free ++ v.local)
    → Leaves (set next fe x) ff (fc + 1) x lf lc le cursor (record v { free = v.free ++ x ∷ [] }) in
    subst P is (put_behind next ff fc fe lf lc le x cursor size some h small) apart

-- `len` counts the slots of both
pub counts
    : (next : List ℕ) (ff fc lf lc : ℕ) (cursor : Option ℕ) (lists : Lists)
    → shown next ff fc lf lc cursor ≡ lists → fc + lc ≡ length lists.free + length lists.local
counts next ff fc lf lc cursor lists is =
    let P : Lists → Type 0 = λ v. fc + lc ≡ length v.free + length v.local in
    let at : P (shown next ff fc lf lc cursor) = omega (arith, length-walk next ff fc, length-walk next lf lc) in
    subst P is at

-- ---- the lists of a page whose slots are all free

pub walk-upward
    : (next : List ℕ) (i n : ℕ)
    → ((k : ℕ) → k + 1 < i + n → get_or next k 0 ≡ k + 1) → walk next i n ≡ upward i n
walk-upward next i zero links = refl
walk-upward next i (suc zero) links = refl
walk-upward next i (suc (suc n)) links =
    let here : get_or next i 0 ≡ suc i = links i (omega arith) ∙ add-one i in
    ap (λ j. i ∷ walk next j (suc n)) here ∙ ap (λ xs. i ∷ xs)
    (walk-upward next (suc i) (suc n) (λ k below. links k (omega arith)))

LastFrom-upward : (i n : ℕ) → LastFrom i (upward (suc i) n) (i + n)
LastFrom-upward i zero = omega arith
LastFrom-upward i (suc n) =
    let is : suc i + n ≡ i + suc n = omega arith in
    subst (LastFrom (suc i) (upward (suc (suc i)) n)) is (LastFrom-upward (suc i) n)

EndsIn-upward : (n : ℕ) → EndsIn (upward 0 n) (n - 1)
EndsIn-upward zero = tt
EndsIn-upward (suc n) =
    let is : 0 + n ≡ suc n - 1 = omega arith in
    subst (LastFrom 0 (upward 1 n)) is (LastFrom-upward 0 n)

threaded_upward : (n : ℕ) → n ≤ 48 → Threaded (upward 0 n) (n - 1) [] 0
threaded_upward n few =
    let none : upward 0 n ++ [] ≡ upward 0 n = append-nil (upward 0 n) in
    record {
      distinct = subst Distinct (sym none) (Distinct-upward 0 n);
      small = subst (AllBelow 48) (sym none) (AllBelow-upward 48 0 n (omega arith));
      free_ends = EndsIn-upward n;
      local_ends = tt;
    }

-- the first n slots are free
pub fills
    : (next : List ℕ) (n e : ℕ)
    → n ≤ 48 → e ≡ n - 1 → ((k : ℕ) → k + 1 < 48 → get_or next k 0 ≡ k + 1)
    → Leaves next 0 n e 0 0 0 None (record { free = upward 0 n; local = []; cursor = None })
fills next n e few last links =
    leaves next 0 n e 0 0 0 None (upward 0 n) []
    (walk-upward next 0 n (λ k below. links k (omega arith)))
    refl
    (subst (λ k. Threaded (upward 0 n) k [] 0) (sym last) (threaded_upward n few))
