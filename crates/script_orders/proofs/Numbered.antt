-- How many orders are counted of each outcome, and that no outcome is there twice.
use Rattle.std.proofs.Common.{◌≡◌, ◌⊎◌, ℕ, ◌+◌, ◌&&◌, Bool, true, false, cond, List, [], ◌∷◌, ◌++◌}
use Rattle.std.proofs.Common.{length, map, refl, sym, ap, ◌∙◌, subst, arith, Some, slice_get, inl, inr}
use Rattle.std.specs.Prelude.{slice_set, vec_items}
use Rattle.std.specs.Cmp.Lexicographic.{pointwise}
use Rattle.std.specs.Str.{bytes_eq}
use Rattle.std.proofs.lemmas.Bool.{cases_eq}
use Rattle.std.proofs.lemmas.Slice.Eq.{bytes_eq-Decides, slice_eq-Decides}
use Rattle.sh_step.proofs.Truths.{and2}
use Rattle.script_orders.specs.declared.found.Found.{Found}
use Rattle.script_orders.specs.Reached.{Has}
use Rattle.script_orders.specs.Steps.{AllOnce}
use Rattle.script_orders.specs.Walks.{FoundWith, AddsFound, number_in}
use Rattle.script_orders.specs.Walks.AddsFound.{joined, pushed}
use Rattle.script_orders.specs.Weights.{capped}
use Rattle.script_orders.proofs.ListSteps.{get_set_same, get_set_other, get_pushed}
use Rattle.script_orders.proofs.Weighing.{sum_set, sum_one, sum_more}

-- it has these replies and pages
abbrev pub is_it : (rs : List (List ℕ)) (ps : List ℕ) → Found → Bool
is_it rs ps f = pointwise bytes_eq rs (map vec_items f.replies.items) && bytes_eq ps f.pages.items

abbrev pub count_if : (rs : List (List ℕ)) (ps : List ℕ) → Found → ℕ
count_if rs ps f = cond (is_it rs ps f) f.orders.count 0

is_it_same : (rs : List (List ℕ)) (ps : List ℕ) (f g : Found)
    → map vec_items f.replies.items ≡ map vec_items g.replies.items → f.pages.items ≡ g.pages.items
    → is_it rs ps f ≡ is_it rs ps g
is_it_same rs ps f g one two = λ i. pointwise bytes_eq rs (one i) && bytes_eq ps (two i)

pub it_is : (rs : List (List ℕ)) (ps : List ℕ) (f : Found) → is_it rs ps f ≡ true
    → (rs ≡ map vec_items f.replies.items) × (ps ≡ f.pages.items)
it_is rs ps f h =
    let both = and2 (pointwise bytes_eq rs (map vec_items f.replies.items)) (bytes_eq ps f.pages.items) h in (
      (slice_eq-Decides bytes_eq-Decides rs (map vec_items f.replies.items) _ refl).0 both.0,
      (bytes_eq-Decides ps f.pages.items).0 both.1,
    )

itself : (f : Found) → is_it (map vec_items f.replies.items) f.pages.items f ≡ true
itself f =
    let one : pointwise bytes_eq (map vec_items f.replies.items) (map vec_items f.replies.items) ≡ true =
    (slice_eq-Decides bytes_eq-Decides (map vec_items f.replies.items) (map vec_items f.replies.items) _ refl).1 refl in
    let two : bytes_eq f.pages.items f.pages.items ≡ true = (bytes_eq-Decides f.pages.items f.pages.items).1 refl in
    λ i. one i && two i

-- ---- an outcome is added

grown : (b : Bool) (others c more : ℕ)
    → capped (others + cond b (capped (c + more)) 0) ≡ capped ((others + cond b c 0) + cond b more 0)
grown true others c more = omega arith
grown false others c more = omega arith

pub number_added : (old new : List Found) (f : Found) → AddsFound old f new → (rs : List (List ℕ)) (ps : List ℕ)
    → capped (number_in rs ps new) ≡ capped (number_in rs ps old + count_if rs ps f)
number_added old new f (joined place there both at same with' is) rs ps =
    let b : Bool = is_it rs ps there in
    let parts = sum_set (count_if rs ps) old place there both at in
    let one = parts.1 in
    let two = parts.2 in
    let test : is_it rs ps both ≡ b =
    is_it_same rs ps both there (ap (λ v. map vec_items v.items) with'.replies) (ap vec_items with'.pages) in
    let mine : is_it rs ps f ≡ b = sym (is_it_same rs ps there f same.replies same.pages) in
    let now : count_if rs ps both ≡ cond b (capped (there.orders.count + f.orders.count)) 0 =
    λ i. cond (test i) (with'.orders i) 0 in
    let more : count_if rs ps f ≡ cond b f.orders.count 0 = λ i. cond (mine i) f.orders.count 0 in
    ap capped (ap (number_in rs ps) is ∙ two ∙ ap (λ (n : ℕ). parts.0 + n) now)
    ∙ grown b parts.0 there.orders.count f.orders.count
    ∙ ap capped (let e : (parts.0 + cond b there.orders.count 0) + cond b f.orders.count 0
    ≡ number_in rs ps old + count_if rs ps f = omega (arith, one, more) in e)
number_added old new f (pushed none is) rs ps =
    ap capped (ap (number_in rs ps) is ∙ sum_more (count_if rs ps) old f)

-- ---- none is there twice

-- an outcome that was there before, with the same replies and pages
record Was (old : List Found) (k : ℕ) (x : Found) : Type 0 where
  was : Found
  at : slice_get old k ≡ Some was
  replies : map vec_items x.replies.items ≡ map vec_items was.replies.items
  pages : x.pages.items ≡ was.pages.items

was_there : (old : List Found) (place : ℕ) (there both f : Found) → slice_get old place ≡ Some there
    → FoundWith there f both → (k : ℕ) (x : Found) → slice_get (slice_set old place both) k ≡ Some x → Was old k x
was_there old place there both f at with' k x got = elim (cases_eq k place) [
  | inl e ↦
      let mine : slice_get (slice_set old place both) place ≡ Some x =
      ap (slice_get (slice_set old place both)) (sym e) ∙ got in
      let one : x ≡ both =
      let z : Some x ≡ Some both = sym mine ∙ get_set_same old place there both at in cc in record {
        was = there;
        at = ap (slice_get old) e ∙ at;
        replies = ap (λ (z : Found). map vec_items z.replies.items) one ∙ ap (λ v. map vec_items v.items) with'.replies;
        pages = ap (λ (z : Found). z.pages.items) one ∙ ap vec_items with'.pages;
      }
  | inr ne ↦
      record { was = x; at = sym (get_set_other old place k both ne) ∙ got; replies = refl; pages = refl }
]

once_joined : (old : List Found) (place : ℕ) (there both f : Found) → slice_get old place ≡ Some there
    → FoundWith there f both → AllOnce old → AllOnce (slice_set old place both)
once_joined old place there both f at with' once i j g h here also rs ps =
    let a = was_there old place there both f at with' i g here in
    let b = was_there old place there both f at with' j h also in
    let x : Found = a.was in
    let y : Found = b.was in
    let one : map vec_items x.replies.items ≡ map vec_items y.replies.items = sym a.replies ∙ rs ∙ b.replies in
    let two : x.pages.items ≡ y.pages.items = sym a.pages ∙ ps ∙ b.pages in
    once i j x y a.at b.at one two

once_pushed : (old : List Found) (f : Found) → (Has old (map vec_items f.replies.items) f.pages.items → ⊥)
    → AllOnce old → AllOnce (old ++ f ∷ [])
once_pushed old f none once i j g h here also rs ps = both (get_pushed old i g f here) (get_pushed old j h f also) where
  rs_of : (x y : Found) → x ≡ y → map vec_items x.replies.items ≡ map vec_items y.replies.items
  rs_of x y e = ap (λ (z : Found). map vec_items z.replies.items) e

  ps_of : (x y : Found) → x ≡ y → x.pages.items ≡ y.pages.items
  ps_of x y e = ap (λ (z : Found). z.pages.items) e

  both : (slice_get old i ≡ Some g) ⊎ ((i ≡ length old) × (f ≡ g))
      → (slice_get old j ≡ Some h) ⊎ ((j ≡ length old) × (f ≡ h)) → i ≡ j
  both (inl a) (inl b) = once i j g h a b rs ps
  both (inl a) (inr (e, is)) = absurd (none (i, g, a, rs ∙ sym (rs_of f h is), ps ∙ sym (ps_of f h is)))
  both (inr (e, is)) (inl b) = absurd (none (j, h, b, sym rs ∙ sym (rs_of f g is), sym ps ∙ sym (ps_of f g is)))
  both (inr (d, is)) (inr (e, are)) = d ∙ sym e

pub once_added : (old new : List Found) (f : Found) → AddsFound old f new → AllOnce old → AllOnce new
once_added old new f (joined place there both at same with' is) once =
    subst AllOnce (sym is) (once_joined old place there both f at with' once)
once_added old new f (pushed none is) once = subst AllOnce (sym is) (once_pushed old f none once)

-- the orders that are counted of an outcome are those of it
pub number_of_it : (found : List Found) (i : ℕ) (f : Found) → AllOnce found → slice_get found i ≡ Some f
    → number_in (map vec_items f.replies.items) f.pages.items found ≡ f.orders.count
number_of_it found i f once at =
    let rs = map vec_items f.replies.items in
    let ps = f.pages.items in
    sum_one (count_if rs ps) found i f at (λ j g there ne. none_else j g there ne (is_it rs ps g) refl)
    ∙ ap (λ (b : Bool). cond b f.orders.count 0) (itself f) where
      none_else : (j : ℕ) (g : Found) → slice_get found j ≡ Some g → (j ≡ i → ⊥) → (b : Bool)
          → is_it (map vec_items f.replies.items) f.pages.items g ≡ b → cond b g.orders.count 0 ≡ 0
      none_else j g there ne true h =
          let same = it_is (map vec_items f.replies.items) f.pages.items g h in
          absurd (ne (once j i g f there at (sym same.0) (sym same.1)))
      none_else j g there ne false h = refl
