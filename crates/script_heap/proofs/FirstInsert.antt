-- The first insert into a fresh heap is not Full: the adopt before it has too few steps to give each page a class.
use Rattle.std.proofs.Common.{◌≡◌, ◌≢◌, ℕ, ◌+◌, ◌*◌, ◌<◌, ◌≤◌, Bool, true, false, List, [], ◌∷◌, ◌++◌, length, refl, ap}
use Rattle.std.proofs.Common.{sym, ◌∙◌, subst, arith, eq-eqb, inl, inr, slice_get, Option, Some, None, Result, Ok, Err}
use Rattle.std.specs.Prelude.{nat_lt, if◌then◌else◌}
use mathlib.Core.Logic.{dite}
use native.Mathlib.Decide.{ℕ_discrete}
use Rattle.sh_value.specs.declared.refusal.Refusal.{Refusal}
use Rattle.sh_value.specs.declared.refusal.Refusal.TheVariants as refusal
use Rattle.sh_key.specs.Layout.{Layout, IsLayout}
use Rattle.sh_shape.specs.Shape.{Numbers, IsShape, Fits}
use Rattle.sh_step.specs.declared.body.Body.{Body}
use Rattle.sh_step.specs.Collections.{noted}
use Rattle.sh_step.specs.declared.action.Event.{Event}
use Rattle.sh_shape.specs.Places.{pages_of, page_number as number_of}
use Rattle.sh_step.specs.Plans.{Plan, plan_of, shard_of, page_number}
use Rattle.sh_core.specs.Refines.{OwnPartIsValid}
use Rattle.sh_step.specs.Rows.{own, owned_by}
use Rattle.sh_core.specs.Trails.{trail_of}
use Rattle.sh_core.specs.Worlds.{World, run}
use Rattle.sh_core.proofs.Clauses.RunTheorem.{theorem}
use Rattle.sh_table.specs.declared.view.Own.{Own}
use Rattle.sh_pass.specs.Passes.{Caller}
use Rattle.sh_table.specs.Seats.{Heap}
use Rattle.sh_table.specs.Views.{fresh}
use Rattle.sh_shard.specs.Pages.{BarePage, page_at}
use Rattle.sh_shard.specs.Shards.{Sharded, shard_heeded}
use Rattle.sh_member.specs.SideBounds.{AdoptTakes}
use Rattle.sh_member.specs.declared.member.Side.TheVariants.{Pass, Shard}
use Rattle.sh_member.specs.Sides.{SeenSide, SideAdopts, SideInserts}
use Rattle.script_output.specs.declared.answer.Answer.{Answer}
use Rattle.script_output.specs.declared.answer.Answer.TheVariants as answer
use Rattle.script_output.specs.Results.{done_answer, key_answer}
use Rattle.script_calls.specs.Calls.{InsertAnswers, UnlessRefused}
use Rattle.script_calls.specs.OwnParts.{own_part, shape_in}
use Rattle.script_calls.specs.Parts.{RunTerms, PassPart, heap_terms, new_part, shard_owned}
use Rattle.script_calls.specs.Receipts.{MayHeed, SideHeeded}
use Rattle.script_calls.specs.Runs.{CallsRun, LineAnswered, opening_calls}
use Rattle.script_calls.proofs.LineLemmas.{part_here, part_there}
use Rattle.script_heap.specs.ByLine.{HasPart, HaveParts, RunsByLine}
use Rattle.script_heap.specs.OwnSteps.{adopt_line, insert_line, FirstInsertIsNotFull}
use Rattle.script_heap.proofs.ClassSteps.{class_steps, classed_by}
use Rattle.script_heap.proofs.LoneAdopt.{IsNew, begins_new, not_done}
use Rattle.script_heap.proofs.PageNumbers.{home_number}
use Rattle.script_heap.proofs.PageSums.{two_on_each}

-- ---- the adopt

-- it owns shard k, has noted the class word of each page, and took few steps for that
record NewOwner (k : ℕ) (s : SeenSide) : Type 0 where
  pub owner : Sharded
  pub is : s ≡ Shard owner
  pub shard : owner.pages.shard ≡ k
  pub count : owner.pages.count ≡ pages_of owner.pages.owner.view.shape
  pub pages : (p : ℕ) → p < owner.pages.count → BarePage (page_at owner.pages p)
  pub steps : length owner.pages.owner.view.own.trail ≤ pages_of owner.pages.owner.view.shape + 2

new_owner : (k : ℕ) (v : Caller) (t : SeenSide) (r : Result (Unit {0}) Refusal) → v.view.own ≡ fresh
    → answer.Done ≡ done_answer r → SideAdopts k (Pass v) r t → AdoptTakes (Pass v) t → NewOwner k t
new_owner k v (Shard n) (Ok x) new is h took =
    let none : length v.view.own.trail ≡ 0 = ap (λ (o : Own). length o.trail) new in
    let same : pages_of n.pages.owner.view.shape ≡ pages_of v.view.shape = ap pages_of h.1.same.shape in
    record {
      owner = n;
      is = refl;
      shard = h.1.shard;
      count = h.1.count ∙ sym same;
      pages = h.1.pages;
      steps = omega (arith, none, same, took);
    }
new_owner k v (Pass w) (Ok x) new is h took = absurd h
new_owner k v t (Err why) new is h took = absurd (not_done why is)

-- ---- the insert

-- it begins as that owner, which may have heeded a receipt
record SameOwner (n : Sharded) (s : SeenSide) : Type 0 where
  pub owner : Sharded
  pub is : s ≡ Shard owner
  pub own : owner.pages.owner.view.own ≡ n.pages.owner.view.own
  pub shape : owner.pages.owner.view.shape ≡ n.pages.owner.view.shape
  pub shard : owner.pages.shard ≡ n.pages.shard
  pub count : owner.pages.count ≡ n.pages.count

same_owner : (n : Sharded) (v w : PassPart) → v.stands ≡ Shard n → MayHeed v w → SameOwner n w.stands
same_owner n v w is (inl e) = record {
  owner = n;
  is = ap (λ (p : PassPart). p.stands) e ∙ is;
  own = refl;
  shape = refl;
  shard = refl;
  count = refl;
}
same_owner n v w is (inr h) = record {
  owner = shard_heeded n h.0;
  is = subst (λ (s : SeenSide). SideHeeded h.0 s w.stands) is h.1.stands;
  own = refl;
  shape = refl;
  shard = refl;
  count = refl;
}

class_same : (n : Sharded) (s : SeenSide) (o : SameOwner n s) (p : ℕ)
    → (page_at o.owner.pages p).class ≡ (page_at n.pages p).class
class_same n s o p = λ i. noted (number_of (o.shape i) (o.shard i) p) ((o.own i).body.classes)

is_full : (e : Refusal) → answer.Refused refusal.Full ≡ answer.Refused e → e ≡ refusal.Full
is_full e h = cc

not_a_key : (number : ℕ) → answer.Refused refusal.Full ≡ answer.Key number → ⊥
not_a_key number e = cc

module _ (layout : Layout) (words : List ℕ) (o : Sharded) where
  abbrev NoneBlank : Type 0
  NoneBlank = (p : ℕ) → p < o.pages.count → (page_at o.pages p).class ≡ Some 0 → ⊥

  full_none_blank : (tag : Option ℕ) (t : SeenSide) (r : Result ℕ Refusal)
      → answer.Refused refusal.Full ≡ key_answer tag r
      → SideInserts layout words (Shard o) r t → NoneBlank
  full_none_blank tag (Shard m) (Err e) is h p lt blank =
      let full = subst (λ (z : Refusal). SideInserts layout words (Shard o) (Err z) (Shard m)) (is_full e is) h in
      let through = full.0.left.through in
      full.0.blank p (let count = through.count in omega (arith, lt, count)) (through.classes _ ∙ blank)
  full_none_blank tag (Shard m) (Ok key) is h p lt blank = not_a_key _ is
  full_none_blank tag (Pass w) r is h p lt blank = absurd h

  full_by_words : (terms : RunTerms) (tag : Option ℕ) (pass : ℕ) (v w : PassPart) (many : Bool) (r : Result ℕ Refusal)
      → terms.layout ≡ layout → v.stands ≡ Shard o → answer.Refused refusal.Full ≡ key_answer tag r
      → UnlessRefused (if many then Some refusal.TooLong else None) r (w ≡ v) (InsertAnswers terms pass v words r w)
      → NoneBlank
  full_by_words terms tag pass v w true r of_layout at is h = absurd
      (let e = is_full refusal.TooLong (is ∙ ap (key_answer tag) h.0) in let z : ⊥ = cc in z)
  full_by_words terms tag pass v w false r of_layout at is h =
      let P : Layout × SeenSide → Type 0 = λ z. SideInserts z.0 words z.1 r w.stands in
      full_none_blank tag w.stands r is (subst P (λ i. (of_layout i, at i)) h.1)

-- ---- the run

module _ (layout : Layout) (shape : Numbers) (la : IsLayout layout) (ls : IsShape shape) (lf : Fits layout shape)
    (tag : Option ℕ) (heap : Heap) (pass k : ℕ) (words : List ℕ) (lt : pass < shape.passes) where
  abbrev fresh_plan : Plan
  fresh_plan = plan_of layout shape

  abbrev fresh_terms : RunTerms
  fresh_terms = heap_terms layout shape

  all_passes : (es : List Event) → length (run fresh_plan es).parts ≡ fresh_plan.passes
  all_passes es = (theorem layout shape la ls lf es).passes

  module _ (es : List Event) (next after : CallsRun)
      (first : LineAnswered fresh_terms tag (opening_calls (Some heap)) (adopt_line pass k) answer.Done next)
      (here : HaveParts fresh_plan es next.parts)
      (second : LineAnswered fresh_terms tag next (insert_line pass words) (answer.Refused refusal.Full) after) where
    part_is : next.parts pass ≡ first.part
    part_is = ap (λ (r : CallsRun). r.parts pass) first.next_is
        ∙ part_here (new_part (Some heap)) pass pass first.part refl

    others : (q : ℕ) → q ≢ pass → next.parts q ≡ new_part (Some heap) q
    others q ne = ap (λ (r : CallsRun). r.parts q) first.next_is
        ∙ part_there (new_part (Some heap)) pass q first.part ne

    new : IsNew first.begins
    new = begins_new heap pass first.begins first.heeds

    owner : NewOwner k first.part.stands
    owner = new_owner k new.caller first.part.stands first.does.result new.own first.does.is
        (subst (λ (s : SeenSide). SideAdopts k s first.does.result first.part.stands) new.stands first.does.does.1)
        (subst (λ (s : SeenSide). AdoptTakes s first.part.stands) new.stands first.does.does.2)

    abbrev n : Sharded
    n = owner.owner

    stands_is : (next.parts pass).stands ≡ Shard n
    stands_is = ap (λ (v : PassPart). v.stands) part_is ∙ owner.is

    insert_begins : SameOwner n second.begins.stands
    insert_begins = same_owner n (next.parts pass) second.begins stands_is second.heeds

    not_blank : (p : ℕ) → p < n.pages.count → (page_at n.pages p).class ≡ Some 0 → ⊥
    not_blank p below blank = full_by_words layout words insert_begins.owner fresh_terms tag pass second.begins
        second.part (nat_lt 16 (length words)) second.does.result refl insert_begins.is second.does.is
        second.does.does p
        (let count = insert_begins.count in omega (arith, below, count))
        (class_same n second.begins.stands insert_begins p ∙ blank)

    -- ---- after the adopt

    abbrev adopt_world : World
    adopt_world = run fresh_plan es

    abbrev owner_body : Body
    owner_body = n.pages.owner.view.own.body

    part : HasPart fresh_plan es pass (next.parts pass)
    part = here pass lt

    own_is : own_part (next.parts pass).stands ≡ n.pages.owner.view.own
    own_is = ap own_part stands_is

    at : slice_get adopt_world.parts pass ≡ Some owner_body
    at = part.body ∙ ap (λ (o : Own). Some o.body) own_is

    owned : owner_body.owned ≡ Some n.pages.shard
    owned = subst (λ (s : SeenSide). (own_part s).body.owned ≡ shard_owned s) stands_is part.shard

    pages : pages_of n.pages.owner.view.shape ≡ fresh_plan.pages
    pages = subst (λ (s : SeenSide). pages_of (shape_in s) ≡ fresh_plan.pages) stands_is part.pages

    notes_stand : OwnPartIsValid fresh_plan adopt_world owner_body
    notes_stand = (theorem layout shape la ls lf es).parts pass owner_body at

    -- page p of the shard, by its number over the whole heap
    page_is : (p : ℕ) → number_of n.pages.owner.view.shape n.pages.shard p ≡ n.pages.shard * fresh_plan.pages + p
    page_is p = ap (λ (z : ℕ). n.pages.shard * z + p) pages

    number_is : (p : ℕ) → page_number fresh_plan n.pages.shard p ≡ n.pages.shard * fresh_plan.pages + p
    unfolding page_number
    number_is p = refl

    classed : (p : ℕ) → p < fresh_plan.pages → adopt_world.words.class_at (n.pages.shard * fresh_plan.pages + p) ≢ 0
    classed p below none =
        let q : ℕ = n.pages.shard * fresh_plan.pages + p in
        let inside : p < n.pages.count = (let count = owner.count in let e = pages in omega (arith, below, count, e)) in
        let bare : BarePage (page_at n.pages p) = owner.pages p inside in
        let home_is : shard_of fresh_plan q ≡ n.pages.shard = ap (shard_of fresh_plan) (sym (number_is p))
        ∙ home_number fresh_plan n.pages.shard p below in
        let mine : own fresh_plan owner_body q ≡ true = subst (λ (z : Option ℕ). owned_by fresh_plan z q ≡ true)
        (sym owned) (eq-eqb n.pages.shard (shard_of fresh_plan q) (sym home_is)) in
        let word : adopt_world.words.class_at q ≡ bare.word = notes_stand.notes q bare.word mine
        (subst (λ (z : ℕ). noted z owner_body.classes ≡ Some bare.word) (page_is p) bare.class) in
        not_blank p inside (bare.class ∙ ap (λ (z : ℕ). Some z) (sym word ∙ none))

    -- no other pass did a step
    steps_by_pass : (q b : ℕ) → b < fresh_plan.passes → 1 < class_steps q (trail_of fresh_plan es b)
        → 1 < class_steps q (trail_of fresh_plan es pass)
    steps_by_pass q b few two = dite (ℕ_discrete b pass)
        (λ (e : b ≡ pass). subst (λ (z : ℕ). 1 < class_steps q (trail_of fresh_plan es z)) e two)
        (λ (ne : b ≢ pass).
        let trail : trail_of fresh_plan es b ≡ [] = (here b few).trail
        ∙ ap (λ (v : PassPart). (own_part v.stands).trail) (others b ne) in
        let none : class_steps q (trail_of fresh_plan es b) ≡ 0 = ap (class_steps q) trail in
        absurd (omega (arith, two, none)))

    two_steps : (p : ℕ) → p < fresh_plan.pages
        → 1 < class_steps (n.pages.shard * fresh_plan.pages + p) (trail_of fresh_plan es pass)
    two_steps p below =
        let q : ℕ = n.pages.shard * fresh_plan.pages + p in
        let by = classed_by fresh_plan all_passes es q (classed p below) in
        steps_by_pass q by.0 by.1 by.2

    too_many : ⊥
    too_many =
        let all = two_on_each (n.pages.shard * fresh_plan.pages) (trail_of fresh_plan es pass) fresh_plan.pages
        two_steps in
        let trail : length (trail_of fresh_plan es pass) ≡ length n.pages.owner.view.own.trail =
        ap length (part.trail ∙ ap (λ (o : Own). o.trail) own_is) in
        let few = owner.steps in
        let e = pages in
        let some = ls.some_segment in
        let eight : fresh_plan.pages ≡ 8 * shape.segments = refl in
        omega (arith, all, trail, few, e, some, eight)

  first_full : (late : List Event) (after : CallsRun)
      → RunsByLine fresh_plan [] late fresh_terms tag (opening_calls (Some heap))
      (adopt_line pass k ∷ insert_line pass words ∷ []) (answer.Done ∷ answer.Refused refusal.Full ∷ []) after → ⊥
  first_full late after by = too_many ([] ++ by.3) by.1 by.6.1 by.2 by.6.0 by.6.2

pub first_insert_is_not_full : FirstInsertIsNotFull
first_insert_is_not_full asked layout shape tag pass k words output la ls lf lt h told =
    first_full layout shape la ls lf tag h.heap pass k words lt h.events h.told.replies.after
    (subst (λ (answers : List Answer). RunsByLine (plan_of layout shape) [] h.events (heap_terms layout shape) tag
    (opening_calls (Some h.heap)) (adopt_line pass k ∷ insert_line pass words ∷ []) answers h.told.replies.after) told
    (h.by_line refl))
