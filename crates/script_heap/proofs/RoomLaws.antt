-- In a run in one thread an insert is Full only if its pass's shard has no room.
use Rattle.std.proofs.Common.{◌≡◌, ℕ, ◌+◌, ◌*◌, ◌<◌, Bool, true, false, List, [], ◌∷◌, ◌++◌, length, refl, ap}
use Rattle.std.proofs.Common.{sym, ◌∙◌, subst, arith, eq-eqb, Option, Some, None, Result, Ok, Err}
use Rattle.std.specs.Prelude.{IsSome, nat_lt, if◌then◌else◌}
use Rattle.std.specs.List.{All}
use Rattle.std.proofs.lemmas.List.Elements.{All-head, All-tail}
use Rattle.std.proofs.lemmas.Option.{same_Some}
use Rattle.sh_value.specs.declared.refusal.Refusal.{Refusal}
use Rattle.sh_value.specs.declared.refusal.Refusal.TheVariants as refusal
use Rattle.sh_key.specs.Layout.{Layout, IsLayout}
use Rattle.sh_shape.specs.Shape.{Numbers, IsShape, Fits}
use Rattle.sh_step.specs.declared.action.Event.{Event}
use Rattle.sh_slots.specs.declared.hand.Hand.TheVariants.{Idle}
use Rattle.sh_step.specs.declared.body.Body.{Body}
use Rattle.sh_shape.specs.Places.{pages_of}
use Rattle.sh_step.specs.Collections.{has, noted}
use Rattle.sh_slots.specs.Slots.{same_slot}
use Rattle.sh_step.specs.Plans.{Plan, plan_of, shard_of, page_number}
use Rattle.sh_step.specs.Rows.{own, owned_by}
use Rattle.sh_core.specs.Lists.{lists_of}
use Rattle.sh_core.specs.Quiet.{Quiet}
use Rattle.sh_core.specs.Refines.{Refines, OwnPartIsValid, mine}
use Rattle.sh_core.specs.Stacks.{slot_ref}
use Rattle.sh_core.specs.Worlds.{World, run}
use Rattle.sh_core.proofs.Clauses.RunTheorem.{theorem}
use Rattle.sh_pass.specs.Owners.{heap_page, own_body}
use Rattle.sh_shard.specs.Pages.{Paged, KnowsWords, WhollyMine, page_at, shard_page}
use Rattle.sh_shard.specs.Shards.{Sharded, NoneLeft, StaysOwner, InsertServes, value_class}
use Rattle.sh_member.specs.declared.member.Side.TheVariants.{Pass, Shard}
use Rattle.sh_member.specs.Sides.{SeenSide, SideInserts}
use Rattle.sh_quiet.specs.Quiescence.{IsUsed}
use Rattle.sh_quiet.proofs.Emptied.{no_mine}
use Rattle.sh_quiet.proofs.Exact.{Goes, quiet_still}
use Rattle.sh_quiet.proofs.Fulls.{class_is_used}
use Rattle.sh_quiet.proofs.Working.{SeesBell}
use Rattle.sh_script.specs.declared.calls.Call.{Call}
use Rattle.sh_script.specs.declared.calls.Call.TheVariants as call
use Rattle.sh_script.specs.declared.calls.CallLine.{CallLine}
use Rattle.script_output.specs.declared.answer.Answer.{Answer}
use Rattle.script_output.specs.Results.{key_answer}
use Rattle.script_calls.specs.Calls.{CallAnswers, InsertAnswers, UnlessRefused}
use Rattle.script_calls.specs.OwnParts.{shape_in}
use Rattle.script_calls.specs.Parts.{RunTerms, heap_terms, shard_owned}
use Rattle.script_calls.specs.Runs.{CallsRun, LineAnswered, number_meant, opening_calls}
use Rattle.script_heap.specs.ByLine.{HaveParts, RunsByLine}
use Rattle.script_heap.specs.Owners.{owned_by as owned_shard}
use Rattle.script_heap.specs.Rooms.{class_word, NoSlotLeft, NoPageBlank, OwnersWholly}
use Rattle.script_heap.specs.Rooms.{InsertIsExact, CallFindsRoom, RoomsAreExact, LinesFindRoom}
use Rattle.script_heap.proofs.PageNumbers.{home_number}
use Rattle.script_heap.proofs.OwnerLaws.{owns, ends_is, alone, bell_before, bell_after, first_parts}

module _ (layout : Layout) (shape : Numbers) (la : IsLayout layout) (ls : IsShape shape) (lf : Fits layout shape) where
  abbrev room_plan : Plan
  room_plan = plan_of layout shape

  abbrev room_terms : RunTerms
  room_terms = heap_terms layout shape

  -- ---- the pages of a shard whose owner looked in vain, and went on alone

  module _ (early late : List Event) (a c : ℕ) (o n : Paged)
      (g : Goes room_plan early late a o.owner.view.own n.owner.view.own) (had : SeesBell room_plan o)
      (has_now : SeesBell room_plan n) (owned : (own_body n.owner).owned ≡ Some n.shard)
      (idle : (own_body n.owner).hand ≡ Idle) (left : NoneLeft c o n) (known : KnowsWords n)
      (pages : pages_of n.owner.view.shape ≡ room_plan.pages) where
    abbrev room_world : World
    room_world = run room_plan (early ++ late)

    abbrev room_body : Body
    room_body = own_body n.owner

    -- the number of page p of the shard over the whole heap
    abbrev page : ℕ → ℕ
    page p = page_number room_plan n.shard p

    room_refined : Refines room_plan room_world (lists_of room_plan (early ++ late))
    room_refined = theorem layout shape la ls lf (early ++ late)

    room_stands : OwnPartIsValid room_plan room_world room_body
    room_stands = room_refined.parts a room_body g.body

    quiet : Quiet room_world
    quiet = quiet_still layout shape la ls lf early late a o.owner.view.own n.owner.view.own g left.through.put idle

    same_number : (p : ℕ) → heap_page n.owner (shard_page n.shard p) ≡ page p
    unfolding page_number
    same_number p = ap (λ (z : ℕ). n.shard * z + p) pages

    inside : (p : ℕ) → p < room_plan.pages → p < n.count
    inside p lt = let count = known.count in omega (arith, lt, count, pages)

    is_own : (p : ℕ) → p < room_plan.pages → own room_plan room_body (page p) ≡ true
    is_own p lt = subst (λ (z : Option ℕ). owned_by room_plan z (page p) ≡ true) (sym owned)
        (eq-eqb n.shard (shard_of room_plan (page p)) (sym (home_number room_plan n.shard p lt)))

    -- the owner knows the class word
    word : (p : ℕ) → p < room_plan.pages → (page_at n p).class ≡ Some (class_word room_plan room_world n.shard p)
    word p lt =
        let w = known.words p (inside p lt) in
        let is : class_word room_plan room_world n.shard p ≡ w.0 = room_stands.notes (page p) w.0 (is_own p lt)
        (subst (λ (q : ℕ). noted q room_body.classes ≡ Some w.0) (same_number p) w.1) in
        w.1 ∙ ap (λ (z : ℕ). Some z) (sym is)

    pub none_left : NoSlotLeft room_plan room_world n.shard c
    none_left p s lt class slot = subst (λ (q : ℕ). IsUsed room_world (slot_ref q s)) (same_number p)
        (class_is_used layout shape la ls lf early late a c o n g had has_now owned idle left p s (inside p lt)
        (word p lt ∙ ap (λ (z : ℕ). Some z) class) slot)

    pub none_blank : ((p : ℕ) → p < n.count → (page_at n p).class ≡ Some 0 → ⊥)
        → NoPageBlank room_plan room_world n.shard
    none_blank none p lt is = none p (inside p lt) (word p lt ∙ ap (λ (z : ℕ). Some z) is)

    -- a slot that a pass has is the owner's
    has_slot : (p s : ℕ) → p < room_plan.pages → mine room_world (slot_ref (page p) s) ≡ 1 → (b : Bool)
        → has (same_slot (slot_ref (page p) s)) room_body.mine ≡ b
        → has (same_slot (slot_ref (page p) s)) room_body.mine ≡ true
    has_slot p s lt one true is = is
    has_slot p s lt one false is =
        let none : mine room_world (slot_ref (page p) s) ≡ 0 = no_mine room_plan room_world
        (lists_of room_plan (early ++ late)) room_refined quiet a room_body g.body (slot_ref (page p) s)
        (is_own p lt) is in
        absurd (omega (arith, one, none))

    pub wholly_mine : (p d : ℕ) → p < room_plan.pages → OwnersWholly room_plan room_world n.shard p d
        → WhollyMine (page_at n p)
    wholly_mine p d lt whole = record {
      class = d;
      classed = word p lt ∙ ap (λ (z : ℕ). Some z) (let e = whole.class in omega (arith, e));
      mine = λ s slot. subst (λ (q : ℕ). has (same_slot (slot_ref q s)) room_body.mine ≡ true) (sym (same_number p))
          (has_slot p s lt (whole.whole s slot) (has (same_slot (slot_ref (page p) s)) room_body.mine) refl);
    }

    pub class_is : (p d : ℕ) → p < room_plan.pages → OwnersWholly room_plan room_world n.shard p d
        → (page_at n p).class ≡ Some (d + 1)
    class_is p d lt whole = word p lt ∙ ap (λ (z : ℕ). Some z) whole.class

  -- ---- one line

  module _ (tag : Option ℕ) (early own : List Event) (before next : CallsRun) (l : CallLine) (a : Answer)
      (line : LineAnswered room_terms tag before l a next) (inside : l.pass < room_plan.passes)
      (here : HaveParts room_plan early before.parts) (there : HaveParts room_plan (early ++ own) next.parts) where
    abbrev Exact : List ℕ → Answer → Type 0
    Exact words = InsertIsExact room_plan (run room_plan (early ++ own)) before.parts l.pass words

    owns_before : (s : SeenSide) → line.begins.stands ≡ s → owned_shard before.parts l.pass ≡ shard_owned s
    owns_before s was = owns layout shape la ls lf tag early own before next l a line inside here there s was

    module _ (o n : Sharded) (was : line.begins.stands ≡ Shard o) (is : line.part.stands ≡ Shard n)
        (stays : StaysOwner layout o n) where
      pub its_shard : owned_shard before.parts l.pass ≡ Some n.pages.shard
      its_shard = owns_before (Shard o) was ∙ ap (λ (k : ℕ). Some k) (sym stays.shard)

      pub goes_alone : Goes room_plan early own l.pass o.pages.owner.view.own n.pages.owner.view.own
      goes_alone = alone layout shape la ls lf tag early own before next l a line inside here there o n was is

      pub saw : SeesBell room_plan o.pages
      saw = bell_before layout shape la ls lf tag early own before next l a line inside here there o n was is

      pub sees : SeesBell room_plan n.pages
      sees = bell_after layout shape la ls lf tag early own before next l a line inside here there o n was is

      pub its_pages : pages_of n.pages.owner.view.shape ≡ room_plan.pages
      its_pages = subst (λ (s : SeenSide). pages_of (shape_in s) ≡ room_plan.pages)
          (ends_is layout shape la ls lf tag early own before next l a line inside here there o n was is)
          (there l.pass inside).pages

      inserts : (words : List ℕ) (r : Result ℕ Refusal) → InsertServes layout (value_class words) words o r n
          → Exact words (key_answer tag r)
      inserts words (Ok key) h = subst (λ (z : Option ℕ). IsSome z) (sym its_shard) refl
      inserts words (Err refusal.Full) h =
          let c : ℕ = value_class words in
          let k = stays.holds in (
            n.pages.shard,
            its_shard,
            record {
              used = none_left early own l.pass c o.pages n.pages goes_alone saw sees k.owned k.idle h.left k.known
                  its_pages;
              blank = none_blank early own l.pass c o.pages n.pages goes_alone saw sees k.owned k.idle h.left k.known
                  its_pages h.blank;
              spare = λ p d lt ne whole. h.whole p
                  (let count = k.known.count in let pages = its_pages in omega (arith, lt, count, pages))
                  (wholly_mine early own l.pass c o.pages n.pages goes_alone saw sees k.owned k.idle h.left k.known
                  its_pages p d lt whole);
            },
          )
      inserts words (Err refusal.Memory) h =
          let c : ℕ = value_class words in
          let k = stays.holds in (
            n.pages.shard,
            its_shard,
            none_left early own l.pass c o.pages n.pages goes_alone saw sees k.owned k.idle h.1 k.known its_pages,
            λ p d lt ne whole. h.2.spare p
                (let count = k.known.count in let pages = its_pages in omega (arith, lt, count, pages)) (record {
                  whole = wholly_mine early own l.pass c o.pages n.pages goes_alone saw sees k.owned k.idle h.1 k.known
                      its_pages p d lt whole;
                  other = λ same.
                      let class = class_is early own l.pass c o.pages n.pages goes_alone saw sees k.owned k.idle h.1
                      k.known its_pages p d lt whole in
                      let both : d + 1 ≡ c + 1 = same_Some (d + 1) (c + 1) (sym class ∙ same) in
                      ne (omega (arith, both));
                }),
          )
      inserts words (Err _) h = absurd h

    by_side : (words : List ℕ) (s t : SeenSide) → line.begins.stands ≡ s → line.part.stands ≡ t
        → (r : Result ℕ Refusal) → SideInserts layout words s r t → Exact words (key_answer tag r)
    by_side words (Pass v) t was is r h =
        subst (λ (z : Result ℕ Refusal). Exact words (key_answer tag z)) (sym h.0) (owns_before (Pass v) was)
    by_side words (Shard o) (Shard n) was is r h = inserts o n was is h.1 words r h.0
    by_side words (Shard o) (Pass w) was is r h = absurd h

    -- too many words are refused first
    answer_by_words : (words : List ℕ) (many : Bool) (r : Result ℕ Refusal)
        → UnlessRefused (if many then Some refusal.TooLong else None) r (line.part ≡ line.begins)
        (InsertAnswers room_terms l.pass line.begins words r line.part) → Exact words (key_answer tag r)
    answer_by_words words true r h = subst (λ (z : Result ℕ Refusal). Exact words (key_answer tag z)) (sym h.0) tt
    answer_by_words words false r h = by_side words line.begins.stands line.part.stands refl refl r h.1

    call_finds : (c : Call) (bound : Option ℕ) → CallAnswers room_terms tag l.pass line.begins c bound a line.part
        → CallFindsRoom room_plan (run room_plan (early ++ own)) before.parts l.pass c a
    call_finds (call.Insert words) bound h = subst (λ (z : Answer). Exact words z) (sym h.is)
        (answer_by_words words (nat_lt 16 (length words)) h.result h.does)
    call_finds _ bound h = tt

    line_finds : CallFindsRoom room_plan (run room_plan (early ++ own)) before.parts l.pass l.call a
    line_finds = call_finds l.call (number_meant before.numbers l.call) line.does

  -- ---- all lines

  lines_find : (early late : List Event) (tag : Option ℕ) (before : CallsRun) (lines : List CallLine)
      (answers : List Answer) (after : CallsRun) → All (λ (l : CallLine). l.pass < shape.passes) lines
      → (h : RunsByLine room_plan early late room_terms tag before lines answers after)
      → RoomsAreExact room_plan early late room_terms tag before lines answers after h
  lines_find early late tag before [] [] after fits h = tt
  lines_find early late tag before [] (a ∷ answers) after fits h = absurd h
  lines_find early late tag before (l ∷ lines) [] after fits h = absurd h
  lines_find early late tag before (l ∷ lines) (a ∷ answers) after fits h = (
    line_finds tag early h.3 before h.1 l a h.2 (All-head (λ (z : CallLine). z.pass < shape.passes) l lines fits) h.0
        (first_parts layout shape la ls lf (early ++ h.3) h.4 tag h.1 lines answers after h.6),
    lines_find (early ++ h.3) h.4 tag h.1 lines answers after
        (All-tail (λ (z : CallLine). z.pass < shape.passes) l lines fits) h.6,
  )

pub lines_find_room : LinesFindRoom
lines_find_room asked layout shape tag lines output la ls lf fits h = lines_find layout shape la ls lf [] h.events tag
    (opening_calls (Some h.heap)) lines h.told.replies.answers h.told.replies.after fits (h.by_line refl)
