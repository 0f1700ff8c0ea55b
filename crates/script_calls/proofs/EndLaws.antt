-- The own part with which each pass ends, once it left its shard.
use Rattle.std.proofs.Common.{◌≡◌, ℕ, suc, zero, ◌<◌, List, [], ◌∷◌, ◌++◌, length, map, slice_get, Option}
use Rattle.std.proofs.Common.{Some, None, sym, refl, ap, ◌∙◌, subst, arith, Ok, Err}
use Rattle.std.specs.List.{All, Contains}
use Rattle.std.proofs.lemmas.List.Elements.{All-head, All-tail, All-push, All-weaker}
use Rattle.std.proofs.lemmas.List.Elements.{Contains-append_left, Contains-append_right}
use Rattle.std.proofs.lemmas.Option.{none-some, same_Some}
use Rattle.sh_value.specs.declared.refusal.Refusal.TheVariants as refusal
use Rattle.sh_script.specs.declared.calls.CallLine.{CallLine}
use Rattle.sh_table.specs.declared.view.Told.{Told}
use Rattle.sh_table.specs.Seats.{Heap}
use Rattle.sh_pass.specs.Passes.{Caller}
use Rattle.sh_member.specs.declared.member.Side.TheVariants.{Pass, Shard}
use Rattle.sh_member.specs.Sides.{SeenSide, SideLeaves}
use Rattle.script_calls.specs.OwnParts.{EndsWith, own_part, taken_in}
use Rattle.script_calls.specs.Parts.{RunTerms, PassPart, SeenPass}
use Rattle.script_calls.specs.Receipts.{MayHeed, SideHeeded}
use Rattle.script_calls.specs.Calls.{LeaveAnswers}
use Rattle.script_calls.specs.Meeting.{JoinsParts, EndsAmong, EndedAmong, HasEnded, CarriesEnd, CarriesOwn}
use Rattle.script_calls.specs.Meeting.{parts_carried}
use Rattle.script_calls.specs.Alone.{AnsweredSoFar}
use Rattle.script_calls.specs.Heeding.{AllHeedInTurn}
use Rattle.script_calls.proofs.ListLemmas.{get_some, map_more}

-- ---- leaving

left_so : (s t : SeenSide) → SideLeaves s (Ok tt) t → EndsWith s (own_part t)
left_so (Pass v) t h = absurd (cc h.0)
left_so (Shard o) t h = (t, h, refl)

pub ends_left : (v w : PassPart) → LeaveAnswers v (Ok tt) w → EndsWith v.stands (own_part w.stands)
ends_left v w h = left_so v.stands w.stands h.1

pass_so : (s t : SeenSide) → SideLeaves s (Err refusal.NoShard) t → EndsWith s (own_part t)
pass_so (Pass v) t h = ap own_part h.1
pass_so (Shard o) (Pass w) h = absurd h
pass_so (Shard o) (Shard n) h = absurd (let e : refusal.NoShard ≡ refusal.Waiting = h.0 in cc)

pub ends_without_shard : (v w : PassPart) → LeaveAnswers v (Err refusal.NoShard) w
    → EndsWith v.stands (own_part w.stands)
ends_without_shard v w h = pass_so v.stands w.stands h.1

-- ---- meeting

first_told : (x : Told) (xs : List Told) → Contains (x ∷ xs) x
first_told x xs = (0, omega arith, refl)

pub own_more : {S : Type 0} (seen : S → SeenPass) (ys : List S) (x : S) (r : SeenPass) (o : Option SeenPass)
    → All (CarriesEnd o) (map seen ys) → JoinsParts o (seen x) r
    → All (CarriesEnd (Some r)) (map seen (ys ++ x ∷ []))
own_more seen ys x r o h meets = subst (All (CarriesEnd (Some r))) (sym (map_more seen ys x)) (go o h meets)
  where
    told : Told
    told = record { pass = (seen x).pass; own = own_part (seen x).part.stands }

    here : Contains (parts_carried (seen x)) told
    here = first_told told (taken_in (seen x).part.stands)

    go : (o : Option SeenPass) → All (CarriesEnd o) (map seen ys) → JoinsParts o (seen x) r
        → All (CarriesEnd (Some r)) (map seen ys ++ seen x ∷ [])
    go None h meets = All-push (CarriesEnd (Some r)) (map seen ys) (seen x)
        (All-weaker (CarriesEnd None) (CarriesEnd (Some r)) (λ s e. absurd e) (map seen ys) h)
        (subst (λ (z : SeenPass). Contains (parts_carried z) told) (sym meets) here)
    go (Some c) h meets =
        let left : (t : Told) → Contains (parts_carried c) t → Contains (parts_carried r) t = λ t k.
        subst (λ (z : List Told). Contains z t) (sym meets)
        (Contains-append_left (parts_carried c) (parts_carried (seen x)) t k) in
        All-push (CarriesEnd (Some r)) (map seen ys) (seen x)
        (All-weaker (CarriesEnd (Some c)) (CarriesEnd (Some r))
        (λ s e. left (record { pass = s.pass; own = own_part s.part.stands }) e) (map seen ys) h)
        (subst (λ (z : List Told). Contains z told) (sym meets)
        (Contains-append_right (parts_carried c) (parts_carried (seen x)) told here))

pub all_own : {S : Type 0} (seen : S → SeenPass) (all ys : List S) (c : SeenPass) (o : Option SeenPass) → ys ≡ all
    → o ≡ Some c → All (CarriesEnd o) (map seen ys) → All (CarriesOwn c) (map seen all)
all_own seen all ys c o yielded is h =
    subst (λ (z : List _). All (CarriesOwn c) (map seen z)) yielded
    (subst (λ (q : Option SeenPass). All (CarriesEnd q) (map seen ys)) is h)

-- ---- heeding

pub side_heeds : (r : Caller) (x y : SeenSide) → SideHeeded r x y
    → (own_part y ≡ own_part x) × (taken_in y ≡ taken_in x)
side_heeds r (Pass v) y h = (ap own_part h, ap taken_in h)
side_heeds r (Shard o) y h = (ap own_part h, ap taken_in h)

-- ---- the end

pub at_all : {A : Type 0} (P : A → Type 0) (xs : List A) (k : ℕ) (x : A) → slice_get xs k ≡ Some x → All P xs → P x
at_all P [] k x e h = absurd (none-some x e)
at_all P (y ∷ ys) zero x e h = subst P (same_Some y x e) (All-head P y ys h)
at_all P (y ∷ ys) (suc k) x e h = at_all P ys k x e (All-tail P y ys h)

-- the carrier carries the own part with which each pass of a run ended, once all heard of one another
pub parts_ended : (heap : Option Heap) (terms : RunTerms) (tag : Option ℕ) (lines : List CallLine) (i : ℕ)
    (numbers : List (Option ℕ)) (sides : List SeenPass) (output : List ℕ)
    (h : AnsweredSoFar heap terms tag lines i numbers sides output) (last : Option Caller) (ts : List SeenPass)
    → AllHeedInTurn last sides ts → (c : SeenPass) → All (HasEnded c) ts → (p : ℕ) → p < terms.shape.passes
    → EndedAmong (parts_carried c) p (h.run.parts p)
parts_ended heap terms tag lines i numbers sides output h last ts hear c all p lt =
    let many : length sides ≡ terms.shape.passes = h.all in
    let same : length ts ≡ length sides = hear.all in
    let was = get_some sides p (omega (arith, lt, many)) in
    let now = get_some ts p (omega (arith, lt, many, same)) in
    let heard = hear.each p was.0 now.0 was.1 now.1 in
    let is = h.each p was.0 was.1 in
    let ended : HasEnded c now.0 = at_all (HasEnded c) ts p now.0 now.1 all in
    let pass : now.0.pass ≡ p = ap (λ (z : SeenPass). z.pass) heard.is ∙ ap (λ (z : SeenPass). z.pass) is in (
      ended.0,
      (
        now.0.part,
        subst (λ (v : PassPart). MayHeed v now.0.part) (ap (λ (z : SeenPass). z.part) is) heard.heeds,
        ended.1,
      ),
      subst (λ (q : ℕ). EndsAmong (parts_carried c) q ended.0) pass ended.2,
    )
