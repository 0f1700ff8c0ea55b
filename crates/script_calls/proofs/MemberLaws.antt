-- What the calls of a member are in a run of calls, whether it is a pass or the owner of a shard.
use Rattle.std.proofs.Common.{◌≡◌, ℕ, ◌+◌, ◌<◌, List, ◌++◌, refl, sym, ap, subst, Some, None, Result, Ok, Err}
use Rattle.std.specs.Prelude.{IfOk}
use Rattle.std.proofs.lemmas.Option.{none-some, same_Some}
use Rattle.sh_value.specs.declared.hold.Hold.{Hold}
use Rattle.sh_value.specs.declared.refusal.Refusal.{Refusal}
use Rattle.sh_key.specs.Layout.{Layout, first_key, key_count}
use Rattle.sh_table.specs.declared.view.View.{View}
use Rattle.sh_table.specs.Tales.{ViewIsValid}
use Rattle.sh_table.specs.Together.{LeadsTogether}
use Rattle.sh_pass.specs.Passes.{Caller, GetDoes, ReadDoes, RemoveDoes, ReleaseDoes}
use Rattle.sh_shard.specs.Shards.{value_class}
use Rattle.sh_member.specs.declared.member.Side.TheVariants.{Pass, Shard}
use Rattle.sh_member.specs.SideBounds.{AdoptTakes}
use Rattle.sh_member.specs.Sides.{SeenSide, SideDoes, SideInserts, SideAdopts, SideLeaves, SideIsValid, SideHeeds}
use Rattle.sh_member.specs.Sides.{IsOfHeap, IsReceiptBy, MayJoin, SideJoins, SideGivesPass, OpensBundle, EndsInBundle}
use Rattle.script_calls.specs.OwnParts.{PartIsTrue, shape_in}
use Rattle.script_calls.specs.Parts.{SeenPass, SamePass, heap_terms, shard_owned, tale_told}
use Rattle.script_calls.specs.Calls.{AdoptAnswers, LeaveAnswers, InsertAnswers}
use Rattle.script_calls.specs.Calls.{GetAnswers, ReadAnswers, RemoveAnswers, ReleaseAnswers}
use Rattle.script_calls.specs.Meeting.{BindsSide, KeepsOrders, OpensFor, parts_carried}
use Rattle.script_calls.specs.Receipts.{Heeds, HasOrderedTale, seen_of_receipt, receipt_seen}
use Rattle.script_calls.specs.Running.{seen_standing, seen_of_caller, seen_of_member}
use Rattle.script_calls.proofs.RunningLaws.{get_answers, read_answers, remove_answers, release_answers}
use Rattle.script_calls.proofs.OwningLaws.{adopt_answers, leave_answers, insert_answers, key_is_small}
use Rattle.script_calls.proofs.ReceiptLaws.{receipt_told, pass_heeds, owner_heeds}
use Rattle.script_calls.proofs.TaleLaws.{whole_tale}
use Rattle.script_calls.proofs.JoinLaws.{joined_tale, joined_orders, parts_of_join}

-- ---- calls that leave it a pass, or the owner of its shard

-- what is so of a pass over a call, and of an owner's pass, is so of a member
member_does : {A : Type 0} (layout : Layout) (does : Caller → Result A Refusal → Caller → Type 0) (r : Result A Refusal)
    (Answers : SeenPass → SeenPass → Type 0)
    → ((v w : Caller) → ViewIsValid layout v.view → v.view.shape ≡ v.heap.shape → (s t : SeenSide)
    → shard_owned t ≡ shard_owned s → does v r w → SideDoes layout does s r t
    → Answers (seen_standing layout v s) (seen_standing layout w t))
    → (m n : SeenSide) → SideDoes layout does m r n → Answers (seen_of_member layout m) (seen_of_member layout n)
member_does layout does r Answers so (Pass v) (Pass w) h =
    so v w h.1.stood h.1.shape (Pass v) (Pass w) refl h.0 h
member_does layout does r Answers so (Shard o) (Shard n) h =
    so o.pages.owner n.pages.owner h.1.remains.stood h.1.remains.shape (Shard o) (Shard n)
    (ap (λ (k : ℕ). Some k) h.1.shard) h.0 h
member_does layout does r Answers so (Pass v) (Shard n) h = absurd h
member_does layout does r Answers so (Shard o) (Pass w) h = absurd h

pub member_gets : (layout : Layout) (m n : SeenSide) (key : ℕ) (r : Result Hold Refusal)
    → SideDoes layout (GetDoes layout key) m r n
    → GetAnswers (seen_of_member layout m).terms (seen_of_member layout m).pass (seen_of_member layout m).part key r
    (seen_of_member layout n).part × SamePass (seen_of_member layout m) (seen_of_member layout n)
member_gets layout m n key r h = member_does layout (GetDoes layout key) r
    (λ x y. GetAnswers x.terms x.pass x.part key r y.part × SamePass x y)
    (λ v w stood shape s t owned does served. get_answers layout v w stood shape s t owned key r does served) m n h

pub member_reads : (layout : Layout) (m n : SeenSide) (key : ℕ) (r : Result (List ℕ) Refusal)
    → SideDoes layout (ReadDoes key) m r n
    → ReadAnswers (seen_of_member layout m).terms (seen_of_member layout m).pass (seen_of_member layout m).part key r
    (seen_of_member layout n).part × SamePass (seen_of_member layout m) (seen_of_member layout n)
member_reads layout m n key r h = member_does layout (ReadDoes key) r
    (λ x y. ReadAnswers x.terms x.pass x.part key r y.part × SamePass x y)
    (λ v w stood shape s t owned does served. read_answers layout v w stood shape s t owned key r does served) m n h

pub member_removes : (layout : Layout) (m n : SeenSide) (key : ℕ) (r : Result (Unit {0}) Refusal)
    → SideDoes layout (RemoveDoes layout key) m r n
    → RemoveAnswers (seen_of_member layout m).terms (seen_of_member layout m).pass (seen_of_member layout m).part key r
    (seen_of_member layout n).part × SamePass (seen_of_member layout m) (seen_of_member layout n)
member_removes layout m n key r h = member_does layout (RemoveDoes layout key) r
    (λ x y. RemoveAnswers x.terms x.pass x.part key r y.part × SamePass x y)
    (λ v w stood shape s t owned does served. remove_answers layout v w stood shape s t owned key r does served) m n h

pub member_releases : (layout : Layout) (m n : SeenSide) (key : ℕ) (r : Result (Unit {0}) Refusal)
    → SideDoes layout (ReleaseDoes layout key) m r n
    → ReleaseAnswers (seen_of_member layout m).terms (seen_of_member layout m).pass (seen_of_member layout m).part key r
    (seen_of_member layout n).part × SamePass (seen_of_member layout m) (seen_of_member layout n)
member_releases layout m n key r h = member_does layout (ReleaseDoes layout key) r
    (λ x y. ReleaseAnswers x.terms x.pass x.part key r y.part × SamePass x y)
    (λ v w stood shape s t owned does served. release_answers layout v w stood shape s t owned key r does served) m n h

-- ---- inserts

pub member_inserts : (layout : Layout) (m n : SeenSide) (words : List ℕ) (r : Result ℕ Refusal)
    → SideInserts layout words m r n
    → InsertAnswers (seen_of_member layout m).terms (seen_of_member layout m).pass (seen_of_member layout m).part words
    r (seen_of_member layout n).part × SamePass (seen_of_member layout m) (seen_of_member layout n)
member_inserts layout (Pass v) n words r h =
    let s : SeenPass = seen_of_member layout (Pass v) in
    let P : SeenSide → Type 0 = λ x. InsertAnswers s.terms s.pass s.part words r (seen_of_member layout x).part
    × SamePass s (seen_of_member layout x) in
    subst P (sym h.1) (((h.0, refl), (h.0, refl)), refl)
member_inserts layout (Shard o) (Shard n) words r h =
    let p = insert_answers layout o (value_class words) words r n h.0 in ((p.0, h), p.1)
member_inserts layout (Shard o) (Pass w) words r h = absurd h

-- the key of an insert is one of the layout
pub member_key_is_small : (layout : Layout) (m n : SeenSide) (words : List ℕ) (r : Result ℕ Refusal)
    → SideInserts layout words m r n
    → IfOk r (λ key. key < first_key (seen_of_member layout m).terms.layout
    + key_count (seen_of_member layout m).terms.layout)
member_key_is_small layout (Pass v) n words (Ok key) h = absurd (let e = h.0 in cc)
member_key_is_small layout (Pass v) n words (Err why) h = tt
member_key_is_small layout (Shard o) (Shard n) words r h = key_is_small layout o (value_class words) words r n h.0
member_key_is_small layout (Shard o) (Pass w) words r h = absurd h

-- ---- adopting and leaving

pub member_adopts : (layout : Layout) (m n : SeenSide) (k : ℕ) (r : Result (Unit {0}) Refusal) → SideAdopts k m r n
    → AdoptTakes m n
    → AdoptAnswers (seen_of_member layout m).terms (seen_of_member layout m).part k r (seen_of_member layout n).part
    × SamePass (seen_of_member layout m) (seen_of_member layout n)
member_adopts layout (Pass v) (Shard n) k (Ok u) h b = adopt_answers layout v k (Ok n) h b
member_adopts layout (Pass v) (Pass w) k (Ok u) h b = absurd h
member_adopts layout (Pass v) (Pass w) k (Err why) h b = adopt_answers layout v k (Err (w, why)) h b
member_adopts layout (Pass v) (Shard n) k (Err why) h b = absurd h
member_adopts layout (Shard o) n k r h b =
    let s : SeenPass = seen_of_member layout (Shard o) in
    let P : SeenSide → Type 0 = λ x. AdoptAnswers s.terms s.part k r (seen_of_member layout x).part
    × SamePass s (seen_of_member layout x) in
    subst P (sym h.1) (((h.0, refl), (h.0, refl), refl), refl)

pub member_leaves : (layout : Layout) (m n : SeenSide) (r : Result (Unit {0}) Refusal) → SideLeaves m r n
    → LeaveAnswers (seen_of_member layout m).part r (seen_of_member layout n).part
    × SamePass (seen_of_member layout m) (seen_of_member layout n)
member_leaves layout (Shard o) (Pass w) (Ok u) h = leave_answers layout o (Ok w) h
member_leaves layout (Shard o) (Shard n) (Ok u) h = absurd h
member_leaves layout (Shard o) (Shard n) (Err why) h = leave_answers layout o (Err (n, why)) h
member_leaves layout (Shard o) (Pass w) (Err why) h = absurd h
member_leaves layout (Pass v) n r h =
    let s : SeenPass = seen_of_member layout (Pass v) in
    let P : SeenSide → Type 0 = λ x. LeaveAnswers s.part r (seen_of_member layout x).part
    × SamePass s (seen_of_member layout x) in
    subst P (sym h.1) (((h.0, refl), (h.0, refl)), refl)

-- ---- receipts

pub member_receipt : (layout : Layout) (m : SeenSide) (r : Caller) → IsReceiptBy m r
    → seen_of_receipt r ≡ receipt_seen (seen_of_member layout m)
member_receipt layout (Pass v) r h = receipt_told layout v r (Pass v) refl refl h
member_receipt layout (Shard o) r h = receipt_told layout o.pages.owner r (Shard o) refl refl h

pub receipt_is_of : (layout : Layout) (m : SeenSide) (r : Caller)
    → (seen_of_receipt r).heap ≡ (seen_of_member layout m).heap → IsOfHeap m r.heap
receipt_is_of layout (Pass v) r h = same_Some r.heap v.heap h
receipt_is_of layout (Shard o) r h = same_Some r.heap o.pages.owner.heap h

pub member_heeds : (layout : Layout) (m n : SeenSide) (r : Caller) → SideHeeds layout r m n
    → Heeds r (seen_of_member layout m) (seen_of_member layout n)
member_heeds layout (Pass v) (Pass w) r h = pass_heeds layout v r w h.0
member_heeds layout (Shard o) (Shard n) r h = owner_heeds layout o n r h.0
member_heeds layout (Pass v) (Shard n) r h = absurd h
member_heeds layout (Shard o) (Pass w) r h = absurd h

-- ---- bundles

pub member_opens : (layout : Layout) (m : SeenSide) (b : Caller) → OpensBundle m b
    → OpensFor (seen_of_member layout m) b
member_opens layout (Pass v) b h =
    subst (λ (z : Caller). OpensFor (seen_of_member layout (Pass v)) z) (sym h) (refl, refl, refl)
member_opens layout (Shard o) b h =
    subst (λ (z : Caller). OpensFor (seen_of_member layout (Shard o)) z) (sym h) (refl, refl, refl)

pub member_binds : (layout : Layout) (m : SeenSide) (b c : Caller) → EndsInBundle m b c
    → BindsSide (seen_of_member layout m) b c
member_binds layout (Pass v) b c h =
    subst (λ (z : Caller). BindsSide (seen_of_member layout (Pass v)) b z) (sym h) (refl, refl, refl, refl)
member_binds layout (Shard o) b c h =
    subst (λ (z : Caller). BindsSide (seen_of_member layout (Shard o)) b z) (sym h) (refl, refl, refl, refl)

pub member_leads : (layout : Layout) (m : SeenSide) (b c : Caller) → EndsInBundle m b c → LeadsTogether layout c.view
    → LeadsTogether (seen_of_member layout m).terms.layout c.view
member_leads layout (Pass v) b c h leads = leads
member_leads layout (Shard o) b c h leads = leads

pub member_shape : (layout : Layout) (m : SeenSide) → SideIsValid layout m
    → shape_in (seen_of_member layout m).part.stands ≡ (seen_of_member layout m).terms.shape
member_shape layout (Pass v) h = refl
member_shape layout (Shard o) h = refl

-- ---- meeting

pub member_whole : (layout : Layout) (m : SeenSide) → SideIsValid layout m → HasOrderedTale (seen_of_member layout m)
member_whole layout (Pass v) h = whole_tale layout v (Pass v) h.1
member_whole layout (Shard o) h = whole_tale layout o.pages.owner (Shard o) h.stands

pub member_stands : (layout : Layout) (m : SeenSide) → SideIsValid layout m
    → PartIsTrue (seen_of_member layout m).terms.layout (seen_of_member layout m).part
member_stands layout (Pass v) h = (h, refl)
member_stands layout (Shard o) h = (h, refl)

pub members_may_join : (layout : Layout) (m n : SeenSide)
    → ((seen_of_member layout m).part.shard ≡ None) × ((seen_of_member layout n).part.shard ≡ None)
    → (seen_of_member layout m).heap ≡ (seen_of_member layout n).heap → MayJoin m n
members_may_join layout (Pass v) (Pass w) none same = sym (same_Some v.heap w.heap same)
members_may_join layout (Pass v) (Shard p) none same = none-some p.pages.shard (sym none.1)
members_may_join layout (Shard o) n none same = none-some o.pages.shard (sym none.0)

-- the member that two members became
pub record Joined (s t r : SeenPass) : Type 0 where
  pub none : r.part.shard ≡ None
  pub heap : r.heap ≡ s.heap
  pub terms : r.terms ≡ s.terms
  pub tale : tale_told r ≡ tale_told s ++ tale_told t
  pub orders : KeepsOrders (s.orders ++ t.orders) r.orders
  pub parts : parts_carried r ≡ parts_carried s ++ parts_carried t

pub members_join : (layout : Layout) (m n r : SeenSide) → SideJoins layout m n r
    → Joined (seen_of_member layout m) (seen_of_member layout n) (seen_of_member layout r)
members_join layout (Pass v) (Pass w) (Pass r) h = record {
  none = refl;
  heap = ap (λ x. Some x) h.0;
  terms = ap (λ (z : View). heap_terms layout z.shape) h.1;
  tale = joined_tale layout v w r h.1;
  orders = joined_orders layout v w r h.1;
  parts = parts_of_join layout v w r h.1;
}
members_join layout (Pass v) (Pass w) (Shard p) h = absurd h
members_join layout (Pass v) (Shard p) r h = absurd h
members_join layout (Shard o) n r h = absurd h

-- ---- the pass of a member that owns no shard

pub gives_its_pass : (layout : Layout) (m : SeenSide) (p : Caller) → SideGivesPass m (Ok p)
    → seen_of_caller layout p ≡ seen_of_member layout m
gives_its_pass layout (Pass v) p h = ap (seen_of_caller layout) h
gives_its_pass layout (Shard o) p h = absurd h

pub keeps_no_pass : (layout : Layout) (m n : SeenSide) → (seen_of_member layout m).part.shard ≡ None
    → SideGivesPass m (Err n) → ⊥
keeps_no_pass layout (Pass v) n none h = h
keeps_no_pass layout (Shard o) n none h = none-some o.pages.shard (sym none)
