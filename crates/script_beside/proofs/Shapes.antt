-- The shape of the heap, as each pass knows it: no call changes it, so the key that an insert gives has a place in it.
use Rattle.std.proofs.Common.{◌≡◌, ℕ, true, List, refl, ap, sym, ◌∙◌, subst, Option, Some, None}
use Rattle.std.proofs.Common.{Result, Ok, Err, inl, inr}
use Rattle.std.specs.Prelude.{IsSome}
use Rattle.sh_value.specs.declared.hold.Hold.{Hold}
use Rattle.sh_value.specs.declared.refusal.Refusal.{Refusal}
use Rattle.sh_value.specs.declared.refusal.Refusal.TheVariants as refusal
use Rattle.sh_key.specs.Layout.{Layout}
use Rattle.sh_shape.specs.Shape.{Numbers}
use Rattle.sh_slots.specs.declared.hand.KeyRef.{KeyRef}
use Rattle.sh_pass.specs.Passes.{Caller, GetDoes, ReadDoes, RemoveDoes, ReleaseDoes}
use Rattle.sh_shard.specs.Pages.{AdoptRefused}
use Rattle.sh_shard.specs.Shards.{Sharded, InsertServes, value_class}
use Rattle.sh_script.specs.declared.calls.Call.{Call}
use Rattle.sh_script.specs.declared.calls.Call.TheVariants as call
use Rattle.script_output.specs.declared.answer.Answer.{Answer}
use Rattle.sh_member.specs.declared.member.Side.TheVariants.{Pass, Shard}
use Rattle.sh_member.specs.Sides.{SeenSide, SideDoes, SideAdopts, SideLeaves, SideInserts}
use Rattle.script_calls.specs.Parts.{RunTerms, PassPart, is_placed_key}
use Rattle.script_calls.specs.Receipts.{MayHeed, SideHeeded}
use Rattle.script_calls.specs.Calls.{CallAnswers, OnKey, UnlessRefused, key_meant, words_refusal}
use Rattle.script_calls.proofs.PlacedKeys.{placed}

abbrev pub KnowsShape : Numbers → SeenSide → Type 0
KnowsShape n (Pass c) = c.view.shape ≡ n
KnowsShape n (Shard o) = o.pages.owner.view.shape ≡ n

-- ---- what calls of a pass leave

unmoved : (v w : Caller) → w ≡ v → w.view.shape ≡ v.view.shape
unmoved v w e = ap (λ (c : Caller). c.view.shape) e

get_same : (layout : Layout) (key : ℕ) (v w : Caller) (r : Result Hold Refusal) → GetDoes layout key v r w
    → w.view.shape ≡ v.view.shape
get_same layout key v w (Ok hold) h = h.3.same.shape
get_same layout key v w (Err refusal.BadKey) h = unmoved v w h.1
get_same layout key v w (Err refusal.HoldsFull) h = unmoved v w h.2
get_same layout key v w (Err refusal.Gone) h = h.2.same.shape
get_same layout key v w (Err refusal.Crowded) h = h.2.same.shape
get_same layout key v w (Err _) h = absurd h

remove_same : (layout : Layout) (key : ℕ) (v w : Caller) (r : Result (Unit {0}) Refusal) → RemoveDoes layout key v r w
    → w.view.shape ≡ v.view.shape
remove_same layout key v w (Ok x) h = h.1.same.shape
remove_same layout key v w (Err refusal.BadKey) h = unmoved v w h.1
remove_same layout key v w (Err refusal.Gone) h = h.1.same.shape
remove_same layout key v w (Err _) h = absurd h

read_same : (key : ℕ) (v w : Caller) (r : Result (List ℕ) Refusal) → ReadDoes key v r w
    → w.view.shape ≡ v.view.shape
read_same key v w (Ok value) h = h.1.same.shape
read_same key v w (Err refusal.NotHeld) h = unmoved v w h.1
read_same key v w (Err _) h = absurd h

release_same : (layout : Layout) (key : ℕ) (v w : Caller) (r : Result (Unit {0}) Refusal)
    → ReleaseDoes layout key v r w → w.view.shape ≡ v.view.shape
release_same layout key v w (Ok x) h = h.1.same.shape
release_same layout key v w (Err refusal.NotHeld) h = unmoved v w h.1
release_same layout key v w (Err _) h = absurd h

-- ---- a member

module _ (n : Numbers) where
  knows_still : (s t : SeenSide) → t ≡ s → KnowsShape n s → KnowsShape n t
  knows_still s t e k = subst (KnowsShape n) (sym e) k

  serve_keeps : {A : Type 0} (layout : Layout) (does : Caller → Result A Refusal → Caller → Type 0) (s : SeenSide)
      (r : Result A Refusal) (t : SeenSide) → ((v w : Caller) → does v r w → w.view.shape ≡ v.view.shape)
      → SideDoes layout does s r t → KnowsShape n s → KnowsShape n t
  serve_keeps layout does (Pass v) r (Pass w) same h k = same v w h.0 ∙ k
  serve_keeps layout does (Shard o) r (Shard m) same h k = h.1.same.shape ∙ k
  serve_keeps layout does (Pass v) r (Shard m) same h k = absurd h
  serve_keeps layout does (Shard o) r (Pass w) same h k = absurd h

  heed_keeps : (r : Caller) (s t : SeenSide) → SideHeeded r s t → KnowsShape n s → KnowsShape n t
  heed_keeps r (Pass v) t h k = subst (KnowsShape n) (sym h) k
  heed_keeps r (Shard o) t h k = subst (KnowsShape n) (sym h) k

  refused_same : (shard : ℕ) (v w : Caller) (e : Refusal) → AdoptRefused shard v w e → w.view.shape ≡ v.view.shape
  refused_same shard v w refusal.NoShard h = unmoved v w h.1
  refused_same shard v w refusal.Taken h = h.1.same.shape
  refused_same shard v w refusal.Memory h = h.1.same.shape
  refused_same shard v w _ h = absurd h

  adopt_keeps : (shard : ℕ) (s : SeenSide) (r : Result (Unit {0}) Refusal) (t : SeenSide)
      → SideAdopts shard s r t → KnowsShape n s → KnowsShape n t
  adopt_keeps shard (Pass v) (Ok x) (Shard m) h k = h.1.same.shape ∙ k
  adopt_keeps shard (Pass v) (Ok x) (Pass w) h k = absurd h
  adopt_keeps shard (Pass v) (Err e) (Pass w) h k = refused_same shard v w e h ∙ k
  adopt_keeps shard (Pass v) (Err e) (Shard m) h k = absurd h
  adopt_keeps shard (Shard o) r t h k = knows_still (Shard o) t h.1 k

  leave_keeps : (s : SeenSide) (r : Result (Unit {0}) Refusal) (t : SeenSide) → SideLeaves s r t
      → KnowsShape n s → KnowsShape n t
  leave_keeps (Shard o) (Ok x) (Pass w) h k = h.same.shape ∙ k
  leave_keeps (Shard o) (Ok x) (Shard m) h k = absurd h
  leave_keeps (Shard o) (Err e) (Shard m) h k = h.1.collects.through.aside.same.shape ∙ k
  leave_keeps (Shard o) (Err e) (Pass w) h k = absurd h
  leave_keeps (Pass v) r t h k = knows_still (Pass v) t h.1 k

  insert_same : (layout : Layout) (c : ℕ) (words : List ℕ) (o m : Sharded) (r : Result ℕ Refusal)
      → InsertServes layout c words o r m → m.pages.owner.view.shape ≡ o.pages.owner.view.shape
  insert_same layout c words o m (Ok key) h = h.0.aside.same.shape
  insert_same layout c words o m (Err refusal.Full) h = h.left.through.aside.same.shape
  insert_same layout c words o m (Err refusal.Memory) h = h.0.aside.same.shape
  insert_same layout c words o m (Err _) h = absurd h

  insert_keeps : (layout : Layout) (words : List ℕ) (s : SeenSide) (r : Result ℕ Refusal) (t : SeenSide)
      → SideInserts layout words s r t → KnowsShape n s → KnowsShape n t
  insert_keeps layout words (Pass v) r t h k = knows_still (Pass v) t h.1 k
  insert_keeps layout words (Shard o) r (Shard m) h k = insert_same layout (value_class words) words o m r h.0 ∙ k
  insert_keeps layout words (Shard o) r (Pass w) h k = absurd h

  -- the key that was given has a place
  pub placed_key : (layout : Layout) (words : List ℕ) (s : SeenSide) (key : ℕ) (t : SeenSide)
      → SideInserts layout words s (Ok key) t → KnowsShape n s → is_placed_key layout n key ≡ true
  placed_key layout words (Pass v) key t h k = absurd (let e = h.0 in cc)
  placed_key layout words (Shard o) key (Shard m) h k =
      subst (λ (z : Numbers). is_placed_key layout z key ≡ true) k
      (placed layout o.pages.owner.view.shape key
      (subst (λ (z : Option KeyRef). IsSome z) (sym h.0.1.1) refl))
  placed_key layout words (Shard o) key (Pass w) h k = absurd h

  -- ---- a line

  pub heeding : (v w : PassPart) → MayHeed v w → KnowsShape n v.stands → KnowsShape n w.stands
  heeding v w (inl e) k = knows_still v.stands w.stands (ap (λ (p : PassPart). p.stands) e) k
  heeding v w (inr h) k = heed_keeps h.0 v.stands w.stands h.1.stands k

  key_keeps : (m : Result ℕ Answer) (v w : PassPart) (a : Answer) (C : ℕ → Answer → PassPart → Type 0)
      → ((key : ℕ) → C key a w → KnowsShape n v.stands → KnowsShape n w.stands) → OnKey m v C a w
      → KnowsShape n v.stands → KnowsShape n w.stands
  key_keeps (Err b) v w a C some h k = knows_still v.stands w.stands (ap (λ (p : PassPart). p.stands) h.1) k
  key_keeps (Ok key) v w a C some h k = some key h k

  unless_keeps : {A : Type 0} (first : Option Refusal) (r : Result A Refusal) (v w : PassPart) (Rest : Type 0)
      → (Rest → KnowsShape n v.stands → KnowsShape n w.stands) → UnlessRefused first r (w ≡ v) Rest
      → KnowsShape n v.stands → KnowsShape n w.stands
  unless_keeps None r v w Rest rest h k = rest h k
  unless_keeps (Some e) r v w Rest rest h k = knows_still v.stands w.stands (ap (λ (p : PassPart). p.stands) h.1) k

  pub keeps_shape : (terms : RunTerms) (tag : Option ℕ) (pass : ℕ) (v : PassPart) (c : Call) (bound : Option ℕ)
      (a : Answer) (w : PassPart) → CallAnswers terms tag pass v c bound a w → KnowsShape n v.stands
      → KnowsShape n w.stands
  keeps_shape terms tag pass v (call.Adopt shard) bound a w h =
      adopt_keeps shard v.stands h.result w.stands h.does.1
  keeps_shape terms tag pass v call.Leave bound a w h = leave_keeps v.stands h.result w.stands h.does.1
  keeps_shape terms tag pass v (call.Insert words) bound a w h = unless_keeps (words_refusal words) h.result v w _
      (λ i. insert_keeps terms.layout words v.stands h.result w.stands i.1) h.does
  keeps_shape terms tag pass v (call.Get r) bound a w h = key_keeps (key_meant tag bound r) v w a _
      (λ key g. serve_keeps terms.layout (GetDoes terms.layout key) v.stands g.result w.stands
      (λ x y d. get_same terms.layout key x y g.result d) g.does.1) h
  keeps_shape terms tag pass v (call.Read r) bound a w h = key_keeps (key_meant tag bound r) v w a _
      (λ key g. serve_keeps terms.layout (ReadDoes key) v.stands g.result w.stands
      (λ x y d. read_same key x y g.result d) g.does.1) h
  keeps_shape terms tag pass v (call.Remove r) bound a w h = key_keeps (key_meant tag bound r) v w a _
      (λ key g. serve_keeps terms.layout (RemoveDoes terms.layout key) v.stands g.result w.stands
      (λ x y d. remove_same terms.layout key x y g.result d) g.does.1) h
  keeps_shape terms tag pass v (call.Release r) bound a w h = key_keeps (key_meant tag bound r) v w a _
      (λ key g. serve_keeps terms.layout (ReleaseDoes terms.layout key) v.stands g.result w.stands
      (λ x y d. release_same terms.layout key x y g.result d) g.does.1) h
  keeps_shape terms tag pass v call.Post bound a w h = knows_still v.stands w.stands
      (ap (λ (p : PassPart). p.stands) h.1)
  keeps_shape terms tag pass v (call.Wait name) bound a w h = knows_still v.stands w.stands
      (ap (λ (p : PassPart). p.stands) h.1)
