-- Reading the class words of a shard that was adopted.
use Rattle.std.proofs.Common.{◌≡◌, ◌≢◌, ℕ, zero, suc, ◌+◌, ◌<◌, ◌≤◌, ⊎_elim, false, Some, None, List, [], length, set}
use Rattle.std.proofs.Common.{replicate, refl, ap, ◌∙◌, sym, subst, arith, append-nil}
use Rattle.std.proofs.lemmas.Bool.{cases_eq}
use Rattle.std.proofs.lemmas.List.{get_or-set_same, get_or-set_other}
use Rattle.std.proofs.Math.Numerals.{lt_of_le_of_ne}
use Rattle.sh_key.specs.Layout.{Layout}
use Rattle.sh_shape.specs.Places.{pages_of}
use Rattle.sh_slots.specs.declared.hand.Hand.TheVariants.{Idle}
use Rattle.sh_table.specs.Tales.{ViewIsValid}
use Rattle.sh_pass.specs.Passes.{Caller}
use Rattle.sh_pass.specs.Owners.{SeenPage, SeenBell, Aside, OwnerActs, OnPage, SameBells, HasNothing, heap_page}
use Rattle.sh_pass.specs.Owners.{own_body, seen_page, page_noted}
use Rattle.sh_states.specs.declared.states.PageState.{PageState}
use Rattle.sh_states.specs.States.{bare_lists, blank_state, state_at}
use Rattle.sh_shard.specs.Pages.{shard_page, AdoptsShard}
use Rattle.sh_shard.specs.Steps.{StepsAtMost}
use Rattle.sh_shard.specs.Kept.{KeepsPage, KeepsPages}
use Rattle.sh_shard.proofs.Keeping.{page_of, here_at, others_at}
use Rattle.sh_shard.proofs.Sides.{aside_none}
use Rattle.sh_shard.proofs.PageSteps.{paged_of}
use Rattle.sh_pass.proofs.OwnRuns.{aside_then}

abbrev pub state_of : ℕ → PageState
state_of n = record { lists = bare_lists; class_word = n; armed = false }

-- the class words of the first n pages were read
pub record Reading (layout : Layout) (shard n : ℕ) (v w : Caller) (states : List PageState) : Type 0 where
  pub aside : Aside v w
  pub log : w.view.own.log ≡ v.view.own.log
  pub stands : ViewIsValid layout w.view
  pub idle : (own_body w).hand ≡ Idle
  pub owned : (own_body w).owned ≡ Some shard
  pub bell : (own_body w).bell_cursor ≡ None
  pub none : (q : ℕ) → HasNothing (seen_page w q)
  pub pages : (p : ℕ) → p < n → KeepsPage (state_at states p) (page_of w shard p)
  pub later : (p : ℕ) → n ≤ p → state_at states p ≡ blank_state
  pub steps : length w.view.own.trail ≡ length v.view.own.trail + n

all_blank : (n p : ℕ) → state_at (replicate n blank_state) p ≡ blank_state
all_blank zero p = refl
all_blank (suc n) zero = refl
all_blank (suc n) (suc p) = all_blank n p

pub reading_none : {layout : Layout} (shard n : ℕ) (v : Caller) (states : List PageState) → (own_body v).hand ≡ Idle
    → (own_body v).owned ≡ Some shard → (own_body v).bell_cursor ≡ None → ((q : ℕ) → HasNothing (seen_page v q))
    → ViewIsValid layout v.view → states ≡ replicate n blank_state → Reading layout shard 0 v v states
reading_none shard n v states idle owned bell none stands blank = record {
  aside = aside_none v;
  log = refl;
  stands = stands;
  idle =
      idle;
  owned = owned;
  bell = bell;
  none = none;
  pages = λ p l. absurd (omega arith);
  later = λ p l. ap (λ (z : List PageState). state_at z p) blank ∙ all_blank n p;
  steps = omega arith;
}

noted_nothing : (g : SeenPage) (n : ℕ) → HasNothing g → HasNothing (page_noted g n)
noted_nothing g n h = record { mine = h.mine; cursor = h.cursor; armed = h.armed }

pub kept_first : (g : SeenPage) (n : ℕ) → HasNothing g → n ≤ 8 → KeepsPage (state_of n) (page_noted g n)
kept_first g n h l = record {
  class = refl;
  few = l;
  cursor = h.cursor;
  armed = h.armed;
  mine = λ s. sym (h.mine s);
  blank = λ e. refl;
  unread = λ e. refl;
}

pub reading_more : {layout : Layout} (shard n word : ℕ) (v w x : Caller) (states after : List PageState)
    → Reading layout shard n v w states → n < length states → OwnerActs Idle [] 1 w x → SameBells layout w x
    → OnPage (heap_page w (shard_page shard n)) (page_noted (page_of w shard n) word) w x
    → ViewIsValid layout x.view → word ≤ 8 → after ≡ set states n (state_of word)
    → Reading layout shard (n + 1) v x after
reading_more {layout} shard n word v w x states after r inside acts bells on stands few is = record {
  steps = let e = r.steps in let f = acts.steps in omega arith;
  aside = aside_then r.aside acts.aside;
  log = acts.log ∙ (append-nil w.view.own.log ∙ r.log);
  stands = stands;
  idle = acts.hand;
  owned = acts.aside.owned ∙ r.owned;
  bell = ap (λ (b : SeenBell). b.cursor) (bells shard) ∙ r.bell;
  none = λ q. ⊎_elim
      (λ (e : q ≡ heap_page w (shard_page shard n)). subst (λ z. HasNothing (seen_page x z)) (sym e)
      (subst HasNothing (sym on.here) (noted_nothing (page_of w shard n) word
      (r.none (heap_page w (shard_page shard n))))))
      (λ (ne : q ≢ heap_page w (shard_page shard n)). subst HasNothing (sym (on.others q ne)) (r.none q))
      (cases_eq q (heap_page w (shard_page shard n)));
  pages = λ p l. ⊎_elim
      (λ (e : p ≡ n). subst (λ z. KeepsPage (state_at after z) (page_of x shard z)) (sym e) kept_here)
      (λ (ne : p ≢ n). let P : PageState × SeenPage → Type 0 = λ z. KeepsPage z.0 z.1 in
      let h = others_at w x shard n acts.aside.same.shape on p ne in
      subst P (λ i. (sym (state_else p ne) i, sym h i)) (r.pages p (lt_of_le_of_ne (let z = l in omega arith) ne)))
      (cases_eq p n);
  later = λ p l. state_else p (λ e. absurd (omega arith)) ∙ r.later p (omega arith);
} where
  state_else : (p : ℕ) → p ≢ n → state_at after p ≡ state_at states p
  state_else p ne = ap (λ (z : List PageState). state_at z p) is
      ∙ get_or-set_other states n p (state_of word) blank_state ne

  here : page_of x shard n ≡ page_noted (page_of w shard n) word
  here = here_at w x shard n acts.aside.same.shape on

  kept_here : KeepsPage (state_at after n) (page_of x shard n)
  kept_here = subst (λ (z : PageState). KeepsPage z (page_of x shard n))
      (sym (ap (λ (z : List PageState). state_at z n) is
      ∙ get_or-set_same states n (state_of word) blank_state inside))
      (subst (KeepsPage (state_of word)) (sym here) (kept_first (page_of w shard n) word
      (r.none (heap_page w (shard_page shard n))) few))

pub reading_keeps : {layout : Layout} (shard n : ℕ) (v w : Caller) (states : List PageState)
    → Reading layout shard n v w states → length states ≡ n → n ≡ pages_of v.view.shape
    → KeepsPages layout w shard None states
reading_keeps shard n v w states r all size = record {
  stands = r.stands;
  idle = r.idle;
  owned = r.owned;
  bell = r.bell;
  few = all ∙ (size ∙ ap pages_of (sym r.aside.same.shape));
  pages = λ p l. r.pages p (omega arith);
}

pub reading_adopts : (layout : Layout) (shard n : ℕ) (v w : Caller) (states : List PageState)
    → Reading layout shard n v w states → length states ≡ n → n ≡ pages_of v.view.shape
    → AdoptsShard v shard (paged_of layout w shard states)
reading_adopts layout shard n v w states r all size = record {
  heap = r.aside.heap;
  same = r.aside.same;
  log = r.log;
  holds = r.aside.holds;
  owned = r.owned;
  shard = refl;
  count = all ∙ size;
  bell = r.bell;
  pages = λ p l. let h = r.none (heap_page w (shard_page shard p)) in let k = r.pages p (omega arith)
      in record {
        mine = h.mine;
        cursor = h.cursor;
        armed = h.armed;
        word = (state_at states p).class_word;
        class = k.class;
        few = k.few;
      };
}

pub reading_in : {layout : Layout} (shard n : ℕ) (v w : Caller) (states : List PageState)
    → Reading layout shard n v w states → length states ≡ n → StepsAtMost (length states) v w
reading_in shard n v w states r all = let e = r.steps in omega arith
