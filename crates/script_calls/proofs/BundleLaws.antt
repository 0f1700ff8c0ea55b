-- Passes that end in one bundle.
use Rattle.std.proofs.Common.{◌≡◌, List, [], ◌∷◌, ◌++◌, map, Option, Some, sym, refl, ap, ◌∙◌, subst, arith, inl, inr}
use Rattle.std.specs.List.{All, Contains}
use Rattle.std.proofs.lemmas.List.Elements.{All-nil, All-push, All-weaker}
use Rattle.std.proofs.lemmas.List.Elements.{Contains-append_left, Contains-append_right}
use Rattle.sh_table.specs.declared.view.Order.{Order}
use Rattle.sh_table.specs.Seats.{Heap}
use Rattle.sh_table.specs.declared.view.Told.{Told}
use Rattle.sh_table.specs.Together.{LeadsTogether}
use Rattle.sh_table.specs.declared.view.View.{View}
use Rattle.sh_pass.specs.Passes.{Caller}
use Rattle.script_calls.specs.OwnParts.{PartIsTrue, own_part, shape_in}
use Rattle.script_calls.specs.Parts.{RunTerms, SeenPass}
use Rattle.script_calls.specs.Leaving.{AreTogether, BoundSoFar, IsBundledIn, IsBundleFor}
use Rattle.script_calls.specs.Meeting.{AllOfHeap, BindsSide, KeepsOrders, parts_carried}
use Rattle.script_calls.proofs.ListLemmas.{map_more}

pub binding_begins : (heap : Option Heap) (terms : RunTerms) (b : Caller) → IsBundleFor heap terms b
    → BoundSoFar heap terms [] b
binding_begins heap terms b h = record {
  heap_is = h.0;
  shape = h.1;
  leads = inl refl;
  parts = All-nil (IsBundledIn terms b.view);
}

-- the next pass is of the heap of the bundle
pub heap_of_next : {S : Type 0} (seen : S → SeenPass) (heap : Option Heap) (terms : RunTerms) (x : S)
    (rest its : List S) (b : Caller) → Some b.heap ≡ heap → AllOfHeap heap terms (map seen its) → its ≡ x ∷ rest
    → Some b.heap ≡ (seen x).heap
heap_of_next seen heap terms x rest its b same all k =
    let of : AllOfHeap heap terms (seen x ∷ map seen rest) = subst
    (λ (z : List _). AllOfHeap heap terms (map seen z)) k all in same ∙ sym of.0

-- what is in a bundle stays there
still_in : (terms : RunTerms) (b c : View) (s : SeenPass) → ((t : Told) → Contains b.told t → Contains c.told t)
    → KeepsOrders b.orders c.orders → IsBundledIn terms b s → IsBundledIn terms c s
still_in terms b c s told orders h = record {
  stands = h.stands;
  own = told (record { pass = s.pass; own = own_part s.part.stands }) h.own;
  orders = λ o k. orders o (h.orders o k);
}

pub bound_more : {S : Type 0} (seen : S → SeenPass) (heap : Option Heap) (terms : RunTerms) (ys : List S) (x : S)
    (rest its : List S) (b c : Caller) → BoundSoFar heap terms (map seen ys) b → AllOfHeap heap terms (map seen its)
    → its ≡ x ∷ rest → PartIsTrue (seen x).terms.layout (seen x).part
    → shape_in (seen x).part.stands ≡ (seen x).terms.shape → BindsSide (seen x) b c
    → LeadsTogether (seen x).terms.layout c.view → BoundSoFar heap terms (map seen (ys ++ x ∷ [])) c
bound_more seen heap terms ys x rest its b c was all k stands shape binds leads = record {
  heap_is = ap (λ h. Some h) binds.0 ∙ was.heap_is;
  shape = binds.1 ∙ was.shape;
  leads = inr (subst (λ (t : RunTerms). LeadsTogether t.layout c.view) of.1 leads);
  parts = subst (All (IsBundledIn terms c.view)) (sym (map_more seen ys x))
      (All-push (IsBundledIn terms c.view) (map seen ys) (seen x)
      (All-weaker (IsBundledIn terms b.view) (IsBundledIn terms c.view)
      (λ s h. still_in terms b.view c.view s old_told old_orders h) (map seen ys) was.parts) here);
}
  where
    of : AllOfHeap heap terms (seen x ∷ map seen rest)
    of = subst (λ (z : List _). AllOfHeap heap terms (map seen z)) k all

    old_told : (t : Told) → Contains b.view.told t → Contains c.view.told t
    old_told t h = subst (λ (z : List Told). Contains z t) (sym binds.2)
        (Contains-append_left b.view.told (parts_carried (seen x)) t h)

    old_orders : KeepsOrders b.view.orders c.view.orders
    old_orders o h = subst (λ (z : List Order). Contains z o) (sym binds.3)
        (Contains-append_left b.view.orders (seen x).orders o h)

    told : Told
    told = record { pass = (seen x).pass; own = own_part (seen x).part.stands }

    first : Contains (parts_carried (seen x)) told
    first = (0, omega arith, refl)

    here : IsBundledIn terms c.view (seen x)
    here = record {
      stands = (
        subst (λ (t : RunTerms). PartIsTrue t.layout (seen x).part) of.1 stands,
        shape ∙ ap (λ (t : RunTerms). t.shape) of.1,
      );
      own = subst (λ (z : List Told). Contains z told) (sym binds.2)
          (Contains-append_right b.view.told (parts_carried (seen x)) told first);
      orders = λ o h. subst (λ (z : List Order). Contains z o) (sym binds.3)
          (Contains-append_right b.view.orders (seen x).orders o h);
    }

pub all_bound : {S : Type 0} (seen : S → SeenPass) (heap : Option Heap) (terms : RunTerms) (all ys : List S)
    (b : Caller) → ys ≡ all → BoundSoFar heap terms (map seen ys) b → AreTogether terms (map seen all)
all_bound seen heap terms all ys b yielded h =
    subst (λ (z : List _). AreTogether terms (map seen z)) yielded
    (record { bundle = b.view; shape = h.shape; leads = h.leads; parts = h.parts })
