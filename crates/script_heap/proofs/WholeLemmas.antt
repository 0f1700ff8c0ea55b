-- What a pass that carries the tales of all still knows after it noted more.
use Rattle.std.proofs.Common.{◌≡◌, ℕ, zero, suc, ◌++◌, Bool, true, false, List, [], ◌∷◌, map, refl, sym, ap, ◌∙◌, subst}
use Rattle.std.proofs.Common.{Option, Some, Result, Ok, Err, OnOk, append-nil}
use Rattle.std.proofs.lemmas.Option.{same_Some}
use Rattle.sh_key.specs.Layout.{Layout}
use Rattle.sh_history.specs.declared.entry.Entry.{Entry}
use Rattle.sh_shape.specs.Shape.{Numbers}
use Rattle.sh_shape.specs.Places.{page_number}
use Rattle.sh_step.specs.declared.action.Event.{Event}
use Rattle.sh_step.specs.Plans.{plan_of}
use Rattle.sh_core.specs.Worlds.{run}
use Rattle.sh_table.specs.declared.view.View.{View}
use Rattle.sh_script.specs.declared.calls.CallLine.{CallLine}
use Rattle.sh_table.specs.Seats.{Heap}
use Rattle.sh_table.specs.Tales.{Before}
use Rattle.sh_table.specs.Whole.{IsWhole}
use Rattle.sh_table.specs.Views.{Each, newly}
use Rattle.sh_table.specs.declared.view.Told.{Told}
use Rattle.sh_table.specs.Reached.{HasOwn, StepsBefore}
use Rattle.std.specs.List.{All}
use Rattle.std.proofs.lemmas.List.Elements.{All-nil, All-cons, All-contains}
use Rattle.std.specs.Prelude.{◌<◌}
use Rattle.script_calls.specs.Meeting.{parts_carried}
use Rattle.sh_pass.specs.Passes.{Caller, newcomers}
use Rattle.sh_gather.specs.Histories.{IsHistory}
use Rattle.sh_gather.specs.Gathering.{NotedMore}
use Rattle.sh_gather.proofs.Walking.{later_leads, later_shape}
use Rattle.sh_member.specs.Sides.{SeenSide}
use Rattle.script_calls.specs.Parts.{HasWholeTale, tale_told, new_pass, new_passes, heap_terms}
use Rattle.script_calls.specs.Running.{as_member, seen_of_caller, seen_of_member}
use Rattle.script_calls.specs.Parts.{RunTerms, told_pass, passes_below}
use Rattle.script_calls.specs.Told.{IsTold}
use Rattle.script_calls.proofs.TaleLaws.{whole_told, tale_is_whole}
use Rattle.script_calls.proofs.InTurn.{passes_are}
use Rattle.script_output.specs.AccountLines.{Later, ShardsSaid, accounts_after, accounts_text}
use Rattle.script_heap.specs.WholeAccounts.{LeadsToWhole, PageSaid, HasNumbers}
use Rattle.script_heap.specs.HeapOutput.{TellsTale, IsHeapOutput, EndsInRun}
use Rattle.script_calls.specs.Finished.{CarrierRan}
use Rattle.script_heap.proofs.LineRuns.{runs_by_line}

each_all : {A : Type 0} (P : A → Type 0) (xs : List A) → Each P xs → All P xs
each_all P [] h = All-nil P
each_all P (x ∷ xs) h = All-cons P x xs h.0 (each_all P xs h.1)

-- the events that lead to all that the pass knows lead to each own part that it carries
leads_parts : (layout : Layout) (v : Caller) (es : List Event) (n : Numbers) → v.view.shape ≡ n
    → LeadsToWhole layout v es
    → All (λ (t : Told). HasOwn (plan_of layout n) es t.pass t.own) (parts_carried (seen_of_caller layout v))
leads_parts layout v es n same l =
    let T : Told → Type 0 = λ t. HasOwn (plan_of layout v.view.shape) es t.pass t.own in
    subst (λ (s : Numbers). All (λ (t : Told). HasOwn (plan_of layout s) es t.pass t.own)
    (parts_carried (seen_of_caller layout v))) same
    (each_all T (parts_carried (seen_of_caller layout v)) (l.leads.own, l.leads.told))

-- and they have the steps in the orders that it knows
leads_steps : (layout : Layout) (v : Caller) (es : List Event) (n : Numbers) → v.view.shape ≡ n
    → LeadsToWhole layout v es → Each (StepsBefore (plan_of layout n) es) v.view.orders
leads_steps layout v es n same l =
    subst (λ (s : Numbers). Each (StepsBefore (plan_of layout s) es) v.view.orders) same l.leads.steps

-- the history of a view that noted more is a history of the view before
same_history : (layout : Layout) (v w : View) (history : List Entry) → NotedMore v w → IsHistory layout w history
    → IsHistory layout v history
same_history layout v w history h k =
    let at : IsHistory layout (record v { noted = v.noted ++ h.0 }) history =
    subst (λ (x : View). IsHistory layout x history) h.1 k in
    let t = at.tale in
    record { tale = record { legal = t.legal; own = t.own; told = t.told; orders = t.orders }; ours = at.ours }

pub later_whole : (layout : Layout) (v w : Caller) → w.heap ≡ v.heap → NotedMore v.view w.view
    → Later false (λ (c : Caller). c.heap.shape) (λ c es. LeadsToWhole layout c es) (λ c q a. PageSaid layout c q a) v w
later_whole layout v w heap more =
    let shape : w.view.shape ≡ v.view.shape = later_shape v.view w.view more in record {
      is_fixed = λ f. absurd (let e : false ≡ true = f in cc);
      same = ap (λ h. h.shape) heap;
      narrows = λ es l. record {
        shape = sym shape ∙ (l.shape ∙ ap (λ h. h.shape) heap);
        leads = later_leads layout v.view w.view more es l.leads;
        history = subst (λ (n : Numbers). IsHistory layout v.view (run (plan_of layout n) es).log) shape
            (same_history layout v.view w.view (run (plan_of layout w.view.shape) es).log more l.history);
      };
      keeps = λ q a s. record {
        numbers = λ history h. subst (λ (n : Numbers). HasNumbers (plan_of layout n) q a history) (sym shape)
            (s.numbers history (same_history layout v.view w.view history more h));
      };
    }

-- the text of the accounts by the log of events that lead to all that the pass knows in the end
pub tells_tale : (layout : Layout) (v w : Caller) (es : List Event) (old new : List ℕ)
    → Later false (λ (c : Caller). c.heap.shape) (λ c es. LeadsToWhole layout c es) (λ c q a. PageSaid layout c q a) v w
    → LeadsToWhole layout w es
    → new ≡ old ++ accounts_text v.heap.shape (accounts_after (plan_of layout v.heap.shape) es)
    → ShardsSaid (λ q a. PageSaid layout w q a) v.heap.shape (accounts_after (plan_of layout v.heap.shape) es)
    v.heap.shape.shards
    → (text : List ℕ) × (new ≡ old ++ text)
    × TellsTale layout v.heap.shape (tale_told (seen_of_caller layout v)) v.view.orders
    (parts_carried (seen_of_caller layout v)) text
tells_tale layout v w es old new later lw is said =
    let n : Numbers = v.heap.shape in
    let H : List Entry = (run (plan_of layout n) es).log in
    let lv : LeadsToWhole layout v es = later.narrows es lw in
    let at_v : IsHistory layout v.view H =
    subst (λ (s : Numbers). IsHistory layout v.view (run (plan_of layout s) es).log) lv.shape lv.history in
    let same : w.view.shape ≡ n = lw.shape ∙ later.same in
    let at_w : IsHistory layout w.view H =
    subst (λ (s : Numbers). IsHistory layout w.view (run (plan_of layout s) es).log) same lw.history in
    let told = whole_told layout v n H lv.shape at_v.tale at_v.ours in (
      accounts_text n (accounts_after (plan_of layout n) es),
      is,
      record {
        whole = told.0;
        kept = subst (λ (l : List Entry). Each (Before l) v.view.orders) (sym told.1) at_v.tale.orders;
        events = es;
        log = sym told.1;
        lines = record {
          is = refl;
          numbers = λ shard below page small.
              let q = page_number n shard page in
              let a = accounts_after (plan_of layout n) es q in
              subst (λ (s : Numbers). HasNumbers (plan_of layout s) q a told.0.history) same
              (subst (HasNumbers (plan_of layout w.view.shape) q a) (sym told.1)
              ((said shard below page small).numbers H at_w));
        };
        parts = leads_parts layout v es n lv.shape lv;
        steps = leads_steps layout v es n lv.shape lv;
      },
    )

-- the same for a call that may be refused memory
pub tells_result : {T E : Type 0} (r : Result T E) (layout : Layout) (v w first : Caller) (old new : List ℕ)
    → first ≡ v
    → Later false (λ (c : Caller). c.heap.shape) (λ c es. LeadsToWhole layout c es) (λ c q a. PageSaid layout c q a)
    first w
    → OnOk r ((es : List Event) × LeadsToWhole layout w es)
    → ((es : List Event) → LeadsToWhole layout w es → OnOk r (new
    ≡ old ++ accounts_text first.heap.shape (accounts_after (plan_of layout first.heap.shape) es)))
    → ((es : List Event) → LeadsToWhole layout w es → OnOk r (ShardsSaid (λ q a. PageSaid layout w q a)
    first.heap.shape (accounts_after (plan_of layout first.heap.shape) es) first.heap.shape.shards))
    → OnOk r ((text : List ℕ) × (new ≡ old ++ text)
    × TellsTale layout v.heap.shape (tale_told (seen_of_caller layout v)) v.view.orders
    (parts_carried (seen_of_caller layout v)) text)
tells_result (Ok x) layout v w first old new is later reached text said =
    let P : Caller → Type 0 = λ u. (text : List ℕ) × (new ≡ old ++ text)
    × TellsTale layout u.heap.shape (tale_told (seen_of_caller layout u)) u.view.orders
    (parts_carried (seen_of_caller layout u)) text in
    subst P is
    (tells_tale layout first w reached.0 old new later reached.1 (text reached.0 reached.1) (said reached.0 reached.1))
tells_result (Err e) layout v w first old new is later reached text said = tt

-- ---- the passes of a heap that was opened

seen_members : (layout : Layout) (ps : List Caller) → map (λ (m : SeenSide). seen_of_member layout m) (map as_member ps)
    ≡ map (seen_of_caller layout) ps
seen_members layout [] = refl
seen_members layout (p ∷ ps) = ap (λ l. seen_of_caller layout p ∷ l) (seen_members layout ps)

seen_append : (layout : Layout) (xs : List Caller) (x : Caller) → map (seen_of_caller layout) (xs ++ x ∷ [])
    ≡ map (seen_of_caller layout) xs ++ seen_of_caller layout x ∷ []
seen_append layout [] x = refl
seen_append layout (y ∷ ys) x = ap (λ l. seen_of_caller layout y ∷ l) (seen_append layout ys x)

seen_newcomers : (layout : Layout) (heap : Heap) (n : ℕ) → map (seen_of_caller layout) (newcomers heap n)
    ≡ new_passes (Some heap) (heap_terms layout heap.shape) n
seen_newcomers layout heap zero = refl
seen_newcomers layout heap (suc n) =
    seen_append layout (newcomers heap n) (record { heap = heap; view = newly heap.shape n })
    ∙ ap (λ l. l ++ new_pass (Some heap) (heap_terms layout heap.shape) n ∷ []) (seen_newcomers layout heap n)

pub members_are : (layout : Layout) (heap : Heap) (n : ℕ) (passes : List Caller) (members : List SeenSide)
    → members ≡ map as_member passes → passes ≡ newcomers heap n
    → map (λ (m : SeenSide). seen_of_member layout m) members ≡ new_passes (Some heap) (heap_terms layout heap.shape) n
members_are layout heap n passes members is all = ap (map (λ (m : SeenSide). seen_of_member layout m)) is
    ∙ (seen_members layout passes ∙ (ap (map (seen_of_caller layout)) all ∙ seen_newcomers layout heap n))

-- ---- the pass that carries the tale of all

module _ (alone : Bool) (layout : Layout) (heap : Heap) (tag : Option ℕ) (lines : List CallLine) (output : List ℕ)
    (v : Caller)
    (ran : CarrierRan alone (Some heap) (heap_terms layout heap.shape) tag lines output (seen_of_caller layout v)) where
  pub carrier_heap : v.heap ≡ heap
  carrier_heap = same_Some v.heap heap ran.carries.0

  pub carrier_whole : IsWhole v.view
  carrier_whole =
      let shape : v.view.shape ≡ heap.shape = ap (λ (t : RunTerms). t.shape) ran.carries.1 in
      let passes : map told_pass (tale_told (seen_of_caller layout v)) ≡ passes_below heap.shape.passes =
      ap (map told_pass) ran.told.tale_is
      ∙ passes_are ran.told.replies.after.parts (passes_below heap.shape.passes) in
      tale_is_whole layout v (passes ∙ ap (λ (n : Numbers). passes_below n.passes) (sym shape))

  -- the tale by one of its histories
  abbrev told_by : (w : HasWholeTale (heap_terms layout heap.shape) (tale_told (seen_of_caller layout v)))
      → Each (Before w.history) v.view.orders
      → IsTold alone (Some heap) (heap_terms layout heap.shape) tag lines output (tale_told (seen_of_caller layout v))
  told_by w kept = record {
    within = ran.told.within;
    replies = ran.told.replies;
    tale_is = ran.told.tale_is;
    whole = w;
    named = ran.named w.history w.has w.only kept;
    in_order = λ e. ran.ordered e w.history w.has w.only kept;
  }

  -- each pass ended with a part that it has after these events
  ended_in : (events : List Event)
      → All (λ (t : Told). HasOwn (plan_of layout heap.shape) events t.pass t.own)
      (parts_carried (seen_of_caller layout v)) → (p : ℕ) → p < heap.shape.passes
      → EndsInRun (plan_of layout heap.shape) events p (ran.told.replies.after.parts p)
  ended_in events all p lt =
      let e = ran.ended p lt in (
        e.0,
        e.1,
        e.2.0,
        e.2.1,
        All-contains (λ (t : Told). HasOwn (plan_of layout heap.shape) events t.pass t.own)
            (parts_carried (seen_of_caller layout v)) (record { pass = p; own = e.2.0 }) all e.2.2,
      )

  -- with the accounts by the history of the tale
  pub with_accounts : (new : List ℕ)
      → ((text : List ℕ) × (new ≡ output ++ text)
      × TellsTale layout v.heap.shape (tale_told (seen_of_caller layout v)) v.view.orders
      (parts_carried (seen_of_caller layout v)) text)
      → IsHeapOutput alone layout heap.shape tag lines true new
  with_accounts new t =
      let tells : TellsTale layout heap.shape (tale_told (seen_of_caller layout v)) v.view.orders
      (parts_carried (seen_of_caller layout v)) t.0 =
      subst (λ (h : Heap). TellsTale layout h.shape (tale_told (seen_of_caller layout v)) v.view.orders
      (parts_carried (seen_of_caller layout v)) t.0)
      carrier_heap t.2 in
      record {
        heap = heap;
        of_shape = refl;
        replies = output;
        tale = tale_told (seen_of_caller layout v);
        told = told_by tells.whole tells.kept;
        events = tells.events;
        log = tells.log;
        steps = ended_in tells.events tells.parts;
        by_line = λ e. runs_by_line layout heap tag lines ran.told.replies.answers ran.told.replies.after
            tells.events v.view.orders tells.steps (ran.steps e) (ended_in tells.events tells.parts);
        accounts = t.0;
        is = t.1;
        are = tells.lines;
      }

  -- without them, by the log of events that lead to all that the pass knows
  pub without_accounts : (events : List Event) → LeadsToWhole layout v events
      → IsHeapOutput alone layout heap.shape tag lines false output
  without_accounts events led =
      let same : v.view.shape ≡ heap.shape = ap (λ (t : RunTerms). t.shape) ran.carries.1 in
      let H : List Entry = (run (plan_of layout heap.shape) events).log in
      let at : IsHistory layout v.view H =
      subst (λ (s : Numbers). IsHistory layout v.view (run (plan_of layout s) events).log) same led.history in
      let w = whole_told layout v heap.shape H same at.tale at.ours in
      record {
        heap = heap;
        of_shape = refl;
        replies = output;
        tale = tale_told (seen_of_caller layout v);
        told = told_by w.0 (subst (λ (l : List Entry). Each (Before l) v.view.orders) (sym w.1) at.tale.orders);
        events = events;
        log = sym w.1;
        steps = ended_in events (leads_parts layout v events heap.shape same led);
        by_line = λ e. runs_by_line layout heap tag lines ran.told.replies.answers ran.told.replies.after events
            v.view.orders (leads_steps layout v events heap.shape same led) (ran.steps e)
            (ended_in events (leads_parts layout v events heap.shape same led));
        accounts = [];
        is = sym (append-nil output);
        are = refl;
      }
