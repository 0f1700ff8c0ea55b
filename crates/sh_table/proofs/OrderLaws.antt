-- What a carrier heard comes before all its later results.
use Rattle.std.proofs.Common.{◌≡◌, ℕ, suc, ◌+◌, ◌≤◌, ◌==◌, Bool, true, false, cond, List, [], ◌∷◌}
use Rattle.std.proofs.Common.{◌++◌, length, refl, ap, sym, ◌∙◌, subst, arith, append_assoc, ⊎_elim, None, Some}
use Rattle.std.specs.List.{AllZip, Contains}
use Rattle.std.proofs.lemmas.Bool.{false≢true}
use Rattle.std.proofs.lemmas.List.{length-append, nil_from_length}
use Rattle.std.proofs.lemmas.List.Elements.{Contains-append_left, Contains-append_right, Contains-push}
use Rattle.sh_history.specs.declared.entry.Entry.{Entry}
use Rattle.sh_history.specs.declared.entry.Entry.TheVariants.{Insert, Got, Gone, Crowded, Removed, Released, Seen}
use Rattle.sh_history.specs.declared.log.LogEntry.{LogEntry}
use Rattle.sh_history.specs.declared.log.LogEntry.TheVariants.{Known, Unread}
use Rattle.sh_history.specs.History.{value_of, is_removed, Allowed, Legal}
use Rattle.sh_history.specs.Log.{Agrees, pass_of}
use Rattle.sh_history.proofs.Laws.{legal_after_parts}
use Rattle.sh_history.proofs.LogLaws.{value_of_insert, value_of_got, value_of_seen, zip_splits}
use Rattle.sh_history.proofs.Standing.{splits_at, has_removal, removed_has_removal}
use Rattle.sh_key.specs.Layout.{Layout}
use Rattle.sh_table.specs.declared.view.Heard.{Heard}
use Rattle.sh_table.specs.declared.view.Told.{Told}
use Rattle.sh_table.specs.declared.view.View.{View}
use Rattle.sh_table.specs.Views.{Each, done_by}
use Rattle.sh_table.specs.Tales.{by, IsLogOf, HasFirst, Before, IsTale}
use Rattle.sh_table.specs.Orders.{HeardComesFirst, GoneIsRemoved, GotIsInserted, RemovedIsGone, SaysThere}
use Rattle.sh_table.specs.Orders.{NothingComesLater, SeenIsInserted}
use Rattle.sh_table.proofs.Zips.{by_append, zip_length}
use Rattle.sh_table.proofs.Hearing.{first_stays}

-- ---- lists that are cut at an element

each_at : {A : Type 0} (P : A → Type 0) (front : List A) (x : A) (rest : List A) → Each P (front ++ x ∷ rest) → P x
each_at P [] x rest h = h.0
each_at P (y ∷ ys) x rest h = each_at P ys x rest h.1

pub each_in : {A : Type 0} (P : A → Type 0) (xs : List A) (x : A) → Contains xs x → Each P xs → P x
each_in P xs x c h = let s = splits_at xs x c in each_at P s.0 x s.1 (subst (Each P) s.2 h)

zip_cut : {A B : Type 0} (R : A → B → Type 0) (front : List A) (x : A) (rest : List A) (ys : List B)
    → AllZip R (front ++ x ∷ rest) ys → (fore : List B) × (y : B) × (aft : List B) × (ys ≡ fore ++ y ∷ aft) × R x y
    × (length fore ≡ length front)
zip_cut R [] x rest [] h = absurd h
zip_cut R [] x rest (y ∷ ys) h = ([], y, ys, refl, h.0, refl)
zip_cut R (z ∷ zs) x rest [] h = absurd h
zip_cut {B = B} R (z ∷ zs) x rest (y ∷ ys) h = let c = zip_cut R zs x rest ys h.1 in
    (y ∷ c.0, c.1, c.2, ap (λ (l : List B). y ∷ l) c.3, c.4, ap suc c.5)

-- what is past the first list is in the second
past : {A : Type 0} (xs ys front : List A) (x : A) (rest : List A) → xs ++ ys ≡ front ++ x ∷ rest
    → length xs ≤ length front → (fore : List A) × (ys ≡ fore ++ x ∷ rest)
past [] ys front x rest e l = (front, e)
past (z ∷ zs) ys [] x rest e l = absurd (omega (arith, l))
past (z ∷ zs) ys (f ∷ fs) x rest e l = let t : zs ++ ys ≡ fs ++ x ∷ rest = cc in
    past zs ys fs x rest t (omega (arith, l))

-- an entry of one pass is in the whole
by_cut : (a : ℕ) (es front : List Entry) (x : Entry) (rest : List Entry) → by a es ≡ front ++ x ∷ rest
    → (fore : List Entry) × (aft : List Entry) × (es ≡ fore ++ x ∷ aft) × (by a fore ≡ front)
by_cut a [] [] x rest e = absurd (let z : [] ≡ x ∷ rest = e in cc)
by_cut a [] (f ∷ fs) x rest e = absurd (let z : [] ≡ f ∷ (fs ++ x ∷ rest) = e in cc)
by_cut a (y ∷ ys) front x rest e = go (pass_of y == a) refl front (by_cut a ys) e where
  go : (b : Bool) → (pass_of y == a) ≡ b → (front : List Entry)
      → ((front : List Entry) (x : Entry) (rest : List Entry) → by a ys ≡ front ++ x ∷ rest
      → (fore : List Entry) × (aft : List Entry) × (ys ≡ fore ++ x ∷ aft) × (by a fore ≡ front))
      → cond b (y ∷ by a ys) (by a ys) ≡ front ++ x ∷ rest
      → (fore : List Entry) × (aft : List Entry) × (y ∷ ys ≡ fore ++ x ∷ aft) × (by a fore ≡ front)
  go true is [] later e = let same : y ≡ x = cc in ([], ys, ap (λ z. z ∷ ys) same, refl)
  go true is (f ∷ fs) later e =
      let t : by a ys ≡ fs ++ x ∷ rest = cc in
      let first : y ≡ f = cc in
      let r = later fs x rest t in (
        y ∷ r.0,
        r.1,
        ap (λ (l : List Entry). y ∷ l) r.2,
        ap (λ b. cond b (y ∷ by a r.0) (by a r.0)) is
            ∙ (ap (λ (l : List Entry). y ∷ l) r.3 ∙ ap (λ (z : Entry). z ∷ fs) first),
      )
  go false is front later e = let r = later front x rest e in (
    y ∷ r.0,
    r.1,
    ap (λ (l : List Entry). y ∷ l) r.2,
    ap (λ b. cond b (y ∷ by a r.0) (by a r.0)) is ∙ r.3,
  )

-- an entry that was heard of is among the first
pub heard_stands_early : (early : List Entry) (h : Heard) (e : Entry) → HasFirst early h → Contains h.log (Known e)
    → (fore : List Entry) × (aft : List Entry) × (early ≡ fore ++ e ∷ aft)
heard_stands_early early h e f c =
    let s = splits_at h.log (Known e) c in
    let z = zip_cut Agrees s.0 (Known e) s.1 f.0 (subst (λ (l : List LogEntry). AllZip Agrees l f.0) s.2 f.3) in
    let is : z.1 ≡ e = z.4 in
    let cut : by h.pass early ≡ z.0 ++ e ∷ (z.2 ++ f.1) = f.2 ∙ (ap (λ (l : List Entry). l ++ f.1) z.3
    ∙ (append_assoc z.0 (z.1 ∷ z.2) f.1 ∙ ap (λ (y : Entry). z.0 ++ y ∷ (z.2 ++ f.1)) is)) in
    let c = by_cut h.pass early z.0 e (z.2 ++ f.1) cut in (c.0, c.1, c.2)

-- ---- the laws

pub heard_first : HeardComesFirst
heard_first layout v history tale h x a =
    let b : Before history a.order = each_in (Before history) v.orders a.order a.stands tale.orders in
    let own : AllZip Agrees (a.before ++ x ∷ a.after) (by v.pass history) = subst
    (λ (l : List LogEntry). AllZip Agrees l (by v.pass history)) a.log tale.own in
    let z = zip_cut Agrees a.before x a.after (by v.pass history) own in
    let parts : by v.pass b.0 ++ by v.pass b.1 ≡ z.0 ++ z.1 ∷ z.2 = sym (by_append v.pass b.0 b.1)
    ∙ (sym (ap (by v.pass) b.2) ∙ z.3) in
    let few : length (by v.pass b.0) ≡ a.order.length = ap (λ p. length (by p b.0)) (sym a.carrier) ∙ b.3 in
    let long = a.later in
    let same = z.5 in
    let p = past (by v.pass b.0) (by v.pass b.1) z.0 z.1 z.2 parts (omega (arith, few, long, same)) in
    let c = by_cut v.pass b.1 p.0 z.1 z.2 p.1 in
    let before : length (by v.pass b.0) + length (by v.pass b.1) ≡ length (z.0 ++ z.1 ∷ z.2) = sym
    (length-append (by v.pass b.0) (by v.pass b.1)) ∙ ap (length) parts in
    let all : length (z.0 ++ z.1 ∷ z.2) ≡ length z.0 + length (z.1 ∷ z.2) = length-append z.0 (z.1 ∷ z.2) in
    let behind : length (by v.pass b.1) ≡ length p.0 + length (z.1 ∷ z.2) = ap (length) p.1
    ∙ length-append p.0 (z.1 ∷ z.2) in
    let joined : length (by v.pass (b.0 ++ c.0)) ≡ length (by v.pass b.0) + length (by v.pass c.0) = ap (length)
    (by_append v.pass b.0 c.0) ∙ length-append (by v.pass b.0) (by v.pass c.0) in
    let those : length (by v.pass c.0) ≡ length p.0 = ap (length) c.3 in (
      b.0 ++ c.0,
      record {
        entry = z.1;
        late = c.1;
        is = b.2 ∙ (ap (λ (l : List Entry). b.0 ++ l) c.2 ∙ sym (append_assoc b.0 c.0 (z.1 ∷ c.1)));
        agrees = z.4;
      },
      subst (HasFirst (b.0 ++ c.0)) a.heard (first_stays b.0 c.0 a.order.heard b.4),
      omega (arith, before, all, behind, joined, those, same),
    )

-- the entry was allowed after those before it, which are legal too
allowed_there : (layout : Layout) (v : View) (history early late : List Entry) (e : Entry) → IsTale layout v history
    → history ≡ early ++ e ∷ late → Legal v.shape.passes layout.guard_max early
    × Allowed v.shape.passes layout.guard_max early e
allowed_there layout v history early late e tale is =
    let parts = legal_after_parts v.shape.passes layout.guard_max [] early (e ∷ late)
    (subst (Legal v.shape.passes layout.guard_max) is tale.legal) in (parts.0, parts.1.0)

pub gone_is_removed : GoneIsRemoved
gone_is_removed layout v history tale h a p k value inserted after =
    let f = heard_first layout v history tale h (Known (Gone a k)) after in
    let is : f.1.entry ≡ Gone a k = f.1.agrees in
    let ok = allowed_there layout v history f.0 f.1.late f.1.entry tale f.1.is in
    let may : Allowed v.shape.passes layout.guard_max f.0 (Gone a k) = subst
    (Allowed v.shape.passes layout.guard_max f.0) is ok.1 in
    let c = heard_stands_early f.0 h (Insert p k value) f.2 inserted in
    let issued : value_of f.0 k ≡ Some value = ap (λ l. value_of l k) c.2 ∙ value_of_insert v.shape.passes
    layout.guard_max c.0 c.1 p k value (subst (Legal v.shape.passes layout.guard_max) c.2 ok.0) in (
      f.0,
      f.1,
      ⊎_elim (λ (n : value_of f.0 k ≡ None). absurd (let z : None ≡ Some value = sym n ∙ issued in cc))
          (has_removal f.0 k) may,
      f.3,
    )

pub got_is_inserted : GotIsInserted
got_is_inserted layout v history tale o among a p k value got inserted gets =
    let passes = v.shape.passes in
    let most = layout.guard_max in
    let b : Before history o = each_in (Before history) v.orders o among tale.orders in
    let i = heard_stands_early b.0 o.heard (Insert p k value) b.4 inserted in
    let insert : history ≡ i.0 ++ Insert p k value ∷ (i.1 ++ b.1) = b.2 ∙ (ap (λ (l : List Entry). l ++ b.1) i.2
    ∙ append_assoc i.0 (Insert p k value ∷ i.1) b.1) in
    let s = splits_at v.own.log (Known (Got a k got)) gets in
    let z = zip_splits s.0 s.1 (Got a k got) (by v.pass history)
    (subst (λ (l : List LogEntry). AllZip Agrees l (by v.pass history)) s.2 tale.own) in
    let g = by_cut v.pass history z.0 (Got a k got) z.1 z.2 in
    let issued : value_of history k ≡ Some value = ap (λ l. value_of l k) insert
    ∙ value_of_insert passes most i.0 (i.1 ++ b.1) p k value (subst (Legal passes most) insert tale.legal) in
    let found : value_of history k ≡ Some got = ap (λ l. value_of l k) g.2
    ∙ value_of_got passes most g.0 g.1 a k got (subst (Legal passes most) g.2 tale.legal) in
    let both : Some got ≡ Some value = sym found ∙ issued in cc

pub seen_is_inserted : SeenIsInserted
seen_is_inserted layout v history tale o among a p k value got inserted gets =
    let passes = v.shape.passes in
    let most = layout.guard_max in
    let b : Before history o = each_in (Before history) v.orders o among tale.orders in
    let i = heard_stands_early b.0 o.heard (Insert p k value) b.4 inserted in
    let insert : history ≡ i.0 ++ Insert p k value ∷ (i.1 ++ b.1) = b.2 ∙ (ap (λ (l : List Entry). l ++ b.1) i.2
    ∙ append_assoc i.0 (Insert p k value ∷ i.1) b.1) in
    let s = splits_at v.own.log (Known (Seen a k got)) gets in
    let z = zip_splits s.0 s.1 (Seen a k got) (by v.pass history)
    (subst (λ (l : List LogEntry). AllZip Agrees l (by v.pass history)) s.2 tale.own) in
    let g = by_cut v.pass history z.0 (Seen a k got) z.1 z.2 in
    let issued : value_of history k ≡ Some value = ap (λ l. value_of l k) insert
    ∙ value_of_insert passes most i.0 (i.1 ++ b.1) p k value (subst (Legal passes most) insert tale.legal) in
    let found : value_of history k ≡ Some got = ap (λ l. value_of l k) g.2
    ∙ value_of_seen passes most g.0 g.1 a k got (subst (Legal passes most) g.2 tale.legal) in
    let both : Some got ≡ Some value = sym found ∙ issued in cc

there_not_removed : (passes guard_max : ℕ) (early : List Entry) (k : ℕ) (x : LogEntry) (e : Entry) → Agrees x e
    → Allowed passes guard_max early e → SaysThere k x → is_removed early k ≡ false
there_not_removed passes guard_max early k (Known (Got p j value)) e agrees may says =
    let m : Allowed passes guard_max early (Got p j value) = subst (Allowed passes guard_max early) agrees may in
    subst (λ i. is_removed early i ≡ false) says m.1
there_not_removed passes guard_max early k (Known (Crowded p j)) e agrees may says =
    let m : Allowed passes guard_max early (Crowded p j) = subst (Allowed passes guard_max early) agrees may in
    subst (λ i. is_removed early i ≡ false) says m.1
there_not_removed passes guard_max early k (Known (Removed p j)) e agrees may says =
    let m : Allowed passes guard_max early (Removed p j) = subst (Allowed passes guard_max early) agrees may in
    subst (λ i. is_removed early i ≡ false) says m.1
there_not_removed passes guard_max early k (Known (Seen p j value)) e agrees may says =
    let m : Allowed passes guard_max early (Seen p j value) = subst (Allowed passes guard_max early) agrees may in
    subst (λ i. is_removed early i ≡ false) says m.1
there_not_removed passes guard_max early k (Unread p j) e agrees may says =
    let m : Allowed passes guard_max early (Got p j agrees.0) = subst (Allowed passes guard_max early) agrees.1 may in
    subst (λ i. is_removed early i ≡ false) says m.1
there_not_removed passes guard_max early k (Known (Insert p j value)) e agrees may says = absurd says
there_not_removed passes guard_max early k (Known (Gone p j)) e agrees may says = absurd says
there_not_removed passes guard_max early k (Known (Released p j)) e agrees may says = absurd says

removed_there : (fore aft : List Entry) (p k : ℕ) → is_removed (fore ++ Removed p k ∷ aft) k ≡ true
removed_there fore aft p k = (removed_has_removal (fore ++ Removed p k ∷ aft) k).1 (
  p,
  Contains-append_right fore (Removed p k ∷ aft) (Removed p k)
      (Contains-append_left (Removed p k ∷ []) aft (Removed p k) (Contains-push [] (Removed p k))),
)

pub removed_is_gone : RemovedIsGone
removed_is_gone layout v history tale h p k removed x after says =
    let f = heard_first layout v history tale h x after in
    let ok = allowed_there layout v history f.0 f.1.late f.1.entry tale f.1.is in
    let c = heard_stands_early f.0 h (Removed p k) f.2 removed in
    let gone : is_removed f.0 k ≡ true = ap (λ l. is_removed l k) c.2 ∙ removed_there c.0 c.1 p k in
    false≢true (sym (there_not_removed v.shape.passes layout.guard_max f.0 k x f.1.entry f.1.agrees ok.1 says) ∙ gone)

pub nothing_later : NothingComesLater
nothing_later layout v history tale t told o stands same =
    let b : Before history o = each_in (Before history) v.orders o stands tale.orders in
    let f : HasFirst b.0 (done_by t.pass t.own) = subst (HasFirst b.0) same b.4 in
    let whole : length t.own.log ≡ length (by t.pass history) = zip_length Agrees t.own.log (by t.pass history)
    (each_in (λ (x : Told). IsLogOf x.pass x.own history) v.told t told tale.told) in
    let heard : length t.own.log ≡ length f.0 = zip_length Agrees t.own.log f.0 f.3 in
    let parts : length (by t.pass history) ≡ length (by t.pass b.0) + length (by t.pass b.1) = ap (length)
    (ap (by t.pass) b.2 ∙ by_append t.pass b.0 b.1) ∙ length-append (by t.pass b.0) (by t.pass b.1) in
    let early : length (by t.pass b.0) ≡ length f.0 + length f.1 = ap (length) f.2 ∙ length-append f.0 f.1 in
    (b.0, b.1, b.2, b.3, nil_from_length (by t.pass b.1) (omega (arith, whole, heard, parts, early)))
