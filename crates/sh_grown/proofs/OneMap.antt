-- One legal history for what a caller knows in its chunks.
use Rattle.std.proofs.Common.{◌≡◌, ℕ, ◌<◌, Bool, true, false, List, [], ◌∷◌, Option, Some, None, refl, sym, ◌∙◌, ap}
use Rattle.std.proofs.Common.{cond, eq-eqb, get_or, length, subst}
use Rattle.std.specs.Prelude.{◌==◌, ◌^◌, if◌then◌else◌}
use Rattle.std.specs.List.{AllZip}
use Rattle.std.specs.Option.{ForSome}
use Rattle.std.proofs.lemmas.List.Elements.{All-cons, All-head, All-nil, All-tail}
use Rattle.std.proofs.lemmas.Bool.{false≢true}
use Rattle.history_local.specs.Groups.{key_of}
use Rattle.sh_chunk.specs.Chunks.{chunked, chunk_of}
use Rattle.sh_chunk.specs.Histories.{KeysFit, fitting}
use Rattle.sh_chunk.proofs.Histories.{first_chunk, one_history_of_chunks}
use Rattle.sh_history.specs.declared.entry.Entry.{Entry}
use Rattle.sh_history.specs.History.{Legal}
use Rattle.sh_history.specs.Log.{Agrees, pass_of}
use Rattle.sh_history.specs.declared.log.LogEntry.{LogEntry}
use Rattle.sh_history.specs.declared.log.LogEntry.TheVariants.{Known, Unread}
use Rattle.sh_step.specs.Plans.{plan_of}
use Rattle.sh_table.specs.Tales.{IsLogOf, IsTale, by}
use Rattle.sh_table.specs.Together.{LeadsTogether}
use Rattle.sh_core.specs.Worlds.{run}
use Rattle.sh_table.specs.declared.view.Own.{Own}
use Rattle.sh_table.specs.declared.view.View.{View}
use Rattle.sh_member.specs.declared.member.Side.TheVariants.{Pass, Shard}
use Rattle.sh_shape.specs.Shape.{Numbers}
use Rattle.sh_table.specs.Seats.{Heap}
use Rattle.sh_member.specs.Sides.{SeenSide, SideIsValid}
use Rattle.sh_grown.specs.ChunkShapes.{IsShaped, shape_of}
use Rattle.sh_grown.specs.Growing.{shape_in}
use Rattle.sh_grown.specs.OfChunks.{AreOfChunks, heap_by}
use Rattle.sh_grown.specs.Steps.{RestsThere}
use Rattle.sh_grown.specs.declared.growing.Growing.{Growing}
use Rattle.sh_grown.specs.declared.chunk_member.ChunkMember.{ChunkMember}
use Rattle.sh_grown.specs.OneMap.{BundlesHaveOneMap, CallersHaveOneMap, IsLogOfAll, IsOneMap, LogFits, StandsIn}
use Rattle.sh_grown.specs.OneMap.{key_logged, view_at, view_by}
use Rattle.sh_grown.proofs.OfChunks.{in_none, in_some}

-- ---- a log without other keys

key_agrees : (l : LogEntry) (e : Entry) → Agrees l e → key_of e ≡ key_logged l
key_agrees (Known k) e is = ap key_of is
key_agrees (Unread p k) e is = ap key_of is.1

agreeing_fit : (log : List LogEntry) (es : List Entry) → LogFits log → AllZip Agrees log es → KeysFit es
agreeing_fit [] [] fits is = All-nil (λ e. key_of e < 2 ^ 56)
agreeing_fit [] (e ∷ es) fits is = absurd is
agreeing_fit (l ∷ ls) [] fits is = absurd is
agreeing_fit (l ∷ ls) (e ∷ es) fits is =
    All-cons (λ e. key_of e < 2 ^ 56) e es
    (subst (λ k. k < 2 ^ 56) (sym (key_agrees l e is.0)) (All-head (λ l. key_logged l < 2 ^ 56) l ls fits))
    (agreeing_fit ls es (All-tail (λ l. key_logged l < 2 ^ 56) l ls fits) is.1)

by_step : (a : ℕ) (e : Entry) (xs ys : List Entry) (b d : Bool) → (pass_of e == a) ≡ b
    → (b ≡ true → d ≡ true) → by a xs ≡ ys → by a (cond d (e ∷ xs) xs) ≡ cond b (e ∷ ys) ys
by_step a e xs ys true true is fits rest = rw (is, rest) refl
by_step a e xs ys true false is fits rest = absurd (false≢true (fits refl))
by_step a e xs ys false true is fits rest = rw (is, rest) refl
by_step a e xs ys false false is fits rest = rest

head_fits : (e : Entry) (xs : List Entry) (b : Bool) → KeysFit (cond b (e ∷ xs) xs) → b ≡ true
    → (chunk_of (key_of e) == 0) ≡ true
head_fits e xs true fits is =
    eq-eqb (chunk_of (key_of e)) 0 (first_chunk (key_of e) (All-head (λ e. key_of e < 2 ^ 56) e xs fits))
head_fits e xs false fits is = absurd (false≢true is)

tail_fits : (e : Entry) (xs : List Entry) (b : Bool) → KeysFit (cond b (e ∷ xs) xs) → KeysFit xs
tail_fits e xs true fits = All-tail (λ e. key_of e < 2 ^ 56) e xs fits
tail_fits e xs false fits = fits

by_fitting : (a : ℕ) (history : List Entry) → KeysFit (by a history) → by a (fitting history) ≡ by a history
by_fitting a [] fits = refl
by_fitting a (e ∷ rest) fits =
    by_step a e (fitting rest) (by a rest) (pass_of e == a) (chunk_of (key_of e) == 0) refl
    (head_fits e (by a rest) (pass_of e == a) fits)
    (by_fitting a rest (tail_fits e (by a rest) (pass_of e == a) fits))

log_fits : (a : ℕ) (o : Own) (history : List Entry) → LogFits o.log → IsLogOf a o history
    → IsLogOf a o (fitting history)
log_fits a o history fits is =
    subst (λ es. AllZip Agrees o.log es) (sym (by_fitting a history (agreeing_fit o.log (by a history) fits is))) is

-- ---- the histories of the chunks

-- a legal history tells what the view knows
record Told (Tells : View → List Entry → Type 0) (passes : ℕ) (o : Option View) : Type 0 where
  history : List Entry
  legal : Legal passes chunked.guard_max history
  tells : ForSome o (λ v. Tells v history)

module _ (Tells : View → List Entry → Type 0) (passes : ℕ) where
  told_none : Told Tells passes None
  told_none = record { history = []; legal = tt; tells = in_none (λ v. Tells v []) }

  told_by : (v : View) (history : List Entry) → Legal v.shape.passes chunked.guard_max history
      → v.shape.passes ≡ passes → Tells v history → Told Tells passes (Some v)
  told_by v history legal same tells = record {
    history = history;
    legal = subst (λ n. Legal n chunked.guard_max history) same legal;
    tells = in_some (λ w. Tells w history) v tells;
  }

  one_map : (count : ℕ) (views : ℕ → Option View) → ((chunk : ℕ) → Told Tells passes (views chunk))
      → IsOneMap Tells passes count views
  one_map count views told =
      let one = one_history_of_chunks passes chunked.guard_max count (λ chunk. (told chunk).history)
      (λ chunk lt. (told chunk).legal) in
      record {
        all = one.0;
        legal = one.1;
        each = λ chunk lt v is.
            let here = one.2 chunk lt in
            record {
              history = (told chunk).history;
              tells = (told chunk).tells v is;
              entries = here.0;
              log = λ pass own fits holds.
                  subst (λ h. IsLogOf pass own h) (sym here.1) (log_fits pass own (told chunk).history fits holds);
            };
      }

-- ---- a caller

told_in : (passes : ℕ) (m : SeenSide) → StandsIn passes m → Told (IsTale chunked) passes (view_by m)
told_in passes (Pass v) is =
    let valid = is.valid.1 in
    told_by (IsTale chunked) passes v.view valid.history valid.tale.legal (is.of v.view refl) valid.tale
told_in passes (Shard o) is =
    let valid = is.valid.stands in
    told_by (IsTale chunked) passes o.pages.owner.view valid.history valid.tale.legal (is.of o.pages.owner.view refl)
    valid.tale

told_at : (passes : ℕ) (o : Option ChunkMember) → ForSome o (λ m. StandsIn passes m.member)
    → Told (IsTale chunked) passes (view_at o)
told_at passes None is = told_none (IsTale chunked) passes
told_at passes (Some m) is = told_in passes m.member (is m refl)

pub callers_have_one_map : CallersHaveOneMap
callers_have_one_map passes count members stand =
    one_map (IsTale chunked) passes count (λ chunk. view_at (get_or members chunk None))
    (λ chunk. told_at passes (get_or members chunk None) (stand chunk))

-- how many passes a chunk has
passes_if : (growing : Growing) (chunk : ℕ) (first : Bool)
    → (if first then growing.first else shape_of chunk growing.passes).passes ≡ growing.passes
passes_if growing chunk true = growing.same_passes
passes_if growing chunk false = refl

side_stands : (passes : ℕ) (wanted : Numbers) (known : Option Heap) (m : SeenSide) → known ≡ heap_by m
    → ForSome known (λ h. IsShaped h.shape wanted) → wanted.passes ≡ passes → SideIsValid chunked m → StandsIn passes m
side_stands passes wanted known (Pass v) is shaped same valid = record {
  valid = valid;
  of = in_some (λ (w : View). w.shape.passes ≡ passes) v.view
      (ap (λ (n : Numbers). n.passes) valid.0.shape ∙ ((shaped v.heap is).passes ∙ same));
}
side_stands passes wanted known (Shard o) is shaped same valid = record {
  valid = valid;
  of = in_some (λ (w : View). w.shape.passes ≡ passes) o.pages.owner.view
      (ap (λ (n : Numbers). n.passes) valid.shape ∙ ((shaped o.pages.owner.heap is).passes ∙ same));
}

-- the members of a caller that begin nothing have one map
pub one_map_of : (growing : Growing) (members : List (Option ChunkMember)) → AreOfChunks growing members
    → ((chunk : ℕ) → chunk < length growing.cells.items → RestsThere (get_or members chunk None))
    → IsOneMap (IsTale chunked) growing.passes (length growing.cells.items)
    (λ chunk. view_at (get_or members chunk None))
one_map_of growing members are rest =
    callers_have_one_map growing.passes (length growing.cells.items) members
    (λ chunk m is.
    let here = are chunk m is in
    side_stands growing.passes (shape_in growing chunk) m.note.known m.member here.heap here.shape
    (passes_if growing chunk (chunk == 0)) (subst (λ o. RestsThere o) is (rest chunk here.few)))

-- ---- callers that ended together

told_together : (passes : ℕ) (o : Option View)
    → ForSome o (λ v. LeadsTogether chunked v × (v.shape.passes ≡ passes)) → Told IsLogOfAll passes o
told_together passes None is = told_none IsLogOfAll passes
told_together passes (Some v) is =
    let here = is v refl in
    told_by IsLogOfAll passes v (run (plan_of chunked v.shape) here.0.events).log here.0.legal here.1 (here.0, refl)

pub bundles_have_one_map : BundlesHaveOneMap
bundles_have_one_map passes count bundles stand =
    one_map IsLogOfAll passes count bundles (λ chunk. told_together passes (bundles chunk) (stand chunk))
