-- What a receipt tells of a key, and what a caller finds that heeded it.
use Rattle.std.proofs.Common.{◌≡◌, ℕ, ◌<◌, List, Option, Some, None, ap, arith, get_or, inl, inr, length, refl, subst}
use Rattle.std.proofs.Common.{sym, ◌∙◌}
use Rattle.std.specs.Prelude.{IfOk, IsSome, Result, Ok, Err}
use Rattle.std.specs.Option.{ForSome}
use Rattle.std.proofs.lemmas.List.{get_or-set_same}
use Rattle.sh_chunk.specs.Chunks.{chunked, chunk_of, key_within}
use Rattle.sh_value.specs.declared.refusal.Refusal.{Refusal}
use Rattle.sh_value.specs.declared.refusal.Refusal.TheVariants as refusal
use Rattle.sh_pass.specs.Fetching.{FetchDoes, LookDoes}
use Rattle.sh_table.specs.Orders.{GoneIsRemoved, GotIsInserted, SeenIsInserted}
use Rattle.sh_pass.specs.Passes.{Caller}
use Rattle.sh_pass.specs.Receipts.{heeded}
use Rattle.sh_table.specs.Tales.{ViewIsValid}
use Rattle.sh_shard.specs.Shards.{Sharded}
use Rattle.sh_member.specs.declared.member.Side.TheVariants.{Pass, Shard}
use Rattle.sh_member.specs.Sides.{IsReceiptBy, SeenSide, SideDoes, SideHeeds}
use Rattle.sh_member.specs.ToldKeys.{CoversInsert, IsAsInserted, TellsOfInsert}
use Rattle.sh_member.proofs.Ending.{no_key}
use Rattle.sh_member.proofs.Hearing.{fetched_as_inserted, gone_if_removed, look_decides, tells_own}
use Rattle.sh_grown.specs.declared.growing.Growing.{Growing}
use Rattle.sh_grown.specs.declared.chunk_member.ChunkMember.{ChunkMember}
use Rattle.sh_grown.specs.declared.caller.Caller.{Caller as SeenCaller}
use Rattle.sh_grown.specs.declared.receipts.ChunkReceipt.{ChunkReceipt}
use Rattle.sh_grown.specs.Callers.{ChunkDoes, GrownDoes, Meets, MemberDoes, Stays}
use Rattle.sh_grown.specs.Inserts.{EndsWithInsert, InsertsIn, InsertsInChunk}
use Rattle.sh_grown.specs.OfChunks.{AreOfChunks, IsOfChunk}
use Rattle.sh_grown.specs.Receipts.{CoversEach, CoversPlace, Heeds, HeedsAt, HeedsBelow, HeedsPlace, MeetsAt}
use Rattle.sh_grown.specs.ToldKeys.{CoversKey, HeedsThen, IsAsTold, LooksTold, TellsOfKey}
use Rattle.sh_grown.proofs.Full.{met_within}
use Rattle.sh_grown.proofs.Heeding.{some_within}
use Rattle.sh_grown.proofs.OfChunks.{member_there}

-- ---- the receipt of an insert

side_tells : (key : ℕ) (value : List ℕ) (m n : SeenSide) (r : Caller) → InsertsIn value m (Ok key) n → IsReceiptBy n r
    → CoversInsert (key_within key) value r
side_tells key value (Pass v) n r did is = absurd (let e = did.0 in cc)
side_tells key value (Shard o) (Shard n) r did is =
    subst (λ (c : Caller). CoversInsert (key_within key) value c) (sym is)
    (tells_own (key_within key) value o.pages.owner n.pages.owner did.0.0.log)
side_tells key value (Shard o) (Pass w) r did is = absurd did

place_tells : (key : ℕ) (value : List ℕ) (a b : Option ChunkMember) (given : List (Option ChunkReceipt))
    (one : Option ChunkReceipt) → get_or given (chunk_of key) None ≡ one → MemberDoes (InsertsIn value) a (Ok key) b
    → CoversPlace b one → CoversKey key value given
place_tells key value (Some m) (Some n) given (Some one) is did covers = record {
  one = one;
  there = is;
  covers = side_tells key value m.member n.member one.receipt did.0 covers.receipt;
}
place_tells key value (Some m) (Some n) given None is did covers = absurd covers
place_tells key value (Some m) None given one is did covers = absurd did
place_tells key value None b given one is did covers = absurd did

may_have : (growing : Growing) (chunk : ℕ) (a b : Option ChunkMember) (value : List ℕ) (key : ℕ)
    → ForSome b (λ m. IsOfChunk growing chunk m) → MemberDoes (InsertsIn value) a (Ok key) b
    → chunk < length growing.cells.items
may_have growing chunk (Some m) (Some n) value key of did = (of n refl).few
may_have growing chunk (Some m) None value key of did = absurd did
may_have growing chunk None b value key of did = absurd did

told_in : (growing : Growing) (key : ℕ) (value : List ℕ) (before new : List (Option ChunkMember))
    (given : List (Option ChunkReceipt)) → InsertsInChunk value (chunk_of key) before (Ok key) new
    → AreOfChunks growing new → CoversEach (length growing.cells.items) new given → CoversKey key value given
told_in growing key value before new given (inl h) of covers =
    let k = chunk_of key in
    let some = member_there (InsertsIn value) (get_or before k None) h.0 (Ok key) h.1 in
    let here : get_or new k None ≡ h.0 =
    ap (λ xs. get_or xs k None) h.2 ∙ get_or-set_same before k h.0 None (met_within before k some) in
    let did : MemberDoes (InsertsIn value) (get_or before k None) (Ok key) (get_or new k None) =
    subst (λ o. MemberDoes (InsertsIn value) (get_or before k None) (Ok key) o) (sym here) h.1 in
    place_tells key value (get_or before k None) (get_or new k None) given (get_or given k None) refl did
    (covers k (may_have growing k (get_or before k None) (get_or new k None) value key (of k) did))
told_in growing key value before new given (inr h) of covers = absurd (let e = h.0 in cc)

-- the receipt of the caller covers its insert
pub tells_key : (growing : Growing) (key : ℕ) (value : List ℕ) (old new : List (Option ChunkMember))
    (given : List (Option ChunkReceipt)) → EndsWithInsert value key old new → AreOfChunks growing new
    → CoversEach (length growing.cells.items) new given → CoversKey key value given
tells_key growing key value old new given ends of covers =
    told_in growing key value ends.0 new given ends.2 of covers

-- ---- a look after it was heeded

module _ (gone : GoneIsRemoved) (got : GotIsInserted) (seen : SeenIsInserted) (key : ℕ) (r : Caller) where
  looks_by : (v w x : Caller) (answer : Result (List ℕ) Refusal) → w ≡ heeded v r → FetchDoes chunked key w answer x
      → TellsOfInsert key r → LooksTold key w answer x
  looks_by v w x answer is does tells =
      let here = subst (λ (c : Caller). FetchDoes chunked key c answer x) is does in (
        subst (λ (c : Caller). LookDoes chunked key c answer x) (sym is)
            (look_decides chunked key r v x answer here tells),
        gone_if_removed gone chunked key r v x answer here tells,
      )

  value_by : (v w x : Caller) (answer : Result (List ℕ) Refusal) → w ≡ heeded v r → FetchDoes chunked key w answer x
      → ViewIsValid chunked x.view → IfOk answer (λ value. IsAsInserted key value r)
  value_by v w x answer is does stands =
      fetched_as_inserted got seen chunked key r v x answer
      (subst (λ (c : Caller). FetchDoes chunked key c answer x) is does) stands

  side_looks : (m h n : SeenSide) (answer : Result (List ℕ) Refusal) → SideHeeds chunked r m h
      → SideDoes chunked (FetchDoes chunked key) h answer n → TellsOfInsert key r
      → SideDoes chunked (LooksTold key) h answer n
  side_looks (Pass v) (Pass w) (Pass x) answer heeds did tells =
      (looks_by v w x answer heeds.0 did.0 tells, did.1)
  side_looks (Shard o) (Shard p) (Shard n) answer heeds did tells = (
    looks_by o.pages.owner p.pages.owner n.pages.owner answer (ap (λ (s : Sharded). s.pages.owner) heeds.0) did.0
        tells,
    did.1,
  )
  side_looks (Pass v) (Pass w) (Shard n) answer heeds did tells = absurd did
  side_looks (Pass v) (Shard p) n answer heeds did tells = absurd heeds
  side_looks (Shard o) (Shard p) (Pass x) answer heeds did tells = absurd did
  side_looks (Shard o) (Pass w) n answer heeds did tells = absurd heeds

  side_value : (m h n : SeenSide) (answer : Result (List ℕ) Refusal) → SideHeeds chunked r m h
      → SideDoes chunked (FetchDoes chunked key) h answer n → IfOk answer (λ value. IsAsInserted key value r)
  side_value (Pass v) (Pass w) (Pass x) answer heeds did = value_by v w x answer heeds.0 did.0 did.1.stands
  side_value (Shard o) (Shard p) (Shard n) answer heeds did =
      value_by o.pages.owner p.pages.owner n.pages.owner answer (ap (λ (s : Sharded). s.pages.owner) heeds.0) did.0
      did.1.remains.stands
  side_value (Pass v) (Pass w) (Shard n) answer heeds did = absurd did
  side_value (Pass v) (Shard p) n answer heeds did = absurd heeds
  side_value (Shard o) (Shard p) (Pass x) answer heeds did = absurd did
  side_value (Shard o) (Pass w) n answer heeds did = absurd heeds

-- ---- in the key's chunk

-- what the caller had there heeded the receipt of the chunk
heeded_there : (growing : Growing) (number key : ℕ) (value : List ℕ) (given : List (Option ChunkReceipt))
    (old mid : List (Option ChunkMember)) → HeedsBelow growing number (length given) given old mid
    → (t : CoversKey key value given)
    → (met : Option ChunkMember) × HeedsAt t.one met (get_or mid (chunk_of key) None)
heeded_there growing number key value given old mid heeds t =
    let k = chunk_of key in
    let here = subst (λ o. HeedsPlace growing number k o (get_or old k None) (get_or mid k None)) t.there
    (heeds.each k (some_within given k t.one t.there)) in
    (here.0, here.2)

heeder_there : (one : ChunkReceipt) (a b : Option ChunkMember) → HeedsAt one a b → IsSome b
heeder_there one (Some m) (Some n) heeds = refl
heeder_there one (Some m) None heeds = absurd heeds
heeder_there one None b heeds = absurd heeds

met_before : (growing : Growing) (number chunk : ℕ) (old met : List (Option ChunkMember))
    → Meets growing number chunk old met → IsSome (get_or old chunk None)
    → get_or met chunk None ≡ get_or old chunk None
met_before growing number chunk old met (inl h) some = ap (λ xs. get_or xs chunk None) h.1
met_before growing number chunk old met (inr h) some = absurd (no_key (get_or old chunk None) some h.0)

place_looks : GoneIsRemoved → GotIsInserted → SeenIsInserted → (key : ℕ) (one : ChunkReceipt)
    (a b c : Option ChunkMember) (answer : Result (List ℕ) Refusal) → HeedsAt one a b
    → MemberDoes (SideDoes chunked (FetchDoes chunked key)) b answer c → TellsOfInsert key one.receipt
    → MemberDoes (SideDoes chunked (LooksTold key)) b answer c
place_looks gone got seen key one (Some m) (Some h) (Some n) answer heeds did tells =
    (side_looks gone got seen key one.receipt m.member h.member n.member answer heeds.0 did.0 tells, did.1)
place_looks gone got seen key one (Some m) (Some h) None answer heeds did tells = absurd did
place_looks gone got seen key one (Some m) None c answer heeds did tells = absurd heeds
place_looks gone got seen key one None b c answer heeds did tells = absurd heeds

place_value : GoneIsRemoved → GotIsInserted → SeenIsInserted → (key : ℕ) (one : ChunkReceipt)
    (a b c : Option ChunkMember) (answer : Result (List ℕ) Refusal) → HeedsAt one a b
    → MemberDoes (SideDoes chunked (FetchDoes chunked key)) b answer c
    → IfOk answer (λ value. IsAsInserted key value one.receipt)
place_value gone got seen key one (Some m) (Some h) (Some n) answer heeds did =
    side_value gone got seen key one.receipt m.member h.member n.member answer heeds.0 did.0
place_value gone got seen key one (Some m) (Some h) None answer heeds did = absurd did
place_value gone got seen key one (Some m) None c answer heeds did = absurd heeds
place_value gone got seen key one None b c answer heeds did = absurd heeds

-- the look is by a member that the caller had met there, and decides
pub told_looks : GoneIsRemoved → GotIsInserted → SeenIsInserted → (growing : Growing) (number key : ℕ)
    (given : List (Option ChunkReceipt)) (old mid new : List (Option ChunkMember))
    (answer : Result (List ℕ) Refusal) → HeedsBelow growing number (length given) given old mid
    → GrownDoes (SideDoes chunked (FetchDoes chunked (key_within key))) growing number (chunk_of key) mid answer new
    → TellsOfKey key given
    → ChunkDoes (SideDoes chunked (LooksTold (key_within key))) growing number (chunk_of key) mid answer new
told_looks gone got seen growing number key given old mid new answer heeds (inl h) tells =
    let t = tells.1 in
    let here = heeded_there growing number key tells.0 given old mid heeds t in
    let k = chunk_of key in
    let at : get_or h.met k None ≡ get_or mid k None =
    met_before growing number k mid h.met h.meets (heeder_there t.one here.0 (get_or mid k None) here.1) in
    record {
      met = h.met;
      meets = h.meets;
      after = h.after;
      does_it = place_looks gone got seen (key_within key) t.one here.0 (get_or h.met k None) h.after answer
          (subst (λ o. HeedsAt t.one here.0 o) (sym at) here.1) h.does_it (tells.0, t.covers);
      others = h.others;
    }
told_looks gone got seen growing number key given old mid new answer heeds (inr h) tells =
    let t = tells.1 in
    let here = heeded_there growing number key tells.0 given old mid heeds t in
    let k = chunk_of key in
    absurd (no_key (get_or mid k None) (heeder_there t.one here.0 (get_or mid k None) here.1) h.1)

one_value : GoneIsRemoved → GotIsInserted → SeenIsInserted → (growing : Growing) (number key : ℕ)
    (given : List (Option ChunkReceipt)) (old mid new : List (Option ChunkMember))
    (answer : Result (List ℕ) Refusal) → HeedsBelow growing number (length given) given old mid
    → GrownDoes (SideDoes chunked (FetchDoes chunked (key_within key))) growing number (chunk_of key) mid answer new
    → (value : List ℕ) (t : CoversKey key value given)
    → IfOk answer (λ found. IsAsInserted (key_within key) found t.one.receipt)
one_value gone got seen growing number key given old mid new answer heeds (inl h) value t =
    let here = heeded_there growing number key value given old mid heeds t in
    let k = chunk_of key in
    let at : get_or h.met k None ≡ get_or mid k None =
    met_before growing number k mid h.met h.meets (heeder_there t.one here.0 (get_or mid k None) here.1) in
    place_value gone got seen (key_within key) t.one here.0 (get_or h.met k None) h.after answer
    (subst (λ o. HeedsAt t.one here.0 o) (sym at) here.1) h.does_it
one_value gone got seen growing number key given old mid new answer heeds (inr h) value t =
    let here = heeded_there growing number key value given old mid heeds t in
    let k = chunk_of key in
    absurd (no_key (get_or mid k None) (heeder_there t.one here.0 (get_or mid k None) here.1) h.1)

-- and what it finds is the inserted value
pub told_value : GoneIsRemoved → GotIsInserted → SeenIsInserted → (growing : Growing) (number key : ℕ)
    (given : List (Option ChunkReceipt)) (old mid new : List (Option ChunkMember))
    (answer : Result (List ℕ) Refusal) → HeedsBelow growing number (length given) given old mid
    → GrownDoes (SideDoes chunked (FetchDoes chunked (key_within key))) growing number (chunk_of key) mid answer new
    → IfOk answer (λ value. IsAsTold key value given)
told_value gone got seen growing number key given old mid new (Ok value) heeds did = λ inserted t.
    one_value gone got seen growing number key given old mid new (Ok value) heeds did inserted t inserted t.covers
told_value gone got seen growing number key given old mid new (Err why) heeds did = tt

-- ---- of a caller

-- the heed was refused
pub heed_refused : (given : List (Option ChunkReceipt))
    (next : Growing → ℕ → List (Option ChunkMember) → Result (List ℕ) Refusal → List (Option ChunkMember) → Type 0)
    (c d : SeenCaller) (why : Refusal) → Heeds c.growing c.number given c.met.items (Err why) d.met.items
    → HeedsThen given next c (Err why) d
heed_refused given next c d why h = inr (ap Err h.0, (refl, h.1, h.2, h.3, h.4))

-- it was done, and then this
pub heeded_then : (given : List (Option ChunkReceipt))
    (next : Growing → ℕ → List (Option ChunkMember) → Result (List ℕ) Refusal → List (Option ChunkMember) → Type 0)
    (c d : SeenCaller) (mid : List (Option ChunkMember)) (answer : Result (List ℕ) Refusal)
    → HeedsBelow c.growing c.number (length given) given c.met.items mid
    → next c.growing c.number mid answer d.met.items → HeedsThen given next c answer d
heeded_then given next c d mid answer heeds did = inl (mid, heeds, did)

-- by the same growing heap and number
pub by_same : (next : Growing → ℕ → List (Option ChunkMember) → Result (List ℕ) Refusal → List (Option ChunkMember)
    → Type 0) (c mid : SeenCaller) (new : List (Option ChunkMember)) (answer : Result (List ℕ) Refusal) → Stays c mid
    → next mid.growing mid.number mid.met.items answer new → next c.growing c.number mid.met.items answer new
by_same next c mid new answer stays did =
    subst (λ g. next g c.number mid.met.items answer new) stays.growing
    (subst (λ n. next mid.growing n mid.met.items answer new) stays.number did)
