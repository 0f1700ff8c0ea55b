-- A read into a value of the export's own is a read, whose result is in that value. So is a take.
use Rattle.std.proofs.Common.{ℕ, List, Option, Some, None, Result, Ok, Err, get_or, inl, inr}
use Rattle.std.specs.Prelude.{IsErrAnd}
use Rattle.sh_key.specs.Layout.{Layout}
use Rattle.sh_value.specs.declared.refusal.Refusal.{Refusal}
use Rattle.sh_chunk.specs.Chunks.{chunked, chunk_of, key_within}
use Rattle.sh_pass.specs.Passes.{Caller, ReadDoes, ReadIntoDoes}
use Rattle.sh_member.specs.Readers.{TakeFitsDoes, TakeIntoDoes}
use Rattle.sh_member.specs.Sides.{SeenSide, SideDoes}
use Rattle.sh_member.specs.declared.member.Side.TheVariants.{Pass, Shard}
use Rattle.sh_grown.specs.declared.growing.Growing.{Growing}
use Rattle.sh_grown.specs.declared.chunk_member.ChunkMember.{ChunkMember}
use Rattle.sh_grown.specs.Callers.{GrownDoes, MemberDoes, WhyUnmet}
use Rattle.c_handles.specs.declared.held_pass.HeldPass.{HeldPass}
use Rattle.c_handles.specs.declared.held_pass.HeldPass.TheVariants as held
use Rattle.c_handles.specs.Members.{AnyDoes, OnSides, layout_of, side_of}
use Rattle.c_handles.specs.HeldPasses.{FillsByKey, HeldReads, HeldTakes}

-- the result of a read, by the value that was read into
abbrev pub read_in : List ℕ → Result (Unit {0}) Refusal → Result (List ℕ) Refusal
read_in value (Ok _) = Ok value
read_in value (Err why) = Err why

-- a call that fills a value does what the result in that value says
abbrev Fills : {S : Type 0} → (does : S → Result (List ℕ) Refusal → S → Type 0) → List ℕ
    → (S → Result (Unit {0}) Refusal → S → Type 0) → Type 0
Fills {S} does after into = (v w : S) (a : Result (Unit {0}) Refusal) → into v a w → does v (read_in after a) w

-- ---- of a pass, then of a member, then of a member of any layout

side_fills : (l : Layout) (does : Caller → Result (List ℕ) Refusal → Caller → Type 0)
    (into : Caller → Result (Unit {0}) Refusal → Caller → Type 0) (after : List ℕ) → Fills does after into
    → (a : Result (Unit {0}) Refusal) (m n : SeenSide) → SideDoes l into m a n → SideDoes l does m (read_in after a) n
side_fills l does into after fills a (Pass v) (Pass w) did = (fills v w a did.0, did.1)
side_fills l does into after fills a (Shard o) (Shard n) did = (fills o.pages.owner n.pages.owner a did.0, did.1)
side_fills l does into after fills a (Pass v) (Shard n) did = absurd did
side_fills l does into after fills a (Shard o) (Pass w) did = absurd did

sides_fill : (l : Layout) (does : Caller → Result (List ℕ) Refusal → Caller → Type 0)
    (into : Caller → Result (Unit {0}) Refusal → Caller → Type 0) (after : List ℕ) → Fills does after into
    → (a : Result (Unit {0}) Refusal) (m n : Option SeenSide) → OnSides (λ s t. SideDoes l into s a t) m n
    → OnSides (λ s t. SideDoes l does s (read_in after a) t) m n
sides_fill l does into after fills a (Some m) (Some n) did = side_fills l does into after fills a m n did
sides_fill l does into after fills a (Some m) None did = absurd did
sides_fill l does into after fills a None n did = absurd did

any_fills : (does : Layout → Caller → Result (List ℕ) Refusal → Caller → Type 0)
    (into : Layout → Caller → Result (Unit {0}) Refusal → Caller → Type 0) (after : List ℕ)
    → ((l : Layout) → Fills (does l) after (into l)) → (a : Result (Unit {0}) Refusal) (v w : HeldPass)
    → AnyDoes (λ l. SideDoes l (into l)) v a w → AnyDoes (λ l. SideDoes l (does l)) v (read_in after a) w
any_fills does into after fills a v w did =
    let l = layout_of v in
    record {
      layout = did.layout;
      pool_slot = did.pool_slot;
      does_it = sides_fill l (does l) (into l) after (fills l) a (side_of v) (side_of w) did.does_it;
    }

-- ---- of what a caller has in a chunk, then of the caller

met_fills : (does : SeenSide → Result (List ℕ) Refusal → SeenSide → Type 0)
    (into : SeenSide → Result (Unit {0}) Refusal → SeenSide → Type 0) (after : List ℕ)
    → ((a : Result (Unit {0}) Refusal) (m n : SeenSide) → into m a n → does m (read_in after a) n)
    → (a : Result (Unit {0}) Refusal) (x y : Option ChunkMember) → MemberDoes into x a y
    → MemberDoes does x (read_in after a) y
met_fills does into after fills a (Some m) (Some n) did = (fills a m.member n.member did.0, did.1)
met_fills does into after fills a (Some m) None did = absurd did
met_fills does into after fills a None y did = absurd did

unmet_fills : (after : List ℕ) (a : Result (Unit {0}) Refusal) → IsErrAnd a WhyUnmet
    → IsErrAnd (read_in after a) WhyUnmet
unmet_fills after (Ok u) why = absurd why
unmet_fills after (Err e) why = why

grown_fills : (does : SeenSide → Result (List ℕ) Refusal → SeenSide → Type 0)
    (into : SeenSide → Result (Unit {0}) Refusal → SeenSide → Type 0) (after : List ℕ)
    → ((a : Result (Unit {0}) Refusal) (m n : SeenSide) → into m a n → does m (read_in after a) n)
    → (a : Result (Unit {0}) Refusal) (growing : Growing) (number chunk : ℕ) (old new : List (Option ChunkMember))
    → GrownDoes into growing number chunk old a new → GrownDoes does growing number chunk old (read_in after a) new
grown_fills does into after fills a growing number chunk old new (inl did) =
    inl (record {
      met = did.met;
      meets = did.meets;
      after = did.after;
      does_it = met_fills does into after fills a (get_or did.met chunk None) did.after did.does_it;
      others = did.others;
    })
grown_fills does into after fills a growing number chunk old new (inr not) =
    inr (unmet_fills after a not.0, not.1, not.2)

-- ---- of what a handle holds

by_key : (fixed : HeldPass → Result (List ℕ) Refusal → HeldPass → Type 0)
    (fixed_into : HeldPass → Result (Unit {0}) Refusal → HeldPass → Type 0)
    (grows : Caller → Result (List ℕ) Refusal → Caller → Type 0)
    (grows_into : Caller → Result (Unit {0}) Refusal → Caller → Type 0) (key : ℕ) (after : List ℕ)
    → Fills fixed after fixed_into → Fills grows after grows_into → (a : Result (Unit {0}) Refusal) (v w : HeldPass)
    → FillsByKey fixed_into grows_into key v a w → FillsByKey fixed grows key v (read_in after a) w
by_key fixed fixed_into grows grows_into key after f g a (held.Growing c) (held.Growing d) did =
    let filled = grown_fills (SideDoes chunked grows) (SideDoes chunked grows_into) after
    (side_fills chunked grows grows_into after g) a c.growing c.number (chunk_of key) c.met.items
    d.met.items did.does_it.0 in
    record { does_it = (filled, did.does_it.1) }
by_key fixed fixed_into grows grows_into key after f g a (held.Growing c) n did = absurd did.does_it
by_key fixed fixed_into grows grows_into key after f g a m n did = record { does_it = f m n a did.does_it }

read_fills : (key : ℕ) (before after : List ℕ) → Fills (ReadDoes key) after
    (λ v a w. ReadIntoDoes key v before a after w)
read_fills key before after v w (Ok u) did = did
read_fills key before after v w (Err why) did = did.0

take_fills : (l : Layout) (key most : ℕ) (after : List ℕ) → Fills (TakeFitsDoes l key most) after
    (λ v a w. TakeIntoDoes l key most v a after w)
take_fills l key most after v w (Ok u) did = did
take_fills l key most after v w (Err why) did = did

pub reads_into : (key : ℕ) (before after : List ℕ) (a : Result (Unit {0}) Refusal) (v w : HeldPass)
    → FillsByKey (AnyDoes (λ l. SideDoes l (λ x r y. ReadIntoDoes key x before r after y)))
    (λ x r y. ReadIntoDoes (key_within key) x before r after y) key v a w → HeldReads key v (read_in after a) w
reads_into key before after a v w =
    by_key (AnyDoes (λ l. SideDoes l (ReadDoes key)))
    (AnyDoes (λ l. SideDoes l (λ x r y. ReadIntoDoes key x before r after y))) (ReadDoes (key_within key))
    (λ x r y. ReadIntoDoes (key_within key) x before r after y) key after
    (λ m n r. any_fills (λ l. ReadDoes key) (λ l x r y. ReadIntoDoes key x before r after y) after
    (λ l. read_fills key before after) r m n) (read_fills (key_within key) before after) a v w

pub takes_into : (key most : ℕ) (after : List ℕ) (a : Result (Unit {0}) Refusal) (v w : HeldPass)
    → FillsByKey (AnyDoes (λ l. SideDoes l (λ x r y. TakeIntoDoes l key most x r after y)))
    (λ x r y. TakeIntoDoes chunked (key_within key) most x r after y) key v a w
    → HeldTakes key most v (read_in after a) w
takes_into key most after a v w =
    by_key (AnyDoes (λ l. SideDoes l (TakeFitsDoes l key most)))
    (AnyDoes (λ l. SideDoes l (λ x r y. TakeIntoDoes l key most x r after y)))
    (TakeFitsDoes chunked (key_within key) most) (λ x r y. TakeIntoDoes chunked (key_within key) most x r after y) key
    after
    (λ m n r. any_fills (λ l. TakeFitsDoes l key most) (λ l x r y. TakeIntoDoes l key most x r after y) after
    (λ l. take_fills l key most after) r m n) (take_fills chunked (key_within key) most after) a v w
