use Rattle.std.proofs.Common.{◌≡◌, ◌-◌, true, ◌∙◌, sym, subst, arith}
use Rattle.sh_queue.specs.Numbers.{has_number}
use Rattle.sh_queue.proofs.PagePlaces.{full_opened}
use Rattle.sh_shard.specs.Shards.{Sharded}
use Rattle.sh_shard.specs.Searches.{ReadsRing}
use Rattle.sh_shard.proofs.Sorting.{alters_reads, sorted_altered, sorted_returned, full_word, not_full}
use Rattle.sh_shard.proofs.Hearing.{heard_still, heard_back}
use Rattle.sh_shard.proofs.shard.ShardOn.read_bell.Goals as goal

pub invariant_of-self-then-page-opened : goal.invariant_of-self-then-page-opened
invariant_of-self-then-page-opened g c =
    let o = c.opened-opened.ensures.opened in
    let t = c.if-page-opened.true in
    sorted_altered c.self.inside.pages c.follow_bell.new.self c.self.inside.queues c.in-Some.page c.self.invariant
    (alters_reads c.in-Some.page _ _ c.in-Some.ensures) (not_full c.in-Some.page c.self.inside.queues
    c.opened-opened.ensures.once (omega arith))

pub invariant_of-self-then-not-in_full : goal.invariant_of-self-then-not-in_full
invariant_of-self-then-not-in_full g c =
    sorted_altered c.self.inside.pages c.follow_bell.new.self c.self.inside.queues c.in-Some.page c.self.invariant
    (alters_reads c.in-Some.page _ _ c.in-Some.ensures) (sym c.in_full.ensures ∙ c.if-not-in_full.true)

pub invariant_of-self-2 : goal.invariant_of-self-2
invariant_of-self-2 g c =
    let here : has_number c.in-Some.page c.self.inside.queues.full ≡ true = sym c.in_full.ensures
    ∙ c.if-not-in_full.false in
    let h = full_word c.self.inside.pages c.follow_bell.new.self c.self.inside.queues c.in-Some.page c.self.invariant
    (alters_reads c.in-Some.page _ _ c.in-Some.ensures) c.class_word-word.result here c.class_word-word.ensures.word
    in
    let h0 = h.0 in
    let h1 = h.1 in
    sorted_returned c.self.inside.pages c.follow_bell.new.self c.self.inside.queues c.in-Some.page c.self.invariant
    (alters_reads c.in-Some.page _ _ c.in-Some.ensures) c.to_back.new.self c.class_word-word.result
    (c.class_word-word.result - 1) c.opened-opened.ensures.once
    (full_opened c.in-Some.page c.self.inside.queues c.opened-opened.ensures.once here)
    c.class_word-word.ensures.word (omega arith) (omega arith) c.to_back.ensures

pub returns-then-page-opened-clause-heard : goal.returns-then-page-opened-clause-heard
returns-then-page-opened-clause-heard g c =
    let o = c.opened-opened.ensures.opened in
    let t = c.if-page-opened.true in
    subst (λ (z : Sharded). ReadsRing c.class_word-word.result z (record {
      pages = c.follow_bell.new.self;
      queues = c.self.inside.queues;
    })) c.self.view_is (heard_still c.in-Some.page c.class_word-word.result c.self.inside.pages c.follow_bell.new.self
    c.self.inside.queues c.in-Some.ensures c.class_word-word.ensures.word
    (not_full c.in-Some.page c.self.inside.queues c.opened-opened.ensures.once (omega arith)))

pub returns-then-not-in_full-clause-heard : goal.returns-then-not-in_full-clause-heard
returns-then-not-in_full-clause-heard g c = subst (λ (z : Sharded). ReadsRing c.class_word-word.result z (record {
  pages = c.follow_bell.new.self;
  queues = c.self.inside.queues;
})) c.self.view_is (heard_still c.in-Some.page c.class_word-word.result c.self.inside.pages c.follow_bell.new.self
    c.self.inside.queues c.in-Some.ensures c.class_word-word.ensures.word
    (sym c.in_full.ensures ∙ c.if-not-in_full.true))

pub returns-clause-heard : goal.returns-clause-heard
returns-clause-heard g c =
    let here : has_number c.in-Some.page c.self.inside.queues.full ≡ true = sym c.in_full.ensures
    ∙ c.if-not-in_full.false in
    subst (λ (z : Sharded). ReadsRing c.class_word-word.result z (record {
      pages = c.follow_bell.new.self;
      queues = c.to_back.new.self;
    })) c.self.view_is (heard_back c.in-Some.page c.class_word-word.result c.self.inside.pages c.follow_bell.new.self
    c.self.inside.queues c.to_back.new.self c.in-Some.ensures c.class_word-word.ensures.word here
    (full_word c.self.inside.pages c.follow_bell.new.self c.self.inside.queues c.in-Some.page c.self.invariant
    (alters_reads c.in-Some.page _ _ c.in-Some.ensures) c.class_word-word.result here c.class_word-word.ensures.word)
    c.to_back.ensures)
