use Rattle.std.proofs.Common.{Ok, Err, refl}
use Rattle.c_exports.proofs.Walked.{live_told}
use Rattle.c_exports.proofs.walking.shardheap_raw_next_live.Goals as goal

pub returns-in-Ok : goal.returns-in-Ok
returns-in-Ok c = live_told c.args.from c.args.before _ _ _ _ _ _ _ _ _ (Ok c.in-Ok.met) c.held.ensures.value refl
    c.in-Ok.ensures c.write_live.ensures

pub returns-in-Err : goal.returns-in-Err
returns-in-Err c = live_told c.args.from c.args.before _ _ _ _ _ _ _ _ _ (Err c.in-Err.refusal) c.held.ensures.value
    refl c.in-Err.ensures (c.number.ensures, refl)
