use Rattle.sh_pass.proofs.BusyLaws.{no_other}
use Rattle.sh_pass.proofs.by_hand.BusyState.act.Goals as goal

pub returns-in_default : goal.returns-in_default
returns-in_default g c = let d = c.in_default in record {
  busy = c.requires;
  acts = no_other g.L.KeyLayout.layout
      c.args.self.now.seated.seat.me.0 c.args.action.now c.requires.left d.not-EnterGet d.not-EnterRemove d.not-Mark
      d.not-Drop d.not-DropHold d.not-Finish d.not-Put d.not-Tie d.not-Ring d.not-RingTie;
}
