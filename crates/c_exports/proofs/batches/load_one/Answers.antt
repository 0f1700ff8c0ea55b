use Rattle.std.proofs.Common.{Ok, Err, ap}
use Rattle.c_exports.specs.declared.batches.Loaded.{Loaded}
use Rattle.c_exports.proofs.batches.load_one.Goals as goal

pub returns-in-Err : goal.returns-in-Err
returns-in-Err c =
    let f = c.in-Err.ensures in (
      Err c.in-Err.refusal,
      record {
        key = ap (λ (l : Loaded). l.key) f.1;
        told = (c.number-load.ensures, ap (λ (l : Loaded). l.words) f.1, ap (λ (l : Loaded). l.length) f.1);
        does_it = f.0;
      },
    )

pub returns-in_default : goal.returns-in_default
returns-in_default c =
    let f = c.in_default.ensures in (Ok f.0, record { key = f.2.key; told = f.2.told; does_it = f.1 })
