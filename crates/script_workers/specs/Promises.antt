-- Which worker was started: one that has ended here, or the one that its thread's handle promises.
use Rattle.std.specs.Prelude.{ℕ}
use Rattle.script_workers.specs.declared.run.Started.{Started}
use Rattle.script_workers.specs.declared.run.Started.TheVariants.{Here, There}

-- the number of a worker that has ended, or that its thread promises
abbrev pub promised : {S B : Type 0} → Started S B → ℕ
promised (Here worker) = worker
promised (There handle) = handle.promise.0
