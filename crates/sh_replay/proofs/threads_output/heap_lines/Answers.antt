use Rattle.std.proofs.Common.{refl, sym, subst, ◌<◌}
use Rattle.std.specs.List.{All}
use Rattle.sh_shape.specs.Shape.{IsShape, Numbers}
use Rattle.sh_script.specs.declared.calls.CallLine.{CallLine}
use Rattle.sh_replay.proofs.threads_output.heap_lines.Goals as goal

pub lines_on-requires : goal.lines_on-requires
lines_on-requires g c κs within =
    let opened = c.in_ok-heap.ensures.shape in
    let bounds = c.type_bounds in
    let passes = subst (λ (n : Numbers). All (λ (l : CallLine). l.pass < n.passes) c.args.lines.now) (sym opened.0)
    c.requires.passes in (
      within.0,
      (
        within.1.0,
        (
          within.1.1,
          (
            bounds.send-L,
            (
              bounds.sync-L,
              (
                bounds.sync-R,
                (
                  bounds.sync-G,
                  (
                    refl,
                    (
                      refl,
                      (
                        refl,
                        (opened.1, (subst IsShape (sym opened.0) c.requires.shape, (c.requires.room, passes))),
                      ),
                    ),
                  ),
                ),
              ),
            ),
          ),
        ),
      ),
    )
