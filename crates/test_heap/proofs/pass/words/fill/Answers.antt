use Rattle.std.proofs.Common.{None, false, ap, ◌∙◌}
use Rattle.sh_pass.specs.Owners.{SeenPage, SeenBell, page_without}
use Rattle.test_heap.specs.Pages.{page_at}
use Rattle.test_heap.proofs.PageLaws.{touched, now_at, at}
use Rattle.test_heap.proofs.pass.words.fill.Goals as goal

pub insert_at-requires-clause-mine : goal.insert_at-requires-clause-mine
insert_at-requires-clause-mine g c =
    let x = c.args.page in
    let touch = touched c.args.owner.now c.read_page.new.self x c.read_page.ensures.acts c.requires.touch in
    let given = now_at c.read_page.new.self c.set_class.new.self x c.set_class.ensures.acts touch _
    c.set_class.ensures.page.here in
    ap (λ (q : SeenPage). q.mine 0) given

pub insert_at-requires-2-clause-mine : goal.insert_at-requires-2-clause-mine
insert_at-requires-2-clause-mine g c =
    let x = c.args.page in
    let v = c.read_page.new.self in
    let touch = touched c.args.owner.now v x c.read_page.ensures.acts c.requires.touch in
    let touch_2 = touched v c.set_class.new.self x c.set_class.ensures.acts touch in
    let given = now_at v c.set_class.new.self x c.set_class.ensures.acts touch _ c.set_class.ensures.page.here in
    let first = now_at c.set_class.new.self c.insert_at.new.self x c.insert_at.ensures.acts touch_2 _
    c.insert_at.ensures.page.here in
    ap (λ (q : SeenPage). q.mine 1) (first ∙ ap (λ (q : SeenPage). page_without q 0) given)

pub insert_at-requires-3-clause-mine : goal.insert_at-requires-3-clause-mine
insert_at-requires-3-clause-mine g c =
    let x = c.args.page in
    let v = c.read_page.new.self in
    let touch = touched c.args.owner.now v x c.read_page.ensures.acts c.requires.touch in
    let touch_2 = touched v c.set_class.new.self x c.set_class.ensures.acts touch in
    let touch_3 = touched c.set_class.new.self c.insert_at.new.self x c.insert_at.ensures.acts touch_2 in
    let given = now_at v c.set_class.new.self x c.set_class.ensures.acts touch _ c.set_class.ensures.page.here in
    let first = now_at c.set_class.new.self c.insert_at.new.self x c.insert_at.ensures.acts touch_2 _
    c.insert_at.ensures.page.here in
    let second = now_at c.insert_at.new.self c.insert_at-2.new.self x c.insert_at-2.ensures.acts touch_3 _
    c.insert_at-2.ensures.page.here in
    ap (λ (q : SeenPage). q.mine 2) (second ∙ ap (λ (q : SeenPage). page_without q 1) (first
    ∙ ap (λ (q : SeenPage). page_without q 0) given))

pub returns : goal.returns
returns g c =
    let x = c.args.page in
    let v = c.read_page.new.self in
    let touch = touched c.args.owner.now v x c.read_page.ensures.acts c.requires.touch in
    let touch_2 = touched v c.set_class.new.self x c.set_class.ensures.acts touch in
    let touch_3 = touched c.set_class.new.self c.insert_at.new.self x c.insert_at.ensures.acts touch_2 in
    let touch_4 = touched c.insert_at.new.self c.insert_at-2.new.self x c.insert_at-2.ensures.acts touch_3 in
    let read = now_at c.args.owner.now v x c.read_page.ensures.acts c.requires.touch _
    c.read_page.ensures.page.here in
    let given = now_at v c.set_class.new.self x c.set_class.ensures.acts touch _ c.set_class.ensures.page.here in
    let first = now_at c.set_class.new.self c.insert_at.new.self x c.insert_at.ensures.acts touch_2 _
    c.insert_at.ensures.page.here in
    let second = now_at c.insert_at.new.self c.insert_at-2.new.self x c.insert_at-2.ensures.acts touch_3 _
    c.insert_at-2.ensures.page.here in
    let is = second ∙ ap (λ (q : SeenPage). page_without q 1) (first ∙ ap (λ (q : SeenPage). page_without q 0) given) in
    at c.insert_at-2.new.self c.insert_at-3.new.self x c.insert_at-3.ensures.acts touch_4
    (page_without (page_at c.insert_at-2.new.self x) 2) None false false c.insert_at-3.ensures.page.here
    (ap (λ (q : SeenPage). q.class) is)
    (ap (λ (q : SeenPage). q.cursor) is ∙ (ap (λ (q : SeenPage). q.cursor) read ∙ c.requires.cursor))
    (ap (λ (q : SeenPage). q.armed) is ∙ (ap (λ (q : SeenPage). q.armed) read ∙ c.requires.armed))
    (ap (λ (b : SeenBell). b.cursor) (c.insert_at-3.ensures.bells 0)
    ∙ (ap (λ (b : SeenBell). b.cursor) (c.insert_at-2.ensures.bells 0)
    ∙ (ap (λ (b : SeenBell). b.cursor) (c.insert_at.ensures.bells 0)
    ∙ (ap (λ (b : SeenBell). b.cursor) (c.set_class.ensures.bells 0)
    ∙ (ap (λ (b : SeenBell). b.cursor) (c.read_page.ensures.bells 0) ∙ c.requires.bell)))))
