use Rattle.sh_gather.proofs.laws.core_refines.Goals as goal

pub returns : goal.returns
returns c = (
  λ layout shape a b f es. record {
    legal = c.refines_map.ensures.legal layout shape a b f es;
    entries = c.refines_map.ensures.entries layout shape a b f es;
    one_kind = c.refines_map.ensures.one_kind layout shape a b f es;
    classes = c.refines_map.ensures.classes layout shape a b f es;
    held = c.refines_map.ensures.held layout shape a b f es;
    notes = c.refines_map.ensures.notes layout shape a b f es;
    looks = c.refines_map.ensures.looks layout shape a b f es;
    holds = c.refines_map.ensures.holds layout shape a b f es;
    counted = c.refines_map.ensures.counted layout shape a b f es;
    few = c.refines_map.ensures.few layout shape a b f es;
    counts = c.refines_map.ensures.counts layout shape a b f es;
    past = c.refines_map.ensures.past layout shape a b f es;
    keys = c.refines_map.ensures.keys layout shape a b f es;
    generations = c.refines_map.ensures.generations layout shape a b f es;
    retired = c.refines_map.ensures.retired layout shape a b f es;
    finished = c.refines_map.ensures.finished layout shape a b f es;
    owners = c.refines_map.ensures.owners layout shape a b f es;
    armed = c.refines_map.ensures.armed layout shape a b f es;
    shardless = c.refines_map.ensures.shardless layout shape a b f es;
    linked = c.refines_map.ensures.linked layout shape a b f es;
    parts = c.refines_map.ensures.parts layout shape a b f es;
    fills = c.refines_map.ensures.fills layout shape a b f es;
    places = c.refines_map.ensures.places layout shape a b f es;
    bells = c.refines_map.ensures.bells layout shape a b f es;
    values = c.refines_map.ensures.values layout shape a b f es;
    stores = c.refines_map.ensures.stores layout shape a b f es;
    issues = c.refines_map.ensures.issues layout shape a b f es;
    few_holds = c.refines_map.ensures.few_holds layout shape a b f es;
    flags = c.refines_map.ensures.flags layout shape a b f es;
    hands = c.refines_map.ensures.hands layout shape a b f es;
    goes_on = c.refines_map.ensures.goes_on layout shape a b f es;
    ends = c.refines_map.ensures.ends layout shape a b f es;
    passes = c.refines_map.ensures.passes layout shape a b f es;
  },
  c.plans_are_lawful.ensures,
)
