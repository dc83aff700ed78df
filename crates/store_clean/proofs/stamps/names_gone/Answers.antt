use Rattle.std.proofs.Common.{ap, arith, Bool, length, List, subst}
use Rattle.std.specs.Prelude.{MatchBool}
use Rattle.store_clean.specs.Steps.{IsGone, node_names}
use Rattle.store_clean.proofs.Stamped.{stamp_none, stamp_some}
use Rattle.store_clean.proofs.Tabled.{place_below}
use Rattle.store_clean.proofs.stamps.names_gone.Goals as goal

pub is_gone-requires : goal.is_gone-requires
is_gone-requires c =
    let below = place_below c.args.nodes.now c.args.chosen.now.table.entries c.in-Some.name c.in-Some-place_of.place c.requires.table c.in-Some-place_of.ensures in
    let long = c.requires.long in
    let same = ap (length {A = Bool}) c.deref.ensures.value in
    omega (arith, below, long, same)

pub returns-in-Some-place_of : goal.returns-in-Some-place_of
returns-in-Some-place_of c =
    stamp_some (node_names c.args.nodes.now) c.args.chosen.now.table.entries c.args.chosen.now.marks.items c.args.entry.now c.in-Some.name c.requires.table c.in-Some.ensures.some c.is_gone.result c.in-Some-place_of.place c.in-Some-place_of.ensures
    (subst (λ (marks : List Bool). MatchBool c.is_gone.result (IsGone marks c.in-Some-place_of.place) (IsGone marks c.in-Some-place_of.place → ⊥)) c.deref.ensures.value c.is_gone.ensures)

pub returns-in-None : goal.returns-in-None
returns-in-None c = stamp_none (node_names c.args.nodes.now) c.args.chosen.now.table.entries c.args.chosen.now.marks.items c.args.entry.now c.in-Some.name c.requires.table c.in-Some.ensures.some c.in-None.ensures
