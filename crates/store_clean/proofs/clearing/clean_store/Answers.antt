use Rattle.std.proofs.Common.{◌≡◌, ◌∙◌, ap, length, List, subst, sym, Bool}
use Rattle.outside_traits.specs.Store.{IsFree, Store}
use Rattle.store_opening.proofs.Opened.{rows_held}
use Rattle.store_clean.specs.declared.nodes.Node.{Node}
use Rattle.store_keep.specs.Tries.{marked_in}
use Rattle.store_clean.specs.Cleared.{gone_path}
use Rattle.store_clean.specs.Deciding.{IsDecided}
use Rattle.store_clean.specs.Steps.{AreNodesBy, IsChosen, IsNode, IsPlaceTable, IsReady, IsTitled, node_names}
use Rattle.store_clean.proofs.Chosen.{decided_of, marks_long, names_earlier}
use Rattle.store_clean.proofs.Ready.{opened_free, ready_of}
use Rattle.store_clean.proofs.Runs.{durable_same}
use Rattle.store_clean.proofs.Whole.{all_done, moment_clears, moment_same}
use Rattle.store_clean.proofs.clearing.clean_store.Goals as goal

pub clear_chosen-requires-clause-durable : goal.clear_chosen-requires-clause-durable
clear_chosen-requires-clause-durable g c told = durable_same (g.D.Disk.story c.args.disk.now) (g.D.Disk.story c.read_nodes.new.disk) (c.requires.opened told).durable (c.in_ok-nodes.ensures.same told)

pub clear_chosen-requires-clause-free : goal.clear_chosen-requires-clause-free
clear_chosen-requires-clause-free g c told =
    let o = c.requires.opened told in
    subst (λ (h : Store). IsFree h gone_path) (sym (c.in_ok-nodes.ensures.same told).held) (opened_free o.before (g.D.Disk.story c.args.disk.now).held c.args.index.now o.opened)

pub clear_chosen-requires-clause-table : goal.clear_chosen-requires-clause-table
clear_chosen-requires-clause-table g c = subst (λ (l : List Node). IsPlaceTable (node_names l) c.in_ok-chosen.chosen.table.entries) (c.deref.ensures.value ∙ sym c.deref-2.ensures.value) c.in_ok-chosen.ensures.table

pub clear_chosen-requires-clause-earlier : goal.clear_chosen-requires-clause-earlier
clear_chosen-requires-clause-earlier g c = names_earlier c.deref.result.now c.in_ok-chosen.chosen.edges.items c.in_ok-chosen.ensures.edges

pub clear_chosen-requires-clause-long : goal.clear_chosen-requires-clause-long
clear_chosen-requires-clause-long g c = marks_long c.deref.result.now c.args.roots.now c.args.limit c.in_ok-chosen.chosen c.in_ok-chosen.ensures ∙ ap (length {A = Node}) (c.deref.ensures.value ∙ sym c.deref-2.ensures.value)

pub clear_chosen-requires-clause-edges : goal.clear_chosen-requires-clause-edges
clear_chosen-requires-clause-edges g c = c.in_ok-chosen.ensures.edges.long ∙ ap (length {A = Node}) (c.deref.ensures.value ∙ sym c.deref-2.ensures.value)

pub returns-in_err-nodes-clause-images : goal.returns-in_err-nodes-clause-images
returns-in_err-nodes-clause-images g c told = moment_same c.args.index.now c.args.roots.now c.args.limit (g.D.Disk.story c.args.disk.now) (g.D.Disk.story c.read_nodes.new.disk) (g.met.D.Disk.sound c.args.disk.now told) (c.requires.opened told).durable (c.in_err-nodes.ensures.same told)

pub returns-in_err-chosen-clause-images : goal.returns-in_err-chosen-clause-images
returns-in_err-chosen-clause-images g c told = moment_same c.args.index.now c.args.roots.now c.args.limit (g.D.Disk.story c.args.disk.now) (g.D.Disk.story c.read_nodes.new.disk) (g.met.D.Disk.sound c.args.disk.now told) (c.requires.opened told).durable (c.in_ok-nodes.ensures.same told)

pub returns-in_err-clear_chosen-clause-images : goal.returns-in_err-clear_chosen-clause-images
returns-in_err-clear_chosen-clause-images g c told =
    let rows = c.args.index.now in
    let nodes = c.deref-2.result.now in
    let chosen = c.in_ok-chosen.chosen in
    let a = g.D.Disk.story c.args.disk.now in
    let b = g.D.Disk.story c.read_nodes.new.disk in
    let o = c.requires.opened told in
    let same : b.held ≡ a.held = (c.in_ok-nodes.ensures.same told).held in
    let titled : AreNodesBy IsTitled rows nodes = subst (AreNodesBy IsTitled rows) (sym c.deref-2.ensures.value) c.in_ok-nodes.ensures.titled in
    let are : AreNodesBy IsNode rows nodes = subst (AreNodesBy IsNode rows) (sym c.deref-2.ensures.value) (c.in_ok-nodes.ensures.nodes told (rows_held o.before a.held rows o.opened)) in
    let is_chosen : IsChosen nodes c.args.roots.now c.args.limit chosen = subst (λ (l : List Node). IsChosen l c.args.roots.now c.args.limit chosen) (c.deref.ensures.value ∙ sym c.deref-2.ensures.value) c.in_ok-chosen.ensures in
    let decided : IsDecided rows c.args.roots.now c.args.limit chosen.marks.items = decided_of rows nodes c.args.roots.now c.args.limit chosen titled are is_chosen in
    let ready : IsReady rows nodes chosen b.held = subst (IsReady rows nodes chosen) (sym same) (ready_of o.before a.held rows o.opened nodes c.args.roots.now c.args.limit chosen titled are is_chosen) in
    moment_clears rows c.args.roots.now c.args.limit chosen.marks.items decided a b (g.D.Disk.story c.clear_chosen.new.disk) (g.met.D.Disk.sound c.args.disk.now told) o.durable (g.met.D.Disk.sound c.read_nodes.new.disk told) (durable_same a b o.durable (c.in_ok-nodes.ensures.same told)) (c.in_ok-nodes.ensures.same told)
    (c.clear_chosen.ensures.images told rows ready)

pub returns-clause-images : goal.returns-clause-images
returns-clause-images g c told =
    let rows = c.args.index.now in
    let nodes = c.deref-2.result.now in
    let chosen = c.in_ok-chosen.chosen in
    let a = g.D.Disk.story c.args.disk.now in
    let b = g.D.Disk.story c.read_nodes.new.disk in
    let o = c.requires.opened told in
    let same : b.held ≡ a.held = (c.in_ok-nodes.ensures.same told).held in
    let titled : AreNodesBy IsTitled rows nodes = subst (AreNodesBy IsTitled rows) (sym c.deref-2.ensures.value) c.in_ok-nodes.ensures.titled in
    let are : AreNodesBy IsNode rows nodes = subst (AreNodesBy IsNode rows) (sym c.deref-2.ensures.value) (c.in_ok-nodes.ensures.nodes told (rows_held o.before a.held rows o.opened)) in
    let is_chosen : IsChosen nodes c.args.roots.now c.args.limit chosen = subst (λ (l : List Node). IsChosen l c.args.roots.now c.args.limit chosen) (c.deref.ensures.value ∙ sym c.deref-2.ensures.value) c.in_ok-chosen.ensures in
    let decided : IsDecided rows c.args.roots.now c.args.limit chosen.marks.items = decided_of rows nodes c.args.roots.now c.args.limit chosen titled are is_chosen in
    let ready : IsReady rows nodes chosen b.held = subst (IsReady rows nodes chosen) (sym same) (ready_of o.before a.held rows o.opened nodes c.args.roots.now c.args.limit chosen titled are is_chosen) in
    moment_clears rows c.args.roots.now c.args.limit chosen.marks.items decided a b (g.D.Disk.story c.clear_chosen.new.disk) (g.met.D.Disk.sound c.args.disk.now told) o.durable (g.met.D.Disk.sound c.read_nodes.new.disk told) (durable_same a b o.durable (c.in_ok-nodes.ensures.same told)) (c.in_ok-nodes.ensures.same told)
    (c.clear_chosen.ensures.images told rows ready)

pub returns-clause-done : goal.returns-clause-done
returns-clause-done g c told =
    let rows = c.args.index.now in
    let nodes = c.deref-2.result.now in
    let chosen = c.in_ok-chosen.chosen in
    let a = g.D.Disk.story c.args.disk.now in
    let b = g.D.Disk.story c.read_nodes.new.disk in
    let o = c.requires.opened told in
    let same : b.held ≡ a.held = (c.in_ok-nodes.ensures.same told).held in
    let titled : AreNodesBy IsTitled rows nodes = subst (AreNodesBy IsTitled rows) (sym c.deref-2.ensures.value) c.in_ok-nodes.ensures.titled in
    let are : AreNodesBy IsNode rows nodes = subst (AreNodesBy IsNode rows) (sym c.deref-2.ensures.value) (c.in_ok-nodes.ensures.nodes told (rows_held o.before a.held rows o.opened)) in
    let is_chosen : IsChosen nodes c.args.roots.now c.args.limit chosen = subst (λ (l : List Node). IsChosen l c.args.roots.now c.args.limit chosen) (c.deref.ensures.value ∙ sym c.deref-2.ensures.value) c.in_ok-chosen.ensures in
    let decided : IsDecided rows c.args.roots.now c.args.limit chosen.marks.items = decided_of rows nodes c.args.roots.now c.args.limit chosen titled are is_chosen in
    let ready : IsReady rows nodes chosen b.held = subst (IsReady rows nodes chosen) (sym same) (ready_of o.before a.held rows o.opened nodes c.args.roots.now c.args.limit chosen titled are is_chosen) in
    let marks : c.deref-3.result.now ≡ chosen.marks.items = c.deref-3.ensures.value in
    all_done rows nodes c.args.roots.now c.args.limit chosen.marks.items a b (g.D.Disk.story c.clear_chosen.new.disk) c.numbers.result decided (marks_long nodes c.args.roots.now c.args.limit chosen is_chosen ∙ titled.long)
    (c.numbers.ensures.kept ∙ ap marked_in marks) (c.numbers.ensures.all ∙ ap (length {A = Bool}) marks) same (c.in_ok-clear_chosen.ensures.cleared told rows ready) (c.in_ok-clear_chosen.ensures.durable told)
