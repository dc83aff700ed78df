use Rattle.std.proofs.Common.{◌∙◌, subst, ◌++◌}
use Rattle.value_maps.specs.Maps.{Keeps, IsHidden}
use Rattle.datastore.proofs.Retold.{anew_parts, hidden_keeps, retold_keeps, kept_lines}
use Rattle.datastore.proofs.freeze.retell.Goals as goal

pub returns : goal.returns
returns c = λ list keeps is.
    let maps = c.args.maps in
    let anew = c.args.anew in
    let parts = anew_parts list maps anew keeps is in
    let first = kept_lines maps parts.2 in
    let hid = c.in_ok-made.made in
    let hidden : IsHidden maps hid anew.names = subst (IsHidden maps hid) c.as_slice.ensures c.in_ok-made.ensures in
    let k = hidden_keeps list maps hid anew parts.0 parts.2 keeps is.keys hidden parts.1 parts.3 in
    let staying = subst (λ l. Keeps (first ++ l) c.change_all.new.self) c.as_slice-2.ensures.value (c.in_ok-change_all.ensures.keeps first k) in
    let moving = subst (λ l. Keeps ((first ++ anew.staying.items) ++ l) c.change_all-2.new.self) c.as_slice-3.ensures.value (c.in_ok-change_all-2.ensures.keeps (first ++ anew.staying.items) staying) in
    (c.in_ok-change_all-2.ensures.same ∙ c.in_ok-change_all.ensures.same ∙ hidden.same, retold_keeps list maps anew keeps is c.change_all-2.new.self moving)
