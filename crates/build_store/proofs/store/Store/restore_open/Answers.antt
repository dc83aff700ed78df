use Rattle.std.proofs.Common.{◌≡◌, ◌∙◌, ap, List, Some}
use Rattle.store_model.specs.declared.signature.EquivRow.{EquivRow}
use Rattle.store_model.specs.Available.{task_folder}
use Rattle.store_model.specs.Rows.{row_at}
use Rattle.store_model.specs.Spelling.{name_of}
use Rattle.build_store.specs.Restoring.{IsFound}
use Rattle.build_store.specs.View.{signed_by}
use Rattle.build_store.proofs.RestoringOpens.{its_object, opened_all, others_behind, others_looked, restores_behind}
use Rattle.build_store.proofs.store.Store.restore_open.Goals as goal

pub returns-in_err-found-clause-others : goal.returns-in_err-found-clause-others
returns-in_err-found-clause-others g c told = others_looked (task_folder c.args.task.now) (g.D.Disk.story c.args.self.now.disk) (g.D.Disk.story c.found_object.new.self.disk) (c.found_object.ensures.images told)

pub returns-in-Some-clause-opens : goal.returns-in-Some-clause-opens
returns-in-Some-clause-opens g c =
    let s = signed_by c.args.task.now c.args.sig.now in
    let old = c.args.self.now in
    let found = c.in-Some.found in
    let is : IsFound old.rows old.keys s found = rw c.in-Some.is at c.in_ok-found.ensures.of in
    let a = g.D.Disk.story old.disk in
    opened_all g.D.Disk.tells g.D.Disk.story old c.found_object.new.self _ s found c.found_object.ensures.same is
    (λ told. its_object old.rows old.keys s found is a.held (rw c.in-Some.is at (c.in_ok-found.ensures.found told))) c.open_found.result c.open_found.ensures.opens

pub returns-in-Some-clause-images : goal.returns-in-Some-clause-images
returns-in-Some-clause-images g c told =
    let s = signed_by c.args.task.now c.args.sig.now in
    let old = c.args.self.now in
    let found = c.in-Some.found in
    let is : IsFound old.rows old.keys s found = rw c.in-Some.is at c.in_ok-found.ensures.of in
    let a = g.D.Disk.story old.disk in
    let object = its_object old.rows old.keys s found is a.held (rw c.in-Some.is at (c.in_ok-found.ensures.found told)) in
    let at : row_at c.found_object.new.self.rows (name_of c.args.sig.now) ≡ Some is.row = ap (λ (l : List EquivRow). row_at l (name_of c.args.sig.now)) c.found_object.ensures.same.rows ∙ is.stored.is_row in
    restores_behind s is.row found.tree old.rows a (g.D.Disk.story c.found_object.new.self.disk) (g.D.Disk.story c.open_found.new.self.disk) (c.found_object.ensures.images told) object (c.open_found.ensures.publishing told is.row at)

pub returns-in-Some-clause-others : goal.returns-in-Some-clause-others
returns-in-Some-clause-others g c told =
    let s = signed_by c.args.task.now c.args.sig.now in
    let old = c.args.self.now in
    let found = c.in-Some.found in
    let is : IsFound old.rows old.keys s found = rw c.in-Some.is at c.in_ok-found.ensures.of in
    let a = g.D.Disk.story old.disk in
    let object = its_object old.rows old.keys s found is a.held (rw c.in-Some.is at (c.in_ok-found.ensures.found told)) in
    let at : row_at c.found_object.new.self.rows (name_of c.args.sig.now) ≡ Some is.row = ap (λ (l : List EquivRow). row_at l (name_of c.args.sig.now)) c.found_object.ensures.same.rows ∙ is.stored.is_row in
    others_behind s is.row found.tree old.rows a (g.D.Disk.story c.found_object.new.self.disk) (g.D.Disk.story c.open_found.new.self.disk) (c.found_object.ensures.images told) object (c.open_found.ensures.publishing told is.row at)
