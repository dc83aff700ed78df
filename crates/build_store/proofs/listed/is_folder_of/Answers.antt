use Rattle.std.proofs.Common.{◌≡◌, ◌∙◌, sym, ap, ◌∷◌, ◌++◌}
use Rattle.std.specs.Str.{bytes_eq}
use Rattle.store_model.specs.Available.{task_folder}
use Rattle.build_store.proofs.Positions.{eq_behind, other_text}
use Rattle.build_store.proofs.listed.is_folder_of.Goals as goal

pub returns-in-Some : goal.returns-in-Some
returns-in-Some c =
    let h = c.in-Some.ensures.cases in
    let pn = c.args.task.now.id.pn in
    let name = c.args.task.now.id.task in
    let folder : c.args.folder.now ≡ pn ++ c.in-Some.rest.now = h.1.1 ∙ (λ i. c.as_str.ensures i ++ sym h.2 i) in
    c.is_behind.ensures ∙ ap (λ l. bytes_eq c.in-Some.rest.now (47 ∷ l)) c.as_str-in-Some.ensures ∙ sym (eq_behind pn c.in-Some.rest.now (47 ∷ name)) ∙ ap (λ l. bytes_eq l (pn ++ 47 ∷ name)) (sym folder)

pub returns-in-None : goal.returns-in-None
returns-in-None c =
    sym (other_text c.args.folder.now (task_folder c.args.task.now) (λ e. c.in-None.ensures.cases (47 ∷ c.args.task.now.id.task) (e ∙ ap (λ l. l ++ 47 ∷ c.args.task.now.id.task) (sym c.as_str.ensures))))
