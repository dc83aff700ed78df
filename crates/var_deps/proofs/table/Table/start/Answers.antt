use Rattle.std.proofs.Common.{◌≡◌, ◌∙◌, ap, sym, subst, [], ◌++◌, ◌∷◌, Bool, ◌||◌, codes, is_some, Result, Ok}
use Rattle.meta_model.specs.Refusal.{Refusal}
use Rattle.meta_model.specs.Forms.{asked_by}
use Rattle.task_model.specs.Leads.{Led, flag_words, without}
use Rattle.var_deps.specs.Kept.{task_view}
use Rattle.var_deps.specs.Led.{led_of}
use Rattle.var_deps.proofs.Starting.{start_is}
use Rattle.var_deps.proofs.table.Table.start.Goals as goal

pub returns-clause-ok : goal.returns-clause-ok
returns-clause-ok c =
    let view = task_view c.args.self.now in
    let after = c.in_ok-after.after in
    let before = c.in_ok-before.before in
    let words = c.in_ok-words.words.items in
    let left : Bool → Result Led Refusal = λ b. Ok (record { names = c.insert.new.self.items; left_out = b }) in
    start_is view after before words c.insert.new.self.items (led_of c.in_ok-led.led)
    (subst (λ n. flag_words view n (codes "postfuncs") ≡ Ok after) c.as_str-task.ensures c.in_ok-after.ensures.ok) (subst (λ n. flag_words view n (codes "prefuncs") ≡ Ok before) c.as_str-task.ensures c.in_ok-before.ensures.ok)
    (c.in_ok-words.ensures ∙ ap (λ l. l ++ c.as_slice-2.result.now) c.as_slice.ensures ∙ ap (λ l. before ++ l) c.as_slice-2.ensures)
    (c.in_ok-led.ensures ∙ ap (λ i. without (i ++ []) words) c.as_slice-3.ensures)
    (c.in_ok-insert.ensures.items ∙ ap (λ n. n ∷ c.in_ok-led.led.names.items) c.in_ok-copy.ensures)
    ∙ ap left (sym (c.in_ok-left_out.ensures ∙ ap (λ t. is_some (asked_by t) || c.in_ok-led.led.left_out) c.as_str.ensures))
