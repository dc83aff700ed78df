use Rattle.std.proofs.Common.{◌≡◌, ◌∙◌, ◌++◌, ◌∷◌, [], ◌+◌, ◌-◌, ap, refl, arith, length, get_or, false}
use Rattle.load_model.specs.Patterns.{goes_on}
use Rattle.layer_conf.specs.Rows.{cell_of}
use Rattle.layer_conf.proofs.Globs.{row_start, row_next, later_next, later_within, none_later, one_longer}
use Rattle.layer_conf.proofs.glob.with_byte.Goals as goal

pub loop-left-init : goal.loop-left-init
loop-left-init c =
    let start : c.push.new.self.items ≡ c.first_cell-first.result ∷ [] = c.in_ok-push.ensures.items ∙ ap (λ l. l ++ c.first_cell-first.result ∷ []) c.in_ok-made.ensures.items in
    record {
      long = ap length start;
      made = λ pattern e. row_start c.args.byte pattern c.args.path.now c.args.row.now c.push.new.self.items c.first_cell-first.result e c.first_cell-first.ensures start;
      later = none_later c.args.path.now;
      within = omega arith;
    }

pub loop-left-preserved : goal.loop-left-preserved
loop-left-preserved c =
    let path = c.args.path.now in
    let left = c.loop-left.left in
    let next = get_or path (length path - 1 - left) 0 in
    let row = c.args.row.now in
    let cell = c.cell-matches.ensures ∙ ap (λ m. cell_of c.args.byte next (get_or row (left + 1) false) (get_or row left false) (get_or row c.loop-left.later false) (get_or m left false)) c.deref.ensures.value in
    record {
      long = one_longer c.loop-left.made.items c.push-in-loop-left.new.self.items c.cell-matches.result (left + 1) c.in_ok-push-2.ensures.items c.loop-left.invariant.long;
      made = λ pattern e. row_next c.args.byte next pattern path row c.loop-left.made.items c.push-in-loop-left.new.self.items left c.loop-left.later c.cell-matches.result c.loop-left-test.true refl e (c.loop-left.invariant.made pattern e) c.loop-left.invariant.later cell c.in_ok-push-2.ensures.items;
      later = later_next path next left c.loop-left.later c.later_of-later.result c.loop-left-test.true refl c.loop-left.invariant.later c.later_of-later.ensures;
      within = later_within (goes_on next) left c.loop-left.later c.later_of-later.result c.loop-left.invariant.within c.later_of-later.ensures;
    }
