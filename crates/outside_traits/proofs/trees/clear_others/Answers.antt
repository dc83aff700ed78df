use Rattle.std.proofs.Common.{◌≡◌, ◌∙◌, ◌-◌, ◌+◌, ◌++◌, sym, ap, arith, List, ℕ, [], get_or, length}
use Rattle.std.proofs.lemmas.Bool.{false≢true}
use Rattle.std.proofs.lemmas.List.{get_or_default}
use Rattle.tree_model.specs.Tree.{entry_at}
use Rattle.outside_traits.proofs.Calls.{lists_passes}
use Rattle.outside_traits.proofs.Folders.{lays_same}
use Rattle.outside_traits.proofs.Held.{none_unless}
use Rattle.outside_traits.proofs.Steps.{emptying_start, emptying_lays, emptying_more, emptying_skips, emptying_end, listed_rest}
use Rattle.outside_traits.proofs.trees.clear_others.Goals as goal

pub returns-in_err-paths-clause-lays : goal.returns-in_err-paths-clause-lays
returns-in_err-paths-clause-lays g c told = lays_same c.args.folder.now c.args.tree.now (lists_passes (c.list.ensures.told told))

pub loop-k-init : goal.loop-k-init
loop-k-init g c = record {
  faults = c.in_ok-paths.ensures.cause.stayed;
  emptying = λ told. emptying_start c.args.tree.now (length c.as_slice-found.result.now) (omega arith) (c.requires told) (c.list.ensures.told told);
}

pub returns-in_err-remove-clause-lays : goal.returns-in_err-remove-clause-lays
returns-in_err-remove-clause-lays g c told =
    let found = c.as_slice-found.result.now in
    let listing = rw (sym c.as_slice-found.ensures) at (c.in_ok-paths.ensures.told told).answers.0 in
    let rest = listed_rest c.args.folder.now (c.loop-k.k - 1) (c.as_str.ensures ∙ c.in_ok-prefix.ensures) listing (omega arith) in
    let path_is : c.as_str-path.result.now ≡ get_or found (c.loop-k.k - 1) [] = c.as_str-path.ensures ∙ c.index-found-k.is ∙ get_or_default found (c.loop-k.k - 1) c.index-found-k.result [] (omega arith) in
    let has = c.has_rest.ensures rest.0 (path_is ∙ rest.2 ∙ ap (λ (l : List ℕ). l ++ rest.0) (c.as_str.ensures ∙ sym c.as_str-in-loop-k.ensures)) in
    let without = none_unless (entry_at c.args.tree.now rest.0) (λ some. false≢true (sym c.if-not-has_rest.true ∙ has ∙ some)) in
    let next : (c.loop-k.k - 1) + 1 ≡ c.loop-k.k = omega arith in
    let so_far = rw (sym next) at (c.loop-k.invariant.emptying told) in
    emptying_lays (c.loop-k.k - 1) rest.0 (path_is ∙ rest.1) rest.3 without so_far (c.remove.ensures.told told)

pub loop-k-preserved-in-Continue-branch-3 : goal.loop-k-preserved-in-Continue-branch-3
loop-k-preserved-in-Continue-branch-3 g c = record {
  faults = c.in_ok-remove.ensures.cause.stayed ∙ c.loop-k.invariant.faults;
  emptying = λ told.
      let found = c.as_slice-found.result.now in
      let listing = rw (sym c.as_slice-found.ensures) at (c.in_ok-paths.ensures.told told).answers.0 in
      let rest = listed_rest c.args.folder.now (c.loop-k.k - 1) (c.as_str.ensures ∙ c.in_ok-prefix.ensures) listing (omega arith) in
      let path_is : c.as_str-path.result.now ≡ get_or found (c.loop-k.k - 1) [] = c.as_str-path.ensures ∙ c.index-found-k.is ∙ get_or_default found (c.loop-k.k - 1) c.index-found-k.result [] (omega arith) in
      let has = c.has_rest.ensures rest.0 (path_is ∙ rest.2 ∙ ap (λ (l : List ℕ). l ++ rest.0) (c.as_str.ensures ∙ sym c.as_str-in-loop-k.ensures)) in
      let without = none_unless (entry_at c.args.tree.now rest.0) (λ some. false≢true (sym c.if-not-has_rest.true ∙ has ∙ some)) in
      let next : (c.loop-k.k - 1) + 1 ≡ c.loop-k.k = omega arith in
      let so_far = rw (sym next) at (c.loop-k.invariant.emptying told) in
      emptying_more (c.loop-k.k - 1) rest.0 (path_is ∙ rest.1) rest.3 without so_far rest.1 (c.in_ok-remove.ensures.told told);
}

pub loop-k-preserved : goal.loop-k-preserved
loop-k-preserved g c = record {
  faults = c.loop-k.invariant.faults;
  emptying = λ told.
      let found = c.as_slice-found.result.now in
      let listing = rw (sym c.as_slice-found.ensures) at (c.in_ok-paths.ensures.told told).answers.0 in
      let rest = listed_rest c.args.folder.now (c.loop-k.k - 1) (c.as_str.ensures ∙ c.in_ok-prefix.ensures) listing (omega arith) in
      let path_is : c.as_str-path.result.now ≡ get_or found (c.loop-k.k - 1) [] = c.as_str-path.ensures ∙ c.index-found-k.is ∙ get_or_default found (c.loop-k.k - 1) c.index-found-k.result [] (omega arith) in
      let has = c.has_rest.ensures rest.0 (path_is ∙ rest.2 ∙ ap (λ (l : List ℕ). l ++ rest.0) (c.as_str.ensures ∙ sym c.as_str-in-loop-k.ensures)) in
      let next : (c.loop-k.k - 1) + 1 ≡ c.loop-k.k = omega arith in
      let so_far = rw (sym next) at (c.loop-k.invariant.emptying told) in
      emptying_skips rest.0 rest.1 (sym has ∙ c.if-not-has_rest.false) so_far;
}

pub returns-clause-cleared : goal.returns-clause-cleared
returns-clause-cleared g c told =
    let listing = (c.in_ok-paths.ensures.told told).answers.0 in
    let none : c.loop-k.k ≡ 0 = omega arith in
    emptying_end (c.as_str.ensures ∙ c.in_ok-prefix.ensures) listing (rw (none, c.as_slice-found.ensures) at (c.loop-k.invariant.emptying told))
