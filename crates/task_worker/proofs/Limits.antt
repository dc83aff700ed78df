-- The test of an output's limits, and what it means.
use Rattle.std.proofs.Common.{◌≡◌, ◌∙◌, ap, sym, subst, refl, ◌≤◌, Bool, true, false, length, All, Ok, Err}
use Rattle.std.specs.Prelude.{◌||◌, ◌&&◌, not, IsTrue, if◌then◌else◌}
use Rattle.std.specs.List.{list_any}
use Rattle.std.proofs.lemmas.Bool.{false≢true}
use Rattle.tree_model.specs.declared.tree.Size.{Size}
use Rattle.tree_model.specs.Size.{Exceeds, size_of}
use Rattle.meta_model.proofs.Bools.{or_first, or_later}
use Rattle.meta_model.proofs.Limits.{exceeds_true, exceeds_false, long_false, long_true}
use Rattle.outside_traits.specs.Bench.{IsTaken}
use Rattle.outside_traits.specs.declared.bench.Taken.TheVariants as taken
use Rattle.meta_model.specs.declared.event.Why.TheVariants as why
use Rattle.meta_model.specs.CleanBuild.{Entries, exceeds, is_beyond, is_beyond_layout, is_long, layout_limit, limited, output_limit}

-- the test of an output
fits : (tree : Entries) (short within : Bool) → (IsTrue short → All (λ e. length e.0 ≤ 3072) tree) × (All (λ e. length e.0 ≤ 3072) tree → IsTrue short) → (IsTrue within → Exceeds (size_of tree) output_limit → ⊥) → ((Exceeds (size_of tree) output_limit → ⊥) → IsTrue within) → (short && within) ≡ not (is_beyond tree)
unfolding is_beyond
fits tree true true s w b = ap not (sym (ap (λ (x : Bool). x || list_any is_long tree) (exceeds_false (size_of tree) output_limit (w refl)) ∙ long_false tree (s.0 refl)))
fits tree true false s w b = ap not (sym (or_first (exceeds (size_of tree) output_limit) (list_any is_long tree) (by (exceeds (size_of tree) output_limit) refl)))
  where
    by : (x : Bool) → exceeds (size_of tree) output_limit ≡ x → exceeds (size_of tree) output_limit ≡ true
    by true e = e
    by false e = absurd (false≢true (b (λ more. false≢true (sym e ∙ exceeds_true (size_of tree) output_limit more))))
fits tree false within s w b = ap not (sym (or_later (exceeds (size_of tree) output_limit) (list_any is_long tree) (long_true tree (λ all. false≢true (s.1 all)))))

-- the same, by the two tests that are made
pub fits_short : (tree : Entries) (short within : Bool) (size : Size) → short ≡ true → (IsTrue short → All (λ e. length e.0 ≤ 3072) tree) × (All (λ e. length e.0 ≤ 3072) tree → IsTrue short) → size ≡ size_of tree → (IsTrue within → Exceeds size output_limit → ⊥) → ((Exceeds size output_limit → ⊥) → IsTrue within) → within ≡ not (is_beyond tree)
fits_short tree short within size e s is w b =
    ap (λ (x : Bool). x && within) (sym e)
    ∙ fits tree short within s (λ t more. w t (subst (λ (z : Size). Exceeds z output_limit) (sym is) more)) (λ never. b (λ more. never (subst (λ (z : Size). Exceeds z output_limit) is more)))

pub fits_long : (tree : Entries) (short : Bool) → short ≡ false → (IsTrue short → All (λ e. length e.0 ≤ 3072) tree) × (All (λ e. length e.0 ≤ 3072) tree → IsTrue short) → short ≡ not (is_beyond tree)
unfolding is_beyond
fits_long tree short e s =
    e ∙ ap not (sym (or_later (exceeds (size_of tree) output_limit) (list_any is_long tree) (long_true tree (λ all. false≢true (sym e ∙ s.1 all)))))

-- what a task gives by the test
pub limited_fit : (output tree : Entries) → IsTaken output output_limit (taken.Tree tree) → not (is_beyond tree) ≡ true → limited (Ok output) ≡ Ok tree
limited_fit output tree is fit = by (is_beyond tree) refl fit
  where
    by : (b : Bool) → is_beyond tree ≡ b → not b ≡ true → limited (Ok output) ≡ Ok tree
    by true e f = absurd (false≢true f)
    by false e f = ap (λ (t : Entries). limited (Ok t)) (sym is.0) ∙ ap (λ (b : Bool). if b then Err why.TooLarge else Ok tree) e

pub limited_large : (output tree : Entries) → IsTaken output output_limit (taken.Tree tree) → not (is_beyond tree) ≡ false → limited (Ok output) ≡ Err why.TooLarge
limited_large output tree is fit = by (is_beyond tree) refl fit
  where
    by : (b : Bool) → is_beyond tree ≡ b → not b ≡ false → limited (Ok output) ≡ Err why.TooLarge
    by true e f = ap (λ (t : Entries). limited (Ok t)) (sym is.0) ∙ ap (λ (b : Bool). if b then Err why.TooLarge else Ok tree) e
    by false e f = absurd (false≢true (sym f))

-- what is not beyond the limits
pub not_beyond : (tree : Entries) → not (is_beyond tree) ≡ true → is_beyond tree ≡ false
not_beyond tree fit = by (is_beyond tree) refl fit
  where
    by : (b : Bool) → is_beyond tree ≡ b → not b ≡ true → is_beyond tree ≡ false
    by true e f = absurd (false≢true f)
    by false e f = e

-- a tree that exceeds the limit is too large
pub too_much : (output : Entries) → IsTaken output output_limit taken.TooLarge → limited (Ok output) ≡ Err why.TooLarge
unfolding is_beyond
too_much output is =
    let beyond : is_beyond output ≡ true = or_first _ (list_any is_long output) (exceeds_true (size_of output) output_limit is) in
    ap (λ (b : Bool). if b then Err why.TooLarge else Ok output) beyond

pub within_layout : (tree : Entries) → (Exceeds (size_of tree) layout_limit → ⊥) → is_beyond_layout tree ≡ false
unfolding is_beyond_layout
within_layout tree never = exceeds_false (size_of tree) layout_limit never

pub not_within : (tree : Entries) → ((Exceeds (size_of tree) layout_limit → ⊥) → ⊥) → is_beyond_layout tree ≡ true
unfolding is_beyond_layout
not_within tree never = by (is_beyond_layout tree) refl
  where
    by : (b : Bool) → is_beyond_layout tree ≡ b → is_beyond_layout tree ≡ true
    by true e = e
    by false e = absurd (never (λ more. false≢true (sym e ∙ exceeds_true (size_of tree) layout_limit more)))
