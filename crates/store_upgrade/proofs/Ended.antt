-- How `format` comes to stand.
use Rattle.std.proofs.Common.{◌≡◌, ◌∙◌, sym, refl, ℕ, ◌⊎◌, inl, inr, List, [], ◌∷◌, None, Some, arith}
use Rattle.std.specs.Prelude.{codes}
use Rattle.tree_model.specs.Path.{IsBelow}
use Rattle.outside_traits.specs.Passes.{Passes}
use Rattle.outside_traits.specs.Store.{ChangesAt, IsFree, Moves, Store}
use Rattle.outside_traits.specs.Story.{Story}
use Rattle.outside_traits.proofs.Runs.{passes_again, passes_so}
use Rattle.store_opening.specs.Paths.{IsLaidOut, IsTemporary}
use Rattle.store_opening.proofs.Areas.{differ, heads_differ}
use Rattle.store_opening.proofs.Doomed.{no_slash}
use Rattle.store_opening.proofs.Free.{free_in, more_slashes}
use Rattle.store_upgrade.proofs.Laid.{laid_within}
use Rattle.store_upgrade.specs.Steps.{Below, Ends, Within, present_format}

-- what is removed below a folder and at it is within it
pub below_within : (folder : List ℕ) (a b : Story) → Passes a b (Below folder) → Passes a b (Within folder)
below_within folder a b run = passes_so (Within folder) run (λ i j below. record { others = λ q never. below.others q (λ under. never (inr under)) })

at_within : (folder : List ℕ) (a b : Story) → Passes a b (ChangesAt folder) → Passes a b (Within folder)
at_within folder a b run = passes_so (Within folder) run (λ i j at. record { others = λ q never. at.others q (λ same. never (inl same)) })

pub within_joins : (folder : List ℕ) (i j k : Store) → Within folder i j → Within folder j k → Within folder i k
within_joins folder i j k one two = record { others = λ q never. two.others q never ∙ one.others q never }

pub below_then_at : (folder : List ℕ) (a b c : Story) → Passes a b (Below folder) → Passes b c (ChangesAt folder) → Passes a c (Within folder)
below_then_at folder a b c first second = passes_again (within_joins folder) (below_within folder a b first) (at_within folder b c second)

-- ---- `format`

ends_join : (i j k : Store) → Ends i j → Ends j k → Ends i k
ends_join i j k one two = record {
  others = λ q no_format no_temporary. two.others q no_format no_temporary ∙ one.others q no_format no_temporary;
  format = by two.format;
}
  where
    by : (k (codes "format") ≡ j (codes "format")) ⊎ (k (codes "format") ≡ Some present_format) → (k (codes "format") ≡ i (codes "format")) ⊎ (k (codes "format") ≡ Some present_format)
    by (inr now) = inr now
    by (inl same) = elim one.format [ inl was ↦ inl (same ∙ was) | inr now ↦ inr (same ∙ now) ]

pub below_ends : (a b : Story) → Passes a b (Below (codes "format")) → Passes a b Ends
below_ends a b run = passes_so Ends run (λ i j below. record { others = λ q no_format no_temporary. below.others q (λ under. no_format (inr under)); format = inl (below.others (codes "format") (λ under. no_slash (codes "format") under.0 under.1)) })

staged_ends : (a b : Story) → Passes a b (ChangesAt (codes "tmp/format")) → Passes a b Ends
staged_ends a b run = passes_so Ends run (λ i j at. record { others = λ q no_format no_temporary. at.others q (λ same. no_temporary (inr (codes "format", same))); format = inl (at.others (codes "format") (heads_differ (differ 102 116 refl))) })

moved_ends : (a b : Story) → Passes a b (Moves (codes "tmp/format") (codes "format") (Some present_format)) → Passes a b Ends
moved_ends a b run = passes_so Ends run (λ i j moves. record { others = λ q no_format no_temporary. moves.others q (λ same. no_temporary (inr (codes "format", same))) (λ same. no_format (inl same)); format = moves.target })

pub staged_then : (a b c : Story) → Passes a b (Below (codes "format")) → Passes b c (ChangesAt (codes "tmp/format")) → Passes a c Ends
staged_then a b c first second = passes_again ends_join (below_ends a b first) (staged_ends b c second)

pub all_ends : (a b c d : Story) → Passes a b (Below (codes "format")) → Passes b c (ChangesAt (codes "tmp/format")) → Passes c d (Moves (codes "tmp/format") (codes "format") (Some present_format)) → Passes a d Ends
all_ends a b c d first second third = passes_again ends_join (staged_then a b c first second) (moved_ends c d third)

-- where `format` is written first is free
pub free_staged_format : (held now : Store) → Below (codes "format") held now → IsLaidOut held → IsFree now (codes "tmp/format")
free_staged_format held now below laid = free_in now (codes "tmp") (codes "format") refl still.at_temporary (λ r some which. by r (still.temporary r some) which)
  where
    still : IsLaidOut now
    still = laid_within held now 102 (111 ∷ 114 ∷ 109 ∷ 97 ∷ 116 ∷ []) (differ 102 114 refl) (differ 102 107 refl) (differ 102 116 refl) (differ 102 115 refl) (record { others = λ q never. below.others q (λ under. never (inr under)) }) laid

    by : (r : List ℕ) → IsTemporary r → IsBelow r (codes "format") ⊎ IsBelow (codes "format") r → ⊥
    by r t (inl up) = let m = more_slashes r (codes "format") up in omega (arith, m)
    by r (inl t) (inr down) = heads_differ (differ 114 102 refl) (sym t.1 ∙ down.1)
    by r (inr (inl t)) (inr down) = heads_differ (differ 115 102 refl) (sym t.1 ∙ down.1)
    by r (inr (inr t)) (inr down) = heads_differ (differ 111 102 refl) (sym t.1 ∙ down.1)

pub free_format : (held now : Store) → ((q : List ℕ) → IsBelow (codes "format") q → held q ≡ None) → ChangesAt (codes "tmp/format") held now → IsFree now (codes "format")
free_format held now gone at = record {
  above = λ q up. absurd (let m = more_slashes q (codes "format") up in omega (arith, m));
  below = λ q down. at.others q (λ same. heads_differ (differ 102 116 refl) (sym down.1 ∙ same)) ∙ gone q down;
}
