-- Paths round a folder, and what is held there.
use Rattle.std.proofs.Common.{◌≡◌, ◌⊎◌, inl, inr, ⊎_elim, ℕ, List, [], ◌∷◌, ◌++◌, length, Some, None, Result, refl, sym, ◌∙◌, ap, subst, arith, append_assoc, length-append}
use Rattle.std.specs.Prelude.{IsSome, Option}
use Rattle.std.specs.Option.{is_some}
use Rattle.std.proofs.lemmas.Bool.{false≢true}
use Rattle.tree_model.specs.declared.entry.Entry.{Entry}
use Rattle.outside_traits.specs.declared.fault.DiskFault.{DiskFault}
use Rattle.tree_model.specs.Path.{IsBelow, inside}
use Rattle.tree_model.specs.Tree.{IsTree, entry_at}
use Rattle.outside_traits.specs.Store.{Store, IsFree, IsApart, IsAround, AgreesApart, AgreesRound, IsOpen, ChangesAt, LaysTree, MakesWay, PutsEntry}
use Rattle.outside_traits.specs.Story.{Story}
use Rattle.outside_traits.specs.Passes.{Clears, Passes, Same}
use Rattle.outside_traits.proofs.Puts.{path_cases}
use Rattle.outside_traits.proofs.Runs.{passes_none, passes_so, passes_then}
use Rattle.outside_traits.proofs.Calls.{same_so}
use Rattle.outside_traits.proofs.Held.{none_unless}
use Rattle.outside_traits.proofs.Laid.{paths_level}

-- what stands above a path under the folder
pub above_under : (folder p q : List ℕ) → IsBelow q (inside folder p) → IsBelow q folder ⊎ ((q ≡ folder) ⊎ ((r : List ℕ) × (q ≡ inside folder r) × IsBelow r p))
above_under [] p [] below = inr (inl refl)
above_under [] p (x ∷ q) below =
    let head : 47 ≡ x = cc (below.1) in
    let tail : p ≡ q ++ 47 ∷ below.0 = cc (below.1) in
    inr (inr (q, ap (λ (y : ℕ). y ∷ q) (sym head), (below.0, tail)))
above_under (f ∷ folder) p [] below = let head : f ≡ 47 = cc (below.1) in inl (folder, ap (λ (y : ℕ). y ∷ folder) head)
above_under (f ∷ folder) p (x ∷ q) below =
    let head : f ≡ x = cc (below.1) in
    let tail : folder ++ 47 ∷ p ≡ q ++ 47 ∷ below.0 = cc (below.1) in
    ⊎_elim (λ up. inl (up.0, λ i. head i ∷ up.1 i))
    (λ other. ⊎_elim (λ same. inr (inl (λ i. sym head i ∷ same i))) (λ in_it. inr (inr (in_it.0, (λ i. sym head i ∷ in_it.1 i), in_it.2))) other)
    (above_under folder p q (below.0, tail))

pub under_same : (folder p q : List ℕ) → inside folder p ≡ inside folder q → p ≡ q
under_same [] p q same = cc
under_same (f ∷ folder) p q same = under_same folder p q cc

pub AgreesRound-same : (folder : List ℕ) (h i : Store) → AgreesRound folder h i i
AgreesRound-same folder h i = record { apart = λ q far. refl; around = λ q near none. refl }

-- where all that is held round a folder stays, what stands apart from it stays
pub apart_of_round : (folder : List ℕ) (h i j : Store) → AgreesRound folder h i j → AgreesApart folder i j
apart_of_round folder h i j round = record { apart = round.apart }

not_below_itself : (q : List ℕ) → IsBelow q q → ⊥
not_below_itself q itself = let e = ap length itself.1 ∙ length-append q (47 ∷ itself.0) in omega arith

not_both : (p q : List ℕ) → IsBelow p q → IsBelow q p → ⊥
not_both p q down up = let e = ap length down.1 ∙ length-append p (47 ∷ down.0) in let f = ap length up.1 ∙ length-append q (47 ∷ up.0) in omega arith

-- what stands under a folder is neither the folder nor above it
not_around : (folder p q : List ℕ) → IsBelow folder p → IsAround folder q → q ≡ p → ⊥
not_around folder p q below (inl at) same = not_below_itself folder (subst (λ (x : List ℕ). IsBelow folder x) (sym same ∙ at) below)
not_around folder p q below (inr up) same = not_both folder p below (subst (λ (x : List ℕ). IsBelow x folder) same up)

AgreesRound-changes : (folder p : List ℕ) (h i j : Store) → IsBelow folder p → ChangesAt p i j → AgreesRound folder h i j
AgreesRound-changes folder p h i j below change = record {
  apart = λ q far. change.others q (λ same. far.not_under (subst (λ (x : List ℕ). IsBelow folder x) (sym same) below));
  around = λ q near none. change.others q (not_around folder p q below near);
}

-- what is apart from a folder is neither the folder nor above it
apart_not_around : (folder q : List ℕ) → IsApart folder q → IsAround folder q → ⊥
apart_not_around folder q far (inl at) = far.not_folder at
apart_not_around folder q far (inr up) = far.not_above up

pub some_none : {o : Option Entry} (e : Entry) → o ≡ Some e → o ≡ None → ⊥
some_none e some none = false≢true (sym (ap is_some none) ∙ ap is_some some)

-- ---- way is made for a folder

pub MakesWay-same : (folder : List ℕ) (h i : Store) → MakesWay folder h i i
MakesWay-same folder h i = record { others = λ q far. refl; around = λ q near none. refl }

-- a run that changes no more than what was held at the folder and above it
abbrev pub Ways : List ℕ → Story → Story → Type 0
Ways folder a b = Passes a b (MakesWay folder a.held)

pub ways_none : (folder : List ℕ) (a : Story) → Ways folder a a
ways_none folder a = passes_none a (MakesWay folder a.held) (MakesWay-same folder a.held)

pub ways_again : (folder : List ℕ) {a b c : Story} → Ways folder a b → Ways folder b c → Ways folder a c
ways_again folder {a} {b} {c} first second = passes_then (MakesWay folder a.held) first second (λ i j r. r)
    (λ i j k r s. record {
      others = λ q far. s.others q far ∙ r.others q far;
      around = λ q near none. s.around q near (first.held.around q near none ∙ none) ∙ r.around q near none;
    })

-- what the path held was removed, at the folder or above it
cleared : {folder p : List ℕ} {b c : Story} {T : Type 0} {r : Result T DiskFault} (o : Option Entry) → b.held p ≡ o → IsAround folder p → Clears p b c r → Ways folder b c
cleared {folder} {p} {b} {c} None is near did = same_so (MakesWay folder b.held) (MakesWay-same folder b.held) (did.untouched is)
cleared {folder} {p} {b} {c} (Some e) is near did = passes_so (MakesWay folder b.held) did.changes
    (λ i j change. record {
      others = λ q far. change.others q (λ same. far (subst (IsAround folder) (sym same) near));
      around = λ q round none. change.others q (λ same. some_none e is (ap b.held (sym same) ∙ none));
    })

pub ways_clears : {folder p : List ℕ} {a b c : Story} {T : Type 0} {r : Result T DiskFault} → IsAround folder p → Ways folder a b → Clears p b c r → Ways folder a c
ways_clears {folder} {p} {a} {b} near run did = ways_again folder run (cleared (b.held p) refl near did)

-- ---- a folder becomes a tree

module _ (folder : List ℕ) (tree : List (List ℕ × Entry)) where
  pub LaysTree-same : (h i : Store) → LaysTree folder tree h i i
  LaysTree-same h i = record { round = AgreesRound-same folder h i; right = λ path is. refl }

  LaysTree-way : (h i j : Store) → MakesWay folder h i j → LaysTree folder tree h i j
  LaysTree-way h i j way = record {
    round = record { apart = λ q far. way.others q (apart_not_around folder q far); around = way.around };
    right = λ path is. way.others (inside folder path) (λ near. not_around folder (inside folder path) (inside folder path) (path, refl) near refl);
  }

  -- a path that isn't right changes
  pub LaysTree-changes : (path : List ℕ) (h i j : Store) → (h (inside folder path) ≡ entry_at tree path → ⊥) → ChangesAt (inside folder path) i j → LaysTree folder tree h i j
  LaysTree-changes path h i j wrong change = record { round = AgreesRound-changes folder (inside folder path) h i j (path, refl) change; right = right }
    where
      right : (q : List ℕ) → h (inside folder q) ≡ entry_at tree q → j (inside folder q) ≡ i (inside folder q)
      right q is = change.others (inside folder q) (λ same. wrong (ap h (sym same) ∙ is ∙ ap (entry_at tree) (under_same folder q path same)))

  -- an entry of the tree comes to stand
  pub LaysTree-puts : (path : List ℕ) (entry : Entry) (h g i j : Store) → entry_at tree path ≡ Some entry → g (inside folder path) ≡ h (inside folder path) → PutsEntry (inside folder path) entry g i j → LaysTree folder tree h i j
  LaysTree-puts path entry h g i j at as_was put = record {
    round = AgreesRound-changes folder (inside folder path) h i j (path, refl) (record { others = put.others });
    right = right;
  }
    where
      right : (q : List ℕ) → h (inside folder q) ≡ entry_at tree q → j (inside folder q) ≡ i (inside folder q)
      right q is = elim (path_cases (inside folder q) (inside folder path)) [
        | inl same ↦ ap j same ∙ put.right (as_was ∙ ap h (sym same) ∙ is ∙ ap (entry_at tree) (under_same folder q path same) ∙ at) ∙ ap i (sym same)
        | inr ne ↦ put.others (inside folder q) ne
      ]

  LaysTree-join : (a b i j k : Store) → LaysTree folder tree a a b → LaysTree folder tree a i j → LaysTree folder tree b j k → LaysTree folder tree a i k
  LaysTree-join a b i j k held first second = record {
    round = record {
      apart = λ q far. second.round.apart q far ∙ first.round.apart q far;
      around = λ q near none. second.round.around q near (held.round.around q near none ∙ none) ∙ first.round.around q near none;
    };
    right = λ path is. second.right path (held.right path is ∙ is) ∙ first.right path is;
  }

  -- what is right before the run stays
  abbrev pub Lays : Story → Story → Type 0
  Lays a b = Passes a b (LaysTree folder tree a.held)

  pub lays_same : {a b : Story} → Passes a b Same → Lays a b
  lays_same {a} run = same_so (LaysTree folder tree a.held) (LaysTree-same a.held) run

  pub lays_way : {a b : Story} → Ways folder a b → Lays a b
  lays_way {a} run = passes_so (LaysTree folder tree a.held) run (LaysTree-way a.held)

  pub lays_then : {a b c : Story} → Lays a b → Lays b c → Lays a c
  lays_then {a} {b} {c} first second = passes_then (LaysTree folder tree a.held) first second (λ i j r. r) (λ i j k r s. LaysTree-join a.held b.held i j k first.held r s)

  -- and then something is done by which it stays too
  pub lays_more : {a b c : Story} {S : Store → Store → Type 0} → ((j k : Store) → S j k → LaysTree folder tree a.held j k) → Lays a b → Passes b c S → Lays a c
  lays_more {a} {b} {c} {S} does first second = passes_then (LaysTree folder tree a.held) first second (λ i j r. r)
      (λ i j k r s. let t = does j k s in record {
        round = record {
          apart = λ q far. t.round.apart q far ∙ r.round.apart q far;
          around = λ q near none. t.round.around q near none ∙ r.round.around q near none;
        };
        right = λ path is. t.right path is ∙ r.right path is;
      })

  pub lays_round : {a b : Story} → Lays a b → Passes a b (AgreesRound folder a.held)
  lays_round {a} run = passes_so (AgreesRound folder a.held) run (λ i j lays. lays.round)

  pub lays_apart : {a b : Story} → Lays a b → Passes a b (AgreesApart folder)
  lays_apart {a} run = passes_so (AgreesApart folder) run (λ i j lays. apart_of_round folder a.held i j lays.round)

  -- where what is held under the folder is held at paths of the tree, each of these may be written
  pub free_within : (h : Store) (path : List ℕ) → IsTree tree → IsOpen folder h → ((q : List ℕ) → IsSome (h (inside folder q)) → IsSome (entry_at tree q)) → IsSome (entry_at tree path) → IsFree h (inside folder path)
  free_within h path is_tree open_at within here = record {
    above = λ q up. ⊎_elim (λ a. open_at.above q a) (λ other. ⊎_elim (λ same. ap h same ∙ open_at.at) (λ w. ap h w.1 ∙ none_unless (h (inside folder w.0)) (λ some. paths_level tree w.0 path is_tree (within w.0 some) here w.2)) other) (above_under folder path q up);
    below = λ q down. ap h (down.1 ∙ append_assoc folder (47 ∷ path) (47 ∷ down.0))
        ∙ none_unless (h (inside folder (inside path down.0))) (λ some. paths_level tree path (inside path down.0) is_tree here (within (inside path down.0) some) (down.0, refl));
  }

pub open_changes : (folder p : List ℕ) (i j : Store) → IsBelow folder p → ChangesAt p i j → IsOpen folder i → IsOpen folder j
open_changes folder p i j below change was = record {
  at = change.others folder (not_around folder p folder below (inl refl)) ∙ was.at;
  above = λ q up. change.others q (not_around folder p q below (inr up)) ∙ was.above q up;
}
