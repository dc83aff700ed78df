-- What is under `tmp/`, and which stamps are settled, while publications are open beside each other.
use Rattle.std.proofs.Common.{◌≡◌, ◌≢◌, ◌∙◌, sym, ap, subst, ℕ, ◌⊎◌, inl, inr, true, false, List, [], ◌∷◌, ◌++◌, Some, None}
use Rattle.std.specs.Prelude.{codes}
use Rattle.std.specs.Str.{bytes_eq}
use Rattle.std.proofs.lemmas.Bool.{false≢true}
use Rattle.tree_model.specs.Path.{IsBelow}
use Rattle.outside_traits.specs.Passes.{EachNow, Passes, Same}
use Rattle.outside_traits.specs.Story.{IsSound, Story}
use Rattle.outside_traits.proofs.Images.{held-image}
use Rattle.outside_traits.proofs.Puts.{path_cases}
use Rattle.outside_traits.proofs.Runs.{each_now}
use Rattle.meta_model.proofs.Bools.{text_itself}
use Rattle.stamp_store.specs.Stamp.{old_path, staged_path}
use Rattle.outside_traits.specs.Store.{slashes}
use Rattle.store_model.specs.Publication.{stamp_at, stamp_file, Publication}
use Rattle.store_opening.specs.Paths.{staged_record_path}
use Rattle.tree_model.specs.declared.hash.Hash.{Hash}
use Rattle.build_store.specs.declared.pieces.OpenPublication.{OpenPublication}
use Rattle.build_store.specs.declared.pieces.Reached.{Reached}
use Rattle.build_store.specs.declared.pieces.Reached.TheVariants as reached
use Rattle.build_store.specs.OpenOnes.{AddsOwn, StagesAt, Sweeps, at_next}
use Rattle.build_store.specs.Pieces.{IsPublishing}
use Rattle.build_store.specs.Publication.{IsPublished, KeepsOthers}
use Rattle.build_store.specs.Standing.{AddsNoLitter, IsStagedBy, IsTidy}
use Rattle.build_store.specs.View.{open_in, opened_at}
use Rattle.build_store.proofs.Apart.{apart_by_count}
use Rattle.build_store.proofs.Several.{each_of, staged_last, staged_middle, staged_own, staged_with, view_next, view_others, view_without, view_last_other}

-- the stamps of other folders stay settled
pub settled_stays : (p : Publication) (f : List ℕ) (a b : Story) → slashes p.folder ≡ 1 → slashes f ≡ 1 → f ≢ p.folder → Passes a b (IsPublishing p a.held) → EachNow a (λ image. image (stamp_at f) ≡ a.held (stamp_at f)) → EachNow b (λ image. image (stamp_at f) ≡ b.held (stamp_at f))
settled_stays p f a b two one ne run was =
    let apart = apart_by_count p.folder f (two ∙ sym one) ne in
    each_now (λ i. i (stamp_at f) ≡ a.held (stamp_at f)) (λ j. j (stamp_at f) ≡ b.held (stamp_at f)) was run (λ i j at w. w.others.stamps f (inl apart) ∙ at ∙ sym (run.held.others.stamps f (inl apart)))

-- where a stamp is the same in each image, that is held
pub stamp_settled : (f : List ℕ) (name : Hash) (b : Story) → IsSound b → EachNow b (λ image. image (stamp_at f) ≡ Some (stamp_file name)) → EachNow b (λ image. image (stamp_at f) ≡ b.held (stamp_at f))
stamp_settled f name b sound all image img = all image img ∙ sym (all b.held (held-image b sound))

-- where none is open at a folder, none of the list has it
other_at : (xs : List OpenPublication) (one : OpenPublication) (ys : List OpenPublication) (f : List ℕ) → opened_at (open_in (xs ++ one ∷ ys)) f ≡ None → f ≢ one.folder
other_at xs one ys f none same =
    let no : bytes_eq one.folder f ≡ false = each_of (λ o. bytes_eq o.folder f ≡ false) xs one ys (view_others f (xs ++ one ∷ ys) none) in
    let yes : bytes_eq one.folder f ≡ true = ap (bytes_eq one.folder) same ∙ text_itself one.folder in
    false≢true (sym no ∙ yes)

-- ---- what is staged

stages_same : (o : OpenPublication) (next now : Reached) (q : List ℕ) → StagesAt o now q → StagesAt (at_next o next) now q
stages_same o next (reached.Aside k) q w = w
stages_same o next (reached.Taken k) q w = w
stages_same o next (reached.Working done) q w = absurd w
stages_same o next (reached.Staged k) q w = w
stages_same o next (reached.Kept k) q w = w
stages_same o next (reached.Stored k) q w = w
stages_same o next (reached.Stamped k) q w = absurd w

stages_or : (o : OpenPublication) (now : Reached) (q : List ℕ) → StagesAt o now q ⊎ (StagesAt o now q → ⊥)
stages_or o (reached.Aside k) q = path_cases q (old_path o.folder)
stages_or o (reached.Taken k) q = path_cases q (old_path o.folder)
stages_or o (reached.Working done) q = inr (λ w. w)
stages_or o (reached.Staged k) q = elim (path_cases q (staged_path o.folder)) [
  | inl stamp ↦ inl (inl stamp)
  | inr other ↦ elim (path_cases q (staged_record_path o.name)) as (λ v. ((q ≡ staged_path o.folder) ⊎ (q ≡ staged_record_path o.name)) ⊎ ((q ≡ staged_path o.folder) ⊎ (q ≡ staged_record_path o.name) → ⊥)) [
    | inl record_at ↦ inl (inr record_at)
    | inr neither ↦ inr (λ w. elim w [ inl s ↦ other s | inr r ↦ neither r ])
  ]
]
stages_or o (reached.Kept k) q = path_cases q (staged_path o.folder)
stages_or o (reached.Stored k) q = path_cases q (staged_path o.folder)
stages_or o (reached.Stamped k) q = inr (λ w. w)

-- ---- opening

pub tidy_opened : (xs : List OpenPublication) (one : OpenPublication) (p : Publication) (a b : Story) → slashes one.folder ≡ 1 → p.folder ≡ one.folder → AddsOwn one a.held b.held → Passes a b (IsPublishing p a.held) → IsTidy xs a → IsTidy (xs ++ one ∷ []) b
tidy_opened xs one p a b two is adds run was = record {
  litter = λ q below. by q below (stages_or one one.reached q) (was.litter q below);
  settled = λ f single none.
      let ne : f ≢ one.folder = other_at xs one [] f none in
      settled_stays p f a b (ap slashes is ∙ two) single (λ same. ne (same ∙ is)) run (was.settled f single (sym (view_last_other f xs one (λ e. ne (sym e))) ∙ none));
}
  where
    by : (q : List ℕ) → IsBelow (codes "tmp") q → StagesAt one one.reached q ⊎ (StagesAt one one.reached q → ⊥) → (a.held q ≡ None) ⊎ IsStagedBy xs q → (b.held q ≡ None) ⊎ IsStagedBy (xs ++ one ∷ []) q
    by q below (inl own) held = inr (staged_own xs one [] q own)
    by q below (inr not) (inl none) = inl (adds q below not none)
    by q below (inr not) (inr staged) = inr (staged_last xs one q staged)

-- ---- a step

module _ (xs : List OpenPublication) (one : OpenPublication) (ys : List OpenPublication) (p : Publication) (a b : Story) (two : slashes one.folder ≡ 1) (is : p.folder ≡ one.folder) (run : Passes a b (IsPublishing p a.held)) (was : IsTidy (xs ++ one ∷ ys) a) where
  pub tidy_next : (next : Reached) → Sweeps one one.reached (Some next) a.held b.held → IsTidy (xs ++ at_next one next ∷ ys) b
  tidy_next next sweeps = record {
    litter = λ q below. by q below (stages_or one next q);
    settled = λ f single none.
        let none' : opened_at (open_in (xs ++ one ∷ ys)) f ≡ None = ap (λ l. opened_at l f) (sym (view_next xs one next ys)) ∙ none in
        settled_stays p f a b (ap slashes is ∙ two) single (λ same. other_at xs one ys f none' (same ∙ is)) run (was.settled f single none');
  }
    where
      gone : (q : List ℕ) → IsBelow (codes "tmp") q → (StagesAt one next q → ⊥) → (a.held q ≡ None) ⊎ IsStagedBy (xs ++ one ∷ ys) q → (b.held q ≡ None) ⊎ IsStagedBy (xs ++ at_next one next ∷ ys) q
      gone q below not (inl none) = inl (sweeps q below not (inl none))
      gone q below not (inr staged) = elim (staged_middle xs one ys q staged) [
        | inl own ↦ inl (sweeps q below not (inr own))
        | inr other ↦ inr (staged_with xs (at_next one next) ys q other)
      ]

      by : (q : List ℕ) → IsBelow (codes "tmp") q → StagesAt one next q ⊎ (StagesAt one next q → ⊥) → (b.held q ≡ None) ⊎ IsStagedBy (xs ++ at_next one next ∷ ys) q
      by q below (inl mine) = inr (staged_own xs (at_next one next) ys q (stages_same one next next q mine))
      by q below (inr not) = gone q below not (was.litter q below)

  pub tidy_done : IsSound b → Sweeps one one.reached None a.held b.held → EachNow b (IsPublished p) → IsTidy (xs ++ ys) b
  tidy_done sound sweeps published = record {
    litter = λ q below. gone q below (was.litter q below);
    settled = λ f single none. by f single none (path_cases f one.folder);
  }
    where
      gone : (q : List ℕ) → IsBelow (codes "tmp") q → (a.held q ≡ None) ⊎ IsStagedBy (xs ++ one ∷ ys) q → (b.held q ≡ None) ⊎ IsStagedBy (xs ++ ys) q
      gone q below (inl none) = inl (sweeps q below (λ w. w) (inl none))
      gone q below (inr staged) = elim (staged_middle xs one ys q staged) [
        | inl own ↦ inl (sweeps q below (λ w. w) (inr own))
        | inr other ↦ inr other
      ]

      by : (f : List ℕ) → slashes f ≡ 1 → opened_at (open_in (xs ++ ys)) f ≡ None → (f ≡ one.folder) ⊎ (f ≢ one.folder) → EachNow b (λ image. image (stamp_at f) ≡ b.held (stamp_at f))
      by f single none (inl same) = subst (λ (l : List ℕ). EachNow b (λ image. image (stamp_at l) ≡ b.held (stamp_at l))) (is ∙ sym same) (stamp_settled p.folder p.name b sound (λ image img. (published image img).stamp))
      by f single none (inr other) = settled_stays p f a b (ap slashes is ∙ two) single (λ same. other (same ∙ is)) run (was.settled f single (sym (view_without f xs one ys (λ e. other (sym e))) ∙ none))

-- ---- a restoring, and what only looks

module _ (xs : List OpenPublication) (a b : Story) (was : IsTidy xs a) where
  litter_left : AddsNoLitter a.held b.held → (q : List ℕ) → IsBelow (codes "tmp") q → (b.held q ≡ None) ⊎ IsStagedBy xs q
  litter_left adds q below = elim (was.litter q below) [
    | inl none ↦ inl (adds q below none)
    | inr staged ↦ inr staged
  ]

  pub tidy_restored : (folder : List ℕ) (name : Hash) → slashes folder ≡ 1 → IsSound b → AddsNoLitter a.held b.held → Passes a b (KeepsOthers folder None a.held) → EachNow b (λ image. image (stamp_at folder) ≡ Some (stamp_file name)) → IsTidy xs b
  tidy_restored folder name two sound adds run stamped = record {
    litter = litter_left adds;
    settled = λ f single none. by f single none (path_cases f folder);
  }
    where
      by : (f : List ℕ) → slashes f ≡ 1 → opened_at (open_in xs) f ≡ None → (f ≡ folder) ⊎ (f ≢ folder) → EachNow b (λ image. image (stamp_at f) ≡ b.held (stamp_at f))
      by f single none (inl same) = subst (λ (l : List ℕ). EachNow b (λ image. image (stamp_at l) ≡ b.held (stamp_at l))) (sym same) (stamp_settled folder name b sound stamped)
      by f single none (inr ne) = let apart = apart_by_count folder f (two ∙ sym single) ne in each_now (λ i. i (stamp_at f) ≡ a.held (stamp_at f)) (λ j. j (stamp_at f) ≡ b.held (stamp_at f)) (was.settled f single none) run (λ i j at w. w.stamps f (inl apart) ∙ at ∙ sym (run.held.stamps f (inl apart)))

  pub tidy_same : Passes a b Same → IsTidy xs b
  tidy_same run = record {
    litter = litter_left (λ q below none. ap (λ h. h q) run.held ∙ none);
    settled = λ f single none. each_now (λ i. i (stamp_at f) ≡ a.held (stamp_at f)) (λ j. j (stamp_at f) ≡ b.held (stamp_at f)) (was.settled f single none) run (λ i j at same. ap (λ h. h (stamp_at f)) same ∙ at ∙ sym (ap (λ h. h (stamp_at f)) run.held));
  }
