-- Lists with one item in the middle, and what is found in them.
use Rattle.std.proofs.Common.{◌≡◌, ◌≢◌, ◌∙◌, sym, ap, refl, ℕ, suc, ◌⊎◌, inl, inr, Bool, true, false, List, [], ◌∷◌, ◌++◌, length, take, drop, Some, None}
use Rattle.std.specs.Prelude.{find}
use Rattle.std.specs.List.{AllByRecursion}
use Rattle.std.specs.Str.{bytes_eq}
use Rattle.meta_model.proofs.Bools.{either_way, same_text, text_itself}
use Rattle.build_store.specs.declared.pieces.OpenPublication.{OpenPublication}
use Rattle.build_store.specs.declared.pieces.Reached.{Reached}
use Rattle.build_store.specs.OpenOnes.{StagesAt, at_next}
use Rattle.build_store.specs.Standing.{AreBeside, IsBeside, IsOther, IsStagedBy}
use Rattle.build_store.specs.View.{OpenView, open_in, open_view_of, opened_at}

module _ {A : Type 0} where
  pub each_without : (P : A → Type 0) (before : List A) (x : A) (after : List A) → AllByRecursion P (before ++ x ∷ after) → AllByRecursion P (before ++ after)
  each_without P [] x after all = all.1
  each_without P (y ∷ ys) x after all = (all.0, each_without P ys x after all.1)

  pub each_with : (P : A → Type 0) (before : List A) (x : A) (after : List A) → P x → AllByRecursion P (before ++ after) → AllByRecursion P (before ++ x ∷ after)
  each_with P [] x after mine all = (mine, all)
  each_with P (y ∷ ys) x after mine all = (all.0, each_with P ys x after mine all.1)

  pub each_of : (P : A → Type 0) (before : List A) (x : A) (after : List A) → AllByRecursion P (before ++ x ∷ after) → P x
  each_of P [] x after all = all.0
  each_of P (y ∷ ys) x after all = each_of P ys x after all.1

  pub each_last : (P : A → Type 0) (xs : List A) (x : A) → AllByRecursion P xs → P x → AllByRecursion P (xs ++ x ∷ [])
  each_last P [] x all mine = (mine, tt)
  each_last P (y ∷ ys) x all mine = (all.0, each_last P ys x all.1 mine)

  pub each_two : (P Q R : A → Type 0) (xs : List A) → AllByRecursion P xs → AllByRecursion Q xs → ((x : A) → P x → Q x → R x) → AllByRecursion R xs
  each_two P Q R [] p q both = tt
  each_two P Q R (x ∷ xs) p q both = (both x p.0 q.0, each_two P Q R xs p.1 q.1 both)

  pub find_no : (p : A → Bool) (xs : List A) → AllByRecursion (λ y. p y ≡ false) xs → find p xs ≡ None
  find_no p [] all = refl
  find_no p (x ∷ xs) all = let f : p x ≡ false = all.0 in rw f (find_no p xs all.1)

  pub take_middle : (before : List A) (x : A) (after : List A) → take (length before) (before ++ x ∷ after) ≡ before
  take_middle [] x after = refl
  take_middle (y ∷ ys) x after = ap (λ l. y ∷ l) (take_middle ys x after)

  pub drop_middle : (before : List A) (x : A) (after : List A) → drop (suc (length before)) (before ++ x ∷ after) ≡ after
  drop_middle [] x after = refl
  drop_middle (y ∷ ys) x after = drop_middle ys x after

-- ---- two that are open

pub beside_back : (one other : OpenPublication) → IsBeside one other → IsBeside other one
beside_back one other w = (λ e. w.0 (sym e), λ e. w.1 (sym e), λ unihash a b. w.2 unihash b a)

pub beside_without : (before : List OpenPublication) (one : OpenPublication) (after : List OpenPublication) → AreBeside (before ++ one ∷ after) → AreBeside (before ++ after)
beside_without [] one after all = all.1
beside_without (x ∷ xs) one after all = (each_without (IsBeside x) xs one after all.0, beside_without xs one after all.1)

pub beside_of : (before : List OpenPublication) (one : OpenPublication) (after : List OpenPublication) → AreBeside (before ++ one ∷ after) → AllByRecursion (IsBeside one) (before ++ after)
beside_of [] one after all = all.0
beside_of (x ∷ xs) one after all = (beside_back x one (each_of (IsBeside x) xs one after all.0), beside_of xs one after all.1)

pub beside_with : (before : List OpenPublication) (one : OpenPublication) (after : List OpenPublication) → AllByRecursion (IsBeside one) (before ++ after) → AreBeside (before ++ after) → AreBeside (before ++ one ∷ after)
beside_with [] one after mine all = (mine, all)
beside_with (x ∷ xs) one after mine all = (each_with (IsBeside x) xs one after (beside_back one x mine.0) all.0, beside_with xs one after mine.1 all.1)

pub beside_last : (xs : List OpenPublication) (one : OpenPublication) → AllByRecursion (IsBeside one) xs → AreBeside xs → AreBeside (xs ++ one ∷ [])
beside_last [] one mine all = (tt, tt)
beside_last (x ∷ xs) one mine all = (each_last (IsBeside x) xs one all.0 (beside_back one x mine.0), beside_last xs one mine.1 all.1)

-- ---- what contracts see

module _ (folder : List ℕ) where
  abbrev is_at : OpenView → Bool
  is_at one = bytes_eq one.folder folder

  view_of_other : (one : OpenPublication) → one.folder ≢ folder → bytes_eq one.folder folder ≡ false
  view_of_other one ne = elim (either_way (bytes_eq one.folder folder)) [ inl t ↦ absurd (ne (same_text one.folder folder t)) | inr f ↦ f ]

  -- behind the others it is the last
  pub view_last_other : (xs : List OpenPublication) (one : OpenPublication) → one.folder ≢ folder → opened_at (open_in (xs ++ one ∷ [])) folder ≡ opened_at (open_in xs) folder
  view_last_other [] one ne = rw (view_of_other one ne) refl
  view_last_other (x ∷ xs) one ne = by (bytes_eq x.folder folder) refl (view_last_other xs one ne)
    where
      by : (b : Bool) → bytes_eq x.folder folder ≡ b → opened_at (open_in (xs ++ one ∷ [])) folder ≡ opened_at (open_in xs) folder → opened_at (open_in (x ∷ xs ++ one ∷ [])) folder ≡ opened_at (open_in (x ∷ xs)) folder
      by true e more = simp e refl
      by false e more = simp e more

  pub view_last : (xs : List OpenPublication) (one : OpenPublication) → opened_at (open_in xs) folder ≡ None → one.folder ≡ folder → opened_at (open_in (xs ++ one ∷ [])) folder ≡ Some (open_view_of one)
  view_last [] one none is = let t : bytes_eq one.folder folder ≡ true = ap (λ l. bytes_eq l folder) is ∙ text_itself folder in rw t refl
  view_last (x ∷ xs) one none is = by (bytes_eq x.folder folder) refl (λ later. view_last xs one later is)
    where
      by : (b : Bool) → bytes_eq x.folder folder ≡ b → (opened_at (open_in xs) folder ≡ None → opened_at (open_in (xs ++ one ∷ [])) folder ≡ Some (open_view_of one)) → opened_at (open_in (x ∷ xs ++ one ∷ [])) folder ≡ Some (open_view_of one)
      by true e more = let n = rw e at none in absurd (cc)
      by false e more = let n = rw e at none in rw e (more n)

  pub view_without : (before : List OpenPublication) (one : OpenPublication) (after : List OpenPublication) → one.folder ≢ folder → opened_at (open_in (before ++ after)) folder ≡ opened_at (open_in (before ++ one ∷ after)) folder
  view_without [] one after ne = rw (view_of_other one ne) refl
  view_without (x ∷ xs) one after ne = by (bytes_eq x.folder folder) refl (view_without xs one after ne)
    where
      by : (b : Bool) → bytes_eq x.folder folder ≡ b → opened_at (open_in (xs ++ after)) folder ≡ opened_at (open_in (xs ++ one ∷ after)) folder → opened_at (open_in (x ∷ xs ++ after)) folder ≡ opened_at (open_in (x ∷ xs ++ one ∷ after)) folder
      by true e more = simp e refl
      by false e more = simp e more

  pub view_none : (xs : List OpenPublication) → AllByRecursion (IsOther folder) xs → opened_at (open_in xs) folder ≡ None
  view_none [] all = refl
  view_none (x ∷ xs) all = let f : bytes_eq x.folder folder ≡ false = all.0 in rw f (view_none xs all.1)

  pub view_others : (xs : List OpenPublication) → opened_at (open_in xs) folder ≡ None → AllByRecursion (IsOther folder) xs
  view_others [] none = tt
  view_others (x ∷ xs) none = by (bytes_eq x.folder folder) refl (view_others xs)
    where
      by : (b : Bool) → bytes_eq x.folder folder ≡ b → (opened_at (open_in xs) folder ≡ None → AllByRecursion (IsOther folder) xs) → AllByRecursion (IsOther folder) (x ∷ xs)
      by true e more = let n = rw e at none in absurd (cc)
      by false e more = (e, more (rw e at none))

  pub view_middle : (before : List OpenPublication) (one : OpenPublication) (after : List OpenPublication) → AllByRecursion (IsOther folder) before → one.folder ≡ folder → opened_at (open_in (before ++ one ∷ after)) folder ≡ Some (open_view_of one)
  view_middle [] one after all is = let t : bytes_eq one.folder folder ≡ true = ap (λ l. bytes_eq l folder) is ∙ text_itself folder in rw t refl
  view_middle (x ∷ xs) one after all is = let f : bytes_eq x.folder folder ≡ false = all.0 in rw f (view_middle xs one after all.1 is)

  pub others_of : (one : OpenPublication) (xs : List OpenPublication) → one.folder ≡ folder → AllByRecursion (IsBeside one) xs → AllByRecursion (IsOther folder) xs
  others_of one [] is all = tt
  others_of one (x ∷ xs) is all = (view_of_other x (λ e. all.0.0 (e ∙ sym is)), others_of one xs is all.1)

-- what it has reached isn't seen
pub view_next : (before : List OpenPublication) (one : OpenPublication) (next : Reached) (after : List OpenPublication) → open_in (before ++ at_next one next ∷ after) ≡ open_in (before ++ one ∷ after)
view_next [] one next after = refl
view_next (x ∷ xs) one next after = ap (λ l. open_view_of x ∷ l) (view_next xs one next after)

-- ---- what they have staged

pub staged_middle : (before : List OpenPublication) (one : OpenPublication) (after : List OpenPublication) (q : List ℕ) → IsStagedBy (before ++ one ∷ after) q → StagesAt one one.reached q ⊎ IsStagedBy (before ++ after) q
staged_middle [] one after q w = w
staged_middle (x ∷ xs) one after q (inl mine) = inr (inl mine)
staged_middle (x ∷ xs) one after q (inr more) = elim (staged_middle xs one after q more) [
  | inl own ↦ inl own
  | inr other ↦ inr (inr other)
]

pub staged_with : (before : List OpenPublication) (one : OpenPublication) (after : List OpenPublication) (q : List ℕ) → IsStagedBy (before ++ after) q → IsStagedBy (before ++ one ∷ after) q
staged_with [] one after q w = inr w
staged_with (x ∷ xs) one after q (inl mine) = inl mine
staged_with (x ∷ xs) one after q (inr more) = inr (staged_with xs one after q more)

pub staged_own : (before : List OpenPublication) (one : OpenPublication) (after : List OpenPublication) (q : List ℕ) → StagesAt one one.reached q → IsStagedBy (before ++ one ∷ after) q
staged_own [] one after q w = inl w
staged_own (x ∷ xs) one after q w = inr (staged_own xs one after q w)

pub staged_last : (xs : List OpenPublication) (one : OpenPublication) (q : List ℕ) → IsStagedBy xs q → IsStagedBy (xs ++ one ∷ []) q
staged_last [] one q w = absurd w
staged_last (x ∷ xs) one q (inl mine) = inl mine
staged_last (x ∷ xs) one q (inr more) = inr (staged_last xs one q more)
