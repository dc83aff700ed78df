-- Where the publication of a task stands in a list.
use Rattle.std.proofs.Common.{◌≡◌, ◌∙◌, sym, ap, refl, ℕ, zero, suc, ◌<◌, ◌≤◌, ◌⊎◌, inl, inr, Bool, true, false, cond, nat_lt, List, [], ◌∷◌, ◌++◌, length, get_or, take, drop, Option, Some, None, position, drop-cons, arith}
use Rattle.std.proofs.lemmas.Grind.{common_steps}
use Rattle.std.specs.Prelude.{find, slice_get}
use Rattle.std.specs.List.{AllByRecursion, position_or_len}
use Rattle.std.specs.Option.{is_some}
use Rattle.std.specs.Str.{bytes_eq}
use Rattle.std.proofs.lemmas.List.{take-append-drop}
use Rattle.std.proofs.lemmas.List.Folds.{find_at}
use Rattle.std.proofs.lemmas.List.Quantifiers.{position-Some}
use Rattle.std.proofs.lemmas.Bool.{false≢true}
use Rattle.meta_model.proofs.Bools.{either_way, same_text, text_itself}
use Rattle.meta_model.specs.CleanBuild.{Entries}
use Rattle.store_model.specs.Available.{task_folder}
use Rattle.store_model.specs.Signatures.{Signed}
use Rattle.store_model.specs.Spelling.{signature_bytes}
use Rattle.store_model.proofs.Listing.{find_nothing}
use Rattle.build_store.specs.declared.pieces.OpenPublication.{OpenPublication}
use Rattle.build_store.specs.Openings.{IsOpen, open_view}
use Rattle.build_store.specs.Standing.{StandsAt}
use Rattle.build_store.specs.View.{OpenView, open_in, open_view_of, opened_at}
use Rattle.build_store.proofs.Several.{view_middle, view_none}

past : {A : Type 0} (xs : List A) (n : ℕ) → length xs ≤ n → slice_get xs n ≡ None
past [] n le = refl
past (x ∷ xs) zero le = absurd (omega (arith, le))
past (x ∷ xs) (suc n) le = past xs n (omega (arith, le))

none_first : {A : Type 0} (p : A → Bool) (xs : List A) → position p xs ≡ None → find p xs ≡ None
none_first p xs none = find_at p xs ∙ past xs (position_or_len p xs) (by (nat_lt (position_or_len p xs) (length xs)) refl none)
  where
    by : (b : Bool) → nat_lt (position_or_len p xs) (length xs) ≡ b → cond b (Some (position_or_len p xs)) None ≡ None → length xs ≤ position_or_len p xs
    by true e n = absurd (cc)
    by false e n = grind (arith, e)

each_before : {A : Type 0} (p : A → Bool) (xs : List A) (i : ℕ) (d : A) → i ≤ length xs → ((k : ℕ) → k < i → p (get_or xs k d) ≡ false) → AllByRecursion (λ x. p x ≡ false) (take i xs)
each_before p xs zero d le all = tt
each_before p [] (suc i) d le all = tt
each_before p (x ∷ xs) (suc i) d le all = (all 0 (omega arith), each_before p xs i d (omega (arith, le)) (λ k lt. all (suc k) (omega (arith, lt))))

pub split_at : {A : Type 0} (xs : List A) (i : ℕ) (d : A) → i < length xs → xs ≡ take i xs ++ get_or xs i d ∷ drop (suc i) xs
split_at xs i d lt = sym (take-append-drop i xs) ∙ ap (λ l. take i xs ++ l) (drop-cons xs i d lt)

module _ (folder : List ℕ) where
  abbrev is_at : OpenPublication → Bool
  is_at one = bytes_eq one.folder folder

  pub none_at : (xs : List OpenPublication) → position is_at xs ≡ None → opened_at (open_in xs) folder ≡ None
  none_at xs none = view_none folder xs (find_nothing is_at xs (none_first is_at xs none))

  pub some_at : (xs : List OpenPublication) (i : ℕ) (d : OpenPublication) → position is_at xs ≡ Some i → opened_at (open_in xs) folder ≡ Some (open_view_of (get_or xs i d))
  some_at xs i d is =
      let w = position-Some is_at xs i d is in
      ap (λ l. opened_at (open_in l) folder) (split_at xs i d w.0) ∙ view_middle folder (take i xs) (get_or xs i d) (drop (suc i) xs) (each_before is_at xs i d (omega (arith, w.0)) w.2) (same_text (get_or xs i d).folder folder w.1)

  pub open_is : (xs : List OpenPublication) (found : Option ℕ) → position is_at xs ≡ found → is_some found ≡ is_some (opened_at (open_in xs) folder)
  open_is xs None e = sym (ap is_some (none_at xs e))
  open_is [] (Some i) e = absurd (cc)
  open_is (x ∷ xs) (Some i) e = sym (ap is_some (some_at (x ∷ xs) i x e))

-- it has the signature
pub stands_at : (s : Signed) (xs : List OpenPublication) (i : ℕ) (one : OpenPublication) → position (λ o. bytes_eq o.folder (task_folder s.task)) xs ≡ Some i → one ≡ get_or xs i one → one.sig ≡ signature_bytes s.sig → is_some one.object ≡ s.task.sstate → StandsAt s xs i
stands_at s xs i one is got sig shared =
    let w = position-Some (λ o. bytes_eq o.folder (task_folder s.task)) xs i one is in
    record {
      before = take i xs;
      one = one;
      after = drop (suc i) xs;
      is = split_at xs i one w.0 ∙ ap (λ o. take i xs ++ o ∷ drop (suc i) xs) (sym got);
      place_is = taken w.0;
      first = each_before (λ o. bytes_eq o.folder (task_folder s.task)) xs i one (omega (arith, w.0)) w.2;
      for_task = record { folder = same_text one.folder (task_folder s.task) (ap (λ o. bytes_eq o.folder (task_folder s.task)) got ∙ w.1); sig = sig; shared = shared };
    }
  where
    taken : i < length xs → length (take i xs) ≡ i
    taken lt = grind (arith, common_steps, lt)

-- it has another, or none is open
pub not_open : (s : Signed) (xs : List OpenPublication) (i : ℕ) (one : OpenPublication) → position (λ o. bytes_eq o.folder (task_folder s.task)) xs ≡ Some i → one ≡ get_or xs i one → (one.sig ≡ signature_bytes s.sig → is_some one.object ≡ s.task.sstate → ⊥) → (tree : Entries) → IsOpen (open_in xs) s tree → ⊥
not_open s xs i one is got other tree open_one =
    let both : Some (open_view_of one) ≡ Some (open_view s tree) = ap (λ o. Some (open_view_of o)) got ∙ sym (some_at (task_folder s.task) xs i one is) ∙ open_one in
    let same : open_view_of one ≡ open_view s tree = cc in
    other (ap (λ (v : OpenView). v.sig) same) (ap (λ (v : OpenView). v.shared) same)

pub none_open : (s : Signed) (xs : List OpenPublication) → position (λ o. bytes_eq o.folder (task_folder s.task)) xs ≡ None → (tree : Entries) → IsOpen (open_in xs) s tree → ⊥
none_open s xs none tree open_one = let n : None ≡ Some (open_view s tree) = sym (none_at (task_folder s.task) xs none) ∙ open_one in cc

pub place_in_list : {A : Type 0} (p : A → Bool) (xs : List A) (i : ℕ) → position p xs ≡ Some i → i < length xs
place_in_list p [] i is = absurd (cc)
place_in_list p (x ∷ xs) i is = (position-Some p (x ∷ xs) i x is).0

-- ---- texts with a common front

pub other_text : (xs ys : List ℕ) → (xs ≡ ys → ⊥) → bytes_eq xs ys ≡ false
other_text xs ys ne = elim (either_way (bytes_eq xs ys)) [ inl t ↦ absurd (ne (same_text xs ys t)) | inr f ↦ f ]

append_same : (front xs ys : List ℕ) → front ++ xs ≡ front ++ ys → xs ≡ ys
append_same [] xs ys e = e
append_same (x ∷ front) xs ys e = append_same front xs ys (ap (λ l. drop 1 l) e)

pub eq_behind : (front xs ys : List ℕ) → bytes_eq (front ++ xs) (front ++ ys) ≡ bytes_eq xs ys
eq_behind front xs ys = by (either_way (bytes_eq xs ys))
  where
    by : (bytes_eq xs ys ≡ true) ⊎ (bytes_eq xs ys ≡ false) → bytes_eq (front ++ xs) (front ++ ys) ≡ bytes_eq xs ys
    by (inl t) = ap (λ l. bytes_eq (front ++ l) (front ++ ys)) (same_text xs ys t) ∙ text_itself (front ++ ys) ∙ sym t
    by (inr f) = other_text (front ++ xs) (front ++ ys) (λ e. false≢true (sym f ∙ ap (λ l. bytes_eq l ys) (append_same front xs ys e) ∙ text_itself ys)) ∙ sym f
