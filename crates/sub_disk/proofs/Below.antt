-- A folder's story: what is held there, what a crash leaves there, and what stays outside.
use Rattle.std.proofs.Common.{◌≡◌, ◌∙◌, sym, ap, refl, subst, arith, ℕ, zero, suc, ◌+◌, ◌≤◌, min, true, List, [], ◌∷◌, ◌++◌, length, map, take, drop, Option, None, ◌⊎◌, inl, inr, append_assoc}
use Rattle.tree_model.specs.declared.entry.Entry.{Entry}
use Rattle.outside_traits.specs.declared.call.Call.{Call}
use Rattle.outside_traits.specs.declared.call.Call.TheVariants.{Looked, Synced, Ended, Put, Moved}
use Rattle.outside_traits.specs.Store.{ChangesAt, Moves, Store, put}
use Rattle.outside_traits.specs.Story.{IsContent, LeftBy, Leaves, LeftSince, before, held_before, unsynced}
use Rattle.outside_traits.proofs.Puts.{path_cases, put-other, put-same}
use Rattle.sub_disk.specs.Sub.{IsPlace, SameOutside, are_below, begins, below, call_below, is_below}
use Rattle.sub_disk.proofs.Texts.{and_first, and_second, begins_is, front_same}

-- ---- stores

pub below_put : (prefix p : List ℕ) (x : Option Entry) (h : Store) → below prefix (put h (prefix ++ p) x) ≡ put (below prefix h) p x
below_put prefix p x h = λ i q. at q i
  where
    at : (q : List ℕ) → put h (prefix ++ p) x (prefix ++ q) ≡ put (below prefix h) p x q
    at q = elim (path_cases q p) [
      | inl same ↦ put-same h (prefix ++ p) (prefix ++ q) x (ap (λ (r : List ℕ). prefix ++ r) same) ∙ sym (put-same (below prefix h) p q x same)
      | inr ne ↦ put-other h (prefix ++ p) (prefix ++ q) x (λ e. ne (front_same prefix q p e)) ∙ sym (put-other (below prefix h) p q x ne)
    ]

pub below_content : (prefix : List ℕ) → IsPlace prefix → (h : Store) → IsContent h → IsContent (below prefix h)
below_content prefix place h content = record {
  treelike = λ p q b some other. content.treelike (prefix ++ p) (prefix ++ q) (b.0, ap (λ (r : List ℕ). prefix ++ r) b.1 ∙ sym (append_assoc prefix p (47 ∷ b.0))) some other;
  clean = λ path some. place.off path (content.clean (prefix ++ path) some);
}

-- what a call of the folder changed, undone
pub below_before : (prefix : List ℕ) (begin : ℕ) (call : Call) (h : Store) → is_below prefix call ≡ true → below prefix (before call h) ≡ before (call_below prefix begin call) (below prefix h)
below_before prefix begin Looked h t = refl
below_before prefix begin Synced h t = refl
below_before prefix begin (Ended k) h t = refl
below_before prefix begin (Put path was) h t =
    ap (λ (p : List ℕ). below prefix (put h p was)) (begins_is prefix path t) ∙ below_put prefix (drop (length prefix) path) was h
below_before prefix begin (Moved from to was replaced) h t =
    let f = drop (length prefix) from in
    let g = drop (length prefix) to in
    let is_from = begins_is prefix from (and_first (begins prefix from) (begins prefix to) t) in
    let is_to = begins_is prefix to (and_second (begins prefix from) (begins prefix to) t) in
    (λ i. below prefix (put (put h (is_to i) replaced) (is_from i) was))
    ∙ below_put prefix f was (put h (prefix ++ g) replaced)
    ∙ ap (λ (s : Store). put s f was) (below_put prefix g replaced h)

-- outside of the folder a call changes nothing
pub outside_before : (prefix : List ℕ) (call : Call) (h : Store) → is_below prefix call ≡ true → SameOutside prefix (before call h) h
outside_before prefix Looked h t path out = refl
outside_before prefix Synced h t path out = refl
outside_before prefix (Ended k) h t path out = refl
outside_before prefix (Put p was) h t path out = sym (put-other h p path was (λ e. out (drop (length prefix) p, e ∙ begins_is prefix p t)))
outside_before prefix (Moved from to was replaced) h t path out = sym
    (put-other (put h to replaced) from path was (λ e. out (drop (length prefix) from, e ∙ begins_is prefix from (and_first (begins prefix from) (begins prefix to) t)))
    ∙ put-other h to path replaced (λ e. out (drop (length prefix) to, e ∙ begins_is prefix to (and_second (begins prefix from) (begins prefix to) t))))

-- ---- how many calls aren't durable

pub unsynced_bound : (m : ℕ) (calls : List Call) → m ≤ length calls → unsynced calls ≤ m + unsynced (drop m calls)
unsynced_bound zero calls le = omega arith
unsynced_bound (suc m) [] le = absurd (omega (arith, le))
unsynced_bound (suc m) (Looked ∷ calls) le = let e = unsynced_bound m calls (omega (arith, le)) in omega (arith, e)
unsynced_bound (suc m) (Synced ∷ calls) le = omega arith
unsynced_bound (suc m) (Ended k ∷ calls) le = let e = unsynced_bound m calls (omega (arith, le)) in omega (arith, e)
unsynced_bound (suc m) (Put path was ∷ calls) le = let e = unsynced_bound m calls (omega (arith, le)) in omega (arith, e)
unsynced_bound (suc m) (Moved from to was replaced ∷ calls) le = let e = unsynced_bound m calls (omega (arith, le)) in omega (arith, e)

pub length_below : (prefix : List ℕ) (begin m : ℕ) (calls : List Call) → m ≤ length calls → length (map (call_below prefix begin) (take m calls)) ≡ m
length_below prefix begin zero calls le = refl
length_below prefix begin (suc m) [] le = absurd (omega (arith, le))
length_below prefix begin (suc m) (call ∷ calls) le = ap suc (length_below prefix begin m calls (omega (arith, le)))

-- of the folder's calls as many aren't durable as of the other disk's, and no more than were made
pub unsynced_below : (prefix : List ℕ) (begin m : ℕ) (calls : List Call) → length calls ≡ m + begin → unsynced (map (call_below prefix begin) (take m calls)) ≡ min m (unsynced calls)
unsynced_below prefix begin zero calls count = omega arith
unsynced_below prefix begin (suc m) [] count = absurd (omega (arith, count))
unsynced_below prefix begin (suc m) (Looked ∷ calls) count = let e = unsynced_below prefix begin m calls (omega (arith, count)) in omega (arith, e)
unsynced_below prefix begin (suc m) (Synced ∷ calls) count = omega arith
unsynced_below prefix begin (suc m) (Ended k ∷ calls) count =
    let e = unsynced_below prefix begin m calls (omega (arith, count)) in
    let l = length_below prefix begin m calls (omega (arith, count)) in
    omega (arith, e, l, count)
unsynced_below prefix begin (suc m) (Put path was ∷ calls) count = let e = unsynced_below prefix begin m calls (omega (arith, count)) in omega (arith, e)
unsynced_below prefix begin (suc m) (Moved from to was replaced ∷ calls) count = let e = unsynced_below prefix begin m calls (omega (arith, count)) in omega (arith, e)

-- ---- images

since_bound : (h : Store) (calls : List Call) (t : ℕ) (image : Store) → LeftSince h calls t image → t ≤ length calls
since_bound h [] t image left = left.0
since_bound h (call ∷ calls) t image (inl now) = now.0
since_bound h (call ∷ calls) t image (inr past) = let le = since_bound (before call h) calls t image past in omega (arith, le)

only_now : (h : Store) (calls : List Call) (t : ℕ) (image : Store) → length calls ≤ t → LeftSince h calls t image → Leaves h calls image
only_now h [] t image le left = left.1
only_now h (call ∷ calls) t image le (inl now) = now.1
only_now h (call ∷ calls) t image le (inr past) = let e = since_bound (before call h) calls t image past in absurd (omega (arith, e, le))

module _ (prefix : List ℕ) (place : IsPlace prefix) (begin : ℕ) where
  changed : (path : List ℕ) (earlier image : Store) → begins prefix path ≡ true → ChangesAt path earlier image → ChangesAt (drop (length prefix) path) (below prefix earlier) (below prefix image)
  changed path earlier image here c = record { others = λ q ne. c.others (prefix ++ q) (λ e. ne (front_same prefix q (drop (length prefix) path) (e ∙ begins_is prefix path here))) }

  moves : (from to : List ℕ) (was : Option Entry) (earlier image : Store) → from ≡ prefix ++ drop (length prefix) from → to ≡ prefix ++ drop (length prefix) to
      → Moves from to was earlier image → Moves (drop (length prefix) from) (drop (length prefix) to) was (below prefix earlier) (below prefix image)
  moves from to was earlier image f g c = record {
    others = λ q nf nt. c.others (prefix ++ q) (λ e. nf (front_same prefix q (drop (length prefix) from) (e ∙ f))) (λ e. nt (front_same prefix q (drop (length prefix) to) (e ∙ g)));
    source = subst (λ (p : List ℕ). (image p ≡ earlier p) ⊎ (image p ≡ None)) f c.source;
    target = subst (λ (p : List ℕ). (image p ≡ earlier p) ⊎ (image p ≡ was)) g c.target;
  }

  -- before these calls each image was what was held
  abbrev pub Settled : ℕ → Store → List Call → Type 0
  Settled m h calls = (j : ℕ) (image : Store) → j ≤ unsynced (drop m calls) → LeftBy j (held_before m h calls) (drop m calls) image → image ≡ held_before m h calls

  -- what a crash leaves of the last calls is, in the folder, what one leaves of the folder's
  pub left_below : (m n u : ℕ) (h : Store) (calls : List Call) → u ≡ min m n → m ≤ length calls → n ≤ m + unsynced (drop m calls) → are_below prefix (take m calls) ≡ true
      → Settled m h calls → (image : Store) → LeftBy n h calls image → LeftBy u (below prefix h) (map (call_below prefix begin) (take m calls)) (below prefix image)
  left_below zero n zero h calls is le fits t settled image left = ap (below prefix) (settled n image (omega (arith, fits)) left)
  left_below zero n (suc u) h calls is le fits t settled image left = absurd (omega (arith, is))
  left_below (suc m) zero zero h calls is le fits t settled image left = ap (below prefix) left
  left_below (suc m) zero (suc u) h calls is le fits t settled image left = absurd (omega (arith, is))
  left_below (suc m) (suc n) zero h calls is le fits t settled image left = absurd (omega (arith, is))
  left_below (suc m) (suc n) (suc u) h [] is le fits t settled image left = absurd (omega (arith, le))
  left_below (suc m) (suc n) (suc u) h (Looked ∷ calls) is le fits t settled image left = left_below m n u h calls (omega (arith, is)) (omega (arith, le)) (omega (arith, fits)) t settled image left
  left_below (suc m) (suc n) (suc u) h (Synced ∷ calls) is le fits t settled image left = left_below m n u h calls (omega (arith, is)) (omega (arith, le)) (omega (arith, fits)) t settled image left
  left_below (suc m) (suc n) (suc u) h (Ended k ∷ calls) is le fits t settled image left = left_below m n u h calls (omega (arith, is)) (omega (arith, le)) (omega (arith, fits)) t settled image left
  left_below (suc m) (suc n) (suc u) h (Put path was ∷ calls) is le fits t settled image left =
      let here : is_below prefix (Put path was) ≡ true = and_first (begins prefix path) (are_below prefix (take m calls)) t in
      let more = left_below m n u (before (Put path was) h) calls (omega (arith, is)) (omega (arith, le)) (omega (arith, fits)) (and_second (begins prefix path) (are_below prefix (take m calls)) t) settled left.1.0 left.1.1 in (
        below_content prefix place image left.0,
        (
          below prefix left.1.0,
          subst (λ (s : Store). LeftBy u s (map (call_below prefix begin) (take m calls)) (below prefix left.1.0)) (below_before prefix begin (Put path was) h here) more,
          changed path left.1.0 image here left.1.2,
        ),
      )
  left_below (suc m) (suc n) (suc u) h (Moved from to was replaced ∷ calls) is le fits t settled image left =
      let here = and_first (is_below prefix (Moved from to was replaced)) (are_below prefix (take m calls)) t in
      let rest = and_second (is_below prefix (Moved from to was replaced)) (are_below prefix (take m calls)) t in
      (below_content prefix place image left.0, by here left.1 (λ earlier l. left_below m n u (before (Moved from to was replaced) h) calls (omega (arith, is)) (omega (arith, le)) (omega (arith, fits)) rest settled earlier l))
    where
      by : is_below prefix (Moved from to was replaced) ≡ true
          → (image ≡ h) ⊎ ((earlier : Store) × LeftBy n (before (Moved from to was replaced) h) calls earlier × Moves from to was earlier image)
          → ((earlier : Store) → LeftBy n (before (Moved from to was replaced) h) calls earlier → LeftBy u (below prefix (before (Moved from to was replaced) h)) (map (call_below prefix begin) (take m calls)) (below prefix earlier))
          → (below prefix image ≡ below prefix h) ⊎ ((earlier : Store) × LeftBy u (before (call_below prefix begin (Moved from to was replaced)) (below prefix h)) (map (call_below prefix begin) (take m calls)) earlier
          × Moves (drop (length prefix) from) (drop (length prefix) to) was earlier (below prefix image))
      by here (inl same) later = inl (ap (below prefix) same)
      by here (inr w) later = inr (
        below prefix w.0,
        subst (λ (s : Store). LeftBy u s (map (call_below prefix begin) (take m calls)) (below prefix w.0)) (below_before prefix begin (Moved from to was replaced) h here) (later w.0 w.1),
        moves from to was w.0 image (begins_is prefix from (and_first (begins prefix from) (begins prefix to) here)) (begins_is prefix to (and_second (begins prefix from) (begins prefix to) here)) w.2,
      )

  pub leaves_below : (m : ℕ) (h : Store) (calls : List Call) → length calls ≡ m + begin → are_below prefix (take m calls) ≡ true → Settled m h calls
      → (image : Store) → Leaves h calls image → Leaves (below prefix h) (map (call_below prefix begin) (take m calls)) (below prefix image)
  leaves_below m h calls count t settled image left =
      let le : m ≤ length calls = omega (arith, count) in
      left_below m (unsynced calls) (unsynced (map (call_below prefix begin) (take m calls))) h calls (unsynced_below prefix begin m calls count) le (unsynced_bound m calls le) t settled image left

  -- an image since a moment that isn't before the first of the calls
  pub since_below : (m t : ℕ) (h : Store) (calls : List Call) → length calls ≡ m + begin → are_below prefix (take m calls) ≡ true → Settled m h calls
      → (image : Store) → LeftSince h calls (begin + t) image → LeftSince (below prefix h) (map (call_below prefix begin) (take m calls)) t (below prefix image)
  since_below zero t h calls count b settled image left =
      let e = since_bound h calls (begin + t) image left in
      (omega (arith, e, count), ap (below prefix) (settled (unsynced calls) image (omega arith) (only_now h calls (begin + t) image (omega (arith, count)) left)))
  since_below (suc m) t h [] count b settled image left = absurd (omega (arith, count))
  since_below (suc m) t h (call ∷ calls) count b settled image left =
      by left (λ past. since_below m t (before call h) calls (omega (arith, count)) (and_second (is_below prefix call) (are_below prefix (take m calls)) b) settled image past)
    where
      by : ((begin + t ≤ length (call ∷ calls)) × Leaves h (call ∷ calls) image) ⊎ LeftSince (before call h) calls (begin + t) image
          → (LeftSince (before call h) calls (begin + t) image → LeftSince (below prefix (before call h)) (map (call_below prefix begin) (take m calls)) t (below prefix image))
          → LeftSince (below prefix h) (call_below prefix begin call ∷ map (call_below prefix begin) (take m calls)) t (below prefix image)
      by (inl now) later =
          let long = length_below prefix begin m calls (omega (arith, count)) in
          let le = now.0 in
          inl (omega (arith, long, le, count), leaves_below (suc m) h (call ∷ calls) count b settled image now.1)
      by (inr past) later =
          let here = and_first (is_below prefix call) (are_below prefix (take m calls)) b in
          inr (subst (λ (s : Store). LeftSince s (map (call_below prefix begin) (take m calls)) t (below prefix image)) (below_before prefix begin call h here) (later past))

  -- what is held at an earlier moment
  pub held_below : (m : ℕ) (h : Store) (calls : List Call) → m ≤ length calls → are_below prefix (take m calls) ≡ true → (k : ℕ)
      → (j : ℕ) × (held_before k (below prefix h) (map (call_below prefix begin) (take m calls)) ≡ below prefix (held_before j h calls))
  held_below m h calls le t zero = (0, refl)
  held_below zero h calls le t (suc k) = (0, refl)
  held_below (suc m) h [] le t (suc k) = absurd (omega (arith, le))
  held_below (suc m) h (call ∷ calls) le t (suc k) =
      let here = and_first (is_below prefix call) (are_below prefix (take m calls)) t in
      let more = held_below m (before call h) calls (omega (arith, le)) (and_second (is_below prefix call) (are_below prefix (take m calls)) t) k in
      (suc more.0, ap (λ (s : Store). held_before k s (map (call_below prefix begin) (take m calls))) (sym (below_before prefix begin call h here)) ∙ more.1)
