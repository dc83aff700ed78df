-- What is damaged since the newest durable moment is what a crash may leave.
use Rattle.std.proofs.Common.{◌≡◌, ◌≢◌, ◌⊎◌, inl, inr, ⊎_elim, ℕ, zero, suc, Bor, ◌+◌, ◌-◌, ◌<◌, ◌≤◌, List, [], ◌∷◌, ◌++◌, length, get_or, take, reverse, Option, Some, None, Result, Ok, Err, OnOk, refl, sym, ◌∙◌, ap, subst, arith, length-append}
use Rattle.std.specs.Prelude.{IsSome, Contains}
use Rattle.std.specs.Option.{is_some, option_copied}
use Rattle.std.proofs.lemmas.Bool.{false≢true, cases_eq, cases_lt}
use Rattle.std.proofs.lemmas.List.{get_or_append_left, get_or_default, reverse-append, take_more}
use Rattle.std.proofs.Math.Seq.{get_or-append_seam}
use Rattle.tree_model.specs.declared.entry.Entry.{Entry}
use Rattle.tree_model.specs.Tree.{entry_at}
use Rattle.outside_traits.specs.declared.call.Call.{Call}
use Rattle.outside_traits.specs.declared.call.Call.TheVariants.{Looked, Synced, Ended, Put, Moved}
use Rattle.outside_traits.specs.Store.{Store, put, ChangesAt}
use Rattle.outside_traits.specs.Story.{IsContent, IsImage, IsSound, LeftBy, held_before, unsynced}
use Rattle.outside_traits.proofs.Puts.{path_cases, put-same, put-other, ChangesAt-put}
use Rattle.outside_traits.specs.Bench.{Entries}
use Rattle.outside_mem.specs.Kept.{IsDamaged, IsPicked, story_by, touched, touched_by}

none_some : {o : Option Entry} → o ≡ None → IsSome o → ⊥
none_some none some = false≢true (sym (ap is_some none) ∙ some)

damaged_content : {paths : List (List ℕ)} {h i : Store} → IsContent h → IsDamaged paths h i → IsContent i
damaged_content content d = record { treelike = λ p q below a b. content.treelike p q below (d.no_more p a) (d.no_more q b); clean = λ q some. content.clean q (d.no_more q some) }

-- no path, no damage
undamaged : {h i : Store} → IsDamaged [] h i → i ≡ h
undamaged d = λ x q. d.others q (λ has. absurd (omega (arith, has.1))) x

-- what stands in a list with one element more
either_of : (xs : List (List ℕ)) (p q : List ℕ) → Contains (xs ++ p ∷ []) q → Contains xs q ⊎ (q ≡ p)
either_of xs p q has = elim (cases_lt has.0 (length xs)) [
  | inl less ↦ inl (has.0, less, sym (get_or_append_left xs (p ∷ []) q has.0 less) ∙ has.2)
  | inr last ↦
      let at : has.0 ≡ length xs = omega (arith, last, has.1, length-append xs (p ∷ [])) in
      inr (sym has.2 ∙ ap (λ (k : ℕ). get_or (xs ++ p ∷ []) k q) at ∙ get_or-append_seam xs p [] q)
]

-- what is damaged is left by the calls that touched it
pub damaged_left : (n : ℕ) (h : Store) (calls : List Call) → ((k : ℕ) → IsContent (held_before k h calls)) → (i : Store) → IsDamaged (touched n calls) h i → LeftBy n h calls i
damaged_left zero h calls content i d = undamaged d
damaged_left (suc n) h [] content i d = undamaged d
damaged_left (suc n) h (Looked ∷ calls) content i d = damaged_left n h calls (λ k. content (suc k)) i d
damaged_left (suc n) h (Synced ∷ calls) content i d = damaged_left n h calls (λ k. content (suc k)) i d
damaged_left (suc n) h (Ended t ∷ calls) content i d = damaged_left n h calls (λ k. content (suc k)) i d
damaged_left (suc n) h (Put p was ∷ calls) content i d =
    (damaged_content (content 0) d, (put i p was, damaged_left n (put h p was) calls (λ k. content (suc k)) (put i p was) (record { others = others; no_more = no_more }), record { others = λ q ne. sym (put-other i p q was ne) }))
  where
    others : (q : List ℕ) → (Contains (touched n calls) q → ⊥) → put i p was q ≡ put h p was q
    others q not = elim (path_cases q p) [
      | inl same ↦ put-same i p q was same ∙ sym (put-same h p q was same)
      | inr ne ↦ put-other i p q was ne ∙ d.others q (λ has. ⊎_elim not ne (either_of (touched n calls) p q has)) ∙ sym (put-other h p q was ne)
    ]

    no_more : (q : List ℕ) → IsSome (put i p was q) → IsSome (put h p was q)
    no_more q some = elim (path_cases q p) [
      | inl same ↦ subst IsSome (put-same i p q was same ∙ sym (put-same h p q was same)) some
      | inr ne ↦ subst IsSome (sym (put-other h p q was ne)) (d.no_more q (subst IsSome (put-other i p q was ne) some))
    ]
damaged_left (suc n) h (Moved p q was replaced ∷ calls) content i d = (subst IsContent (sym (undamaged d)) (content 0), inl (undamaged d))

-- the first calls, the last of them first, with one call more
first_calls : (calls : List Call) (n : ℕ) (call : Call) → n < length calls → call ≡ get_or calls n call → reverse (take (n + 1) calls) ≡ call ∷ reverse (take n calls)
first_calls calls n call fits at =
    ap reverse (take_more calls n call fits) ∙ reverse-append (take n calls) (get_or calls n call ∷ []) ∙ ap (λ (c : Call). c ∷ reverse (take n calls)) (sym at)

-- what is touched after one call more
pub touched_more : (calls : List Call) (from n : ℕ) (call : Call) (old new : List (List ℕ)) → from ≤ n → n < length calls → call ≡ get_or calls n call → old ≡ touched (n - from) (reverse (take n calls)) → new ≡ touched_by call old
    → new ≡ touched (n + 1 - from) (reverse (take (n + 1) calls))
touched_more calls from n call old new le fits at was is =
    let more : n + 1 - from ≡ suc (n - from) = omega (arith, le) in
    is ∙ ap (touched_by call) was ∙ sym (ap (λ (k : ℕ). touched k (reverse (take (n + 1) calls))) more ∙ ap (touched (suc (n - from))) (first_calls calls n call fits at))

-- the first n paths are damaged
pub record FirstDamaged (pick : ℕ) (paths : List (List ℕ)) (n : ℕ) (old new : Store) : Type 0 where
  pub others : (q : List ℕ) → ((k : ℕ) → k < n → get_or paths k [] ≢ q) → new q ≡ old q
  pub no_more : (q : List ℕ) → IsSome (new q) → IsSome (old q)
  pub whole : pick ≡ 0 → new ≡ old
  pub gone : pick ≡ 1 → (k : ℕ) → k < n → new (get_or paths k []) ≡ None

pub first_none : (pick : ℕ) (paths : List (List ℕ)) (h : Store) → FirstDamaged pick paths 0 h h
first_none pick paths h = record { others = λ q not. refl; no_more = λ q some. some; whole = λ none. refl; gone = λ one k less. absurd (omega (arith, less)) }

pub first_more : {pick : ℕ} {paths : List (List ℕ)} {n : ℕ} {a b c : Store} (p : List ℕ) → p ≡ get_or paths n [] → FirstDamaged pick paths n a b → ChangesAt p b c → (IsSome (c p) → IsSome (b p))
    → (pick ≡ 0 → c ≡ b) → (pick ≡ 1 → c p ≡ None) → FirstDamaged pick paths (n + 1) a c
first_more {pick} {paths} {n} {a} {b} {c} p is so_far change more whole gone = record {
  others = λ q not. change.others q (λ same. not n (omega arith) (sym is ∙ sym same)) ∙ so_far.others q (λ k less. not k (omega arith));
  no_more = λ q some. elim (path_cases q p) [
    | inl same ↦ so_far.no_more q (subst (λ (r : List ℕ). IsSome (b r)) (sym same) (more (subst (λ (r : List ℕ). IsSome (c r)) same some)))
    | inr ne ↦ so_far.no_more q (subst IsSome (change.others q ne) some)
  ];
  whole = λ none. whole none ∙ so_far.whole none;
  gone = λ one k less. elim (path_cases (get_or paths k []) p) [
    | inl same ↦ ap c same ∙ gone one
    | inr ne ↦ change.others (get_or paths k []) ne ∙ so_far.gone one k (elim (cases_eq k n) [
      | inl last ↦ absurd (ne (ap (λ (m : ℕ). get_or paths m []) last ∙ sym is))
      | inr other ↦ omega (arith, less, other)
    ])
  ];
}

-- all of them are
pub picked_end : {pick : ℕ} {paths : List (List ℕ)} {n : ℕ} {a c : Store} → n ≡ length paths → FirstDamaged pick paths n a c → IsPicked pick paths a c
picked_end {pick} {paths} {n} {a} {c} all so_far = record {
  whole = so_far.whole;
  gone = λ one q has. ap c (sym (get_or_default paths has.0 [] q has.1 ∙ has.2)) ∙ so_far.gone one has.0 (omega (arith, has.1, all));
}

-- a path at which nothing is held any more, or something else where something was
pub changes_by : (h g : Store) (p : List ℕ) (x : Option Entry) → g ≡ put h p x → ChangesAt p h g
changes_by h g p x is = subst (ChangesAt p h) (sym is) (ChangesAt-put h p x)

pub none_at : (h g : Store) (p : List ℕ) → g ≡ put h p None → g p ≡ None
none_at h g p is = ap (λ (f : Store). f p) is ∙ put-same h p p None refl

pub none_left : (h g : Store) (p : List ℕ) → g ≡ put h p None → IsSome (g p) → IsSome (h p)
none_left h g p is some = absurd (none_some (none_at h g p is) some)

pub ok_changes : {T E : Type 0} (h g : Store) (p : List ℕ) (x : Option Entry) (r : Result T E) → OnOk r (g ≡ put h p x) → OnOk r (ChangesAt p h g)
ok_changes h g p x (Ok v) is = changes_by h g p x is
ok_changes h g p x (Err e) is = tt

-- something is held where it was found
pub held_found : (o : Option (Bor Entry)) (p : Option Entry) (e : Bor Entry) → option_copied o ≡ p → o ≡ Some e → IsSome p
held_found o p e is some = ap is_some (sym is ∙ ap option_copied some)

-- a fresh disk over what may be held
pub fresh_sound : (tree : Entries) (calls : List Call) → calls ≡ [] → IsContent (entry_at tree) → IsSound (story_by tree calls)
fresh_sound tree calls none content = subst (λ (l : List Call). IsSound (story_by tree l)) (sym none) (record { content = each })
  where
    each : (k : ℕ) → IsContent (held_before k (entry_at tree) [])
    each zero = content
    each (suc k) = content

-- the paths are these, and what is copied is the same
pub damaged_same : {h copy new : Store} {paths now : List (List ℕ)} → paths ≡ now → copy ≡ h → IsDamaged paths copy new → IsDamaged now h new
damaged_same {h} {copy} {new} {paths} is same d = subst (λ (l : List (List ℕ)). IsDamaged l h new) is (subst (λ (g : Store). IsDamaged paths g new) same d)

pub picked_same : {pick : ℕ} {h copy new : Store} {paths now : List (List ℕ)} → paths ≡ now → copy ≡ h → IsPicked pick paths copy new → IsPicked pick now h new
picked_same {pick} {h} {copy} {new} {paths} is same d = subst (λ (l : List (List ℕ)). IsPicked pick l h new) is (subst (λ (g : Store). IsPicked pick paths g new) same d)

-- what is damaged is an image, and what a disk may hold
pub image_of : (tree new : Entries) (calls : List Call) → IsSound (story_by tree calls) → IsDamaged (touched (unsynced (reverse calls)) (reverse calls)) (entry_at tree) (entry_at new) → IsImage (story_by tree calls) (entry_at new)
image_of tree new calls sound d = damaged_left (unsynced (reverse calls)) (entry_at tree) (reverse calls) sound.content (entry_at new) d

pub image_content : (tree copy new : Entries) (calls : List Call) (paths : List (List ℕ)) → IsSound (story_by tree calls) → copy ≡ tree → IsDamaged paths (entry_at copy) (entry_at new) → IsContent (entry_at new)
image_content tree copy new calls paths sound same d = damaged_content (subst (λ (t : Entries). IsContent (entry_at t)) (sym same) (sound.content 0)) d
