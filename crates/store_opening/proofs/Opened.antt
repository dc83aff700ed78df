-- An opened disk is what its survey says.
use Rattle.std.proofs.Common.{◌≡◌, ◌≢◌, ◌∙◌, sym, ap, subst, refl, ℕ, zero, suc, ◌<◌, ◌⊎◌, inl, inr, Bool, true, false, List, [], ◌∷◌, Option, Some, None, arith, get_or, length}
use Rattle.std.specs.Prelude.{codes, Contains, IsSome, slice_get}
use Rattle.std.specs.Option.{is_some}
use Rattle.std.specs.List.{AllByRecursion}
use Rattle.std.proofs.lemmas.Bool.{cases_eq, false≢true}
use Rattle.std.proofs.lemmas.Option.{get_or_from_slice_get, slice_get-get_or}
use Rattle.tree_model.specs.Path.{BeginsWith, IsAtOrBelow, IsBelow, inside}
use Rattle.tree_model.specs.Hash.{hash_text}
use Rattle.hex.specs.Hex.{IsBytes}
use Rattle.outside_traits.specs.Store.{Store}
use Rattle.outside_traits.specs.Story.{IsImage, Story}
use Rattle.outside_traits.specs.Passes.{Passes, Same}
use Rattle.outside_traits.proofs.Calls.{same_then}
use Rattle.outside_traits.proofs.Runs.{passes_so}
use Rattle.outside_traits.proofs.Held.{none_unless}
use Rattle.outside_traits.proofs.Puts.{bool_cases, path_cases}
use Rattle.store_model.specs.declared.signature.EquivRow.{EquivRow}
use Rattle.store_model.specs.declared.candidate.Candidate.{Candidate}
use Rattle.store_model.specs.Believed.{AreBelieved, IsAmong, IsBelieved, IsBelievedWithin, IsShared}
use Rattle.store_model.specs.Opened.{AreFound, HasNoLitter, HasWay, IsBelievedRecord, IsBlocked, IsElsewhere, IsLeft, IsOpened, IsRecordFile, row_of_candidate, rows_at}
use Rattle.store_model.specs.Publication.{stamp_at, work_at}
use Rattle.store_opening.specs.Opening.{Clears}
use Rattle.store_opening.specs.Named.{IsName}
use Rattle.store_opening.specs.Paths.{IsLaidOut}
use Rattle.store_model.specs.Paths.{key_path, record_path}
use Rattle.outside_traits.specs.Store.{slashes}
use Rattle.store_model.specs.Readable.{IsHeld}
use Rattle.store_opening.specs.Sound.{IsKept}
use Rattle.store_opening.specs.declared.bare.Bare.{Bare}
use Rattle.store_opening.specs.Survey.{AreBare, AreMarks, Dooms, DoomsUnbelieved, DoomsUnmarked, IsAt, IsFoundIn, IsOtherArea, IsRecordSurvey, TakesOut}
use Rattle.store_opening.proofs.Areas.{differ, heads_differ}
use Rattle.store_opening.proofs.Clean.{name_slashes, short_is_name}
use Rattle.store_opening.proofs.Doomed.{blocked_never, no_slash}
use Rattle.store_opening.proofs.Hexed.{ways}
use Rattle.store_opening.proofs.Indexed.{in_range, names_differ}
use Rattle.store_opening.proofs.Surveyed.{among_of, believed_file, each_of, one_record}

some_one : {A : Type 0} (x y : A) (o : Option A) → o ≡ Some x → o ≡ Some y → x ≡ y
some_one x y o p q = cc

held_none : (held : Store) (q : List ℕ) → held q ≡ None → IsSome (held q) → ⊥
held_none held q none some = false≢true (sym (ap is_some none) ∙ some)

-- a blocked stamp is none that opening leaves alone
not_blocked : (held : Store) (q : List ℕ) → IsBlocked held q → IsSome (held q) → IsLeft held q → ⊥
not_blocked held q b some = blocked_never held (record { pn = b.candidate.stored.sig.pn; task = b.candidate.stored.sig.task }) q b.way b.stamp some

-- ---- which candidates go

pub unbelieved_is : (candidates : List Candidate) (places : List ℕ) (marks : List Bool) (old new : List (List ℕ)) → AreMarks (length candidates) places marks → DoomsUnmarked candidates marks (length candidates) old new → DoomsUnbelieved candidates places old new
unbelieved_is candidates places marks old new are dooms = record { kept = dooms.kept; sound = λ q has. by q (dooms.sound q has); whole = λ k c get. of k c get (bool_cases (get_or marks k false)) }
  where
    by : (q : List ℕ) → Contains old q ⊎ ((k : ℕ) × (c : Candidate) × (slice_get candidates k ≡ Some c) × (get_or marks k false ≡ false) × (q ≡ record_path c.name)) → Contains old q ⊎ ((k : ℕ) × (c : Candidate) × (slice_get candidates k ≡ Some c) × (Contains places k → ⊥) × (q ≡ record_path c.name))
    by q (inl has) = inl has
    by q (inr w) = inr (w.0, w.1, w.2, λ has. false≢true (sym w.3 ∙ are.marked w.0 has), w.4)

    of : (k : ℕ) (c : Candidate) → slice_get candidates k ≡ Some c → (get_or marks k false ≡ true) ⊎ (get_or marks k false ≡ false) → Contains new (record_path c.name) ⊎ Contains places k
    of k c get (inl t) = inr (are.listed k t)
    of k c get (inr f) = inl (dooms.whole k c (in_range candidates k c get) get f)

-- what is believed among some is so among as many
transfer : (cs ds : List Candidate) → ((c : Candidate) → IsAmong cs c → IsAmong ds c) → (n : ℕ) (c : Candidate) → IsBelievedWithin cs n c → IsBelievedWithin ds n c
transfer cs ds all zero c b = b
transfer cs ds all (suc n) c b = record {
  among = all c b.among;
  deps = λ i dep at. let w = b.deps i dep at in record { other = w.other; admitted = transfer cs ds all n w.other w.admitted; name_is = w.name_is };
  unihash = by (λ d. transfer cs ds all n d) b.unihash;
}
  where
    by : ((d : Candidate) → IsBelievedWithin cs n d → IsBelievedWithin ds n d) → (c.stored.unihash ≡ c.name) ⊎ IsShared (IsBelievedWithin cs n) c → (c.stored.unihash ≡ c.name) ⊎ IsShared (IsBelievedWithin ds n) c
    by more (inl own) = inl own
    by more (inr s) = inr (record { other = s.other; admitted = more s.other s.admitted; name_is = s.name_is; alike = s.alike })

files_of : (held : Store) (candidates : List Candidate) (c : Candidate) → AreFound held candidates → IsAmong candidates c → IsRecordFile held c
files_of held candidates c found among = each_of (IsRecordFile held) candidates c found.each (among.0, in_range candidates among.0 c among.1, get_or_from_slice_get candidates among.0 c c among.1)

module _ (held : Store) (candidates : List Candidate) (places : List ℕ) (found : AreFound held candidates) (believed : AreBelieved candidates places) where
  -- a believed record is at one of the places
  listed : (k : ℕ) (c d : Candidate) → slice_get candidates k ≡ Some c → IsBelievedRecord held d → record_path c.name ≡ record_path d.name → Contains places k
  listed k c d at b same =
      let within = transfer b.candidates candidates (λ x among. found.whole x (files_of held b.candidates x b.found among)) b.believed.0 d b.believed.1 in
      let w = believed.whole d (b.believed.0, within) in
      let file_c = files_of held candidates c found (k, at) in
      let one : c ≡ d = one_record held c d file_c (believed_file held d b) same in
      place w.0 w.1 w.2 (w.3 ∙ ap (λ x. Some x) (sym one))
    where
      place : (i p : ℕ) → slice_get places i ≡ Some p → slice_get candidates p ≡ Some c → Contains places k
      place i p get there = elim (ways k p) [
        | inl less ↦ absurd (names_differ candidates k p c c found.ascend less at there refl)
        | inr (inl same') ↦ (i, in_range places i p get, get_or_from_slice_get places i p k get ∙ sym same')
        | inr (inr more) ↦ absurd (names_differ candidates p k c c found.ascend more there at refl)
      ]

  -- one that is at a place is believed
  left_at : (k : ℕ) (c : Candidate) → slice_get candidates k ≡ Some c → Contains places k → IsBelievedRecord held c
  left_at k c at has =
      let w = believed.each has.0 k (slice_get-get_or places has.0 k has.1 ∙ ap (λ n. Some n) has.2) in
      let one : w.0 ≡ c = some_one w.0 c (slice_get candidates k) w.1 at in
      record { candidates = candidates; found = found; believed = subst (IsBelieved candidates) one w.2 }

pub record_survey : (held : Store) (candidates : List Candidate) (places : List ℕ) (rejected new more : List (List ℕ)) (rows : List EquivRow) (bare : List Bare)
    → IsFoundIn held candidates rejected → AreBelieved candidates places → DoomsUnbelieved candidates places rejected new → rows ≡ rows_at candidates places → AreBare candidates bare → Dooms held (BeginsWith (codes "key/")) new more → IsRecordSurvey held rows more bare
record_survey held candidates places rejected new more rows bare f believed dooms is are keys = record {
  candidates = candidates;
  found = f.found;
  places = places;
  believed = believed;
  rows_are = is;
  within = λ q has. elim (keys.sound q has) [
    | inl r ↦ inl (in_it q (dooms.sound q r))
    | inr k ↦ inr k.0
  ];
  bare_are = are;
  not_left = λ q has. elim (keys.sound q has) [
    | inl r ↦ by q (dooms.sound q r)
    | inr k ↦ k.1
  ];
  whole = λ path some. elim (of path (f.whole path some)) [
    | inl r ↦ inl (keys.kept (inside (codes "rec2") path) r)
    | inr left ↦ inr left
  ];
  keys = keys.whole;
}
  where
    gone : (k : ℕ) (c : Candidate) (q : List ℕ) → slice_get candidates k ≡ Some c → (Contains places k → ⊥) → q ≡ record_path c.name → IsLeft held q → ⊥
    gone k c q at never is (inl e) = e.records (inr (hash_text c.name, is))
    gone k c q at never is (inr (inl b)) = never (listed held candidates places f.found believed k c b.0 at b.1 (sym is ∙ b.2))
    gone k c q at never is (inr (inr (inl k'))) = heads_differ (differ 114 107 refl) (sym is ∙ k'.2)
    gone k c q at never is (inr (inr (inr (inl t)))) = heads_differ (differ 114 115 refl) (sym is ∙ t.2)
    gone k c q at never is (inr (inr (inr (inr n)))) = held_none held q n (subst IsSome (sym (ap held is ∙ (files_of held candidates c f.found (k, at)).file)) refl)

    in_it : (q : List ℕ) → Contains rejected q ⊎ ((k : ℕ) × (c : Candidate) × (slice_get candidates k ≡ Some c) × (Contains places k → ⊥) × (q ≡ record_path c.name)) → BeginsWith (codes "rec2/") q
    in_it q (inl has) = f.within q has
    in_it q (inr w) = (hash_text w.1.name, w.4)

    by : (q : List ℕ) → Contains rejected q ⊎ ((k : ℕ) × (c : Candidate) × (slice_get candidates k ≡ Some c) × (Contains places k → ⊥) × (q ≡ record_path c.name)) → IsLeft held q → ⊥
    by q (inl has) = f.not_left q has
    by q (inr w) = gone w.0 w.1 q w.2 w.3 w.4

    of : (path : List ℕ) → Contains rejected (inside (codes "rec2") path) ⊎ ((c : Candidate) × Contains candidates c × (inside (codes "rec2") path ≡ record_path c.name)) → Contains new (inside (codes "rec2") path) ⊎ IsLeft held (inside (codes "rec2") path)
    of path (inl has) = inl (dooms.kept (inside (codes "rec2") path) has)
    of path (inr w) = let among = among_of candidates w.0 w.1 in which (dooms.whole among.0 w.0 among.1)
      where
        which : Contains new (record_path w.0.name) ⊎ Contains places (among_of candidates w.0 w.1).0 → Contains new (inside (codes "rec2") path) ⊎ IsLeft held (inside (codes "rec2") path)
        which (inl has) = inl (subst (Contains new) (sym w.2) has)
        which (inr at) = inr (inr (inl (w.0, left_at held candidates places f.found believed (among_of candidates w.0 w.1).0 w.0 (among_of candidates w.0 w.1).1 at, w.2)))

-- ---- more and more goes

pub dooms_then : (held : Store) (A B : List ℕ → Type 0) (old mid new : List (List ℕ)) → Dooms held A old mid → Dooms held B mid new → Dooms held (λ q. A q ⊎ B q) old new
dooms_then held A B old mid new first second = record {
  kept = λ q has. second.kept q (first.kept q has);
  sound = λ q has. by q (second.sound q has);
  whole = λ q area some. of q some area;
}
  where
    by : (q : List ℕ) → Contains mid q ⊎ (B q × (IsLeft held q → ⊥)) → Contains old q ⊎ ((A q ⊎ B q) × (IsLeft held q → ⊥))
    by q (inl has) = elim (first.sound q has) [
      | inl was ↦ inl was
      | inr w ↦ inr (inl w.0, w.1)
    ]
    by q (inr w) = inr (inr w.0, w.1)

    of : (q : List ℕ) → IsSome (held q) → A q ⊎ B q → Contains new q ⊎ IsLeft held q
    of q some (inl a) = a_of (first.whole q a some)
      where
        a_of : Contains mid q ⊎ IsLeft held q → Contains new q ⊎ IsLeft held q
        a_of (inl has) = inl (second.kept q has)
        a_of (inr left) = inr left
    of q some (inr b) = second.whole q b some

-- the seven areas besides `rec2/` and `key/`
pub dooms_areas : (held : Store) (a b c d e f g h : List (List ℕ)) → Dooms held (IsBlocked held) a b → Dooms held (BeginsWith (codes "tmp/")) b c → Dooms held (IsAt (codes "rec2")) c d → Dooms held (IsAt (codes "key")) d e
    → Dooms held (IsAt (codes "stamp")) e f → Dooms held (IsAt (codes "tmp")) f g → Dooms held (IsAt (codes "obj")) g h → Dooms held (IsOtherArea held) a h
dooms_areas held a b c d e f g h stamps temporary rec key stamp tmp obj =
    let A : List ℕ → Type 0 = λ q. IsAt (codes "tmp") q ⊎ IsAt (codes "obj") q in
    let B : List ℕ → Type 0 = λ q. IsAt (codes "stamp") q ⊎ A q in
    let C : List ℕ → Type 0 = λ q. IsAt (codes "key") q ⊎ B q in
    let D : List ℕ → Type 0 = λ q. IsAt (codes "rec2") q ⊎ C q in
    let F : List ℕ → Type 0 = λ q. BeginsWith (codes "tmp/") q ⊎ D q in
    dooms_then held (IsBlocked held) F a b h stamps
    (dooms_then held (BeginsWith (codes "tmp/")) D b c h temporary
    (dooms_then held (IsAt (codes "rec2")) C c d h rec
    (dooms_then held (IsAt (codes "key")) B d e h key
    (dooms_then held (IsAt (codes "stamp")) A e f h stamp
    (dooms_then held (IsAt (codes "tmp")) (IsAt (codes "obj")) f g h tmp obj)))))

-- ---- an opened disk

contains_or : (xs : List (List ℕ)) (q : List ℕ) → Contains xs q ⊎ (Contains xs q → ⊥)
contains_or [] q = inr (λ has. omega (arith, has.1))
contains_or (x ∷ xs) q = by (path_cases x q) (contains_or xs q)
  where
    by : (x ≡ q) ⊎ (x ≢ q) → Contains xs q ⊎ (Contains xs q → ⊥) → Contains (x ∷ xs) q ⊎ (Contains (x ∷ xs) q → ⊥)
    by (inl same) rest = inl (0, omega arith, same)
    by (inr ne) (inl has) = inl (suc has.0, omega (arith, has.1), has.2)
    by (inr ne) (inr never) = inr no'
      where
        no' : Contains (x ∷ xs) q → ⊥
        no' (zero, lt, is) = ne is
        no' (suc k, lt, is) = never (k, omega (arith, lt), is)

pub begins_or : (prefix q : List ℕ) → BeginsWith prefix q ⊎ (BeginsWith prefix q → ⊥)
begins_or [] q = inl (q, refl)
begins_or (p ∷ prefix) [] = inr (λ b. let e = b.1 in cc)
begins_or (p ∷ prefix) (x ∷ q) = by (cases_eq p x) (begins_or prefix q)
  where
    by : (p ≡ x) ⊎ (p ≢ x) → BeginsWith prefix q ⊎ (BeginsWith prefix q → ⊥) → BeginsWith (p ∷ prefix) (x ∷ q) ⊎ (BeginsWith (p ∷ prefix) (x ∷ q) → ⊥)
    by (inl same) (inl b) = inl (b.0, λ i. sym same i ∷ b.1 i)
    by (inl same) (inr never) = inr (λ b. let e = b.1 in never (b.0, cc))
    by (inr ne) rest = inr (λ b. let e = b.1 in ne cc)

-- what stands under `stamp/` is in none of the other areas
stamps_alone : (held : Store) (q : List ℕ) → IsBelow (codes "stamp") q → IsOtherArea held q → IsBlocked held q
stamps_alone held q below (inl b) = b
stamps_alone held q below (inr (inl t)) = absurd (heads_differ (differ 115 116 refl) (sym below.1 ∙ t.1))
stamps_alone held q below (inr (inr (inl e))) = absurd (heads_differ (differ 115 114 refl) (sym below.1 ∙ e))
stamps_alone held q below (inr (inr (inr (inl e)))) = absurd (heads_differ (differ 115 107 refl) (sym below.1 ∙ e))
stamps_alone held q below (inr (inr (inr (inr (inl e))))) = absurd (no_slash (codes "stamp") below.0 (sym e ∙ below.1))
stamps_alone held q below (inr (inr (inr (inr (inr (inl e)))))) = absurd (heads_differ (differ 115 116 refl) (sym below.1 ∙ e))
stamps_alone held q below (inr (inr (inr (inr (inr (inr e)))))) = absurd (heads_differ (differ 115 111 refl) (sym below.1 ∙ e))

module _ (held now : Store) (rows : List EquivRow) (first doomed : List (List ℕ)) (bare : List Bare) (survey : IsRecordSurvey held rows first bare) (others : Dooms held (IsOtherArea held) first doomed) (takes : TakesOut doomed held now) where
  not_left : (q : List ℕ) → Contains doomed q → IsLeft held q → ⊥
  not_left q has = by (others.sound q has)
    where
      by : Contains first q ⊎ (IsOtherArea held q × (IsLeft held q → ⊥)) → IsLeft held q → ⊥
      by (inl h) = survey.not_left q h
      by (inr w) = w.1

  pub left_stays : (q : List ℕ) → IsLeft held q → now q ≡ held q
  left_stays q left = takes.others q (λ has. not_left q has left)

  -- of what is under `stamp/` just the blocked stamps go
  module _ (gone : (q : List ℕ) → Contains doomed q → now q ≡ None) where
    doomed_stamp : (q : List ℕ) → IsBelow (codes "stamp") q → Contains first q ⊎ (IsOtherArea held q × (IsLeft held q → ⊥)) → IsBlocked held q
    doomed_stamp q below (inl h) = elim (survey.within q h) [
      | inl r ↦ absurd (heads_differ (differ 115 114 refl) (sym below.1 ∙ r.1))
      | inr k ↦ absurd (heads_differ (differ 115 107 refl) (sym below.1 ∙ k.1))
    ]
    doomed_stamp q below (inr w) = stamps_alone held q below w.0

    stamps_are : (q : List ℕ) → IsBelow (codes "stamp") q → (now q ≡ held q) ⊎ (IsBlocked held q × (now q ≡ None))
    stamps_are q below = elim (contains_or doomed q) [
      | inl has ↦ inr (doomed_stamp q below (others.sound q has), gone q has)
      | inr never ↦ inl (takes.others q never)
    ]

    blocked_goes : (q : List ℕ) → IsBlocked held q → now q ≡ None
    blocked_goes q b = elim (contains_or doomed q) [
      | inl has ↦ gone q has
      | inr never ↦ takes.others q never ∙ none_unless (held q) (λ some. elim (others.whole q (inl b) some) [
        | inl has ↦ never has
        | inr left ↦ not_blocked held q b some left
      ])
    ]

    only_left : (q : List ℕ) → IsSome (now q) → IsLeft held q ⊎ IsBelow (codes "stamp") q
    only_left q some = by (contains_or doomed q)
      where
        by : Contains doomed q ⊎ (Contains doomed q → ⊥) → IsLeft held q ⊎ IsBelow (codes "stamp") q
        by (inl has) = absurd (held_none now q (gone q has) some)
        by (inr never) = area (subst IsSome (takes.others q never) some)
          where
            in_area : IsSome (held q) → IsOtherArea held q → IsLeft held q ⊎ IsBelow (codes "stamp") q
            in_area s a = of (others.whole q a s)
              where
                of : Contains doomed q ⊎ IsLeft held q → IsLeft held q ⊎ IsBelow (codes "stamp") q
                of (inl has) = absurd (never has)
                of (inr left) = inl left

            in_records : (path : List ℕ) → q ≡ inside (codes "rec2") path → IsSome (held q) → IsLeft held q ⊎ IsBelow (codes "stamp") q
            in_records path is s = of (survey.whole path (subst (λ (p : List ℕ). IsSome (held p)) is s))
              where
                of : Contains first (inside (codes "rec2") path) ⊎ IsLeft held (inside (codes "rec2") path) → IsLeft held q ⊎ IsBelow (codes "stamp") q
                of (inl has) = absurd (never (others.kept q (subst (Contains first) (sym is) has)))
                of (inr left) = inl (subst (IsLeft held) (sym is) left)

            in_keys : BeginsWith (codes "key/") q → IsSome (held q) → IsLeft held q ⊎ IsBelow (codes "stamp") q
            in_keys begins s = elim (survey.keys q begins s) [
              | inl has ↦ absurd (never (others.kept q has))
              | inr left ↦ inl left
            ]

            area : IsSome (held q) → IsLeft held q ⊎ IsBelow (codes "stamp") q
            area s = elim (begins_or (codes "rec2/") q) [
              | inl r ↦ in_records r.0 r.1 s
              | inr nr ↦ elim (begins_or (codes "stamp/") q) [
                | inl st ↦ inr (st.0, st.1)
                | inr ns ↦ elim (begins_or (codes "tmp/") q) [
                  | inl t ↦ in_area s (inr (inl t))
                  | inr nt ↦ elim (begins_or (codes "key/") q) [
                    | inl k ↦ in_keys k s
                    | inr nk ↦ elim (path_cases q (codes "rec2")) [
                      | inl ar ↦ in_area s (inr (inr (inl ar)))
                      | inr nar ↦ elim (path_cases q (codes "key")) [
                        | inl ak ↦ in_area s (inr (inr (inr (inl ak))))
                        | inr nak ↦ elim (path_cases q (codes "stamp")) [
                          | inl as' ↦ in_area s (inr (inr (inr (inr (inl as')))))
                          | inr nas ↦ elim (path_cases q (codes "tmp")) [
                            | inl at ↦ in_area s (inr (inr (inr (inr (inr (inl at))))))
                            | inr nat' ↦ elim (path_cases q (codes "obj")) [
                              | inl ao ↦ in_area s (inr (inr (inr (inr (inr (inr ao))))))
                              | inr nao ↦ inl (inl (record { records = none_of (codes "rec2") nar nr; keys = none_of (codes "key") nak nk; stamps = none_of (codes "stamp") nas ns; temporary = none_of (codes "tmp") nat' nt; objects = nao }))
                            ]
                          ]
                        ]
                      ]
                    ]
                  ]
                ]
              ]
            ]
              where
                none_of : (top : List ℕ) → (q ≡ top → ⊥) → (((rest : List ℕ) × (q ≡ inside top rest)) → ⊥) → IsAtOrBelow top q → ⊥
                none_of top at below (inl e) = at e
                none_of top at below (inr b) = below b

    pub opened_is : IsOpened held now rows
    opened_is = record { candidates = survey.candidates; found = survey.found; places = survey.places; believed = survey.believed; rows_are = survey.rows_are; left = left_stays; only = only_left; stamps = stamps_are; blocked = blocked_goes }

-- at each moment
pub clears_by : (held : Store) (rows : List EquivRow) (first doomed : List (List ℕ)) (bare : List Bare) (i j : Store) → IsRecordSurvey held rows first bare → Dooms held (IsOtherArea held) first doomed → TakesOut doomed i j → Clears held i j
clears_by held rows first doomed bare i j survey others takes = record { left = λ q left. takes.others q (λ has. by q (others.sound q has) left) }
  where
    by : (q : List ℕ) → Contains first q ⊎ (IsOtherArea held q × (IsLeft held q → ⊥)) → IsLeft held q → ⊥
    by q (inl h) = survey.not_left q h
    by q (inr w) = w.1

-- ---- the run of an opening

module _ {a b m z : Story} (rows : List EquivRow) (first doomed paths : List (List ℕ)) (bare : List Bare) (survey : IsRecordSurvey a.held rows first bare) (reads : Passes a b Same) (others : Dooms b.held (IsOtherArea b.held) first doomed) (looks : Passes b m Same) (same : paths ≡ doomed) (takes : Passes m z (TakesOut paths)) where
  dooms_here : Dooms a.held (IsOtherArea a.held) first doomed
  dooms_here = subst (λ (h : Store). Dooms h (IsOtherArea h) first doomed) reads.held others

  pub clears_run : Passes a z (Clears a.held)
  clears_run = same_then (λ i. record { left = λ q left. refl }) reads (same_then (λ i. record { left = λ q left. refl }) looks (passes_so (Clears a.held) takes (λ i j t. clears_by a.held rows first doomed bare i j survey dooms_here (subst (λ (l : List (List ℕ)). TakesOut l i j) same t))))

  pub opened_run : (y : Story) → ((q : List ℕ) → Contains paths q → z.held q ≡ None) → y.held ≡ z.held → IsOpened a.held y.held rows
  opened_run y gone last =
      let here : m.held ≡ a.held = looks.held ∙ reads.held in
      let out : TakesOut doomed a.held z.held = subst (λ (h : Store). TakesOut doomed h z.held) here (subst (λ (l : List (List ℕ)). TakesOut l m.held z.held) same takes.held) in
      let at : IsOpened a.held z.held rows = opened_is a.held z.held rows first doomed bare survey dooms_here out (λ q has. gone q (subst (λ (l : List (List ℕ)). Contains l q) (sym same) has)) in
      subst (λ (h : Store). IsOpened a.held h rows) (sym last) at

-- ---- an opened store keeps what every store does

-- the bytes of a digest, one by one
hash_bytes : (xs : List ℕ) → IsBytes xs → AllByRecursion (λ b. b < 256) xs
hash_bytes [] all = tt
hash_bytes (x ∷ xs) all = (all 0, hash_bytes xs (λ i. all (suc i)))

module _ (before after : Store) (rows : List EquivRow) (o : IsOpened before after rows) where
  not_none : (q : List ℕ) → IsSome (after q) → before q ≡ None → ⊥
  not_none q some n = held_none after q (o.left q (inr (inr (inr (inr n)))) ∙ n) some

  -- what isn't under `stamp/` is left
  only_other : (c : ℕ) (rest : List ℕ) → c ≢ 115 → IsSome (after (c ∷ rest)) → IsLeft before (c ∷ rest)
  only_other c rest ne some = elim (o.only (c ∷ rest) some) [
    | inl left ↦ left
    | inr below ↦ absurd (heads_differ ne below.1)
  ]

  only_stamp : IsSome (after (codes "stamp")) → IsLeft before (codes "stamp")
  only_stamp some = elim (o.only (codes "stamp") some) [
    | inl left ↦ left
    | inr below ↦ absurd (no_slash (codes "stamp") below.0 below.1)
  ]

  record_of : (path : List ℕ) → IsSome (after (inside (codes "rec2") path)) → IsLeft before (inside (codes "rec2") path) → slashes path ≡ 0
  record_of path some (inl e) = absurd (e.records (inr (path, refl)))
  record_of path some (inr (inl b)) = let same : path ≡ hash_text b.0.name = (let e = b.2 in cc) in ap slashes same ∙ name_slashes b.0.name (subst IsName (sym (believed_file before b.0 b.1).name) (short_is_name b.0.stored.sig))
  record_of path some (inr (inr (inl k))) = absurd (heads_differ (differ 114 107 refl) k.2)
  record_of path some (inr (inr (inr (inl t)))) = absurd (heads_differ (differ 114 115 refl) t.2)
  record_of path some (inr (inr (inr (inr n)))) = absurd (not_none (inside (codes "rec2") path) some n)

  key_of : (path : List ℕ) → IsSome (after (inside (codes "key") path)) → IsLeft before (inside (codes "key") path) → slashes path ≡ 0
  key_of path some (inl e) = absurd (e.keys (inr (path, refl)))
  key_of path some (inr (inl b)) = absurd (heads_differ (differ 107 114 refl) b.2)
  key_of path some (inr (inr (inl k))) = let same : path ≡ hash_text k.0 = (let e = k.2 in cc) in ap slashes same ∙ name_slashes k.0 (record { size = k.1.size; bytes = hash_bytes k.0.bytes k.1.bytes })
  key_of path some (inr (inr (inr (inl t)))) = absurd (heads_differ (differ 107 115 refl) t.2)
  key_of path some (inr (inr (inr (inr n)))) = absurd (not_none (inside (codes "key") path) some n)

  temporary_of : (path : List ℕ) → IsSome (after (inside (codes "tmp") path)) → IsLeft before (inside (codes "tmp") path) → ⊥
  temporary_of path some (inl e) = e.temporary (inr (path, refl))
  temporary_of path some (inr (inl b)) = heads_differ (differ 116 114 refl) b.2
  temporary_of path some (inr (inr (inl k))) = heads_differ (differ 116 107 refl) k.2
  temporary_of path some (inr (inr (inr (inl t)))) = heads_differ (differ 116 115 refl) t.2
  temporary_of path some (inr (inr (inr (inr n)))) = not_none (inside (codes "tmp") path) some n

  at_of : (top : List ℕ) → (IsElsewhere top → ⊥) → ((rest : List ℕ) → top ≡ inside (codes "rec2") rest → ⊥) → ((rest : List ℕ) → top ≡ inside (codes "key") rest → ⊥) → ((rest : List ℕ) → top ≡ inside (codes "stamp") rest → ⊥) → IsSome (after top) → IsLeft before top → ⊥
  at_of top never not_record not_key not_stamp some (inl e) = never e
  at_of top never not_record not_key not_stamp some (inr (inl b)) = not_record (hash_text b.0.name) b.2
  at_of top never not_record not_key not_stamp some (inr (inr (inl k))) = not_key (hash_text k.0) k.2
  at_of top never not_record not_key not_stamp some (inr (inr (inr (inl t)))) = not_stamp t.0 t.2
  at_of top never not_record not_key not_stamp some (inr (inr (inr (inr n)))) = not_none top some n

  pub laid_out_is : IsLaidOut after
  laid_out_is = record {
    records = λ path some. record_of path some (only_other 114 (101 ∷ 99 ∷ 50 ∷ 47 ∷ path) (differ 114 115 refl) some);
    temporary = λ path some. absurd (temporary_of path some (only_other 116 (109 ∷ 112 ∷ 47 ∷ path) (differ 116 115 refl) some));
    keys = λ path some. key_of path some (only_other 107 (101 ∷ 121 ∷ 47 ∷ path) (differ 107 115 refl) some);
    at_keys = none_unless (after (codes "key")) (λ some. at_of (codes "key") (λ e. e.keys (inl refl)) (λ rest is. heads_differ (differ 107 114 refl) is) (λ rest is. no_slash (codes "key") rest is) (λ rest is. heads_differ (differ 107 115 refl) is) some (only_other 107 (101 ∷ 121 ∷ []) (differ 107 115 refl) some));
    at_records = none_unless (after (codes "rec2")) (λ some. at_of (codes "rec2") (λ e. e.records (inl refl)) (λ rest is. no_slash (codes "rec2") rest is) (λ rest is. heads_differ (differ 114 107 refl) is) (λ rest is. heads_differ (differ 114 115 refl) is) some (only_other 114 (101 ∷ 99 ∷ 50 ∷ []) (differ 114 115 refl) some));
    at_stamps = none_unless (after (codes "stamp")) (λ some. at_of (codes "stamp") (λ e. e.stamps (inl refl)) (λ rest is. heads_differ (differ 115 114 refl) is) (λ rest is. heads_differ (differ 115 107 refl) is) (λ rest is. no_slash (codes "stamp") rest is) some (only_stamp some));
    at_temporary = none_unless (after (codes "tmp")) (λ some. at_of (codes "tmp") (λ e. e.temporary (inl refl)) (λ rest is. heads_differ (differ 116 114 refl) is) (λ rest is. heads_differ (differ 116 107 refl) is) (λ rest is. heads_differ (differ 116 115 refl) is) some (only_other 116 (109 ∷ 112 ∷ []) (differ 116 115 refl) some));
  }

  none_after : (q : List ℕ) → before q ≡ None → after q ≡ None
  none_after q none = o.left q (inr (inr (inr (inr none)))) ∙ none

  -- a record that stands behind the opening stood before it
  record_was : (c : Candidate) → IsRecordFile after c → IsRecordFile before c
  record_was c f =
      let some : IsSome (after (record_path c.name)) = subst IsSome (sym f.file) refl in
      let left = only_other 114 (101 ∷ 99 ∷ 50 ∷ 47 ∷ hash_text c.name) (differ 114 115 refl) some in
      record {
        file = sym (o.left (record_path c.name) left) ∙ f.file;
        name = f.name;
        spelled = f.spelled;
        short = f.short;
        key = f.key;
        key_held = record { file = sym (o.left (key_path c.stored.sig.key) (inr (inr (inl (c.stored.sig.key, f.spelled.key, refl))))) ∙ f.key_held.file; digest = f.key_held.digest };
        text = f.text;
      }

  -- what begins as `work` does stays
  work_stays : (rest : List ℕ) → after (119 ∷ rest) ≡ before (119 ∷ rest)
  work_stays rest = o.left (119 ∷ rest) (inl (record {
    records = λ at. elim at [ inl same ↦ heads_differ (differ 119 114 refl) same | inr below ↦ heads_differ (differ 119 114 refl) below.1 ];
    keys = λ at. elim at [ inl same ↦ heads_differ (differ 119 107 refl) same | inr below ↦ heads_differ (differ 119 107 refl) below.1 ];
    stamps = λ at. elim at [ inl same ↦ heads_differ (differ 119 115 refl) same | inr below ↦ heads_differ (differ 119 115 refl) below.1 ];
    temporary = λ at. elim at [ inl same ↦ heads_differ (differ 119 116 refl) same | inr below ↦ heads_differ (differ 119 116 refl) below.1 ];
    objects = heads_differ (differ 119 111 refl);
  }))

  -- a stamp of a task that gave nothing has a way
  way_of : (c : Candidate) → IsRecordFile after c → c.stored.manifest ≡ [] → IsSome (after (stamp_at (inside c.stored.sig.pn c.stored.sig.task))) → (after (codes "work") ≡ None) × (after (work_at c.stored.sig.pn) ≡ None)
  way_of c f empty stamped = (
    none_unless (after (codes "work")) (λ some. never (inl (subst IsSome (work_stays (111 ∷ 114 ∷ 107 ∷ [])) some))),
    none_unless (after (work_at c.stored.sig.pn)) (λ some. never (inr (subst IsSome (work_stays (111 ∷ 114 ∷ 107 ∷ 47 ∷ c.stored.sig.pn)) some))),
  )
    where
      never : IsSome (before (codes "work")) ⊎ IsSome (before (work_at c.stored.sig.pn)) → ⊥
      never way = held_none after (stamp_at (inside c.stored.sig.pn c.stored.sig.task)) (o.blocked (stamp_at (inside c.stored.sig.pn c.stored.sig.task)) (record { candidate = c; file = record_was c f; empty = empty; stamp = refl; way = way })) stamped

  pub has_way : HasWay after × HasNoLitter after
  has_way = (
    record {
      objects = none_unless (after (codes "obj")) (λ some. at_of (codes "obj") (λ e. e.objects refl) (λ rest is. heads_differ (differ 111 114 refl) is) (λ rest is. heads_differ (differ 111 107 refl) is) (λ rest is. heads_differ (differ 111 115 refl) is) some (only_other 111 (98 ∷ 106 ∷ []) (differ 111 115 refl) some));
      stamps = way_of;
    },
    λ q below. none_unless (after q) (λ some.
        let at : IsSome (after (inside (codes "tmp") below.0)) = subst (λ (p : List ℕ). IsSome (after p)) below.1 some in
        temporary_of below.0 at (only_other 116 (109 ∷ 112 ∷ 47 ∷ below.0) (differ 116 115 refl) at)),
  )

  row_held : (d : Candidate) → IsBelievedRecord before d → IsHeld after (row_of_candidate d)
  row_held d b =
      let f = believed_file before d b in
      record {
        known = record {
          stored = d.stored;
          key = f.key;
          is = λ i. record { name = f.name i; pn = d.stored.sig.pn; task = d.stored.sig.task; sig = f.text i; manifest = d.stored.manifest; unihash = d.stored.unihash };
          spelled = f.spelled;
          short = f.short;
          digest = f.key_held.digest;
        };
        held = o.left (record_path d.name) (inr (inl (d, b, refl))) ∙ f.file;
        key_held = o.left (key_path d.stored.sig.key) (inr (inr (inl (d.stored.sig.key, f.spelled.key, refl)))) ∙ f.key_held.file;
      }

  rows_of_places : (places : List ℕ) → ((p : ℕ) (d : Candidate) → Contains places p → slice_get o.candidates p ≡ Some d → IsBelievedRecord before d) → AllByRecursion (IsHeld after) (rows_at o.candidates places)
  rows_of_places [] all = tt
  rows_of_places (p ∷ ps) all = by (slice_get o.candidates p) refl (rows_of_places ps (λ k d has at. all k d (suc has.0, omega (arith, has.1), has.2) at))
    where
      by : (x : Option Candidate) → slice_get o.candidates p ≡ x → AllByRecursion (IsHeld after) (rows_at o.candidates ps) → AllByRecursion (IsHeld after) (rows_at o.candidates (p ∷ ps))
      by None e more = rw e more
      by (Some d) e more = rw e (row_held d (all p d (0, omega arith, refl) e), more)

  pub rows_held : AllByRecursion (IsHeld after) rows
  rows_held = subst (AllByRecursion (IsHeld after)) (sym o.rows_are) (rows_of_places o.places (λ p d has at. left_at before o.candidates o.places o.found o.believed p d at has))

pub is_kept : (before : Store) (story : Story) (rows : List EquivRow) → IsOpened before story.held rows → ((image : Store) → IsImage story image → image ≡ story.held) → IsKept rows story
is_kept before story rows o each = record { laid_out = laid_out_is before story.held rows o; stored = λ image img. subst (λ (i : Store). AllByRecursion (IsHeld i) rows) (sym (each image img)) (rows_held before story.held rows o) }
