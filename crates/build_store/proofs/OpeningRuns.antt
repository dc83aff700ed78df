-- What opening a publication does.
use Rattle.std.proofs.Common.{◌≡◌, ◌∙◌, sym, ap, subst, refl, ℕ, zero, suc, inl, inr, ⊎_elim, List, [], ◌∷◌, ◌++◌, length, drop, map, false, Option, Some, None, arith, append_assoc}
use Rattle.std.specs.Prelude.{codes, Contains, IsSome}
use Rattle.std.proofs.Math.Seq.{drop-append_seam}
use Rattle.tree_model.specs.declared.entry.Entry.{Entry}
use Rattle.tree_model.specs.declared.entry.Entry.TheVariants.{File}
use Rattle.tree_model.specs.declared.hash.Hash.{Hash}
use Rattle.tree_model.specs.Hash.{hash_text}
use Rattle.tree_model.specs.Path.{BeginsWith, IsAtOrBelow, inside}
use Rattle.tree_model.specs.Tree.{entry_at}
use Rattle.outside_traits.specs.Passes.{EachNow, Passes}
use Rattle.outside_traits.specs.Store.{IsAround, IsListing, IsOpen, MakesWay, Store}
use Rattle.outside_traits.specs.Story.{IsSound, Story}
use Rattle.outside_traits.proofs.Runs.{each_now, passes_at, passes_so, passes_then}
use Rattle.meta_model.specs.CleanBuild.{Entries}
use Rattle.stamp_store.specs.Stamp.{TakesAway, old_path}
use Rattle.store_model.specs.Available.{object_folder}
use Rattle.store_model.specs.Publication.{stamp_at, work_at, Publication}
use Rattle.store_opening.specs.Paths.{IsLaidOut}
use Rattle.store_opening.proofs.Areas.{differ, heads, heads_differ}
use Rattle.build_store.specs.Calls.{IsRound, Opens}
use Rattle.build_store.specs.Items.{Item, removal}
use Rattle.build_store.specs.Noting.{AreFound, IsListed, removals}
use Rattle.build_store.specs.OpenOnes.{MakesRoom, extras}
use Rattle.build_store.specs.Phases.{Lays}
use Rattle.build_store.proofs.Around.{begins_around, far_by_first, not_round}
use Rattle.build_store.proofs.Phasing.{laid_lays}

-- ---- what is in the way goes

-- what stands round an object doesn't stand round a work folder
not_both : (folder : List ℕ) (unihash : Hash) (q : List ℕ) → IsAround (work_at folder) q → IsAround (object_folder unihash) q → ⊥
not_both folder unihash q work object =
    let a = begins_around 119 (111 ∷ 114 ∷ 107 ∷ 47 ∷ folder) q (differ 119 47 refl) work in
    let b = begins_around 111 (98 ∷ 106 ∷ 47 ∷ hash_text unihash) q (differ 111 47 refl) object in
    differ 119 111 refl (heads (sym a.1 ∙ b.1))

pub room_same : (p : Publication) (held i : Store) → MakesRoom p held i i
room_same p held i = record { others = λ q out. refl; round = λ q round none. refl }

pub room_by_work : (p : Publication) (held i j : Store) → MakesWay (work_at p.folder) held i j → MakesRoom p held i j
room_by_work p held i j way = record {
  others = λ q out. way.others q (λ at. out (inl at));
  round = by;
}
  where
    by : (q : List ℕ) → IsRound p q → held q ≡ None → j q ≡ i q
    by q (inl at) none = way.around q at none
    by q (inr w) none = way.others q (λ at. not_both p.folder w.0 q at w.2)

pub room_by_object : (p : Publication) (unihash : Hash) → p.object ≡ Some unihash → (held i j : Store) → MakesWay (object_folder unihash) held i j → MakesRoom p held i j
room_by_object p unihash is held i j way = record {
  others = λ q out. way.others q (λ at. out (inr (unihash, is, at)));
  round = by;
}
  where
    by : (q : List ℕ) → IsRound p q → held q ≡ None → j q ≡ i q
    by q (inl at) none = way.others q (λ round. not_both p.folder unihash q at round)
    by q (inr w) none =
        let k : Some w.0 ≡ Some unihash = sym w.1 ∙ is in
        let same : w.0 ≡ unihash = cc in
        way.around q (subst (λ (u : Hash). IsAround (object_folder u) q) same w.2) none

pub room_then : (p : Publication) {a b c : Story} → Passes a b (MakesRoom p a.held) → Passes b c (MakesRoom p b.held) → Passes a c (MakesRoom p a.held)
room_then p {a} {b} {c} first second = passes_then (MakesRoom p a.held) first second (λ i j r. r) (λ i j k r s. record {
  others = λ q out. s.others q out ∙ r.others q out;
  round = λ q round none. s.round q round (first.held.round q round none ∙ none) ∙ r.round q round none;
})

-- a work folder stays open as an object's is opened
pub open_stays : (folder : List ℕ) (unihash : Hash) (held i j : Store) → MakesWay (object_folder unihash) held i j → IsOpen (work_at folder) i → IsOpen (work_at folder) j
open_stays folder unihash held i j way was = record {
  at = way.others (work_at folder) (λ round. not_both folder unihash (work_at folder) (inl refl) round) ∙ was.at;
  above = λ q up. way.others q (λ round. not_both folder unihash q (inr up) round) ∙ was.above q up;
}

-- ---- opening

module _ (p : Publication) where
  abbrev NoStamp : Store → Type 0
  NoStamp i = i (stamp_at p.folder) ≡ None

  stamp_not_round : IsRound p (stamp_at p.folder) → ⊥
  stamp_not_round round = far_by_first p 115 (116 ∷ 97 ∷ 109 ∷ 112 ∷ 47 ∷ p.folder) (stamp_at p.folder) refl (differ 115 119 refl) (differ 115 111 refl) round

  opens_aside : (held i j : Store) → TakesAway p.folder i j → Opens p held i j
  opens_aside held i j takes = record {
    others = λ q stamp old out. takes.others q stamp old;
    round = λ q round none. takes.others q
        (λ same. far_by_first p 115 (116 ∷ 97 ∷ 109 ∷ 112 ∷ 47 ∷ p.folder) q same (differ 115 119 refl) (differ 115 111 refl) round)
        (λ same. far_by_first p 116 (109 ∷ 112 ∷ 47 ∷ 111 ∷ 108 ∷ 100 ∷ 47 ∷ p.folder) q same (differ 116 119 refl) (differ 116 111 refl) round);
    honest = ⊎_elim (λ same. inl (record { stamp = same; work = work })) (λ gone. inr gone) takes.source;
  }
    where
      work : (q : List ℕ) → IsAtOrBelow (codes "work") q → j q ≡ i q
      work q (inl at) = ap j at ∙ takes.others (codes "work") (heads_differ (differ 119 115 refl)) (heads_differ (differ 119 116 refl)) ∙ ap i (sym at)
      work q (inr below) = ap j below.1 ∙ takes.others (inside (codes "work") below.0) (heads_differ (differ 119 115 refl)) (heads_differ (differ 119 116 refl)) ∙ ap i (sym below.1)

  opens_room : (held then' i j k : Store) → ((q : List ℕ) → IsRound p q → held q ≡ None → then' q ≡ None) → Opens p held i j → NoStamp j → MakesRoom p then' j k → Opens p held i k
  opens_room held then' i j k still was none room = record {
    others = λ q stamp old out. room.others q out ∙ was.others q stamp old out;
    round = λ q round free. room.round q round (still q round free) ∙ was.round q round free;
    honest = inr (room.others (stamp_at p.folder) stamp_not_round ∙ none);
  }

  pub aside_opens : {a b : Story} → Passes a b (TakesAway p.folder) → Passes a b (Opens p a.held)
  aside_opens {a} run = passes_so (Opens p a.held) run (opens_aside a.held)

  pub room_opens : {a b c : Story} → IsSound b → Passes a b (TakesAway p.folder) → EachNow b NoStamp → Passes b c (MakesRoom p b.held) → Passes a c (Opens p a.held)
  room_opens {a} {b} {c} sound aside gone room =
      let first = aside_opens aside in
      passes_at NoStamp (Opens p a.held) sound gone first room (λ i j r. r)
      (λ i j k r none s. opens_room a.held b.held i j k (λ q round free. first.held.round q round free ∙ free) r none s)

  pub room_gone : {b c : Story} → EachNow b NoStamp → Passes b c (MakesRoom p b.held) → EachNow c NoStamp
  room_gone {b} {c} gone room = each_now NoStamp NoStamp gone room (λ i j none r. r.others (stamp_at p.folder) stamp_not_round ∙ none)

  pub room_laid : {b c : Story} → Passes b c (MakesRoom p b.held) → IsLaidOut b.held → IsLaidOut c.held
  room_laid {b} {c} room laid = laid_lays p.folder p.object b.held c.held lays laid
    where
      lays : Lays p.folder p.object b.held c.held
      lays = record {
        others = λ q work objects. room.held.others q (λ round. elim round [
          | inl at ↦ not_round (work_at p.folder) q work at
          | inr w ↦ not_round (object_folder w.0) q (objects w.0 w.1) w.2
        ]);
      }

-- where nothing was held at the old stamp's path, nothing is, as what is in the way goes
pub room_swept : (p : Publication) {b c : Story} → Passes b c (MakesRoom p b.held) → c.held (old_path p.folder) ≡ b.held (old_path p.folder)
room_swept p room = room.held.others (old_path p.folder) (λ round. far_by_first p 116 (109 ∷ 112 ∷ 47 ∷ 111 ∷ 108 ∷ 100 ∷ 47 ∷ p.folder) (old_path p.folder) refl (differ 116 119 refl) (differ 116 111 refl) round)

-- ---- what is noted

listed_in : (paths : List (List ℕ)) (q : List ℕ) → Contains paths q → IsListed paths q
listed_in [] q has = let lt = has.1 in absurd (omega (arith, lt))
listed_in (x ∷ paths) q (zero, lt, is) = inl is
listed_in (x ∷ paths) q (suc k, lt, is) = inr (listed_in paths q (k, omega (arith, lt), is))

contained : (paths : List (List ℕ)) (q : List ℕ) → IsListed paths q → Contains paths q
contained [] q listed = absurd listed
contained (x ∷ paths) q (inl same) = (0, omega arith, same)
contained (x ∷ paths) q (inr listed) = let w = contained paths q listed in let lt = w.1 in (suc w.0, omega (arith, lt), w.2)

listed_map : (f : List ℕ → List ℕ) (paths : List (List ℕ)) (q : List ℕ) → IsListed paths q → IsListed (map f paths) (f q)
listed_map f [] q listed = absurd listed
listed_map f (x ∷ paths) q (inl same) = inl (ap f same)
listed_map f (x ∷ paths) q (inr listed) = inr (listed_map f paths q listed)

listed_back : (f : List ℕ → List ℕ) (paths : List (List ℕ)) (r : List ℕ) → IsListed (map f paths) r → (q : List ℕ) × IsListed paths q × (f q ≡ r)
listed_back f [] r listed = absurd listed
listed_back f (x ∷ paths) r (inl same) = (x, inl refl, same)
listed_back f (x ∷ paths) r (inr listed) = let w = listed_back f paths r listed in (w.0, inr w.1, w.2)

module _ (folder : List ℕ) where
  abbrev pub front : List ℕ
  front = inside folder []

  abbrev pub rest_of : List ℕ → List ℕ
  rest_of path = drop (length front) path

  at_rest : (rest : List ℕ) → rest_of (front ++ rest) ≡ rest
  at_rest rest = drop-append_seam front rest

  whole : (rest : List ℕ) → front ++ rest ≡ inside folder rest
  whole rest = append_assoc folder (47 ∷ []) rest

  back : (path : List ℕ) → BeginsWith front path → inside folder (rest_of path) ≡ path
  back path begins = ap (λ (l : List ℕ). inside folder (rest_of l)) begins.1 ∙ ap (inside folder) (at_rest begins.0) ∙ sym (whole begins.0) ∙ sym begins.1

  pub extras_are : (tree : Entries) (paths : List (List ℕ)) → ((q : List ℕ) → IsListed paths q → BeginsWith front q) → map removal (extras front tree paths) ≡ removals folder tree (map rest_of paths)
  extras_are tree [] each = refl
  extras_are tree (x ∷ paths) each = by (entry_at tree (rest_of x)) refl (extras_are tree paths (λ q listed. each q (inr listed)))
    where
      by : (o : Option Entry) → entry_at tree (rest_of x) ≡ o → map removal (extras front tree paths) ≡ removals folder tree (map rest_of paths) → map removal (extras front tree (x ∷ paths)) ≡ removals folder tree (map rest_of (x ∷ paths))
      by None e more = simp e (ap (λ (l : List Item). removal x ∷ l) more ∙ ap (λ (q : List ℕ). removal q ∷ removals folder tree (map rest_of paths)) (sym (back x (each x (inl refl)))))
      by (Some y) e more = simp e more

  pub found_by : (paths : List (List ℕ)) (held : Store) → IsListing front held paths → AreFound folder (map rest_of paths) held
  found_by paths held listing = record {
    listed = λ path some.
        let at = listing.all (inside folder path) (path, sym (whole path)) some in
        subst (IsListed (map rest_of paths)) (ap rest_of (sym (whole path)) ∙ at_rest path) (listed_map rest_of paths (inside folder path) (listed_in paths (inside folder path) at));
    are_held = λ path listed.
        let w = listed_back rest_of paths path listed in
        let is = listing.are_held w.0 (contained paths w.0 w.1) in
        subst (λ (q : List ℕ). IsSome (held q)) (sym (back w.0 is.0) ∙ ap (inside folder) w.2) is.1;
  }

  pub begins_by : (paths : List (List ℕ)) (held : Store) → IsListing front held paths → (q : List ℕ) → IsListed paths q → BeginsWith front q
  begins_by paths held listing q listed = (listing.are_held q (contained paths q listed)).0

-- ---- answers of the functions

-- a publication with these folders
abbrev pub any_of : List ℕ → Option Hash → Publication
any_of folder object = record { folder = folder; name = record { bytes = [] }; file = File false []; is_new = false; tree = []; object = object; key = record { bytes = [] }; key_file = File false []; writes_key = false }
