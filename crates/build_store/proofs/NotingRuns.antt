-- What is noted of the folders of a publication.
use Rattle.std.proofs.Common.{◌≡◌, ◌∙◌, sym, ap, subst, refl, ℕ, ◌+◌, ◌<◌, ◌^◌, List, [], ◌∷◌, ◌++◌, length, get_or, take, drop, map, cond, Bool, All, Option, Some, None, arith, append_assoc, append-nil}
use Rattle.std.specs.Prelude.{is_none}
use Rattle.std.proofs.Math.Seq.{drop-append_seam}
use Rattle.std.proofs.lemmas.List.Elements.{Contains-get_or, filter_more}
use Rattle.tree_model.specs.declared.hash.Hash.{Hash}
use Rattle.tree_model.specs.Path.{BeginsWith, inside}
use Rattle.tree_model.specs.Tree.{IsTree, entry_at}
use Rattle.outside_traits.specs.Passes.{EachNow}
use Rattle.outside_traits.specs.Store.{IsListing, IsOpen, Store}
use Rattle.outside_traits.specs.Story.{Story}
use Rattle.meta_model.specs.CleanBuild.{Entries}
use Rattle.store_model.specs.Available.{object_folder}
use Rattle.store_model.specs.Publication.{stamp_at, work_at, Publication}
use Rattle.build_store.specs.Halves.{IsHalf}
use Rattle.build_store.specs.Items.{Item, removal}
use Rattle.build_store.specs.Noting.{AreFound, AreNoted, items_with, removals, writings}
use Rattle.build_store.specs.OpenOnes.{NotesIn, extras, items_by, shared_writings}
use Rattle.build_store.proofs.ItemPlaces.{few_shared, length_items}
use Rattle.build_store.proofs.Noting.{noted_is_half}
use Rattle.build_store.proofs.OpeningRuns.{begins_by, extras_are, found_by, rest_of}

map_joined : (xs ys : List (List ℕ)) → map removal (xs ++ ys) ≡ map removal xs ++ map removal ys
map_joined [] ys = refl
map_joined (x ∷ xs) ys = ap (λ (l : List Item). removal x ∷ l) (map_joined xs ys)

all_begin : (prefix : List ℕ) (held : Store) (paths : List (List ℕ)) → IsListing prefix held paths → All (BeginsWith prefix) paths
all_begin prefix held paths listing = λ k d lt. (listing.are_held (get_or paths k d) (Contains-get_or paths k d lt)).0

pub noted_by : (folder prefix : List ℕ) (tree : Entries) (held : Store) (paths before after : List (List ℕ)) → prefix ≡ inside folder [] → IsListing prefix held paths → (All (BeginsWith prefix) paths → after ≡ before ++ extras prefix tree paths) → NotesIn folder tree held before after
noted_by folder prefix tree held paths before after is listing added =
    let own : IsListing (inside folder []) held paths = subst (λ (q : List ℕ). IsListing q held paths) is listing in
    let e : after ≡ before ++ extras (inside folder []) tree paths = added (all_begin prefix held paths listing) ∙ ap (λ (q : List ℕ). before ++ extras q tree paths) is in
    record {
      found = map (rest_of folder) paths;
      are_found = found_by folder paths held own;
      noted = ap (map removal) e ∙ map_joined before (extras (inside folder []) tree paths) ∙ ap (λ (l : List Item). map removal before ++ l) (extras_are folder tree paths (begins_by folder paths held own));
    }

module _ (p : Publication) where
  abbrev works : List Item
  works = writings (work_at p.folder) p.tree

  none_shared : (o : Option Hash) (shared : List (List ℕ)) → o ≡ None → works ++ shared_writings o p.tree ≡ items_with p shared o
  none_shared None shared is = append-nil works
  none_shared (Some other) shared is = absurd (let n : Some other ≡ None = is in cc)

  some_shared : (unihash : Hash) (o : Option Hash) (shared : List (List ℕ)) → o ≡ Some unihash → removals (object_folder unihash) p.tree shared ++ (works ++ shared_writings o p.tree) ≡ items_with p shared o
  some_shared unihash None shared is = absurd (let n : None ≡ Some unihash = is in cc)
  some_shared unihash (Some other) shared is =
      let same : unihash ≡ other = (let n : Some other ≡ Some unihash = is in cc) in
      ap (λ (h : Hash). removals (object_folder h) p.tree shared ++ (works ++ writings (object_folder other) p.tree)) same

  pub noted_none : (extra : List (List ℕ)) (held : Store) → p.object ≡ None → NotesIn (work_at p.folder) p.tree held [] extra → AreNoted p (items_by p extra) held
  noted_none extra held is n = record {
    found = n.found;
    shared = [];
    work = n.are_found;
    objects = λ unihash some. absurd (let e : None ≡ Some unihash = sym is ∙ some in cc);
    are = ap (λ (l : List Item). l ++ (works ++ shared_writings p.object p.tree)) n.noted ∙ ap (λ (l : List Item). removals (work_at p.folder) p.tree n.found ++ l) (none_shared p.object [] is);
  }

  pub noted_some : (unihash : Hash) (middle extra : List (List ℕ)) (held : Store) → p.object ≡ Some unihash → NotesIn (work_at p.folder) p.tree held [] middle → NotesIn (object_folder unihash) p.tree held middle extra → AreNoted p (items_by p extra) held
  noted_some unihash middle extra held is n m = record {
    found = n.found;
    shared = m.found;
    work = n.are_found;
    objects = λ other some. let e : Some unihash ≡ Some other = sym is ∙ some in let same : unihash ≡ other = cc in subst (λ (h : Hash). AreFound (object_folder h) m.found held) same m.are_found;
    are = ap (λ (l : List Item). l ++ (works ++ shared_writings p.object p.tree)) (m.noted ∙ ap (λ (l : List Item). l ++ removals (object_folder unihash) p.tree m.found) n.noted)
        ∙ append_assoc (removals (work_at p.folder) p.tree n.found) (removals (object_folder unihash) p.tree m.found) (works ++ shared_writings p.object p.tree)
        ∙ ap (λ (l : List Item). removals (work_at p.folder) p.tree n.found ++ l) (some_shared unihash p.object m.found is);
  }

  pub noted_half : (items : List Item) (a : Story) → IsTree p.tree → EachNow a (λ image. image (stamp_at p.folder) ≡ None) → IsOpen (work_at p.folder) a.held → ((unihash : Hash) → p.object ≡ Some unihash → IsOpen (object_folder unihash) a.held) → AreNoted p items a.held → IsHalf p items a
  noted_half items a is_tree gone work objects n = subst (λ (l : List Item). IsHalf p l a) (sym n.are)
      (noted_is_half p n.found n.shared a is_tree gone work n.work.listed (λ unihash is. (objects unihash is, (n.objects unihash is).listed)))

-- as many items as a machine's number counts
pub few_items : (folder : List ℕ) (extra : List (List ℕ)) (tree : Entries) (object : Option Hash) → length extra + (length tree + length tree) < 2 ^ 64 → length (map removal extra ++ (writings (work_at folder) tree ++ shared_writings object tree)) < 2 ^ 64
few_items folder extra tree object few = let count = length_items folder extra tree object in let shared = few_shared object tree in omega (arith, few, count, shared)

-- ---- one path after the other

pub extras_next : (prefix : List ℕ) (tree : Entries) (paths : List (List ℕ)) (k : ℕ) (x : List ℕ) → k < length paths → x ≡ get_or paths k x → (rest : List ℕ) → x ≡ prefix ++ rest
    → extras prefix tree (take (k + 1) paths) ≡ extras prefix tree (take k paths) ++ cond (is_none (entry_at tree rest)) (x ∷ []) []
extras_next prefix tree paths k x lt at rest is =
    let p : List ℕ → Bool = λ path. is_none (entry_at tree (drop (length prefix) path)) in
    filter_more p paths k x lt
    ∙ ap (λ (y : List ℕ). extras prefix tree (take k paths) ++ cond (p y) (y ∷ []) []) (sym at)
    ∙ ap (λ (y : List ℕ). extras prefix tree (take k paths) ++ cond (is_none (entry_at tree (drop (length prefix) y))) (x ∷ []) []) is
    ∙ ap (λ (y : List ℕ). extras prefix tree (take k paths) ++ cond (is_none (entry_at tree y)) (x ∷ []) []) (drop-append_seam prefix rest)

-- ---- both folders

pub notes_by : (p : Publication) (folder : List ℕ) (object : Option Hash) (tree : Entries) (middle extra : List (List ℕ)) (ha hb hc : Store) → p.folder ≡ folder → p.object ≡ object → p.tree ≡ tree → hb ≡ ha → hc ≡ hb
    → NotesIn (work_at folder) tree ha [] middle → (object ≡ None → extra ≡ middle) → ((unihash : Hash) → object ≡ Some unihash → NotesIn (object_folder unihash) tree hb middle extra) → AreNoted p (items_by p extra) hc
notes_by p folder object tree middle extra ha hb hc folder_is object_is tree_is first second work none some = subst (AreNoted p (items_by p extra)) (sym (second ∙ first)) (by object object_is none some)
  where
    own : NotesIn (work_at p.folder) p.tree ha [] middle
    own = subst (λ (f : List ℕ). NotesIn (work_at f) p.tree ha [] middle) (sym folder_is) (subst (λ (t : Entries). NotesIn (work_at folder) t ha [] middle) (sym tree_is) work)

    by : (o : Option Hash) → p.object ≡ o → (o ≡ None → extra ≡ middle) → ((unihash : Hash) → o ≡ Some unihash → NotesIn (object_folder unihash) tree hb middle extra) → AreNoted p (items_by p extra) ha
    by None is no' yes' = noted_none p extra ha is (subst (NotesIn (work_at p.folder) p.tree ha []) (sym (no' refl)) own)
    by (Some unihash) is no' yes' = noted_some p unihash middle extra ha is own
        (subst (λ (t : Entries). NotesIn (object_folder unihash) t ha middle extra) (sym tree_is) (subst (λ (h : Store). NotesIn (object_folder unihash) tree h middle extra) first (yes' unihash refl)))
