-- What a store keeps, through the calls that leave its open publications alone.
use Rattle.std.proofs.Common.{◌≡◌, ◌∙◌, ℕ, sym, ap, subst, refl, Bool, true, false, List, [], ◌∷◌, None, inl, inr}
use Rattle.std.specs.Prelude.{MatchBool}
use Rattle.std.specs.Bool.{OnFalse}
use Rattle.std.specs.List.{AllByRecursion}
use Rattle.outside_traits.specs.Passes.{EachNow, Passes, Same}
use Rattle.outside_traits.specs.Story.{IsSound, Story}
use Rattle.outside_traits.proofs.Runs.{each_now, passes_so}
use Rattle.store_model.specs.declared.signature.EquivRow.{EquivRow}
use Rattle.store_model.specs.Available.{task_folder}
use Rattle.store_model.specs.Opened.{HasNoLitter}
use Rattle.outside_traits.specs.Store.{slashes, Store}
use Rattle.store_model.specs.Publication.{stamp_at, Publication}
use Rattle.store_model.specs.Readable.{IsHeld}
use Rattle.store_model.specs.Signatures.{Signed}
use Rattle.store_model.specs.Spelling.{name_of}
use Rattle.store_opening.specs.Paths.{IsLaidOut}
use Rattle.store_opening.specs.Sound.{IsKept}
use Rattle.build_store.specs.declared.pieces.OpenPublication.{OpenPublication}
use Rattle.std.proofs.lemmas.Bool.{false≢true}
use Rattle.tree_model.specs.Hash.{hash_text}
use Rattle.store_model.specs.Paths.{key_path}
use Rattle.build_store.specs.Calls.{KeepsAround}
use Rattle.build_store.specs.Keys.{HoldsKeys}
use Rattle.build_store.specs.Pieces.{IsPublishing}
use Rattle.build_store.specs.Publication.{HasNoObject, IsRestored, KeepsOthers}
use Rattle.build_store.specs.Standing.{AddsNoLitter, AreOpen, IsTidy}
use Rattle.build_store.specs.View.{NothingOpen, open_in}
use Rattle.build_store.proofs.Tidy.{tidy_restored, tidy_same}
use Rattle.meta_model.proofs.Bools.{text_itself}
use Rattle.std.specs.Str.{bytes_eq}

pub kept_looked : (rows : List EquivRow) (a b : Story) → Passes a b Same → IsKept rows a → IsKept rows b
kept_looked rows a b run was = record {
  laid_out = subst IsLaidOut (sym run.held) was.laid_out;
  stored = each_now (λ i. AllByRecursion (IsHeld i) rows) (λ j. AllByRecursion (IsHeld j) rows) was.stored run (λ i j held same. subst (λ (h : Store). AllByRecursion (IsHeld h) rows) (sym same) held);
}

-- known keys are held still
pub keys_looked : (keys : List (List ℕ)) (a b : Story) → Passes a b Same → HoldsKeys keys a.held → HoldsKeys keys b.held
keys_looked keys a b run was = subst (λ (h : Store). HoldsKeys keys h) (sym run.held) was

pub keys_around : (keys : List (List ℕ)) (folder : List ℕ) (a b : Story) → Passes a b (KeepsAround folder a.held) → HoldsKeys keys a.held → HoldsKeys keys b.held
keys_around keys folder a b run was = λ name key found. run.held.own.keys (key_path name) (hash_text name, refl) ∙ was name key found

pub keys_published : (keys : List (List ℕ)) (p : Publication) (a b : Story) → p.writes_key ≡ false → Passes a b (IsPublishing p a.held) → HoldsKeys keys a.held → HoldsKeys keys b.held
keys_published keys p a b unwritten run was = λ name key found. run.held.staged.keys (key_path name) (hash_text name, refl) (λ writes. absurd (false≢true (sym unwritten ∙ writes))) ∙ was name key found

-- with nothing open
pub none_stand : (rows : List EquivRow) → AreOpen rows []
none_stand rows = record { tasks = tt; beside = tt }

pub none_tidy : (story : Story) → HasNoLitter story.held → EachNow story (λ image. image ≡ story.held) → IsTidy [] story
none_tidy story clean durable = record {
  litter = λ q below. inl (clean q below);
  settled = λ folder single none image img. ap (λ (h : Store). h (stamp_at folder)) (durable image img);
}

-- where nothing is open nothing is held under `tmp/`
pub clean_by : (xs : List OpenPublication) (story : Story) → IsTidy xs story → xs ≡ [] → HasNoLitter story.held
clean_by xs story tidy none q below = by (subst (λ (l : List OpenPublication). IsTidy l story) none tidy)
  where
    by : IsTidy [] story → story.held q ≡ None
    by was = elim (was.litter q below) [ inl none ↦ none | inr staged ↦ absurd staged ]

-- behind a restoring
pub restored_tidy : (rows : List EquivRow) (s : Signed) (held : Store) (xs : List OpenPublication) (a b : Story) (found : Bool) → slashes (task_folder s.task) ≡ 1 → IsSound b → IsTidy xs a → AddsNoLitter a.held b.held → Passes a b (KeepsAround (task_folder s.task) a.held) →
    MatchBool found (EachNow b (IsRestored held rows s)) (HasNoObject held rows s) → OnFalse found (Passes a b Same) → IsTidy xs b
restored_tidy rows s held xs a b true two sound was adds run restored looked =
    tidy_restored xs a b was (task_folder s.task) (name_of s.sig) two sound adds (passes_so (KeepsOthers (task_folder s.task) None a.held) run (λ i j w. w.others)) (λ image img. (restored image img).published.stamp)
restored_tidy rows s held xs a b false two sound was adds run restored looked = tidy_same xs a b was looked

pub nothing_of : (xs : List OpenPublication) → NothingOpen (open_in xs) → xs ≡ []
nothing_of [] none = refl
nothing_of (x ∷ xs) none =
    let t : bytes_eq x.folder x.folder ≡ true = text_itself x.folder in
    let n = rw t at (none x.folder) in
    absurd (cc)
