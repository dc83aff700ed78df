-- A publication that is opened beside those that are open.
use Rattle.std.proofs.Common.{◌≡◌, ◌≢◌, ◌∙◌, sym, ap, subst, refl, ℕ, ◌||◌, Bool, true, false, List, [], ◌∷◌, ◌++◌, Some, None}
use Rattle.std.specs.List.{AllByRecursion, list_any}
use Rattle.std.specs.Option.{is_some}
use Rattle.std.specs.Str.{bytes_eq}
use Rattle.outside_traits.specs.Passes.{Passes}
use Rattle.outside_traits.specs.Story.{IsSound, Story}
use Rattle.meta_model.specs.CleanBuild.{Entries}
use Rattle.store_model.specs.declared.signature.EquivRow.{EquivRow}
use Rattle.store_model.specs.Available.{task_folder}
use Rattle.outside_traits.specs.Store.{slashes}
use Rattle.store_model.specs.Readable.{IsRow}
use Rattle.store_model.specs.Signatures.{Signed}
use Rattle.tree_model.specs.declared.hash.Hash.{Hash}
use Rattle.build_store.specs.declared.pieces.OpenPublication.{OpenPublication}
use Rattle.build_store.specs.Halves.{IsOn}
use Rattle.build_store.specs.OpenOnes.{AddsOwn, progress_of}
use Rattle.build_store.specs.OpenTasks.{IsOpenOf}
use Rattle.build_store.specs.Openings.{NoneNamed, OpensOne, open_view}
use Rattle.build_store.specs.Pieces.{IsPublishing}
use Rattle.build_store.specs.Publication.{publication}
use Rattle.build_store.specs.Standing.{AreOpen, IsOpenTask, IsTidy, Stands}
use Rattle.build_store.specs.View.{IsSignatureOf, OpenView, open_in, open_view_of, opened_at}
use Rattle.build_store.proofs.Beside.{IsFreeOf, beside_by_free, if_some, others_stand}
use Rattle.build_store.proofs.Several.{beside_last, each_last, view_last, view_last_other}
use Rattle.build_store.proofs.Tidy.{tidy_opened}

-- none of them is in the way
pub not_any : {A : Type 0} (f : A → Bool) (xs : List A) → list_any f xs ≡ false → AllByRecursion (λ x. f x ≡ false) xs
not_any f [] e = tt
not_any f (x ∷ xs) e = by (f x) refl (not_any f xs) e
  where
    by : (b : Bool) → f x ≡ b → (list_any f xs ≡ false → AllByRecursion (λ y. f y ≡ false) xs) → (b || list_any f xs) ≡ false → AllByRecursion (λ y. f y ≡ false) (x ∷ xs)
    by true at more none = absurd (cc)
    by false at more none = (at, more none)

module _ (rows : List EquivRow) (s : Signed) (tree : Entries) (xs : List OpenPublication) (one : OpenPublication) (of : IsOpenOf rows s tree one) where
  pub own : IsOpenOf rows s one.tree one
  own = subst (λ (t : Entries). IsOpenOf rows s t one) (sym of.gave) of

  pub view_is : open_view_of one ≡ open_view s tree
  view_is = (λ i. record { folder = of.folder i; name = of.name i; sig = of.sig i; shared = shared_is i; tree = of.gave i })
    where
      shared_is : is_some one.object ≡ s.task.sstate
      shared_is = ap is_some of.object ∙ if_some s.task.sstate _

  pub opens_one : opened_at (open_in xs) (task_folder s.task) ≡ None → OpensOne (task_folder s.task) (open_view s tree) (open_in xs) (open_in (xs ++ one ∷ []))
  opens_one closed = record {
    none = closed;
    is_open = view_last (task_folder s.task) xs one closed of.folder ∙ ap (λ v. Some v) view_is;
    others = λ beside ne. view_last_other beside xs one (λ e. ne (sym e ∙ of.folder));
  }

  module _ (free : AllByRecursion (IsFreeOf rows s tree) xs) where
    pub stand_opened : IsSignatureOf s.task s.sig → AreOpen rows xs → AreOpen rows (xs ++ one ∷ [])
    stand_opened named stand = record {
      tasks = each_last (IsOpenTask rows) xs one stand.tasks (record { signed = s; of = own; named = named });
      beside = beside_last xs one (beside_by_free rows one s own xs (subst (λ (t : Entries). AllByRecursion (IsFreeOf rows s t) xs) (sym of.gave) free)) stand.beside;
    }

    pub on_opened : AllByRecursion IsRow rows → slashes (task_folder s.task) ≡ 1 → IsSignatureOf s.task s.sig → (a b : Story) → IsSound a → Passes a b (IsPublishing (publication rows s tree) a.held) → IsOn (publication rows s tree) (progress_of one) b →
        AllByRecursion (Stands rows a) xs → AllByRecursion (Stands rows b) (xs ++ one ∷ [])
    on_opened all two named a b sound run on stand = each_last (Stands rows b) xs one (others_stand rows s tree all two a b sound run xs free stand)
        (record { task = record { signed = s; of = own; named = named }; on = subst (λ (t : Entries). IsOn (publication rows s t) (progress_of one) b) (sym of.gave) on })

  pub tidy_beside : (a b : Story) → AddsOwn one a.held b.held → Passes a b (IsPublishing (publication rows s tree) a.held) → IsTidy xs a → IsTidy (xs ++ one ∷ []) b
  tidy_beside a b adds run was = tidy_opened xs one (publication rows s tree) a b of.fit.parts (sym of.folder) adds run was

-- those that are open have other names
module _ (name : Hash) (folder : List ℕ) (view : OpenView) where
  named_by : (b : Bool) (one : OpenPublication) (ys : List OpenPublication) → bytes_eq one.folder folder ≡ b → one.name ≢ name → (opened_at (open_in ys) folder ≡ Some view → view.name ≢ name) → opened_at (open_in (one ∷ ys)) folder ≡ Some view → view.name ≢ name
  named_by true one ys at ne more e = let found : Some (open_view_of one) ≡ Some view = rw at at e in let same : open_view_of one ≡ view = cc in (λ n. ne (ap (λ (v : OpenView). v.name) same ∙ n))
  named_by false one ys at ne more e = more (rw at at e)

  named_all : (ys : List OpenPublication) → AllByRecursion (λ (one : OpenPublication). one.name ≢ name) ys → opened_at (open_in ys) folder ≡ Some view → view.name ≢ name
  named_all [] all e = absurd (cc)
  named_all (y ∷ ys) all e = named_by (bytes_eq y.folder folder) y ys refl all.0 (named_all ys all.1) e

pub none_named : (name : Hash) (xs : List OpenPublication) → AllByRecursion (λ (one : OpenPublication). one.name ≢ name) xs → NoneNamed (open_in xs) name
none_named name xs all folder view at = named_all name folder view xs all at
