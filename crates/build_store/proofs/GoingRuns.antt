-- An open publication goes on.
use Rattle.std.proofs.lemmas.Bool.{false≢true}
use Rattle.std.proofs.Common.{◌≡◌, ◌≢◌, ◌∙◌, true, false, ap, subst, refl, ℕ, ◌⊎◌, inl, inr, ⊎_elim, List, [], ◌∷◌, length, drop, None}
use Rattle.std.proofs.Math.Seq.{drop-length}
use Rattle.tree_model.specs.declared.entry.Entry.{Entry}
use Rattle.tree_model.specs.Hash.{hash_text}
use Rattle.tree_model.specs.Path.{inside}
use Rattle.store_model.specs.Paths.{key_path}
use Rattle.store_opening.proofs.Areas.{apart_by_first, differ, heads_differ}
use Rattle.outside_traits.specs.Passes.{EachNow, Passes, Same}
use Rattle.outside_traits.specs.Phases.{kept, stored}
use Rattle.outside_traits.specs.Store.{Store}
use Rattle.outside_traits.specs.Story.{IsSound, Story}
use Rattle.outside_traits.proofs.Calls.{same_so}
use Rattle.outside_traits.proofs.Runs.{passes_at, passes_so}
use Rattle.store_model.specs.Publication.{stamp_at, Publication}
use Rattle.build_store.specs.declared.pieces.OpenPublication.{OpenPublication}
use Rattle.build_store.specs.declared.pieces.Reached.{Reached}
use Rattle.build_store.specs.Calls.{Finishes, KeepsStaged}
use Rattle.build_store.specs.Publication.{IsForeign, IsPublished, Publishes, settled}
use Rattle.build_store.specs.Ending.{IsAt}
use Rattle.build_store.specs.Halves.{IsHalf, IsOn}
use Rattle.build_store.specs.Items.{IsItemOf, Item}
use Rattle.build_store.specs.OpenOnes.{KeepsEntries, Suits, items_of, progress_at, put_by}
use Rattle.build_store.specs.Pieces.{InARow, IsPublishing}
use Rattle.build_store.proofs.Piecing.{finishes_at, finishes_is_publishing}
use Rattle.build_store.proofs.Rounding.{others_join, others_same}
use Rattle.build_store.proofs.StepRuns.{keeps_same, passes_from}
use Rattle.std.specs.List.{AllByRecursion}

-- what is left is the same whatever the record's file is
items_file : (o : OpenPublication) (f e : Entry) (items : List Item) → AllByRecursion (IsItemOf (put_by o f)) items → AllByRecursion (IsItemOf (put_by o e)) items
items_file o f e [] all = tt
items_file o f e (item ∷ items) all = (record { within = all.0.within; work = all.0.work; shared = all.0.shared }, items_file o f e items all.1)

pub half_file : (o : OpenPublication) (f e : Entry) (left : List Item) (a : Story) → IsHalf (put_by o f) left a → IsHalf (put_by o e) left a
half_file o f e left a half = record { unstamped = half.unstamped; items = items_file o f e left half.items; order = half.order; work = half.work; shared = half.shared }

-- nothing changes
publishing_nothing : (p : Publication) (held i : Store) → IsPublishing p held i i
publishing_nothing p held i = record {
  own = record { others = λ q foreign. refl; stored = inl refl; honest = inl (record { stamp = refl; work = λ q at. refl }) };
  others = others_same p.folder p.object held i;
  staged = record { temporary = λ q below a b c. refl; records = λ q below ne. refl; keys = λ q below ne. refl };
}

pub publishing_same : (p : Publication) {a b : Story} → Passes a b Same → Passes a b (IsPublishing p a.held)
publishing_same p {a} run = same_so (IsPublishing p a.held) (publishing_nothing p a.held) run

-- no crash leaves a stamp, and the publication comes to its end
pub finishes_publish : (p : Publication) {a b : Story} → IsSound a → EachNow a (λ image. image (stamp_at p.folder) ≡ None) → Passes a b (Finishes p) → Passes a b (IsPublishing p a.held)
finishes_publish p {a} sound gone run = passes_from (λ i. i (stamp_at p.folder) ≡ None) (IsPublishing p a.held) sound gone run (λ i j none finishes. finishes_is_publishing p a.held i j none finishes)

pub unstamped_at : (p : Publication) (a : Story) (k : ℕ) → IsAt p (kept k) a ⊎ IsAt p (stored k) a → EachNow a (λ image. image (stamp_at p.folder) ≡ None)
unstamped_at p a k (inl is) = is.1
unstamped_at p a k (inr is) = λ image img. (is.1 image img).unstamped

-- with all items done none is left
pub none_left : (p : Publication) (items : List Item) (done : ℕ) (a : Story) → done ≡ length items → IsHalf p (drop done items) a → IsHalf p [] a
none_left p items done a all half = subst (λ (l : List Item). IsHalf p l a) (ap (λ (n : ℕ). drop n items) all ∙ drop-length items) half

-- what holds of what it has reached
pub on_reached : (o : OpenPublication) (now then' : Reached) (p : Publication) (a : Story) → now ≡ then' → IsOn p (progress_at (items_of o) now) a → IsOn p (progress_at (items_of o) then') a
on_reached o now then' p a same on = subst (λ (r : Reached). IsOn p (progress_at (items_of o) r) a) same on

pub suits_reached : (o : OpenPublication) (now then' : Reached) → now ≡ then' → Suits o now → Suits o then'
suits_reached o now then' same suits = subst (Suits o) same suits

-- ---- calls in a row

pub published_settled : (p : Publication) (i : Store) → IsPublished p i → IsPublished (settled p) i
published_settled p i w = record { stamp = w.stamp; stored = w.stored; key = w.key; work = w.work; shared = w.shared }

pub published_first : (p : Publication) (i : Store) → IsPublished (settled p) i → IsPublished p i
published_first p i w = record { stamp = w.stamp; stored = w.stored; key = w.key; work = w.work; shared = w.shared }

pub finishes_settled : (p : Publication) (i j : Store) → Finishes p i j → Finishes (settled p) i j
finishes_settled p i j f = record { others = f.others; stored = f.stored; stamp = ⊎_elim (λ same. inl same) (λ all. inr (published_settled p j all)) f.stamp }

module _ (p : Publication) where
  not_written : {q : List ℕ} → false ≡ true → q ≢ key_path p.key
  not_written bad = absurd (false≢true bad)

  pub foreign_settled : (q : List ℕ) → IsForeign p q → IsForeign (settled p) q
  foreign_settled q f = record { temporary = f.temporary; work = f.work; stamp = f.stamp; stored = f.stored; key = not_written; shared = f.shared }

  foreign_key : IsForeign (settled p) (key_path p.key)
  foreign_key = record {
    temporary = λ below. heads_differ (differ 107 116 refl) below.1;
    work = apart_by_first (101 ∷ 121 ∷ 47 ∷ hash_text p.key) (111 ∷ 114 ∷ 107 ∷ 47 ∷ p.folder) (differ 107 119 refl);
    stamp = apart_by_first (101 ∷ 121 ∷ 47 ∷ hash_text p.key) (116 ∷ 97 ∷ 109 ∷ 112 ∷ 47 ∷ p.folder) (differ 107 115 refl);
    stored = λ new. heads_differ (differ 107 114 refl);
    key = not_written;
    shared = λ unihash is. apart_by_first (101 ∷ 121 ∷ 47 ∷ hash_text p.key) (98 ∷ 106 ∷ 47 ∷ hash_text unihash) (differ 107 111 refl);
  }

  owns_then : (i j k : Store) → Publishes p i j → j (stamp_at p.folder) ≡ None → Publishes (settled p) j k → Publishes p i k
  owns_then i j k r none s = record {
    others = λ q foreign. s.others q (foreign_settled q foreign) ∙ r.others q foreign;
    stored = ⊎_elim (λ same. ⊎_elim (λ as_was. inl (same ∙ as_was)) (λ new. inr (new.0, same ∙ new.1, s.others (key_path p.key) foreign_key ∙ new.2)) r.stored) (λ new. inr new) s.stored;
    honest = ⊎_elim (λ untouched. inr (inl (untouched.stamp ∙ none))) (λ w. inr (⊎_elim (λ gone. inl gone) (λ all. inr (published_first p k all)) w)) s.honest;
  }

  pub staged_then : (i j k : Store) → KeepsStaged p i j → KeepsStaged (settled p) j k → KeepsStaged p i k
  staged_then i j k r s = record {
    temporary = λ q below old stamp file. s.temporary q below old stamp file ∙ r.temporary q below old stamp file;
    records = λ q below ne. s.records q below ne ∙ r.records q below ne;
    keys = λ q below ne. s.keys q below not_written ∙ r.keys q below ne;
  }

pub in_a_row : InARow
in_a_row p a b c sound gone first second = passes_at (λ i. i (stamp_at p.folder) ≡ None) (IsPublishing p a.held) sound gone first second (λ i j r. r) (λ i j k r none s. record {
  own = owns_then p i j k r.own none s.own;
  others = others_join p.folder p.object a.held b.held i j k first.held.others r.others s.others;
  staged = staged_then p i j k r.staged s.staged;
})

-- ---- what is held already stays

finishes_keeps : (p : Publication) (held i j : Store) → Finishes p i j → KeepsEntries p held i j
finishes_keeps p held i j finishes = record {
  work = λ path e at is. let rest = 111 ∷ 114 ∷ 107 ∷ 47 ∷ inside p.folder path in finishes_at p held i j finishes 119 rest (119 ∷ rest) refl (differ 119 116 refl) (differ 119 115 refl) (differ 119 114 refl);
  shared = λ unihash some path e at is. let rest = 98 ∷ 106 ∷ 47 ∷ inside (hash_text unihash) path in finishes_at p held i j finishes 111 rest (111 ∷ rest) refl (differ 111 116 refl) (differ 111 115 refl) (differ 111 114 refl);
}

pub ending_keeps : (p : Publication) {a b : Story} → Passes a b (Finishes p) → Passes a b (KeepsEntries p a.held)
ending_keeps p {a} run = passes_so (KeepsEntries p a.held) run (finishes_keeps p a.held)

pub looking_keeps : (p : Publication) {a b : Story} → Passes a b Same → Passes a b (KeepsEntries p a.held)
looking_keeps p {a} run = same_so (KeepsEntries p a.held) (keeps_same p a.held) run
