-- A key is put, and then a publication is opened.
use Rattle.std.proofs.Common.{◌≡◌, ◌≢◌, ◌∙◌, sym, ap, subst, refl, ℕ, inl, inr, ⊎_elim, true, List, [], ◌∷◌, None}
use Rattle.std.specs.Prelude.{codes, is_none}
use Rattle.std.specs.List.{AllByRecursion}
use Rattle.std.proofs.lemmas.Bool.{false≢true}
use Rattle.tree_model.specs.declared.hash.Hash.{Hash}
use Rattle.tree_model.specs.Hash.{hash_text}
use Rattle.outside_traits.specs.Passes.{Passes}
use Rattle.outside_traits.specs.Store.{Store, slashes}
use Rattle.outside_traits.specs.Story.{IsSound, Story}
use Rattle.outside_traits.proofs.Runs.{passes_so, passes_then}
use Rattle.meta_model.specs.CleanBuild.{Entries}
use Rattle.store_model.specs.declared.signature.EquivRow.{EquivRow}
use Rattle.store_model.specs.Available.{task_folder}
use Rattle.store_model.specs.Paths.{key_path, record_path}
use Rattle.store_model.specs.Publication.{stamp_at, Publication}
use Rattle.store_model.specs.Readable.{IsRow}
use Rattle.store_model.specs.Signatures.{Signed}
use Rattle.store_model.specs.Spelling.{name_of, signature_bytes}
use Rattle.record_move.specs.Known.{key_named}
use Rattle.store_opening.proofs.Areas.{differ, heads_differ}
use Rattle.build_store.specs.declared.pieces.OpenPublication.{OpenPublication}
use Rattle.build_store.specs.Halves.{AreApart}
use Rattle.build_store.specs.Keys.{KnowsKeyOf, PutsKey, text_key}
use Rattle.build_store.specs.OpenOnes.{progress_of}
use Rattle.build_store.specs.OpenTasks.{IsOpenOf}
use Rattle.build_store.specs.Pieces.{IsPublishing}
use Rattle.build_store.specs.Publication.{IsUntouched, Publishes, first_publication, object_for, publication, settled}
use Rattle.build_store.specs.Standing.{IsClearOf, IsTidy, KnowsOpen, Stands}
use Rattle.build_store.specs.View.{open_in, opened_at}
use Rattle.build_store.proofs.Beside.{IsFreeOf, apart_of, free_by}
use Rattle.build_store.proofs.GoingRuns.{foreign_settled, published_first, staged_then}
use Rattle.build_store.proofs.KnownKeys.{one_place}
use Rattle.build_store.proofs.OpenStaying.{open_ones_stay}
use Rattle.build_store.proofs.Rounding.{begins, others_join}
use Rattle.build_store.proofs.Around.{begins_above}
use Rattle.build_store.proofs.Several.{view_others}
use Rattle.build_store.proofs.Texts.{text_key_is}

-- the key of a publication is put, if it is written, and nothing else
pub record KeyOnly (p : Publication) (old new : Store) : Type 0 where
  pub others : (q : List ℕ) → (p.writes_key ≡ true → q ≢ key_path p.key) → new q ≡ old q

module _ (p : Publication) where
  pub key_elsewhere : (i j : Store) (c : ℕ) (rest q : List ℕ) → q ≡ c ∷ rest → c ≢ 107 → KeyOnly p i j → j q ≡ i q
  key_elsewhere i j c rest q is ne only = only.others q (λ writes same. heads_differ ne (sym is ∙ same))

  pub key_publishes : (held i j : Store) → KeyOnly p i j → IsPublishing p held i j
  key_publishes held i j only = record {
    own = record {
      others = λ q foreign. only.others q foreign.key;
      stored = inl (key_elsewhere i j 114 (101 ∷ 99 ∷ 50 ∷ 47 ∷ hash_text p.name) (record_path p.name) refl (differ 114 107 refl) only);
      honest = inl (record { stamp = stamp p.folder; work = λ q at. let b = begins 119 (111 ∷ 114 ∷ 107 ∷ []) q at in key_elsewhere i j 119 b.0 q b.1 (differ 119 107 refl) only });
    };
    others = record {
      stamps = λ other w. stamp other;
      top = λ none. key_elsewhere i j 115 (116 ∷ 97 ∷ 109 ∷ 112 ∷ []) (codes "stamp") refl (differ 115 107 refl) only;
      work = λ q at apart. let b = begins 119 (111 ∷ 114 ∷ 107 ∷ []) q at in key_elsewhere i j 119 b.0 q b.1 (differ 119 107 refl) only;
      objects = λ q at apart. let b = begins 111 (98 ∷ 106 ∷ []) q at in key_elsewhere i j 111 b.0 q b.1 (differ 111 107 refl) only;
      above_work = λ q up none. let b = begins_above 119 (111 ∷ 114 ∷ 107 ∷ 47 ∷ p.folder) q (differ 119 47 refl) up in key_elsewhere i j 119 b.0 q b.1 (differ 119 107 refl) only;
      above_object = λ unihash is q up none. let b = begins_above 111 (98 ∷ 106 ∷ 47 ∷ hash_text unihash) q (differ 111 47 refl) up in key_elsewhere i j 111 b.0 q b.1 (differ 111 107 refl) only;
    };
    staged = record {
      temporary = λ q below a b c. key_elsewhere i j 116 (109 ∷ 112 ∷ 47 ∷ below.0) q below.1 (differ 116 107 refl) only;
      records = λ q below ne. key_elsewhere i j 114 (101 ∷ 99 ∷ 50 ∷ 47 ∷ below.0) q below.1 (differ 114 107 refl) only;
      keys = λ q below ne. only.others q ne;
    };
  }
    where
      stamp : (folder : List ℕ) → j (stamp_at folder) ≡ i (stamp_at folder)
      stamp folder = key_elsewhere i j 115 (116 ∷ 97 ∷ 109 ∷ 112 ∷ 47 ∷ folder) (stamp_at folder) refl (differ 115 107 refl) only

  untouched_then : (i j k : Store) → KeyOnly p i j → IsUntouched p.folder j k → IsUntouched p.folder i k
  untouched_then i j k only was = record {
    stamp = was.stamp ∙ key_elsewhere i j 115 (116 ∷ 97 ∷ 109 ∷ 112 ∷ 47 ∷ p.folder) (stamp_at p.folder) refl (differ 115 107 refl) only;
    work = λ q at. was.work q at ∙ (let b = begins 119 (111 ∷ 114 ∷ 107 ∷ []) q at in key_elsewhere i j 119 b.0 q b.1 (differ 119 107 refl) only);
  }

  own_then : (i j k : Store) → KeyOnly p i j → Publishes (settled p) j k → Publishes p i k
  own_then i j k only s = record {
    others = λ q foreign. s.others q (foreign_settled p q foreign) ∙ only.others q foreign.key;
    stored = ⊎_elim (λ same. inl (same ∙ key_elsewhere i j 114 (101 ∷ 99 ∷ 50 ∷ 47 ∷ hash_text p.name) (record_path p.name) refl (differ 114 107 refl) only)) (λ new. inr new) s.stored;
    honest = ⊎_elim (λ was. inl (untouched_then i j k only was)) (λ w. inr (⊎_elim (λ gone. inl gone) (λ all. inr (published_first p k all)) w)) s.honest;
  }

  -- first the key, then the rest
  pub key_then : {a b c : Story} → Passes a b (KeyOnly p) → Passes b c (IsPublishing (settled p) b.held) → Passes a c (IsPublishing p a.held)
  key_then {a} {b} first second = passes_then (IsPublishing p a.held) first second (λ i j only. key_publishes a.held i j only) (λ i j k only s. record {
    own = own_then i j k only s.own;
    others = others_join p.folder p.object a.held b.held i j k (key_publishes a.held a.held b.held first.held).others (key_publishes a.held i j only).others s.others;
    staged = staged_then p i j k (key_publishes a.held i j only).staged s.staged;
  })

  pub key_run : {a b : Story} → Passes a b (KeyOnly p) → Passes a b (IsPublishing p a.held)
  key_run {a} run = passes_so (IsPublishing p a.held) run (λ i j only. key_publishes a.held i j only)

  -- nothing is staged by it, and stamps stay
  pub key_tidy : (xs : List OpenPublication) (a b : Story) → Passes a b (KeyOnly p) → IsTidy xs a → IsTidy xs b
  key_tidy xs a b run was = record {
    litter = λ q below. ⊎_elim (λ none. inl (key_elsewhere a.held b.held 116 (109 ∷ 112 ∷ 47 ∷ below.0) q below.1 (differ 116 107 refl) run.held ∙ none)) (λ staged. inr staged) (was.litter q below);
    settled = λ folder single none image img.
        let w = run.now image img in
        key_elsewhere w.0 image 115 (116 ∷ 97 ∷ 109 ∷ 112 ∷ 47 ∷ folder) (stamp_at folder) refl (differ 115 107 refl) w.2 ∙ was.settled folder single none w.0 w.1
        ∙ sym (key_elsewhere a.held b.held 115 (116 ∷ 97 ∷ 109 ∷ 112 ∷ 47 ∷ folder) (stamp_at folder) refl (differ 115 107 refl) run.held);
  }

-- ---- of a task

module _ (keys : List (List ℕ)) (rows : List EquivRow) (s : Signed) (tree : Entries) where
  only_first : (i j : Store) → PutsKey keys (signature_bytes s.sig) i j → KeyOnly (first_publication keys rows s tree) i j
  only_first i j puts = record {
    others = λ q ne. puts.others q (λ none same. ne (ap (λ (h : Hash). is_none (key_named keys h)) (sym (text_key_is s.sig)) ∙ none) (same ∙ ap key_path (text_key_is s.sig)));
  }

  puts_first : {a b : Story} → Passes a b (PutsKey keys (signature_bytes s.sig)) → Passes a b (KeyOnly (first_publication keys rows s tree))
  puts_first run = passes_so (KeyOnly (first_publication keys rows s tree)) run only_first

  pub puts_text : {text : List ℕ} → text ≡ signature_bytes s.sig → {a b : Story} → Passes a b (PutsKey keys text) → Passes a b (KeyOnly (first_publication keys rows s tree))
  puts_text is {a} {b} run = puts_first (subst (λ (t : List ℕ). Passes a b (PutsKey keys t)) is run)

  module _ (all : AllByRecursion IsRow rows) (two : slashes (task_folder s.task) ≡ 1) where
    apart_first : (other : OpenPublication) (t : Signed) → IsOpenOf rows t other.tree other → IsFreeOf rows s tree other → KnowsKeyOf keys other.sig → AreApart (first_publication keys rows s tree) (publication rows t other.tree)
    apart_first other t of free known =
        let apart = apart_of rows s tree all two other t of free in
        record {
          folders = apart.folders;
          names = apart.names;
          keys = λ writes same.
              let own : key_path (text_key (signature_bytes s.sig)) ≡ key_path (text_key other.sig) = ap key_path (text_key_is s.sig) ∙ same ∙ ap key_path (sym (text_key_is t.sig)) ∙ ap (λ (l : List ℕ). key_path (text_key l)) (sym of.sig) in
              let one : text_key (signature_bytes s.sig) ≡ text_key other.sig = one_place (signature_bytes s.sig) other.sig own in
              false≢true (sym (ap is_none (ap (key_named keys) (sym (text_key_is s.sig) ∙ one) ∙ known)) ∙ writes);
          objects = apart.objects;
        }

    -- others stand as they did
    others_first : (a b : Story) → IsSound a → Passes a b (KeyOnly (first_publication keys rows s tree)) → (xs : List OpenPublication) → AllByRecursion (IsFreeOf rows s tree) xs → KnowsOpen keys xs → AllByRecursion (Stands rows a) xs → AllByRecursion (Stands rows b) xs
    others_first a b sound run [] free known stand = tt
    others_first a b sound run (other ∷ xs) free known stand = (
      record {
        task = stand.0.task;
        on = open_ones_stay (publication rows stand.0.task.signed other.tree) (first_publication keys rows s tree) (progress_of other) a b sound (apart_first other stand.0.task.signed stand.0.task.of free.0 known.0) (key_run (first_publication keys rows s tree) run) stand.0.on;
      },
      others_first a b sound run xs free.1 known.1 stand.1,
    )

    pub others_put : (a b : Story) → IsSound a → Passes a b (KeyOnly (first_publication keys rows s tree)) → (name : Hash) → name ≡ name_of s.sig → (xs : List OpenPublication) → opened_at (open_in xs) (task_folder s.task) ≡ None → AllByRecursion (IsClearOf name (object_for rows s tree)) xs → KnowsOpen keys xs → AllByRecursion (Stands rows a) xs → AllByRecursion (Stands rows b) xs
    others_put a b sound run name is xs closed apart = others_first a b sound run xs (free_by rows s tree name is xs (view_others (task_folder s.task) xs closed) apart)
