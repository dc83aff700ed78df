-- A publication's stamp is away until all that it tells of is there.
use Rattle.std.proofs.Common.{◌≡◌, ◌≢◌, ◌∙◌, sym, ap, subst, refl, ℕ, ◌⊎◌, inl, inr, ⊎_elim, List, ◌∷◌, Option, Some, None, Result, Ok, Err, OnOk, true, get_or}
use Rattle.std.specs.Prelude.{codes, IsSome}
use Rattle.std.specs.Option.{is_some}
use Rattle.std.proofs.lemmas.Bool.{false≢true}
use Rattle.tree_model.specs.declared.entry.Entry.{Entry}
use Rattle.tree_model.specs.declared.hash.Hash.{Hash}
use Rattle.tree_model.specs.Hash.{hash_text}
use Rattle.tree_model.specs.Path.{IsAtOrBelow, IsBelow, inside}
use Rattle.outside_traits.specs.declared.fault.DiskFault.{DiskFault}
use Rattle.outside_traits.specs.Store.{HoldsTree, Moves, Store}
use Rattle.outside_traits.specs.Story.{IsImage, IsSound, Story}
use Rattle.outside_traits.specs.Passes.{Passes}
use Rattle.outside_traits.proofs.Runs.{each_now, passes_at, passes_so}
use Rattle.meta_model.specs.CleanBuild.{Entries}
use Rattle.stamp_store.specs.Stamp.{TakesAway, stamp_path, staged_path}
use Rattle.store_model.specs.Available.{object_folder}
use Rattle.store_model.specs.Paths.{key_path, record_path}
use Rattle.store_opening.specs.Paths.{staged_record_path}
use Rattle.build_store.specs.Calls.{FreesStamp}
use Rattle.build_store.specs.Keys.{text_key, text_key_file}
use Rattle.build_store.specs.Phases.{Lays, Stages, put_of}
use Rattle.build_store.specs.Publication.{IsForeign, IsPublished, Publishes}
use Rattle.store_model.specs.Publication.{stamp_at, stamp_file, work_at, Publication}
use Rattle.store_opening.proofs.Areas.{differ, heads_differ, tree_stays}
use Rattle.build_store.proofs.Phasing.{lays_elsewhere}
use Rattle.build_store.proofs.Piecing.{frees_keeps}
use Rattle.build_store.proofs.Rounding.{frees_there}

some_is : (o : Option Entry) → IsSome o → (e : Entry) × (o ≡ Some e)
some_is None some = absurd (false≢true some)
some_is (Some e) some = (e, refl)

-- a path under `tmp/` isn't one of another area
not_temporary : (c : ℕ) (ps : List ℕ) → c ≢ 116 → IsBelow (codes "tmp") (c ∷ ps) → ⊥
not_temporary c ps ne below = heads_differ ne below.1

pub move_keeps : (c d e : ℕ) (ps rs qs : List ℕ) (x : Option Entry) (i j : Store) → c ≢ d → c ≢ e → Moves (d ∷ ps) (e ∷ rs) x i j → j (c ∷ qs) ≡ i (c ∷ qs)
move_keeps c d e ps rs qs x i j from to move = move.others (c ∷ qs) (heads_differ from) (heads_differ to)

module _ (folder : List ℕ) (name : Hash) (tree : Entries) (object : Option Hash) (file : Option Entry) (f : Entry) (text : List ℕ) where
  abbrev P : Publication
  P = put_of folder name tree object file f text

  abbrev NoStamp : Store → Type 0
  NoStamp i = i (stamp_at folder) ≡ None

  -- the stamp is taken away
  by_aside : (i j : Store) → TakesAway folder i j → Publishes P i j
  by_aside i j move = record {
    others = λ q foreign. move.others q foreign.stamp.not_folder (λ same. foreign.temporary (inside (codes "old") folder, same));
    stored = inl (move.others (record_path name) (heads_differ (differ 114 115 refl)) (heads_differ (differ 114 116 refl)));
    honest = ⊎_elim (λ same. inl (record { stamp = same; work = work })) (λ gone. inr (inl gone)) move.source;
  }
    where
      work : (q : List ℕ) → IsAtOrBelow (codes "work") q → j q ≡ i q
      work q (inl at) = ap j at ∙ move.others (codes "work") (heads_differ (differ 119 115 refl)) (heads_differ (differ 119 116 refl)) ∙ ap i (sym at)
      work q (inr below) = ap j below.1 ∙ move.others (inside (codes "work") below.0) (heads_differ (differ 119 115 refl)) (heads_differ (differ 119 116 refl)) ∙ ap i (sym below.1)

  -- what happens while the stamp is away
  pub record IsQuiet (j k : Store) : Type 0 where
    pub others : (q : List ℕ) → IsForeign P q → k q ≡ j q
    pub stored : (k (record_path name) ≡ j (record_path name)) ⊎ ((is_some file ≡ true) × (k (record_path name) ≡ Some f) × (k (key_path (text_key text)) ≡ Some (text_key_file text)))
    pub key : k (key_path (text_key text)) ≡ j (key_path (text_key text))
    pub stamp : k (stamp_at folder) ≡ j (stamp_at folder)

  quiet_lays : (j k : Store) → Lays folder object j k → IsQuiet j k
  quiet_lays j k lays = record {
    others = λ q foreign. lays.others q foreign.work foreign.shared;
    stored = inl (lays_elsewhere folder object j k 114 (101 ∷ 99 ∷ 50 ∷ 47 ∷ hash_text name) (differ 114 119 refl) (differ 114 111 refl) lays);
    key = lays_elsewhere folder object j k 107 (101 ∷ 121 ∷ 47 ∷ hash_text (text_key text)) (differ 107 119 refl) (differ 107 111 refl) lays;
    stamp = lays_elsewhere folder object j k 115 (116 ∷ 97 ∷ 109 ∷ 112 ∷ 47 ∷ folder) (differ 115 119 refl) (differ 115 111 refl) lays;
  }

  quiet_freeing : (h j k : Store) → FreesStamp folder h j k → IsQuiet j k
  quiet_freeing h j k frees = record {
    others = λ q foreign. frees.others q (λ way. elim way [ inl up ↦ foreign.stamp.not_above up | inr down ↦ foreign.stamp.not_under down ]);
    stored = inl (frees_there folder h j k 114 (record_path name) (differ 114 115 refl) (101 ∷ 99 ∷ 50 ∷ 47 ∷ hash_text name, refl) frees);
    key = frees_there folder h j k 107 (key_path (text_key text)) (differ 107 115 refl) (101 ∷ 121 ∷ 47 ∷ hash_text (text_key text), refl) frees;
    stamp = frees_keeps folder h j k frees;
  }

  quiet_stages : ((e : Entry) → file ≡ Some e → ⊥) → (j k : Store) → Stages name file j k → IsQuiet j k
  quiet_stages is j k stages = record {
    others = λ q foreign. stages.others q foreign.temporary (λ some. foreign.stored some);
    stored = ⊎_elim (λ same. inl same) (λ new. absurd (is new.0 new.1)) stages.stored;
    key = stages.others (key_path (text_key text)) (not_temporary 107 (101 ∷ 121 ∷ 47 ∷ hash_text (text_key text)) (differ 107 116 refl)) (λ some. heads_differ (differ 107 114 refl));
    stamp = stages.others (stamp_at folder) (not_temporary 115 (116 ∷ 97 ∷ 109 ∷ 112 ∷ 47 ∷ folder) (differ 115 116 refl)) (λ some. heads_differ (differ 115 114 refl));
  }

  late : (i j k : Store) → Publishes P i j → NoStamp j → IsQuiet j k → Publishes P i k
  late i j k was none quiet = record {
    others = λ q foreign. quiet.others q foreign ∙ was.others q foreign;
    stored = ⊎_elim (λ same. ⊎_elim (λ as_was. inl (same ∙ as_was)) (λ new. inr (new.0, same ∙ new.1, quiet.key ∙ new.2)) was.stored) (λ new. inr new) quiet.stored;
    honest = inr (inl (quiet.stamp ∙ none));
  }

  -- no image has the stamp
  pub record Quiets (a b : Story) : Type 0 where
    pub run : Passes a b (Publishes P)
    pub gone : (i : Store) → IsImage b i → NoStamp i

  pub aside_run : {a b : Story} → Passes a b (TakesAway folder) → Passes a b (Publishes P)
  aside_run run = passes_so (Publishes P) run by_aside

  quiet_run : {a b c : Story} {S : Store → Store → Type 0} → IsSound b → ((j k : Store) → S j k → IsQuiet j k) → Quiets a b → Passes b c S → Passes a c (Publishes P)
  quiet_run sound is quiets run = passes_at NoStamp (Publishes P) sound quiets.gone quiets.run run (λ i j w. w) (λ i j k w none s. late i j k w none (is j k s))

  quiet_more : {a b c : Story} {S : Store → Store → Type 0} → IsSound b → ((j k : Store) → S j k → IsQuiet j k) → Quiets a b → Passes b c S → Quiets a c
  quiet_more sound is quiets run = record { run = quiet_run sound is quiets run; gone = each_now NoStamp NoStamp quiets.gone run (λ j k none s. (is j k s).stamp ∙ none) }

  pub lays_run : {a b c : Story} → IsSound b → Quiets a b → Passes b c (Lays folder object) → Quiets a c
  lays_run sound quiets run = quiet_more sound quiet_lays quiets run

  pub freeing_run : {a b c : Story} (h : Store) → IsSound b → Quiets a b → Passes b c (FreesStamp folder h) → Quiets a c
  freeing_run h sound quiets run = quiet_more sound (quiet_freeing h) quiets run

  pub stages_run : {a b c : Story} → ((e : Entry) → file ≡ Some e → ⊥) → IsSound b → Quiets a b → Passes b c (Stages name file) → Quiets a c
  stages_run is sound quiets run = quiet_more sound (quiet_stages is) quiets run

  -- ---- the stamp comes last

  -- all that the stamp tells of is there
  pub record IsReady (i : Store) : Type 0 where
    pub work : HoldsTree (work_at folder) tree i
    pub shared : (unihash : Hash) → object ≡ Some unihash → HoldsTree (object_folder unihash) tree i
    pub stored : i (record_path name) ≡ Some f
    pub key : i (key_path (text_key text)) ≡ Some (text_key_file text)

  pub published_by : (x : Option Entry) (j k : Store) → IsReady j → Moves (staged_path folder) (stamp_path folder) x j k → k (stamp_at folder) ≡ Some (stamp_file name) → IsPublished P k
  published_by x j k ready move stamped = record {
    stamp = stamped;
    stored = move_keeps 114 116 115 (109 ∷ 112 ∷ 47 ∷ 115 ∷ 116 ∷ 97 ∷ 109 ∷ 112 ∷ 47 ∷ folder) (116 ∷ 97 ∷ 109 ∷ 112 ∷ 47 ∷ folder) (101 ∷ 99 ∷ 50 ∷ 47 ∷ hash_text name) x j k (differ 114 116 refl) (differ 114 115 refl) move ∙ ready.stored;
    key = move_keeps 107 116 115 (109 ∷ 112 ∷ 47 ∷ 115 ∷ 116 ∷ 97 ∷ 109 ∷ 112 ∷ 47 ∷ folder) (116 ∷ 97 ∷ 109 ∷ 112 ∷ 47 ∷ folder) (101 ∷ 121 ∷ 47 ∷ hash_text (text_key text)) x j k (differ 107 116 refl) (differ 107 115 refl) move ∙ ready.key;
    work = tree_stays 119 (111 ∷ 114 ∷ 107 ∷ 47 ∷ folder) tree j k (differ 119 47 refl) (λ qs. move_keeps 119 116 115 (109 ∷ 112 ∷ 47 ∷ 115 ∷ 116 ∷ 97 ∷ 109 ∷ 112 ∷ 47 ∷ folder) (116 ∷ 97 ∷ 109 ∷ 112 ∷ 47 ∷ folder) qs x j k (differ 119 116 refl) (differ 119 115 refl) move) ready.work;
    shared = λ unihash is. tree_stays 111 (98 ∷ 106 ∷ 47 ∷ hash_text unihash) tree j k (differ 111 47 refl) (λ qs. move_keeps 111 116 115 (109 ∷ 112 ∷ 47 ∷ 115 ∷ 116 ∷ 97 ∷ 109 ∷ 112 ∷ 47 ∷ folder) (116 ∷ 97 ∷ 109 ∷ 112 ∷ 47 ∷ folder) qs x j k (differ 111 116 refl) (differ 111 115 refl) move) (ready.shared unihash is);
  }

  last : (x : Option Entry) (i j k : Store) → x ≡ Some (stamp_file name) → Publishes P i j → NoStamp j → IsReady j → Moves (staged_path folder) (stamp_path folder) x j k → Publishes P i k
  last x i j k is was none ready move = record {
    others = λ q foreign. move.others q (λ same. foreign.temporary (inside (codes "stamp") folder, same)) foreign.stamp.not_folder ∙ was.others q foreign;
    stored = ⊎_elim (λ as_was. inl (kept ∙ as_was)) (λ new. inr (new.0, kept ∙ new.1, key_kept ∙ new.2)) was.stored;
    honest = ⊎_elim (λ same. inr (inl (same ∙ none))) (λ new. inr (inr (published_by x j k ready move (new ∙ is)))) move.target;
  }
    where
      kept : k (record_path name) ≡ j (record_path name)
      kept = move.others (record_path name) (heads_differ (differ 114 116 refl)) (heads_differ (differ 114 115 refl))

      key_kept : k (key_path (text_key text)) ≡ j (key_path (text_key text))
      key_kept = move.others (key_path (text_key text)) (heads_differ (differ 107 116 refl)) (heads_differ (differ 107 115 refl))

  pub record IsLast (i : Store) : Type 0 where
    pub none : NoStamp i
    pub ready : IsReady i

  pub last_run : {x : Option Entry} {a b c : Story} → IsSound b → x ≡ Some (stamp_file name) → Quiets a b → ((i : Store) → IsImage b i → i ≡ b.held) → IsReady b.held → Passes b c (Moves (staged_path folder) (stamp_path folder) x) → Passes a c (Publishes P)
  last_run {x} {a} {b} sound is quiets synced ready run =
      passes_at IsLast (Publishes P) sound (λ i img. record { none = quiets.gone i img; ready = subst IsReady (sym (synced i img)) ready }) quiets.run run (λ i j w. w)
      (λ i j k w at move. last x i j k is w at.none at.ready move)

-- ---- what is held on the way

module _ (folder : List ℕ) (name : Hash) (tree : Entries) (object : Option Hash) (file : Option Entry) (f : Entry) where
  pub ready_stages : (i j : Store) → Stages name file i j → HoldsTree (work_at folder) tree i → HoldsTree (work_at folder) tree j
  ready_stages i j stages was = tree_stays 119 (111 ∷ 114 ∷ 107 ∷ 47 ∷ folder) tree i j (differ 119 47 refl)
      (λ qs. stages.others (119 ∷ qs) (not_temporary 119 qs (differ 119 116 refl)) (λ some. heads_differ (differ 119 114 refl))) was

-- ---- objects stay

-- a staged stamp isn't a staged record
pub staged_differ : (folder : List ℕ) (name : Hash) → staged_path folder ≢ staged_record_path name
staged_differ folder name same = differ 115 114 refl (ap (λ (l : List ℕ). get_or l 4 0) same)

pub on_ok_two : {T : Type 0} (r : Result T DiskFault) (A B C : Type 0) → OnOk r A → OnOk r B → (A → B → C) → OnOk r C
on_ok_two (Ok v) A B C a b both = both a b
on_ok_two (Err e) A B C a b both = tt
