-- What the writing of a move leaves, phase by phase.
use Rattle.std.proofs.Common.{◌≡◌, ◌≢◌, ◌∙◌, sym, subst, refl, ℕ, ◌⊎◌, inl, inr, List, [], ◌∷◌, Some, Ok, Err, Result, arith}
use Rattle.std.specs.Prelude.{codes, Contains, IsSome, OnOk}
use Rattle.tree_model.specs.declared.hash.Hash.{Hash}
use Rattle.tree_model.specs.declared.manifest.ManifestLine.{ManifestLine}
use Rattle.tree_model.specs.Hash.{hash_text}
use Rattle.tree_model.specs.Path.{IsAtOrBelow, inside}
use Rattle.outside_traits.specs.Passes.{Passes}
use Rattle.outside_traits.specs.Store.{Store}
use Rattle.outside_traits.specs.Story.{IsSound, Story}
use Rattle.outside_traits.proofs.Runs.{passes_then}
use Rattle.stamp_store.specs.Stamp.{stamp_path, staged_path}
use Rattle.store_model.specs.Available.{Matches, object_folder}
use Rattle.store_model.specs.Paths.{key_path, record_path}
use Rattle.store_model.specs.Publication.{record_file}
use Rattle.store_model.specs.Spelling.{key_name}
use Rattle.store_opening.proofs.Areas.{differ, heads_differ}
use Rattle.record_move.specs.declared.moving.Moved.{Moved}
use Rattle.record_move.specs.declared.records.AddedRecord.{AddedRecord}
use Rattle.outside_traits.proofs.Folders.{under_same}
use Rattle.store_model.specs.declared.signature.EquivRow.{EquivRow}
use Rattle.store_opening.specs.Paths.{IsLaidOut}
use Rattle.store_opening.proofs.StillThere.{matches_there}
use Rattle.record_move.specs.declared.records.MovedRecord.{MovedRecord}
use Rattle.store_upgrade.specs.Stamps.{AreRenewed}
use Rattle.store_upgrade.proofs.Called.{IsDurable, passes_from, passes_on}
use Rattle.store_upgrade.proofs.Laid.{laid_within}
use Rattle.store_upgrade.specs.Halfway.{IsBeside}
use Rattle.store_upgrade.specs.Steps.{AreInRounds, AreHeld, AreNoneInTheWay, ArePut, AreStaged, AreStagedStamps, AreStamped, Ends, HoldsKeys, IsCopied, IsNone, IsPutOrNot, KeysDiffer, NamesDiffer, PutsKeys, PutsRounds, PutsStamps, StagesRecords, Within}
use Rattle.store_upgrade.specs.Writes.{HoldsRounds, IsEarly, IsLate, PutsPrepared, Writes}

-- ---- the first byte of what is touched

-- a path that begins otherwise is neither at nor below
not_under : (c d : ℕ) (folder ps : List ℕ) → c ≢ d → IsAtOrBelow (c ∷ folder) (d ∷ ps) → ⊥
not_under c d folder ps ne (inl same) = heads_differ (λ e. ne (sym e)) same
not_under c d folder ps ne (inr below) = heads_differ (λ e. ne (sym e)) below.1

-- ---- before a record is put

pub early_start : (added : List AddedRecord) (held : Store) → IsEarly added held held
early_start added held = record { others = λ q no_object no_temporary none. refl; keys = λ name bytes hash is one. refl }

pub early_objects : (added : List AddedRecord) (held j k : Store) → IsEarly added held j → Within (codes "obj") j k → IsEarly added held k
early_objects added held j k e w = record {
  others = λ q no_object no_temporary none. w.others q no_object ∙ e.others q no_object no_temporary none;
  keys = λ name bytes hash is one. w.others (key_path name) (not_under 111 107 (98 ∷ 106 ∷ []) (101 ∷ 121 ∷ 47 ∷ hash_text name) (differ 111 107 refl)) ∙ e.keys name bytes hash is one;
}

pub early_temporary : (added : List AddedRecord) (held j k : Store) → IsEarly added held j → Within (codes "tmp") j k → IsEarly added held k
early_temporary added held j k e w = record {
  others = λ q no_object no_temporary none. w.others q no_temporary ∙ e.others q no_object no_temporary none;
  keys = λ name bytes hash is one. w.others (key_path name) (not_under 116 107 (109 ∷ 112 ∷ []) (101 ∷ 121 ∷ 47 ∷ hash_text name) (differ 116 107 refl)) ∙ e.keys name bytes hash is one;
}

pub early_same : (added : List AddedRecord) (held j k : Store) → IsEarly added held j → k ≡ j → IsEarly added held k
early_same added held j k e same = subst (IsEarly added held) (sym same) e

pub staged_temporary : (added : List AddedRecord) (j k : Store) → StagesRecords added j k → Within (codes "tmp") j k
staged_temporary added j k s = record { others = λ q never. s.others q (λ a has e. never (inr (inside (codes "rec2") (hash_text a.name), e))) }

pub early_keys : (added : List AddedRecord) (held mid j k : Store) → IsEarly added held mid → IsEarly added held j → PutsKeys added mid j k → IsEarly added held k
early_keys added held mid j k m e p = record {
  others = λ q no_object no_temporary none. p.others q none ∙ e.others q no_object no_temporary none;
  keys = λ name bytes hash is one. p.right name bytes hash (m.keys name bytes hash is one ∙ is) one ∙ e.keys name bytes hash is one;
}

-- ---- what is held where nothing was put yet

module _ (moved : Moved) (held : Store) where
  abbrev Added : List AddedRecord
  Added = moved.added.items

  place_apart : (name : Hash) (a : AddedRecord) → record_path name ≢ key_path (key_name a.stored.sig.key)
  place_apart name a e = heads_differ (differ 114 107 refl) e

  early_at : (image : Store) → IsEarly moved.added.items held image → (path : List ℕ) → image (inside (codes "rec2") path) ≡ held (inside (codes "rec2") path)
  early_at image e path = e.others (inside (codes "rec2") path) (not_under 111 114 (98 ∷ 106 ∷ []) (101 ∷ 99 ∷ 50 ∷ 47 ∷ path) (differ 111 114 refl)) (not_under 116 114 (109 ∷ 112 ∷ []) (101 ∷ 99 ∷ 50 ∷ 47 ∷ path) (differ 116 114 refl)) (λ a has same. heads_differ (differ 114 107 refl) same)

  early_beside : (image : Store) → IsEarly moved.added.items held image → (q : List ℕ) → IsBeside q → image q ≡ held q
  early_beside image e q b = e.others q b.no_object b.elsewhere.temporary (λ a has same. b.elsewhere.keys (inr (hash_text (key_name a.stored.sig.key), same)))

  pub early_format : (image : Store) → IsEarly moved.added.items held image → image (codes "format") ≡ held (codes "format")
  early_format image e = e.others (codes "format") (not_under 111 102 (98 ∷ 106 ∷ []) (111 ∷ 114 ∷ 109 ∷ 97 ∷ 116 ∷ []) (differ 111 102 refl)) (not_under 116 102 (109 ∷ 112 ∷ []) (111 ∷ 114 ∷ 109 ∷ 97 ∷ 116 ∷ []) (differ 116 102 refl)) (λ a has same. heads_differ (differ 102 107 refl) same)

  pub early_writes : (image : Store) → IsEarly moved.added.items held image → Writes moved held image
  early_writes image e = record {
    beside = early_beside image e;
    records = λ path none. early_at image e path;
    rounds = λ names. record {
      round = 0;
      earlier = λ a has lt. absurd (omega (arith, lt));
      now = λ a has own. inl (early_at image e (hash_text a.name));
      later = λ a has lt. early_at image e (hash_text a.name);
    };
    keys = e.keys;
    keyed = λ differ'. inr (λ a has. early_at image e (hash_text a.name));
    format = inl (early_format image e);
  }

  -- ---- while records are put over what was synced

  module _ (base : Store) (early : IsEarly moved.added.items held base) (staged : NamesDiffer moved.added.items → AreStaged moved.added.items base) (keyed : KeysDiffer moved.added.items → HoldsKeys moved.added.items base) where
    key_none : (q rest : List ℕ) → q ≡ inside (codes "key") rest → IsNone moved.added.items q
    key_none q rest is a has = ((λ e. heads_differ (differ 107 114 refl) (sym is ∙ e)), λ e. heads_differ (differ 107 116 refl) (sym is ∙ e))

    beside_none : (q : List ℕ) → IsBeside q → IsNone moved.added.items q
    beside_none q b a has = ((λ e. b.elsewhere.records (inr (hash_text a.name, e))), λ e. b.elsewhere.temporary (inr (inside (codes "rec2") (hash_text a.name), e)))

    in_rounds : (image : Store) → NamesDiffer moved.added.items → AreInRounds moved.added.items base image → HoldsRounds moved.added.items held image
    in_rounds image names r = record {
      round = r.round;
      earlier = λ a has lt. r.earlier a (record_file a.stored) has lt (staged names a has);
      now = λ a has own. by a has (r.now a has own);
      later = λ a has lt. r.later a has lt ∙ early_at base early (hash_text a.name);
    }
      where
        by : (a : AddedRecord) → Contains moved.added.items a → IsPutOrNot a base base image → (image (record_path a.name) ≡ held (record_path a.name)) ⊎ (image (record_path a.name) ≡ Some (record_file a.stored))
        by a has (inl still) = inl (still ∙ early_at base early (hash_text a.name))
        by a has (inr w) = inr (w.2 ∙ sym w.1 ∙ staged names a has)

    pub round_writes : (image : Store) → PutsRounds moved.added.items base image → Writes moved held image
    round_writes image p = record {
      beside = λ q b. p.others q (beside_none q b) ∙ early_beside base early q b;
      records = λ path none. p.others (inside (codes "rec2") path) (λ a has. (none a has, λ e. heads_differ (differ 114 116 refl) e)) ∙ early_at base early path;
      rounds = λ names. in_rounds image names (p.rounds names);
      keys = λ name bytes hash is one. p.others (key_path name) (key_none (key_path name) (hash_text name) refl) ∙ early.keys name bytes hash is one;
      keyed = λ differ'. inl (λ a has. p.others (key_path (key_name a.stored.sig.key)) (key_none (key_path (key_name a.stored.sig.key)) (hash_text (key_name a.stored.sig.key)) refl) ∙ keyed differ' a has);
      format = inl (p.others (codes "format") (λ a has. ((λ e. heads_differ (differ 102 114 refl) e), λ e. heads_differ (differ 102 116 refl) e)) ∙ early_format base early);
    }

    pub keys_put : (image : Store) → PutsRounds moved.added.items base image → KeysDiffer moved.added.items → HoldsKeys moved.added.items image
    keys_put image p differ' a has = p.others (key_path (key_name a.stored.sig.key)) (key_none (key_path (key_name a.stored.sig.key)) (hash_text (key_name a.stored.sig.key)) refl) ∙ keyed differ' a has

  -- ---- when all records are put

  pub late_start : (base : Store) → IsLate base base
  late_start base = record { others = λ q no_stamp no_temporary no_format. refl; format = inl refl }

  pub late_stamps : (base j k : Store) (stamps : List (List ℕ × Hash)) → IsLate base j → PutsStamps stamps j k → IsLate base k
  late_stamps base j k stamps l p = record {
    others = λ q no_stamp no_temporary no_format. p.others q (λ f m has. ((λ e. no_stamp (inr (f, e))), λ e. no_temporary (inr (inside (codes "stamp") f, e)))) ∙ l.others q no_stamp no_temporary no_format;
    format = elim l.format [ inl same ↦ inl (still ∙ same) | inr now ↦ inr (still ∙ now) ];
  }
    where
      still : k (codes "format") ≡ j (codes "format")
      still = p.others (codes "format") (λ f m has. ((λ e. heads_differ (differ 102 115 refl) e), λ e. heads_differ (differ 102 116 refl) e))

  pub late_ends : (base j k : Store) → IsLate base j → Ends j k → IsLate base k
  late_ends base j k l e = record {
    others = λ q no_stamp no_temporary no_format. e.others q no_format no_temporary ∙ l.others q no_stamp no_temporary no_format;
    format = elim e.format [ inl same ↦ elim l.format [ inl was ↦ inl (same ∙ was) | inr now ↦ inr (same ∙ now) ] | inr now ↦ inr now ];
  }

  late_at : (base image : Store) → IsLate base image → (c : ℕ) (ps : List ℕ) → c ≢ 115 → c ≢ 116 → c ≢ 102 → image (c ∷ ps) ≡ base (c ∷ ps)
  late_at base image l c ps ns nt nf = l.others (c ∷ ps) (not_under 115 c (116 ∷ 97 ∷ 109 ∷ 112 ∷ []) ps (λ e. ns (sym e))) (not_under 116 c (109 ∷ 112 ∷ []) ps (λ e. nt (sym e))) (not_under 102 c (111 ∷ 114 ∷ 109 ∷ 97 ∷ 116 ∷ []) ps (λ e. nf (sym e)))

  pub late_put : (base image : Store) → IsLate base image → ArePut moved.added.items base → ArePut moved.added.items image
  late_put base image l put a has = late_at base image l 114 (101 ∷ 99 ∷ 50 ∷ 47 ∷ hash_text a.name) (differ 114 115 refl) (differ 114 116 refl) (differ 114 102 refl) ∙ put a has

  pub late_keys : (base image : Store) → IsLate base image → HoldsKeys moved.added.items base → HoldsKeys moved.added.items image
  late_keys base image l keys a has = late_at base image l 107 (101 ∷ 121 ∷ 47 ∷ hash_text (key_name a.stored.sig.key)) (differ 107 115 refl) (differ 107 116 refl) (differ 107 102 refl) ∙ keys a has

  pub late_writes : (base image : Store) → Writes moved held base → (NamesDiffer moved.added.items → ArePut moved.added.items base) → base (codes "format") ≡ held (codes "format") → IsLate base image → Writes moved held image
  late_writes base image w put format l = record {
    beside = λ q b. l.others q b.elsewhere.stamps b.elsewhere.temporary b.no_format ∙ w.beside q b;
    records = λ path none. at_rec path ∙ w.records path none;
    rounds = λ names. let r = w.rounds names in record {
      round = r.round;
      earlier = λ a has lt. at_rec (hash_text a.name) ∙ r.earlier a has lt;
      now = λ a has own. elim (r.now a has own) [ inl still ↦ inl (at_rec (hash_text a.name) ∙ still) | inr now ↦ inr (at_rec (hash_text a.name) ∙ now) ];
      later = λ a has lt. at_rec (hash_text a.name) ∙ r.later a has lt;
    };
    keys = λ name bytes hash is one. late_at base image l 107 (101 ∷ 121 ∷ 47 ∷ hash_text name) (differ 107 115 refl) (differ 107 116 refl) (differ 107 102 refl) ∙ w.keys name bytes hash is one;
    keyed = λ differ'. elim (w.keyed differ') [ inl keys ↦ inl (late_keys base image l keys) | inr none ↦ inr (λ a has. at_rec (hash_text a.name) ∙ none a has) ];
    format = elim l.format [ inl same ↦ inl (same ∙ format) | inr now ↦ inr (now, λ names. late_put base image l (put names)) ];
  }
    where
      at_rec : (path : List ℕ) → image (inside (codes "rec2") path) ≡ base (inside (codes "rec2") path)
      at_rec path = late_at base image l 114 (101 ∷ 99 ∷ 50 ∷ 47 ∷ path) (differ 114 115 refl) (differ 114 116 refl) (differ 114 102 refl)

-- ---- runs

pub run_objects : (added : List AddedRecord) (a b : Story) → IsSound a → IsDurable a → Passes a b (Within (codes "obj")) → Passes a b (λ i k. IsEarly added a.held k)
run_objects added a b sound durable run = passes_from (IsEarly added a.held) sound durable run (λ k w. early_objects added a.held a.held k (early_start added a.held) w)

pub run_keys : (added slice : List AddedRecord) (held : Store) (a b c : Story) → slice ≡ added → Passes a b (λ i k. IsEarly added held k) → Passes b c (PutsKeys slice b.held) → Passes a c (λ i k. IsEarly added held k)
run_keys added slice held a b c is first second =
    passes_then (λ i k. IsEarly added held k) first (subst (λ (l : List AddedRecord). Passes b c (PutsKeys l b.held)) is second) (λ i j e. e) (λ i j k e p. early_keys added held b.held j k first.held e p)

pub run_temporary : (added : List AddedRecord) (held : Store) (a b c : Story) → Passes a b (λ i k. IsEarly added held k) → Passes b c (Within (codes "tmp")) → Passes a c (λ i k. IsEarly added held k)
run_temporary added held a b c first second = passes_then (λ i k. IsEarly added held k) first second (λ i j e. e) (λ i j k e w. early_temporary added held j k e w)

pub run_staged : (added slice : List AddedRecord) (held : Store) (a b c : Story) → slice ≡ added → Passes a b (λ i k. IsEarly added held k) → Passes b c (StagesRecords slice) → Passes a c (λ i k. IsEarly added held k)
run_staged added slice held a b c is first second =
    passes_then (λ i k. IsEarly added held k) first (subst (λ (l : List AddedRecord). Passes b c (StagesRecords l)) is second) (λ i j e. e) (λ i j k e s. early_temporary added held j k e (staged_temporary added j k s))

pub laid_objects : (held now : Store) → Within (codes "obj") held now → IsLaidOut held → IsLaidOut now
laid_objects held now w laid = laid_within held now 111 (98 ∷ 106 ∷ []) (differ 111 114 refl) (differ 111 107 refl) (differ 111 116 refl) (differ 111 115 refl) w laid

-- keys that were written stay while temporary files change
pub keys_stay : (added : List AddedRecord) (j k : Store) → Within (codes "tmp") j k → HoldsKeys added j → HoldsKeys added k
keys_stay added j k w keys a has = w.others (key_path (key_name a.stored.sig.key)) (not_under 116 107 (109 ∷ 112 ∷ []) (101 ∷ 121 ∷ 47 ∷ hash_text (key_name a.stored.sig.key)) (differ 116 107 refl)) ∙ keys a has

pub staged_stamps_stay : (added : List AddedRecord) (stamps : List (List ℕ × Hash)) (j k : Store) → StagesRecords added j k → AreStagedStamps stamps j → AreStagedStamps stamps k
staged_stamps_stay added stamps j k s was f m has = s.others (staged_path f) (λ a in_it e. let e' = under_same (codes "tmp") (inside (codes "stamp") f) (inside (codes "rec2") (hash_text a.name)) e in heads_differ (differ 115 114 refl) e') ∙ was f m has

-- stamps aren't touched before
pub stamps_early : (added : List AddedRecord) (held image : Store) → IsEarly added held image → (folder : List ℕ) → image (stamp_path folder) ≡ held (stamp_path folder)
stamps_early added held image e folder = e.others (stamp_path folder) (not_under 111 115 (98 ∷ 106 ∷ []) (116 ∷ 97 ∷ 109 ∷ 112 ∷ 47 ∷ folder) (differ 111 115 refl)) (not_under 116 115 (109 ∷ 112 ∷ []) (116 ∷ 97 ∷ 109 ∷ 112 ∷ 47 ∷ folder) (differ 116 115 refl)) (λ a has same. heads_differ (differ 115 107 refl) same)

pub renewed_at : (held now : Store) (moved : List MovedRecord) (stamps : List (List ℕ × Hash)) → ((folder : List ℕ) → now (stamp_path folder) ≡ held (stamp_path folder)) → AreRenewed now moved stamps → AreRenewed held moved stamps
renewed_at held now moved stamps same are = record {
  sound = λ folder name has. let r = are.sound folder name has in record { is_folder = r.is_folder; two = r.two; old = r.old; is_hash = r.is_hash; file = sym (same folder) ∙ r.file; renewed = r.renewed };
  whole = λ folder name r. are.whole folder name (record { is_folder = r.is_folder; two = r.two; old = r.old; is_hash = r.is_hash; file = same folder ∙ r.file; renewed = r.renewed });
}

-- what matches as an object does so while other things are written
pub object_later : (one other : Store) (unihash : Hash) (lines : List ManifestLine) → ((rest : List ℕ) → other (111 ∷ rest) ≡ one (111 ∷ rest)) → Matches one (object_folder unihash) lines → Matches other (object_folder unihash) lines
object_later one other unihash lines same m = matches_there one other 111 (98 ∷ 106 ∷ 47 ∷ hash_text unihash) lines (differ 111 47 refl) same m

pub objects_later : (one other : Store) → Within (codes "tmp") one other → (rest : List ℕ) → other (111 ∷ rest) ≡ one (111 ∷ rest)
objects_later one other w rest = w.others (111 ∷ rest) (not_under 116 111 (109 ∷ 112 ∷ []) rest (differ 116 111 refl))

pub objects_keyed : (added : List AddedRecord) (held one other : Store) → PutsKeys added held one other → (rest : List ℕ) → other (111 ∷ rest) ≡ one (111 ∷ rest)
objects_keyed added held one other p rest = p.others (111 ∷ rest) (λ a has. heads_differ (differ 111 107 refl))

pub copied_later : (rows : List EquivRow) (moved : List MovedRecord) (held one other : Store) → ((rest : List ℕ) → other (111 ∷ rest) ≡ one (111 ∷ rest)) → (AreNoneInTheWay rows moved → (m : MovedRecord) → Contains moved m → IsCopied rows m held one) → AreNoneInTheWay rows moved → (m : MovedRecord) → Contains moved m → IsCopied rows m held other
copied_later rows moved held one other same was none m has row manifest matched = object_later one other m.unihash row.manifest same (was none m has row manifest matched)

-- ---- the second half

pub puts_early : (moved : Moved) (base image : Store) → PutsRounds moved.added.items base image → PutsPrepared moved base image
puts_early moved base image p = inl p

-- stamps aren't touched while records are put
pub rounds_stamps : (added : List AddedRecord) (base image : Store) → PutsRounds added base image → (folder : List ℕ) → image (stamp_path folder) ≡ base (stamp_path folder)
rounds_stamps added base image p folder = p.others (stamp_path folder) (λ a has. ((λ e. heads_differ (differ 115 114 refl) e), λ e. heads_differ (differ 115 116 refl) e))

pub rounds_held : (added : List AddedRecord) (stamps : List (List ℕ × Hash)) (base image : Store) → PutsRounds added base image → AreHeld stamps base → AreHeld stamps image
rounds_held added stamps base image p held f m has = subst IsSome (sym (rounds_stamps added base image p f)) (held f m has)

pub rounds_staged : (added : List AddedRecord) (stamps : List (List ℕ × Hash)) (base image : Store) → PutsRounds added base image → AreStagedStamps stamps base → AreStagedStamps stamps image
rounds_staged added stamps base image p staged f m has =
    p.others (staged_path f) (λ a in_it. ((λ e. heads_differ (differ 116 114 refl) e), λ e. let e' = under_same (codes "tmp") (inside (codes "stamp") f) (inside (codes "rec2") (hash_text a.name)) e in heads_differ (differ 115 114 refl) e')) ∙ staged f m has

-- what stamps and `format` do to what stood
abbrev AfterStamps : List (List ℕ × Hash) → Store → Store → Type 0
AfterStamps stamps i k = (j : Store) × PutsStamps stamps i j × ((k ≡ j) ⊎ Ends j k)

module _ (moved : Moved) (a b : Story) (sound : IsSound b) (durable : IsDurable b) (run : Passes a b (λ i k. PutsRounds moved.added.items a.held k)) (put : NamesDiffer moved.added.items → AreStaged moved.added.items a.held → ArePut moved.added.items b.held) where
  pub run_stamps : (c : Story) (stamps : List (List ℕ × Hash)) → Passes b c (PutsStamps stamps) → Passes a c (λ i k. PutsPrepared moved a.held k)
  run_stamps c stamps second =
      passes_on (PutsRounds moved.added.items a.held) (PutsPrepared moved a.held) sound durable run second (λ j p. inl p)
      (λ k p. inr (b.held, run.held, put, late_stamps moved a.held b.held b.held k stamps (late_start moved a.held b.held) p))

  pub run_ends : (c d : Story) (stamps : List (List ℕ × Hash)) → Passes b c (PutsStamps stamps) → Passes c d Ends → Passes a d (λ i k. PutsPrepared moved a.held k)
  run_ends c d stamps second third =
      passes_on (PutsRounds moved.added.items a.held) (PutsPrepared moved a.held) sound durable run
      (passes_then (AfterStamps stamps) second third (λ i j p. (j, p, inl refl)) (λ i j k p e. (j, p, inr e)))
      (λ j p. inl p)
      (λ k w. inr (b.held, run.held, put, late_from w.0 k (late_stamps moved a.held b.held b.held w.0 stamps (late_start moved a.held b.held) w.1) w.2))
    where
      late_from : (j k : Store) → IsLate b.held j → (k ≡ j) ⊎ Ends j k → IsLate b.held k
      late_from j k l (inl same) = subst (IsLate b.held) (sym same) l
      late_from j k l (inr ends) = late_ends moved a.held b.held j k l ends

pub put_later : (moved : Moved) (held base image : Store) → IsLate base image → ArePut moved.added.items base → ArePut moved.added.items image
put_later moved held base image l put = late_put moved held base image l put

-- stamps stay while `format` is put
pub stamped_later : (stamps : List (List ℕ × Hash)) (j k : Store) → Ends j k → AreStamped stamps j → AreStamped stamps k
stamped_later stamps j k e was f m has = e.others (stamp_path f) (not_under 102 115 (111 ∷ 114 ∷ 109 ∷ 97 ∷ 116 ∷ []) (116 ∷ 97 ∷ 109 ∷ 112 ∷ 47 ∷ f) (differ 102 115 refl)) (not_under 116 115 (109 ∷ 112 ∷ []) (116 ∷ 97 ∷ 109 ∷ 112 ∷ 47 ∷ f) (differ 116 115 refl)) ∙ was f m has

-- ---- both halves

pub prepared_writes : (moved : Moved) (held base image : Store) → IsEarly moved.added.items held base → (NamesDiffer moved.added.items → AreStaged moved.added.items base) → (KeysDiffer moved.added.items → HoldsKeys moved.added.items base) → PutsPrepared moved base image → Writes moved held image
prepared_writes moved held base image early staged keyed (inl p) = round_writes moved held base early staged keyed image p
prepared_writes moved held base image early staged keyed (inr w) =
    late_writes moved held w.0 image (round_writes moved held base early staged keyed w.0 w.1) (λ names. w.2 names (staged names)) (format w.1) w.3
  where
    format : PutsRounds moved.added.items base w.0 → w.0 (codes "format") ≡ held (codes "format")
    format p = p.others (codes "format") (λ a has. ((λ e. heads_differ (differ 102 114 refl) e), λ e. heads_differ (differ 102 116 refl) e)) ∙ early_format moved held base early

pub prepared_keys : (moved : Moved) (held base image : Store) → IsEarly moved.added.items held base → (NamesDiffer moved.added.items → AreStaged moved.added.items base) → (KeysDiffer moved.added.items → HoldsKeys moved.added.items base) → PutsPrepared moved base image → KeysDiffer moved.added.items → HoldsKeys moved.added.items image
prepared_keys moved held base image early staged keyed (inl p) differ' = keys_put moved held base early staged keyed image p differ'
prepared_keys moved held base image early staged keyed (inr w) differ' = late_keys moved held w.0 image w.3 (keys_put moved held base early staged keyed w.0 w.1 differ')

pub prepared_objects : (moved : Moved) (base image : Store) → PutsPrepared moved base image → (rest : List ℕ) → image (111 ∷ rest) ≡ base (111 ∷ rest)
prepared_objects moved base image p rest = by p
  where
    at_round : (k : Store) → PutsRounds moved.added.items base k → k (111 ∷ rest) ≡ base (111 ∷ rest)
    at_round k q = q.others (111 ∷ rest) (λ a has. ((λ e. heads_differ (differ 111 114 refl) e), λ e. heads_differ (differ 111 116 refl) e))

    by : PutsPrepared moved base image → image (111 ∷ rest) ≡ base (111 ∷ rest)
    by (inl q) = at_round image q
    by (inr w) =
        w.3.others (111 ∷ rest) (not_under 115 111 (116 ∷ 97 ∷ 109 ∷ 112 ∷ []) rest (differ 115 111 refl)) (not_under 116 111 (109 ∷ 112 ∷ []) rest (differ 116 111 refl)) (not_under 102 111 (111 ∷ 114 ∷ 109 ∷ 97 ∷ 116 ∷ []) rest (differ 102 111 refl)) ∙ at_round w.0 w.1

pub run_prepared : (moved : Moved) (a b c : Story) → IsSound b → IsDurable b → Passes a b (λ i k. IsEarly moved.added.items a.held k) → (NamesDiffer moved.added.items → AreStaged moved.added.items b.held) → (KeysDiffer moved.added.items → HoldsKeys moved.added.items b.held) → Passes b c (λ i k. PutsPrepared moved b.held k) → Passes a c (λ i k. Writes moved a.held k)
run_prepared moved a b c sound durable first staged keyed second = passes_on (IsEarly moved.added.items a.held) (Writes moved a.held) sound durable first second (early_writes moved a.held) (λ k p. prepared_writes moved a.held b.held k first.held staged keyed p)

-- what three facts after Ok entail
pub on_both : {T E P Q R S : Type 0} (r : Result T E) → OnOk r P → OnOk r Q → OnOk r R → (P → Q → R → S) → OnOk r S
on_both (Ok v) p q r says = says p q r
on_both (Err e) p q r says = tt
