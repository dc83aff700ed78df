-- What a restoring leaves of what others have, and of what they have staged.
use Rattle.std.proofs.Common.{◌≡◌, ◌≢◌, ◌∙◌, sym, ap, refl, ℕ, inl, inr, List, ◌∷◌, Option, None}
use Rattle.std.specs.Prelude.{codes}
use Rattle.tree_model.specs.declared.entry.Entry.{Entry}
use Rattle.tree_model.specs.declared.hash.Hash.{Hash}
use Rattle.tree_model.specs.Hash.{hash_text}
use Rattle.tree_model.specs.Path.{IsBelow}
use Rattle.outside_traits.specs.Passes.{Passes, Same}
use Rattle.outside_traits.specs.Store.{AgreesRound, ChangesAt, Moves, Store}
use Rattle.outside_traits.specs.Story.{Story}
use Rattle.outside_traits.proofs.Calls.{same_so}
use Rattle.outside_traits.proofs.Puts.{path_cases}
use Rattle.outside_traits.proofs.Runs.{passes_so, passes_then}
use Rattle.stamp_store.specs.Stamp.{TakesAway, old_path, stamp_path, staged_path}
use Rattle.store_model.specs.Paths.{key_path, record_path}
use Rattle.store_model.specs.Publication.{work_at}
use Rattle.store_opening.proofs.Areas.{differ, heads_differ}
use Rattle.build_store.specs.Calls.{FreesStamp, KeepsAround, KeepsTemporary}
use Rattle.build_store.specs.Standing.{AddsNoLitter}
use Rattle.build_store.proofs.Around.{apart_at}
use Rattle.build_store.proofs.Rounding.{by_aside, by_freeing, by_staging, by_stamp, by_work, frees_there, others_join, others_same}

module _ (folder : List ℕ) where
  no_stamp : (q : List ℕ) → IsBelow (codes "tmp") q → q ≢ stamp_path folder
  no_stamp q below same = heads_differ (differ 116 115 refl) (sym below.1 ∙ same)

  no_record_stamp : (q : List ℕ) → IsBelow (codes "rec2") q → q ≢ stamp_path folder
  no_record_stamp q below same = heads_differ (differ 114 115 refl) (sym below.1 ∙ same)

  no_record_old : (q : List ℕ) → IsBelow (codes "rec2") q → q ≢ old_path folder
  no_record_old q below same = heads_differ (differ 114 116 refl) (sym below.1 ∙ same)

  no_record_staged : (q : List ℕ) → IsBelow (codes "rec2") q → q ≢ staged_path folder
  no_record_staged q below same = heads_differ (differ 114 116 refl) (sym below.1 ∙ same)

  no_key_stamp : (q : List ℕ) → IsBelow (codes "key") q → q ≢ stamp_path folder
  no_key_stamp q below same = heads_differ (differ 107 115 refl) (sym below.1 ∙ same)

  no_key_old : (q : List ℕ) → IsBelow (codes "key") q → q ≢ old_path folder
  no_key_old q below same = heads_differ (differ 107 116 refl) (sym below.1 ∙ same)

  no_key_staged : (q : List ℕ) → IsBelow (codes "key") q → q ≢ staged_path folder
  no_key_staged q below same = heads_differ (differ 107 116 refl) (sym below.1 ∙ same)

  work_same : (h i j : Store) (c : ℕ) (rest q : List ℕ) → q ≡ c ∷ rest → c ≢ 119 → AgreesRound (work_at folder) h i j → j q ≡ i q
  work_same h i j c rest q is ne round = round.apart q (apart_at c 119 rest (111 ∷ 114 ∷ 107 ∷ 47 ∷ folder) q is ne)

  own_join : (i j k : Store) → KeepsTemporary folder i j → KeepsTemporary folder j k → KeepsTemporary folder i k
  own_join i j k first second = record {
    temporary = λ q below old staged. second.temporary q below old staged ∙ first.temporary q below old staged;
    records = λ q below. second.records q below ∙ first.records q below;
    keys = λ q below. second.keys q below ∙ first.keys q below;
  }

  pub around_then : {a b c : Story} → Passes a b (KeepsAround folder a.held) → Passes b c (KeepsAround folder b.held) → Passes a c (KeepsAround folder a.held)
  around_then {a} {b} first second = passes_then (KeepsAround folder a.held) first second (λ i j r. r)
      (λ i j k r s. record { others = others_join folder None a.held b.held i j k first.held.others r.others s.others; own = own_join i j k r.own s.own })

  pub around_aside : {a b : Story} → Passes a b (TakesAway folder) → Passes a b (KeepsAround folder a.held)
  around_aside {a} run = passes_so (KeepsAround folder a.held) run (λ i j move. record {
    others = by_aside folder None a.held i j move;
    own = record {
      temporary = λ q below old staged. move.others q (no_stamp q below) old;
      records = λ q below. move.others q (no_record_stamp q below) (no_record_old q below);
      keys = λ q below. move.others q (no_key_stamp q below) (no_key_old q below);
    };
  })

  pub around_freeing : {a b : Story} → Passes a b (FreesStamp folder a.held) → Passes a b (KeepsAround folder a.held)
  around_freeing {a} run = passes_so (KeepsAround folder a.held) run (λ i j frees. record {
    others = by_freeing folder None a.held i j frees;
    own = record {
      temporary = λ q below old staged. frees_there folder a.held i j 116 q (differ 116 115 refl) (109 ∷ 112 ∷ 47 ∷ below.0, below.1) frees;
      records = λ q below. frees_there folder a.held i j 114 q (differ 114 115 refl) (101 ∷ 99 ∷ 50 ∷ 47 ∷ below.0, below.1) frees;
      keys = λ q below. frees_there folder a.held i j 107 q (differ 107 115 refl) (101 ∷ 121 ∷ 47 ∷ below.0, below.1) frees;
    };
  })

  pub around_work : {a b : Story} → Passes a b (AgreesRound (work_at folder) a.held) → Passes a b (KeepsAround folder a.held)
  around_work {a} run = passes_so (KeepsAround folder a.held) run (λ i j round. record {
    others = by_work folder None a.held i j round;
    own = record {
      temporary = λ q below old staged. work_same a.held i j 116 (109 ∷ 112 ∷ 47 ∷ below.0) q below.1 (differ 116 119 refl) round;
      records = λ q below. work_same a.held i j 114 (101 ∷ 99 ∷ 50 ∷ 47 ∷ below.0) q below.1 (differ 114 119 refl) round;
      keys = λ q below. work_same a.held i j 107 (101 ∷ 121 ∷ 47 ∷ below.0) q below.1 (differ 107 119 refl) round;
    };
  })

  pub around_staging : {a b : Story} → Passes a b (ChangesAt (staged_path folder)) → Passes a b (KeepsAround folder a.held)
  around_staging {a} run = passes_so (KeepsAround folder a.held) run (λ i j change. record {
    others = by_staging folder None a.held i j change;
    own = record {
      temporary = λ q below old staged. change.others q staged;
      records = λ q below. change.others q (no_record_staged q below);
      keys = λ q below. change.others q (no_key_staged q below);
    };
  })

  pub around_stamp : {x : Option Entry} {a b : Story} → Passes a b (Moves (staged_path folder) (stamp_path folder) x) → Passes a b (KeepsAround folder a.held)
  around_stamp {x} {a} run = passes_so (KeepsAround folder a.held) run (λ i j move. record {
    others = by_stamp folder None x a.held i j move;
    own = record {
      temporary = λ q below old staged. move.others q staged (no_stamp q below);
      records = λ q below. move.others q (no_record_staged q below) (no_record_stamp q below);
      keys = λ q below. move.others q (no_key_staged q below) (no_key_stamp q below);
    };
  })

  around_same_at : (h i : Store) → KeepsAround folder h i i
  around_same_at h i = record { others = others_same folder None h i; own = record { temporary = λ q below old staged. refl; records = λ q below. refl; keys = λ q below. refl } }

  pub around_same : {a b : Story} → Passes a b Same → Passes a b (KeepsAround folder a.held)
  around_same {a} run = same_so (KeepsAround folder a.held) (around_same_at a.held) run

  pub around_behind : {a b c : Story} → Passes a b Same → Passes b c (KeepsAround folder b.held) → Passes a c (KeepsAround folder a.held)
  around_behind same run = around_then (around_same same) run

  -- ---- under `tmp/`

  module _ (x : Option Entry) (ha hb hf hc hd he : Store) (takes : TakesAway folder ha hb) (aside : ha (old_path folder) ≡ None → hb (old_path folder) ≡ None) (frees : FreesStamp folder hb hb hf) (round : AgreesRound (work_at folder) hf hf hc)
      (change : ChangesAt (staged_path folder) hc hd) (move : Moves (staged_path folder) (stamp_path folder) x hd he) (gone : he (staged_path folder) ≡ None) where
    after_aside : (q : List ℕ) → IsBelow (codes "tmp") q → ha q ≡ None → hb q ≡ None
    after_aside q below none = elim (path_cases q (old_path folder)) [
      | inl same ↦ ap hb same ∙ aside (ap ha (sym same) ∙ none)
      | inr other ↦ takes.others q (no_stamp q below) other ∙ none
    ]

    pub adds_no_litter : AddsNoLitter ha he
    adds_no_litter q below none = elim (path_cases q (staged_path folder)) [
      | inl same ↦ ap he same ∙ gone
      | inr other ↦ move.others q other (no_stamp q below) ∙ change.others q other ∙ work_same hf hf hc 116 (109 ∷ 112 ∷ 47 ∷ below.0) q below.1 (differ 116 119 refl) round ∙ frees_there folder hb hb hf 116 q (differ 116 115 refl) (109 ∷ 112 ∷ 47 ∷ below.0, below.1) frees ∙ after_aside q below none
    ]

  -- the record stays
  pub record_stays : (name : Hash) (ha hb hf hc hd : Store) → TakesAway folder ha hb → FreesStamp folder hb hb hf → AgreesRound (work_at folder) hf hf hc → ChangesAt (staged_path folder) hc hd → hd (record_path name) ≡ ha (record_path name)
  record_stays name ha hb hf hc hd takes frees round change =
      let q = record_path name in
      let below : IsBelow (codes "rec2") q = (hash_text name, refl) in
      change.others q (no_record_staged q below) ∙ work_same hf hf hc 114 (101 ∷ 99 ∷ 50 ∷ 47 ∷ hash_text name) q refl (differ 114 119 refl) round ∙ frees_there folder hb hb hf 114 q (differ 114 115 refl) (101 ∷ 99 ∷ 50 ∷ 47 ∷ hash_text name, refl) frees ∙ takes.others q (no_record_stamp q below) (no_record_old q below)

  -- ... and its key
  pub key_stays : (key : Hash) (ha hb hf hc hd : Store) → TakesAway folder ha hb → FreesStamp folder hb hb hf → AgreesRound (work_at folder) hf hf hc → ChangesAt (staged_path folder) hc hd → hd (key_path key) ≡ ha (key_path key)
  key_stays key ha hb hf hc hd takes frees round change =
      let q = key_path key in
      let below : IsBelow (codes "key") q = (hash_text key, refl) in
      change.others q (no_key_staged q below) ∙ work_same hf hf hc 107 (101 ∷ 121 ∷ 47 ∷ hash_text key) q refl (differ 107 119 refl) round ∙ frees_there folder hb hb hf 107 q (differ 107 115 refl) (101 ∷ 121 ∷ 47 ∷ hash_text key, refl) frees ∙ takes.others q (no_key_stamp q below) (no_key_old q below)
