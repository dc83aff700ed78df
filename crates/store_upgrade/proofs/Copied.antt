-- Objects are copied.
use Rattle.std.proofs.Common.{◌≡◌, ◌≢◌, ◌∙◌, sym, ap, subst, ℕ, ◌+◌, ◌<◌, ◌≤◌, ◌⊎◌, inl, inr, List, [], ◌∷◌, ◌++◌, length, get_or, drop, take, All, arith, None, Some, Option, false}
use Rattle.std.specs.Prelude.{codes, Contains}
use Rattle.std.specs.Option.{is_some}
use Rattle.std.proofs.lemmas.Bool.{false≢true}
use Rattle.std.proofs.lemmas.List.{get_or_default, take-append-drop, take_all, take_more}
use Rattle.std.proofs.Math.Seq.{take-append_seam}
use Rattle.std.proofs.lemmas.List.Elements.{All-from_recursion, Contains-append_left, Contains-push_cases, recursion_from_All}
use Rattle.tree_model.specs.declared.entry.Entry.{Entry}
use Rattle.tree_model.specs.declared.hash.Hash.{Hash}
use Rattle.tree_model.specs.declared.manifest.ManifestLine.{ManifestLine}
use Rattle.tree_model.specs.Hash.{hash_text}
use Rattle.tree_model.specs.Manifest.{line_of, manifest_lines}
use Rattle.tree_model.specs.Path.{IsAtOrBelow, IsBelow, inside}
use Rattle.tree_model.specs.Tree.{IsTree}
use Rattle.outside_traits.specs.Passes.{Passes, Same}
use Rattle.outside_traits.specs.Store.{AgreesRound, HoldsTree, IsApart, Store, slashes}
use Rattle.outside_traits.specs.Story.{Story}
use Rattle.outside_traits.proofs.Calls.{same_then}
use Rattle.outside_traits.proofs.Folders.{AgreesRound-same, above_under, under_same}
use Rattle.outside_traits.proofs.Puts.{path_cases}
use Rattle.outside_traits.proofs.Runs.{passes_so}
use Rattle.sstate_objects.specs.Matching.{IsMatching}
use Rattle.store_model.proofs.Ordered.{each_map}
use Rattle.store_model.specs.Available.{Matches, object_folder}
use Rattle.store_model.specs.declared.signature.EquivRow.{EquivRow}
use Rattle.store_model.specs.Readable.{HasShortPaths}
use Rattle.store_opening.specs.Named.{IsName}
use Rattle.store_opening.proofs.Clean.{hash_is_name, name_slashes, name_text_length, same_digest}
use Rattle.store_opening.proofs.Slashes.{slashes_inside}
use Rattle.record_move.specs.declared.records.MovedRecord.{MovedRecord}
use Rattle.store_upgrade.specs.Steps.{AreNoneInTheWay, HasManifest, IsCopied, KeepsObject, Within}

pub short_tree : (lines : List ManifestLine) (tree : List (List ℕ × Entry)) → lines ≡ manifest_lines tree → HasShortPaths lines → All (λ e. length e.0 ≤ 3072) tree
short_tree lines tree is short = All-from_recursion (λ e. length e.0 ≤ 3072) tree (each_map line_of (λ l. length l.path ≤ 3072) tree (recursion_from_All (λ l. length l.path ≤ 3072) (manifest_lines tree) (subst HasShortPaths is short)))

pub matching_tree : (folder : List ℕ) (lines : List ManifestLine) (held : Store) (found : Option (List (List ℕ × Entry))) (tree : List (List ℕ × Entry)) → found ≡ Some tree → IsMatching folder lines held found → IsTree tree × (lines ≡ manifest_lines tree)
matching_tree folder lines held found tree is m = let n = subst (IsMatching folder lines held) is m in (n.0, n.1.1)

pub matches_now : (folder : List ℕ) (lines : List ManifestLine) (tree : List (List ℕ × Entry)) (now : Store) → IsTree tree × (lines ≡ manifest_lines tree) → HoldsTree folder tree now → Matches now folder lines
matches_now folder lines tree now is holds = record { tree = tree; is_tree = is.0; holds = holds; manifest = is.1 }

-- two looks, and then what was put
pub round_after : (folder : List ℕ) (a b c d : Story) → Passes a b Same → Passes b c Same → Passes c d (AgreesRound folder c.held) → Passes a d (AgreesRound folder a.held)
round_after folder a b c d one two run =
    let held : c.held ≡ a.held = two.held ∙ one.held in
    same_then (AgreesRound-same folder a.held) one (same_then (AgreesRound-same folder a.held) two (subst (λ (h : Store). Passes c d (AgreesRound folder h)) held run))

pub round_none : (folder : List ℕ) (a b c : Story) → Passes a b Same → Passes b c Same → Passes a c (AgreesRound folder a.held)
round_none folder a b c one two = same_then (AgreesRound-same folder a.held) one (passes_so (AgreesRound folder a.held) two (λ i j same. subst (AgreesRound folder a.held i) (sym same) (AgreesRound-same folder a.held i)))

-- ---- one after another

-- what matched as the old object does so still
abbrev pub IsSourceThere : MovedRecord → Store → Store → Type 0
IsSourceThere m held now = (lines : List ManifestLine) → Matches held (object_folder m.old_unihash) lines → Matches now (object_folder m.old_unihash) lines

module _ (a b : Hash) (na : IsName a) (nb : IsName b) (ne : a ≢ b) where
  texts_differ : hash_text a ≢ hash_text b
  texts_differ e = ne (same_digest a b na nb e)

  below_never : (x : Hash) → IsName x → (path : List ℕ) → hash_text x ≡ path → 0 < slashes path → ⊥
  below_never x nx path e more = let none = name_slashes x nx in let same = ap slashes e in omega (arith, none, same, more)

  folder_apart : IsApart (object_folder a) (object_folder b)
  folder_apart = record {
    not_folder = λ e. texts_differ (sym (under_same (codes "obj") (hash_text b) (hash_text a) e));
    not_above = λ up. below_never a na (inside (hash_text b) up.0) (under_same (codes "obj") (hash_text a) (inside (hash_text b) up.0) up.1) (let s = slashes_inside (hash_text b) up.0 in omega (arith, s));
    not_under = λ down. below_never b nb (inside (hash_text a) down.0) (under_same (codes "obj") (hash_text b) (inside (hash_text a) down.0) down.1) (let s = slashes_inside (hash_text a) down.0 in omega (arith, s));
  }

  entry_apart : (path : List ℕ) → IsApart (object_folder a) (inside (object_folder b) path)
  entry_apart path = record {
    not_folder = λ e. below_never a na (inside (hash_text b) path) (sym (under_same (codes "obj") (inside (hash_text b) path) (hash_text a) e)) (let s = slashes_inside (hash_text b) path in omega (arith, s));
    not_above = λ up. below_never a na (inside (inside (hash_text b) path) up.0) (under_same (codes "obj") (hash_text a) (inside (inside (hash_text b) path) up.0) up.1) (let s = slashes_inside (inside (hash_text b) path) up.0 in omega (arith, s));
    not_under = λ down. under down.0 (under_same (codes "obj") (inside (hash_text b) path) (inside (hash_text a) down.0) down.1);
  }
    where
      under : (rest : List ℕ) → inside (hash_text b) path ≡ inside (hash_text a) rest → ⊥
      under rest e =
          let la = name_text_length a na in
          let lb = name_text_length b nb in
          let long : length (hash_text b) ≡ length (hash_text a) = omega (arith, la, lb) in
          texts_differ (sym (sym (take-append_seam (hash_text b) (47 ∷ path)) ∙ (λ i. take (long i) (e i)) ∙ take-append_seam (hash_text a) (47 ∷ rest)))

  -- an object of another name stays
  pub object_stays : (mid now : Store) (lines : List ManifestLine) → AgreesRound (object_folder a) mid mid now → Matches mid (object_folder b) lines → Matches now (object_folder b) lines
  object_stays mid now lines round m = record {
    tree = m.tree;
    is_tree = m.is_tree;
    holds = record {
      entries = λ path. round.apart (inside (object_folder b) path) (entry_apart path) ∙ m.holds.entries path;
      outside = record { at = round.apart (object_folder b) folder_apart ∙ m.holds.outside.at; above = λ q up. above q up (above_under (codes "obj") (hash_text b) q up) };
    };
    manifest = m.manifest;
  }
    where
      above : (q : List ℕ) → IsBelow q (object_folder b) → IsBelow q (codes "obj") ⊎ ((q ≡ codes "obj") ⊎ ((r : List ℕ) × (q ≡ inside (codes "obj") r) × IsBelow r (hash_text b))) → now q ≡ None
      above q up (inl over) = absurd (let s = slashes_inside q over.0 in let e = ap slashes over.1 in omega (arith, s, e))
      above q up (inr (inl same)) = let none = m.holds.outside.above q up in round.around q (inr (hash_text a, ap (λ (p : List ℕ). inside p (hash_text a)) (sym same))) none ∙ none
      above q up (inr (inr w)) = absurd (below_never b nb (inside w.0 w.2.0) w.2.1 (let s = slashes_inside w.0 w.2.0 in omega (arith, s)))

pub round_within : (name : Hash) (held i j : Store) → AgreesRound (object_folder name) held i j → Within (codes "obj") i j
round_within name held i j round = record {
  others = λ q never. round.apart q (record {
    not_folder = λ e. never (inr (hash_text name, e));
    not_above = λ up. above q never (above_under (codes "obj") (hash_text name) q up);
    not_under = λ down. never (inr (inside (hash_text name) down.0, down.1));
  });
}
  where
    above : (q : List ℕ) → (IsAtOrBelow (codes "obj") q → ⊥) → IsBelow q (codes "obj") ⊎ ((q ≡ codes "obj") ⊎ ((r : List ℕ) × (q ≡ inside (codes "obj") r) × IsBelow r (hash_text name))) → ⊥
    above q never (inl over) = let s = slashes_inside q over.0 in let e = ap slashes over.1 in omega (arith, s, e)
    above q never (inr (inl same)) = never (inl same)
    above q never (inr (inr w)) = never (inr (w.0, w.1))

-- one more record
module _ (rows : List EquivRow) (moved : List MovedRecord) (n : ℕ) (one : MovedRecord) (start mid now : Store) (lt : n < length moved) (is : one ≡ get_or moved n one) (none : AreNoneInTheWay rows moved) (round : AgreesRound (object_folder one.unihash) mid mid now) where
  mine : Contains moved one
  mine = (n, lt, sym is)

  named : (m : MovedRecord) → Contains moved m → IsName m.unihash
  named m has = hash_is_name m.unihash (none.hashes m has).0

  old_named : (m : MovedRecord) → Contains moved m → IsName m.old_unihash
  old_named m has = hash_is_name m.old_unihash (none.hashes m has).1

  pub sources_more : ((m : MovedRecord) → Contains moved m → IsSourceThere m start mid) → (m : MovedRecord) → Contains moved m → IsSourceThere m start now
  sources_more was m has lines matched = object_stays one.unihash m.old_unihash (named one mine) (old_named m has) (none.apart one m mine has) mid now lines round (was m has lines matched)

  pub copied_more : ((m : MovedRecord) → Contains moved m → IsSourceThere m start mid) → ((m : MovedRecord) → Contains (take n moved) m → IsCopied rows m start mid) → IsCopied rows one mid now → KeepsObject rows one mid now → (m : MovedRecord) → Contains (take (n + 1) moved) m → IsCopied rows m start now
  copied_more sources was here kept m has row manifest matched = by (Contains-push_cases (take n moved) one m (subst (λ (l : List MovedRecord). Contains l m) (take_more moved n one lt ∙ ap (λ (x : MovedRecord). take n moved ++ x ∷ []) (sym is)) has))
    where
      front : Contains (take n moved) m → Contains moved m
      front earlier = subst (λ (l : List MovedRecord). Contains l m) (take-append-drop n moved) (Contains-append_left (take n moved) (drop n moved) m earlier)

      by : Contains (take n moved) m ⊎ (one ≡ m) → Matches now (object_folder m.unihash) row.manifest
      by (inr same) = subst (λ (x : MovedRecord). Matches now (object_folder x.unihash) row.manifest) same
          (here row (subst (λ (x : MovedRecord). HasManifest rows x row) (sym same) manifest) (sources one mine row.manifest (subst (λ (x : MovedRecord). Matches start (object_folder x.old_unihash) row.manifest) (sym same) matched)))
      by (inl earlier) = at (path_cases m.unihash.bytes one.unihash.bytes)
        where
          at : (m.unihash.bytes ≡ one.unihash.bytes) ⊎ (m.unihash.bytes ≢ one.unihash.bytes) → Matches now (object_folder m.unihash) row.manifest
          at (inr ne) = object_stays one.unihash m.unihash (named one mine) (named m (front earlier)) (λ e. ne (ap (λ (h : Hash). h.bytes) (sym e))) mid now row.manifest round (was m earlier row manifest matched)
          at (inl bytes) =
              let same : m.unihash ≡ one.unihash = λ i. record { bytes = bytes i } in
              subst (λ (h : Hash). Matches now (object_folder h) row.manifest) (sym same)
              (kept row.manifest (λ other at'. none.one one m other row mine (front earlier) (sym same) at' manifest.is_row) (subst (λ (h : Hash). Matches mid (object_folder h) row.manifest) same (was m earlier row manifest matched)))

pub sources_start : (moved : List MovedRecord) (held : Store) → (m : MovedRecord) → Contains moved m → IsSourceThere m held held
sources_start moved held m has lines matched = matched

pub copied_start : (rows : List EquivRow) (moved : List MovedRecord) (held : Store) (m : MovedRecord) → Contains (take 0 moved) m → IsCopied rows m held held
copied_start rows moved held m has = absurd (let lt = has.1 in omega (arith, lt))

pub copied_all : (rows : List EquivRow) (moved : List MovedRecord) (n : ℕ) (held now : Store) → length moved ≤ n → ((m : MovedRecord) → Contains (take n moved) m → IsCopied rows m held now) → (m : MovedRecord) → Contains moved m → IsCopied rows m held now
copied_all rows moved n held now past was m has = was m (subst (λ (l : List MovedRecord). Contains l m) (sym (take_all n moved past)) has)

-- the record at a place, as code reads it
abbrev pub at_place : List MovedRecord → ℕ → MovedRecord
at_place moved n = get_or moved n (record { old_name = record { bytes = [] }; old_unihash = record { bytes = [] }; name = record { bytes = [] }; unihash = record { bytes = [] } })

pub at_itself : (moved : List MovedRecord) (n : ℕ) → n < length moved → at_place moved n ≡ get_or moved n (at_place moved n)
at_itself moved n lt = get_or_default moved n (record { old_name = record { bytes = [] }; old_unihash = record { bytes = [] }; name = record { bytes = [] }; unihash = record { bytes = [] } }) (at_place moved n) lt

pub never_matched : (folder : List ℕ) (lines : List ManifestLine) (held : Store) (found : Option (List (List ℕ × Entry))) → IsMatching folder lines held found → is_some found ≡ false → Matches held folder lines → ⊥
never_matched folder lines held None m none was = m was
never_matched folder lines held (Some t) m none was = false≢true (sym none)
