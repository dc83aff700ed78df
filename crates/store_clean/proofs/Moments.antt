-- What stands at each moment of a clearing.
use Rattle.std.proofs.Common.{◌≡◌, ◌≢◌, ◌∙◌, sym, ap, subst, refl, arith, ℕ, zero, suc, ◌<◌, ◌≤◌, ◌⊎◌, inl, inr, Bool, true, false, List, [], ◌∷◌, ◌++◌, length, get_or, Option, None, Some}
use Rattle.std.specs.Prelude.{codes, Contains, IsSome, slice_get}
use Rattle.std.specs.Option.{is_some}
use Rattle.std.proofs.lemmas.Bool.{false≢true}
use Rattle.std.proofs.lemmas.Option.{slice_get_within}
use Rattle.tree_model.specs.declared.entry.Entry.{Entry}
use Rattle.tree_model.specs.declared.hash.Hash.{Hash}
use Rattle.tree_model.specs.Hash.{IsHash, hash_text}
use Rattle.tree_model.specs.Path.{IsAtOrBelow, IsBelow, inside}
use Rattle.outside_traits.specs.Store.{Store, slashes}
use Rattle.outside_traits.proofs.Folders.{under_same}
use Rattle.store_model.specs.declared.signature.EquivRow.{EquivRow}
use Rattle.store_model.specs.declared.signature.ShortSig.{ShortSig}
use Rattle.store_model.specs.Available.{object_folder}
use Rattle.store_model.specs.Paths.{key_path, record_path}
use Rattle.store_model.specs.Publication.{stamp_file}
use Rattle.store_model.specs.Readable.{IsHeld, IsRow}
use Rattle.store_model.specs.Spelling.{short_name}
use Rattle.store_opening.proofs.Areas.{differ, heads_differ}
use Rattle.store_opening.proofs.Clean.{short_is_name}
use Rattle.store_opening.proofs.Hexed.{are_bytes, same_short_text}
use Rattle.store_opening.proofs.Slashes.{slashes_inside}
use Rattle.store_keep.specs.Keep.{Names}
use Rattle.store_clean.specs.declared.deciding.Chosen.{Chosen}
use Rattle.store_clean.specs.declared.nodes.Node.{Node}
use Rattle.store_clean.specs.Naming.{RowNames, names_of, place_in}
use Rattle.store_clean.specs.Deciding.{keeps, mark_of}
use Rattle.store_clean.specs.Cleared.{Goes, IsBeside, IsCleared, IsClearing, IsKeptKey, IsKeptObject, NamesGone, Stays, gone_path}
use Rattle.store_clean.specs.Steps.{AreHashes, AreInRounds, AreRounds, HoldsGoneStamp, IsOfKey, IsOfObject, IsReady, IsRecordOf, SweepsAll, SweepsLeft, TakesAway, node_names, round_at}
use Rattle.store_clean.proofs.Known.{one_known, titled_names}
use Rattle.store_clean.proofs.Lists.{among, each_in, place_of, some_one}
use Rattle.store_clean.proofs.Placed.{place_found, place_is}

not_some : (o : Option Entry) → o ≡ None → IsSome o → ⊥
not_some o none some = false≢true (sym (ap is_some none) ∙ some)

some_by : (o p : Option Entry) → o ≡ p → IsSome p → IsSome o
some_by o p e some = subst IsSome (sym e) some

record_not_gone : (path : List ℕ) → inside (codes "rec2") path ≢ gone_path
record_not_gone path e = heads_differ (differ 114 116 refl) e

key_not_gone : (q : List ℕ) → IsBelow (codes "key") q → q ≢ gone_path
key_not_gone q below e = heads_differ (differ 107 116 refl) (sym below.1 ∙ e)

stamp_not_gone : (q : List ℕ) → IsBelow (codes "stamp") q → q ≢ gone_path
stamp_not_gone q below e = heads_differ (differ 115 116 refl) (sym below.1 ∙ e)

name_hash : (s : ShortSig) → IsHash (short_name s)
name_hash s = let n = short_is_name s in record { size = n.size; bytes = are_bytes (short_name s).bytes n.bytes }

-- nothing is a name's text of a record's name but that
pub text_of_row : (row : EquivRow) (known : IsRow row) → row.name ≡ short_name known.stored.sig
text_of_row row known = ap (λ (r : EquivRow). r.name) known.is

pub same_name : (row other : EquivRow) → IsRow row → IsRow other → record_path row.name ≡ record_path other.name → row.name ≡ other.name
same_name row other a b e =
    let text : hash_text row.name ≡ hash_text other.name = under_same (codes "rec2") (hash_text row.name) (hash_text other.name) e in
    text_of_row row a ∙ same_short_text a.stored.sig b.stored.sig (ap hash_text (sym (text_of_row row a)) ∙ text ∙ ap hash_text (text_of_row other b)) ∙ sym (text_of_row other b)

module _ (rows : List EquivRow) (nodes : List Node) (chosen : Chosen) (held : Store) (ready : IsReady rows nodes chosen held) where
  abbrev keep : Hash → Bool
  keep = keeps rows chosen.marks.items

  abbrev marks : List Bool
  marks = chosen.marks.items

  names_are : node_names nodes ≡ names_of rows
  names_are = titled_names rows nodes ready.titled

  name_at : (rs : List EquivRow) (v : ℕ) (row : EquivRow) → slice_get rs v ≡ Some row → slice_get (names_of rs) v ≡ Some row.name
  name_at [] v row e = absurd cc
  name_at (r ∷ rs) zero row e = let same : r ≡ row = cc in ap (λ (x : EquivRow). Some x.name) same
  name_at (r ∷ rs) (suc v) row e = name_at rs v row e

  row_of_name : (rs : List EquivRow) (v : ℕ) (name : Hash) → slice_get (names_of rs) v ≡ Some name → (row : EquivRow) × (slice_get rs v ≡ Some row) × (row.name ≡ name)
  row_of_name [] v name e = absurd cc
  row_of_name (r ∷ rs) zero name e = (r, refl, (let same : r.name ≡ name = cc in same))
  row_of_name (r ∷ rs) (suc v) name e = row_of_name rs v name e

  distinct : (v w : ℕ) (a : Hash) → slice_get (names_of rows) v ≡ Some a → slice_get (names_of rows) w ≡ Some a → v ≡ w
  distinct v w a at_v at_w =
      let x = row_of_name rows v a at_v in
      let y = row_of_name rows w a at_w in
      ready.differ v w x.0 y.0 x.1 y.1 (x.2 ∙ sym y.2)

  -- whether a row's record stays says the mark at its place
  keep_at : (v : ℕ) (row : EquivRow) → slice_get rows v ≡ Some row → keep row.name ≡ get_or marks v false
  keep_at v row e = ap (mark_of marks) (place_is (names_of rows) distinct row.name v (name_at rows v row e))

  row_held : (row : EquivRow) → Contains rows row → IsHeld held row
  row_held row has = each_in (IsHeld held) rows row ready.records has

  held_some : (row : EquivRow) → Contains rows row → IsSome (held (record_path row.name))
  held_some row has = subst IsSome (sym (row_held row has).held) refl

  -- what a record that stays names stays
  names_stay : (row other : EquivRow) → Contains rows row → Contains rows other → RowNames row other.name → keep row.name ≡ true → keep other.name ≡ true
  names_stay row other has has_other named kept =
      let v = place_of rows row has in
      let w = place_of rows other has_other in
      elim (ready.named v.0 w.0 row other v.1 w.1 named) [
        | inl same ↦
            let one : row ≡ other = some_one (slice_get rows w.0) row other (ap (slice_get rows) (sym same) ∙ v.1) w.1 in
            ap (λ (r : EquivRow). keep r.name) (sym one) ∙ kept
        | inr n ↦ keep_at w.0 other w.1 ∙ ready.closed v.0 w.0 (sym (keep_at v.0 row v.1) ∙ kept) n
      ]

  -- ---- stamps

  gone_stamp : (q : List ℕ) (h : Store) → HoldsGoneStamp (node_names nodes) marks h q → NamesGone rows keep (h q)
  gone_stamp q h s =
      let place : place_in (names_of rows) s.stamp.name ≡ Some s.stamp.place = subst (λ (l : List Hash). place_in l s.stamp.name ≡ Some s.stamp.place) names_are s.stamp.stands in
      let r = row_of_name rows s.stamp.place s.stamp.name (place_found (names_of rows) s.stamp.name s.stamp.place place) in
      record {
        row = r.0;
        goes = record { among = among rows s.stamp.place r.0 r.1; gone = keep_at s.stamp.place r.0 r.1 ∙ s.stamp.gone };
        is = s.here ∙ ap (λ (e : Entry). Some e) (s.stamp.is ∙ ap stamp_file (sym r.2));
      }

  -- ... and a stamp that names a record that goes is such a stamp
  pub stamp_gone : (q : List ℕ) (h : Store) → IsBelow (codes "stamp") q → NamesGone rows keep (h q) → HoldsGoneStamp (node_names nodes) marks h q
  stamp_gone q h below n =
      let v = place_of rows n.row n.goes.among in
      let known = (row_held n.row n.goes.among).known in
      let at : place_in (names_of rows) n.row.name ≡ Some v.0 = place_is (names_of rows) distinct n.row.name v.0 (name_at rows v.0 n.row v.1) in
      record {
        under = (below.0, below.1);
        entry = stamp_file n.row.name;
        here = n.is;
        stamp = record {
          name = n.row.name;
          is_hash = subst IsHash (sym (text_of_row n.row known)) (name_hash known.stored.sig);
          place = v.0;
          stands = subst (λ (l : List Hash). place_in l n.row.name ≡ Some v.0) (sym names_are) at;
          gone = sym (keep_at v.0 n.row v.1) ∙ n.goes.gone;
          is = refl;
        };
      }

  stamp_under : (q : List ℕ) (h : Store) → HoldsGoneStamp (node_names nodes) marks h q → IsBelow (codes "stamp") q
  stamp_under q h s = (s.under.0, s.under.1)

  -- what is left of the stamps, and all else
  module _ (image : Store) (takes : TakesAway (HoldsGoneStamp (node_names nodes) marks held) held image) where
    pub stamps_record : (path : List ℕ) → image (inside (codes "rec2") path) ≡ held (inside (codes "rec2") path)
    stamps_record path = elim (takes.taken (inside (codes "rec2") path) (record_not_gone path)) [
      | inl same ↦ same
      | inr w ↦ absurd (heads_differ (differ 114 115 refl) w.0.under.1)
    ]

    stamps_key : (name : Hash) → image (key_path name) ≡ held (key_path name)
    stamps_key name = elim (takes.taken (key_path name) (key_not_gone (key_path name) (hash_text name, refl))) [
      | inl same ↦ same
      | inr w ↦ absurd (heads_differ (differ 107 115 refl) w.0.under.1)
    ]

    pub stamps_clearing : IsClearing rows keep held image
    stamps_clearing = record {
      beside = λ q b. elim (takes.taken q b.temporary) [
        | inl same ↦ same
        | inr w ↦ absurd (b.stamps (stamp_under q held w.0) (gone_stamp q held w.0))
      ];
      records = λ path. inl (stamps_record path);
      closed = λ row other has has_other named some. some_by (image (record_path other.name)) (held (record_path other.name)) (stamps_record (hash_text other.name)) (held_some other has_other);
      keys = λ row has some known. stamps_key known.stored.sig.key;
      stamps = λ q below. elim (takes.taken q (stamp_not_gone q below)) [
        | inl same ↦ inl same
        | inr w ↦ inr (gone_stamp q held w.0, w.1)
      ];
    }

  -- ---- records

  -- the node at a place is the row's there
  node_row : (p : ℕ) (node : Node) → slice_get nodes p ≡ Some node → (row : EquivRow) × (slice_get rows p ≡ Some row) × (node.name ≡ row.name)
  node_row p node e =
      let at = item rows p (omega (arith, slice_get_within nodes p node e, ready.titled.long)) in
      let w = ready.titled.each p at.0 at.1 in
      (at.0, at.1, ap (λ (x : Node). x.name) (some_one (slice_get nodes p) node w.0 e w.1) ∙ w.2.name)
    where
      item : (rs : List EquivRow) (k : ℕ) → k < length rs → (x : EquivRow) × (slice_get rs k ≡ Some x)
      item [] k lt = absurd (omega (arith, lt))
      item (r ∷ rs) zero lt = (r, refl)
      item (r ∷ rs) (suc k) lt = item rs k (omega (arith, lt))

  module _ (rounds : List (List ℕ)) (are : AreRounds chosen.edges.items marks rounds) (length_is : length chosen.edges.items ≡ length nodes) where
    -- a record of a round is one that goes
    goes_of : (k : ℕ) (q : List ℕ) → IsRecordOf nodes (round_at rounds k) q → (row : EquivRow) × Goes rows keep row × (q ≡ record_path row.name)
    goes_of k q r =
        let x = node_row r.place r.node r.stands in
        (x.0, record { among = among rows r.place x.0 x.1; gone = keep_at r.place x.0 x.1 ∙ (are.only k r.place r.among).1 }, r.is ∙ ap record_path x.2)

    -- the place of one that goes is in a round
    round_of : (v : ℕ) (row : EquivRow) → slice_get rows v ≡ Some row → keep row.name ≡ false → (k : ℕ) × (k < length rounds) × Contains (round_at rounds k) v
    round_of v row e gone = are.whole v (omega (arith, slice_get_within rows v row e, ready.titled.long, length_is)) (sym (keep_at v row e) ∙ gone)

    record_of : (k v : ℕ) (row : EquivRow) → slice_get rows v ≡ Some row → Contains (round_at rounds k) v → IsRecordOf nodes (round_at rounds k) (record_path row.name)
    record_of k v row e has =
        let w = ready.titled.each v row e in
        record { place = v; among = has; node = w.0; stands = w.1; is = ap record_path (sym w.2.name) }

    -- the place of a record that is of a round
    place_is_of : (k v : ℕ) (row : EquivRow) → slice_get rows v ≡ Some row → IsRecordOf nodes (round_at rounds k) (record_path row.name) → Contains (round_at rounds k) v
    place_is_of k v row e r =
        let x = node_row r.place r.node r.stands in
        let same : row.name ≡ x.0.name = same_name row x.0 (row_held row (among rows v row e)).known (row_held x.0 (among rows r.place x.0 x.1)).known (r.is ∙ ap record_path x.2) in
        subst (Contains (round_at rounds k)) (sym (ready.differ v r.place row x.0 e x.1 same)) r.among

    module _ (mid image : Store) (takes : TakesAway (HoldsGoneStamp (node_names nodes) marks held) held mid) (in_rounds : AreInRounds nodes rounds mid image) where
      -- a record that stays is there
      kept_there : (row : EquivRow) → Contains rows row → keep row.name ≡ true → image (record_path row.name) ≡ held (record_path row.name)
      kept_there row has kept = elim (in_rounds.taken (record_path row.name) (record_not_gone (hash_text row.name))) [
        | inl same ↦ same ∙ stamps_record mid takes (hash_text row.name)
        | inr w ↦
            let g = goes_of w.0 (record_path row.name) w.2 in
            let same : row.name ≡ g.0.name = same_name row g.0 (row_held row has).known (row_held g.0 g.1.among).known g.2 in
            absurd (false≢true (sym g.1.gone ∙ ap keep (sym same) ∙ kept))
      ]

      rounds_beside : (q : List ℕ) → IsBeside rows keep held q → image q ≡ held q
      rounds_beside q b = elim (in_rounds.taken q b.temporary) [
        | inl same ↦ same ∙ (stamps_clearing mid takes).beside q b
        | inr w ↦ let g = goes_of w.0 q w.2 in absurd (b.records g.0 g.1 g.2)
      ]

      record_or : (path : List ℕ) → (image (inside (codes "rec2") path) ≡ held (inside (codes "rec2") path)) ⊎ (image (inside (codes "rec2") path) ≡ None)
      record_or path = elim (in_rounds.taken (inside (codes "rec2") path) (record_not_gone path)) [
        | inl same ↦ inl (same ∙ stamps_record mid takes path)
        | inr w ↦ inr w.3
      ]

      elsewhere : (q : List ℕ) → ((path : List ℕ) → q ≢ inside (codes "rec2") path) → q ≢ gone_path → image q ≡ mid q
      elsewhere q not_record ne = elim (in_rounds.taken q ne) [
        | inl same ↦ same
        | inr w ↦ absurd (not_record (hash_text w.2.node.name) w.2.is)
      ]

      rounds_key : (name : Hash) → image (key_path name) ≡ held (key_path name)
      rounds_key name = elsewhere (key_path name) (λ path e. heads_differ (differ 107 114 refl) e) (key_not_gone (key_path name) (hash_text name, refl)) ∙ stamps_key mid takes name

      pub stamp_as : (q : List ℕ) → IsBelow (codes "stamp") q → image q ≡ mid q
      stamp_as q below = elsewhere q (λ path e. heads_differ (differ 115 114 refl) (sym below.1 ∙ e)) (stamp_not_gone q below)

      pub key_as : (q : List ℕ) → IsBelow (codes "key") q → image q ≡ held q
      key_as q below = elsewhere q (λ path e. heads_differ (differ 107 114 refl) (sym below.1 ∙ e)) (key_not_gone q below) ∙ elim (takes.taken q (key_not_gone q below)) [
        | inl same ↦ same
        | inr w ↦ absurd (heads_differ (differ 107 115 refl) (sym below.1 ∙ w.0.under.1))
      ]

      -- what a record that is there names is there
      closed_goes : (v w : ℕ) (row other : EquivRow) → slice_get rows v ≡ Some row → slice_get rows w ≡ Some other → keep row.name ≡ false → keep other.name ≡ false → Names chosen.edges.items v w → IsSome (image (record_path row.name)) → IsSome (image (record_path other.name))
      closed_goes v w row other at_v at_w gone gone_other named some = by (in_rounds.taken (record_path other.name) (record_not_gone (hash_text other.name)))
        where
          own : (k : ℕ) × (k < length rounds) × Contains (round_at rounds k) v
          own = round_of v row at_v gone

          -- its round isn't above the one that goes
          not_above : in_rounds.round < own.0 → ⊥
          not_above lt = not_some (image (record_path row.name)) (in_rounds.above own.0 (record_path row.name) lt (record_of own.0 v row at_v own.2)) some

          by : (image (record_path other.name) ≡ mid (record_path other.name)) ⊎ ((k : ℕ) × (in_rounds.round ≤ k) × IsRecordOf nodes (round_at rounds k) (record_path other.name) × (image (record_path other.name) ≡ None)) → IsSome (image (record_path other.name))
          by (inl same) = some_by (image (record_path other.name)) (held (record_path other.name)) (same ∙ stamps_record mid takes (hash_text other.name)) (held_some other (among rows w other at_w))
          by (inr x) =
              let below = are.falls own.0 x.0 v w own.2 (place_is_of x.0 w other at_w x.2) named in
              let above = x.1 in
              absurd (not_above (omega (arith, below, above)))

      rounds_closed : (row other : EquivRow) → Contains rows row → Contains rows other → RowNames row other.name → IsSome (image (record_path row.name)) → IsSome (image (record_path other.name))
      rounds_closed row other has has_other named some = by (keep other.name) refl (keep row.name) refl
        where
          v : (k : ℕ) × (slice_get rows k ≡ Some row)
          v = place_of rows row has

          w : (k : ℕ) × (slice_get rows k ≡ Some other)
          w = place_of rows other has_other

          by : (a : Bool) → keep other.name ≡ a → (b : Bool) → keep row.name ≡ b → IsSome (image (record_path other.name))
          by true kept b e = some_by (image (record_path other.name)) (held (record_path other.name)) (kept_there other has_other kept) (held_some other has_other)
          by false gone true kept = absurd (false≢true (sym gone ∙ names_stay row other has has_other named kept))
          by false gone false away = elim (ready.named v.0 w.0 row other v.1 w.1 named) [
            | inl same ↦
                let one : row ≡ other = some_one (slice_get rows w.0) row other (ap (slice_get rows) (sym same) ∙ v.1) w.1 in
                subst (λ (r : EquivRow). IsSome (image (record_path r.name))) one some
            | inr n ↦ closed_goes v.0 w.0 row other v.1 w.1 away gone n some
          ]

      pub rounds_clearing : IsClearing rows keep held image
      rounds_clearing = record {
        beside = rounds_beside;
        records = record_or;
        closed = rounds_closed;
        keys = λ row has some known. rounds_key known.stored.sig.key;
        stamps = λ q below. elim ((stamps_clearing mid takes).stamps q below) [
          | inl same ↦ inl (stamp_as q below ∙ same)
          | inr s ↦ inr (s.0, stamp_as q below ∙ s.1)
        ];
      }

      -- where all rounds went, no record is there that goes
      pub all_gone : ((k : ℕ) (q : List ℕ) → k < length rounds → IsRecordOf nodes (round_at rounds k) q → image q ≡ None) → (row : EquivRow) → Goes rows keep row → image (record_path row.name) ≡ None
      all_gone gone row goes =
          let v = place_of rows row goes.among in
          let k = round_of v.0 row v.1 goes.gone in
          gone k.0 (record_path row.name) k.1 (record_of k.0 v.0 row v.1 k.2)

  -- ---- objects and keys

  module _ (mid image : Store) (was : IsClearing rows keep held mid) (gone : (row : EquivRow) → Goes rows keep row → mid (record_path row.name) ≡ None) (sweeps : SweepsAll nodes marks mid image) where
    node_known : (v : ℕ) (row : EquivRow) (known : IsRow row) → slice_get rows v ≡ Some row → (node : Node) × (slice_get nodes v ≡ Some node) × (node.key ≡ known.stored.sig.key)
    node_known v row known e =
        let w = ready.nodes_are.each v row e in
        (w.0, w.1, w.2.of.key ∙ ap (λ s. s.sig.key) (one_known row w.2.known known))

    hashes : AreHashes nodes
    hashes = record { each = λ p node e. by p node e (node_row p node e) }
      where
        by : (p : ℕ) (node : Node) → slice_get nodes p ≡ Some node → (row : EquivRow) × (slice_get rows p ≡ Some row) × (node.name ≡ row.name) → IsHash node.unihash × IsHash node.key
        by p node e r =
            let known = (row_held r.0 (among rows p r.0 r.1)).known in
            let t = ready.titled.each p r.0 r.1 in
            let k = node_known p r.0 known r.1 in
            let unihash : node.unihash ≡ known.stored.unihash = ap (λ (x : Node). x.unihash) (some_one (slice_get nodes p) node t.0 e t.1) ∙ t.2.unihash ∙ ap (λ (x : EquivRow). x.unihash) known.is in
            let key : node.key ≡ known.stored.sig.key = ap (λ (x : Node). x.key) (some_one (slice_get nodes p) node k.0 e k.1) ∙ k.2 in
            (subst IsHash (sym unihash) known.spelled.unihash, subst IsHash (sym key) known.spelled.key)

    -- what a record that stays needs isn't swept
    object_of : (q : List ℕ) → IsKeptObject rows keep q → IsOfObject nodes marks q
    object_of q o =
        let v = place_of rows o.row o.stays.among in
        let t = ready.titled.each v.0 o.row v.1 in
        record { place = v.0; node = t.0; marked = sym (keep_at v.0 o.row v.1) ∙ o.stays.kept; stands = t.1; at = subst (λ (h : Hash). IsAtOrBelow (codes "obj/" ++ hash_text h) q) (sym t.2.unihash) o.at }

    key_of : (q : List ℕ) → IsKeptKey rows keep q → IsOfKey nodes marks q
    key_of q k =
        let v = place_of rows k.row k.stays.among in
        let t = node_known v.0 k.row k.known v.1 in
        record { place = v.0; node = t.0; marked = sym (keep_at v.0 k.row v.1) ∙ k.stays.kept; stands = t.1; at = inl (k.at ∙ ap key_path (sym t.2)) }

    pub swept : (q : List ℕ) → (IsBelow (codes "obj") q → IsKeptObject rows keep q) → (IsBelow (codes "key") q → IsKeptKey rows keep q) → q ≢ gone_path → image q ≡ mid q
    swept q objects keys ne = sweeps.others hashes q (λ b. object_of q (objects (b.0, b.1))) (λ b. key_of q (keys (b.0, b.1))) ne

    swept_record : (path : List ℕ) → image (inside (codes "rec2") path) ≡ mid (inside (codes "rec2") path)
    swept_record path = swept (inside (codes "rec2") path) (λ b. absurd (heads_differ (differ 114 111 refl) b.1)) (λ b. absurd (heads_differ (differ 114 107 refl) b.1)) (record_not_gone path)

    swept_stamp : (q : List ℕ) → IsBelow (codes "stamp") q → image q ≡ mid q
    swept_stamp q below = swept q (λ b. absurd (heads_differ (differ 115 111 refl) (sym below.1 ∙ b.1))) (λ b. absurd (heads_differ (differ 115 107 refl) (sym below.1 ∙ b.1))) (stamp_not_gone q below)

    -- a record that is there stays
    there_stays : (row : EquivRow) → Contains rows row → IsSome (image (record_path row.name)) → Stays rows keep row
    there_stays row has some = by (keep row.name) refl
      where
        by : (b : Bool) → keep row.name ≡ b → Stays rows keep row
        by true e = record { among = has; kept = e }
        by false e = absurd (not_some (image (record_path row.name)) (swept_record (hash_text row.name) ∙ gone row (record { among = has; gone = e })) some)

    back_there : (row : EquivRow) → IsSome (image (record_path row.name)) → IsSome (mid (record_path row.name))
    back_there row some = subst IsSome (swept_record (hash_text row.name)) some

    swept_key : (row : EquivRow) → Contains rows row → IsSome (image (record_path row.name)) → (known : IsRow row) → image (key_path known.stored.sig.key) ≡ mid (key_path known.stored.sig.key)
    swept_key row has some known =
        let q = key_path known.stored.sig.key in
        swept q (λ b. absurd (heads_differ (differ 107 111 refl) b.1)) (λ b. record { row = row; stays = there_stays row has some; known = known; at = refl }) (key_not_gone q (hash_text known.stored.sig.key, refl))

    pub swept_clearing : IsClearing rows keep held image
    swept_clearing = record {
      beside = λ q b. swept q b.objects b.keys b.temporary ∙ was.beside q b;
      records = λ path. elim (was.records path) [
        | inl same ↦ inl (swept_record path ∙ same)
        | inr none ↦ inr (swept_record path ∙ none)
      ];
      closed = λ row other has has_other named some. subst IsSome (sym (swept_record (hash_text other.name))) (was.closed row other has has_other named (back_there row some));
      keys = λ row has some known. swept_key row has some known ∙ was.keys row has (back_there row some) known;
      stamps = λ q below. elim (was.stamps q below) [
        | inl same ↦ inl (swept_stamp q below ∙ same)
        | inr s ↦ inr (s.0, swept_stamp q below ∙ s.1)
      ];
    }

    -- ---- the end

    -- what is left under `obj/` a record names that stays
    object_left : (q : List ℕ) → IsOfObject nodes marks q → IsKeptObject rows keep q
    object_left q o =
        let r = node_row o.place o.node o.stands in
        let t = ready.titled.each o.place r.0 r.1 in
        let unihash : o.node.unihash ≡ r.0.unihash = ap (λ (x : Node). x.unihash) (some_one (slice_get nodes o.place) o.node t.0 o.stands t.1) ∙ t.2.unihash in
        record { row = r.0; stays = record { among = among rows o.place r.0 r.1; kept = keep_at o.place r.0 r.1 ∙ o.marked }; at = subst (λ (h : Hash). IsAtOrBelow (object_folder h) q) unihash o.at }

    -- what is at a key's place or below it, and was held, is the key
    key_left : (q : List ℕ) → IsOfKey nodes marks q → IsSome (held q) → IsKeptKey rows keep q
    key_left q k some =
        let r = node_row k.place k.node k.stands in
        let known = (row_held r.0 (among rows k.place r.0 r.1)).known in
        let t = node_known k.place r.0 known r.1 in
        let key : k.node.key ≡ known.stored.sig.key = ap (λ (x : Node). x.key) (some_one (slice_get nodes k.place) k.node t.0 k.stands t.1) ∙ t.2 in
        record {
          row = r.0;
          stays = record { among = among rows k.place r.0 r.1; kept = keep_at k.place r.0 r.1 ∙ k.marked };
          known = known;
          at = at_key known.stored.sig.key (subst (λ (h : Hash). IsAtOrBelow (key_path h) q) key k.at);
        }
      where
        at_key : (h : Hash) → IsAtOrBelow (key_path h) q → q ≡ key_path h
        at_key h (inl same) = same
        at_key h (inr below) = absurd (no_slash (ready.laid_out.keys (inside (hash_text h) below.0) (subst (λ (p : List ℕ). IsSome (held p)) below.1 some)))
          where
            no_slash : slashes (inside (hash_text h) below.0) ≡ 0 → ⊥
            no_slash e = let n = slashes_inside (hash_text h) below.0 in omega (arith, e, n)

    pub all_cleared : SweepsLeft nodes marks image → ((q : List ℕ) → IsBelow (codes "stamp") q → NamesGone rows keep (mid q) → ⊥) → ((q : List ℕ) → IsBelow (codes "key") q → mid q ≡ held q) → IsCleared rows keep held image
    all_cleared left stamps keys = record {
      moment = swept_clearing;
      records = λ row goes. swept_record (hash_text row.name) ∙ gone row goes;
      stamps = λ q below named. stamps q below (subst (NamesGone rows keep) (swept_stamp q below) named);
      objects = λ q below some. object_left q (left.objects q (below.0, below.1) some);
      keys = λ q below some.
          let of = left.keys q (below.0, below.1) some in
          key_left q of (subst IsSome (sweeps.others hashes q (λ b. absurd (heads_differ (differ 107 111 refl) (sym below.1 ∙ b.1))) (λ b. of) (key_not_gone q below) ∙ keys q below) some);
      temporary = left.gone;
    }
