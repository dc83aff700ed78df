-- One record is moved.
use Rattle.std.proofs.Common.{◌≡◌, ◌∙◌, sym, ap, refl, subst, ℕ, Bool, true, false, cond, List, [], ◌∷◌, ◌++◌, map, append_assoc, Option, Some, None, ◌⊎◌, inl, inr}
use Rattle.std.specs.Prelude.{find}
use Rattle.std.specs.List.{AllZip}
use Rattle.std.specs.Option.{option_map, option_or}
use Rattle.std.proofs.lemmas.List.{map-append}
use Rattle.std.proofs.lemmas.List.Folds.{find-append}
use Rattle.sha2.specs.Sha256.{sha256}
use Rattle.tree_model.specs.declared.hash.Hash.{Hash}
use Rattle.tree_model.specs.declared.manifest.ManifestLine.{ManifestLine}
use Rattle.meta_model.specs.declared.value.Key.{Key}
use Rattle.record_move.specs.declared.records.OldRecord.{OldRecord}
use Rattle.store_model.specs.declared.signature.DepLine.{DepLine}
use Rattle.store_model.specs.declared.signature.EquivRow.{EquivRow}
use Rattle.store_model.specs.declared.signature.SigRecord.{SigRecord}
use Rattle.store_model.specs.declared.signature.StoredSig.{StoredSig}
use Rattle.store_model.specs.Origins.{Book, Line}
use Rattle.store_model.specs.Rows.{hash_eq, hash_or, row_at}
use Rattle.store_model.specs.Sound.{IsSignature}
use Rattle.store_model.specs.Spelled.{IsSpelled}
use Rattle.store_model.specs.Valid.{StandsIn, stored_of}
use Rattle.store_model.proofs.Listing.{find_splits, hash_same}
use Rattle.store_model.proofs.Standing.{split_last}
use Rattle.store_model.specs.Spelling.{key_bytes, name_of, short_bytes, short_of, signature_bytes, text_name}
use Rattle.store_model.proofs.Reading.{short_of_whole}
use Rattle.store_move.specs.Formats.{Format, HasNoneNamed, row_of, rows_of}
use Rattle.store_move.specs.Moves.{is_named, IsClear, line_at, Move, moved_by, moved_dep, moved_line, moved_sig, Pair, present, step, unihash_in}
use Rattle.store_move.proofs.Renames.{still_spelled}
use Rattle.store_move.proofs.Places.{row_found, row_none, row_of_line}
use Rattle.record_move.specs.declared.adding.Adding.{Adding as AddingNow}
use Rattle.record_move.specs.declared.fault.MoveFault.{MoveFault}
use Rattle.record_move.specs.declared.fault.MoveFault.TheVariants.{Collision, KeyCollision, Memory}
use Rattle.record_move.specs.declared.moving.Moving.{Moving as MovingNow}
use Rattle.record_move.specs.declared.records.AddedRecord.{AddedRecord}
use Rattle.record_move.specs.declared.records.MovedRecord.{MovedRecord}
use Rattle.record_move.specs.Adding.{AreRoundsOf, HasStood, IsAdded, IsOther, Stands, made_row, made_stored}
use Rattle.record_move.specs.Faults.{IsFaultAt, IsKeyFault}
use Rattle.record_move.specs.Going.{IsGoing, new_name}
use Rattle.record_move.specs.Known.{IsKnown, KnowsKey}
use Rattle.record_move.specs.Moved.{IsLineOf, IsMoveOf, IsPairOf, StandWell}
use Rattle.record_move.specs.Named.{PutsFirst, dep_by, sig_by, value_at}
use Rattle.record_move.specs.Rounds.{AreRounds, IsAddedAs, round_for, round_of}
use Rattle.record_move.proofs.Keeping.{known_further}
use Rattle.record_move.proofs.Reading.{one_signature}

-- ---- names

by_name : (name : Hash) (o : Option Pair) → hash_or name (new_name o) ≡ unihash_in name o
by_name name None = refl
by_name name (Some pair) = refl

-- needed tasks get the names that the move says
pub deps_are : (from : Format) (pairs : List Pair) (names : List (List ℕ × Hash)) → ((name : Hash) → value_at names name ≡ new_name (find (is_named from name) pairs)) → (deps : List DepLine) → map (dep_by names) deps ≡ map (moved_dep from pairs) deps
deps_are from pairs names are [] = refl
deps_are from pairs names are (dep ∷ deps) =
    let name = ap (hash_or dep.name) (are dep.name) ∙ by_name dep.name (find (is_named from dep.name) pairs) in
    λ i. record { pn = dep.pn; task = dep.task; name = name i } ∷ deps_are from pairs names are deps i

pub sig_is : (from : Format) (start : Book) (move : Move) (m : MovingNow) (line : Line) (stored : StoredSig) → IsGoing from start move m → stored_of line ≡ stored → sig_by m.names.entries stored.sig ≡ moved_sig from move.pairs line.sig
sig_is from start move m line stored going is =
    ap (λ (s : StoredSig). sig_by m.names.entries s.sig) (sym is)
    ∙ (λ i. record { pn = line.sig.pn; task = line.sig.task; key = line.sig.key; files = line.sig.files; deps = deps_are from move.pairs m.names.entries going.names line.sig.deps i })

-- one name more
names_more : (from : Format) (pairs : List Pair) (names now : List (List ℕ × Hash)) (old_name unihash : Hash) (pair : Pair) → ((name : Hash) → value_at names name ≡ new_name (find (is_named from name) pairs)) → PutsFirst names now old_name unihash
    → old_name ≡ from.name_of pair.old.sig → unihash ≡ pair.new.unihash → (name : Hash) → value_at now name ≡ new_name (find (is_named from name) (pairs ++ pair ∷ []))
names_more from pairs names now old_name unihash pair are puts named is name =
    puts name
    ∙ ap (λ (o : Option Hash). option_or o (cond (hash_eq old_name name) (Some unihash) None)) (are name)
    ∙ (λ i. option_or (new_name (find (is_named from name) pairs)) (cond (hash_eq (named i) name) (Some (is i)) None))
    ∙ or_name (find (is_named from name) pairs) (hash_eq (from.name_of pair.old.sig) name)
    ∙ sym (ap new_name (find-append (is_named from name) pairs (pair ∷ [])))
  where
    or_name : (o : Option Pair) (b : Bool) → option_or (new_name o) (cond b (Some pair.new.unihash) None) ≡ new_name (option_or o (cond b (Some pair) None))
    or_name None true = refl
    or_name None false = refl
    or_name (Some x) b = refl

-- ---- lists side by side

pub zip_push : {A B : Type 0} (R : A → B → Type 0) (xs : List A) (ys : List B) (x : A) (y : B) → AllZip R xs ys → R x y → AllZip R (xs ++ x ∷ []) (ys ++ y ∷ [])
zip_push R [] [] x y all one = (one, tt)
zip_push R [] (b ∷ ys) x y all one = absurd all
zip_push R (a ∷ xs) [] x y all one = absurd all
zip_push R (a ∷ xs) (b ∷ ys) x y all one = (all.0, zip_push R xs ys x y all.1 one)

-- what stands in a list with one item more stands in the list, or is that item
last_or_before : (xs before rest : List AddedRecord) (last x : AddedRecord) → xs ++ last ∷ [] ≡ before ++ x ∷ rest → ((before ≡ xs) × (x ≡ last)) ⊎ ((more : List AddedRecord) × (xs ≡ before ++ x ∷ more))
last_or_before [] [] rest last x e = inl (refl, let one : x ≡ last = cc in one)
last_or_before [] (b ∷ []) rest last x e = absurd (cc)
last_or_before [] (b ∷ (b2 ∷ before)) rest last x e = absurd (cc)
last_or_before (a ∷ xs) [] rest last x e = inr (xs, let one : a ≡ x = cc in ap (λ (y : AddedRecord). y ∷ xs) one)
last_or_before (a ∷ xs) (b ∷ before) rest last x e =
    let first : a ≡ b = cc in
    let tail : xs ++ last ∷ [] ≡ before ++ x ∷ rest = cc in
    elim (last_or_before xs before rest last x tail) [
      | inl p ↦ inl ((λ i. sym first i ∷ p.0 i), p.1)
      | inr q ↦ inr (q.0, λ i. first i ∷ q.1 i)
    ]

rounds_more : (added : List AddedRecord) (a : AddedRecord) → AreRounds added → a.round ≡ round_for added a.stored → AreRounds (added ++ a ∷ [])
rounds_more added a are is before rest x e = elim (last_or_before added before rest a x e) [
  | inl p ↦ ap (λ (y : AddedRecord). y.round) p.1 ∙ is ∙ (λ i. round_for (sym p.0 i) (sym p.1 i).stored)
  | inr q ↦ are before q.0 x q.1
]

-- ---- rows and lines

row_is : (book : Book) (name : Hash) → row_at (rows_of present book) name ≡ option_map (row_of present) (line_at present book name)
row_is [] name = refl
row_is (line ∷ book) name = by (hash_eq (name_of line.sig) name) refl (row_is book name)
  where
    by : (b : Bool) → hash_eq (name_of line.sig) name ≡ b → row_at (rows_of present book) name ≡ option_map (row_of present) (line_at present book name) → row_at (rows_of present (line ∷ book)) name ≡ option_map (row_of present) (line_at present (line ∷ book) name)
    by true e rest = rw e refl
    by false e rest = rw e rest

-- ---- one step

module _ (from : Format) (start : Book) (move : Move) (m : MovingNow) (line : Line) (going : IsGoing from start move m) where
  abbrev Made : Line
  Made = moved_line from present move line

  abbrev Next : Move
  Next = step from present move line

  -- what is told behind it
  pub record IsStep (rows : List EquivRow) (adding : AddingNow) (names : List (List ℕ × Hash)) (records : List MovedRecord) : Type 0 where
    pub told : IsMoveOf from start Next rows records adding.added.items
    pub names_are : (name : Hash) → value_at names name ≡ new_name (find (is_named from name) Next.pairs)
    pub rounds_are : AreRoundsOf adding.added.items adding.rounds.entries

  module _ (rows : List EquivRow) (adding : AddingNow) (names : List (List ℕ × Hash)) (records : List MovedRecord) (unihash old_name : Hash) (puts : PutsFirst m.names.entries names old_name unihash) (named : old_name ≡ from.name_of line.sig)
      (told : records ≡ m.records.items ++ record { old_name = old_name; old_unihash = line.unihash; name = name_of Made.sig; unihash = unihash } ∷ []) where
    pair_told : (pair : Pair) → pair.old ≡ line → name_of pair.new.sig ≡ name_of Made.sig → unihash ≡ pair.new.unihash → AllZip (IsPairOf from) (move.pairs ++ pair ∷ []) records
    pair_told pair old name is = subst (AllZip (IsPairOf from) (move.pairs ++ pair ∷ [])) (sym told) (zip_push (IsPairOf from) move.pairs m.records.items pair _ going.told.each (record {
      old_name = named ∙ ap (λ (l : Line). from.name_of l.sig) (sym old);
      old_unihash = ap (λ (l : Line). l.unihash) (sym old);
      name = sym name;
      unihash = is;
    }))

    stood : HasStood m.rows Made.sig unihash → rows ≡ m.rows → adding.added.items ≡ m.adding.added.items → adding.rounds.entries ≡ m.adding.rounds.entries → IsStep rows adding names records
    stood s rows_same added_same rounds_same = by (line_at present move.book (name_of Made.sig)) refl
      where
        row_found_is : row_at (rows_of present move.book) (name_of Made.sig) ≡ Some s.row
        row_found_is = ap (λ (r : List EquivRow). row_at r (name_of Made.sig)) (sym going.told.rows_are) ∙ s.found

        by : (o : Option Line) → line_at present move.book (name_of Made.sig) ≡ o → IsStep rows adding names records
        by None none = absurd (let bad : Some s.row ≡ None = sym row_found_is ∙ row_is move.book (name_of Made.sig) ∙ ap (option_map (row_of present)) none in cc)
        by (Some held) some =
            let pair : Pair = record { old = line; new = held } in
            let next : Next ≡ record { pairs = move.pairs ++ pair ∷ []; book = move.book } = ap (moved_by move line Made) some in
            let rows_one : Some s.row ≡ Some (row_of present held) = sym row_found_is ∙ row_is move.book (name_of Made.sig) ∙ ap (option_map (row_of present)) some in
            let row_one : s.row ≡ row_of present held = cc in
            let is : unihash ≡ held.unihash = s.is ∙ ap (λ (r : EquivRow). r.unihash) row_one in
            let name = hash_same (name_of held.sig) (name_of Made.sig) (find_splits (λ (l : Line). hash_eq (name_of l.sig) (name_of Made.sig)) move.book held some).1 in
            record {
              told = subst (λ (n : Move). IsMoveOf from start n rows records adding.added.items) (sym next) (record {
                rows_are = rows_same ∙ going.told.rows_are;
                each = pair_told pair refl name is;
                more = going.told.more;
                longer = going.told.longer;
                lines = subst (AllZip IsAddedAs going.told.more) (sym added_same) going.told.lines;
                in_rounds = subst AreRounds (sym added_same) going.told.in_rounds;
              });
              names_are = λ q. names_more from move.pairs m.names.entries names old_name unihash pair going.names puts named is q ∙ ap (λ (n : Move). new_name (find (is_named from q) n.pairs)) (sym next);
              rounds_are = λ q. ap (λ (e : List (List ℕ × ℕ)). value_at e q) rounds_same ∙ going.rounds q ∙ ap (λ (l : List AddedRecord). round_of l q) (sym added_same);
            }

    added : IsAdded m.rows m.adding.added.items Made.sig line.manifest unihash rows adding.added.items adding.rounds.entries → IsStep rows adding names records
    added a = by (line_at present move.book (name_of Made.sig)) refl
      where
        none_is : row_at (rows_of present move.book) (name_of Made.sig) ≡ None
        none_is = ap (λ (r : List EquivRow). row_at r (name_of Made.sig)) (sym going.told.rows_are) ∙ a.none

        by : (o : Option Line) → line_at present move.book (name_of Made.sig) ≡ o → IsStep rows adding names records
        by (Some held) some = absurd (let bad : Some (row_of present held) ≡ None = sym (ap (option_map (row_of present)) some) ∙ sym (row_is move.book (name_of Made.sig)) ∙ none_is in cc)
        by None none =
            let pair : Pair = record { old = line; new = Made } in
            let next : Next ≡ record { pairs = move.pairs ++ pair ∷ []; book = move.book ++ Made ∷ [] } = ap (moved_by move line Made) none in
            let stored : made_stored m.rows (name_of Made.sig) Made.sig line.manifest ≡ stored_of Made = ap (λ (r : List EquivRow). made_stored r (name_of Made.sig) Made.sig line.manifest) going.told.rows_are in
            let is : unihash ≡ Made.unihash = a.is ∙ ap (λ (s : StoredSig). s.unihash) stored in
            let one : AddedRecord = record { name = name_of Made.sig; stored = made_stored m.rows (name_of Made.sig) Made.sig line.manifest; round = round_for m.adding.added.items (made_stored m.rows (name_of Made.sig) Made.sig line.manifest) } in
            record {
              told = subst (λ (n : Move). IsMoveOf from start n rows records adding.added.items) (sym next) (record {
                rows_are = a.row ∙ (λ i. going.told.rows_are i ++ made_row (name_of Made.sig) (signature_bytes Made.sig) (stored i) ∷ []) ∙ sym (map-append (row_of present) move.book (Made ∷ []));
                each = pair_told pair refl refl is;
                more = going.told.more ++ Made ∷ [];
                longer = ap (λ (b : Book). b ++ Made ∷ []) going.told.longer ∙ append_assoc start going.told.more (Made ∷ []);
                lines = subst (AllZip IsAddedAs (going.told.more ++ Made ∷ [])) (sym a.adds.is) (zip_push IsAddedAs going.told.more m.adding.added.items Made one going.told.lines (record { name = refl; stored = stored }));
                in_rounds = subst AreRounds (sym a.adds.is) (rounds_more m.adding.added.items one going.told.in_rounds refl);
              });
              names_are = λ q. names_more from move.pairs m.names.entries names old_name unihash pair going.names puts named is q ∙ ap (λ (n : Move). new_name (find (is_named from q) n.pairs)) (sym next);
              rounds_are = a.adds.rounds;
            }

    pub stepped : Stands m.rows m.adding Made.sig line.manifest unihash rows adding → IsStep rows adding names records
    stepped (inl s) = stood s.0 s.1 s.2 s.3
    stepped (inr a) = added a

  -- ---- no collision

  module _ (rows : List EquivRow) (adding : AddingNow) (unihash : Hash) (keys : List (List ℕ)) (stands : Stands m.rows m.adding Made.sig line.manifest unihash rows adding) (grown : KnowsKey m.keys line.sig.key keys) (known : IsKnown keys line.sig.key)
      (well : StandWell m.keys move.book) (sound : IsSignature Made.sig) where
    further : (before : Book) (l : Line) → StandsIn move.book before l → IsKnown keys l.sig.key
    further before l s = known_further m.keys keys line.sig.key l.sig.key grown (well.known before l s)

    pub is_clear : IsClear from present move line
    is_clear before held s same = by stands
      where
        by : Stands m.rows m.adding Made.sig line.manifest unihash rows adding → held.sig ≡ Made.sig
        by (inl t) =
            let here = row_of_line present move.book before held well.new s in
            let found : row_at (rows_of present move.book) (name_of Made.sig) ≡ Some t.0.row = ap (λ (r : List EquivRow). row_at r (name_of Made.sig)) (sym going.told.rows_are) ∙ t.0.found in
            let rows_one : Some (row_of present held) ≡ Some t.0.row = sym here ∙ ap (row_at (rows_of present move.book)) same ∙ found in
            let row_one : row_of present held ≡ t.0.row = cc in
            one_signature held.sig Made.sig (well.sound before held s) sound (ap (λ (r : EquivRow). r.sig) row_one ∙ t.0.signed)
        by (inr a) = absurd (row_none present move.book (name_of Made.sig) (ap (λ (r : List EquivRow). row_at r (name_of Made.sig)) (sym going.told.rows_are) ∙ a.none) before held s same)

    pub stay_well : StandWell keys Next.book
    stay_well = by (line_at present move.book (name_of Made.sig)) refl
      where
        by : (o : Option Line) → line_at present move.book (name_of Made.sig) ≡ o → StandWell keys Next.book
        by (Some held) some = subst (λ (n : Move). StandWell keys n.book) (sym (ap (moved_by move line Made) some)) (record { new = well.new; sound = well.sound; known = further })
        by None none = subst (λ (n : Move). StandWell keys n.book) (sym (ap (moved_by move line Made) none)) (record {
          new = λ before l s. elim (split_last move.book before Made l s) [
            | inl p ↦ subst (λ (b : Book). HasNoneNamed present b l.sig) (sym p.0) (subst (λ (x : Line). HasNoneNamed present move.book x.sig) (sym p.1) (row_none present move.book (name_of Made.sig) (row_is move.book (name_of Made.sig) ∙ ap (option_map (row_of present)) none)))
            | inr u ↦ well.new before l u
          ];
          sound = λ before l s. elim (split_last move.book before Made l s) [
            | inl p ↦ subst (λ (x : Line). IsSignature x.sig) (sym p.1) sound
            | inr u ↦ well.sound before l u
          ];
          known = λ before l s. elim (split_last move.book before Made l s) [
            | inl p ↦ subst (λ (x : Line). IsKnown keys x.sig.key) (sym p.1) known
            | inr u ↦ further before l u
          ];
        })

  -- ---- faults

  pub key_fault : (fault : MoveFault) → IsKeyFault m.keys (key_bytes line.sig.key) fault → IsFaultAt from move m.keys line fault
  key_fault (Collision name held given) f = absurd f
  key_fault (KeyCollision name held given) f = f
  key_fault Memory f = tt

  name_is_text : (sig : SigRecord) → name_of sig ≡ text_name (signature_bytes sig)
  unfolding name_of signature_bytes
  name_is_text sig = ap (λ (short : List ℕ). record { bytes = sha256 short }) (sym (short_of_whole (short_bytes (short_of sig)) (key_bytes sig.key)))

  pub other_fault : (fault : MoveFault) → IsOther m.rows (name_of Made.sig) (signature_bytes Made.sig) fault → IsFaultAt from move m.keys line fault
  other_fault (Collision name held given) f =
      let found : row_at (rows_of present move.book) (name_of Made.sig) ≡ Some f.0 = ap (λ (r : List EquivRow). row_at r (name_of Made.sig)) (sym going.told.rows_are) ∙ f.1 in
      let l = row_found present move.book (name_of Made.sig) f.0 found in
      let bytes : held ≡ signature_bytes l.1.sig = f.4 ∙ ap (λ (r : EquivRow). r.sig) (sym l.3) in
      (l.0, l.1, l.2, bytes, f.5, f.3 ∙ sym l.4 ∙ name_is_text l.1.sig ∙ ap text_name (sym bytes), f.3 ∙ name_is_text Made.sig ∙ ap text_name (sym f.5), λ same. f.2 (sym f.4 ∙ same ∙ f.5))
  other_fault (KeyCollision name held given) f = absurd f
  other_fault Memory f = tt

-- ---- as the code makes it

module _ (from : Format) (start : Book) (move : Move) (m : MovingNow) (old : OldRecord) (line : Line) (going : IsGoing from start move m) (is : IsLineOf from old line) (sig : SigRecord) (made : sig ≡ sig_by m.names.entries old.stored.sig) where
  pub made_is : sig ≡ moved_sig from move.pairs line.sig
  made_is = made ∙ sig_is from start move m line old.stored going is.stored

  pub stands_made : (rows : List EquivRow) (adding : AddingNow) (unihash : Hash) → (AreRoundsOf m.adding.added.items m.adding.rounds.entries → Stands m.rows m.adding sig old.stored.manifest unihash rows adding)
      → Stands m.rows m.adding (moved_sig from move.pairs line.sig) line.manifest unihash rows adding
  stands_made rows adding unihash stands =
      subst (λ (l : List ManifestLine). Stands m.rows m.adding (moved_sig from move.pairs line.sig) l unihash rows adding) (ap (λ (s : StoredSig). s.manifest) (sym is.stored))
      (subst (λ (g : SigRecord). Stands m.rows m.adding g old.stored.manifest unihash rows adding) made_is (stands going.rounds))

  pub goes_on : (rows : List EquivRow) (adding : AddingNow) (names : List (List ℕ × Hash)) (records : List MovedRecord) (name unihash : Hash) → (AreRoundsOf m.adding.added.items m.adding.rounds.entries → Stands m.rows m.adding sig old.stored.manifest unihash rows adding)
      → name ≡ name_of sig → PutsFirst m.names.entries names old.name unihash → records ≡ m.records.items ++ record { old_name = old.name; old_unihash = old.stored.unihash; name = name; unihash = unihash } ∷ []
      → IsStep from start move m line going rows adding names records
  goes_on rows adding names records name unihash stands named puts told =
      stepped from start move m line going rows adding names records unihash old.name puts is.name
      (told ∙ (λ i. m.records.items ++ record { old_name = old.name; old_unihash = (sym is.stored i).unihash; name = (named ∙ ap name_of made_is) i; unihash = unihash } ∷ []))
      (stands_made rows adding unihash stands)

  pub sound_made : (IsSpelled sig → IsSignature sig) → IsSpelled line.sig → IsSignature (moved_sig from move.pairs line.sig)
  sound_made sound spelled = subst IsSignature made_is (sound (subst IsSpelled (sym made_is) (still_spelled from move.pairs line.sig spelled)))

  pub key_grown : (keys : List (List ℕ)) → KnowsKey m.keys sig.key keys → KnowsKey m.keys line.sig.key keys
  key_grown keys grown = subst (λ (k : Key). KnowsKey m.keys k keys) (ap (λ (g : SigRecord). g.key) made_is) grown

  pub key_known : (keys : List (List ℕ)) → IsKnown keys sig.key → IsKnown keys line.sig.key
  key_known keys known = subst (IsKnown keys) (ap (λ (g : SigRecord). g.key) made_is) known

  pub clear_made : (rows : List EquivRow) (adding : AddingNow) (unihash : Hash) (keys : List (List ℕ)) → (AreRoundsOf m.adding.added.items m.adding.rounds.entries → Stands m.rows m.adding sig old.stored.manifest unihash rows adding) → KnowsKey m.keys sig.key keys → IsKnown keys sig.key
      → (IsSpelled sig → IsSignature sig) → IsSpelled line.sig → StandWell m.keys move.book → IsClear from present move line
  clear_made rows adding unihash keys stands grown known sound spelled well =
      is_clear from start move m line going rows adding unihash keys (stands_made rows adding unihash stands) (key_grown keys grown) (key_known keys known) well (sound_made sound spelled)

  pub well_made : (rows : List EquivRow) (adding : AddingNow) (unihash : Hash) (keys : List (List ℕ)) → (AreRoundsOf m.adding.added.items m.adding.rounds.entries → Stands m.rows m.adding sig old.stored.manifest unihash rows adding) → KnowsKey m.keys sig.key keys → IsKnown keys sig.key
      → (IsSpelled sig → IsSignature sig) → IsSpelled line.sig → StandWell m.keys move.book → StandWell keys (step from present move line).book
  well_made rows adding unihash keys stands grown known sound spelled well =
      stay_well from start move m line going rows adding unihash keys (stands_made rows adding unihash stands) (key_grown keys grown) (key_known keys known) well (sound_made sound spelled)

  pub key_refused : (fault : MoveFault) → IsKeyFault m.keys (key_bytes sig.key) fault → IsFaultAt from move m.keys line fault
  key_refused fault f = key_fault from start move m line going fault (subst (λ (k : Key). IsKeyFault m.keys (key_bytes k) fault) (ap (λ (g : SigRecord). g.key) made_is) f)

  pub other_refused : (fault : MoveFault) → IsOther m.rows (name_of sig) (signature_bytes sig) fault → IsFaultAt from move m.keys line fault
  other_refused fault f = other_fault from start move m line going fault (subst (λ (g : SigRecord). IsOther m.rows (name_of g) (signature_bytes g) fault) made_is f)
