-- What is told of each record that came, by the pairs of the move.
use Rattle.std.proofs.Common.{◌≡◌, ◌≢◌, ◌∙◌, sym, ap, subst, refl, zero, suc, ◌⊎◌, inl, inr, List, [], ◌∷◌, map, Some, arith}
use Rattle.std.specs.Prelude.{Contains, find}
use Rattle.std.proofs.lemmas.List.Elements.{Contains-append_right}
use Rattle.tree_model.specs.declared.hash.Hash.{Hash}
use Rattle.tree_model.specs.Hash.{IsHash}
use Rattle.meta_model.specs.CleanBuild.{Gives}
use Rattle.store_model.specs.declared.signature.EquivRow.{EquivRow}
use Rattle.store_model.specs.declared.signature.SigRecord.{SigRecord}
use Rattle.store_model.specs.Origins.{Book, Line, Reading}
use Rattle.store_model.specs.Rows.{row_at}
use Rattle.store_model.specs.Spelling.{name_of}
use Rattle.store_model.specs.Valid.{StandsIn}
use Rattle.store_model.proofs.Listing.{find_splits, hash_itself, hash_other}
use Rattle.store_model.proofs.Standing.{stands_behind, stands_earlier, stands_first}
use Rattle.store_move.specs.Formats.{Format, IsNamedAlike, IsValidBook, row_of, rows_of}
use Rattle.store_move.specs.Moves.{MayMove, Move, Pair, begun, is_named, moved_from, present}
use Rattle.store_move.proofs.Places.{AllNew, one_place, row_of_line}
use Rattle.store_move.proofs.Steps.{Carried}
use Rattle.store_move.proofs.Whole.{Known, at_end}
use Rattle.store_opening.proofs.StillThere.{name_is_hash}
use Rattle.store_opening.proofs.Surveyed.{each_of}
use Rattle.record_move.specs.declared.moving.Moved.{Moved}
use Rattle.record_move.specs.declared.records.MovedRecord.{MovedRecord}
use Rattle.record_move.specs.Moved.{IsMoveOf, IsPairOf}
use Rattle.sstate_mirror.specs.Copying.{HaveOneObject}
use Rattle.store_upgrade.proofs.Zipped.{Distinct, beside_for, beside_of, distinct_of}

-- the lines behind those that stand here
abbrev pub move_of : Book → Book → Move
move_of olds again = moved_from present present (begun again) olds

among_map : {A B : Type 0} (f : A → B) (xs : List A) (x : A) → Contains xs x → Contains (map f xs) (f x)
among_map f [] x has = absurd (let lt = has.1 in omega (arith, lt))
among_map f (y ∷ ys) x (zero, lt, e) = (0, omega arith, ap f e)
among_map f (y ∷ ys) x (suc k, lt, e) = let w = among_map f ys x (k, omega (arith, lt), e) in (suc w.0, (let m = w.1 in omega (arith, m)), w.2)

-- a pair is found by the name of its old record
pub found_of : (form : Format) (pairs : List Pair) (p : Pair) → Distinct form (map (λ (q : Pair). q.old) pairs) → Contains pairs p → find (is_named form (form.name_of p.old.sig)) pairs ≡ Some p
found_of form [] p distinct has = absurd (let lt = has.1 in omega (arith, lt))
found_of form (q ∷ qs) p distinct (zero, lt, e) =
    rw (hash_itself (form.name_of q.old.sig) (form.name_of p.old.sig) (ap (λ (x : Pair). form.name_of x.old.sig) e)) (ap (λ (x : Pair). Some x) e)
found_of form (q ∷ qs) p distinct (suc k, lt, e) =
    let has : Contains qs p = (k, omega (arith, lt), e) in
    let among = among_map (λ (x : Pair). x.old) qs p has in
    let ne = each_of (λ (l : Line). form.name_of q.old.sig ≢ form.name_of l.sig) (map (λ (x : Pair). x.old) qs) p.old distinct.0 among in
    rw (hash_other (form.name_of q.old.sig) (form.name_of p.old.sig) ne) (found_of form qs p distinct.1 has)

pub found_among : (form : Format) (pairs : List Pair) (name : Hash) (p : Pair) → find (is_named form name) pairs ≡ Some p → Contains pairs p
found_among form pairs name p found =
    let s = find_splits (is_named form name) pairs p found in
    subst (λ (l : List Pair). Contains l p) (sym s.0.is) (Contains-append_right s.0.front (p ∷ s.0.rest) p (0, omega arith, refl))

-- ---- unihashes of a valid book

module _ (form : Format) (gives : Gives) (reading : Reading) (book : Book) (valid : IsValidBook form gives reading book) where
  pub all_new : AllNew form book
  all_new before line s = let v = valid before line s in v.new

  pub unihash_is_hash : ((sig : SigRecord) → IsHash (form.name_of sig)) → (before : Book) (line : Line) → StandsIn book before line → IsHash line.unihash
  unihash_is_hash name_hash before line s = by (let v = valid before line s in v.named)
    where
      by : (line.unihash ≡ form.name_of line.sig) ⊎ IsNamedAlike form before line → IsHash line.unihash
      by (inl own) = subst IsHash (sym own) (name_hash line.sig)
      by (inr f) = subst IsHash (sym f.name) (name_hash f.first.sig)

  -- the line whose name a unihash is, which has the same manifest
  pub record IsUnihashOf (line : Line) : Type 0 where
    pub before : Book
    pub named : Line
    pub stands : StandsIn book before named
    pub is : line.unihash ≡ form.name_of named.sig
    pub manifest : named.manifest ≡ line.manifest

  unihash_of : (before : Book) (line : Line) → StandsIn book before line → IsUnihashOf line
  unihash_of before line s = by (let v = valid before line s in v.named)
    where
      by : (line.unihash ≡ form.name_of line.sig) ⊎ IsNamedAlike form before line → IsUnihashOf line
      by (inl own) = record { before = before; named = line; stands = s; is = own; manifest = refl }
      by (inr f) = record { before = f.behind; named = f.first; stands = stands_earlier book before f.behind line f.first s f.stands; is = f.name; manifest = f.alike.manifest }

  -- lines with one unihash have one manifest
  pub same_manifest : (b c : Book) (k l : Line) → StandsIn book b k → StandsIn book c l → k.unihash ≡ l.unihash → k.manifest ≡ l.manifest
  same_manifest b c k l s t same =
      let one = unihash_of b k s in
      let other = unihash_of c l t in
      let place = one_place form book one.before other.before one.named other.named all_new one.stands other.stands (sym one.is ∙ same ∙ other.is) in
      sym one.manifest ∙ ap (λ (x : Line). x.manifest) place.1 ∙ other.manifest

-- ---- the records of a whole move

module _ (gives : Gives) (reading : Reading) (olds again : Book) (may : MayMove present present gives reading olds again) (moved : Moved)
    (told : IsMoveOf present again (move_of olds again) moved.rows moved.records.items moved.added.items) where
  -- A pair of the move, as it is found, with where its lines stand.
  pub record IsPlaced (pair : Pair) : Type 0 where
    pub found : find (is_named present (name_of pair.old.sig)) (move_of olds again).pairs ≡ Some pair
    pub old_before : Book
    pub old_stands : StandsIn olds old_before pair.old
    pub new_before : Book
    pub new_stands : StandsIn (move_of olds again).book new_before pair.new
    pub manifest : pair.new.manifest ≡ pair.old.manifest

  pub whole_valid : IsValidBook present gives reading (move_of olds again).book
  whole_valid = (at_end present present gives reading olds again may).valid

  pub pair_placed : (pair : Pair) → Contains (move_of olds again).pairs pair → IsPlaced pair
  pair_placed pair has =
      let whole = at_end present present gives reading olds again may in
      let c = each_of (Carried present present gives reading (Known present present gives reading olds again may) may.no_clash olds (move_of olds again)) (move_of olds again).pairs pair whole.each has in
      record {
        found = found_of present (move_of olds again).pairs pair (subst (Distinct present) (sym whole.lines) (distinct_of present olds (all_new present gives reading olds may.old))) has;
        old_before = c.old_before;
        old_stands = c.old_stands;
        new_before = c.new_before;
        new_stands = c.new_stands;
        manifest = c.manifest;
      }

  pub found_placed : (pair : Pair) → find (is_named present (name_of pair.old.sig)) (move_of olds again).pairs ≡ Some pair → IsPlaced pair
  found_placed pair found = pair_placed pair (found_among present (move_of olds again).pairs (name_of pair.old.sig) pair found)

  -- the row of a moved record's new name is that of the line that stands for it
  pub placed_row : (pair : Pair) (m : MovedRecord) → IsPlaced pair → IsPairOf present pair m → row_at moved.rows m.name ≡ Some (row_of present pair.new)
  placed_row pair m placed is =
      (λ i. row_at (told.rows_are i) (is.name i))
      ∙ row_of_line present (move_of olds again).book placed.new_before pair.new (all_new present gives reading (move_of olds again).book whole_valid) placed.new_stands

  -- the record of a pair that is found
  pub record_of : (pair : Pair) → find (is_named present (name_of pair.old.sig)) (move_of olds again).pairs ≡ Some pair → (m : MovedRecord) × Contains moved.records.items m × IsPairOf present pair m
  record_of pair found = beside_for (IsPairOf present) (move_of olds again).pairs moved.records.items pair told.each (found_among present (move_of olds again).pairs (name_of pair.old.sig) pair found)

  -- ... and the pair of a record
  pub pair_of : (m : MovedRecord) → Contains moved.records.items m → (pair : Pair) × IsPlaced pair × IsPairOf present pair m × Contains (move_of olds again).pairs pair
  pair_of m has = let w = beside_of (IsPairOf present) (move_of olds again).pairs moved.records.items m told.each has in (w.0, pair_placed w.0 w.1, w.2, w.1)

  pub row_manifest : (pair : Pair) (m : MovedRecord) (row : EquivRow) → IsPlaced pair → IsPairOf present pair m → row_at moved.rows m.name ≡ Some row → row.manifest ≡ pair.new.manifest
  row_manifest pair m row placed is at =
      let e : Some row ≡ Some (row_of present pair.new) = sym at ∙ placed_row pair m placed is in
      let same : row ≡ row_of present pair.new = cc in
      ap (λ (r : EquivRow). r.manifest) same

-- ---- rows

-- a row is that of a line
pub row_line : (book : Book) (row : EquivRow) → Contains (rows_of present book) row → (before : Book) × (line : Line) × StandsIn book before line × (row_of present line ≡ row)
row_line [] row has = absurd (let lt = has.1 in omega (arith, lt))
row_line (x ∷ xs) row (zero, lt, e) = ([], x, stands_first x xs, e)
row_line (x ∷ xs) row (suc k, lt, e) = let w = row_line xs row (k, omega (arith, lt), e) in (x ∷ w.0, w.1, stands_behind x xs w.0 w.1 w.2, w.3)

-- unihashes of a valid book's rows are digests, and rows of one unihash have one manifest
pub one_object : (gives : Gives) (reading : Reading) (book : Book) → IsValidBook present gives reading book → (rows : List EquivRow) → rows ≡ rows_of present book → HaveOneObject rows
one_object gives reading book valid rows are = record { hashes = λ row has. hash row (there row has); one = λ row other has too same. manifest row other (there row has) (there other too) same }
  where
    there : (row : EquivRow) → Contains rows row → Contains (rows_of present book) row
    there row has = subst (λ (l : List EquivRow). Contains l row) are has

    hash : (row : EquivRow) → Contains (rows_of present book) row → IsHash row.unihash
    hash row has = let w = row_line book row has in subst (λ (r : EquivRow). IsHash r.unihash) w.3 (unihash_is_hash present gives reading book valid name_is_hash w.0 w.1 w.2)

    manifest : (row other : EquivRow) → Contains (rows_of present book) row → Contains (rows_of present book) other → row.unihash ≡ other.unihash → row.manifest ≡ other.manifest
    manifest row other has too same =
        let v = row_line book row has in
        let w = row_line book other too in
        sym (ap (λ (r : EquivRow). r.manifest) v.3)
        ∙ same_manifest present gives reading book valid v.0 w.0 v.1 w.1 v.2 w.2 (ap (λ (r : EquivRow). r.unihash) v.3 ∙ same ∙ sym (ap (λ (r : EquivRow). r.unihash) w.3))
        ∙ ap (λ (r : EquivRow). r.manifest) w.3
