-- Rows by their names.
use Rattle.std.proofs.Common.{◌≡◌, ◌∙◌, sym, ap, subst, refl, inl, inr, ℕ, List, Option, Some, None, Result, Ok, Err}
use Rattle.std.specs.Prelude.{IfOk, IfSome}
use Rattle.std.specs.List.{AllByRecursion}
use Rattle.sha2.specs.Sha256.{sha256}
use Rattle.tree_model.specs.declared.hash.Hash.{Hash}
use Rattle.store_model.specs.declared.signature.EquivRow.{EquivRow}
use Rattle.store_model.specs.Rows.{hash_eq, row_at}
use Rattle.store_model.specs.Spelling.{key_part, short_part, text_name, whole_text}
use Rattle.store_model.proofs.Listing.{find_splits, hash_same}
use Rattle.store_model.proofs.Ordered.{each_middle}
use Rattle.hash_equiv.specs.Index.{IsNameIn}
use Rattle.sig_gen.specs.Sound.{IsNameBy}
use Rattle.store_model.specs.Clashes.{AreToldApart}
use Rattle.build_store.specs.declared.fault.StoreFault.{StoreFault}
use Rattle.build_store.specs.declared.fault.StoreFault.TheVariants as fault
use Rattle.build_store.specs.Faults.{IsClash, IsOtherSignature, IsTelling}
use Rattle.store_model.specs.Readable.{IsRow}
use Rattle.store_opening.proofs.Sorted.{each_at}
use Rattle.build_store.proofs.Texts.{row_key, row_name, row_short, text_name_is}

-- what each row has, the row of a name has
pub row_has : (P : EquivRow → Type 0) (rows : List EquivRow) (name : Hash) (row : EquivRow) → AllByRecursion P rows → row_at rows name ≡ Some row → P row
row_has P rows name row all is =
    let found = find_splits (λ r. hash_eq r.name name) rows row is in
    each_middle P found.0.front row found.0.rest (subst (AllByRecursion P) found.0.is all)

pub row_named : (rows : List EquivRow) (name : Hash) (row : EquivRow) → row_at rows name ≡ Some row → row.name ≡ name
row_named rows name row is = hash_same row.name name (find_splits (λ r. hash_eq r.name name) rows row is).1

-- a row that has a signature's text has its name
pub named_by : (rows : List EquivRow) → AllByRecursion IsRow rows → (text : List ℕ) (found : Option Hash) → IfSome found (IsNameIn rows text) → IfSome found (IsNameBy text)
named_by rows all text None h = tt
named_by rows all text (Some name) h = λ sig is.
    let known = each_at IsRow rows h.place h.row all h.stands in
    sym h.named ∙ row_name h.row known ∙ ap text_name (h.signed ∙ is) ∙ text_name_is sig

-- another signature in the row of a name is a collision
pub clash : (rows : List EquivRow) (name : Hash) (text : List ℕ) (row : EquivRow) (f : StoreFault) → row_at rows name ≡ Some row → IsOtherSignature row text f → IsClash rows name text f
clash rows name text row fault.Disk is other = absurd other
clash rows name text row fault.Memory is other = tt
clash rows name text row (fault.Collision n held given) is other = record {
  row = row;
  is_row = is;
  told = subst (λ (h : Hash). AreToldApart row.sig text h n held given) (row_named rows name row is) other;
}
clash rows name text row (fault.Unsteady pn task held given) is other = absurd other

-- ---- what tells two signatures of one name apart

module _ (row : EquivRow) (known : IsRow row) (text : List ℕ) (named : row.name ≡ text_name text) (differ : row.sig ≡ text → ⊥) where
  row_digest : sha256 (short_part row.sig) ≡ row.name.bytes
  row_digest = ap (λ (h : Hash). h.bytes) (sym (row_name row known))

  pub shorts_differ : (short_part row.sig ≡ short_part text → ⊥) → AreToldApart row.sig text row.name row.name (short_part row.sig) (short_part text)
  shorts_differ ne = record { parts = inl (refl, refl, refl); differ = ne; held_name = row_digest; given_name = ap (λ (h : Hash). h.bytes) (sym named) }

  whole_row : row.sig ≡ whole_text (short_part row.sig) (key_part row.sig)
  whole_row = ap (λ (r : EquivRow). r.sig) known.is ∙ (λ i. whole_text (sym (row_short row known) i) (sym (row_key row known) i))

  pub keys_differ : (name : Hash) → name.bytes ≡ sha256 (key_part text) → name.bytes ≡ sha256 (key_part row.sig) → short_part row.sig ≡ short_part text → text ≡ whole_text (short_part text) (key_part text)
      → AreToldApart row.sig text row.name name (key_part row.sig) (key_part text)
  keys_differ name is own shorts whole = record {
    parts = inr (shorts, refl, refl);
    differ = λ keys. differ (whole_row ∙ (λ i. whole_text (shorts i) (keys i)) ∙ sym whole);
    held_name = sym own;
    given_name = sym is;
  }

-- what is told is what tells them apart
pub told_by : {E : Type 0} (row : EquivRow) (text : List ℕ) (name : Hash) (held given h j : List ℕ) (r : Result StoreFault E) → h ≡ held → j ≡ given → IfOk r (IsTelling name h j) → AreToldApart row.sig text row.name name held given → IfOk r (IsOtherSignature row text)
told_by row text name held given h j (Ok f) h_is j_is is told = subst (IsOtherSignature row text) (sym (is ∙ (λ i. fault.Collision name (h_is i) (j_is i)))) told
told_by row text name held given h j (Err e) h_is j_is is told = tt
