-- Rows that an index in memory has.
use Rattle.std.proofs.Common.{◌≡◌, ◌∙◌, sym, ap, refl, ℕ, Bool, true, false, cond, List, [], ◌∷◌, Option, Some, None, map, inl, inr}
use Rattle.std.specs.Option.{option_map}
use Rattle.std.specs.Map.{lookup}
use Rattle.std.specs.Str.{bytes_eq}
use Rattle.std.specs.HashMap.{get}
use Rattle.std.proofs.lemmas.Option.{same_Some}
use Rattle.tree_model.specs.declared.hash.Hash.{Hash}
use Rattle.meta_model.proofs.Bools.{differs, either_way, same_text, text_itself}
use Rattle.store_model.specs.declared.signature.EquivRow.{EquivRow}
use Rattle.store_model.specs.Rows.{row_at}
use Rattle.run_tests.specs.declared.index.Row.{Row}
use Rattle.run_tests.specs.Index.{Puts, Rows, row_of, rows_of}

-- what is kept at the bytes of a name
abbrev pub kept_at : Rows → Hash → Option Row
kept_at rows name = get bytes_eq rows name.bytes

row_among : (name : Hash) (entries : List (List ℕ × Row)) → row_at (map row_of entries) name ≡ option_map (λ r. row_of (name.bytes, r)) (lookup (bytes_eq name.bytes) entries)
row_among name [] = refl
row_among name (e ∷ es) = by (bytes_eq name.bytes e.0) refl (row_among name es)
  where
    by : (b : Bool) → bytes_eq name.bytes e.0 ≡ b → row_at (map row_of es) name ≡ option_map (λ r. row_of (name.bytes, r)) (lookup (bytes_eq name.bytes) es) → row_at (map row_of (e ∷ es)) name ≡ option_map (λ r. row_of (name.bytes, r)) (lookup (bytes_eq name.bytes) (e ∷ es))
    by true t rest =
        let same : name.bytes ≡ e.0 = same_text name.bytes e.0 t in
        let back : bytes_eq e.0 name.bytes ≡ true = ap (λ k. bytes_eq e.0 k) same ∙ text_itself e.0 in
        rw t (rw back (ap (λ k. Some (row_of (k, e.1))) (sym same)))
    by false f rest = let back : bytes_eq e.0 name.bytes ≡ false = differs name.bytes e.0 f in rw f (rw back rest)

-- the row of a name is the one that is kept at its bytes
pub row_here : (name : Hash) (rows : Rows) → row_at (rows_of rows) name ≡ option_map (λ r. row_of (name.bytes, r)) (kept_at rows name)
row_here name rows = row_among name rows.entries

pub unihash_here : (name : Hash) (rows : Rows) → option_map (λ r. r.unihash) (row_at (rows_of rows) name) ≡ option_map (λ r. r.unihash) (kept_at rows name)
unihash_here name rows = ap (λ (o : Option EquivRow). option_map (λ r. r.unihash) o) (row_here name rows) ∙ by (kept_at rows name)
  where
    by : (o : Option Row) → option_map (λ r. r.unihash) (option_map (λ r. row_of (name.bytes, r)) o) ≡ option_map (λ r. r.unihash) o
    by None = refl
    by (Some r) = refl

pub row_kept : (name : Hash) (rows : Rows) (r : Row) → Some r ≡ kept_at rows name → row_at (rows_of rows) name ≡ Some (row_of (name.bytes, r))
row_kept name rows r e = row_here name rows ∙ ap (λ (o : Option Row). option_map (λ x. row_of (name.bytes, x)) o) (sym e)

pub row_absent : (name : Hash) (rows : Rows) → None ≡ kept_at rows name → row_at (rows_of rows) name ≡ None
row_absent name rows e = row_here name rows ∙ ap (λ (o : Option Row). option_map (λ x. row_of (name.bytes, x)) o) (sym e)

pub not_kept : (name : Hash) (rows : Rows) → row_at (rows_of rows) name ≡ None → kept_at rows name ≡ None
not_kept name rows e = by (kept_at rows name) (sym (row_here name rows) ∙ e)
  where
    by : (o : Option Row) → option_map (λ r. row_of (name.bytes, r)) o ≡ None → o ≡ None
    by None h = refl
    by (Some r) h = absurd (cc)

-- a row of this signature
pub clear_here : (name : Hash) (rows : Rows) (r : Row) (sig : List ℕ) → Some r ≡ kept_at rows name → r.sig ≡ sig → (row : EquivRow) → row_at (rows_of rows) name ≡ Some row → row.sig ≡ sig
clear_here name rows r sig e same row found = sym (ap (λ x. x.sig) (same_Some (row_of (name.bytes, r)) row (sym (row_kept name rows r e) ∙ found))) ∙ same

-- what an insertion does
pub put_row : (name : Hash) (r : Row) (old new : Rows) → kept_at new name ≡ Some r → ((key : List ℕ) → get bytes_eq new key ≡ cond (bytes_eq name.bytes key) (Some r) (get bytes_eq old key)) → Puts name r.sig old new
put_row name r old new here each = record {
  here = clear_here name new r r.sig (sym here) refl;
  kept = λ other gone. by_key other (bytes_eq name.bytes other.bytes) refl (not_kept other new gone);
  others = λ other apart. row_here other new ∙ ap (λ (o : Option Row). option_map (λ x. row_of (other.bytes, x)) o) (apart_key other apart) ∙ sym (row_here other old);
}
  where
    by_key : (other : Hash) (b : Bool) → bytes_eq name.bytes other.bytes ≡ b → kept_at new other ≡ None → row_at (rows_of old) other ≡ None
    by_key other true t gone = let e = rw t at (each other.bytes) in absurd (let f : Some r ≡ None = sym e ∙ gone in cc)
    by_key other false f gone = let e = rw f at (each other.bytes) in row_absent other old (sym gone ∙ e)

    apart_key : (other : Hash) → (name ≡ other → ⊥) → kept_at new other ≡ kept_at old other
    apart_key other apart = elim (either_way (bytes_eq name.bytes other.bytes)) [
      | inl t ↦ absurd (apart (ap (λ k. record { bytes = k }) (same_text name.bytes other.bytes t)))
      | inr f ↦ rw f at (each other.bytes)
    ]
