-- Where one of those that are open has a record or an object, which it is.
use Rattle.std.proofs.Common.{◌≡◌, ◌≢◌, ◌∙◌, sym, ap, refl, inl, inr, ℕ, ◌⊎◌, Bool, true, false, List, [], ◌∷◌, Option, Some, None}
use Rattle.std.specs.List.{AllByRecursion, list_any}
use Rattle.std.specs.Str.{bytes_eq}
use Rattle.tree_model.specs.declared.hash.Hash.{Hash}
use Rattle.meta_model.proofs.Bools.{from_or, same_text, text_itself}
use Rattle.store_model.specs.declared.signature.EquivRow.{EquivRow}
use Rattle.store_model.specs.Rows.{hash_eq}
use Rattle.store_model.specs.Signatures.{Signed}
use Rattle.store_model.specs.Spelling.{name_of}
use Rattle.store_model.proofs.Listing.{hash_same}
use Rattle.build_store.specs.declared.pieces.OpenPublication.{OpenPublication}
use Rattle.build_store.specs.OpenTasks.{IsOpenOf}
use Rattle.build_store.specs.Openings.{Meets}
use Rattle.build_store.specs.Publication.{object_for}
use Rattle.build_store.specs.Standing.{AreBeside, AreOpen, IsBeside, IsOpenTask, meets, objects_meet}
use Rattle.build_store.specs.View.{open_in, open_view_of, opened_at}
use Rattle.build_store.proofs.Opened.{view_is}

-- one of the list of which this holds and that has the property, and that is what is open at its folder
record IsPicked (f : OpenPublication → Bool) (Q : OpenPublication → Type 0) (xs : List OpenPublication) : Type 0 where
  one : OpenPublication
  at : opened_at (open_in xs) one.folder ≡ Some (open_view_of one)
  is : Q one
  has : f one ≡ true

-- two properties of all
both_of : (P Q : OpenPublication → Type 0) (xs : List OpenPublication) → AllByRecursion P xs → AllByRecursion Q xs → AllByRecursion (λ x. P x × Q x) xs
both_of P Q [] all also = tt
both_of P Q (x ∷ xs) all also = ((all.0, also.0), both_of P Q xs all.1 also.1)

-- what is open at another folder than that of the first is what is open among the rest
past : (x : OpenPublication) (xs : List OpenPublication) (folder : List ℕ) → folder ≢ x.folder → opened_at (open_in (x ∷ xs)) folder ≡ opened_at (open_in xs) folder
past x xs folder ne = by (bytes_eq x.folder folder) refl
  where
    by : (b : Bool) → bytes_eq x.folder folder ≡ b → opened_at (open_in (x ∷ xs)) folder ≡ opened_at (open_in xs) folder
    by true e = absurd (ne (sym (same_text x.folder folder e)))
    by false e = rw e refl

-- where one has the property, it is picked
pick_by : (f : OpenPublication → Bool) (Q : OpenPublication → Type 0) (x : OpenPublication) (xs : List OpenPublication) → AreBeside (x ∷ xs) → AllByRecursion Q (x ∷ xs) → list_any f (x ∷ xs) ≡ true →
    (list_any f xs ≡ true → IsPicked f (λ o. Q o × IsBeside x o) xs) → (b : Bool) → f x ≡ b → IsPicked f Q (x ∷ xs)
pick_by f Q x xs beside all e more true has = record { one = x; at = (let t = text_itself x.folder in rw t refl); is = all.0; has = has }
pick_by f Q x xs beside all e more false has =
    let rest = more (from_or (f x) (list_any f xs) e has) in
    record { one = rest.one; at = past x xs rest.one.folder rest.is.1.0 ∙ rest.at; is = rest.is.0; has = rest.has }

pick : (f : OpenPublication → Bool) (Q : OpenPublication → Type 0) (xs : List OpenPublication) → AreBeside xs → AllByRecursion Q xs → list_any f xs ≡ true → IsPicked f Q xs
pick f Q [] beside all e = absurd (cc)
pick f Q (x ∷ xs) beside all e = pick_by f Q x xs beside all e (λ any. pick f (λ o. Q o × IsBeside x o) xs beside.1 (both_of Q (IsBeside x) xs all.1 beside.0) any) (f x) refl

-- an object that two have is one
one_object : (one other : Option Hash) → objects_meet one other ≡ true → (unihash : Hash) × ((one ≡ Some unihash) × (other ≡ Some unihash))
one_object None other e = absurd (cc)
one_object (Some one) None e = absurd (cc)
one_object (Some one) (Some other) e = (one, (refl, ap (λ h. Some h) (sym (hash_same one other e))))

module _ (rows : List EquivRow) (name : Hash) (object : Option Hash) where
  -- what this one that meets them has
  met : (one : OpenPublication) (s : Signed) → IsOpenOf rows s one.tree one → meets name object one ≡ true → (b : Bool) → hash_eq one.name name ≡ b →
      (name_of s.sig ≡ name) ⊎ ((unihash : Hash) × ((object_for rows s one.tree ≡ Some unihash) × (object ≡ Some unihash)))
  met one s of has true is = inl (sym of.name ∙ hash_same one.name name is)
  met one s of has false is =
      let m = one_object one.object object (from_or (hash_eq one.name name) (objects_meet one.object object) has is) in
      inr (m.0, (sym of.object ∙ m.1.0, m.1.1))

  -- Where one meets this record or this object, digests meet.
  pub meeting : (xs : List OpenPublication) → AreOpen rows xs → list_any (meets name object) xs ≡ true → Meets rows (open_in xs) name object
  meeting xs stand e =
      let p = pick (meets name object) (IsOpenTask rows) xs stand.beside stand.tasks e in
      let s = p.is.signed in
      record {
        of = s;
        gave = p.one.tree;
        is_open = ap (opened_at (open_in xs)) (sym p.is.of.folder) ∙ p.at ∙ ap (λ v. Some v) (view_is rows s p.one.tree xs p.one p.is.of);
        meets = met p.one s p.is.of p.has (hash_eq p.one.name name) refl;
      }
