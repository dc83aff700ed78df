-- Keys by their names.
use Rattle.std.proofs.Common.{◌≡◌, ◌∙◌, sym, ap, refl, ℕ, Bool, true, false, cond, List, [], ◌∷◌, ◌++◌, Option, Some, None, Result, bytes_eq, inl, inr}
use Rattle.std.specs.Prelude.{OnOk, find}
use Rattle.std.specs.Map.{lookup, values_of}
use Rattle.std.specs.Option.{option_or}
use Rattle.std.proofs.lemmas.List.Folds.{find-append}
use Rattle.std.proofs.lemmas.Result.{on_ok_weaker}
use Rattle.indexmap.specs.IndexMap.{insert_entry}
use Rattle.sha2.specs.Sha256.{sha256}
use Rattle.tree_model.specs.declared.hash.Hash.{Hash}
use Rattle.meta_model.specs.declared.value.Key.{Key}
use Rattle.meta_model.proofs.Bools.{same_text, text_itself}
use Rattle.store_model.specs.declared.signature.SigRecord.{SigRecord}
use Rattle.store_model.specs.Spelling.{key_bytes, key_name, name_of, signature_bytes}
use Rattle.record_move.specs.declared.fault.MoveFault.{MoveFault}
use Rattle.record_move.specs.declared.fault.MoveFault.TheVariants.{Collision, KeyCollision, Memory}
use Rattle.record_move.specs.Faults.{IsKeyFault, IsKeyFaultOf}
use Rattle.record_move.specs.Known.{AreNamed, IsKnown, KnowsKey, digest, key_named}

-- under its name a key is found
pub found_by_name : (name : Hash) (es : List (List ℕ × List ℕ)) → AreNamed es → lookup (bytes_eq name.bytes) es ≡ key_named (values_of es) name
found_by_name name [] named = refl
found_by_name name (e ∷ es) named = λ i. cond (bytes_eq name.bytes (named.0 i)) (Some e.1) (found_by_name name es named.1 i)

pub named_more : (es : List (List ℕ × List ℕ)) (name key : List ℕ) → AreNamed es → name ≡ sha256 key → AreNamed (es ++ (name, key) ∷ [])
named_more [] name key named is = (is, tt)
named_more (e ∷ es) name key named is = (named.0, named_more es name key named.1 is)

-- what is put under a name that isn't there goes last
pub put_last : (es : List (List ℕ × List ℕ)) (k v : List ℕ) → lookup (bytes_eq k) es ≡ None → insert_entry bytes_eq es k v ≡ es ++ (k, v) ∷ []
put_last [] k v none = refl
put_last (e ∷ es) k v none = at_first (bytes_eq k e.0) refl (put_last es k v)
  where
    at_first : (b : Bool) → bytes_eq k e.0 ≡ b → (lookup (bytes_eq k) es ≡ None → insert_entry bytes_eq es k v ≡ es ++ (k, v) ∷ []) → insert_entry bytes_eq (e ∷ es) k v ≡ e ∷ es ++ (k, v) ∷ []
    at_first true t rest = let bad : Some e.1 ≡ None = rw t at none in absurd (cc)
    at_first false f rest = rw f (ap (λ l. e ∷ l) (rest (rw f at none)))

-- a key that is found has the name
pub found_is_named : (keys : List (List ℕ)) (name : Hash) (held : List ℕ) → key_named keys name ≡ Some held → name.bytes ≡ sha256 held
found_is_named [] name held e = absurd (cc)
found_is_named (key ∷ keys) name held e = by (bytes_eq name.bytes (sha256 key)) refl (found_is_named keys name held)
  where
    by : (b : Bool) → bytes_eq name.bytes (sha256 key) ≡ b → (key_named keys name ≡ Some held → name.bytes ≡ sha256 held) → name.bytes ≡ sha256 held
    by true t rest = let same : key ≡ held = (let f : Some key ≡ Some held = rw t at e in cc) in same_text name.bytes (sha256 key) t ∙ ap sha256 same
    by false f rest = rest (rw f at e)

-- a key that stands last is found, where none of its name stood before
pub last_is_found : (keys : List (List ℕ)) (name : Hash) (key : List ℕ) → key_named keys name ≡ None → name.bytes ≡ sha256 key → key_named (keys ++ key ∷ []) name ≡ Some key
last_is_found keys name key none is =
    find-append (λ k. bytes_eq name.bytes (sha256 k)) keys (key ∷ [])
    ∙ ap (λ o. option_or o (key_named (key ∷ []) name)) none
    ∙ ap (λ b. cond b (Some key) None) (ap (λ x. bytes_eq x (sha256 key)) is ∙ text_itself (sha256 key))

-- names of the same bytes find the same
pub same_name_finds : (keys : List (List ℕ)) (a b : Hash) → a.bytes ≡ b.bytes → key_named keys a ≡ key_named keys b
same_name_finds keys a b is = λ i. find (λ k. bytes_eq (is i) (sha256 k)) keys

-- the fault of a name whose key is another one
pub fault_is : (keys : List (List ℕ)) (name : Hash) (held key : List ℕ) (fault : MoveFault) → key_named keys name ≡ Some held → name.bytes ≡ sha256 key → (held ≡ key → ⊥) → IsKeyFaultOf name held key fault → IsKeyFault keys key fault
fault_is keys name held key (Collision n h g) found is differ f = f
fault_is keys name held key (KeyCollision n h g) found is differ f =
    (ap (key_named keys) f.0 ∙ found ∙ ap Some (sym f.1), f.2, ap (λ (x : Hash). x.bytes) f.0 ∙ found_is_named keys name held found ∙ ap sha256 (sym f.1), ap (λ (x : Hash). x.bytes) f.0 ∙ is ∙ ap sha256 (sym f.2), λ same. differ (sym f.1 ∙ same ∙ f.2))
fault_is keys name held key Memory found is differ f = tt

-- ---- names of keys

pub key_name_is : (key : Key) → digest (key_bytes key) ≡ key_name key
unfolding key_name
key_name_is key = refl

digest_is : (h : Hash) (bytes : List ℕ) → h.bytes ≡ sha256 bytes → h ≡ digest bytes
digest_is h bytes is = λ i. record { bytes = is i }

-- the key of a name is found by its digest
pub found_by_digest : (keys : List (List ℕ)) (h : Hash) (slice bytes : List ℕ) (o : Option (List ℕ)) → h.bytes ≡ sha256 slice → slice ≡ bytes → o ≡ key_named keys h → key_named keys (digest bytes) ≡ o
found_by_digest keys h slice bytes o is same found = sym (ap (key_named keys) (digest_is h bytes (is ∙ ap sha256 same))) ∙ sym found

-- an added key is known
pub known_now : (old new : List (List ℕ)) (bytes : List ℕ) (key : Key) (r : Result (Unit {0}) MoveFault) → bytes ≡ key_bytes key → (key_named old (digest bytes) ≡ None → OnOk r (new ≡ old ++ bytes ∷ []))
    → ((held : List ℕ) → key_named old (digest bytes) ≡ Some held → OnOk r ((held ≡ bytes) × (new ≡ old))) → OnOk r (IsKnown new key × KnowsKey old key new)
known_now old new bytes key r is added known = by (key_named old (digest bytes)) refl
  where
    named : digest bytes ≡ key_name key
    named = ap digest is ∙ key_name_is key

    by : (o : Option (List ℕ)) → key_named old (digest bytes) ≡ o → OnOk r (IsKnown new key × KnowsKey old key new)
    by None none = on_ok_weaker r (λ (e : new ≡ old ++ bytes ∷ []). (
      ap (key_named new) (sym named) ∙ ap (λ (l : List (List ℕ)). key_named l (digest bytes)) e ∙ last_is_found old (digest bytes) bytes none refl ∙ ap Some is,
      inr (e ∙ ap (λ (b : List ℕ). old ++ b ∷ []) is),
    )) (added none)
    by (Some held) some = on_ok_weaker r (λ (e : (held ≡ bytes) × (new ≡ old)).
        (ap (key_named new) (sym named) ∙ ap (λ (l : List (List ℕ)). key_named l (digest bytes)) e.1 ∙ some ∙ ap Some (e.0 ∙ is), inl e.1)) (known held some)

-- what is known stays so
pub known_further : (old new : List (List ℕ)) (key other : Key) → KnowsKey old key new → IsKnown old other → IsKnown new other
known_further old new key other (inl same) known = ap (λ (l : List (List ℕ)). key_named l (key_name other)) same ∙ known
known_further old new key other (inr more) known =
    ap (λ (l : List (List ℕ)). key_named l (key_name other)) more ∙ find-append (λ k. bytes_eq (key_name other).bytes (sha256 k)) old (key_bytes key ∷ [])
    ∙ ap (λ (o : Option (List ℕ)). option_or o (key_named (key_bytes key ∷ []) (key_name other))) known
