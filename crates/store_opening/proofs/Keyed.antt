-- Keys by their names.
use Rattle.std.proofs.Common.{◌≡◌, ◌∙◌, sym, ap, refl, subst, ℕ, ◌+◌, ◌<◌, ◌≤◌, ◌⊎◌, inl, inr, arith, Bool, true, false, List, [], ◌∷◌, ◌++◌, length, get_or, take, Option, None, Some, slice_get}
use Rattle.std.specs.Prelude.{Contains, if◌then◌else◌}
use Rattle.std.specs.Map.{lookup}
use Rattle.std.specs.Option.{option_or}
use Rattle.std.specs.Str.{bytes_eq}
use Rattle.std.proofs.lemmas.List.{take_all, take_more}
use Rattle.std.proofs.lemmas.List.Elements.{Contains-push_cases}
use Rattle.std.proofs.lemmas.Option.{get_or_from_slice_get, slice_get-get_or, slice_get_within}
use Rattle.sha2.specs.Sha256.{sha256}
use Rattle.tree_model.specs.declared.entry.Entry.TheVariants.{File}
use Rattle.tree_model.specs.declared.hash.Hash.{Hash}
use Rattle.store_model.specs.Paths.{key_path}
use Rattle.store_model.specs.Rows.{hash_eq}
use Rattle.store_model.proofs.Listing.{hash_itself, hash_same}
use Rattle.store_opening.specs.Survey.{HeldFile, IsKeyFile, IsKeyIn, IsKeyTable, PutsKey}
use Rattle.store_opening.specs.Survey as puts

-- the keys of the first files are there, and nothing that isn't one of all of them
pub record KeyedSoFar (files : List HeldFile) (n : ℕ) (entries : List (List ℕ × ℕ)) : Type 0 where
  pub sound : (name : Hash) (place : ℕ) → lookup (bytes_eq name.bytes) entries ≡ Some place → (key : List ℕ) × (slice_get files place ≡ Some (key_path name, File false key)) × (sha256 key ≡ name.bytes)
  pub whole : (name : Hash) (key : List ℕ) → IsKeyIn (take n files) name key → (place : ℕ) × (lookup (bytes_eq name.bytes) entries ≡ Some place)

-- which of the files up to the next one it is
cases : (files : List HeldFile) (n : ℕ) (f : HeldFile) (name : Hash) (key : List ℕ) → n < length files → f ≡ get_or files n f → IsKeyIn (take (n + 1) files) name key → IsKeyIn (take n files) name key ⊎ (f ≡ (key_path name, File false key))
cases files n f name key lt is k =
    let grown : take (n + 1) files ≡ take n files ++ f ∷ [] = take_more files n f lt ∙ ap (λ (x : HeldFile). take n files ++ x ∷ []) (sym is) in
    elim (Contains-push_cases (take n files) f (key_path name, File false key) (subst (λ (l : List HeldFile). Contains l (key_path name, File false key)) grown k.among)) [
      | inl has ↦ inl (record { among = has; digest = k.digest })
      | inr e ↦ inr e
    ]

pub keyed_none : (files : List HeldFile) (n : ℕ) (f : HeldFile) (entries : List (List ℕ × ℕ)) → n < length files → f ≡ get_or files n f → KeyedSoFar files n entries
    → ((name : Hash) → IsKeyFile f name → ⊥) → KeyedSoFar files (n + 1) entries
keyed_none files n f entries lt is was none = record {
  sound = was.sound;
  whole = λ name key k. elim (cases files n f name key lt is k) [
    | inl earlier ↦ was.whole name key earlier
    | inr e ↦ absurd (none name (key, ap (λ (x : HeldFile). x.0) e, ap (λ (x : HeldFile). x.1) e, k.digest))
  ];
}

pub keyed_some : (files : List HeldFile) (n : ℕ) (f : HeldFile) (entries new : List (List ℕ × ℕ)) (h : Hash) → n < length files → f ≡ get_or files n f → KeyedSoFar files n entries
    → IsKeyFile f h
    → ((q : Hash) → lookup (bytes_eq q.bytes) new ≡ option_or (lookup (bytes_eq q.bytes) entries) (if hash_eq h q then Some n else None)) → KeyedSoFar files (n + 1) new
keyed_some files n f entries new h lt is was own puts = record {
  sound = λ name place e. sound name place (lookup (bytes_eq name.bytes) entries) refl (sym (puts name) ∙ e);
  whole = λ name key k. elim (cases files n f name key lt is k) [
    | inl earlier ↦ let w = was.whole name key earlier in (w.0, puts name ∙ ap (λ (o : Option ℕ). option_or o (if hash_eq h name then Some n else None)) w.1)
    | inr e ↦ last name (lookup (bytes_eq name.bytes) entries) refl (same name key k e)
  ];
}
  where
    at : slice_get files n ≡ Some f
    at = slice_get-get_or files n f lt ∙ ap (λ (x : HeldFile). Some x) (sym is)

    sound : (name : Hash) (place : ℕ) (o : Option ℕ) → lookup (bytes_eq name.bytes) entries ≡ o → option_or (lookup (bytes_eq name.bytes) entries) (if hash_eq h name then Some n else None) ≡ Some place
        → (key : List ℕ) × (slice_get files place ≡ Some (key_path name, File false key)) × (sha256 key ≡ name.bytes)
    sound name place (Some p) found e = was.sound name place (found ∙ sym (ap (λ (o : Option ℕ). option_or o (if hash_eq h name then Some n else None)) found) ∙ e)
    sound name place None found e = by (hash_eq h name) refl (sym (ap (λ (o : Option ℕ). option_or o (if hash_eq h name then Some n else None)) found) ∙ e)
      where
        by : (b : Bool) → hash_eq h name ≡ b → (if b then Some n else None) ≡ Some place → (key : List ℕ) × (slice_get files place ≡ Some (key_path name, File false key)) × (sha256 key ≡ name.bytes)
        by true t i =
            let here : n ≡ place = cc in
            let one : h ≡ name = hash_same h name t in
            (own.0, subst (λ (p : ℕ). slice_get files p ≡ Some (key_path name, File false own.0)) here (at ∙ (λ j. Some ((own.1 ∙ ap key_path one) j, own.2 j))), own.3 ∙ ap (λ (x : Hash). x.bytes) one)
        by false t i = absurd (cc)

    -- the name is that of the key, so there is one
    same : (name : Hash) (key : List ℕ) → IsKeyIn (take (n + 1) files) name key → f ≡ (key_path name, File false key) → h ≡ name
    same name key k e =
        let entry : File false own.0 ≡ File false key = sym own.2 ∙ ap (λ (x : HeldFile). x.1) e in
        let bytes : own.0 ≡ key = cc in
        λ i. record { bytes = (sym own.3 ∙ ap sha256 bytes ∙ k.digest) i }

    last : (name : Hash) (o : Option ℕ) → lookup (bytes_eq name.bytes) entries ≡ o → h ≡ name → (place : ℕ) × (lookup (bytes_eq name.bytes) new ≡ Some place)
    last name (Some p) found one = (p, puts name ∙ ap (λ (o : Option ℕ). option_or o (if hash_eq h name then Some n else None)) found)
    last name None found one = (n, puts name ∙ ap (λ (o : Option ℕ). option_or o (if hash_eq h name then Some n else None)) found ∙ ap (λ (b : Bool). if b then Some n else None) (hash_itself h name one))

pub keyed_all : (files : List HeldFile) (n : ℕ) (entries : List (List ℕ × ℕ)) → length files ≤ n → KeyedSoFar files n entries → IsKeyTable files entries
keyed_all files n entries past was = record { sound = was.sound; whole = λ name key k. was.whole name key (record { among = subst (λ (l : List HeldFile). Contains l (key_path name, File false key)) (sym (take_all n files past)) k.among; digest = k.digest }) }

pub keyed_start : (files : List HeldFile) (entries : List (List ℕ × ℕ)) → entries ≡ [] → KeyedSoFar files 0 entries
keyed_start files entries empty = record {
  sound = λ name place e. absurd (let none : None ≡ Some place = sym (ap (lookup (bytes_eq name.bytes)) empty) ∙ e in cc);
  whole = λ name key k. absurd (let lt = k.among.1 in omega (arith, lt));
}

-- one file more
pub keyed_more : (files : List HeldFile) (n : ℕ) (f : HeldFile) (entries new : List (List ℕ × ℕ)) → n < length files → f ≡ get_or files n f → KeyedSoFar files n entries → PutsKey f n entries new → KeyedSoFar files (n + 1) new
keyed_more files n f entries new lt is was (puts.put name own rest) = keyed_some files n f entries new name lt is was own rest
keyed_more files n f entries new lt is was (puts.none never same) = subst (KeyedSoFar files (n + 1)) (sym same) (keyed_none files n f entries lt is was never)

-- the place that a name leads to
pub key_below : (files : List HeldFile) (entries : List (List ℕ × ℕ)) (name : Hash) (place : ℕ) → IsKeyTable files entries → lookup (bytes_eq name.bytes) entries ≡ Some place → place < length files
key_below files entries name place table found = let s = table.sound name place found in slice_get_within files place (key_path name, File false s.0) s.1

-- what stands at the place
key_at : (files : List HeldFile) (entries : List (List ℕ × ℕ)) (name : Hash) (place : ℕ) (f : HeldFile) → IsKeyTable files entries → lookup (bytes_eq name.bytes) entries ≡ Some place → f ≡ get_or files place f
    → (key : List ℕ) × (f ≡ (key_path name, File false key)) × (sha256 key ≡ name.bytes)
key_at files entries name place f table found is =
    let s = table.sound name place found in
    (s.0, is ∙ get_or_from_slice_get files place (key_path name, File false s.0) f s.1, s.2)

pub key_read : (files : List HeldFile) (entries : List (List ℕ × ℕ)) (name : Hash) (place : ℕ) (f : HeldFile) (bytes : List ℕ) → IsKeyTable files entries → lookup (bytes_eq name.bytes) entries ≡ Some place → f ≡ get_or files place f
    → f.1 ≡ File false bytes → IsKeyIn files name bytes
key_read files entries name place f bytes table found is plain =
    let s = key_at files entries name place f table found is in
    let entry : File false s.0 ≡ File false bytes = sym (ap (λ (x : HeldFile). x.1) s.1) ∙ plain in
    let one : s.0 ≡ bytes = cc in
    let stands : f ≡ (key_path name, File false bytes) = s.1 ∙ ap (λ (k : List ℕ). (key_path name, File false k)) one in
    record {
      among = subst (Contains files) stands (place, key_below files entries name place table found, sym is);
      digest = ap sha256 (sym one) ∙ s.2;
    }

pub key_stands : (files : List HeldFile) (entries : List (List ℕ × ℕ)) (name : Hash) (place : ℕ) (f : HeldFile) → IsKeyTable files entries → lookup (bytes_eq name.bytes) entries ≡ Some place → f ≡ get_or files place f
    → ((bytes : List ℕ) → f.1 ≡ File false bytes → ⊥) → ⊥
key_stands files entries name place f table found is never = let s = key_at files entries name place f table found is in never s.0 (ap (λ (x : HeldFile). x.1) s.1)

pub key_unknown : (files : List HeldFile) (entries : List (List ℕ × ℕ)) (name : Hash) (key : List ℕ) → IsKeyTable files entries → lookup (bytes_eq name.bytes) entries ≡ None → IsKeyIn files name key → ⊥
key_unknown files entries name key table none is = let w = table.whole name key is in absurd (let e : None ≡ Some w.0 = sym none ∙ w.1 in cc)
