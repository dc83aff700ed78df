-- Keys that are added are known, and what was known stays so.
use Rattle.std.proofs.Common.{◌≡◌, ◌∙◌, sym, ap, refl, Bool, ℕ, ◌+◌, ◌<◌, inl, inr, List, [], ◌∷◌, ◌++◌, length, Option, None, Some, Ok, Err, Result, get_or, take, subst, false}
use Rattle.std.specs.Prelude.{Contains, OnOk}
use Rattle.std.specs.Option.{option_or}
use Rattle.std.proofs.lemmas.List.{take_more}
use Rattle.std.proofs.lemmas.List.Elements.{Contains-push_cases}
use Rattle.std.proofs.lemmas.List.Folds.{find-append}
use Rattle.std.proofs.lemmas.Result.{on_ok_weaker}
use Rattle.std.specs.Prelude.{bytes_eq}
use Rattle.sha2.specs.Sha256.{sha256}
use Rattle.tree_model.specs.declared.entry.Entry.{Entry}
use Rattle.tree_model.specs.declared.entry.Entry.TheVariants.{File}
use Rattle.record_move.specs.declared.fault.MoveFault.{MoveFault}
use Rattle.record_move.specs.Known.{digest, key_named}
use Rattle.record_move.proofs.Keeping.{last_is_found}
use Rattle.store_opening.specs.Survey.{HeldFile}

pub known_after : (old new : List (List ℕ)) (key : List ℕ) (r : Result (Unit {0}) MoveFault) → (key_named old (digest key) ≡ None → OnOk r (new ≡ old ++ key ∷ []))
    → ((held : List ℕ) → key_named old (digest key) ≡ Some held → OnOk r ((held ≡ key) × (new ≡ old))) → OnOk r (key_named new (digest key) ≡ Some key)
known_after old new key r added known = by (key_named old (digest key)) refl
  where
    by : (o : Option (List ℕ)) → key_named old (digest key) ≡ o → OnOk r (key_named new (digest key) ≡ Some key)
    by None e = on_ok_weaker r (λ (is : new ≡ old ++ key ∷ []). ap (λ (l : List (List ℕ)). key_named l (digest key)) is ∙ last_is_found old (digest key) key e refl) (added e)
    by (Some held) e = on_ok_weaker r (λ (is : (held ≡ key) × (new ≡ old)). ap (λ (l : List (List ℕ)). key_named l (digest key)) is.1 ∙ e ∙ ap (λ (k : List ℕ). Some k) is.0) (known held e)

pub kept_after : (old new : List (List ℕ)) (key bytes : List ℕ) (r : Result (Unit {0}) MoveFault) → (key_named old (digest key) ≡ None → OnOk r (new ≡ old ++ key ∷ []))
    → ((held : List ℕ) → key_named old (digest key) ≡ Some held → OnOk r ((held ≡ key) × (new ≡ old))) → key_named old (digest bytes) ≡ Some bytes → OnOk r (key_named new (digest bytes) ≡ Some bytes)
kept_after old new key bytes r added known was = by (key_named old (digest key)) refl
  where
    by : (o : Option (List ℕ)) → key_named old (digest key) ≡ o → OnOk r (key_named new (digest bytes) ≡ Some bytes)
    by None e = on_ok_weaker r
        (λ (is : new ≡ old ++ key ∷ []). ap (λ (l : List (List ℕ)). key_named l (digest bytes)) is ∙ find-append (λ k. bytes_eq (digest bytes).bytes (sha256 k)) old (key ∷ []) ∙ ap (λ (o : Option (List ℕ)). option_or o (key_named (key ∷ []) (digest bytes))) was)
        (added e)
    by (Some held) e = on_ok_weaker r (λ (is : (held ≡ key) × (new ≡ old)). ap (λ (l : List (List ℕ)). key_named l (digest bytes)) is.1 ∙ was) (known held e)

-- one file more
pub known_more : (files : List HeldFile) (n : ℕ) (f : HeldFile) (old new : List (List ℕ)) → n < length files → f ≡ get_or files n f
    → ((path bytes : List ℕ) → Contains (take n files) (path, File false bytes) → key_named old (digest bytes) ≡ Some bytes)
    → ((bytes : List ℕ) → f.1 ≡ File false bytes → key_named new (digest bytes) ≡ Some bytes)
    → ((bytes : List ℕ) → key_named old (digest bytes) ≡ Some bytes → key_named new (digest bytes) ≡ Some bytes)
    → (path bytes : List ℕ) → Contains (take (n + 1) files) (path, File false bytes) → key_named new (digest bytes) ≡ Some bytes
known_more files n f old new lt is was here kept path bytes has =
    let grown : take (n + 1) files ≡ take n files ++ f ∷ [] = take_more files n f lt ∙ ap (λ (x : HeldFile). take n files ++ x ∷ []) (sym is) in
    elim (Contains-push_cases (take n files) f (path, File false bytes) (subst (λ (l : List HeldFile). Contains l (path, File false bytes)) grown has)) [
      | inl earlier ↦ kept bytes (was path bytes earlier)
      | inr same ↦ here bytes (ap (λ (x : HeldFile). x.1) same)
    ]

pub known_of : (entry : Entry) (exec : Bool) (bytes key : List ℕ) (new : List (List ℕ)) (r : Result (Unit {0}) MoveFault) → entry ≡ File exec bytes → key ≡ bytes → OnOk r (key_named new (digest key) ≡ Some key)
    → OnOk r ((b : List ℕ) → entry ≡ File false b → key_named new (digest b) ≡ Some b)
known_of entry exec bytes key new r is same known =
    on_ok_weaker r (λ (found : key_named new (digest key) ≡ Some key) (b : List ℕ) (plain : entry ≡ File false b). let e : File exec bytes ≡ File false b = sym is ∙ plain in let one : bytes ≡ b = cc in subst (λ (k : List ℕ). key_named new (digest k) ≡ Some k) (same ∙ one) found) known

pub all_kept : (old new : List (List ℕ)) (r : Result (Unit {0}) MoveFault) → ((bytes : List ℕ) → key_named old (digest bytes) ≡ Some bytes → OnOk r (key_named new (digest bytes) ≡ Some bytes))
    → OnOk r ((bytes : List ℕ) → key_named old (digest bytes) ≡ Some bytes → key_named new (digest bytes) ≡ Some bytes)
all_kept old new (Ok v) each = each
all_kept old new (Err e) each = tt
