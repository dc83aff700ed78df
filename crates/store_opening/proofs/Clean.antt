-- Folders of tasks and the texts of digests are clean paths.
use Rattle.std.proofs.Common.{◌≡◌, ◌∙◌, sym, ap, subst, refl, ℕ, suc, ◌+◌, ◌*◌, ◌/◌, ◌%◌, ◌<◌, ◌≤◌, ◌⊎◌, inl, inr, List, [], ◌∷◌, All, Bool, true, false, arith, length, length-append}
use Rattle.std.specs.Prelude.{Contains, ◌==◌}
use Rattle.std.specs.List.{AllByRecursion}
use Rattle.std.proofs.lemmas.Bool.Decides.{Decides-eqb}
use Rattle.std.proofs.lemmas.List.Splits.{slice_split_none}
use Rattle.std.proofs.lemmas.List.Elements.{All-append, All-cons, All-nil, All-from_recursion}
use Rattle.sha2.proofs.Facts256.{length-sha256}
use Rattle.hex.specs.Hex.{IsBytes, decode_sized, encode_with, encode_lower}
use Rattle.hex.proofs.HexLemmas.{decode_sized-encode_lower}
use Rattle.tree_model.specs.declared.hash.Hash.{Hash}
use Rattle.tree_model.specs.Hash.{IsHash, hash_text}
use Rattle.tree_model.specs.Path.{IsClean, IsPart, inside, parts_of}
use Rattle.tree_model.proofs.FolderLemmas.{parts_inside}
use Rattle.meta_model.specs.declared.plan.PlanTask.{PlanTask}
use Rattle.store_model.specs.Available.{task_folder}
use Rattle.store_model.specs.declared.signature.ShortSig.{ShortSig}
use Rattle.store_model.specs.declared.signature.SigRecord.{SigRecord}
use Rattle.store_model.specs.Spelling.{name_of, short_bytes, short_name, short_of}
use Rattle.stamp_store.specs.Stamp.{IsFolder}
use Rattle.store_opening.specs.Named.{IsName}
use Rattle.store_opening.specs.Paths.{HasPlace}
use Rattle.outside_traits.specs.Store.{slashes}
use Rattle.store_opening.proofs.Hexed.{are_bytes, digit, digit_is, div_small, name_bytes_are, name_digest, short_bytes_are, short_digest}
use Rattle.store_opening.proofs.Slashes.{slashes_inside}
use Rattle.store_opening.proofs.Surveyed.{each_of}

-- ---- texts without slashes

no_slash : (text : List ℕ) → slashes text ≡ 0 → AllByRecursion (λ b. (b == 47) ≡ false) text
no_slash [] e = tt
no_slash (x ∷ xs) e = by (x == 47) refl (no_slash xs)
  where
    by : (b : Bool) → (x == 47) ≡ b → (slashes xs ≡ 0 → AllByRecursion (λ c. (c == 47) ≡ false) xs) → AllByRecursion (λ c. (c == 47) ≡ false) (x ∷ xs)
    by true t more = let f = rw t at e in absurd (omega (arith, f))
    by false t more = (t, more (rw t at e))

pub alone : (text : List ℕ) → slashes text ≡ 0 → parts_of text ≡ text ∷ []
alone text e = slice_split_none (λ b. b == 47) text (All-from_recursion (λ b. (b == 47) ≡ false) text (no_slash text e))

-- a clean path in a clean folder
pub clean_inside : (folder path : List ℕ) → IsClean folder → IsClean path → length (inside folder path) ≤ 4096 → IsClean (inside folder path)
clean_inside folder path f p short = record {
  short = short;
  parts = let P : List (List ℕ) → Type 0 = λ l. All IsPart l in subst P (sym (parts_inside folder path)) (All-append IsPart (parts_of folder) (parts_of path) f.parts p.parts);
}

pub one_clean : (text : List ℕ) → IsPart text → slashes text ≡ 0 → IsClean text
one_clean text part none = record {
  short = let s = part.short in omega (arith, s);
  parts = let P : List (List ℕ) → Type 0 = λ l. All IsPart l in subst P (sym (alone text none)) (All-cons IsPart text [] part (All-nil IsPart));
}

-- ---- a task's folder

pub folder_is : (task : PlanTask) → HasPlace task → IsFolder (task_folder task)
folder_is task has =
    let a = has.pn.part.short in
    let b = has.task.part.short in
    let len = length-append task.id.pn (47 ∷ task.id.task) in
    record {
      clean = clean_inside task.id.pn task.id.task (one_clean task.id.pn has.pn.part has.pn.alone) (one_clean task.id.task has.task.part has.task.alone) (omega (arith, a, b, len));
      short = omega (arith, a, b, len);
    }

pub folder_slashes : (task : PlanTask) → HasPlace task → slashes (task_folder task) ≡ 1
folder_slashes task has = let e = slashes_inside task.id.pn task.id.task in let a = has.pn.alone in let b = has.task.alone in omega (arith, e, a, b)

-- ---- the texts of digests

IsDigit : ℕ → Type 0
IsDigit c = (48 ≤ c) × (c ≤ 102)

digit_chars : (a : ℕ) → a < 16 → IsDigit (digit a)
unfolding IsDigit
digit_chars a lt = by (digit_is a lt)
  where
    by : ((a < 10) × (digit a ≡ a + 48)) ⊎ ((10 ≤ a) × (digit a ≡ a + 87)) → (48 ≤ digit a) × (digit a ≤ 102)
    by (inl p) = let e = p.1 in let h = p.0 in (omega (arith, e), omega (arith, e, h))
    by (inr p) = let e = p.1 in (omega (arith, e), omega (arith, e, lt))

text_chars : (xs : List ℕ) → AllByRecursion (λ b. b < 256) xs → AllByRecursion IsDigit (encode_lower xs)
unfolding encode_with
text_chars [] all = tt
text_chars (x ∷ xs) all = (digit_chars (x / 16) (div_small x all.0), (digit_chars (x % 16) (omega arith), text_chars xs all.1))

text_length : (xs : List ℕ) → length (encode_lower xs) ≡ 2 * length xs
unfolding encode_with
text_length [] = refl
text_length (x ∷ xs) = let e = text_length xs in omega (arith, e)

text_slashes : (text : List ℕ) → AllByRecursion IsDigit text → slashes text ≡ 0
unfolding IsDigit
text_slashes [] all = refl
text_slashes (x ∷ xs) all = by (x == 47) refl all.0.0 (text_slashes xs all.1)
  where
    by : (b : Bool) → (x == 47) ≡ b → 48 ≤ x → slashes xs ≡ 0 → slashes (x ∷ xs) ≡ 0
    by true e h more = let f = (Decides-eqb x 47).0 e in absurd (omega (arith, h, f))
    by false e h more = rw e more

no_zero_digit : (text : List ℕ) → AllByRecursion IsDigit text → Contains text 0 → ⊥
unfolding IsDigit
no_zero_digit text all has = let d = each_of IsDigit text 0 all has in let h = d.0 in omega (arith, h)

-- names of records, and all digests that are read, are such
pub name_is_name : (sig : SigRecord) → IsName (name_of sig)
name_is_name sig = record { size = ap length (name_digest sig) ∙ length-sha256 (short_bytes (short_of sig)); bytes = name_bytes_are sig }

pub short_is_name : (s : ShortSig) → IsName (short_name s)
short_is_name s = record { size = ap length (short_digest s) ∙ length-sha256 (short_bytes s); bytes = short_bytes_are s }

all_bytes : (xs : List ℕ) → IsBytes xs → AllByRecursion (λ b. b < 256) xs
all_bytes [] all = tt
all_bytes (x ∷ xs) all = (all 0, all_bytes xs (λ i. all (suc i)))

pub hash_is_name : (hash : Hash) → IsHash hash → IsName hash
hash_is_name hash is = record { size = is.size; bytes = all_bytes hash.bytes is.bytes }

pub name_text_length : (name : Hash) → IsName name → length (hash_text name) ≡ 64
name_text_length name is =
    let e = text_length name.bytes in
    let n = is.size in
    omega (arith, e, n)

name_chars : (name : Hash) → IsName name → AllByRecursion IsDigit (hash_text name)
name_chars name is = text_chars name.bytes is.bytes

pub name_slashes : (name : Hash) → IsName name → slashes (hash_text name) ≡ 0
name_slashes name is = text_slashes (hash_text name) (name_chars name is)

pub name_clean : (name : Hash) → IsName name → IsClean (hash_text name)
name_clean name is =
    let len = name_text_length name is in
    one_clean (hash_text name) (record {
      not_empty = omega (arith, len);
      short = omega (arith, len);
      not_here = λ e. let l = ap length e in omega (arith, l, len);
      not_above = λ e. let l = ap length e in omega (arith, l, len);
      no_zero = no_zero_digit (hash_text name) (name_chars name is);
    }) (name_slashes name is)

-- digests with one text are one
pub same_digest : (a b : Hash) → IsName a → IsName b → hash_text a ≡ hash_text b → a ≡ b
same_digest a b na nb e =
    let k = sym (decode_sized-encode_lower a.bytes 32 na.size (are_bytes a.bytes na.bytes)) ∙ ap (λ t. decode_sized t 32) e ∙ decode_sized-encode_lower b.bytes 32 nb.size (are_bytes b.bytes nb.bytes) in
    let same : a.bytes ≡ b.bytes = cc in
    ap (λ l. record { bytes = l }) same
