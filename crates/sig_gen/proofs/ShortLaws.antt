-- Keys, signatures and stored records: what is read is spelled so, and what is spelled so is read.
use Rattle.std.proofs.Common.{◌≡◌, ◌∙◌, sym, ap, refl, subst, ℕ, lit<, Bool, true, false, cond, List, [], ◌++◌, Option, Some, None, Result, Ok, Err}
use Rattle.std.specs.Prelude.{codes, IfOk, OnOk}
use Rattle.std.specs.Str.{bytes_eq}
use Rattle.std.proofs.lemmas.List.{append-nil}
use Rattle.sha2.specs.Sha256.{sha256}
use Rattle.tree_model.specs.declared.hash.Hash.{Hash}
use Rattle.tree_model.specs.Bytes.{framed, manifest_bytes}
use Rattle.tree_model.specs.Hash.{IsHash, hash_text}
use Rattle.meta_model.proofs.Bools.{same_text, text_itself}
use Rattle.meta_model.specs.Text.{is_empty}
use Rattle.meta_model.specs.declared.value.Key.{Key}
use Rattle.meta_model.specs.declared.value.KeyLine.{KeyLine}
use Rattle.store_model.specs.declared.signature.DepLine.{DepLine}
use Rattle.store_model.specs.declared.signature.ShortSig.{ShortSig}
use Rattle.store_model.specs.declared.signature.ShortStored.{ShortStored}
use Rattle.store_model.specs.declared.signature.SigRecord.{SigRecord}
use Rattle.store_model.specs.declared.signature.StoredSig.{StoredSig}
use Rattle.store_model.specs.OneSpelling.{AllFit, Fits}
use Rattle.store_model.specs.Signatures.{dep_cmp, line_cmp}
use Rattle.store_model.specs.Spelled.{Ascends, IsSpelled, file_cmp}
use Rattle.store_model.specs.Spelling.{dep_bytes, file_bytes, key_bytes, key_line_bytes, key_name, key_part, listed, name_of, record_bytes, short_bytes, short_of, short_part, short_record, short_stored_of, signature_bytes, whole_text}
use Rattle.store_model.proofs.Digests.{key_name_is_hash}
use Rattle.store_model.proofs.Reading.{key_of_whole, short_of_whole}
use Rattle.sig_gen.specs.declared.fault.SigFault.{SigFault}
use Rattle.sig_gen.specs.declared.fault.SigFault.TheVariants.{BadRecord, Memory}
use Rattle.sig_gen.specs.Reading.{◌>>=◌, Fails, Gives, ascending_at, framed_at, hash_at, text_at, word_at}
use Rattle.sig_gen.specs.Parts.{dep_at, file_at, is_dep_before, is_file_before, is_line_before, key_line_at}
use Rattle.store_model.specs.Sound.{IsDep, IsFile, IsKeyLine, IsSignature, IsText}
use Rattle.store_model.specs.Stored.{ArePaths, IsManifestLine, IsStored, SpellsKey, SpellsShort, SpellsStored, path_cmp}
use Rattle.sig_gen.specs.Sound.{Spells}
use Rattle.sig_gen.specs.Stored.{IsInOrder, behind_signature, is_path_before, manifest_line_at}
use Rattle.sig_gen.specs.Writing.{record_with}
use Rattle.sig_gen.specs.Record.{ShortIsWhole, behind_short, inner_at, key_at, keyed, short_at, short_lists_at, short_stored_at, sig_at, signature_at, stored_at, with_key}
use Rattle.sig_gen.proofs.Steps.{IsRead, bind_some, guard_some, guard_then, some_is}
use Rattle.sig_gen.proofs.Texts.{framed_again, framed_takes, hash_read, text_read, word_again, word_takes}
use Rattle.sig_gen.proofs.Lists.{Ascending}
use Rattle.sig_gen.proofs.Records.{deps_read, files_read, lines_read, nothing}
use Rattle.sig_gen.proofs.Storing.{behind_again, behind_takes, manifest_read}

-- ---- keys

key_takes : (bytes : List ℕ) (lines : List KeyLine) → key_at bytes ≡ Some lines → (bytes ≡ listed key_line_bytes lines) × Ascending line_cmp IsKeyLine lines
unfolding key_at
key_takes bytes lines e =
    let a = bind_some (ascending_at is_line_before key_line_at bytes) (λ l. cond (is_empty l.1) (Some l.0) None) lines e in
    let g = guard_some (is_empty a.0.1) a.0.0 lines a.2 in
    let s = lines_read.takes bytes a.0.0 a.0.1 a.1 in
    let whole : bytes ≡ listed key_line_bytes a.0.0 = s.0 ∙ ap (λ (l : List ℕ). listed key_line_bytes a.0.0 ++ l) (nothing a.0.1 g.0) ∙ append-nil (listed key_line_bytes a.0.0) in
    subst (λ (l : List KeyLine). (bytes ≡ listed key_line_bytes l) × Ascending line_cmp IsKeyLine l) g.1 (whole, s.1)

key_again : (bytes : List ℕ) (lines : List KeyLine) → Ascending line_cmp IsKeyLine lines → bytes ≡ listed key_line_bytes lines → key_at bytes ≡ Some lines
unfolding key_at
key_again bytes lines h e = rw (lines_read.again bytes lines [] h (e ∙ sym (append-nil (listed key_line_bytes lines)))) refl

-- ---- signatures with a key's name

pub record Short (bytes : List ℕ) (s : ShortSig) : Type 0 where
  pub pn : IsText s.pn
  pub task : IsText s.task
  pub key : IsHash s.key
  pub files : Ascending file_cmp IsFile s.files
  pub deps : Ascending dep_cmp IsDep s.deps
  pub is : bytes ≡ short_bytes s

abbrev made : List ℕ → List ℕ → Hash → List (List ℕ × Hash) → List DepLine → ShortSig
made pn task key files deps = record { pn = pn; task = task; key = key; files = files; deps = deps }

record Rest (pn task : List ℕ) (key : Hash) (bytes : List ℕ) (s : ShortSig) : Type 0 where
  pub pn-is : s.pn ≡ pn
  pub task-is : s.task ≡ task
  pub key-is : s.key ≡ key
  pub is : bytes ≡ listed file_bytes s.files ++ listed dep_bytes s.deps
  pub files : Ascending file_cmp IsFile s.files
  pub deps : Ascending dep_cmp IsDep s.deps

lists_take : (pn task : List ℕ) (key : Hash) (bytes : List ℕ) (s : ShortSig) → short_lists_at pn task key bytes ≡ Some s → Rest pn task key bytes s
unfolding short_lists_at
lists_take pn task key bytes s e =
    let b = bind_some (ascending_at is_file_before file_at bytes) (λ files. ascending_at is_dep_before dep_at files.1 >>= λ deps. cond (is_empty deps.1) (Some (made pn task key files.0 deps.0)) None) s e in
    let c = bind_some (ascending_at is_dep_before dep_at b.0.1) (λ deps. cond (is_empty deps.1) (Some (made pn task key b.0.0 deps.0)) None) s b.2 in
    let g = guard_some (is_empty c.0.1) (made pn task key b.0.0 c.0.0) s c.2 in
    let t = files_read.takes bytes b.0.0 b.0.1 b.1 in
    let u = deps_read.takes b.0.1 c.0.0 c.0.1 c.1 in
    let last : b.0.1 ≡ listed dep_bytes c.0.0 = u.0 ∙ ap (λ (l : List ℕ). listed dep_bytes c.0.0 ++ l) (nothing c.0.1 g.0) ∙ append-nil (listed dep_bytes c.0.0) in
    subst (Rest pn task key bytes) g.1 (record { pn-is = refl; task-is = refl; key-is = refl; is = t.0 ∙ ap (λ (l : List ℕ). listed file_bytes b.0.0 ++ l) last; files = t.1; deps = u.1 })

lists_again : (bytes : List ℕ) (s : ShortSig) → Ascending file_cmp IsFile s.files → Ascending dep_cmp IsDep s.deps → bytes ≡ listed file_bytes s.files ++ listed dep_bytes s.deps → short_lists_at s.pn s.task s.key bytes ≡ Some s
unfolding short_lists_at
lists_again bytes s files deps e =
    let m2 = listed dep_bytes s.deps in
    rw (
      files_read.again bytes s.files m2 files e,
      deps_read.again m2 s.deps [] deps (sym (append-nil m2)),
    ) refl

short_takes : (bytes : List ℕ) (s : ShortSig) → short_at bytes ≡ Some s → Short bytes s
unfolding short_at short_bytes
short_takes bytes s e =
    let a = bind_some (word_at (codes "bbsig2") bytes) (λ start. text_at start >>= λ pn. text_at pn.1 >>= λ task. hash_at task.1 >>= λ key. short_lists_at pn.0 task.0 key.0 key.1) s e in
    let b = bind_some (text_at a.0) (λ pn. text_at pn.1 >>= λ task. hash_at task.1 >>= λ key. short_lists_at pn.0 task.0 key.0 key.1) s a.2 in
    let c = bind_some (text_at b.0.1) (λ task. hash_at task.1 >>= λ key. short_lists_at b.0.0 task.0 key.0 key.1) s b.2 in
    let d = bind_some (hash_at c.0.1) (λ key. short_lists_at b.0.0 c.0.0 key.0 key.1) s c.2 in
    let w = word_takes (codes "bbsig2") bytes a.0 a.1 in
    let p = text_read.takes a.0 b.0.0 b.0.1 b.1 in
    let t = text_read.takes b.0.1 c.0.0 c.0.1 c.1 in
    let k = hash_read.takes c.0.1 d.0.0 d.0.1 d.1 in
    let l = lists_take b.0.0 c.0.0 d.0.0 d.0.1 s d.2 in
    let lists = listed file_bytes s.files ++ listed dep_bytes s.deps in
    let key : c.0.1 ≡ framed (hash_text s.key) ++ lists = k.0 ∙ ap (λ (x : List ℕ). framed (hash_text d.0.0) ++ x) l.is ∙ ap (λ (h : Hash). framed (hash_text h) ++ lists) (sym l.key-is) in
    let task : b.0.1 ≡ framed s.task ++ (framed (hash_text s.key) ++ lists) = t.0 ∙ ap (λ (x : List ℕ). framed c.0.0 ++ x) key ∙ ap (λ (x : List ℕ). framed x ++ (framed (hash_text s.key) ++ lists)) (sym l.task-is) in
    let pn : a.0 ≡ framed s.pn ++ (framed s.task ++ (framed (hash_text s.key) ++ lists)) = p.0 ∙ ap (λ (x : List ℕ). framed b.0.0 ++ x) task ∙ ap (λ (x : List ℕ). framed x ++ (framed s.task ++ (framed (hash_text s.key) ++ lists))) (sym l.pn-is) in
    record {
      pn = subst IsText (sym l.pn-is) p.1;
      task = subst IsText (sym l.task-is) t.1;
      key = subst IsHash (sym l.key-is) k.1;
      files = l.files;
      deps = l.deps;
      is = w ∙ ap (λ (x : List ℕ). framed (codes "bbsig2") ++ x) pn;
    }

short_again : (bytes : List ℕ) (s : ShortSig) → Short bytes s → short_at bytes ≡ Some s
unfolding short_at short_bytes
short_again bytes s h =
    let lists = listed file_bytes s.files ++ listed dep_bytes s.deps in
    let m3 = framed (hash_text s.key) ++ lists in
    let m2 = framed s.task ++ m3 in
    let m1 = framed s.pn ++ m2 in
    rw (
      word_again (codes "bbsig2") bytes m1 (lit< tt) h.is,
      text_read.again m1 s.pn m2 h.pn refl,
      text_read.again m2 s.task m3 h.task refl,
      hash_read.again m3 s.key lists h.key refl,
    )
    (lists_again lists s h.files h.deps refl)

short_of_sound : (bytes : List ℕ) (sig : SigRecord) → IsSignature sig → bytes ≡ short_bytes (short_of sig) → Short bytes (short_of sig)
short_of_sound bytes sig h e = record { pn = h.pn; task = h.task; key = key_name_is_hash sig.key; files = (h.files, h.spelled.files); deps = (h.deps, h.spelled.deps); is = e }

-- ---- whole signatures

-- the short text and the key are those of this signature
pub record SpellsParts (bytes key : List ℕ) (sig : SigRecord) : Type 0 where
  pub sound : IsSignature sig
  pub is : bytes ≡ short_bytes (short_of sig)
  pub key_is : key ≡ key_bytes sig.key

keyed_takes : (s : ShortSig) (key : List ℕ) (sig : SigRecord) → keyed s key ≡ Some sig → (short_of sig ≡ s) × (key ≡ key_bytes sig.key) × Ascending line_cmp IsKeyLine sig.key.lines × (sig.key.excluded ≡ false)
unfolding keyed key_bytes key_name
keyed_takes s key sig e =
    let g = guard_then (bytes_eq s.key.bytes (sha256 key)) (key_at key >>= λ lines. Some (with_key s lines)) sig e in
    let a = bind_some (key_at key) (λ lines. Some (with_key s lines)) sig g.1 in
    let t = key_takes key a.0 a.1 in
    let same : s.key.bytes ≡ sha256 key = same_text s.key.bytes (sha256 key) g.0 in
    let named : ◌≡◌ {A = Hash} (record { bytes = sha256 (listed key_line_bytes a.0) }) s.key = (λ i. record { bytes = sha256 (sym t.0 i) }) ∙ (λ i. record { bytes = sym same i }) in
    let whole : short_of (with_key s a.0) ≡ s = λ i. record { pn = s.pn; task = s.task; key = named i; files = s.files; deps = s.deps } in
    subst (λ (x : SigRecord). (short_of x ≡ s) × (key ≡ key_bytes x.key) × Ascending line_cmp IsKeyLine x.key.lines × (x.key.excluded ≡ false)) (some_is (with_key s a.0) sig a.2) (whole, t.0, t.1, refl)

keyed_again : (sig : SigRecord) (key : List ℕ) → IsSignature sig → key ≡ key_bytes sig.key → keyed (short_of sig) key ≡ Some sig
unfolding keyed key_bytes key_name
keyed_again sig key h e =
    let test : bytes_eq (sha256 (key_bytes sig.key)) (sha256 key) ≡ true = ap (λ (l : List ℕ). bytes_eq (sha256 (key_bytes sig.key)) (sha256 l)) e ∙ text_itself (sha256 (key_bytes sig.key)) in
    let read = key_again key sig.key.lines (h.lines, h.spelled.lines) e in
    let excluded = h.spelled.excluded in
    ap (λ (b : Bool). cond b (key_at key >>= λ lines. Some (with_key (short_of sig) lines)) None) test
    ∙ ap (λ (r : Option (List KeyLine)). r >>= λ lines. Some (with_key (short_of sig) lines)) read
    ∙ (λ i. Some (record { pn = sig.pn; task = sig.task; key = record { lines = sig.key.lines; excluded = sym excluded i }; files = sig.files; deps = sig.deps }))

pub sig_takes : (bytes key : List ℕ) (sig : SigRecord) → sig_at bytes key ≡ Some sig → SpellsParts bytes key sig
unfolding sig_at
sig_takes bytes key sig e =
    let a = bind_some (short_at bytes) (λ s. keyed s key) sig e in
    let s = short_takes bytes a.0 a.1 in
    let k = keyed_takes a.0 key sig a.2 in
    let h = subst (Short bytes) (sym k.0) s in
    record {
      sound = record {
        pn = h.pn;
        task = h.task;
        lines = k.2.0;
        files = h.files.0;
        deps = h.deps.0;
        spelled = record { lines = k.2.1; files = h.files.1; deps = h.deps.1; excluded = k.3 };
      };
      is = h.is;
      key_is = k.1;
    }

pub sig_again : (bytes key : List ℕ) (sig : SigRecord) → SpellsParts bytes key sig → sig_at bytes key ≡ Some sig
unfolding sig_at
sig_again bytes key sig h =
    ap (λ (r : Option ShortSig). r >>= λ s. keyed s key) (short_again bytes (short_of sig) (short_of_sound bytes sig h.sound h.is))
    ∙ keyed_again sig key h.sound h.key_is

-- ---- by their whole texts

parts_of_text : (text : List ℕ) (sig : SigRecord) → Spells text sig → SpellsParts (short_part text) (key_part text) sig
unfolding signature_bytes
parts_of_text text sig h = record {
  sound = h.sound;
  is = ap short_part h.is ∙ short_of_whole (short_bytes (short_of sig)) (key_bytes sig.key);
  key_is = ap key_part h.is ∙ key_of_whole (short_bytes (short_of sig)) (key_bytes sig.key);
}

-- a text that a program holds has as many bytes as its short one, at least
abbrev IsWhole : List ℕ → Type 0
IsWhole text = text ≡ whole_text (short_part text) (key_part text)

pub signature_again : (text : List ℕ) (sig : SigRecord) → Spells text sig → signature_at text ≡ Some sig
signature_again text sig h = sig_again (short_part text) (key_part text) sig (parts_of_text text sig h)

-- ---- stored records

abbrev Read : List ℕ → List ℕ → StoredSig → Type 0
Read bytes key stored = IsStored stored × (bytes ≡ record_bytes stored) × (key ≡ key_bytes stored.sig.key)

pub stored_takes : (bytes key : List ℕ) (stored : StoredSig) → stored_at bytes key ≡ Some stored → Read bytes key stored
unfolding stored_at record_bytes short_record
stored_takes bytes key stored e =
    let a = bind_some (word_at (codes "bbrec2") bytes) (λ start. framed_at start >>= λ inner. sig_at inner.0 key >>= λ sig. behind_signature sig inner.1) stored e in
    let b = bind_some (framed_at a.0) (λ inner. sig_at inner.0 key >>= λ sig. behind_signature sig inner.1) stored a.2 in
    let c = bind_some (sig_at b.0.0 key) (λ sig. behind_signature sig b.0.1) stored b.2 in
    let w = word_takes (codes "bbrec2") bytes a.0 a.1 in
    let s = framed_takes a.0 b.0.0 b.0.1 b.1 in
    let t = sig_takes b.0.0 key c.0 c.1 in
    let u = behind_takes c.0 b.0.1 stored c.2 in
    let inner : b.0.0 ≡ short_bytes (short_of stored.sig) = t.is ∙ ap (λ (g : SigRecord). short_bytes (short_of g)) (sym u.sig-is) in
    let whole = w ∙ ap (λ (x : List ℕ). framed (codes "bbrec2") ++ x) (s.0 ∙ ap (λ (x : List ℕ). framed x ++ b.0.1) inner ∙ ap (λ (x : List ℕ). framed (short_bytes (short_of stored.sig)) ++ x) u.is) in
    (record { sig = subst IsSignature (sym u.sig-is) t.sound; few = subst Fits inner s.1; lines = u.lines.0; ascends = u.lines.1; unihash = u.unihash }, whole, t.key_is ∙ ap (λ (g : SigRecord). key_bytes g.key) (sym u.sig-is))

pub stored_again : (bytes key : List ℕ) (stored : StoredSig) → SpellsStored bytes stored → key ≡ key_bytes stored.sig.key → stored_at bytes key ≡ Some stored
unfolding stored_at record_bytes short_record
stored_again bytes key stored h same =
    let tail = manifest_bytes stored.manifest ++ framed (hash_text stored.unihash) in
    let inner = short_bytes (short_of stored.sig) in
    let m1 = framed inner ++ tail in
    rw (
      word_again (codes "bbrec2") bytes m1 (lit< tt) h.is,
      framed_again m1 inner tail h.sound.few refl,
      sig_again inner key stored.sig (record { sound = h.sound.sig; is = refl; key_is = same }),
    )
    (behind_again tail stored h.sound.lines h.sound.ascends h.sound.unihash refl)

-- the name of a text's signature
pub text_names : (h : Hash) (short text : List ℕ) → h.bytes ≡ sha256 short → short ≡ short_part text → (sig : SigRecord) → text ≡ signature_bytes sig → h ≡ name_of sig
unfolding name_of signature_bytes
text_names h short text digest is sig same = λ i. record { bytes = (digest ∙ ap sha256 (is ∙ ap short_part same ∙ short_of_whole (short_bytes (short_of sig)) (key_bytes sig.key))) i }

-- ---- what is written

short_is : (sig : SigRecord) (short text : List ℕ) → short ≡ short_part text → text ≡ signature_bytes sig → short ≡ short_bytes (short_of sig)
unfolding signature_bytes
short_is sig short text is same = is ∙ ap short_part same ∙ short_of_whole (short_bytes (short_of sig)) (key_bytes sig.key)

record_is : (stored : StoredSig) → record_with (short_bytes (short_of stored.sig)) stored.manifest stored.unihash ≡ record_bytes stored
unfolding record_bytes short_record
record_is stored = refl

pub record_written : {E : Type 0} (stored : StoredSig) (short text : List ℕ) (r : Result (List ℕ) E) → short ≡ short_part text → text ≡ signature_bytes stored.sig → IfOk r (λ bytes. bytes ≡ record_with short stored.manifest stored.unihash) → IfOk r (λ bytes. bytes ≡ record_bytes stored)
record_written stored short text (Ok bytes) is same e = e ∙ ap (λ (s : List ℕ). record_with s stored.manifest stored.unihash) (short_is stored.sig short text is same) ∙ record_is stored
record_written stored short text (Err f) is same e = tt

pub record_spelled : {E : Type 0} (stored : StoredSig) (short text : List ℕ) (r : Result (List ℕ) E) → short ≡ short_part text → text ≡ signature_bytes stored.sig → IfOk r (λ bytes. bytes ≡ record_with short stored.manifest stored.unihash) → OnOk r (Fits short)
    → OnOk r (AllFit IsManifestLine stored.manifest) → OnOk r (IsHash stored.unihash) → (IsSpelled stored.sig → Spells text stored.sig) → IfOk r (λ bytes. IsInOrder stored → SpellsStored bytes stored)
record_spelled {E} stored short text (Ok bytes) is same e few lines unihash spells = λ order. record {
  sound = record { sig = (spells order.sig).sound; few = subst Fits (short_is stored.sig short text is same) few; lines = lines; ascends = order.ascends; unihash = unihash };
  paths = order.paths;
  is = record_written {E = E} stored short text (Ok bytes) is same e;
}
record_spelled stored short text (Err f) is same e few lines unihash spells = tt

-- ---- as the code answers

pub is_found : (text : List ℕ) (r : Result SigRecord SigFault) → IsWhole text → Gives (λ x. x) r (signature_at text) → IfOk r (λ sig. Spells text sig)
unfolding signature_bytes
is_found text (Ok sig) whole e =
    let t = sig_takes (short_part text) (key_part text) sig e in
    record { sound = t.sound; is = whole ∙ ap (λ (l : List ℕ). whole_text l (key_part text)) t.is ∙ ap (whole_text (short_bytes (short_of sig))) t.key_is }
is_found text (Err f) whole e = tt

pub is_only : (text : List ℕ) (r : Result SigRecord SigFault) → Gives (λ x. x) r (signature_at text) → (sig : SigRecord) → Spells text sig → Gives (λ x. x) r (Some sig)
is_only text r e sig h = subst (λ (f : Option SigRecord). Gives (λ x. x) r f) (signature_again text sig h) e

pub key_found : (bytes : List ℕ) (r : Result Key SigFault) → Gives (λ x. x.lines) r (key_at bytes) → IfOk r (λ key. key.excluded ≡ false) → IfOk r (λ key. SpellsKey bytes key)
unfolding key_bytes
key_found bytes (Ok key) e x = let t = key_takes bytes key.lines e in record { lines = t.1.0; ascends = t.1.1; excluded = x; is = t.0 }
key_found bytes (Err f) e x = tt

pub key_only : (bytes : List ℕ) (r : Result Key SigFault) → Gives (λ x. x.lines) r (key_at bytes) → IfOk r (λ key. key.excluded ≡ false) → (key : Key) → SpellsKey bytes key → Gives (λ x. x) r (Some key)
unfolding key_bytes
key_only bytes (Ok found) e x key h =
    let again = key_again bytes key.lines (h.lines, h.ascends) h.is in
    let lines = some_is key.lines found.lines (sym again ∙ e) in
    let excluded = h.excluded ∙ sym x in
    λ i. Some (record { lines = lines i; excluded = excluded i })
key_only bytes (Err f) e x key h = by f (subst (Fails f) (key_again bytes key.lines (h.lines, h.ascends) h.is) e)
  where
    by : (f : SigFault) → Fails f (Some key.lines) → Fails f (Some key)
    by Memory e = tt
    by BadRecord e = absurd (cc)

pub fails_at : (e : SigFault) (bytes key : List ℕ) → Fails e (stored_at bytes key) → (stored : StoredSig) → SpellsStored bytes stored → key ≡ key_bytes stored.sig.key → Fails e (Some stored)
fails_at e bytes key fails stored h same = subst (Fails e) (stored_again bytes key stored h same) fails

pub no_paths : (bytes key : List ℕ) (read : StoredSig) → stored_at bytes key ≡ Some read → (ArePaths read.manifest → ⊥) → (stored : StoredSig) → SpellsStored bytes stored → key ≡ key_bytes stored.sig.key → ◌≡◌ {A = Option StoredSig} (Some stored) None
no_paths bytes key read e none stored h is =
    let same = some_is stored read (sym (stored_again bytes key stored h is) ∙ e) in
    absurd (none (subst (λ (s : StoredSig). ArePaths s.manifest) same h.paths))

-- ---- records whose key isn't read

record BehindShort (sig : ShortSig) (bytes : List ℕ) (s : ShortStored) : Type 0 where
  pub sig-is : s.sig ≡ sig
  pub is : bytes ≡ manifest_bytes s.manifest ++ framed (hash_text s.unihash)
  pub lines : Ascending path_cmp IsManifestLine s.manifest
  pub unihash : IsHash s.unihash

behind_short_takes : (sig : ShortSig) (bytes : List ℕ) (s : ShortStored) → behind_short sig bytes ≡ Some s → BehindShort sig bytes s
unfolding behind_short
behind_short_takes sig bytes s e =
    let a = bind_some (ascending_at is_path_before manifest_line_at bytes) (λ manifest. hash_at manifest.1 >>= λ unihash. cond (is_empty unihash.1) (Some (record { sig = sig; manifest = manifest.0; unihash = unihash.0 })) None) s e in
    let b = bind_some (hash_at a.0.1) (λ unihash. cond (is_empty unihash.1) (Some (record { sig = sig; manifest = a.0.0; unihash = unihash.0 })) None) s a.2 in
    let g = guard_some (is_empty b.0.1) (record { sig = sig; manifest = a.0.0; unihash = b.0.0 }) s b.2 in
    let m = manifest_read.takes bytes a.0.0 a.0.1 a.1 in
    let t = hash_read.takes a.0.1 b.0.0 b.0.1 b.1 in
    let last : a.0.1 ≡ framed (hash_text b.0.0) = t.0 ∙ ap (λ (l : List ℕ). framed (hash_text b.0.0) ++ l) (nothing b.0.1 g.0) ∙ append-nil (framed (hash_text b.0.0)) in
    subst (BehindShort sig bytes) g.1 (record { sig-is = refl; is = m.0 ∙ ap (λ (l : List ℕ). manifest_bytes a.0.0 ++ l) last; lines = m.1; unihash = t.1 })

behind_short_again : (bytes : List ℕ) (s : ShortStored) → AllFit IsManifestLine s.manifest → Ascends path_cmp s.manifest → IsHash s.unihash → bytes ≡ manifest_bytes s.manifest ++ framed (hash_text s.unihash) → behind_short s.sig bytes ≡ Some s
unfolding behind_short
behind_short_again bytes s lines ascends unihash e =
    let m1 = framed (hash_text s.unihash) in
    rw (
      manifest_read.again bytes s.manifest m1 (lines, ascends) e,
      hash_read.again m1 s.unihash [] unihash (sym (append-nil m1)),
    ) refl

-- what is read, but for its paths
pub record ShortRead (bytes : List ℕ) (s : ShortStored) : Type 0 where
  pub short : Short (short_bytes s.sig) s.sig
  pub few : Fits (short_bytes s.sig)
  pub lines : Ascending path_cmp IsManifestLine s.manifest
  pub unihash : IsHash s.unihash
  pub is : bytes ≡ short_record s

pub short_stored_takes : (bytes : List ℕ) (s : ShortStored) → short_stored_at bytes ≡ Some s → ShortRead bytes s
unfolding short_stored_at short_record
short_stored_takes bytes s e =
    let a = bind_some (word_at (codes "bbrec2") bytes) (λ start. framed_at start >>= λ inner. short_at inner.0 >>= λ sig. behind_short sig inner.1) s e in
    let b = bind_some (framed_at a.0) (λ inner. short_at inner.0 >>= λ sig. behind_short sig inner.1) s a.2 in
    let c = bind_some (short_at b.0.0) (λ sig. behind_short sig b.0.1) s b.2 in
    let w = word_takes (codes "bbrec2") bytes a.0 a.1 in
    let f = framed_takes a.0 b.0.0 b.0.1 b.1 in
    let t = short_takes b.0.0 c.0 c.1 in
    let u = behind_short_takes c.0 b.0.1 s c.2 in
    let inner : b.0.0 ≡ short_bytes s.sig = t.is ∙ ap short_bytes (sym u.sig-is) in
    let whole = w ∙ ap (λ (x : List ℕ). framed (codes "bbrec2") ++ x) (f.0 ∙ ap (λ (x : List ℕ). framed x ++ b.0.1) inner ∙ ap (λ (x : List ℕ). framed (short_bytes s.sig) ++ x) u.is) in
    record {
      short = subst (λ x. Short (short_bytes x) x) (sym u.sig-is) (subst (λ l. Short l c.0) t.is t);
      few = subst Fits inner f.1;
      lines = u.lines;
      unihash = u.unihash;
      is = whole;
    }

pub short_stored_again : (bytes : List ℕ) (s : ShortStored) → SpellsShort bytes s → short_stored_at bytes ≡ Some s
unfolding short_stored_at short_record
short_stored_again bytes s h =
    let tail = manifest_bytes s.manifest ++ framed (hash_text s.unihash) in
    let inner = short_bytes s.sig in
    let m1 = framed inner ++ tail in
    rw (
      word_again (codes "bbrec2") bytes m1 (lit< tt) h.is,
      framed_again m1 inner tail h.few refl,
      short_again inner s.sig (record { pn = h.pn; task = h.task; key = h.key; files = (h.files, h.files_ascend); deps = (h.deps, h.deps_ascend); is = refl }),
    )
    (behind_short_again tail s h.lines h.ascends h.unihash refl)

pub spells_short : (bytes : List ℕ) (s : ShortStored) → ShortRead bytes s → ArePaths s.manifest → SpellsShort bytes s
spells_short bytes s r paths = record {
  pn = r.short.pn;
  task = r.short.task;
  key = r.short.key;
  files = r.short.files.0;
  files_ascend = r.short.files.1;
  deps = r.short.deps.0;
  deps_ascend = r.short.deps.1;
  few = r.few;
  lines = r.lines.0;
  ascends = r.lines.1;
  unihash = r.unihash;
  paths = paths;
  is = r.is;
}

pub short_fails_at : (e : SigFault) (bytes : List ℕ) → Fails e (short_stored_at bytes) → (s : ShortStored) → SpellsShort bytes s → Fails e (Some s)
short_fails_at e bytes fails s h = subst (Fails e) (short_stored_again bytes s h) fails

pub short_no_paths : (bytes : List ℕ) (read : ShortStored) → short_stored_at bytes ≡ Some read → (ArePaths read.manifest → ⊥) → (s : ShortStored) → SpellsShort bytes s → ◌≡◌ {A = Option ShortStored} (Some s) None
short_no_paths bytes read e none s h =
    let same = some_is s read (sym (short_stored_again bytes s h) ∙ e) in
    absurd (none (subst (λ (x : ShortStored). ArePaths x.manifest) same h.paths))

pub short_is_whole : ShortIsWhole
unfolding record_bytes short_record
short_is_whole = (
  λ bytes stored h. record {
    pn = h.sound.sig.pn;
    task = h.sound.sig.task;
    key = key_name_is_hash stored.sig.key;
    files = h.sound.sig.files;
    files_ascend = h.sound.sig.spelled.files;
    deps = h.sound.sig.deps;
    deps_ascend = h.sound.sig.spelled.deps;
    few = h.sound.few;
    lines = h.sound.lines;
    ascends = h.sound.ascends;
    unihash = h.sound.unihash;
    paths = h.paths;
    is = h.is;
  },
  λ bytes key s k h spells name.
      (let same : ◌≡◌ {A = ShortSig} s.sig (record { pn = s.sig.pn; task = s.sig.task; key = key_name k; files = s.sig.files; deps = s.sig.deps }) = λ i. record { pn = s.sig.pn; task = s.sig.task; key = name i; files = s.sig.files; deps = s.sig.deps } in
      record {
        sound = record {
          sig = record {
            pn = h.pn;
            task = h.task;
            lines = spells.lines;
            files = h.files;
            deps = h.deps;
            spelled = record { lines = spells.ascends; files = h.files_ascend; deps = h.deps_ascend; excluded = spells.excluded };
          };
          few = subst (λ (x : ShortSig). Fits (short_bytes x)) same h.few;
          lines = h.lines;
          ascends = h.ascends;
          unihash = h.unihash;
        };
        paths = h.paths;
        is = h.is ∙ ap (λ (x : ShortSig). framed (codes "bbrec2") ++ (framed (short_bytes x) ++ (manifest_bytes s.manifest ++ framed (hash_text s.unihash)))) same;
      }),
)

-- the short text among a record's bytes
pub inner_again : (bytes : List ℕ) (s : ShortStored) → SpellsShort bytes s → inner_at bytes ≡ Some (short_bytes s.sig)
unfolding inner_at short_record
inner_again bytes s h =
    let tail = manifest_bytes s.manifest ++ framed (hash_text s.unihash) in
    let inner = short_bytes s.sig in
    let m1 = framed inner ++ tail in
    rw (
      word_again (codes "bbrec2") bytes m1 (lit< tt) h.is,
      framed_again m1 inner tail h.few refl,
    ) refl
