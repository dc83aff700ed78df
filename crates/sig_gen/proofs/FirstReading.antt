-- The first format: what is read is spelled so, and what is spelled so is read.
use Rattle.std.proofs.Common.{◌≡◌, ◌∙◌, sym, ap, refl, subst, ℕ, lit<, false, cond, List, [], ◌∷◌, ◌++◌, Option, Some, None}
use Rattle.std.specs.Prelude.{codes}
use Rattle.std.proofs.lemmas.List.{append-nil}
use Rattle.tree_model.specs.declared.hash.Hash.{Hash}
use Rattle.tree_model.specs.Bytes.{framed, manifest_bytes}
use Rattle.tree_model.specs.Hash.{IsHash, hash_text}
use Rattle.meta_model.specs.Text.{is_empty}
use Rattle.meta_model.specs.declared.value.KeyLine.{KeyLine}
use Rattle.store_model.specs.declared.signature.DepLine.{DepLine}
use Rattle.store_model.specs.declared.signature.SigRecord.{SigRecord}
use Rattle.store_model.specs.declared.signature.StoredSig.{StoredSig}
use Rattle.store_model.specs.OneSpelling.{AllFit, Fits}
use Rattle.store_model.specs.Signatures.{dep_cmp, line_cmp}
use Rattle.store_model.specs.Spelled.{Ascends, file_cmp}
use Rattle.store_model.specs.Spelling.{dep_bytes, file_bytes, key_line_bytes, listed}
use Rattle.store_model.specs.Sound.{IsDep, IsFile, IsKeyLine, IsSignature, IsText}
use Rattle.store_model.specs.Stored.{ArePaths, IsManifestLine, path_cmp}
use Rattle.store_move.specs.First.{SpellsFirst, first_bytes, first_record}
use Rattle.sig_gen.specs.declared.fault.SigFault.{SigFault}
use Rattle.sig_gen.specs.Reading.{◌>>=◌, Fails, ascending_at, framed_at, text_at, word_at}
use Rattle.sig_gen.specs.Parts.{dep_at, file_at, is_dep_before, is_file_before, is_line_before, key_line_at}
use Rattle.sig_gen.specs.First.{first_at, first_lists_at, first_stored_at}
use Rattle.sig_gen.specs.Stored.{behind_signature}
use Rattle.sig_gen.proofs.Steps.{bind_some, guard_some, some_is}
use Rattle.sig_gen.proofs.Texts.{framed_again, framed_takes, text_read, word_again, word_takes}
use Rattle.sig_gen.proofs.Lists.{Ascending}
use Rattle.sig_gen.proofs.Records.{deps_read, files_read, lines_read, nothing}
use Rattle.sig_gen.proofs.Storing.{behind_again, behind_takes}

-- the bytes are the one spelling of this signature
record SpellsSig (bytes : List ℕ) (sig : SigRecord) : Type 0 where
  pub sound : IsSignature sig
  pub is : bytes ≡ first_bytes sig

abbrev made : List ℕ → List ℕ → List KeyLine → List (List ℕ × Hash) → List DepLine → SigRecord
made pn task lines files deps = record { pn = pn; task = task; key = record { lines = lines; excluded = false }; files = files; deps = deps }

-- what the lists of a signature say of it
record Rest (pn task bytes : List ℕ) (sig : SigRecord) : Type 0 where
  pub pn-is : sig.pn ≡ pn
  pub task-is : sig.task ≡ task
  pub is : bytes ≡ listed key_line_bytes sig.key.lines ++ (listed file_bytes sig.files ++ listed dep_bytes sig.deps)
  pub lines : Ascending line_cmp IsKeyLine sig.key.lines
  pub files : Ascending file_cmp IsFile sig.files
  pub deps : Ascending dep_cmp IsDep sig.deps
  pub excluded : sig.key.excluded ≡ false

lists_take : (pn task bytes : List ℕ) (sig : SigRecord) → first_lists_at pn task bytes ≡ Some sig → Rest pn task bytes sig
unfolding first_lists_at
lists_take pn task bytes sig e =
    let a = bind_some (ascending_at is_line_before key_line_at bytes) (λ lines. ascending_at is_file_before file_at lines.1 >>= λ files. ascending_at is_dep_before dep_at files.1 >>= λ deps. cond (is_empty deps.1) (Some (made pn task lines.0 files.0 deps.0)) None) sig e in
    let b = bind_some (ascending_at is_file_before file_at a.0.1) (λ files. ascending_at is_dep_before dep_at files.1 >>= λ deps. cond (is_empty deps.1) (Some (made pn task a.0.0 files.0 deps.0)) None) sig a.2 in
    let c = bind_some (ascending_at is_dep_before dep_at b.0.1) (λ deps. cond (is_empty deps.1) (Some (made pn task a.0.0 b.0.0 deps.0)) None) sig b.2 in
    let g = guard_some (is_empty c.0.1) (made pn task a.0.0 b.0.0 c.0.0) sig c.2 in
    let s = lines_read.takes bytes a.0.0 a.0.1 a.1 in
    let t = files_read.takes a.0.1 b.0.0 b.0.1 b.1 in
    let u = deps_read.takes b.0.1 c.0.0 c.0.1 c.1 in
    let last : b.0.1 ≡ listed dep_bytes c.0.0 = u.0 ∙ ap (λ (l : List ℕ). listed dep_bytes c.0.0 ++ l) (nothing c.0.1 g.0) ∙ append-nil (listed dep_bytes c.0.0) in
    let all = s.0 ∙ ap (λ (l : List ℕ). listed key_line_bytes a.0.0 ++ l) (t.0 ∙ ap (λ (l : List ℕ). listed file_bytes b.0.0 ++ l) last) in
    subst (Rest pn task bytes) g.1 (record { pn-is = refl; task-is = refl; is = all; lines = s.1; files = t.1; deps = u.1; excluded = refl })

lists_again : (bytes : List ℕ) (sig : SigRecord) → IsSignature sig → bytes ≡ listed key_line_bytes sig.key.lines ++ (listed file_bytes sig.files ++ listed dep_bytes sig.deps) → first_lists_at sig.pn sig.task bytes ≡ Some sig
unfolding first_lists_at
lists_again bytes sig h e =
    let m1 = listed file_bytes sig.files ++ listed dep_bytes sig.deps in
    let m2 = listed dep_bytes sig.deps in
    let excluded = h.spelled.excluded in
    rw (
      lines_read.again bytes sig.key.lines m1 (h.lines, h.spelled.lines) e,
      files_read.again m1 sig.files m2 (h.files, h.spelled.files) refl,
      deps_read.again m2 sig.deps [] (h.deps, h.spelled.deps) (sym (append-nil m2)),
    )
    (λ i. Some (record { pn = sig.pn; task = sig.task; key = record { lines = sig.key.lines; excluded = sym excluded i }; files = sig.files; deps = sig.deps }))

first_takes : (bytes : List ℕ) (sig : SigRecord) → first_at bytes ≡ Some sig → SpellsSig bytes sig
unfolding first_at first_bytes
first_takes bytes sig e =
    let a = bind_some (word_at (codes "bbsig1") bytes) (λ start. text_at start >>= λ pn. text_at pn.1 >>= λ task. first_lists_at pn.0 task.0 task.1) sig e in
    let b = bind_some (text_at a.0) (λ pn. text_at pn.1 >>= λ task. first_lists_at pn.0 task.0 task.1) sig a.2 in
    let c = bind_some (text_at b.0.1) (λ task. first_lists_at b.0.0 task.0 task.1) sig b.2 in
    let w = word_takes (codes "bbsig1") bytes a.0 a.1 in
    let s = text_read.takes a.0 b.0.0 b.0.1 b.1 in
    let t = text_read.takes b.0.1 c.0.0 c.0.1 c.1 in
    let l = lists_take b.0.0 c.0.0 c.0.1 sig c.2 in
    let lists = listed key_line_bytes sig.key.lines ++ (listed file_bytes sig.files ++ listed dep_bytes sig.deps) in
    let front : c.0.1 ≡ lists = l.is in
    let task : b.0.1 ≡ framed sig.task ++ lists = t.0 ∙ ap (λ (x : List ℕ). framed c.0.0 ++ x) front ∙ ap (λ (x : List ℕ). framed x ++ lists) (sym l.task-is) in
    let pn : a.0 ≡ framed sig.pn ++ (framed sig.task ++ lists) = s.0 ∙ ap (λ (x : List ℕ). framed b.0.0 ++ x) task ∙ ap (λ (x : List ℕ). framed x ++ (framed sig.task ++ lists)) (sym l.pn-is) in
    record {
      sound = record {
        pn = subst IsText (sym l.pn-is) s.1;
        task = subst IsText (sym l.task-is) t.1;
        lines = l.lines.0;
        files = l.files.0;
        deps = l.deps.0;
        spelled = record { lines = l.lines.1; files = l.files.1; deps = l.deps.1; excluded = l.excluded };
      };
      is = w ∙ ap (λ (x : List ℕ). framed (codes "bbsig1") ++ x) pn;
    }

first_again : (bytes : List ℕ) (sig : SigRecord) → SpellsSig bytes sig → first_at bytes ≡ Some sig
unfolding first_at first_bytes
first_again bytes sig h =
    let lists = listed key_line_bytes sig.key.lines ++ (listed file_bytes sig.files ++ listed dep_bytes sig.deps) in
    let m2 = framed sig.task ++ lists in
    let m1 = framed sig.pn ++ m2 in
    rw (
      word_again (codes "bbsig1") bytes m1 (lit< tt) h.is,
      text_read.again m1 sig.pn m2 h.sound.pn refl,
      text_read.again m2 sig.task lists h.sound.task refl,
    )
    (lists_again lists sig h.sound refl)

-- what is read, but for its paths
pub record IsFirst (bytes : List ℕ) (stored : StoredSig) : Type 0 where
  pub sig : IsSignature stored.sig
  pub few : Fits (first_bytes stored.sig)
  pub lines : AllFit IsManifestLine stored.manifest
  pub ascends : Ascends path_cmp stored.manifest
  pub unihash : IsHash stored.unihash
  pub is : bytes ≡ first_record stored

pub spells_first : (bytes : List ℕ) (stored : StoredSig) → IsFirst bytes stored → ArePaths stored.manifest → SpellsFirst bytes stored
spells_first bytes stored h paths = record { sig = h.sig; few = h.few; lines = h.lines; ascends = h.ascends; unihash = h.unihash; paths = paths; is = h.is }

pub stored_takes : (bytes : List ℕ) (stored : StoredSig) → first_stored_at bytes ≡ Some stored → IsFirst bytes stored
unfolding first_stored_at first_record
stored_takes bytes stored e =
    let a = bind_some (word_at (codes "bbrec1") bytes) (λ start. framed_at start >>= λ inner. first_at inner.0 >>= λ sig. behind_signature sig inner.1) stored e in
    let b = bind_some (framed_at a.0) (λ inner. first_at inner.0 >>= λ sig. behind_signature sig inner.1) stored a.2 in
    let c = bind_some (first_at b.0.0) (λ sig. behind_signature sig b.0.1) stored b.2 in
    let w = word_takes (codes "bbrec1") bytes a.0 a.1 in
    let s = framed_takes a.0 b.0.0 b.0.1 b.1 in
    let t = first_takes b.0.0 c.0 c.1 in
    let u = behind_takes c.0 b.0.1 stored c.2 in
    let inner : b.0.0 ≡ first_bytes stored.sig = t.is ∙ ap first_bytes (sym u.sig-is) in
    let tail = manifest_bytes stored.manifest ++ framed (hash_text stored.unihash) in
    let whole = w ∙ ap (λ (x : List ℕ). framed (codes "bbrec1") ++ x) (s.0 ∙ ap (λ (x : List ℕ). framed x ++ b.0.1) inner ∙ ap (λ (x : List ℕ). framed (first_bytes stored.sig) ++ x) u.is) in
    record { sig = subst IsSignature (sym u.sig-is) t.sound; few = subst Fits inner s.1; lines = u.lines.0; ascends = u.lines.1; unihash = u.unihash; is = whole }

pub stored_again : (bytes : List ℕ) (stored : StoredSig) → SpellsFirst bytes stored → first_stored_at bytes ≡ Some stored
unfolding first_stored_at first_record
stored_again bytes stored h =
    let tail = manifest_bytes stored.manifest ++ framed (hash_text stored.unihash) in
    let inner = first_bytes stored.sig in
    let m1 = framed inner ++ tail in
    rw (
      word_again (codes "bbrec1") bytes m1 (lit< tt) h.is,
      framed_again m1 inner tail h.few refl,
      first_again inner stored.sig (record { sound = h.sig; is = refl }),
    )
    (behind_again tail stored h.lines h.ascends h.unihash refl)

-- ---- as the code answers

pub fails_at : (e : SigFault) (bytes : List ℕ) → Fails e (first_stored_at bytes) → (stored : StoredSig) → SpellsFirst bytes stored → Fails e (Some stored)
fails_at e bytes fails stored h = subst (Fails e) (stored_again bytes stored h) fails

pub no_paths : (bytes : List ℕ) (read : StoredSig) → first_stored_at bytes ≡ Some read → (ArePaths read.manifest → ⊥) → (stored : StoredSig) → SpellsFirst bytes stored → ◌≡◌ {A = Option StoredSig} (Some stored) None
no_paths bytes read e none stored h =
    let same = some_is stored read (sym (stored_again bytes stored h) ∙ e) in
    absurd (none (subst (λ (s : StoredSig). ArePaths s.manifest) same h.paths))
