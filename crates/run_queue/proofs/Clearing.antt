-- What the rows say of the names of a plan's tasks, its book says.
use Rattle.std.proofs.Common.{◌≡◌, ◌∙◌, sym, ap, subst, refl, ℕ, ◌<◌, zero, suc, lit<, List, [], ◌∷◌, get_or, Some, None, inl, inr}
use Rattle.std.specs.Prelude.{◌⊎◌, Option, slice_index}
use Rattle.std.specs.List.{AllByRecursion, slice_get}
use Rattle.std.proofs.lemmas.Option.{slice_get-get_or}
use Rattle.tree_model.specs.Hash.{IsHash}
use Rattle.meta_model.specs.declared.plan.PlanTask.{PlanTask}
use Rattle.meta_model.specs.CleanBuild.{Gives}
use Rattle.store_model.specs.declared.signature.EquivRow.{EquivRow}
use Rattle.store_model.specs.declared.signature.SigRecord.{SigRecord}
use Rattle.meta_model.specs.declared.value.KeyLine.{KeyLine}
use Rattle.meta_model.specs.declared.value.Resolved.{Resolved}
use Rattle.store_model.specs.OneSpelling.{DepFits, FileFits, Fits, FlagFits, LineFits, ResolvedFits, SignatureFits, ValueFits}
use Rattle.store_model.specs.Sound.{IsDep, IsFile, IsFlag, IsKeyLine, IsResolved, IsSignature, IsText, IsValue}
use Rattle.store_model.specs.Origins.{Book, Line, Reading, row_of, rows_of}
use Rattle.store_model.specs.Premises.{HasNoCollision, HasOneSignature}
use Rattle.store_model.specs.Rows.{row_at, IsClear}
use Rattle.store_model.specs.Signatures.{Signed, signatures}
use Rattle.store_model.specs.Spelling.{name_of, signature_bytes}
use Rattle.store_model.specs.Valid.{IsNamedAlike, IsValidBook, StandsIn}
use Rattle.store_model.proofs.Ordered.{each_middle, each_weaker, map_each}
use Rattle.store_model.proofs.Reading.{signature_is_read}
use Rattle.store_model.proofs.Standing.{AllNew, each_line, one_place, row_found, row_none}
use Rattle.store_opening.proofs.Clean.{name_is_name}
use Rattle.store_model.specs.Readable.{IsReadable}

-- ---- what can be read again can be held

flag_fits : (f : List ℕ × List ℕ) → IsFlag f → FlagFits f
flag_fits f is = (is.0.fits, is.1.fits)

resolved_fits : (v : Resolved) → IsResolved v → ResolvedFits v
resolved_fits v is = record {
  text = is.text.fits;
  removes = (is.removes.0, each_weaker IsText Fits (λ x t. t.fits) v.removes is.removes.1);
  flags = (is.flags.0, each_weaker IsFlag FlagFits flag_fits v.flags is.flags.1);
}

value_fits : (v : Option Resolved) → IsValue v → ValueFits v
value_fits None is = tt
value_fits (Some v) is = resolved_fits v is

line_fits : (l : KeyLine) → IsKeyLine l → LineFits l
line_fits l is = record { name = is.name.fits; value = value_fits l.value is.value }

pub signature_fits : (sig : SigRecord) → IsSignature sig → SignatureFits sig
signature_fits sig is = record {
  pn = is.pn.fits;
  task = is.task.fits;
  lines = (is.lines.0, each_weaker IsKeyLine LineFits line_fits sig.key.lines is.lines.1);
  files = (is.files.0, each_weaker IsFile FileFits (λ f x. (x.0.fits, x.1)) sig.files is.files.1);
  deps = (is.deps.0, each_weaker IsDep DepFits (λ d x. record { pn = x.pn.fits; task = x.task.fits; name = x.name }) sig.deps is.deps.1);
  excluded = is.spelled.excluded;
}

bytes_are : (xs : List ℕ) → AllByRecursion (λ b. b < 256) xs → (i : ℕ) → slice_index xs i < 256
bytes_are [] all i = lit< tt
bytes_are (x ∷ xs) all zero = all.0
bytes_are (x ∷ xs) all (suc i) = bytes_are xs all.1 i

-- names are digests
pub name_is_hash : (sig : SigRecord) → IsHash (name_of sig)
name_is_hash sig = let n = name_is_name sig in record { size = n.size; bytes = bytes_are (name_of sig).bytes n.bytes }

pub all_new : (gives : Gives) (reading : Reading) (book : Book) → IsValidBook gives reading book → AllNew book
all_new gives reading book valid before line s = (valid before line s).new

-- the unihashes of a valid book are digests
pub unihash_is : (gives : Gives) (reading : Reading) (book before : Book) (line : Line) → IsValidBook gives reading book → StandsIn book before line → IsHash line.unihash
unihash_is gives reading book before line valid s = by (valid before line s).named
  where
    by : (line.unihash ≡ name_of line.sig) ⊎ IsNamedAlike before line → IsHash line.unihash
    by (inl own) = subst IsHash (sym own) (name_is_hash line.sig)
    by (inr alike) = subst IsHash (sym alike.name) (name_is_hash alike.first.sig)

pub unihashes_are : (gives : Gives) (reading : Reading) (book : Book) → IsValidBook gives reading book → AllByRecursion (λ (r : EquivRow). IsHash r.unihash) (rows_of book)
unihashes_are gives reading book valid =
    map_each row_of (λ (r : EquivRow). IsHash r.unihash) book (each_line (λ (l : Line). IsHash l.unihash) book (λ before line s. unihash_is gives reading book before line valid s))

module _ (gives : Gives) (reading : Reading) (book : Book) (valid : IsValidBook gives reading book) (readable : AllByRecursion IsReadable book) where
  -- a line of a name whose row has the bytes of a signature has that signature
  one_signature : (s : Signed) → SignatureFits s.sig → IsClear (rows_of book) (name_of s.sig) (signature_bytes s.sig) → HasOneSignature book s
  one_signature s fits clear before line stands same = by (row_at (rows_of book) (name_of s.sig)) refl
    where
      by : (r : Option EquivRow) → row_at (rows_of book) (name_of s.sig) ≡ r → line.sig ≡ s.sig
      by None e = absurd (row_none book (name_of s.sig) e before line stands same)
      by (Some row) e =
          let f = row_found book (name_of s.sig) row e in
          let one = (one_place book f.0 before f.1 line (all_new gives reading book valid) f.2 stands (f.4 ∙ sym same)).1 in
          let bytes : signature_bytes line.sig ≡ signature_bytes s.sig = sym (ap (λ (l : Line). signature_bytes l.sig) one) ∙ ap (λ (r : EquivRow). r.sig) f.3 ∙ clear row e in
          let held = each_middle IsReadable before line stands.rest (subst (λ (b : Book). AllByRecursion IsReadable b) stands.is readable) in
          signature_is_read line.sig s.sig (signature_fits line.sig held.spelled.sound.sig) fits bytes

  -- Where no row of a task's name has other bytes, no line has its name and another signature.
  pub clear_is_no_collision : (tasks : List PlanTask) → ((t : ℕ) (s : Signed) → slice_get (signatures (rows_of book) tasks) t ≡ Some s → SignatureFits s.sig)
      → ((t : ℕ) (s : Signed) → slice_get (signatures (rows_of book) tasks) t ≡ Some s → IsClear (rows_of book) (name_of s.sig) (signature_bytes s.sig)) → HasNoCollision book (rows_of book) tasks
  clear_is_no_collision tasks fits clear k d lt =
      let signed : List Signed = signatures (rows_of book) tasks in
      let s : Signed = get_or signed k d in
      let at = slice_get-get_or signed k d lt in
      one_signature s (fits k s at) (clear k s at)
