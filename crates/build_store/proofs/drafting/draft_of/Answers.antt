use Rattle.std.proofs.Common.{◌≡◌, ◌∙◌, sym, ap, subst, None, Some, Ok, Err, List, ℕ, Result}
use Rattle.std.specs.Prelude.{IfErr, IfOk, OnOk}
use Rattle.tree_model.specs.declared.hash.Hash.{Hash}
use Rattle.tree_model.specs.declared.manifest.ManifestLine.{ManifestLine}
use Rattle.tree_model.specs.Manifest.{manifest_lines}
use Rattle.meta_model.specs.CleanBuild.{Entries}
use Rattle.store_model.specs.declared.signature.EquivRow.{EquivRow}
use Rattle.store_model.specs.Rows.{row_at}
use Rattle.store_model.specs.Signatures.{Signed}
use Rattle.std.proofs.lemmas.Result.{on_ok_weaker}
use Rattle.store_model.specs.declared.signature.SigRecord.{SigRecord}
use Rattle.store_model.specs.Spelling.{key_part, name_of, signature_bytes, text_name}
use Rattle.record_move.specs.Known.{key_named}
use Rattle.build_store.specs.Keys.{HasNoOtherKey, KnowsKeyOf, text_key}
use Rattle.sig_gen.specs.Sound.{Spells}
use Rattle.build_store.specs.declared.drafting.Draft.{Draft}
use Rattle.build_store.specs.declared.fault.StoreFault.{StoreFault}
use Rattle.build_store.specs.Drafts.{IsDraft, IsKeyClash, IsKnownFault}
use Rattle.build_store.specs.Faults.{IsRefusal}
use Rattle.store_model.specs.Readable.{IsRow}
use Rattle.build_store.specs.View.{signed_by}
use Rattle.build_store.proofs.Drafted.{known_is_draft, known_refusal}
use Rattle.build_store.proofs.KnownKeys.{key_refusal, known_one, one_of_sig}
use Rattle.build_store.proofs.Rows.{row_has, row_named}
use Rattle.build_store.proofs.Texts.{text_name_is}
use Rattle.build_store.proofs.drafting.draft_of.Goals as goal

-- what a row of the name gives
known_drafts : (rows : List EquivRow) (s : Signed) (lines : List ManifestLine) (row : EquivRow) (name : Hash) (bytes : List ℕ) (r : Result Draft StoreFault) → row_at rows (name_of s.sig) ≡ Some row → Spells bytes s.sig → name ≡ name_of s.sig → bytes ≡ signature_bytes s.sig
    → IfOk r (λ d. d.name ≡ name) → IfOk r (λ d. (d.unihash ≡ row.unihash) × (d.new ≡ None)) → OnOk r ((row.sig ≡ bytes) × (row.manifest ≡ lines)) → IfOk r (λ d. (tree : Entries) → lines ≡ manifest_lines tree → IsDraft rows s tree d)
known_drafts rows s lines row name bytes (Ok d) is spells n b named known agrees = λ tree e. known_is_draft rows s tree lines row d is (subst (λ (l : List ℕ). Spells l s.sig) b spells) (named ∙ n) known.0 known.1 (agrees.0 ∙ b) agrees.1 e
known_drafts rows s lines row name bytes (Err f) is spells n b named known agrees = tt

-- what it is refused for
known_faults : (rows : List EquivRow) (keys : List (List ℕ)) (s : Signed) (lines : List ManifestLine) (row : EquivRow) (bytes : List ℕ) (r : Result Draft StoreFault) → row_at rows (name_of s.sig) ≡ Some row → bytes ≡ signature_bytes s.sig
    → IfErr r (IsKnownFault s.task row bytes lines) → IfErr r (λ f. (tree : Entries) → lines ≡ manifest_lines tree → IsRefusal rows keys s tree f)
known_faults rows keys s lines row bytes (Ok d) is b known = tt
known_faults rows keys s lines row bytes (Err f) is b known = λ tree e.
    known_refusal rows keys s tree row f is (subst (λ (l : List ManifestLine). IsKnownFault s.task row (signature_bytes s.sig) l f) e (subst (λ (l : List ℕ). IsKnownFault s.task row l lines f) b known))

pub returns-in-Some-clause-draft : goal.returns-in-Some-clause-draft
returns-in-Some-clause-draft c =
    let is : row_at c.args.index.now (name_of c.args.sig.now) ≡ Some c.in-Some.row.now = ap (row_at c.args.index.now) (sym c.in_ok-own.ensures.name) ∙ sym c.in-Some.ensures in
    known_drafts c.args.index.now (signed_by c.args.task.now c.args.sig.now) c.args.manifest.now c.in-Some.row.now c.in_ok-own.own.name c.in_ok-own.own.text c.known_draft.result is (c.in_ok-own.ensures.spells c.requires.spelled) c.in_ok-own.ensures.name c.in_ok-own.ensures.text
    c.known_draft.ensures.name c.known_draft.ensures.known c.known_draft.ensures.agrees

pub returns-in-Some-clause-refused : goal.returns-in-Some-clause-refused
returns-in-Some-clause-refused c =
    let is : row_at c.args.index.now (name_of c.args.sig.now) ≡ Some c.in-Some.row.now = ap (row_at c.args.index.now) (sym c.in_ok-own.ensures.name) ∙ sym c.in-Some.ensures in
    known_faults c.args.index.now c.args.keys.now (signed_by c.args.task.now c.args.sig.now) c.args.manifest.now c.in-Some.row.now c.in_ok-own.own.text c.known_draft.result is c.in_ok-own.ensures.text c.known_draft.ensures.err

pub known_draft-requires-clause-row : goal.known_draft-requires-clause-row
known_draft-requires-clause-row c = row_has IsRow c.args.index.now c.in_ok-own.own.name c.in-Some.row.now c.requires.rows (sym c.in-Some.ensures)

pub known_draft-requires-clause-named : goal.known_draft-requires-clause-named
known_draft-requires-clause-named c =
    row_named c.args.index.now c.in_ok-own.own.name c.in-Some.row.now (sym c.in-Some.ensures) ∙ c.in_ok-own.ensures.name ∙ sym (text_name_is c.args.sig.now) ∙ ap text_name (sym c.in_ok-own.ensures.text)

pub returns-in-Some-clause-one_key : goal.returns-in-Some-clause-one_key
returns-in-Some-clause-one_key c =
    let keys = c.args.keys.now in
    let known : KnowsKeyOf keys c.in-Some.row.now.sig = row_has (λ (r : EquivRow). KnowsKeyOf keys r.sig) c.args.index.now c.in_ok-own.own.name c.in-Some.row.now c.requires.known (sym c.in-Some.ensures) in
    on_ok_weaker c.known_draft.result (λ agrees. known_one keys c.args.sig.now (subst (λ (t : List ℕ). KnowsKeyOf keys t) (agrees.0 ∙ c.in_ok-own.ensures.text) known)) c.known_draft.ensures.agrees

-- where the key was compared
one_text : (keys : List (List ℕ)) (sig : SigRecord) (text : List ℕ) → text ≡ signature_bytes sig → ((key : List ℕ) → key_named keys (text_key text) ≡ Some key → key ≡ key_part text) → HasNoOtherKey keys sig
one_text keys sig text is one = one_of_sig keys sig (subst (λ (t : List ℕ). (key : List ℕ) → key_named keys (text_key t) ≡ Some key → key ≡ key_part t) is one)

pub returns-in_ok-new_draft-in-Ok-clause-one_key : goal.returns-in_ok-new_draft-in-Ok-clause-one_key
returns-in_ok-new_draft-in-Ok-clause-one_key c = one_text c.args.keys.now c.args.sig.now c.in_ok-own.own.text c.in_ok-own.ensures.text c.in-Ok.ensures.ok

pub returns-in-Err-clause-refused : goal.returns-in-Err-clause-refused
returns-in-Err-clause-refused c = λ tree e.
    key_refusal c.args.index.now c.args.keys.now (signed_by c.args.task.now c.args.sig.now) tree c.in-Err.fault (subst (λ (t : List ℕ). IsKeyClash c.args.keys.now t c.in-Err.fault) c.in_ok-own.ensures.text c.in-Err.ensures.err)
