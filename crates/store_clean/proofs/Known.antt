-- What the records of rows say.
use Rattle.std.proofs.Common.{◌≡◌, ◌∙◌, sym, ap, refl, arith, ℕ, suc, List, [], ◌∷◌, ◌++◌}
use Rattle.std.proofs.Math.Seq.{take-append_seam}
use Rattle.store_model.specs.declared.signature.EquivRow.{EquivRow}
use Rattle.store_model.specs.declared.signature.ShortStored.{ShortStored}
use Rattle.tree_model.specs.Bytes.{framed, manifest_bytes}
use Rattle.tree_model.specs.Hash.{hash_text}
use Rattle.store_model.specs.Readable.{IsRow, row_of_short}
use Rattle.store_model.specs.Spelling.{short_bytes, short_part, short_record, whole_text}
use Rattle.store_opening.proofs.Surveyed.{same_stored}
use Rattle.store_clean.specs.declared.nodes.Node.{Node}
use Rattle.store_clean.specs.Naming.{names_of}
use Rattle.store_clean.specs.Steps.{AreNodesBy, IsTitled, node_names}

short_is : (short key : List ℕ) → short_part (whole_text short key) ≡ short
short_is short key = take-append_seam short key

record_is : (a b : ShortStored) → short_bytes a.sig ≡ short_bytes b.sig → a.manifest ≡ b.manifest → a.unihash ≡ b.unihash → short_record a ≡ short_record b
unfolding short_record
record_is a b sig manifest unihash = λ i. framed (98 ∷ (98 ∷ (114 ∷ (101 ∷ (99 ∷ (50 ∷ [])))))) ++ (framed (sig i) ++ (manifest_bytes (manifest i) ++ framed (hash_text (unihash i))))

-- a row is that of one record
pub one_known : (row : EquivRow) (a b : IsRow row) → a.stored ≡ b.stored
one_known row a b =
    let same : row_of_short a.stored a.key ≡ row_of_short b.stored b.key = sym a.is ∙ b.is in
    let text : whole_text (short_bytes a.stored.sig) a.key ≡ whole_text (short_bytes b.stored.sig) b.key = ap (λ (r : EquivRow). r.sig) same in
    let short : short_bytes a.stored.sig ≡ short_bytes b.stored.sig = sym (short_is (short_bytes a.stored.sig) a.key) ∙ ap short_part text ∙ short_is (short_bytes b.stored.sig) b.key in
    same_stored a.stored b.stored a.spelled b.spelled (record_is a.stored b.stored short (ap (λ (r : EquivRow). r.manifest) same) (ap (λ (r : EquivRow). r.unihash) same))

-- the names of the nodes are those of the rows
pub titled_names : (rows : List EquivRow) (nodes : List Node) → AreNodesBy IsTitled rows nodes → node_names nodes ≡ names_of rows
titled_names [] [] titled = refl
titled_names [] (n ∷ nodes) titled = absurd (let e = titled.long in omega (arith, e))
titled_names (r ∷ rows) [] titled = absurd (let e = titled.long in omega (arith, e))
titled_names (r ∷ rows) (n ∷ nodes) titled =
    let w = titled.each 0 r refl in
    let one : n ≡ w.0 = (let e = w.1 in cc) in
    let name : n.name ≡ r.name = ap (λ (x : Node). x.name) one ∙ w.2.name in
    let rest : node_names nodes ≡ names_of rows = titled_names rows nodes (record { long = (let e = titled.long in omega (arith, e)); each = λ k row e. titled.each (suc k) row e }) in
    λ i. name i ∷ rest i
