use Rattle.std.proofs.Common.{◌≡◌, ◌∙◌, ap, refl, ℕ, zero, suc, List, [], ◌∷◌, get_or, Some, arith}
use Rattle.std.specs.Prelude.{codes}
use Rattle.std.specs.List.{slice_get}
use Rattle.std.proofs.lemmas.Option.{none-some, same_Some}
use Rattle.store_model.specs.declared.signature.EquivRow.{EquivRow}
use Rattle.store_model.specs.Hello.{hello_hash, hello_name}
use Rattle.tree_model.specs.declared.hash.Hash.{Hash}
use Rattle.hash_equiv.specs.Index.{IsNameIn}
use Rattle.store_tests.specs.Worked.{one_row}
use Rattle.store_tests.proofs.examples.example_of_names_in_an_index.Goals as goal

-- the row of a name in an index of one row is that one
the_row : (place : ℕ) (row : EquivRow) → slice_get (one_row ∷ []) place ≡ Some row → one_row ≡ row
the_row zero row at = same_Some one_row row at
the_row (suc place) row at = absurd (none-some row at)

row_of : (sig : List ℕ) (name : Hash) → IsNameIn (one_row ∷ []) sig name → (codes "sig" ≡ sig) × (hello_name ≡ name)
row_of sig name is =
    let same = the_row is.place is.row is.stands in
    (ap (λ (r : EquivRow). r.sig) same ∙ is.signed, ap (λ (r : EquivRow). r.name) same ∙ is.named)

pub returns-clause-held : goal.returns-clause-held
returns-clause-held c = record { row = one_row; place = 0; stands = refl; signed = refl; named = refl }

pub returns-clause-other_name : goal.returns-clause-other_name
returns-clause-other_name c is = let first : 97 ≡ 88 = ap (λ (h : Hash). get_or h.bytes 0 0) (row_of (codes "sig") hello_hash is).1 in omega (arith, first)

pub returns-clause-other_bytes : goal.returns-clause-other_bytes
returns-clause-other_bytes c is = let same : codes "sig" ≡ codes "other" = (row_of (codes "other") hello_name is).0 in cc

pub returns-clause-no_row : goal.returns-clause-no_row
returns-clause-no_row c is = none-some is.row is.stands
