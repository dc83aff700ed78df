use Rattle.std.proofs.Common.{◌≡◌, ◌∙◌, sym, ◌<◌, ◌==◌, ℕ, List, length, get_or, Option, Some, None, IfSome, position}
use Rattle.std.proofs.lemmas.Bool.{eqb-true}
use Rattle.std.proofs.lemmas.List.Quantifiers.{position-Some}
use Rattle.byte_scan.proofs.Lanes.{one_byte}
use Rattle.meta_model.proofs.cuts.place_of.Goals as goal

-- a byte stands where it is found
stands : (found : Option ℕ) (bytes : List ℕ) (byte : ℕ) → found ≡ position (λ b. b == byte) bytes → IfSome found (λ i. (i < length bytes) × (get_or bytes i 0 ≡ byte))
stands None bytes byte e = tt
stands (Some i) bytes byte e = let h = position-Some (λ b. b == byte) bytes i 0 (sym e) in (h.0, eqb-true (get_or bytes i 0) byte h.1)

pub returns-clause-first : goal.returns-clause-first
returns-clause-first c = c.first_of.ensures ∙ one_byte c.args.bytes.now c.args.byte

pub returns-clause-stands : goal.returns-clause-stands
returns-clause-stands c = stands c.first_of.result c.args.bytes.now c.args.byte (c.first_of.ensures ∙ one_byte c.args.bytes.now c.args.byte)
