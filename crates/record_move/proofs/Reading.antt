-- Signatures with the same whole text are one.
use Rattle.std.proofs.Common.{◌≡◌, ◌∙◌, sym, ap, refl, ℕ, List, Some}
use Rattle.store_model.specs.declared.signature.SigRecord.{SigRecord}
use Rattle.store_model.specs.Sound.{IsSignature}
use Rattle.store_model.specs.Spelling.{signature_bytes}
use Rattle.sig_gen.specs.Record.{signature_at}
use Rattle.sig_gen.proofs.ShortLaws.{signature_again}

pub one_signature : (a b : SigRecord) → IsSignature a → IsSignature b → signature_bytes a ≡ signature_bytes b → a ≡ b
one_signature a b sound_a sound_b same =
    let read_a = signature_again (signature_bytes a) a (record { sound = sound_a; is = refl }) in
    let read_b = signature_again (signature_bytes a) b (record { sound = sound_b; is = same }) in
    let both : Some a ≡ Some b = sym read_a ∙ read_b in
    cc
