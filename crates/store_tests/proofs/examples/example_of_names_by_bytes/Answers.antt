use Rattle.std.proofs.Common.{◌≡◌, ◌∙◌, sym, ap, refl, ℕ, List, get_or, arith}
use Rattle.std.specs.Fmt.{digits}
use Rattle.hex.specs.Hex.{encode_with}
use Rattle.sha2.specs.Sha256.{compress, digest_bytes, first_words, hash_after, rounds, schedule, sha256}
use Rattle.tree_model.specs.declared.hash.Hash.{Hash}
use Rattle.store_model.specs.declared.signature.SigRecord.{SigRecord}
use Rattle.store_model.specs.Hello.{hello_name, hello_signature}
use Rattle.store_model.specs.Spelling.{key_bytes, key_name, name_of, short_bytes, signature_bytes, text_name}
use Rattle.build_store.proofs.Texts.{text_name_is}
use Rattle.store_tests.proofs.examples.example_of_names_by_bytes.Goals as goal

digest : hello_name ≡ name_of hello_signature
unfolding name_of short_bytes key_name key_bytes digits encode_with first_words schedule rounds compress hash_after digest_bytes sha256
digest = refl

by_bytes : (sig : SigRecord) → signature_bytes hello_signature ≡ signature_bytes sig → name_of hello_signature ≡ name_of sig
by_bytes sig same = sym (text_name_is hello_signature) ∙ ap text_name same ∙ text_name_is sig

pub returns-clause-name : goal.returns-clause-name
returns-clause-name c sig same = digest ∙ by_bytes sig same

pub returns-clause-other : goal.returns-clause-other
returns-clause-other c is = let first : 88 ≡ 97 = ap (λ (h : Hash). get_or h.bytes 0 0) (is hello_signature refl ∙ sym digest) in omega (arith, first)
