use Rattle.std.proofs.Common.{refl}
use Rattle.std.specs.Fmt.{digits}
use Rattle.hex.specs.Hex.{encode_with}
use Rattle.sha2.specs.Sha256.{compress, digest_bytes, first_words, hash_after, rounds, schedule, sha256}
use Rattle.store_model.specs.Spelling.{key_bytes, key_name, name_of, short_bytes, signature_bytes}
use Rattle.store_move.specs.First.{first_bytes, first_name}
use Rattle.record_move.proofs.examples.example_of_a_move.Goals as goal

pub returns-clause-old_names : goal.returns-clause-old_names
unfolding name_of signature_bytes first_name first_bytes short_bytes key_name key_bytes digits encode_with first_words schedule rounds compress hash_after digest_bytes sha256
returns-clause-old_names c = refl

pub returns-clause-names : goal.returns-clause-names
unfolding name_of signature_bytes first_name first_bytes short_bytes key_name key_bytes digits encode_with first_words schedule rounds compress hash_after digest_bytes sha256
returns-clause-names c = refl

pub returns-clause-unihashes : goal.returns-clause-unihashes
unfolding name_of signature_bytes first_name first_bytes short_bytes key_name key_bytes digits encode_with first_words schedule rounds compress hash_after digest_bytes sha256
returns-clause-unihashes c = refl

pub returns-clause-needed : goal.returns-clause-needed
unfolding name_of signature_bytes first_name first_bytes short_bytes key_name key_bytes digits encode_with first_words schedule rounds compress hash_after digest_bytes sha256
returns-clause-needed c = refl

pub returns-clause-rounds : goal.returns-clause-rounds
unfolding name_of signature_bytes first_name first_bytes short_bytes key_name key_bytes digits encode_with first_words schedule rounds compress hash_after digest_bytes sha256
returns-clause-rounds c = refl

pub returns-clause-again : goal.returns-clause-again
unfolding name_of signature_bytes first_name first_bytes short_bytes key_name key_bytes digits encode_with first_words schedule rounds compress hash_after digest_bytes sha256
returns-clause-again c = refl
