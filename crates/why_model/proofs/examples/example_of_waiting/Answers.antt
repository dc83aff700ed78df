use Rattle.std.proofs.Common.{refl}
use Rattle.std.specs.Fmt.{digits}
use Rattle.hex.specs.Hex.{encode_with}
use Rattle.sha2.specs.Sha256.{compress, digest_bytes, first_words, hash_after, rounds, schedule, sha256}
use Rattle.store_model.specs.Spelling.{key_bytes, key_name, name_of, short_bytes}
use Rattle.why_model.proofs.examples.example_of_waiting.Goals as goal

pub returns-clause-recorded : goal.returns-clause-recorded
unfolding name_of short_bytes key_name key_bytes digits encode_with first_words schedule rounds compress hash_after digest_bytes sha256
returns-clause-recorded c = refl
