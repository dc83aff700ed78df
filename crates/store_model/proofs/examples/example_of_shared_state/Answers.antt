use Rattle.std.proofs.Common.{refl}
use Rattle.std.specs.Fmt.{digits}
use Rattle.hex.specs.Hex.{encode_with}
use Rattle.sha2.specs.Sha256.{compress, digest_bytes, first_words, hash_after, rounds, schedule, sha256}
use Rattle.tree_model.specs.Folder.{picked}
use Rattle.tree_model.specs.Overlay.{overlaid}
use Rattle.meta_model.specs.CleanBuild.{is_beyond, is_beyond_layout}
use Rattle.meta_model.specs.Layout.{layout_in_order}
use Rattle.store_model.specs.Spelling.{key_bytes, key_name, name_of, short_bytes, signature_bytes}
use Rattle.store_model.proofs.LibraryAndApplication.{what_is_needed, what_is_restored}
use Rattle.store_model.proofs.examples.example_of_shared_state.Goals as goal

pub returns-clause-clean : goal.returns-clause-clean
unfolding name_of signature_bytes short_bytes key_name key_bytes digits encode_with first_words schedule rounds compress hash_after digest_bytes sha256 layout_in_order is_beyond is_beyond_layout overlaid picked
returns-clause-clean c = refl

pub returns-clause-origins : goal.returns-clause-origins
unfolding name_of signature_bytes short_bytes key_name key_bytes digits encode_with first_words schedule rounds compress hash_after digest_bytes sha256 layout_in_order is_beyond is_beyond_layout overlaid picked
returns-clause-origins c = refl

pub returns-clause-own_unihashes : goal.returns-clause-own_unihashes
unfolding name_of signature_bytes short_bytes key_name key_bytes digits encode_with first_words schedule rounds compress hash_after digest_bytes sha256 layout_in_order is_beyond is_beyond_layout overlaid picked
returns-clause-own_unihashes c = refl

pub returns-clause-needed_tasks : goal.returns-clause-needed_tasks
unfolding name_of signature_bytes short_bytes key_name key_bytes digits encode_with first_words schedule rounds compress hash_after digest_bytes sha256 layout_in_order is_beyond is_beyond_layout overlaid picked
returns-clause-needed_tasks c = refl

pub returns-clause-digests : goal.returns-clause-digests
unfolding name_of signature_bytes short_bytes key_name key_bytes digits encode_with first_words schedule rounds compress hash_after digest_bytes sha256 layout_in_order is_beyond is_beyond_layout overlaid picked
returns-clause-digests c = refl

pub returns-clause-needed : goal.returns-clause-needed
returns-clause-needed c = what_is_needed

pub returns-clause-restored : goal.returns-clause-restored
returns-clause-restored c = what_is_restored
