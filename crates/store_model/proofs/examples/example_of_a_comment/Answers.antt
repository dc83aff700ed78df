use Rattle.std.proofs.Common.{refl}
use Rattle.std.specs.Fmt.{digits}
use Rattle.hex.specs.Hex.{encode_with}
use Rattle.sha2.specs.Sha256.{compress, digest_bytes, first_words, hash_after, rounds, schedule, sha256}
use Rattle.tree_model.specs.Folder.{picked}
use Rattle.tree_model.specs.Overlay.{overlaid}
use Rattle.meta_model.specs.CleanBuild.{is_beyond, is_beyond_layout}
use Rattle.meta_model.specs.Layout.{layout_in_order}
use Rattle.store_model.specs.Spelling.{key_bytes, key_name, name_of, short_bytes, signature_bytes}
use Rattle.store_model.proofs.Comment.{comment_is_recorded, what_is_available}
use Rattle.store_model.proofs.examples.example_of_a_comment.Goals as goal

pub returns-clause-first_digest : goal.returns-clause-first_digest
unfolding name_of signature_bytes short_bytes key_name key_bytes digits encode_with first_words schedule rounds compress hash_after digest_bytes sha256 layout_in_order is_beyond is_beyond_layout overlaid picked
returns-clause-first_digest c = refl

pub returns-clause-noted_digest : goal.returns-clause-noted_digest
unfolding name_of signature_bytes short_bytes key_name key_bytes digits encode_with first_words schedule rounds compress hash_after digest_bytes sha256 layout_in_order is_beyond is_beyond_layout overlaid picked
returns-clause-noted_digest c = refl

pub returns-clause-build_digest : goal.returns-clause-build_digest
unfolding name_of signature_bytes short_bytes key_name key_bytes digits encode_with first_words schedule rounds compress hash_after digest_bytes sha256 layout_in_order is_beyond is_beyond_layout overlaid picked
returns-clause-build_digest c = refl

pub returns-clause-missing : goal.returns-clause-missing
unfolding name_of signature_bytes short_bytes key_name key_bytes digits encode_with first_words schedule rounds compress hash_after digest_bytes sha256 layout_in_order is_beyond is_beyond_layout overlaid picked
returns-clause-missing c = refl

pub returns-clause-first_unihash : goal.returns-clause-first_unihash
unfolding name_of signature_bytes short_bytes key_name key_bytes digits encode_with first_words schedule rounds compress hash_after digest_bytes sha256 layout_in_order is_beyond is_beyond_layout overlaid picked
returns-clause-first_unihash c = refl

pub returns-clause-unihash : goal.returns-clause-unihash
unfolding name_of signature_bytes short_bytes key_name key_bytes digits encode_with first_words schedule rounds compress hash_after digest_bytes sha256 layout_in_order is_beyond is_beyond_layout overlaid picked
returns-clause-unihash c = refl

pub returns-clause-stands_for : goal.returns-clause-stands_for
unfolding name_of signature_bytes short_bytes key_name key_bytes digits encode_with first_words schedule rounds compress hash_after digest_bytes sha256 layout_in_order is_beyond is_beyond_layout overlaid picked
returns-clause-stands_for c = refl

pub returns-clause-old_signature : goal.returns-clause-old_signature
unfolding name_of signature_bytes short_bytes key_name key_bytes digits encode_with first_words schedule rounds compress hash_after digest_bytes sha256 layout_in_order is_beyond is_beyond_layout overlaid picked
returns-clause-old_signature c = refl

pub returns-clause-origins : goal.returns-clause-origins
unfolding name_of signature_bytes short_bytes key_name key_bytes digits encode_with first_words schedule rounds compress hash_after digest_bytes sha256 layout_in_order is_beyond is_beyond_layout overlaid picked
returns-clause-origins c = refl

pub returns-clause-clean : goal.returns-clause-clean
unfolding name_of signature_bytes short_bytes key_name key_bytes digits encode_with first_words schedule rounds compress hash_after digest_bytes sha256 layout_in_order is_beyond is_beyond_layout overlaid picked
returns-clause-clean c = refl

pub returns-clause-clean_again : goal.returns-clause-clean_again
unfolding name_of signature_bytes short_bytes key_name key_bytes digits encode_with first_words schedule rounds compress hash_after digest_bytes sha256 layout_in_order is_beyond is_beyond_layout overlaid picked
returns-clause-clean_again c = refl

pub returns-clause-recorded : goal.returns-clause-recorded
returns-clause-recorded c = comment_is_recorded

pub returns-clause-available : goal.returns-clause-available
returns-clause-available c = what_is_available
