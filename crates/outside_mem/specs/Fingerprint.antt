-- What the bench in memory makes of a script. (Own rule.)
use Rattle.std.specs.Prelude.{ℕ, false, List, [], ◌∷◌, ◌++◌, codes, Ok}
use Rattle.sha2.specs.Sha256.{sha256}
use Rattle.tree_model.specs.declared.entry.Entry.TheVariants.{File}
use Rattle.tree_model.specs.declared.hash.Hash.{Hash}
use Rattle.tree_model.specs.Bytes.{framed, manifest_bytes}
use Rattle.tree_model.specs.Hash.{hash_text}
use Rattle.tree_model.specs.Manifest.{manifest_lines}
use Rattle.outside_traits.specs.Bench.{Entries, Gives}

-- the digest of the framed script, behind it the bytes of the manifest of what it runs over
abbrev pub fingerprint : List ℕ → Entries → Hash
fingerprint script tree = record { bytes = sha256 (framed script ++ manifest_bytes (manifest_lines tree)) }

-- the tree of one file `out`, which holds the digest in hexadecimal digits and a newline
abbrev pub fingerprint_tree : Hash → Entries
fingerprint_tree hash = (codes "out", File false (hash_text hash ++ 10 ∷ [])) ∷ []

-- Each script gives that file, so that what a run gives tells script and input apart.
abbrev pub gives_fingerprint : Gives
gives_fingerprint script tree = Ok (fingerprint_tree (fingerprint script tree))
