-- Texts that are written part by part.
use Rattle.std.specs.Prelude.{ℕ, List, ◌++◌, codes}
use Rattle.sha2.specs.Sha256.{sha256}
use Rattle.tree_model.specs.declared.hash.Hash.{Hash}
use Rattle.tree_model.specs.declared.manifest.ManifestLine.{ManifestLine}
use Rattle.tree_model.specs.Hash.{hash_text}
use Rattle.tree_model.specs.Bytes.{framed, manifest_bytes}
use Rattle.store_model.specs.Spelling.{whole_text}

-- a signature's short text, with these of its files and of its needed tasks
abbrev pub short_text : List ℕ → List ℕ → Hash → List ℕ → List ℕ → List ℕ
short_text pn task key files deps = framed (codes "bbsig2") ++ (framed pn ++ (framed task ++ (framed (hash_text key) ++ (files ++ deps))))

-- its whole text, with that of its key
abbrev pub text_with : List ℕ → List ℕ → List ℕ → List ℕ → List ℕ → List ℕ
text_with pn task key files deps = whole_text (short_text pn task (record { bytes = sha256 key }) files deps) key

-- a stored record, with the short text of its signature
abbrev pub record_with : List ℕ → List ManifestLine → Hash → List ℕ
record_with short manifest unihash = framed (codes "bbrec2") ++ (framed short ++ (manifest_bytes manifest ++ framed (hash_text unihash)))
