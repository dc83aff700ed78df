-- The manifest of a tree.
use Rattle.std.specs.Prelude.{ℕ, true, false, List, map}
use Rattle.sha2.specs.Sha256.{sha256}
use Rattle.tree_model.specs.declared.entry.Entry.{Entry}
use Rattle.tree_model.specs.declared.entry.Entry.TheVariants.{File, Link}
use Rattle.tree_model.specs.declared.entry.EntryKind.{EntryKind}
use Rattle.tree_model.specs.declared.entry.EntryKind.TheVariants as kind
use Rattle.tree_model.specs.declared.manifest.ManifestLine.{ManifestLine}
use Rattle.tree_model.specs.Size.{entry_length}

-- What an entry is: a file that can't be executed, one that can, or a link.
abbrev pub kind_of : Entry → EntryKind
kind_of (File false bytes) = kind.File
kind_of (File true bytes) = kind.Exec
kind_of (Link target) = kind.Link

-- The bytes that an entry's length and digest are of: the file's, or those of the text of the link's target.
abbrev pub content_of : Entry → List ℕ
content_of (File exec bytes) = bytes
content_of (Link target) = target

-- The line of an entry: its path, kind, length and the SHA-256 of its bytes (own rule).
abbrev pub line_of : List ℕ × Entry → ManifestLine
line_of e = record { path = e.0; kind = kind_of e.1; length = entry_length e.1; hash = record { bytes = sha256 (content_of e.1) } }

-- The manifest of a tree: one line for each entry, in the order of the paths' bytes.
abbrev pub manifest_lines : List (List ℕ × Entry) → List ManifestLine
manifest_lines tree = map line_of tree
