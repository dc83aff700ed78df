-- How values are written as bytes: a text or a number begins with what says where it ends.
use Rattle.std.specs.Prelude.{ℕ, List, [], ◌∷◌, ◌++◌, length}
use Rattle.std.specs.List.{flat_map}
use Rattle.std.specs.Fmt.{decimal}
use Rattle.tree_model.specs.declared.entry.EntryKind.{EntryKind}
use Rattle.tree_model.specs.declared.entry.EntryKind.TheVariants.{File, Exec, Link}
use Rattle.tree_model.specs.declared.manifest.ManifestLine.{ManifestLine}
use Rattle.tree_model.specs.Hash.{hash_text}

-- A framed text: its length in bytes as a decimal number without leading zeros, `:`, the text, `,` (own rule).
abbrev pub framed : List ℕ → List ℕ
framed text = decimal (length text) ++ (58 ∷ (text ++ (44 ∷ [])))

-- A framed number: the decimal number without leading zeros, `;` (own rule).
abbrev pub framed_number : ℕ → List ℕ
framed_number number = decimal number ++ (59 ∷ [])

-- The letter of a kind: `f` for a file, `x` for one that can be executed, `l` for a link (own rule).
abbrev pub kind_letter : EntryKind → ℕ
kind_letter File = 102
kind_letter Exec = 120
kind_letter Link = 108

-- A manifest line: the framed path, the letter of its kind, the framed length, the framed text of the digest (own rule).
abbrev pub line_bytes : ManifestLine → List ℕ
line_bytes line = framed line.path ++ (kind_letter line.kind ∷ (framed_number line.length ++ framed (hash_text line.hash)))

-- A manifest: the framed number of its lines, and the lines in their order (own rule).
abbrev pub manifest_bytes : List ManifestLine → List ℕ
manifest_bytes lines = framed_number (length lines) ++ flat_map line_bytes lines
