-- The manifest of a tree with one file `hello.txt` that holds `hello` and a newline.
use Rattle.std.specs.Prelude.{ℕ, List, [], ◌∷◌, codes}
use Rattle.tree_model.specs.declared.entry.EntryKind.TheVariants.{File}
use Rattle.tree_model.specs.declared.manifest.ManifestLine.{ManifestLine}

-- Its one line; the digest is that of `sha256sum`.
abbrev pub hello_lines : List ManifestLine
hello_lines = record { path = codes "hello.txt"; kind = File; length = 6; hash = record { bytes = 88 ∷ 145 ∷ 181 ∷ 181 ∷ 34 ∷ 213 ∷ 223 ∷ 8 ∷ 109 ∷ 15 ∷ 240 ∷ 177 ∷ 16 ∷ 251 ∷ 217 ∷ 210 ∷ 27 ∷ 180 ∷ 252 ∷ 113 ∷ 99 ∷ 175 ∷ 52 ∷ 208 ∷ 130 ∷ 134 ∷ 162 ∷ 232 ∷ 70 ∷ 246 ∷ 190 ∷ 3 ∷ [] } } ∷ []

-- Its 85 bytes.
abbrev pub hello_bytes : List ℕ
hello_bytes = codes "1;9:hello.txt,f6;64:5891b5b522d5df086d0ff0b110fbd9d21bb4fc7163af34d08286a2e846f6be03,"
