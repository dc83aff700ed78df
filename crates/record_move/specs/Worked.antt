-- A worked case: the three records of a recipe with two tasks, whose first one was run again behind a comment and gave the same.
use Rattle.std.specs.Prelude.{ℕ, List, [], ◌∷◌, ◌++◌, codes, map}
use Rattle.std.specs.List.{flat_map}
use Rattle.tree_model.specs.Hash.{hash_text}
use Rattle.tree_model.specs.declared.hash.Hash.{Hash}
use Rattle.store_model.specs.declared.signature.DepLine.{DepLine}
use Rattle.store_model.specs.Comment.{build_line, gen_line, noted_line}
use Rattle.store_model.specs.Origins.{Book, Line}
use Rattle.store_model.specs.Valid.{stored_of}
use Rattle.store_model.specs.Spelling.{name_of}
use Rattle.store_move.specs.First.{first, first_name}
use Rattle.store_move.specs.Moves.{begun, Move, moved_from, present}
use Rattle.record_move.specs.declared.records.AddedRecord.{AddedRecord}
use Rattle.record_move.specs.Rounds.{round_for}

-- as they stood in the first format: what they name they name by its names
abbrev pub old_line : Line → List DepLine → Hash → Line
old_line line deps unihash = record { sig = record { pn = line.sig.pn; task = line.sig.task; key = line.sig.key; files = line.sig.files; deps = deps }; files = line.files; manifest = line.manifest; unihash = unihash }

abbrev pub old_gen : Line
old_gen = old_line gen_line [] (first_name gen_line.sig)

abbrev pub old_deps : List DepLine
old_deps = record { pn = codes "c"; task = codes "do_gen"; name = first_name gen_line.sig } ∷ []

abbrev pub old_build : Line
old_build = old_line build_line old_deps (first_name (old_line build_line old_deps (first_name gen_line.sig)).sig)

abbrev pub old_noted : Line
old_noted = old_line noted_line [] (first_name gen_line.sig)

abbrev pub old_book : Book
old_book = old_gen ∷ (old_build ∷ (old_noted ∷ []))

-- they are moved where nothing stands in the new format
abbrev pub moved : Move
moved = moved_from first present (begun []) old_book

abbrev pub names : Book → List (List ℕ)
names book = map (λ (line : Line). hash_text (name_of line.sig)) book

abbrev pub unihashes : Book → List (List ℕ)
unihashes book = map (λ (line : Line). hash_text line.unihash) book

abbrev pub old_names : List (List ℕ)
old_names = map (λ (line : Line). hash_text (first_name line.sig)) old_book

-- the names of all needed tasks, line by line
abbrev pub needed : Book → List (List ℕ)
needed book = flat_map (λ (line : Line). map (λ dep. hash_text dep.name) line.sig.deps) book

abbrev pub added_behind : List AddedRecord → Line → AddedRecord
added_behind before line = record { name = name_of line.sig; stored = stored_of line; round = round_for before (stored_of line) }

-- the rounds of lines behind others that are added
abbrev pub rounds_from : List AddedRecord → Book → List ℕ
rounds_from before [] = []
rounds_from before (line ∷ more) = (added_behind before line).round ∷ rounds_from (before ++ added_behind before line ∷ []) more
