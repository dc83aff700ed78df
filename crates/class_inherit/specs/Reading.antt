-- What is read, as the code has it.
use Rattle.std.specs.Prelude.{ℕ, List, Option, Some, None, Result, Ok, Err, codes, unwrap_or, []}
use Rattle.meta_model.specs.declared.entry.EntryLine.{EntryLine}
use Rattle.meta_model.specs.declared.statement.Statement.{Statement}
use Rattle.meta_model.specs.Text.{words, colon_pieces}
use Rattle.meta_model.specs.Refusal.{Refusal, ◌>>=◌}
use Rattle.meta_model.specs.Active.{value, expand}
use Rattle.load_model.specs.LoadRefusal.{syntax, file_bytes}
use Rattle.load_model.specs.Loading.{Contents as Meant, Sources, sources_of, Origin as From, Found as FoundFile}
use Rattle.load_model.specs.Layers.{with_folder, statement_in_layer, contents_in_layer, sources_in_layer}
use Rattle.class_inherit.specs.declared.contents.Contents.{Contents}
use Rattle.class_inherit.specs.declared.contents.Contents.TheVariants.{Whole, Faulty, TooLong}
use Rattle.class_inherit.specs.declared.contents.Found.{Found}
use Rattle.class_inherit.specs.declared.load.Origin.{Origin}

-- what a file holds
abbrev pub contents_meant : Contents → Meant
contents_meant (Whole list) = Ok list
contents_meant (Faulty line wrong) = Err (line, syntax wrong)
contents_meant TooLong = Err (0, file_bytes)

-- a file that was found
abbrev pub found_meant : Found → FoundFile
found_meant found = (found.path, contents_meant found.contents)

-- the file that is read
abbrev pub origin_meant : Origin → From
origin_meant origin = record { path = origin.path.now; kind = origin.kind; class = origin.class.now }

-- the files, as they are read for a layer, or for none
abbrev pub sources_for : Option (List ℕ) → (List ℕ → Option (List ℕ)) → Sources
sources_for None files = sources_of files
sources_for (Some layer) files = sources_in_layer layer (sources_of files)

-- what a file holds, as it is read for a layer, or for none
abbrev pub contents_for : Option (List ℕ) → Meant → Meant
contents_for None contents = contents
contents_for (Some layer) contents = contents_in_layer layer contents

-- a statement, as it is read for a layer, or for none
abbrev pub statement_for : Option (List ℕ) → Statement → Statement
statement_for None statement = statement
statement_for (Some layer) statement = statement_in_layer layer statement

-- the text of such a statement
abbrev pub text_for : Option (List ℕ) → List ℕ → List ℕ
text_for None text = text
text_for (Some layer) text = with_folder layer text

-- the folders of BBPATH
abbrev pub path_folders : List EntryLine → Result (List (List ℕ)) Refusal
path_folders lines = value lines (codes "BBPATH") >>= λ path. Ok (colon_pieces (unwrap_or path []))

-- the words of an expanded text
abbrev pub words_in : List EntryLine → List ℕ → Result (List (List ℕ)) Refusal
words_in lines text = expand lines text >>= λ named. Ok (words named)
