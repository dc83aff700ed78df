-- Why files can't be loaded, and how refusals are passed on.
use Rattle.std.specs.Prelude.{ℕ, List, [], Option, Some, None, Result, Ok, Err}
pub use Rattle.meta_model.specs.Passing.{◌>>=◌, require}
use Rattle.meta_model.specs.declared.line.SyntaxFault.{SyntaxFault}
use Rattle.meta_model.specs.Refusal.{Refusal}

-- The causes (own rules): no file stands where a required one is named; no class of that name is found; a file would be read
-- within 32 others; a file has a fault; a text or a name can't be expanded; a file has more than 1,048,576 bytes.
pub data LoadCause : Type 0 where
  missing_required : (path : List ℕ) → LoadCause
  missing_class : (name : List ℕ) → LoadCause
  include_depth : LoadCause
  syntax : SyntaxFault → LoadCause
  no_value : Refusal → LoadCause
  file_bytes : LoadCause

-- A place of the input: a file and a line of it. Without a line the number is 0, and without a file the path is empty too.
pub record Place : Type 0 where
  pub file : List ℕ
  pub line : ℕ

abbrev pub nowhere : Place
nowhere = record { file = []; line = 0 }

-- A refusal has the place of the statement, or of the file, that is at fault.
pub record LoadRefusal : Type 0 where
  pub file : List ℕ
  pub line : ℕ
  pub cause : LoadCause

abbrev pub refused_at : Place → LoadCause → LoadRefusal
refused_at place cause = record { file = place.file; line = place.line; cause = cause }

-- the same with another refusal
abbrev pub refused_as : {A E F : Type 0} → (E → F) → Result A E → Result A F
refused_as f (Ok a) = Ok a
refused_as f (Err refusal) = Err (f refusal)

-- a value that is asked for at a place
abbrev pub asked_at : {A : Type 0} → Place → Result A Refusal → Result A LoadRefusal
asked_at place result = refused_as (λ refusal. refused_at place (no_value refusal)) result

-- what is there, or a refusal
abbrev pub there : {A E : Type 0} → E → Option A → Result A E
there refusal None = Err refusal
there refusal (Some a) = Ok a
