-- Which signatures have a spelling: texts are UTF-8, lengths are those that a program can hold, lists ascend.
use Rattle.std.specs.Prelude.{ℕ, List, Option, None, Some}
use Rattle.std.specs.Str.{IsUtf8}
use Rattle.tree_model.specs.declared.hash.Hash.{Hash}
use Rattle.tree_model.specs.Hash.{IsHash}
use Rattle.meta_model.specs.declared.value.Resolved.{Resolved}
use Rattle.meta_model.specs.declared.value.KeyLine.{KeyLine}
use Rattle.store_model.specs.declared.signature.DepLine.{DepLine}
use Rattle.store_model.specs.declared.signature.SigRecord.{SigRecord}
use Rattle.store_model.specs.OneSpelling.{AllFit, Fits}
use Rattle.store_model.specs.Spelled.{IsSpelled}

-- a text in UTF-8 whose length a program can hold
pub record IsText (text : List ℕ) : Type 0 where
  pub fits : Fits text
  pub utf8 : IsUtf8 text

abbrev pub IsFlag : List ℕ × List ℕ → Type 0
IsFlag flag = IsText flag.0 × IsText flag.1

pub record IsResolved (value : Resolved) : Type 0 where
  pub text : IsText value.text
  pub removes : AllFit IsText value.removes
  pub flags : AllFit IsFlag value.flags

abbrev pub IsValue : Option Resolved → Type 0
IsValue None = Unit {0}
IsValue (Some value) = IsResolved value

pub record IsKeyLine (line : KeyLine) : Type 0 where
  pub name : IsText line.name
  pub value : IsValue line.value

abbrev pub IsFile : List ℕ × Hash → Type 0
IsFile file = IsText file.0 × IsHash file.1

pub record IsDep (dep : DepLine) : Type 0 where
  pub pn : IsText dep.pn
  pub task : IsText dep.task
  pub name : IsHash dep.name

-- A signature that has a spelling: its parts have one, and its lists ascend strictly (own rule).
pub record IsSignature (sig : SigRecord) : Type 0 where
  pub pn : IsText sig.pn
  pub task : IsText sig.task
  pub lines : AllFit IsKeyLine sig.key.lines
  pub files : AllFit IsFile sig.files
  pub deps : AllFit IsDep sig.deps
  pub spelled : IsSpelled sig
