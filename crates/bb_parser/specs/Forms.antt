-- What the parser's own values of forms stand for, and parts of forms.
use Rattle.std.specs.Prelude.{◌≡◌, ℕ, List, Option, IfOk, option_map, Result}
use Rattle.tree_model.specs.declared.text.Mem.{Mem}
use Rattle.meta_model.specs.Grammar.{Fit}
use Rattle.bb_parser.specs.declared.forms.LineFit.{LineFit}
use Rattle.bb_parser.specs.declared.forms.FlagOfName.{FlagOfName}

-- a fit of the definitions
abbrev pub fit_of_found : LineFit → Fit
fit_of_found f = record { statement = f.statement; inner = f.inner }

-- want of memory, or the fit of the definitions
abbrev pub GivesFit : Result (Option LineFit) Mem → Option Fit → Type 0
GivesFit made expected = IfOk made (λ found. expected ≡ option_map fit_of_found found)

-- a name, a flag of it, and what follows
abbrev pub name_and_flag : FlagOfName → List ℕ × List ℕ × List ℕ
name_and_flag f = (f.name.now, f.flag.now, f.rest.now)
