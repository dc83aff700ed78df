use Rattle.bitbake_top.proofs.Lasting.{available_lasts}
use Rattle.bitbake_top.proofs.laws.lasting_law.Goals as goal

pub returns : goal.returns
returns c = record { lasts = available_lasts }
