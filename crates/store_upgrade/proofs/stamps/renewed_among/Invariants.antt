use Rattle.std.proofs.Common.{take}
use Rattle.store_upgrade.specs.Stamps.{IsRenewedAt}
use Rattle.store_upgrade.specs.Steps.{AreFolders}
use Rattle.store_upgrade.proofs.stamps.renewed_among.Given as goal

abbrev pub invariant-loop-file : goal.invariant-loop-file
invariant-loop-file l = record {
  at : IsRenewedAt l.names.entries (take l.file-index l.files) l.found.items;
  folders : AreFolders l.found.items;
}
