-- A late name as the code has it.
use Rattle.meta_model.specs.Names.{LateName as Late}
use Rattle.class_inherit.specs.declared.late.LateName.{LateName}

abbrev pub late_meant : LateName → Late
late_meant name = record { target = name.target; kind = name.kind; when = name.when }
