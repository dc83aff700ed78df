-- What a run is asked for, as the code has it.
use Rattle.target_graph.specs.declared.asked.Asked.{Asked}
use Rattle.answer_model.specs.RunAsked.{Asked as Meant}

abbrev pub asked_meant : Asked → Meant
asked_meant a = record { set = a.set; lines = a.store; appends = a.appends; targets = a.targets }
