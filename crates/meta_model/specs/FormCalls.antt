-- A call that the program reads, as the call of the definitions.
use Rattle.std.specs.Prelude.{ℕ, List, Option, option_map}
use Rattle.std.specs.Borrow.{Bor}
use Rattle.meta_model.specs.declared.form.Call.{Call as Read}
use Rattle.meta_model.specs.Forms.{Call}

-- two texts
abbrev pub given_meant : Option (Bor (List ℕ) × Bor (List ℕ)) → Option (List ℕ × List ℕ)
given_meant given = option_map (λ texts. (texts.0.now, texts.1.now)) given

abbrev pub call_meant : Read → Call
call_meant call = record { name = call.name.now; wanted = call.wanted.now; given = given_meant call.given }
