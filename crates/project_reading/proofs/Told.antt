-- Statuses of refusals, handed on.
use Rattle.std.proofs.Common.{◌≡◌, sym, subst, Result, Ok}
use Rattle.meta_model.specs.declared.event.Status.{Status}
use Rattle.load_model.specs.LoadRefusal.{◌>>=◌}
use Rattle.meta_model.proofs.Passing.{goes_on}
use Rattle.project_reading.specs.Answered.{IsRefusedAs}

-- of the same
pub told_same : {A : Type 0} (status : Status) (m n : Result A Status) → m ≡ n → IsRefusedAs status n → IsRefusedAs status m
told_same status m n e h = subst (IsRefusedAs status) (sym e) h

-- of what follows an answer
pub told_later : {A B : Type 0} (status : Status) (m : Result A Status) (f : A → Result B Status) (a : A) → m ≡ Ok a → IsRefusedAs status (f a) → IsRefusedAs status (m >>= f)
told_later status m f a e h = told_same status (m >>= f) (f a) (goes_on m a f e) h
