-- Texts that are written one behind the other.
use Rattle.std.proofs.Common.{◌≡◌, ◌++◌, ◌∙◌, sym, ap, ℕ, List, append_assoc, Result, Ok, Err}
use Rattle.std.specs.Prelude.{OnErr}
use Rattle.std.proofs.lemmas.Result.{on_err_weaker}
use Rattle.run_model.specs.Written.{WritesFront}

-- a front of the first text is one of both
pub front_first : (old new first second : List ℕ) → WritesFront old new first → WritesFront old new (first ++ second)
front_first old new first second w = record { front = w.front; rest = w.rest ++ second; cut = ap (λ l. l ++ second) w.cut ∙ append_assoc w.front w.rest second; written = w.written }

-- a front of the second text behind the whole first
pub front_then : (old mid new first second : List ℕ) → mid ≡ old ++ first → WritesFront mid new second → WritesFront old new (first ++ second)
front_then old mid new first second whole w = record {
  front = first ++ w.front;
  rest = w.rest;
  cut = ap (λ l. first ++ l) w.cut ∙ sym (append_assoc first w.front w.rest);
  written = w.written ∙ ap (λ l. l ++ w.front) whole ∙ append_assoc old first w.front;
}

-- the same for an answer
pub err_then : {T E : Type 0} (r : Result T E) (tells : Type 0) (old mid new first second : List ℕ) → (tells → mid ≡ old ++ first) → OnErr r (tells → WritesFront mid new second) → OnErr r (tells → WritesFront old new (first ++ second))
err_then r tells old mid new first second whole err = on_err_weaker r (λ w told. front_then old mid new first second (whole told) (w told)) err

-- what holds anyway holds for a refusal
pub on_err_of : {T E P : Type 0} (r : Result T E) → P → OnErr r P
on_err_of (Ok x) p = tt
on_err_of (Err e) p = p
