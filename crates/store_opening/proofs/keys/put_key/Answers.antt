use Rattle.std.proofs.Common.{List, refl, subst, sym, ℕ}
use Rattle.std.proofs.lemmas.Result.{on_ok_weaker}
use Rattle.store_opening.specs.Survey.{IsKeyFile}
use Rattle.store_opening.specs.Survey as puts
use Rattle.store_opening.proofs.keys.put_key.Goals as goal

pub returns-in-Some : goal.returns-in-Some
returns-in-Some c =
    on_ok_weaker c.put_place.result
    (λ places. puts.put c.in-Some.name (subst (λ (p : List ℕ). IsKeyFile (p, c.args.file.now.1) c.in-Some.name) c.as_str.ensures c.in-Some.ensures.some) places)
    c.put_place.ensures

pub returns-in-None : goal.returns-in-None
returns-in-None c = puts.none (λ name is. c.in-None.ensures.none name (subst (λ (p : List ℕ). IsKeyFile (p, c.args.file.now.1) name) (sym c.as_str.ensures) is)) refl
