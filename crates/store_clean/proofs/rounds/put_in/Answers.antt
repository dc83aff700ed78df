use Rattle.std.proofs.Common.{◌≡◌, ◌∙◌, ◌∷◌, ◌++◌, [], ap, List, ℕ, set, subst, sym}
use Rattle.std.proofs.lemmas.List.{get_or_default}
use Rattle.std.proofs.lemmas.Result.{on_ok_weaker}
use Rattle.store_clean.specs.Steps.{IsPutIn, round_at}
use Rattle.store_clean.proofs.Layered.{put_in_set}
use Rattle.store_clean.proofs.rounds.put_in.Goals as goal

pub returns : goal.returns
returns c =
    let old = c.args.rounds.now.items in
    let was : c.index_mut.result.now ≡ round_at old c.args.round = c.index_mut.ensures.value ∙ get_or_default old c.args.round c.index_mut.result.now [] c.requires in
    on_ok_weaker c.push.result
    (λ ok. subst (λ (l : List ℕ). IsPutIn c.args.round c.args.place old (set old c.args.round l)) (sym (ok ∙ ap (λ (l : List ℕ). l ++ c.args.place ∷ []) was)) (put_in_set old c.args.round c.args.place c.requires))
    c.push.ensures.ok
