use Rattle.std.proofs.Common.{◌≡◌, ◌∙◌, ap, subst, sym, Option, IfSome}
use Rattle.store_model.specs.declared.candidate.Candidate.{Candidate}
use Rattle.store_model.specs.Spelling.{short_record}
use Rattle.store_model.specs.Paths.{record_path}
use Rattle.store_opening.specs.Survey.{IsGood}
use Rattle.store_opening.proofs.Surveyed.{none_weaker, one_name}
use Rattle.store_opening.proofs.records.candidate_in.Goals as goal

pub returns-in-Some-clause-none : goal.returns-in-Some-clause-none
returns-in-Some-clause-none c =
    let known : IsGood c.args.keys.now.files.now c.in-Some.candidate × (c.args.bytes.now ≡ short_record c.in-Some.candidate.stored) =
    subst (λ (f : Option Candidate). IfSome f (λ x. IsGood c.args.keys.now.files.now x × (c.args.bytes.now ≡ short_record x.stored))) c.in-Some.is c.in_ok-candidate.ensures.some in
    none_weaker c.at_its_path.result
    (λ elsewhere other good path bytes. elsewhere (path ∙ ap record_path (sym (one_name c.args.keys.now.files.now c.in-Some.candidate other known.0 good (sym known.1 ∙ bytes)))))
    c.at_its_path.ensures.none
