use Rattle.std.proofs.Common.{◌≡◌, ◌∙◌, ap, sym, subst, Option, IfSome}
use Rattle.record_move.specs.declared.records.OldRecord.{OldRecord}
use Rattle.store_move.specs.First.{first_record}
use Rattle.store_opening.proofs.Surveyed.{none_weaker}
use Rattle.store_upgrade.specs.Old.{IsGoodOld, old_path}
use Rattle.store_upgrade.proofs.Olden.{old_bytes, one_old_name}
use Rattle.store_upgrade.proofs.reading.old_at.Goals as goal

pub returns-in-Some-clause-none : goal.returns-in-Some-clause-none
returns-in-Some-clause-none c =
    let known : IsGoodOld c.in-Some.old × (c.args.bytes.now ≡ first_record c.in-Some.old.stored) = subst (λ (f : Option OldRecord). IfSome f (λ x. IsGoodOld x × (c.args.bytes.now ≡ first_record x.stored))) c.in-Some.is c.in_ok-old.ensures.some in
    none_weaker c.at_its_path.result
    (λ elsewhere other is. elsewhere (is.at ∙ ap (λ (o : OldRecord). old_path o.name) (sym (one_old_name c.args.bytes.now c.in-Some.old other known.0 is.good known.1 (old_bytes c.args.path.now c.args.bytes.now other is)))))
    c.at_its_path.ensures.none
