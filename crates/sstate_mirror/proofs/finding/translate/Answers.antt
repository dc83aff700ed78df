use Rattle.sstate_mirror.specs.Refusals.{IsRefusal}
use Rattle.sstate_mirror.proofs.Refused.{agree_refused, err_of}
use Rattle.sstate_mirror.proofs.finding.translate.Goals as goal

pub returns-in_err-agree-clause-refused : goal.returns-in_err-agree-clause-refused
returns-in_err-agree-clause-refused c =
    err_of (IsRefusal c.args.wanted.now c.args.theirs.now c.args.own) c.from_residual-in_err-agree.result c.in_err-agree.field-0.0 c.from_residual-in_err-agree.ensures.1
    (agree_refused c.args.wanted.now c.args.theirs.now c.args.own c.in_ok-moved.moved c.in_err-agree.field-0.0
    (record { records = c.in_ok-olds.olds.items; keys = c.in_ok-keys.keys; gathered = c.in_ok-olds.ensures; known = c.in_ok-keys.ensures.known; told = c.in_ok-moved.ensures.moved; clear = c.in_ok-moved.ensures.clear; well = c.in_ok-moved.ensures.well }) c.in_err-agree.ensures.err)
