use Rattle.std.proofs.Common.{sym, ◌∙◌, ap, ◌==◌, min, take}
use Rattle.std.specs.List.{list_any, position_or_len}
use Rattle.std.specs.Simd.Lanes.{chunk}
use Rattle.std.proofs.lemmas.List.{take_all}
use Rattle.std.proofs.lemmas.Simd.{length-chunk}
use Rattle.byte_scan.proofs.Lanes.{none_yet, set_more}
use Rattle.byte_scan.proofs.before_any.Goals as goal

pub loop-byte-init : goal.loop-byte-init
loop-byte-init c =
    let lanes = chunk c.args.at 32 c.args.hay.now in
    sym (length-chunk c.args.at 32 c.args.hay.now c.requires) ∙ sym (none_yet lanes)

pub loop-byte-preserved : goal.loop-byte-preserved
loop-byte-preserved c =
    let lanes = chunk c.args.at 32 c.args.hay.now in
    let set = c.args.set.now in
    let i = c.loop-byte.byte-index in
    c.min-least.ensures ∙ ap (λ n. min n c.before-in-loop-byte.result) c.loop-byte.invariant
    ∙ ap (min (position_or_len (λ b. list_any (λ d. d == b) (take i set)) lanes)) c.before-in-loop-byte.ensures
    ∙ set_more lanes set i c.loop-byte-test.true

pub returns : goal.returns
returns c =
    let lanes = chunk c.args.at 32 c.args.hay.now in
    c.loop-byte.invariant ∙ ap (λ s. position_or_len (λ b. list_any (λ d. d == b) s) lanes) (take_all c.loop-byte.byte-index c.args.set.now c.loop-byte-test.false)
