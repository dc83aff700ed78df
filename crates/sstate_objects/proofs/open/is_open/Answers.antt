use Rattle.std.proofs.Common.{◌≡◌, ◌∙◌, sym, ap, arith, get_or, take, is_some, List, ℕ, ◌-◌}
use Rattle.outside_traits.proofs.Steps.{clearing_end}
use Rattle.sstate_objects.proofs.Opening.{not_open}
use Rattle.sstate_objects.proofs.open.is_open.Goals as goal

pub returns-clause-found : goal.returns-clause-found
returns-clause-found g c told = clearing_end c.loop-i.i (omega arith) (c.loop-i.invariant.so_far told)

pub returns-then-branch-2-clause-found : goal.returns-then-branch-2-clause-found
returns-then-branch-2-clause-found g c told =
    let folder = c.args.folder.now in
    let at_it : get_or folder c.loop-i.i 0 ≡ 47 = ap (λ (l : List ℕ). get_or l c.loop-i.i 0) (sym c.as_bytes-bytes.ensures.value) ∙ c.if-bytes-i-eq47.true in
    let p_is : c.range.result.now ≡ take c.loop-i.i folder = c.range.ensures.value ∙ ap (λ (m : ℕ). take m folder) (let e : c.loop-i.i - 0 ≡ c.loop-i.i = omega arith in e) in
    let held = (g.D.Disk.story c.args.disk.now).held in
    let some : is_some (held (take c.loop-i.i folder)) ≡ c.in_ok-is_held-2.field-0 =
    ap (λ p. is_some (held p)) (sym p_is) ∙ ap (λ h. is_some (h c.range.result.now)) (sym (c.loop-i.invariant.run told).held) ∙ sym (c.in_ok-is_held-2.ensures.found told) in
    not_open folder c.loop-i.i held (omega arith) at_it (some ∙ c.if-branch-2.true)
