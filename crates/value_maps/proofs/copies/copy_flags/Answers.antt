use Rattle.std.proofs.Common.{◌≡◌, ◌∙◌, subst, if◌then◌else◌, bytes_eq}
use Rattle.std.specs.BTreeMap.{get_by_text}
use Rattle.std.proofs.lemmas.List.{take_all}
use Rattle.value_maps.specs.Kept.{flag_kept}
use Rattle.value_maps.proofs.Flags.{flags_turn, flags_all}
use Rattle.value_maps.proofs.copies.copy_flags.Goals as goal

pub loop-name-preserved : goal.loop-name-preserved
loop-name-preserved c = λ f.
    let flags = get_by_text c.args.flags.now in
    let x = c.name-item.result in
    flags_turn flags c.as_slice-name-items.result.now c.loop-name.name-index x f (flag_kept (get_by_text c.put_flag.new.made f)) (flag_kept (get_by_text c.loop-name.made f)) c.name-item.is c.loop-name-test.true
    (subst (λ n. flag_kept (get_by_text c.put_flag.new.made f) ≡ (if bytes_eq n f then flag_kept (flags n) else flag_kept (get_by_text c.loop-name.made f))) c.as_str.ensures (c.in_ok-put_flag.ensures f))
    (c.loop-name.invariant f)

pub returns : goal.returns
returns c = λ f.
    let names = c.as_slice-name-items.result.now in
    let left = rw (take_all _ _ c.loop-name-test.false) at c.loop-name.invariant f in
    flags_all c.args.flags.now names f (flag_kept (get_by_text c.loop-name.made f)) (c.as_slice-name-items.ensures ∙ c.in_ok-names.ensures.names) c.in_ok-names.ensures.ordered left
