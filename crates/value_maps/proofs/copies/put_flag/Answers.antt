use Rattle.std.proofs.Common.{◌≡◌, ◌∙◌, ap, ℕ, List, Some, None, bytes_eq}
use Rattle.std.specs.BTreeMap.{get_by_text}
use Rattle.std.specs.Map.{update}
use Rattle.std.proofs.lemmas.Result.{on_ok_weaker}
use Rattle.value_maps.specs.Kept.{flag_kept}
use Rattle.value_maps.proofs.Flags.{flag_put}
use Rattle.value_maps.proofs.copies.put_flag.Goals as goal

pub returns-in_ok-kept-in-Some : goal.returns-in_ok-kept-in-Some
returns-in_ok-kept-in-Some c =
    let m = get_by_text c.args.made.now in
    let n = get_by_text c.put_value.new.map in
    let k = c.args.flag.now in
    let w = c.in_ok-kept-in-Some.kept in
    let slot = flag_kept (get_by_text c.args.flags.now k) in
    on_ok_weaker c.put_value.result
    (λ (u : (q : List ℕ) → n q ≡ update bytes_eq m k (Some w) q). flag_put m n k (Some w) (λ _. slot) u (c.in_ok-kept-in-Some.ensures ∙ ap flag_kept (c.in-Some.ensures.value)))
    c.put_value.ensures.ok

pub returns-in-None : goal.returns-in-None
returns-in-None c =
    let m = get_by_text c.args.made.now in
    let n = get_by_text c.drop_value.new.map in
    let k = c.args.flag.now in
    flag_put m n k None (λ _. flag_kept (get_by_text c.args.flags.now k)) c.drop_value.ensures (ap flag_kept c.in-None.ensures.value)
