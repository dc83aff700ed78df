use Rattle.std.proofs.Common.{◌≡◌, ◌∙◌, sym, subst, ℕ, List}
use Rattle.outside_traits.specs.Store.{IsOpen}
use Rattle.sub_disk.specs.Sub.{IsReachable}
use Rattle.sub_disk.proofs.Faults.{reachable}
use Rattle.multi_config.specs.Configs.{store_prefix}
use Rattle.config_build.proofs.Ways.{ok_more, prefix_folder}
use Rattle.config_build.proofs.config.ready_folder.Goals as goal

pub returns-clause-clear : goal.returns-clause-clear
returns-clause-clear g c told =
    let held = (g.D.Disk.story c.make_ready.new.disk).held in
    ok_more c.make_ready.result (IsOpen c.as_str.result.now held) (IsReachable (store_prefix c.args.mc.now) held)
    (λ is_open. subst (λ (p : List ℕ). IsReachable p held) (sym (prefix_folder c.args.mc.now c.requires)) (reachable _ held (subst (λ (f : List ℕ). IsOpen f held) (c.as_str.ensures ∙ c.in_ok-folder.ensures) is_open))) (c.make_ready.ensures.open told)
