use Rattle.std.proofs.Common.{refl, None}
use Rattle.std.specs.BTreeMap.{get_by_text}
use Rattle.meta_model.specs.Slot.{nothing}
use Rattle.value_maps.proofs.Flags.{flag_put}
use Rattle.value_maps.proofs.named.drop_flag.Goals as goal

pub returns : goal.returns
returns c = flag_put (get_by_text c.args.flags.now) (get_by_text c.drop_value.new.map) c.args.flag.now None (λ slot. nothing) c.drop_value.ensures refl
