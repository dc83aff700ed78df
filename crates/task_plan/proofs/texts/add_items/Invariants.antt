use Rattle.std.proofs.Common.{◌≡◌, ◌-◌, ◌^◌, min, length, take}
use Rattle.std.specs.List.{flat_map}
use Rattle.task_plan.proofs.texts.add_items.Given as goal

-- the bytes of the items so far are added
abbrev pub invariant-loop-item : goal.invariant-loop-item
invariant-loop-item g l = l.sum ≡ min (length (flat_map g.T.Measured.spell (take l.item-index l.items))) (2 ^ 64 - 1)
