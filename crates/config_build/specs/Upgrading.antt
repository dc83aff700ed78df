-- What bringing the store of a configuration to the present format of records does to the disk.
use Rattle.std.specs.Prelude.{◌≡◌, ℕ, List}
use Rattle.outside_traits.specs.Passes.{Passes}
use Rattle.outside_traits.specs.Story.{Story, moment}
use Rattle.multi_config.specs.Configs.{store_prefix}
use Rattle.multi_config.specs.Parts.{MakesReady}
use Rattle.store_upgrade.specs.Halfway.{IsAlong}
use Rattle.sub_disk.specs.Sub.{GoesOn, IsSettledWhole, below, sub_story}

-- the story of a folder's disk of which no call was made yet
abbrev pub story_at : List ℕ → Story → Story
story_at prefix start = sub_story prefix (moment start) 0 start

-- Where the folder of the configuration couldn't be made ready, no more was done than that. Else all went on over a disk of its own in the folder, which began
-- with what was held there, and at each moment its store was on the way to the present format.
pub data BringsUp (mc : List ℕ) (before now : Story) : Type 0 where
  not_ready : Passes before now (MakesReady mc before.held) → BringsUp mc before now
  made_ready : (start sub : Story) → Passes before start (MakesReady mc before.held) → IsSettledWhole start → below (store_prefix mc) start.held ≡ below (store_prefix mc) before.held
      → GoesOn (store_prefix mc) start now sub → Passes (story_at (store_prefix mc) start) sub (λ earlier image. IsAlong (below (store_prefix mc) before.held) image) → BringsUp mc before now
