-- What any run of calls did to a disk, whatever the calls answered.
use Rattle.std.specs.Prelude.{◌≡◌, ◌⊎◌, ◌≤◌, ◌+◌, ℕ, List, None, Result, OnOk}
use Rattle.outside_traits.specs.declared.fault.DiskFault.{DiskFault}
use Rattle.outside_traits.specs.Store.{Store, ChangesAt}
use Rattle.outside_traits.specs.Story.{Story, moment, IsImage, IsImageAbove, IsImageSince}

-- nothing changes
abbrev pub Same : Store → Store → Type 0
Same old new = new ≡ old

-- What is held was changed by R, and by no more. Each image that a crash left since the run began is an image that stood
-- before it, or one of those changed by R.
pub record Passes (old new : Story) (R : Store → Store → Type 0) : Type 0 where
  pub later : moment old ≤ moment new
  pub held : R old.held new.held
  -- each image now
  pub now : (image : Store) → IsImage new image → (earlier : Store) × IsImage old earlier × R earlier image
  -- each image since a moment that isn't after the run's beginning
  pub since : (t : ℕ) (image : Store) → t ≤ moment old → IsImageSince new t image
      → IsImageSince old t image ⊎ ((earlier : Store) × IsImage old earlier × R earlier image)
  -- each image now, where besides a moment that isn't after the run's beginning is durable
  pub above : (k : ℕ) (image : Store) → k ≤ moment old → IsImageAbove new k image → (earlier : Store) × IsImageAbove old k earlier × R earlier image

-- at most so many calls were answered
abbrev pub IsBrief : ℕ → Story → Story → Type 0
IsBrief calls old new = moment new ≤ moment old + calls

-- each image now has the property
abbrev pub EachNow : Story → (Store → Type 0) → Type 0
EachNow story P = (image : Store) → IsImage story image → P image

-- What a path holds was removed. Where it held nothing it wasn't touched.
pub record Clears (p : List ℕ) (old new : Story) {T : Type 0} (result : Result T DiskFault) : Type 0 where
  pub changes : Passes old new (ChangesAt p)
  pub untouched : old.held p ≡ None → Passes old new Same
  pub gone : OnOk result (new.held p ≡ None)
