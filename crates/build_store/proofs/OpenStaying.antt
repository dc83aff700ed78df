-- Open publications stay as they are, whatever others do, however far each is.
use Rattle.outside_traits.specs.Phases.{Phase, kept, staged, stamped, stored}
use Rattle.outside_traits.specs.Story.{IsSound, Story}
use Rattle.outside_traits.proofs.Images.{held-above}
use Rattle.outside_traits.proofs.Runs.{passes_so}
use Rattle.store_model.specs.Publication.{Publication}
use Rattle.build_store.specs.Ending.{HasFolders, IsAt, KeepsPut}
use Rattle.build_store.specs.Halves.{ending, taking, working}
use Rattle.build_store.specs.Pieces.{OpenOnesStay}
use Rattle.build_store.specs.Publication.{KeepsOthers}
use Rattle.build_store.proofs.PhaseSteps.{phases_stay}
use Rattle.build_store.proofs.PutStays.{others_keep_put}
use Rattle.build_store.proofs.Staying.{aside_stays, halves_stay}

pub folders_at : (p : Publication) (phase : Phase) (a : Story) → IsSound a → IsAt p phase a → HasFolders p a.held
folders_at p (staged k) a sound on = (on.2 a.held (held-above a sound k)).waiting.folders
folders_at p (kept k) a sound on = (on.2 a.held (held-above a sound k)).waiting.folders
folders_at p (stored k) a sound on = (on.2 a.held (held-above a sound k)).waiting.folders
folders_at p (stamped k) a sound on = let all = on.2 a.held (held-above a sound k) in record { work = all.work; shared = all.shared }

pub open_ones_stay : OpenOnesStay
open_ones_stay p r (taking k items) a b sound apart run on =
    aside_stays p k items r.folder r.object a b apart.folders apart.objects (passes_so (KeepsOthers r.folder r.object a.held) run (λ i j w. w.others)) on
open_ones_stay p r (working left) a b sound apart run on =
    halves_stay p left r.folder r.object a b apart.folders apart.objects (passes_so (KeepsOthers r.folder r.object a.held) run (λ i j w. w.others)) on
open_ones_stay p r (ending phase) a b sound apart run on =
    phases_stay p phase a b on (passes_so (KeepsPut p) run (λ i j w. others_keep_put p r a.held i j apart (folders_at p phase a sound on) w))
