use Rattle.std.proofs.Common.{◌≡◌, ◌∙◌, ap, sym, subst, inl, refl, Err}
use Rattle.outside_traits.specs.Answers.{Renames}
use Rattle.outside_traits.specs.Story.{moved}
use Rattle.outside_mem.specs.Told.{disk_of, story_of}
use Rattle.outside_mem.proofs.faulty_disk.FaultyDiskDisk.rename.Goals as goal

pub returns-then-is_to_fail-clause-told : goal.returns-then-is_to_fail-clause-told
returns-then-is_to_fail-clause-told c =
    let from = c.args.from.now in
    let to = c.args.to.now in
    let old = story_of (disk_of c.args.self.now) in
    let is : story_of (disk_of c.fault.new.self) ≡ moved from to (old.held from) (old.held to) old =
    ap story_of c.fault.ensures.disk ∙ c.in_ok-note_move.ensures.ok ∙ ap (λ disk. moved from to ((story_of disk).held from) ((story_of disk).held to) (story_of disk)) c.is_to_fail.ensures.disk in
    subst (λ f. Renames from to old (story_of (disk_of c.fault.new.self)) (Err f)) (sym c.fault.ensures.failed) (record { answers = (old.held from, old.held to, record { source = inl refl; target = inl refl }, is) })
