use Rattle.std.proofs.Common.{◌≡◌, false, true}
use Rattle.target_plan.proofs.Checking.{checked_sound, in_words, sound_checked, sound_differ, sound_in_range, sound_one}
use Rattle.target_plan.proofs.soundness.is_sound.Goals.{else-are_of_one-via-then-are_of_one+else-are_sound, else-are_of_one-via-else-are_of_one}
use Rattle.target_plan.proofs.soundness.is_sound.Goals as goal

pub returns-then-are_sound : goal.returns-then-are_sound
returns-then-are_sound c =
    let range = c.is_in_range.ensures.0 c.if-not-is_in_range.false in
    let one = c.are_of_one.ensures.0 c.if-are_of_one.true in
    let checked = c.are_sound.ensures.0 c.if-are_sound.true in
    in_words c.all_differ.result (checked_sound c.args.plan.now c.as_slice-tasks.result.now c.as_slice-tasks.ensures range one checked, sound_differ c.args.plan.now c.as_slice-tasks.result.now c.as_slice-tasks.ensures) c.all_differ.ensures

pub returns-else-are_of_one : goal.returns-else-are_of_one
returns-else-are_of_one c = (
  λ t. absurd (let wrong : false ≡ true = t in cc),
  λ sound.
      elim c.else-are_of_one.branch [
        | else-are_of_one-via-then-are_of_one+else-are_sound w ↦
            let yes = w.are_sound.ensures.1 (sound_checked c.args.plan.now c.as_slice-tasks.result.now c.as_slice-tasks.ensures sound) in
            let no = w.if-are_sound.false in
            absurd (cc)
        | else-are_of_one-via-else-are_of_one w ↦
            let yes = c.are_of_one.ensures.1 (sound_one c.args.plan.now c.as_slice-tasks.result.now c.as_slice-tasks.ensures sound) in
            let no = w.if-are_of_one.false in
            absurd (cc)
      ],
)

pub returns-then-not-is_in_range : goal.returns-then-not-is_in_range
returns-then-not-is_in_range c = (
  λ t. absurd (let wrong : false ≡ true = t in cc),
  λ sound.
      let yes = c.is_in_range.ensures.1 (sound_in_range c.args.plan.now sound) in
      let no = c.if-not-is_in_range.true in
      absurd (cc),
)
