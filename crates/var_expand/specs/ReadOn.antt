-- What a text becomes from where its reading stands.
use Rattle.std.specs.Prelude.{map}
use Rattle.meta_model.specs.Parts.{Parts, Levels, with_braces}
use Rattle.var_expand.specs.declared.frame.Frame.{Frame}
use Rattle.var_expand.specs.declared.standing.Standing.{Standing}
use Rattle.var_expand.specs.Pieces.{parts_in}
use Rattle.var_expand.specs.Standing.{in_front, wrapped}

-- the parts of a frame
abbrev pub held : Frame → Parts
held frame = parts_in frame.parts

-- The parts of the whole text, where these are the levels of what comes.
abbrev pub read_on : Standing → Levels → Parts
read_on standing rest = with_braces (wrapped (map held standing.outer.items) (in_front (held standing.inner) rest))
