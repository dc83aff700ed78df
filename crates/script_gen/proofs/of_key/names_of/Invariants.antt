use Rattle.std.proofs.Common.{◌≡◌, take, map}
use Rattle.meta_model.specs.Text.{in_byte_order}
use Rattle.script_gen.proofs.of_key.names_of.Given as goal

abbrev pub invariant-loop-line : goal.invariant-loop-line
invariant-loop-line l = record {
  made : l.names ≡ map (λ line. line.name) (take l.line-index l.lines);
  ordered : in_byte_order l.names ≡ l.names;
}
