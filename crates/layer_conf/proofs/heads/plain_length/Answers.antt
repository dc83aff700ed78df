use Rattle.std.proofs.Common.{◌≡◌, subst, ℕ, length, take, false, arith}
use Rattle.std.specs.List.{list_any}
use Rattle.layer_conf.specs.Globs.{is_wild}
use Rattle.layer_conf.proofs.Begun.{head_begins}
use Rattle.layer_conf.proofs.heads.plain_length.Goals as goal

pub returns-then-is_wild-clause-begins : goal.returns-then-is_wild-clause-begins
returns-then-is_wild-clause-begins c = λ path h. head_begins c.args.pattern.now path c.loop-i.i c.loop-i.invariant h

pub returns-clause-begins : goal.returns-clause-begins
returns-clause-begins c =
    let pattern = c.args.pattern.now in
    let end : c.loop-i.i ≡ length pattern = omega (arith, c.loop-i-test.false, c.loop-i.auto.i-end) in
    λ path h. head_begins pattern path (length pattern) (subst (λ (n : ℕ). list_any is_wild (take n pattern) ≡ false) end c.loop-i.invariant) h
