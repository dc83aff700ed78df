-- What holds where a test passes, or fails.
use Rattle.std.proofs.Common.{◌≡◌, refl, sym, Bool, true, false, true≢false}
use Rattle.std.specs.Bool.{OnFalse, OnTrue}

pub on_true : (b : Bool) (P : Type 0) → b ≡ true → OnTrue b P → P
on_true true P e h = h
on_true false P e h = absurd (true≢false (sym e))

pub on_false : (b : Bool) (P : Type 0) → b ≡ false → OnFalse b P → P
on_false true P e h = absurd (true≢false e)
on_false false P e h = h

pub where_true : (b : Bool) (P : Type 0) → (b ≡ true → P) → OnTrue b P
where_true true P h = h refl
where_true false P h = tt

pub where_false : (b : Bool) (P : Type 0) → (b ≡ false → P) → OnFalse b P
where_false true P h = tt
where_false false P h = h refl
