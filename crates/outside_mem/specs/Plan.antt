-- Which calls of a device in memory fail. Its calls are numbered from 1, up to 2^64 - 1; each later call has that
-- number too. A call fails where its number stands in the list that the device was made with. (Own rule.)
use Rattle.std.specs.Prelude.{◌≡◌, ◌+◌, ◌-◌, ◌^◌, min, nat_eq, ℕ, Bool, Vec}
use Rattle.std.specs.declared.alloc.Global.{Global}
use Rattle.std.specs.List.{list_any}
use Rattle.outside_mem.specs.declared.plan.FaultPlan.{FaultPlan}

-- no call was made yet
abbrev pub fresh_plan : Vec ℕ Global → FaultPlan
fresh_plan numbers = record { numbers = numbers; calls = 0 }

-- the number of the next call
abbrev pub next_call : FaultPlan → ℕ
next_call plan = min (plan.calls + 1) (2 ^ 64 - 1)

-- whether the next call fails by the plan
abbrev pub next_fails : FaultPlan → Bool
next_fails plan = list_any (λ n. nat_eq n (next_call plan)) plan.numbers.items

-- one call was made, which failed or not as the plan says
pub record Follows (old new : FaultPlan) (failed : Bool) : Type 0 where
  pub numbers : new.numbers ≡ old.numbers
  pub calls : new.calls ≡ next_call old
  pub fails : failed ≡ next_fails old
