-- The stages of a seat differ, and a stage tells its ticket and its tale.
use Rattle.std.proofs.Common.{◌≡◌, ℕ, ◌≤◌, List, [], sym, ◌∙◌, subst, arith}
use Rattle.turn_lock.specs.declared.rule.Stage.{Stage}
use Rattle.turn_lock.specs.declared.rule.Stage.TheVariants.{Idle, Waiting, Holding, Joining}
use Rattle.turn_lock.specs.Views.{outstanding}

module _ {E : Type 0} where
  -- the ticket of the stage, if it has one
  abbrev pub ticket_in : Stage E → ℕ
  ticket_in Idle = 0
  ticket_in (Waiting t) = t
  ticket_in (Holding t old) = t
  ticket_in (Joining short) = 0

  -- the tale that the stage has, if it has one
  abbrev pub tale_in : Stage E → List E
  tale_in Idle = []
  tale_in (Waiting t) = []
  tale_in (Holding t old) = old
  tale_in (Joining short) = short

  -- the seat holds the turn at this stage
  abbrev IsHolding : Stage E → Type 0
  IsHolding Idle = ⊥
  IsHolding (Waiting t) = ⊥
  IsHolding (Holding t old) = Unit {0}
  IsHolding (Joining short) = ⊥

  -- the seat has just taken another in
  abbrev IsJoining : Stage E → Type 0
  IsJoining Idle = ⊥
  IsJoining (Waiting t) = ⊥
  IsJoining (Holding t old) = ⊥
  IsJoining (Joining short) = Unit {0}

  -- no stage has more than one ticket
  pub outstanding_le : (stage : Stage E) → outstanding stage ≤ 1
  outstanding_le Idle = omega arith
  outstanding_le (Waiting t) = omega arith
  outstanding_le (Holding t old) = omega arith
  outstanding_le (Joining short) = omega arith

  -- an idle seat doesn't hold the turn
  pub idle_holds : (stage : Stage E) (t : ℕ) (old : List E) → stage ≡ Idle → stage ≡ Holding t old → ⊥
  idle_holds stage t old e f = subst IsHolding (sym f ∙ e) tt

  -- a seat that waits doesn't hold the turn
  pub waiting_holds : (stage : Stage E) (t u : ℕ) (old : List E) → stage ≡ Waiting u → stage ≡ Holding t old → ⊥
  waiting_holds stage t u old e f = subst IsHolding (sym f ∙ e) tt

  -- a seat that takes another in doesn't hold the turn
  pub joining_holds : (stage : Stage E) (t : ℕ) (short old : List E) → stage ≡ Joining short → stage ≡ Holding t old → ⊥
  joining_holds stage t short old e f = subst IsHolding (sym f ∙ e) tt

  -- an idle seat takes no other in
  pub idle_joins : (stage : Stage E) (short : List E) → stage ≡ Idle → stage ≡ Joining short → ⊥
  idle_joins stage short e f = subst IsJoining (sym f ∙ e) tt

  -- nor does one that waits
  pub waiting_joins : (stage : Stage E) (t : ℕ) (short : List E) → stage ≡ Waiting t → stage ≡ Joining short → ⊥
  waiting_joins stage t short e f = subst IsJoining (sym f ∙ e) tt

  -- nor one that holds the turn
  pub holding_joins : (stage : Stage E) (t : ℕ) (old short : List E) → stage ≡ Holding t old → stage ≡ Joining short → ⊥
  holding_joins stage t old short e f = subst IsJoining (sym f ∙ e) tt
