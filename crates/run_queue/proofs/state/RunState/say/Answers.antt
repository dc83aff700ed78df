use Rattle.run_queue.proofs.Notes.{said_state}
use Rattle.run_queue.proofs.state.RunState.say.Goals as goal

pub invariant_of-self-else-self : goal.invariant_of-self-else-self
invariant_of-self-else-self g c = (c.self.invariant.0, c.self.invariant.1, c.self.invariant.2, said_state _ _ _ _ c.write_unless-self-inside.ensures.stays (λ none. c.if-self.false) c.self.invariant.3)
