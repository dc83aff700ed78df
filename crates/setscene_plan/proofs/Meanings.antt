-- What holds by one meaning of answers holds by another that follows from it.
use Rattle.std.proofs.Common.{◌≡◌, ℕ, Bool, List, Contains, Option, Some, slice_get, ◌⊎◌, inl, inr}
use Rattle.tree_model.specs.declared.hash.Hash.{Hash}
use Rattle.meta_model.specs.declared.event.Avail.{Avail}
use Rattle.meta_model.specs.declared.plan.PlanTask.{PlanTask}
use Rattle.tale_model.specs.Need.{IsIn}
use Rattle.sig_gen.specs.Signing.{signature_by}
use Rattle.setscene_plan.specs.declared.replan.Replan.{Replan}
use Rattle.setscene_plan.specs.View.{Follows, IsKnown, Says, View}
use Rattle.setscene_plan.specs.Asked.{AreNeeds, AsksOne}
use Rattle.setscene_plan.specs.Replans.{AsksNeeds, IsAskable, IsCurrent, IsSettled, avail_in, need_in, unihashes_in}

-- an answer that is kept of a needed task means by the one what it means by the other
abbrev pub Yields : Says → Says → View → List Hash → List Bool → List Avail → Type 0
Yields says other view unihashes need avail = (t : ℕ) (task : PlanTask) (there : Avail) → IsIn need t → slice_get view.plan.tasks t ≡ Some task → slice_get avail t ≡ Some there → says t (signature_by view.plan.tasks unihashes task) there → other t (signature_by view.plan.tasks unihashes task) there

pub known_follows : (says other : Says) (view : View) (unihashes : List Hash) (t : ℕ) (kept : Option Avail) → Follows says other → IsKnown says view unihashes t kept → IsKnown other view unihashes t kept
known_follows says other view unihashes t kept follows is = record {
  told = λ task there at e. follows t (signature_by view.plan.tasks unihashes task) there (is.told task there at e);
  stored = is.stored;
}

pub needs_yield : (says other : Says) (view : View) (unihashes : List Hash) (need : List Bool) (avail : List Avail) → Yields says other view unihashes need avail → AreNeeds says view unihashes need avail → AreNeeds other view unihashes need avail
needs_yield says other view unihashes need avail yields is = record {
  least = is.least;
  long = is.long;
  known = λ t member. record {
    told = λ task there at e. yields t task there member at e ((is.known t member).told task there at e);
    stored = (is.known t member).stored;
  };
}

pub needs_follow : (says other : Says) (view : View) (unihashes : List Hash) (need : List Bool) (avail : List Avail) → Follows says other → AreNeeds says view unihashes need avail → AreNeeds other view unihashes need avail
needs_follow says other view unihashes need avail follows is = needs_yield says other view unihashes need avail (λ t task there member at e. follows t (signature_by view.plan.tasks unihashes task) there) is

pub one_follows : (says other : Says) (view : View) (unihashes : List Hash) (need : List Bool) (task : ℕ) (avail next : List Avail) (told more : List ℕ) (turned : Bool) → Follows says other → AsksOne says view unihashes need task avail next told more turned → AsksOne other view unihashes need task avail next told more turned
one_follows says other view unihashes need task avail next told more turned follows is = record {
  here = λ member. known_follows says other view unihashes task (slice_get next task) follows (is.here member);
  elsewhere = is.elsewhere;
  stays = is.stays;
  told_on = is.told_on;
  told_it = is.told_it;
}

pub others_follow : (says other : Says) (view : View) (unihashes : List Hash) (need : List Bool) (avail : List Avail) (changed : List ℕ) → Follows says other → ((t : ℕ) → IsIn need t → Contains changed t ⊎ IsKnown says view unihashes t (slice_get avail t)) → (t : ℕ) → IsIn need t → Contains changed t ⊎ IsKnown other view unihashes t (slice_get avail t)
others_follow says other view unihashes need avail changed follows is t member = elim (is t member) [
  | inl held ↦ inl held
  | inr known ↦ inr (known_follows says other view unihashes t (slice_get avail t) follows known)
]

pub askable_follows : (says other : Says) (view : View) (replan : Replan) → Follows says other → IsAskable says view replan → IsAskable other view replan
askable_follows says other view replan follows is = record {
  wide = is.wide;
  over = is.over;
  need = is.need;
  long = is.long;
  within = is.within;
  others = others_follow says other view (unihashes_in replan) (need_in replan) (avail_in replan) replan.changed.items follows is.others;
}

pub asks_follow : (says other : Says) (view : View) (old new : Replan) → Follows says other → AsksNeeds says view old new → AsksNeeds other view old new
asks_follow says other view old new follows is = record {
  needs = needs_follow says other view (unihashes_in new) (need_in new) (avail_in new) follows is.needs;
  told = is.told;
  names = is.names;
  above = is.above;
  changed = is.changed;
}

pub current_yields : (says other : Says) (view : View) (kept : Replan) → Yields says other view (unihashes_in kept) (need_in kept) (avail_in kept) → IsCurrent says view kept → IsCurrent other view kept
current_yields says other view kept yields is = record {
  made = is.made;
  hashed = is.hashed;
  clear = is.clear;
  needs = needs_yield says other view (unihashes_in kept) (need_in kept) (avail_in kept) yields is.needs;
}

pub current_follows : (says other : Says) (view : View) (kept : Replan) → Follows says other → IsCurrent says view kept → IsCurrent other view kept
current_follows says other view kept follows is = current_yields says other view kept (λ t task there member at e. follows t (signature_by view.plan.tasks (unihashes_in kept) task) there) is

pub settled_yields : (says other : Says) (view : View) (task : ℕ) (kept : Replan) → Yields says other view (unihashes_in kept) (need_in kept) (avail_in kept) → IsSettled says view task kept → IsSettled other view task kept
settled_yields says other view task kept yields is = record {
  made = is.made;
  hashed = is.hashed;
  clear = is.clear;
  needs = needs_yield says other view (unihashes_in kept) (need_in kept) (avail_in kept) yields is.needs;
}
