-- What is known of a name.
use Rattle.std.proofs.Common.{◌≡◌, refl, sym, ◌∙◌, ap, subst, ℕ, Bool, true, false, ◌||◌, ◌&&◌, List, [], Option, is_some, Result, Ok, Err, codes}
use Rattle.meta_model.specs.declared.entry.EntryLine.{EntryLine}
use Rattle.meta_model.specs.declared.value.Resolved.{Resolved}
use Rattle.meta_model.specs.Refusal.{Refusal, ◌>>=◌}
use Rattle.meta_model.specs.Forms.{asked_by}
use Rattle.var_expand.specs.declared.fault.ExpandFault.{ExpandFault}
use Rattle.var_expand.specs.declared.fault.ExpandFault.TheVariants.{ValueCycle, TooDeep, TooLong, Unstable, Memory}
use Rattle.var_expand.specs.Faults.{IsFaultOf}
use Rattle.datastore.specs.Faults.{refusal_of}
use Rattle.task_model.specs.Leads.{View, Led}
use Rattle.task_model.specs.Keys.{Told, line_value, asked_value, own_value, names_led}
use Rattle.var_deps.specs.declared.line.Known.{Known}
use Rattle.var_deps.specs.Reading.{led_behind, line_behind, view_by}
use Rattle.var_deps.specs.Known.{IsLine, IsKnown, read_led, read_line}
use Rattle.var_expand.proofs.Expanding.{fault_on, fault_same}
use Rattle.meta_model.proofs.Passing.{goes_on}
use Rattle.var_deps.proofs.Tables.{found_once}

-- what is read of a name is known
pub known_read : (view : View) (own : Bool) (name : List ℕ) (found : Option Resolved) (led : Led) (known : Known) → view.find.at name ≡ Ok found → led_behind view own name found ≡ Ok led → known.led.items ≡ led.names → IsLine known.line name (line_behind view own name found led) → IsKnown view own name known
known_read view own name found led known f l n h = record {
  led = n ∙ ap names_led (sym (goes_on (view.find.at name) found (led_behind view own name) f ∙ l));
  line = subst (IsLine known.line name) (sym (goes_on (view.find.at name) found (λ x. led_behind view own name x >>= line_behind view own name x) f ∙ goes_on (led_behind view own name found) led (line_behind view own name found) l)) h;
}

leads_nowhere : (fault : ExpandFault) (m : Result Led Refusal) → is_some (refusal_of fault) ≡ true → IsFaultOf fault m → names_led m ≡ []
leads_nowhere (ValueCycle name) m s h = ap names_led h
leads_nowhere (TooDeep name) m s h = ap names_led h
leads_nowhere (TooLong name) m s h = ap names_led h
leads_nowhere (Unstable before last) m s h = ap names_led h
leads_nowhere Memory m s h = absurd cc

-- a name whose texts can't be read
pub known_refused : (view : View) (own : Bool) (name : List ℕ) (fault : ExpandFault) (known : Known) → known.led.items ≡ [] → is_some (refusal_of fault) ≡ true → IsFaultOf fault (read_led view own name) → ((meant : Result Told Refusal) → IsFaultOf fault meant → IsLine known.line name meant) → IsKnown view own name known
known_refused view own name fault known n s h says = record {
  led = n ∙ sym (leads_nowhere fault (read_led view own name) s h);
  line = says (read_line view own name) (fault_same fault (read_line view own name) (read_led view own name >>= λ led. view.find.at name >>= λ found. line_behind view own name found led) (sym (found_once (view.find.at name) (led_behind view own name) (line_behind view own name))) (fault_on fault (read_led view own name) (λ l. view.find.at name >>= λ found. line_behind view own name found l) h));
}

-- of another name than the task's the same is known for all tasks
pub known_shared : (store : List EntryLine) (own : Option (List ℕ)) (ignored : List (List ℕ)) (task other name : List ℕ) (known : Known) → IsKnown (view_by store own ignored false task) false name known → IsKnown (view_by store own ignored false other) false name known
known_shared store own ignored task other name known k = record { led = k.led; line = k.line }

-- the line of a name, by its value as it is told

apart : {A B C : Type 0} (m : Result A Refusal) (f : A → Result B Refusal) (g : B → Result C Refusal) → (m >>= λ a. f a >>= g) ≡ ((m >>= f) >>= g)
apart (Ok a) f g = refl
apart (Err refusal) f g = refl

abbrev pub with_value : View → Bool → List ℕ → Option Resolved → Led → Option Resolved → Result Told Refusal
with_value view own name found led told = Ok (record {
  line = record { name = name; value = own_value view own told };
  left_out = led.left_out || (is_some found && is_some (view.flag name (codes "vardepvalue")));
})

pub told_fault : (view : View) (own : Bool) (name : List ℕ) (found : Option Resolved) (led : Led) (fault : ExpandFault) → IsFaultOf fault (line_value view name found >>= asked_value view (asked_by name)) → IsFaultOf fault (line_behind view own name found led)
told_fault view own name found led fault h =
    fault_same fault (line_behind view own name found led) ((line_value view name found >>= asked_value view (asked_by name)) >>= with_value view own name found led)
    (apart (line_value view name found) (asked_value view (asked_by name)) (with_value view own name found led))
    (fault_on fault (line_value view name found >>= asked_value view (asked_by name)) (with_value view own name found led) h)

pub told_line : (view : View) (own : Bool) (name : List ℕ) (found value : Option Resolved) (led : Led) → (line_value view name found >>= asked_value view (asked_by name)) ≡ Ok value → line_behind view own name found led ≡ with_value view own name found led value
told_line view own name found value led e =
    apart (line_value view name found) (asked_value view (asked_by name)) (with_value view own name found led)
    ∙ goes_on (line_value view name found >>= asked_value view (asked_by name)) value (with_value view own name found led) e
