-- The tasks that failed in a tale.
use Rattle.std.proofs.Common.{◌≡◌, ◌∙◌, sym, ap, refl, ℕ, ◌+◌, ◌<◌, zero, suc, arith, List, [], ◌∷◌, ◌++◌, length, take, append_assoc, get_or, Some}
use Rattle.std.specs.Prelude.{Contains}
use Rattle.std.specs.List.{slice_get}
use Rattle.std.proofs.lemmas.List.{take_more}
use Rattle.meta_model.specs.declared.event.Event.{Event}
use Rattle.meta_model.specs.declared.event.Event.TheVariants as events
use Rattle.meta_model.specs.declared.event.Logged.{Logged}
use Rattle.meta_model.specs.declared.event.Why.{Why}
use Rattle.run_model.specs.Build.{failed_by, failed_in}

failed_step : (event : Event) (more : List ℕ) → failed_by event more ≡ failed_by event [] ++ more
failed_step (events.Found t) more = refl
failed_step (events.Restored t) more = refl
failed_step (events.Started t s) more = refl
failed_step (events.Ended t) more = refl
failed_step (events.Failed t w) more = refl
failed_step (events.Broke t c) more = refl

pub failed_split : (one other : List Logged) → failed_in (one ++ other) ≡ failed_in one ++ failed_in other
failed_split [] other = refl
failed_split (e ∷ one) other =
    failed_step e.event (failed_in (one ++ other)) ∙ ap (λ l. failed_by e.event [] ++ l) (failed_split one other) ∙ sym (append_assoc (failed_by e.event []) (failed_in one) (failed_in other))
    ∙ ap (λ l. l ++ failed_in other) (sym (failed_step e.event (failed_in one)))

pub failed_next : (tale : List Logged) (n : ℕ) (e : Logged) → n < length tale → failed_in (take n tale) ++ failed_by (get_or tale n e).event [] ≡ failed_in (take (n + 1) tale)
failed_next tale n e lt = sym (ap failed_in (take_more tale n e lt) ∙ failed_split (take n tale) (get_or tale n e ∷ []))

-- what is said to have failed failed in an entry
pub failed_entry : (tale : List Logged) (t : ℕ) → Contains (failed_in tale) t → (k : ℕ) × (e : Logged) × (cause : Why) × (slice_get tale k ≡ Some e) × (e.event ≡ events.Failed t cause)
failed_entry [] t has = absurd (omega (arith, has.1))
failed_entry (e ∷ tale) t has = by e.event refl has (failed_entry tale t)
  where
    Found : List Logged → Type 0
    Found l = (k : ℕ) × (x : Logged) × (cause : Why) × (slice_get l k ≡ Some x) × (x.event ≡ events.Failed t cause)

    later : Found tale → Found (e ∷ tale)
    later f = (suc f.0, f.1, f.2, f.3, f.4)

    head : (u : ℕ) (w : Why) → e.event ≡ events.Failed u w → Contains (u ∷ failed_in tale) t → (Contains (failed_in tale) t → Found tale) → Found (e ∷ tale)
    head u w is (zero, lt, same) rest = (zero, e, w, refl, is ∙ ap (λ n. events.Failed n w) same)
    head u w is (suc n, lt, same) rest = later (rest (n, omega (arith, lt), same))

    by : (x : Event) → e.event ≡ x → Contains (failed_by x (failed_in tale)) t → (Contains (failed_in tale) t → Found tale) → Found (e ∷ tale)
    by (events.Found u) is h rest = later (rest h)
    by (events.Restored u) is h rest = later (rest h)
    by (events.Started u s) is h rest = later (rest h)
    by (events.Ended u) is h rest = later (rest h)
    by (events.Failed u w) is h rest = head u w is h rest
    by (events.Broke u c) is h rest = later (rest h)

pub failed_more : (old new : List ℕ) (tale : List Logged) (n : ℕ) (e : Logged) → new ≡ old ++ failed_by (get_or tale n e).event [] → old ≡ failed_in (take n tale) → n < length tale → new ≡ failed_in (take (n + 1) tale)
failed_more old new tale n e is so_far lt = is ∙ ap (λ (l : List ℕ). l ++ failed_by (get_or tale n e).event []) so_far ∙ failed_next tale n e lt
