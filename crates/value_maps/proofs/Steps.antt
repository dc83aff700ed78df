-- What one name's change makes of all names.
use Rattle.std.proofs.Common.{◌≡◌, refl, sym, ◌∙◌, ap, subst, ℕ, Bool, true, false, cond, inl, inr, List, [], ◌∷◌, ◌++◌, Option, Some, None, is_some, bytes_eq, ◌+◌, take, drop, BTreeMap, String}
use Rattle.std.specs.Global.{Global, Vec}
use Rattle.std.specs.BTreeMap.{get_by_text}
use Rattle.std.specs.Option.{option_or}
use Rattle.std.specs.Map.{update}
use Rattle.meta_model.proofs.Bools.{same_text, either_way, or_first, or_second, or_later, from_or}
use Rattle.meta_model.specs.Text.{is_in}
use Rattle.meta_model.specs.declared.entry.EntryLine.{EntryLine}
use Rattle.meta_model.specs.declared.entry.EntryLine.TheVariants.{Set, Later, Flag, Unset, UnsetFlag, Exported, Task, NoTask}
use Rattle.meta_model.specs.Slot.{nothing}
use Rattle.meta_model.specs.Base.{value_after, flag_after, lates_after}
use Rattle.value_maps.specs.Forms.{rests, KeepsRests, HasForms}
use Rattle.value_maps.specs.declared.maps.Maps.{Maps}
use Rattle.value_maps.specs.Maps.{Goes, Stays, named_at, noted_at, base_of, under_named, under_noted}
use Rattle.value_maps.specs.declared.named.Named.{Named}
use Rattle.value_maps.specs.Named.{slot_at, lates_at, flag_at, Steps, IsAlike, subject}

-- an entry of another name changes nothing
pub step_other : (o : Option Named) (name : List ℕ) (line : EntryLine) → bytes_eq (subject line) name ≡ false → Steps o o name line
step_other o name (Set n op text) h = record { value = rw h refl; late = refl; flags = λ f. refl }
step_other o name (Later n kind when text) h = record { value = refl; late = rw h refl; flags = λ f. refl }
step_other o name (Flag n f op text) h = record { value = refl; late = refl; flags = λ g. rw h refl }
step_other o name (Unset n) h = record { value = rw h refl; late = rw h refl; flags = λ f. rw h refl }
step_other o name (UnsetFlag n f) h = record { value = refl; late = refl; flags = λ g. rw h refl }
step_other o name (Exported class n) h = record { value = rw h refl; late = refl; flags = λ f. rw h refl }
step_other o name (Task t after before) h = record { value = refl; late = refl; flags = λ f. refl }
step_other o name (NoTask t) h = record { value = refl; late = refl; flags = λ f. refl }

pub alike_itself : (o : Option Named) → IsAlike o o
alike_itself o = record { value = refl; late = refl; flags = λ f. refl }

step_at : (f : List ℕ → Option Named) (w : Option Named) (line : EntryLine) (q : List ℕ) (b : Bool) → bytes_eq (subject line) q ≡ b → Steps (f (subject line)) w (subject line) line → Steps (f q) (cond b w (f q)) q line
step_at f w line q true h s = subst (λ t. Steps (f t) w t line) (same_text (subject line) q h) s
step_at f w line q false h s = step_other (f q) q line h

-- a step of the entry's name is one of all names
pub all_step : (f g : List ℕ → Option Named) (k : List ℕ) (w : Option Named) (line : EntryLine) → k ≡ subject line → ((q : List ℕ) → g q ≡ update bytes_eq f k w q) → Steps (f k) w (subject line) line
    → (q : List ℕ) → Steps (f q) (g q) q line
all_step f g k w line e u s q =
    subst (λ o. Steps (f q) o q line) (sym (u q ∙ ap (λ n. cond (bytes_eq n q) w (f q)) e)) (step_at f w line q (bytes_eq (subject line) q) refl (subst (λ n. Steps (f n) w (subject line) line) e s))

alike_at : (f : List ℕ → Option Named) (w : Option Named) (k q : List ℕ) (b : Bool) → bytes_eq k q ≡ b → IsAlike (f k) w → IsAlike (f q) (cond b w (f q))
alike_at f w k q true h s = subst (λ t. IsAlike (f t) w) (same_text k q h) s
alike_at f w k q false h s = alike_itself (f q)

pub all_alike : (f g : List ℕ → Option Named) (k : List ℕ) (w : Option Named) → ((q : List ℕ) → g q ≡ update bytes_eq f k w q) → IsAlike (f k) w → (q : List ℕ) → IsAlike (f q) (g q)
all_alike f g k w u s q = subst (λ o. IsAlike (f q) o) (sym (u q)) (alike_at f w k q (bytes_eq k q) refl s)

-- where nothing was kept, the first step is one from nothing
pub step_first : (before : Option Named) (new : Named) (w : Option Named) (name : List ℕ) (line : EntryLine) → before ≡ None → slot_at (Some new) ≡ nothing → lates_at (Some new) ≡ [] → ((f : List ℕ) → flag_at (Some new) f ≡ nothing)
    → Steps (Some new) w name line → Steps before w name line
step_first before new w name line e v l g s = subst (λ o. Steps o w name line) (sym e) (record {
  value = s.value ∙ ap (λ x. value_after name x line) v;
  late = s.late ∙ ap (λ x. lates_after name x line) l;
  flags = λ f. s.flags f ∙ ap (λ x. flag_after name f x (flag_at (Some new) f) line) v ∙ ap (λ x. flag_after name f nothing x line) (g f);
})

-- the names stay where one that is kept is changed
is_kept_at : (f : List ℕ → Option Named) (w : Named) (k q : List ℕ) (b : Bool) → bytes_eq k q ≡ b → is_some (f k) ≡ true → is_some (cond b (Some w) (f q)) ≡ is_some (f q)
is_kept_at f w k q true h s = sym (ap (λ t. is_some (f t)) (sym (same_text k q h)) ∙ s)
is_kept_at f w k q false h s = refl

pub same_names : (f g : List ℕ → Option Named) (k : List ℕ) (w : Named) → ((q : List ℕ) → g q ≡ update bytes_eq f k (Some w) q) → is_some (f k) ≡ true → (q : List ℕ) → is_some (g q) ≡ is_some (f q)
same_names f g k w u s q = ap is_some (u q) ∙ is_kept_at f w k q (bytes_eq k q) refl s

-- what is noted stays noted
pub forms_kept : (r s : List ℕ → List (List ℕ)) (name : List ℕ) → KeepsRests r s → HasForms r name → HasForms s name
forms_kept r s name keeps h = λ k lt e. keeps (take k name) (drop (k + 1) name) (h k lt e)

added_at : (f : List ℕ → Option Named) (r s : List ℕ → List (List ℕ)) (k q : List ℕ) (w : Named) (b : Bool) → bytes_eq k q ≡ b → KeepsRests r s → HasForms s k → ((name : List ℕ) → is_some (f name) ≡ true → HasForms r name)
    → is_some (cond b (Some w) (f q)) ≡ true → HasForms s q
added_at f r s k q w true e keeps new old h = subst (HasForms s) (same_text k q e) new
added_at f r s k q w false e keeps new old h = forms_kept r s q keeps (old q h)

-- one more name, which is noted
pub added_forms : (f g : List ℕ → Option Named) (r s : List ℕ → List (List ℕ)) (k : List ℕ) (w : Named) → ((q : List ℕ) → g q ≡ update bytes_eq f k (Some w) q) → KeepsRests r s → HasForms s k
    → ((name : List ℕ) → is_some (f name) ≡ true → HasForms r name) → (name : List ℕ) → is_some (g name) ≡ true → HasForms s name
added_forms f g r s k w u keeps new old q h = added_at f r s k q w (bytes_eq k q) refl keeps new old (ap is_some (sym (u q)) ∙ h)

pub none_of : {A : Type 0} (o : Option A) → is_some o ≡ false → o ≡ None
none_of None h = refl
none_of (Some a) h = absurd cc

-- the same is found of a name
pub alike_found : (a b : Option Named) → b ≡ a → IsAlike a b
alike_found a b e = subst (IsAlike a) (sym e) (alike_itself a)

-- what hides something else at each name

over_at : {A : Type 0} (b : Bool) (w : A) (x y : Option A) → option_or (cond b (Some w) x) y ≡ cond b (Some w) (option_or x y)
over_at true w x y = refl
over_at false w x y = refl

pub over_put : {A : Type 0} (f g u : List ℕ → Option A) (k : List ℕ) (w : A) → ((q : List ℕ) → g q ≡ update bytes_eq f k (Some w) q) → (q : List ℕ) → option_or (g q) (u q) ≡ update bytes_eq (λ t. option_or (f t) (u t)) k (Some w) q
over_put f g u k w h q = ap (λ o. option_or o (u q)) (h q) ∙ over_at (bytes_eq k q) w (f q) (u q)

-- what stands behind texts

pub in_behind : (t : List ℕ) (a b : List (List ℕ)) → is_in t b ≡ true → is_in t (a ++ b) ≡ true
in_behind t [] b h = h
in_behind t (x ∷ a) b h = or_later (bytes_eq t x) (is_in t (a ++ b)) (in_behind t a b h)

in_either : (t : List ℕ) (a b c : List (List ℕ)) → (is_in t b ≡ true → is_in t c ≡ true) → is_in t (a ++ b) ≡ true → is_in t (a ++ c) ≡ true
in_either t [] b c f h = f h
in_either t (x ∷ a) b c f h = elim (either_way (bytes_eq t x)) [
  | inl e ↦ or_first (bytes_eq t x) (is_in t (a ++ c)) e
  | inr e ↦ or_second (bytes_eq t x) (is_in t (a ++ c)) e (in_either t a b c f (from_or (bytes_eq t x) (is_in t (a ++ b)) h e))
]

pub keeps_behind : (u r s : List ℕ → List (List ℕ)) → KeepsRests r s → KeepsRests (λ q. u q ++ r q) (λ q. u q ++ s q)
keeps_behind u r s h = λ q t i. in_either t (u q) (r q) (s q) (h q t) i

pub has_behind : (u s : List ℕ → List (List ℕ)) (name : List ℕ) → HasForms s name → HasForms (λ q. u q ++ s q) name
has_behind u s name h = λ k lt e. in_behind (drop (k + 1) name) (u (take k name)) (s (take k name)) (h k lt e)

-- what is noted where more is noted as a store's own
pub noted_more : (maps : Maps) (n : BTreeMap (String Global) (Vec (List ℕ))) → KeepsRests (λ q. rests (get_by_text maps.forms q)) (λ q. rests (get_by_text n q)) → KeepsRests (noted_at maps) (noted_at (record maps { forms = n }))
noted_more maps n h = keeps_behind (under_noted (base_of maps)) (λ q. rests (get_by_text maps.forms q)) (λ q. rests (get_by_text n q)) h

-- nothing is kept of one more name
empty_at : (b : Bool) (w : Named) (o : Option Named) → IsAlike None o → IsAlike None (Some w) → IsAlike None (cond b (Some w) o)
empty_at true w o h k = k
empty_at false w o h k = h

pub empty_put : (f g : List ℕ → Option Named) (k : List ℕ) (w : Named) → ((q : List ℕ) → g q ≡ update bytes_eq f k (Some w) q) → ((q : List ℕ) → IsAlike None (f q)) → IsAlike None (Some w) → (q : List ℕ) → IsAlike None (g q)
empty_put f g k w u h e q = subst (IsAlike None) (sym (u q)) (empty_at (bytes_eq k q) w (f q) (h q) e)

-- a step from what is alike
pub step_alike : (a b c : Option Named) (name : List ℕ) (line : EntryLine) → IsAlike a b → Steps b c name line → Steps a c name line
step_alike a b c name line h s = record {
  value = s.value ∙ ap (λ x. value_after name x line) h.value;
  late = s.late ∙ ap (λ x. lates_after name x line) h.late;
  flags = λ f. s.flags f ∙ ap (λ x. flag_after name f x (flag_at b f) line) h.value ∙ ap (λ x. flag_after name f (slot_at a) x line) (h.flags f);
}

-- what is kept of one name is changed
pub goes_on : (maps : Maps) (n : BTreeMap (String Global) Named) (k : List ℕ) (old new : Named) (line : EntryLine) → k ≡ subject line → get_by_text maps.named k ≡ Some old
    → ((q : List ℕ) → get_by_text n q ≡ update bytes_eq (get_by_text maps.named) k (Some new) q) → Steps (Some old) (Some new) (subject line) line → Goes maps (record maps { named = n }) line
goes_on maps n k old new line e found u s =
    let under = under_named (base_of maps) in
    let later = λ (q : List ℕ). option_or (get_by_text n q) (under q) in
    let v = over_put (get_by_text maps.named) (get_by_text n) under k new u in
    let here : named_at maps k ≡ Some old = ap (λ o. option_or o (under k)) found in
    record {
      same = refl;
      steps = all_step (named_at maps) later k (Some new) line e v (subst (λ o. Steps o (Some new) (subject line) line) (sym here) s);
      forms = λ h name some. h name (sym (same_names (named_at maps) later k new v (ap is_some here) name) ∙ some);
    }

pub stays_so : (maps : Maps) (n : BTreeMap (String Global) Named) (k : List ℕ) (old new : Named) → get_by_text maps.named k ≡ Some old
    → ((q : List ℕ) → get_by_text n q ≡ update bytes_eq (get_by_text maps.named) k (Some new) q) → IsAlike (Some old) (Some new) → Stays maps (record maps { named = n })
stays_so maps n k old new found u s =
    let under = under_named (base_of maps) in
    let later = λ (q : List ℕ). option_or (get_by_text n q) (under q) in
    let v = over_put (get_by_text maps.named) (get_by_text n) under k new u in
    let here : named_at maps k ≡ Some old = ap (λ o. option_or o (under k)) found in
    record {
      same = refl;
      alike = all_alike (named_at maps) later k (Some new) v (subst (λ o. IsAlike o (Some new)) (sym here) s);
      forms = λ h name some. h name (sym (same_names (named_at maps) later k new v (ap is_some here) name) ∙ some);
    }

-- one more name is a store's own, which is noted
pub goes_first : (maps : Maps) (n : BTreeMap (String Global) Named) (f : BTreeMap (String Global) (Vec (List ℕ))) (k : List ℕ) (new : Named) (line : EntryLine) → k ≡ subject line → get_by_text maps.named k ≡ None
    → ((q : List ℕ) → get_by_text n q ≡ update bytes_eq (get_by_text maps.named) k (Some new) q) → Steps (under_named (base_of maps) k) (Some new) (subject line) line
    → KeepsRests (λ q. rests (get_by_text maps.forms q)) (λ q. rests (get_by_text f q)) → HasForms (λ q. rests (get_by_text f q)) k → Goes maps (record maps { named = n; forms = f }) line
goes_first maps n f k new line e found u s keeps has =
    let under = under_named (base_of maps) in
    let later = λ (q : List ℕ). option_or (get_by_text n q) (under q) in
    let v = over_put (get_by_text maps.named) (get_by_text n) under k new u in
    let here : named_at maps k ≡ under k = ap (λ o. option_or o (under k)) found in
    record {
      same = refl;
      steps = all_step (named_at maps) later k (Some new) line e v (subst (λ o. Steps o (Some new) (subject line) line) (sym here) s);
      forms = added_forms (named_at maps) later (noted_at maps) (noted_at (record maps { forms = f })) k new v (noted_more maps f keeps)
          (has_behind (under_noted (base_of maps)) (λ q. rests (get_by_text f q)) k has);
    }

-- nothing of a name is changed where memory was wanting, and more may be noted
pub stays_noted : (maps : Maps) (n : BTreeMap (String Global) Named) (f : BTreeMap (String Global) (Vec (List ℕ))) → ((q : List ℕ) → get_by_text n q ≡ get_by_text maps.named q)
    → KeepsRests (λ q. rests (get_by_text maps.forms q)) (λ q. rests (get_by_text f q)) → Stays maps (record maps { named = n; forms = f })
stays_noted maps n f u keeps =
    let same = λ (name : List ℕ). ap (λ o. option_or o (under_named (base_of maps) name)) (u name) in
    record {
      same = refl;
      alike = λ name. alike_found (named_at maps name) (option_or (get_by_text n name) (under_named (base_of maps) name)) (same name);
      forms = λ h name some. forms_kept (noted_at maps) (noted_at (record maps { forms = f })) name (noted_more maps f keeps) (h name (sym (ap is_some (same name)) ∙ some));
    }
