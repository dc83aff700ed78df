-- Parts one after another.
use Rattle.std.proofs.Common.{◌≡◌, ◌≢◌, ◌≤◌, ◌<◌, inl, inr, ◌∙◌, ap, sym, subst, refl, arith, ℕ, zero, suc, Bool, true, false, List, [], ◌∷◌, ◌++◌, append_assoc, append-nil, length, map, get_or, Some}
use Rattle.std.specs.Prelude.{flat_map}
use Rattle.std.specs.List.{slice_get}
use Rattle.std.proofs.lemmas.Bool.{false≢true}
use Rattle.outside_traits.specs.Fault.{Rose}
use Rattle.meta_model.specs.declared.event.Logged.{Logged}
use Rattle.meta_model.specs.declared.event.Status.{Status}
use Rattle.meta_model.specs.declared.event.Status.TheVariants as status
use Rattle.meta_model.specs.declared.plan.Plan.{Plan}
use Rattle.plan_model.specs.Inputs.{Files}
use Rattle.run_model.specs.Benches.{SomeRose}
use Rattle.answer_model.specs.Answers.{is_refusal}
use Rattle.answer_model.specs.declared.asked.RunRequest.{RunRequest}
use Rattle.answer_model.specs.Run.{Concludes, HasCause, is_run_status}
use Rattle.multi_config.specs.declared.parts.ConfigTargets.{ConfigTargets}
use Rattle.multi_config.specs.Configs.{behind_failed, goes_on, status_of}
use Rattle.multi_config.specs.Parts.{AreParts, AreReached, IsPart, PartEnd, Standing}
use Rattle.multi_config.proofs.Tests.{on_false, on_true, where_false, where_true}
use Rattle.bitbake_top.specs.Parts.{RanParts, behind_status}

-- the status of parts of which the run goes on behind the first
pub status_behind : (keep : Bool) (s : Status) (rest : List Status) → goes_on keep s ≡ true → status_of keep (s ∷ rest) ≡ behind_status s (status_of keep rest)
status_behind keep status.Ok rest e = refl
status_behind true status.TaskFailed rest e = refl
status_behind false status.TaskFailed rest e = absurd cc
status_behind keep status.Usage rest e = absurd cc
status_behind keep (status.Metadata file line kind detail) rest e = absurd cc
status_behind keep status.DiskFault rest e = absurd cc
status_behind keep status.BenchFault rest e = absurd cc
status_behind keep status.ReadFault rest e = absurd cc
status_behind keep status.WriteFault rest e = absurd cc
status_behind keep (status.Collision name held given) rest e = absurd cc
status_behind keep (status.Unsteady pn task held given) rest e = absurd cc
status_behind keep (status.Limit kind) rest e = absurd cc
status_behind keep status.OutOfMemory rest e = absurd cc
status_behind keep status.MirrorFault rest e = absurd cc

-- ... and where it doesn't go on
pub status_last : (keep : Bool) (s : Status) → goes_on keep s ≡ false → status_of keep (s ∷ []) ≡ s
status_last keep status.Ok e = absurd cc
status_last true status.TaskFailed e = absurd cc
status_last false status.TaskFailed e = refl
status_last keep status.Usage e = refl
status_last keep (status.Metadata file line kind detail) e = refl
status_last keep status.DiskFault e = refl
status_last keep status.BenchFault e = refl
status_last keep status.ReadFault e = refl
status_last keep status.WriteFault e = refl
status_last keep (status.Collision name held given) e = refl
status_last keep (status.Unsteady pn task held given) e = refl
status_last keep (status.Limit kind) e = refl
status_last keep status.OutOfMemory e = refl
status_last keep status.MirrorFault e = refl

module _ (layers disk bench sink : Type 0) (files : Files) (request : RunRequest) where
  -- no part is left
  pub none_left : (parts : List ConfigTargets) (at : Standing) (plans : List Plan) (tales : List (List Logged)) → parts ≡ [] → RanParts layers disk bench sink files request parts at at plans plans tales tales status.Ok
  none_left parts at plans tales none = record {
    ends = [];
    reached = none;
    plans_are = sym (append-nil plans);
    tales_are = sym (append-nil tales);
    status_is = refl;
    each = refl;
  }

  -- the run doesn't go on behind the first
  pub one_last : (part : ConfigTargets) (rest parts : List ConfigTargets) (before now : Standing) (first_plans plans all_plans : List Plan) (first_tales tales all_tales : List (List Logged)) (s : Status) → parts ≡ part ∷ rest → IsPart layers disk bench sink files request (record { part = part; plans = plans; tales = tales; status = s }) before now
      → goes_on request.options.keep_going s ≡ false → all_plans ≡ first_plans ++ plans → all_tales ≡ first_tales ++ tales → RanParts layers disk bench sink files request parts before now first_plans all_plans first_tales all_tales s
  one_last part rest parts before now first_plans plans all_plans first_tales tales all_tales s are is stops p t = subst (λ (l : List ConfigTargets). RanParts layers disk bench sink files request l before now first_plans all_plans first_tales all_tales s) (sym are) (record {
    ends = (record { part = part; plans = plans; tales = tales; status = s }) ∷ [];
    reached = (refl, where_true (goes_on request.options.keep_going s) _ (λ goes. absurd (false≢true (sym stops ∙ goes))), where_false (goes_on request.options.keep_going s) _ (λ e. refl));
    plans_are = p ∙ ap (λ l. first_plans ++ l) (sym (append-nil plans));
    tales_are = t ∙ ap (λ l. first_tales ++ l) (sym (append-nil tales));
    status_is = sym (status_last request.options.keep_going s stops);
    each = (now, is, refl);
  })

  -- it goes on
  pub one_more : (part : ConfigTargets) (rest parts : List ConfigTargets) (before mid now : Standing) (first_plans plans mid_plans all_plans : List Plan) (first_tales tales mid_tales all_tales : List (List Logged)) (s t u : Status) → parts ≡ part ∷ rest
      → IsPart layers disk bench sink files request (record { part = part; plans = plans; tales = tales; status = s }) before mid → goes_on request.options.keep_going s ≡ true → mid_plans ≡ first_plans ++ plans → mid_tales ≡ first_tales ++ tales
      → RanParts layers disk bench sink files request rest mid now mid_plans all_plans mid_tales all_tales t → u ≡ behind_status s t → RanParts layers disk bench sink files request parts before now first_plans all_plans first_tales all_tales u
  one_more part rest parts before mid now first_plans plans mid_plans all_plans first_tales tales mid_tales all_tales s t u are is goes p q more last = subst (λ (l : List ConfigTargets). RanParts layers disk bench sink files request l before now first_plans all_plans first_tales all_tales u) (sym are) (record {
    ends = (record { part = part; plans = plans; tales = tales; status = s }) ∷ more.ends;
    reached = (refl, where_true (goes_on request.options.keep_going s) _ (λ e. more.reached), where_false (goes_on request.options.keep_going s) _ (λ e. absurd (false≢true (sym e ∙ goes))));
    plans_are = more.plans_are ∙ ap (λ l. l ++ flat_map (λ (e : PartEnd). e.plans) more.ends) p ∙ append_assoc first_plans plans (flat_map (λ (e : PartEnd). e.plans) more.ends);
    tales_are = more.tales_are ∙ ap (λ l. l ++ flat_map (λ (e : PartEnd). e.tales) more.ends) q ∙ append_assoc first_tales tales (flat_map (λ (e : PartEnd). e.tales) more.ends);
    status_is = last ∙ ap (behind_status s) more.status_is ∙ sym (status_behind request.options.keep_going s (map (λ (e : PartEnd). e.status) more.ends) goes);
    each = (mid, is, more.each);
  })

  -- ---- what is said of the whole

  -- each fault that a part had is one of the whole
  widened : (s : Status) (l m : Type 0) (d : ℕ) (b c k n : Type 0) → (l → m) → (b → c) → (k → n) → HasCause l d b k s → HasCause m d c n s
  widened status.Ok l m d b c k n f g h cause = cause
  widened status.TaskFailed l m d b c k n f g h cause = cause
  widened status.Usage l m d b c k n f g h cause = cause
  widened (status.Metadata file line kind detail) l m d b c k n f g h cause = cause
  widened status.DiskFault l m d b c k n f g h cause = cause
  widened status.BenchFault l m d b c k n f g h cause = g cause
  widened status.ReadFault l m d b c k n f g h cause = f cause
  widened status.WriteFault l m d b c k n f g h cause = h cause
  widened (status.Collision name held given) l m d b c k n f g h cause = cause
  widened (status.Unsteady pn task held given) l m d b c k n f g h cause = cause
  widened (status.Limit kind) l m d b c k n f g h cause = cause
  widened status.OutOfMemory l m d b c k n f g h cause = cause
  widened status.MirrorFault l m d b c k n f g h cause = cause

  rose_before : (before mid now : ℕ) → before ≤ mid → Rose mid now → Rose before now
  rose_before before mid now lt rose = omega (arith, lt, rose)

  some_at : (xs : List ℕ) (k : ℕ) → k < length xs → slice_get xs k ≡ Some (get_or xs k 0)
  some_at [] k lt = absurd (omega (arith, lt))
  some_at (x ∷ xs) zero lt = refl
  some_at (x ∷ xs) (suc k) lt = some_at xs k (omega (arith, lt))

  some_before : (one : PartEnd) (before mid now : Standing) → IsPart layers disk bench sink files request one before mid → SomeRose mid.benches now.benches → SomeRose before.benches now.benches
  some_before one before mid now is some =
      let k = some.0 in
      let long = is.stay.long in
      let within : k < length mid.benches = some.1 in
      let before_within : k < length before.benches = omega (arith, long, within) in
      let lt = is.stay.later k (get_or before.benches k 0) (get_or mid.benches k 0) (some_at before.benches k before_within) (some_at mid.benches k within) in
      (k, before_within, rose_before (get_or before.benches k 0) (get_or mid.benches k 0) (get_or now.benches k 0) lt some.2)

  behind_cause : (s t : Status) (l : Type 0) (d : ℕ) (b k : Type 0) → HasCause l d b k t → HasCause l d b k (behind_status s t)
  behind_cause status.TaskFailed t l d b k cause = by t cause
    where
      by : (x : Status) → HasCause l d b k x → HasCause l d b k (behind_failed x)
      by status.Ok c = tt
      by status.TaskFailed c = c
      by status.Usage c = c
      by (status.Metadata file line kind detail) c = c
      by status.DiskFault c = c
      by status.BenchFault c = c
      by status.ReadFault c = c
      by status.WriteFault c = c
      by (status.Collision name held given) c = c
      by (status.Unsteady pn task held given) c = c
      by (status.Limit kind) c = c
      by status.OutOfMemory c = c
      by status.MirrorFault c = c
  behind_cause status.Ok t l d b k cause = cause
  behind_cause status.Usage t l d b k cause = cause
  behind_cause (status.Metadata file line kind detail) t l d b k cause = cause
  behind_cause status.DiskFault t l d b k cause = cause
  behind_cause status.BenchFault t l d b k cause = cause
  behind_cause status.ReadFault t l d b k cause = cause
  behind_cause status.WriteFault t l d b k cause = cause
  behind_cause (status.Collision name held given) t l d b k cause = cause
  behind_cause (status.Unsteady pn task held given) t l d b k cause = cause
  behind_cause (status.Limit kind) t l d b k cause = cause
  behind_cause status.OutOfMemory t l d b k cause = cause
  behind_cause status.MirrorFault t l d b k cause = cause

  abbrev Caused : Standing → Standing → Status → Type 0
  Caused before now s = HasCause (Rose before.layers now.layers) now.disk (SomeRose before.benches now.benches) (Rose before.sink now.sink) s

  pub parts_cause : (parts : List ConfigTargets) (ends : List PartEnd) (before now : Standing) → AreReached request.options.keep_going parts ends → AreParts layers disk bench sink files request ends before now → Caused before now (status_of request.options.keep_going (map (λ (e : PartEnd). e.status) ends))
  parts_cause parts [] before now reached each = tt
  parts_cause [] (one ∷ more) before now reached each = absurd reached
  parts_cause (part ∷ parts) (one ∷ more) before now reached each = by (goes_on request.options.keep_going one.status) refl (parts_cause parts more each.0 now)
    where
      by : (b : Bool) → goes_on request.options.keep_going one.status ≡ b → (AreReached request.options.keep_going parts more → AreParts layers disk bench sink files request more each.0 now → Caused each.0 now (status_of request.options.keep_going (map (λ (e : PartEnd). e.status) more)))
          → Caused before now (status_of request.options.keep_going (map (λ (e : PartEnd). e.status) (one ∷ more)))
      by true goes rest =
          let mid = each.0 in
          let is = each.1 in
          let later = is.later in
          let last = rest (on_true (goes_on request.options.keep_going one.status) (AreReached request.options.keep_going parts more) goes reached.1) each.2 in
          let wide = widened (status_of request.options.keep_going (map (λ (e : PartEnd). e.status) more)) (Rose mid.layers now.layers) (Rose before.layers now.layers) now.disk (SomeRose mid.benches now.benches) (SomeRose before.benches now.benches) (Rose mid.sink now.sink) (Rose before.sink now.sink)
          (rose_before before.layers mid.layers now.layers later.0) (some_before one before mid now is) (rose_before before.sink mid.sink now.sink later.2) last in
          subst (Caused before now) (sym (status_behind request.options.keep_going one.status (map (λ (e : PartEnd). e.status) more) goes))
          (behind_cause one.status (status_of request.options.keep_going (map (λ (e : PartEnd). e.status) more)) (Rose before.layers now.layers) now.disk (SomeRose before.benches now.benches) (Rose before.sink now.sink) wide)
      by false stops rest =
          let none : more ≡ [] = on_false (goes_on request.options.keep_going one.status) (more ≡ []) stops reached.2 in
          let same : now ≡ each.0 = subst (λ (l : List PartEnd). AreParts layers disk bench sink files request l each.0 now) none each.2 in
          subst (λ (l : List PartEnd). Caused before now (status_of request.options.keep_going (map (λ (e : PartEnd). e.status) (one ∷ l)))) (sym none)
          (subst (Caused before now) (sym (status_last request.options.keep_going one.status stops)) (subst (λ (x : Standing). Caused before x one.status) (sym same) each.1.causes))

  -- words that were read aren't refused as such
  part_read : (one : PartEnd) (before now : Standing) → IsPart layers disk bench sink files request one before now → one.status ≢ status.Usage
  part_read one before now is e = by is.concludes
    where
      by : Concludes request.options one.plans one.tales one.status → ⊥
      by (inl (none, inl refusal)) = let h : false ≡ true = subst (λ (x : Status). is_refusal x ≡ true) e refusal in false≢true h
      by (inl (none, inr write)) = let h : status.WriteFault ≡ status.Usage = sym write ∙ e in cc
      by (inr begun) =
          let some : one.tales ≢ [] = λ none. (let both : begun.tale ∷ [] ≡ [] = sym begun.tales_are ∙ none in cc) in
          let h : false ≡ true = subst (λ (x : Status). is_run_status x ≡ true) e (is.begun some) in
          false≢true h

  behind_read : (s t : Status) → t ≢ status.Usage → behind_status s t ≢ status.Usage
  behind_read status.TaskFailed t not = by t not
    where
      by : (x : Status) → x ≢ status.Usage → behind_failed x ≢ status.Usage
      by status.Ok n e = let h : status.TaskFailed ≡ status.Usage = e in cc
      by status.TaskFailed n e = n e
      by status.Usage n e = n e
      by (status.Metadata file line kind detail) n e = n e
      by status.DiskFault n e = n e
      by status.BenchFault n e = n e
      by status.ReadFault n e = n e
      by status.WriteFault n e = n e
      by (status.Collision name held given) n e = n e
      by (status.Unsteady pn task held given) n e = n e
      by (status.Limit kind) n e = n e
      by status.OutOfMemory n e = n e
      by status.MirrorFault n e = n e
  behind_read status.Ok t not = not
  behind_read status.Usage t not = not
  behind_read (status.Metadata file line kind detail) t not = not
  behind_read status.DiskFault t not = not
  behind_read status.BenchFault t not = not
  behind_read status.ReadFault t not = not
  behind_read status.WriteFault t not = not
  behind_read (status.Collision name held given) t not = not
  behind_read (status.Unsteady pn task held given) t not = not
  behind_read (status.Limit kind) t not = not
  behind_read status.OutOfMemory t not = not
  behind_read status.MirrorFault t not = not

  pub parts_read : (parts : List ConfigTargets) (ends : List PartEnd) (before now : Standing) → AreReached request.options.keep_going parts ends → AreParts layers disk bench sink files request ends before now → status_of request.options.keep_going (map (λ (e : PartEnd). e.status) ends) ≢ status.Usage
  parts_read parts [] before now reached each = λ e. (let h : status.Ok ≡ status.Usage = e in cc)
  parts_read [] (one ∷ more) before now reached each = absurd reached
  parts_read (part ∷ parts) (one ∷ more) before now reached each = by (goes_on request.options.keep_going one.status) refl (parts_read parts more each.0 now)
    where
      by : (b : Bool) → goes_on request.options.keep_going one.status ≡ b → (AreReached request.options.keep_going parts more → AreParts layers disk bench sink files request more each.0 now → status_of request.options.keep_going (map (λ (e : PartEnd). e.status) more) ≢ status.Usage)
          → status_of request.options.keep_going (map (λ (e : PartEnd). e.status) (one ∷ more)) ≢ status.Usage
      by true goes rest e =
          behind_read one.status (status_of request.options.keep_going (map (λ (e : PartEnd). e.status) more)) (rest (on_true (goes_on request.options.keep_going one.status) (AreReached request.options.keep_going parts more) goes reached.1) each.2) (sym (status_behind request.options.keep_going one.status (map (λ (e : PartEnd). e.status) more) goes) ∙ e)
      by false stops rest e =
          let none : more ≡ [] = on_false (goes_on request.options.keep_going one.status) (more ≡ []) stops reached.2 in
          let last : status_of request.options.keep_going (one.status ∷ []) ≡ status.Usage = subst (λ (l : List PartEnd). status_of request.options.keep_going (map (λ (e : PartEnd). e.status) (one ∷ l)) ≡ status.Usage) none e in
          part_read one before each.0 each.1 (sym (status_last request.options.keep_going one.status stops) ∙ last)
