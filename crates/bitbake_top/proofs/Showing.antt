-- What is shown of several configurations.
use Rattle.std.proofs.Common.{◌≡◌, ◌⊎◌, ◌≤◌, inl, inr, ◌∙◌, ap, sym, subst, refl, arith, ℕ, true, false, List, [], ◌∷◌, ◌++◌, append_assoc, Result, Ok, Err}
use Rattle.std.specs.Prelude.{IfOk}
use Rattle.std.proofs.lemmas.Bool.{false≢true}
use Rattle.outside_traits.specs.Fault.{Counts, Rose}
use Rattle.outside_traits.specs.Store.{IsListing}
use Rattle.meta_model.specs.declared.event.Status.{Status}
use Rattle.meta_model.specs.declared.event.Status.TheVariants as status
use Rattle.meta_model.specs.declared.plan.Plan.{Plan}
use Rattle.plan_model.specs.Inputs.{Files}
use Rattle.run_model.specs.Texts.{dry_text, fault_text}
use Rattle.run_model.specs.Written.{WritesFront}
use Rattle.answer_model.specs.Answers.{Says, is_read_status, is_refusal}
use Rattle.answer_model.specs.declared.asked.ShowMode.{ShowMode}
use Rattle.answer_model.specs.declared.asked.ShowMode.TheVariants as show
use Rattle.multi_config.specs.Plans.{HasPartPlan}
use Rattle.target_plan.specs.Plans.{IsNoPartPlan}
use Rattle.project_reading.specs.Answered.{is_failed_read}
use Rattle.multi_config.specs.declared.parts.ConfigTargets.{ConfigTargets}
use Rattle.multi_config.specs.Configs.{config_line, goes_on}
use Rattle.multi_config.specs.Parts.{PartEnd, Standing}
use Rattle.multi_config.specs.Shown.{HasShown, IsShown, IsShownRefused, IsUnshown, stands_at}
use Rattle.multi_config.proofs.Tests.{where_false, where_true}
use Rattle.bitbake_top.specs.Parts.{ShownParts}
use Rattle.bitbake_top.proofs.Begun.{refused_not_ok}
use Rattle.bitbake_top.proofs.Devices.{rose_from}
use Rattle.bitbake_top.proofs.PartEnds.{refused_is}
use Rattle.bitbake_top.proofs.PartRuns.{behind_line}
use Rattle.bitbake_top.proofs.PartSteps.{status_last}

-- a refusal is the status of a reading
reads : (s : Status) → is_refusal s ≡ true → is_read_status s ≡ true
reads (status.Metadata file line kind detail) e = refl
reads (status.Limit kind) e = refl
reads status.ReadFault e = refl
reads status.OutOfMemory e = refl
reads status.Ok e = refl
reads status.WriteFault e = refl
reads status.TaskFailed e = absurd (false≢true e)
reads status.Usage e = absurd (false≢true e)
reads status.DiskFault e = absurd (false≢true e)
reads status.BenchFault e = absurd (false≢true e)
reads (status.Collision name held given) e = absurd (false≢true e)
reads (status.Unsteady pn task held given) e = absurd (false≢true e)
reads status.MirrorFault e = absurd (false≢true e)

no_write : (s : Status) → is_refusal s ≡ true → s ≡ status.WriteFault → ⊥
no_write s refusal e = false≢true (subst (λ (x : Status). is_refusal x ≡ true) e refusal)

only_ok : (s : Status) → goes_on false s ≡ true → s ≡ status.Ok
only_ok status.Ok e = refl
only_ok status.TaskFailed e = absurd (false≢true e)
only_ok status.Usage e = absurd (false≢true e)
only_ok (status.Metadata file line kind detail) e = absurd (false≢true e)
only_ok status.DiskFault e = absurd (false≢true e)
only_ok status.BenchFault e = absurd (false≢true e)
only_ok status.ReadFault e = absurd (false≢true e)
only_ok status.WriteFault e = absurd (false≢true e)
only_ok (status.Collision name held given) e = absurd (false≢true e)
only_ok (status.Unsteady pn task held given) e = absurd (false≢true e)
only_ok (status.Limit kind) e = absurd (false≢true e)
only_ok status.OutOfMemory e = absurd (false≢true e)
only_ok status.MirrorFault e = absurd (false≢true e)

module _ (layers sink : Type 0) (what : ShowMode) (files : Files) (part : ConfigTargets) where
  abbrev Is : Status → Standing → Standing → Type 0
  Is s before now = IsShown layers sink what files (record { part = part; plans = []; tales = []; status = s }) before now

  -- the line of its configuration wasn't written
  pub unlined : (at : Standing) (l : ℕ) (base w : List ℕ) (count n : ℕ) → count ≤ n → Rose count n → (sink → WritesFront base w (config_line part.mc)) → Is status.WriteFault (stands_at l base count at) (stands_at l w n at)
  unlined at l base w count n later rose front = record {
    no_plans = refl;
    no_tales = refl;
    same = refl;
    reading = refl;
    shown = λ e. absurd (let h : status.WriteFault ≡ status.Ok = e in cc);
    front = λ e told paths lists. inl front;
    refused = λ e. absurd (false≢true e);
    said = λ e. absurd (false≢true e);
    read_cause = λ e. absurd (let h : status.WriteFault ≡ status.ReadFault = e in cc);
    write_cause = λ e. rose;
    later = (omega arith, later);
  }

  shown_whole : (at : Standing) (before now : ℕ) (base mid w : List ℕ) (count from n : ℕ) (text : List ℕ) → (layers → (paths : List (List ℕ)) → IsListing [] files paths → HasShown what files paths part text) → before ≤ now → count ≤ from → from ≤ n → (sink → mid ≡ base ++ config_line part.mc) → (sink → w ≡ mid ++ text)
      → Is status.Ok (stands_at before base count at) (stands_at now w n at)
  shown_whole at before now base mid w count from n text has on lt more is whole = record {
    no_plans = refl;
    no_tales = refl;
    same = refl;
    reading = refl;
    shown = λ e told paths lists. (text, has told paths lists, (λ x. whole x ∙ ap (λ (l : List ℕ). l ++ text) (is x) ∙ append_assoc base (config_line part.mc) text));
    front = λ e. absurd (let h : status.Ok ≡ status.WriteFault = e in cc);
    refused = λ e. absurd (false≢true e);
    said = λ e. absurd (false≢true e);
    read_cause = λ e. absurd (let h : status.Ok ≡ status.ReadFault = e in cc);
    write_cause = λ e. absurd (let h : status.Ok ≡ status.WriteFault = e in cc);
    later = (on, omega (arith, lt, more));
  }

  shown_front : (at : Standing) (before now : ℕ) (base mid w : List ℕ) (count from n : ℕ) (text : List ℕ) → (layers → (paths : List (List ℕ)) → IsListing [] files paths → HasShown what files paths part text) → before ≤ now → count ≤ from → from ≤ n → (sink → mid ≡ base ++ config_line part.mc) → (sink → WritesFront mid w text) → Rose from n
      → Is status.WriteFault (stands_at before base count at) (stands_at now w n at)
  shown_front at before now base mid w count from n text has on lt more is front rose = record {
    no_plans = refl;
    no_tales = refl;
    same = refl;
    reading = refl;
    shown = λ e. absurd (let h : status.WriteFault ≡ status.Ok = e in cc);
    front = λ e told paths lists. inr (text, has told paths lists, (λ x. behind_line base mid w (config_line part.mc) text (is x) (front x)));
    refused = λ e. absurd (false≢true e);
    said = λ e. absurd (false≢true e);
    read_cause = λ e. absurd (let h : status.WriteFault ≡ status.ReadFault = e in cc);
    write_cause = λ e. rose_from count from n lt rose;
    later = (on, omega (arith, lt, more));
  }

  -- its text was printed, or a front of it
  pub told : (at : Standing) (before now : ℕ) (base mid w : List ℕ) (count from n : ℕ) (text : List ℕ) (s : Status) → (s ≡ status.Ok) ⊎ (s ≡ status.WriteFault) → (layers → (paths : List (List ℕ)) → IsListing [] files paths → HasShown what files paths part text) → before ≤ now → count ≤ from → from ≤ n
      → (sink → mid ≡ base ++ config_line part.mc) → (s ≡ status.Ok → sink → w ≡ mid ++ text) → (sink → WritesFront mid w text) → (s ≡ status.WriteFault → Rose from n) → Is s (stands_at before base count at) (stands_at now w n at)
  told at before now base mid w count from n text s (inl ok) has on lt more is whole front rose =
      subst (λ (x : Status). Is x (stands_at before base count at) (stands_at now w n at)) (sym ok) (shown_whole at before now base mid w count from n text has on lt more is (whole ok))
  told at before now base mid w count from n text s (inr failed) has on lt more is whole front rose =
      subst (λ (x : Status). Is x (stands_at before base count at) (stands_at now w n at)) (sym failed) (shown_front at before now base mid w count from n text has on lt more is front (rose failed))

  why : (t s : Status) (paths : List (List ℕ)) → IsUnshown what files paths part t → (s ≡ t) ⊎ (s ≡ status.OutOfMemory) → IsUnshown what files paths part s
  why t s paths lack (inr memory) = inl memory
  why t s paths (inl memory) (inl same) = inl (same ∙ memory)
  why t s paths (inr (inl read)) (inl same) = inr (inl (same ∙ read))
  why t s paths (inr (inr refused)) (inl same) = inr (inr (subst (IsShownRefused what files paths part) (sym same) refused))

  its_read : (before now : ℕ) (t s : Status) → Counts before now (is_failed_read t) → (s ≡ t) ⊎ (s ≡ status.OutOfMemory) → s ≡ status.ReadFault → Rose before now
  its_read before now t s counts (inr memory) read = absurd (let h : status.OutOfMemory ≡ status.ReadFault = sym memory ∙ read in cc)
  its_read before now t s counts (inl same) read = let h : Counts before now true = subst (λ (x : Status). Counts before now (is_failed_read x)) (sym same ∙ read) counts in h.rose

  its_line : (base mid now : List ℕ) (count from after : ℕ) (s : Status) → count ≤ from → mid ≡ base ++ config_line part.mc → Says (fault_text s) mid now from after → Says (fault_text s) (base ++ config_line part.mc) now count after
  its_line base mid now count from after s lt is (inl whole) = inl (whole ∙ ap (λ (l : List ℕ). l ++ fault_text s) is)
  its_line base mid now count from after s lt is (inr failed) = inr (rose_from count from after lt failed.0, subst (λ (l : List ℕ). WritesFront l now (fault_text s)) is failed.1)

  -- it has no text
  pub untold : (at : Standing) (before now : ℕ) (base mid w : List ℕ) (count from n : ℕ) (t s : Status) → is_refusal t ≡ true → (s ≡ t) ⊎ (s ≡ status.OutOfMemory) → Counts before now (is_failed_read t) → (layers → (paths : List (List ℕ)) → IsListing [] files paths → IsUnshown what files paths part t) → count ≤ from → from ≤ n
      → (sink → mid ≡ base ++ config_line part.mc) → (sink → Says (fault_text s) mid w from n) → Is s (stands_at before base count at) (stands_at now w n at)
  untold at before now base mid w count from n t s refusal how counts lack lt more is said =
      let refused = refused_is t s refusal how in
      record {
        no_plans = refl;
        no_tales = refl;
        same = refl;
        reading = reads s refused;
        shown = λ ok. absurd (refused_not_ok t s refusal how ok);
        front = λ e. absurd (no_write s refused e);
        refused = λ e told paths lists. why t s paths (lack told paths lists) how;
        said = λ e x. its_line base mid w count from n s lt (is x) (said x);
        read_cause = its_read before now t s counts how;
        write_cause = λ e. absurd (no_write s refused e);
        later = (counts.later, omega (arith, lt, more));
      }

module _ (layers sink : Type 0) (what : ShowMode) (files : Files) where
  abbrev One : ConfigTargets → Status → PartEnd
  One part s = record { part = part; plans = []; tales = []; status = s }

  -- no part is left
  pub none_shown : (parts : List ConfigTargets) (at : Standing) → parts ≡ [] → ShownParts layers sink what files parts at at status.Ok
  none_shown parts at none = record { ends = []; reached = none; no_plans = refl; no_tales = refl; status_is = refl; each = refl }

  -- the first is the last that was reached
  pub last_shown : (part : ConfigTargets) (rest parts : List ConfigTargets) (before now : Standing) (s : Status) → parts ≡ part ∷ rest → IsShown layers sink what files (One part s) before now → goes_on false s ≡ false → ShownParts layers sink what files parts before now s
  last_shown part rest parts before now s are is stops = subst (λ (l : List ConfigTargets). ShownParts layers sink what files l before now s) (sym are) (record {
    ends = One part s ∷ [];
    reached = (refl, where_true (goes_on false s) _ (λ goes. absurd (false≢true (sym stops ∙ goes))), where_false (goes_on false s) _ (λ e. refl));
    no_plans = refl;
    no_tales = refl;
    status_is = sym (status_last false s stops);
    each = (now, is, refl);
  })

  -- others are shown behind the first
  pub more_shown : (part : ConfigTargets) (rest parts : List ConfigTargets) (before mid now : Standing) (s t : Status) → parts ≡ part ∷ rest → IsShown layers sink what files (One part s) before mid → goes_on false s ≡ true → ShownParts layers sink what files rest mid now t → ShownParts layers sink what files parts before now t
  more_shown part rest parts before mid now s t are is goes more = subst (λ (l : List ConfigTargets). ShownParts layers sink what files l before now t) (sym are) (record {
    ends = One part status.Ok ∷ more.ends;
    reached = (refl, more.reached, tt);
    no_plans = more.no_plans;
    no_tales = more.no_tales;
    status_is = more.status_is;
    each = (mid, subst (λ (x : Status). IsShown layers sink what files (One part x) before mid) (only_ok s goes) is, more.each);
  })

-- ---- the text of a part's plan

pub shown_plan : {E : Type 0} (told : Type 0) (files : Files) (part : ConfigTargets) (plan : Plan) (made : Result (List ℕ) E) (r : Result (List ℕ) Status) → (told → (paths : List (List ℕ)) → IsListing [] files paths → HasPartPlan files paths part false plan)
    → IfOk made (λ text. text ≡ dry_text plan) → IfOk r (λ text. made ≡ Ok text) → IfOk r (λ text. told → (paths : List (List ℕ)) → IsListing [] files paths → HasShown show.Plan files paths part text)
shown_plan told files part plan made (Ok text) has texts is = λ t paths lists. (plan, has t paths lists, subst (λ (m : Result (List ℕ) _). IfOk m (λ (x : List ℕ). x ≡ dry_text plan)) is texts)
shown_plan told files part plan made (Err s) has texts is = tt

pub unshown_plan : (files : Files) (paths : List (List ℕ)) (part : ConfigTargets) (s : Status) → IsNoPartPlan files paths part false s → IsUnshown show.Plan files paths part s
unshown_plan files paths part s (inl (inl memory)) = inl memory
unshown_plan files paths part s (inl (inr read)) = inr (inl read)
unshown_plan files paths part s (inr refused) = inr (inr refused)
