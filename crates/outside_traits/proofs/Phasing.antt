-- Phases of a publication: each turn leads on, and others leave each phase as it is.
use Rattle.std.proofs.Common.{◌≡◌, ◌⊎◌, inl, inr, ⊎_elim, ◌≤◌, ℕ, List, Option, Some, Ok, refl, sym, ◌∙◌, subst, arith}
use Rattle.std.specs.Prelude.{IsSome}
use Rattle.tree_model.specs.declared.entry.Entry.{Entry}
use Rattle.outside_traits.specs.Store.{Store, Moves}
use Rattle.outside_traits.specs.Story.{Story, moment, ended, IsSound}
use Rattle.outside_traits.specs.Passes.{Passes, EachNow}
use Rattle.outside_traits.specs.Answers.{IsSettled, Renames}
use Rattle.outside_traits.specs.Phases.{EachAbove, IsAt, IsHalf, IsHonest, IsPlaced, IsReady, IsStored, IsThere, IsUnstamped, IsWhole, KeepsParts, Parts, PhasesBegin, PhasesBreak, PhasesEnd, PhasesGoOn, PhasesSettle, PhasesStay, kept, staged, stamped, stored}
use Rattle.outside_traits.proofs.Images.{above-now, held-above, held-image}
use Rattle.outside_traits.proofs.Calls.{renames_passes}
use Rattle.outside_traits.proofs.Sound.{sound_ended}
use Rattle.outside_traits.proofs.Durable.{renamed}

-- What a rename makes of an image.

half_of : (p : Parts) → IsPlaced p → (x : Option Entry) (j k : Store) → IsReady p j → Moves p.staged_record p.record_path x j k → IsHalf p k
half_of p placed x j k ready m = record {
  own = λ q o. m.others q (placed.record_own q o).0 (placed.record_own q o).1 ∙ ready.half.own q o;
  staged_stamp = m.others p.staged_stamp placed.staged_apart.0 placed.staged_apart.1 ∙ ready.half.staged_stamp;
  unstamped = m.others p.stamp_path placed.stamp_apart.0 placed.stamp_apart.1 ∙ ready.half.unstamped;
}

honest_of : (p : Parts) → IsPlaced p → (x : Option Entry) → x ≡ Some p.line → (j k : Store) → IsStored p j → Moves p.staged_stamp p.stamp_path x j k → IsHonest p k
honest_of p placed x is j k s m = record {
  there = record {
    own = λ q o. m.others q (placed.stamp_own q o).0 (placed.stamp_own q o).1 ∙ s.half.own q o;
    stored = m.others p.record_path (λ e. placed.staged_apart.1 (sym e)) (λ e. placed.stamp_apart.1 (sym e)) ∙ s.stored;
  };
  stamp = ⊎_elim (λ e. inl (e ∙ s.half.unstamped)) (λ e. inr (e ∙ is)) m.target;
}

-- What others leave of it.

half_kept : (p : Parts) (j k : Store) → IsHalf p j → KeepsParts p j k → IsHalf p k
half_kept p j k h keeps = record { own = λ q o. keeps.own q o ∙ h.own q o; staged_stamp = keeps.staged_stamp ∙ h.staged_stamp; unstamped = keeps.stamp_path ∙ h.unstamped }

ready_kept : (p : Parts) (j k : Store) → IsReady p j → KeepsParts p j k → IsReady p k
ready_kept p j k r keeps = record { half = half_kept p j k r.half keeps; staged_record = keeps.staged_record ∙ r.staged_record }

stored_kept : (p : Parts) (j k : Store) → IsStored p j → KeepsParts p j k → IsStored p k
stored_kept p j k s keeps = record { half = half_kept p j k s.half keeps; stored = keeps.record_path ∙ s.stored }

there_kept : (p : Parts) (j k : Store) → IsThere p j → KeepsParts p j k → IsThere p k
there_kept p j k t keeps = record { own = λ q o. keeps.own q o ∙ t.own q o; stored = keeps.record_path ∙ t.stored }

honest_kept : (p : Parts) (j k : Store) → IsHonest p j → KeepsParts p j k → IsHonest p k
honest_kept p j k h keeps = record {
  there = there_kept p j k h.there keeps;
  stamp = ⊎_elim (λ e. inl (keeps.stamp_path ∙ e)) (λ e. inr (keeps.stamp_path ∙ e)) h.stamp;
}

whole_kept : (p : Parts) (j k : Store) → IsWhole p j → KeepsParts p j k → IsWhole p k
whole_kept p j k w keeps = record { there = there_kept p j k w.there keeps; stamp = keeps.stamp_path ∙ w.stamp }

-- each image now, and each above the moment, after a run of others
now_kept : {p : Parts} {a b : Story} (P : Store → Type 0) → ((j k : Store) → P j → KeepsParts p j k → P k) → EachNow a P → Passes a b (KeepsParts p) → EachNow b P
now_kept P keep is run i img = let w = run.now i img in keep w.0 i (is w.0 w.1) w.2

above_kept : {p : Parts} {a b : Story} {k : ℕ} (P : Store → Type 0) → ((j k : Store) → P j → KeepsParts p j k → P k) → k ≤ moment a → EachAbove a k P → Passes a b (KeepsParts p) → EachAbove b k P
above_kept {k = k} P keep past is run i left = let w = run.above k i past left in keep w.0 i (is w.0 w.1) w.2

pub phases_stay : PhasesStay
phases_stay p (staged k) a b is run = (omega (arith, is.0, run.later), now_kept (IsUnstamped p) (λ j i none keeps. keeps.stamp_path ∙ none) is.1 run, above_kept (IsReady p) (ready_kept p) is.0 is.2 run)
phases_stay p (kept k) a b is run = (omega (arith, is.0, run.later), now_kept (IsUnstamped p) (λ j i none keeps. keeps.stamp_path ∙ none) is.1 run, above_kept (IsStored p) (stored_kept p) is.0 is.2 run)
phases_stay p (stored k) a b is run = (omega (arith, is.0, run.later), now_kept (IsHalf p) (half_kept p) is.1 run, above_kept (IsStored p) (stored_kept p) is.0 is.2 run)
phases_stay p (stamped k) a b is run = (omega (arith, is.0, run.later), now_kept (IsHonest p) (honest_kept p) is.1 run, above_kept (IsWhole p) (whole_kept p) is.0 is.2 run)

-- what is held now is all that is left above this moment
only_held : (P : Store → Type 0) (s : Story) → P s.held → EachAbove s (moment s) P
only_held P s is i left = subst P (sym (above-now s i left)) is

pub phases_begin : PhasesBegin
phases_begin p a sound is = (λ ready. (omega arith, is.unstamped, only_held (IsReady p) a (record { half = half; staged_record = ready })), λ there. (omega arith, is.unstamped, only_held (IsStored p) a (record { half = half; stored = there })))
  where
    half : IsHalf p a.held
    half = record { own = is.own; staged_stamp = is.staged_stamp; unstamped = is.unstamped a.held (held-image a sound) }

-- the record stands under its name in each image above the moment
stored_above : (p : Parts) (k : ℕ) (a : Story) → IsAt p (kept k) a ⊎ IsAt p (stored k) a → EachAbove a k (IsStored p)
stored_above p k a is = ⊎_elim (λ at. at.2) (λ at. at.2) is

settled_above : (q : List ℕ) (x : Entry) (a : Story) (k : ℕ) → IsSound a → EachAbove a k (λ i. i q ≡ Some x) → IsSettled q (ended k a)
settled_above q x a k sound is =
    let here : a.held q ≡ Some x = is a.held (held-above a sound k) in
    record { held = subst IsSome (sym here) refl; kept = λ i img. is i img ∙ sym here }

pub phases_settle : PhasesSettle
phases_settle p a k sound = (
  λ is. settled_above p.staged_record p.file a k sound (λ i left. (is.2 i left).staged_record),
  λ is. settled_above p.staged_stamp p.line a k sound (λ i left. (stored_above p k a is i left).half.staged_stamp),
)

-- the stamp as it is staged
line_held : (p : Parts) (k : ℕ) (a : Story) → IsSound a → EachAbove a k (IsStored p) → a.held p.staged_stamp ≡ Some p.line
line_held p k a sound is = (is a.held (held-above a sound k)).half.staged_stamp

pub phases_break : PhasesBreak
phases_break p a b k r placed sound = (
  λ is did i img. let w = (renames_passes (sound_ended a k sound) did).now i img in half_of p placed (a.held p.staged_record) w.0 i (is.2 w.0 w.1) w.2,
  λ is did i img.
      let w = (renames_passes (sound_ended a k sound) did).now i img in
      let above = stored_above p k a is in
      honest_of p placed (a.held p.staged_stamp) (line_held p k a sound above) w.0 i (above w.0 w.1) w.2,
)

pub phases_go_on : PhasesGoOn
phases_go_on p a b k placed sound = (λ is did. store is did, λ is did. stamp (stored_above p k a is) is did)
  where
    store : IsAt p (staged k) a → Renames p.staged_record p.record_path (ended k a) b {T = Unit {0}} (Ok (tt {0})) → IsAt p (stored (moment b)) b
    store is did =
        let ready = is.2 a.held (held-above a sound k) in (
          omega arith,
          (phases_break p a b k (Ok (tt {0})) placed sound).0 is did,
          only_held (IsStored p) b (record {
            half = half_of p placed (a.held p.staged_record) a.held b.held ready (renames_passes (sound_ended a k sound) did).held;
            stored = renamed did ∙ ready.staged_record;
          }),
        )

    stamp : EachAbove a k (IsStored p) → IsAt p (kept k) a ⊎ IsAt p (stored k) a → Renames p.staged_stamp p.stamp_path (ended k a) b {T = Unit {0}} (Ok (tt {0})) → IsAt p (stamped (moment b)) b
    stamp above is did =
        let line = line_held p k a sound above in (
          omega arith,
          (phases_break p a b k (Ok (tt {0})) placed sound).1 is did,
          only_held (IsWhole p) b (record {
            there = (honest_of p placed (a.held p.staged_stamp) line a.held b.held (above a.held (held-above a sound k)) (renames_passes (sound_ended a k sound) did).held).there;
            stamp = renamed did ∙ line;
          }),
        )

pub phases_end : PhasesEnd
phases_end p a k is = is.2
