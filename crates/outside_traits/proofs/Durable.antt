-- What the end of a ticket makes durable.
use Rattle.std.proofs.Common.{◌≡◌, ◌⊎◌, inl, inr, ⊎_elim, ◌-◌, min, ℕ, zero, suc, ◌≤◌, List, [], ◌∷◌, None, Ok, refl, sym, ◌∙◌, ap, subst, arith}
use Rattle.std.specs.Prelude.{IsSome}
use Rattle.outside_traits.specs.declared.call.Call.{Call}
use Rattle.outside_traits.specs.declared.call.Call.TheVariants.{Looked, Synced, Ended, Put, Moved}
use Rattle.outside_traits.specs.Store.{Store, put}
use Rattle.outside_traits.specs.Story.{Story, before, moment, unsynced, LeftBy, held_before, ended, IsContent, IsImage, IsImageSince}
use Rattle.outside_traits.specs.Passes.{Passes}
use Rattle.outside_traits.specs.Answers.{Renames}
use Rattle.outside_traits.specs.Syncs.{AtOnceIsSync}
use Rattle.outside_traits.specs.Tickets.{DurableFrom, DurableStays, EndNarrows, EndPasses, IsNotTouched, Keeps, KeepsAll, LaterMayBeLost, NotTouchedStays, OlderIsNothing, RenamedIsDurable, RenameIsWhole, SettledByTicket, SettledStays}
use Rattle.outside_traits.proofs.Puts.{put-other, put-same}
use Rattle.outside_traits.proofs.Images.{above-image, above-now, now-since}
use Rattle.outside_traits.proofs.Runs.{each_since, passes_then}
use Rattle.outside_traits.proofs.Calls.{ChangesAt-same, Moves-same, ended_passes, ends_passes, renames_passes}

pub at_once_is_sync : AtOnceIsSync
at_once_is_sync s i left = above-now s i left

pub end_passes : EndPasses
end_passes k a b r sound did = ends_passes sound did

untouched : (n m : ℕ) → n ≤ m → (q : List ℕ) (h : Store) (calls : List Call) → IsNotTouched m q calls → (i : Store) → LeftBy n h calls i → i q ≡ h q
untouched zero m le q h calls free i left = ap (λ (g : Store). g q) left
untouched (suc n) zero le q h calls free i left = absurd (omega (arith, le))
untouched (suc n) (suc m) le q h [] free i left = ap (λ (g : Store). g q) left
untouched (suc n) (suc m) le q h (Looked ∷ calls) free i left = untouched n m (omega (arith, le)) q h calls free i left
untouched (suc n) (suc m) le q h (Synced ∷ calls) free i left = untouched n m (omega (arith, le)) q h calls free i left
untouched (suc n) (suc m) le q h (Ended k ∷ calls) free i left = untouched n m (omega (arith, le)) q h calls free i left
untouched (suc n) (suc m) le q h (Put p was ∷ calls) free i left =
    left.1.2.others q free.0 ∙ untouched n m (omega (arith, le)) q (before (Put p was) h) calls free.1 left.1.0 left.1.1 ∙ put-other h p q was free.0
untouched (suc n) (suc m) le q h (Moved from to was replaced ∷ calls) free i left = ⊎_elim
    (λ held. ap (λ (g : Store). g q) held)
    (λ w. w.2.others q free.0 free.1 ∙ untouched n m (omega (arith, le)) q (before (Moved from to was replaced) h) calls free.2 w.0 w.1
    ∙ put-other (put h to replaced) from q was free.0 ∙ put-other h to q replaced free.1)
    left.1

was_held : (m : ℕ) (q : List ℕ) (h : Store) (calls : List Call) → IsNotTouched m q calls → held_before m h calls q ≡ h q
was_held zero q h calls free = refl
was_held (suc m) q h [] free = refl
was_held (suc m) q h (Looked ∷ calls) free = was_held m q h calls free
was_held (suc m) q h (Synced ∷ calls) free = was_held m q h calls free
was_held (suc m) q h (Ended k ∷ calls) free = was_held m q h calls free
was_held (suc m) q h (Put p was ∷ calls) free = was_held m q (before (Put p was) h) calls free.1 ∙ put-other h p q was free.0
was_held (suc m) q h (Moved from to was replaced ∷ calls) free =
    was_held m q (before (Moved from to was replaced) h) calls free.2 ∙ put-other (put h to replaced) from q was free.0 ∙ put-other h to q replaced free.1

pub not_touched_stays : NotTouchedStays
not_touched_stays s k q free i left =
    let is = untouched (min (moment s - k) (unsynced s.calls)) (moment s - k) (omega arith) q s.held s.calls free i left in
    (is, is ∙ sym (was_held (moment s - k) q s.held s.calls free))

pub durable_from : (R : Store → Store → Type 0) (a b : Story) → Passes a b R → (image : Store) → IsImage (ended (moment a) b) image → R a.held image
durable_from R a b run i left = let w = run.above (moment a) i (omega arith) left in subst (λ (g : Store). R g i) (above-now a w.0 w.1) w.2

pub kept_from : DurableFrom
kept_from is_kept a b run i left = durable_from (KeepsAll is_kept) a b run i left

pub durable_stays : DurableStays
durable_stays q a b c run later i left = let w = each_since (λ j. refl) later i left in w.2 ∙ durable_from (Keeps q) a b run w.0 w.1

pub end_narrows : EndNarrows
end_narrows s k sound = (
  λ i left. above-image s sound k i left,
  λ t i le left. ⊎_elim (λ past. past)
      (λ w. subst (λ (g : Store). IsImageSince s t g) (sym w.2) (now-since s t w.0 le w.1))
      ((ended_passes s sound k).since t i le left),
)

pub older_is_nothing : OlderIsNothing
older_is_nothing s k le i =
    let same : min (moment s - k) (unsynced s.calls) ≡ unsynced s.calls = omega (arith, le) in
    (λ left. subst (λ (n : ℕ). LeftBy n s.held s.calls i) same left, λ left. subst (λ (n : ℕ). LeftBy n s.held s.calls i) (sym same) left)

-- the calls so far may all be lost
lost : (n : ℕ) (h : Store) (calls : List Call) → ((k : ℕ) → IsContent (held_before k h calls)) → LeftBy n h calls (held_before n h calls)
lost zero h calls content = refl
lost (suc n) h [] content = refl
lost (suc n) h (Looked ∷ calls) content = lost n h calls (λ k. content (suc k))
lost (suc n) h (Synced ∷ calls) content = lost n h calls (λ k. content (suc k))
lost (suc n) h (Ended t ∷ calls) content = lost n h calls (λ k. content (suc k))
lost (suc n) h (Put p was ∷ calls) content =
    (content (suc n), (held_before n (before (Put p was) h) calls, lost n (before (Put p was) h) calls (λ k. content (suc k)), ChangesAt-same p _))
lost (suc n) h (Moved p q was replaced ∷ calls) content =
    (content (suc n), inr (held_before n (before (Moved p q was replaced) h) calls, lost n (before (Moved p q was replaced) h) calls (λ k. content (suc k)), Moves-same p q was _))

pub later_may_be_lost : LaterMayBeLost
later_may_be_lost s k sound le =
    let all : min (moment s - k) (unsynced s.calls) ≡ moment s - k = omega (arith, le) in
    subst (λ (n : ℕ). LeftBy n s.held s.calls (held_before (moment s - k) s.held s.calls)) (sym all) (lost (moment s - k) s.held s.calls sound.content)

pub settled_by_ticket : SettledByTicket
settled_by_ticket p x a b is run = record {
  held = subst IsSome (sym (run.held ∙ is)) refl;
  kept = λ i img. durable_from (Keeps p) a b run i img ∙ sym run.held;
}

pub settled_stays : SettledStays
settled_stays p a b run was = record {
  held = subst IsSome (sym run.held) was.held;
  kept = λ i img. let w = run.now i img in w.2 ∙ was.kept w.0 w.1 ∙ sym run.held;
}

pub rename_is_whole : RenameIsWhole
rename_is_whole from to y a b c r sound settled old did later i left =
    let T : Store → Store → Type 0 = λ j k. (k to ≡ j to) ⊎ (k to ≡ a.held from) in
    let run : Passes a c T = passes_then T (renames_passes sound did) later (λ j k m. m.target) (λ j k l m s. ⊎_elim (λ e. inl (s ∙ e)) (λ e. inr (s ∙ e)) m.target) in
    let w = each_since {R = T} (λ j. inl refl) run i left in
    ⊎_elim (λ e. inl (e ∙ old w.0 w.1)) (λ e. inr e) w.2

pub renamed : {from to : List ℕ} {a b : Story} → Renames from to a b {T = Unit {0}} (Ok (tt {0})) → b.held to ≡ a.held from
renamed {from} {to} {a} did = ap (λ (s : Story). s.held to) did.answers ∙ put-same (put a.held from None) to to (a.held from) refl

pub renamed_is_durable : RenamedIsDurable
renamed_is_durable from to a b c d did run later i left = durable_stays to b c d run later i left ∙ renamed did
