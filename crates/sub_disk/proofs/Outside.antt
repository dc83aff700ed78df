-- Outside of the folder nothing changes.
use Rattle.std.proofs.Common.{◌≡◌, ◌∙◌, sym, refl, subst, arith, ℕ, zero, suc, ◌-◌, ◌≤◌, min, true, List, [], ◌∷◌, length, take, drop, ◌⊎◌, inl, inr, ⊎_elim, Ok, Err}
use Rattle.outside_traits.specs.declared.call.Call.{Call}
use Rattle.outside_traits.specs.declared.call.Call.TheVariants.{Looked, Synced, Ended, Put, Moved}
use Rattle.outside_traits.specs.declared.fault.DiskFault.TheVariants.{Failed}
use Rattle.outside_traits.specs.Passes.{Passes, Same}
use Rattle.outside_traits.specs.Store.{Moves, Store}
use Rattle.outside_traits.specs.Story.{IsContent, LeftBy, Leaves, Story, before, held_before, looked, unsynced}
use Rattle.outside_traits.proofs.Calls.{ends_passes, reads_passes, same_so, syncs_passes}
use Rattle.outside_traits.proofs.Images.{held_by}
use Rattle.outside_traits.proofs.Runs.{passes_again, passes_none}
use Rattle.sub_disk.specs.Sub.{SameOutside, are_below, begins, is_below}
use Rattle.sub_disk.proofs.Texts.{and_first, and_second, begins_is}
use Rattle.sub_disk.proofs.Below.{outside_before}

pub outside_same : (prefix : List ℕ) (i : Store) → SameOutside prefix i i
outside_same prefix i path out = refl

pub outside_joins : (prefix : List ℕ) (i j k : Store) → SameOutside prefix i j → SameOutside prefix j k → SameOutside prefix i k
outside_joins prefix i j k first second path out = second path out ∙ first path out

-- a look changes nothing
pub look_passes : (s : Story) → Passes s (looked s) Same
look_passes s = reads_passes {p = []} {a = s} {b = looked s} {r = Err Failed} (record { answers = refl })

-- what is sound stays so when its last calls are taken back
pub sound_before : (m : ℕ) (h : Store) (calls : List Call) → ((k : ℕ) → IsContent (held_before k h calls)) → (k : ℕ) → IsContent (held_before k (held_before m h calls) (drop m calls))
sound_before zero h calls content k = content k
sound_before (suc m) h [] content k = content k
sound_before (suc m) h (call ∷ calls) content k = sound_before m (before call h) calls (λ j. content (suc j)) k

-- where one more moment isn't durable
one_more : (l k u : ℕ) → k ≤ l → min (suc l - k) (suc u) ≡ suc (min (l - k) u)
one_more l k u le = omega (arith, le)

-- A call that changes what a crash leaves, outside of the folder not.
module _ (prefix : List ℕ) (h : Store) (call : Call) (calls : List Call) (here : is_below prefix call ≡ true) where
  abbrev earlier : Story
  earlier = record { held = before call h; calls = calls }

  by_step : unsynced (call ∷ calls) ≡ suc (unsynced calls)
      → ((n : ℕ) (image : Store) → LeftBy (suc n) h (call ∷ calls) image → (j : Store) × LeftBy n (before call h) calls j × SameOutside prefix j image)
      → Passes earlier (record { held = h; calls = call ∷ calls }) (SameOutside prefix)
  by_step counts each = record {
    later = omega arith;
    held = outside_before prefix call h here;
    now = now;
    since = λ t i le left. ⊎_elim (λ w. inr (now i w.1)) (λ past. inl past) left;
    above = λ k i le left. each (min (length calls - k) (unsynced calls)) i (subst (λ (n : ℕ). LeftBy n h (call ∷ calls) i) (is k le) left);
  }
    where
      now : (i : Store) → Leaves h (call ∷ calls) i → (j : Store) × Leaves (before call h) calls j × SameOutside prefix j i
      now i left = each (unsynced calls) i (subst (λ (n : ℕ). LeftBy n h (call ∷ calls) i) counts left)

      is : (k : ℕ) → k ≤ length calls → min (length (call ∷ calls) - k) (unsynced (call ∷ calls)) ≡ suc (min (length calls - k) (unsynced calls))
      is k le = let e = counts in omega (arith, e, le)

-- one call of the folder
outside_step : (prefix : List ℕ) (h : Store) (call : Call) (calls : List Call) → is_below prefix call ≡ true → ((k : ℕ) → IsContent (held_before k (before call h) calls))
    → Passes (record { held = before call h; calls = calls }) (record { held = h; calls = call ∷ calls }) (SameOutside prefix)
outside_step prefix h Looked calls here content = same_so (SameOutside prefix) (outside_same prefix) (look_passes (record { held = h; calls = calls }))
outside_step prefix h Synced calls here content = same_so (SameOutside prefix) (outside_same prefix) (syncs_passes {a = record { held = h; calls = calls }} {b = record { held = h; calls = Synced ∷ calls }} {T = Unit {0}} {r = Ok (tt {0})} (record { content = content }) (record { answers = refl }))
outside_step prefix h (Ended k) calls here content = same_so (SameOutside prefix) (outside_same prefix) (ends_passes {k = k} {a = record { held = h; calls = calls }} {b = record { held = h; calls = Ended k ∷ calls }} {T = Unit {0}} {r = Ok (tt {0})} (record { content = content }) (record { answers = refl }))
outside_step prefix h (Put p was) calls here content = by_step prefix h (Put p was) calls here refl
    (λ n image left. (left.1.0, left.1.1, λ path out. left.1.2.others path (λ e. out (drop (length prefix) p, e ∙ begins_is prefix p here))))
outside_step prefix h (Moved from to was replaced) calls here content = by_step prefix h (Moved from to was replaced) calls here refl (λ n image left. each n image left.1)
  where
    each : (n : ℕ) (image : Store) → (image ≡ h) ⊎ ((w : Store) × LeftBy n (before (Moved from to was replaced) h) calls w × Moves from to was w image)
        → (j : Store) × LeftBy n (before (Moved from to was replaced) h) calls j × SameOutside prefix j image
    each n image (inl same) = (
      before (Moved from to was replaced) h,
      held_by n (before (Moved from to was replaced) h) calls content,
      subst (SameOutside prefix (before (Moved from to was replaced) h)) (sym same) (outside_before prefix (Moved from to was replaced) h here),
    )
    each n image (inr w) = (
      w.0,
      w.1,
      λ path out. w.2.others path
          (λ e. out (drop (length prefix) from, e ∙ begins_is prefix from (and_first (begins prefix from) (begins prefix to) here)))
          (λ e. out (drop (length prefix) to, e ∙ begins_is prefix to (and_second (begins prefix from) (begins prefix to) here))),
    )

-- the last calls, all of the folder
pub outside_run : (prefix : List ℕ) (m : ℕ) (h : Store) (calls : List Call) → m ≤ length calls → are_below prefix (take m calls) ≡ true → ((k : ℕ) → IsContent (held_before k h calls))
    → Passes (record { held = held_before m h calls; calls = drop m calls }) (record { held = h; calls = calls }) (SameOutside prefix)
outside_run prefix zero h calls le t content = passes_none (record { held = h; calls = calls }) (SameOutside prefix) (outside_same prefix)
outside_run prefix (suc m) h [] le t content = absurd (omega (arith, le))
outside_run prefix (suc m) h (call ∷ calls) le t content = passes_again (outside_joins prefix)
    (outside_run prefix m (before call h) calls (omega (arith, le)) (and_second (is_below prefix call) (are_below prefix (take m calls)) t) (λ k. content (suc k)))
    (outside_step prefix h call calls (and_first (is_below prefix call) (are_below prefix (take m calls)) t) (λ k. content (suc k)))
