-- What is known by what a folder's disk keeps.
use Rattle.std.proofs.Common.{◌≡◌, ◌∙◌, sym, ap, refl, subst, arith, ℕ, zero, suc, ◌+◌, ◌-◌, ◌≤◌, ◌⊎◌, min, Bool, true, false, List, [], ◌∷◌, ◌++◌, length, map, take, drop, inl, inr, append_assoc, length-append}
use Rattle.tree_model.specs.Path.{IsClean, inside}
use Rattle.outside_traits.specs.declared.call.Call.{Call}
use Rattle.outside_traits.specs.declared.call.Call.TheVariants.{Looked}
use Rattle.outside_traits.specs.Answers.{IsSettled}
use Rattle.outside_traits.specs.Passes.{Passes}
use Rattle.outside_traits.specs.Store.{IsFree, Store}
use Rattle.outside_traits.specs.Story.{IsContent, IsImage, IsImageAbove, IsImageSince, IsSound, LeftBy, LeftSince, Story, before, held_before, looked, moment, unsynced}
use Rattle.outside_traits.proofs.Calls.{then_same}
use Rattle.outside_traits.proofs.Images.{left_more, now-since}
use Rattle.outside_traits.proofs.Runs.{each_since}
use Rattle.sub_disk.specs.Sub.{GoesOn, IsKept, IsPlace, IsReachable, IsSettledWhole, IsSub, SameOutside, below, call_below, shown, sub_story}
use Rattle.sub_disk.proofs.Texts.{split_at}
use Rattle.sub_disk.proofs.Below.{Settled, below_content, held_below, leaves_below, left_below, length_below, since_below, unsynced_below, unsynced_bound}
use Rattle.sub_disk.proofs.Outside.{look_passes, outside_run, sound_before}

-- an image that was left at some moment was left before the last calls, or behind them
since_split : (m t k : ℕ) (h : Store) (calls : List Call) → length calls ≡ m + k → (image : Store) → LeftSince h calls t image → LeftSince (held_before m h calls) (drop m calls) t image ⊎ LeftSince h calls k image
since_split zero t k h calls count image left = inl left
since_split (suc m) t k h [] count image left = absurd (omega (arith, count))
since_split (suc m) t k h (call ∷ calls) count image (inl now) = inr (inl (omega (arith, count), now.1))
since_split (suc m) t k h (call ∷ calls) count image (inr past) = elim (since_split m t k (before call h) calls (omega (arith, count)) image past) [
  | inl first ↦ inl first
  | inr last ↦ inr (inr last)
]

module _ (prefix : List ℕ) (place : IsPlace prefix) (made : ℕ) (start story : Story) (sub : IsSub prefix made start story) (sound : IsSound story) where
  within : made ≤ length story.calls
  within = let e = sub.counted in omega (arith, e)

  abbrev there : Story
  there = record { held = held_before made story.held story.calls; calls = drop made story.calls }

  there_is : there ≡ start
  there_is = let h = sub.held in let c = sub.behind in λ i. record { held = h i; calls = c i }

  settled_there : Settled prefix place (moment start) made story.held story.calls
  settled_there j image le left =
      let all = left_more j (unsynced there.calls) le there.held there.calls (sound_before made story.held story.calls sound.content) image left in
      subst IsSettledWhole (sym there_is) sub.settled image all

  pub run_outside : Passes start story (SameOutside prefix)
  run_outside = subst (λ (s : Story). Passes s story (SameOutside prefix)) there_is (outside_run prefix made story.held story.calls within sub.calls sound.content)

  pub image_below : (image : Store) → IsImage story image → IsImage (sub_story prefix (moment start) made story) (below prefix image)
  image_below image left = leaves_below prefix place (moment start) made story.held story.calls sub.counted sub.calls settled_there image left

  pub image_since : (t : ℕ) (image : Store) → IsImageSince story (moment start + t) image → IsImageSince (sub_story prefix (moment start) made story) t (below prefix image)
  image_since t image left = since_below prefix place (moment start) made t story.held story.calls sub.counted sub.calls settled_there image left

  pub image_above : (k : ℕ) (image : Store) → IsImageAbove story (moment start + k) image → IsImageAbove (sub_story prefix (moment start) made story) k (below prefix image)
  image_above k image left = left_below prefix place (moment start) made (min (moment story - (moment start + k)) (unsynced story.calls))
      (min (moment (sub_story prefix (moment start) made story) - k) (unsynced (sub_story prefix (moment start) made story).calls)) story.held story.calls count within bound sub.calls settled_there image left
    where
      count : min (moment (sub_story prefix (moment start) made story) - k) (unsynced (sub_story prefix (moment start) made story).calls) ≡ min made (min (moment story - (moment start + k)) (unsynced story.calls))
      count =
          let l = length_below prefix (moment start) made story.calls within in
          let u = unsynced_below prefix (moment start) made story.calls sub.counted in
          let c = sub.counted in
          omega (arith, l, u, c)

      bound : min (moment story - (moment start + k)) (unsynced story.calls) ≤ made + unsynced (drop made story.calls)
      bound = let e = unsynced_bound made story.calls within in omega (arith, e)

  sound_below : IsSound (sub_story prefix (moment start) made story)
  sound_below = record { content = each }
    where
      each : (k : ℕ) → IsContent (held_before k (below prefix story.held) (map (call_below prefix (moment start)) (take made story.calls)))
      each k =
          let at = held_below prefix place (moment start) made story.held story.calls within sub.calls k in
          subst IsContent (sym at.1) (below_content prefix place (held_before at.0 story.held story.calls) (sound.content at.0))

  pub kept_open : IsKept prefix made false start story
  kept_open = record { sub = sub; look = refl; lawful = sound_below }

  -- a path of the folder is free where it is free in the folder
  pub free_below : (p : List ℕ) → IsFree (below prefix story.held) p → IsFree story.held (prefix ++ p)
  free_below p free = record {
    above = λ q b. elim (split_at prefix p q b.0 b.1) [
      | inl r ↦ sub.clear q r.0 r.1
      | inr s ↦ ap story.held s.1 ∙ free.above s.0 (b.0, s.2)
    ];
    below = λ q b. let is : q ≡ prefix ++ inside p b.0 = b.1 ∙ append_assoc prefix p (47 ∷ b.0) in ap story.held is ∙ free.below (inside p b.0) (b.0, refl);
  }

  pub settled_below : (p : List ℕ) → IsSettled p (sub_story prefix (moment start) made story) → IsSettled (prefix ++ p) story
  settled_below p s = record { held = s.held; kept = λ image left. s.kept (below prefix image) (image_below image left) }

  goes_on_open : GoesOn prefix start story (sub_story prefix (moment start) made story)
  goes_on_open = record {
    held = run_outside.held;
    now = λ image left. let w = run_outside.now image left in subst (λ (h : Store). SameOutside prefix h image) (sub.settled w.0 w.1) w.2;
    since = λ image left. let w = each_since (λ i path out. refl) run_outside image left in subst (λ (h : Store). SameOutside prefix h image) (sub.settled w.0 w.1) w.2;
    run = run_outside;
    split = λ t image left. subst (λ (s : Story). IsImageSince s t image ⊎ IsImageSince story (moment start) image) there_is (since_split made t (moment start) story.held story.calls sub.counted image left);
    lawful = sound_below;
    held_below = refl;
    now_below = image_below;
    since_below = λ t image le left. image_since t image left;
    above_below = λ k image le left. image_above k image left;
  }

-- a look behind the calls that are told
goes_on_look : (prefix : List ℕ) (start story sub : Story) → moment start + moment sub ≤ moment story → GoesOn prefix start story sub → GoesOn prefix start (looked story) sub
goes_on_look prefix start story sub long known = record {
  held = known.held;
  now = known.now;
  since = λ image left. by image left;
  run = then_same known.run (look_passes story);
  split = λ t image left. split t image left;
  lawful = known.lawful;
  held_below = known.held_below;
  now_below = known.now_below;
  since_below = λ t image le left. elim left [
    | inl now ↦ known.since_below t image le (now_here t image le now.1)
    | inr past ↦ known.since_below t image le past
  ];
  above_below = λ k image le left. known.above_below k image le (subst (λ (n : ℕ). LeftBy n story.held (Looked ∷ story.calls) image) (let e = fewer k le in e) left);
}
  where
    now_here : (t : ℕ) (image : Store) → t ≤ moment sub → IsImage story image → IsImageSince story (moment start + t) image
    now_here t image le left = now-since story (moment start + t) image (omega (arith, le, long)) left

    split : (t : ℕ) (image : Store) → IsImageSince (looked story) t image → IsImageSince start t image ⊎ IsImageSince (looked story) (moment start) image
    split t image (inl now) = inr (inl (omega (arith, long), now.1))
    split t image (inr past) = elim (known.split t image past) [
      | inl first ↦ inl first
      | inr last ↦ inr (inr last)
    ]

    by : (image : Store) → IsImageSince (looked story) (moment start) image → SameOutside prefix start.held image
    by image (inl now) = known.now image now.1
    by image (inr past) = known.since image past

    fewer : (k : ℕ) → k ≤ moment sub → min (suc (moment story) - (moment start + k)) (suc (unsynced story.calls)) ≡ suc (min (moment story - (moment start + k)) (unsynced story.calls))
    fewer k le = omega (arith, le, long)

-- ---- by what is kept

pub sub_of : (prefix : List ℕ) (made : ℕ) (spent : Bool) (start story : Story) → spent ≡ false → IsKept prefix made spent start story → IsSub prefix made start story
sub_of prefix made spent start story is kept = subst (λ (b : Bool). IsSub prefix made start (shown b story)) is kept.sub

-- ... where a look isn't told
goes_on_spent : (prefix : List ℕ) → IsPlace prefix → (made : ℕ) (start s story : Story) → story ≡ looked s → IsSub prefix made start s → IsSound story → GoesOn prefix start story (sub_story prefix (moment start) made s)
goes_on_spent prefix place made start s story is sub sound =
    let whole = subst IsSound is sound in
    let sound_s : IsSound s = record { content = λ k. whole.content (suc k) } in
    let c = sub.counted in
    let l = length_below prefix (moment start) made s.calls (omega (arith, c)) in
    subst (λ (t : Story). GoesOn prefix start t (sub_story prefix (moment start) made s)) (sym is)
    (goes_on_look prefix start s (sub_story prefix (moment start) made s) (omega (arith, c, l)) (goes_on_open prefix place made start s sub sound_s))

-- what is known of the other disk
pub goes_on : (prefix : List ℕ) → IsPlace prefix → (made : ℕ) (spent : Bool) (start story : Story) → IsKept prefix made spent start story → IsSound story
    → GoesOn prefix start story (sub_story prefix (moment start) made (shown spent story))
goes_on prefix place made false start story kept sound = goes_on_open prefix place made start story kept.sub sound
goes_on prefix place made true start story kept sound = goes_on_spent prefix place made start (shown true story) story kept.look kept.sub sound

pub moment_is : (prefix : List ℕ) (made : ℕ) (spent : Bool) (start story : Story) → IsKept prefix made spent start story → length (sub_story prefix (moment start) made (shown spent story)).calls ≡ made
moment_is prefix made spent start story kept = let c = kept.sub.counted in length_below prefix (moment start) made (shown spent story).calls (omega (arith, c))

-- ---- the start, and paths that are written

pub sub_start : (prefix : List ℕ) (start : Story) → IsSettledWhole start → IsReachable prefix start.held → IsSub prefix 0 start start
sub_start prefix start settled clear = record { counted = omega arith; behind = refl; held = refl; calls = refl; settled = settled; clear = clear }

pub within_on : (prefix : List ℕ) (reach : ℕ) → length prefix ≤ min reach 4096 → (path : List ℕ) → length path ≤ min reach 4096 - length prefix → length (prefix ++ path) ≤ reach
within_on prefix reach room path within = let e = length-append prefix path in omega (arith, room, within, e)

pub clean_on : (prefix : List ℕ) → IsPlace prefix → (reach : ℕ) → length prefix ≤ min reach 4096 → (path : List ℕ) → IsClean path → length path ≤ min reach 4096 - length prefix → IsClean (prefix ++ path)
clean_on prefix place reach room path clean within = place.on path clean (let e = length-append prefix path in omega (arith, room, within, e))
