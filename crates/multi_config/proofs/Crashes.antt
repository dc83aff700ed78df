-- Every crash leaves each configuration a valid store, whatever the others are.
use Rattle.std.proofs.Common.{◌≡◌, ◌≢◌, ◌∙◌, refl, ap, sym, subst, ℕ, ◌+◌, ◌≤◌, ◌⊎◌, inl, inr, Bool, true, false, true≢false, List, [], ◌∷◌, ◌++◌, length, length-append, arith, codes, bytes_eq}
use Rattle.std.specs.Prelude.{All}
use Rattle.std.specs.List.{AllByRecursion}
use Rattle.tree_model.specs.Path.{IsAtOrBelow, inside}
use Rattle.outside_traits.specs.Bench.{Gives}
use Rattle.outside_traits.specs.Passes.{Passes}
use Rattle.outside_traits.specs.Store.{IsAround, Store}
use Rattle.outside_traits.specs.Story.{IsImage, IsImageSince, Story, moment}
use Rattle.outside_traits.proofs.Images.{held-image, now-since, since-now}
use Rattle.meta_model.specs.declared.event.Logged.{Logged}
use Rattle.meta_model.specs.declared.event.Status.{Status}
use Rattle.meta_model.specs.declared.plan.Plan.{Plan}
use Rattle.meta_model.specs.declared.plan.PlanTask.{PlanTask}
use Rattle.meta_model.proofs.Bools.{either_way, same_text, text_itself}
use Rattle.plan_model.specs.Inputs.{Files}
use Rattle.store_model.specs.Lines.{HaveSameLines}
use Rattle.store_model.specs.Opened.{IsElsewhere}
use Rattle.store_model.specs.Origins.{Book, Reading}
use Rattle.store_model.specs.Readable.{IsReadable}
use Rattle.store_model.specs.Valid.{IsValid}
use Rattle.store_model.proofs.Lasting.{valid_elsewhere}
use Rattle.run_model.specs.Build.{IsCrash, LeavesOthers}
use Rattle.run_model.specs.Headline.{MayBegin}
use Rattle.run_model.specs.Own.{IsAside, IsOfFolder, IsShared}
use Rattle.answer_model.specs.declared.asked.RunRequest.{RunRequest}
use Rattle.answer_model.specs.Run.{Concludes}
use Rattle.sub_disk.specs.Sub.{GoesOn, IsSettledWhole, below}
use Rattle.multi_config.specs.declared.parts.ConfigTargets.{ConfigTargets}
use Rattle.multi_config.specs.Configs.{goes_on, store_prefix}
use Rattle.multi_config.specs.ConfigLaws.{AreApart, AreEndsApart, AreOthers, ConfigsCrash, MayAllBegin, ReachedAreApart}
use Rattle.multi_config.specs.Named.{IsNamed}
use Rattle.multi_config.specs.Parts.{AreParts, AreReached, DidFolder, IsPart, KeepsFolder, MakesReady, PartEnd, Standing, ready, store_folder, unready}
use Rattle.multi_config.proofs.Apart.{reached_are_others}
use Rattle.multi_config.proofs.Later.{IsOff, mc_slash, off_first, off_other, prefix_path, ready_off, slashless}
use Rattle.multi_config.proofs.Tests.{on_false, on_true}

-- ---- paths

-- a path of a named configuration's folder is off the folder of another one
off_named : (mc c : List ℕ) → mc ≢ [] → IsNamed mc → c ≢ [] → IsNamed c → c ≢ mc → (q : List ℕ) → IsOff c (store_prefix mc ++ q)
off_named mc c some named some_c named_c other q = subst (IsOff c) (sym (prefix_path mc q some)) (off_other mc c q (slashless mc some named) (slashless c some_c named_c) some_c other)

-- records and keys stand below these
abbrev IsTop : List ℕ → Type 0
IsTop top = (top ≡ codes "rec2") ⊎ (top ≡ codes "key")

-- a record or a key of any configuration is off the folder of another one
top_off : (mc c : List ℕ) → IsNamed mc → c ≢ [] → IsNamed c → c ≢ mc → (top : List ℕ) → IsTop top → (path : List ℕ) → IsOff c (store_prefix mc ++ inside top path)
top_off [] c named some_c named_c other top (inl e) path = subst (λ (x : List ℕ). IsOff c (inside x path)) (sym e) (off_first c 114 _ some_c refl)
top_off [] c named some_c named_c other top (inr e) path = subst (λ (x : List ℕ). IsOff c (inside x path)) (sym e) (off_first c 107 _ some_c refl)
top_off (d ∷ mc) c named some_c named_c other top is path = off_named (d ∷ mc) c (λ e. cc) named some_c named_c other (inside top path)

abbrev OffAll : List PartEnd → List ℕ → Type 0
OffAll ends q = AllByRecursion (λ (e : PartEnd). IsOff e.part.mc q) ends

tops_off : (mc : List ℕ) → IsNamed mc → (ends : List PartEnd) → AreOthers mc ends → (top : List ℕ) → IsTop top → (path : List ℕ) → OffAll ends (store_prefix mc ++ inside top path)
tops_off mc named [] others top is path = tt
tops_off mc named (e ∷ ends) others top is path = (top_off mc e.part.mc named others.0.0 others.0.1.0 others.0.1.1 top is path, tops_off mc named ends others.1 top is path)

prefix_long : (d : ℕ) (c q : List ℕ) → length (store_prefix (d ∷ c) ++ q) ≡ length (store_folder (d ∷ c)) + 1 + length q
prefix_long d c q =
    let a = length-append (store_prefix (d ∷ c)) q in
    let l = length-append (d ∷ c) (codes "/") in
    omega (arith, a, l)

-- a path in a folder is neither the folder nor above it
not_around : (d : ℕ) (c q : List ℕ) → IsAround (store_folder (d ∷ c)) (store_prefix (d ∷ c) ++ q) → ⊥
not_around d c q (inl e) = let l = prefix_long d c q in let s = ap length e in omega (arith, l, s)
not_around d c q (inr under) =
    let l = prefix_long d c q in
    let s = ap length under.1 in
    let a = length-append (store_prefix (d ∷ c) ++ q) (47 ∷ under.0) in
    omega (arith, l, s, a)

-- what was made ready, in the folder
ready_in : (c : List ℕ) (held old new : Store) → MakesReady c held old new → (q : List ℕ) → new (store_prefix c ++ q) ≡ old (store_prefix c ++ q)
ready_in [] held old new e q = ap (λ (s : Store). s q) e
ready_in (d ∷ c) held old new way q = way.others (store_prefix (d ∷ c) ++ q) (not_around d c q)

-- ---- a path below mc/ isn't touched by a run of the default configuration

heads : (x y : ℕ) (xs ys : List ℕ) → x ∷ xs ≡ y ∷ ys → x ≡ y
heads x y xs ys e = cc

not_m : {X : Type 0} (y : ℕ) (xs ys : List ℕ) → ◌≡◌ {A = List ℕ} (109 ∷ xs) (y ∷ ys) → (109 ≡ y → ⊥) → X
not_m y xs ys e other = absurd (other (heads 109 y xs ys e))

m_elsewhere : (q : List ℕ) → IsElsewhere (109 ∷ q)
m_elsewhere q = record {
  records = λ at. by 114 (codes "ec2") (λ e. omega (arith, e)) at;
  keys = λ at. by 107 (codes "ey") (λ e. omega (arith, e)) at;
  stamps = λ at. by 115 (codes "tamp") (λ e. omega (arith, e)) at;
  temporary = λ at. by 116 (codes "mp") (λ e. omega (arith, e)) at;
  objects = λ e. not_m 111 q (codes "bj") e (λ same. omega (arith, same));
}
  where
    by : (y : ℕ) (ys : List ℕ) → (109 ≡ y → ⊥) → IsAtOrBelow (y ∷ ys) (109 ∷ q) → ⊥
    by y ys other (inl e) = not_m y q ys e other
    by y ys other (inr under) = not_m y q (ys ++ 47 ∷ under.0) under.1 other

m_aside : (held : Store) (plan : Plan) (touched published : ℕ → Type 0) (q : List ℕ) → IsAside held plan touched published (109 ∷ q)
m_aside held plan touched published q = record {
  temporary = λ under. not_m 116 q _ under.1 (λ e. omega (arith, e));
  folder = λ t task at touch of. folder task of;
  above = λ t task at touch under. absurd (not_m 119 _ _ (sym under.1) (λ e. omega (arith, e)));
  output = λ t done shared. absurd (output shared);
}
  where
    folder : (task : PlanTask) → IsOfFolder task (109 ∷ q) → ⊥
    folder task (inl (inl e)) = not_m 119 q _ e (λ same. omega (arith, same))
    folder task (inl (inr under)) = not_m 119 q _ under.1 (λ same. omega (arith, same))
    folder task (inr e) = not_m 115 q _ e (λ same. omega (arith, same))

    output : IsShared (109 ∷ q) → ⊥
    output (inl (inl e)) = not_m 114 q _ e (λ same. omega (arith, same))
    output (inl (inr under)) = not_m 114 q _ under.1 (λ same. omega (arith, same))
    output (inr (inl (inl e))) = not_m 107 q _ e (λ same. omega (arith, same))
    output (inr (inl (inr under))) = not_m 107 q _ under.1 (λ same. omega (arith, same))
    output (inr (inr (inl e))) = not_m 111 q _ e (λ same. omega (arith, same))
    output (inr (inr (inr under))) = not_m 111 q _ under.1 (λ same. omega (arith, same))

-- ---- stores that a crash leaves

crash_moved : (gives : Gives) (reading : Reading) (book : Book) (old new : Store) → ((top : List ℕ) → IsTop top → (path : List ℕ) → new (inside top path) ≡ old (inside top path)) → IsCrash gives reading book old → IsCrash gives reading book new
crash_moved gives reading book old new same c = record { again = c.again; same = c.same; lines = c.lines; valid = valid_elsewhere gives reading old new (c.again ++ c.lines) (same (codes "rec2") (inl refl)) (same (codes "key") (inr refl)) c.valid; readable = c.readable }

same_lines : (book : Book) → HaveSameLines book book
same_lines book = record { whole = λ behind line stands. (behind, stands); only = λ behind line stands. (behind, stands) }

nothing_more : (book : Book) → book ++ [] ≡ book
nothing_more [] = refl
nothing_more (line ∷ book) = let more = nothing_more book in λ i. line ∷ more i

-- what is valid is what a crash may leave of it
crash_itself : (gives : Gives) (reading : Reading) (book : Book) (held : Store) → IsValid gives reading held book → AllByRecursion IsReadable book → IsCrash gives reading book held
crash_itself gives reading book held valid readable = record {
  again = book;
  same = same_lines book;
  lines = [];
  valid = subst (IsValid gives reading held) (sym (nothing_more book)) valid;
  readable = subst (AllByRecursion IsReadable) (sym (nothing_more book)) readable;
}

module _ (layers disk bench sink : Type 0) (files : Files) (request : RunRequest) (told : disk) (b : bench) (gives : Gives) (t : ℕ) where
  abbrev Is : PartEnd → Standing → Standing → Type 0
  Is one before now = IsPart layers disk bench sink files request one before now

  abbrev Are : List PartEnd → Standing → Standing → Type 0
  Are ends before now = AreParts layers disk bench sink files request ends before now

  -- an image that was left since comes from one that was left before, and is like it off the folder
  abbrev Came : List ℕ → Story → Store → Type 0
  Came c before image = (earlier : Store) × IsImageSince before t earlier × ((q : List ℕ) → IsOff c q → image q ≡ earlier q)

  ready_since : (c : List ℕ) (before now : Story) (held : Store) → t ≤ moment before → Passes before now (MakesReady c held) → (image : Store) → IsImageSince now t image → Came c before image
  ready_since c before now held le way image i = by (way.since t image le i)
    where
      by : IsImageSince before t image ⊎ ((earlier : Store) × IsImage before earlier × MakesReady c held earlier image) → Came c before image
      by (inl a) = (image, a, (λ q off. refl))
      by (inr w) = (w.0, now-since before t w.0 le w.1, (λ q off. ready_off c held w.0 image w.2 q off))

  folder_since : (c : List ℕ) (tale : List Logged) (s : Status) (before now : Story) (P : Story → Type 0) → t ≤ moment before → DidFolder c tale s before now P → (image : Store) → IsImageSince now t image → Came c before image
  folder_since c tale s before now P le (unready way none ok failed) image i = ready_since c before now before.held le way image i
  folder_since c tale s before now P le (ready start sub way settled same goes kept) image i = by (goes.run.since t image on i)
    where
      on : t ≤ moment start
      on = let later = way.later in omega (arith, le, later)

      by : IsImageSince start t image ⊎ ((earlier : Store) × IsImage start earlier × Rattle.sub_disk.specs.Sub.SameOutside (store_prefix c) earlier image) → Came c before image
      by (inl a) = ready_since c before start before.held le way image a
      by (inr w) =
          let first = ready_since c before start before.held le way w.0 (now-since start t w.0 on w.1) in
          (first.0, first.1, (λ q off. w.2 q off.outside ∙ first.2 q off))

  folder_held : (c : List ℕ) (tale : List Logged) (s : Status) (before now : Story) (P : Story → Type 0) → DidFolder c tale s before now P → (q : List ℕ) → IsOff c q → now.held q ≡ before.held q
  folder_held c tale s before now P (unready way none ok failed) q off = ready_off c before.held before.held now.held way.held q off
  folder_held c tale s before now P (ready start sub way settled same goes kept) q off = goes.held q off.outside ∙ ready_off c before.held before.held start.held way.held q off

  folder_later : (c : List ℕ) (tale : List Logged) (s : Status) (before now : Story) (P : Story → Type 0) → DidFolder c tale s before now P → moment before ≤ moment now
  folder_later c tale s before now P (unready way none ok failed) = way.later
  folder_later c tale s before now P (ready start sub way settled same goes kept) = let first = way.later in let last = goes.run.later in omega (arith, first, last)

  part_later : (one : PartEnd) (before now : Standing) → Is one before now → moment before.story ≤ moment now.story
  part_later one before now is = by is.concludes
    where
      by : Concludes request.options one.plans one.tales one.status → moment before.story ≤ moment now.story
      by (inl none) = let same = ap moment (is.same_disk none.0).0 in omega (arith, same)
      by (inr begun) = folder_later one.part.mc begun.tale one.status before.story now.story _ (is.folder told begun.plan begun.tale begun.plans_are begun.tales_are)

  part_since : (one : PartEnd) (before now : Standing) → Is one before now → t ≤ moment before.story → (image : Store) → IsImageSince now.story t image → Came one.part.mc before.story image
  part_since one before now is le image i = by is.concludes
    where
      by : Concludes request.options one.plans one.tales one.status → Came one.part.mc before.story image
      by (inl none) = (image, subst (λ (x : Story). IsImageSince x t image) (is.same_disk none.0).0 i, (λ q off. refl))
      by (inr begun) = folder_since one.part.mc begun.tale one.status before.story now.story _ le (is.folder told begun.plan begun.tale begun.plans_are begun.tales_are) image i

  part_held : (one : PartEnd) (before now : Standing) → Is one before now → (q : List ℕ) → IsOff one.part.mc q → now.story.held q ≡ before.story.held q
  part_held one before now is q off = by is.concludes
    where
      by : Concludes request.options one.plans one.tales one.status → now.story.held q ≡ before.story.held q
      by (inl none) = ap (λ (x : Story). x.held q) (is.same_disk none.0).0
      by (inr begun) = folder_held one.part.mc begun.tale one.status before.story now.story _ (is.folder told begun.plan begun.tale begun.plans_are begun.tales_are) q off

  parts_since : (ends : List PartEnd) (before now : Standing) → Are ends before now → t ≤ moment before.story → (image : Store) → IsImageSince now.story t image
      → (earlier : Store) × IsImageSince before.story t earlier × ((q : List ℕ) → OffAll ends q → image q ≡ earlier q)
  parts_since [] before now same le image i = (image, subst (λ (x : Standing). IsImageSince x.story t image) same i, (λ q off. refl))
  parts_since (one ∷ more) before now each le image i =
      let later = part_later one before each.0 each.1 in
      let last = parts_since more each.0 now each.2 (omega (arith, le, later)) image i in
      let first = part_since one before each.0 each.1 le last.0 last.1 in
      (first.0, first.1, (λ q off. last.2 q off.1 ∙ first.2 q off.0))

  module _ (mc : List ℕ) (named : IsNamed mc) (reading : Reading) (book : Book) where
    abbrev Safe : Store → Type 0
    Safe image = IsCrash gives reading book (below (store_prefix mc) image)

    abbrev EachSafe : Story → Type 0
    EachSafe story = (image : Store) → IsImageSince story t image → Safe image

    abbrev MayOwn : List PartEnd → Store → Type 0
    MayOwn ends held = AllByRecursion (λ (e : PartEnd). e.part.mc ≡ mc → (plan : Plan) → e.plans ≡ plan ∷ [] → MayBegin gives reading book (below (store_prefix mc) held) plan) ends

    safe_moved : (old new : Store) → ((top : List ℕ) → IsTop top → (path : List ℕ) → new (store_prefix mc ++ inside top path) ≡ old (store_prefix mc ++ inside top path)) → Safe old → Safe new
    safe_moved old new same c = crash_moved gives reading book (below (store_prefix mc) old) (below (store_prefix mc) new) same c

    -- parts of others leave it safe
    others_safe : (ends : List PartEnd) (before now : Standing) → Are ends before now → AreOthers mc ends → t ≤ moment before.story → EachSafe before.story → EachSafe now.story
    others_safe ends before now each others le safe image i =
        let came = parts_since ends before now each le image i in
        safe_moved came.0 image (λ top is path. came.2 _ (tops_off mc named ends others top is path)) (safe came.0 came.1)

    -- and so does its own part
    own_folder : (tale : List Logged) (plan : Plan) (tales : List (List Logged)) (s : Status) (before now : Standing) → t ≤ moment before.story → All (λ g. g ≡ gives) before.gives → MayBegin gives reading book (below (store_prefix mc) before.story.held) plan
        → DidFolder mc tale s before.story now.story (KeepsFolder layers disk bench sink files request plan tales s (below (store_prefix mc) before.story.held) before now) → EachSafe before.story → EachSafe now.story
    own_folder tale plan tales s before now le all may (unready way none ok failed) safe image i = made before.story now.story before.story.held le way safe image i
      where
        made : (a c : Story) (held : Store) → t ≤ moment a → Passes a c (MakesReady mc held) → EachSafe a → EachSafe c
        made a c held on way each image i = by (way.since t image on i)
          where
            by : IsImageSince a t image ⊎ ((earlier : Store) × IsImage a earlier × MakesReady mc held earlier image) → Safe image
            by (inl x) = each image x
            by (inr w) = safe_moved w.0 image (λ top is path. ready_in mc held w.0 image w.2 (inside top path)) (each w.0 (now-since a t w.0 on w.1))
    own_folder tale plan tales s before now le all may (ready start sub way settled same goes kept) safe image i = by (goes.split t image i)
      where
        made : (each : EachSafe before.story) → EachSafe start
        made each image i = from (way.since t image le i)
          where
            from : IsImageSince before.story t image ⊎ ((earlier : Store) × IsImage before.story earlier × MakesReady mc before.story.held earlier image) → Safe image
            from (inl x) = each image x
            from (inr w) = safe_moved w.0 image (λ top is path. ready_in mc before.story.held w.0 image w.2 (inside top path)) (each w.0 (now-since before.story t w.0 le w.1))

        zero_more : moment start ≡ moment start + 0
        zero_more = omega arith

        by : IsImageSince start t image ⊎ IsImageSince now.story (moment start) image → Safe image
        by (inl first) = made safe image first
        by (inr last) = (kept.keeps b gives all reading book may).crashes (below (store_prefix mc) image) (goes.since_below 0 image (omega arith) (subst (λ (n : ℕ). IsImageSince now.story n image) zero_more last))

    own_safe : (one : PartEnd) (before now : Standing) → Is one before now → one.part.mc ≡ mc → t ≤ moment before.story → All (λ g. g ≡ gives) before.gives → ((plan : Plan) → one.plans ≡ plan ∷ [] → MayBegin gives reading book (below (store_prefix mc) before.story.held) plan)
        → EachSafe before.story → EachSafe now.story
    own_safe one before now is own le all may safe image i = by is.concludes
      where
        by : Concludes request.options one.plans one.tales one.status → Safe image
        by (inl none) = safe image (subst (λ (x : Story). IsImageSince x t image) (is.same_disk none.0).0 i)
        by (inr begun) =
            let did = is.folder told begun.plan begun.tale begun.plans_are begun.tales_are in
            own_folder begun.tale begun.plan one.tales one.status before now le all (may begun.plan begun.plans_are)
            (subst (λ (m : List ℕ). DidFolder m begun.tale one.status before.story now.story (KeepsFolder layers disk bench sink files request begun.plan one.tales one.status (below (store_prefix m) before.story.held) before now)) own did) safe image i

    -- a run of named configurations
    may_moved : (ends : List PartEnd) (old new : Store) → below (store_prefix mc) new ≡ below (store_prefix mc) old → MayOwn ends old → MayOwn ends new
    may_moved [] old new same may = tt
    may_moved (e ∷ ends) old new same may = (
      (λ own plan planned. subst (λ (s : Store). MayBegin gives reading book s plan) (sym same) (may.0 own plan planned)),
      may_moved ends old new same may.1,
    )

    safe_from : mc ≢ [] → (ends : List PartEnd) (before now : Standing) → Are ends before now → AreEndsApart ends → AreOthers [] ends → t ≤ moment before.story → All (λ g. g ≡ gives) before.gives → MayOwn ends before.story.held → EachSafe before.story → EachSafe now.story
    safe_from some [] before now same apart others le all may safe = λ image i. safe image (subst (λ (x : Standing). IsImageSince x.story t image) same i)
    safe_from some (one ∷ more) before now each apart others le all may safe = by (either_way (bytes_eq one.part.mc mc)) (safe_from some more each.0 now each.2 apart.2 others.1)
      where
        mid : Standing
        mid = each.0

        on : t ≤ moment mid.story
        on = let later = part_later one before mid each.1 in omega (arith, le, later)

        not_same : (x y : List ℕ) → bytes_eq x y ≡ false → x ≢ y
        not_same x y f e = true≢false (sym (text_itself x) ∙ (ap (bytes_eq x) e ∙ f))

        by : (bytes_eq one.part.mc mc ≡ true) ⊎ (bytes_eq one.part.mc mc ≡ false) → (t ≤ moment mid.story → All (λ g. g ≡ gives) mid.gives → MayOwn more mid.story.held → EachSafe mid.story → EachSafe now.story) → EachSafe now.story
        by (inl own) rest =
            let is = same_text one.part.mc mc own in
            others_safe more mid now each.2 (subst (λ (m : List ℕ). AreOthers m more) is apart.1) on (own_safe one before mid each.1 is le all (may.0 is) safe)
        by (inr other) rest =
            let differs = not_same one.part.mc mc other in
            let off = λ (q : List ℕ). off_named mc one.part.mc some named others.0.0 others.0.1.0 differs q in
            let same : below (store_prefix mc) mid.story.held ≡ below (store_prefix mc) before.story.held = (λ i q. (part_held one before mid each.1 (store_prefix mc ++ q) (off q)) i) in
            let here : EachSafe mid.story = (λ image i. let came = part_since one before mid each.1 le image i in safe_moved came.0 image (λ top is path. came.2 _ (off (inside top path))) (safe came.0 came.1)) in
            rest on (subst (λ (l : List Gives). All (λ g. g ≡ gives) l) (sym each.1.stay.gives) all) (may_moved more before.story.held mid.story.held same may.1) here

    -- a run of the default configuration, which is the first
    alone : mc ≢ [] → (first : Book) (held : Store) (plan : Plan) (tale : List Logged) (s : Status) (sub : Story) → LeavesOthers gives first held plan request.options tale s sub → (image : Store) → IsImageSince sub 0 image → (q : List ℕ) → image (store_prefix mc ++ q) ≡ held (store_prefix mc ++ q)
    alone some first held plan tale s sub left image i q = subst (λ (r : List ℕ). image r ≡ held r) (sym (prefix_path mc q some)) (left.paths image i (mc_slash ++ (mc ++ 47 ∷ q)) (inl (m_elsewhere _)) (m_aside held plan _ _ _))

    abbrev Left : Story → Story → Type 0
    Left before now = EachSafe now × (below (store_prefix mc) now.held ≡ below (store_prefix mc) before.held)

    default_ready : (before now : Story) → t ≤ moment before → Passes before now (MakesReady [] before.held) → EachSafe before → EachSafe now
    default_ready before now le way safe image i = by (way.since t image le i)
      where
        by : IsImageSince before t image ⊎ ((earlier : Store) × IsImage before earlier × MakesReady [] before.held earlier image) → Safe image
        by (inl a) = safe image a
        by (inr w) = subst Safe (sym w.2) (safe w.0 (now-since before t w.0 le w.1))

    default_folder : mc ≢ [] → (first_reading : Reading) (first : Book) (tale : List Logged) (plan : Plan) (tales : List (List Logged)) (s : Status) (before now : Standing) → tales ≡ tale ∷ [] → t ≤ moment before.story → All (λ g. g ≡ gives) before.gives
        → MayBegin gives first_reading first before.story.held plan → DidFolder [] tale s before.story now.story (KeepsFolder layers disk bench sink files request plan tales s before.story.held before now) → Safe before.story.held → EachSafe before.story → Left before.story now.story
    default_folder some first_reading first tale plan tales s before now one le all may (unready way none ok failed) base safe = (default_ready before.story now.story le way safe, ap (below (store_prefix mc)) way.held)
    default_folder some first_reading first tale plan tales s before now one le all may (ready start sub way settled same goes kept) base safe = (
      (λ image i. by image (goes.split t image i)),
      ap (below (store_prefix mc)) goes.held_below ∙ (λ i q. (alone some first before.story.held plan tale s sub left sub.held (now-since sub 0 sub.held (omega arith) (held-image sub goes.lawful)) q) i),
    )
      where
        left : LeavesOthers gives first before.story.held plan request.options tale s sub
        left = subst (All (λ (x : List Logged). LeavesOthers gives first before.story.held plan request.options x s sub)) one (kept.keeps b gives all first_reading first may).others 0 tale (omega arith)

        zero_more : moment start ≡ moment start + 0
        zero_more = omega arith

        by : (image : Store) → IsImageSince start t image ⊎ IsImageSince now.story (moment start) image → Safe image
        by image (inl before_it) = default_ready before.story start le way safe image before_it
        by image (inr last) = safe_moved before.story.held image (λ top is path. alone some first before.story.held plan tale s sub left image (goes.since_below 0 image (omega arith) (subst (λ (n : ℕ). IsImageSince now.story n image) zero_more last)) (inside top path)) base

    default_safe : mc ≢ [] → (first_reading : Reading) (first : Book) (one : PartEnd) (before now : Standing) → Is one before now → one.part.mc ≡ [] → t ≤ moment before.story → All (λ g. g ≡ gives) before.gives → ((plan : Plan) → one.plans ≡ plan ∷ [] → MayBegin gives first_reading first before.story.held plan)
        → Safe before.story.held → EachSafe before.story → Left before.story now.story
    default_safe some first_reading first one before now is own le all may base safe = by is.concludes
      where
        by : Concludes request.options one.plans one.tales one.status → Left before.story now.story
        by (inl none) = let same = (is.same_disk none.0).0 in ((λ image i. safe image (subst (λ (x : Story). IsImageSince x t image) same i)), ap (λ (x : Story). below (store_prefix mc) x.held) same)
        by (inr begun) =
            let did = is.folder told begun.plan begun.tale begun.plans_are begun.tales_are in
            default_folder some first_reading first begun.tale begun.plan one.tales one.status before now begun.tales_are le all (may begun.plan begun.plans_are)
            (subst (λ (m : List ℕ). DidFolder m begun.tale one.status before.story now.story (KeepsFolder layers disk bench sink files request begun.plan one.tales one.status (below (store_prefix m) before.story.held) before now)) own did) base safe

-- ---- the law

empty_or : (m : List ℕ) → (m ≡ []) ⊎ (m ≢ [])
empty_or [] = inl refl
empty_or (c ∷ m) = inr (λ e. cc)

-- parts that are of others than one are of named ones
others_default : (m : List ℕ) (ends : List PartEnd) → AreOthers m ends → AreOthers [] ends
others_default m [] others = tt
others_default m (e ∷ ends) others = ((others.0.0, (others.0.1.0, others.0.0)), others_default m ends others.1)

may_own : (gives : Gives) (readings : List ℕ → Reading) (books : List ℕ → Book) (mc : List ℕ) (held : Store) (ends : List PartEnd) → MayAllBegin gives readings books held ends
    → AllByRecursion (λ (e : PartEnd). e.part.mc ≡ mc → (plan : Plan) → e.plans ≡ plan ∷ [] → MayBegin gives (readings mc) (books mc) (below (store_prefix mc) held) plan) ends
may_own gives readings books mc held [] may = tt
may_own gives readings books mc held (e ∷ ends) may = (
  (λ own plan planned. subst (λ (m : List ℕ). MayBegin gives (readings m) (books m) (below (store_prefix m) held) plan) own (may.0 plan planned)),
  may_own gives readings books mc held ends may.1,
)

abbrev EachCrash : Gives → Reading → Book → List ℕ → ℕ → Story → Type 0
EachCrash gives reading book mc t story = (image : Store) → IsImageSince story t image → IsCrash gives reading book (below (store_prefix mc) image)

abbrev MayFor : Gives → Reading → Book → List ℕ → Store → List PartEnd → Type 0
MayFor gives reading book mc held ends = AllByRecursion (λ (e : PartEnd). e.part.mc ≡ mc → (plan : Plan) → e.plans ≡ plan ∷ [] → MayBegin gives reading book (below (store_prefix mc) held) plan) ends

module _ (layers disk bench sink : Type 0) (told : disk) (b : bench) (files : Files) (request : RunRequest) (before now : Standing) (gives : Gives) (all : All (λ g. g ≡ gives) before.gives) (readings : List ℕ → Reading) (books : List ℕ → Book) (mc : List ℕ) (named : IsNamed mc) where
  abbrev Whole : Type 0
  Whole = EachCrash gives (readings mc) (books mc) mc (moment before.story) now.story

  le : moment before.story ≤ moment before.story
  le = omega arith

  -- the first part, and those behind it
  from_first : (one : PartEnd) (more : List PartEnd) (mid : Standing) → IsPart layers disk bench sink files request one before mid → AreParts layers disk bench sink files request more mid now → AreEndsApart (one ∷ more)
      → MayFor gives (readings mc) (books mc) mc before.story.held (one ∷ more) → MayAllBegin gives readings books before.story.held (one ∷ more) → IsCrash gives (readings mc) (books mc) (below (store_prefix mc) before.story.held)
      → EachCrash gives (readings mc) (books mc) mc (moment before.story) before.story → Whole
  from_first one more mid is each apart own may base start = by (empty_or mc) (empty_or one.part.mc)
    where
      on : moment before.story ≤ moment mid.story
      on = part_later layers disk bench sink files request told b gives (moment before.story) one before mid is

      gives_there : All (λ g. g ≡ gives) mid.gives
      gives_there = subst (λ (l : List Gives). All (λ g. g ≡ gives) l) (sym is.stay.gives) all

      all_named : one.part.mc ≢ [] → AreOthers [] (one ∷ more)
      all_named some = ((some, (apart.0, some)), others_default one.part.mc more apart.1)

      may_first : one.part.mc ≡ [] → (plan : Plan) → one.plans ≡ plan ∷ [] → MayBegin gives (readings []) (books []) before.story.held plan
      may_first empty plan planned = subst (λ (m : List ℕ). MayBegin gives (readings m) (books m) (below (store_prefix m) before.story.held) plan) empty (may.0 plan planned)

      by : ((mc ≡ []) ⊎ (mc ≢ [])) → ((one.part.mc ≡ []) ⊎ (one.part.mc ≢ [])) → Whole
      by (inl none) (inl empty) =
          others_safe layers disk bench sink files request told b gives (moment before.story) mc named (readings mc) (books mc) more mid now each (subst (λ (m : List ℕ). AreOthers m more) (sym none) (others_default one.part.mc more apart.1)) on
          (own_safe layers disk bench sink files request told b gives (moment before.story) mc named (readings mc) (books mc) one before mid is (empty ∙ sym none) le all (own.0 (empty ∙ sym none)) start)
      by (inl none) (inr some) =
          others_safe layers disk bench sink files request told b gives (moment before.story) mc named (readings mc) (books mc) (one ∷ more) before now (mid, is, each) (subst (λ (m : List ℕ). AreOthers m (one ∷ more)) (sym none) (all_named some)) le start
      by (inr other) (inl empty) =
          let left = default_safe layers disk bench sink files request told b gives (moment before.story) mc named (readings mc) (books mc) other (readings []) (books []) one before mid is empty le all (may_first empty) base start in
          safe_from layers disk bench sink files request told b gives (moment before.story) mc named (readings mc) (books mc) other more mid now each apart.2 (others_default one.part.mc more apart.1) on gives_there
          (may_moved layers disk bench sink files request told b gives (moment before.story) mc named (readings mc) (books mc) more before.story.held mid.story.held left.1 own.1) left.0
      by (inr other) (inr some) =
          safe_from layers disk bench sink files request told b gives (moment before.story) mc named (readings mc) (books mc) other (one ∷ more) before now (mid, is, each) apart (all_named some) le all own start

pub configs_crash : (layers disk bench sink : Type 0) → ConfigsCrash layers disk bench sink
configs_crash layers disk bench sink told b files request ends before now each apart settled gives all readings books may mc named valid readable = by ends each apart (may_own gives readings books mc before.story.held ends may) may
  where
    base : IsCrash gives (readings mc) (books mc) (below (store_prefix mc) before.story.held)
    base = crash_itself gives (readings mc) (books mc) (below (store_prefix mc) before.story.held) valid readable

    start : EachCrash gives (readings mc) (books mc) mc (moment before.story) before.story
    start image i = subst (λ (s : Store). IsCrash gives (readings mc) (books mc) (below (store_prefix mc) s)) (sym (settled image (since-now before.story image i))) base

    by : (es : List PartEnd) → AreParts layers disk bench sink files request es before now → AreEndsApart es → MayFor gives (readings mc) (books mc) mc before.story.held es → MayAllBegin gives readings books before.story.held es
        → EachCrash gives (readings mc) (books mc) mc (moment before.story) now.story
    by [] same apart_ own may_ = λ image i. start image (subst (λ (x : Standing). IsImageSince x.story (moment before.story) image) same i)
    by (one ∷ more) parts apart_ own may_ = from_first layers disk bench sink told b files request before now gives all readings books mc named one more parts.0 parts.1 parts.2 apart_ own may_ base start

pub reached_are_apart : ReachedAreApart
reached_are_apart keep parts [] went named apart = tt
reached_are_apart keep [] (one ∷ more) went named apart = absurd went
reached_are_apart keep (part ∷ parts) (one ∷ more) went named apart = (
  subst (λ (p : ConfigTargets). IsNamed p.mc) (sym went.0) named.0,
  reached_are_others keep part parts one more went apart,
  rest (goes_on keep one.status) refl (reached_are_apart keep parts more),
)
  where
    rest : (x : Bool) → goes_on keep one.status ≡ x → (AreReached keep parts more → AllByRecursion (λ (p : ConfigTargets). IsNamed p.mc) parts → AreApart parts → AreEndsApart more) → AreEndsApart more
    rest true goes all = all (on_true (goes_on keep one.status) (AreReached keep parts more) goes went.1) named.1 apart.1
    rest false stops all = subst AreEndsApart (sym (on_false (goes_on keep one.status) (more ≡ []) stops went.2)) tt
