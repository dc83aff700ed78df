-- What a part leaves stays, whatever the parts behind it are.
use Rattle.std.proofs.Common.{◌≡◌, ◌≢◌, ◌∙◌, refl, ap, sym, subst, ℕ, ◌⊎◌, inl, inr, true, false, true≢false, List, [], ◌∷◌, ◌++◌, append_assoc, arith, codes, None}
use Rattle.std.specs.Prelude.{◌==◌, All}
use Rattle.std.specs.List.{AllByRecursion}
use Rattle.tree_model.specs.Path.{BeginsWith, IsBelow, inside}
use Rattle.outside_traits.specs.Passes.{EachNow}
use Rattle.outside_traits.specs.Store.{IsAround, HoldsTree, Store}
use Rattle.outside_traits.specs.Story.{IsImage, Story}
use Rattle.meta_model.specs.declared.event.Logged.{Logged}
use Rattle.meta_model.specs.declared.event.Status.TheVariants as status
use Rattle.meta_model.specs.declared.plan.Plan.{Plan}
use Rattle.plan_model.specs.Inputs.{Files}
use Rattle.run_model.specs.Build.{HasTargets}
use Rattle.run_model.specs.Headline.{MayBegin}
use Rattle.meta_model.specs.declared.event.Status.{Status}
use Rattle.outside_traits.specs.Bench.{Gives}
use Rattle.store_model.specs.Origins.{Book, Reading}
use Rattle.answer_model.specs.Answers.{is_refusal}
use Rattle.answer_model.specs.declared.asked.RunRequest.{RunRequest}
use Rattle.answer_model.specs.Run.{Concludes}
use Rattle.sub_disk.specs.Sub.{below}
use Rattle.multi_config.specs.Configs.{store_prefix}
use Rattle.multi_config.specs.ConfigLaws.{AreOthers, ConfigsAreExact}
use Rattle.multi_config.specs.Named.{IsNamed}
use Rattle.multi_config.specs.Parts.{AreParts, DidFolder, IsPart, KeepsFolder, MakesReady, PartEnd, Standing, ready, store_folder, unready}
use Rattle.multi_config.proofs.Folders.{name_slashless}

-- ---- paths of other folders

abbrev pub Slashless : List ℕ → Type 0
Slashless name = AllByRecursion (λ c. (c == 47) ≡ false) name

slash_not : {X : Type 0} → (47 == 47) ≡ false → X
slash_not e = absurd cc

-- names without slashes before a slash are one
same_before : (a b x y : List ℕ) → Slashless a → Slashless b → a ++ 47 ∷ x ≡ b ++ 47 ∷ y → a ≡ b
same_before [] [] x y f h e = refl
same_before [] (c ∷ b) x y f h e = let same : 47 ≡ c = cc in slash_not (subst (λ (d : ℕ). (d == 47) ≡ false) (sym same) h.0)
same_before (c ∷ a) [] x y f h e = let same : c ≡ 47 = cc in slash_not (subst (λ (d : ℕ). (d == 47) ≡ false) same f.0)
same_before (c ∷ a) (d ∷ b) x y f h e =
    let first : c ≡ d = cc in
    let rest : a ++ 47 ∷ x ≡ b ++ 47 ∷ y = cc in
    let more = same_before a b x y f.1 h.1 rest in
    λ i. first i ∷ more i

-- a name without a slash is none with one
no_slash_in : (a b x : List ℕ) → Slashless a → a ≡ b ++ 47 ∷ x → ⊥
no_slash_in [] [] x f e = absurd cc
no_slash_in [] (c ∷ b) x f e = absurd cc
no_slash_in (c ∷ a) [] x f e = let same : c ≡ 47 = cc in slash_not (subst (λ (d : ℕ). (d == 47) ≡ false) same f.0)
no_slash_in (c ∷ a) (d ∷ b) x f e = let rest : a ≡ b ++ 47 ∷ x = cc in no_slash_in a b x f.1 rest

abbrev pub mc_slash : List ℕ
mc_slash = codes "mc/"

-- the path is of neither the folder nor what is above it
pub record IsOff (mc q : List ℕ) : Type 0 where
  pub outside : BeginsWith (store_prefix mc) q → ⊥
  pub around : IsAround (store_folder mc) q → ⊥

cut_mc : (a b : List ℕ) → mc_slash ++ a ≡ mc_slash ++ b → a ≡ b
cut_mc a b e = cc

-- a path in the folder of another configuration
pub off_other : (mc c q : List ℕ) → Slashless mc → Slashless c → c ≢ [] → c ≢ mc → IsOff c (mc_slash ++ (mc ++ 47 ∷ q))
off_other mc [] q f h some other = absurd (some refl)
off_other mc (d ∷ c) q f h some other = record {
  outside = λ begins.
      let e : mc_slash ++ (mc ++ 47 ∷ q) ≡ mc_slash ++ ((d ∷ c) ++ 47 ∷ begins.0) = begins.1 ∙ simp append_assoc in
      other (sym (same_before mc (d ∷ c) q begins.0 f h (cut_mc _ _ e)));
  around = λ near. elim near [
    | inl e ↦ no_slash_in (d ∷ c) mc q h (sym (cut_mc (mc ++ 47 ∷ q) (d ∷ c) e))
    | inr under ↦ (
        let e : mc_slash ++ (d ∷ c) ≡ mc_slash ++ (mc ++ 47 ∷ (q ++ 47 ∷ under.0)) = under.1 ∙ simp append_assoc in
        no_slash_in (d ∷ c) mc (q ++ 47 ∷ under.0) h (cut_mc (d ∷ c) (mc ++ 47 ∷ (q ++ 47 ∷ under.0)) e))
  ];
}

-- ---- a later part

no_tale : {X : Type 0} (tale : List Logged) (tales : List (List Logged)) → tales ≡ tale ∷ [] → tales ≡ [] → X
no_tale tale tales one none = absurd (let both : tale ∷ [] ≡ [] = sym one ∙ none in cc)

-- what was made ready, off the folder
pub ready_off : (c : List ℕ) (held old new : Store) → MakesReady c held old new → (q : List ℕ) → IsOff c q → new q ≡ old q
ready_off [] held old new e q off = ap (λ (s : Store). s q) e
ready_off (d ∷ c) held old new way q off = way.others q off.around

-- each image behind a part comes from one before it, and is like it off the part's folder
abbrev ComesFrom : List ℕ → Story → Story → Type 0
ComesFrom c before now = (image : Store) → IsImage now image → (earlier : Store) × IsImage before earlier × ((q : List ℕ) → IsOff c q → image q ≡ earlier q)

folder_later : (c : List ℕ) (tale : List Logged) (s : Status) (before now : Story) (P : Story → Type 0) → DidFolder c tale s before now P → ComesFrom c before now
folder_later c tale s before now P (unready way none ok failed) image is = let from = way.now image is in (from.0, from.1, (λ q off. ready_off c before.held from.0 image from.2 q off))
folder_later c tale s before now P (ready start sub way settled same goes kept) image is =
    let last = goes.run.now image is in
    let first = way.now last.0 last.1 in
    (first.0, first.1, (λ q off. last.2 q off.outside ∙ ready_off c before.held first.0 last.0 first.2 q off))

module _ (layers disk bench sink : Type 0) (files : Files) (request : RunRequest) (told : disk) where
  part_later : (one : PartEnd) (before now : Standing) → IsPart layers disk bench sink files request one before now → ComesFrom one.part.mc before.story now.story
  part_later one before now is = by is.concludes
    where
      by : Concludes request.options one.plans one.tales one.status → ComesFrom one.part.mc before.story now.story
      by (inl none) image i = let same = (is.same_disk none.0).0 in (image, subst (λ (x : Story). IsImage x image) same i, (λ q off. refl))
      by (inr begun) image i = folder_later one.part.mc begun.tale one.status before.story now.story _ (is.folder told begun.plan begun.tale begun.plans_are begun.tales_are) image i

  -- off all folders of some parts
  abbrev OffAll : List PartEnd → List ℕ → Type 0
  OffAll ends q = AllByRecursion (λ (e : PartEnd). IsOff e.part.mc q) ends

  parts_later : (ends : List PartEnd) (before now : Standing) → AreParts layers disk bench sink files request ends before now → (image : Store) → IsImage now.story image
      → (earlier : Store) × IsImage before.story earlier × ((q : List ℕ) → OffAll ends q → image q ≡ earlier q)
  parts_later [] before now same image is = (image, subst (λ (x : Standing). IsImage x.story image) same is, (λ q off. refl))
  parts_later (one ∷ more) before now each image is =
      let last = parts_later more each.0 now each.2 image is in
      let first = part_later one before each.0 each.1 last.0 last.1 in
      (first.0, first.1, (λ q off. last.2 q off.1 ∙ first.2 q off.0))

  -- ---- the part's own

  own_exact : (one : PartEnd) (before now : Standing) → bench → IsPart layers disk bench sink files request one before now → one.status ≡ status.Ok → (plan : Plan) → one.plans ≡ plan ∷ [] → (gives : Gives) → All (λ g. g ≡ gives) before.gives → (reading : Reading) (book : Book)
      → MayBegin gives reading book (below (store_prefix one.part.mc) before.story.held) plan → EachNow now.story (λ image. HasTargets gives plan (below (store_prefix one.part.mc) image))
  own_exact one before now b is ok plan planned gives all reading book may = by is.concludes
    where
      refused : {X : Type 0} → (is_refusal one.status ≡ true) ⊎ (one.status ≡ status.WriteFault) → X
      refused (inl refusal) = absurd (let h : false ≡ true = subst (λ (x : Status). is_refusal x ≡ true) ok refusal in true≢false (sym h))
      refused (inr write) = absurd (let h : status.WriteFault ≡ status.Ok = sym write ∙ ok in cc)

      at : (tale : List Logged) → one.tales ≡ tale ∷ [] → DidFolder one.part.mc tale one.status before.story now.story (KeepsFolder layers disk bench sink files request plan one.tales one.status (below (store_prefix one.part.mc) before.story.held) before now)
          → EachNow now.story (λ image. HasTargets gives plan (below (store_prefix one.part.mc) image))
      at tale one_tale (unready way none not_ok failed) image i = absurd (not_ok ok)
      at tale one_tale (ready start sub way settled same goes kept) image i =
          (kept.keeps b gives all reading book may).exact ok (below (store_prefix one.part.mc) image) (goes.now_below image i)

      by : Concludes request.options one.plans one.tales one.status → EachNow now.story (λ image. HasTargets gives plan (below (store_prefix one.part.mc) image))
      by (inl none) = refused none.1
      by (inr begun) = at begun.tale begun.tales_are (is.folder told plan begun.tale planned begun.tales_are)

-- ---- what stays of the part's own

pub slashless : (name : List ℕ) → name ≢ [] → IsNamed name → Slashless name
slashless name some (inl e) = absurd (some e)
slashless name some (inr e) = name_slashless name e

-- the paths of a named folder are off the folders of others
pub all_off : (layers disk bench sink : Type 0) (files : Files) (request : RunRequest) (told : disk) (mc : List ℕ) → mc ≢ [] → IsNamed mc → (ends : List PartEnd) → AreOthers mc ends → (q : List ℕ) → OffAll layers disk bench sink files request told ends (mc_slash ++ (mc ++ 47 ∷ q))
all_off layers disk bench sink files request told mc some named [] others q = tt
all_off layers disk bench sink files request told mc some named (e ∷ ends) others q = (
  off_other mc e.part.mc q (slashless mc some named) (slashless e.part.mc others.0.0 others.0.1.0) others.0.0 others.0.1.1,
  all_off layers disk bench sink files request told mc some named ends others.1 q,
)

pub prefix_path : (mc q : List ℕ) → mc ≢ [] → store_prefix mc ++ q ≡ mc_slash ++ (mc ++ 47 ∷ q)
prefix_path [] q some = absurd (some refl)
prefix_path (c ∷ mc) q some = simp append_assoc

-- a path that doesn't begin with an m is off all folders
pub off_first : (c : List ℕ) (x : ℕ) (q : List ℕ) → c ≢ [] → (x == 109) ≡ false → IsOff c (x ∷ q)
off_first [] x q some other = absurd (some refl)
off_first (d ∷ c) x q some other = record {
  outside = λ begins. let e : x ≡ 109 = (let both = begins.1 in cc) in true≢false (sym (ap (λ y. y == 109) e) ∙ other);
  around = λ near. elim near [
    | inl e ↦ (let same : x ≡ 109 = cc in true≢false (sym (ap (λ y. y == 109) same) ∙ other))
    | inr under ↦ (let same : 109 ≡ x = (let both = under.1 in cc) in true≢false (sym (ap (λ y. y == 109) (sym same)) ∙ other))
  ];
}

off_root : (c : List ℕ) → c ≢ [] → IsOff c []
off_root [] some = absurd (some refl)
off_root (d ∷ c) some = record {
  outside = λ begins. nil_cons (begins.1);
  around = λ near. elim near [
    | inl e ↦ nil_cons e
    | inr under ↦ two_heads (codes "c/" ++ (d ∷ c)) under.0 under.1
  ];
}
  where
    nil_cons : {x : ℕ} {xs : List ℕ} → ◌≡◌ {A = List ℕ} [] (x ∷ xs) → ⊥
    nil_cons e = absurd cc

    two_heads : (xs ys : List ℕ) → ◌≡◌ {A = List ℕ} (109 ∷ xs) (47 ∷ ys) → ⊥
    two_heads xs ys e = let same : ◌≡◌ {A = ℕ} 109 47 = cc in absurd (omega (arith, same))

-- ---- work folders of the default configuration

-- a tree that is held below a folder whose path doesn't begin with an m
tree_stays : (ends : List PartEnd) (layers disk bench sink : Type 0) (files : Files) (request : RunRequest) (told : disk) → AreOthers [] ends → (x : ℕ) (rest : List ℕ) (tree : _) (old new : Store) → (x == 109) ≡ false
    → ((q : List ℕ) → OffAll layers disk bench sink files request told ends q → new q ≡ old q) → HoldsTree (x ∷ rest) tree old → HoldsTree (x ∷ rest) tree new
tree_stays ends layers disk bench sink files request told others x rest tree old new other same h = record {
  entries = λ path. same (inside (x ∷ rest) path) (off x (rest ++ 47 ∷ path) other ends others) ∙ h.entries path;
  outside = record {
    at = same (x ∷ rest) (off x rest other ends others) ∙ h.outside.at;
    above = λ q under. above q under;
  };
}
  where
    off : (y : ℕ) (q : List ℕ) → (y == 109) ≡ false → (es : List PartEnd) → AreOthers [] es → OffAll layers disk bench sink files request told es (y ∷ q)
    off y q f [] o = tt
    off y q f (e ∷ es) o = (off_first e.part.mc y q o.0.0 f, off y q f es o.1)

    root : (es : List PartEnd) → AreOthers [] es → OffAll layers disk bench sink files request told es []
    root [] o = tt
    root (e ∷ es) o = (off_root e.part.mc o.0.0, root es o.1)

    above : (q : List ℕ) → IsBelow q (x ∷ rest) → new q ≡ None
    above [] under = same [] (root ends others) ∙ h.outside.above [] under
    above (y ∷ q) under =
        let is : x ≡ y = (let both = under.1 in cc) in
        same (y ∷ q) (off y q (ap (λ z. z == 109) (sym is) ∙ other) ends others) ∙ h.outside.above (y ∷ q) under

pub configs_are_exact : (layers disk bench sink : Type 0) → ConfigsAreExact layers disk bench sink
configs_are_exact layers disk bench sink told b files request one more before now each named others ok plan planned gives all reading book may image is =
    let last = parts_later layers disk bench sink files request told more each.0 now each.2 image is in
    let own = own_exact layers disk bench sink files request told one before each.0 b each.1 ok plan planned gives all reading book may last.0 last.1 in
    by one.part.mc named others last.0 last.2 own
  where
    by : (mc : List ℕ) → IsNamed mc → AreOthers mc more → (earlier : Store) → ((q : List ℕ) → OffAll layers disk bench sink files request told more q → image q ≡ earlier q) → HasTargets gives plan (below (store_prefix mc) earlier) → HasTargets gives plan (below (store_prefix mc) image)
    by [] n o earlier same own = λ t task built target at clean.
        let h = own t task built target at clean in
        record { tree = h.tree; clean = h.clean; holds = tree_stays more layers disk bench sink files request told o 119 _ h.tree earlier image refl same h.holds }
    by (c ∷ mc) n o earlier same own =
        let some : (c ∷ mc) ≢ [] = λ e. cc in
        let equal : below (store_prefix (c ∷ mc)) image ≡ below (store_prefix (c ∷ mc)) earlier = λ i q. (let p = prefix_path (c ∷ mc) q some in subst (λ (r : List ℕ). image r ≡ earlier r) (sym p) (same (mc_slash ++ ((c ∷ mc) ++ 47 ∷ q)) (all_off layers disk bench sink files request told (c ∷ mc) some n more o q))) i in
        subst (HasTargets gives plan) (sym equal) own
