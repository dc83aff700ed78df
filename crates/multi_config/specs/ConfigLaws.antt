-- What is proved of a run of several configurations.
use Rattle.std.specs.Prelude.{◌≡◌, ◌≢◌, ℕ, Bool, List, [], ◌∷◌, All, Ok}
use Rattle.std.specs.List.{AllByRecursion}
use Rattle.outside_traits.specs.Bench.{Gives}
use Rattle.outside_traits.specs.Passes.{EachNow}
use Rattle.outside_traits.specs.Store.{Store}
use Rattle.outside_traits.specs.Story.{IsImageSince, moment}
use Rattle.meta_model.specs.declared.event.Status.TheVariants as status
use Rattle.meta_model.specs.declared.plan.Plan.{Plan}
use Rattle.store_model.specs.Origins.{Book, Reading}
use Rattle.store_model.specs.Readable.{IsReadable}
use Rattle.store_model.specs.Valid.{IsValid}
use Rattle.plan_model.specs.Inputs.{Files}
use Rattle.run_model.specs.Build.{HasTargets, IsCrash}
use Rattle.run_model.specs.Headline.{MayBegin}
use Rattle.answer_model.specs.declared.asked.RunRequest.{RunRequest}
use Rattle.sub_disk.specs.Sub.{IsSettledWhole, below}
use Rattle.multi_config.specs.Configs.{store_prefix}
use Rattle.multi_config.specs.Named.{IsNamed}
use Rattle.multi_config.specs.Parts.{AreParts, AreReached, PartEnd, Standing}
use Rattle.multi_config.specs.declared.parts.ConfigTargets.{ConfigTargets}
use Rattle.multi_config.specs.Words.{parts_of}

-- these parts are of configurations that have a name, another one than this
abbrev pub AreOthers : List ℕ → List PartEnd → Type 0
AreOthers mc ends = AllByRecursion (λ (e : PartEnd). (e.part.mc ≢ []) × (IsNamed e.part.mc × (e.part.mc ≢ mc))) ends

-- *The headline of each configuration, whatever the others are*: where a part ended with Ok, each of its targets' work folders below its own folder holds
-- exactly the clean output in whatever a crash leaves at the end of the whole run, however the parts behind it ended. Asked is what is asked of a run of
-- this plan alone, over what the configuration's folder held as the part was reached.
abbrev pub ConfigsAreExact : Type 0 → Type 0 → Type 0 → Type 0 → Type 0
ConfigsAreExact layers disk bench sink =
    disk → bench → (files : Files) (request : RunRequest) (one : PartEnd) (more : List PartEnd) (before now : Standing) → AreParts layers disk bench sink files request (one ∷ more) before now → IsNamed one.part.mc → AreOthers one.part.mc more
    → one.status ≡ status.Ok → (plan : Plan) → one.plans ≡ plan ∷ [] → (gives : Gives) → All (λ g. g ≡ gives) before.gives → (reading : Reading) (book : Book) → MayBegin gives reading book (below (store_prefix one.part.mc) before.story.held) plan
    → EachNow now.story (λ image. HasTargets gives plan (below (store_prefix one.part.mc) image))

-- each part is of another configuration than those before it, and only the first may be of the default one
abbrev pub AreApart : List ConfigTargets → Type 0
AreApart [] = Unit {0}
AreApart (part ∷ parts) = AllByRecursion (λ (p : ConfigTargets). (p.mc ≢ []) × (IsNamed p.mc × (p.mc ≢ part.mc))) parts × AreApart parts

-- The parts of words are apart: each configuration once, the default one first.
abbrev pub PartsAreApart : Type 0
PartsAreApart = (configs : List (List ℕ)) (default : List ℕ) (words : List (List ℕ)) (parts : List ConfigTargets) → parts_of configs default words ≡ Ok parts → AreApart parts

-- So those behind one that was reached are of others.
abbrev pub ReachedAreOthers : Type 0
ReachedAreOthers = (keep_going : Bool) (part : ConfigTargets) (parts : List ConfigTargets) (one : PartEnd) (more : List PartEnd) → AreReached keep_going (part ∷ parts) (one ∷ more) → AreApart (part ∷ parts) → AreOthers one.part.mc more

-- each of these parts is of another configuration, with a good name, and only the first may be of the default one
abbrev pub AreEndsApart : List PartEnd → Type 0
AreEndsApart [] = Unit {0}
AreEndsApart (one ∷ more) = IsNamed one.part.mc × AreOthers one.part.mc more × AreEndsApart more

-- Each part's plan may begin on what its folder holds, where the configurations have these readings and books.
abbrev pub MayAllBegin : Gives → (List ℕ → Reading) → (List ℕ → Book) → Store → List PartEnd → Type 0
MayAllBegin gives readings books held ends = AllByRecursion (λ (e : PartEnd). (plan : Plan) → e.plans ≡ plan ∷ [] → MayBegin gives (readings e.part.mc) (books e.part.mc) (below (store_prefix e.part.mc) held) plan) ends

-- *Every crash leaves each configuration a valid store, whatever the others are*: where each part's plan may begin on what its folder held as the run began,
-- a crash at any moment of the run leaves in the folder of any configuration, of one with a part or of another one, a store in which its next run may begin.
abbrev pub ConfigsCrash : Type 0 → Type 0 → Type 0 → Type 0 → Type 0
ConfigsCrash layers disk bench sink =
    disk → bench → (files : Files) (request : RunRequest) (ends : List PartEnd) (before now : Standing) → AreParts layers disk bench sink files request ends before now → AreEndsApart ends → IsSettledWhole before.story
    → (gives : Gives) → All (λ g. g ≡ gives) before.gives → (readings : List ℕ → Reading) (books : List ℕ → Book) → MayAllBegin gives readings books before.story.held ends
    → (mc : List ℕ) → IsNamed mc → IsValid gives (readings mc) (below (store_prefix mc) before.story.held) (books mc) → AllByRecursion IsReadable (books mc)
    → (image : Store) → IsImageSince now.story (moment before.story) image → IsCrash gives (readings mc) (books mc) (below (store_prefix mc) image)

-- The parts that were reached are apart where those of the words are.
abbrev pub ReachedAreApart : Type 0
ReachedAreApart = (keep_going : Bool) (parts : List ConfigTargets) (ends : List PartEnd) → AreReached keep_going parts ends → AllByRecursion (λ (p : ConfigTargets). IsNamed p.mc) parts → AreApart parts → AreEndsApart ends
