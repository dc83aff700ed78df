-- What is kept of a run over the plan of its words.
use Rattle.std.proofs.Common.{◌≡◌, ◌∙◌, ap, sym, subst, ℕ, false, List, [], ◌∷◌, ◌++◌}
use Rattle.std.specs.Prelude.{◌≢◌, All}
use Rattle.std.proofs.lemmas.List.{append-nil}
use Rattle.std.specs.List.{AllByRecursion}
use Rattle.std.proofs.lemmas.List.Elements.{All-cons, All-nil}
use Rattle.outside_traits.specs.Store.{Store}
use Rattle.outside_traits.specs.Story.{IsFresh, IsImageSince, LeftSince, Story}
use Rattle.meta_model.specs.declared.event.Logged.{Logged}
use Rattle.meta_model.specs.declared.event.Status.{Status}
use Rattle.meta_model.specs.declared.event.Status.TheVariants as status
use Rattle.meta_model.specs.declared.plan.Options.{Options}
use Rattle.meta_model.specs.declared.plan.Plan.{Plan}
use Rattle.meta_model.specs.CleanBuild.{Gives}
use Rattle.plan_model.specs.Sound.{IsSound}
use Rattle.plan_model.specs.Spellings.{HasSpellings}
use Rattle.store_model.specs.Origins.{Book, Reading}
use Rattle.store_model.specs.Valid.{IsValid}
use Rattle.store_model.proofs.Lasting.{empty_is_valid}
use Rattle.store_model.specs.Readable.{IsReadable}
use Rattle.run_model.specs.Runs.{Runs}
use Rattle.run_model.specs.Benches.{AtSeats, BreaksByFault}
use Rattle.run_model.specs.Seated.{HaveBenches}
use Rattle.run_model.specs.Build.{IsCrash, is_unsteady}
use Rattle.build_resume.specs.Build.{IsEntry, Leaves}
use Rattle.run_model.specs.Headline.{BeginsAgain, BeginsFirst, Keeps, MayBegin}

pub begins_first : BeginsFirst
begins_first gives reading plan may = record {
  valid = empty_is_valid gives reading;
  readable = tt;
  may = may;
}

pub begins_again : BeginsAgain
begins_again gives reading book image crash plan may = record { valid = crash.valid; readable = crash.readable; may = may }

-- a sound plan whose signatures fit a program enters a run where it may begin
pub as_entry : (gives : Gives) (reading : Reading) (book : Book) (held : Store) (plan : Plan) → IsSound plan → HasSpellings plan → MayBegin gives reading book held plan → IsEntry gives reading book held plan
as_entry gives reading book held plan sound spellings may = record {
  sound = sound;
  valid = may.valid;
  readable = may.readable;
  may = may.may;
  spellings = spellings;
}

-- what a crash leaves of a disk that wasn't touched
untouched : (story : Story) → IsFresh story → (image : Store) → IsImageSince story 0 image → image ≡ story.held
untouched story fresh image since = let h : LeftSince story.held [] 0 image = subst (λ (l : List Rattle.outside_traits.specs.declared.call.Call.Call). LeftSince story.held l 0 image) fresh since in h.1

held_crash : (gives : Gives) (reading : Reading) (book : Book) (held : Store) (plan : Plan) → MayBegin gives reading book held plan → IsCrash gives reading book held
held_crash gives reading book held plan may = record {
  again = book;
  same = record { whole = λ before line stands. (before, stands); only = λ before line stands. (before, stands) };
  lines = [];
  valid = subst (IsValid gives reading held) (sym (append-nil book)) may.valid;
  readable = subst (AllByRecursion IsReadable) (sym (append-nil book)) may.readable;
}

-- a call that began no run keeps what is promised of one
pub unbegun_keeps : (gives : Gives) (reading : Reading) (book : Book) (plan : Plan) (options : Options) (tales : List (List Logged)) (s : Status) (old story : Story) (before now : List Runs)
    → IsFresh old → MayBegin gives reading book old.held plan → s ≢ status.Ok → is_unsteady s ≡ false → tales ≡ [] → story ≡ old → now ≡ before → Keeps gives reading book old.held plan options tales s story before now
unbegun_keeps gives reading book plan options tales s old story before now fresh may failed steady none same same_runs =
    subst (λ (l : List (List Logged)). Keeps gives reading book old.held plan options l s story before now) (sym none) (record {
      exact = λ ok. absurd (failed ok);
      crashes = λ image since.
          let still : image ≡ old.held = untouched old fresh image (subst (λ (x : Story). IsImageSince x 0 image) same since) in
          subst (IsCrash gives reading book) (sym still) (held_crash gives reading book old.held plan may);
      legal = All-nil _;
      real = All-nil _;
      all_told = λ wanted is going. All-nil _;
      others = All-nil _;
      steady = steady;
      ran = same_runs;
    })

-- what is promised of a run that was begun
pub begun_keeps : (gives : Gives) (reading : Reading) (book : Book) (held : Store) (plan : Plan) (options : Options) (tales : List (List Logged)) (tale : List Logged) (s : Status) (story : Story) (before now : List Runs)
    → tales ≡ tale ∷ [] → Leaves gives reading book held plan options tale s story before now → Keeps gives reading book held plan options tales s story before now
begun_keeps gives reading book held plan options tales tale s story before now one kept =
    subst (λ (l : List (List Logged)). Keeps gives reading book held plan options l s story before now) (sym one) kept.keeps

-- what holds of the one tale
pub begun_each : (P : List Logged → Type 0) (tales : List (List Logged)) (tale : List Logged) → tales ≡ tale ∷ [] → P tale → All P tales
begun_each P tales tale one holds = subst (All P) (sym one) (All-cons P tale [] holds (All-nil _))

-- without a tale there is none of which a task broke off without a cause, nor one with an entry of a seat without a bench
pub unbegun_broke : (tales : List (List Logged)) (before now : List ℕ) → tales ≡ [] → All (λ x. AtSeats (BreaksByFault x) before now) tales
unbegun_broke tales before now none = subst (All (λ x. AtSeats (BreaksByFault x) before now)) (sym none) (All-nil _)

pub unbegun_benches : (n : ℕ) (tales : List (List Logged)) → tales ≡ [] → All (HaveBenches n) tales
unbegun_benches n tales none = subst (All (HaveBenches n)) (sym none) (All-nil _)

-- the list of one behind none
pub one_behind : {A : Type 0} (old new : List A) (x : A) → old ≡ [] → new ≡ old ++ x ∷ [] → new ≡ x ∷ []
one_behind old new x none is = is ∙ ap (λ (l : List _). l ++ x ∷ []) none

-- what is promised of a run of one plan is promised of the same plan
pub at_plan : (gives : Gives) (reading : Reading) (book : Book) (held : Store) (options : Options) (tales : List (List Logged)) (s : Status) (story : Story) (before now : List Runs) (one other : Plan) → one ≡ other
    → (MayBegin gives reading book held one → Keeps gives reading book held one options tales s story before now) → MayBegin gives reading book held other → Keeps gives reading book held other options tales s story before now
at_plan gives reading book held options tales s story before now one other same keeps =
    subst (λ (p : Plan). MayBegin gives reading book held p → Keeps gives reading book held p options tales s story before now) same keeps
