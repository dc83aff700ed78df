-- What is worked out on the way to the text.
use Rattle.std.specs.Prelude.{◌≡◌, ◌≢◌, ◌⊎◌, ℕ, Bool, true, false, List, [], ◌++◌, Option, Some, None, Contains, length, slice_get}
use Rattle.outside_traits.specs.Store.{Store}
use Rattle.tale_model.specs.Need.{IsIn, IsNeed}
use Rattle.meta_model.specs.declared.event.Avail.{Avail}
use Rattle.meta_model.specs.declared.plan.Plan.{Plan}
use Rattle.meta_model.specs.declared.plan.PlanTask.{PlanTask}
use Rattle.store_model.specs.declared.signature.EquivRow.{EquivRow}
use Rattle.store_model.specs.declared.signature.SigRecord.{SigRecord}
use Rattle.store_model.specs.Signatures.{Signed, signatures}
use Rattle.tree_model.specs.declared.hash.Hash.{Hash}
use Rattle.sig_gen.specs.Sound.{Spells}
use Rattle.setscene_plan.specs.Names.{unihashes_over}
use Rattle.why_model.specs.declared.fate.Cause.{Cause}
use Rattle.why_model.specs.declared.fate.Fate.{Fate}
use Rattle.why_model.specs.declared.fate.Fate.TheVariants as fate
use Rattle.why_model.specs.declared.fate.Cause.TheVariants as cause
use Rattle.why_model.specs.Differing.{differing}
use Rattle.why_model.specs.Fates.{HasNoEarlier, IsCause, IsEarlier, IsFate, Told}
use Rattle.why_model.specs.Seen.{narrowed, seen_over}
use Rattle.why_model.specs.Why.{AreLines, IsLine}

-- what is read of a text: the signature that it spells, or that it spells none
abbrev pub IsRead : List ℕ → Option SigRecord → Type 0
IsRead text None = (was : SigRecord) → Spells text was → ⊥
IsRead text (Some was) = Spells text was

-- the signature to which a task's stamp leads, or that it leads to none
abbrev pub IsEarlierOf : Store → List EquivRow → PlanTask → Option SigRecord → Type 0
IsEarlierOf held rows of None = HasNoEarlier held rows of
IsEarlierOf held rows of (Some was) = IsEarlier held rows of was

-- Why a task would run that doesn't run in each run, by its signature and the one that its stamp leads to.
abbrev pub IsCauseBy : SigRecord → SigRecord → Cause → Type 0
IsCauseBy sig was cause.Forced = ⊥
IsCauseBy sig was cause.Always = ⊥
IsCauseBy sig was cause.New = ⊥
IsCauseBy sig was cause.Gone = differing sig was ≡ []
IsCauseBy sig was (cause.Differs names) = (names ≡ differing sig was) × (names ≢ [])

-- ... by what its stamp leads to
abbrev pub IsChangedCause : Store → List EquivRow → PlanTask → SigRecord → Cause → Type 0
IsChangedCause held rows of sig why = (HasNoEarlier held rows of × (why ≡ cause.New)) ⊎ ((was : SigRecord) × IsEarlier held rows of was × IsCauseBy sig was why)

-- just the targets are marked where the option `-f` is given, and nothing is where it isn't
pub record AreMarked (force : Bool) (plan : Plan) (marks : List Bool) : Type 0 where
  pub long : length marks ≡ length plan.tasks
  pub marked : (n : ℕ) → IsIn marks n → (force ≡ true) × Contains plan.targets n
  pub whole : (n : ℕ) → force ≡ true → Contains plan.targets n → IsIn marks n

-- what is told of a plan over rows
abbrev pub told_of : Store → List EquivRow → Plan → List Avail → List Bool → Bool → Told
told_of held rows plan there certain force = record { held = held; rows = rows; plan = plan; avail = there; seen = seen_over rows plan.tasks; certain = certain; force = force }

-- what is known of a plan's tasks: lists with an item for each of them
pub record AreKnown (rows : List EquivRow) (plan : Plan) (force : Bool) (unihashes : List Hash) (there : List Avail) (seen certain forced : List Bool) : Type 0 where
  pub over : unihashes ≡ unihashes_over rows plan.tasks
  pub wide : length unihashes ≡ length plan.tasks
  pub there_long : length there ≡ length plan.tasks
  pub seen_is : seen ≡ seen_over rows plan.tasks
  pub certain_long : length certain ≡ length plan.tasks
  pub forced_are : AreMarked force plan forced

-- why the task of a number would run
abbrev pub IsCauseAt : Told → ℕ → Cause → Type 0
IsCauseAt told n why = (s : Signed) → slice_get (signatures told.rows told.plan.tasks) n ≡ Some s → IsCause told n s why

-- what a run would do with a task whose object is there, which it needs in any case, or maybe
abbrev pub IsObjectFate : Bool → Fate → Type 0
IsObjectFate true what = what ≡ fate.Restored
IsObjectFate false what = what ≡ fate.MayRestore

-- what a run would do with the task of a number
abbrev pub IsFateAt : Told → ℕ → Fate → Type 0
IsFateAt told n what = (s : Signed) → slice_get (signatures told.rows told.plan.tasks) n ≡ Some s → IsFate told n s what

-- a line of the task of a number was put at the end
pub record PutsLine (told : Told) (need : List Bool) (n : ℕ) (old new : List ℕ) : Type 0 where
  pub line : List ℕ
  pub is_line : IsLine told need n line
  pub is : new ≡ old ++ line

-- what is told of a plan over rows, by how outputs are there and which tasks are needed
pub record AreTold (held : Store) (rows : List EquivRow) (plan : Plan) (there : List Avail) (need : List Bool) (force : Bool) (text : List ℕ) : Type 0 where
  pub certain : List Bool
  pub is_certain : IsNeed (narrowed (seen_over rows plan.tasks) plan) there certain
  pub lines : AreLines (IsLine (told_of held rows plan there certain force) need) (length plan.tasks) text
