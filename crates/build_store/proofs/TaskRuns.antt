-- Open publications of tasks.
use Rattle.std.proofs.Common.{◌≡◌, ◌∙◌, sym, ap, subst, ℕ, List, Option, Some, arith}
use Rattle.std.specs.List.{AllByRecursion}
use Rattle.tree_model.specs.declared.entry.Entry.{Entry}
use Rattle.tree_model.specs.declared.hash.Hash.{Hash}
use Rattle.outside_traits.specs.Passes.{Passes}
use Rattle.outside_traits.specs.Story.{IsSound, Story}
use Rattle.outside_traits.proofs.Images.{held-image}
use Rattle.outside_traits.proofs.Runs.{passes_so}
use Rattle.meta_model.specs.CleanBuild.{Entries}
use Rattle.store_model.specs.declared.signature.EquivRow.{EquivRow}
use Rattle.store_model.specs.Available.{task_folder}
use Rattle.store_model.specs.Publication.{Publication}
use Rattle.store_model.specs.Readable.{IsRow}
use Rattle.store_model.specs.Signatures.{Signed}
use Rattle.store_model.specs.Spelling.{name_of, signature_bytes}
use Rattle.store_opening.specs.Paths.{IsLaidOut}
use Rattle.store_opening.specs.Sound.{IsKept}
use Rattle.build_store.specs.declared.drafting.Draft.{Draft}
use Rattle.build_store.specs.declared.pieces.OpenPublication.{OpenPublication}
use Rattle.build_store.specs.declared.pieces.Reached.{Reached}
use Rattle.build_store.specs.declared.pieces.Reached.TheVariants as reached
use Rattle.build_store.specs.Drafts.{IsDraft, IsNewFor, file_of}
use Rattle.build_store.specs.Items.{Item}
use Rattle.build_store.specs.Halves.{IsOn, Progress}
use Rattle.build_store.specs.OpenOnes.{IsFirst, IsFit, IsOnOrDone, KeepsEntries, LeadsTo, Suits, at_next, opened_by, progress_of, put_by}
use Rattle.build_store.specs.Keys.{HoldsKeyOf}
use Rattle.build_store.specs.OpenTasks.{IsOpenOf}
use Rattle.build_store.specs.Phases.{IsFileOf, put_of}
use Rattle.build_store.specs.Pieces.{IsPublishing}
use Rattle.build_store.specs.Publication.{Publishes, object_for, publication}
use Rattle.build_store.proofs.Drafted.{File, file_is, put_is}
use Rattle.build_store.proofs.Stays.{kept_after}

-- what it has reached at first suits it
first_suits : (o : OpenPublication) (now : Reached) → IsFirst now → Suits o now
first_suits o (reached.Aside k) first = tt
first_suits o (reached.Taken k) first = absurd first
first_suits o (reached.Working done) first = omega (arith, first)
first_suits o (reached.Staged k) first = absurd first
first_suits o (reached.Kept k) first = absurd first
first_suits o (reached.Stored k) first = absurd first
first_suits o (reached.Stamped k) first = absurd first

module _ (rows : List EquivRow) (s : Signed) (tree : Entries) where
  -- what it puts is the task's publication
  pub put_same : (o : OpenPublication) → IsOpenOf rows s tree o → put_by o (File rows s tree) ≡ publication rows s tree
  put_same o is = (λ i. put_of (is.folder i) (is.name i) (is.gave i) (is.object i) (file_of o.new) (File rows s tree) (is.sig i)) ∙ put_is rows s tree o.new is.new

  module _ (folder : List ℕ) (object : Option Hash) (draft : Draft) (folder_is : folder ≡ task_folder s.task) (object_is : object ≡ object_for rows s tree) (d : IsDraft rows s tree draft) (text : draft.text ≡ signature_bytes s.sig) where
    drafted_same : put_of folder draft.name tree object (file_of draft.new) (File rows s tree) draft.text ≡ publication rows s tree
    drafted_same = (λ i. put_of (folder_is i) (d.name i) tree (object_is i) (file_of draft.new) (File rows s tree) (text i)) ∙ put_is rows s tree draft.new d.new

    pub drafted_run : (a b : Story) → ((f : Entry) → Passes a b (IsPublishing (put_of folder draft.name tree object (file_of draft.new) f draft.text) a.held)) → Passes a b (IsPublishing (publication rows s tree) a.held)
    drafted_run a b run = subst (λ (p : Publication). Passes a b (IsPublishing p a.held)) drafted_same (run (File rows s tree))

    pub opened_of : (one : OpenPublication) → ((extra : List (List ℕ)) × ((now : Reached) × IsFirst now × (one ≡ opened_by folder object draft tree extra now))) → IsFit one → IsOpenOf rows s tree one
    opened_of one w fit = record {
      folder = ap (λ (o : OpenPublication). o.folder) w.1.2 ∙ folder_is;
      name = ap (λ (o : OpenPublication). o.name) w.1.2 ∙ d.name;
      sig = ap (λ (o : OpenPublication). o.sig) w.1.2 ∙ text;
      gave = ap (λ (o : OpenPublication). o.tree) w.1.2;
      unihash = ap (λ (o : OpenPublication). o.unihash) w.1.2 ∙ d.unihash;
      object = ap (λ (o : OpenPublication). o.object) w.1.2 ∙ object_is;
      new = subst (IsNewFor rows s tree) (sym (ap (λ (o : OpenPublication). o.new) w.1.2)) d.new;
      spells = d.spells;
      agrees = d.agrees;
      fit = fit;
      suits = subst (λ (o : OpenPublication). Suits o o.reached) (sym w.1.2) (first_suits (opened_by folder object draft tree w.0 w.1.0) w.1.0 w.1.1);
    }

  pub opened_on : (o : OpenPublication) → IsOpenOf rows s tree o → (a : Story) → ((f : Entry) → IsOn (put_by o f) (progress_of o) a) → IsOn (publication rows s tree) (progress_of o) a
  opened_on o is a on = subst (λ (p : Publication). IsOn p (progress_of o) a) (put_same o is) (on (File rows s tree))

-- the records of the rows stay
pub kept_still : (rows : List EquivRow) (s : Signed) (tree : Entries) → AllByRecursion IsRow rows → (a b : Story) → IsKept rows a → Passes a b (IsPublishing (publication rows s tree) a.held) → IsLaidOut b.held → IsKept rows b
kept_still rows s tree all a b was run laid = kept_after rows s tree all a b was (passes_so (Publishes (publication rows s tree)) run (λ i j w. w.own)) laid

-- ---- a step

-- what it has reached next suits it
suits_next : (o : OpenPublication) (now next : Reached) → Suits o now → LeadsTo o now (Some next) → Suits o next
suits_next o (reached.Aside j) (reached.Aside k) suits leads = tt
suits_next o (reached.Aside j) (reached.Taken k) suits leads = tt
suits_next o (reached.Aside j) (reached.Working next) suits leads = absurd leads
suits_next o (reached.Aside j) (reached.Staged k) suits leads = absurd leads
suits_next o (reached.Aside j) (reached.Kept k) suits leads = absurd leads
suits_next o (reached.Aside j) (reached.Stored k) suits leads = tt
suits_next o (reached.Aside j) (reached.Stamped k) suits leads = tt
suits_next o (reached.Taken j) (reached.Aside k) suits leads = tt
suits_next o (reached.Taken j) (reached.Taken k) suits leads = tt
suits_next o (reached.Taken j) (reached.Working next) suits leads = omega (arith, leads)
suits_next o (reached.Taken j) (reached.Staged k) suits leads = absurd leads
suits_next o (reached.Taken j) (reached.Kept k) suits leads = absurd leads
suits_next o (reached.Taken j) (reached.Stored k) suits leads = tt
suits_next o (reached.Taken j) (reached.Stamped k) suits leads = tt
suits_next o (reached.Working done) (reached.Aside k) suits leads = tt
suits_next o (reached.Working done) (reached.Taken k) suits leads = tt
suits_next o (reached.Working done) (reached.Working next) suits leads = let is = leads.1 in omega (arith, is)
suits_next o (reached.Working done) (reached.Staged k) suits leads = leads.1
suits_next o (reached.Working done) (reached.Kept k) suits leads = leads.1
suits_next o (reached.Working done) (reached.Stored k) suits leads = tt
suits_next o (reached.Working done) (reached.Stamped k) suits leads = tt
suits_next o (reached.Staged j) (reached.Aside k) suits leads = tt
suits_next o (reached.Staged j) (reached.Taken k) suits leads = tt
suits_next o (reached.Staged j) (reached.Working next) suits leads = absurd leads
suits_next o (reached.Staged j) (reached.Staged k) suits leads = absurd leads
suits_next o (reached.Staged j) (reached.Kept k) suits leads = absurd leads
suits_next o (reached.Staged j) (reached.Stored k) suits leads = tt
suits_next o (reached.Staged j) (reached.Stamped k) suits leads = tt
suits_next o (reached.Kept j) (reached.Aside k) suits leads = tt
suits_next o (reached.Kept j) (reached.Taken k) suits leads = tt
suits_next o (reached.Kept j) (reached.Working next) suits leads = absurd leads
suits_next o (reached.Kept j) (reached.Staged k) suits leads = absurd leads
suits_next o (reached.Kept j) (reached.Kept k) suits leads = absurd leads
suits_next o (reached.Kept j) (reached.Stored k) suits leads = tt
suits_next o (reached.Kept j) (reached.Stamped k) suits leads = tt
suits_next o (reached.Stored j) (reached.Aside k) suits leads = tt
suits_next o (reached.Stored j) (reached.Taken k) suits leads = tt
suits_next o (reached.Stored j) (reached.Working next) suits leads = absurd leads
suits_next o (reached.Stored j) (reached.Staged k) suits leads = absurd leads
suits_next o (reached.Stored j) (reached.Kept k) suits leads = absurd leads
suits_next o (reached.Stored j) (reached.Stored k) suits leads = tt
suits_next o (reached.Stored j) (reached.Stamped k) suits leads = tt
suits_next o (reached.Stamped j) (reached.Aside k) suits leads = tt
suits_next o (reached.Stamped j) (reached.Taken k) suits leads = tt
suits_next o (reached.Stamped j) (reached.Working next) suits leads = absurd leads
suits_next o (reached.Stamped j) (reached.Staged k) suits leads = absurd leads
suits_next o (reached.Stamped j) (reached.Kept k) suits leads = absurd leads
suits_next o (reached.Stamped j) (reached.Stored k) suits leads = tt
suits_next o (reached.Stamped j) (reached.Stamped k) suits leads = tt

pub open_next : (rows : List EquivRow) (s : Signed) (tree : Entries) (o : OpenPublication) (next : Reached) → IsOpenOf rows s tree o → LeadsTo o o.reached (Some next) → IsOpenOf rows s tree (at_next o next)
open_next rows s tree o next is leads = record {
  folder = is.folder;
  name = is.name;
  sig = is.sig;
  gave = is.gave;
  unihash = is.unihash;
  object = is.object;
  new = is.new;
  spells = is.spells;
  agrees = is.agrees;
  fit = record { folder = is.fit.folder; parts = is.fit.parts; name = is.fit.name; object = is.fit.object; is_tree = is.fit.is_tree; short = is.fit.short; few = is.fit.few };
  suits = suits_next o o.reached next is.suits leads;
}

-- a step of the publication of a task, where that of each file is open or stands
module _ (rows : List EquivRow) (s : Signed) (tree : Entries) (o : OpenPublication) (is : IsOpenOf rows s tree o) where
  pub own_on : (progress : Progress) (a : Story) → IsOn (publication rows s tree) progress a → IsOn (put_by o (File rows s tree)) progress a
  own_on progress a on = subst (λ (p : Publication). IsOn p progress a) (sym (put_same rows s tree o is)) on

  pub own_file : (a : Story) → IsSound a → IsKept rows a → HoldsKeyOf o.sig a.held → IsFileOf o.name (file_of o.new) o.sig a.held (File rows s tree)
  own_file a sound kept has =
      let file = file_is rows s tree a.held o.new is.new is.agrees (kept.stored a.held (held-image a sound)) (subst (λ (t : List ℕ). HoldsKeyOf t a.held) is.sig has) in
      subst (λ (n : Hash). IsFileOf n (file_of o.new) o.sig a.held (File rows s tree)) (sym is.name) (subst (λ (t : List ℕ). IsFileOf (name_of s.sig) (file_of o.new) t a.held (File rows s tree)) (sym is.sig) file)

  pub own_done : (next : Option Reached) (items : List Item) (a : Story) → IsOnOrDone (put_by o (File rows s tree)) items next a → IsOnOrDone (publication rows s tree) items next a
  own_done next items a done = subst (λ (p : Publication). IsOnOrDone p items next a) (put_same rows s tree o is) done

  pub own_run : (a b : Story) → Passes a b (IsPublishing (put_by o (File rows s tree)) a.held) → Passes a b (IsPublishing (publication rows s tree) a.held)
  own_run a b run = subst (λ (p : Publication). Passes a b (IsPublishing p a.held)) (put_same rows s tree o is) run

  pub own_entries : (a b : Story) → Passes a b (KeepsEntries (put_by o (File rows s tree)) a.held) → Passes a b (KeepsEntries (publication rows s tree) a.held)
  own_entries a b run = subst (λ (p : Publication). Passes a b (KeepsEntries p a.held)) (put_same rows s tree o is) run
