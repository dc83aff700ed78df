-- Which tasks a run touches.
use Rattle.std.proofs.Common.{◌≡◌, ◌≢◌, ◌∙◌, sym, ap, subst, refl, ℕ, zero, suc, ◌⊎◌, inl, inr, List, [], ◌∷◌, ◌++◌, length, map, replicate, set, take, Some}
use Rattle.std.specs.Prelude.{Option, fold}
use Rattle.std.specs.List.{slice_get}
use Rattle.meta_model.specs.declared.event.Avail.{Avail}
use Rattle.meta_model.specs.declared.event.Cut.{Cut}
use Rattle.meta_model.specs.declared.event.Cut.TheVariants as cuts
use Rattle.meta_model.specs.declared.event.Event.{Event}
use Rattle.meta_model.specs.declared.event.Event.TheVariants as events
use Rattle.meta_model.specs.declared.event.Logged.{Logged}
use Rattle.tale_model.specs.declared.fate.Fate.{Fate}
use Rattle.tale_model.specs.declared.fate.Fate.TheVariants as fate
use Rattle.meta_model.specs.declared.plan.Plan.{Plan}
use Rattle.meta_model.specs.CleanBuild.{Gives}
use Rattle.outside_traits.specs.Store.{Store}
use Rattle.store_model.specs.Origins.{Book, Line, rows_of}
use Rattle.tale_model.specs.Fates.{fate_at, fate_by, fates_by, fates_told, task_of}
use Rattle.run_model.specs.Opening.{Opening}
use Rattle.run_model.specs.Own.{IsAside, IsObjectOfNone, IsUnihashOver}
use Rattle.run_queue.specs.Seen.{IsBegunIn}
use Rattle.run_queue.specs.Stands.{IsLeft, IsPublishing, IsReadAfter}
use Rattle.run_model.specs.Books.{book_after}
use Rattle.run_model.specs.Stands.{HasBroken, HasFinished, HasStarted, IsPlaced}
use Rattle.run_queue.proofs.Recorded.{front_again}

-- ---- a running task was started

set_was : (fates : List Fate) (t u : ℕ) (f g : Fate) → fate_at (set fates u f) t ≡ g → (fate_at fates t ≡ g) ⊎ ((u ≡ t) × (f ≡ g))
set_was [] t u f g e = inl e
set_was (x ∷ xs) zero zero f g e = inr (refl, e)
set_was (x ∷ xs) (suc t) zero f g e = inl e
set_was (x ∷ xs) zero (suc u) f g e = inl e
set_was (x ∷ xs) (suc t) (suc u) f g e = elim (set_was xs t u f g e) [
  | inl was ↦ inl was
  | inr now ↦ inr (ap suc now.0, now.1)
]

-- an event by which a task runs starts it
pub starts_by : (event : Event) (seat : ℕ) → fate_by event ≡ fate.Running seat → event ≡ events.Started (task_of event) seat
starts_by (events.Found t) seat e = absurd (let n : fate.Found ≡ fate.Running seat = e in cc)
starts_by (events.Restored t) seat e = absurd (let n : fate.Restored ≡ fate.Running seat = e in cc)
starts_by (events.Started t s) seat e = let n : fate.Running s ≡ fate.Running seat = e in let same : s ≡ seat = cc in ap (events.Started t) same
starts_by (events.Ended t) seat e = absurd (let n : fate.Ended ≡ fate.Running seat = e in cc)
starts_by (events.Failed t w) seat e = absurd (let n : fate.Failed ≡ fate.Running seat = e in cc)
starts_by (events.Broke t c) seat e = absurd (let n : fate.Waiting ≡ fate.Running seat = e in cc)

folded_started : (tale : List Logged) (fates : List Fate) (t seat : ℕ) → fate_at (fold fates_by fates (map (λ (e : Logged). e.event) tale)) t ≡ fate.Running seat → (fate_at fates t ≡ fate.Running seat) ⊎ HasStarted tale t
folded_started [] fates t seat e = inl e
folded_started (x ∷ tale) fates t seat e = elim (folded_started tale (fates_by fates x.event) t seat e) [
  | inl now ↦ elim (set_was fates t (task_of x.event) (fate_by x.event) (fate.Running seat) now) [
    | inl was ↦ inl was
    | inr here ↦ inr (record { place = zero; entry = x; is_entry = refl; seat = seat; starts = starts_by x.event seat here.1 ∙ ap (λ n. events.Started n seat) here.0 })
  ]
  | inr later ↦ inr (record { place = suc later.place; entry = later.entry; is_entry = later.is_entry; seat = later.seat; starts = later.starts })
]

pub none_runs : (count t seat : ℕ) → fate_at (replicate count fate.Waiting) t ≡ fate.Running seat → ⊥
none_runs zero t seat e = let n : fate.Waiting ≡ fate.Running seat = e in absurd (cc)
none_runs (suc count) zero seat e = let n : fate.Waiting ≡ fate.Running seat = e in absurd (cc)
none_runs (suc count) (suc t) seat e = none_runs count t seat e

pub running_started : (count : ℕ) (tale : List Logged) (t seat : ℕ) → fate_at (fates_told count tale) t ≡ fate.Running seat → HasStarted tale t
running_started count tale t seat e = elim (folded_started tale (replicate count fate.Waiting) t seat e) [
  | inl first ↦ absurd (none_runs count t seat first)
  | inr started ↦ started
]

-- ---- behind one more entry

front_get : (xs : List Logged) (k : ℕ) (x y : Logged) → slice_get xs k ≡ Some x → slice_get (xs ++ y ∷ []) k ≡ Some x
front_get [] k x y e = absurd (cc)
front_get (z ∷ xs) zero x y e = e
front_get (z ∷ xs) (suc k) x y e = front_get xs k x y e

started_on : (tale : List Logged) (e : Logged) (t : ℕ) → HasStarted tale t → HasStarted (tale ++ e ∷ []) t
started_on tale e t s = record { place = s.place; entry = s.entry; is_entry = front_get tale s.place s.entry e s.is_entry; seat = s.seat; starts = s.starts }

pub placed_on : (tale : List Logged) (e : Logged) (t : ℕ) → IsPlaced tale t → IsPlaced (tale ++ e ∷ []) t
placed_on tale e t (inl f) = inl (record { place = f.place; entry = f.entry; is_entry = front_get tale f.place f.entry e f.is_entry; ends = f.ends })
placed_on tale e t (inr r) = inr (record { place = r.place; entry = r.entry; is_entry = front_get tale r.place r.entry e r.is_entry; restores = r.restores })

last_get : (xs : List Logged) (e : Logged) → slice_get (xs ++ e ∷ []) (length xs) ≡ Some e
last_get [] e = refl
last_get (x ∷ xs) e = last_get xs e

pub broken_on : (tale : List Logged) (e : Logged) (t : ℕ) → HasBroken tale t → HasBroken (tale ++ e ∷ []) t
broken_on tale e t b = record { place = b.place; entry = b.entry; is_entry = front_get tale b.place b.entry e b.is_entry; cut = b.cut; breaks = b.breaks; not_bench = b.not_bench }

-- a task that the last entry breaks off
pub broken_last : (tale : List Logged) (e : Logged) (t : ℕ) (cut : Cut) → e.event ≡ events.Broke t cut → cut ≢ cuts.Bench → HasBroken (tale ++ e ∷ []) t
broken_last tale e t cut is other = record { place = length tale; entry = e; is_entry = last_get tale e; cut = cut; breaks = is; not_bench = other }

-- a task that ended by the last entry
pub finished_last : (tale : List Logged) (e : Logged) (t : ℕ) → e.event ≡ events.Ended t → HasFinished (tale ++ e ∷ []) t
finished_last tale e t is = record { place = length tale; entry = e; is_entry = last_get tale e; ends = is }

-- a task that the last entry restores
pub restored_last : (tale : List Logged) (e : Logged) (t : ℕ) → e.event ≡ events.Restored t → IsPlaced (tale ++ e ∷ []) t
restored_last tale e t is = inr (record { place = length tale; entry = e; is_entry = last_get tale e; restores = is })

-- ---- what a crash left

-- a path that is aside of more is aside of fewer
aside_less : (held : Store) (plan : Plan) (touched more published others : ℕ → Type 0) (q : List ℕ) → ((t : ℕ) → touched t → more t) → ((t : ℕ) → published t → others t) → IsAside held plan more others q → IsAside held plan touched published q
aside_less held plan touched more published others q a b is = record {
  temporary = is.temporary;
  folder = λ t task at was. is.folder t task at (a t was);
  above = λ t task at was. is.above t task at (a t was);
  output = λ t was. is.output t (b t was);
}

-- a line whose object none of more tasks put over more fronts is one whose object none of fewer put
pub none_less : (gives : Gives) (plan : Plan) (book : Book) (tale longer : List Logged) (published more : ℕ → Type 0) (line : Line) → ((t : ℕ) → published t → more t) → ((k : ℕ) → (j : ℕ) × (take j longer ≡ take k tale)) → IsObjectOfNone gives plan book longer more line → IsObjectOfNone gives plan book tale published line
none_less gives plan book tale longer published more line also fronts none t task at was pn name k over =
    let f = fronts k in
    none t task at (also t was) pn name f.0 (subst (λ (l : List Logged). IsUnihashOver gives plan (rows_of (book_after gives plan book l)) t line.unihash) (sym f.1) over)

-- what a crash left is so by more that is begun, and by a longer tale
left_more : (o : Opening) (plan : Plan) (begun more : List (Option Avail)) (tale longer : List Logged) (image : Store) → ((t : ℕ) → IsBegunIn begun t → IsBegunIn more t) → ((t : ℕ) → HasStarted tale t → HasStarted longer t) → ((k : ℕ) → (j : ℕ) × (take j longer ≡ take k tale))
    → IsLeft o plan begun tale image → IsLeft o plan more longer image
left_more o plan begun more tale longer image also starts fronts left = record {
  count = (fronts left.count).0;
  after = subst (λ (l : List Logged). IsReadAfter o plan l image) (sym (fronts left.count).1) left.after;
  honest = left.honest;
  others = λ t task at none. left.others t task at (λ b. none (also t b));
  paths = λ q aside clear. left.paths q (aside_less o.story.held plan (IsBegunIn begun) (IsBegunIn more) (IsPublishing begun tale) (IsPublishing more longer) q also publishes aside) clear;
  objects = λ line has none. left.objects line has (none_less o.gives plan o.book tale longer (IsPublishing begun tale) (IsPublishing more longer) line publishes fronts none);
  folders = left.folders;
}
  where
    publishes : (t : ℕ) → IsPublishing begun tale t → IsPublishing more longer t
    publishes t b = (also t b.0, starts t b.1)

-- by more that is begun
pub left_besides : (o : Opening) (plan : Plan) (begun more : List (Option Avail)) (tale : List Logged) (image : Store) → ((t : ℕ) → IsBegunIn begun t → IsBegunIn more t) → IsLeft o plan begun tale image → IsLeft o plan more tale image
left_besides o plan begun more tale image also = left_more o plan begun more tale tale image also (λ t starts. starts) (λ k. (k, refl))

-- behind one more entry
pub left_behind : (o : Opening) (plan : Plan) (begun : List (Option Avail)) (tale : List Logged) (e : Logged) (image : Store) → IsLeft o plan begun tale image → IsLeft o plan begun (tale ++ e ∷ []) image
left_behind o plan begun tale e image = left_more o plan begun begun tale (tale ++ e ∷ []) image (λ t b. b) (started_on tale e) (λ k. front_again k tale (e ∷ []))
