-- How tasks were there that a tale finds, restores or starts.
use Rattle.std.proofs.Common.{◌≡◌, ◌∙◌, sym, subst, ℕ, List, [], ◌∷◌, ◌++◌, None, Some}
use Rattle.std.specs.List.{slice_get}
use Rattle.std.proofs.lemmas.Option.{none-some, same_Some}
use Rattle.meta_model.specs.declared.event.Avail.{Avail}
use Rattle.meta_model.specs.declared.event.Event.{Event}
use Rattle.meta_model.specs.declared.event.Logged.{Logged}
use Rattle.meta_model.specs.declared.plan.Options.{Options}
use Rattle.meta_model.specs.declared.plan.Plan.{Plan}
use Rattle.run_core.proofs.Agreeing.{each_push}
use Rattle.store_model.specs.declared.signature.EquivRow.{EquivRow}
use Rattle.store_model.specs.Available.{IsAvailable}
use Rattle.store_model.specs.Signatures.{Signed, signatures}
use Rattle.run_model.specs.Books.{rows_after, signed_after}
use Rattle.run_model.specs.Opening.{Opening}
use Rattle.run_model.specs.Stands.{WereThere, there_by}
use Rattle.run_queue.specs.Keeps.{WasThere}
use Rattle.run_queue.specs.Seen.{Seen}

-- If the event tells how a task was there, it was there so, by its signature over the rows behind these entries.
abbrev pub WasSo : Opening → Plan → Options → List Logged → Event → Type 0
WasSo o plan options before event = (t : ℕ) (there : Avail) → there_by event ≡ Some (t, there) → (s : Signed) → signed_after o plan before t ≡ Some s → IsAvailable o.story.held (rows_after o plan before) options.setscene s there

-- an event that tells of none
pub tells_none : (o : Opening) (plan : Plan) (options : Options) (before : List Logged) (event : Event) → there_by event ≡ None → WasSo o plan options before event
tells_none o plan options before event none t there is = absurd (none-some (t, there) (sym none ∙ is))

-- an event that tells how its task was there in a run
pub tells_one : (o : Opening) (s : Seen) (event : Event) (t : ℕ) (there : Avail) → s.rows ≡ rows_after o s.plan s.tale → WasThere o s t there → there_by event ≡ Some (t, there) → WasSo o s.plan s.options s.tale event
tells_one o s event t there rows was tells u other is sg signed =
    let same : (t, there) ≡ (u, other) = same_Some (t, there) (u, other) (sym tells ∙ is) in
    let now = subst (λ (r : List EquivRow). slice_get (signatures r s.plan.tasks) t ≡ Some sg → IsAvailable o.story.held r s.options.setscene sg there) rows (was sg) in
    subst (λ (p : ℕ × Avail). signed_after o s.plan s.tale p.0 ≡ Some sg → IsAvailable o.story.held (rows_after o s.plan s.tale) s.options.setscene sg p.1) same now signed

-- behind one more entry
pub there_grows : (o : Opening) (plan : Plan) (options : Options) (tale : List Logged) (e : Logged) → WereThere o plan options tale → WasSo o plan options tale e.event → WereThere o plan options (tale ++ e ∷ [])
there_grows o plan options tale e were is k t there entry here by =
    each_push (λ before x. WasSo o plan options before x.event) tale e (λ n x at u a. were n u a x at) is k entry here t there by
