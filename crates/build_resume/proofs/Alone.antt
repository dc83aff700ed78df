-- What a run leaves alone.
use Rattle.std.proofs.Common.{◌≡◌, ◌∙◌, sym, ap, subst, refl, ℕ, arith, false, List, [], ◌∷◌, Some, None, inl, inr}
use Rattle.std.specs.Prelude.{◌≢◌, IsSome, Option, codes}
use Rattle.std.specs.List.{slice_get}
use Rattle.std.proofs.lemmas.Bool.{false≢true}
use Rattle.tree_model.specs.declared.hash.Hash.{Hash}
use Rattle.tree_model.specs.Path.{IsAtOrBelow}
use Rattle.outside_traits.specs.Passes.{Passes}
use Rattle.outside_traits.specs.Store.{Store}
use Rattle.outside_traits.specs.Story.{IsFresh, IsImageSince, Story}
use Rattle.outside_traits.proofs.Folders.{under_same}
use Rattle.outside_traits.proofs.Images.{now-since}
use Rattle.meta_model.specs.declared.event.Avail.TheVariants.{Object}
use Rattle.meta_model.specs.declared.event.Logged.{Logged}
use Rattle.meta_model.specs.declared.event.Status.{Status}
use Rattle.meta_model.specs.declared.plan.Options.{Options}
use Rattle.meta_model.specs.declared.plan.Plan.{Plan}
use Rattle.meta_model.specs.declared.plan.PlanTask.{PlanTask}
use Rattle.meta_model.specs.CleanBuild.{Gives}
use Rattle.meta_model.proofs.Bools.{either_way}
use Rattle.store_model.specs.declared.signature.EquivRow.{EquivRow}
use Rattle.store_model.specs.Available.{IsAvailable, object_folder, stamp_path, work_folder}
use Rattle.store_model.specs.Origins.{Book, Line, rows_of}
use Rattle.store_model.specs.Signatures.{signatures}
use Rattle.store_opening.specs.Opening.{Clears}
use Rattle.store_model.specs.Opened.{IsElsewhere, IsLeft, IsOpened}
use Rattle.outside_traits.specs.Store.{slashes}
use Rattle.store_model.specs.Lines.{HaveSameLines}
use Rattle.store_opening.proofs.Areas.{differ, heads_differ}
use Rattle.store_opening.proofs.Doomed.{no_slash}
use Rattle.store_opening.proofs.StillThere.{opened_stays}
use Rattle.run_model.specs.Books.{book_after}
use Rattle.run_queue.specs.declared.fault.RunFault.{RunFault}
use Rattle.run_queue.specs.Keeps.{WasThere}
use Rattle.run_model.specs.Opening.{Opening}
use Rattle.run_model.specs.Own.{IsAside, IsObjectOfNone}
use Rattle.run_queue.specs.Seen.{IsBegunIn}
use Rattle.run_queue.specs.Stands.{IsAsBegun, IsClearOfStamps, IsPublishing}
use Rattle.run_queue.proofs.Meanwhile.{told_at_end}
use Rattle.run_queue.proofs.OwnNames.{signed_task_at}
use Rattle.run_queue.proofs.Placing.{has_place}
use Rattle.run_queue.proofs.Touched.{none_less}
use Rattle.run_model.specs.Build.{HadObject, IsLeftAlone, LeavesOthers, MayPublish, MayTouch}
use Rattle.run_model.specs.Ends.{is_faultless}
use Rattle.run_model.specs.Seats.{BreaksLast}
use Rattle.build_resume.specs.Outcome.{KeptTo}
use Rattle.build_resume.proofs.BrokenOff.{broke_last}
use Rattle.build_resume.proofs.Outcomes.{fresh_image}

-- ---- work folders and objects stand apart from records, stamps and temporary files

letter : (c : ℕ) (ps : List ℕ) → c ≢ 114 → c ≢ 107 → c ≢ 115 → c ≢ 116 → c ∷ ps ≢ codes "obj" → IsElsewhere (c ∷ ps)
letter c ps nr nk ns nt apart = record {
  records = λ at. elim at [ inl same ↦ heads_differ nr same | inr below ↦ heads_differ nr below.1 ];
  keys = λ at. elim at [ inl same ↦ heads_differ nk same | inr below ↦ heads_differ nk below.1 ];
  stamps = λ at. elim at [ inl same ↦ heads_differ ns same | inr below ↦ heads_differ ns below.1 ];
  temporary = λ at. elim at [ inl same ↦ heads_differ nt same | inr below ↦ heads_differ nt below.1 ];
  objects = apart;
}

at_work : (ps : List ℕ) → IsElsewhere (119 ∷ ps)
at_work ps = letter 119 ps (differ 119 114 refl) (differ 119 107 refl) (differ 119 115 refl) (differ 119 116 refl) (heads_differ (differ 119 111 refl))

below_objects : (ps : List ℕ) → IsElsewhere (111 ∷ 98 ∷ 106 ∷ 47 ∷ ps)
below_objects ps = letter 111 (98 ∷ 106 ∷ 47 ∷ ps) (differ 111 114 refl) (differ 111 107 refl) (differ 111 115 refl) (differ 111 116 refl) (λ same. let e : 111 ∷ 98 ∷ 106 ∷ 47 ∷ ps ≡ 111 ∷ 98 ∷ 106 ∷ [] = same in cc)

work_elsewhere : (of : PlanTask) (q : List ℕ) → IsAtOrBelow (work_folder of) q → IsElsewhere q
work_elsewhere of q (inl same) = subst IsElsewhere (sym same) (at_work _)
work_elsewhere of q (inr below) = subst IsElsewhere (sym below.1) (at_work _)

object_elsewhere : (unihash : Hash) (q : List ℕ) → IsAtOrBelow (object_folder unihash) q → IsElsewhere q
object_elsewhere unihash q (inl same) = subst IsElsewhere (sym same) (below_objects _)
object_elsewhere unihash q (inr below) = subst IsElsewhere (sym below.1) (below_objects _)

-- ---- while the store is opened

pub same_lines : (book : Book) → HaveSameLines book book
same_lines book = record { whole = λ behind line stands. (behind, stands); only = λ behind line stands. (behind, stands) }

cleared_alone : (book : Book) (held image : Store) (of : PlanTask) → Clears held held image → IsLeftAlone book held image of
cleared_alone book held image of clears = record {
  work = λ q below. clears.left q (inl (work_elsewhere of q below));
  objects = λ line has pn name q below. clears.left q (inl (object_elsewhere line.unihash q below));
  stamp = λ left. clears.left (stamp_path of) left;
}

-- what opening a store leaves alone is as it was in whatever a crash left meanwhile
pub opening_clears : (before after : Story) (image : Store) → IsFresh before → Passes before after (Clears before.held) → IsImageSince after 0 image → Clears before.held before.held image
opening_clears before after image fresh p since = elim (p.since 0 image (omega arith) since) [
  | inl early ↦ record { left = λ q left. ap (λ (i : Store). i q) (fresh_image before image fresh early) }
  | inr e ↦ subst (λ (i : Store). Clears before.held i image) (fresh_image before e.0 fresh (now-since before 0 e.0 (omega arith) e.1)) e.2
]

pub opened_alone : (gives : Gives) (book : Book) (before after : Story) (plan : Plan) (options : Options) (tale : List Logged) (s : Status) → IsFresh before → Passes before after (Clears before.held) → LeavesOthers gives book before.held plan options tale s after
opened_alone gives book before after plan options tale s fresh p = record {
  again = book;
  same = same_lines book;
  restored = [];
  few = omega arith;
  others = λ image since t task at untouched. cleared_alone book before.held image task (opening_clears before after image fresh p since);
  objects = λ image since line has none q below. (opening_clears before after image fresh p since).left q (inl (object_elsewhere line.unihash q below));
  paths = λ image since q left aside. (opening_clears before after image fresh p since).left q left;
}

-- ---- while the run goes on

module _ (o : Opening) (book : Book) (before : Store) (rows : List EquivRow) (opened : IsOpened before o.story.held rows) (same : HaveSameLines book o.book) (plan : Plan) (options : Options) (tale : List Logged) (s : Status) (story : Story) (k : KeptTo o plan options tale s story) (left : BreaksLast k.last.tale) where
  abbrev Touched : ℕ → Type 0
  Touched = MayTouch o.gives o.book before k.last.plan k.last.options k.last.tale s k.last.restoring

  abbrev Published : ℕ → Type 0
  Published = MayPublish o.gives o.book before k.last.plan k.last.options k.last.tale s k.last.restoring

  -- a fault is kept only under the status of one
  faulty : IsSome k.last.fault → is_faultless s ≡ false
  faulty some = elim (either_way (is_faultless s)) [
    | inl t ↦ absurd (none_some k.last.fault (k.faultless t) some)
    | inr f ↦ f
  ]
    where
      none_some : (f : Option RunFault) → f ≡ None → IsSome f → ⊥
      none_some None e is = false≢true is
      none_some (Some f) e is = let n : Some f ≡ None = e in cc

  -- what was there as an object in the opened store was so before, unless something stood at `obj`
  had_object : (t : ℕ) → WasThere o k.last t Object → HadObject o.gives o.book before k.last.plan k.last.options k.last.tale t
  had_object t was sg is =
      let Rows : List EquivRow = rows_of (book_after o.gives k.last.plan o.book k.last.tale) in
      let object = subst (λ (r : List EquivRow). slice_get (signatures r k.last.plan.tasks) t ≡ Some sg → IsAvailable o.story.held r k.last.options.setscene sg Object) k.run.rows (was sg) is in
      let place = has_place k.last.plan t sg.task k.run.may.sound (signed_task_at Rows k.last.plan.tasks t sg is) in
      let stays = opened_stays before o.story.held rows opened Rows k.last.options.setscene sg place in
      (λ work. object.0 (stays.work work), λ none. stays.no_more_objects none object.1)

  -- the run may have touched what was begun
  touched : (t : ℕ) → IsBegunIn k.last.begun t → Touched t
  touched t b = elim (told_at_end o k.last t k.none k.hands (k.run.told t b)) [
    | inl up ↦ inl up
    | inr it ↦ inr (record { faulty = faulty it.0; begun = elim it.1 [ inl broken ↦ inl (broke_last k.last.tale t left broken) | inr was ↦ inr (was.0, had_object t was.1) ] })
  ]

  -- and it may have published what it began to publish
  published : (t : ℕ) → IsPublishing k.last.begun k.last.tale t → Published t
  published t b = (touched t b.0, b.1)

  none_published : (line : Line) → IsObjectOfNone o.gives k.last.plan o.book k.last.tale Published line → IsObjectOfNone o.gives k.last.plan o.book k.last.tale (IsPublishing k.last.begun k.last.tale) line
  none_published line = none_less o.gives k.last.plan o.book k.last.tale k.last.tale (IsPublishing k.last.begun k.last.tale) Published line published (λ n. (n, refl))

  begun_alone : (image : Store) (of : PlanTask) → IsAsBegun o.book o.story.held image of → IsLeftAlone book before image of
  begun_alone image of was = record {
    work = λ q below. was.work q below ∙ opened.left q (inl (work_elsewhere of q below));
    objects = λ line has pn name q below. was.objects line (same.whole has.0 line has.1) pn name q below ∙ opened.left q (inl (object_elsewhere line.unihash q below));
    stamp = λ left. was.stamp ∙ opened.left (stamp_path of) left;
  }

  -- what is aside of what may have been touched is aside of what was begun
  begun_aside : (q : List ℕ) → IsAside before k.last.plan Touched Published q → IsAside o.story.held k.last.plan (IsBegunIn k.last.begun) (IsPublishing k.last.begun k.last.tale) q
  begun_aside q is = record {
    temporary = is.temporary;
    folder = λ t task at b. is.folder t task at (touched t b);
    above = λ t task at b up. let none = is.above t task at (touched t b) up in opened.left q (inr (inr (inr (inr none)))) ∙ none;
    output = λ t b shared. let at = is.output t (published t b) shared in (at.0, opened.left q (inr (inr (inr (inr at.1)))) ∙ at.1);
  }

  -- what opening leaves alone isn't in the way of stamps
  clear_of_stamps : (q : List ℕ) → IsLeft before q → IsClearOfStamps o.story.held q
  clear_of_stamps q (inl e) = record { top = λ same. absurd (e.stamps (inl same)); under = λ path is. absurd (e.stamps (inr (path, is))) }
  clear_of_stamps q (inr (inl r)) = record { top = λ same. absurd (heads_differ (differ 115 114 refl) (sym same ∙ r.2)); under = λ path is. absurd (heads_differ (differ 115 114 refl) (sym is ∙ r.2)) }
  clear_of_stamps q (inr (inr (inl k))) = record { top = λ same. absurd (heads_differ (differ 115 107 refl) (sym same ∙ k.2)); under = λ path is. absurd (heads_differ (differ 115 107 refl) (sym is ∙ k.2)) }
  clear_of_stamps q (inr (inr (inr (inl t)))) = record {
    top = λ same. absurd (no_slash (codes "stamp") t.0 (sym same ∙ t.2));
    under = λ path is. inl (ap slashes (under_same (codes "stamp") path t.0 (sym is ∙ t.2)) ∙ t.1.two);
  }
  clear_of_stamps q (inr (inr (inr (inr none)))) = record { top = λ same. opened.left q (inr (inr (inr (inr none)))) ∙ none; under = λ path is. inr (opened.left q (inr (inr (inr (inr none)))) ∙ none) }

  last_others : ((image : Store) → IsImageSince o.story 0 image → Clears before before image) → LeavesOthers o.gives book before k.last.plan k.last.options k.last.tale s k.last.story
  last_others early = record {
    again = o.book;
    same = same;
    restored = k.last.restoring;
    few = k.few;
    others = λ image since t task at untouched. elim (k.run.images 0 image (omega arith) since) [
      | inl was ↦ cleared_alone book before image task (early image was)
      | inr left ↦ begun_alone image task (left.others t task at (λ b. untouched (touched t b)))
    ];
    objects = λ image since line has none q below. elim (k.run.images 0 image (omega arith) since) [
      | inl was ↦ (early image was).left q (inl (object_elsewhere line.unihash q below))
      | inr left ↦ left.objects line (same.whole has.0 line has.1) (none_published line none) q below ∙ opened.left q (inl (object_elsewhere line.unihash q below))
    ];
    paths = λ image since q left_alone aside. elim (k.run.images 0 image (omega arith) since) [
      | inl was ↦ (early image was).left q left_alone
      | inr left ↦ left.paths q (begun_aside q aside) (clear_of_stamps q left_alone) ∙ opened.left q left_alone
    ];
  }

  pub kept_others : ((image : Store) → IsImageSince o.story 0 image → Clears before before image) → LeavesOthers o.gives book before plan options tale s story
  kept_others early =
      subst (λ (x : Story). LeavesOthers o.gives book before plan options tale s x) k.story_is
      (subst (λ (l : List Logged). LeavesOthers o.gives book before plan options l s k.last.story) k.tale_is
      (subst (λ (x : Options). LeavesOthers o.gives book before plan x k.last.tale s k.last.story) k.options_are
      (subst (λ (p : Plan). LeavesOthers o.gives book before p k.last.options k.last.tale s k.last.story) k.plan_is
      (last_others early))))
