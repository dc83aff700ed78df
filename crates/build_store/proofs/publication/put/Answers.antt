use Rattle.std.proofs.Common.{◌≡◌, ◌∙◌, sym, ap, subst, Some, None, ◌∷◌, refl}
use Rattle.std.specs.Option.{is_some}
use Rattle.std.proofs.lemmas.Result.{on_ok_weaker}
use Rattle.outside_traits.specs.Store.{Store}
use Rattle.outside_traits.specs.Story.{Story}
use Rattle.outside_traits.proofs.Images.{held-image}
use Rattle.outside_traits.proofs.Runs.{passes_so}
use Rattle.stamp_store.specs.Stamp.{staged_path}
use Rattle.build_store.specs.Keys.{text_key}
use Rattle.build_store.specs.Phases.{Lays, Stages, put_of}
use Rattle.build_store.specs.Publication.{IsPublished}
use Rattle.store_model.specs.Publication.{stamp_at, stamp_file}
use Rattle.store_opening.proofs.Areas.{differ, heads_differ}
use Rattle.build_store.proofs.AroundRestoring.{adds_no_litter, around_aside, around_freeing, around_staging, around_stamp, around_then, around_work, key_stays, record_stays}
use Rattle.build_store.proofs.Free.{free_old}
use Rattle.build_store.proofs.StampWays.{free_after}
use Rattle.build_store.proofs.Phasing.{laid_aside, laid_freeing, laid_lays, laid_stamped, lays_by_work, lays_elsewhere, stages_by_stamp}
use Rattle.build_store.proofs.Quieting.{IsReady, Quiets, aside_run, freeing_run, lays_run, stages_run, last_run, on_ok_two, published_by, ready_stages}
use Rattle.build_store.proofs.Righting.{rights_by_aside, rights_by_freeing, rights_by_staging, rights_by_stamp, rights_by_work, rights_then}
use Rattle.build_store.proofs.publication.put.Goals as goal

no_object : {A : Type 0} (x : A) → None ≡ Some x → ⊥
no_object x e = absurd (cc)

pub invalidate-requires-clause-free : goal.invalidate-requires-clause-free
invalidate-requires-clause-free g c told =
    free_old (g.D.Disk.story c.args.disk.now).held c.args.folder.now c.requires.parts (c.requires.laid_out told)

pub free_stamp-requires : goal.free_stamp-requires
free_stamp-requires g c told =
    c.in_ok-invalidate.ensures.gone told (g.D.Disk.story c.invalidate.new.disk).held (held-image (g.D.Disk.story c.invalidate.new.disk) (g.met.D.Disk.sound c.invalidate.new.disk told))

pub stage_synced-requires-clause-laid_out : goal.stage_synced-requires-clause-laid_out
stage_synced-requires-clause-laid_out g c told =
    laid_lays c.args.folder.now None (g.D.Disk.story c.free_stamp.new.disk).held (g.D.Disk.story c.lay_work.new.disk).held (lays_by_work c.args.folder.now None (g.D.Disk.story c.free_stamp.new.disk).held (g.D.Disk.story c.lay_work.new.disk).held (c.lay_work.ensures.others told).held) (laid_freeing c.args.folder.now
    (g.D.Disk.story c.invalidate.new.disk).held (g.D.Disk.story c.free_stamp.new.disk).held (c.free_stamp.ensures.frees told).held (laid_aside c.args.folder.now (g.D.Disk.story c.args.disk.now).held (g.D.Disk.story c.invalidate.new.disk).held c.requires.parts (c.invalidate.ensures.images told).held (c.requires.laid_out told)))

pub stamp-requires-clause-staged : goal.stamp-requires-clause-staged
stamp-requires-clause-staged g c told =
    record { held = ap is_some (c.in_ok-stage_synced.ensures.stamp told); kept = λ image img. ap (λ (h : Store). h (staged_path c.args.folder.now)) (c.in_ok-stage_synced.ensures.synced told image img) }

pub stamp-requires-clause-free : goal.stamp-requires-clause-free
stamp-requires-clause-free g c told =
    free_after c.args.folder.now (g.D.Disk.story c.free_stamp.new.disk).held (g.D.Disk.story c.stage_synced.new.disk).held
    (λ rest. (c.stage_synced.ensures.others told).held.others (115 ∷ rest) (heads_differ (differ 115 116 refl)) ∙ lays_elsewhere c.args.folder.now None (g.D.Disk.story c.free_stamp.new.disk).held (g.D.Disk.story c.lay_work.new.disk).held 115 rest (differ 115 119 refl) (differ 115 111 refl) (lays_by_work c.args.folder.now None
    (g.D.Disk.story c.free_stamp.new.disk).held (g.D.Disk.story c.lay_work.new.disk).held (c.lay_work.ensures.others told).held))
    (c.in_ok-free_stamp.ensures.free told)

pub returns-in_err-invalidate-clause-laid_out : goal.returns-in_err-invalidate-clause-laid_out
returns-in_err-invalidate-clause-laid_out g c told =
    laid_aside c.args.folder.now (g.D.Disk.story c.args.disk.now).held (g.D.Disk.story c.invalidate.new.disk).held c.requires.parts (c.invalidate.ensures.images told).held (c.requires.laid_out told)

pub returns-in_err-free_stamp-clause-laid_out : goal.returns-in_err-free_stamp-clause-laid_out
returns-in_err-free_stamp-clause-laid_out g c told =
    laid_freeing c.args.folder.now (g.D.Disk.story c.invalidate.new.disk).held (g.D.Disk.story c.free_stamp.new.disk).held (c.free_stamp.ensures.frees told).held (laid_aside c.args.folder.now (g.D.Disk.story c.args.disk.now).held (g.D.Disk.story c.invalidate.new.disk).held c.requires.parts (c.invalidate.ensures.images told).held (c.requires.laid_out told))

pub returns-in_err-lay_work-clause-laid_out : goal.returns-in_err-lay_work-clause-laid_out
returns-in_err-lay_work-clause-laid_out g c told =
    laid_lays c.args.folder.now None (g.D.Disk.story c.free_stamp.new.disk).held (g.D.Disk.story c.lay_work.new.disk).held (lays_by_work c.args.folder.now None (g.D.Disk.story c.free_stamp.new.disk).held (g.D.Disk.story c.lay_work.new.disk).held (c.lay_work.ensures.others told).held) (laid_freeing c.args.folder.now
    (g.D.Disk.story c.invalidate.new.disk).held (g.D.Disk.story c.free_stamp.new.disk).held (c.free_stamp.ensures.frees told).held (laid_aside c.args.folder.now (g.D.Disk.story c.args.disk.now).held (g.D.Disk.story c.invalidate.new.disk).held c.requires.parts (c.invalidate.ensures.images told).held (c.requires.laid_out told)))

pub returns-in_err-stage_synced-clause-laid_out : goal.returns-in_err-stage_synced-clause-laid_out
returns-in_err-stage_synced-clause-laid_out g c told =
    (stages_by_stamp c.args.name.now None c.args.folder.now (g.D.Disk.story c.lay_work.new.disk).held (g.D.Disk.story c.stage_synced.new.disk).held c.requires.parts (c.stage_synced.ensures.others told).held).laid_out (laid_lays c.args.folder.now None (g.D.Disk.story c.free_stamp.new.disk).held
    (g.D.Disk.story c.lay_work.new.disk).held (lays_by_work c.args.folder.now None (g.D.Disk.story c.free_stamp.new.disk).held (g.D.Disk.story c.lay_work.new.disk).held (c.lay_work.ensures.others told).held) (laid_freeing c.args.folder.now (g.D.Disk.story c.invalidate.new.disk).held
    (g.D.Disk.story c.free_stamp.new.disk).held (c.free_stamp.ensures.frees told).held (laid_aside c.args.folder.now (g.D.Disk.story c.args.disk.now).held (g.D.Disk.story c.invalidate.new.disk).held c.requires.parts (c.invalidate.ensures.images told).held (c.requires.laid_out told))))

pub returns-clause-laid_out : goal.returns-clause-laid_out
returns-clause-laid_out g c told =
    laid_stamped c.args.folder.now _ (g.D.Disk.story c.stage_synced.new.disk).held (g.D.Disk.story c.stamp.new.disk).held c.requires.parts (c.stamp.ensures.images told).held ((stages_by_stamp c.args.name.now None c.args.folder.now (g.D.Disk.story c.lay_work.new.disk).held
    (g.D.Disk.story c.stage_synced.new.disk).held c.requires.parts (c.stage_synced.ensures.others told).held).laid_out (laid_lays c.args.folder.now None (g.D.Disk.story c.free_stamp.new.disk).held (g.D.Disk.story c.lay_work.new.disk).held (lays_by_work c.args.folder.now None (g.D.Disk.story c.free_stamp.new.disk).held
    (g.D.Disk.story c.lay_work.new.disk).held (c.lay_work.ensures.others told).held) (laid_freeing c.args.folder.now (g.D.Disk.story c.invalidate.new.disk).held (g.D.Disk.story c.free_stamp.new.disk).held (c.free_stamp.ensures.frees told).held (laid_aside c.args.folder.now (g.D.Disk.story c.args.disk.now).held
    (g.D.Disk.story c.invalidate.new.disk).held c.requires.parts (c.invalidate.ensures.images told).held (c.requires.laid_out told)))))

pub returns-in_err-invalidate-clause-others : goal.returns-in_err-invalidate-clause-others
returns-in_err-invalidate-clause-others g c told f is text has =
    aside_run c.args.folder.now c.args.name.now c.args.tree.now None None f text (c.invalidate.ensures.images told)

pub returns-in_err-free_stamp-clause-others : goal.returns-in_err-free_stamp-clause-others
returns-in_err-free_stamp-clause-others g c told f is text has =
    let Quiet : Story → Type 0 = Quiets c.args.folder.now c.args.name.now c.args.tree.now None None f text (g.D.Disk.story c.args.disk.now) in
    let quiet_b : Quiet (g.D.Disk.story c.invalidate.new.disk) = record { run = aside_run c.args.folder.now c.args.name.now c.args.tree.now None None f text (c.invalidate.ensures.images told); gone = c.in_ok-invalidate.ensures.gone told } in
    (freeing_run c.args.folder.now c.args.name.now c.args.tree.now None None f text (g.D.Disk.story c.invalidate.new.disk).held (g.met.D.Disk.sound c.invalidate.new.disk told) quiet_b (c.free_stamp.ensures.frees told)).run

pub returns-in_err-lay_work-clause-others : goal.returns-in_err-lay_work-clause-others
returns-in_err-lay_work-clause-others g c told f is text has =
    let Quiet : Story → Type 0 = Quiets c.args.folder.now c.args.name.now c.args.tree.now None None f text (g.D.Disk.story c.args.disk.now) in
    let quiet_b : Quiet (g.D.Disk.story c.invalidate.new.disk) = record { run = aside_run c.args.folder.now c.args.name.now c.args.tree.now None None f text (c.invalidate.ensures.images told); gone = c.in_ok-invalidate.ensures.gone told } in
    let quiet_m : Quiet (g.D.Disk.story c.free_stamp.new.disk) = freeing_run c.args.folder.now c.args.name.now c.args.tree.now None None f text (g.D.Disk.story c.invalidate.new.disk).held (g.met.D.Disk.sound c.invalidate.new.disk told) quiet_b (c.free_stamp.ensures.frees told) in
    (lays_run c.args.folder.now c.args.name.now c.args.tree.now None None f text (g.met.D.Disk.sound c.free_stamp.new.disk told) quiet_m (passes_so (Lays c.args.folder.now None) (c.lay_work.ensures.others told) (λ i j agrees. lays_by_work c.args.folder.now None i j agrees))).run

pub returns-in_err-stage_synced-clause-others : goal.returns-in_err-stage_synced-clause-others
returns-in_err-stage_synced-clause-others g c told f is text has =
    let Quiet : Story → Type 0 = Quiets c.args.folder.now c.args.name.now c.args.tree.now None None f text (g.D.Disk.story c.args.disk.now) in
    let quiet_b : Quiet (g.D.Disk.story c.invalidate.new.disk) = record { run = aside_run c.args.folder.now c.args.name.now c.args.tree.now None None f text (c.invalidate.ensures.images told); gone = c.in_ok-invalidate.ensures.gone told } in
    let quiet_m : Quiet (g.D.Disk.story c.free_stamp.new.disk) = freeing_run c.args.folder.now c.args.name.now c.args.tree.now None None f text (g.D.Disk.story c.invalidate.new.disk).held (g.met.D.Disk.sound c.invalidate.new.disk told) quiet_b (c.free_stamp.ensures.frees told) in
    let quiet_c : Quiet (g.D.Disk.story c.lay_work.new.disk) = lays_run c.args.folder.now c.args.name.now c.args.tree.now None None f text (g.met.D.Disk.sound c.free_stamp.new.disk told) quiet_m (passes_so (Lays c.args.folder.now None) (c.lay_work.ensures.others told) (λ i j agrees. lays_by_work c.args.folder.now None i j agrees)) in
    (stages_run c.args.folder.now c.args.name.now c.args.tree.now None None f text (λ entry some. let k : None ≡ Some entry = some in cc) (g.met.D.Disk.sound c.lay_work.new.disk told) quiet_c (passes_so (Stages c.args.name.now None) (c.stage_synced.ensures.others told) (λ i j change. stages_by_stamp c.args.name.now None c.args.folder.now i j c.requires.parts change))).run

pub returns-clause-others : goal.returns-clause-others
returns-clause-others g c told f is text has =
    let Quiet : Story → Type 0 = Quiets c.args.folder.now c.args.name.now c.args.tree.now None None f text (g.D.Disk.story c.args.disk.now) in
    let quiet_b : Quiet (g.D.Disk.story c.invalidate.new.disk) = record { run = aside_run c.args.folder.now c.args.name.now c.args.tree.now None None f text (c.invalidate.ensures.images told); gone = c.in_ok-invalidate.ensures.gone told } in
    let quiet_m : Quiet (g.D.Disk.story c.free_stamp.new.disk) = freeing_run c.args.folder.now c.args.name.now c.args.tree.now None None f text (g.D.Disk.story c.invalidate.new.disk).held (g.met.D.Disk.sound c.invalidate.new.disk told) quiet_b (c.free_stamp.ensures.frees told) in
    let quiet_c : Quiet (g.D.Disk.story c.lay_work.new.disk) = lays_run c.args.folder.now c.args.name.now c.args.tree.now None None f text (g.met.D.Disk.sound c.free_stamp.new.disk told) quiet_m (passes_so (Lays c.args.folder.now None) (c.lay_work.ensures.others told) (λ i j agrees. lays_by_work c.args.folder.now None i j agrees)) in
    let quiet_d : Quiet (g.D.Disk.story c.stage_synced.new.disk) = stages_run c.args.folder.now c.args.name.now c.args.tree.now None None f text (λ entry some. let k : None ≡ Some entry = some in cc) (g.met.D.Disk.sound c.lay_work.new.disk told) quiet_c (passes_so (Stages c.args.name.now None) (c.stage_synced.ensures.others told)
    (λ i j change. stages_by_stamp c.args.name.now None c.args.folder.now i j c.requires.parts change)) in
    let ready : IsReady c.args.folder.now c.args.name.now c.args.tree.now None None f text (g.D.Disk.story c.stage_synced.new.disk).held = record {
      work = ready_stages c.args.folder.now c.args.name.now c.args.tree.now None None f (g.D.Disk.story c.lay_work.new.disk).held (g.D.Disk.story c.stage_synced.new.disk).held (stages_by_stamp c.args.name.now None c.args.folder.now (g.D.Disk.story c.lay_work.new.disk).held
          (g.D.Disk.story c.stage_synced.new.disk).held c.requires.parts (c.stage_synced.ensures.others told).held) (c.in_ok-lay_work.ensures.held told);
      shared = λ unihash some. absurd (no_object unihash some);
      stored = record_stays c.args.folder.now c.args.name.now (g.D.Disk.story c.args.disk.now).held (g.D.Disk.story c.invalidate.new.disk).held (g.D.Disk.story c.free_stamp.new.disk).held (g.D.Disk.story c.lay_work.new.disk).held (g.D.Disk.story c.stage_synced.new.disk).held (c.invalidate.ensures.images told).held
          (c.free_stamp.ensures.frees told).held (c.lay_work.ensures.round told).held (c.stage_synced.ensures.others told).held ∙ is;
      key = key_stays c.args.folder.now (text_key text) (g.D.Disk.story c.args.disk.now).held (g.D.Disk.story c.invalidate.new.disk).held (g.D.Disk.story c.free_stamp.new.disk).held (g.D.Disk.story c.lay_work.new.disk).held (g.D.Disk.story c.stage_synced.new.disk).held (c.invalidate.ensures.images told).held
          (c.free_stamp.ensures.frees told).held (c.lay_work.ensures.round told).held (c.stage_synced.ensures.others told).held ∙ has;
    } in
    last_run c.args.folder.now c.args.name.now c.args.tree.now None None f text (g.met.D.Disk.sound c.stage_synced.new.disk told) (c.in_ok-stage_synced.ensures.stamp told) quiet_d (c.in_ok-stage_synced.ensures.synced told) ready (c.stamp.ensures.images told)

pub returns-clause-published : goal.returns-clause-published
returns-clause-published g c told =
    on_ok_two c.stamp.result _ _ _ (c.stamp.ensures.stamped told) (c.stamp.ensures.synced told) (λ stamped synced f is text has image img.
    let ready : IsReady c.args.folder.now c.args.name.now c.args.tree.now None None f text (g.D.Disk.story c.stage_synced.new.disk).held = record {
      work = ready_stages c.args.folder.now c.args.name.now c.args.tree.now None None f (g.D.Disk.story c.lay_work.new.disk).held (g.D.Disk.story c.stage_synced.new.disk).held (stages_by_stamp c.args.name.now None c.args.folder.now (g.D.Disk.story c.lay_work.new.disk).held
          (g.D.Disk.story c.stage_synced.new.disk).held c.requires.parts (c.stage_synced.ensures.others told).held) (c.in_ok-lay_work.ensures.held told);
      shared = λ unihash some. absurd (no_object unihash some);
      stored = record_stays c.args.folder.now c.args.name.now (g.D.Disk.story c.args.disk.now).held (g.D.Disk.story c.invalidate.new.disk).held (g.D.Disk.story c.free_stamp.new.disk).held (g.D.Disk.story c.lay_work.new.disk).held (g.D.Disk.story c.stage_synced.new.disk).held (c.invalidate.ensures.images told).held
          (c.free_stamp.ensures.frees told).held (c.lay_work.ensures.round told).held (c.stage_synced.ensures.others told).held ∙ is;
      key = key_stays c.args.folder.now (text_key text) (g.D.Disk.story c.args.disk.now).held (g.D.Disk.story c.invalidate.new.disk).held (g.D.Disk.story c.free_stamp.new.disk).held (g.D.Disk.story c.lay_work.new.disk).held (g.D.Disk.story c.stage_synced.new.disk).held (c.invalidate.ensures.images told).held
          (c.free_stamp.ensures.frees told).held (c.lay_work.ensures.round told).held (c.stage_synced.ensures.others told).held ∙ has;
    } in
    let same : image ≡ (g.D.Disk.story c.stamp.new.disk).held = synced image img in
    let at : (g.D.Disk.story c.stamp.new.disk).held (stamp_at c.args.folder.now) ≡ Some (stamp_file c.args.name.now) = ap (λ (h : Store). h (stamp_at c.args.folder.now)) (sym same) ∙ stamped image img ∙ c.in_ok-stage_synced.ensures.stamp told in
    subst (IsPublished (put_of c.args.folder.now c.args.name.now c.args.tree.now None None f text)) (sym same) (published_by c.args.folder.now c.args.name.now c.args.tree.now None None f text _ (g.D.Disk.story c.stage_synced.new.disk).held (g.D.Disk.story c.stamp.new.disk).held ready (c.stamp.ensures.images told).held at))

pub returns-in_err-invalidate-clause-round : goal.returns-in_err-invalidate-clause-round
returns-in_err-invalidate-clause-round g c told =
    around_aside c.args.folder.now (c.invalidate.ensures.images told)

pub returns-in_err-free_stamp-clause-round : goal.returns-in_err-free_stamp-clause-round
returns-in_err-free_stamp-clause-round g c told =
    around_then c.args.folder.now (around_aside c.args.folder.now (c.invalidate.ensures.images told)) (around_freeing c.args.folder.now (c.free_stamp.ensures.frees told))

pub returns-in_err-lay_work-clause-round : goal.returns-in_err-lay_work-clause-round
returns-in_err-lay_work-clause-round g c told =
    around_then c.args.folder.now (around_then c.args.folder.now (around_aside c.args.folder.now (c.invalidate.ensures.images told)) (around_freeing c.args.folder.now (c.free_stamp.ensures.frees told))) (around_work c.args.folder.now (c.lay_work.ensures.round told))

pub returns-in_err-stage_synced-clause-round : goal.returns-in_err-stage_synced-clause-round
returns-in_err-stage_synced-clause-round g c told =
    around_then c.args.folder.now (around_then c.args.folder.now (around_then c.args.folder.now (around_aside c.args.folder.now (c.invalidate.ensures.images told)) (around_freeing c.args.folder.now (c.free_stamp.ensures.frees told))) (around_work c.args.folder.now (c.lay_work.ensures.round told))) (around_staging c.args.folder.now (c.stage_synced.ensures.others told))

pub returns-clause-round : goal.returns-clause-round
returns-clause-round g c told =
    around_then c.args.folder.now (around_then c.args.folder.now (around_then c.args.folder.now (around_then c.args.folder.now (around_aside c.args.folder.now (c.invalidate.ensures.images told)) (around_freeing c.args.folder.now (c.free_stamp.ensures.frees told))) (around_work c.args.folder.now
    (c.lay_work.ensures.round told))) (around_staging c.args.folder.now (c.stage_synced.ensures.others told))) (around_stamp c.args.folder.now (c.stamp.ensures.images told))

pub returns-in_err-invalidate-clause-right : goal.returns-in_err-invalidate-clause-right
returns-in_err-invalidate-clause-right g c told =
    rights_by_aside c.args.folder.now None c.args.tree.now (c.invalidate.ensures.images told)

pub returns-in_err-free_stamp-clause-right : goal.returns-in_err-free_stamp-clause-right
returns-in_err-free_stamp-clause-right g c told =
    rights_then c.args.folder.now None c.args.tree.now (rights_by_aside c.args.folder.now None c.args.tree.now (c.invalidate.ensures.images told)) (rights_by_freeing c.args.folder.now None c.args.tree.now (c.free_stamp.ensures.frees told))

pub returns-in_err-lay_work-clause-right : goal.returns-in_err-lay_work-clause-right
returns-in_err-lay_work-clause-right g c told =
    rights_then c.args.folder.now None c.args.tree.now (rights_then c.args.folder.now None c.args.tree.now (rights_by_aside c.args.folder.now None c.args.tree.now (c.invalidate.ensures.images told)) (rights_by_freeing c.args.folder.now None c.args.tree.now (c.free_stamp.ensures.frees told))) (rights_by_work c.args.folder.now None c.args.tree.now (c.lay_work.ensures.lays told))

pub returns-in_err-stage_synced-clause-right : goal.returns-in_err-stage_synced-clause-right
returns-in_err-stage_synced-clause-right g c told =
    rights_then c.args.folder.now None c.args.tree.now (rights_then c.args.folder.now None c.args.tree.now (rights_then c.args.folder.now None c.args.tree.now (rights_by_aside c.args.folder.now None c.args.tree.now (c.invalidate.ensures.images told)) (rights_by_freeing c.args.folder.now None c.args.tree.now
    (c.free_stamp.ensures.frees told))) (rights_by_work c.args.folder.now None c.args.tree.now (c.lay_work.ensures.lays told))) (rights_by_staging c.args.folder.now None c.args.tree.now (c.stage_synced.ensures.others told))

pub returns-clause-right : goal.returns-clause-right
returns-clause-right g c told =
    rights_then c.args.folder.now None c.args.tree.now (rights_then c.args.folder.now None c.args.tree.now (rights_then c.args.folder.now None c.args.tree.now (rights_then c.args.folder.now None c.args.tree.now (rights_by_aside c.args.folder.now None c.args.tree.now (c.invalidate.ensures.images told))
    (rights_by_freeing c.args.folder.now None c.args.tree.now (c.free_stamp.ensures.frees told))) (rights_by_work c.args.folder.now None c.args.tree.now (c.lay_work.ensures.lays told))) (rights_by_staging c.args.folder.now None c.args.tree.now (c.stage_synced.ensures.others told))) (rights_by_stamp c.args.folder.now None c.args.tree.now (c.stamp.ensures.images told))

pub returns-clause-swept : goal.returns-clause-swept
returns-clause-swept g c told =
    on_ok_weaker c.stamp.result (λ gone. adds_no_litter c.args.folder.now _ (g.D.Disk.story c.args.disk.now).held (g.D.Disk.story c.invalidate.new.disk).held (g.D.Disk.story c.free_stamp.new.disk).held (g.D.Disk.story c.lay_work.new.disk).held (g.D.Disk.story c.stage_synced.new.disk).held (g.D.Disk.story c.stamp.new.disk).held
    (c.invalidate.ensures.images told).held (c.in_ok-invalidate.ensures.swept told) (c.free_stamp.ensures.frees told).held (c.lay_work.ensures.round told).held (c.stage_synced.ensures.others told).held
    (c.stamp.ensures.images told).held gone) (c.stamp.ensures.swept told)
