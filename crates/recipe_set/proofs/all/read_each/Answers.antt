use Rattle.std.proofs.Common.{◌∙◌, ap, sym, subst, refl, ◌++◌, ◌∷◌, [], List, ℕ, map, length, bytes_eq, arith}
use Rattle.std.specs.Map.{lookup}
use Rattle.std.proofs.lemmas.List.{drop_all}
use Rattle.load_model.specs.Loading.{sources_of}
use Rattle.load_model.specs.Recipes.{recipes_read}
use Rattle.meta_model.specs.Passing.{behind}
use Rattle.meta_model.proofs.Passing.{one_turn, behind_begins, behind_ends}
use Rattle.recipe_set.specs.declared.names.FileName.{FileName}
use Rattle.recipe_set.specs.Chosen.{file_meant, file_read}
use Rattle.recipe_set.specs.Faults.{IsSetFault}
use Rattle.recipe_set.proofs.Setting.{set_exit_told, counts_exit, set_one, nothing_held}
use Rattle.recipe_set.proofs.all.read_each.Goals as goal

pub returns-in_err-read_one-clause-err : goal.returns-in_err-read_one-clause-err
returns-in_err-read_one-clause-err g c =
    let sources = sources_of (g.L.Layers.files c.args.layers.now) in
    let config = c.args.known.now.config.now in
    let appends = c.args.known.now.appends.now in
    let make = λ (f : List ℕ × FileName). file_read sources config appends (file_meant f) in
    let all = λ (fs : List (List ℕ × FileName)). recipes_read sources config appends (map file_meant fs) in
    let fault = c.in_err-read_one.field-0.0 in
    let inv = c.loop-file.invariant in
    set_exit_told c.from_residual.result fault (all c.args.files.now) c.from_residual.ensures.1
    (λ told. set_one make all (λ b rest. refl) (all c.args.files.now) (inv.read told).0 c.args.files.now c.loop-file.file-index c.file-item.result fault c.file-item.is c.loop-file-test.true (inv.read told).1.0
    (subst (λ f. IsSetFault fault (file_read (sources_of f) config appends (file_meant c.file-item.result))) inv.same (c.in_err-read_one.ensures.err told)))

pub returns-in_err-read_one-clause-same : goal.returns-in_err-read_one-clause-same
returns-in_err-read_one-clause-same g c = c.in_err-read_one.ensures.same ∙ c.loop-file.invariant.same

pub returns-in_err-read_one-clause-cause : goal.returns-in_err-read_one-clause-cause
returns-in_err-read_one-clause-cause g c = counts_exit c.from_residual.result c.in_err-read_one.field-0.0 _ _ _ c.from_residual.ensures.1 c.loop-file.invariant.faults c.in_err-read_one.ensures.cause

pub loop-file-preserved : goal.loop-file-preserved
loop-file-preserved g c =
    let sources = sources_of (g.L.Layers.files c.args.layers.now) in
    let config = c.args.known.now.config.now in
    let appends = c.args.known.now.appends.now in
    let make = λ (f : List ℕ × FileName). file_read sources config appends (file_meant f) in
    let all = λ (fs : List (List ℕ × FileName)). recipes_read sources config appends (map file_meant fs) in
    let inv = c.loop-file.invariant in
    record {
      same = c.in_ok-read_one.ensures.same ∙ inv.same;
      faults = c.in_ok-read_one.ensures.cause.stayed ∙ inv.faults;
      few = (let more = c.in_ok-read_one.ensures.more in omega (arith, inv.few, more));
      read = λ told.
          let old = inv.read told in
          let got = c.in_ok-read_one.ensures.ok told in (
            old.0 ++ got.0 ∷ [],
            (
              one_turn make all (λ b rest. refl) (all c.args.files.now) old.0 c.args.files.now c.loop-file.file-index c.file-item.result got.0 c.file-item.is c.loop-file-test.true old.1.0
                  (ap (λ f. file_read (sources_of f) config appends (file_meant c.file-item.result)) (sym inv.same) ∙ got.1.0),
              λ wishes named. got.1.1 wishes old.0 named (old.1.1 wishes named),
            ),
          );
    }

pub loop-file-init : goal.loop-file-init
loop-file-init g c =
    let all = λ (fs : List (List ℕ × FileName)). recipes_read (sources_of (g.L.Layers.files c.args.layers.now)) c.args.known.now.config.now c.args.known.now.appends.now (map file_meant fs) in
    record {
      same = refl;
      faults = refl;
      few = (let none = ap length c.new-picks.ensures.empty in omega (arith, none));
      read = λ told. ([], (behind_begins (all c.args.files.now), λ wishes named t. nothing_held c.new-picks.result (lookup (bytes_eq t) wishes) t c.new-picks.ensures.empty));
    }

pub returns-clause-ok : goal.returns-clause-ok
returns-clause-ok g c = λ told wishes named.
    let all = λ (fs : List (List ℕ × FileName)). recipes_read (sources_of (g.L.Layers.files c.args.layers.now)) c.args.known.now.config.now c.args.known.now.appends.now (map file_meant fs) in
    let old = c.loop-file.invariant.read told in
    record {
      recipes = old.0;
      are = old.1.0 ∙ ap (λ fs. behind old.0 (all fs)) (drop_all c.loop-file.file-index c.args.files.now (search [])) ∙ behind_ends old.0;
      picked = old.1.1 wishes named;
    }
