use Rattle.std.proofs.Common.{◌≡◌, ◌∙◌, ◌≤◌, sym, ap, subst, List, ℕ, Some, false, length, arith}
use Rattle.std.proofs.lemmas.Result.{on_ok_weaker}
use Rattle.tree_model.specs.declared.entry.Entry.TheVariants.{File}
use Rattle.tree_model.specs.Path.{IsClean}
use Rattle.outside_traits.specs.Passes.{Passes}
use Rattle.outside_traits.specs.Store.{IsFree, PutsEntry}
use Rattle.sha2.specs.Sha256.{sha256}
use Rattle.store_model.specs.Paths.{key_path}
use Rattle.store_model.specs.Spelling.{key_name}
use Rattle.store_opening.proofs.Free.{free_key}
use Rattle.store_opening.proofs.Written.{key_path_clean, key_path_short}
use Rattle.store_upgrade.specs.Steps.{key_of}
use Rattle.store_upgrade.proofs.Keyed.{key_is_name, named_by, put_laid}
use Rattle.store_upgrade.proofs.keys.put_key.Goals as goal

pub put_entry-requires-clause-clean : goal.put_entry-requires-clause-clean
put_entry-requires-clause-clean g c =
    let at : c.as_str.result.now ≡ key_path (key_name c.args.added.now.stored.sig.key) = c.as_str.ensures ∙ c.in_ok-path.ensures ∙ ap key_path (named_by c.args.added.now.stored.sig.key c.of.result (c.of.ensures ∙ ap sha256 (c.as_slice.ensures ∙ c.in_ok-bytes.ensures.bytes))) in
    subst IsClean (sym at) (key_path_clean (key_name c.args.added.now.stored.sig.key) (key_is_name c.args.added.now.stored.sig.key))

pub put_entry-requires-clause-within_reach : goal.put_entry-requires-clause-within_reach
put_entry-requires-clause-within_reach g c =
    let at : c.as_str.result.now ≡ key_path (key_name c.args.added.now.stored.sig.key) = c.as_str.ensures ∙ c.in_ok-path.ensures ∙ ap key_path (named_by c.args.added.now.stored.sig.key c.of.result (c.of.ensures ∙ ap sha256 (c.as_slice.ensures ∙ c.in_ok-bytes.ensures.bytes))) in
    let short = key_path_short (key_name c.args.added.now.stored.sig.key) (key_is_name c.args.added.now.stored.sig.key) in
    let reach = c.requires.reach in
    subst (λ (p : List ℕ). length p ≤ g.D.Disk.reach) (sym at) (omega (arith, short, reach))

pub put_entry-requires-clause-free : goal.put_entry-requires-clause-free
put_entry-requires-clause-free g c told =
    let at : c.as_str.result.now ≡ key_path (key_name c.args.added.now.stored.sig.key) = c.as_str.ensures ∙ c.in_ok-path.ensures ∙ ap key_path (named_by c.args.added.now.stored.sig.key c.of.result (c.of.ensures ∙ ap sha256 (c.as_slice.ensures ∙ c.in_ok-bytes.ensures.bytes))) in
    subst (IsFree (g.D.Disk.story c.args.disk.now).held) (sym at) (free_key (g.D.Disk.story c.args.disk.now).held (key_name c.args.added.now.stored.sig.key) (key_is_name c.args.added.now.stored.sig.key) (c.requires.laid told))

pub returns-clause-held : goal.returns-clause-held
returns-clause-held g c told =
    let at : c.as_str.result.now ≡ key_path (key_name c.args.added.now.stored.sig.key) = c.as_str.ensures ∙ c.in_ok-path.ensures ∙ ap key_path (named_by c.args.added.now.stored.sig.key c.of.result (c.of.ensures ∙ ap sha256 (c.as_slice.ensures ∙ c.in_ok-bytes.ensures.bytes))) in
    on_ok_weaker c.put_entry.result
    (λ held. ap (g.D.Disk.story c.put_entry.new.disk).held (sym at) ∙ held ∙ ap (λ (b : List ℕ). Some (File false b)) c.in_ok-bytes.ensures.bytes)
    (c.put_entry.ensures.held told)

pub returns-clause-puts : goal.returns-clause-puts
returns-clause-puts g c told =
    let at : c.as_str.result.now ≡ key_path (key_name c.args.added.now.stored.sig.key) = c.as_str.ensures ∙ c.in_ok-path.ensures ∙ ap key_path (named_by c.args.added.now.stored.sig.key c.of.result (c.of.ensures ∙ ap sha256 (c.as_slice.ensures ∙ c.in_ok-bytes.ensures.bytes))) in
    subst (λ (p : List ℕ). Passes (g.D.Disk.story c.args.disk.now) (g.D.Disk.story c.put_entry.new.disk) (PutsEntry p (key_of c.args.added.now) (g.D.Disk.story c.args.disk.now).held)) at
    (subst (λ (b : List ℕ). Passes (g.D.Disk.story c.args.disk.now) (g.D.Disk.story c.put_entry.new.disk) (PutsEntry c.as_str.result.now (File false b) (g.D.Disk.story c.args.disk.now).held)) c.in_ok-bytes.ensures.bytes (c.put_entry.ensures.puts told))

pub returns-clause-laid : goal.returns-clause-laid
returns-clause-laid g c told =
    let at : c.as_str.result.now ≡ key_path (key_name c.args.added.now.stored.sig.key) = c.as_str.ensures ∙ c.in_ok-path.ensures ∙ ap key_path (named_by c.args.added.now.stored.sig.key c.of.result (c.of.ensures ∙ ap sha256 (c.as_slice.ensures ∙ c.in_ok-bytes.ensures.bytes))) in
    on_ok_weaker c.put_entry.result
    (λ held. put_laid (g.D.Disk.story c.args.disk.now).held (g.D.Disk.story c.put_entry.new.disk).held c.as_str.result.now (File false c.in_ok-bytes.bytes) c.args.added.now.stored.sig.key at (c.put_entry.ensures.puts told).held (c.requires.laid told))
    (c.put_entry.ensures.held told)
