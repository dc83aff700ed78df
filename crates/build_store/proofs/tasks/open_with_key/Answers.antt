use Rattle.std.proofs.Common.{◌≡◌, ◌∙◌, sym, ap, subst, refl, inl, inr, List, ℕ, Some}
use Rattle.std.proofs.lemmas.Result.{on_ok_weaker}
use Rattle.store_model.specs.Spelling.{key_part, signature_bytes}
use Rattle.record_move.specs.Known.{key_named}
use Rattle.store_opening.proofs.Clean.{folder_slashes}
use Rattle.build_store.specs.Keys.{HoldsKeys, KnowsKeyOf, KnowsRows, keys_behind, keys_with, text_key}
use Rattle.build_store.specs.Publication.{first_publication, publication}
use Rattle.build_store.specs.Standing.{KnowsOpen}
use Rattle.build_store.specs.View.{signed_as}
use Rattle.build_store.proofs.Drafted.{line_readable}
use Rattle.build_store.proofs.Invariant.{keys_published}
use Rattle.build_store.proofs.KeyRuns.{key_run, key_then, key_tidy, others_put, puts_text}
use Rattle.build_store.proofs.KnownKeys.{behind_with, holds_behind, holds_still, keeps_puts, one_of_text, open_still, rows_still}
use Rattle.build_store.proofs.tasks.open_with_key.Goals as goal

pub put_key-requires-clause-one : goal.put_key-requires-clause-one
put_key-requires-clause-one g c =
    subst (λ (t : List ℕ). (key : List ℕ) → key_named c.args.keys.now (text_key t) ≡ Some key → key ≡ key_part t) (sym c.requires.text) (one_of_text c.args.keys.now c.args.sig.now c.requires.one_key)

pub open_beside-requires-clause-keeps : goal.open_beside-requires-clause-keeps
open_beside-requires-clause-keeps g c told =
    keeps_puts c.args.keys.now c.args.draft.text c.args.index.now (g.D.Disk.story c.args.disk.now) (g.D.Disk.story c.put_key.new.disk) c.requires.known.0 (c.requires.keeps told) (c.put_key.ensures.puts told)

pub open_beside-requires-clause-on : goal.open_beside-requires-clause-on
open_beside-requires-clause-on g c told =
    let s = signed_as c.args.shared c.args.task.now c.args.sig.now in
    let put = puts_text c.args.keys.now c.args.index.now s c.args.tree c.requires.text (c.put_key.ensures.puts told) in
    others_put c.args.keys.now c.args.index.now s c.args.tree c.requires.rows (folder_slashes c.args.task.now c.requires.place) (g.D.Disk.story c.args.disk.now) (g.D.Disk.story c.put_key.new.disk) (g.met.D.Disk.sound c.args.disk.now told) put
    c.args.draft.name c.requires.draft.name c.args.open_ones.now.items c.requires.closed c.requires.apart c.requires.known.1 (c.requires.on told)

pub open_beside-requires-clause-tidy : goal.open_beside-requires-clause-tidy
open_beside-requires-clause-tidy g c told =
    let s = signed_as c.args.shared c.args.task.now c.args.sig.now in
    let put = puts_text c.args.keys.now c.args.index.now s c.args.tree c.requires.text (c.put_key.ensures.puts told) in
    key_tidy (first_publication c.args.keys.now c.args.index.now s c.args.tree) c.args.open_ones.now.items (g.D.Disk.story c.args.disk.now) (g.D.Disk.story c.put_key.new.disk) put (c.requires.tidy told)

pub returns-in_err-put_key-clause-on : goal.returns-in_err-put_key-clause-on
returns-in_err-put_key-clause-on g c told =
    let s = signed_as c.args.shared c.args.task.now c.args.sig.now in
    let put = puts_text c.args.keys.now c.args.index.now s c.args.tree c.requires.text (c.put_key.ensures.puts told) in
    others_put c.args.keys.now c.args.index.now s c.args.tree c.requires.rows (folder_slashes c.args.task.now c.requires.place) (g.D.Disk.story c.args.disk.now) (g.D.Disk.story c.put_key.new.disk) (g.met.D.Disk.sound c.args.disk.now told) put
    c.args.draft.name c.requires.draft.name c.args.open_ones.now.items c.requires.closed c.requires.apart c.requires.known.1 (c.requires.on told)

pub returns-in_err-put_key-clause-no_more : goal.returns-in_err-put_key-clause-no_more
returns-in_err-put_key-clause-no_more g c = inl c.in_err-put_key.ensures.same

pub returns-in_err-put_key-clause-known : goal.returns-in_err-put_key-clause-known
returns-in_err-put_key-clause-known g c =
    subst (λ (ks : List (List ℕ)). KnowsRows ks c.args.index.now × KnowsOpen ks c.args.open_ones.now.items) (sym c.in_err-put_key.ensures.same) c.requires.known

pub returns-in_err-put_key-clause-holds : goal.returns-in_err-put_key-clause-holds
returns-in_err-put_key-clause-holds g c told =
    let b = g.D.Disk.story c.put_key.new.disk in
    subst (λ (ks : List (List ℕ)). HoldsKeys ks b.held) (sym c.in_err-put_key.ensures.same)
    (holds_still c.args.keys.now c.args.draft.text (g.D.Disk.story c.args.disk.now).held b.held (c.put_key.ensures.puts told).held (c.requires.holds told))

pub returns-in_err-put_key-clause-publishing : goal.returns-in_err-put_key-clause-publishing
returns-in_err-put_key-clause-publishing g c told =
    let s = signed_as c.args.shared c.args.task.now c.args.sig.now in
    key_run (first_publication c.args.keys.now c.args.index.now s c.args.tree) (puts_text c.args.keys.now c.args.index.now s c.args.tree c.requires.text (c.put_key.ensures.puts told))

pub returns-in_err-put_key-clause-readable : goal.returns-in_err-put_key-clause-readable
returns-in_err-put_key-clause-readable g c =
    let d = c.requires.draft in
    line_readable c.args.index.now (signed_as c.args.shared c.args.task.now c.args.sig.now) c.args.tree c.args.draft.new c.requires.rows c.requires.spelled c.entries-entries.ensures.tree c.requires.short d.agrees d.spells d.new

pub returns-in_err-put_key-clause-keeps : goal.returns-in_err-put_key-clause-keeps
returns-in_err-put_key-clause-keeps g c told =
    keeps_puts c.args.keys.now c.args.draft.text c.args.index.now (g.D.Disk.story c.args.disk.now) (g.D.Disk.story c.put_key.new.disk) c.requires.known.0 (c.requires.keeps told) (c.put_key.ensures.puts told)

pub returns-clause-keys : goal.returns-clause-keys
returns-clause-keys g c =
    let is : c.put_key.new.keys ≡ keys_with c.args.keys.now c.args.sig.now = c.in_ok-put_key.ensures.behind ∙ ap (keys_behind c.args.keys.now) c.requires.text ∙ behind_with c.args.keys.now c.args.sig.now in
    on_ok_weaker c.open_beside.result (λ agrees. is) c.open_beside.ensures.agrees

pub returns-clause-no_more : goal.returns-clause-no_more
returns-clause-no_more g c = inr (c.in_ok-put_key.ensures.behind ∙ ap (keys_behind c.args.keys.now) c.requires.text ∙ behind_with c.args.keys.now c.args.sig.now)

pub returns-clause-known : goal.returns-clause-known
returns-clause-known g c =
    let ks = c.args.keys.now in
    let own : KnowsKeyOf c.put_key.new.keys (signature_bytes c.args.sig.now) = subst (λ (t : List ℕ). KnowsKeyOf c.put_key.new.keys t) c.requires.text c.in_ok-put_key.ensures.knows in
    let rows : KnowsRows c.put_key.new.keys c.args.index.now = subst (λ (k : List (List ℕ)). KnowsRows k c.args.index.now) (sym c.in_ok-put_key.ensures.behind) (rows_still ks c.args.draft.text c.args.index.now c.requires.known.0) in
    let opened : KnowsOpen c.put_key.new.keys c.args.open_ones.now.items = subst (λ (k : List (List ℕ)). KnowsOpen k c.args.open_ones.now.items) (sym c.in_ok-put_key.ensures.behind) (open_still ks c.args.draft.text c.args.open_ones.now.items c.requires.known.1) in
    (rows, c.open_beside.ensures.known c.put_key.new.keys opened own)

pub returns-clause-holds : goal.returns-clause-holds
returns-clause-holds g c told =
    let a = g.D.Disk.story c.args.disk.now in
    let b = g.D.Disk.story c.put_key.new.disk in
    let d = g.D.Disk.story c.open_beside.new.disk in
    let s = signed_as c.args.shared c.args.task.now c.args.sig.now in
    let has = c.in_ok-put_key.ensures.held told (c.requires.holds told) in
    let at_b : HoldsKeys c.put_key.new.keys b.held = subst (λ (k : List (List ℕ)). HoldsKeys k b.held) (sym c.in_ok-put_key.ensures.behind)
    (holds_behind c.args.keys.now c.args.draft.text a.held b.held (c.put_key.ensures.puts told).held (c.requires.holds told) has) in
    keys_published c.put_key.new.keys (publication c.args.index.now s c.args.tree) b d refl (c.open_beside.ensures.publishing told) at_b

pub returns-clause-publishing : goal.returns-clause-publishing
returns-clause-publishing g c told =
    let s = signed_as c.args.shared c.args.task.now c.args.sig.now in
    let put = puts_text c.args.keys.now c.args.index.now s c.args.tree c.requires.text (c.put_key.ensures.puts told) in
    key_then (first_publication c.args.keys.now c.args.index.now s c.args.tree) put (c.open_beside.ensures.publishing told)

pub returns-clause-readable : goal.returns-clause-readable
returns-clause-readable g c =
    let d = c.requires.draft in
    line_readable c.args.index.now (signed_as c.args.shared c.args.task.now c.args.sig.now) c.args.tree c.args.draft.new c.requires.rows c.requires.spelled c.entries-entries.ensures.tree c.requires.short d.agrees d.spells d.new
