use Rattle.std.proofs.Common.{◌∙◌, sym, ap}
use Rattle.std.proofs.lemmas.Bool.{false≢true}
use Rattle.sha2.specs.Sha256.{sha256}
use Rattle.store_model.specs.Spelling.{key_part, short_part}
use Rattle.build_store.proofs.Rows.{keys_differ, shorts_differ, told_by}
use Rattle.build_store.proofs.comparing.told_apart.Goals as goal

pub returns-then-not-same_bytes : goal.returns-then-not-same_bytes
returns-then-not-same_bytes c =
    let row = c.args.row.now in
    let text = c.args.sig.now in
    told_by row text row.name (short_part row.sig) (short_part text) _ _ c.collision.result c.short-then-not-same_bytes.ensures.short c.short-then-not-same_bytes-2.ensures.short c.collision.ensures
    (shorts_differ row c.requires.row text c.requires.named c.requires.other (λ same.
    false≢true (sym c.if-not-same_bytes.true ∙ c.same_bytes.ensures.1 (c.short.ensures.short ∙ same ∙ sym c.short-2.ensures.short))))

pub returns : goal.returns
returns c =
    let row = c.args.row.now in
    let text = c.args.sig.now in
    let shorts = sym c.short.ensures.short ∙ c.same_bytes.ensures.0 c.if-not-same_bytes.false ∙ c.short-2.ensures.short in
    told_by row text c.of-name.result (key_part row.sig) (key_part text) _ _ c.collision-2.result c.key-3.ensures c.key-4.ensures c.collision-2.ensures
    (keys_differ row c.requires.row text c.requires.named c.requires.other c.of-name.result (c.of-name.ensures ∙ ap sha256 c.key.ensures)
    (c.is_digest_of.ensures c.if-not-is_digest_of.false ∙ ap sha256 c.key-2.ensures) shorts c.short-2.ensures.whole)
