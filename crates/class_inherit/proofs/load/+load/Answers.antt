use Rattle.std.proofs.Common.{◌∙◌, ℕ, List, refl, ap, sym, subst, Ok, true, false}
use Rattle.std.specs.Option.{option_map}
use Rattle.std.proofs.lemmas.Result.{on_ok_weaker, err_from_is_err_and}
use Rattle.load_model.specs.LoadRefusal.{asked_at, missing_required, missing_class}
use Rattle.load_model.specs.Loading.{read_within, statement_after, includes_after, include_after, class_after, classes_after}
use Rattle.class_inherit.specs.Faults.{where_is, IsLoadFault}
use Rattle.class_inherit.specs.Naming.{includes_named, classes_named}
use Rattle.class_inherit.specs.Reading.{found_meant, contents_meant, origin_meant, sources_for, statement_for, text_for, words_in}
use Rattle.class_inherit.proofs.Told.{if_err, passed}
use Rattle.class_inherit.proofs.Faulting.{fault_one, fault_on, fault_same}
use Rattle.class_inherit.proofs.Loading.{include_reads, include_reads_fault, include_passed, include_missing, include_fault, origin_same, class_reads, class_reads_fault, class_passed, class_missing, class_fault, run_fault, whole_reads, whole_fault, then, named_reads, named_fault, include_parts, require_parts, inherit_parts}
use Rattle.class_inherit.proofs.load.+load.Goals as goal

pub include_word-returns-in-Ok-Some-clause-ok : goal.include_word-returns-in-Ok-Some-clause-ok
include_word-returns-in-Ok-Some-clause-ok g t c =
    let found = c.in-Ok-Some.found in
    on_ok_weaker c.read_found.result
    (λ h told. include_reads c.args.left c.args.layer.now (g.L.Layers.files c.args.layers.now) (g.L.Layers.files c.search.new.layers) (where_is c.args.place.now) (origin_meant c.args.origin.now) c.args.must c.args.word.now
    c.folder_of-folder.result.now found.path c.as_str.result.now (contents_meant found.contents) c.args.reading.now c.read_found.new.reading (option_map found_meant c.in-Ok-Some.field-0)
    c.folder_of-folder.ensures (c.in-Ok-Some.ensures.ok told) (ap (option_map found_meant) c.in-Ok-Some.field-0-is) c.as_str.ensures c.in-Ok-Some.ensures.same (h told))
    c.read_found.ensures.ok

pub include_word-returns-in-Ok-Some-clause-err : goal.include_word-returns-in-Ok-Some-clause-err
include_word-returns-in-Ok-Some-clause-err g t c =
    let found = c.in-Ok-Some.found in
    if_err c.read_found.result _ _
    (λ fault h told. include_reads_fault c.args.left c.args.layer.now (g.L.Layers.files c.args.layers.now) (g.L.Layers.files c.search.new.layers) (where_is c.args.place.now) (origin_meant c.args.origin.now) c.args.must c.args.word.now
    c.folder_of-folder.result.now found.path c.as_str.result.now (contents_meant found.contents) c.args.reading.now (option_map found_meant c.in-Ok-Some.field-0) fault
    c.folder_of-folder.ensures (c.in-Ok-Some.ensures.ok told) (ap (option_map found_meant) c.in-Ok-Some.field-0-is) c.as_str.ensures c.in-Ok-Some.ensures.same (h told))
    c.read_found.ensures.err

pub include_word-returns-in-Ok-None-clause-ok : goal.include_word-returns-in-Ok-None-clause-ok
include_word-returns-in-Ok-None-clause-ok g t c =
    let files = g.L.Layers.files c.args.layers.now in
    on_ok_weaker c.pass_file.result
    (λ m told. include_passed (read_within c.args.left (sources_for c.args.layer.now files)) c.args.layer.now files (where_is c.args.place.now) (origin_meant c.args.origin.now) c.args.must c.args.word.now c.folder_of-folder.result.now c.args.reading.now
    c.folder_of-folder.ensures (c.in-Ok-None.ensures.ok told ∙ ap (λ o. Ok (option_map found_meant o)) c.in-Ok-None.field-0-is) m)
    c.pass_file.ensures.ok

pub include_word-returns-in-Ok-None-clause-err : goal.include_word-returns-in-Ok-None-clause-err
include_word-returns-in-Ok-None-clause-err g t c =
    let files = g.L.Layers.files c.args.layers.now in
    let read = read_within c.args.left (sources_for c.args.layer.now files) in
    if_err c.pass_file.result _ _
    (λ fault h told. fault_one fault (where_is c.args.place.now) (missing_required c.args.word.now) (include_after read (sources_for c.args.layer.now files) (where_is c.args.place.now) (origin_meant c.args.origin.now) c.args.must c.args.word.now c.args.reading.now) h.1
    (include_missing read c.args.layer.now files (where_is c.args.place.now) (origin_meant c.args.origin.now) c.args.must c.args.word.now c.folder_of-folder.result.now c.args.reading.now
    c.folder_of-folder.ensures (c.in-Ok-None.ensures.ok told ∙ ap (λ o. Ok (option_map found_meant o)) c.in-Ok-None.field-0-is) h.0))
    c.pass_file.ensures.err

pub include_word-returns-in-Err-clause-err : goal.include_word-returns-in-Err-clause-err
include_word-returns-in-Err-clause-err g t c = λ told.
    let files = g.L.Layers.files c.args.layers.now in
    include_fault (read_within c.args.left (sources_for c.args.layer.now files)) c.args.layer.now files (where_is c.args.place.now) (origin_meant c.args.origin.now) c.args.must c.args.word.now c.folder_of-folder.result.now c.args.reading.now c.in-Err.fault
    c.folder_of-folder.ensures (c.in-Err.ensures.err told)

pub include_words-returns-in_err-include_word-clause-err :
    goal.include_words-returns-in_err-include_word-clause-err
include_words-returns-in_err-include_word-clause-err g t c =
    let files = g.L.Layers.files c.args.layers.now in
    let read = read_within c.args.left (sources_for c.args.layer.now files) in
    let fault = c.in_err-include_word.field-0.0 in
    let p = err_from_is_err_and c.from_residual.result c.from_residual.ensures.1 in
    passed c.from_residual.result p.0 fault _ p.1 p.2
    (λ told. run_fault (λ ws l. includes_after read (sources_for c.args.layer.now files) (where_is c.args.place.now) (origin_meant c.args.origin.now) c.args.must ws l)
    (λ w l. include_after read (sources_for c.args.layer.now files) (where_is c.args.place.now) (origin_meant c.args.origin.now) c.args.must w l) (λ l. refl) (λ w ws l. refl)
    c.args.words.now c.loop-word.word-index c.word-item.result c.args.reading.now c.loop-word.reading fault c.word-item.is c.loop-word-test.true (c.loop-word.invariant.done told)
    (subst (λ w. IsLoadFault fault (include_after read (sources_for c.args.layer.now files) (where_is c.args.place.now) (origin_meant c.args.origin.now) c.args.must w c.loop-word.reading)) c.as_str.ensures
    (subst (λ fs. IsLoadFault fault (include_after (read_within c.args.left (sources_for c.args.layer.now fs)) (sources_for c.args.layer.now fs) (where_is c.args.place.now) (origin_meant c.args.origin.now) c.args.must c.as_str.result.now c.loop-word.reading)) c.loop-word.invariant.same
    (c.in_err-include_word.ensures.err told))))

pub inherit_word-returns-in_ok-begin_class-in-Ok-Some-clause-ok :
    goal.inherit_word-returns-in_ok-begin_class-in-Ok-Some-clause-ok
inherit_word-returns-in_ok-begin_class-in-Ok-Some-clause-ok g t c =
    let found = c.in-Ok-Some.found in
    on_ok_weaker c.read_found.result
    (λ h told. class_reads c.args.left c.args.layer.now (g.L.Layers.files c.args.layers.now) (g.L.Layers.files c.search_class.new.layers) (where_is c.args.place.now) c.args.must c.args.name.now found.path (contents_meant found.contents)
    c.args.reading.now c.begin_class.new.reading c.read_found.new.reading (option_map found_meant c.in-Ok-Some.field-0) _ c.has_begun.result
    c.has_begun.ensures c.if-has_begun.false (c.in-Ok-Some.ensures.ok told) (ap (option_map found_meant) c.in-Ok-Some.field-0-is) c.in_ok-begin_class-in-Ok-Some.ensures.ok
    (origin_same c.as_str.result.now c.as_str-in-Ok-Some.result.now found.path c.class_of.result.now c.as_str.ensures c.as_str-in-Ok-Some.ensures c.class_of.ensures) c.in-Ok-Some.ensures.same (h told))
    c.read_found.ensures.ok

pub inherit_word-returns-in_ok-begin_class-in-Ok-Some-clause-err :
    goal.inherit_word-returns-in_ok-begin_class-in-Ok-Some-clause-err
inherit_word-returns-in_ok-begin_class-in-Ok-Some-clause-err g t c =
    let found = c.in-Ok-Some.found in
    if_err c.read_found.result _ _
    (λ fault h told. class_reads_fault c.args.left c.args.layer.now (g.L.Layers.files c.args.layers.now) (g.L.Layers.files c.search_class.new.layers) (where_is c.args.place.now) c.args.must c.args.name.now found.path (contents_meant found.contents)
    c.args.reading.now c.begin_class.new.reading (option_map found_meant c.in-Ok-Some.field-0) _ c.has_begun.result fault
    c.has_begun.ensures c.if-has_begun.false (c.in-Ok-Some.ensures.ok told) (ap (option_map found_meant) c.in-Ok-Some.field-0-is) c.in_ok-begin_class-in-Ok-Some.ensures.ok
    (origin_same c.as_str.result.now c.as_str-in-Ok-Some.result.now found.path c.class_of.result.now c.as_str.ensures c.as_str-in-Ok-Some.ensures c.class_of.ensures) c.in-Ok-Some.ensures.same (h told))
    c.read_found.ensures.err

pub inherit_word-returns-in-Ok-None-clause-ok : goal.inherit_word-returns-in-Ok-None-clause-ok
inherit_word-returns-in-Ok-None-clause-ok g t c =
    let files = g.L.Layers.files c.args.layers.now in
    on_ok_weaker c.pass_class.result
    (λ m told. class_passed (read_within c.args.left (sources_for c.args.layer.now files)) c.args.layer.now files (where_is c.args.place.now) c.args.must c.args.name.now c.args.reading.now
    (sym c.has_begun.ensures ∙ c.if-has_begun.false) (c.in-Ok-None.ensures.ok told ∙ ap (λ o. Ok (option_map found_meant o)) c.in-Ok-None.field-0-is) m)
    c.pass_class.ensures.ok

pub inherit_word-returns-in-Ok-None-clause-err : goal.inherit_word-returns-in-Ok-None-clause-err
inherit_word-returns-in-Ok-None-clause-err g t c =
    let files = g.L.Layers.files c.args.layers.now in
    let read = read_within c.args.left (sources_for c.args.layer.now files) in
    if_err c.pass_class.result _ _
    (λ fault h told. fault_one fault (where_is c.args.place.now) (missing_class c.args.name.now) (class_after read (sources_for c.args.layer.now files) (where_is c.args.place.now) c.args.must c.args.name.now c.args.reading.now) h.1
    (class_missing read c.args.layer.now files (where_is c.args.place.now) c.args.must c.args.name.now c.args.reading.now
    (sym c.has_begun.ensures ∙ c.if-has_begun.false) (c.in-Ok-None.ensures.ok told ∙ ap (λ o. Ok (option_map found_meant o)) c.in-Ok-None.field-0-is) h.0))
    c.pass_class.ensures.err

pub inherit_word-returns-in-Err-clause-err : goal.inherit_word-returns-in-Err-clause-err
inherit_word-returns-in-Err-clause-err g t c = λ told.
    let files = g.L.Layers.files c.args.layers.now in
    class_fault (read_within c.args.left (sources_for c.args.layer.now files)) c.args.layer.now files (where_is c.args.place.now) c.args.must c.args.name.now c.args.reading.now c.in-Err.fault
    (sym c.has_begun.ensures ∙ c.if-has_begun.false) (c.in-Err.ensures.err told)

pub read_found-returns-in-Whole-clause-ok : goal.read_found-returns-in-Whole-clause-ok
read_found-returns-in-Whole-clause-ok g t c =
    on_ok_weaker c.run_statements.result
    (λ h told. whole_reads c.args.left c.args.layer.now (sources_for c.args.layer.now (g.L.Layers.files c.args.layers.now)) (where_is c.args.place.now) (origin_meant c.args.origin.now) (contents_meant c.args.contents.now) c.in-Whole.list c.as_slice.result.now c.args.reading.now c.run_statements.new.reading
    c.if-left-eq0.false (ap contents_meant c.in-Whole.is) c.as_slice.ensures (h told))
    c.run_statements.ensures.ok

pub read_found-returns-in-Whole-clause-err : goal.read_found-returns-in-Whole-clause-err
read_found-returns-in-Whole-clause-err g t c =
    if_err c.run_statements.result _ _
    (λ fault h told. whole_fault c.args.left c.args.layer.now (sources_for c.args.layer.now (g.L.Layers.files c.args.layers.now)) (where_is c.args.place.now) (origin_meant c.args.origin.now) (contents_meant c.args.contents.now) c.in-Whole.list c.as_slice.result.now c.args.reading.now fault
    c.if-left-eq0.false (ap contents_meant c.in-Whole.is) c.as_slice.ensures (h told))
    c.run_statements.ensures.err

pub include_named-returns-in-Ok-clause-ok : goal.include_named-returns-in-Ok-clause-ok
include_named-returns-in-Ok-clause-ok g t c =
    let sources = sources_for c.args.layer.now (g.L.Layers.files c.args.layers.now) in
    let read = read_within c.args.left sources in
    let place = where_is c.args.place.now in
    let origin = origin_meant c.args.origin.now in
    let asked = asked_at place (words_in c.args.reading.now.lines (text_for c.args.layer.now c.args.text.now)) in
    let go = λ (ws : List (List ℕ)). includes_after read sources place origin c.args.must ws c.args.reading.now in
    on_ok_weaker c.include_words.result (λ h told. named_reads asked go (then asked go) c.in-Ok.words c.as_slice-words.result.now c.include_words.new.reading refl c.in-Ok.ensures.ok c.as_slice-words.ensures (h told)) c.include_words.ensures.ok

pub include_named-returns-in-Ok-clause-err : goal.include_named-returns-in-Ok-clause-err
include_named-returns-in-Ok-clause-err g t c =
    let sources = sources_for c.args.layer.now (g.L.Layers.files c.args.layers.now) in
    let read = read_within c.args.left sources in
    let place = where_is c.args.place.now in
    let origin = origin_meant c.args.origin.now in
    let asked = asked_at place (words_in c.args.reading.now.lines (text_for c.args.layer.now c.args.text.now)) in
    let go = λ (ws : List (List ℕ)). includes_after read sources place origin c.args.must ws c.args.reading.now in
    if_err c.include_words.result _ _ (λ fault h told. named_fault asked go (then asked go) c.in-Ok.words c.as_slice-words.result.now fault refl c.in-Ok.ensures.ok c.as_slice-words.ensures (h told)) c.include_words.ensures.err

pub include_named-returns-in-Err-clause-err : goal.include_named-returns-in-Err-clause-err
include_named-returns-in-Err-clause-err g t c = λ told.
    let sources = sources_for c.args.layer.now (g.L.Layers.files c.args.layers.now) in
    let read = read_within c.args.left sources in
    let place = where_is c.args.place.now in
    let origin = origin_meant c.args.origin.now in
    let asked = asked_at place (words_in c.args.reading.now.lines (text_for c.args.layer.now c.args.text.now)) in
    let go = λ (ws : List (List ℕ)). includes_after read sources place origin c.args.must ws c.args.reading.now in
    fault_on c.in-Err.fault asked go c.in-Err.ensures.err

pub inherit_named-returns-in-Ok-clause-ok : goal.inherit_named-returns-in-Ok-clause-ok
inherit_named-returns-in-Ok-clause-ok g t c =
    let sources = sources_for c.args.layer.now (g.L.Layers.files c.args.layers.now) in
    let read = read_within c.args.left sources in
    let place = where_is c.args.place.now in
    let asked = asked_at place (words_in c.args.reading.now.lines c.args.text.now) in
    let go = λ (ws : List (List ℕ)). classes_after read sources place true ws c.args.reading.now in
    on_ok_weaker c.inherit_words.result (λ h told. named_reads asked go (then asked go) c.in-Ok.names c.as_slice.result.now c.inherit_words.new.reading refl c.in-Ok.ensures.ok c.as_slice.ensures (h told)) c.inherit_words.ensures.ok

pub inherit_named-returns-in-Ok-clause-err : goal.inherit_named-returns-in-Ok-clause-err
inherit_named-returns-in-Ok-clause-err g t c =
    let sources = sources_for c.args.layer.now (g.L.Layers.files c.args.layers.now) in
    let read = read_within c.args.left sources in
    let place = where_is c.args.place.now in
    let asked = asked_at place (words_in c.args.reading.now.lines c.args.text.now) in
    let go = λ (ws : List (List ℕ)). classes_after read sources place true ws c.args.reading.now in
    if_err c.inherit_words.result _ _ (λ fault h told. named_fault asked go (then asked go) c.in-Ok.names c.as_slice.result.now fault refl c.in-Ok.ensures.ok c.as_slice.ensures (h told)) c.inherit_words.ensures.err

pub inherit_named-returns-in-Err-clause-err : goal.inherit_named-returns-in-Err-clause-err
inherit_named-returns-in-Err-clause-err g t c = λ told.
    let sources = sources_for c.args.layer.now (g.L.Layers.files c.args.layers.now) in
    let read = read_within c.args.left sources in
    let place = where_is c.args.place.now in
    let asked = asked_at place (words_in c.args.reading.now.lines c.args.text.now) in
    let go = λ (ws : List (List ℕ)). classes_after read sources place true ws c.args.reading.now in
    fault_on c.in-Err.fault asked go c.in-Err.ensures.err

pub run_statement-returns-in-Include-clause-ok : goal.run_statement-returns-in-Include-clause-ok
run_statement-returns-in-Include-clause-ok g t c =
    let sources = sources_for c.args.layer.now (g.L.Layers.files c.args.layers.now) in
    let read = read_within c.args.left sources in
    let place = where_is c.args.place.now in
    let origin = origin_meant c.args.origin.now in
    on_ok_weaker c.include_named.result (λ h told. include_parts read sources place origin c.args.layer.now c.args.statement.now c.in-Include.path c.args.reading.now c.in-Include.is ∙ h told) c.include_named.ensures.ok

pub run_statement-returns-in-Include-clause-err : goal.run_statement-returns-in-Include-clause-err
run_statement-returns-in-Include-clause-err g t c =
    let sources = sources_for c.args.layer.now (g.L.Layers.files c.args.layers.now) in
    let read = read_within c.args.left sources in
    let place = where_is c.args.place.now in
    let origin = origin_meant c.args.origin.now in
    if_err c.include_named.result _ _
    (λ fault h told. fault_same fault (statement_after read sources place origin (statement_for c.args.layer.now c.args.statement.now) c.args.reading.now) (includes_named read sources place origin false c.args.layer.now c.in-Include.path c.args.reading.now)
    (include_parts read sources place origin c.args.layer.now c.args.statement.now c.in-Include.path c.args.reading.now c.in-Include.is) (h told))
    c.include_named.ensures.err

pub run_statement-returns-in-Require-clause-ok : goal.run_statement-returns-in-Require-clause-ok
run_statement-returns-in-Require-clause-ok g t c =
    let sources = sources_for c.args.layer.now (g.L.Layers.files c.args.layers.now) in
    let read = read_within c.args.left sources in
    let place = where_is c.args.place.now in
    let origin = origin_meant c.args.origin.now in
    on_ok_weaker c.include_named-in-Require.result (λ h told. require_parts read sources place origin c.args.layer.now c.args.statement.now c.in-Require.path c.args.reading.now c.in-Require.is ∙ h told) c.include_named-in-Require.ensures.ok

pub run_statement-returns-in-Require-clause-err : goal.run_statement-returns-in-Require-clause-err
run_statement-returns-in-Require-clause-err g t c =
    let sources = sources_for c.args.layer.now (g.L.Layers.files c.args.layers.now) in
    let read = read_within c.args.left sources in
    let place = where_is c.args.place.now in
    let origin = origin_meant c.args.origin.now in
    if_err c.include_named-in-Require.result _ _
    (λ fault h told. fault_same fault (statement_after read sources place origin (statement_for c.args.layer.now c.args.statement.now) c.args.reading.now) (includes_named read sources place origin true c.args.layer.now c.in-Require.path c.args.reading.now)
    (require_parts read sources place origin c.args.layer.now c.args.statement.now c.in-Require.path c.args.reading.now c.in-Require.is) (h told))
    c.include_named-in-Require.ensures.err

pub run_statement-returns-in-Inherit-clause-ok : goal.run_statement-returns-in-Inherit-clause-ok
run_statement-returns-in-Inherit-clause-ok g t c =
    let sources = sources_for c.args.layer.now (g.L.Layers.files c.args.layers.now) in
    let read = read_within c.args.left sources in
    let place = where_is c.args.place.now in
    let origin = origin_meant c.args.origin.now in
    on_ok_weaker c.inherit_named.result (λ h told. inherit_parts read sources place origin c.args.layer.now c.args.statement.now c.in-Inherit.names c.args.reading.now c.in-Inherit.is ∙ h told) c.inherit_named.ensures.ok

pub run_statement-returns-in-Inherit-clause-err : goal.run_statement-returns-in-Inherit-clause-err
run_statement-returns-in-Inherit-clause-err g t c =
    let sources = sources_for c.args.layer.now (g.L.Layers.files c.args.layers.now) in
    let read = read_within c.args.left sources in
    let place = where_is c.args.place.now in
    let origin = origin_meant c.args.origin.now in
    if_err c.inherit_named.result _ _
    (λ fault h told. fault_same fault (statement_after read sources place origin (statement_for c.args.layer.now c.args.statement.now) c.args.reading.now) (classes_named read sources place c.in-Inherit.names c.args.reading.now)
    (inherit_parts read sources place origin c.args.layer.now c.args.statement.now c.in-Inherit.names c.args.reading.now c.in-Inherit.is) (h told))
    c.inherit_named.ensures.err
