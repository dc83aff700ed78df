-- What is kept stays right.
use Rattle.std.proofs.Common.{◌≡◌, refl, sym, ◌∙◌, ap, subst, ℕ, Bool, true, false, cond, List, [], ◌++◌, Option, Some, None, is_some, Result, Ok, Err, OnErr, OnOk, bytes_eq}
use Rattle.std.specs.BTreeMap.{get_by_text}
use Rattle.std.specs.Map.{update}
use Rattle.meta_model.proofs.Bools.{same_text}
use Rattle.meta_model.specs.declared.entry.EntryLine.{EntryLine}
use Rattle.meta_model.specs.Active.{find_in}
use Rattle.meta_model.specs.declared.value.Resolved.{Resolved}
use Rattle.task_model.specs.Views.{seen_by, is_bare}
use Rattle.task_model.specs.Leads.{View}
use Rattle.task_model.specs.Keys.{led_to, line_of, names_led}
use Rattle.task_model.proofs.Shared.{one_find, seen_as_is}
use Rattle.var_deps.specs.declared.line.Line.{Line}
use Rattle.var_deps.specs.declared.line.Known.{Known}
use Rattle.var_deps.specs.declared.table.Shared.{Shared}
use Rattle.var_deps.specs.declared.table.Table.{Table}
use Rattle.var_deps.specs.Seen.{seen_with}
use Rattle.var_deps.specs.Reading.{view_by}
use Rattle.var_deps.specs.Known.{IsKnown, IsLine, read_led, read_line}
use Rattle.var_deps.specs.Kept.{IsRight, IsReady, IsSame, StaysSo, shared_view, task_view}
use Rattle.var_deps.specs.Leaders.{shared_led, shared_led_is, task_led, task_led_is}
use Rattle.var_deps.proofs.Tables.{leads_read, line_read}

pub on_err : {T E P : Type 0} (r : Result T E) → P → OnErr r P
on_err (Ok x) h = tt
on_err (Err e) h = h

-- maps by name

one_more : (view : View) (b : Bool) (name q : List ℕ) (value : Known) (old : Option Known) (known : Known) → (b ≡ true → name ≡ q) → (old ≡ Some known → IsKnown view false q known) → IsKnown view false name value → cond b (Some value) old ≡ Some known → IsKnown view false q known
one_more view true name q value old known same was is e = subst (λ k. IsKnown view false q k) (let k : value ≡ known = cc in k) (subst (λ n. IsKnown view false n value) (same refl) is)
one_more view false name q value old known same was is e = was e

pub still_known : (view : View) (old new : List ℕ → Option Known) (name : List ℕ) (value : Known) → ((q : List ℕ) → new q ≡ update bytes_eq old name (Some value) q) → ((q : List ℕ) (known : Known) → old q ≡ Some known → IsKnown view false q known) → IsKnown view false name value
    → (q : List ℕ) (known : Known) → new q ≡ Some known → IsKnown view false q known
still_known view old new name value put was is q known e = one_more view (bytes_eq name q) name q value (old q) known (same_text name q) (was q known) is (sym (put q) ∙ e)

pub is_there : (old new : List ℕ → Option Known) (name : List ℕ) (value : Known) → ((q : List ℕ) → new q ≡ update bytes_eq old name (Some value) q) → bytes_eq name name ≡ true → is_some (new name) ≡ true
is_there old new name value put e = ap is_some (put name) ∙ ap (λ b. is_some (cond b (Some value) (old name))) e

-- views

pub view_same : (old new : Shared) → IsSame old new → shared_view new ≡ shared_view old
view_same old new same =
    ap (λ s. view_by s new.seen.task new.ignored false []) same.store
    ∙ ap (λ o. view_by old.seen.store.now o new.ignored false []) same.task
    ∙ ap (λ i. view_by old.seen.store.now old.seen.task i false []) same.ignored

pub task_view_same : (old new : Shared) (sstate : Bool) (task : List ℕ) → IsSame old new → view_by new.seen.store.now new.seen.task new.ignored sstate task ≡ view_by old.seen.store.now old.seen.task old.ignored sstate task
task_view_same old new sstate task same =
    ap (λ s. view_by s new.seen.task new.ignored sstate task) same.store
    ∙ ap (λ o. view_by old.seen.store.now o new.ignored sstate task) same.task
    ∙ ap (λ i. view_by old.seen.store.now old.seen.task i sstate task) same.ignored

pub ready_still : (t : Table) (s : Shared) → IsReady t → IsRight s → IsSame t.shared s → IsReady (record { shared = s; task = t.task; sstate = t.sstate; own = t.own })
ready_still t s ready right same = record {
  right = right;
  own = subst (λ v. IsKnown v true t.task t.own) (sym (task_view_same t.shared s t.sstate t.task same)) ready.own;
  seen = ap (λ o. seen_with s.seen.store.now o) same.task ∙ ap (λ l. seen_with l t.shared.seen.task) same.store ∙ ready.seen ∙ ap (λ l. seen_by t.task (find_in l)) (sym same.store);
}

-- what a name leads to

pub own_led : (view : View) (name : List ℕ) (items : List (List ℕ)) → bytes_eq name view.task ≡ true → items ≡ names_led (read_led view true view.task) → items ≡ led_to view name
own_led view name items e h =
    h ∙ ap (λ n. names_led (read_led view true n)) (sym (same_text name view.task e)) ∙ ap names_led (sym (leads_read view true name e))

pub other_led : (view : View) (name : List ℕ) → bytes_eq name view.task ≡ false → names_led (read_led view false name) ≡ led_to view name
other_led view name e = ap names_led (sym (leads_read view false name e))

-- lines

pub own_line : (view : View) (name : List ℕ) (line : Line) → bytes_eq name view.task ≡ true → IsLine line view.task (read_line view true view.task) → IsLine line name (line_of view name)
own_line view name line e h =
    subst (IsLine line name) (sym (line_read view true name e)) (subst (λ n. IsLine line n (read_line view true n)) (sym (same_text name view.task e)) h)

pub other_line : (view : View) (name : List ℕ) → bytes_eq name view.task ≡ false → read_line view false name ≡ line_of view name
other_line view name e = sym (line_read view false name e)

-- what is learned is right, also where it wasn't kept
pub learned : {T E : Type 0} (r : Result T E) (view : View) (old new : List ℕ → Option Known) (name : List ℕ) (value : Known) → OnOk r ((q : List ℕ) → new q ≡ update bytes_eq old name (Some value) q) → OnErr r ((q : List ℕ) → new q ≡ old q)
    → ((q : List ℕ) (known : Known) → old q ≡ Some known → IsKnown view false q known) → IsKnown view false name value → (q : List ℕ) (known : Known) → new q ≡ Some known → IsKnown view false q known
learned (Ok x) view old new name value put stays was is q known e = still_known view old new name value put was is q known e
learned (Err x) view old new name value put stays was is q known e = was q known (sym (stays q) ∙ e)

pub on_ok_pushed : {T E : Type 0} (r : Result T E) (new before led other : List (List ℕ)) → led ≡ other → OnOk r (new ≡ before ++ led) → OnOk r (new ≡ before ++ other)
on_ok_pushed (Ok x) new before led other e h = h ∙ ap (λ l. before ++ l) e
on_ok_pushed (Err x) new before led other e h = tt

-- what is kept of a name by now is what is read of it

pub led_kept : (old new : Shared) (name : List ℕ) (known : Known) (items : List (List ℕ)) → IsRight new → IsSame old new → get_by_text new.known name ≡ Some known → items ≡ known.led.items → items ≡ shared_led old name
led_kept old new name known items right same is e = let read = right.known name known is in e ∙ read.led ∙ ap (λ v. names_led (read_led v false name)) (view_same old new same) ∙ sym (ap (λ f. f name) (shared_led_is old))

pub line_kept : (old new : Shared) (name name' : List ℕ) (known : Known) → IsRight new → IsSame old new → get_by_text new.known name' ≡ Some known → name' ≡ name → IsLine known.line name (read_line (shared_view old) false name)
line_kept old new name name' known right same is e =
    let read = right.known name' known is in
    subst (λ v. IsLine known.line name (read_line v false name)) (view_same old new same) (subst (λ n. IsLine known.line n (read_line (shared_view new) false n)) e read.line)

pub itself : (shared : Shared) → IsSame shared shared
itself shared = record { store = refl; task = refl; ignored = refl }

-- what a task sees

pub seen_bare : (store : List EntryLine) (own : Option (List ℕ)) (text task made : List ℕ) → own ≡ Some text → text ≡ task → made ≡ task → seen_with store own ≡ seen_by made (find_in store)
seen_bare store own text task made o t m = ap (seen_with store) o ∙ ap (λ n. seen_by n (find_in store)) (t ∙ sym m)

pub seen_plain : (store : List EntryLine) (own : Option (List ℕ)) (task made : List ℕ) → own ≡ None → made ≡ task → ((found : Resolved) → (find_in store).at task ≡ Ok (Some found) → is_bare found ≡ false) → seen_with store own ≡ seen_by made (find_in store)
seen_plain store own task made o m h = ap (seen_with store) o ∙ sym (one_find (seen_by task (find_in store)) (find_in store) (seen_as_is (find_in store) task h)) ∙ ap (λ n. seen_by n (find_in store)) (sym m)

pub stays_view : (a b : Table) → StaysSo a b → task_view b ≡ task_view a
stays_view a b same =
    ap (λ n. view_by b.shared.seen.store.now b.shared.seen.task b.shared.ignored b.sstate n) same.task
    ∙ ap (λ s. view_by b.shared.seen.store.now b.shared.seen.task b.shared.ignored s a.task) same.sstate
    ∙ task_view_same a.shared b.shared a.sstate a.task same.shared

-- what names lead to stays the same

pub same_led : (old new : Shared) → IsSame old new → shared_led new ≡ shared_led old
same_led old new same = shared_led_is new ∙ ap (λ v. λ (name : List ℕ). names_led (read_led v false name)) (view_same old new same) ∙ sym (shared_led_is old)

pub stays_led : (t : Table) (s : Shared) → IsSame t.shared s → task_led (record { shared = s; task = t.task; sstate = t.sstate; own = t.own }) ≡ task_led t
stays_led t s same =
    let new : Table = record { shared = s; task = t.task; sstate = t.sstate; own = t.own } in
    task_led_is new ∙ ap led_to (task_view_same t.shared s t.sstate t.task same) ∙ sym (task_led_is t)

-- and is the same for the task, but of its own name
pub other_shared : (t : Table) (name : List ℕ) → bytes_eq name t.task ≡ false → shared_led t.shared name ≡ task_led t name
other_shared t name e = ap (λ f. f name) (shared_led_is t.shared) ∙ other_led (task_view t) name e ∙ sym (ap (λ f. f name) (task_led_is t))

pub own_task : (t : Table) (name : List ℕ) (items : List (List ℕ)) → bytes_eq name t.task ≡ true → items ≡ names_led (read_led (task_view t) true t.task) → items ≡ task_led t name
own_task t name items e h = own_led (task_view t) name items e h ∙ sym (ap (λ f. f name) (task_led_is t))
