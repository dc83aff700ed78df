-- What a call of a folder's disk does to its story.
use Rattle.std.proofs.Common.{◌≡◌, ◌∙◌, sym, ap, refl, subst, arith, add-one, ℕ, suc, ◌≤◌, ◌<◌, ◌+◌, ◌-◌, min, Bool, true, false, All, List, ◌∷◌, ◌++◌, length, length-append, map, take, Option, Some, None, Result, Ok, Err}
use Rattle.std.specs.Prelude.{IfOk}
use Rattle.tree_model.specs.declared.entry.Entry.{Entry}
use Rattle.tree_model.specs.Path.{BeginsWith, inside}
use Rattle.outside_traits.specs.declared.call.Call.{Call}
use Rattle.outside_traits.specs.declared.call.Call.TheVariants.{Looked, Synced, Ended, Put, Moved}
use Rattle.outside_traits.specs.declared.fault.DiskFault.{DiskFault}
use Rattle.outside_traits.specs.declared.fault.DiskFault.TheVariants.{Failed, Memory}
use Rattle.outside_traits.specs.Store.{Store, put}
use Rattle.outside_traits.specs.Story.{IsSound, Story, before, ended, held_before, looked, moment, moved, put_at, synced}
use Rattle.outside_traits.specs.Answers.{Ends, HalfMoved, Lists, Reads, Removes, Renames, Syncs, Writes}
use Rattle.outside_traits.proofs.Puts.{moved-undone, put-other, put-undone}
use Rattle.sub_disk.specs.Sub.{Cuts, IsKept, IsPlace, IsSub, are_below, begins, below, call_below, is_below, is_lost, made_after, shown, sub_story}
use Rattle.sub_disk.proofs.Texts.{begins_front, both, drop_front, listed_begin, listing_below}
use Rattle.sub_disk.proofs.Below.{below_put}
use Rattle.sub_disk.proofs.Folder.{kept_open, sub_of}

module _ (prefix : List ℕ) (made : ℕ) (start old : Story) (sub : IsSub prefix made start old) where
  -- the story with one call more
  abbrev on : Store → Call → Story
  on h call = record { held = h; calls = call ∷ old.calls }

  -- one call more of the folder, and the folder's story by it
  abbrev pub Step : Story → Story → Type 0
  Step now then = IsSub prefix (suc made) start now × (sub_story prefix (moment start) (suc made) now ≡ then)

  one_more : (h : Store) (call : Call) → before call h ≡ old.held → is_below prefix call ≡ true → ((q rest : List ℕ) → prefix ≡ inside q rest → h q ≡ None) → IsSub prefix (suc made) start (on h call)
  one_more h call undone here clear = record {
    counted = let e = sub.counted in omega (arith, e);
    behind = sub.behind;
    held = ap (λ (g : Store). held_before made g old.calls) undone ∙ sub.held;
    calls = both (is_below prefix call) (are_below prefix (take made old.calls)) here sub.calls;
    settled = sub.settled;
    clear = clear;
  }

  -- no path of the folder is the folder's own or above it
  not_front : (q rest p : List ℕ) → prefix ≡ inside q rest → q ≡ prefix ++ p → ⊥
  not_front q rest p is same = let e = ap length is in let f = ap length same in let g = length-append q (47 ∷ rest) in let k = length-append prefix p in omega (arith, e, f, g, k)

  put_clear : (p : List ℕ) (x : Option Entry) (q rest : List ℕ) → prefix ≡ inside q rest → put old.held (prefix ++ p) x q ≡ None
  put_clear p x q rest is = put-other old.held (prefix ++ p) q x (λ same. not_front q rest p is same) ∙ sub.clear q rest is

  pub looked_on : Step (looked old) (looked (sub_story prefix (moment start) made old))
  looked_on = (one_more old.held Looked refl refl sub.clear, refl)

  pub synced_on : Step (synced old) (synced (sub_story prefix (moment start) made old))
  synced_on = (one_more old.held Synced refl refl sub.clear, refl)

  pub ended_on : (k there : ℕ) → there - moment start ≡ k → Step (ended there old) (ended k (sub_story prefix (moment start) made old))
  ended_on k there is = (
    one_more old.held (Ended there) refl refl sub.clear,
    (λ i. record { held = below prefix old.held; calls = Ended (is i) ∷ map (call_below prefix (moment start)) (take made old.calls) }),
  )

  pub put_on : (p : List ℕ) (x : Option Entry) → Step (put_at (prefix ++ p) x old) (put_at p x (sub_story prefix (moment start) made old))
  put_on p x = (
    one_more (put old.held (prefix ++ p) x) (Put (prefix ++ p) (old.held (prefix ++ p))) (put-undone old.held (prefix ++ p) x) (begins_front prefix p) (put_clear p x),
    let h = below_put prefix p x old.held in
        let d = drop_front prefix p in
        (λ i. record { held = h i; calls = Put (d i) (old.held (prefix ++ p)) ∷ map (call_below prefix (moment start)) (take made old.calls) }),
  )

  pub moved_on : (p q : List ℕ) (x y : Option Entry) → Step (moved (prefix ++ p) (prefix ++ q) x y old) (moved p q x y (sub_story prefix (moment start) made old))
  moved_on p q x y = (
    one_more (put (put old.held (prefix ++ p) x) (prefix ++ q) y) (Moved (prefix ++ p) (prefix ++ q) (old.held (prefix ++ p)) (old.held (prefix ++ q))) (moved-undone old.held (prefix ++ p) (prefix ++ q) x y)
        (both (begins prefix (prefix ++ p)) (begins prefix (prefix ++ q)) (begins_front prefix p) (begins_front prefix q))
        (λ r rest is. put-other (put old.held (prefix ++ p) x) (prefix ++ q) r y (λ same. not_front r rest q is same) ∙ put_clear p x r rest is),
    let h = below_put prefix q y (put old.held (prefix ++ p) x) ∙ ap (λ (s : Store). put s q y) (below_put prefix p x old.held) in
        let d = drop_front prefix p in
        let e = drop_front prefix q in
        (λ i. record { held = h i; calls = Moved (d i) (e i) (old.held (prefix ++ p)) (old.held (prefix ++ q)) ∷ map (call_below prefix (moment start)) (take made old.calls) }),
  )

-- ---- by the answers

-- what a call of the folder's disk did: what is kept goes on, and the folder's story goes on as the other disk's does
pub record Told (prefix : List ℕ) (made n : ℕ) (spent then_spent : Bool) (start old new : Story) (P : Story → Story → Type 0) : Type 0 where
  pub kept : IsKept prefix n then_spent start new
  pub told : P (sub_story prefix (moment start) made (shown spent old)) (sub_story prefix (moment start) n (shown then_spent new))

module _ (prefix : List ℕ) (place : IsPlace prefix) (made n : ℕ) (start old new : Story) (sound : IsSound new) (sub : IsSub prefix made start old) where
  abbrev At : ℕ → Story → Story
  At = sub_story prefix (moment start)

  -- after one call more
  after : (now then : Story) → n ≡ made + 1 → new ≡ now → Step prefix made start old sub now then → IsKept prefix n false start new × (At n new ≡ then)
  after now then count is step =
      let one : n ≡ suc made = count ∙ add-one made in (
        kept_open prefix place n start new (subst (λ (m : ℕ). IsSub prefix m start new) (sym one) (subst (IsSub prefix (suc made) start) (sym is) step.0)) sound,
        ap (λ (m : ℕ). At m new) one ∙ ap (At (suc made)) is ∙ step.1,
      )

  -- after a call that was none
  still : n ≡ made → new ≡ old → IsKept prefix n false start new × (At n new ≡ At made old)
  still count is = (
    kept_open prefix place n start new (subst (λ (m : ℕ). IsSub prefix m start new) (sym count) (subst (IsSub prefix made start) (sym is) sub)) sound,
    ap (λ (m : ℕ). At m new) count ∙ ap (At made) is,
  )

  abbrev Does : (Story → Story → Type 0) → Type 0
  Does P = Told prefix made n false false start old new P

  reads_open : (p : List ℕ) (r : Result (Option Entry) DiskFault) → n ≡ made_after r made → Reads (prefix ++ p) old new r → Does (λ a b. Reads p a b r)
  reads_open p (Ok v) count did = let g = after _ _ count did.answers.1 (looked_on prefix made start old sub) in record { kept = g.0; told = record { answers = (did.answers.0, g.1) } }
  reads_open p (Err Failed) count did = let g = after _ _ count did.answers (looked_on prefix made start old sub) in record { kept = g.0; told = record { answers = g.1 } }
  reads_open p (Err Memory) count did = let g = still count did.answers in record { kept = g.0; told = record { answers = g.1 } }

  syncs_open : {T : Type 0} (r : Result T DiskFault) → n ≡ made_after r made → Syncs old new r → Does (λ a b. Syncs a b r)
  syncs_open (Ok v) count did = let g = after _ _ count did.answers (synced_on prefix made start old sub) in record { kept = g.0; told = record { answers = g.1 } }
  syncs_open (Err Failed) count did = let g = after _ _ count did.answers (looked_on prefix made start old sub) in record { kept = g.0; told = record { answers = g.1 } }
  syncs_open (Err Memory) count did = let g = still count did.answers in record { kept = g.0; told = record { answers = g.1 } }

  ends_open : {T : Type 0} (k there : ℕ) (r : Result T DiskFault) → there - moment start ≡ k → n ≡ made_after r made → Ends there old new r → Does (λ a b. Ends k a b r)
  ends_open k there (Ok v) is count did = let g = after _ _ count did.answers (ended_on prefix made start old sub k there is) in record { kept = g.0; told = record { answers = g.1 } }
  ends_open k there (Err Failed) is count did = let g = after _ _ count did.answers (looked_on prefix made start old sub) in record { kept = g.0; told = record { answers = g.1 } }
  ends_open k there (Err Memory) is count did = let g = still count did.answers in record { kept = g.0; told = record { answers = g.1 } }

  writes_open : {T : Type 0} (p : List ℕ) (e : Entry) (r : Result T DiskFault) → n ≡ made_after r made → Writes (prefix ++ p) e old new r → Does (λ a b. Writes p e a b r)
  writes_open p e (Ok v) count did = let g = after _ _ count did.answers (put_on prefix made start old sub p (Some e)) in record { kept = g.0; told = record { answers = g.1 } }
  writes_open p e (Err Failed) count did = let g = after _ _ count did.answers.1 (put_on prefix made start old sub p did.answers.0) in record { kept = g.0; told = record { answers = (did.answers.0, g.1) } }
  writes_open p e (Err Memory) count did = let g = still count did.answers in record { kept = g.0; told = record { answers = g.1 } }

  removes_open : {T : Type 0} (p : List ℕ) (r : Result T DiskFault) → n ≡ made_after r made → Removes (prefix ++ p) old new r → Does (λ a b. Removes p a b r)
  removes_open p (Ok v) count did = let g = after _ _ count did.answers (put_on prefix made start old sub p None) in record { kept = g.0; told = record { answers = g.1 } }
  removes_open p (Err Failed) count did = let g = after _ _ count did.answers.1 (put_on prefix made start old sub p did.answers.0) in record { kept = g.0; told = record { answers = (did.answers.0, g.1) } }
  removes_open p (Err Memory) count did = let g = still count did.answers in record { kept = g.0; told = record { answers = g.1 } }

  renames_open : {T : Type 0} (p q : List ℕ) (r : Result T DiskFault) → n ≡ made_after r made → Renames (prefix ++ p) (prefix ++ q) old new r → Does (λ a b. Renames p q a b r)
  renames_open p q (Ok v) count did = let g = after _ _ count did.answers (moved_on prefix made start old sub p q None (old.held (prefix ++ p))) in record { kept = g.0; told = record { answers = g.1 } }
  renames_open p q (Err Failed) count did =
      let half : HalfMoved p q (below prefix old.held) did.answers.0 did.answers.1 = record { source = did.answers.2.source; target = did.answers.2.target } in
      let g = after _ _ count did.answers.3 (moved_on prefix made start old sub p q did.answers.0 did.answers.1) in
      record { kept = g.0; told = record { answers = (did.answers.0, did.answers.1, half, g.1) } }
  renames_open p q (Err Memory) count did = let g = still count did.answers in record { kept = g.0; told = record { answers = g.1 } }

  -- a list for whose names there was no memory
  lost : n ≡ made → new ≡ looked old → IsKept prefix made false start old → IsKept prefix n true start new × (At n (shown true new) ≡ At made old)
  lost count is kept =
      let back : shown true new ≡ old = ap (shown true) is in
      let told : At n (shown true new) ≡ At made old = ap (λ (m : ℕ). At m (shown true new)) count ∙ ap (At made) back in (
        record {
          sub = subst (λ (m : ℕ). IsSub prefix m start (shown true new)) (sym count) (subst (IsSub prefix made start) (sym back) sub);
          look = is ∙ ap looked (sym back);
          lawful = subst IsSound (sym told) kept.lawful;
        },
        told,
      )

  lists_open : (asked : List ℕ) (then_spent : Bool) (listed names : Result (List (List ℕ)) DiskFault) → IsKept prefix made false start old → then_spent ≡ is_lost listed names → n ≡ made_after names made → Lists (prefix ++ asked) old new listed
      → (IfOk listed (λ paths. All (λ p. BeginsWith prefix p) paths) → Cuts prefix listed names) → Told prefix made n false then_spent start old new (λ a b. Lists asked a b names)
  lists_open asked then_spent (Ok paths) (Ok names) kept is count did cuts =
      let g = after _ _ count did.answers.1 (looked_on prefix made start old sub) in
      let cut : map (λ n. prefix ++ n) names ≡ paths = cuts (listed_begin prefix asked old.held paths did.answers.0) in
      let listing = listing_below prefix asked old.held paths names cut did.answers.0 in
      subst (λ (b : Bool). Told prefix made n false b start old new (λ a b. Lists asked a b (Ok names))) (sym is)
      (record { kept = g.0; told = record { answers = (listing, g.1) } })
  lists_open asked then_spent (Ok paths) (Err Failed) kept is count did cuts = absurd (cuts (listed_begin prefix asked old.held paths did.answers.0))
  lists_open asked then_spent (Ok paths) (Err Memory) kept is count did cuts =
      let g = lost count did.answers.1 kept in
      subst (λ (b : Bool). Told prefix made n false b start old new (λ a b. Lists asked a b (Err Memory))) (sym is)
      (record { kept = g.0; told = record { answers = g.1 } })
  lists_open asked then_spent (Err Failed) (Ok names) kept is count did cuts = absurd (cuts tt)
  lists_open asked then_spent (Err Memory) (Ok names) kept is count did cuts = absurd (cuts tt)
  lists_open asked then_spent (Err Failed) (Err Failed) kept is count did cuts =
      let g = after _ _ count did.answers (looked_on prefix made start old sub) in
      subst (λ (b : Bool). Told prefix made n false b start old new (λ a b. Lists asked a b (Err Failed))) (sym is)
      (record { kept = g.0; told = record { answers = g.1 } })
  lists_open asked then_spent (Err Memory) (Err Memory) kept is count did cuts =
      let g = still count did.answers in
      subst (λ (b : Bool). Told prefix made n false b start old new (λ a b. Lists asked a b (Err Memory))) (sym is)
      (record { kept = g.0; told = record { answers = g.1 } })
  lists_open asked then_spent (Err Failed) (Err Memory) kept is count did cuts = absurd (let e : Memory ≡ Failed = cuts tt in cc)
  lists_open asked then_spent (Err Memory) (Err Failed) kept is count did cuts = absurd (let e : Failed ≡ Memory = cuts tt in cc)

-- ---- as the disk knows it

module _ (prefix : List ℕ) (place : IsPlace prefix) (made n : ℕ) (spent : Bool) (start old new : Story) (is_open : spent ≡ false) (kept : IsKept prefix made spent start old) (sound : IsSound new) where
  sub : IsSub prefix made start old
  sub = sub_of prefix made spent start old is_open kept

  abbrev Did : (Story → Story → Type 0) → Type 0
  Did P = Told prefix made n spent spent start old new P

  lift : (P : Story → Story → Type 0) → Told prefix made n false false start old new P → Did P
  lift P did = subst (λ (b : Bool). Told prefix made n b b start old new P) (sym is_open) did

  pub reads : (whole p : List ℕ) (r : Result (Option Entry) DiskFault) → whole ≡ prefix ++ p → n ≡ made_after r made → Reads whole old new r → Did (λ a b. Reads p a b r)
  reads whole p r is count did = lift _ (reads_open prefix place made n start old new sound sub p r count (subst (λ (q : List ℕ). Reads q old new r) is did))

  pub syncs : {T : Type 0} (r : Result T DiskFault) → n ≡ made_after r made → Syncs old new r → Did (λ a b. Syncs a b r)
  syncs r count did = lift _ (syncs_open prefix place made n start old new sound sub r count did)

  pub ends : {T : Type 0} (k there : ℕ) (r : Result T DiskFault) → there - moment start ≡ k → n ≡ made_after r made → Ends there old new r → Did (λ a b. Ends k a b r)
  ends k there r is count did = lift _ (ends_open prefix place made n start old new sound sub k there r is count did)

  pub writes : {T : Type 0} (whole p : List ℕ) (e : Entry) (r : Result T DiskFault) → whole ≡ prefix ++ p → n ≡ made_after r made → Writes whole e old new r → Did (λ a b. Writes p e a b r)
  writes whole p e r is count did = lift _ (writes_open prefix place made n start old new sound sub p e r count (subst (λ (q : List ℕ). Writes q e old new r) is did))

  pub removes : {T : Type 0} (whole p : List ℕ) (r : Result T DiskFault) → whole ≡ prefix ++ p → n ≡ made_after r made → Removes whole old new r → Did (λ a b. Removes p a b r)
  removes whole p r is count did = lift _ (removes_open prefix place made n start old new sound sub p r count (subst (λ (q : List ℕ). Removes q old new r) is did))

  pub renames : {T : Type 0} (source target p q : List ℕ) (r : Result T DiskFault) → source ≡ prefix ++ p → target ≡ prefix ++ q → n ≡ made_after r made → Renames source target old new r → Did (λ a b. Renames p q a b r)
  renames source target p q r is_source is_target count did = lift _ (renames_open prefix place made n start old new sound sub p q r count
      (subst (λ (t : List ℕ). Renames (prefix ++ p) t old new r) is_target (subst (λ (s : List ℕ). Renames s target old new r) is_source did)))

  pub lists : (whole asked : List ℕ) (then_spent : Bool) (listed names : Result (List (List ℕ)) DiskFault) → whole ≡ prefix ++ asked → then_spent ≡ is_lost listed names → n ≡ made_after names made → Lists whole old new listed
      → (IfOk listed (λ paths. All (λ p. BeginsWith prefix p) paths) → Cuts prefix listed names) → Told prefix made n spent then_spent start old new (λ a b. Lists asked a b names)
  lists whole asked then_spent listed names is lost count did cuts =
      subst (λ (b : Bool). Told prefix made n b then_spent start old new (λ a b. Lists asked a b names)) (sym is_open)
      (lists_open prefix place made n start old new sound sub asked then_spent listed names (subst (λ (b : Bool). IsKept prefix made b start old) is_open kept) lost count
      (subst (λ (q : List ℕ). Lists q old new listed) is did) cuts)

-- ---- moments of tickets

-- The other disk's moment of a ticket, by the moment at the start as far as a number below `top` goes.
pub there_is : (top s begin k there : ℕ) → begin ≡ min s (top - 1) → (begin + k < top) × (there ≡ begin + k) → there - s ≡ k
there_is top s begin k there b t = let lt = t.0 in let is = t.1 in omega (arith, b, lt, is)

pub there_past : (top s begin k there made now : ℕ) → begin ≡ min s (top - 1) → (begin + k < top) × (there ≡ begin + k) → k ≤ made → now ≡ made + s → there ≤ now
there_past top s begin k there made now b t past is = let lt = t.0 in let e = t.1 in omega (arith, b, lt, e, past, is)
