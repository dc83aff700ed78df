-- What opening takes away.
use Rattle.std.proofs.Common.{◌≡◌, ◌∙◌, sym, ap, subst, refl, ℕ, ◌+◌, ◌<◌, ◌≤◌, ◌⊎◌, inl, inr, zero, suc, List, [], ◌∷◌, ◌++◌, arith, append_assoc, get_or, length, length-append, take, None, Ok}
use Rattle.std.specs.Prelude.{codes, Contains, IsSome}
use Rattle.std.specs.Option.{is_some}
use Rattle.std.proofs.lemmas.Bool.{false≢true}
use Rattle.std.proofs.lemmas.List.{map-append, take_all, take_more}
use Rattle.std.proofs.lemmas.List.Elements.{Contains-append_left, Contains-append_right, Contains-append_cases, Contains-push, Contains-push_cases}
use Rattle.std.proofs.lemmas.Option.{get_or_from_slice_get}
use Rattle.tree_model.specs.Hash.{hash_text}
use Rattle.tree_model.specs.Path.{BeginsWith, IsBelow, inside}
use Rattle.outside_traits.specs.Store.{ChangesAt, IsListing, Store}
use Rattle.outside_traits.specs.Story.{Story}
use Rattle.outside_traits.specs.Answers.{Removes}
use Rattle.outside_traits.proofs.Held.{removed_none, removes_ok}
use Rattle.outside_traits.proofs.Folders.{under_same}
use Rattle.store_model.specs.declared.candidate.Candidate.{Candidate}
use Rattle.store_model.specs.Opened.{IsBlocked, IsElsewhere, IsKeyPlace, IsLeft, IsRecordFile, IsStamp}
use Rattle.store_model.specs.Paths.{record_path}
use Rattle.store_model.specs.Publication.{stamp_at, work_at}
use Rattle.store_opening.specs.declared.bare.Bare.{Bare}
use Rattle.store_opening.specs.Survey.{AreBare, AreBareIn, AreKeys, Dooms, HasNoWay, HeldFile, IsAt, IsBareOf, IsBlockedOf, IsTop, NotesBare, NotesBlocked, NotesHeld, TakesOut, paths_of, stamp_of}
use Rattle.store_opening.proofs.Areas.{differ, heads_differ}
use Rattle.store_opening.proofs.Indexed.{in_range}
use Rattle.store_opening.proofs.Surveyed.{believed_file, each_of}

held_none : (held : Store) (q : List ℕ) → held q ≡ None → IsSome (held q) → ⊥
held_none held q none some = false≢true (sym (ap is_some none) ∙ some)

-- one path of another kind goes
pub not_left_by : (held : Store) (q : List ℕ) → IsSome (held q) → (IsElsewhere q → ⊥) → ((c : Candidate) → IsRecordFile held c → q ≡ record_path c.name → ⊥) → (IsKeyPlace q → ⊥) → ((path : List ℕ) → IsStamp held path → q ≡ stamp_at path → ⊥) → IsLeft held q → ⊥
not_left_by held q some elsewhere records keys stamps (inl e) = elsewhere e
not_left_by held q some elsewhere records keys stamps (inr (inl b)) = records b.0 (believed_file held b.0 b.1) b.2
not_left_by held q some elsewhere records keys stamps (inr (inr (inl k))) = keys k
not_left_by held q some elsewhere records keys stamps (inr (inr (inr (inl t)))) = stamps t.0 t.1 t.2
not_left_by held q some elsewhere records keys stamps (inr (inr (inr (inr n)))) = held_none held q n some

-- ---- one of the five folders itself

pub no_slash : (top rest : List ℕ) → top ≡ inside top rest → ⊥
no_slash top rest is = let long = ap length is in omega (arith, long, length-append top (47 ∷ rest))

never_at : (held : Store) (top q : List ℕ) → q ≡ top → IsSome (held q) → (IsElsewhere top → ⊥) → ((rest : List ℕ) → top ≡ inside (codes "rec2") rest → ⊥) → ((rest : List ℕ) → top ≡ inside (codes "key") rest → ⊥) → ((rest : List ℕ) → top ≡ inside (codes "stamp") rest → ⊥) → IsLeft held q → ⊥
never_at held top q same some elsewhere no_record no_key no_stamp = not_left_by held q some (λ e. elsewhere (subst IsElsewhere same e)) (λ c file is. no_record (hash_text c.name) (sym same ∙ is)) (λ k. no_key (hash_text k.0) (sym same ∙ k.2)) (λ path t is. no_stamp path (sym same ∙ is))

top_never : (held : Store) (path q : List ℕ) → IsTop path → q ≡ path → IsSome (held q) → IsLeft held q → ⊥
top_never held path q (inl e) same some = never_at held (codes "rec2") q (same ∙ e) some (λ x. x.records (inl refl)) (λ rest is. no_slash (codes "rec2") rest is) (λ rest is. heads_differ (differ 114 107 refl) is) (λ rest is. heads_differ (differ 114 115 refl) is)
top_never held path q (inr (inl e)) same some = never_at held (codes "key") q (same ∙ e) some (λ x. x.keys (inl refl)) (λ rest is. heads_differ (differ 107 114 refl) is) (λ rest is. no_slash (codes "key") rest is) (λ rest is. heads_differ (differ 107 115 refl) is)
top_never held path q (inr (inr (inl e))) same some = never_at held (codes "stamp") q (same ∙ e) some (λ x. x.stamps (inl refl)) (λ rest is. heads_differ (differ 115 114 refl) is) (λ rest is. heads_differ (differ 115 107 refl) is) (λ rest is. no_slash (codes "stamp") rest is)
top_never held path q (inr (inr (inr (inl e)))) same some = never_at held (codes "tmp") q (same ∙ e) some (λ x. x.temporary (inl refl)) (λ rest is. heads_differ (differ 116 114 refl) is) (λ rest is. heads_differ (differ 116 107 refl) is) (λ rest is. heads_differ (differ 116 115 refl) is)
top_never held path q (inr (inr (inr (inr e)))) same some = never_at held (codes "obj") q (same ∙ e) some (λ x. x.objects refl) (λ rest is. heads_differ (differ 111 114 refl) is) (λ rest is. heads_differ (differ 111 107 refl) is) (λ rest is. heads_differ (differ 111 115 refl) is)

pub dooms_at : (held : Store) (path : List ℕ) (old new : List (List ℕ)) → IsTop path → NotesHeld held path old new → Dooms held (IsAt path) old new
dooms_at held path old new top (inl n) = record {
  kept = λ q has. subst (λ (l : List (List ℕ)). Contains l q) (sym n.1) (Contains-append_left old (path ∷ []) q has);
  sound = λ q has. by q (Contains-push_cases old path q (subst (λ (l : List (List ℕ)). Contains l q) n.1 has));
  whole = λ q at some. inl (subst (λ (l : List (List ℕ)). Contains l q) (sym n.1) (subst (Contains (old ++ path ∷ [])) (sym at) (Contains-push old path)));
}
  where
    by : (q : List ℕ) → Contains old q ⊎ (path ≡ q) → Contains old q ⊎ (IsAt path q × (IsLeft held q → ⊥))
    by q (inl has) = inl has
    by q (inr e) = inr (sym e, top_never held path q top (sym e) (subst (λ (p : List ℕ). IsSome (held p)) e n.0))
dooms_at held path old new top (inr n) = record {
  kept = λ q has. subst (λ (l : List (List ℕ)). Contains l q) (sym n.1) has;
  sound = λ q has. inl (subst (λ (l : List (List ℕ)). Contains l q) n.1 has);
  whole = λ q at some. absurd (held_none held q (ap held at ∙ n.0) some);
}

-- ---- tasks that gave nothing

-- one record more
pub bare_more : (cs : List Candidate) (n : ℕ) (c : Candidate) (old new : List Bare) → n < length cs → c ≡ get_or cs n c → AreBare (take n cs) old → NotesBare c old new → AreBare (take (n + 1) cs) new
bare_more cs n c old new lt is was notes = subst (λ (l : List Candidate). AreBare l new) (sym (take_more cs n c lt ∙ ap (λ (x : Candidate). take n cs ++ x ∷ []) (sym is))) (by notes)
  where
    More : List Candidate
    More = take n cs ++ c ∷ []

    further : (one : Bare) → (d : Candidate) × Contains (take n cs) d × IsBareOf d one → (d : Candidate) × Contains (take n cs ++ c ∷ []) d × IsBareOf d one
    further one w = (w.0, Contains-append_left (take n cs) (c ∷ []) w.0 w.1, w.2)

    by : NotesBare c old new → AreBare (take n cs ++ c ∷ []) new
    by (inl w) = record {
      sound = λ one has. of one (Contains-push_cases old w.0 one (subst (λ (l : List Bare). Contains l one) w.2 has));
      whole = λ d has empty. all d empty (Contains-push_cases (take n cs) c d has);
    }
      where
        of : (one : Bare) → Contains old one ⊎ (w.0 ≡ one) → (d : Candidate) × Contains (take n cs ++ c ∷ []) d × IsBareOf d one
        of one (inl has) = further one (was.sound one has)
        of one (inr e) = (c, Contains-push (take n cs) c, subst (IsBareOf c) e w.1)

        all : (d : Candidate) → d.stored.manifest ≡ [] → Contains (take n cs) d ⊎ (c ≡ d) → (one : Bare) × Contains new one × IsBareOf d one
        all d empty (inl has) = let o = was.whole d has empty in (o.0, subst (λ (l : List Bare). Contains l o.0) (sym w.2) (Contains-append_left old (w.0 ∷ []) o.0 o.1), o.2)
        all d empty (inr e) = (w.0, subst (λ (l : List Bare). Contains l w.0) (sym w.2) (Contains-push old w.0), subst (λ (x : Candidate). IsBareOf x w.0) e w.1)
    by (inr w) = record {
      sound = λ one has. further one (was.sound one (subst (λ (l : List Bare). Contains l one) w.1 has));
      whole = λ d has empty. all d empty (Contains-push_cases (take n cs) c d has);
    }
      where
        all : (d : Candidate) → d.stored.manifest ≡ [] → Contains (take n cs) d ⊎ (c ≡ d) → (one : Bare) × Contains new one × IsBareOf d one
        all d empty (inl has) = let o = was.whole d has empty in (o.0, subst (λ (l : List Bare). Contains l o.0) (sym w.1) o.1, o.2)
        all d empty (inr e) = absurd (w.0 (ap (λ (x : Candidate). x.stored.manifest) e ∙ empty))

-- a stamp is none where no folder can be at its work folder
pub blocked_never : (held : Store) (one : Bare) (q : List ℕ) → HasNoWay held one.pn → q ≡ stamp_of one → IsSome (held q) → IsLeft held q → ⊥
blocked_never held one q no_way is some = not_left_by held q some
    (λ e. e.stamps (inr (inside one.pn one.task, is)))
    (λ c file same. heads_differ (differ 115 114 refl) (sym is ∙ same))
    (λ k. heads_differ (differ 115 107 refl) (sym is ∙ k.2))
    (λ path t same. by path t.way (under_same (codes "stamp") (inside one.pn one.task) path (sym is ∙ same)) no_way)
  where
    by : (path : List ℕ) → ((p : List ℕ) → IsBelow p (work_at path) → held p ≡ None) → inside one.pn one.task ≡ path → HasNoWay held one.pn → ⊥
    by path way same (inl work) = held_none held (codes "work") (way (codes "work") (path, refl)) work
    by path way same (inr at) = held_none held (work_at one.pn) (way (work_at one.pn) (subst (λ (p : List ℕ). IsBelow (work_at one.pn) (work_at p)) same (one.task, sym (append_assoc (codes "work") (47 ∷ one.pn) (47 ∷ one.task))))) at

-- one task more is looked at
pub blocked_more : (held : Store) (bare : List Bare) (n : ℕ) (one : Bare) (start old new : List (List ℕ)) → n < length bare → one ≡ get_or bare n one → Dooms held (IsBlockedOf held (take n bare)) start old → NotesBlocked held one old new → Dooms held (IsBlockedOf held (take (n + 1) bare)) start new
blocked_more held bare n one start old new lt is was notes = subst (λ (l : List Bare). Dooms held (IsBlockedOf held l) start new) (sym (take_more bare n one lt ∙ ap (λ (x : Bare). take n bare ++ x ∷ []) (sym is))) (by notes)
  where
    More : List Bare
    More = take n bare ++ one ∷ []

    further : (q : List ℕ) → IsBlockedOf held (take n bare) q → IsBlockedOf held More q
    further q b = record { one = b.one; among = Contains-append_left (take n bare) (one ∷ []) b.one b.among; stamp = b.stamp; way = b.way }

    was_sound : (q : List ℕ) → Contains old q → Contains start q ⊎ (IsBlockedOf held More q × (IsLeft held q → ⊥))
    was_sound q has = elim (was.sound q has) [
      | inl first ↦ inl first
      | inr w ↦ inr (further q w.0, w.1)
    ]

    -- which of the tasks it is
    earlier : (q : List ℕ) (b : IsBlockedOf held More q) → Contains (take n bare) b.one → IsSome (held q) → Contains old q ⊎ IsLeft held q
    earlier q b has some = was.whole q (record { one = b.one; among = has; stamp = b.stamp; way = b.way }) some

    -- nothing more goes
    same : new ≡ old → (HasNoWay held one.pn → IsSome (held (stamp_of one)) → ⊥) → Dooms held (IsBlockedOf held More) start new
    same e never = record {
      kept = λ q has. subst (λ (l : List (List ℕ)). Contains l q) (sym e) (was.kept q has);
      sound = λ q has. was_sound q (subst (λ (l : List (List ℕ)). Contains l q) e has);
      whole = λ q b some. of q b some (Contains-push_cases (take n bare) one b.one b.among);
    }
      where
        of : (q : List ℕ) (b : IsBlockedOf held More q) → IsSome (held q) → Contains (take n bare) b.one ⊎ (one ≡ b.one) → Contains new q ⊎ IsLeft held q
        of q b some (inl has) = elim (earlier q b has some) [
          | inl c ↦ inl (subst (λ (l : List (List ℕ)). Contains l q) (sym e) c)
          | inr l ↦ inr l
        ]
        of q b some (inr i) = absurd (never (subst (λ (x : Bare). HasNoWay held x.pn) (sym i) b.way) (subst (λ (p : List ℕ). IsSome (held p)) (b.stamp ∙ ap stamp_of (sym i)) some))

    by : NotesBlocked held one old new → Dooms held (IsBlockedOf held More) start new
    by (inr w) = same w.1 (λ way some. w.0 way)
    by (inl (way, inr w)) = same w.1 (λ way' some. held_none held (stamp_of one) w.0 some)
    by (inl (way, inl w)) = record {
      kept = λ q has. subst (λ (l : List (List ℕ)). Contains l q) (sym w.1) (Contains-append_left old (stamp_of one ∷ []) q (was.kept q has));
      sound = λ q has. new_of q (Contains-push_cases old (stamp_of one) q (subst (λ (l : List (List ℕ)). Contains l q) w.1 has));
      whole = λ q b some. of q b some (Contains-push_cases (take n bare) one b.one b.among);
    }
      where
        new_of : (q : List ℕ) → Contains old q ⊎ (stamp_of one ≡ q) → Contains start q ⊎ (IsBlockedOf held More q × (IsLeft held q → ⊥))
        new_of q (inl has) = was_sound q has
        new_of q (inr e) = inr (record { one = one; among = Contains-push (take n bare) one; stamp = sym e; way = way }, blocked_never held one q way (sym e) (subst (λ (p : List ℕ). IsSome (held p)) e w.0))

        of : (q : List ℕ) (b : IsBlockedOf held More q) → IsSome (held q) → Contains (take n bare) b.one ⊎ (one ≡ b.one) → Contains new q ⊎ IsLeft held q
        of q b some (inl has) = elim (earlier q b has some) [
          | inl c ↦ inl (subst (λ (l : List (List ℕ)). Contains l q) (sym w.1) (Contains-append_left old (stamp_of one ∷ []) q c))
          | inr l ↦ inr l
        ]
        of q b some (inr i) = inl (subst (λ (l : List (List ℕ)). Contains l q) (sym w.1) (subst (Contains (old ++ stamp_of one ∷ [])) (sym (b.stamp ∙ ap stamp_of (sym i))) (Contains-push old (stamp_of one))))

pub blocked_none : (held : Store) (old : List (List ℕ)) → Dooms held (IsBlockedOf held []) old old
blocked_none held old = record { kept = λ q has. has; sound = λ q has. inl has; whole = λ q b some. (let lt = b.among.1 in absurd (omega (arith, lt))) }

-- the blocked stamps of what is held
pub dooms_blocked : (held : Store) (bare : List Bare) (old new : List (List ℕ)) → AreBareIn held bare → Dooms held (IsBlockedOf held bare) old new → Dooms held (IsBlocked held) old new
dooms_blocked held bare old new are was = record {
  kept = was.kept;
  sound = λ q has. elim (was.sound q has) [
    | inl first ↦ inl first
    | inr w ↦ inr (is_blocked q w.0, w.1)
  ];
  whole = λ q b some. was.whole q (blocked_is q b) some;
}
  where
    is_blocked : (q : List ℕ) → IsBlockedOf held bare q → IsBlocked held q
    is_blocked q b =
        let w = are.are.sound b.one b.among in
        record {
          candidate = w.0;
          file = each_of (IsRecordFile held) are.candidates w.0 are.found.each w.1;
          empty = w.2.empty;
          stamp = b.stamp ∙ (λ i. stamp_at (inside (w.2.pn i) (w.2.task i)));
          way = subst (HasNoWay held) w.2.pn b.way;
        }

    blocked_is : (q : List ℕ) → IsBlocked held q → IsBlockedOf held bare q
    blocked_is q b =
        let among = are.found.whole b.candidate b.file in
        let w = are.are.whole b.candidate (among.0, in_range are.candidates among.0 b.candidate among.1, get_or_from_slice_get are.candidates among.0 b.candidate b.candidate among.1) b.empty in
        record { one = w.0; among = w.1; stamp = b.stamp ∙ sym (λ i. stamp_at (inside (w.2.pn i) (w.2.task i))); way = subst (HasNoWay held) (sym w.2.pn) b.way }

-- all of these go, none of which is left
dooms_these : (held : Store) (area : List ℕ → Type 0) (paths old new : List (List ℕ)) → ((q : List ℕ) → area q → IsSome (held q) → Contains paths q) → ((q : List ℕ) → Contains paths q → area q) → ((q : List ℕ) → Contains paths q → IsLeft held q → ⊥) → new ≡ old ++ paths → Dooms held area old new
dooms_these held area paths old new all within never is = record {
  kept = λ q has. subst (λ (l : List (List ℕ)). Contains l q) (sym is) (Contains-append_left old paths q has);
  sound = λ q has. by q (Contains-append_cases old paths q (subst (λ (l : List (List ℕ)). Contains l q) is has));
  whole = λ q at some. inl (subst (λ (l : List (List ℕ)). Contains l q) (sym is) (Contains-append_right old paths q (all q at some)));
}
  where
    by : (q : List ℕ) → Contains old q ⊎ Contains paths q → Contains old q ⊎ (area q × (IsLeft held q → ⊥))
    by q (inl has) = inl has
    by q (inr has) = inr (within q has, never q has)

-- the path of one of some files
path_in : (files : List HeldFile) (f : HeldFile) → Contains files f → Contains (paths_of files) f.0
path_in [] f has = absurd (let lt = has.1 in omega (arith, lt))
path_in (x ∷ files) f (zero, lt, is) = (zero, omega arith, ap (λ (g : HeldFile). g.0) is)
path_in (x ∷ files) f (suc k, lt, is) = let p = path_in files f (k, omega (arith, lt), is) in (suc p.0, (let l = p.1 in omega (arith, l)), p.2)

-- what stands under `tmp/`
pub dooms_temporary : (held : Store) (paths old new : List (List ℕ)) → IsListing (codes "tmp/") held paths → new ≡ old ++ paths → Dooms held (BeginsWith (codes "tmp/")) old new
dooms_temporary held paths old new listing is = dooms_these held (BeginsWith (codes "tmp/")) paths old new listing.all (λ q has. (listing.are_held q has).0) never is
  where
    never : (q : List ℕ) → Contains paths q → IsLeft held q → ⊥
    never q has =
        let at = listing.are_held q has in
        not_left_by held q at.1 (λ e. e.temporary (inr (at.0.0, at.0.1)))
        (λ c file same. heads_differ (differ 116 114 refl) (sym at.0.1 ∙ same))
        (λ k. heads_differ (differ 116 107 refl) (sym at.0.1 ∙ k.2))
        (λ path t same. heads_differ (differ 116 115 refl) (sym at.0.1 ∙ same))

-- ---- what stands under `key/`

-- those of the first files that aren't the places of keys
abbrev pub KeysGo : Store → List HeldFile → List (List ℕ) → List (List ℕ) → Type 0
KeysGo held files old new = Dooms held (λ q. BeginsWith (codes "key/") q × Contains (paths_of files) q) old new

pub keys_none : (held : Store) (old : List (List ℕ)) → KeysGo held [] old old
keys_none held old = record { kept = λ q has. has; sound = λ q has. inl has; whole = λ q area some. (let lt = area.1.1 in absurd (omega (arith, lt))) }

pub keys_more : (held : Store) (files : List HeldFile) (n : ℕ) (f : HeldFile) (start old new : List (List ℕ)) → AreKeys held files → n < length files → f ≡ get_or files n f → KeysGo held (take n files) start old
    → (IsKeyPlace f.0 × (new ≡ old)) ⊎ ((IsKeyPlace f.0 → ⊥) × (new ≡ old ++ f.0 ∷ [])) → KeysGo held (take (n + 1) files) start new
keys_more held files n f start old new are lt is was which = subst (λ (l : List HeldFile). KeysGo held l start new) (sym (take_more files n f lt ∙ ap (λ (x : HeldFile). take n files ++ x ∷ []) (sym is))) (by which)
  where
    More : List (List ℕ)
    More = paths_of (take n files ++ f ∷ [])

    more_is : paths_of (take n files ++ f ∷ []) ≡ paths_of (take n files) ++ f.0 ∷ []
    more_is = map-append (λ (x : HeldFile). x.0) (take n files) (f ∷ [])

    further : (q : List ℕ) → Contains (paths_of (take n files)) q → Contains (paths_of (take n files ++ f ∷ [])) q
    further q has = subst (λ (l : List (List ℕ)). Contains l q) (sym more_is) (Contains-append_left (paths_of (take n files)) (f.0 ∷ []) q has)

    last : Contains (paths_of (take n files ++ f ∷ [])) f.0
    last = subst (λ (l : List (List ℕ)). Contains l f.0) (sym more_is) (Contains-push (paths_of (take n files)) f.0)

    cases : (q : List ℕ) → Contains (paths_of (take n files ++ f ∷ [])) q → Contains (paths_of (take n files)) q ⊎ (f.0 ≡ q)
    cases q has = Contains-push_cases (paths_of (take n files)) f.0 q (subst (λ (l : List (List ℕ)). Contains l q) more_is has)

    begins : BeginsWith (codes "key/") f.0
    begins = (are.listing.are_held f.0 (path_in files f (n, lt, sym is))).0

    by : (IsKeyPlace f.0 × (new ≡ old)) ⊎ ((IsKeyPlace f.0 → ⊥) × (new ≡ old ++ f.0 ∷ [])) → KeysGo held (take n files ++ f ∷ []) start new
    by (inl p) = record {
      kept = λ q has. subst (λ (l : List (List ℕ)). Contains l q) (sym p.1) (was.kept q has);
      sound = λ q has. elim (was.sound q (subst (λ (l : List (List ℕ)). Contains l q) p.1 has)) [
        | inl first ↦ inl first
        | inr w ↦ inr ((w.0.0, further q w.0.1), w.1)
      ];
      whole = λ q area some. elim (cases q area.1) [
        | inl has ↦ elim (was.whole q (area.0, has) some) [
          | inl c ↦ inl (subst (λ (l : List (List ℕ)). Contains l q) (sym p.1) c)
          | inr l ↦ inr l
        ]
        | inr e ↦ inr (inr (inr (inl (subst IsKeyPlace e p.0))))
      ];
    }
    by (inr w) = record {
      kept = λ q has. subst (λ (l : List (List ℕ)). Contains l q) (sym w.1) (Contains-append_left old (f.0 ∷ []) q (was.kept q has));
      sound = λ q has. elim (Contains-push_cases old f.0 q (subst (λ (l : List (List ℕ)). Contains l q) w.1 has)) [
        | inl earlier ↦ elim (was.sound q earlier) [
          | inl first ↦ inl first
          | inr x ↦ inr ((x.0.0, further q x.0.1), x.1)
        ]
        | inr e ↦ inr ((subst (BeginsWith (codes "key/")) e begins, subst (Contains (paths_of (take n files ++ f ∷ []))) e last), never q (sym e))
      ];
      whole = λ q area some. elim (cases q area.1) [
        | inl has ↦ elim (was.whole q (area.0, has) some) [
          | inl c ↦ inl (subst (λ (l : List (List ℕ)). Contains l q) (sym w.1) (Contains-append_left old (f.0 ∷ []) q c))
          | inr l ↦ inr l
        ]
        | inr e ↦ inl (subst (λ (l : List (List ℕ)). Contains l q) (sym w.1) (subst (Contains (old ++ f.0 ∷ [])) e (Contains-push old f.0)))
      ];
    }
      where
        never : (q : List ℕ) → q ≡ f.0 → IsLeft held q → ⊥
        never q same left =
            let at = are.listing.are_held f.0 (path_in files f (n, lt, sym is)) in
            not_left_by held f.0 at.1 (λ e. e.keys (inr (begins.0, begins.1)))
            (λ c file is'. heads_differ (differ 107 114 refl) (sym begins.1 ∙ is'))
            w.0
            (λ path t is'. heads_differ (differ 107 115 refl) (sym begins.1 ∙ is'))
            (subst (IsLeft held) same left)

-- all of them
pub keys_all : (held : Store) (files : List HeldFile) (n : ℕ) (old new : List (List ℕ)) → length files ≤ n → AreKeys held files → KeysGo held (take n files) old new → Dooms held (BeginsWith (codes "key/")) old new
keys_all held files n old new past are was = record {
  kept = was.kept;
  sound = λ q has. elim (was.sound q has) [
    | inl first ↦ inl first
    | inr w ↦ inr (w.0.0, w.1)
  ];
  whole = λ q area some. was.whole q (area, subst (λ (l : List HeldFile). Contains (paths_of l) q) (sym (take_all n files past)) (are.listing.all q area some)) some;
}

-- ---- removals

pub takes_join : (paths : List (List ℕ)) (i j k : Store) → TakesOut paths i j → TakesOut paths j k → TakesOut paths i k
takes_join paths i j k first second = record { others = λ q far. second.others q far ∙ first.others q far }

pub takes_one : (paths : List (List ℕ)) (p : List ℕ) (i j : Store) → Contains paths p → ChangesAt p i j → TakesOut paths i j
takes_one paths p i j has change = record { others = λ q far. change.others q (λ same. far (subst (Contains paths) (sym same) has)) }

-- the first paths hold nothing
abbrev pub GoneBelow : List (List ℕ) → ℕ → Store → Type 0
GoneBelow paths n held = (q : List ℕ) → Contains (take n paths) q → held q ≡ None

pub gone_more : {a b : Story} {T : Type 0} {v : T} (paths : List (List ℕ)) (n : ℕ) (path : List ℕ) → n < length paths → path ≡ get_or paths n path → GoneBelow paths n a.held → Removes path a b (Ok v) → GoneBelow paths (n + 1) b.held
gone_more {a} {b} paths n path lt is gone did q has =
    by (Contains-push_cases (take n paths) path q (subst (λ (l : List (List ℕ)). Contains l q) (take_more paths n path lt ∙ ap (λ (p : List ℕ). take n paths ++ p ∷ []) (sym is)) has))
  where
    by : Contains (take n paths) q ⊎ (path ≡ q) → b.held q ≡ None
    by (inl h) = removed_none q did (gone q h)
    by (inr e) = ap b.held (sym e) ∙ removes_ok did
