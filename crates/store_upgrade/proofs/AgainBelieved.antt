-- The lines of a valid book in the order in which their records are believed, by their names in a format.
use Rattle.std.proofs.Common.{◌≡◌, sym, ◌∙◌, ap, subst, refl, arith, ℕ, zero, suc, ◌<◌, List, [], ◌∷◌, ◌++◌, length, ◌⊎◌, inl, inr, Some, slice_get}
use Rattle.std.specs.List.{AllByRecursion}
use Rattle.std.proofs.lemmas.Option.{get_or_from_slice_get, slice_get_within}
use Rattle.meta_model.specs.CleanBuild.{Gives}
use Rattle.store_model.specs.declared.candidate.Candidate.{Candidate}
use Rattle.store_model.specs.declared.signature.DepLine.{DepLine}
use Rattle.store_model.specs.declared.signature.ShortSig.{ShortSig}
use Rattle.store_model.specs.declared.signature.ShortStored.{ShortStored}
use Rattle.store_model.specs.Believed.{AreAlike, AreBelieved, Ascend, ComesBefore, IsAmong, IsBelieved, IsBelievedWithin, IsNamed, IsShared, MayBeBelieved, StandsBefore}
use Rattle.store_model.specs.Lines.{HasLine}
use Rattle.store_model.specs.Origins.{Book, Line, Reading}
use Rattle.store_model.specs.Spelling.{short_of, short_stored_of}
use Rattle.store_model.specs.Valid.{AreAlike as Alike, StandsIn, stored_of}
use Rattle.store_model.proofs.Standing.{stands_earlier}
use Rattle.store_move.specs.Formats.{Format, IsNamedAlike, IsNamedBefore, IsValidBook}
use Rattle.store_move.proofs.Places.{AllNew, one_place as one_line}
use Rattle.record_belief.proofs.Again.{not_itself}
use Rattle.record_belief.proofs.Bookish.{fewer}
use Rattle.record_belief.proofs.Placing.{one_place, one_there, stands_at}
use Rattle.store_upgrade.proofs.Again.{HasNamed, IsDepNamed, IsReordered}

-- ---- what is asked

-- the candidate is the line's stored record, under its name
pub record Records (form : Format) (line : Line) (c : Candidate) : Type 0 where
  pub name : c.name ≡ form.name_of line.sig
  pub stored : c.stored ≡ short_stored_of (stored_of line)

-- the line has a candidate
pub record HasCandidate (form : Format) (candidates : List Candidate) (line : Line) : Type 0 where
  pub candidate : Candidate
  pub among : IsAmong candidates candidate
  pub records : Records form line candidate

-- each line has a candidate
abbrev pub HaveCandidates : Format → Book → List Candidate → Type 0
HaveCandidates form book candidates = (before : Book) (line : Line) → StandsIn book before line → HasCandidate form candidates line

-- a line of the book, whose candidate stands at the place that is listed here
pub record IsLineAt (form : Format) (book : Book) (candidates : List Candidate) (places : List ℕ) (k : ℕ) (line : Line) : Type 0 where
  pub place : ℕ
  pub candidate : Candidate
  pub listed : slice_get places k ≡ Some place
  pub stands : slice_get candidates place ≡ Some candidate
  pub records : Records form line candidate
  pub in_book : HasLine book line

-- these are lines of the book in the order of the places
pub record IsInOrder (form : Format) (book : Book) (candidates : List Candidate) (places : List ℕ) (again : Book) : Type 0 where
  pub long : length again ≡ length places
  pub each : (k : ℕ) (line : Line) → slice_get again k ≡ Some line → IsLineAt form book candidates places k line

-- ---- lists

-- the element behind others
at_split : {A : Type 0} (front : List A) (x : A) (rest : List A) → slice_get (front ++ x ∷ rest) (length front) ≡ Some x
at_split [] x rest = refl
at_split (y ∷ front) x rest = at_split front x rest

-- what stands before it
at_front : {A : Type 0} (front : List A) (x : A) (rest : List A) (j : ℕ) → j < length front → slice_get (front ++ x ∷ rest) j ≡ slice_get front j
at_front [] x rest j lt = absurd (omega (arith, lt))
at_front (y ∷ front) x rest zero lt = refl
at_front (y ∷ front) x rest (suc j) lt = at_front front x rest j (omega (arith, lt))

-- what stands at a place stands behind others
line_of : (xs : Book) (j : ℕ) (l : Line) → slice_get xs j ≡ Some l → HasLine xs l
line_of [] j l e = absurd cc
line_of (x ∷ xs) zero l e = let same : x ≡ l = cc in ([], record { rest = xs; is = ap (λ (y : Line). y ∷ xs) same })
line_of (x ∷ xs) (suc j) l e = let r = line_of xs j l e in (x ∷ r.0, record { rest = r.1.rest; is = ap (λ (ys : Book). x ∷ ys) r.1.is })

-- what holds at each place holds of each item
each_place : {A : Type 0} (P : A → Type 0) (xs : List A) → ((i : ℕ) (x : A) → slice_get xs i ≡ Some x → P x) → AllByRecursion P xs
each_place P [] at = tt
each_place P (x ∷ xs) at = (at 0 x refl, each_place P xs (λ i y e. at (suc i) y e))

-- ---- a line and its candidate

sig_of : (form : Format) (line : Line) (c : Candidate) → Records form line c → c.stored.sig ≡ short_of line.sig
sig_of form line c r = ap (λ (s : ShortStored). s.sig) r.stored

unihash_of : (form : Format) (line : Line) (c : Candidate) → Records form line c → c.stored.unihash ≡ line.unihash
unihash_of form line c r = ap (λ (s : ShortStored). s.unihash) r.stored

alike_records : (form : Format) (a b : Line) (c d : Candidate) → Records form a c → Records form b d → Alike a b → AreAlike c.stored d.stored
alike_records form a b c d r s h = rw (r.stored, s.stored) (record { pn = h.pn; task = h.task; manifest = h.manifest })

alike_lines : (form : Format) (a b : Line) (c d : Candidate) → Records form a c → Records form b d → AreAlike c.stored d.stored → Alike a b
alike_lines form a b c d r s h = let g = rw (r.stored, s.stored) at h in record { pn = g.pn; task = g.task; manifest = g.manifest }

-- lines that have one candidate have one name
one_name : (form : Format) (a b : Line) (c d : Candidate) → Records form a c → Records form b d → c ≡ d → form.name_of a.sig ≡ form.name_of b.sig
one_name form a b c d r s same = sym r.name ∙ ap (λ (x : Candidate). x.name) same ∙ s.name

-- ---- each line is believed

module _ (form : Format) (gives : Gives) (reading : Reading) (book : Book) (candidates : List Candidate) (valid : IsValidBook form gives reading book)
    (have : HaveCandidates form book candidates) where
  -- lines with fewer before them are believed
  abbrev BelievesBelow : ℕ → Type 0
  BelievesBelow n = (before : Book) (line : Line) (c : Candidate) → StandsIn book before line → length before < n → Records form line c → IsAmong candidates c
      → IsBelievedWithin candidates n c

  dep_believed : (n : ℕ) (before : Book) (line : Line) (dep : DepLine) → StandsIn book before line → length before < suc n → BelievesBelow n
      → IsNamedBefore form before dep → IsNamed (IsBelievedWithin candidates n) dep.name
  dep_believed n before line dep s lt later named =
      let at = stands_earlier book before named.behind line named.line s named.stands in
      let d = have named.behind named.line at in
      record {
        other = d.candidate;
        admitted = later named.behind named.line d.candidate at (omega (arith, lt, fewer before named.behind named.line named.stands)) d.records d.among;
        name_is = d.records.name ∙ named.name;
      }

  deps_believed : (n : ℕ) (before : Book) (line : Line) (c : Candidate) → StandsIn book before line → length before < suc n → BelievesBelow n → Records form line c
      → (i : ℕ) (dep : DepLine) → slice_get c.stored.sig.deps i ≡ Some dep → IsNamed (IsBelievedWithin candidates n) dep.name
  deps_believed n before line c s lt later r i dep e =
      let f : slice_get line.sig.deps i ≡ Some dep = ap (λ (x : ShortSig). slice_get x.deps i) (sym (sig_of form line c r)) ∙ e in
      let v = valid before line s in
      let named = v.deps i dep (slice_get_within line.sig.deps i dep f) in
      dep_believed n before line dep s lt later (subst (IsNamedBefore form before) (get_or_from_slice_get line.sig.deps i dep dep f) named)

  unihash_believed : (n : ℕ) (before : Book) (line : Line) (c : Candidate) → StandsIn book before line → length before < suc n → BelievesBelow n → Records form line c
      → (line.unihash ≡ form.name_of line.sig) ⊎ IsNamedAlike form before line → (c.stored.unihash ≡ c.name) ⊎ IsShared (IsBelievedWithin candidates n) c
  unihash_believed n before line c s lt later r (inl own) = inl (unihash_of form line c r ∙ own ∙ sym r.name)
  unihash_believed n before line c s lt later r (inr named) =
      let at = stands_earlier book before named.behind line named.first s named.stands in
      let d = have named.behind named.first at in
      inr (record {
        other = d.candidate;
        admitted = later named.behind named.first d.candidate at (omega (arith, lt, fewer before named.behind named.first named.stands)) d.records d.among;
        name_is = d.records.name ∙ sym named.name ∙ sym (unihash_of form line c r);
        alike = alike_records form named.first line d.candidate c d.records r named.alike;
      })

  believed_below : (n : ℕ) → BelievesBelow n
  believed_below zero before line c s lt r among = absurd (omega (arith, lt))
  believed_below (suc n) before line c s lt r among = record {
    among = among;
    deps = deps_believed n before line c s lt (believed_below n) r;
    unihash = unihash_believed n before line c s lt (believed_below n) r (let v = valid before line s in v.named);
  }

  pub line_believed : (before : Book) (line : Line) (c : Candidate) → StandsIn book before line → Records form line c → IsAmong candidates c → IsBelieved candidates c
  line_believed before line c s r among = (suc (length before), believed_below (suc (length before)) before line c s (omega arith) r among)

-- ---- the lines in the order of belief

module _ (form : Format) (gives : Gives) (reading : Reading) (book : Book) (candidates : List Candidate) (places : List ℕ) (again : Book)
    (valid : IsValidBook form gives reading book) (up : Ascend candidates)
    (have : HaveCandidates form book candidates) (are : AreBelieved candidates places)
    (order : IsInOrder form book candidates places again) where
  line_at : (before : Book) (line : Line) → StandsIn again before line → IsLineAt form book candidates places (length before) line
  line_at before line s = order.each (length before) line (ap (λ (l : Book). slice_get l (length before)) s.is ∙ at_split before line s.rest)

  -- of two lines of one name at places of the list, the places are one
  new_again : AllNew form again
  new_again before line s behind earlier t same =
      let a = line_at before line s in
      let b = line_at behind earlier (stands_earlier again before behind line earlier s t) in
      let p : b.place ≡ a.place = one_place candidates up b.place a.place b.candidate a.candidate b.stands a.stands (b.records.name ∙ same ∙ sym a.records.name) in
      let at_b = get_or_from_slice_get places (length behind) b.place a.place b.listed in
      let at_a = get_or_from_slice_get places (length before) a.place a.place a.listed in
      let before_it = are.order (length behind) (length before) a.place (fewer before behind earlier t) (slice_get_within places (length before) a.place a.listed) in
      let both : ComesBefore candidates b.place a.place = rw (at_b, at_a) at before_it in
      not_itself candidates a.place (subst (λ n. ComesBefore candidates n a.place) p both)

  -- a line that stands before, whose candidate this is
  record HasEarlier (before : Book) (d : Candidate) : Type 0 where
    behind : Book
    earlier : Line
    stands : StandsIn before behind earlier
    records : Records form earlier d

  -- a candidate that stands before is that of an earlier line
  earlier_of : (before : Book) (line : Line) → StandsIn again before line → (d : Candidate) → StandsBefore candidates places (length before) d → HasEarlier before d
  earlier_of before line s d sb =
      let found = stands_at before sb.index sb.earlier in
      let at = line_of before sb.index found.0 found.1 in
      let here : slice_get again sb.index ≡ Some found.0 = ap (λ (l : Book). slice_get l sb.index) s.is ∙ at_front before line s.rest sb.index sb.earlier ∙ found.1 in
      let a = order.each sb.index found.0 here in
      let p : a.place ≡ sb.place = one_there places sb.index a.place sb.place a.listed sb.listed in
      let c : a.candidate ≡ d = one_there candidates sb.place a.candidate d (subst (λ n. slice_get candidates n ≡ Some a.candidate) p a.stands) sb.stands in
      record { behind = at.0; earlier = found.0; stands = at.1; records = subst (Records form found.0) c a.records }

  -- what a line's candidate names stands before it
  named_at : (before : Book) (line : Line) (s : StandsIn again before line)
      → MayBeBelieved candidates (StandsBefore candidates places (length before)) (line_at before line s).candidate
  named_at before line s = let a = line_at before line s in are.named (length before) a.place a.candidate a.listed a.stands

  dep_at : (before : Book) (line : Line) → StandsIn again before line → (i : ℕ) (dep : DepLine) → slice_get line.sig.deps i ≡ Some dep → HasNamed form before dep.name
  dep_at before line s i dep e =
      let a = line_at before line s in
      let m = named_at before line s in
      let f : slice_get a.candidate.stored.sig.deps i ≡ Some dep = ap (λ (x : ShortSig). slice_get x.deps i) (sig_of form line a.candidate a.records) ∙ e in
      let n = m.deps i dep f in
      let l = earlier_of before line s n.other n.admitted in
      record { line = l.earlier; behind = l.behind; stands = l.stands; name_is = sym l.records.name ∙ n.name_is }

  unihash_at : (before : Book) (line : Line) (s : StandsIn again before line)
      → ((line_at before line s).candidate.stored.unihash ≡ (line_at before line s).candidate.name)
      ⊎ IsShared (StandsBefore candidates places (length before)) (line_at before line s).candidate
      → (line.unihash ≡ form.name_of line.sig) ⊎ IsNamedAlike form before line
  unihash_at before line s (inl own) = let a = line_at before line s in inl (sym (unihash_of form line a.candidate a.records) ∙ own ∙ a.records.name)
  unihash_at before line s (inr n) =
      let a = line_at before line s in
      let l = earlier_of before line s n.other n.admitted in
      inr (record {
        first = l.earlier;
        behind = l.behind;
        stands = l.stands;
        alike = alike_lines form l.earlier line n.other a.candidate l.records a.records n.alike;
        name = sym (unihash_of form line a.candidate a.records) ∙ sym n.name_is ∙ l.records.name;
      })

  pub again_reordered : IsReordered form book again
  again_reordered = record {
    new = new_again;
    only = λ before line s. let a = line_at before line s in a.in_book;
    deps = λ before line s. each_place (IsDepNamed form before) line.sig.deps (λ i dep e. dep_at before line s i dep e);
    unihash = λ before line s. let m = named_at before line s in unihash_at before line s m.unihash;
  }

  -- it has all lines of the book
  pub again_whole : (before : Book) (line : Line) → StandsIn book before line → HasLine again line
  again_whole before line s =
      let h = have before line s in
      let w = are.whole h.candidate (line_believed form gives reading book candidates valid have before line h.candidate s h.records h.among) in
      let l = stands_at again w.0 (omega (arith, order.long, slice_get_within places w.0 w.1 w.2)) in
      let a = order.each w.0 l.0 l.1 in
      let p : a.place ≡ w.1 = one_there places w.0 a.place w.1 a.listed w.2 in
      let c : a.candidate ≡ h.candidate = one_there candidates w.1 a.candidate h.candidate (subst (λ n. slice_get candidates n ≡ Some a.candidate) p a.stands) w.3 in
      let name = one_name form l.0 line a.candidate h.candidate a.records h.records c in
      let same = one_line form book a.in_book.0 before l.0 line (λ b k t. let v = valid b k t in v.new) a.in_book.1 s name in
      let at = line_of again w.0 l.0 l.1 in
      (at.0, subst (StandsIn again at.0) same.1 at.1)
