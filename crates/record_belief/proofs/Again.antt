-- The lines of a valid book in the order in which their records are believed.
use Rattle.std.proofs.Common.{◌≡◌, sym, ◌∙◌, ap, subst, refl, arith, ℕ, zero, suc, ◌<◌, List, [], ◌∷◌, ◌++◌, length, get_or, ◌⊎◌, inl, inr, Some, slice_get, Result}
use Rattle.std.specs.List.{AllByRecursion}
use Rattle.std.proofs.lemmas.Option.{get_or_from_slice_get, slice_get_within, slice_get-get_or}
use Rattle.std.proofs.lemmas.List.Elements.{recursion_from_All}
use Rattle.meta_model.specs.CleanBuild.{Entries, Gives, Lack}
use Rattle.store_model.specs.declared.signature.DepLine.{DepLine}
use Rattle.store_model.specs.declared.signature.ShortSig.{ShortSig}
use Rattle.store_model.specs.Spelling.{name_of}
use Rattle.store_model.specs.Origins.{Reading, Line, Book, Traced, origin, traced, traced_over, dep_outputs, with_dep, outcome_named}
use Rattle.store_model.specs.Valid.{StandsIn, AreAlike as Alike, IsNamedBefore, IsNamedAlike, IsValidLine, IsValidBook}
use Rattle.store_model.proofs.Standing.{AllNew, one_place as one_line, stands_earlier, either_earlier}
use Rattle.store_model.proofs.Tracing.{outcome_at}
use Rattle.store_model.specs.declared.candidate.Candidate.{Candidate}
use Rattle.store_model.specs.Believed.{Ascend, IsShared, MayBeBelieved, IsBelievedWithin, HasDepthAt, ComesBefore, StandsBefore, AreBelieved}
use Rattle.record_belief.specs.Books.{Records, AreOfBook, IsLineAt, IsInOrder}
use Rattle.record_belief.proofs.Placing.{one_place, one_there, stands_at}
use Rattle.record_belief.proofs.Bookish.{sig_of, unihash_of, alike_lines, fewer, lines_believed}

-- the element behind others
at_split : {A : Type 0} (front : List A) (x : A) (rest : List A) → slice_get (front ++ x ∷ rest) (length front) ≡ Some x
at_split [] x rest = refl
at_split (y ∷ front) x rest = at_split front x rest

-- what stands before it
at_front : {A : Type 0} (front : List A) (x : A) (rest : List A) (j : ℕ) → j < length front → slice_get (front ++ x ∷ rest) j ≡ slice_get front j
at_front [] x rest j lt = absurd (omega (arith, lt))
at_front (y ∷ front) x rest zero lt = refl
at_front (y ∷ front) x rest (suc j) lt = at_front front x rest j (omega (arith, lt))

-- what stands at a place stands behind others
behind_at : (xs : Book) (j : ℕ) (l : Line) → slice_get xs j ≡ Some l → (behind : Book) × StandsIn xs behind l
behind_at [] j l e = absurd cc
behind_at (x ∷ xs) zero l e = let same : x ≡ l = cc in ([], record { rest = xs; is = ap (λ (y : Line). y ∷ xs) same })
behind_at (x ∷ xs) (suc j) l e = let r = behind_at xs j l e in (x ∷ r.0, record { rest = r.1.rest; is = ap (λ (ys : Book). x ∷ ys) r.1.is })

place_in : (xs before : Book) (line : Line) → StandsIn xs before line → slice_get xs (length before) ≡ Some line
place_in xs before line s = ap (λ (l : Book). slice_get l (length before)) s.is ∙ at_split before line s.rest

-- a place has one depth, so none comes before itself
pub depth_once : (candidates : List Candidate) (p m n : ℕ) → HasDepthAt candidates p m → HasDepthAt candidates p n → m < n → ⊥
depth_once candidates p m n a b lt =
    let is : a.candidate ≡ b.candidate = one_there candidates p a.candidate b.candidate a.stands b.stands in
    let low = b.depth_is.first (suc m) (subst (IsBelievedWithin candidates (suc m)) is a.depth_is.within) in
    omega (arith, low, lt)

pub not_itself : (candidates : List Candidate) (p : ℕ) → ComesBefore candidates p p → ⊥
not_itself candidates p b = by_side b.before
  where
    by_side : (b.depth_p < b.depth_q) ⊎ ((b.depth_p ≡ b.depth_q) × (p < p)) → ⊥
    by_side (inl lt) = depth_once candidates p b.depth_p b.depth_q b.at_p b.at_q lt
    by_side (inr same) = omega (arith, same.1)

module _ (gives : Gives) (reading : Reading) (book : Book) (candidates : List Candidate) (places : List ℕ) (again : Book) (valid : IsValidBook gives reading book) (up : Ascend candidates) (of : AreOfBook book candidates)
    (are : AreBelieved candidates places) (order : IsInOrder book candidates places again) where
  book_new : AllNew book
  book_new before line s behind earlier t = let v = valid before line s in v.new behind earlier t

  pub line_at : (before : Book) (line : Line) → StandsIn again before line → IsLineAt book candidates places (length before) line
  line_at before line s = order.each (length before) line (place_in again before line s)

  -- of two lines of one name at places of the list, the places are one
  new_again : AllNew again
  new_again before line s behind earlier t same =
      let a = line_at before line s in
      let b = line_at behind earlier (stands_earlier again before behind line earlier s t) in
      let p : b.place ≡ a.place = one_place candidates up b.place a.place b.candidate a.candidate b.stands a.stands (b.records.name ∙ same ∙ sym a.records.name) in
      let before_it = are.order (length behind) (length before) a.place (fewer before behind earlier t) (slice_get_within places (length before) a.place a.listed) in
      let both : ComesBefore candidates b.place a.place = rw (get_or_from_slice_get places (length behind) b.place a.place b.listed, get_or_from_slice_get places (length before) a.place a.place a.listed) at before_it in
      not_itself candidates a.place (subst (λ n. ComesBefore candidates n a.place) p both)

  -- two lines of the book with one name are one
  pub same_line : (b c : Book) (k l : Line) → StandsIn book b k → StandsIn book c l → name_of k.sig ≡ name_of l.sig → k ≡ l
  same_line b c k l s t same = let one = one_line book b c k l book_new s t same in one.1

  -- a candidate that stands before is that of an earlier line
  pub earlier_of : (before : Book) (line : Line) → StandsIn again before line → (d : Candidate) → StandsBefore candidates places (length before) d
      → (behind : Book) × (earlier : Line) × StandsIn before behind earlier × Records earlier d × ((b : Book) × StandsIn book b earlier)
  earlier_of before line s d sb =
      let found = stands_at before sb.index sb.earlier in
      let at = behind_at before sb.index found.0 found.1 in
      let here : slice_get again sb.index ≡ Some found.0 = ap (λ (l : Book). slice_get l sb.index) s.is ∙ at_front before line s.rest sb.index sb.earlier ∙ found.1 in
      let a = order.each sb.index found.0 here in
      let p : a.place ≡ sb.place = one_there places sb.index a.place sb.place a.listed sb.listed in
      let c : a.candidate ≡ d = one_there candidates sb.place a.candidate d (subst (λ n. slice_get candidates n ≡ Some a.candidate) p a.stands) sb.stands in
      (at.0, found.0, at.1, subst (Records found.0) c a.records, (a.before, a.in_book))

  -- what a line's candidate names stands before it
  named_at : (before : Book) (line : Line) (s : StandsIn again before line) → MayBeBelieved candidates (StandsBefore candidates places (length before)) (line_at before line s).candidate
  named_at before line s = let a = line_at before line s in are.named (length before) a.place a.candidate a.listed a.stands

  -- a needed task has its line before it, as in the book
  dep_at : (before : Book) (line : Line) → StandsIn again before line → (i : ℕ) (dep : DepLine) → slice_get line.sig.deps i ≡ Some dep
      → (behind : Book) × (earlier : Line) × StandsIn before behind earlier × (name_of earlier.sig ≡ dep.name) × ((b : Book) × StandsIn book b earlier)
  dep_at before line s i dep e =
      let a = line_at before line s in
      let m = named_at before line s in
      let f : slice_get a.candidate.stored.sig.deps i ≡ Some dep = ap (λ (x : ShortSig). slice_get x.deps i) (sig_of line a.candidate a.records) ∙ e in
      let n = m.deps i dep f in
      let l = earlier_of before line s n.other n.admitted in
      (l.0, l.1, l.2, sym l.3.name ∙ n.name_is, l.4)

  -- outputs of needed tasks that are the same one by one
  same_deps : (xs ys : List Traced) (deps : List DepLine) → AllByRecursion (λ (dep : DepLine). outcome_named xs dep.name ≡ outcome_named ys dep.name) deps → dep_outputs xs deps ≡ dep_outputs ys deps
  same_deps xs ys [] all = refl
  same_deps xs ys (dep ∷ deps) all = ap (λ (r : Result Entries Lack). with_dep dep r (dep_outputs xs deps)) all.0 ∙ ap (with_dep dep (outcome_named ys dep.name)) (same_deps xs ys deps all.1)

  -- a line's origin is the same
  same_origin : (n : ℕ) (before was : Book) (line : Line) → StandsIn again before line → StandsIn book was line → length before < n → origin gives reading before line ≡ origin gives reading was line
  same_origin zero before was line s t lt = absurd (omega (arith, lt))
  same_origin (suc n) before was line s t lt =
      ap (traced_over gives reading line) (same_deps (traced gives reading before) (traced gives reading was) line.sig.deps
      (recursion_from_All (λ (dep : DepLine). outcome_named (traced gives reading before) dep.name ≡ outcome_named (traced gives reading was) dep.name) line.sig.deps
      (λ i d inside. one_dep i (get_or line.sig.deps i d) (slice_get-get_or line.sig.deps i d inside) (λ b w l x y less. same_origin n b w l x y less))))
    where
      one_dep : (i : ℕ) (dep : DepLine) → slice_get line.sig.deps i ≡ Some dep
          → ((b w : Book) (l : Line) → StandsIn again b l → StandsIn book w l → length b < n → origin gives reading b l ≡ origin gives reading w l)
          → outcome_named (traced gives reading before) dep.name ≡ outcome_named (traced gives reading was) dep.name
      one_dep i dep e later =
          let now = dep_at before line s i dep e in
          let in_again = stands_earlier again before now.0 line now.1 s now.2 in
          let old : IsNamedBefore was dep = subst (IsNamedBefore was) (get_or_from_slice_get line.sig.deps i dep dep e) (let v = valid was line t in v.deps i dep (slice_get_within line.sig.deps i dep e)) in
          let old_in_book = stands_earlier book was old.behind line old.line t old.stands in
          let same : now.1 ≡ old.line = same_line now.4.0 old.behind now.1 old.line now.4.1 old_in_book (now.3 ∙ sym old.name) in
          let was_there : StandsIn was old.behind now.1 = subst (StandsIn was old.behind) (sym same) old.stands in
          let was_in_book : StandsIn book old.behind now.1 = subst (StandsIn book old.behind) (sym same) old_in_book in
          outcome_at gives reading before now.0 now.1 dep.name now.2 now.3 (λ b l x q. new_again now.0 now.1 in_again b l x (q ∙ sym now.3))
          ∙ later now.0 old.behind now.1 in_again was_in_book (omega (arith, lt, fewer before now.0 now.1 now.2))
          ∙ sym (outcome_at gives reading was old.behind now.1 dep.name was_there now.3 (λ b l x q. book_new old.behind now.1 was_in_book b l x (q ∙ sym now.3)))

  pub again_valid : IsValidBook gives reading again
  again_valid before line s = record {
    spelled = v.spelled;
    new = λ behind earlier t. new_again before line s behind earlier t;
    plain = v.plain;
    tree = v.tree;
    files = v.files;
    deps = λ i d inside. named_before i (get_or line.sig.deps i d) (slice_get-get_or line.sig.deps i d inside);
    output = v.output;
    origin = same_origin (suc (length before)) before a.before line s a.in_book (omega arith) ∙ v.origin;
    manifest = v.manifest;
    shared = λ behind earlier t alike. shared_by behind earlier t alike;
    named = by_unihash (named_at before line s).unihash;
  }
    where
      a : IsLineAt book candidates places (length before) line
      a = line_at before line s

      v : IsValidLine gives reading a.before line
      v = valid a.before line a.in_book

      named_before : (i : ℕ) (dep : DepLine) → slice_get line.sig.deps i ≡ Some dep → IsNamedBefore before dep
      named_before i dep e =
          let now = dep_at before line s i dep e in
          let old : IsNamedBefore a.before dep = subst (IsNamedBefore a.before) (get_or_from_slice_get line.sig.deps i dep dep e) (v.deps i dep (slice_get_within line.sig.deps i dep e)) in
          let same : now.1 ≡ old.line = same_line now.4.0 old.behind now.1 old.line now.4.1 (stands_earlier book a.before old.behind line old.line a.in_book old.stands) (now.3 ∙ sym old.name) in
          record { line = now.1; behind = now.0; stands = now.2; name = now.3; pn = ap (λ (l : Line). l.sig.pn) same ∙ old.pn; task = ap (λ (l : Line). l.sig.task) same ∙ old.task }

      shared_by : (behind : Book) (earlier : Line) → StandsIn before behind earlier → Alike earlier line → earlier.unihash ≡ line.unihash
      shared_by behind earlier t alike =
          let b = line_at behind earlier (stands_earlier again before behind line earlier s t) in
          by_side b.before b.in_book (either_earlier book b.before a.before earlier line b.in_book a.in_book)
        where
          by_side : (w : Book) → StandsIn book w earlier → ((w ≡ a.before) × (earlier ≡ line)) ⊎ (StandsIn a.before w earlier ⊎ StandsIn w a.before line) → earlier.unihash ≡ line.unihash
          by_side w x (inl same) = ap (λ (l : Line). l.unihash) same.1
          by_side w x (inr (inl front)) = v.shared w earlier front alike
          by_side w x (inr (inr back)) = sym (let u = valid w earlier x in u.shared a.before line back (record { pn = sym alike.pn; task = sym alike.task; manifest = sym alike.manifest }))

      by_unihash : (a.candidate.stored.unihash ≡ a.candidate.name) ⊎ IsShared (StandsBefore candidates places (length before)) a.candidate → (line.unihash ≡ name_of line.sig) ⊎ IsNamedAlike before line
      by_unihash (inl own) = inl (sym (unihash_of line a.candidate a.records) ∙ own ∙ a.records.name)
      by_unihash (inr n) =
          let l = earlier_of before line s n.other n.admitted in
          inr (record {
            first = l.1;
            behind = l.0;
            stands = l.2;
            alike = alike_lines l.1 line n.other a.candidate l.3 a.records n.alike;
            name = sym (unihash_of line a.candidate a.records) ∙ sym n.name_is ∙ l.3.name;
          })

  pub again_whole : (before : Book) (line : Line) → StandsIn book before line → (behind : Book) × StandsIn again behind line
  again_whole before line s =
      let h = of.whole before line s in
      let w = are.whole h.candidate (lines_believed gives reading book candidates valid of h.among.0 h.candidate h.among.1) in
      let l = stands_at again w.0 (omega (arith, order.long, slice_get_within places w.0 w.1 w.2)) in
      let a = order.each w.0 l.0 l.1 in
      let p : a.place ≡ w.1 = one_there places w.0 a.place w.1 a.listed w.2 in
      let c : a.candidate ≡ h.candidate = one_there candidates w.1 a.candidate h.candidate (subst (λ n. slice_get candidates n ≡ Some a.candidate) p a.stands) w.3 in
      let same : l.0 ≡ line = same_line a.before before l.0 line a.in_book s (sym a.records.name ∙ ap (λ (x : Candidate). x.name) c ∙ h.records.name) in
      let at = behind_at again w.0 l.0 l.1 in
      (at.0, subst (StandsIn again at.0) same at.1)
