-- Whatever of a round was put, what is there is a closed part of the whole book.
use Rattle.std.proofs.Common.{◌||◌, ◌≡◌, ◌≢◌, ◌∙◌, sym, ap, refl, subst, arith, ℕ, zero, suc, ◌<◌, ◌≤◌, max, fold, Bool, true, false, cond, List, [], ◌∷◌, ◌++◌, length, slice_index_or, append_assoc, Option, Some, ◌⊎◌, inl, inr}
use Rattle.std.specs.Prelude.{find}
use Rattle.std.specs.List.{AllZip}
use Rattle.std.proofs.lemmas.Bool.{cases_lt}
use Rattle.tree_model.specs.declared.hash.Hash.{Hash}
use Rattle.meta_model.specs.CleanBuild.{Gives}
use Rattle.meta_model.proofs.Bools.{either_way, from_or, or_first, or_later}
use Rattle.store_model.specs.declared.signature.DepLine.{DepLine}
use Rattle.store_model.specs.Origins.{Book, Line, Reading}
use Rattle.store_model.specs.Rows.{hash_eq}
use Rattle.store_model.specs.Valid.{StandsIn, stored_of}
use Rattle.store_model.proofs.Listing.{hash_itself, hash_same}
use Rattle.store_model.proofs.Standing.{stands_behind, stands_first}
use Rattle.store_model.specs.Spelling.{name_of}
use Rattle.store_move.specs.Formats.{IsValidBook}
use Rattle.store_move.specs.Parts.{IsClosed}
use Rattle.store_move.proofs.Closing.{part_is_valid}
use Rattle.record_move.specs.declared.records.AddedRecord.{AddedRecord}
use Rattle.record_move.specs.Rounds.{AreRounds, IsAddedAs, IsInRound, RemovalIsValid, RoundIsValid, behind, round_for, round_in, round_of}
use Rattle.store_move.specs.Moves.{present}

-- ---- lines of two books, one behind the other

-- the line stands in the first book, or in the present one, behind all of the first
split_at : (start more before rest : Book) (line : Line) → start ++ more ≡ before ++ line ∷ rest → StandsIn start before line ⊎ ((middle : Book) × (before ≡ start ++ middle) × StandsIn more middle line)
split_at [] more before rest line e = inr (before, refl, record { rest = rest; is = e })
split_at (s ∷ start) more [] rest line e = let first : s ≡ line = cc in inl (record { rest = start; is = ap (λ (l : Line). l ∷ start) first })
split_at (s ∷ start) more (b ∷ before) rest line e =
    let first : s ≡ b = cc in
    let tail : start ++ more ≡ before ++ line ∷ rest = cc in
    elim (split_at start more before rest line tail) [
      | inl t ↦ inl (record { rest = t.rest; is = λ i. first i ∷ t.is i })
      | inr m ↦ inr (m.0, (λ i. sym first i ∷ m.1 i), m.2)
    ]

split_stands : (start more before : Book) (line : Line) → StandsIn (start ++ more) before line → StandsIn start before line ⊎ ((middle : Book) × (before ≡ start ++ middle) × StandsIn more middle line)
split_stands start more before line s = split_at start more before s.rest line s.is

-- ---- lines beside the records that are added

module _ (round : ℕ) (keep : Line → Bool) where
  record Beside (line : Line) (a : AddedRecord) : Type 0 where
    added : IsAddedAs line a
    earlier : a.round < round → keep line ≡ true
    later : round < a.round → keep line ≡ false

  beside : (more : Book) (added : List AddedRecord) → AllZip IsAddedAs more added → AllZip (λ line (a : AddedRecord). a.round < round → keep line ≡ true) more added → AllZip (λ line (a : AddedRecord). round < a.round → keep line ≡ false) more added → AllZip Beside more added
  beside [] [] x y z = tt
  beside [] (a ∷ added) x y z = absurd x
  beside (l ∷ more) [] x y z = absurd x
  beside (l ∷ more) (a ∷ added) x y z = (record { added = x.0; earlier = y.0; later = z.0 }, beside more added x.1 y.1 z.1)

  record CutAt (before : Book) (line : Line) (added : List AddedRecord) : Type 0 where
    front : List AddedRecord
    one : AddedRecord
    rest : List AddedRecord
    is : added ≡ front ++ one ∷ rest
    here : Beside line one
    earlier : AllZip Beside before front

  cut_at : (before rest : Book) (line : Line) (added : List AddedRecord) → AllZip Beside (before ++ line ∷ rest) added → CutAt before line added
  cut_at [] rest line [] all = absurd all
  cut_at [] rest line (a ∷ added) all = record { front = []; one = a; rest = added; is = refl; here = all.0; earlier = tt }
  cut_at (b ∷ before) rest line [] all = absurd all
  cut_at (b ∷ before) rest line (a ∷ added) all =
      let c = cut_at before rest line added all.1 in
      record { front = a ∷ c.front; one = c.one; rest = c.rest; is = ap (λ (l : List AddedRecord). a ∷ l) c.is; here = c.here; earlier = (all.0, c.earlier) }

  -- the record of a name is found where none before it has the name
  found_at : (lines : Book) (front rest : List AddedRecord) (one : AddedRecord) (name : Hash) → AllZip Beside lines front → ((b : Book) (l : Line) → StandsIn lines b l → name_of l.sig ≢ name) → one.name ≡ name
      → find (λ a. hash_eq a.name name) (front ++ one ∷ rest) ≡ Some one
  found_at [] [] rest one name all none is = ap (λ (b : Bool). cond b (Some one) (find (λ a. hash_eq a.name name) rest)) (hash_itself one.name name is)
  found_at [] (y ∷ front) rest one name all none is = absurd all
  found_at (l ∷ lines) [] rest one name all none is = absurd all
  found_at (l ∷ lines) (y ∷ front) rest one name all none is =
      by (hash_eq y.name name) refl (found_at lines front rest one name all.1 (λ b k s. none (l ∷ b) k (stands_behind l lines b k s)) is)
    where
      by : (b : Bool) → hash_eq y.name name ≡ b → find (λ a. hash_eq a.name name) (front ++ one ∷ rest) ≡ Some one → find (λ a. hash_eq a.name name) ((y ∷ front) ++ one ∷ rest) ≡ Some one
      by true t later = absurd (none [] l (stands_first l lines) (sym all.0.added.name ∙ hash_same y.name name t))
      by false f later = rw f later

-- ---- rounds behind rounds

fold_above : (added : List AddedRecord) (deps : List DepLine) (first : ℕ) → first ≤ fold (λ round (dep : DepLine). max round (behind (round_of added dep.name))) first deps
fold_above added [] first = omega arith
fold_above added (dep ∷ deps) first = let le = fold_above added deps (max first (behind (round_of added dep.name))) in omega (arith, le)

each_above : (added : List AddedRecord) (deps : List DepLine) (first k : ℕ) (dep : DepLine) → k < length deps → slice_index_or deps k dep ≡ dep → behind (round_of added dep.name) ≤ fold (λ round (d : DepLine). max round (behind (round_of added d.name))) first deps
each_above added [] first k dep lt is = absurd (omega (arith, lt))
each_above added (d ∷ deps) first zero dep lt is =
    let le = fold_above added deps (max first (behind (round_of added d.name))) in
    let same = ap (λ (x : DepLine). behind (round_of added x.name)) is in
    omega (arith, le, same)
each_above added (d ∷ deps) first (suc k) dep lt is = each_above added deps (max first (behind (round_of added d.name))) k dep (omega (arith, lt)) is

module _ (gives : Gives) (reading : Reading) (start more : Book) (added : List AddedRecord) (round : ℕ) (keep : Line → Bool) (valid : IsValidBook present gives reading (start ++ more)) (lines : AllZip IsAddedAs more added) (rounds : AreRounds added) (at : IsInRound start more added round keep) where
  sides : AllZip (Beside round keep) more added
  sides = beside round keep more added lines at.earlier at.later

  -- what an added line that is there names is there, where its round is above
  earlier_kept : (middle : Book) (line : Line) → StandsIn more middle line → keep line ≡ true → (name : Hash) → ((front : List AddedRecord) → behind (round_of front name) ≤ round_for front (stored_of line)) → (behind_it : Book) (earlier : Line) → StandsIn (start ++ middle) behind_it earlier → name_of earlier.sig ≡ name → keep earlier ≡ true
  earlier_kept middle line s kept name above behind_it earlier t named = elim (split_stands start middle behind_it earlier t) [
    | inl u ↦ at.stood behind_it earlier u
    | inr u ↦ in_more u.0 u.1 u.2
  ]
    where
      c : CutAt round keep middle line added
      c = cut_at round keep middle s.rest line added (subst (λ (b : Book). AllZip (Beside round keep) b added) s.is sides)

      in_more : (inner : Book) → behind_it ≡ start ++ inner → StandsIn middle inner earlier → keep earlier ≡ true
      in_more inner is u =
          let d = cut_at round keep inner u.rest earlier c.front (subst (λ (b : Book). AllZip (Beside round keep) b c.front) u.is c.earlier) in
          let w = valid behind_it earlier (stands_there inner is u) in
          let none : (b : Book) (l : Line) → StandsIn inner b l → name_of l.sig ≢ name = λ b l v same.
          w.new (start ++ b) l (record { rest = v.rest; is = is ∙ ap (λ (x : Book). start ++ x) v.is ∙ sym (append_assoc start b (l ∷ v.rest)) }) (same ∙ sym named) in
          let found : find (λ a. hash_eq a.name name) c.front ≡ Some d.one = ap (find (λ a. hash_eq a.name name)) d.is ∙ found_at round keep inner d.front d.rest d.one name d.earlier none (d.here.added.name ∙ named) in
          let up : behind (Some d.one.round) ≤ round_for c.front (stored_of line) = subst (λ (o : Option AddedRecord). behind (round_in o) ≤ round_for c.front (stored_of line)) found (above c.front) in
          let own : c.one.round ≡ round_for c.front (stored_of line) = rounds c.front c.rest c.one c.is ∙ ap (round_for c.front) c.here.added.stored in
          elim (cases_lt round c.one.round) [
            | inl lt ↦ absurd (let f = c.here.later lt in let bad : true ≡ false = sym kept ∙ f in cc)
            | inr le ↦ d.here.earlier (omega (arith, up, own, le))
          ]
        where
          stands_there : (inner : Book) → behind_it ≡ start ++ inner → StandsIn middle inner earlier → StandsIn (start ++ more) behind_it earlier
          stands_there inner is u = record {
            rest = u.rest ++ line ∷ s.rest;
            is = ap (λ (b : Book). start ++ b) (s.is ∙ ap (λ (b : Book). b ++ line ∷ s.rest) u.is ∙ append_assoc inner (earlier ∷ u.rest) (line ∷ s.rest)) ∙ sym (append_assoc start inner (earlier ∷ (u.rest ++ line ∷ s.rest))) ∙ ap (λ (b : Book). b ++ earlier ∷ (u.rest ++ line ∷ s.rest)) (sym is);
          }

  closed : IsClosed present keep (start ++ more)
  closed before line s kept = elim (split_stands start more before line s) [
    | inl u ↦ record {
      deps = λ dep c behind_it earlier t named. at.stood behind_it earlier (stands_in_start before line u behind_it earlier t);
      unihash = λ behind_it earlier t named. at.stood behind_it earlier (stands_in_start before line u behind_it earlier t);
    }
    | inr u ↦ record {
      deps = λ dep c behind_it earlier t named. earlier_kept u.0 line u.2 kept dep.name (λ front. let le = each_above front line.sig.deps 0 c.0 dep c.1 c.2 in omega (arith, le)) behind_it earlier (subst (λ (b : Book). StandsIn b behind_it earlier) u.1 t) named;
      unihash = λ behind_it earlier t named. earlier_kept u.0 line u.2 kept line.unihash (λ front. omega arith) behind_it earlier (subst (λ (b : Book). StandsIn b behind_it earlier) u.1 t) (sym named);
    }
  ]
    where
      stands_in_start : (b : Book) (l : Line) → StandsIn start b l → (c : Book) (e : Line) → StandsIn b c e → StandsIn start c e
      stands_in_start b l u c e t = record { rest = t.rest ++ l ∷ u.rest; is = u.is ∙ ap (λ (x : Book). x ++ l ∷ u.rest) t.is ∙ append_assoc c (e ∷ t.rest) (l ∷ u.rest) }

pub round_is_valid : RoundIsValid
round_is_valid gives reading start more added round keep valid lines rounds at = part_is_valid present gives reading (start ++ more) keep valid (closed gives reading start more added round keep valid lines rounds at)

-- ---- lines that go

union_closed : (book : Book) (stay keep : Line → Bool) → IsClosed present stay book → IsClosed present keep book → IsClosed present (λ line. stay line || keep line) book
union_closed book stay keep a b before line s kept = elim (either_way (stay line)) [
  | inl t ↦ record {
    deps = λ dep c behind_it earlier u named. let at = a before line s t in or_first (stay earlier) (keep earlier) (at.deps dep c behind_it earlier u named);
    unihash = λ behind_it earlier u named. let at = a before line s t in or_first (stay earlier) (keep earlier) (at.unihash behind_it earlier u named);
  }
  | inr f ↦ record {
    deps = λ dep c behind_it earlier u named. let at = b before line s (from_or (stay line) (keep line) kept f) in or_later (stay earlier) (keep earlier) (at.deps dep c behind_it earlier u named);
    unihash = λ behind_it earlier u named. let at = b before line s (from_or (stay line) (keep line) kept f) in or_later (stay earlier) (keep earlier) (at.unihash behind_it earlier u named);
  }
]

pub removal_is_valid : RemovalIsValid
removal_is_valid gives reading book added round stay keep valid lines rounds closed_stay at =
    part_is_valid present gives reading book (λ line. stay line || keep line) valid (union_closed book stay keep closed_stay (closed gives reading [] book added round keep valid lines rounds at))
