-- Records are moved one after another.
use Rattle.std.proofs.Common.{◌<◌, arith, get_or, suc, zero, ◌≡◌, ◌∙◌, sym, ap, refl, subst, ℕ, List, [], ◌∷◌, ◌++◌, length, append_assoc, append-nil, Some, None, inl, inr}
use Rattle.std.specs.Prelude.{Contains}
use Rattle.std.specs.List.{AllByRecursion, AllZip}
use Rattle.std.proofs.lemmas.List.Elements.{Contains-append_left, Contains-push}
use Rattle.tree_model.specs.declared.hash.Hash.{Hash}
use Rattle.record_move.specs.declared.records.OldRecord.{OldRecord}
use Rattle.store_model.specs.declared.signature.EquivRow.{EquivRow}
use Rattle.store_model.specs.declared.signature.StoredSig.{StoredSig}
use Rattle.store_model.specs.Origins.{Book, Line}
use Rattle.store_model.specs.Spelled.{IsSpelled}
use Rattle.store_model.specs.Valid.{stored_of}
use Rattle.store_model.proofs.Ordered.{each_append, each_weaker}
use Rattle.store_model.proofs.Standing.{stands_further}
use Rattle.store_model.specs.Spelling.{key_bytes}
use Rattle.store_move.specs.Formats.{Format, rows_of}
use Rattle.store_move.specs.Moves.{AreClear, begun, IsClear, Move, moved_from, present, step}
use Rattle.store_move.proofs.Whole.{from_append}
use Rattle.record_move.specs.declared.fault.MoveFault.{MoveFault}
use Rattle.record_move.specs.declared.moving.Moving.{Moving as MovingNow}
use Rattle.record_move.specs.declared.records.AddedRecord.{AddedRecord}
use Rattle.record_move.specs.Adding.{AreFew}
use Rattle.record_move.specs.Faults.{IsFaultAt, IsMoveFault}
use Rattle.record_move.specs.Going.{IsGoing, IsSoFar}
use Rattle.record_move.specs.Known.{KnowMore, KnowsKey}
use Rattle.record_move.specs.Moved.{AreLinesOf, AreSpelled, IsLineOf, IsPairOf, StandWell}
use Rattle.record_move.specs.Named.{value_at}
use Rattle.record_move.specs.Rounds.{AreRounds, IsAddedAs, round_of}

-- ---- a book beside its records

pub record Cut (from : Format) (olds : List OldRecord) (old : OldRecord) (left : List OldRecord) (book : Book) : Type 0 where
  pub front : Book
  pub line : Line
  pub rest : Book
  pub is : book ≡ front ++ line ∷ rest
  pub before : AreLinesOf from olds front
  pub here : IsLineOf from old line
  pub behind : AreLinesOf from left rest

pub cut : (from : Format) (olds : List OldRecord) (old : OldRecord) (left : List OldRecord) (book : Book) → AreLinesOf from (olds ++ old ∷ left) book → Cut from olds old left book
cut from [] old left [] are = absurd are
cut from [] old left (line ∷ book) are = record { front = []; line = line; rest = book; is = refl; before = tt; here = are.0; behind = are.1 }
cut from (o ∷ olds) old left [] are = absurd are
cut from (o ∷ olds) old left (l ∷ book) are =
    let c = cut from olds old left book are.1 in
    record { front = l ∷ c.front; line = c.line; rest = c.rest; is = ap (λ (b : Book). l ∷ b) c.is; before = (are.0, c.before); here = c.here; behind = c.behind }

no_lines : (from : Format) (rest : Book) → AreLinesOf from [] rest → rest ≡ []
no_lines from [] are = refl
no_lines from (line ∷ rest) are = absurd are

-- the last record's
pub last_cut : (from : Format) (olds : List OldRecord) (old : OldRecord) (book : Book) → (c : Cut from olds old [] book) → book ≡ c.front ++ c.line ∷ []
last_cut from olds old book c = c.is ∙ ap (λ (r : Book). c.front ++ c.line ∷ r) (no_lines from c.rest c.behind)

-- ---- no collisions

clear_append : (from : Format) (move : Move) (front rest : Book) → AreClear from present move front → AreClear from present (moved_from from present move front) rest → AreClear from present move (front ++ rest)
clear_append from move [] rest a b = b
clear_append from move (line ∷ front) rest a b = (a.0, clear_append from (step from present move line) front rest a.1 b)

-- ---- the start

no_rounds : AreRounds []
no_rounds [] rest a e = absurd (cc)
no_rounds (b ∷ before) rest a e = absurd (cc)

pub so_far_start : (rows : List EquivRow) (keys : List (List ℕ)) (m : MovingNow) → m.rows ≡ rows → m.keys ≡ keys → m.names.entries ≡ [] → m.records.items ≡ [] → m.adding.added.items ≡ [] → m.adding.rounds.entries ≡ [] → IsSoFar rows keys [] m
so_far_start rows keys m rows_same keys_same names records added rounds = record {
  going = λ from book start are stood. subst (λ (b : Book). IsGoing from start (moved_from from present (begun start) b) m) (sym (no_lines from book are)) (record {
    told = record {
      rows_are = rows_same ∙ stood;
      each = subst (AllZip (IsPairOf from) []) (sym records) tt;
      more = [];
      longer = sym (append-nil start);
      lines = subst (AllZip IsAddedAs []) (sym added) tt;
      in_rounds = subst AreRounds (sym added) no_rounds;
    };
    names = λ name. ap (λ (e : List (List ℕ × Hash)). value_at e name) names;
    rounds = λ q. ap (λ (e : List (List ℕ × ℕ)). value_at e q) rounds ∙ ap (λ (l : List AddedRecord). round_of l q) (sym added);
  });
  clear = λ from book start are stood spelled well. subst (AreClear from present (begun start)) (sym (no_lines from book are)) tt;
  well = λ from book start are stood spelled well. subst (λ (b : Book). StandWell m.keys (moved_from from present (begun start) b).book) (sym (no_lines from book are)) (subst (λ (k : List (List ℕ)). StandWell k start) (sym keys_same) well);
  keys_more = record { more = []; is = keys_same ∙ sym (append-nil keys); each = tt };
  few = λ q round found. absurd (let bad : None ≡ Some round = sym (ap (λ (e : List (List ℕ × ℕ)). value_at e q) rounds) ∙ found in cc);
}

-- ---- one more

abbrev IsOf : List OldRecord → List ℕ → Type 0
IsOf cs key = (c : OldRecord) × Contains cs c × (key ≡ key_bytes c.stored.sig.key)

keys_step : (keys now new : List (List ℕ)) (olds : List OldRecord) (old : OldRecord) → KnowMore keys olds now → KnowsKey now old.stored.sig.key new → KnowMore keys (olds ++ old ∷ []) new
keys_step keys now new olds old k grown = by grown
  where
    wider : AllByRecursion (IsOf (olds ++ old ∷ [])) k.more
    wider = each_weaker (IsOf olds) (IsOf (olds ++ old ∷ [])) (λ key o. (o.0, Contains-append_left olds (old ∷ []) o.0 o.1, o.2)) k.more k.each

    by : KnowsKey now old.stored.sig.key new → KnowMore keys (olds ++ old ∷ []) new
    by (inl same) = record { more = k.more; is = same ∙ k.is; each = wider }
    by (inr more) = record {
      more = k.more ++ key_bytes old.stored.sig.key ∷ [];
      is = more ∙ ap (λ (l : List (List ℕ)). l ++ key_bytes old.stored.sig.key ∷ []) k.is ∙ append_assoc keys k.more (key_bytes old.stored.sig.key ∷ []);
      each = each_append (IsOf (olds ++ old ∷ [])) k.more (key_bytes old.stored.sig.key ∷ []) wider ((old, Contains-push olds old, refl), tt);
    }

-- a record that is among them is that of a line
line_of : (from : Format) (olds : List OldRecord) (front : Book) → AreLinesOf from olds front → (k : ℕ) (c : OldRecord) → k < length olds → get_or olds k c ≡ c → (l : Line) × Contains front l × (stored_of l ≡ c.stored)
line_of from [] front are k c lt is = absurd (omega (arith, lt))
line_of from (o ∷ olds) [] are k c lt is = absurd are
line_of from (o ∷ olds) (l ∷ front) are zero c lt is = (l, (zero, omega arith, refl), are.0.stored ∙ ap (λ (x : OldRecord). x.stored) is)
line_of from (o ∷ olds) (l ∷ front) are (suc k) c lt is =
    let r = line_of from olds front are.1 k c (omega (arith, lt)) is in
    (r.0, (suc r.1.0, (let less = r.1.1 in omega (arith, less)), r.1.2), r.2)

keys_of_lines : (from : Format) (olds : List OldRecord) (front : Book) (keys : List (List ℕ)) → AreLinesOf from olds front → AllByRecursion (IsOf olds) keys → AllByRecursion (λ key. (l : Line) × Contains front l × (key ≡ key_bytes l.sig.key)) keys
keys_of_lines from olds front keys are all = each_weaker (IsOf olds) (λ key. (l : Line) × Contains front l × (key ≡ key_bytes l.sig.key))
    (λ key o. let r = line_of from olds front are o.1.0 o.0 o.1.1 o.1.2 in (r.0, r.1, o.2 ∙ ap (λ (s : StoredSig). key_bytes s.sig.key) (sym r.2))) keys all

module _ (rows : List EquivRow) (keys : List (List ℕ)) (olds : List OldRecord) (old : OldRecord) (m : MovingNow) (so_far : IsSoFar rows keys olds m) where
  pub so_far_more : (next : MovingNow) → AreFew next.adding.rounds.entries (length next.adding.added.items)
      → ((from : Format) (start : Book) (move : Move) (line : Line) → IsGoing from start move m → IsLineOf from old line → IsGoing from start (step from present move line) next)
      → ((from : Format) (start : Book) (move : Move) (line : Line) → IsGoing from start move m → IsLineOf from old line → IsSpelled line.sig → StandWell m.keys move.book → IsClear from present move line)
      → ((from : Format) (start : Book) (move : Move) (line : Line) → IsGoing from start move m → IsLineOf from old line → IsSpelled line.sig → StandWell m.keys move.book → StandWell next.keys (step from present move line).book)
      → KnowsKey m.keys old.stored.sig.key next.keys → IsSoFar rows keys (olds ++ old ∷ []) next
  so_far_more next few going clear well grown = record {
    going = λ from book start are stood.
        let c = cut from olds old [] book are in
        subst (λ (n : Move). IsGoing from start n next) (sym (moved from book start c)) (going from start (moved_from from present (begun start) c.front) c.line (so_far.going from c.front start c.before stood) c.here);
    clear = λ from book start are stood spelled stand.
        let c = cut from olds old [] book are in
        subst (AreClear from present (begun start)) (sym (last_cut from olds old book c))
        (clear_append from (begun start) c.front (c.line ∷ []) (so_far.clear from c.front start c.before stood (front_spelled from book c spelled) stand)
        (clear from start (moved_from from present (begun start) c.front) c.line (so_far.going from c.front start c.before stood) c.here (line_spelled from book c spelled) (so_far.well from c.front start c.before stood (front_spelled from book c spelled) stand), tt));
    well = λ from book start are stood spelled stand.
        let c = cut from olds old [] book are in
        subst (λ (n : Move). StandWell next.keys n.book) (sym (moved from book start c))
        (well from start (moved_from from present (begun start) c.front) c.line (so_far.going from c.front start c.before stood) c.here (line_spelled from book c spelled) (so_far.well from c.front start c.before stood (front_spelled from book c spelled) stand));
    keys_more = keys_step keys m.keys next.keys olds old so_far.keys_more grown;
    few = few;
  }
    where
      moved : (from : Format) (book start : Book) (c : Cut from olds old [] book) → moved_from from present (begun start) book ≡ step from present (moved_from from present (begun start) c.front) c.line
      moved from book start c = ap (moved_from from present (begun start)) (last_cut from olds old book c) ∙ from_append from present (begun start) c.front (c.line ∷ [])

      front_spelled : (from : Format) (book : Book) (c : Cut from olds old [] book) → AreSpelled book → AreSpelled c.front
      front_spelled from book c spelled before line s = spelled before line (stands_further book c.front (c.line ∷ c.rest) before line c.is s)

      line_spelled : (from : Format) (book : Book) (c : Cut from olds old [] book) → AreSpelled book → IsSpelled c.line.sig
      line_spelled from book c spelled = spelled c.front c.line (record { rest = c.rest; is = c.is })

  pub so_far_fault : (left all : List OldRecord) (fault : MoveFault) → all ≡ olds ++ old ∷ left → ((from : Format) (start : Book) (move : Move) (line : Line) → IsGoing from start move m → IsLineOf from old line → IsFaultAt from move m.keys line fault)
      → (from : Format) (book start : Book) → AreLinesOf from all book → rows ≡ rows_of present start → IsMoveFault from start book keys fault
  so_far_fault left all fault is refused from book start are stood =
      let c = cut from olds old left book (subst (λ (l : List OldRecord). AreLinesOf from l book) is are) in
      record {
        front = c.front;
        line = c.line;
        rest = c.rest;
        is = c.is;
        known = so_far.keys_more.more;
        known_of = keys_of_lines from olds c.front so_far.keys_more.more c.before so_far.keys_more.each;
        cause = subst (λ (k : List (List ℕ)). IsFaultAt from (moved_from from present (begun start) c.front) k c.line fault) so_far.keys_more.is (refused from start (moved_from from present (begun start) c.front) c.line (so_far.going from c.front start c.before stood) c.here);
      }
