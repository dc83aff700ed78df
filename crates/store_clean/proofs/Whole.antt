-- A clearing from its beginning to its end.
use Rattle.std.proofs.Common.{◌≡◌, ◌∙◌, subst, ℕ, ◌+◌, ◌<◌, inl, inr, Bool, List, [], length, get_or, None}
use Rattle.std.specs.Prelude.{All, Contains}
use Rattle.std.specs.List.{AllByRecursion}
use Rattle.std.proofs.lemmas.List.{get_or_default}
use Rattle.std.proofs.lemmas.List.Elements.{Contains-get_or, recursion_from_All}
use Rattle.tree_model.specs.declared.hash.Hash.{Hash}
use Rattle.outside_traits.specs.Passes.{Passes, Same}
use Rattle.outside_traits.specs.Store.{Store}
use Rattle.outside_traits.specs.Story.{IsSound, Story}
use Rattle.store_model.specs.declared.signature.EquivRow.{EquivRow}
use Rattle.store_model.specs.Paths.{record_path}
use Rattle.store_clean.specs.declared.deciding.Chosen.{Chosen}
use Rattle.store_clean.specs.declared.nodes.Node.{Node}
use Rattle.store_keep.specs.Tries.{marked_in}
use Rattle.store_clean.specs.declared.clearing.Cleaned.{Cleaned}
use Rattle.store_clean.specs.Deciding.{IsDecided, keeps}
use Rattle.store_clean.specs.Cleared.{IsCleared, IsClearing, Goes, IsDone, IsMoment, NamesGone}
use Rattle.store_clean.specs.Steps.{AreInRounds, AreRounds, HoldsGoneStamp, IsReady, IsRecordOf, SweepsAll, SweepsLeft, TakesAway, node_names, round_at}
use Rattle.store_clean.proofs.Moments.{all_cleared, all_gone, key_as, rounds_clearing, stamp_as, stamp_gone, stamps_clearing, swept_clearing}
use Rattle.store_clean.proofs.Runs.{IsDurable, passes_from, passes_on, passes_start, takes_same}

-- the places in rounds are those of nodes
pub rounds_within : (edges : List (List ℕ)) (marks : List Bool) (rounds : List (List ℕ)) (n : ℕ) → AreRounds edges marks rounds → length edges ≡ n → AllByRecursion (All (λ p. p < n)) rounds
rounds_within edges marks rounds n are long = recursion_from_All (All (λ p. p < n)) rounds (λ k d lt j e below.
    let here : get_or rounds k d ≡ round_at rounds k = get_or_default rounds k d [] lt in
    let has : Contains (round_at rounds k) (get_or (get_or rounds k d) j e) = subst (λ (l : List ℕ). Contains l (get_or (get_or rounds k d) j e)) here (Contains-get_or (get_or rounds k d) j e below) in
    let w = are.only k (get_or (get_or rounds k d) j e) has in
    subst (λ (m : ℕ). get_or (get_or rounds k d) j e < m) long w.0)

module _ (rows : List EquivRow) (nodes : List Node) (chosen : Chosen) (a : Story) (sound : IsSound a) (durable : IsDurable a) (ready : IsReady rows nodes chosen a.held) where
  abbrev keep : Hash → Bool
  keep = keeps rows chosen.marks.items

  abbrev IsOne : Store → Type 0
  IsOne image = IsClearing rows keep a.held image

  abbrev Stamped : Store → Store → Type 0
  Stamped = TakesAway (HoldsGoneStamp (node_names nodes) chosen.marks.items a.held)

  at_first : IsOne a.held
  at_first = stamps_clearing rows nodes chosen a.held ready a.held (takes_same (HoldsGoneStamp (node_names nodes) chosen.marks.items a.held) a.held)

  pub nothing_done : Passes a a (λ earlier image. IsOne image)
  nothing_done = passes_start a IsOne sound durable at_first

  pub stamps_done : (b : Story) → Passes a b Stamped → Passes a b (λ earlier image. IsOne image)
  stamps_done b run = passes_from IsOne sound durable run (λ k takes. stamps_clearing rows nodes chosen a.held ready k takes)

  module _ (rounds : List (List ℕ)) (are : AreRounds chosen.edges.items chosen.marks.items rounds) (long : length chosen.edges.items ≡ length nodes) (b : Story) (sound_b : IsSound b) (durable_b : IsDurable b) (stamped : Passes a b Stamped) where
    in_rounds : (k : Store) → AreInRounds nodes rounds b.held k → IsOne k
    in_rounds k r = rounds_clearing rows nodes chosen a.held ready rounds are long b.held k stamped.held r

    pub rounds_done : (c : Story) → Passes b c (λ earlier image. AreInRounds nodes rounds b.held image) → Passes a c (λ earlier image. IsOne image)
    rounds_done c run = passes_on IsOne IsOne sound_b durable_b (stamps_done b stamped) run (λ j p. p) in_rounds

    module _ (c : Story) (sound_c : IsSound c) (durable_c : IsDurable c) (went : Passes b c (λ earlier image. AreInRounds nodes rounds b.held image)) (gone : (k : ℕ) (q : List ℕ) → k < length rounds → IsRecordOf nodes (round_at rounds k) q → c.held q ≡ None) where
      records_gone : (row : EquivRow) → Goes rows keep row → c.held (record_path row.name) ≡ None
      records_gone = all_gone rows nodes chosen a.held ready rounds are long b.held c.held stamped.held went.held gone

      pub sweep_done : (d : Story) → Passes c d (SweepsAll nodes chosen.marks.items) → Passes a d (λ earlier image. IsOne image)
      sweep_done d run = passes_on IsOne IsOne sound_c durable_c (rounds_done c went) run (λ j p. p) (λ k sweeps. swept_clearing rows nodes chosen a.held ready c.held k (in_rounds c.held went.held) records_gone sweeps)

      pub cleared_done : (d : Story) → Passes c d (SweepsAll nodes chosen.marks.items) → SweepsLeft nodes chosen.marks.items d.held → ((q : List ℕ) → HoldsGoneStamp (node_names nodes) chosen.marks.items b.held q → ⊥) → IsCleared rows keep a.held d.held
      cleared_done d run left none = all_cleared rows nodes chosen a.held ready c.held d.held (in_rounds c.held went.held) records_gone run.held left
          (λ q below named. none q (stamp_gone rows nodes chosen a.held ready q b.held below (subst (NamesGone rows keep) (stamp_as rows nodes chosen a.held ready rounds are long b.held c.held stamped.held went.held q below) named)))
          (λ q below. key_as rows nodes chosen a.held ready rounds are long b.held c.held stamped.held went.held q below)

-- ---- with what was opened

pub moment_same : (rows : List EquivRow) (roots : List Hash) (limit : ℕ) (a b : Story) → IsSound a → IsDurable a → Passes a b Same → Passes a b (λ earlier image. IsMoment rows roots limit a.held image)
moment_same rows roots limit a b sound durable run = passes_from (IsMoment rows roots limit a.held) sound durable run (λ k same. inl same)

pub moment_clears : (rows : List EquivRow) (roots : List Hash) (limit : ℕ) (marks : List Bool) → IsDecided rows roots limit marks → (a b c : Story) → IsSound a → IsDurable a → IsSound b → IsDurable b → Passes a b Same
    → Passes b c (λ earlier image. IsClearing rows (keeps rows marks) b.held image) → Passes a c (λ earlier image. IsMoment rows roots limit a.held image)
moment_clears rows roots limit marks decided a b c sound durable sound_b durable_b run clears =
    passes_on (IsMoment rows roots limit a.held) (IsMoment rows roots limit a.held) sound_b durable_b (moment_same rows roots limit a b sound durable run) clears (λ j p. p)
    (λ k s. inr (marks, decided, subst (λ (h : Store). IsClearing rows (keeps rows marks) h k) run.held s))

pub all_done : (rows : List EquivRow) (nodes : List Node) (roots : List Hash) (limit : ℕ) (marks : List Bool) (a b c : Story) (cleaned : Cleaned) → IsDecided rows roots limit marks → length marks ≡ length rows → cleaned.kept ≡ marked_in marks → cleaned.kept + cleaned.gone ≡ length marks → b.held ≡ a.held
    → IsCleared rows (keeps rows marks) b.held c.held → IsDurable c → IsDone rows roots limit a.held c cleaned
all_done rows nodes roots limit marks a b c cleaned decided long kept all same cleared durable = record {
  marks = marks;
  decided = decided;
  counted = record { kept = kept; all = all ∙ long };
  cleared = subst (λ (h : Store). IsCleared rows (keeps rows marks) h c.held) same cleared;
  durable = durable;
}
