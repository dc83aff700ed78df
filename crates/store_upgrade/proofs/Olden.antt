-- Old records that are read, and which of them are believed.
use Rattle.std.proofs.Common.{◌≡◌, ◌∙◌, sym, ap, subst, refl, ℕ, suc, ◌+◌, ◌<◌, ◌≤◌, List, [], ◌∷◌, ◌++◌, length, get_or, take, map, filter_map, Some, false}
use Rattle.std.specs.Prelude.{slice_get}
use Rattle.std.specs.List.{AllByRecursion}
use Rattle.std.proofs.lemmas.List.{map-append, take_all, take_more}
use Rattle.std.proofs.lemmas.List.Elements.{filter_map-append}
use Rattle.tree_model.specs.declared.entry.Entry.TheVariants.{File}
use Rattle.store_model.specs.declared.signature.StoredSig.{StoredSig}
use Rattle.store_model.specs.Believed.{AreBelieved}
use Rattle.store_model.specs.Spelling.{short_stored_of}
use Rattle.store_model.specs.Stored.{SpellsShort, SpellsStored}
use Rattle.store_move.specs.First.{SpellsFirst, first_name, first_record}
use Rattle.sig_gen.specs.Stored.{IsInOrder}
use Rattle.sig_gen.proofs.FirstReading.{stored_again}
use Rattle.sig_gen.proofs.ShortLaws.{short_is_whole}
use Rattle.record_move.specs.declared.records.OldRecord.{OldRecord}
use Rattle.store_opening.proofs.Indexed.{believed_at}
use Rattle.store_opening.proofs.Surveyed.{each_of}
use Rattle.store_upgrade.specs.Old.{IsGoodOld, IsOldIn, candidate_of, olds_at}

-- ---- one record

-- bytes spell one record
pub same_old : (bytes : List ℕ) (a b : StoredSig) → SpellsFirst bytes a → SpellsFirst (first_record b) b → bytes ≡ first_record b → b ≡ a
same_old bytes a b one two is =
    let read : Some b ≡ Some a = sym (stored_again bytes b (subst (λ (l : List ℕ). SpellsFirst l b) (sym is) two)) ∙ stored_again bytes a one in
    cc

pub in_order_of : (old : OldRecord) → IsGoodOld old → IsInOrder old.stored
in_order_of old good = record { sig = good.spelled.sig.spelled; ascends = good.spelled.ascends; paths = good.spelled.paths }

pub short_of_old : (bytes slice : List ℕ) (old : OldRecord) → slice ≡ bytes → SpellsStored bytes old.stored → SpellsShort slice (short_stored_of old.stored)
short_of_old bytes slice old same spells = subst (λ (l : List ℕ). SpellsShort l (short_stored_of old.stored)) (sym same) (short_is_whole.0 bytes old.stored spells)

bytes_of : {x y : List ℕ} → File false x ≡ File false y → x ≡ y
bytes_of e = cc

pub old_bytes : (path bytes : List ℕ) (old : OldRecord) → IsOldIn (path, File false bytes) old → bytes ≡ first_record old.stored
old_bytes path bytes old is = bytes_of is.is

-- two that the same bytes spell have one name
pub one_old_name : (bytes : List ℕ) (a b : OldRecord) → IsGoodOld a → IsGoodOld b → bytes ≡ first_record a.stored → bytes ≡ first_record b.stored → a ≡ b
one_old_name bytes a b one two at too =
    let stored : b.stored ≡ a.stored = same_old bytes a.stored b.stored (subst (λ (l : List ℕ). SpellsFirst l a.stored) (sym at) one.spelled) two.spelled too in
    let name : a.name ≡ b.name = one.name ∙ ap (λ (s : StoredSig). first_name s.sig) (sym stored) ∙ sym two.name in
    λ i. record { name = name i; stored = sym stored i }

-- ---- lists

pub candidates_more : (olds : List OldRecord) (n : ℕ) (old : OldRecord) → n < length olds → old ≡ get_or olds n old → map candidate_of (take (n + 1) olds) ≡ map candidate_of (take n olds) ++ candidate_of old ∷ []
candidates_more olds n old lt is = ap (map candidate_of) (take_more olds n old lt ∙ ap (λ (x : OldRecord). take n olds ++ x ∷ []) (sym is)) ∙ map-append candidate_of (take n olds) (old ∷ [])

pub candidates_all : (olds : List OldRecord) (n : ℕ) → length olds ≤ n → map candidate_of (take n olds) ≡ map candidate_of olds
candidates_all olds n past = ap (map candidate_of) (take_all n olds past)

pub good_at : (olds : List OldRecord) (n : ℕ) (old : OldRecord) → n < length olds → old ≡ get_or olds n old → AllByRecursion IsGoodOld olds → IsGoodOld old
good_at olds n old lt is good = each_of IsGoodOld olds old good (n, lt, sym is)

length-candidates : (olds : List OldRecord) → length (map candidate_of olds) ≡ length olds
length-candidates [] = refl
length-candidates (x ∷ xs) = ap suc (length-candidates xs)

pub place_below : (olds : List OldRecord) (places : List ℕ) (i : ℕ) → AreBelieved (map candidate_of olds) places → i < length places → get_or places i 0 < length olds
place_below olds places i believed lt = subst (λ (n : ℕ). get_or places i 0 < n) (length-candidates olds) (believed_at (map candidate_of olds) places i believed lt)

pub olds_more : (olds : List OldRecord) (places : List ℕ) (i : ℕ) (old : OldRecord) → i < length places → slice_get olds (get_or places i 0) ≡ Some old → olds_at olds (take (i + 1) places) ≡ olds_at olds (take i places) ++ old ∷ []
olds_more olds places i old lt at =
    let last : filter_map (slice_get olds) (get_or places i 0 ∷ []) ≡ old ∷ [] = rw at refl in
    ap (λ ps. olds_at olds ps) (take_more places i 0 lt) ∙ filter_map-append (slice_get olds) (take i places) (get_or places i 0 ∷ []) ∙ ap (λ l. olds_at olds (take i places) ++ l) last
