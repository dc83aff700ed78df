-- What a record that is added brings.
use Rattle.std.specs.Prelude.{◌≡◌, ◌≢◌, ◌⊎◌, ◌<◌, ◌++◌, ◌∷◌, [], ℕ, List, Option, None, Some}
use Rattle.tree_model.specs.declared.hash.Hash.{Hash}
use Rattle.tree_model.specs.declared.manifest.ManifestLine.{ManifestLine}
use Rattle.store_model.specs.declared.signature.EquivRow.{EquivRow}
use Rattle.store_model.specs.declared.signature.SigRecord.{SigRecord}
use Rattle.store_model.specs.declared.signature.StoredSig.{StoredSig}
use Rattle.store_model.specs.Rows.{new_unihash, row_at}
use Rattle.record_move.specs.declared.fault.MoveFault.{MoveFault}
use Rattle.record_move.specs.declared.fault.MoveFault.TheVariants.{Collision, KeyCollision, Memory}
use Rattle.store_model.specs.Spelling.{name_of, signature_bytes}
use Rattle.record_move.specs.declared.adding.Adding.{Adding as AddingNow}
use Rattle.record_move.specs.declared.records.AddedRecord.{AddedRecord}
use Rattle.record_move.specs.Named.{value_at}
use Rattle.record_move.specs.Rounds.{round_for, round_of}

abbrev pub made_row : Hash → List ℕ → StoredSig → EquivRow
made_row name bytes stored = record { name = name; pn = stored.sig.pn; task = stored.sig.task; sig = bytes; manifest = stored.manifest; unihash = stored.unihash }

abbrev pub made_stored : List EquivRow → Hash → SigRecord → List ManifestLine → StoredSig
made_stored rows name sig manifest = record { sig = sig; manifest = manifest; unihash = new_unihash rows name sig.pn sig.task manifest }

-- the unihash of the row of a name, which has this signature; none where there is no row
abbrev pub IsStanding : List EquivRow → Hash → List ℕ → Option Hash → Type 0
IsStanding rows name bytes None = row_at rows name ≡ None
IsStanding rows name bytes (Some unihash) = (row : EquivRow) × (row_at rows name ≡ Some row) × (row.sig ≡ bytes) × (row.unihash ≡ unihash)

-- two signatures of a name
abbrev pub IsFaultOf : Hash → List ℕ → List ℕ → MoveFault → Type 0
IsFaultOf name held given (Collision n h g) = (n ≡ name) × (h ≡ held) × (g ≡ given)
IsFaultOf name held given (KeyCollision n h g) = ⊥
IsFaultOf name held given Memory = Unit {0}

-- The row of the name has another signature. Want of memory is free.
abbrev pub IsOther : List EquivRow → Hash → List ℕ → MoveFault → Type 0
IsOther rows name bytes (Collision n h g) = (row : EquivRow) × (row_at rows name ≡ Some row) × (row.sig ≢ bytes) × (n ≡ name) × (h ≡ row.sig) × (g ≡ bytes)
IsOther rows name bytes (KeyCollision n h g) = ⊥
IsOther rows name bytes Memory = Unit {0}

-- each round is below a number
abbrev pub AreFew : List (List ℕ × ℕ) → ℕ → Type 0
AreFew rounds n = (q : Hash) (round : ℕ) → value_at rounds q ≡ Some round → round < n

-- each name has its record's round
abbrev pub AreRoundsOf : List AddedRecord → List (List ℕ × ℕ) → Type 0
AreRoundsOf added rounds = (q : Hash) → value_at rounds q ≡ round_of added q

-- the record stands last, in its round, which is its name's where the name had none
pub record AddsRecord (old : List AddedRecord) (name : Hash) (stored : StoredSig) (new : List AddedRecord) (now : List (List ℕ × ℕ)) : Type 0 where
  pub is : new ≡ old ++ record { name = name; stored = stored; round = round_for old stored } ∷ []
  pub rounds : AreRoundsOf new now

-- what stands for a signature: the record of its name, which is there with the same signature, and nothing changes
pub record HasStood (rows : List EquivRow) (sig : SigRecord) (unihash : Hash) : Type 0 where
  pub row : EquivRow
  pub found : row_at rows (name_of sig) ≡ Some row
  pub signed : row.sig ≡ signature_bytes sig
  pub is : unihash ≡ row.unihash

-- ... or a new one
pub record IsAdded (rows : List EquivRow) (added : List AddedRecord) (sig : SigRecord) (manifest : List ManifestLine) (unihash : Hash) (longer : List EquivRow) (more : List AddedRecord) (now : List (List ℕ × ℕ)) : Type 0 where
  pub none : row_at rows (name_of sig) ≡ None
  pub is : unihash ≡ new_unihash rows (name_of sig) sig.pn sig.task manifest
  pub row : longer ≡ rows ++ made_row (name_of sig) (signature_bytes sig) (made_stored rows (name_of sig) sig manifest) ∷ []
  pub adds : AddsRecord added (name_of sig) (made_stored rows (name_of sig) sig manifest) more now

-- What was there has the signature's name, or it is added.
abbrev pub Stands : List EquivRow → AddingNow → SigRecord → List ManifestLine → Hash → List EquivRow → AddingNow → Type 0
Stands rows adding sig manifest unihash longer later =
    (HasStood rows sig unihash × (longer ≡ rows) × (later.added.items ≡ adding.added.items) × (later.rounds.entries ≡ adding.rounds.entries))
    ⊎ IsAdded rows adding.added.items sig manifest unihash longer later.added.items later.rounds.entries
