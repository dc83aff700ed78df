-- Why a move is refused.
use Rattle.std.specs.Prelude.{Contains, ◌≡◌, ◌≢◌, ◌++◌, ◌∷◌, ℕ, List, Some}
use Rattle.std.specs.List.{AllByRecursion}
use Rattle.sha2.specs.Sha256.{sha256}
use Rattle.tree_model.specs.declared.hash.Hash.{Hash}
use Rattle.store_model.specs.Origins.{Book, Line}
use Rattle.store_model.specs.Valid.{StandsIn}
use Rattle.store_model.specs.Spelling.{key_bytes, signature_bytes, text_name}
use Rattle.store_move.specs.Formats.{Format}
use Rattle.store_move.specs.Moves.{begun, Move, moved_from, moved_sig, present}
use Rattle.record_move.specs.declared.fault.MoveFault.{MoveFault}
use Rattle.record_move.specs.declared.fault.MoveFault.TheVariants.{Collision, KeyCollision, Memory}
use Rattle.record_move.specs.Known.{key_named}

-- A line of the new book has the name of the line's moved signature and another signature; or the line's key is another one than the known
-- one of its name. Want of memory is free.
abbrev pub IsFaultAt : Format → Move → List (List ℕ) → Line → MoveFault → Type 0
IsFaultAt from move keys line (Collision name held given) =
    (before : Book) × (other : Line) × StandsIn move.book before other × (held ≡ signature_bytes other.sig) × (given ≡ signature_bytes (moved_sig from move.pairs line.sig))
    × (name ≡ text_name held) × (name ≡ text_name given) × (held ≢ given)
IsFaultAt from move keys line (KeyCollision name held given) =
    (key_named keys name ≡ Some held) × (given ≡ key_bytes line.sig.key) × (name.bytes ≡ sha256 held) × (name.bytes ≡ sha256 given) × (held ≢ given)
IsFaultAt from move keys line Memory = Unit {0}

-- Some line of the book is refused so, behind those that were moved before it; besides the keys that were known some of theirs are.
pub record IsMoveFault (from : Format) (start book : Book) (keys : List (List ℕ)) (fault : MoveFault) : Type 0 where
  pub front : Book
  pub line : Line
  pub rest : Book
  pub is : book ≡ front ++ line ∷ rest
  pub known : List (List ℕ)
  pub known_of : AllByRecursion (λ key. (l : Line) × Contains front l × (key ≡ key_bytes l.sig.key)) known
  pub cause : IsFaultAt from (moved_from from present (begun start) front) (keys ++ known) line fault

-- a key isn't added where another one is known by its name
abbrev pub IsKeyFault : List (List ℕ) → List ℕ → MoveFault → Type 0
IsKeyFault keys key (Collision name held given) = ⊥
IsKeyFault keys key (KeyCollision name held given) = (key_named keys name ≡ Some held) × (given ≡ key) × (name.bytes ≡ sha256 held) × (name.bytes ≡ sha256 given) × (held ≢ given)
IsKeyFault keys key Memory = Unit {0}

abbrev pub IsKeyFaultOf : Hash → List ℕ → List ℕ → MoveFault → Type 0
IsKeyFaultOf name held given (Collision n h g) = ⊥
IsKeyFaultOf name held given (KeyCollision n h g) = (n ≡ name) × (h ≡ held) × (g ≡ given)
IsKeyFaultOf name held given Memory = Unit {0}
