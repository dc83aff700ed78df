-- Why a row isn't added.
use Rattle.std.specs.Prelude.{◌≡◌, ◌≢◌, List, Some}
use Rattle.store_model.specs.declared.signature.EquivRow.{EquivRow}
use Rattle.store_model.specs.Rows.{row_at}
use Rattle.hash_equiv.specs.declared.index.EquivFault.{EquivFault}
use Rattle.hash_equiv.specs.declared.index.EquivFault.TheVariants.{Collision, Unsteady, Memory}

-- Two rows of one name differ in their signatures, or in their manifests alone (own rules). Want of memory is free.
abbrev pub IsDifference : EquivRow → EquivRow → EquivFault → Type 0
IsDifference held given (Collision one other) = (one ≡ held.sig) × (other ≡ given.sig) × (held.sig ≢ given.sig)
IsDifference held given (Unsteady one other) = (one ≡ held) × (other ≡ given) × (held.sig ≡ given.sig) × (held.manifest ≢ given.manifest)
IsDifference held given Memory = Unit {0}

-- A row isn't added where the one of its name differs from it.
abbrev pub IsEquivFault : List EquivRow → EquivRow → EquivFault → Type 0
IsEquivFault rows given (Collision one other) = (held : EquivRow) × (row_at rows given.name ≡ Some held) × IsDifference held given (Collision one other)
IsEquivFault rows given (Unsteady one other) = (held : EquivRow) × (row_at rows given.name ≡ Some held) × IsDifference held given (Unsteady one other)
IsEquivFault rows given Memory = Unit {0}
