-- What counts of faults say of calls one after another, and of answers that are handed on.
use Rattle.std.proofs.Common.{◌≡◌, ◌∙◌, sym, ap, refl, subst, ℕ, Bool, false, Result, Ok, Err}
use Rattle.std.specs.Prelude.{IsErrAnd}
use Rattle.outside_traits.specs.Fault.{Counts}
use Rattle.outside_traits.specs.declared.fault.DiskFault.{DiskFault}
use Rattle.outside_traits.specs.declared.fault.DiskFault.TheVariants as disk
use Rattle.sstate_mirror.specs.declared.fault.BringFault.{BringFault}
use Rattle.sstate_mirror.specs.Faults.{disk_refused, is_the_disks, is_the_mirrors, mirror_refused, of_disk}
use Rattle.store_upgrade.specs.Faults.{is_disk_fault}

-- a call that counts nothing, and another one
pub counts_on : (a b c : ℕ) (x : Bool) → Counts a b false → Counts b c x → Counts a c x
counts_on a b c x first second = subst (λ (n : ℕ). Counts n c x) first.stayed second

pub counts_as : (a b : ℕ) (x y : Bool) → x ≡ y → Counts a b x → Counts a b y
counts_as a b x y same counts = subst (Counts a b) same counts

disk_of : (f : DiskFault) → is_the_disks (of_disk f) ≡ is_disk_fault f
disk_of disk.Failed = refl
disk_of disk.Memory = refl

mirror_of : (f : DiskFault) → is_the_mirrors (of_disk f) ≡ false
mirror_of disk.Failed = refl
mirror_of disk.Memory = refl

-- an own disk's fault that is handed on
pub disk_handed : {T : Type 0} (r : Result T BringFault) (given : DiskFault) → IsErrAnd r (λ e. e ≡ of_disk given) → disk_refused r ≡ is_disk_fault given
disk_handed (Ok x) given never = absurd never
disk_handed (Err e) given is = ap is_the_disks is ∙ disk_of given

pub mirror_handed : {T : Type 0} (r : Result T BringFault) (given : DiskFault) → IsErrAnd r (λ e. e ≡ of_disk given) → mirror_refused r ≡ false
mirror_handed (Ok x) given never = absurd never
mirror_handed (Err e) given is = ap is_the_mirrors is ∙ mirror_of given

-- behind a call that counts nothing an own disk's fault is handed on
pub handed_on : {T : Type 0} (a b c : ℕ) (r : Result T BringFault) (given : DiskFault) → IsErrAnd r (λ e. e ≡ of_disk given) → Counts a b false → Counts b c (is_disk_fault given) → Counts a c (disk_refused r)
handed_on a b c r given is first second = counts_on a b c (disk_refused r) first (counts_as b c (is_disk_fault given) (disk_refused r) (sym (disk_handed r given is)) second)

pub none_handed : {T : Type 0} (a b : ℕ) (r : Result T BringFault) (given : DiskFault) → IsErrAnd r (λ e. e ≡ of_disk given) → Counts a b false → Counts a b (mirror_refused r)
none_handed a b r given is counts = counts_as a b false (mirror_refused r) (sym (mirror_handed r given is)) counts
