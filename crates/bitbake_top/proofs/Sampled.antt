-- The runs of the sample.
use Rattle.std.proofs.Common.{arith, ◌≡◌, ◌≢◌, ◌⊎◌, ◌<◌, ◌≤◌, refl, sym, subst, ℕ, zero, suc, List, [], ◌∷◌, ◌++◌, map, slice_index, inl, inr}
use Rattle.std.proofs.lemmas.List.Elements.{Contains-append_right}
use Rattle.outside_traits.specs.Fault.{Rose}
use Rattle.meta_model.specs.declared.event.Logged.{Logged}
use Rattle.meta_model.specs.declared.event.Status.{Status}
use Rattle.meta_model.specs.declared.event.Status.TheVariants as status
use Rattle.meta_model.specs.declared.plan.Plan.{Plan}
use Rattle.run_model.specs.Written.{WritesFront}
use Rattle.run_model.specs.Benches.{SomeRose}
use Rattle.answer_model.specs.Answers.{Says}
use Rattle.answer_model.specs.Run.{HasCause}
use Rattle.answer_model.specs.Sample.{IsLine, SaysSample}
use Rattle.bitbake_top.specs.Sample.{MayEnd, answered}

-- ---- devices that never fail

no_rise : Rose 0 0 → ⊥
no_rise rose = let r : 1 ≤ 0 = rose in omega (arith, r)

-- the count of a device that never fails
abbrev pub nought : {A : Type 0} → A → ℕ
nought x = 0

zero_at : {A : Type 0} (xs : List A) (k : ℕ) → slice_index (map nought xs) k ≡ 0
zero_at [] k = refl
zero_at (x ∷ xs) zero = refl
zero_at (x ∷ xs) (suc k) = zero_at xs k

none_of : {A : Type 0} (xs ys : List A) → SomeRose (map nought xs) (map nought ys) → ⊥
none_of xs ys rose =
    let a = zero_at xs rose.0 in
    let b = zero_at ys rose.0 in
    let r : Rose (slice_index (map nought xs) rose.0) (slice_index (map nought ys) rose.0) = rose.2 in
    omega (arith, a, b, r)

-- where no device can fail, none did
alone : (layers bench sink : Type 0) → (layers → ⊥) → (bench → ⊥) → (sink → ⊥) → (s : Status) → HasCause layers 0 bench sink s → HasCause ⊥ 0 ⊥ ⊥ s
alone layers bench sink no_layers no_bench no_sink status.Ok c = c
alone layers bench sink no_layers no_bench no_sink status.TaskFailed c = c
alone layers bench sink no_layers no_bench no_sink status.Usage c = c
alone layers bench sink no_layers no_bench no_sink (status.Metadata file row kind detail) c = c
alone layers bench sink no_layers no_bench no_sink status.DiskFault c = c
alone layers bench sink no_layers no_bench no_sink status.BenchFault c = no_bench c
alone layers bench sink no_layers no_bench no_sink status.ReadFault c = no_layers c
alone layers bench sink no_layers no_bench no_sink status.WriteFault c = no_sink c
alone layers bench sink no_layers no_bench no_sink (status.Collision name held given) c = c
alone layers bench sink no_layers no_bench no_sink (status.Unsteady pn task held given) c = c
alone layers bench sink no_layers no_bench no_sink (status.Limit kind) c = c
alone layers bench sink no_layers no_bench no_sink status.OutOfMemory c = c
alone layers bench sink no_layers no_bench no_sink status.MirrorFault c = absurd c

pub may_end : {A : Type 0} (xs ys : List A) (s : Status) → HasCause (Rose 0 0) 0 (SomeRose (map nought xs) (map nought ys)) (Rose 0 0) s → s ≢ status.Usage → MayEnd s
may_end xs ys s cause read = record { cause = alone (Rose 0 0) (SomeRose (map nought xs) (map nought ys)) (Rose 0 0) no_rise (none_of xs ys) no_rise s cause; read = read }

-- the cause of what is answered
pub weaker : (layers bench sink : Type 0) (disk : ℕ) (s : Status) → HasCause ⊥ 0 ⊥ sink s → HasCause layers disk bench sink s
weaker layers bench sink disk status.Ok c = c
weaker layers bench sink disk status.TaskFailed c = c
weaker layers bench sink disk status.Usage c = c
weaker layers bench sink disk (status.Metadata file row kind detail) c = c
weaker layers bench sink disk status.DiskFault c = let less : 0 < 0 = c in omega (arith, less)
weaker layers bench sink disk status.BenchFault c = absurd c
weaker layers bench sink disk status.ReadFault c = absurd c
weaker layers bench sink disk status.WriteFault c = c
weaker layers bench sink disk (status.Collision name held given) c = c
weaker layers bench sink disk (status.Unsteady pn task held given) c = c
weaker layers bench sink disk (status.Limit kind) c = c
weaker layers bench sink disk status.OutOfMemory c = c
weaker layers bench sink disk status.MirrorFault c = absurd c

-- ---- the line of a run that wasn't well

-- behind the plans and tales of the run before it
pub line_behind : (size : ℕ) (p q : List Plan) (t u : List (List Logged)) (s : Status) (text : List ℕ) → s ≢ status.Ok → IsLine size q u s text → IsLine size (p ++ q) (t ++ u) s text
line_behind size p q t u status.Ok text other l = absurd (other refl)
line_behind size p q t u status.TaskFailed text other l = (l.0, Contains-append_right p q l.0 l.1, l.2, Contains-append_right t u l.2 l.3, l.4, l.5)
line_behind size p q t u status.Usage text other l = l
line_behind size p q t u (status.Metadata file row kind detail) text other l = l
line_behind size p q t u status.DiskFault text other l = l
line_behind size p q t u status.BenchFault text other l = l
line_behind size p q t u status.ReadFault text other l = l
line_behind size p q t u status.WriteFault text other l = l
line_behind size p q t u (status.Collision name held given) text other l = l
line_behind size p q t u (status.Unsteady pn task held given) text other l = l
line_behind size p q t u (status.Limit kind) text other l = l
line_behind size p q t u status.OutOfMemory text other l = l
line_behind size p q t u status.MirrorFault text other l = l

-- ---- what is written

-- how the line was printed
pub record Printed (text base now : List ℕ) (before after : ℕ) (printed : Status) : Type 0 where
  pub how : (printed ≡ status.Ok) ⊎ (printed ≡ status.WriteFault)
  pub whole : printed ≡ status.Ok → now ≡ base ++ text
  pub rose : printed ≡ status.WriteFault → Rose before after
  pub says : Says text base now before after
  pub front : WritesFront base now text

said_failed : (size : ℕ) (plans : List Plan) (tales : List (List Logged)) (s : Status) (text base now : List ℕ) (before after : ℕ) → IsLine size plans tales s text → HasCause ⊥ 0 ⊥ ⊥ s → Rose before after → Says text base now before after → WritesFront base now text
    → SaysSample size plans tales (answered status.WriteFault s) base now before after
said_failed size plans tales status.Ok text base now before after line c rose says front = (rose, status.Ok, text, line, front)
said_failed size plans tales status.TaskFailed text base now before after line c rose says front = (rose, status.TaskFailed, text, line, front)
said_failed size plans tales status.Usage text base now before after line c rose says front = (text, line, says)
said_failed size plans tales (status.Metadata file row kind detail) text base now before after line c rose says front = (text, line, says)
said_failed size plans tales status.DiskFault text base now before after line c rose says front = (text, line, says)
said_failed size plans tales status.BenchFault text base now before after line c rose says front = (text, line, says)
said_failed size plans tales status.ReadFault text base now before after line c rose says front = (text, line, says)
said_failed size plans tales status.WriteFault text base now before after line c rose says front = absurd c
said_failed size plans tales (status.Collision name held given) text base now before after line c rose says front = (text, line, says)
said_failed size plans tales (status.Unsteady pn task held given) text base now before after line c rose says front = (text, line, says)
said_failed size plans tales (status.Limit kind) text base now before after line c rose says front = (text, line, says)
said_failed size plans tales status.OutOfMemory text base now before after line c rose says front = (text, line, says)
said_failed size plans tales status.MirrorFault text base now before after line c rose says front = (text, line, says)

said_well : (size : ℕ) (plans : List Plan) (tales : List (List Logged)) (s : Status) (text base now : List ℕ) (before after : ℕ) → IsLine size plans tales s text → HasCause ⊥ 0 ⊥ ⊥ s → now ≡ base ++ text → SaysSample size plans tales (answered status.Ok s) base now before after
said_well size plans tales status.Ok text base now before after line c whole = (text, line, whole)
said_well size plans tales status.TaskFailed text base now before after line c whole = (text, line, inl whole)
said_well size plans tales status.Usage text base now before after line c whole = (text, line, inl whole)
said_well size plans tales (status.Metadata file row kind detail) text base now before after line c whole = (text, line, inl whole)
said_well size plans tales status.DiskFault text base now before after line c whole = (text, line, inl whole)
said_well size plans tales status.BenchFault text base now before after line c whole = (text, line, inl whole)
said_well size plans tales status.ReadFault text base now before after line c whole = (text, line, inl whole)
said_well size plans tales status.WriteFault text base now before after line c whole = absurd c
said_well size plans tales (status.Collision name held given) text base now before after line c whole = (text, line, inl whole)
said_well size plans tales (status.Unsteady pn task held given) text base now before after line c whole = (text, line, inl whole)
said_well size plans tales (status.Limit kind) text base now before after line c whole = (text, line, inl whole)
said_well size plans tales status.OutOfMemory text base now before after line c whole = (text, line, inl whole)
said_well size plans tales status.MirrorFault text base now before after line c whole = (text, line, inl whole)

pub said_sample : (size : ℕ) (plans : List Plan) (tales : List (List Logged)) (s : Status) (text base now : List ℕ) (before after : ℕ) (printed : Status) → IsLine size plans tales s text → MayEnd s → Printed text base now before after printed
    → SaysSample size plans tales (answered printed s) base now before after
said_sample size plans tales s text base now before after printed line ends p = elim p.how [
  | inl ok ↦ subst (λ (x : Status). SaysSample size plans tales (answered x s) base now before after) (sym ok) (said_well size plans tales s text base now before after line ends.cause (p.whole ok))
  | inr failed ↦ subst (λ (x : Status). SaysSample size plans tales (answered x s) base now before after) (sym failed) (said_failed size plans tales s text base now before after line ends.cause (p.rose failed) p.says p.front)
]

read_failed : (s : Status) → s ≢ status.Usage → answered status.WriteFault s ≢ status.Usage
read_failed status.Ok read e = let n : status.WriteFault ≡ status.Usage = e in cc
read_failed status.TaskFailed read e = let n : status.WriteFault ≡ status.Usage = e in cc
read_failed status.Usage read e = read e
read_failed (status.Metadata file row kind detail) read e = read e
read_failed status.DiskFault read e = read e
read_failed status.BenchFault read e = read e
read_failed status.ReadFault read e = read e
read_failed status.WriteFault read e = read e
read_failed (status.Collision name held given) read e = read e
read_failed (status.Unsteady pn task held given) read e = read e
read_failed (status.Limit kind) read e = read e
read_failed status.OutOfMemory read e = read e
read_failed status.MirrorFault read e = read e

-- the status is this one either way
pub either_way : (s t : Status) → (s ≡ t) ⊎ (s ≡ t) → s ≡ t
either_way s t (inl e) = e
either_way s t (inr e) = e
