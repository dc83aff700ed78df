-- What one seat knows, its view, and how each call changes it.
use Rattle.std.specs.Prelude.{◌≡◌, ℕ, ◌+◌, ◌-◌, ◌*◌, ◌<◌, ◌==◌, nat_lt, nat_le, if◌then◌else◌, List, [], ◌∷◌, ◌++◌, length, drop, All, true}
use Rattle.std.specs.List.{filter}
use Rattle.turn_lock.specs.declared.rule.Record.{Record}
use Rattle.turn_lock.specs.declared.rule.Stage.{Stage}
use Rattle.turn_lock.specs.declared.rule.Stage.TheVariants.{Idle, Waiting, Holding, Joining}
use Rattle.turn_lock.specs.declared.rule.View.{View}
use Rattle.turn_lock.specs.Totals.{once, total}

module _ {E : Type 0} where
  -- the list has this prefix
  abbrev pub Begins : List E → List E → Type 0
  Begins all front = (more : List E) × (all ≡ front ++ more)

  -- the entries of the tale that were added under the number n, in order
  abbrev pub entries_of : (E → ℕ) → ℕ → List E → List E
  entries_of author n tale = filter (λ e. author e == n) tale

  -- for each of the records, the entries of the tale under its number are exactly the record's, in order
  abbrev pub HasEntries : (E → ℕ) → List (Record E) → List E → Type 0
  HasEntries author records tale = All (λ (r : Record E). entries_of author r.number tale ≡ r.entries) records

  -- how many of the records have the number n
  abbrev pub numbered : ℕ → List (Record E) → ℕ
  numbered n records = total (λ (r : Record E). once (r.number == n)) records

  -- each entry of the tale was added under the number of one of the records
  abbrev pub HasNoOthers : (E → ℕ) → List (Record E) → List E → Type 0
  HasNoOthers author records tale = All (λ e. 0 < numbered (author e) records) tale

  -- the longer of two lists, the second where they are of one length
  abbrev pub longer : List E → List E → List E
  longer xs ys = if nat_le (length xs) (length ys) then ys else xs

  -- the other one
  abbrev pub shorter : List E → List E → List E
  shorter xs ys = if nat_le (length xs) (length ys) then xs else ys

  -- how many tickets are out with a seat at this stage
  abbrev pub outstanding : Stage E → ℕ
  outstanding Idle = 0
  outstanding (Waiting t) = 1
  outstanding (Holding t old) = 1
  outstanding (Joining short) = 0

  -- the seat has the ticket t at this stage
  abbrev pub HasTicket : ℕ → Stage E → Type 0
  HasTicket t Idle = ⊥
  HasTicket t (Waiting u) = u ≡ t
  HasTicket t (Holding u old) = u ≡ t
  HasTicket t (Joining short) = ⊥

  -- the tale that went out, where the seat holds the turn
  abbrev pub tale_held : Stage E → List E
  tale_held Idle = []
  tale_held (Waiting t) = []
  tale_held (Holding t old) = old
  tale_held (Joining short) = []

module _ {N E : Type 0} where
  -- a seat's records, its own first
  abbrev pub records_of : View N E → List (Record E)
  records_of v = record { number = v.number; entries = v.own } ∷ v.others

  -- 1 where n is one of the seat's spare numbers, which follow its own, else 0
  abbrev pub spared : ℕ → View N E → ℕ
  spared n v = once (nat_lt v.number n) * once (nat_le n (v.number + v.spare))

  -- how often the number n stands among those of the seat's records and its spare ones
  abbrev pub times_held : ℕ → View N E → ℕ
  times_held n v = numbered n (records_of v) + spared n v

  -- the tale begins with what the seat has seen, and has exactly the entries of its records under their numbers
  pub record Fits (author : E → ℕ) (v : View N E) (tale : List E) : Type 0 where
    pub seen : Begins tale v.seen
    pub records : HasEntries author (records_of v) tale

  -- the tale with which the seat's turn began
  abbrev pub tale_out : View N E → List E
  tale_out v = tale_held v.stage

  -- the tale is the one that went out, and behind it entries under the seat's own number
  abbrev pub Adds : (E → ℕ) → View N E → List E → Type 0
  Adds author v tale = (added : List E) × (tale ≡ tale_out v ++ added) × All (λ e. author e ≡ v.number) added

  -- the view at another stage, and else the same
  abbrev pub staged : Stage E → View N E → View N E
  staged stage v = record v { stage = stage }

  -- the view of a lock's first seat
  abbrev pub first_view : N → ℕ → View N E
  first_view name seats = record { live = true; name = name ∷ []; number = 0; spare = seats - 1; seen = []; own = []; others = []; stage = Idle }

  -- the view after a turn in which the tale grew from old: the tale is seen, and what is new in it stands in the seat's own record
  abbrev pub after_turn : View N E → List E → List E → View N E
  after_turn v old tale = record v { seen = tale; own = v.own ++ drop (length old) tale; stage = Idle }

  -- the view of the seat that is split off: its number is the last of the spare ones, it has seen the same, and its own record is empty
  abbrev pub split_off : View N E → View N E
  split_off v = record { live = v.live; name = v.name; number = v.number + v.spare; spare = 0; seen = v.seen; own = []; others = []; stage = Idle }

  -- the view of the seat that it was split off from: one spare number less
  abbrev pub split_from : View N E → View N E
  split_from v = record v { spare = v.spare - 1 }

  -- the view of v after it took in w: the longer of what the two have seen, and the records of both
  abbrev pub joined : View N E → View N E → View N E
  joined v w = record v { seen = longer v.seen w.seen; others = v.others ++ records_of w }
