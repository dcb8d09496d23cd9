-- Edges of the rules: a row for each, and what it says of the definitions.
use Rattle.std.specs.Prelude.{◌≡◌, ℕ, List, [], ◌∷◌, replicate, ℤ, negsuc, Some, None, Option}
use Rattle.history.specs.declared.item.Item.{Item}
use Rattle.history.specs.declared.item.Cause.{Cause}
use Rattle.history.specs.declared.item.Cause.TheVariants.{Overlap}
use Rattle.history.specs.Chain.{find_in}
use Rattle.history.specs.Meaning.{cause_in}
use Rattle.history.specs.Meaning.Op.{Extend, Put}
use Rattle.ledger.specs.declared.record.Standing.{Standing}
use Rattle.ledger.specs.declared.record.Standing.TheVariants.{Open, Aborted}
use Rattle.ledger.specs.declared.refusal.Refusal.{Refusal}
use Rattle.ledger.specs.Time.{stamp, pseudo}
use Rattle.ledger.specs.Records.{opened}
use Rattle.ledger.specs.Ledger.{state_of}
use Rattle.ledger.specs.Refusals.{refusal_number}
use Rattle.ledger.specs.Checks.{begin_check, tick_check}
use Rattle.kinds.specs.Forms.{seats_form, seats_parse, place_parse}
use Rattle.kinds.specs.declared.place.Place.{Place}
use Rattle.kinds.specs.declared.place.Place.TheVariants.{Vacant, Held}

pub data Edge : Type 0 where
  -- the form of a number of free seats
  SeatsForm : ℤ → ℕ → Edge
  -- a number that is no form of seats
  NoSeats : ℕ → Edge
  -- the teacher and the classroom that a number reads as
  PlaceOf : ℕ → ℕ → ℕ → Edge
  -- a number that is no form of a place
  NoPlace : ℕ → Edge
  -- the span of the item found at a pseudo-time
  FindsSpan : ℕ → ℕ → ℕ → Edge
  -- what turns a put at a pseudo-time down, if anything
  PutAt : ℕ → Option Cause → Edge
  -- what turns an extend of a start to a pseudo-time down, if anything
  ExtendTo : ℕ → ℕ → Option Cause → Edge
  -- the timestamp that a site's clock gives
  StampAt : ℕ → ℕ → ℕ → Edge
  -- the pseudo-time of a creation and a selection
  TimeOf : ℕ → ℕ → ℕ → Edge
  -- how a record begun at clock 1 stands at a clock, by its lifetime
  StandsAt : ℕ → ℕ → Standing → Edge
  -- the refusal of a tick from a clock to a clock, if any
  TickFrom : ℕ → ℕ → Option ℕ → Edge
  -- the refusal of a begin with a lifetime, if any
  BeginFor : ℕ → Option ℕ → Edge

abbrev version : ℕ → ℕ → Item
version start last = record { start = start; «end» = last; mark = 0; number = 0 }

-- the spans 0–0, 10–20 and 30–30
abbrev pub chain : List Item
chain = version 0 0 ∷ (version 10 20 ∷ (version 30 30 ∷ []))

abbrev pub numbers_of : Option Place → Option (ℕ × ℕ)
numbers_of None = None
numbers_of (Some Vacant) = None
numbers_of (Some (Held teacher classroom)) = Some (teacher.number, classroom.number)

abbrev pub span_of : Option Item → Option (ℕ × ℕ)
span_of None = None
span_of (Some x) = Some (x.start, x.«end»)

abbrev pub number_in : Option Refusal → Option ℕ
number_in None = None
number_in (Some why) = Some (refusal_number why)

abbrev pub Holds : Edge → Type 0
Holds (SeatsForm value form) = seats_form value ≡ form
Holds (NoSeats n) = seats_parse n ≡ None
Holds (PlaceOf n teacher classroom) = numbers_of (place_parse n) ≡ Some (teacher, classroom)
Holds (NoPlace n) = place_parse n ≡ None
Holds (FindsSpan p start last) = span_of (find_in chain p) ≡ Some (start, last)
Holds (PutAt p cause) = cause_in chain 1 (Put p 0 0) ≡ cause
Holds (ExtendTo start p cause) = cause_in chain 1 (Extend start p) ≡ cause
Holds (StampAt site clock timestamp) = stamp clock site ≡ timestamp
Holds (TimeOf creation selection time) = pseudo creation selection ≡ time
Holds (StandsAt lifetime clock standing) = (state_of (replicate 16 clock) (opened 1 0 lifetime)).0 ≡ Some standing
Holds (TickFrom clock to refusal) = number_in (tick_check (replicate 16 clock) 0 to) ≡ refusal
Holds (BeginFor lifetime refusal) = number_in (begin_check (replicate 64 None) (replicate 16 1) 1 0 lifetime) ≡ refusal

abbrev pub edges : List Edge
edges =
    SeatsForm (negsuc 0) 65535
    ∷ (NoSeats 65536
    ∷ (PlaceOf 12007 12 7
    ∷ (NoPlace 12000
    ∷ (NoPlace 999
    ∷ (NoPlace 10000000
    ∷ (FindsSpan 25 10 20
    ∷ (PutAt 20 (Some Overlap)
    ∷ (PutAt 21 None
    ∷ (ExtendTo 10 29 None
    ∷ (ExtendTo 10 30 (Some Overlap)
    ∷ (StampAt 15 134217727 2147483647
    ∷ (TimeOf 16 32 68719476768
    ∷ (TimeOf 81 0 347892350976
    ∷ (StandsAt 2 2 Open
    ∷ (StandsAt 2 3 Aborted
    ∷ (TickFrom 5 5 (Some 9)
    ∷ (TickFrom 5 6 None
    ∷ (BeginFor 1 (Some 3)
    ∷ (BeginFor 2 None
    ∷ [])))))))))))))))))))

abbrev pub Each : List Edge → Type 0
Each [] = Unit {0}
Each (e ∷ es) = Holds e × Each es

abbrev pub EdgesHold : Type 0
EdgesHold = Each edges
