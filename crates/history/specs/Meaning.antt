-- What a store means, and the outcome of each of its operations.
use Rattle.std.specs.Prelude.{◌≡◌, ℕ, ◌+◌, ◌^◌, ◌<◌, ◌≤◌, Bool, cond, not, ◌&&◌, ◌||◌, List, [], length, Some, None, Ok, Err, Option, Result, ◌==◌, nat_le, nat_lt, slice_index_or, slice_set}
use Rattle.history.specs.declared.item.Item.{Item}
use Rattle.history.specs.declared.item.Cause.{Cause}
use Rattle.history.specs.declared.item.Cause.TheVariants.{NoObject, OutOfRange, NoItem, Overlap, IsVersion, NoRoom}
use Rattle.history.specs.declared.item.Fault.{Fault}
use Rattle.history.specs.Chain.{some_item, has_start, covers, starts_within, is_version, find_in, extend_in, seal_in, drop_in, put_in, fresh_item, Lawful}

-- An operation, with what it is given beside the object: a pseudo-time, a start, a mark, a number.
pub data Op : Type 0 where
  Find : ℕ → Op
  At : Op
  Extend : ℕ → ℕ → Op
  Put : ℕ → ℕ → ℕ → Op
  Seal : ℕ → Op
  Drop : ℕ → Op

-- A store means a chain of items and a room for each object.
-- `origin` is the level that a fault of a cause on an object carries.
-- `image` is the caller's bytes under the store, none where it has memory of its own,
-- and `writes` what an accepted operation on an object makes of such bytes.
pub record Meaning : Type 0 where
  pub chains : List (List Item)
  pub room : ℕ → ℕ
  pub origin : Cause → ℕ → ℕ
  pub image : List ℕ
  pub writes : List ℕ → ℕ → Op → List ℕ

abbrev pub chain_of : Meaning → ℕ → List Item
chain_of m o = slice_index_or m.chains o []

abbrev pub objects_of : Meaning → ℕ
objects_of m = length m.chains

pub record Sound (m : Meaning) : Type 0 where
  pub few : objects_of m ≤ 65535
  pub lawful : (o : ℕ) → o < objects_of m → Lawful (chain_of m o)
  pub bounded : (o : ℕ) → o < objects_of m → length (chain_of m o) + m.room o ≤ 65535

-- the number of a cause
abbrev pub cause_number : Cause → ℕ
cause_number NoObject = 1
cause_number OutOfRange = 2
cause_number NoItem = 3
cause_number Overlap = 4
cause_number IsVersion = 5
cause_number NoRoom = 6

-- the pseudo-time that an operation is given
abbrev pub given : Op → ℕ
given (Find p) = p
given At = 0
given (Extend s p) = p
given (Put p mark n) = p
given (Seal s) = s
given (Drop s) = s

abbrev pub too_large : ℕ → Bool
too_large p = nat_le (2 ^ 63) p

abbrev pub no_start : ℕ → List Item → Bool
no_start s xs = not (some_item (has_start s) xs)

abbrev pub version_at : ℕ → List Item → Bool
version_at s xs = some_item (λ x. has_start s x && is_version x) xs

abbrev pub either : Bool → Cause → Option Cause → Option Cause
either b c other = cond b (Some c) other

-- the first cause that turns an operation down, on a chain and a room
abbrev pub cause_in : List Item → ℕ → Op → Option Cause
cause_in xs room (Find p) = either (too_large p) OutOfRange None
cause_in xs room At = None
cause_in xs room (Extend s p) =
    either (too_large s || too_large p) OutOfRange (either (no_start s xs) NoItem (either (some_item (starts_within s p) xs) Overlap None))
cause_in xs room (Put p mark n) =
    either (too_large p || nat_lt 64 mark) OutOfRange (either (some_item (covers p) xs) Overlap (either (room == 0) NoRoom None))
cause_in xs room (Seal s) = either (too_large s) OutOfRange (either (no_start s xs) NoItem None)
cause_in xs room (Drop s) =
    either (too_large s) OutOfRange (either (no_start s xs) NoItem (either (version_at s xs) IsVersion None))

abbrev pub cause_of : Meaning → ℕ → Op → Option Cause
cause_of m o op = either (nat_le (objects_of m) o) NoObject (cause_in (chain_of m o) (m.room o) op)

abbrev pub fault_of : Meaning → ℕ → Op → Cause → Fault
fault_of m o op c = record { cause = c; object = o; time = given op; level = m.origin c o }

-- the fault of a store that lies on no other
abbrev pub bottom_fault : Cause → ℕ → ℕ → Fault
bottom_fault c o p = record { cause = c; object = o; time = p; level = 0 }

-- a chain after an accepted operation
abbrev pub applied : List Item → Op → List Item
applied xs (Find p) = xs
applied xs At = xs
applied xs (Extend s p) = extend_in xs s p
applied xs (Put p mark n) = put_in xs (fresh_item p mark n)
applied xs (Seal s) = seal_in xs s
applied xs (Drop s) = drop_in xs s

-- the caller's bytes after an accepted operation
abbrev pub written : Meaning → ℕ → Op → List ℕ
written m o (Find p) = m.image
written m o At = m.image
written m o (Extend s p) = m.writes m.image o (Extend s p)
written m o (Put p mark n) = m.writes m.image o (Put p mark n)
written m o (Seal s) = m.writes m.image o (Seal s)
written m o (Drop s) = m.writes m.image o (Drop s)

-- how rooms move: put lowers its object's by one, another's by at most one, and raises none;
-- drop leaves its object one at least and lowers none; nothing else moves one
abbrev pub Rooms : Op → ℕ → (ℕ → ℕ) → (ℕ → ℕ) → Type 0
Rooms (Find p) o r t = (k : ℕ) → t k ≡ r k
Rooms At o r t = (k : ℕ) → t k ≡ r k
Rooms (Extend s p) o r t = (k : ℕ) → t k ≡ r k
Rooms (Put p mark n) o r t = (t o + 1 ≡ r o) × ((k : ℕ) → (t k ≤ r k) × (r k ≤ t k + 1))
Rooms (Seal s) o r t = (k : ℕ) → t k ≡ r k
Rooms (Drop s) o r t = (1 ≤ t o) × ((k : ℕ) → r k ≤ t k)

-- what an operation answers and leaves, by the cause that turned it down, if any
abbrev pub answer_by : {A : Type 0} → Meaning → ℕ → Op → A → Option Cause → Result A Fault
answer_by m o op a None = Ok a
answer_by m o op a (Some c) = Err (fault_of m o op c)

abbrev pub chains_by : Meaning → ℕ → Op → Option Cause → List (List Item)
chains_by m o op None = slice_set m.chains o (applied (chain_of m o) op)
chains_by m o op (Some c) = m.chains

abbrev pub image_by : Meaning → ℕ → Op → Option Cause → List ℕ
image_by m o op None = written m o op
image_by m o op (Some c) = m.image

abbrev pub RoomsBy : Meaning → ℕ → Op → (ℕ → ℕ) → Option Cause → Type 0
RoomsBy m o op t None = Rooms op o m.room t
RoomsBy m o op t (Some c) = (k : ℕ) → t k ≡ m.room k

abbrev pub answered : {A : Type 0} → Meaning → ℕ → Op → A → Result A Fault
answered m o op a = answer_by m o op a (cause_of m o op)

-- find answers an item, and never finds nothing
abbrev pub FindAnswer : Meaning → ℕ → ℕ → Result Item Fault → Type 0
FindAnswer m o p (Ok x) = (cause_of m o (Find p) ≡ None) × (find_in (chain_of m o) p ≡ Some x)
FindAnswer m o p (Err f) = (c : Cause) × (cause_of m o (Find p) ≡ Some c) × (f ≡ fault_of m o (Find p) c)

-- what an operation leaves of a meaning m: a meaning n
pub record Outcome (m : Meaning) (o : ℕ) (op : Op) (n : Meaning) : Type 0 where
  pub chains : n.chains ≡ chains_by m o op (cause_of m o op)
  pub rooms : RoomsBy m o op n.room (cause_of m o op)
  pub image : n.image ≡ image_by m o op (cause_of m o op)
  pub writes : n.writes ≡ m.writes
